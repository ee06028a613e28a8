-- What a test of a comparison shows, and what a comparison by two parts shows of each.
use Rattle.std.proofs.Common.{◌≡◌, true, refl}
use Rattle.std.specs.Ordering.{is_lt, is_eq, is_gt, ordering_then}
use Rattle.std.specs.declared.cmp.Ordering.{Ordering}
use Rattle.std.specs.declared.cmp.Ordering.TheVariants.{Less, Equal, Greater}

pub less_of : (r : Ordering) → is_lt r ≡ true → r ≡ Less
less_of Less e = refl
less_of Equal e = cc e
less_of Greater e = cc e

pub equal_of : (r : Ordering) → is_eq r ≡ true → r ≡ Equal
equal_of Less e = cc e
equal_of Equal e = refl
equal_of Greater e = cc e

pub greater_of : (r : Ordering) → is_gt r ≡ true → r ≡ Greater
greater_of Less e = cc e
greater_of Equal e = cc e
greater_of Greater e = refl

pub then_first : (r s : Ordering) → ordering_then r s ≡ Equal → r ≡ Equal
then_first Less s e = cc e
then_first Equal s e = refl
then_first Greater s e = cc e

pub then_second : (r s : Ordering) → ordering_then r s ≡ Equal → s ≡ Equal
then_second Less s e = cc e
then_second Equal s e = e
then_second Greater s e = cc e
