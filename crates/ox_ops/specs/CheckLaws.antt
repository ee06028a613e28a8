-- What a check without a fault shows of its parts.
use Rattle.std.proofs.Common.{◌≡◌, Bool, true, false, Option, Some, None, refl}
use Rattle.ox_ops.specs.Check.{◌or_else◌, fault_if}

pub neither_faulty : {A : Type 0} (a b : Option A) → (a or_else b) ≡ None → (a ≡ None) × (b ≡ None)
neither_faulty None b h = (refl, h)
neither_faulty (Some x) b h = cc h

pub not_faulty : {A : Type 0} (test : Bool) (x : A) → fault_if test x ≡ None → test ≡ false
not_faulty true x h = cc h
not_faulty false x h = refl
