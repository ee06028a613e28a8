-- When one list begins another.
use Rattle.std.specs.Prelude.{◌≡◌, List, ◌++◌}

-- the list `whole` begins with the list `front`
pub record Begins {A : Type 0} (front whole : List A) : Type 0 where
  pub rest : List A
  pub is : front ++ rest ≡ whole
