-- The bytes by which an answer says a value.
use Rattle.std.specs.Prelude.{◌≡◌, ℕ, List, Ok}
use Rattle.ox_bytes.specs.Form.{Form}
use Rattle.ox_bytes.specs.Texts.{value_in}

-- they are the text of the value, and who reads them finds that value
pub record Says {A : Type 0} (form : Form A) (bytes : List ℕ) (x : A) : Type 0 where
  pub text : bytes ≡ form.text x
  pub again : value_in form bytes ≡ Ok x
