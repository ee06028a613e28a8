-- What is read of all the bytes.
use Rattle.std.proofs.Common.{◌≡◌, ℕ, true, List, Result, Ok, Err}
use Rattle.std.specs.Prelude.{IfOk}
use Rattle.ox_bytes.specs.declared.fault.FieldFault.{FieldFault}
use Rattle.ox_bytes.specs.Reading.{Tells}
use Rattle.ox_bytes.specs.Form.{Form, IsBytes, IsExact}
use Rattle.ox_bytes.specs.Fields.{whole_of}
use Rattle.ox_bytes.specs.FieldLaws.{whole_spelled}

pub is_found : {A : Type 0} (form : Form A) → IsExact form → (bytes : List ℕ) (r : Result A FieldFault) → IsBytes bytes → Tells r (whole_of form bytes) → IfOk r (λ x. (form.is_lawful x ≡ true) × (bytes ≡ form.text x))
is_found form exact bytes (Ok x) fits told = whole_spelled form exact bytes x fits told
is_found form exact bytes (Err e) fits told = tt
