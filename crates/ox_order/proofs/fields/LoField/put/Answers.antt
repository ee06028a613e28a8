use Rattle.std.proofs.Common.{append_assoc}
use Rattle.ox_order.specs.Forms.{lo}
use Rattle.ox_order.proofs.fields.LoField.put.Goals as goal

pub returns-in_ok-put_key-in-Past : goal.returns-in_ok-put_key-in-Past
unfolding lo
returns-in_ok-put_key-in-Past c = rw (c.in-Past.is, c.in_ok-put_key-in-Past.ensures.ok, c.in_ok-put_u8-in-Past.ensures.ok) (simp append_assoc)
