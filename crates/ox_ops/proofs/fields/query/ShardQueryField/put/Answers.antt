use Rattle.std.proofs.Common.{◌≡◌, true, subst, append_assoc}
use Rattle.std.proofs.lemmas.Bool.{and_parts}
use Rattle.ox_bytes.specs.Fields.{is_option}
use Rattle.ox_order.specs.Forms.{key_range}
use Rattle.ox_ops.specs.Forms.{index_name, query}
use Rattle.ox_ops.proofs.fields.query.ShardQueryField.put.Goals as goal

pub put-requires-in-Scan : goal.put-requires-in-Scan
unfolding query
put-requires-in-Scan c = (and_parts (key_range.is_lawful c.in-Scan.range) (is_option index_name c.in-Scan.by) (subst (λ x. query.is_lawful x ≡ true) c.in-Scan.is c.requires)).0

pub put_by-requires-in-Scan : goal.put_by-requires-in-Scan
unfolding query
put_by-requires-in-Scan c = (and_parts (key_range.is_lawful c.in-Scan.range) (is_option index_name c.in-Scan.by) (subst (λ x. query.is_lawful x ≡ true) c.in-Scan.is c.requires)).1

pub returns-in_ok-put_by-in-Scan : goal.returns-in_ok-put_by-in-Scan
unfolding query
returns-in_ok-put_by-in-Scan c = rw (c.in-Scan.is, c.in_ok-put_by-in-Scan.ensures, c.in_ok-put-in-Scan.ensures, c.in_ok-put_u8-in-Scan.ensures.ok) (simp append_assoc)
