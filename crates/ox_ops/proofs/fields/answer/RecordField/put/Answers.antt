use Rattle.std.proofs.lemmas.Bool.{and_parts}
use Rattle.ox_bytes.specs.Fields.{number64, key, value, option, list}
use Rattle.ox_bytes.specs.Form.{pair}
use Rattle.ox_ops.specs.Forms.{meta, index_entry, record_form}
use Rattle.ox_ops.proofs.fields.answer.RecordField.put.Goals as goal

pub put-requires-3 : goal.put-requires-3
unfolding record_form
put-requires-3 c =
    let r = c.args.self.now in
    let one = and_parts (key.is_lawful r.key) ((pair value (pair meta (pair (option number64) (list index_entry)))).is_lawful (r.value, (r.meta, (r.session, r.indexes)))) c.requires in
    let two = and_parts (value.is_lawful r.value) ((pair meta (pair (option number64) (list index_entry))).is_lawful (r.meta, (r.session, r.indexes))) one.1 in
    let three = and_parts (meta.is_lawful r.meta) ((pair (option number64) (list index_entry)).is_lawful (r.session, r.indexes)) two.1 in
    (and_parts ((option number64).is_lawful r.session) ((list index_entry).is_lawful r.indexes) three.1).1
