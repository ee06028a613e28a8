use Rattle.std.proofs.lemmas.Bool.{and_parts}
use Rattle.ox_bytes.specs.Fields.{number64, key, value, option, list}
use Rattle.ox_bytes.specs.Form.{pair}
use Rattle.ox_ops.specs.Forms.{expect, index_entry, put}
use Rattle.ox_ops.proofs.fields.write.PutField.put.Goals as goal

pub put-requires-3 : goal.put-requires-3
unfolding put
put-requires-3 c =
    let p = c.args.self.now in
    let one = and_parts (key.is_lawful p.key) ((pair value (pair expect (pair (option number64) (pair (list number64) (list index_entry))))).is_lawful (p.value, (p.expect, (p.session, (p.deltas, p.indexes))))) c.requires in
    let two = and_parts (value.is_lawful p.value) ((pair expect (pair (option number64) (pair (list number64) (list index_entry)))).is_lawful (p.expect, (p.session, (p.deltas, p.indexes)))) one.1 in
    let three = and_parts (expect.is_lawful p.expect) ((pair (option number64) (pair (list number64) (list index_entry))).is_lawful (p.session, (p.deltas, p.indexes))) two.1 in
    let four = and_parts ((option number64).is_lawful p.session) ((pair (list number64) (list index_entry)).is_lawful (p.deltas, p.indexes)) three.1 in
    (and_parts ((list number64).is_lawful p.deltas) ((list index_entry).is_lawful p.indexes) four.1).0

pub put-requires-4 : goal.put-requires-4
unfolding put
put-requires-4 c =
    let p = c.args.self.now in
    let one = and_parts (key.is_lawful p.key) ((pair value (pair expect (pair (option number64) (pair (list number64) (list index_entry))))).is_lawful (p.value, (p.expect, (p.session, (p.deltas, p.indexes))))) c.requires in
    let two = and_parts (value.is_lawful p.value) ((pair expect (pair (option number64) (pair (list number64) (list index_entry)))).is_lawful (p.expect, (p.session, (p.deltas, p.indexes)))) one.1 in
    let three = and_parts (expect.is_lawful p.expect) ((pair (option number64) (pair (list number64) (list index_entry))).is_lawful (p.session, (p.deltas, p.indexes))) two.1 in
    let four = and_parts ((option number64).is_lawful p.session) ((pair (list number64) (list index_entry)).is_lawful (p.deltas, p.indexes)) three.1 in
    (and_parts ((list number64).is_lawful p.deltas) ((list index_entry).is_lawful p.indexes) four.1).1
