-- A lawful write without a fault has 1,000 puts at most, each of which the records take.
use Rattle.std.proofs.Common.{◌≡◌, refl, ℕ, ◌+◌, ◌≤◌, ◌^◌, ◌==◌, ◌&&◌, true, false, List, [], ◌∷◌, length, ltb, Option, Some, None, is_none, arith}
use Rattle.std.specs.List.{list_all}
use Rattle.std.specs.Option.{option_map}
use Rattle.std.proofs.lemmas.Bool.{and_parts, and_from, or_parts, ltb-false}
use Rattle.ox_bytes.specs.Fields.{list}
use Rattle.ox_types.specs.declared.bad.Rule.TheVariants as rule
use Rattle.ox_order.specs.Forms.{key_range}
use Rattle.ox_ops.specs.declared.write.Put.{Put}
use Rattle.ox_ops.specs.declared.write.WriteBatch.{WriteBatch}
use Rattle.ox_ops.specs.declared.write.ShardCommand.{ShardCommand}
use Rattle.ox_ops.specs.declared.write.ShardCommand.TheVariants.{Write}
use Rattle.ox_ops.specs.Forms.{command, write_batch, put, delete}
use Rattle.ox_ops.specs.Check.{◌or_else◌, fault_if, put_fault, put_faults, bad_put, is_many, operations_in, has_repeated, batch_fault, command_fault}
use Rattle.ox_ops.specs.CheckLaws.{neither_faulty, not_faulty}
use Rattle.ox_shard.specs.Fits.{is_ready}

unmapped : {A B : Type 0} (f : A → B) (o : Option A) → option_map f o ≡ None → is_none o ≡ true
unmapped f None e = refl
unmapped f (Some x) e = cc

puts-ready : (index : ℕ) (ps : List Put) → list_all put.is_lawful ps ≡ true → put_faults index ps ≡ None → list_all is_ready ps ≡ true
puts-ready index [] h e = refl
puts-ready index (p ∷ ps) h e =
    let lawful = and_parts (put.is_lawful p) (list_all put.is_lawful ps) h in
    let free = neither_faulty (option_map (bad_put index) (put_fault p)) (put_faults (index + 1) ps) e in
    let faultless : is_none (put_fault p) ≡ true = unmapped (bad_put index) (put_fault p) free.0 in
    and_from (is_ready p) (list_all is_ready ps) (and_from (put.is_lawful p) (is_none (put_fault p)) lawful.0 faultless) (puts-ready (index + 1) ps lawful.1 free.1)

lawful_puts : (b : WriteBatch) → command.is_lawful (Write b) ≡ true → list_all put.is_lawful b.puts ≡ true
unfolding command write_batch
lawful_puts b h =
    (and_parts (ltb (length b.puts) (2 ^ 32)) (list_all put.is_lawful b.puts)
    (and_parts ((list put).is_lawful b.puts) ((list delete).is_lawful b.deletes && (list key_range).is_lawful b.ranges) h).0).1

free_puts : (b : WriteBatch) (bytes : ℕ) → batch_fault b bytes ≡ None → put_faults 0 b.puts ≡ None
free_puts b bytes e = (neither_faulty _ (put_faults 0 b.puts) e).1

few : (b : WriteBatch) (bytes : ℕ) → batch_fault b bytes ≡ None → length b.puts ≤ 1000
few b bytes e =
    let f = neither_faulty _ (put_faults 0 b.puts) e in
    let g = neither_faulty _ _ f.0 in
    let many = (or_parts (operations_in b == 0) (ltb 1000 (operations_in b)) (not_faulty (is_many (operations_in b)) _ g.0)).1 in
    let all : length b.puts + length b.deletes + length b.ranges ≤ 1000 = ltb-false 1000 (operations_in b) many in
    omega arith

module _ (c : ShardCommand) (b : WriteBatch) (is : c ≡ Write b) where
  pub ready : command.is_lawful c ≡ true → command_fault c ≡ None → list_all is_ready b.puts ≡ true
  unfolding command_fault
  ready h e = puts-ready 0 b.puts (lawful_puts b (rw is at h)) (free_puts b _ (rw is at e))

  pub few_puts : command_fault c ≡ None → length b.puts ≤ 1000
  unfolding command_fault
  few_puts e = few b _ (rw is at e)

-- ---- one put

-- a put that the records take has no two equal index entries
pub ready-distinct : (p : Put) → is_ready p ≡ true → has_repeated p.indexes ≡ false
ready-distinct p h =
    let free : put_fault p ≡ None = none-is (put_fault p) (and_parts (put.is_lawful p) (is_none (put_fault p)) h).1 in
    not_faulty (has_repeated p.indexes) rule.Repeated (neither_faulty _ (fault_if (has_repeated p.indexes) rule.Repeated) free).1
  where
    none-is : {A : Type 0} (o : Option A) → is_none o ≡ true → o ≡ None
    none-is None e = refl
    none-is (Some x) e = cc e
