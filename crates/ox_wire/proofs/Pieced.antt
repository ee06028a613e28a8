-- A piece of a snapshot is lawful where its fields keep the rules that join them.
use Rattle.std.proofs.Common.{refl, ℕ, ◌+◌, ◌<◌, ◌≤◌, length, arith}
use Rattle.std.specs.Prelude.{◌&&◌, ◌==◌, nat_le, IsTrue}
use Rattle.std.proofs.lemmas.Bool.{and_parts, and_from, leb-true, le-leb, lt-ltb, eqb-true, eq-eqb}
use Rattle.ox_types.specs.declared.snapshot.Chunk.{Chunk}
use Rattle.ox_types.specs.Limits.{term_limit, count_limit, saved_limit}
use Rattle.ox_bytes.specs.Fields.{number32, number_to, octets}
use Rattle.ox_bytes.specs.LogForms.{term, count, pieces_of, piece_length, head_to, piece_in, chunk}
use Rattle.ox_wire.specs.Rules.{IsPiece}
use Rattle.ox_wire.proofs.Ruled.{bounded, within}

pub piece_is : (c : Chunk) → IsTrue (chunk.is_lawful c) → IsPiece c
unfolding chunk head_to piece_in
piece_is c h =
    let one = and_parts (term.is_lawful c.term) ((head_to c.term).is_lawful c.head && ((number_to saved_limit).is_lawful c.total && (piece_in c.total).is_lawful (c.index, c.bytes))) h in
    let two = and_parts ((head_to c.term).is_lawful c.head) ((number_to saved_limit).is_lawful c.total && (piece_in c.total).is_lawful (c.index, c.bytes)) one.1 in
    let three = and_parts ((number_to saved_limit).is_lawful c.total) ((piece_in c.total).is_lawful (c.index, c.bytes)) two.1 in
    let head = and_parts (term.is_lawful c.head.term && nat_le c.head.term c.term) (count.is_lawful c.head.count) two.0 in
    let piece = and_parts (number32.is_lawful c.index && nat_le (c.index + 1) (pieces_of c.total)) (octets.is_lawful c.bytes && (length c.bytes == piece_length c.total c.index)) three.1 in
    let index : c.index + 1 ≤ pieces_of c.total = leb-true (c.index + 1) (pieces_of c.total) (and_parts (number32.is_lawful c.index) (nat_le (c.index + 1) (pieces_of c.total)) piece.0).1 in
    record {
      small_term = bounded term_limit c.term one.0;
      head_term = leb-true c.head.term c.term (and_parts (term.is_lawful c.head.term) (nat_le c.head.term c.term) head.0).1;
      head_count = bounded count_limit c.head.count head.1;
      small_total = bounded saved_limit c.total three.0;
      one_of = omega arith;
      whole = eqb-true (length c.bytes) (piece_length c.total c.index) (and_parts (octets.is_lawful c.bytes) (length c.bytes == piece_length c.total c.index) piece.1).1;
    }

few_pieces : (total : ℕ) → total ≤ saved_limit → pieces_of total ≤ 384
few_pieces total h = omega arith

pub piece_from : (c : Chunk) → IsPiece c → IsTrue (chunk.is_lawful c)
unfolding chunk head_to piece_in
piece_from c p =
    let total = p.small_total in
    let few = few_pieces c.total total in
    let index : c.index < 4294967296 = omega (arith, p.one_of) in
    let next : c.index + 1 ≤ pieces_of c.total = omega (arith, p.one_of) in
    let size : length c.bytes < 4294967296 = omega (arith, p.whole) in
    let head : c.head.term ≤ term_limit = omega (arith, p.head_term, p.small_term) in
    and_from _ _ (within term_limit c.term refl p.small_term)
    (and_from _ _ (and_from _ _ (and_from _ _ (within term_limit c.head.term refl head) (le-leb c.head.term c.term p.head_term)) (within count_limit c.head.count refl p.head_count))
    (and_from _ _ (within saved_limit c.total refl total)
    (and_from _ _ (and_from _ _ (lt-ltb c.index 4294967296 index) (le-leb (c.index + 1) (pieces_of c.total) next))
    (and_from _ _ (lt-ltb (length c.bytes) 4294967296 size) (eq-eqb (length c.bytes) (piece_length c.total c.index) p.whole)))))
