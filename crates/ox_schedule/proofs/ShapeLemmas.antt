-- A line of the right shape breaks only rules of single words: so `bytes` and `word` say exactly what is wrong.
use Rattle.std.proofs.Common.{◌≢◌, not, eqb, ◌≡◌, ◌∙◌, ◌<◌, ◌≤◌, ℕ, suc, Bool, true, false, ◌&&◌, ◌||◌, cond, List, [], ◌∷◌, length, codes, decimal, Result, Ok, Err, Option, Some, None, ◌⊎◌, inl, inr, refl, sym, ap, subst, arith}
use Rattle.std.specs.Str.{bytes_eq}
use Rattle.std.specs.List.{list_all, slice_split}
use Rattle.std.proofs.lemmas.Grind.{common_steps}
use Rattle.std.proofs.lemmas.Bool.{cases_Bool, leb-true, eqb-true, and_parts}
use Rattle.ox_types.specs.declared.ended.LineRule.{LineRule}
use Rattle.ox_types.specs.declared.ended.LineRule.TheVariants as rule
use Rattle.ox_ops.specs.declared.write.WriteBatch.{WriteBatch}
use Rattle.ox_schedule.specs.declared.schedule.Places.{Places}
use Rattle.ox_ops.specs.declared.query.Compare.TheVariants.{Equal, Floor, Ceiling, Lower, Higher}
use Rattle.ox_order.specs.declared.range.Lo.TheVariants.{Start}
use Rattle.ox_order.specs.declared.range.Hi.TheVariants.{End, Before}
use Rattle.ox_ops.specs.declared.write.Expect.TheVariants.{Any, Absent, Exactly}
use Rattle.percent_encoding.specs.Percent.{percent_decode}
use Rattle.std.specs.Str.Parse.{digits_value}
use Rattle.ox_text.specs.Words.{spelt, value_word}
use Rattle.ox_schedule.specs.Spelling.{is_key, is_value, is_name, is_number, is_empty, is_node, is_shard, is_call, is_term, is_word, words_of}
use Rattle.ox_schedule.proofs.TurnLemmas.{node_is, shard_is}
use Rattle.ox_schedule.proofs.EventLemmas.{call_is}
use Rattle.ox_wire.specs.declared.event.Image.TheVariants as image
use Rattle.ox_wire.specs.declared.event.Turn.TheVariants.{Deliver}
use Rattle.ox_schedule.specs.Events.{Turn}
use Rattle.ox_schedule.specs.Outcome.{◌>>=◌, said}
use Rattle.ox_schedule.specs.Shape.{ops_in, is_compare, write_fits, op_fits, get_fits, single_fits, request_fits, client_fits, turn_fits, is_image, cut_fits, event_fits}
use Rattle.ox_schedule.specs.Reading.{after, word_at, number_of, key_of, key_at, value_of, value_guess, value_at, name_of, each_of, session_of, deltas_of, at_colon, entry_in, entry_of, entry_given, entry_option, by_of, option_given, option_at, expect_of, expect_at, session_at, deltas_at, by_at, index_of, options_end, number_at, single_of, notices_of, lo_given, lo_of, hi_of, compare_of, range_at, range_of, ends_of, put_of, delete_of, get_of, with_put, with_delete, op_onto, ops_onto, batch_of, alone_of, request_of, node_at, shard_at, client_of, tick_of, turn_of, call_at, image_of, cut_of, node_of, term_of, seat_of, event_of, line_at, empty_batch}
use Rattle.ox_schedule.proofs.Words.{same_bytes}
use Rattle.ox_schedule.proofs.Steps.{word_is}
use Rattle.ox_schedule.proofs.Fields.{key_at_is, number_at_is}

abbrev kept : LineRule → Bool
kept rule.Word = false
kept rule.Bytes = false
kept rule.First = false
kept rule.Number = true
kept rule.Name = true
kept rule.Key = true
kept rule.Value = true
kept rule.Option = true
kept rule.Order = true

abbrev fine : {A : Type 0} → Result A LineRule → Bool
fine (Ok x) = true
fine (Err r) = kept r

record Fine {A : Type 0} (r : Result A LineRule) : Type 0 where
  pub is : fine r ≡ true

bind_fine : {A B : Type 0} (r : Result A LineRule) (f : A → Result B LineRule) → Fine r → ((x : A) → r ≡ Ok x → Fine (f x)) → Fine (r >>= f)
bind_fine (Ok x) f h k = k x refl
bind_fine (Err e) f h k = record { is = h.is }

test_fine : {A : Type 0} (b : Bool) (x y : Result A LineRule) → Fine x → Fine y → Fine (cond b x y)
test_fine true x y h k = h
test_fine false x y h k = k

said_fine : {A : Type 0} (spell : A → List ℕ) (lawful : A → Bool) (r : LineRule) (w : List ℕ) (a : A) → kept r ≡ true → Fine (said spell lawful r w a)
said_fine spell lawful r w a h = test_fine (bytes_eq w (spell a) && lawful a) (Ok a) (Err r) (record { is = refl }) (record { is = h })

number_fine : (w : List ℕ) → Fine (number_of w)
unfolding number_of
number_fine w = said_fine decimal is_number rule.Number w (digits_value 10 w) refl

key_fine : (w : List ℕ) → Fine (key_of w)
unfolding key_of
key_fine w = said_fine spelt is_key rule.Key w (percent_decode w) refl

value_fine : (w : List ℕ) → Fine (value_of w)
unfolding value_of
value_fine w = said_fine value_word is_value rule.Value w (value_guess w) refl

word_fine : (ws : List (List ℕ)) → 0 < length ws → Fine (word_at ws)
word_fine [] h = absurd (omega arith)
word_fine (w ∷ ws) h = record { is = refl }

word_less : (ws : List (List ℕ)) (x : List ℕ × List (List ℕ)) → word_at ws ≡ Ok x → length ws ≡ suc (length x.1)
word_less ws x e = ap length (word_is ws x e)

key_at_fine : (ws : List (List ℕ)) → 0 < length ws → Fine (key_at ws)
unfolding key_at
key_at_fine ws h = bind_fine (word_at ws) _ (word_fine ws h) (λ w e. bind_fine (key_of w.0) _ (key_fine w.0) (λ k f. (record { is = refl })))

value_at_fine : (ws : List (List ℕ)) → 0 < length ws → Fine (value_at ws)
unfolding value_at
value_at_fine ws h = bind_fine (word_at ws) _ (word_fine ws h) (λ w e. bind_fine (value_of w.0) _ (value_fine w.0) (λ k f. (record { is = refl })))

expect_of_fine : (w : List ℕ) → Fine (expect_of w)
unfolding expect_of
expect_of_fine w = test_fine (bytes_eq w (codes "absent")) (Ok Absent) (number_of w >>= λ n. Ok (Exactly n)) (record { is = refl }) (bind_fine (number_of w) _ (number_fine w) (λ n e. (record { is = refl })))

session_of_fine : (w : List ℕ) → Fine (session_of w)
unfolding session_of
session_of_fine w = bind_fine (number_of w) _ (number_fine w) (λ n e. (record { is = refl }))

each_fine : {A : Type 0} (read : List ℕ → Result A LineRule) → ((w : List ℕ) → Fine (read w)) → (ws : List (List ℕ)) → Fine (each_of read ws)
each_fine read one [] = record { is = refl }
each_fine read one (w ∷ ws) = bind_fine (read w) _ (one w) (λ x e. bind_fine (each_of read ws) _ (each_fine read one ws) (λ xs f. (record { is = refl })))

deltas_of_fine : (w : List ℕ) → Fine (deltas_of w)
unfolding deltas_of
deltas_of_fine w = each_fine number_of number_fine (slice_split (λ b. eqb b 44) w)

name_fine : (w : List ℕ) → Fine (name_of w)
unfolding name_of
name_fine w = said_fine spelt is_name rule.Option w (percent_decode w) refl

entry_fine : (w : List ℕ) → Fine (entry_of w)
unfolding entry_of
entry_fine w = by_colon (at_colon w)
  where
    by_colon : (o : Option (List ℕ × List ℕ)) → Fine (entry_in o)
    by_colon None = record { is = refl }
    by_colon (Some x) = bind_fine (key_of x.1) _ (key_fine x.1) (λ k e. bind_fine (name_of x.0) _ (name_fine x.0) (λ n f. (record { is = refl })))

entry_option_fine : (w : List ℕ) → Fine (entry_option w)
unfolding entry_option
entry_option_fine w = by_text (after (codes "index=") w)
  where
    by_text : (o : Option (List ℕ)) → Fine (entry_given o)
    by_text None = record { is = refl }
    by_text (Some text) = entry_fine text

by_of_fine : (w : List ℕ) → Fine (by_of w)
unfolding by_of
by_of_fine w = bind_fine (name_of w) _ (name_fine w) (λ n e. (record { is = refl }))

option_fine : {A : Type 0} (name : List ℕ) (read : List ℕ → Result A LineRule) (none : A) → ((w : List ℕ) → Fine (read w)) → (ws : List (List ℕ)) → Fine (option_at name read none ws)
option_fine name read none one [] = record { is = refl }
option_fine {A} name read none one (w ∷ ws) = by_text (after name w)
  where
    by_text : (o : Option (List ℕ)) → Fine (option_given read none w ws o)
    by_text None = record { is = refl }
    by_text (Some text) = bind_fine (read text) _ (one text) (λ x e. (record { is = refl }))

expect_at_fine : (ws : List (List ℕ)) → Fine (expect_at ws)
unfolding expect_at
expect_at_fine ws = option_fine (codes "expect=") expect_of Any expect_of_fine ws

session_at_fine : (ws : List (List ℕ)) → Fine (session_at ws)
unfolding session_at
session_at_fine ws = option_fine (codes "session=") session_of None session_of_fine ws

deltas_at_fine : (ws : List (List ℕ)) → Fine (deltas_at ws)
unfolding deltas_at
deltas_at_fine ws = option_fine (codes "seq=") deltas_of [] deltas_of_fine ws

end_fine : (ws : List (List ℕ)) → Fine (options_end ws)
end_fine [] = record { is = refl }
end_fine (w ∷ ws) = record { is = refl }

number_at_fine : (ws : List (List ℕ)) → 0 < length ws → Fine (number_at ws)
unfolding number_at
number_at_fine ws h = bind_fine (word_at ws) _ (word_fine ws h) (λ w e. bind_fine (number_of w.0) _ (number_fine w.0) (λ n f. (record { is = refl })))

index_fine : (ws : List (List ℕ)) → Fine (index_of ws)
unfolding index_of by_at
index_fine ws = bind_fine (option_at (codes "by=") by_of None ws) _ (option_fine (codes "by=") by_of None by_of_fine ws) (λ x e. bind_fine (options_end x.1) _ (end_fine x.1) (λ u f. (record { is = refl })))

single_fine : (ws : List (List ℕ)) → 1 ≤ length ws → Fine (single_of ws)
unfolding single_of
single_fine ws h = bind_fine (number_at ws) _ (number_at_fine ws h) (λ n e. bind_fine (options_end n.1) _ (end_fine n.1) (λ u f. (record { is = refl })))

notices_fine : (ws : List (List ℕ)) → 2 ≤ length ws → Fine (notices_of ws)
unfolding notices_of
notices_fine ws h =
    bind_fine (number_at ws) _ (number_at_fine ws (omega (arith, h))) (λ n e.
    bind_fine (single_of n.1) _ (single_fine n.1 (omega (arith, h, ap length (number_at_is ws n e).0))) (λ s f. (record { is = refl })))

lo_fine : (w : List ℕ) → Fine (lo_of w)
unfolding lo_of
lo_fine w = test_fine (bytes_eq w (codes "*")) (Ok Start) (lo_given w (after (codes ">") w)) (record { is = refl }) (by_mark (after (codes ">") w))
  where
    by_mark : (o : Option (List ℕ)) → Fine (lo_given w o)
    by_mark None = bind_fine (key_of w) _ (key_fine w) (λ k e. (record { is = refl }))
    by_mark (Some text) = bind_fine (key_of text) _ (key_fine text) (λ k e. (record { is = refl }))

hi_fine : (w : List ℕ) → Fine (hi_of w)
unfolding hi_of
hi_fine w = test_fine (bytes_eq w (codes "*")) (Ok End) (key_of w >>= λ key. Ok (Before key)) (record { is = refl }) (bind_fine (key_of w) _ (key_fine w) (λ k e. (record { is = refl })))

range_at_fine : (ws : List (List ℕ)) → 2 ≤ length ws → Fine (range_at ws)
unfolding range_at
range_at_fine ws h =
    bind_fine (word_at ws) _ (word_fine ws (omega arith)) (λ a e. bind_fine (lo_of a.0) _ (lo_fine a.0) (λ lo f.
    bind_fine (word_at a.1) _ (word_fine a.1 (omega (arith, word_less ws a e))) (λ b g. bind_fine (hi_of b.0) _ (hi_fine b.0) (λ hi i. (record { is = refl })))))

range_fine : (ws : List (List ℕ)) → 2 ≤ length ws → Fine (range_of ws)
unfolding range_of
range_fine ws h = bind_fine (range_at ws) _ (range_at_fine ws h) (λ r e. bind_fine (options_end r.1) _ (end_fine r.1) (λ u f. (record { is = refl })))

ends_fine : (ws : List (List ℕ)) → 2 ≤ length ws → Fine (ends_of ws)
unfolding ends_of
ends_fine ws h = bind_fine (range_at ws) _ (range_at_fine ws h) (λ r e. bind_fine (index_of r.1) _ (index_fine r.1) (λ b f. (record { is = refl })))

put_fine : (ws : List (List ℕ)) → 2 ≤ length ws → Fine (put_of ws)
unfolding put_of
put_fine ws h =
    bind_fine (key_at ws) _ (key_at_fine ws (omega arith)) (λ k e.
    bind_fine (value_at k.1) _ (value_at_fine k.1 (omega (arith, ap length (key_at_is ws k e).0))) (λ v f.
    bind_fine (expect_at v.1) _ (expect_at_fine v.1) (λ x g.
    bind_fine (session_at x.1) _ (session_at_fine x.1) (λ s i.
    bind_fine (deltas_at s.1) _ (deltas_at_fine s.1) (λ d j.
    bind_fine (each_of entry_option d.1) _ (each_fine entry_option entry_option_fine d.1) (λ n l. (record { is = refl })))))))

delete_fine : (ws : List (List ℕ)) → 1 ≤ length ws → Fine (delete_of ws)
unfolding delete_of
delete_fine ws h =
    bind_fine (key_at ws) _ (key_at_fine ws (omega arith)) (λ k e.
    bind_fine (expect_at k.1) _ (expect_at_fine k.1) (λ x g.
    bind_fine (options_end x.1) _ (end_fine x.1) (λ u j. (record { is = refl }))))

compare_fine : (w : List ℕ) → is_compare w ≡ true → Fine (compare_of w)
unfolding compare_of
compare_fine w h = five (bytes_eq w (codes "equal")) (bytes_eq w (codes "floor")) (bytes_eq w (codes "ceiling")) (bytes_eq w (codes "lower")) (bytes_eq w (codes "higher")) h
  where
    five : (a b c d e : Bool) → a || b || c || d || e ≡ true → Fine (cond a (Ok Equal) (cond b (Ok Floor) (cond c (Ok Ceiling) (cond d (Ok Lower) (cond e (Ok Higher) (Err rule.Word))))))
    five true b c d e h = record { is = refl }
    five false true c d e h = record { is = refl }
    five false false true d e h = record { is = refl }
    five false false false true e h = record { is = refl }
    five false false false false true h = record { is = refl }
    five false false false false false h = absurd (cc)

get_fine : (ws : List (List ℕ)) → get_fits ws ≡ true → Fine (get_of ws)
unfolding get_of
get_fine [] h = absurd cc
get_fine (w ∷ ws) h =
    let x = and_parts _ _ h in
    let y = and_parts _ _ x.0 in
    bind_fine (compare_of w) _ (compare_fine w y.0) (λ c e.
    bind_fine (key_at ws) _ (key_at_fine ws (leb-true 1 (length ws) y.1)) (λ k f.
    bind_fine (index_of k.1) _ (index_fine k.1) (λ u j. (record { is = refl }))))

-- ---- by the word of a write or of a request

split : (w text : List ℕ) → (w ≡ text) ⊎ (bytes_eq w text ≡ false)
split w text = elim (cases_Bool (bytes_eq w text)) [ inl h ↦ inl (same_bytes w text h) | inr h ↦ inr h ]

op_put : (b : WriteBatch) (ws : List (List ℕ)) → write_fits (codes "put") (length ws) ≡ true → Fine (op_onto b (codes "put" ∷ ws))
unfolding write_fits op_onto
op_put b ws h = test_fine (is_empty b.deletes && is_empty b.ranges) (put_of ws >>= λ p. Ok (with_put b p)) (Err rule.Order) (bind_fine (put_of ws) _ (put_fine ws (leb-true 2 (length ws) h)) (λ p e. (record { is = refl }))) (record { is = refl })

op_delete : (b : WriteBatch) (ws : List (List ℕ)) → write_fits (codes "delete") (length ws) ≡ true → Fine (op_onto b (codes "delete" ∷ ws))
unfolding write_fits op_onto
op_delete b ws h = test_fine (is_empty b.ranges) (delete_of ws >>= λ d. Ok (with_delete b d)) (Err rule.Order) (bind_fine (delete_of ws) _ (delete_fine ws (leb-true 1 (length ws) (and_parts _ _ h).0)) (λ p e. (record { is = refl }))) (record { is = refl })

op_range : (b : WriteBatch) (ws : List (List ℕ)) → write_fits (codes "deleterange") (length ws) ≡ true → Fine (op_onto b (codes "deleterange" ∷ ws))
unfolding write_fits op_onto
op_range b ws h = bind_fine (range_of ws) _ (range_fine ws (omega (arith, eqb-true (length ws) 2 h))) (λ p e. (record { is = refl }))

op_never : (v : List ℕ) (n : ℕ) → bytes_eq v (codes "put") ≡ false → bytes_eq v (codes "delete") ≡ false → bytes_eq v (codes "deleterange") ≡ false → write_fits v n ≡ true → ⊥
unfolding write_fits
op_never v n p d r h = let no : write_fits v n ≡ false = rw (p, d, r) refl in cc

op_fine : (b : WriteBatch) (ws : List (List ℕ)) → op_fits ws ≡ true → Fine (op_onto b ws)
op_fine b [] h = absurd cc
op_fine b (v ∷ ws) h =
    elim (split v (codes "put")) [
      | inl e ↦ subst (λ (w : List ℕ). write_fits w (length ws) ≡ true → Fine (op_onto b (w ∷ ws))) (sym e) (op_put b ws) h
      | inr p ↦ elim (split v (codes "delete")) [
        | inl e ↦ subst (λ (w : List ℕ). write_fits w (length ws) ≡ true → Fine (op_onto b (w ∷ ws))) (sym e) (op_delete b ws) h
        | inr d ↦ elim (split v (codes "deleterange")) [
          | inl e ↦ subst (λ (w : List ℕ). write_fits w (length ws) ≡ true → Fine (op_onto b (w ∷ ws))) (sym e) (op_range b ws) h
          | inr r ↦ absurd (op_never v (length ws) p d r h)
        ]
      ]
    ]

ops_fine : (b : WriteBatch) (ops : List (List (List ℕ))) → list_all op_fits ops ≡ true → Fine (ops_onto b ops)
ops_fine b [] h = record { is = refl }
ops_fine b (op ∷ ops) h = let x = and_parts (op_fits op) _ h in bind_fine (op_onto b op) _ (op_fine b op x.0) (λ c e. ops_fine c ops x.1)

batch_fine : (ws : List (List ℕ)) → list_all op_fits (ops_in ws) ≡ true → Fine (batch_of ws)
unfolding batch_of
batch_fine ws h = ops_fine empty_batch (ops_in ws) h

abbrev IsAsked : List (List ℕ) → List ℕ → Type 0
IsAsked ws v = request_fits (v ∷ ws) ≡ true → Fine (request_of (v ∷ ws))

at_batch : (ws : List (List ℕ)) → IsAsked ws (codes "batch")
unfolding request_fits request_of
at_batch ws h = bind_fine (batch_of ws) _ (batch_fine ws h) (λ p e. (record { is = refl }))

at_get : (ws : List (List ℕ)) → IsAsked ws (codes "get")
unfolding request_fits request_of
at_get ws h = bind_fine (get_of ws) _ (get_fine ws h) (λ p e. (record { is = refl }))

at_list : (ws : List (List ℕ)) → IsAsked ws (codes "list")
unfolding request_fits request_of
at_list ws h = bind_fine (ends_of ws) _ (ends_fine ws (leb-true 2 (length ws) (and_parts _ _ h).0)) (λ p e. (record { is = refl }))

at_scan : (ws : List (List ℕ)) → IsAsked ws (codes "scan")
unfolding request_fits request_of
at_scan ws h = bind_fine (ends_of ws) _ (ends_fine ws (leb-true 2 (length ws) (and_parts _ _ h).0)) (λ p e. (record { is = refl }))

abbrev IsSingle : List (List ℕ) → List ℕ → Type 0
IsSingle ws v = single_fits v (length ws) ≡ true → Fine (alone_of (v ∷ ws))

at_notices : (ws : List (List ℕ)) → IsSingle ws (codes "notices")
unfolding single_fits alone_of
at_notices ws h = bind_fine (notices_of ws) _ (notices_fine ws (omega (arith, eqb-true (length ws) 2 h))) (λ p e. (record { is = refl }))

at_open : (ws : List (List ℕ)) → IsSingle ws (codes "open")
unfolding single_fits alone_of
at_open ws h = bind_fine (single_of ws) _ (single_fine ws (omega (arith, eqb-true (length ws) 1 h))) (λ p e. (record { is = refl }))

at_close : (ws : List (List ℕ)) → IsSingle ws (codes "close")
unfolding single_fits alone_of
at_close ws h = bind_fine (single_of ws) _ (single_fine ws (omega (arith, eqb-true (length ws) 1 h))) (λ p e. (record { is = refl }))

at_keep : (ws : List (List ℕ)) → IsSingle ws (codes "keep")
unfolding single_fits alone_of
at_keep ws h = bind_fine (single_of ws) _ (single_fine ws (omega (arith, eqb-true (length ws) 1 h))) (λ p e. (record { is = refl }))

-- none of the words that aren't those of operations
record IsWrite (v : List ℕ) : Type 0 where
  pub notices : bytes_eq v (codes "notices") ≡ false
  pub opens : bytes_eq v (codes "open") ≡ false
  pub close : bytes_eq v (codes "close") ≡ false
  pub keep : bytes_eq v (codes "keep") ≡ false

write_fine : (v : List ℕ) (ws : List (List ℕ)) → IsWrite v → IsSingle ws v
unfolding single_fits alone_of
write_fine v ws o h =
    let fits : op_fits (v ∷ ws) ≡ true = rw (o.notices, o.opens, o.close, o.keep) at h in
    rw (o.notices, o.opens, o.close, o.keep) (bind_fine (op_onto empty_batch (v ∷ ws)) _ (op_fine empty_batch (v ∷ ws) fits) (λ p e. (record { is = refl })))

single_request : (v : List ℕ) (ws : List (List ℕ)) → IsSingle ws v
single_request v ws h =
    elim (split v (codes "notices")) [
      | inl e ↦ subst (IsSingle ws) (sym e) (at_notices ws) h
      | inr d ↦ elim (split v (codes "open")) [
        | inl e ↦ subst (IsSingle ws) (sym e) (at_open ws) h
        | inr f ↦ elim (split v (codes "close")) [
          | inl e ↦ subst (IsSingle ws) (sym e) (at_close ws) h
          | inr g ↦ elim (split v (codes "keep")) [
            | inl e ↦ subst (IsSingle ws) (sym e) (at_keep ws) h
            | inr i ↦ write_fine v ws (record { notices = d; opens = f; close = g; keep = i }) h
          ]
        ]
      ]
    ]

-- none of the words of a batch and of reads of records
record IsOther (v : List ℕ) : Type 0 where
  pub batch : bytes_eq v (codes "batch") ≡ false
  pub get : bytes_eq v (codes "get") ≡ false
  pub list : bytes_eq v (codes "list") ≡ false
  pub scan : bytes_eq v (codes "scan") ≡ false

alone_fine : (v : List ℕ) (ws : List (List ℕ)) → IsOther v → request_fits (v ∷ ws) ≡ true → Fine (request_of (v ∷ ws))
unfolding request_fits request_of
alone_fine v ws o h =
    let fits : single_fits v (length ws) ≡ true = rw (o.batch, o.get, o.list, o.scan) at h in
    rw (o.batch, o.get, o.list, o.scan) (single_request v ws fits)

request_fine : (ws : List (List ℕ)) → request_fits ws ≡ true → Fine (request_of ws)
unfolding request_fits
request_fine [] h = absurd cc
request_fine (v ∷ ws) h =
    elim (split v (codes "batch")) [
      | inl e ↦ subst (IsAsked ws) (sym e) (at_batch ws) h
      | inr d ↦
          elim (split v (codes "get")) [
            | inl e ↦ subst (IsAsked ws) (sym e) (at_get ws) h
            | inr f ↦
                elim (split v (codes "list")) [
                  | inl e ↦ subst (IsAsked ws) (sym e) (at_list ws) h
                  | inr g ↦
                      elim (split v (codes "scan")) [
                        | inl e ↦ subst (IsAsked ws) (sym e) (at_scan ws) h
                        | inr i ↦ alone_fine v ws (record { batch = d; get = f; list = g; scan = i }) h
                      ]
                ]
          ]
    ]

-- ---- events

node_fine : (p : Places) (ws : List (List ℕ)) → 0 < length ws → Fine (node_at p ws)
unfolding node_at
node_fine p ws h = bind_fine (word_at ws) _ (word_fine ws h) (λ w e. bind_fine (number_of w.0) _ (number_fine w.0) (λ n f. test_fine (is_node p n) (Ok (n, w.1)) (Err rule.Name) (record { is = refl }) (record { is = refl })))

shard_fine : (p : Places) (ws : List (List ℕ)) → 0 < length ws → Fine (shard_at p ws)
unfolding shard_at
shard_fine p ws h = bind_fine (word_at ws) _ (word_fine ws h) (λ w e. bind_fine (number_of w.0) _ (number_fine w.0) (λ n f. test_fine (is_shard p n) (Ok (n, w.1)) (Err rule.Name) (record { is = refl }) (record { is = refl })))

client_fine : (p : Places) (ws : List (List ℕ)) → client_fits ws ≡ true → Fine (client_of p ws)
unfolding client_of
client_fine p [] h = absurd cc
client_fine p (n ∷ []) h = absurd cc
client_fine p (n ∷ s ∷ ws) h =
    bind_fine (node_at p (n ∷ s ∷ ws)) _ (node_fine p (n ∷ s ∷ ws) (omega arith)) (λ x e.
    let one : x.1 ≡ s ∷ ws = tail_is n x.0 _ _ (node_is p (n ∷ s ∷ ws) x e).0 in
    bind_fine (shard_at p x.1) _ (shard_fine p x.1 (omega (arith, ap length one))) (λ y f.
    let two : y.1 ≡ ws = tail_is s y.0 _ _ (sym one ∙ (shard_is p x.1 y f).0) in
    bind_fine (request_of y.1) _ (subst (λ (t : List (List ℕ)). Fine (request_of t)) (sym two) (request_fine ws h)) (λ r g. (record { is = refl }))))
  where
    tail_is : (a : List ℕ) (k : ℕ) (rest others : List (List ℕ)) → a ∷ rest ≡ decimal k ∷ others → others ≡ rest
    tail_is a k rest others e = cc

tick_fine : (p : Places) (ws : List (List ℕ)) → length ws ≡ 3 → Fine (tick_of p ws)
unfolding tick_of
tick_fine p ws h =
    bind_fine (node_at p ws) _ (node_fine p ws (omega (arith, h))) (λ x e.
    bind_fine (shard_at p x.1) _ (shard_fine p x.1 (omega (arith, h, ap length (node_is p ws x e).0))) (λ y f.
    bind_fine (single_of y.1) _ (single_fine y.1 (omega (arith, h, ap length (node_is p ws x e).0, ap length (shard_is p x.1 y f).0))) (λ n g. (record { is = refl }))))

deliver_fine : (ws : List (List ℕ)) → length ws ≡ 1 → Fine {A = Turn} (single_of ws >>= λ message. Ok (Deliver message))
deliver_fine ws h = bind_fine (single_of ws) (λ message. Ok (Deliver message)) (single_fine ws (omega (arith, h))) (λ n e. (record { is = refl }))

turn_fine : (p : Places) (ws : List (List ℕ)) → turn_fits ws ≡ true → Fine (turn_of p ws)
unfolding turn_fits turn_of
turn_fine p [] h = absurd cc
turn_fine p (v ∷ ws) h =
    elim (cases_Bool (bytes_eq v (codes "client"))) [
      | inl c ↦ let fits : client_fits ws ≡ true = rw c at h in rw c (client_fine p ws fits)
      | inr c ↦ elim (cases_Bool (bytes_eq v (codes "deliver"))) [
        | inl d ↦ let one : eqb (length ws) 1 ≡ true = rw (c, d) at h in rw (c, d) (deliver_fine ws (eqb-true (length ws) 1 one))
        | inr d ↦ elim (cases_Bool (bytes_eq v (codes "tick"))) [
          | inl t ↦ let three : eqb (length ws) 3 ≡ true = rw (c, d, t) at h in rw (c, d, t) (tick_fine p ws (eqb-true (length ws) 3 three))
          | inr t ↦ let never : false ≡ true = rw (c, d, t) at h in absurd cc
        ]
      ]
    ]

call_fine : (ws : List (List ℕ)) → 0 < length ws → Fine (call_at ws)
unfolding call_at
call_fine ws h = bind_fine (word_at ws) _ (word_fine ws h) (λ w e. bind_fine (number_of w.0) _ (number_fine w.0) (λ n f. test_fine (is_call n) (Ok (n, w.1)) (Err rule.Number) (record { is = refl }) (record { is = refl })))

image_fine : (w : List ℕ) → is_image w ≡ true → Fine (image_of w)
unfolding image_of
image_fine w h = three (bytes_eq w (codes "none")) (bytes_eq w (codes "kept")) (bytes_eq w (codes "torn")) h
  where
    three : (a b c : Bool) → a || b || c ≡ true → Fine (cond a (Ok image.Nothing) (cond b (Ok image.Kept) (cond c (Ok image.Torn) (Err rule.Word))))
    three true b c h = record { is = refl }
    three false true c h = record { is = refl }
    three false false true h = record { is = refl }
    three false false false h = absurd (cc)

cut_fine : (p : Places) (ws : List (List ℕ)) → cut_fits ws ≡ true → Fine (cut_of p ws)
unfolding cut_of
cut_fine p [] h = absurd cc
cut_fine p (n ∷ []) h = absurd cc
cut_fine p (n ∷ i ∷ ws) h =
    let fits = and_parts (is_image i) (turn_fits ws) h in
    bind_fine (call_at (n ∷ i ∷ ws)) _ (call_fine (n ∷ i ∷ ws) (omega arith)) (λ x e.
    let one : x.1 ≡ i ∷ ws = call_tail n x.0 _ _ (call_is (n ∷ i ∷ ws) x e).0 in
    bind_fine (word_at x.1) _ (word_fine x.1 (omega (arith, ap length one))) (λ y f.
    let here : i ∷ ws ≡ y.0 ∷ y.1 = sym one ∙ word_is x.1 y f in
    let left : i ≡ y.0 = cc in
    let rest : ws ≡ y.1 = cc in
    bind_fine (image_of y.0) _ (image_fine y.0 (subst (λ (w : List ℕ). is_image w ≡ true) left fits.0)) (λ j g.
    bind_fine (turn_of p y.1) _ (turn_fine p y.1 (subst (λ (t : List (List ℕ)). turn_fits t ≡ true) rest fits.1)) (λ r k. (record { is = refl })))))
  where
    call_tail : (a : List ℕ) (k : ℕ) (rest others : List (List ℕ)) → a ∷ rest ≡ decimal k ∷ others → others ≡ rest
    call_tail a k rest others e = cc

lone_fine : (p : Places) (ws : List (List ℕ)) → length ws ≡ 1 → Fine (node_of p ws)
unfolding node_of
lone_fine p ws h = bind_fine (node_at p ws) _ (node_fine p ws (omega (arith, h))) (λ x e. bind_fine (options_end x.1) _ (end_fine x.1) (λ u f. (record { is = refl })))

term_fine : (ws : List (List ℕ)) → 1 ≤ length ws → Fine (term_of ws)
unfolding term_of
term_fine ws h = bind_fine (single_of ws) _ (single_fine ws h) (λ n e. test_fine (is_term n) (Ok n) (Err rule.Number) (record { is = refl }) (record { is = refl }))

seat_fine : (p : Places) (ws : List (List ℕ)) → length ws ≡ 3 → Fine (seat_of p ws)
unfolding seat_of
seat_fine p ws h =
    bind_fine (node_at p ws) _ (node_fine p ws (omega (arith, h))) (λ x e.
    bind_fine (shard_at p x.1) _ (shard_fine p x.1 (omega (arith, h, ap length (node_is p ws x e).0))) (λ y f.
    bind_fine (term_of y.1) _ (term_fine y.1 (omega (arith, h, ap length (node_is p ws x e).0, ap length (shard_is p x.1 y f).0))) (λ n g. (record { is = refl }))))

abbrev IsHappening : Places → List (List ℕ) → List ℕ → Type 0
IsHappening p ws v = event_fits (v ∷ ws) ≡ true → Fine (event_of p (v ∷ ws))

at_cut : (p : Places) (ws : List (List ℕ)) → IsHappening p ws (codes "cut")
unfolding event_fits event_of
at_cut p ws h = cut_fine p ws h

at_stop : (p : Places) (ws : List (List ℕ)) → IsHappening p ws (codes "stop")
unfolding event_fits event_of
at_stop p ws h = bind_fine (node_of p ws) _ (lone_fine p ws (eqb-true (length ws) 1 h)) (λ n e. (record { is = refl }))

at_start : (p : Places) (ws : List (List ℕ)) → IsHappening p ws (codes "start")
unfolding event_fits event_of
at_start p ws h = bind_fine (node_of p ws) _ (lone_fine p ws (eqb-true (length ws) 1 h)) (λ n e. (record { is = refl }))

at_lose : (p : Places) (ws : List (List ℕ)) → IsHappening p ws (codes "lose")
unfolding event_fits event_of
at_lose p ws h = bind_fine (node_of p ws) _ (lone_fine p ws (eqb-true (length ws) 1 h)) (λ n e. (record { is = refl }))

at_fence : (p : Places) (ws : List (List ℕ)) → IsHappening p ws (codes "fence")
unfolding event_fits event_of
at_fence p ws h = bind_fine (seat_of p ws) _ (seat_fine p ws (eqb-true (length ws) 3 h)) (λ n e. (record { is = refl }))

at_lead : (p : Places) (ws : List (List ℕ)) → IsHappening p ws (codes "lead")
unfolding event_fits event_of
at_lead p ws h = bind_fine (seat_of p ws) _ (seat_fine p ws (eqb-true (length ws) 3 h)) (λ n e. (record { is = refl }))

-- none of the words of events that no actor takes
record IsTurn (v : List ℕ) : Type 0 where
  pub cut : bytes_eq v (codes "cut") ≡ false
  pub stop : bytes_eq v (codes "stop") ≡ false
  pub start : bytes_eq v (codes "start") ≡ false
  pub lose : bytes_eq v (codes "lose") ≡ false
  pub fence : bytes_eq v (codes "fence") ≡ false
  pub lead : bytes_eq v (codes "lead") ≡ false

taken_fine : (p : Places) (v : List ℕ) (ws : List (List ℕ)) → IsTurn v → IsHappening p ws v
unfolding event_fits event_of
taken_fine p v ws o h =
    let fits : turn_fits (v ∷ ws) ≡ true = rw (o.cut, o.stop, o.start, o.lose, o.fence, o.lead) at h in
    rw (o.cut, o.stop, o.start, o.lose, o.fence, o.lead) (bind_fine (turn_of p (v ∷ ws)) _ (turn_fine p (v ∷ ws) fits) (λ t e. (record { is = refl })))

event_fine : (p : Places) (ws : List (List ℕ)) → event_fits ws ≡ true → Fine (event_of p ws)
unfolding event_fits
event_fine p [] h = absurd cc
event_fine p (v ∷ ws) h =
    elim (split v (codes "cut")) [
      | inl e ↦ subst (IsHappening p ws) (sym e) (at_cut p ws) h
      | inr c ↦ elim (split v (codes "stop")) [
        | inl e ↦ subst (IsHappening p ws) (sym e) (at_stop p ws) h
        | inr d ↦ elim (split v (codes "start")) [
          | inl e ↦ subst (IsHappening p ws) (sym e) (at_start p ws) h
          | inr f ↦ elim (split v (codes "lose")) [
            | inl e ↦ subst (IsHappening p ws) (sym e) (at_lose p ws) h
            | inr g ↦ elim (split v (codes "fence")) [
              | inl e ↦ subst (IsHappening p ws) (sym e) (at_fence p ws) h
              | inr i ↦ elim (split v (codes "lead")) [
                | inl e ↦ subst (IsHappening p ws) (sym e) (at_lead p ws) h
                | inr j ↦ taken_fine p v ws (record { cut = c; stop = d; start = f; lose = g; fence = i; lead = j }) h
              ]
            ]
          ]
        ]
      ]
    ]

-- ---- what the rules of a whole line say

not_kept : (p : Places) (ws : List (List ℕ)) (r : LineRule) → event_fits ws ≡ true → kept r ≡ false → event_of p ws ≡ Err r → ⊥
not_kept p ws r h k e = let never : true ≡ kept r = sym (event_fine p ws h).is ∙ ap fine e in cc

line_is : (p : Places) (b : ℕ) (line : List ℕ) → line_at p (b ∷ line) ≡ cond (not (list_all is_word (words_of (b ∷ line)))) (Err rule.Bytes) (cond (event_fits (words_of (b ∷ line))) (event_of p (words_of (b ∷ line))) (Err rule.Word))
unfolding line_at
line_is p b line = let some : eqb (suc (length line)) 0 ≡ false = grind (arith, common_steps) in rw some refl

bytes_found : (p : Places) (ws : List (List ℕ)) (x y : Bool) → event_fits ws ≡ y → cond (not x) (Err rule.Bytes) (cond y (event_of p ws) (Err rule.Word)) ≡ Err rule.Bytes → x ≡ false
bytes_found p ws false y fits e = refl
bytes_found p ws true false fits e = absurd cc
bytes_found p ws true true fits e = absurd (not_kept p ws rule.Bytes fits refl e)

word_found : (p : Places) (ws : List (List ℕ)) (x y : Bool) → event_fits ws ≡ y → cond (not x) (Err rule.Bytes) (cond y (event_of p ws) (Err rule.Word)) ≡ Err rule.Word → (x ≡ true) × (y ≡ false)
word_found p ws false y fits e = absurd cc
word_found p ws true false fits e = (refl, refl)
word_found p ws true true fits e = absurd (not_kept p ws rule.Word fits refl e)

pub bytes_rule : (p : Places) (line : List ℕ) → line_at p line ≡ Err rule.Bytes → (line ≢ []) × (list_all is_word (words_of line) ≡ false)
unfolding line_at
bytes_rule p [] e = absurd cc
bytes_rule p (b ∷ line) e = (λ h. cc, bytes_found p (words_of (b ∷ line)) (list_all is_word (words_of (b ∷ line))) (event_fits (words_of (b ∷ line))) refl (sym (line_is p b line) ∙ e))

pub bytes_again : (p : Places) (line : List ℕ) → line ≢ [] → list_all is_word (words_of line) ≡ false → line_at p line ≡ Err rule.Bytes
bytes_again p [] some h = absurd (some refl)
bytes_again p (b ∷ line) some h = line_is p b line ∙ rw h refl

pub word_rule : (p : Places) (line : List ℕ) → line_at p line ≡ Err rule.Word → (line ≡ []) ⊎ ((list_all is_word (words_of line) ≡ true) × (event_fits (words_of line) ≡ false))
word_rule p [] e = inl refl
word_rule p (b ∷ line) e = inr (word_found p (words_of (b ∷ line)) (list_all is_word (words_of (b ∷ line))) (event_fits (words_of (b ∷ line))) refl (sym (line_is p b line) ∙ e))

shaped_wrong : (p : Places) (line : List ℕ) → list_all is_word (words_of line) ≡ true → event_fits (words_of line) ≡ false → line_at p line ≡ Err rule.Word
unfolding line_at
shaped_wrong p [] words fits = refl
shaped_wrong p (b ∷ line) words fits = line_is p b line ∙ rw (words, fits) refl

pub word_again : (p : Places) (line : List ℕ) → (line ≡ []) ⊎ ((list_all is_word (words_of line) ≡ true) × (event_fits (words_of line) ≡ false)) → line_at p line ≡ Err rule.Word
unfolding line_at
word_again p line (inl e) = subst (λ (l : List ℕ). line_at p l ≡ Err rule.Word) (sym e) refl
word_again p line (inr h) = shaped_wrong p line h.0 h.1
