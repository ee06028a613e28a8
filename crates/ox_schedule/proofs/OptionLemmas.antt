-- An option that is read is the one that was written, and what was written is read again.
use Rattle.std.proofs.Common.{◌≡◌, ◌∙◌, ◌<◌, ◌≤◌, ℕ, zero, suc, ◌^◌, ◌++◌, Bor, get_or, take, drop, Bool, true, false, not, eqb, cond, List, [], ◌∷◌, length, map, codes, decimal, Result, Ok, Err, Option, Some, None, inl, inr, refl, sym, ap, subst, arith}
use Rattle.std.specs.List.{list_all, join_with_byte, position, position_or_len}
use Rattle.std.specs.Str.{bytes_eq}
use Rattle.std.specs.Str.Parse.{AllDigits}
use Rattle.std.proofs.lemmas.Fmt.{decimal_is_IsNumeral}
use Rattle.std.proofs.lemmas.Bool.Decides.{Decides-ltb}
use Rattle.std.proofs.lemmas.Bool.{eqb-true, and_parts, and_from}
use Rattle.std.proofs.lemmas.Grind.{common_steps}
use Rattle.std.proofs.lemmas.List.{length-map}
use Rattle.std.proofs.lemmas.List.Sums.{fails_before_first}
use Rattle.std.proofs.lemmas.List.Splits.{length-slice_split, join_with_byte-slice_split}
use Rattle.ox_types.specs.declared.ended.LineRule.{LineRule}
use Rattle.ox_ops.specs.declared.write.Expect.{Expect}
use Rattle.ox_ops.specs.declared.write.Expect.TheVariants.{Any, Absent, Exactly}
use Rattle.ox_ops.specs.declared.write.IndexEntry.{IndexEntry}
use Rattle.ox_schedule.specs.Outcome.{◌>>=◌}
use Rattle.ox_text.specs.Words.{spelt}
use Rattle.ox_schedule.specs.Spelling.{is_key, is_name, is_number, is_expect, expect_words, is_session, session_words, numbers_text, deltas_words, is_entry, entry_word, is_by, by_words}
use Rattle.ox_schedule.specs.Reading.{after, name_of, number_of, each_of, expect_of, session_of, deltas_of, by_of, onto_name, at_colon, entry_in, entry_of, entry_given, entry_option, option_given, option_at, expect_at, session_at, deltas_at, by_at, index_of, options_end}
use Rattle.ox_schedule.proofs.Words.{same_bytes, key_is, key_again, name_is, name_again, number_is, number_again}
use Rattle.ox_schedule.proofs.JoinLemmas.{lacks, parts_of, parts_joined}
use Rattle.ox_schedule.proofs.Marks.{spelt_lacks, number_lacks}
use Rattle.ox_schedule.proofs.Steps.{after_append, after_is, bind_ok, chosen, ok_pair, last, options_end_is}

-- ---- each word

pub each_is : {A : Type 0} (read : List ℕ → Result A LineRule) (spell : A → List ℕ) (lawful : A → Bool) → ((w : List ℕ) (x : A) → read w ≡ Ok x → (w ≡ spell x) × (lawful x ≡ true)) → (ws : List (List ℕ)) (xs : List A) → each_of read ws ≡ Ok xs → (ws ≡ map spell xs) × (list_all lawful xs ≡ true)
each_is read spell lawful one [] xs h = let it : [] ≡ xs = cc in rw (← it) (refl, refl)
each_is {A} read spell lawful one (w ∷ ws) xs h =
    let x = bind_ok _ _ _ h in
    let more = bind_ok _ _ _ x.2 in
    let it : x.0 ∷ more.0 ≡ xs = cc (more.2) in
    let first = one w x.0 x.1 in
    let others = each_is read spell lawful one ws more.0 more.1 in
    subst (λ (ys : List A). (w ∷ ws ≡ map spell ys) × (list_all lawful ys ≡ true)) it
    (ap (λ (v : List ℕ). v ∷ ws) first.0 ∙ ap (λ (t : List (List ℕ)). spell x.0 ∷ t) others.0, and_from _ _ first.1 others.1)

pub each_again : {A : Type 0} (read : List ℕ → Result A LineRule) (spell : A → List ℕ) (lawful : A → Bool) → ((x : A) → lawful x ≡ true → read (spell x) ≡ Ok x) → (xs : List A) → list_all lawful xs ≡ true → each_of read (map spell xs) ≡ Ok xs
each_again read spell lawful one [] h = refl
each_again read spell lawful one (x ∷ xs) h = let p = and_parts (lawful x) _ h in rw (one x p.0, each_again read spell lawful one xs p.1) refl

-- what is read behind what is read already
abbrev pub behind : {A : Type 0} → List A → Result (List A) LineRule → Result (List A) LineRule
behind front (Ok xs) = Ok (front ++ xs)
behind front (Err e) = Err e

-- words as they are kept
abbrev pub texts : List (Bor (List ℕ)) → List (List ℕ)
texts ws = map (λ w. w.now) ws

-- ---- an option, or what stands for none

pub record IsOption {A : Type 0} (name : List ℕ) (read : List ℕ → Result A LineRule) (none : A) (spell : A → List (List ℕ)) (lawful : A → Bool) : Type 0 where
  pub unspelt : spell none ≡ []
  pub good : lawful none ≡ true
  pub found : (w : List ℕ) (x : A) → read w ≡ Ok x → (spell x ≡ (name ++ w) ∷ []) × (lawful x ≡ true)

option_is : {A : Type 0} (name : List ℕ) (read : List ℕ → Result A LineRule) (none : A) (spell : A → List (List ℕ)) (lawful : A → Bool) → IsOption name read none spell lawful → (ws : List (List ℕ)) (x : A) (rest : List (List ℕ)) → option_at name read none ws ≡ Ok (x, rest) → (ws ≡ spell x ++ rest) × (lawful x ≡ true)
option_is name read none spell lawful o [] x rest h = let p = ok_pair none x [] rest h in (rw (← p.0, ← p.1, o.unspelt) refl, rw (← p.0) o.good)
option_is {A} name read none spell lawful o (w ∷ ws) x rest h = by_text (after name w) (λ text. after_is name w text) h
  where
    by_text : (t : Option (List ℕ)) → ((text : List ℕ) → t ≡ Some text → w ≡ name ++ text) → option_given read none w ws t ≡ Ok (x, rest) → (w ∷ ws ≡ spell x ++ rest) × (lawful x ≡ true)
    by_text None front h = let p = ok_pair none x (w ∷ ws) rest h in (rw (← p.0, ← p.1, o.unspelt) refl, rw (← p.0) o.good)
    by_text (Some text) front h =
        let b = bind_ok (read text) (λ y. Ok (y, ws)) (x, rest) h in
        let p = ok_pair b.0 x ws rest b.2 in
        let s = o.found text b.0 b.1 in
        let word : w ≡ name ++ text = front text refl in
        let words : spell x ≡ w ∷ [] = ap spell (sym p.0) ∙ s.0 ∙ ap (λ (v : List ℕ). v ∷ []) (sym word) in
        (rw (words, ← p.1) refl, rw (← p.0) s.1)

-- no option of this name comes next
abbrev pub Skips : List ℕ → List (List ℕ) → Type 0
Skips name [] = Unit {0}
Skips name (w ∷ ws) = after name w ≡ None

option_none : {A : Type 0} (name : List ℕ) (read : List ℕ → Result A LineRule) (none : A) (rest : List (List ℕ)) → Skips name rest → option_at name read none rest ≡ Ok (none, rest)
option_none name read none [] skips = refl
option_none name read none (w ∷ rest) skips = rw skips refl

option_again : {A : Type 0} (name : List ℕ) (read : List ℕ → Result A LineRule) (none : A) (w : List ℕ) (x : A) (rest : List (List ℕ)) → read w ≡ Ok x → option_at name read none ((name ++ w) ∷ rest) ≡ Ok (x, rest)
option_again name read none w x rest h = rw (after_append name w, h) refl

-- ---- expect=

expect_is : (w : List ℕ) (e : Expect) → expect_of w ≡ Ok e → (expect_words e ≡ (codes "expect=" ++ w) ∷ []) × (is_expect e ≡ true)
unfolding expect_of
expect_is w e h =
    elim (chosen (bytes_eq w (codes "absent")) (Ok Absent) (number_of w >>= λ n. Ok (Exactly n)) (Ok e) h) [
      | inl x ↦ let same : w ≡ codes "absent" = same_bytes w (codes "absent") x.0 in let it : Absent ≡ e = cc (x.1) in (ap expect_words (sym it) ∙ ap (λ (v : List ℕ). (codes "expect=" ++ v) ∷ []) (sym same), rw (← it) refl)
      | inr x ↦
          let b = bind_ok (number_of w) (λ n. Ok (Exactly n)) e x.1 in
          let it : Exactly b.0 ≡ e = cc (b.2) in
          let n = number_is w b.0 b.1 in
          (ap expect_words (sym it) ∙ ap (λ (v : List ℕ). (codes "expect=" ++ v) ∷ []) (sym n.0), rw (← it) n.1)
    ]

pub expect_at_is : (ws : List (List ℕ)) (e : Expect) (rest : List (List ℕ)) → expect_at ws ≡ Ok (e, rest) → (ws ≡ expect_words e ++ rest) × (is_expect e ≡ true)
unfolding expect_at
expect_at_is ws e rest h = option_is (codes "expect=") expect_of Any expect_words is_expect (record { unspelt = refl; good = refl; found = expect_is }) ws e rest h

number_not_absent : (n : ℕ) → is_number n ≡ true → bytes_eq (decimal n) (codes "absent") ≡ false
number_not_absent n h = by_test (bytes_eq (decimal n) (codes "absent")) (λ e. never (same_bytes (decimal n) (codes "absent") e))
  where
    by_test : (x : Bool) → (x ≡ true → ⊥) → x ≡ false
    by_test true k = absurd (k refl)
    by_test false k = refl

    never : decimal n ≡ codes "absent" → ⊥
    never e = let digits : AllDigits 10 (codes "absent") = subst (λ (ds : List ℕ). AllDigits 10 ds) e (decimal_is_IsNumeral n ((Decides-ltb n (2 ^ 64)).0 h)).0.1 in absurd (omega (arith, digits.0))

exactly_again : (n : ℕ) → is_number n ≡ true → expect_of (decimal n) ≡ Ok (Exactly n)
unfolding expect_of
exactly_again n h = rw (number_not_absent n h, number_again n h) refl

absent_again : expect_of (codes "absent") ≡ Ok Absent
unfolding expect_of
absent_again = refl

pub expect_again : (e : Expect) (rest : List (List ℕ)) → Skips (codes "expect=") rest → is_expect e ≡ true → expect_at (expect_words e ++ rest) ≡ Ok (e, rest)
unfolding expect_at
expect_again Any rest skips h = option_none (codes "expect=") expect_of Any rest skips
expect_again Absent rest skips h = option_again (codes "expect=") expect_of Any (codes "absent") Absent rest absent_again
expect_again (Exactly n) rest skips h = option_again (codes "expect=") expect_of Any (decimal n) (Exactly n) rest (exactly_again n h)

-- ---- session=

session_is : (w : List ℕ) (s : Option ℕ) → session_of w ≡ Ok s → (session_words s ≡ (codes "session=" ++ w) ∷ []) × (is_session s ≡ true)
unfolding session_of
session_is w s h =
    let b = bind_ok (number_of w) (λ n. Ok (Some n)) s h in
    let it : Some b.0 ≡ s = cc (b.2) in
    let n = number_is w b.0 b.1 in
    (ap session_words (sym it) ∙ ap (λ (v : List ℕ). (codes "session=" ++ v) ∷ []) (sym n.0), rw (← it) n.1)

pub session_at_is : (ws : List (List ℕ)) (s : Option ℕ) (rest : List (List ℕ)) → session_at ws ≡ Ok (s, rest) → (ws ≡ session_words s ++ rest) × (is_session s ≡ true)
unfolding session_at
session_at_is ws s rest h = option_is (codes "session=") session_of None session_words is_session (record { unspelt = refl; good = refl; found = session_is }) ws s rest h

some_session : (n : ℕ) → is_number n ≡ true → session_of (decimal n) ≡ Ok (Some n)
unfolding session_of
some_session n h = rw (number_again n h) refl

pub session_again : (s : Option ℕ) (rest : List (List ℕ)) → Skips (codes "session=") rest → is_session s ≡ true → session_at (session_words s ++ rest) ≡ Ok (s, rest)
unfolding session_at
session_again None rest skips h = option_none (codes "session=") session_of None rest skips
session_again (Some n) rest skips h = option_again (codes "session=") session_of None (decimal n) (Some n) rest (some_session n h)

-- ---- seq=

some_deltas : (ds : List ℕ) → 0 < length ds → deltas_words ds ≡ (codes "seq=" ++ numbers_text ds) ∷ []
some_deltas [] some = absurd (omega arith)
some_deltas (d ∷ ds) some = refl

deltas_is : (w : List ℕ) (ds : List ℕ) → deltas_of w ≡ Ok ds → (deltas_words ds ≡ (codes "seq=" ++ w) ∷ []) × (list_all is_number ds ≡ true)
unfolding deltas_of
deltas_is w ds h =
    let e = each_is number_of decimal is_number number_is (parts_of 44 w) ds h in
    let text : numbers_text ds ≡ w = ap (join_with_byte 44) (sym e.0) ∙ join_with_byte-slice_split 44 w in
    let some : 0 < length ds = omega (arith, length-slice_split (λ b. eqb b 44) w, ap length e.0, length-map ds decimal) in
    (some_deltas ds some ∙ ap (λ (v : List ℕ). (codes "seq=" ++ v) ∷ []) text, e.1)

pub deltas_at_is : (ws : List (List ℕ)) (ds : List ℕ) (rest : List (List ℕ)) → deltas_at ws ≡ Ok (ds, rest) → (ws ≡ deltas_words ds ++ rest) × (list_all is_number ds ≡ true)
unfolding deltas_at
deltas_at_is ws ds rest h = option_is (codes "seq=") deltas_of [] deltas_words (list_all is_number) (record { unspelt = refl; good = refl; found = deltas_is }) ws ds rest h

numbers_lack : (ds : List ℕ) → list_all is_number ds ≡ true → list_all (lacks 44) (map decimal ds) ≡ true
numbers_lack [] h = refl
numbers_lack (d ∷ ds) h = let x = and_parts (is_number d) _ h in and_from _ _ (number_lacks d ((Decides-ltb d (2 ^ 64)).0 x.0)) (numbers_lack ds x.1)

all_deltas : (d : ℕ) (ds : List ℕ) → list_all is_number (d ∷ ds) ≡ true → deltas_of (numbers_text (d ∷ ds)) ≡ Ok (d ∷ ds)
unfolding deltas_of
all_deltas d ds h =
    let parts : parts_of 44 (numbers_text (d ∷ ds)) ≡ map decimal (d ∷ ds) = parts_joined 44 (map decimal (d ∷ ds)) (omega arith) (numbers_lack (d ∷ ds) h) in
    ap (each_of number_of) parts ∙ each_again number_of decimal is_number number_again (d ∷ ds) h

pub deltas_again : (ds : List ℕ) (rest : List (List ℕ)) → Skips (codes "seq=") rest → list_all is_number ds ≡ true → deltas_at (deltas_words ds ++ rest) ≡ Ok (ds, rest)
unfolding deltas_at
deltas_again [] rest skips h = option_none (codes "seq=") deltas_of [] rest skips
deltas_again (d ∷ ds) rest skips h = option_again (codes "seq=") deltas_of [] (numbers_text (d ∷ ds)) (d ∷ ds) rest (all_deltas d ds h)

-- ---- index=

pub colon_is : (w : List ℕ) (x : List ℕ × List ℕ) → at_colon w ≡ Some x → w ≡ x.0 ++ 58 ∷ x.1
colon_is [] x e = absurd cc
colon_is (b ∷ bs) x e = by_test (eqb b 58) refl (at_colon bs) (λ y f. colon_is bs y f) e
  where
    by_test : (t : Bool) → eqb b 58 ≡ t → (o : Option (List ℕ × List ℕ)) → ((y : List ℕ × List ℕ) → o ≡ Some y → bs ≡ y.0 ++ 58 ∷ y.1) → cond t (Some ([], bs)) (onto_name b o) ≡ Some x → b ∷ bs ≡ x.0 ++ 58 ∷ x.1
    by_test true h o known e = let it : ([], bs) ≡ x = cc in let same : b ≡ 58 = eqb-true b 58 h in rw (← it, same) refl
    by_test false h None known e = absurd cc
    by_test false h (Some y) known e = let it : (b ∷ y.0, y.1) ≡ x = cc in rw (← it) (ap (λ (t : List ℕ). b ∷ t) (known y refl))

-- a colon at a place, and none before it
pub colon_at : (text : List ℕ) (at : ℕ) → at < length text → ((k : ℕ) → k < at → eqb (get_or text k 0) 58 ≡ false) → eqb (get_or text at 0) 58 ≡ true → at_colon text ≡ Some (take at text, drop (suc at) text)
colon_at [] at lt before here = absurd (omega arith)
colon_at (b ∷ bs) zero lt before here = rw here refl
colon_at (b ∷ bs) (suc at) lt before here =
    let other : eqb b 58 ≡ false = before 0 (omega arith) in
    rw other (ap (onto_name b) (colon_at bs at (omega arith) (λ k h. before (suc k) (omega arith)) here))

no_colon : (text : List ℕ) → ((k : ℕ) → k < length text → eqb (get_or text k 0) 58 ≡ false) → at_colon text ≡ None
no_colon [] none = refl
no_colon (b ∷ bs) none =
    let other : eqb b 58 ≡ false = none 0 (omega arith) in
    rw other (ap (onto_name b) (no_colon bs (λ k h. none (suc k) (omega arith))))

pub colon_none : (text : List ℕ) → position (λ b. eqb b 58) text ≡ None → at_colon text ≡ None
colon_none text e = no_colon text (λ k h. none k h)
  where
    none : (k : ℕ) → k < length text → eqb (get_or text k 0) 58 ≡ false
    none k h =
        let past : length text ≤ position_or_len (λ b. eqb b 58) text = grind (arith, common_steps) in
        fails_before_first (λ b. eqb b 58) text k 0 (omega arith)

colon_again : (name key : List ℕ) → lacks 58 name ≡ true → at_colon (name ++ 58 ∷ key) ≡ Some (name, key)
colon_again [] key h = refl
colon_again (b ∷ name) key h =
    let x = and_parts (not (eqb b 58)) _ h in
    let it : eqb b 58 ≡ false = other (eqb b 58) x.0 in
    rw it (ap (onto_name b) (colon_again name key x.1))
  where
    other : (t : Bool) → not t ≡ true → t ≡ false
    other true h = cc
    other false h = refl

entry_is : (w : List ℕ) (e : IndexEntry) → entry_of w ≡ Ok e → (w ≡ spelt e.name ++ (codes ":" ++ spelt e.key)) × (is_entry e ≡ true)
unfolding entry_of
entry_is w e h = by_colon (at_colon w) (colon_is w) h
  where
    by_colon : (o : Option (List ℕ × List ℕ)) → ((x : List ℕ × List ℕ) → o ≡ Some x → w ≡ x.0 ++ 58 ∷ x.1) → entry_in o ≡ Ok e → (w ≡ spelt e.name ++ (codes ":" ++ spelt e.key)) × (is_entry e ≡ true)
    by_colon None known h = absurd cc
    by_colon (Some x) known h =
        let k = bind_ok _ _ _ h in
        let n = bind_ok _ _ _ k.2 in
        let it : record { name = n.0; key = k.0 } ≡ e = cc (n.2) in
        let key = key_is x.1 k.0 k.1 in
        let name = name_is x.0 n.0 n.1 in
        let text : w ≡ spelt n.0 ++ 58 ∷ spelt k.0 = known x refl ∙ ap (λ (v : List ℕ). v ++ 58 ∷ x.1) name.0 ∙ ap (λ (v : List ℕ). spelt n.0 ++ 58 ∷ v) key.0 in
        subst (λ (q : IndexEntry). (w ≡ spelt q.name ++ (codes ":" ++ spelt q.key)) × (is_entry q ≡ true)) it (text, and_from _ _ name.1 key.1)

pub entry_option_is : (w : List ℕ) (e : IndexEntry) → entry_option w ≡ Ok e → (w ≡ entry_word e) × (is_entry e ≡ true)
unfolding entry_option
entry_option_is w e h = by_text (after (codes "index=") w) (λ text. after_is (codes "index=") w text) h
  where
    by_text : (t : Option (List ℕ)) → ((text : List ℕ) → t ≡ Some text → w ≡ codes "index=" ++ text) → entry_given t ≡ Ok e → (w ≡ entry_word e) × (is_entry e ≡ true)
    by_text None front h = absurd cc
    by_text (Some text) front h =
        let s = entry_is text e h in
        (front text refl ∙ ap (λ (v : List ℕ). codes "index=" ++ v) s.0, s.1)

entry_again : (e : IndexEntry) → is_entry e ≡ true → entry_of (spelt e.name ++ (codes ":" ++ spelt e.key)) ≡ Ok e
unfolding entry_of
entry_again e h =
    let x = and_parts (is_name e.name) (is_key e.key) h in
    rw (colon_again (spelt e.name) (spelt e.key) (spelt_lacks e.name), key_again e.key x.1, name_again e.name x.0) refl

pub entry_option_again : (e : IndexEntry) → is_entry e ≡ true → entry_option (entry_word e) ≡ Ok e
unfolding entry_option
entry_option_again e h = entry_again e h

-- ---- by=

by_is : (w : List ℕ) (b : Option (List ℕ)) → by_of w ≡ Ok b → (by_words b ≡ (codes "by=" ++ w) ∷ []) × (is_by b ≡ true)
unfolding by_of
by_is w b h =
    let n = bind_ok (name_of w) (λ name. Ok (Some name)) b h in
    let it : Some n.0 ≡ b = cc (n.2) in
    let s = name_is w n.0 n.1 in
    (ap by_words (sym it) ∙ ap (λ (v : List ℕ). (codes "by=" ++ v) ∷ []) (sym s.0), rw (← it) s.1)

pub index_is : (ws : List (List ℕ)) (b : Option (List ℕ)) → index_of ws ≡ Ok b → (ws ≡ by_words b) × (is_by b ≡ true)
unfolding index_of by_at
index_is ws b h =
    let x = bind_ok (by_at ws) (λ x. options_end x.1 >>= λ u. Ok x.0) b h in
    let n = bind_ok (options_end x.0.1) (λ u. Ok x.0.0) b x.2 in
    let end : x.0.1 ≡ [] = options_end_is x.0.1 n.0 n.1 in
    let it : x.0.0 ≡ b = cc (n.2) in
    let s = option_is (codes "by=") by_of None by_words is_by (record { unspelt = refl; good = refl; found = by_is }) ws x.0.0 x.0.1 x.1 in
    (last ws (by_words x.0.0) x.0.1 s.0 end ∙ ap by_words it, ap is_by (sym it) ∙ s.1)

some_by : (name : List ℕ) → is_name name ≡ true → by_of (spelt name) ≡ Ok (Some name)
unfolding by_of
some_by name h = rw (name_again name h) refl

pub index_again : (b : Option (List ℕ)) → is_by b ≡ true → index_of (by_words b) ≡ Ok b
unfolding index_of by_at
index_again None h = refl
index_again (Some name) h = rw (option_again (codes "by=") by_of None (spelt name) (Some name) [] (some_by name h)) refl

-- ---- which options don't come next

pub skips_entries : (name : List ℕ) → ((t : List ℕ) → after name (codes "index=" ++ t) ≡ None) → (es : List IndexEntry) → Skips name (map entry_word es)
skips_entries name other [] = tt
skips_entries name other (e ∷ es) = other (spelt e.name ++ (codes ":" ++ spelt e.key))

pub skips_deltas : (name : List ℕ) → ((t : List ℕ) → after name (codes "seq=" ++ t) ≡ None) → (ds : List ℕ) (rest : List (List ℕ)) → Skips name rest → Skips name (deltas_words ds ++ rest)
skips_deltas name other [] rest skips = skips
skips_deltas name other (d ∷ ds) rest skips = other (numbers_text (d ∷ ds))

pub skips_session : (name : List ℕ) → ((t : List ℕ) → after name (codes "session=" ++ t) ≡ None) → (s : Option ℕ) (rest : List (List ℕ)) → Skips name rest → Skips name (session_words s ++ rest)
skips_session name other None rest skips = skips
skips_session name other (Some n) rest skips = other (decimal n)
