-- A batch that is read is the one that was written, and the other way round.
use Rattle.std.proofs.Common.{◌+◌, ◌≡◌, ◌∙◌, ◌<◌, ℕ, ◌++◌, Bool, true, false, not, ◌&&◌, eqb, cond, List, [], ◌∷◌, length, map, codes, Option, Some, None, Ok, inl, inr, refl, sym, ap, subst, arith, append_assoc}
use Rattle.std.specs.Str.{bytes_eq}
use Rattle.std.specs.List.{list_all, onto_first}
use Rattle.std.proofs.lemmas.Bool.{eqb-true, ne_eqb, and_parts, and_from}
use Rattle.std.proofs.lemmas.Grind.{common_steps}
use Rattle.std.proofs.lemmas.List.{append-nil, map-append}
use Rattle.std.proofs.lemmas.List.Folds.{list_all-append}
use Rattle.ox_ops.specs.declared.write.Expect.{Expect}
use Rattle.ox_order.specs.declared.range.Lo.{Lo}
use Rattle.ox_order.specs.declared.range.Lo.TheVariants.{Start, At, Past}
use Rattle.ox_order.specs.declared.range.Hi.{Hi}
use Rattle.ox_order.specs.declared.range.Hi.TheVariants.{End, Before}
use Rattle.ox_ops.specs.declared.write.Expect.TheVariants.{Any, Absent, Exactly}
use Rattle.ox_ops.specs.declared.write.IndexEntry.{IndexEntry}
use Rattle.ox_ops.specs.declared.write.Put.{Put}
use Rattle.ox_ops.specs.declared.write.Delete.{Delete}
use Rattle.ox_order.specs.declared.range.KeyRange.{KeyRange}
use Rattle.ox_ops.specs.declared.write.WriteBatch.{WriteBatch}
use Rattle.ox_schedule.specs.Shape.{ops_in}
use Rattle.ox_text.specs.Words.{spelt, value_word, lo_word, hi_word}
use Rattle.ox_schedule.specs.Spelling.{is_empty, expect_words, session_words, deltas_words, entry_word, put_options, is_put, is_delete, is_range, put_op, delete_op, range_op, batch_ops, joined, are_lawful}
use Rattle.ox_schedule.specs.Reading.{op_onto, ops_onto, batch_of, empty_batch, with_put, with_delete, with_range}
use Rattle.ox_schedule.proofs.Words.{same_bytes, no_mark, some_word}
use Rattle.ox_schedule.proofs.Steps.{bind_ok, chosen, word_is}
use Rattle.ox_schedule.proofs.Fields.{no_items, put_is, put_again, delete_is, delete_again, range_is, range_again}

-- ---- what is read

put_last : (ps : List Put) (p : Put) (ds : List Delete) (rs : List KeyRange) → ds ≡ [] → rs ≡ [] → (map put_op (ps ++ p ∷ []) ++ map delete_op ds) ++ map range_op rs ≡ ((map put_op ps ++ map delete_op ds) ++ map range_op rs) ++ put_op p ∷ []
put_last ps p ds rs d r = rw (d, r) (simp (append-nil, map-append))

delete_last : (ps : List Put) (ds : List Delete) (d : Delete) (rs : List KeyRange) → rs ≡ [] → (map put_op ps ++ map delete_op (ds ++ d ∷ [])) ++ map range_op rs ≡ ((map put_op ps ++ map delete_op ds) ++ map range_op rs) ++ delete_op d ∷ []
delete_last ps ds d rs r = rw r (simp (append-nil, map-append, append_assoc))

range_last : (ps : List Put) (ds : List Delete) (rs : List KeyRange) (r : KeyRange) → (map put_op ps ++ map delete_op ds) ++ map range_op (rs ++ r ∷ []) ≡ ((map put_op ps ++ map delete_op ds) ++ map range_op rs) ++ range_op r ∷ []
range_last ps ds rs r = simp (map-append, append_assoc)

all_more : {A : Type 0} (f : A → Bool) (xs : List A) (x : A) → list_all f xs ≡ true → f x ≡ true → list_all f (xs ++ x ∷ []) ≡ true
all_more f xs x h k = rw (list_all-append f xs (x ∷ []), h, k) refl

pub record Adds (b c : WriteBatch) (ops : List (List (List ℕ))) : Type 0 where
  pub words : batch_ops c ≡ batch_ops b ++ ops
  pub lawful : are_lawful b ≡ true → are_lawful c ≡ true

pub verb_is : (ws : List (List ℕ)) (w verb : List ℕ) (rest : List (List ℕ)) (text : List (List ℕ)) → ws ≡ w ∷ rest → bytes_eq w verb ≡ true → rest ≡ text → ws ≡ verb ∷ text
verb_is ws w verb rest text e h f = e ∙ ap (λ (v : List ℕ). v ∷ rest) (same_bytes w verb h) ∙ ap (λ (t : List (List ℕ)). verb ∷ t) f

pub op_is : (b c : WriteBatch) (ws : List (List ℕ)) → op_onto b ws ≡ Ok c → Adds b c (ws ∷ [])
unfolding op_onto
op_is b c ws h =
    let w = bind_ok _ _ _ h in
    let word = word_is ws w.0 w.1 in
    elim (chosen (bytes_eq w.0.0 (codes "put")) _ _ _ w.2) [
      | inl x ↦ elim (chosen (is_empty b.deletes && is_empty b.ranges) _ _ _ x.1) [
        | inl y ↦
            let p = bind_ok _ _ _ y.1 in
            let it : with_put b p.0 ≡ c = cc (p.2) in
            let none = and_parts (is_empty b.deletes) (is_empty b.ranges) y.0 in
            let s = put_is w.0.1 p.0 p.1 in
            let op : ws ≡ put_op p.0 = verb_is ws w.0.0 _ w.0.1 _ word x.0 s.0 in
            subst (λ (q : WriteBatch). Adds b q (ws ∷ [])) it (record {
              words = put_last b.puts p.0 b.deletes b.ranges (no_items b.deletes none.0) (no_items b.ranges none.1) ∙ ap (λ (o : List (List ℕ)). batch_ops b ++ o ∷ []) (sym op);
              lawful = λ l. let m = and_parts _ _ l in let n = and_parts _ _ m.0 in and_from _ _ (and_from _ _ (all_more is_put b.puts p.0 n.0 s.1) n.1) m.1;
            })
        | inr y ↦ absurd (cc (y.1))
      ]
      | inr x ↦ elim (chosen (bytes_eq w.0.0 (codes "delete")) _ _ _ x.1) [
        | inl x ↦ elim (chosen (is_empty b.ranges) _ _ _ x.1) [
          | inl y ↦
              let d = bind_ok _ _ _ y.1 in
              let it : with_delete b d.0 ≡ c = cc (d.2) in
              let s = delete_is w.0.1 d.0 d.1 in
              let op : ws ≡ delete_op d.0 = verb_is ws w.0.0 _ w.0.1 _ word x.0 s.0 in
              subst (λ (q : WriteBatch). Adds b q (ws ∷ [])) it (record {
                words = delete_last b.puts b.deletes d.0 b.ranges (no_items b.ranges y.0) ∙ ap (λ (o : List (List ℕ)). batch_ops b ++ o ∷ []) (sym op);
                lawful = λ l. let m = and_parts _ _ l in let n = and_parts _ _ m.0 in and_from _ _ (and_from _ _ n.0 (all_more is_delete b.deletes d.0 n.1 s.1)) m.1;
              })
          | inr y ↦ absurd (cc (y.1))
        ]
        | inr x ↦ elim (chosen (bytes_eq w.0.0 (codes "deleterange")) _ _ _ x.1) [
          | inl x ↦
              let r = bind_ok _ _ _ x.1 in
              let it : with_range b r.0 ≡ c = cc (r.2) in
              let s = range_is w.0.1 r.0 r.1 in
              let op : ws ≡ range_op r.0 = verb_is ws w.0.0 _ w.0.1 _ word x.0 s.0 in
              subst (λ (q : WriteBatch). Adds b q (ws ∷ [])) it (record {
                words = range_last b.puts b.deletes b.ranges r.0 ∙ ap (λ (o : List (List ℕ)). batch_ops b ++ o ∷ []) (sym op);
                lawful = λ l. let m = and_parts _ _ l in and_from _ _ m.0 (all_more is_range b.ranges r.0 m.1 s.1);
              })
          | inr x ↦ absurd (cc (x.1))
        ]
      ]
    ]

ops_is : (b c : WriteBatch) (ops : List (List (List ℕ))) → ops_onto b ops ≡ Ok c → Adds b c ops
ops_is b c [] h = let it : b ≡ c = cc in subst (λ (q : WriteBatch). Adds b q []) it (record { words = sym (append-nil (batch_ops b)); lawful = λ l. l })
ops_is b c (op ∷ ops) h =
    let a = bind_ok _ _ _ h in
    let first = op_is b a.0 op a.1 in
    let others = ops_is a.0 c ops a.2 in
    record {
      words = others.words ∙ ap (λ (o : List (List (List ℕ))). o ++ ops) first.words ∙ append_assoc (batch_ops b) (op ∷ []) ops;
      lawful = λ l. others.lawful (first.lawful l);
    }

-- ---- between one + and the next

pub plus_first : (w : List ℕ) (ops : List (List (List ℕ))) → 0 < length ops → joined (onto_first w ops) ≡ w ∷ joined ops
plus_first w [] some = absurd (omega arith)
plus_first w (op ∷ []) some = refl
plus_first w (op ∷ next ∷ ops) some = refl

plus_next : (ops : List (List (List ℕ))) → 0 < length ops → joined ([] ∷ ops) ≡ codes "+" ∷ joined ops
plus_next [] some = absurd (omega arith)
plus_next (op ∷ ops) some = refl

some_onto : (w : List ℕ) (ops : List (List (List ℕ))) → 0 < length (onto_first w ops)
some_onto w [] = omega arith
some_onto w (op ∷ ops) = omega arith

pub some_ops : (ws : List (List ℕ)) → 0 < length (ops_in ws)
some_ops [] = omega arith
some_ops (w ∷ ws) = by_test (bytes_eq w (codes "+")) (ops_in ws) (some_onto w (ops_in ws))
  where
    by_test : (x : Bool) (ops : List (List (List ℕ))) → 0 < length (onto_first w ops) → 0 < length (cond x ([] ∷ ops) (onto_first w ops))
    by_test true ops h = omega arith
    by_test false ops h = h

pub joined_ops : (ws : List (List ℕ)) → joined (ops_in ws) ≡ ws
joined_ops [] = refl
joined_ops (w ∷ ws) = by_test (bytes_eq w (codes "+")) (same_bytes w (codes "+")) (joined_ops ws)
  where
    by_test : (x : Bool) → (x ≡ true → w ≡ codes "+") → joined (ops_in ws) ≡ ws → joined (cond x ([] ∷ ops_in ws) (onto_first w (ops_in ws))) ≡ w ∷ ws
    by_test true same known = plus_next (ops_in ws) (some_ops ws) ∙ ap (λ (t : List (List ℕ)). codes "+" ∷ t) known ∙ ap (λ (v : List ℕ). v ∷ ws) (sym (same refl))
    by_test false same known = plus_first w (ops_in ws) (some_ops ws) ∙ ap (λ (t : List (List ℕ)). w ∷ t) known

pub batch_is : (ws : List (List ℕ)) (b : WriteBatch) → batch_of ws ≡ Ok b → (ws ≡ joined (batch_ops b)) × (are_lawful b && not (eqb (length (batch_ops b)) 0) ≡ true)
unfolding batch_of
batch_is ws b h =
    let a = ops_is empty_batch b (ops_in ws) h in
    let all : batch_ops b ≡ ops_in ws = a.words in
    let some : eqb (length (batch_ops b)) 0 ≡ false = ne_eqb (length (batch_ops b)) 0 (λ e. absurd (omega (arith, some_ops ws, ap length all))) in
    (sym (joined_ops ws) ∙ ap joined (sym all), and_from _ _ (a.lawful refl) (ap not some))

-- one operation by itself
pub alone_is : (ws : List (List ℕ)) (b : WriteBatch) → op_onto empty_batch ws ≡ Ok b → (ws ≡ joined (batch_ops b)) × (are_lawful b && eqb (length (batch_ops b)) 1 ≡ true)
alone_is ws b h =
    let a = op_is empty_batch b ws h in
    let all : batch_ops b ≡ ws ∷ [] = a.words in
    (sym (ap joined all), and_from _ _ (a.lawful refl) (rw all refl))

-- ---- what is written

front_op : (op rest : List (List ℕ)) → list_all (λ w. not (bytes_eq w (codes "+"))) op ≡ true → ops_in (op ++ (codes "+" ∷ rest)) ≡ op ∷ ops_in rest
front_op [] rest h = refl
front_op (w ∷ op) rest h =
    let x = and_parts (not (bytes_eq w (codes "+"))) _ h in
    let other : bytes_eq w (codes "+") ≡ false = not_true (bytes_eq w (codes "+")) x.0 in
    rw other (ap (onto_first w) (front_op op rest x.1))
  where
    not_true : (b : Bool) → not b ≡ true → b ≡ false
    not_true true h = cc
    not_true false h = refl

only_op : (op : List (List ℕ)) → list_all (λ w. not (bytes_eq w (codes "+"))) op ≡ true → ops_in op ≡ op ∷ []
only_op [] h = refl
only_op (w ∷ op) h =
    let x = and_parts (not (bytes_eq w (codes "+"))) _ h in
    let other : bytes_eq w (codes "+") ≡ false = not_true (bytes_eq w (codes "+")) x.0 in
    rw other (ap (onto_first w) (only_op op x.1))
  where
    not_true : (b : Bool) → not b ≡ true → b ≡ false
    not_true true h = cc
    not_true false h = refl

abbrev pub is_free : List (List ℕ) → Bool
is_free op = list_all (λ w. not (bytes_eq w (codes "+"))) op

pub ops_joined : (ops : List (List (List ℕ))) → 0 < length ops → list_all is_free ops ≡ true → ops_in (joined ops) ≡ ops
ops_joined [] some h = absurd (omega arith)
ops_joined (op ∷ []) some h = let x = and_parts (is_free op) true h in only_op op x.0
ops_joined (op ∷ next ∷ ops) some h =
    let x = and_parts (is_free op) (list_all is_free (next ∷ ops)) h in
    front_op op (joined (next ∷ ops)) x.0 ∙ ap (λ (t : List (List (List ℕ))). op ∷ t) (ops_joined (next ∷ ops) (omega arith) x.1)

free_key : (key : List ℕ) → bytes_eq (spelt key) (codes "+") ≡ false
free_key key = by_test (bytes_eq (spelt key) (codes "+")) (λ h. no_mark 43 key [] refl (λ e. absurd (omega (arith, e))) (same_bytes (spelt key) (codes "+") h))
  where
    by_test : (x : Bool) → (x ≡ true → ⊥) → x ≡ false
    by_test true k = absurd (k refl)
    by_test false k = refl

free_value : (value : List ℕ) → bytes_eq (value_word value) (codes "+") ≡ false
free_value [] = refl
free_value (b ∷ value) = rw (some_word b value) (free_key (b ∷ value))

free_expect : (e : Expect) → is_free (expect_words e) ≡ true
free_expect Any = refl
free_expect Absent = refl
free_expect (Exactly n) = refl

free_lo : (lo : Lo) → bytes_eq (lo_word lo) (codes "+") ≡ false
free_lo Start = refl
free_lo (At key) = free_key key
free_lo (Past key) = refl

free_hi : (hi : Hi) → bytes_eq (hi_word hi) (codes "+") ≡ false
free_hi End = refl
free_hi (Before key) = free_key key

free_session : (s : Option ℕ) → is_free (session_words s) ≡ true
free_session None = refl
free_session (Some n) = refl

free_deltas : (ds : List ℕ) → is_free (deltas_words ds) ≡ true
free_deltas [] = refl
free_deltas (d ∷ ds) = refl

free_entries : (es : List IndexEntry) → is_free (map entry_word es) ≡ true
free_entries [] = refl
free_entries (e ∷ es) = free_entries es

free_both : (a b : List (List ℕ)) → is_free a ≡ true → is_free b ≡ true → is_free (a ++ b) ≡ true
free_both a b h k = list_all-append (λ w. not (bytes_eq w (codes "+"))) a b ∙ and_from _ _ h k

free_options : (p : Put) → is_free (put_options p) ≡ true
free_options p =
    free_both (expect_words p.expect) (session_words p.session ++ (deltas_words p.deltas ++ map entry_word p.indexes)) (free_expect p.expect)
    (free_both (session_words p.session) (deltas_words p.deltas ++ map entry_word p.indexes) (free_session p.session)
    (free_both (deltas_words p.deltas) (map entry_word p.indexes) (free_deltas p.deltas) (free_entries p.indexes)))

free_put : (p : Put) → is_free (put_op p) ≡ true
free_put p = rw (free_key p.key, free_value p.value) (free_options p)

free_delete : (d : Delete) → is_free (delete_op d) ≡ true
free_delete d = rw (free_key d.key) (free_expect d.expect)

free_range : (r : KeyRange) → is_free (range_op r) ≡ true
free_range r = rw (free_lo r.lo, free_hi r.hi) refl

all_map : {A B : Type 0} (f : B → Bool) (g : A → B) (xs : List A) → ((x : A) → f (g x) ≡ true) → list_all f (map g xs) ≡ true
all_map f g [] h = refl
all_map f g (x ∷ xs) h = rw (h x, all_map f g xs h) refl

pub free_batch : (b : WriteBatch) → list_all is_free (batch_ops b) ≡ true
free_batch b = rw (list_all-append is_free (map put_op b.puts ++ map delete_op b.deletes) (map range_op b.ranges), list_all-append is_free (map put_op b.puts) (map delete_op b.deletes), all_map is_free put_op b.puts free_put, all_map is_free delete_op b.deletes free_delete, all_map is_free range_op b.ranges free_range) refl

puts_again : (ps qs : List Put) (more : List (List (List ℕ))) → list_all is_put qs ≡ true → ops_onto (record { puts = ps; deletes = []; ranges = [] }) (map put_op qs ++ more) ≡ ops_onto (record { puts = ps ++ qs; deletes = []; ranges = [] }) more
unfolding op_onto
puts_again ps [] more h = rw (append-nil ps) refl
puts_again ps (q ∷ qs) more h =
    let x = and_parts (is_put q) (list_all is_put qs) h in
    rw (put_again q x.0) (puts_again (ps ++ q ∷ []) qs more x.1 ∙ ap (λ (t : List Put). ops_onto (record { puts = t; deletes = []; ranges = [] }) more) (append_assoc ps (q ∷ []) qs))

deletes_again : (ps : List Put) (ds es : List Delete) (more : List (List (List ℕ))) → list_all is_delete es ≡ true → ops_onto (record { puts = ps; deletes = ds; ranges = [] }) (map delete_op es ++ more) ≡ ops_onto (record { puts = ps; deletes = ds ++ es; ranges = [] }) more
unfolding op_onto
deletes_again ps ds [] more h = rw (append-nil ds) refl
deletes_again ps ds (e ∷ es) more h =
    let x = and_parts (is_delete e) (list_all is_delete es) h in
    rw (delete_again e x.0) (deletes_again ps (ds ++ e ∷ []) es more x.1 ∙ ap (λ (t : List Delete). ops_onto (record { puts = ps; deletes = t; ranges = [] }) more) (append_assoc ds (e ∷ []) es))

ranges_again : (ps : List Put) (ds : List Delete) (rs qs : List KeyRange) → list_all is_range qs ≡ true → ops_onto (record { puts = ps; deletes = ds; ranges = rs }) (map range_op qs) ≡ Ok (record { puts = ps; deletes = ds; ranges = rs ++ qs })
unfolding op_onto
ranges_again ps ds rs [] h = rw (append-nil rs) refl
ranges_again ps ds rs (q ∷ qs) h =
    let x = and_parts (is_range q) (list_all is_range qs) h in
    rw (range_again q x.0) (ranges_again ps ds (rs ++ q ∷ []) qs x.1 ∙ ap (λ (t : List KeyRange). Ok (record { puts = ps; deletes = ds; ranges = t })) (append_assoc rs (q ∷ []) qs))

ops_again : (b : WriteBatch) → are_lawful b ≡ true → ops_onto empty_batch (batch_ops b) ≡ Ok b
ops_again b h =
    let m = and_parts _ _ h in
    let n = and_parts _ _ m.0 in
    ap (ops_onto empty_batch) (append_assoc (map put_op b.puts) (map delete_op b.deletes) (map range_op b.ranges))
    ∙ puts_again [] b.puts (map delete_op b.deletes ++ map range_op b.ranges) n.0
    ∙ deletes_again b.puts [] b.deletes (map range_op b.ranges) n.1
    ∙ ranges_again b.puts b.deletes [] b.ranges m.1

pub batch_split : (b : WriteBatch) → not (eqb (length (batch_ops b)) 0) ≡ true → ops_in (joined (batch_ops b)) ≡ batch_ops b
batch_split b h = ops_joined (batch_ops b) (some (batch_ops b) h) (free_batch b)
  where
    some : (ops : List (List (List ℕ))) → not (eqb (length ops) 0) ≡ true → 0 < length ops
    some [] h = cc
    some (op ∷ ops) h = omega arith

pub batch_again : (b : WriteBatch) → are_lawful b ≡ true → not (eqb (length (batch_ops b)) 0) ≡ true → batch_of (joined (batch_ops b)) ≡ Ok b
unfolding batch_of
batch_again b h k = rw (batch_split b k) (ops_again b h)

-- a batch of one operation is a put, a delete or a range
pub alone_cases : (P : WriteBatch → Type 0) → ((p : Put) → is_put p ≡ true → P (with_put empty_batch p)) → ((d : Delete) → is_delete d ≡ true → P (with_delete empty_batch d)) → ((r : KeyRange) → is_range r ≡ true → P (with_range empty_batch r)) → (b : WriteBatch) → are_lawful b ≡ true → eqb (length (batch_ops b)) 1 ≡ true → P b
alone_cases P put delete range b h one =
    let m = and_parts _ _ h in
    let n = and_parts _ _ m.0 in
    by_lists b.puts b.deletes b.ranges n.0 n.1 m.1 (count b.puts b.deletes b.ranges (eqb-true (length (batch_ops b)) 1 one))
  where
    count : (ps : List Put) (ds : List Delete) (rs : List KeyRange) → length ((map put_op ps ++ map delete_op ds) ++ map range_op rs) ≡ 1 → length ps + length ds + length rs ≡ 1
    count ps ds rs e = grind (arith, common_steps)

    by_lists : (ps : List Put) (ds : List Delete) (rs : List KeyRange) → list_all is_put ps ≡ true → list_all is_delete ds ≡ true → list_all is_range rs ≡ true → length ps + length ds + length rs ≡ 1 → P (record { puts = ps; deletes = ds; ranges = rs })
    by_lists [] [] [] p d r e = absurd cc
    by_lists (x ∷ []) [] [] p d r e = put x (and_parts (is_put x) true p).0
    by_lists [] (x ∷ []) [] p d r e = delete x (and_parts (is_delete x) true d).0
    by_lists [] [] (x ∷ []) p d r e = range x (and_parts (is_range x) true r).0
    by_lists (x ∷ y ∷ ps) ds rs p d r e = absurd (omega arith)
    by_lists (x ∷ []) (y ∷ ds) rs p d r e = absurd (omega arith)
    by_lists (x ∷ []) [] (y ∷ rs) p d r e = absurd (omega arith)
    by_lists [] (x ∷ y ∷ ds) rs p d r e = absurd (omega arith)
    by_lists [] (x ∷ []) (y ∷ rs) p d r e = absurd (omega arith)
    by_lists [] [] (x ∷ y ∷ rs) p d r e = absurd (omega arith)
