-- A construct that is read is the one that was written, and what was written is read again.
use Rattle.std.proofs.Common.{suc, length, map, ◌≡◌, ◌∙◌, ℕ, ◌++◌, true, ◌&&◌, List, [], ◌∷◌, codes, decimal, Ok, Option, Some, None, inl, inr, refl, sym, ap, subst, arith}
use Rattle.std.specs.List.{list_all}
use Rattle.std.specs.Str.{bytes_eq}
use Rattle.std.proofs.lemmas.Bool.{eqb-true, and_parts, and_from}
use Rattle.std.proofs.lemmas.List.{append-nil}
use Rattle.ox_ops.specs.declared.write.Put.{Put}
use Rattle.ox_ops.specs.declared.write.Delete.{Delete}
use Rattle.ox_order.specs.declared.range.Lo.{Lo}
use Rattle.ox_order.specs.declared.range.Lo.TheVariants.{Start, At, Past}
use Rattle.ox_order.specs.declared.range.Hi.{Hi}
use Rattle.ox_order.specs.declared.range.Hi.TheVariants.{End, Before}
use Rattle.ox_order.specs.declared.range.KeyRange.{KeyRange}
use Rattle.ox_schedule.specs.Outcome.{◌>>=◌}
use Rattle.ox_text.specs.Words.{spelt, value_word, lo_word, hi_word, range_words}
use Rattle.ox_schedule.specs.Spelling.{is_key, is_value, is_number, is_expect, is_session, is_entry, is_empty, expect_words, session_words, deltas_words, entry_word, are_options, is_put, put_words, is_delete, delete_words, is_lo, is_hi, is_range, is_by, by_words, compare_word, is_query, query_words}
use Rattle.ox_ops.specs.declared.query.Compare.{Compare}
use Rattle.ox_ops.specs.declared.query.Compare.TheVariants.{Equal, Floor, Ceiling, Lower, Higher}
use Rattle.ox_ops.specs.declared.query.ShardQuery.{ShardQuery}
use Rattle.ox_ops.specs.declared.query.ShardQuery.TheVariants as query
use Rattle.ox_schedule.specs.Reading.{after, word_at, key_of, key_at, value_of, value_at, number_of, number_at, single_of, notices_of, expect_at, entry_option, put_of, delete_of, lo_given, lo_of, hi_of, range_at, range_of, ends_of, compare_of, get_of}
use Rattle.ox_schedule.proofs.Words.{same_bytes, no_mark, not_star, key_is, key_again, value_is, value_again, number_is, number_again}
use Rattle.ox_schedule.proofs.Steps.{after_is, after_none, bind_ok, chosen, then, last, word_is, options_end_is}
use Rattle.ox_schedule.proofs.OptionLemmas.{each_is, each_again, expect_at_is, expect_again, session_at_is, session_again, deltas_at_is, deltas_again, entry_option_is, entry_option_again, index_is, index_again, Skips, skips_entries, skips_deltas, skips_session}

-- ---- fields

pub key_at_is : (ws : List (List ℕ)) (x : List ℕ × List (List ℕ)) → key_at ws ≡ Ok x → (ws ≡ spelt x.0 ∷ x.1) × (is_key x.0 ≡ true)
unfolding key_at
key_at_is ws x h =
    let w = bind_ok (word_at ws) (λ w. key_of w.0 >>= λ key. Ok (key, w.1)) x h in
    let k = bind_ok (key_of w.0.0) (λ key. Ok (key, w.0.1)) x w.2 in
    let it : (k.0, w.0.1) ≡ x = cc (k.2) in
    let s = key_is w.0.0 k.0 k.1 in
    (rw (← it) (word_is ws w.0 w.1 ∙ ap (λ (v : List ℕ). v ∷ w.0.1) s.0), rw (← it) s.1)

pub value_at_is : (ws : List (List ℕ)) (x : List ℕ × List (List ℕ)) → value_at ws ≡ Ok x → (ws ≡ value_word x.0 ∷ x.1) × (is_value x.0 ≡ true)
unfolding value_at
value_at_is ws x h =
    let w = bind_ok (word_at ws) (λ w. value_of w.0 >>= λ value. Ok (value, w.1)) x h in
    let k = bind_ok (value_of w.0.0) (λ value. Ok (value, w.0.1)) x w.2 in
    let it : (k.0, w.0.1) ≡ x = cc (k.2) in
    let s = value_is w.0.0 k.0 k.1 in
    (rw (← it) (word_is ws w.0 w.1 ∙ ap (λ (v : List ℕ). v ∷ w.0.1) s.0), rw (← it) s.1)

pub number_at_is : (ws : List (List ℕ)) (x : ℕ × List (List ℕ)) → number_at ws ≡ Ok x → (ws ≡ decimal x.0 ∷ x.1) × (is_number x.0 ≡ true)
unfolding number_at
number_at_is ws x h =
    let w = bind_ok (word_at ws) (λ w. number_of w.0 >>= λ n. Ok (n, w.1)) x h in
    let k = bind_ok (number_of w.0.0) (λ n. Ok (n, w.0.1)) x w.2 in
    let it : (k.0, w.0.1) ≡ x = cc (k.2) in
    let s = number_is w.0.0 k.0 k.1 in
    (rw (← it) (word_is ws w.0 w.1 ∙ ap (λ (v : List ℕ). v ∷ w.0.1) s.0), rw (← it) s.1)

pub single_is : (ws : List (List ℕ)) (n : ℕ) → single_of ws ≡ Ok n → (ws ≡ decimal n ∷ []) × (is_number n ≡ true)
unfolding single_of
single_is ws n h =
    let a = bind_ok _ _ _ h in
    let e = bind_ok _ _ _ a.2 in
    let number = number_at_is ws a.0 a.1 in
    let end : a.0.1 ≡ [] = options_end_is a.0.1 e.0 e.1 in
    let it : a.0.0 ≡ n = cc (e.2) in
    (rw (← it) (then ws _ _ _ number.0 end), rw (← it) number.1)

pub single_again : (n : ℕ) → is_number n ≡ true → single_of (decimal n ∷ []) ≡ Ok n
unfolding single_of number_at
single_again n h = rw (number_again n h) refl

pub notices_is : (ws : List (List ℕ)) (q : ShardQuery) → notices_of ws ≡ Ok q → (codes "notices" ∷ ws ≡ query_words q) × (is_query q ≡ true)
unfolding notices_of
notices_is ws q h =
    let a = bind_ok _ _ _ h in
    let s = bind_ok _ _ _ a.2 in
    let past = number_at_is ws a.0 a.1 in
    let skip = single_is a.0.1 s.0 s.1 in
    let it : query.Notices a.0.0 s.0 ≡ q = cc (s.2) in
    let words : ws ≡ decimal a.0.0 ∷ decimal s.0 ∷ [] = then ws _ _ _ past.0 skip.0 in
    subst (λ (r : ShardQuery). (codes "notices" ∷ ws ≡ query_words r) × (is_query r ≡ true)) it (ap (λ (t : List (List ℕ)). codes "notices" ∷ t) words, and_from _ _ past.1 skip.1)

pub notices_again : (past skip : ℕ) → is_number past && is_number skip ≡ true → notices_of (decimal past ∷ decimal skip ∷ []) ≡ Ok (query.Notices past skip)
unfolding notices_of number_at
notices_again past skip h = let x = and_parts (is_number past) (is_number skip) h in rw (number_again past x.0, single_again skip x.1) refl

-- ---- put

pub put_is : (ws : List (List ℕ)) (p : Put) → put_of ws ≡ Ok p → (ws ≡ put_words p) × (is_put p ≡ true)
unfolding put_of
put_is ws p h =
    let k = bind_ok _ _ _ h in
    let v = bind_ok _ _ _ k.2 in
    let e = bind_ok _ _ _ v.2 in
    let s = bind_ok _ _ _ e.2 in
    let d = bind_ok _ _ _ s.2 in
    let i = bind_ok _ _ _ d.2 in
    let key = key_at_is ws k.0 k.1 in
    let value = value_at_is k.0.1 v.0 v.1 in
    let expect = expect_at_is v.0.1 e.0.0 e.0.1 e.1 in
    let session = session_at_is e.0.1 s.0.0 s.0.1 s.1 in
    let deltas = deltas_at_is s.0.1 d.0.0 d.0.1 d.1 in
    let entries = each_is entry_option entry_word is_entry entry_option_is d.0.1 i.0 i.1 in
    let it : record { key = k.0.0; value = v.0.0; expect = e.0.0; session = s.0.0; deltas = d.0.0; indexes = i.0 } ≡ p = cc (i.2) in
    let four : s.0.1 ≡ deltas_words d.0.0 ++ map entry_word i.0 = deltas.0 ∙ ap (λ (t : List (List ℕ)). deltas_words d.0.0 ++ t) entries.0 in
    let three : e.0.1 ≡ session_words s.0.0 ++ (deltas_words d.0.0 ++ map entry_word i.0) = session.0 ∙ ap (λ (t : List (List ℕ)). session_words s.0.0 ++ t) four in
    let options : v.0.1 ≡ expect_words e.0.0 ++ (session_words s.0.0 ++ (deltas_words d.0.0 ++ map entry_word i.0)) = expect.0 ∙ ap (λ (t : List (List ℕ)). expect_words e.0.0 ++ t) three in
    let words : ws ≡ spelt k.0.0 ∷ value_word v.0.0 ∷ (expect_words e.0.0 ++ (session_words s.0.0 ++ (deltas_words d.0.0 ++ map entry_word i.0))) = then ws _ _ _ key.0 (then k.0.1 _ _ _ value.0 options) in
    subst (λ (q : Put). (ws ≡ put_words q) × (is_put q ≡ true)) it
    (words, and_from _ _ (and_from _ _ key.1 value.1) (and_from _ _ (and_from _ _ (and_from _ _ expect.1 session.1) deltas.1) entries.1))

pub no_items : {A : Type 0} (xs : List A) → is_empty xs ≡ true → xs ≡ []
no_items [] h = refl
no_items (x ∷ xs) h = absurd (omega (arith, eqb-true (suc (length xs)) 0 h))

-- what the parts of a put that can be spelt are
pub record PutParts (p : Put) : Type 0 where
  pub key : is_key p.key ≡ true
  pub value : is_value p.value ≡ true
  pub expect : is_expect p.expect ≡ true
  pub session : is_session p.session ≡ true
  pub deltas : list_all is_number p.deltas ≡ true
  pub entries : list_all is_entry p.indexes ≡ true

pub put_parts : (p : Put) → is_put p ≡ true → PutParts p
put_parts p h =
    let a = and_parts (is_key p.key && is_value p.value) (are_options p) h in
    let b = and_parts (is_key p.key) (is_value p.value) a.0 in
    let c = and_parts (is_expect p.expect && is_session p.session && list_all is_number p.deltas) (list_all is_entry p.indexes) a.1 in
    let d = and_parts (is_expect p.expect && is_session p.session) (list_all is_number p.deltas) c.0 in
    let e = and_parts (is_expect p.expect) (is_session p.session) d.0 in
    record { key = b.0; value = b.1; expect = e.0; session = e.1; deltas = d.1; entries = c.1 }

pub put_again : (p : Put) → is_put p ≡ true → put_of (put_words p) ≡ Ok p
unfolding put_of key_at value_at
put_again p h =
    let x = put_parts p h in
    let entries : List (List ℕ) = map entry_word p.indexes in
    let deltas : List (List ℕ) = deltas_words p.deltas ++ entries in
    let session : List (List ℕ) = session_words p.session ++ deltas in
    let after_expect : Skips (codes "expect=") session = skips_session (codes "expect=") (λ t. refl) p.session deltas (skips_deltas (codes "expect=") (λ t. refl) p.deltas entries (skips_entries (codes "expect=") (λ t. refl) p.indexes)) in
    let after_session : Skips (codes "session=") deltas = skips_deltas (codes "session=") (λ t. refl) p.deltas entries (skips_entries (codes "session=") (λ t. refl) p.indexes) in
    let after_deltas : Skips (codes "seq=") entries = skips_entries (codes "seq=") (λ t. refl) p.indexes in
    rw (
      key_again p.key x.key,
      value_again p.value x.value,
      expect_again p.expect session after_expect x.expect,
      session_again p.session deltas after_session x.session,
      deltas_again p.deltas entries after_deltas x.deltas,
      each_again entry_option entry_word is_entry entry_option_again p.indexes x.entries,
    ) refl

-- ---- delete

pub delete_is : (ws : List (List ℕ)) (d : Delete) → delete_of ws ≡ Ok d → (ws ≡ delete_words d) × (is_delete d ≡ true)
unfolding delete_of
delete_is ws d h =
    let k = bind_ok _ _ _ h in
    let e = bind_ok _ _ _ k.2 in
    let n = bind_ok _ _ _ e.2 in
    let key = key_at_is ws k.0 k.1 in
    let expect = expect_at_is k.0.1 e.0.0 e.0.1 e.1 in
    let end : e.0.1 ≡ [] = options_end_is e.0.1 n.0 n.1 in
    let it : record { key = k.0.0; expect = e.0.0 } ≡ d = cc (n.2) in
    let words : ws ≡ spelt k.0.0 ∷ expect_words e.0.0 = then ws _ _ _ key.0 (last k.0.1 _ _ expect.0 end) in
    subst (λ (q : Delete). (ws ≡ delete_words q) × (is_delete q ≡ true)) it (words, and_from _ _ key.1 expect.1)

pub delete_again : (d : Delete) → is_delete d ≡ true → delete_of (delete_words d) ≡ Ok d
unfolding delete_of key_at
delete_again d h =
    let x = and_parts (is_key d.key) (is_expect d.expect) h in
    let expect : expect_at (expect_words d.expect) ≡ Ok (d.expect, []) = ap expect_at (sym (append-nil (expect_words d.expect))) ∙ expect_again d.expect [] tt x.1 in
    rw (key_again d.key x.0, expect) refl

-- ---- bounds

lo_is : (w : List ℕ) (lo : Lo) → lo_of w ≡ Ok lo → (w ≡ lo_word lo) × (is_lo lo ≡ true)
unfolding lo_of
lo_is w lo h =
    elim (chosen (bytes_eq w (codes "*")) (Ok Start) (lo_given w (after (codes ">") w)) (Ok lo) h) [
      | inl x ↦ let it : Start ≡ lo = cc (x.1) in subst (λ (l : Lo). (w ≡ lo_word l) × (is_lo l ≡ true)) it (same_bytes w (codes "*") x.0, refl)
      | inr x ↦ by_mark (after (codes ">") w) (λ text. after_is (codes ">") w text) x.1
    ]
  where
    by_mark : (o : Option (List ℕ)) → ((text : List ℕ) → o ≡ Some text → w ≡ codes ">" ++ text) → lo_given w o ≡ Ok lo → (w ≡ lo_word lo) × (is_lo lo ≡ true)
    by_mark None front h =
        let k = bind_ok _ _ _ h in
        let it : At k.0 ≡ lo = cc (k.2) in
        subst (λ (l : Lo). (w ≡ lo_word l) × (is_lo l ≡ true)) it (key_is w k.0 k.1)
    by_mark (Some text) front h =
        let k = bind_ok _ _ _ h in
        let it : Past k.0 ≡ lo = cc (k.2) in
        let s = key_is text k.0 k.1 in
        subst (λ (l : Lo). (w ≡ lo_word l) × (is_lo l ≡ true)) it (front text refl ∙ ap (λ (t : List ℕ). codes ">" ++ t) s.0, s.1)

lo_again : (lo : Lo) → is_lo lo ≡ true → lo_of (lo_word lo) ≡ Ok lo
unfolding lo_of
lo_again Start h = refl
lo_again (At key) h = rw (not_star key, after_none (codes ">") (spelt key) (λ rest e. no_mark 62 key rest refl (λ x. absurd (omega (arith, x))) e), key_again key h) refl
lo_again (Past key) h = rw (key_again key h) refl

hi_is : (w : List ℕ) (hi : Hi) → hi_of w ≡ Ok hi → (w ≡ hi_word hi) × (is_hi hi ≡ true)
unfolding hi_of
hi_is w hi h =
    elim (chosen (bytes_eq w (codes "*")) (Ok End) (key_of w >>= λ key. Ok (Before key)) (Ok hi) h) [
      | inl x ↦ let it : End ≡ hi = cc (x.1) in subst (λ (l : Hi). (w ≡ hi_word l) × (is_hi l ≡ true)) it (same_bytes w (codes "*") x.0, refl)
      | inr x ↦
          let k = bind_ok _ _ _ x.1 in
          let it : Before k.0 ≡ hi = cc (k.2) in
          subst (λ (l : Hi). (w ≡ hi_word l) × (is_hi l ≡ true)) it (key_is w k.0 k.1)
    ]

hi_again : (hi : Hi) → is_hi hi ≡ true → hi_of (hi_word hi) ≡ Ok hi
unfolding hi_of
hi_again End h = refl
hi_again (Before key) h = rw (not_star key, key_again key h) refl

pub range_at_is : (ws : List (List ℕ)) (x : KeyRange × List (List ℕ)) → range_at ws ≡ Ok x → (ws ≡ range_words x.0 ++ x.1) × (is_range x.0 ≡ true)
unfolding range_at
range_at_is ws x h =
    let a = bind_ok _ _ _ h in
    let lo = bind_ok _ _ _ a.2 in
    let b = bind_ok _ _ _ lo.2 in
    let hi = bind_ok _ _ _ b.2 in
    let first = lo_is a.0.0 lo.0 lo.1 in
    let second = hi_is b.0.0 hi.0 hi.1 in
    let it : (record { lo = lo.0; hi = hi.0 }, b.0.1) ≡ x = cc (hi.2) in
    let words : ws ≡ lo_word lo.0 ∷ hi_word hi.0 ∷ b.0.1 = then ws _ _ _ (word_is ws a.0 a.1 ∙ ap (λ (w : List ℕ). w ∷ a.0.1) first.0) (word_is a.0.1 b.0 b.1 ∙ ap (λ (w : List ℕ). w ∷ b.0.1) second.0) in
    subst (λ (q : KeyRange × List (List ℕ)). (ws ≡ range_words q.0 ++ q.1) × (is_range q.0 ≡ true)) it (words, and_from _ _ first.1 second.1)

pub range_at_again : (r : KeyRange) (rest : List (List ℕ)) → is_range r ≡ true → range_at (range_words r ++ rest) ≡ Ok (r, rest)
unfolding range_at
range_at_again r rest h =
    let x = and_parts (is_lo r.lo) (is_hi r.hi) h in
    rw (lo_again r.lo x.0, hi_again r.hi x.1) refl

pub range_is : (ws : List (List ℕ)) (r : KeyRange) → range_of ws ≡ Ok r → (ws ≡ range_words r) × (is_range r ≡ true)
unfolding range_of
range_is ws r h =
    let a = bind_ok _ _ _ h in
    let n = bind_ok _ _ _ a.2 in
    let s = range_at_is ws a.0 a.1 in
    let end : a.0.1 ≡ [] = options_end_is a.0.1 n.0 n.1 in
    let it : a.0.0 ≡ r = cc (n.2) in
    (last ws (range_words a.0.0) a.0.1 s.0 end ∙ ap range_words it, ap is_range (sym it) ∙ s.1)

pub range_again : (r : KeyRange) → is_range r ≡ true → range_of (range_words r) ≡ Ok r
unfolding range_of
range_again r h = rw (range_at_again r [] h) refl

pub ends_is : (ws : List (List ℕ)) (x : KeyRange × Option (List ℕ)) → ends_of ws ≡ Ok x → (ws ≡ range_words x.0 ++ by_words x.1) × (is_range x.0 && is_by x.1 ≡ true)
unfolding ends_of
ends_is ws x h =
    let a = bind_ok _ _ _ h in
    let b = bind_ok _ _ _ a.2 in
    let s = range_at_is ws a.0 a.1 in
    let t = index_is a.0.1 b.0 b.1 in
    let it : (a.0.0, b.0) ≡ x = cc (b.2) in
    subst (λ (q : KeyRange × Option (List ℕ)). (ws ≡ range_words q.0 ++ by_words q.1) × (is_range q.0 && is_by q.1 ≡ true)) it
    (s.0 ∙ ap (λ (t : List (List ℕ)). range_words a.0.0 ++ t) t.0, and_from _ _ s.1 t.1)

pub ends_again : (r : KeyRange) (by : Option (List ℕ)) → is_range r && is_by by ≡ true → ends_of (range_words r ++ by_words by) ≡ Ok (r, by)
unfolding ends_of
ends_again r by h =
    let x = and_parts (is_range r) (is_by by) h in
    rw (range_at_again r (by_words by) x.0, index_again by x.1) refl

-- ---- get

compare_is : (w : List ℕ) (c : Compare) → compare_of w ≡ Ok c → w ≡ compare_word c
unfolding compare_of
compare_is w c h =
    elim (chosen (bytes_eq w (codes "equal")) _ _ _ h) [
      | inl x ↦ let it : Equal ≡ c = cc (x.1) in same_bytes w _ x.0 ∙ ap compare_word it
      | inr x ↦ elim (chosen (bytes_eq w (codes "floor")) _ _ _ x.1) [
        | inl x ↦ let it : Floor ≡ c = cc (x.1) in same_bytes w _ x.0 ∙ ap compare_word it
        | inr x ↦ elim (chosen (bytes_eq w (codes "ceiling")) _ _ _ x.1) [
          | inl x ↦ let it : Ceiling ≡ c = cc (x.1) in same_bytes w _ x.0 ∙ ap compare_word it
          | inr x ↦ elim (chosen (bytes_eq w (codes "lower")) _ _ _ x.1) [
            | inl x ↦ let it : Lower ≡ c = cc (x.1) in same_bytes w _ x.0 ∙ ap compare_word it
            | inr x ↦ elim (chosen (bytes_eq w (codes "higher")) _ _ _ x.1) [
              | inl x ↦ let it : Higher ≡ c = cc (x.1) in same_bytes w _ x.0 ∙ ap compare_word it
              | inr x ↦ absurd (cc (x.1))
            ]
          ]
        ]
      ]
    ]

compare_again : (c : Compare) → compare_of (compare_word c) ≡ Ok c
unfolding compare_of
compare_again Equal = refl
compare_again Floor = refl
compare_again Ceiling = refl
compare_again Lower = refl
compare_again Higher = refl

pub get_is : (ws : List (List ℕ)) (q : ShardQuery) → get_of ws ≡ Ok q → (codes "get" ∷ ws ≡ query_words q) × (is_query q ≡ true)
unfolding get_of
get_is ws q h =
    let a = bind_ok _ _ _ h in
    let c = bind_ok _ _ _ a.2 in
    let k = bind_ok _ _ _ c.2 in
    let b = bind_ok _ _ _ k.2 in
    let first = compare_is a.0.0 c.0 c.1 in
    let key = key_at_is a.0.1 k.0 k.1 in
    let by = index_is k.0.1 b.0 b.1 in
    let it : query.Get c.0 k.0.0 b.0 ≡ q = cc (b.2) in
    let words : ws ≡ compare_word c.0 ∷ spelt k.0.0 ∷ by_words b.0 = then ws _ _ _ (word_is ws a.0 a.1 ∙ ap (λ (w : List ℕ). w ∷ a.0.1) first) (then a.0.1 _ _ _ key.0 by.0) in
    subst (λ (r : ShardQuery). (codes "get" ∷ ws ≡ query_words r) × (is_query r ≡ true)) it (ap (λ (t : List (List ℕ)). codes "get" ∷ t) words, and_from _ _ key.1 by.1)

pub get_again : (c : Compare) (key : List ℕ) (by : Option (List ℕ)) → is_key key && is_by by ≡ true → get_of (compare_word c ∷ spelt key ∷ by_words by) ≡ Ok (query.Get c key by)
unfolding get_of key_at
get_again c key by h = let x = and_parts (is_key key) (is_by by) h in rw (compare_again c, key_again key x.0, index_again by x.1) refl
