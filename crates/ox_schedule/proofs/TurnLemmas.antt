-- What an actor takes is read as it was written, and the other way round.
use Rattle.std.proofs.Common.{◌≡◌, ◌∙◌, ℕ, suc, ◌++◌, Bool, true, ◌&&◌, leb, cond, List, [], ◌∷◌, length, map, codes, decimal, Option, Some, None, Ok, Err, inl, inr, refl, ap, subst, arith}
use Rattle.std.specs.Str.{bytes_eq}
use Rattle.std.specs.List.{list_all}
use Rattle.std.proofs.lemmas.List.Folds.{list_all-append}
use Rattle.std.proofs.lemmas.Bool.Decides.{nat_tests}
use Rattle.std.proofs.lemmas.Bool.{and_parts, and_from}
use Rattle.ox_types.specs.declared.ended.LineRule.TheVariants as rule
use Rattle.ox_order.specs.declared.range.KeyRange.{KeyRange}
use Rattle.ox_ops.specs.declared.write.Expect.{Expect}
use Rattle.ox_ops.specs.declared.write.Expect.TheVariants.{Any, Absent, Exactly}
use Rattle.ox_ops.specs.declared.write.Put.{Put}
use Rattle.ox_ops.specs.declared.write.Delete.{Delete}
use Rattle.ox_ops.specs.declared.write.WriteBatch.{WriteBatch}
use Rattle.ox_ops.specs.declared.write.ShardCommand.TheVariants as command
use Rattle.ox_ops.specs.declared.query.Compare.{Compare}
use Rattle.ox_ops.specs.declared.query.Compare.TheVariants.{Equal, Floor, Ceiling, Lower, Higher}
use Rattle.ox_ops.specs.declared.query.ShardQuery.TheVariants as query
use Rattle.ox_schedule.specs.declared.schedule.Grouping.TheVariants as grouping
use Rattle.ox_schedule.specs.declared.schedule.Request.{Request}
use Rattle.ox_schedule.specs.declared.schedule.Request.TheVariants.{Write, Read}
use Rattle.ox_schedule.specs.Events.{Turn}
use Rattle.ox_wire.specs.declared.event.Turn.TheVariants.{Client, Deliver, Tick}
use Rattle.ox_schedule.specs.declared.schedule.Places.{Places}
use Rattle.ox_schedule.specs.Outcome.{◌>>=◌}
use Rattle.ox_schedule.specs.Shape.{op_fits, write_fits, get_fits, range_fits, single_fits, request_fits, turn_fits, is_compare}
use Rattle.ox_text.specs.Words.{spelt, range_words}
use Rattle.ox_schedule.specs.Spelling.{is_number, is_node, is_shard, is_put, is_delete, is_range, names_node, names_shard, is_request, is_turn, put_op, delete_op, range_op, batch_ops, joined, are_lawful, by_words, put_options, expect_words, compare_word, request_words, turn_words}
use Rattle.ox_schedule.specs.Reading.{word_at, number_of, empty_batch, with_put, with_delete, with_range, op_onto, alone_of, request_of, node_at, shard_at, client_of, tick_of, turn_of, single_of}
use Rattle.ox_schedule.proofs.Words.{number_is, number_again}
use Rattle.ox_schedule.proofs.Steps.{bind_ok, chosen, word_is}
use Rattle.ox_schedule.proofs.Fields.{put_again, delete_again, range_again, ends_is, ends_again, get_is, get_again, single_is, single_again, notices_is, notices_again}
use Rattle.ox_schedule.proofs.BatchLemmas.{verb_is, batch_is, batch_again, batch_split, alone_is, alone_cases}

-- ---- requests

abbrev IsRead : List (List ℕ) → Request → Type 0
IsRead ws r = (ws ≡ request_words r) × (is_request r ≡ true)

others_is : (ws : List (List ℕ)) (r : Request) → alone_of ws ≡ Ok r → (ws ≡ request_words r) × (is_request r ≡ true)
unfolding alone_of
others_is ws r h =
    let w = bind_ok _ _ _ h in
    let word = word_is ws w.0 w.1 in
    elim (chosen (bytes_eq w.0.0 (codes "notices")) _ _ _ w.2) [
      | inl x ↦
          let p = bind_ok _ _ _ x.1 in
          let it : Read p.0 ≡ r = cc (p.2) in
          let s = notices_is w.0.1 p.0 p.1 in
          subst (λ (q : Request). IsRead ws q) it (verb_is ws w.0.0 _ w.0.1 _ word x.0 refl ∙ s.0, s.1)
      | inr x ↦ elim (chosen (bytes_eq w.0.0 (codes "open")) _ _ _ x.1) [
        | inl x ↦
            let p = bind_ok _ _ _ x.1 in
            let it : Write grouping.Alone (command.Open p.0) ≡ r = cc (p.2) in
            let s = single_is w.0.1 p.0 p.1 in
            subst (λ (q : Request). IsRead ws q) it (verb_is ws w.0.0 _ w.0.1 _ word x.0 s.0, and_from true _ refl s.1)
        | inr x ↦ elim (chosen (bytes_eq w.0.0 (codes "close")) _ _ _ x.1) [
          | inl x ↦
              let p = bind_ok _ _ _ x.1 in
              let it : Write grouping.Alone (command.Close p.0) ≡ r = cc (p.2) in
              let s = single_is w.0.1 p.0 p.1 in
              subst (λ (q : Request). IsRead ws q) it (verb_is ws w.0.0 _ w.0.1 _ word x.0 s.0, and_from true _ refl s.1)
          | inr x ↦ elim (chosen (bytes_eq w.0.0 (codes "keep")) _ _ _ x.1) [
            | inl x ↦
                let p = bind_ok _ _ _ x.1 in
                let it : Read (query.KeepAlive p.0) ≡ r = cc (p.2) in
                let s = single_is w.0.1 p.0 p.1 in
                subst (λ (q : Request). IsRead ws q) it (verb_is ws w.0.0 _ w.0.1 _ word x.0 s.0, s.1)
            | inr x ↦
                let p = bind_ok _ _ _ x.1 in
                let it : Write grouping.Alone (command.Write p.0) ≡ r = cc (p.2) in
                subst (λ (q : Request). IsRead ws q) it (alone_is ws p.0 p.1)
          ]
        ]
      ]
    ]

pub request_is : (ws : List (List ℕ)) (r : Request) → request_of ws ≡ Ok r → (ws ≡ request_words r) × (is_request r ≡ true)
unfolding request_of
request_is ws r h =
    let w = bind_ok _ _ _ h in
    let word = word_is ws w.0 w.1 in
    elim (chosen (bytes_eq w.0.0 (codes "batch")) _ _ _ w.2) [
      | inl x ↦
          let p = bind_ok _ _ _ x.1 in
          let it : Write grouping.Batch (command.Write p.0) ≡ r = cc (p.2) in
          let s = batch_is w.0.1 p.0 p.1 in
          subst (λ (q : Request). IsRead ws q) it (verb_is ws w.0.0 _ w.0.1 _ word x.0 s.0, s.1)
      | inr x ↦ elim (chosen (bytes_eq w.0.0 (codes "get")) _ _ _ x.1) [
        | inl x ↦
            let p = bind_ok _ _ _ x.1 in
            let it : Read p.0 ≡ r = cc (p.2) in
            let s = get_is w.0.1 p.0 p.1 in
            subst (λ (q : Request). IsRead ws q) it (verb_is ws w.0.0 _ w.0.1 _ word x.0 refl ∙ s.0, s.1)
        | inr x ↦ elim (chosen (bytes_eq w.0.0 (codes "list")) _ _ _ x.1) [
          | inl x ↦
              let p = bind_ok _ _ _ x.1 in
              let it : Read (query.List p.0.0 p.0.1) ≡ r = cc (p.2) in
              let s = ends_is w.0.1 p.0 p.1 in
              subst (λ (q : Request). IsRead ws q) it (verb_is ws w.0.0 _ w.0.1 _ word x.0 s.0, s.1)
          | inr x ↦ elim (chosen (bytes_eq w.0.0 (codes "scan")) _ _ _ x.1) [
            | inl x ↦
                let p = bind_ok _ _ _ x.1 in
                let it : Read (query.Scan p.0.0 p.0.1) ≡ r = cc (p.2) in
                let s = ends_is w.0.1 p.0 p.1 in
                subst (λ (q : Request). IsRead ws q) it (verb_is ws w.0.0 _ w.0.1 _ word x.0 s.0, s.1)
            | inr x ↦ others_is ws r x.1
          ]
        ]
      ]
    ]

abbrev IsReadAlone : WriteBatch → Type 0
IsReadAlone b = request_of (joined (batch_ops b)) ≡ Ok (Write grouping.Alone (command.Write b))

alone_put : (p : Put) → is_put p ≡ true → IsReadAlone (with_put empty_batch p)
unfolding request_of alone_of op_onto
alone_put p h = rw (put_again p h) refl

alone_delete : (d : Delete) → is_delete d ≡ true → IsReadAlone (with_delete empty_batch d)
unfolding request_of alone_of op_onto
alone_delete d h = rw (delete_again d h) refl

alone_range : (r : KeyRange) → is_range r ≡ true → IsReadAlone (with_range empty_batch r)
unfolding request_of alone_of op_onto
alone_range r h = rw (range_again r h) refl

pub request_again : (r : Request) → is_request r ≡ true → request_of (request_words r) ≡ Ok r
unfolding request_of alone_of
request_again (Write grouping.Alone (command.Write b)) h = let x = and_parts (are_lawful b) _ h in alone_cases IsReadAlone alone_put alone_delete alone_range b x.0 x.1
request_again (Write grouping.Batch (command.Write b)) h = let x = and_parts (are_lawful b) _ h in rw (batch_again b x.0 x.1) refl
request_again (Write grouping.Alone (command.Open n)) h = rw (single_again n h) refl
request_again (Write grouping.Alone (command.Close n)) h = rw (single_again n h) refl
request_again (Write grouping.Batch (command.Open n)) h = absurd cc
request_again (Write grouping.Batch (command.Close n)) h = absurd cc
request_again (Write g (command.Expire n)) h = absurd cc
request_again (Read (query.Get c key by)) h = rw (get_again c key by h) refl
request_again (Read (query.List r by)) h = rw (ends_again r by h) refl
request_again (Read (query.Scan r by)) h = rw (ends_again r by h) refl
request_again (Read (query.Notices past skip)) h = rw (notices_again past skip h) refl
request_again (Read (query.KeepAlive n)) h = rw (single_again n h) refl

-- ---- events

pub node_is : (places : Places) (ws : List (List ℕ)) (x : ℕ × List (List ℕ)) → node_at places ws ≡ Ok x → (ws ≡ decimal x.0 ∷ x.1) × (is_number x.0 ≡ true) × (is_node places x.0 ≡ true)
unfolding node_at
node_is places ws x h =
    let w = bind_ok (word_at ws) (λ w. number_of w.0 >>= λ n. cond (is_node places n) (Ok (n, w.1)) (Err rule.Name)) x h in
    let n = bind_ok (number_of w.0.0) (λ n. cond (is_node places n) (Ok (n, w.0.1)) (Err rule.Name)) x w.2 in
    elim (chosen (is_node places n.0) (Ok (n.0, w.0.1)) (Err rule.Name) (Ok x) n.2) [
      | inl y ↦
          let it : (n.0, w.0.1) ≡ x = cc (y.1) in
          let s = number_is w.0.0 n.0 n.1 in
          subst (λ (q : ℕ × List (List ℕ)). (ws ≡ decimal q.0 ∷ q.1) × (is_number q.0 ≡ true) × (is_node places q.0 ≡ true)) it (word_is ws w.0 w.1 ∙ ap (λ (v : List ℕ). v ∷ w.0.1) s.0, s.1, y.0)
      | inr y ↦ absurd (cc (y.1))
    ]

pub shard_is : (places : Places) (ws : List (List ℕ)) (x : ℕ × List (List ℕ)) → shard_at places ws ≡ Ok x → (ws ≡ decimal x.0 ∷ x.1) × (is_number x.0 ≡ true) × (is_shard places x.0 ≡ true)
unfolding shard_at
shard_is places ws x h =
    let w = bind_ok (word_at ws) (λ w. number_of w.0 >>= λ n. cond (is_shard places n) (Ok (n, w.1)) (Err rule.Name)) x h in
    let n = bind_ok (number_of w.0.0) (λ n. cond (is_shard places n) (Ok (n, w.0.1)) (Err rule.Name)) x w.2 in
    elim (chosen (is_shard places n.0) (Ok (n.0, w.0.1)) (Err rule.Name) (Ok x) n.2) [
      | inl y ↦
          let it : (n.0, w.0.1) ≡ x = cc (y.1) in
          let s = number_is w.0.0 n.0 n.1 in
          subst (λ (q : ℕ × List (List ℕ)). (ws ≡ decimal q.0 ∷ q.1) × (is_number q.0 ≡ true) × (is_shard places q.0 ≡ true)) it (word_is ws w.0 w.1 ∙ ap (λ (v : List ℕ). v ∷ w.0.1) s.0, s.1, y.0)
      | inr y ↦ absurd (cc (y.1))
    ]

abbrev IsTaken : Places → List (List ℕ) → Turn → Type 0
IsTaken places ws t = (ws ≡ turn_words t) × (is_turn places t ≡ true)

client_is : (places : Places) (ws : List (List ℕ)) (t : Turn) → client_of places ws ≡ Ok t → IsTaken places (codes "client" ∷ ws) t
unfolding client_of
client_is places ws t h =
    let n = bind_ok _ _ _ h in
    let s = bind_ok _ _ _ n.2 in
    let r = bind_ok _ _ _ s.2 in
    let node = node_is places ws n.0 n.1 in
    let shard = shard_is places n.0.1 s.0 s.1 in
    let asked = request_is s.0.1 r.0 r.1 in
    let it : Client n.0.0 s.0.0 r.0 ≡ t = cc (r.2) in
    let words : ws ≡ decimal n.0.0 ∷ decimal s.0.0 ∷ request_words r.0 = node.0 ∙ ap (λ (t : List (List ℕ)). decimal n.0.0 ∷ t) (shard.0 ∙ ap (λ (t : List (List ℕ)). decimal s.0.0 ∷ t) asked.0) in
    subst (λ (q : Turn). IsTaken places (codes "client" ∷ ws) q) it
    (ap (λ (t : List (List ℕ)). codes "client" ∷ t) words, and_from _ _ (and_from _ _ (and_from _ _ node.1 node.2) (and_from _ _ shard.1 shard.2)) asked.1)

tick_is : (places : Places) (ws : List (List ℕ)) (t : Turn) → tick_of places ws ≡ Ok t → IsTaken places (codes "tick" ∷ ws) t
unfolding tick_of
tick_is places ws t h =
    let n = bind_ok _ _ _ h in
    let s = bind_ok _ _ _ n.2 in
    let m = bind_ok _ _ _ s.2 in
    let node = node_is places ws n.0 n.1 in
    let shard = shard_is places n.0.1 s.0 s.1 in
    let time = single_is s.0.1 m.0 m.1 in
    let it : Tick n.0.0 s.0.0 m.0 ≡ t = cc (m.2) in
    let words : ws ≡ decimal n.0.0 ∷ decimal s.0.0 ∷ decimal m.0 ∷ [] = node.0 ∙ ap (λ (t : List (List ℕ)). decimal n.0.0 ∷ t) (shard.0 ∙ ap (λ (t : List (List ℕ)). decimal s.0.0 ∷ t) time.0) in
    subst (λ (q : Turn). IsTaken places (codes "tick" ∷ ws) q) it
    (ap (λ (t : List (List ℕ)). codes "tick" ∷ t) words, and_from _ _ (and_from _ _ (and_from _ _ node.1 node.2) (and_from _ _ shard.1 shard.2)) time.1)

deliver_is : (places : Places) (ws : List (List ℕ)) (t : Turn) → (single_of ws >>= λ message. Ok (Deliver message)) ≡ Ok t → IsTaken places (codes "deliver" ∷ ws) t
deliver_is places ws t h =
    let m = bind_ok (single_of ws) (λ message. Ok (Deliver message)) t h in
    let number = single_is ws m.0 m.1 in
    let it : Deliver m.0 ≡ t = cc (m.2) in
    subst (λ (q : Turn). IsTaken places (codes "deliver" ∷ ws) q) it (ap (λ (t : List (List ℕ)). codes "deliver" ∷ t) number.0, number.1)

pub turn_found : (places : Places) (ws : List (List ℕ)) (t : Turn) → turn_of places ws ≡ Ok t → (ws ≡ turn_words t) × (is_turn places t ≡ true)
unfolding turn_of
turn_found places ws t h =
    let w = bind_ok _ _ _ h in
    let word = word_is ws w.0 w.1 in
    elim (chosen (bytes_eq w.0.0 (codes "client")) _ _ _ w.2) [
      | inl x ↦
          let c = client_is places w.0.1 t x.1 in
          (verb_is ws w.0.0 _ w.0.1 _ word x.0 refl ∙ c.0, c.1)
      | inr x ↦ elim (chosen (bytes_eq w.0.0 (codes "deliver")) _ _ _ x.1) [
        | inl x ↦
            let c = deliver_is places w.0.1 t x.1 in
            (verb_is ws w.0.0 _ w.0.1 _ word x.0 refl ∙ c.0, c.1)
        | inr x ↦ elim (chosen (bytes_eq w.0.0 (codes "tick")) _ _ _ x.1) [
          | inl x ↦
              let c = tick_is places w.0.1 t x.1 in
              (verb_is ws w.0.0 _ w.0.1 _ word x.0 refl ∙ c.0, c.1)
          | inr x ↦ absurd (cc (x.1))
        ]
      ]
    ]

pub node_again : (places : Places) (n : ℕ) (ws : List (List ℕ)) → names_node places n ≡ true → node_at places (decimal n ∷ ws) ≡ Ok (n, ws)
unfolding node_at
node_again places n ws h = let x = and_parts (is_number n) (is_node places n) h in rw (number_again n x.0, x.1) refl

pub shard_again : (places : Places) (s : ℕ) (ws : List (List ℕ)) → names_shard places s ≡ true → shard_at places (decimal s ∷ ws) ≡ Ok (s, ws)
unfolding shard_at
shard_again places s ws h = let x = and_parts (is_number s) (is_shard places s) h in rw (number_again s x.0, x.1) refl

pub turn_again : (places : Places) (t : Turn) → is_turn places t ≡ true → turn_of places (turn_words t) ≡ Ok t
unfolding turn_of client_of tick_of
turn_again places (Client node shard r) h =
    let a = and_parts _ _ h in
    let b = and_parts _ _ a.0 in
    rw (node_again places node (decimal shard ∷ request_words r) b.0, shard_again places shard (request_words r) b.1, request_again r a.1) refl
turn_again places (Deliver message) h = rw (single_again message h) refl
turn_again places (Tick node shard ms) h =
    let a = and_parts _ _ h in
    let b = and_parts _ _ a.0 in
    rw (node_again places node (decimal shard ∷ decimal ms ∷ []) b.0, shard_again places shard (decimal ms ∷ []) b.1, single_again ms a.1) refl

-- ---- their shape

put_fits : (p : Put) → op_fits (put_op p) ≡ true
unfolding write_fits
put_fits p = two_more (length (put_options p))
  where
    two_more : (n : ℕ) → leb 2 (suc (suc n)) ≡ true
    two_more n = grind (arith, nat_tests)

delete_fits : (d : Delete) → op_fits (delete_op d) ≡ true
unfolding write_fits
delete_fits d = by_expect d.expect
  where
    by_expect : (e : Expect) → leb 1 (suc (length (expect_words e))) && leb (suc (length (expect_words e))) 2 ≡ true
    by_expect Any = refl
    by_expect Absent = refl
    by_expect (Exactly n) = refl

range_op_fits : (r : KeyRange) → op_fits (range_op r) ≡ true
unfolding write_fits
range_op_fits r = refl

all_map : {A B : Type 0} (f : B → Bool) (g : A → B) (xs : List A) → ((x : A) → f (g x) ≡ true) → list_all f (map g xs) ≡ true
all_map f g [] h = refl
all_map f g (x ∷ xs) h = rw (h x, all_map f g xs h) refl

batch_fits : (b : WriteBatch) → list_all op_fits (batch_ops b) ≡ true
batch_fits b = rw (list_all-append op_fits (map put_op b.puts ++ map delete_op b.deletes) (map range_op b.ranges), list_all-append op_fits (map put_op b.puts) (map delete_op b.deletes), all_map op_fits put_op b.puts put_fits, all_map op_fits delete_op b.deletes delete_fits, all_map op_fits range_op b.ranges range_op_fits) refl

compare_fits : (c : Compare) → is_compare (compare_word c) ≡ true
compare_fits Equal = refl
compare_fits Floor = refl
compare_fits Ceiling = refl
compare_fits Lower = refl
compare_fits Higher = refl

get_has_shape : (c : Compare) (key : List ℕ) (by : Option (List ℕ)) → get_fits (compare_word c ∷ spelt key ∷ by_words by) ≡ true
get_has_shape c key None = rw (compare_fits c) refl
get_has_shape c key (Some name) = rw (compare_fits c) refl

ends_have_shape : (r : KeyRange) (by : Option (List ℕ)) → range_fits (length (range_words r ++ by_words by)) ≡ true
ends_have_shape r None = refl
ends_have_shape r (Some name) = refl

abbrev FitsAlone : WriteBatch → Type 0
FitsAlone b = request_fits (joined (batch_ops b)) ≡ true

alone_put_fits : (p : Put) → is_put p ≡ true → FitsAlone (with_put empty_batch p)
unfolding request_fits single_fits
alone_put_fits p h = put_fits p

alone_delete_fits : (d : Delete) → is_delete d ≡ true → FitsAlone (with_delete empty_batch d)
unfolding request_fits single_fits
alone_delete_fits d h = delete_fits d

alone_range_fits : (r : KeyRange) → is_range r ≡ true → FitsAlone (with_range empty_batch r)
unfolding request_fits single_fits
alone_range_fits r h = range_op_fits r

request_has_shape : (r : Request) → is_request r ≡ true → request_fits (request_words r) ≡ true
unfolding request_fits single_fits
request_has_shape (Write grouping.Alone (command.Write b)) h = let x = and_parts (are_lawful b) _ h in alone_cases FitsAlone alone_put_fits alone_delete_fits alone_range_fits b x.0 x.1
request_has_shape (Write grouping.Batch (command.Write b)) h = let x = and_parts (are_lawful b) _ h in rw (batch_split b x.1) (batch_fits b)
request_has_shape (Write g (command.Open n)) h = refl
request_has_shape (Write g (command.Close n)) h = refl
request_has_shape (Write g (command.Expire n)) h = absurd cc
request_has_shape (Read (query.Get c key by)) h = get_has_shape c key by
request_has_shape (Read (query.List r by)) h = ends_have_shape r by
request_has_shape (Read (query.Scan r by)) h = ends_have_shape r by
request_has_shape (Read (query.Notices past skip)) h = refl
request_has_shape (Read (query.KeepAlive n)) h = refl

pub turn_has_shape : (places : Places) (t : Turn) → is_turn places t ≡ true → turn_fits (turn_words t) ≡ true
unfolding turn_fits
turn_has_shape places (Client node shard r) h = let a = and_parts _ _ h in request_has_shape r a.1
turn_has_shape places (Deliver message) h = refl
turn_has_shape places (Tick node shard ms) h = refl
