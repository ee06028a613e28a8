-- The forms of what replicas and coordinators say to one another are exact.
use Rattle.std.proofs.Common.{◌≡◌, ℕ, List, Some, refl, sym, ap}
use Rattle.std.proofs.lemmas.Option.{same_Some}
use Rattle.ox_types.specs.declared.log.Head.{Head}
use Rattle.ox_types.specs.declared.log.TermTable.{TermTable}
use Rattle.ox_types.specs.declared.log.Entry.{Entry}
use Rattle.ox_types.specs.declared.snapshot.Chunk.{Chunk}
use Rattle.ox_types.specs.declared.refusal.Refusal.{Refusal}
use Rattle.ox_bytes.specs.declared.fault.WireRule.TheVariants.{Range, Order}
use Rattle.ox_bytes.specs.Form.{IsExact, pair, empty}
use Rattle.ox_bytes.specs.FormLaws.{checked_exact, pair_exact, pair_by_exact, struct_exact, empty_exact, is_variant}
use Rattle.ox_bytes.specs.Fields.{number32}
use Rattle.ox_bytes.specs.FieldLaws.{choice_exact}
use Rattle.ox_bytes.specs.ListLaws.{list_by_exact}
use Rattle.ox_bytes.specs.NumberLaws.{number32_exact}
use Rattle.ox_bytes.specs.LogForms.{term, count, entry_offset, head, term_table, chunk, refusal}
use Rattle.ox_bytes.specs.LogLaws.{term_exact, count_exact, entry_offset_exact, entry_time_exact, entry_body_exact, head_exact, term_table_exact, chunk_exact, refusal_exact}
use Rattle.ox_quorum.specs.declared.config.Config.{Config}
use Rattle.ox_quorum.specs.Forms.{config, node_from}
use Rattle.ox_quorum.specs.FormLaws.{config_exact, node_from_exact}
use Rattle.ox_wire.specs.declared.body.Follower.{Follower}
use Rattle.ox_wire.specs.declared.body.Asked.{Asked}
use Rattle.ox_wire.specs.declared.body.Asked.TheVariants as asked_is
use Rattle.ox_wire.specs.declared.body.Body.{Body}
use Rattle.ox_wire.specs.declared.body.Body.TheVariants as body_is
use Rattle.ox_wire.specs.BodyForms.{follower, follower_from, followers_course, followers, entry_behind, entries_course, entries_number, entries_from, append, asked_tag, asked_new_term, asked_become_leader, asked_add_follower, asked, body_tag, body_new_term, body_become_leader, body_add_follower, body_fenced, body_ready, body_refused, body_truncate, body_append, body_snapshot, body_ack, body_want, body}

pub follower_exact : IsExact follower
unfolding follower
follower_exact = struct_exact _ _ (pair number32 term_table) (λ x. refl) (λ a. refl) (pair_exact number32 term_table number32_exact term_table_exact)

pub follower_from_exact : (least : ℕ) → IsExact (follower_from least)
unfolding follower_from
follower_from_exact least = struct_exact _ _ _ (λ x. refl) (λ a. refl) (pair_exact (node_from least) term_table (node_from_exact least) term_table_exact)

pub followers_exact : IsExact followers
followers_exact = list_by_exact followers_course follower_from_exact number32 0 number32_exact

pub entry_behind_exact : (top : ℕ) (next : ℕ × ℕ) → IsExact (entry_behind top next)
unfolding entry_behind
entry_behind_exact top next = struct_exact _ _ _ (λ x. refl) (λ a. refl)
    (pair_exact _ _ (checked_exact _ Order _ (checked_exact _ Range term term_exact)) (pair_exact _ _ (checked_exact _ Order entry_offset entry_offset_exact) (pair_exact _ _ entry_time_exact entry_body_exact)))

pub entries_number_exact : IsExact entries_number
unfolding entries_number
entries_number_exact = checked_exact _ Range number32 number32_exact

pub entries_from_exact : (top from : ℕ) → IsExact (entries_from top from)
entries_from_exact top from = list_by_exact (entries_course top) (entry_behind_exact top) entries_number (0, from) entries_number_exact

pub append_exact : IsExact append
unfolding append
append_exact = pair_by_exact term _ term_exact (λ t. pair_by_exact count _ count_exact (λ from. pair_exact count (entries_from t from) count_exact (entries_from_exact t from)))

asked_new_term_there : (x : Asked) (got : Unit {0}) → asked_new_term x ≡ Some got → asked_is.NewTerm ≡ x
asked_new_term_there asked_is.NewTerm got e = refl
asked_new_term_there _ got e = absurd cc

asked_become_leader_there : (x : Asked) (got : Unit {0}) → asked_become_leader x ≡ Some got → asked_is.BecomeLeader ≡ x
asked_become_leader_there asked_is.BecomeLeader got e = refl
asked_become_leader_there _ got e = absurd cc

asked_add_follower_there : (x : Asked) (got : Unit {0}) → asked_add_follower x ≡ Some got → asked_is.AddFollower ≡ x
asked_add_follower_there asked_is.AddFollower got e = refl
asked_add_follower_there _ got e = absurd cc

pub asked_exact : IsExact asked
unfolding asked
asked_exact = choice_exact asked_tag _ (
  is_variant asked_tag 0 (λ _. asked_is.NewTerm) asked_new_term empty asked_new_term_there (λ a. refl) (λ a. refl) empty_exact,
  (
    is_variant asked_tag 1 (λ _. asked_is.BecomeLeader) asked_become_leader empty asked_become_leader_there (λ a. refl) (λ a. refl) empty_exact,
    (
      is_variant asked_tag 2 (λ _. asked_is.AddFollower) asked_add_follower empty asked_add_follower_there (λ a. refl) (λ a. refl) empty_exact,
      tt,
    ),
  ),
)

body_new_term_there : (x : Body) (got : ℕ) → body_new_term x ≡ Some got → body_is.NewTerm got ≡ x
body_new_term_there (body_is.NewTerm t) got e = cc
body_new_term_there _ got e = absurd cc

body_become_leader_there : (x : Body) (got : ℕ × (Config × List Follower)) → body_become_leader x ≡ Some got → body_is.BecomeLeader got.0 got.1.0 got.1.1 ≡ x
body_become_leader_there (body_is.BecomeLeader t c fs) got e = sym (ap (λ (p : ℕ × (Config × List Follower)). body_is.BecomeLeader p.0 p.1.0 p.1.1) (same_Some (t, (c, fs)) got e))
body_become_leader_there _ got e = absurd cc

body_add_follower_there : (x : Body) (got : ℕ × Follower) → body_add_follower x ≡ Some got → body_is.AddFollower got.0 got.1 ≡ x
body_add_follower_there (body_is.AddFollower t f) got e = sym (ap (λ (p : ℕ × Follower). body_is.AddFollower p.0 p.1) (same_Some (t, f) got e))
body_add_follower_there _ got e = absurd cc

body_fenced_there : (x : Body) (got : ℕ × TermTable) → body_fenced x ≡ Some got → body_is.Fenced got.0 got.1 ≡ x
body_fenced_there (body_is.Fenced t table) got e = sym (ap (λ (p : ℕ × TermTable). body_is.Fenced p.0 p.1) (same_Some (t, table) got e))
body_fenced_there _ got e = absurd cc

body_ready_there : (x : Body) (got : ℕ) → body_ready x ≡ Some got → body_is.Ready got ≡ x
body_ready_there (body_is.Ready t) got e = cc
body_ready_there _ got e = absurd cc

body_refused_there : (x : Body) (got : Asked × (ℕ × Refusal)) → body_refused x ≡ Some got → body_is.Refused got.0 got.1.0 got.1.1 ≡ x
body_refused_there (body_is.Refused a t r) got e = sym (ap (λ (p : Asked × (ℕ × Refusal)). body_is.Refused p.0 p.1.0 p.1.1) (same_Some (a, (t, r)) got e))
body_refused_there _ got e = absurd cc

body_truncate_there : (x : Body) (got : ℕ × ℕ) → body_truncate x ≡ Some got → body_is.Truncate got.0 got.1 ≡ x
body_truncate_there (body_is.Truncate t c) got e = sym (ap (λ (p : ℕ × ℕ). body_is.Truncate p.0 p.1) (same_Some (t, c) got e))
body_truncate_there _ got e = absurd cc

body_append_there : (x : Body) (got : ℕ × (ℕ × (ℕ × List Entry))) → body_append x ≡ Some got → body_is.Append got.0 got.1.0 got.1.1.0 got.1.1.1 ≡ x
body_append_there (body_is.Append t from c es) got e = sym (ap (λ (p : ℕ × (ℕ × (ℕ × List Entry))). body_is.Append p.0 p.1.0 p.1.1.0 p.1.1.1) (same_Some (t, (from, (c, es))) got e))
body_append_there _ got e = absurd cc

body_snapshot_there : (x : Body) (got : Chunk) → body_snapshot x ≡ Some got → body_is.Snapshot got ≡ x
body_snapshot_there (body_is.Snapshot c) got e = cc
body_snapshot_there _ got e = absurd cc

body_ack_there : (x : Body) (got : ℕ × ℕ) → body_ack x ≡ Some got → body_is.Ack got.0 got.1 ≡ x
body_ack_there (body_is.Ack t c) got e = sym (ap (λ (p : ℕ × ℕ). body_is.Ack p.0 p.1) (same_Some (t, c) got e))
body_ack_there _ got e = absurd cc

body_want_there : (x : Body) (got : ℕ × (Head × ℕ)) → body_want x ≡ Some got → body_is.Want got.0 got.1.0 got.1.1 ≡ x
body_want_there (body_is.Want t h n) got e = sym (ap (λ (p : ℕ × (Head × ℕ)). body_is.Want p.0 p.1.0 p.1.1) (same_Some (t, (h, n)) got e))
body_want_there _ got e = absurd cc

pub body_exact : IsExact body
unfolding body
body_exact = choice_exact body_tag _ (
  is_variant body_tag 0 (λ p. body_is.NewTerm p) body_new_term term body_new_term_there (λ a. refl) (λ a. refl) term_exact,
  (
    is_variant body_tag 1 (λ p. body_is.BecomeLeader p.0 p.1.0 p.1.1) body_become_leader (pair term (pair config followers)) body_become_leader_there (λ a. refl) (λ a. refl) (pair_exact term (pair config followers) term_exact (pair_exact config followers config_exact followers_exact)),
    (
      is_variant body_tag 2 (λ p. body_is.AddFollower p.0 p.1) body_add_follower (pair term follower) body_add_follower_there (λ a. refl) (λ a. refl) (pair_exact term follower term_exact follower_exact),
      (
        is_variant body_tag 3 (λ p. body_is.Fenced p.0 p.1) body_fenced (pair term term_table) body_fenced_there (λ a. refl) (λ a. refl) (pair_exact term term_table term_exact term_table_exact),
        (
          is_variant body_tag 4 (λ p. body_is.Ready p) body_ready term body_ready_there (λ a. refl) (λ a. refl) term_exact,
          (
            is_variant body_tag 5 (λ p. body_is.Refused p.0 p.1.0 p.1.1) body_refused (pair asked (pair term refusal)) body_refused_there (λ a. refl) (λ a. refl) (pair_exact asked (pair term refusal) asked_exact (pair_exact term refusal term_exact refusal_exact)),
            (
              is_variant body_tag 6 (λ p. body_is.Truncate p.0 p.1) body_truncate (pair term count) body_truncate_there (λ a. refl) (λ a. refl) (pair_exact term count term_exact count_exact),
              (
                is_variant body_tag 7 (λ p. body_is.Append p.0 p.1.0 p.1.1.0 p.1.1.1) body_append append body_append_there (λ a. refl) (λ a. refl) append_exact,
                (
                  is_variant body_tag 8 (λ p. body_is.Snapshot p) body_snapshot chunk body_snapshot_there (λ a. refl) (λ a. refl) chunk_exact,
                  (
                    is_variant body_tag 9 (λ p. body_is.Ack p.0 p.1) body_ack (pair term count) body_ack_there (λ a. refl) (λ a. refl) (pair_exact term count term_exact count_exact),
                    (
                      is_variant body_tag 10 (λ p. body_is.Want p.0 p.1.0 p.1.1) body_want (pair term (pair head number32)) body_want_there (λ a. refl) (λ a. refl) (pair_exact term (pair head number32) term_exact (pair_exact head number32 head_exact number32_exact)),
                      tt,
                    ),
                  ),
                ),
              ),
            ),
          ),
        ),
      ),
    ),
  ),
)
