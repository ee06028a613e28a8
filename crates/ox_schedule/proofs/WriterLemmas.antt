-- The text that is written word by word is the line.
use Rattle.std.proofs.Common.{◌≡◌, ◌∙◌, ℕ, Bool, true, false, ◌||◌, List, [], ◌∷◌, ◌++◌, map, drop, codes, decimal, refl, sym, ap, append_assoc}
use Rattle.std.specs.List.{flat_map, join_with_byte}
use Rattle.std.proofs.lemmas.List.{append-nil}
use Rattle.std.proofs.lemmas.Grind.{flat_map-append}
use Rattle.ox_ops.specs.declared.write.WriteBatch.{WriteBatch}
use Rattle.ox_wire.specs.declared.event.Turn.TheVariants.{Client, Deliver, Tick}
use Rattle.ox_schedule.specs.Events.{Event}
use Rattle.ox_wire.specs.declared.event.Event.TheVariants as event
use Rattle.ox_schedule.specs.Spelling.{numbers_text, deltas_words, put_op, delete_op, range_op, joined, batch_ops, request_words, turn_words, image_word, event_words, event_line}
use Rattle.ox_text.specs.Words.{behind_space, spaced}
use Rattle.ox_schedule.specs.Line.{behind_comma, has_some, plus_words, ops_behind}

pub join_spaced : (w : List ℕ) (ws : List (List ℕ)) → join_with_byte 32 (w ∷ ws) ≡ w ++ spaced ws
join_spaced w [] = sym (append-nil w)
join_spaced w (next ∷ ws) = ap (λ (t : List ℕ). w ++ 32 ∷ t) (join_spaced next ws)

-- ---- one operation after the other

op_written : (f : Bool) (op : List (List ℕ)) (ops : List (List (List ℕ))) → ops_behind f (op ∷ ops) ≡ (plus_words f ++ op) ++ ops_behind true ops
op_written f op [] = sym (append-nil (plus_words f ++ op))
op_written f op (next ∷ ops) = sym (append_assoc (plus_words f) op (codes "+" ∷ joined (next ∷ ops)))

pub spaced_append : (a b : List (List ℕ)) → spaced (a ++ b) ≡ spaced a ++ spaced b
spaced_append a b = flat_map-append behind_space a b

pub op_text : (text : List ℕ) (f : Bool) (op : List (List ℕ)) (ops : List (List (List ℕ))) → ((text ++ spaced (plus_words f)) ++ spaced op) ++ spaced (ops_behind true ops) ≡ text ++ spaced (ops_behind f (op ∷ ops))
op_text text f op ops =
    let line : spaced (ops_behind f (op ∷ ops)) ≡ (spaced (plus_words f) ++ spaced op) ++ spaced (ops_behind true ops) = ap spaced (op_written f op ops) ∙ spaced_append (plus_words f ++ op) (ops_behind true ops) ∙ ap (λ (t : List ℕ). t ++ spaced (ops_behind true ops)) (spaced_append (plus_words f) op) in
    regroup text (spaced (plus_words f)) (spaced op) (spaced (ops_behind true ops)) ∙ ap (λ (t : List ℕ). text ++ t) (sym line)
  where
    regroup : (a b c d : List ℕ) → ((a ++ b) ++ c) ++ d ≡ a ++ ((b ++ c) ++ d)
    regroup a b c d = simp append_assoc

-- ---- the operations of a batch

begun : (ops : List (List (List ℕ))) → ops_behind false ops ≡ joined ops
begun [] = refl
begun (op ∷ ops) = refl

joined_behind : (a b : List (List (List ℕ))) → joined (a ++ b) ≡ joined a ++ ops_behind (has_some a) b
joined_behind [] b = sym (begun b)
joined_behind (op ∷ []) [] = sym (append-nil op)
joined_behind (op ∷ []) (next ∷ b) = refl
joined_behind (op ∷ next ∷ a) b = ap (λ (t : List (List ℕ)). op ++ (codes "+" ∷ t)) (joined_behind (next ∷ a) b) ∙ sym (append_assoc op (codes "+" ∷ joined (next ∷ a)) (ops_behind true b))

some_map : {A B : Type 0} (f : A → B) (xs : List A) → has_some (map f xs) ≡ has_some xs
some_map f [] = refl
some_map f (x ∷ xs) = refl

some_append : {A : Type 0} (a b : List A) → has_some (a ++ b) ≡ has_some a || has_some b
some_append [] b = refl
some_append (x ∷ a) b = refl

batch_joined : (b : WriteBatch) → joined (batch_ops b) ≡ (ops_behind false (map put_op b.puts) ++ ops_behind (has_some b.puts) (map delete_op b.deletes)) ++ ops_behind (has_some b.puts || has_some b.deletes) (map range_op b.ranges)
batch_joined b =
    let two : has_some (map put_op b.puts ++ map delete_op b.deletes) ≡ has_some b.puts || has_some b.deletes = some_append (map put_op b.puts) (map delete_op b.deletes) ∙ rw (some_map put_op b.puts, some_map delete_op b.deletes) refl in
    joined_behind (map put_op b.puts ++ map delete_op b.deletes) (map range_op b.ranges)
    ∙ rw (two, joined_behind (map put_op b.puts) (map delete_op b.deletes), some_map put_op b.puts, begun (map put_op b.puts)) refl

pub batch_text : (text : List ℕ) (b : WriteBatch) → ((text ++ spaced (ops_behind false (map put_op b.puts))) ++ spaced (ops_behind (has_some b.puts) (map delete_op b.deletes))) ++ spaced (ops_behind (has_some b.puts || has_some b.deletes) (map range_op b.ranges)) ≡ text ++ spaced (joined (batch_ops b))
batch_text text b =
    let p = ops_behind false (map put_op b.puts) in
    let d = ops_behind (has_some b.puts) (map delete_op b.deletes) in
    let r = ops_behind (has_some b.puts || has_some b.deletes) (map range_op b.ranges) in
    let line : spaced (joined (batch_ops b)) ≡ (spaced p ++ spaced d) ++ spaced r = ap spaced (batch_joined b) ∙ spaced_append (p ++ d) r ∙ ap (λ (t : List ℕ). t ++ spaced r) (spaced_append p d) in
    regroup text (spaced p) (spaced d) (spaced r) ∙ ap (λ (t : List ℕ). text ++ t) (sym line)
  where
    regroup : (a b c d : List ℕ) → ((a ++ b) ++ c) ++ d ≡ a ++ ((b ++ c) ++ d)
    regroup a b c d = simp append_assoc

-- ---- the line of an event

behind : (w : List ℕ) (ws : List (List ℕ)) → drop 1 (spaced (w ∷ ws)) ≡ join_with_byte 32 (w ∷ ws)
behind w ws = sym (join_spaced w ws)

-- what stands behind the first space is the line
pub line_text : (e : Event) → drop 1 (spaced (event_words e)) ≡ event_line e
unfolding event_line
line_text (event.Takes (Client node shard r)) = behind (codes "client") (decimal node ∷ decimal shard ∷ request_words r)
line_text (event.Takes (Deliver message)) = behind (codes "deliver") (decimal message ∷ [])
line_text (event.Takes (Tick node shard ms)) = behind (codes "tick") (decimal node ∷ decimal shard ∷ decimal ms ∷ [])
line_text (event.Cut call i t) = behind (codes "cut") (decimal call ∷ image_word i ∷ turn_words t)
line_text (event.Stop node) = behind (codes "stop") (decimal node ∷ [])
line_text (event.Start node) = behind (codes "start") (decimal node ∷ [])
line_text (event.Lose node) = behind (codes "lose") (decimal node ∷ [])
line_text (event.Fence node shard term) = behind (codes "fence") (decimal node ∷ decimal shard ∷ decimal term ∷ [])
line_text (event.Lead node shard term) = behind (codes "lead") (decimal node ∷ decimal shard ∷ decimal term ∷ [])

-- ---- deltas

-- the first number, and the others behind commas
join_commas : (w : List ℕ) (ws : List (List ℕ)) → join_with_byte 44 (w ∷ ws) ≡ w ++ flat_map behind_comma ws
join_commas w [] = sym (append-nil w)
join_commas w (next ∷ ws) = ap (λ (t : List ℕ). w ++ 44 ∷ t) (join_commas next ws)

pub deltas_text : (text ds : List ℕ) (d : ℕ) (rest : List ℕ) → ds ≡ d ∷ rest → ((text ++ codes " seq=") ++ decimal d) ++ flat_map behind_comma (map decimal rest) ≡ text ++ spaced (deltas_words ds)
deltas_text text ds d rest e =
    let line : numbers_text (d ∷ rest) ≡ decimal d ++ flat_map behind_comma (map decimal rest) = join_commas (decimal d) (map decimal rest) in
    regroup text (codes " seq=") (decimal d) (flat_map behind_comma (map decimal rest))
    ∙ ap (λ (t : List ℕ). text ++ (codes " seq=" ++ t)) (sym line)
    ∙ ap (λ (t : List ℕ). text ++ (codes " seq=" ++ t)) (sym (append-nil (numbers_text (d ∷ rest))))
    ∙ ap (λ (ns : List ℕ). text ++ spaced (deltas_words ns)) (sym e)
  where
    regroup : (a b c d : List ℕ) → ((a ++ b) ++ c) ++ d ≡ a ++ (b ++ (c ++ d))
    regroup a b c d = simp append_assoc
