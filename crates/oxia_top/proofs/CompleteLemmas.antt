-- How a command ends says when it must end well.
use Rattle.std.proofs.Common.{◌≡◌, ◌∙◌, ◌≤◌, ℕ, List, ◌++◌, Option, Some, None, length, length-append, append-nil, arith, ap, inl, inr, refl, ◌⊎◌}
use Rattle.ox_outside.specs.Stream.{Consumes, IsAtEnd}
use Rattle.ox_types.specs.declared.ended.Ended.{Ended}
use Rattle.ox_types.specs.declared.ended.Ended.TheVariants.{Done, Usage, BadLine, ReadFault, WriteFault, NoMemory, InputTooLong}
use Rattle.ox_schedule.specs.declared.schedule.Schedule.{Schedule}
use Rattle.oxia_top.specs.Top.{Outside, Ends, Replays, MustReplay, IsComplete}

-- what was read to its end is all that was told
all_read : (bytes taken : List ℕ) (after : Option (List ℕ)) → Consumes (Some bytes) after taken → IsAtEnd after → bytes ≡ taken
all_read bytes taken None h e = absurd h
all_read bytes taken (Some rest) h e = h ∙ ap (λ r. taken ++ r) e ∙ append-nil taken

no_longer : (bytes taken : List ℕ) (after : Option (List ℕ)) → Consumes (Some bytes) after taken → length taken ≤ length bytes
no_longer bytes taken None h = absurd h
no_longer bytes taken (Some rest) h = omega (arith, ap length h, length-append taken rest)

replayed : (words : List (List ℕ)) (o : Outside) (ended : Ended) (bytes : List ℕ) (s : Schedule) → Replays o ended → MustReplay words o bytes s → (ended ≡ Done) ⊎ (ended ≡ NoMemory)
replayed words o Done bytes s r m = inl refl
replayed words o (Usage word) bytes s r m = absurd r
replayed words o (BadLine line rule) bytes s r m =
    let taken = rw m.known at r.stops.read.taken in
    let same : bytes ≡ r.stops.bytes = all_read bytes r.stops.bytes o.source_after.told taken r.stops.read.ended in
    absurd (r.stops.unspelt s (rw same at m.spelt))
replayed words o ReadFault bytes s r m = absurd (m.reads r.stops.rose)
replayed words o WriteFault bytes s r m = absurd (m.writes r.rose)
replayed words o NoMemory bytes s r m = inr refl
replayed words o InputTooLong bytes s r m =
    let taken = rw m.known at r.stops.taken in
    let long = no_longer bytes r.stops.bytes o.source_after.told taken in
    absurd (omega (arith, r.stops.long, m.short, long))

pub complete : (words : List (List ℕ)) (o : Outside) (ended : Ended) → Ends words o ended → IsComplete words o ended
complete words o ended ends = λ bytes s m.
    let is = rw m.command at ends in
    replayed words o ended bytes s is m
