-- A wrong highest head: the one with the most entries, of whatever terms. A leader with entries of an older term then lacks what
-- was committed in a newer one.
use Rattle.std.proofs.Common.{ℕ, zero, suc, ◌<◌, ◌≤◌, Bool, false, List, [], ◌∷◌, length, refl, arith, inl, inr}
use Rattle.std.specs.Prelude.{◌==◌, ◌||◌, IsTrue}
use Rattle.ox_types.specs.declared.log.Entry.{Entry}
use Rattle.ox_quorum.specs.declared.config.Config.{Config}
use Rattle.ox_quorum.specs.declared.config.Config.TheVariants.{One}
use Rattle.ox_quorum.specs.Quorum.{meets_config, Follows}
use Rattle.ox_quorum.specs.Quorum.Follows.{Same}
use Rattle.ox_agreement.specs.Tale.{Moment, WasFenced}
use Rattle.ox_agreement.specs.Steps.{IsTale, IsFaithful}
use Rattle.ox_agreement.specs.Story.{Story}
use Rattle.ox_agreement.proofs.Beginnings.{begins_itself}
use Rattle.ox_agreement.proofs.OtherRules.{QuorumHasBy, IsCommittedBy, AreWrong, EndsIn}
use Rattle.ox_agreement.proofs.ShortTales.{pass, fenced, attached, led, was_at, fences, leads, attaches}
use Rattle.ox_agreement.proofs.ShortTales.{attaches_whole, of_two, latest_within}
use Rattle.ox_agreement.proofs.ShortTales.{of_each_leader, of_each_attach, begins_other}

abbrev pub IsCountWithin : List Entry → List Entry → Type 0
IsCountWithin xs ys = length xs ≤ length ys

-- Node 1 leads term 1, and its entry stays alone. Node 2 leads term 2, and commits with node 3. Term 3 is led by node 1 again,
-- chosen of nodes 1 and 3, each of which has one entry.
abbrev config : ℕ → Config
config t = One (1 ∷ 2 ∷ 3 ∷ [])

abbrev steady : ℕ → Bool
steady t = false

abbrev leader : ℕ → ℕ
leader zero = 1
leader (suc zero) = 1
leader (suc (suc zero)) = 2
leader (suc (suc (suc t))) = 1

abbrev tale : List Moment
tale =
    led 1 3 (pass 1 0 ∷ pass 3 1 ∷ [])
    ∷ fenced 3 3 (pass 2 0 ∷ [])
    ∷ fenced 1 3 (pass 1 0 ∷ [])
    ∷ attached 3 2 (pass 2 0 ∷ [])
    ∷ led 2 2 (pass 2 0 ∷ [])
    ∷ fenced 3 2 []
    ∷ fenced 2 2 []
    ∷ led 1 1 (pass 1 0 ∷ [])
    ∷ fenced 2 1 []
    ∷ fenced 1 1 [] ∷ []

abbrev story : Story
story = record { config = config; steady = steady; leader = leader; newest = 3; tale = tale }

steps : IsTale leader tale
steps =
    leads leader _ 1 3 (pass 1 0 ∷ []) refl (omega arith) refl
    (fences leader _ 3 3 (attached 3 2 (pass 2 0 ∷ [])) refl (omega arith)
    (fences leader _ 1 3 (led 1 1 (pass 1 0 ∷ [])) refl (omega arith)
    (attaches leader _ 2 3 2 [] (pass 2 0 ∷ []) (pass 2 0 ∷ []) refl (begins_itself _)
    (leads leader _ 2 2 [] refl (omega arith) refl
    (fences leader _ 3 2 (fenced 3 0 []) refl (omega arith)
    (fences leader _ 2 2 (fenced 2 1 []) refl (omega arith)
    (leads leader _ 1 1 [] refl (omega arith) refl
    (fences leader _ 2 1 (fenced 2 0 []) refl (omega arith)
    (fences leader _ 1 1 (fenced 1 0 []) refl (omega arith) tt)))))))))

chain : (t : ℕ) → t < 3 → Follows (config t) (steady t) (config (suc t))
chain t h = Same _ _

abbrev IsCommittedHere : ℕ → List Entry → Type 0
IsCommittedHere = IsCommittedBy meets_config Follows IsCountWithin IsFaithful EndsIn config tale

abbrev IsChosen : ℕ → List Entry → Type 0
IsChosen t list =
    QuorumHasBy meets_config Follows IsCountWithin IsFaithful EndsIn (config t)
    (λ n had. WasFenced tale n t had × IsCountWithin had list)

committed : IsCommittedHere 2 (pass 2 0 ∷ [])
committed = record {
  list = pass 2 0 ∷ [];
  leads = (2, was_at tale 4 (led 2 2 (pass 2 0 ∷ [])) refl);
  begins = begins_itself _;
  own = refl;
  held = record {
    nodes = λ n. n == 2 || n == 3;
    quorum = refl;
    each =
        of_two _ 2 3
        (pass 2 0 ∷ [], (inr (was_at tale 4 (led 2 2 (pass 2 0 ∷ [])) refl), begins_itself _))
        (pass 2 0 ∷ [], (inl (was_at tale 3 (attached 3 2 (pass 2 0 ∷ [])) refl), begins_itself _));
  };
}

ready : (t : ℕ) → IsTrue (steady t) → (front : List Entry) × IsCommittedHere t front
ready t h = absurd cc

chosen_3 : IsChosen 3 (pass 1 0 ∷ [])
chosen_3 = record {
  nodes = λ n. n == 1 || n == 3;
  quorum = refl;
  each =
      of_two _ 1 3
      (pass 1 0 ∷ [], (was_at tale 2 (fenced 1 3 (pass 1 0 ∷ [])) refl, omega arith))
      (pass 2 0 ∷ [], (was_at tale 1 (fenced 3 3 (pass 2 0 ∷ [])) refl, omega arith));
}

chosen_2 : IsChosen 2 []
chosen_2 = record {
  nodes = λ n. n == 2 || n == 3;
  quorum = refl;
  each =
      of_two _ 2 3
      ([], (was_at tale 6 (fenced 2 2 []) refl, omega arith))
      ([], (was_at tale 5 (fenced 3 2 []) refl, omega arith));
}

chosen_1 : IsChosen 1 []
chosen_1 = record {
  nodes = λ n. n == 1 || n == 2;
  quorum = refl;
  each =
      of_two _ 1 2
      ([], (was_at tale 9 (fenced 1 1 []) refl, omega arith))
      ([], (was_at tale 8 (fenced 2 1 []) refl, omega arith));
}

pub the_count_alone_is_wrong : AreWrong meets_config Follows IsCountWithin IsFaithful EndsIn
the_count_alone_is_wrong = record {
  story = story;
  is = record {
    chain = chain;
    within = latest_within 3 tale refl;
    ready = ready;
    steps = steps;
    faithful = of_each_attach tale (attaches_whole _ 2 3 2 [] (pass 2 0 ∷ []), tt);
    chosen = of_each_leader IsChosen tale (chosen_3, (chosen_2, (chosen_1, tt)));
  };
  lacking = record {
    t = 3;
    u = 2;
    list = pass 1 0 ∷ [];
    front = pass 2 0 ∷ [];
    began = inl (refl, refl, refl, refl);
    lower = omega arith;
    committed = committed;
    lacks = begins_other (pass 2 0) (pass 1 0) (λ e. absurd (omega arith));
  };
}
