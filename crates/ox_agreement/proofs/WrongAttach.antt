-- A wrong attach: a node may cut what it has in common with its leader. What was committed is then lost where it's chosen next.
use Rattle.std.proofs.Common.{ℕ, zero, suc, ◌<◌, Bool, false, List, [], ◌∷◌, refl, arith, inl, inr}
use Rattle.std.specs.Prelude.{◌==◌, ◌||◌, IsTrue}
use Rattle.ox_types.specs.declared.log.Entry.{Entry}
use Rattle.ox_quorum.specs.declared.config.Config.{Config}
use Rattle.ox_quorum.specs.declared.config.Config.TheVariants.{One}
use Rattle.ox_quorum.specs.Quorum.{meets_config, Follows}
use Rattle.ox_quorum.specs.Quorum.Follows.{Same}
use Rattle.ox_agreement.specs.Entries.{IsHeadWithin}
use Rattle.ox_agreement.specs.Tale.{Moment, WasFenced}
use Rattle.ox_agreement.specs.Steps.{IsTale}
use Rattle.ox_agreement.specs.Story.{Story}
use Rattle.ox_agreement.proofs.Beginnings.{begins_itself}
use Rattle.ox_agreement.proofs.OtherRules.{QuorumHasBy, IsCommittedBy, AreWrong, EndsIn}
use Rattle.ox_agreement.proofs.ShortTales.{pass, fenced, attached, led, was_at, fences, leads, attaches}
use Rattle.ox_agreement.proofs.ShortTales.{of_two, latest_within}
use Rattle.ox_agreement.proofs.ShortTales.{of_each_leader, begins_none}

-- nothing is asked of what an attached node keeps, but that it begins a list of its leader
abbrev pub MayCut : List Moment → Type 0
MayCut tale = Unit {0}

-- Node 1 leads terms 1 and 2, and commits in term 1 with node 2. In term 2 node 2 cuts its whole list. Nodes 2 and 3 choose node 2
-- for term 3.
abbrev config : ℕ → Config
config t = One (1 ∷ 2 ∷ 3 ∷ [])

abbrev steady : ℕ → Bool
steady t = false

abbrev leader : ℕ → ℕ
leader zero = 1
leader (suc zero) = 1
leader (suc (suc zero)) = 1
leader (suc (suc (suc t))) = 2

abbrev tale : List Moment
tale =
    led 2 3 (pass 3 0 ∷ [])
    ∷ fenced 3 3 []
    ∷ fenced 2 3 []
    ∷ attached 2 2 []
    ∷ led 1 2 (pass 1 0 ∷ pass 2 1 ∷ [])
    ∷ fenced 2 2 (pass 1 0 ∷ [])
    ∷ fenced 1 2 (pass 1 0 ∷ [])
    ∷ attached 2 1 (pass 1 0 ∷ [])
    ∷ led 1 1 (pass 1 0 ∷ [])
    ∷ fenced 2 1 []
    ∷ fenced 1 1 [] ∷ []

abbrev story : Story
story = record { config = config; steady = steady; leader = leader; newest = 3; tale = tale }

steps : IsTale leader tale
steps =
    leads leader _ 2 3 [] refl (omega arith) refl
    (fences leader _ 3 3 (fenced 3 0 []) refl (omega arith)
    (fences leader _ 2 3 (attached 2 2 []) refl (omega arith)
    (attaches leader _ 1 2 2 (pass 1 0 ∷ []) [] (pass 1 0 ∷ pass 2 1 ∷ []) refl (record { rest = pass 1 0 ∷ pass 2 1 ∷ []; is = refl })
    (leads leader _ 1 2 (pass 1 0 ∷ []) refl (omega arith) refl
    (fences leader _ 2 2 (attached 2 1 (pass 1 0 ∷ [])) refl (omega arith)
    (fences leader _ 1 2 (led 1 1 (pass 1 0 ∷ [])) refl (omega arith)
    (attaches leader _ 1 2 1 [] (pass 1 0 ∷ []) (pass 1 0 ∷ []) refl (begins_itself _)
    (leads leader _ 1 1 [] refl (omega arith) refl
    (fences leader _ 2 1 (fenced 2 0 []) refl (omega arith)
    (fences leader _ 1 1 (fenced 1 0 []) refl (omega arith) tt))))))))))

chain : (t : ℕ) → t < 3 → Follows (config t) (steady t) (config (suc t))
chain t h = Same _ _

abbrev IsCommittedHere : ℕ → List Entry → Type 0
IsCommittedHere = IsCommittedBy meets_config Follows IsHeadWithin MayCut EndsIn config tale

abbrev IsChosen : ℕ → List Entry → Type 0
IsChosen t list =
    QuorumHasBy meets_config Follows IsHeadWithin MayCut EndsIn (config t)
    (λ n had. WasFenced tale n t had × IsHeadWithin had list)

committed : IsCommittedHere 1 (pass 1 0 ∷ [])
committed = record {
  list = pass 1 0 ∷ [];
  leads = (1, was_at tale 8 (led 1 1 (pass 1 0 ∷ [])) refl);
  begins = begins_itself _;
  own = refl;
  held = record {
    nodes = λ n. n == 1 || n == 2;
    quorum = refl;
    each =
        of_two _ 1 2
        (pass 1 0 ∷ [], (inr (was_at tale 8 (led 1 1 (pass 1 0 ∷ [])) refl), begins_itself _))
        (pass 1 0 ∷ [], (inl (was_at tale 7 (attached 2 1 (pass 1 0 ∷ [])) refl), begins_itself _));
  };
}

ready : (t : ℕ) → IsTrue (steady t) → (front : List Entry) × IsCommittedHere t front
ready t h = absurd cc

chosen_3 : IsChosen 3 []
chosen_3 = record {
  nodes = λ n. n == 2 || n == 3;
  quorum = refl;
  each =
      of_two _ 2 3
      ([], (was_at tale 2 (fenced 2 3 []) refl, inr (refl, omega arith)))
      ([], (was_at tale 1 (fenced 3 3 []) refl, inr (refl, omega arith)));
}

chosen_2 : IsChosen 2 (pass 1 0 ∷ [])
chosen_2 = record {
  nodes = λ n. n == 1 || n == 2;
  quorum = refl;
  each =
      of_two _ 1 2
      (pass 1 0 ∷ [], (was_at tale 6 (fenced 1 2 (pass 1 0 ∷ [])) refl, inr (refl, omega arith)))
      (pass 1 0 ∷ [], (was_at tale 5 (fenced 2 2 (pass 1 0 ∷ [])) refl, inr (refl, omega arith)));
}

chosen_1 : IsChosen 1 []
chosen_1 = record {
  nodes = λ n. n == 1 || n == 2;
  quorum = refl;
  each =
      of_two _ 1 2
      ([], (was_at tale 10 (fenced 1 1 []) refl, inr (refl, omega arith)))
      ([], (was_at tale 9 (fenced 2 1 []) refl, inr (refl, omega arith)));
}

pub cutting_what_is_common_is_wrong : AreWrong meets_config Follows IsHeadWithin MayCut EndsIn
cutting_what_is_common_is_wrong = record {
  story = story;
  is = record {
    chain = chain;
    within = latest_within 3 tale refl;
    ready = ready;
    steps = steps;
    faithful = tt;
    chosen = of_each_leader IsChosen tale (chosen_3, (chosen_2, (chosen_1, tt)));
  };
  lacking = record {
    t = 3;
    u = 1;
    list = [];
    front = pass 1 0 ∷ [];
    began = inl (refl, refl, refl, refl);
    lower = omega arith;
    committed = committed;
    lacks = begins_none (pass 1 0);
  };
}
