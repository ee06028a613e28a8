-- A wrong quorum: of a joint config more than half of all its nodes. The new half then elects a leader by itself, which lacks
-- what the old half has committed.
use Rattle.std.proofs.Common.{ℕ, zero, suc, ◌<◌, Bool, true, false, List, [], ◌∷◌, ◌++◌, refl, arith, inl, inr}
use Rattle.std.specs.Prelude.{◌==◌, ◌||◌, IsTrue, if◌then◌else◌}
use Rattle.ox_types.specs.declared.log.Entry.{Entry}
use Rattle.ox_quorum.specs.declared.config.Config.{Config}
use Rattle.ox_quorum.specs.declared.config.Config.TheVariants.{One, Joint}
use Rattle.ox_quorum.specs.Ensemble.{has}
use Rattle.ox_quorum.specs.Quorum.{has_majority, Follows}
use Rattle.ox_quorum.specs.Quorum.Follows.{Same, Enters}
use Rattle.ox_agreement.specs.Entries.{IsHeadWithin}
use Rattle.ox_agreement.specs.Tale.{Moment, WasFenced}
use Rattle.ox_agreement.specs.Steps.{IsTale, IsFaithful}
use Rattle.ox_agreement.specs.Story.{Story}
use Rattle.ox_agreement.proofs.Beginnings.{begins_itself}
use Rattle.ox_agreement.proofs.OtherRules.{QuorumHasBy, IsCommittedBy, AreWrong, EndsIn}
use Rattle.ox_agreement.proofs.ShortTales.{pass, fenced, led, was_at, fences, leads}
use Rattle.ox_agreement.proofs.ShortTales.{of_one, of_two, latest_within}
use Rattle.ox_agreement.proofs.ShortTales.{of_each_leader, of_each_attach, begins_none}

-- the nodes of the second list that aren't in the first
abbrev others : List ℕ → List ℕ → List ℕ
others a [] = []
others a (n ∷ b) = if has a n then others a b else n ∷ others a b

abbrev pub meets_union : (ℕ → Bool) → Config → Bool
meets_union nodes (One a) = has_majority nodes a
meets_union nodes (Joint a b) = has_majority nodes (a ++ others a b)

-- Node 1 alone leads term 1, and commits. Term 2 is joint, of node 1 and of nodes 2 and 3: these two choose node 2.
abbrev config : ℕ → Config
config zero = One (1 ∷ [])
config (suc zero) = One (1 ∷ [])
config (suc (suc t)) = Joint (1 ∷ []) (2 ∷ 3 ∷ [])

abbrev steady : ℕ → Bool
steady zero = false
steady (suc zero) = true
steady (suc (suc t)) = false

abbrev leader : ℕ → ℕ
leader zero = 1
leader (suc zero) = 1
leader (suc (suc t)) = 2

abbrev tale : List Moment
tale =
    led 2 2 (pass 2 0 ∷ [])
    ∷ fenced 3 2 []
    ∷ fenced 2 2 []
    ∷ led 1 1 (pass 1 0 ∷ [])
    ∷ fenced 1 1 [] ∷ []

abbrev story : Story
story = record { config = config; steady = steady; leader = leader; newest = 2; tale = tale }

steps : IsTale leader tale
steps =
    leads leader _ 2 2 [] refl (omega arith) refl
    (fences leader _ 3 2 (fenced 3 0 []) refl (omega arith)
    (fences leader _ 2 2 (fenced 2 0 []) refl (omega arith)
    (leads leader _ 1 1 [] refl (omega arith) refl
    (fences leader _ 1 1 (fenced 1 0 []) refl (omega arith) tt))))

chain : (t : ℕ) → t < 2 → Follows (config t) (steady t) (config (suc t))
chain zero h = Same _ _
chain (suc zero) h = Enters _ _ _ refl
chain (suc (suc t)) h = absurd (omega arith)

abbrev IsCommittedHere : ℕ → List Entry → Type 0
IsCommittedHere = IsCommittedBy meets_union Follows IsHeadWithin IsFaithful EndsIn config tale

abbrev IsChosen : ℕ → List Entry → Type 0
IsChosen t list =
    QuorumHasBy meets_union Follows IsHeadWithin IsFaithful EndsIn (config t)
    (λ n had. WasFenced tale n t had × IsHeadWithin had list)

committed : IsCommittedHere 1 (pass 1 0 ∷ [])
committed = record {
  list = pass 1 0 ∷ [];
  leads = (1, was_at tale 3 (led 1 1 (pass 1 0 ∷ [])) refl);
  begins = begins_itself _;
  own = refl;
  held = record {
    nodes = λ n. n == 1;
    quorum = refl;
    each = of_one _ 1 (pass 1 0 ∷ [], (inr (was_at tale 3 (led 1 1 (pass 1 0 ∷ [])) refl), begins_itself _));
  };
}

ready : (t : ℕ) → IsTrue (steady t) → (front : List Entry) × IsCommittedHere t front
ready zero h = absurd cc
ready (suc zero) h = (pass 1 0 ∷ [], committed)
ready (suc (suc t)) h = absurd cc

chosen_2 : IsChosen 2 []
chosen_2 = record {
  nodes = λ n. n == 2 || n == 3;
  quorum = refl;
  each =
      of_two _ 2 3
      ([], (was_at tale 2 (fenced 2 2 []) refl, inr (refl, omega arith)))
      ([], (was_at tale 1 (fenced 3 2 []) refl, inr (refl, omega arith)));
}

chosen_1 : IsChosen 1 []
chosen_1 = record {
  nodes = λ n. n == 1;
  quorum = refl;
  each = of_one _ 1 ([], (was_at tale 4 (fenced 1 1 []) refl, inr (refl, omega arith)));
}

pub a_union_is_wrong : AreWrong meets_union Follows IsHeadWithin IsFaithful EndsIn
a_union_is_wrong = record {
  story = story;
  is = record {
    chain = chain;
    within = latest_within 2 tale refl;
    ready = ready;
    steps = steps;
    faithful = of_each_attach tale tt;
    chosen = of_each_leader IsChosen tale (chosen_2, (chosen_1, tt));
  };
  lacking = record {
    t = 2;
    u = 1;
    list = [];
    front = pass 1 0 ∷ [];
    began = inl (refl, refl, refl, refl);
    lower = omega arith;
    committed = committed;
    lacks = begins_none (pass 1 0);
  };
}
