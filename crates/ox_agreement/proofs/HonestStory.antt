-- A story by the rules, so that the laws aren't said of nothing: the ensemble of node 1 gives way to that of node 2, by a joint
-- config, and each of the three terms has a leader.
use Rattle.std.proofs.Common.{ℕ, zero, suc, ◌<◌, Bool, true, false, List, [], ◌∷◌, refl, arith, inl, inr}
use Rattle.std.specs.Prelude.{◌==◌, ◌||◌, IsTrue}
use Rattle.ox_types.specs.declared.log.Entry.{Entry}
use Rattle.ox_quorum.specs.declared.config.Config.{Config}
use Rattle.ox_quorum.specs.declared.config.Config.TheVariants.{One, Joint}
use Rattle.ox_quorum.specs.Quorum.{Follows}
use Rattle.ox_quorum.specs.Quorum.Follows.{Same, Enters, Leaves}
use Rattle.ox_agreement.specs.Entries.{IsHeadWithin}
use Rattle.ox_agreement.specs.Tale.{Moment, WasFenced}
use Rattle.ox_agreement.specs.Steps.{IsTale}
use Rattle.ox_agreement.specs.Committed.{QuorumHas, IsCommitted}
use Rattle.ox_agreement.specs.Story.{Story, IsStory}
use Rattle.ox_agreement.proofs.Beginnings.{begins_itself}
use Rattle.ox_agreement.proofs.ShortTales.{pass, fenced, attached, led, was_at, fences, leads, attaches, attaches_new}
use Rattle.ox_agreement.proofs.ShortTales.{of_one, of_two, latest_within, of_each_leader, of_each_attach}

abbrev config : ℕ → Config
config zero = One (1 ∷ [])
config (suc zero) = One (1 ∷ [])
config (suc (suc zero)) = Joint (1 ∷ []) (2 ∷ [])
config (suc (suc (suc t))) = One (2 ∷ [])

abbrev steady : ℕ → Bool
steady zero = false
steady (suc zero) = true
steady (suc (suc zero)) = true
steady (suc (suc (suc t))) = false

abbrev leader : ℕ → ℕ
leader zero = 1
leader (suc zero) = 1
leader (suc (suc zero)) = 1
leader (suc (suc (suc t))) = 2

abbrev one : List Entry
one = pass 1 0 ∷ []

abbrev two : List Entry
two = pass 1 0 ∷ pass 2 1 ∷ []

abbrev tale : List Moment
tale =
    led 2 3 (pass 1 0 ∷ pass 2 1 ∷ pass 3 2 ∷ [])
    ∷ fenced 2 3 two
    ∷ attached 2 2 two
    ∷ led 1 2 two
    ∷ fenced 2 2 []
    ∷ fenced 1 2 one
    ∷ led 1 1 one
    ∷ fenced 1 1 [] ∷ []

abbrev pub story : Story
story = record { config = config; steady = steady; leader = leader; newest = 3; tale = tale }

steps : IsTale leader tale
steps =
    leads leader _ 2 3 two refl (omega arith) refl
    (fences leader _ 2 3 (attached 2 2 two) refl (omega arith)
    (attaches leader _ 1 2 2 [] two two refl (begins_itself _)
    (leads leader _ 1 2 one refl (omega arith) refl
    (fences leader _ 2 2 (fenced 2 0 []) refl (omega arith)
    (fences leader _ 1 2 (led 1 1 one) refl (omega arith)
    (leads leader _ 1 1 [] refl (omega arith) refl
    (fences leader _ 1 1 (fenced 1 0 []) refl (omega arith) tt)))))))

chain : (t : ℕ) → t < 3 → Follows (config t) (steady t) (config (suc t))
chain zero h = Same _ _
chain (suc zero) h = Enters _ _ _ refl
chain (suc (suc zero)) h = Leaves _ _ _ refl
chain (suc (suc (suc t))) h = absurd (omega arith)

committed_1 : IsCommitted config tale 1 one
committed_1 = record {
  list = one;
  leads = (1, was_at tale 6 (led 1 1 one) refl);
  begins = begins_itself _;
  own = refl;
  held = record {
    nodes = λ n. n == 1;
    quorum = refl;
    each = of_one _ 1 (one, (inr (was_at tale 6 (led 1 1 one) refl), begins_itself _));
  };
}

committed_2 : IsCommitted config tale 2 two
committed_2 = record {
  list = two;
  leads = (1, was_at tale 3 (led 1 2 two) refl);
  begins = begins_itself _;
  own = refl;
  held = record {
    nodes = λ n. n == 1 || n == 2;
    quorum = refl;
    each =
        of_two _ 1 2
        (two, (inr (was_at tale 3 (led 1 2 two) refl), begins_itself _))
        (two, (inl (was_at tale 2 (attached 2 2 two) refl), begins_itself _));
  };
}

ready : (t : ℕ) → IsTrue (steady t) → (front : List Entry) × IsCommitted config tale t front
ready zero h = absurd cc
ready (suc zero) h = (one, committed_1)
ready (suc (suc zero)) h = (two, committed_2)
ready (suc (suc (suc t))) h = absurd cc

abbrev IsChosen : ℕ → List Entry → Type 0
IsChosen t list = QuorumHas (config t) (λ n had. WasFenced tale n t had × IsHeadWithin had list)

chosen_3 : IsChosen 3 two
chosen_3 = record {
  nodes = λ n. n == 2;
  quorum = refl;
  each = of_one _ 2 (two, (was_at tale 1 (fenced 2 3 two) refl, inr (refl, omega arith)));
}

chosen_2 : IsChosen 2 one
chosen_2 = record {
  nodes = λ n. n == 1 || n == 2;
  quorum = refl;
  each =
      of_two _ 1 2
      (one, (was_at tale 5 (fenced 1 2 one) refl, inr (refl, omega arith)))
      ([], (was_at tale 4 (fenced 2 2 []) refl, inl (omega arith)));
}

chosen_1 : IsChosen 1 []
chosen_1 = record {
  nodes = λ n. n == 1;
  quorum = refl;
  each = of_one _ 1 ([], (was_at tale 7 (fenced 1 1 []) refl, inr (refl, omega arith)));
}

pub is_story : IsStory story
is_story = record {
  chain = chain;
  within = latest_within 3 tale refl;
  ready = ready;
  steps = steps;
  faithful = of_each_attach tale (attaches_new _ 1 2 2 two two, tt);
  chosen = of_each_leader IsChosen tale (chosen_3, (chosen_2, (chosen_1, tt)));
}
