-- A wrong chain of configs: the second half of a joint config may follow it before the joint one was steady. The second half then
-- elects a leader by itself, which lacks what the first half has committed.
use Rattle.std.proofs.Common.{ℕ, zero, suc, ◌<◌, Bool, true, false, List, [], ◌∷◌, refl, arith, inl, inr}
use Rattle.std.specs.Prelude.{◌==◌, IsTrue}
use Rattle.ox_types.specs.declared.log.Entry.{Entry}
use Rattle.ox_quorum.specs.declared.config.Config.{Config}
use Rattle.ox_quorum.specs.declared.config.Config.TheVariants.{One, Joint}
use Rattle.ox_quorum.specs.Quorum.{meets_config, Follows}
use Rattle.ox_quorum.specs.Quorum.Follows.{Same, Enters}
use Rattle.ox_agreement.specs.Entries.{IsHeadWithin}
use Rattle.ox_agreement.specs.Tale.{Moment, WasFenced}
use Rattle.ox_agreement.specs.Steps.{IsTale, IsFaithful}
use Rattle.ox_agreement.specs.Story.{Story}
use Rattle.ox_agreement.proofs.Beginnings.{begins_itself}
use Rattle.ox_agreement.proofs.OtherRules.{QuorumHasBy, IsCommittedBy, AreWrong, EndsIn}
use Rattle.ox_agreement.proofs.ShortTales.{pass, fenced, led, was_at, fences, leads}
use Rattle.ox_agreement.proofs.ShortTales.{of_one, latest_within}
use Rattle.ox_agreement.proofs.ShortTales.{of_each_leader, of_each_attach, begins_none}

pub data FollowsEarly : Config → Bool → Config → Type 0 where
  Rightly : (c : Config) (steady : Bool) (d : Config) → Follows c steady d → FollowsEarly c steady d
  LeavesEarly : (a b : List ℕ) (steady : Bool) → FollowsEarly (Joint a b) steady (One b)

-- Node 1 alone leads term 1, and commits. Term 2 is joint and has no leader. Node 2 alone leads term 3.
abbrev config : ℕ → Config
config zero = One (1 ∷ [])
config (suc zero) = One (1 ∷ [])
config (suc (suc zero)) = Joint (1 ∷ []) (2 ∷ [])
config (suc (suc (suc t))) = One (2 ∷ [])

abbrev steady : ℕ → Bool
steady zero = false
steady (suc zero) = true
steady (suc (suc t)) = false

abbrev leader : ℕ → ℕ
leader zero = 1
leader (suc zero) = 1
leader (suc (suc t)) = 2

abbrev tale : List Moment
tale =
    led 2 3 (pass 3 0 ∷ [])
    ∷ fenced 2 3 []
    ∷ led 1 1 (pass 1 0 ∷ [])
    ∷ fenced 1 1 [] ∷ []

abbrev story : Story
story = record { config = config; steady = steady; leader = leader; newest = 3; tale = tale }

steps : IsTale leader tale
steps =
    leads leader _ 2 3 [] refl (omega arith) refl
    (fences leader _ 2 3 (fenced 2 0 []) refl (omega arith)
    (leads leader _ 1 1 [] refl (omega arith) refl
    (fences leader _ 1 1 (fenced 1 0 []) refl (omega arith) tt)))

chain : (t : ℕ) → t < 3 → FollowsEarly (config t) (steady t) (config (suc t))
chain zero h = Rightly _ _ _ (Same _ _)
chain (suc zero) h = Rightly _ _ _ (Enters _ _ _ refl)
chain (suc (suc zero)) h = LeavesEarly _ _ _
chain (suc (suc (suc t))) h = absurd (omega arith)

abbrev IsCommittedHere : ℕ → List Entry → Type 0
IsCommittedHere = IsCommittedBy meets_config FollowsEarly IsHeadWithin IsFaithful EndsIn config tale

abbrev IsChosen : ℕ → List Entry → Type 0
IsChosen t list =
    QuorumHasBy meets_config FollowsEarly IsHeadWithin IsFaithful EndsIn (config t)
    (λ n had. WasFenced tale n t had × IsHeadWithin had list)

committed : IsCommittedHere 1 (pass 1 0 ∷ [])
committed = record {
  list = pass 1 0 ∷ [];
  leads = (1, was_at tale 2 (led 1 1 (pass 1 0 ∷ [])) refl);
  begins = begins_itself _;
  own = refl;
  held = record {
    nodes = λ n. n == 1;
    quorum = refl;
    each = of_one _ 1 (pass 1 0 ∷ [], (inr (was_at tale 2 (led 1 1 (pass 1 0 ∷ [])) refl), begins_itself _));
  };
}

ready : (t : ℕ) → IsTrue (steady t) → (front : List Entry) × IsCommittedHere t front
ready zero h = absurd cc
ready (suc zero) h = (pass 1 0 ∷ [], committed)
ready (suc (suc t)) h = absurd cc

chosen_3 : IsChosen 3 []
chosen_3 = record {
  nodes = λ n. n == 2;
  quorum = refl;
  each = of_one _ 2 ([], (was_at tale 1 (fenced 2 3 []) refl, inr (refl, omega arith)));
}

chosen_1 : IsChosen 1 []
chosen_1 = record {
  nodes = λ n. n == 1;
  quorum = refl;
  each = of_one _ 1 ([], (was_at tale 3 (fenced 1 1 []) refl, inr (refl, omega arith)));
}

pub leaving_early_is_wrong : AreWrong meets_config FollowsEarly IsHeadWithin IsFaithful EndsIn
leaving_early_is_wrong = record {
  story = story;
  is = record {
    chain = chain;
    within = latest_within 3 tale refl;
    ready = ready;
    steps = steps;
    faithful = of_each_attach tale tt;
    chosen = of_each_leader IsChosen tale (chosen_3, (chosen_1, tt));
  };
  lacking = record {
    t = 3;
    u = 1;
    list = [];
    front = pass 1 0 ∷ [];
    began = inl (refl, refl, refl, refl);
    lower = omega arith;
    committed = committed;
    lacks = begins_none (pass 1 0);
  };
}
