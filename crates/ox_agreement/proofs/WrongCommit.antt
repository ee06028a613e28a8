-- A wrong commit: the leader counts who holds its entries of older terms, and takes these as committed. A node with an entry of a
-- term between is then chosen without them.
use Rattle.std.proofs.Common.{ℕ, zero, suc, ◌<◌, Bool, false, List, [], ◌∷◌, refl, arith, inl, inr}
use Rattle.std.specs.Prelude.{◌==◌, ◌||◌, IsTrue}
use Rattle.ox_types.specs.declared.log.Entry.{Entry}
use Rattle.ox_quorum.specs.declared.config.Config.{Config}
use Rattle.ox_quorum.specs.declared.config.Config.TheVariants.{One}
use Rattle.ox_quorum.specs.Quorum.{meets_config, Follows}
use Rattle.ox_quorum.specs.Quorum.Follows.{Same}
use Rattle.ox_agreement.specs.Entries.{IsHeadWithin}
use Rattle.ox_agreement.specs.Tale.{Moment, WasFenced}
use Rattle.ox_agreement.specs.Steps.{IsTale, IsFaithful}
use Rattle.ox_agreement.specs.Story.{Story}
use Rattle.ox_agreement.proofs.Beginnings.{begins_itself}
use Rattle.ox_agreement.proofs.OtherRules.{QuorumHasBy, IsCommittedBy, AreWrong}
use Rattle.ox_agreement.proofs.ShortTales.{pass, fenced, attached, led, was_at, fences, leads, attaches}
use Rattle.ox_agreement.proofs.ShortTales.{attaches_new, of_two, latest_within}
use Rattle.ox_agreement.proofs.ShortTales.{of_each_leader, of_each_attach, begins_other}

-- what is committed may end in an entry of any term
abbrev pub EndsAnywhere : ℕ → List Entry → Type 0
EndsAnywhere t front = Unit {0}

-- Node 1 leads term 1, and node 3 leads term 2; the entry of each stays alone. Node 1 leads term 3, and gives node 2 its entry of
-- term 1 alone, which two nodes then hold. Nodes 2 and 3 choose node 3 for term 4, as its entry is of term 2.
abbrev config : ℕ → Config
config t = One (1 ∷ 2 ∷ 3 ∷ [])

abbrev steady : ℕ → Bool
steady t = false

abbrev leader : ℕ → ℕ
leader zero = 1
leader (suc zero) = 1
leader (suc (suc zero)) = 3
leader (suc (suc (suc zero))) = 1
leader (suc (suc (suc (suc t)))) = 3

abbrev tale : List Moment
tale =
    led 3 4 (pass 2 0 ∷ pass 4 1 ∷ [])
    ∷ fenced 3 4 (pass 2 0 ∷ [])
    ∷ fenced 2 4 (pass 1 0 ∷ [])
    ∷ attached 2 3 (pass 1 0 ∷ [])
    ∷ led 1 3 (pass 1 0 ∷ pass 3 1 ∷ [])
    ∷ fenced 2 3 []
    ∷ fenced 1 3 (pass 1 0 ∷ [])
    ∷ led 3 2 (pass 2 0 ∷ [])
    ∷ fenced 3 2 []
    ∷ fenced 2 2 []
    ∷ led 1 1 (pass 1 0 ∷ [])
    ∷ fenced 2 1 []
    ∷ fenced 1 1 [] ∷ []

abbrev story : Story
story = record { config = config; steady = steady; leader = leader; newest = 4; tale = tale }

steps : IsTale leader tale
steps =
    leads leader _ 3 4 (pass 2 0 ∷ []) refl (omega arith) refl
    (fences leader _ 3 4 (led 3 2 (pass 2 0 ∷ [])) refl (omega arith)
    (fences leader _ 2 4 (attached 2 3 (pass 1 0 ∷ [])) refl (omega arith)
    (attaches leader _ 1 2 3 [] (pass 1 0 ∷ []) (pass 1 0 ∷ pass 3 1 ∷ []) refl (record { rest = pass 3 1 ∷ []; is = refl })
    (leads leader _ 1 3 (pass 1 0 ∷ []) refl (omega arith) refl
    (fences leader _ 2 3 (fenced 2 2 []) refl (omega arith)
    (fences leader _ 1 3 (led 1 1 (pass 1 0 ∷ [])) refl (omega arith)
    (leads leader _ 3 2 [] refl (omega arith) refl
    (fences leader _ 3 2 (fenced 3 0 []) refl (omega arith)
    (fences leader _ 2 2 (fenced 2 1 []) refl (omega arith)
    (leads leader _ 1 1 [] refl (omega arith) refl
    (fences leader _ 2 1 (fenced 2 0 []) refl (omega arith)
    (fences leader _ 1 1 (fenced 1 0 []) refl (omega arith) tt))))))))))))

chain : (t : ℕ) → t < 4 → Follows (config t) (steady t) (config (suc t))
chain t h = Same _ _

abbrev IsCommittedHere : ℕ → List Entry → Type 0
IsCommittedHere = IsCommittedBy meets_config Follows IsHeadWithin IsFaithful EndsAnywhere config tale

abbrev IsChosen : ℕ → List Entry → Type 0
IsChosen t list =
    QuorumHasBy meets_config Follows IsHeadWithin IsFaithful EndsAnywhere (config t)
    (λ n had. WasFenced tale n t had × IsHeadWithin had list)

committed : IsCommittedHere 3 (pass 1 0 ∷ [])
committed = record {
  list = pass 1 0 ∷ pass 3 1 ∷ [];
  leads = (1, was_at tale 4 (led 1 3 (pass 1 0 ∷ pass 3 1 ∷ [])) refl);
  begins = record { rest = pass 3 1 ∷ []; is = refl };
  own = tt;
  held = record {
    nodes = λ n. n == 1 || n == 2;
    quorum = refl;
    each =
        of_two _ 1 2 (
          pass 1 0 ∷ pass 3 1 ∷ [],
          (inr (was_at tale 4 (led 1 3 (pass 1 0 ∷ pass 3 1 ∷ [])) refl), record { rest = pass 3 1 ∷ []; is = refl }),
        )
        (pass 1 0 ∷ [], (inl (was_at tale 3 (attached 2 3 (pass 1 0 ∷ [])) refl), begins_itself _));
  };
}

ready : (t : ℕ) → IsTrue (steady t) → (front : List Entry) × IsCommittedHere t front
ready t h = absurd cc

chosen_4 : IsChosen 4 (pass 2 0 ∷ [])
chosen_4 = record {
  nodes = λ n. n == 2 || n == 3;
  quorum = refl;
  each =
      of_two _ 2 3
      (pass 1 0 ∷ [], (was_at tale 2 (fenced 2 4 (pass 1 0 ∷ [])) refl, inl (omega arith)))
      (pass 2 0 ∷ [], (was_at tale 1 (fenced 3 4 (pass 2 0 ∷ [])) refl, inr (refl, omega arith)));
}

chosen_3 : IsChosen 3 (pass 1 0 ∷ [])
chosen_3 = record {
  nodes = λ n. n == 1 || n == 2;
  quorum = refl;
  each =
      of_two _ 1 2
      (pass 1 0 ∷ [], (was_at tale 6 (fenced 1 3 (pass 1 0 ∷ [])) refl, inr (refl, omega arith)))
      ([], (was_at tale 5 (fenced 2 3 []) refl, inl (omega arith)));
}

chosen_2 : IsChosen 2 []
chosen_2 = record {
  nodes = λ n. n == 2 || n == 3;
  quorum = refl;
  each =
      of_two _ 2 3
      ([], (was_at tale 9 (fenced 2 2 []) refl, inr (refl, omega arith)))
      ([], (was_at tale 8 (fenced 3 2 []) refl, inr (refl, omega arith)));
}

chosen_1 : IsChosen 1 []
chosen_1 = record {
  nodes = λ n. n == 1 || n == 2;
  quorum = refl;
  each =
      of_two _ 1 2
      ([], (was_at tale 12 (fenced 1 1 []) refl, inr (refl, omega arith)))
      ([], (was_at tale 11 (fenced 2 1 []) refl, inr (refl, omega arith)));
}

pub counting_old_terms_is_wrong : AreWrong meets_config Follows IsHeadWithin IsFaithful EndsAnywhere
counting_old_terms_is_wrong = record {
  story = story;
  is = record {
    chain = chain;
    within = latest_within 4 tale refl;
    ready = ready;
    steps = steps;
    faithful = of_each_attach tale (attaches_new _ 1 2 3 (pass 1 0 ∷ []) (pass 1 0 ∷ pass 3 1 ∷ []), tt);
    chosen = of_each_leader IsChosen tale (chosen_4, (chosen_3, (chosen_2, (chosen_1, tt))));
  };
  lacking = record {
    t = 4;
    u = 3;
    list = pass 2 0 ∷ [];
    front = pass 1 0 ∷ [];
    began = inl (refl, refl, refl, refl);
    lower = omega arith;
    committed = committed;
    lacks = begins_other (pass 1 0) (pass 2 0) (λ e. absurd (omega arith));
  };
}
