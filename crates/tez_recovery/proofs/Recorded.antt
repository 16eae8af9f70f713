-- How many sinks are recorded changes nothing of what a master makes of all that it finds.
use Rattle.std.specs.Prelude.{◌≡◌, ℕ, List, [], ◌∷◌, refl}
use Rattle.std.proofs.Common.{ap, ◌∙◌, subst}
use Rattle.tez_ids.specs.declared.TaskId.{TaskId}
use Rattle.tez_ids.specs.declared.VertexId.{VertexId}
use Rattle.tez_standing.specs.declared.state.Standing.{Standing}
use Rattle.tez_master_model.specs.State.{MasterState}
use Rattle.tez_master_model.specs.Recovery.{KeptState, stood, carried, kept, all_stood, all_carried, all_kept, going_on}
use Rattle.tez_master_model.specs.Recovery.{AllCanStand, AllCanBeCarried, AllCanBeKept, CanGoOn}

abbrev pub with_recorded : MasterState → ℕ → MasterState
with_recorded m n = record m { recorded = n }

all_stood_with : (m : MasterState) (n : ℕ) (xs : List (VertexId × ℕ × ℕ))
    → all_stood (with_recorded m n) xs ≡ with_recorded (all_stood m xs) n
all_stood_with m n [] = refl
all_stood_with m n (x ∷ xs) = all_stood_with (stood m x) n xs

all_carried_with : (m : MasterState) (n : ℕ) (xs : List (TaskId × ℕ))
    → all_carried (with_recorded m n) xs ≡ with_recorded (all_carried m xs) n
all_carried_with m n [] = refl
all_carried_with m n (x ∷ xs) = all_carried_with (carried m x) n xs

all_kept_with : (m : MasterState) (n : ℕ) (ks : List KeptState)
    → all_kept (with_recorded m n) ks ≡ with_recorded (all_kept m ks) n
all_kept_with m n [] = refl
all_kept_with m n (k ∷ ks) = all_kept_with (kept m k) n ks

-- all but the winners
abbrev up_to_winners : MasterState → Standing → MasterState
up_to_winners m s = all_carried (all_stood m s.configured) s.failures

up_to_winners_with : (m : MasterState) (n : ℕ) (s : Standing)
    → up_to_winners (with_recorded m n) s ≡ with_recorded (up_to_winners m s) n
up_to_winners_with m n s =
    ap (λ x. all_carried x s.failures) (all_stood_with m n s.configured)
    ∙ all_carried_with (all_stood m s.configured) n s.failures

pub going_on_with : (m : MasterState) (n : ℕ) (s : Standing) (ks : List KeptState)
    → going_on (with_recorded m n) s ks ≡ with_recorded (going_on m s ks) n
going_on_with m n s ks = ap (λ x. all_kept x ks) (up_to_winners_with m n s) ∙ all_kept_with (up_to_winners m s) n ks

-- ---- nor of what may be told

can_stand_with : (m : MasterState) (n : ℕ) (xs : List (VertexId × ℕ × ℕ))
    → AllCanStand (with_recorded m n) xs → AllCanStand m xs
can_stand_with m n [] h = tt
can_stand_with m n (x ∷ xs) h = (record { edges = h.0.edges; tasks = h.0.tasks }, can_stand_with (stood m x) n xs h.1)

can_carry_with : (m : MasterState) (n : ℕ) (xs : List (TaskId × ℕ))
    → AllCanBeCarried (with_recorded m n) xs → AllCanBeCarried m xs
can_carry_with m n [] h = tt
can_carry_with m n (x ∷ xs) h = (h.0, can_carry_with (carried m x) n xs h.1)

can_keep_with : (m : MasterState) (n : ℕ) (ks : List KeptState)
    → AllCanBeKept (with_recorded m n) ks → AllCanBeKept m ks
can_keep_with m n [] h = tt
can_keep_with m n (k ∷ ks) h = (record { task = h.0.task; fresh = h.0.fresh }, can_keep_with (kept m k) n ks h.1)

pub can_go_on_with : (m : MasterState) (n : ℕ) (s : Standing) (ks : List KeptState)
    → CanGoOn (with_recorded m n) s ks → CanGoOn m s ks
can_go_on_with m n s ks h = record {
  stands = can_stand_with m n s.configured h.stands;
  few =
      can_carry_with (all_stood m s.configured) n s.failures
      (subst (λ x. AllCanBeCarried x s.failures) (all_stood_with m n s.configured) h.few);
  there = can_keep_with (up_to_winners m s) n ks (subst (λ x. AllCanBeKept x ks) (up_to_winners_with m n s) h.there);
}
