-- All that is found, one thing after another.
use Rattle.std.specs.Prelude.{◌≡◌, ℕ, ◌<◌, ◌≤◌, Bool, true, false, List, [], ◌∷◌, map, Option, Some, None, refl}
use Rattle.std.specs.List.{fold}
use Rattle.std.proofs.Common.{ap, sym, ◌∙◌, subst, inl, inr}
use Rattle.std.proofs.lemmas.Bool.Decides.{nat_tests}
use Rattle.tez_ids.specs.declared.TaskId.{TaskId}
use Rattle.tez_ids.specs.declared.VertexId.{VertexId}
use Rattle.tez_ids.specs.Same.{same_attempt}
use Rattle.tez_lists.specs.Numbers.{In}
use Rattle.tez_plan.specs.Dag.{Dag}
use Rattle.tez_plan.specs.Faults.{IsValid}
use Rattle.tez_plan.specs.Ranges.{IsInRanges}
use Rattle.tez_conf.specs.declared.values.ConfValues.{ConfValues}
use Rattle.tez_history.specs.History.{Past, Location, Nowhere, On, InQuestion, extend, kept_there, live, location}
use Rattle.tez_history.specs.Derived.{is_task}
use Rattle.tez_history.specs.Follows.{IsMade, IsOpen, MayFollow}
use Rattle.tez_progress.specs.Laws.{found_configs}
use Rattle.tez_vertex.specs.Vertex.{Vertex}
use Rattle.tez_master_model.specs.Vertices.{configure_one, carry_one, keep_one, AreRestorable}
use Rattle.tez_master_model.proofs.Restorable.{configured_fresh, carried_fresh, kept_fresh}
use Rattle.tez_router_view.specs.View.{FitsPlan}
use Rattle.tez_router_view.proofs.Keeping.{entry_fits}
use Rattle.tez_schedule_view.specs.Events.{Tells}
use Rattle.tez_master_view.specs.View.{master_view, slot_by}
use Rattle.tez_master_model.specs.Recovery.{KeptState, config_in, slot_kept, all_stood, all_carried, all_kept, AllCanStand, AllCanBeCarried, AllCanBeKept}
use Rattle.tez_recovery.specs.Laws.{stands_entry, carried_entry, kept_entry, IsSizedFor, AreOnce}
use Rattle.tez_recovery.proofs.Steps.{with_vertices, stood_step, can_stand, carried_step, can_carry, kept_step, can_keep}
use Rattle.tez_recovery.proofs.Entries.{AreNew, new_after}

-- a master is up, and goes by this history
pub record IsGoing (g : Dag) (c : ConfValues) (p : Past) : Type 0 where
  pub made : IsMade g c p
  pub open_now : IsOpen p
  pub fits : FitsPlan g p

inside : (a b : ℕ) → a < b → Rattle.std.specs.Prelude.nat_lt a b ≡ true
inside a b h = grind (Rattle.std.proofs.Common.arith, nat_tests)

-- ---- configurations

abbrev stood_vertices : List Vertex → List (VertexId × ℕ × ℕ) → List Vertex
stood_vertices vs xs = fold configure_one vs (found_configs xs)

pub record AllStood (g : Dag) (c : ConfValues) (p : Past) (vs : List Vertex) (xs : List (VertexId × ℕ × ℕ)) : Type 0 where
  pub can : AllCanStand (with_vertices (master_view g c p) vs) xs
  pub is : all_stood (with_vertices (master_view g c p) vs) xs ≡ with_vertices (master_view g c (extend p (map stands_entry xs))) (stood_vertices vs xs)
  pub going : IsGoing g c (extend p (map stands_entry xs))
  pub fresh : AreRestorable c (stood_vertices vs xs)

-- what a configuration of these has to be
pub record IsFine (g : Dag) (x : VertexId × ℕ × ℕ) : Type 0 where
  pub some : 1 ≤ x.1
  pub sized : IsSizedFor g x

pub stands : (g : Dag) (c : ConfValues) (p : Past) (vs : List Vertex) (xs : List (VertexId × ℕ × ℕ)) → IsValid g → IsInRanges g → 0 < c.max_failed → IsGoing g c p → AreRestorable c vs → AreNew p xs → AreOnce xs
    → ((x : VertexId × ℕ × ℕ) → In x xs → IsFine g x) → AllStood g c p vs xs
stands g c p vs [] valid ranges some go fresh new once fine = record { can = tt; is = refl; going = go; fresh = fresh }
stands g c p vs (x ∷ xs) valid ranges some go fresh new once fine =
    let f = fine x (inl refl) in
    let may : MayFollow g c p (stands_entry x) = (new x (inl refl), inside x.0.0 _ f.sized.inside, go.open_now) in
    let fits : FitsPlan g (stands_entry x ∷ p) = entry_fits g c p (stands_entry x) valid may f.sized.few go.fits in
    let step = stood_step g c p vs x go.made may fits in
    let rest = stands g c (stands_entry x ∷ p) (configure_one vs (x.0.0, config_in x)) xs valid ranges some (record { made = (may, go.made); open_now = refl; fits = fits })
    (configured_fresh c vs (x.0.0, config_in x) some fresh) (new_after p x xs new once) once.1 (λ y i. fine y (inr i)) in
    record {
      can = (can_stand g c p vs x ranges go.made may fits f.some f.sized, subst (λ m. AllCanStand m xs) (sym step) rest.can);
      is = ap (λ m. all_stood m xs) step ∙ rest.is;
      going = rest.going;
      fresh = rest.fresh;
    }

-- ---- failures

pub record AllCarried (g : Dag) (c : ConfValues) (p : Past) (vs : List Vertex) (xs : List (TaskId × ℕ)) : Type 0 where
  pub can : AllCanBeCarried (with_vertices (master_view g c p) vs) xs
  pub is : all_carried (with_vertices (master_view g c p) vs) xs ≡ with_vertices (master_view g c (extend p (map carried_entry xs))) (fold carry_one vs xs)
  pub going : IsGoing g c (extend p (map carried_entry xs))
  pub fresh : AreRestorable c (fold carry_one vs xs)

pub carries : (g : Dag) (c : ConfValues) (p : Past) (vs : List Vertex) (xs : List (TaskId × ℕ)) → IsGoing g c p → AreRestorable c vs → ((x : TaskId × ℕ) → In x xs → x.1 < c.max_failed) → AllCarried g c p vs xs
carries g c p vs [] go fresh few = record { can = tt; is = refl; going = go; fresh = fresh }
carries g c p vs (x ∷ xs) go fresh few =
    let below = few x (inl refl) in
    let step = carried_step g c p vs x in
    let rest = carries g c (carried_entry x ∷ p) (carry_one vs x) xs (record { made = (go.open_now, go.made); open_now = refl; fits = go.fits }) (carried_fresh c vs x below fresh) (λ y i. few y (inr i)) in
    record {
      can = (can_carry g c p vs x fresh below, subst (λ m. AllCanBeCarried m xs) (sym step) rest.can);
      is = ap (λ m. all_carried m xs) step ∙ rest.is;
      going = rest.going;
      fresh = rest.fresh;
    }

-- ---- winners

abbrev pub kept_vertices : List Vertex → List KeptState → List Vertex
kept_vertices vs ks = fold keep_one vs (map (λ k. k.attempt) ks)

pub record AllKept (g : Dag) (c : ConfValues) (p : Past) (vs : List Vertex) (ks : List KeptState) : Type 0 where
  pub can : AllCanBeKept (with_vertices (master_view g c p) vs) ks
  pub is : all_kept (with_vertices (master_view g c p) vs) ks ≡ with_vertices (master_view g c (extend p (map kept_entry ks))) (kept_vertices vs ks)

-- what a winner of these has to be
pub record IsThere (g : Dag) (c : ConfValues) (p : Past) (k : KeptState) : Type 0 where
  pub task : is_task g p k.attempt.task ≡ true
  pub locations : slot_kept k ≡ slot_by (kept_there true (location c k.attempt p))
  pub made : Tells g p k.attempt k.made

twice : (b : Bool) (l : Location) → kept_there true (kept_there b l) ≡ kept_there true l
twice true Nowhere = refl
twice true (On slot) = refl
twice true (InQuestion slot) = refl
twice false l = refl

there_after : (g : Dag) (c : ConfValues) (p : Past) (k x : KeptState) → IsThere g c p x → IsThere g c (kept_entry k ∷ p) x
there_after g c p k x t = record {
  task = t.task;
  locations = t.locations ∙ ap slot_by (sym (twice (same_attempt k.attempt x.attempt) (location c x.attempt p)));
  made = λ e low from. t.made e low from;
}

pub keeps_all : (g : Dag) (c : ConfValues) (p : Past) (vs : List Vertex) (ks : List KeptState) → IsGoing g c p → ((t : TaskId) → live t p ≡ None) → AreRestorable c vs → ((k : KeptState) → In k ks → IsThere g c p k) → AllKept g c p vs ks
keeps_all g c p vs [] go dead fresh there = record { can = tt; is = refl }
keeps_all g c p vs (k ∷ ks) go dead fresh there =
    let t = there k (inl refl) in
    let may : MayFollow g c p (kept_entry k) = (dead k.attempt.task, t.task, go.open_now) in
    let step = kept_step g c p vs k go.made go.fits may t.made t.locations in
    let rest = keeps_all g c (kept_entry k ∷ p) (keep_one vs k.attempt) ks (record { made = (may, go.made); open_now = refl; fits = go.fits }) (λ u. dead u) (kept_fresh c vs k.attempt fresh) (λ x i. there_after g c p k x (there x (inr i))) in
    record {
      can = (can_keep g c p vs k go.made fresh t.task, subst (λ m. AllCanBeKept m ks) (sym step) rest.can);
      is = ap (λ m. all_kept m ks) step ∙ rest.is;
    }
