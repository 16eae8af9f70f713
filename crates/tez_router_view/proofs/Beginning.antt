-- Where a master starts, nothing is configured, live or won: the view is the router of the plan.
use Rattle.std.specs.Prelude.{◌≡◌, ℕ, zero, suc, ◌+◌, List, [], ◌∷◌, map, length, replicate, slice_get, Option, Some, None, refl}
use Rattle.std.specs.List.{range_with_len}
use Rattle.std.specs.Option.{option_map_or}
use Rattle.std.proofs.Common.{ap, sym, ◌∙◌, arith, subst, add-zero, zero-add}
use Rattle.tez_ids.specs.declared.TaskId.{TaskId}
use Rattle.tez_ids.specs.declared.AttemptId.{AttemptId}
use Rattle.tez_ids.specs.Same.{task}
use Rattle.tez_lists.specs.Numbers.{numbers_from}
use Rattle.tez_plan.specs.Dag.{Dag, from, to, tasks_of as planned}
use Rattle.tez_plan.specs.declared.parts.EdgeSpec.{EdgeSpec}
use Rattle.tez_plan.specs.declared.parts.Movement.{Movement}
use Rattle.tez_plan.specs.declared.parts.Movement.TheVariants.{OneToOne, Broadcast, ScatterGather}
use Rattle.tez_history.specs.Shape.{Edge}
use Rattle.tez_history.specs.History.{Past, config, live, winner}
use Rattle.tez_history.specs.Derived.{tasks, waiting_attempts}
use Rattle.tez_router.specs.State.{RouterState, LinkState, Routing, AdmittedState}
use Rattle.tez_router.specs.State.{OneToOne as Direct}
use Rattle.tez_router.specs.Planned.{routing_by, planned_link, planned_router, no_winners}
use Rattle.tez_router_view.specs.View.{router_view, link_view, links_view, winners_view, admitted_view, routing_for}
use Rattle.tez_router_view.proofs.Lists.{numbered-map, filter_map-none}
use Rattle.tez_router_view.proofs.Waiting.{waiting_at, waiting_by_task, none_live}
use Rattle.tez_router_view.proofs.Configuring.{routing_at}

-- ---- the edges

routing_planned : (m : Movement) (sources consumers : ℕ) → routing_for m sources consumers consumers 1 ≡ routing_by m sources consumers
routing_planned OneToOne sources consumers = refl
routing_planned Broadcast sources consumers = refl
routing_planned (ScatterGather keys) sources consumers = refl

abbrev link_with : ℕ → ℕ → ℕ → Routing → LinkState
link_with e source target r = record { edge = e; source = source; target = target; routing = r }

abbrev planned_by : Dag → ℕ → Option EdgeSpec → LinkState
planned_by g k o = record {
  edge = k;
  source = option_map_or (from g) o 0;
  target = option_map_or (to g) o 0;
  routing = option_map_or (λ s. routing_by s.movement (planned g (option_map_or (from g) o 0)) (planned g (option_map_or (to g) o 0))) o (Direct 0);
}

abbrev pub edge_of : ℕ → EdgeSpec → Edge
edge_of k x = (k, x)

link_planned : (g : Dag) (past : Past) → ((v : ℕ) → config v past ≡ None) → (k : ℕ) (x : EdgeSpec) → slice_get g.edges k ≡ Some x → link_view g past (edge_of k x) ≡ planned_link g k
link_planned g past none k x h =
    ap (λ o. link_with k (from g x) (to g x) (routing_at g (edge_of k x) o (config (to g x) past))) (none (from g x))
    ∙ ap (λ o. link_with k (from g x) (to g x) (routing_at g (edge_of k x) None o)) (none (to g x))
    ∙ ap (link_with k (from g x) (to g x)) (routing_planned x.movement (planned g (from g x)) (planned g (to g x)))
    ∙ ap (planned_by g k) (sym h)

links_planned : (g : Dag) (past : Past) → ((v : ℕ) → config v past ≡ None) → links_view g past ≡ map (planned_link g) (range_with_len 0 (length g.edges))
links_planned g past none =
    numbered-map (link_view g past) (planned_link g) 0 g.edges (λ k x h. subst (λ m. link_view g past (edge_of m x) ≡ planned_link g m) (sym (zero-add k)) (link_planned g past none k x h))

-- ---- the winners

row-none : {Y : Type 0} (f : ℕ → Option Y) (a n : ℕ) → ((i : ℕ) → f i ≡ None) → map f (numbers_from a n) ≡ replicate n None
row-none f a zero h = refl
row-none f a (suc n) h = let here = h a in let rest = row-none f (suc a) n h in cc

by-element : {X Y : Type 0} (f : ℕ → Y) (h : X → Y) (n : ℕ) (xs : List X) → ((k : ℕ) (x : X) → slice_get xs k ≡ Some x → f (n + k) ≡ h x) → map f (numbers_from n (length xs)) ≡ map h xs
by-element f h n [] s = refl
by-element f h n (x ∷ xs) s =
    let here : f n ≡ h x = subst (λ m. f m ≡ h x) (add-zero n) (s 0 x refl) in
    let rest : map f (numbers_from (suc n) (length xs)) ≡ map h xs = by-element f h (suc n) xs (λ k y g. subst (λ m. f m ≡ h y) (omega arith) (s (suc k) y g)) in
    ap (λ y. y ∷ map f (numbers_from (suc n) (length xs))) here ∙ ap (λ ys. h x ∷ ys) rest

winners_planned : (g : Dag) (past : Past) → ((t : TaskId) → winner t past ≡ None) → winners_view g past ≡ map no_winners g.vertices
winners_planned g past none =
    by-element (λ v. map (λ i. winner (task v i) past) (numbers_from 0 (planned g v))) no_winners 0 g.vertices
    (λ k x h.
    row-none (λ i. winner (task (0 + k) i) past) 0 (planned g (0 + k)) (λ i. none (task (0 + k) i))
    ∙ ap (λ m. replicate (planned g m) None) (zero-add k) ∙ ap (λ o. replicate (option_map_or (λ s. s.tasks) o 0) None) h)

-- ---- the router

abbrev state_of : List LinkState → List (List (Option AttemptId)) → List AdmittedState → RouterState
state_of ls rows xs = record { links = ls; winners = rows; admitted = xs }

pub planned_view : (g : Dag) (past : Past) → ((v : ℕ) → config v past ≡ None) → ((t : TaskId) → live t past ≡ None) → ((t : TaskId) → winner t past ≡ None) → router_view g past ≡ planned_router g
planned_view g past idle dead lost =
    ap (λ ls. state_of ls (winners_view g past) (map (admitted_view g past) (waiting_attempts g past))) (links_planned g past idle)
    ∙ ap (λ rows. state_of (map (planned_link g) (range_with_len 0 (length g.edges))) rows (map (admitted_view g past) (waiting_attempts g past))) (winners_planned g past lost)
    ∙ ap (λ xs. state_of (map (planned_link g) (range_with_len 0 (length g.edges))) (map no_winners g.vertices) (map (admitted_view g past) xs))
    (waiting_by_task g past ∙ filter_map-none (waiting_at past) (tasks g past) (λ t. none_live past t (dead t)))
