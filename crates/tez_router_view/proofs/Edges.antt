-- The edges by their numbers, and their managers as the model's tables.
use Rattle.std.specs.Prelude.{◌≡◌, ℕ, ◌<◌, true, ◌==◌, nat_lt, if◌then◌else◌, List, map, slice_get, Some, None, refl}
use Rattle.std.specs.List.{enumerate_from}
use Rattle.std.proofs.Common.{ap, sym, ◌∙◌, arith, subst, zero-add}
use Rattle.std.proofs.lemmas.Bool.Decides.{nat_tests}
use Rattle.std.proofs.lemmas.Option.{same_Some}
use Rattle.tez_ids.specs.Same.{task}
use Rattle.tez_lists.specs.Numbers.{In}
use Rattle.tez_lists.proofs.Flat.{in-filter-out}
use Rattle.tez_plan.specs.Dag.{Dag, from, to, tasks_of as planned}
use Rattle.tez_plan.specs.declared.parts.EdgeSpec.{EdgeSpec}
use Rattle.tez_plan.specs.declared.parts.Movement.{Movement}
use Rattle.tez_plan.specs.declared.parts.Movement.TheVariants.{OneToOne, Broadcast, ScatterGather}
use Rattle.tez_history.specs.Shape.{Edge, edges_to}
use Rattle.tez_history.specs.History.{Past}
use Rattle.tez_history.specs.Derived.{table_by, table_over, shape_of, task_count, input_count, source_task as source_of_input}
use Rattle.tez_router.specs.State.{table_for}
use Rattle.tez_router.specs.Table.{inputs_in, source_task}
use Rattle.tez_router_view.specs.View.{routing_for, routing_view, link_view, links_view}
use Rattle.tez_router_view.proofs.Lists.{got_from, in-filter-holds}

-- ---- numbers

pub edge_got : {Y : Type 0} (f : Edge → Y) (xs : List EdgeSpec) (e : Edge) → In e (enumerate_from 0 xs) → slice_get (map f (enumerate_from 0 xs)) e.0 ≡ Some (f e)
edge_got f xs e h = let r = got_from f 0 xs e h in ap (slice_get (map f (enumerate_from 0 xs))) (r.1 ∙ zero-add r.0) ∙ r.2

pub one_edge : (xs : List EdgeSpec) (e d : Edge) → In e (enumerate_from 0 xs) → In d (enumerate_from 0 xs) → e.0 ≡ d.0 → e ≡ d
one_edge xs e d h k same =
    same_Some e d (sym (edge_got (λ x. x) xs e h) ∙ ap (slice_get (map (λ x. x) (enumerate_from 0 xs))) same ∙ edge_got (λ x. x) xs d k)

pub edge_in : (g : Dag) (v : ℕ) (e : Edge) → In e (edges_to g v) → In e (enumerate_from 0 g.edges)
edge_in g v e h = in-filter-out (λ x. to g x.1 == v) e (enumerate_from 0 g.edges) h

pub edge_target : (g : Dag) (v : ℕ) (e : Edge) → In e (edges_to g v) → to g e.1 ≡ v
edge_target g v e h = let k : (to g e.1 == v) ≡ true = in-filter-holds (λ x. to g x.1 == v) e (enumerate_from 0 g.edges) h in grind (arith, nat_tests)

pub link_got : (g : Dag) (past : Past) (v : ℕ) (e : Edge) → In e (edges_to g v) → slice_get (links_view g past) e.0 ≡ Some (link_view g past e)
link_got g past v e h = edge_got (link_view g past) g.edges e (edge_in g v e h)

-- ---- tables

pub table_is : (m : Movement) (sources consumers parts base : ℕ) → table_for (routing_for m sources consumers parts base) ≡ table_by m sources consumers parts base
table_is OneToOne sources consumers parts base = refl
table_is Broadcast sources consumers parts base = refl
table_is (ScatterGather keys) sources consumers parts base = refl

pub table_view : (g : Dag) (past : Past) (e : Edge) → table_for (routing_view g past e) ≡ table_over g past e.1
table_view g past e = table_is e.1.movement (task_count g (from g e.1) past) (task_count g (to g e.1) past) (planned g (to g e.1)) (shape_of g (to g e.1) past).base

pub inputs_same : (g : Dag) (past : Past) (e : Edge) (t : ℕ) → inputs_in (routing_view g past e) t ≡ input_count g past e.1 t
inputs_same g past e t = ap (λ x. if nat_lt t x.consumers then x.inputs_of t else 0) (table_view g past e)

below_if : {X : Type 0} (i n : ℕ) (x : X) → i < n → (if nat_lt i n then Some x else None) ≡ Some x
below_if i n x h = grind (arith, nat_tests)

-- an input that there is leads to the task that the model says
pub source_same : (g : Dag) (past : Past) (e : Edge) (t i : ℕ) → i < input_count g past e.1 t → source_task (link_view g past e) t i ≡ Some (source_of_input g past e.1 t i)
source_same g past e t i inside =
    below_if i (inputs_in (routing_view g past e) t) (task (from g e.1) ((table_for (routing_view g past e)).leads t i).0) (subst (λ n. i < n) (sym (inputs_same g past e t)) inside)
    ∙ ap (λ x. Some (task (from g e.1) (x.leads t i).0)) (table_view g past e)
