-- The piece that an attempt fetches is on the shelf, under the output behind its input.
use Rattle.std.specs.Prelude.{◌≡◌, ℕ, ◌<◌, nat_lt, Bool, true, false, if◌then◌else◌, [], Option, Some, refl}
use Rattle.std.specs.Option.{option_map_or}
use Rattle.std.proofs.Common.{ap, sym, ◌∙◌, arith}
use Rattle.std.proofs.lemmas.Option.{same_Some}
use Rattle.tez_ids.specs.declared.TaskId.{TaskId}
use Rattle.tez_ids.specs.declared.AttemptId.{AttemptId}
use Rattle.tez_ids.specs.declared.NodeId.{NodeId}
use Rattle.std.proofs.lemmas.Bool.Decides.{nat_tests}
use Rattle.tez_lists.specs.Numbers.{In}
use Rattle.tez_plan.specs.Dag.{Dag, from, to, edge, tasks_of as planned}
use Rattle.tez_plan.specs.declared.parts.EdgeSpec.{EdgeSpec}
use Rattle.tez_plan.specs.declared.parts.Movement.{Movement}
use Rattle.tez_plan.specs.declared.parts.Movement.TheVariants.{OneToOne, Broadcast, ScatterGather}
use Rattle.tez_tables.proofs.TableLemmas.{one_to_one_inside, broadcast_inside, scatter_gather_inside}
use Rattle.tez_history.specs.Shape.{Edge, edges_to}
use Rattle.tez_conf.specs.declared.values.ConfValues.{ConfValues}
use Rattle.tez_history.specs.History.{Past, Location, Nowhere, On, InQuestion, location, life}
use Rattle.tez_history.specs.Derived.{table_by, table_over, input_count, task_count, shape_of, source_of_input}
use Rattle.tez_history.specs.Steps.{winner_behind}
use Rattle.tez_laws.proofs.Tasks.{winner_task}
use Rattle.tez_orders.specs.Outcomes.{pieces_of}
use Rattle.tez_shelves.specs.Piece.{piece_at}
use Rattle.tez_meaning.specs.Jobs.{Job}
use Rattle.tez_contents.specs.Contents.{Records, made, piece_for, piece_over}
use Rattle.tez_assembly.specs.Order.{outs_for}
use Rattle.tez_assembly.specs.Laws.{IsOutput}
use Rattle.tez_assembly.proofs.CutLemmas.{piece_is}
use Rattle.tez_router_view.proofs.Edges.{edge_in, one_edge}
use Rattle.tez_router_view.proofs.Sources.{edge_of, behind, input-in}
use Rattle.tez_work_view.specs.Holdings.{node, Pieces, shelf_by, shelf_view}
use Rattle.tez_work_view.proofs.Fetched.{behind_below}
use Rattle.tez_work_view.proofs.OrderLemmas.{edge_at}

first_output : (o : ℕ) → o < 1 → o ≡ 0
first_output o h = omega arith

there_by : (m : Movement) (sources consumers parts base c i : ℕ) → c < (table_by m sources consumers parts base).consumers → i < (table_by m sources consumers parts base).inputs_of c
    → IsOutput m parts ((table_by m sources consumers parts base).leads c i).1
there_by OneToOne sources consumers parts base c i h k = first_output _ ((one_to_one_inside sources).output c i h k)
there_by Broadcast sources consumers parts base c i h k = first_output _ ((broadcast_inside sources consumers).output c i h k)
there_by (ScatterGather keys) sources consumers parts base c i h k = (scatter_gather_inside sources parts base).output c i h k

counted : (c n i k : ℕ) → i < (if nat_lt c n then k else 0) → (c < n) × (i < k)
counted c n i k h = by (nat_lt c n) refl h where
  by : (b : Bool) → nat_lt c n ≡ b → i < (if b then k else 0) → (c < n) × (i < k)
  by true e l = (grind (arith, nat_tests), l)
  by false e l = absurd (omega arith)

pub output_there : (g : Dag) (past : Past) (e : EdgeSpec) (t i : ℕ) → i < input_count g past e t → IsOutput e.movement (planned g (to g e)) ((table_over g past e).leads t i).1
output_there g past e t i h =
    let k = counted t (table_over g past e).consumers i ((table_over g past e).inputs_of t) h in
    there_by e.movement (task_count g (from g e) past) (task_count g (to g e) past) (planned g (to g e)) (shape_of g (to g e) past).base t i k.0 k.1

-- the piece of the output behind an input
pub piece_found : (g : Dag) (past : Past) (v : ℕ) (e : Edge) (t i : ℕ) (value : Records) → In e (edges_to g v) → i < input_count g past e.1 t
    → piece_at (edge e.0) ((table_over g past e.1).leads t i).1 (pieces_of (outs_for g (from g e.1)) value) ≡ Some (piece_over g past e.0 t i value)
piece_found g past v e t i value there low =
    let at = edge_in g v e there in
    piece_is g (from g e.1) e ((table_over g past e.1).leads t i).1 value at refl (output_there g past e.1 t i low)
    ∙ ap Some (sym (ap (λ (o : Option EdgeSpec). option_map_or (λ d. piece_for g past d t i value) o []) (edge_at g e at)))

-- ---- the winner behind an input has it on its shelf

shelf_has : (job : Job) (past : Past) (w : AttemptId) (l : Location) (s : NodeId × Pieces) → shelf_by job past w l ≡ Some s → s.1 ≡ pieces_of (outs_for job.plan w.task.vertex.0) (made job w past)
shelf_has job past w Nowhere s h = cc
shelf_has job past w (InQuestion slot) s h = cc
shelf_has job past w (On slot) s h = sym (ap (λ (x : NodeId × Pieces). x.1) (same_Some (node slot (life slot past), pieces_of (outs_for job.plan w.task.vertex.0) (made job w past)) s h))

source_vertex : (g : Dag) (past : Past) (a : AttemptId) (e : Edge) (i : ℕ) (w : AttemptId) → In e (edges_to g a.task.vertex.0) → winner_behind g past a e.0 i ≡ Some w → w.task.vertex.0 ≡ from g e.1
source_vertex g past a e i w there h =
    let r = behind g past a e.0 i w h in
    let k = input-in g past a r.at r.there in
    let one : edge_of r.at ≡ e = one_edge g.edges (edge_of r.at) e (edge_in g a.task.vertex.0 (edge_of r.at) k.edge) (edge_in g a.task.vertex.0 e there) r.edge in
    ap (λ (t : TaskId). t.vertex.0) (winner_task past (source_of_input g past a r.at) w r.won) ∙ ap (λ (d : Edge). from g d.1) one

pub fetch_finds : (job : Job) (c : ConfValues) (past : Past) (a : AttemptId) (e : Edge) (i : ℕ) (w : AttemptId) (s : NodeId × Pieces) → In e (edges_to job.plan a.task.vertex.0) → winner_behind job.plan past a e.0 i ≡ Some w
    → shelf_view job c past w ≡ Some s → piece_at (edge e.0) ((table_over job.plan past e.1).leads a.task.index i).1 s.1 ≡ Some (piece_over job.plan past e.0 a.task.index i (made job w past))
fetch_finds job c past a e i w s there won has =
    let pieces : s.1 ≡ pieces_of (outs_for job.plan (from job.plan e.1)) (made job w past) =
    shelf_has job past w (location c w past) s has ∙ ap (λ v. pieces_of (outs_for job.plan v) (made job w past)) (source_vertex job.plan past a e i w there won) in
    ap (piece_at (edge e.0) ((table_over job.plan past e.1).leads a.task.index i).1) pieces
    ∙ piece_found job.plan past a.task.vertex.0 e a.task.index i (made job w past) there (behind_below job.plan past a e i w there won)
