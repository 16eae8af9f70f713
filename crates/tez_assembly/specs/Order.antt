-- The order of an attempt: what the program of its vertex reads, and how the value is cut.
--     ahead g v                     the edges into v past its side
--     keys_for g v head             the vertices that feed the head by key, with the key columns of their edges, the left ones first
--     primary_for g v s share copy  the lists that the head reads: the attempt's share of the source, and what it has of each edge
--     side_for g v head copy        the side, where the head reads one
--     outs_for g v                  how the value is cut, for each edge out of v
--     order_for job tasks a place copy s     the order of attempt a of a vertex with so many tasks, where `copy` gives what it has of each edge
--     gathered_for g v copy         the same records, edge by edge
use Rattle.std.specs.Prelude.{◌≡◌, ℕ, not, ◌==◌, List, [], ◌∷◌, ◌++◌, map, Option, Some, None}
use Rattle.std.specs.List.{filter, flat_map, enumerate_from}
use Rattle.std.specs.Option.{option_map_or}
use Rattle.tez_ids.specs.declared.VertexId.{VertexId}
use Rattle.tez_ids.specs.declared.EdgeId.{EdgeId}
use Rattle.tez_ids.specs.declared.AttemptId.{AttemptId}
use Rattle.tez_plan.specs.declared.parts.VertexSpec.{VertexSpec}
use Rattle.tez_plan.specs.declared.parts.EdgeSpec.{EdgeSpec}
use Rattle.tez_plan.specs.declared.parts.Movement.{Movement}
use Rattle.tez_plan.specs.declared.parts.Movement.TheVariants.{OneToOne, Broadcast, ScatterGather}
use Rattle.tez_plan.specs.declared.parts.Head.{Head}
use Rattle.tez_plan.specs.declared.parts.Head.TheVariants.{Each, Sum, Count, Distinct, Join, Lookup, KeepIn, DropIn}
use Rattle.tez_plan.specs.Dag.{Dag, from, to, vertex, edge, is_broadcast, keys_of, tasks_of as planned}
use Rattle.tez_operators.specs.Process.{Keys, Primary}
use Rattle.tez_orders.specs.Orders.{OrderParts, Outs}
use Rattle.tez_orders.specs.declared.cut.Cut.{Cut}
use Rattle.tez_orders.specs.declared.cut.Cut.TheVariants.{Whole, ByKey}
use Rattle.tez_meaning.specs.Jobs.{Job}
use Rattle.tez_meaning.specs.Value.{is_left, lines_of}
use Rattle.tez_shares.specs.Shares.{share_of_lines}
use Rattle.tez_history.specs.Shape.{Edge, edges_to}

abbrev pub Records : Type 0
Records = List (List ℕ)

-- ---- what the program reads

abbrev pub ahead : Dag → ℕ → List Edge
ahead g v = filter (λ e. not (is_broadcast e.1)) (edges_to g v)

abbrev pub beside : Dag → ℕ → List Edge
beside g v = filter (λ e. is_broadcast e.1) (edges_to g v)

-- a vertex and the key columns of its edge
abbrev pub key_at : Dag → EdgeSpec → VertexId × List ℕ
key_at g e = (vertex (from g e), keys_of e)

abbrev pub keys_for : Dag → ℕ → Head → Keys
keys_for g v head =
    map (λ e. key_at g e.1) (filter (λ e. is_left head e.1) (ahead g v) ++ filter (λ e. not (is_left head e.1)) (ahead g v))

abbrev pub part_for : Dag → (ℕ → Records) → Edge → Option VertexId × Records
part_for g copy e = (Some (vertex (from g e.1)), copy e.0)

abbrev pub source_part : (List ℕ → Records) → VertexSpec → Primary
source_part share s = option_map_or (λ name. (None, share name) ∷ []) s.source []

abbrev pub primary_for : Dag → ℕ → VertexSpec → (List ℕ → Records) → (ℕ → Records) → Primary
primary_for g v s share copy = source_part share s ++ map (part_for g copy) (ahead g v)

abbrev pub side_records : Dag → ℕ → (ℕ → Records) → Records
side_records g v copy = flat_map (λ e. copy e.0) (beside g v)

abbrev pub side_for : Dag → ℕ → Head → (ℕ → Records) → Option Records
side_for g v Each copy = None
side_for g v (Sum value) copy = None
side_for g v Count copy = None
side_for g v Distinct copy = None
side_for g v (Join left) copy = None
side_for g v (Lookup key side_key) copy = Some (side_records g v copy)
side_for g v (KeepIn key side_key) copy = Some (side_records g v copy)
side_for g v (DropIn key side_key) copy = Some (side_records g v copy)

-- ---- how the value is cut

abbrev pub cut_by : Movement → ℕ → Cut
cut_by OneToOne parts = Whole
cut_by Broadcast parts = Whole
cut_by (ScatterGather keys) parts = ByKey keys parts

abbrev pub out_for : Dag → Edge → EdgeId × Cut
out_for g e = (edge e.0, cut_by e.1.movement (planned g (to g e.1)))

abbrev pub edges_out : Dag → ℕ → List Edge
edges_out g v = filter (λ e. from g e.1 == v) (enumerate_from 0 g.edges)

abbrev pub outs_for : Dag → ℕ → Outs
outs_for g v = map (out_for g) (edges_out g v)

-- ---- the order

abbrev pub order_for : Job → ℕ → AttemptId → ℕ → (ℕ → Records) → VertexSpec → OrderParts
order_for job tasks a place copy s = record {
  attempt = a;
  place = place;
  program = record { head = s.head; steps = s.steps };
  keys = keys_for job.plan a.task.vertex.0 s.head;
  inputs = record {
    primary = primary_for job.plan a.task.vertex.0 s (λ name. share_of_lines (lines_of job name) tasks a.task.index) copy;
    side = side_for job.plan a.task.vertex.0 s.head copy;
  };
  outs = outs_for job.plan a.task.vertex.0;
}

-- ---- what is gathered for it

abbrev pub Gathered : Type 0
Gathered = List (EdgeId × Records)

abbrev pub gathered_for : Dag → ℕ → (ℕ → Records) → Gathered
gathered_for g v copy = map (λ e. (edge e.0, copy e.0)) (edges_to g v)

-- some records over each edge into v, in order
abbrev pub AreGathered : Dag → ℕ → Gathered → Type 0
AreGathered g v gathered = map (λ part. part.0.0) gathered ≡ map (λ e. e.0) (edges_to g v)
