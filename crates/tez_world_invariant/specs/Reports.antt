-- Reports of attempts.
--     IsOut job c ps past a    attempt a is at a place, and its order lies there
--     made_for g a f           so many bytes for each scatter-gather edge out of the attempt's vertex
--     HasPut job c past a p before now    the shelves hold what they did, and the pieces of attempt a
use Rattle.std.specs.Prelude.{◌≡◌, ◌<◌, ℕ, if◌then◌else◌, List, map, Some}
use Rattle.std.specs.List.{filter, enumerate_from}
use Rattle.tez_ids.specs.declared.AttemptId.{AttemptId}
use Rattle.tez_ids.specs.declared.EdgeId.{EdgeId}
use Rattle.tez_ids.specs.declared.NodeId.{NodeId}
use Rattle.tez_ids.specs.Same.{same_attempt}
use Rattle.tez_plan.specs.Dag.{Dag, edge}
use Rattle.tez_conf.specs.declared.values.ConfValues.{ConfValues}
use Rattle.tez_meaning.specs.Jobs.{Job}
use Rattle.tez_history.specs.Shape.{places, slot_of}
use Rattle.tez_history.specs.History.{Past, Runs, stage, life}
use Rattle.tez_pool.specs.Table.{place_held}
use Rattle.tez_orders.specs.Orders.{OrderParts}
use Rattle.tez_orders.specs.Outcomes.{pieces_of}
use Rattle.tez_shelves.specs.Shelf.{shelf}
use Rattle.tez_contents.specs.Contents.{made}
use Rattle.tez_assembly.specs.Order.{outs_for}
use Rattle.tez_inflight.specs.Seats.{Out, seat_at}
use Rattle.tez_master_model.specs.Bytes.{leaves_by_key}
use Rattle.tez_work_view.specs.Holdings.{Pieces, node, order_view}
use Rattle.tez_world_invariant.specs.Keeping.{Parts}

pub record IsOut (job : Job) (c : ConfValues) (ps : Parts) (past : Past) (a : AttemptId) : Type 0 where
  pub place : ℕ
  pub order : OrderParts
  pub held : place_held ps.master.pool.places a ≡ Some place
  pub inside : place < places c
  pub runs : stage a past ≡ Runs place
  pub is : order_view job past a place ≡ Some order
  pub there : seat_at ps.seats place ≡ Out order
  pub own : order.attempt ≡ a

abbrev pub made_for : Dag → AttemptId → (ℕ → ℕ) → List (EdgeId × ℕ)
made_for g a f = map (λ e. (edge e.0, f e.0)) (filter (leaves_by_key g a.task.vertex.0) (enumerate_from 0 g.edges))

abbrev pub Shelves : Type 0
Shelves = List (AttemptId × (NodeId × Pieces))

-- the pieces of what the attempt made are on a shelf of the present node at its place
abbrev pub HasPut : Job → ConfValues → Past → AttemptId → ℕ → Shelves → Shelves → Type 0
HasPut job c past a p before now =
    (b : AttemptId) → shelf b now
    ≡ (if same_attempt a b then Some (node (slot_of c p) (life (slot_of c p) past), pieces_of (outs_for job.plan a.task.vertex.0) (made job a past)) else shelf b before)
