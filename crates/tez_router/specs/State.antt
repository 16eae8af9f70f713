-- What a router is to its callers.
use Rattle.std.specs.Prelude.{ℕ, Bool, List, Option}
use Rattle.tez_ids.specs.declared.AttemptId.{AttemptId}
use Rattle.tez_tables.specs.Table.{Table, one_to_one, broadcast, scatter_gather}
use Rattle.tez_edges.specs.declared.any.Manager.{Manager}
use Rattle.tez_edges.specs.declared.any.Manager.TheVariants as manager

-- an edge manager by its numbers
pub data Routing : Type 0 where
  OneToOne : (tasks : ℕ) → Routing
  Broadcast : (sources consumers : ℕ) → Routing
  ScatterGather : (sources parts base : ℕ) → Routing

abbrev pub routing_of : Manager → Routing
routing_of (manager.OneToOne m) = OneToOne m.tasks
routing_of (manager.Broadcast m) = Broadcast m.sources m.consumers
routing_of (manager.ScatterGather m) = ScatterGather m.sources m.parts m.base

abbrev pub table_for : Routing → Table
table_for (OneToOne tasks) = one_to_one tasks
table_for (Broadcast sources consumers) = broadcast sources consumers
table_for (ScatterGather sources parts base) = scatter_gather sources parts base

-- an edge: its number, the vertices at its ends, and its manager
pub record LinkState : Type 0 where
  pub edge : ℕ
  pub source : ℕ
  pub target : ℕ
  pub routing : Routing

-- over one edge, which inputs of an admitted attempt were fetched
pub record EdgeInputs : Type 0 where
  pub edge : ℕ
  pub fetched : List Bool

pub record AdmittedState : Type 0 where
  pub attempt : AttemptId
  pub edges : List EdgeInputs

-- the edges, the winner of each task by vertex and index, and the admitted attempts in the order of their tasks
pub record RouterState : Type 0 where
  pub links : List LinkState
  pub winners : List (List (Option AttemptId))
  pub admitted : List AdmittedState
