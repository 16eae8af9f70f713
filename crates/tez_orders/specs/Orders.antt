-- An order as contracts see it.
use Rattle.std.specs.Prelude.{ℕ, List}
use Rattle.tez_ids.specs.declared.AttemptId.{AttemptId}
use Rattle.tez_ids.specs.declared.EdgeId.{EdgeId}
use Rattle.tez_plan.specs.declared.parts.Program.{Program}
use Rattle.tez_operators.specs.Process.{Keys}
use Rattle.tez_operators.specs.declared.inputs.Inputs.{Inputs}
use Rattle.tez_orders.specs.declared.cut.Cut.{Cut}

-- how the value is cut, for each edge out of the vertex
abbrev pub Outs : Type 0
Outs = List (EdgeId × Cut)

pub record OrderParts : Type 0 where
  pub attempt : AttemptId
  pub place : ℕ
  pub program : Program
  pub keys : Keys
  pub inputs : Inputs
  pub outs : Outs
