-- What is said of sinks by the records and bytes of each.
--     told_text g told             what a run says that succeeded
--     TellsSinks store job text    the text of a success, with the records and bytes of the sinks as the store counted them
--     lines_for vertices sums      the line of each sink of these vertices, by these sums in turn
use Rattle.std.specs.Prelude.{◌≡◌, ℕ, List, [], ◌∷◌, ◌++◌, codes, Option, Some, None}
use Rattle.tez_plan.specs.Dag.{Dag}
use Rattle.tez_ports.specs.Content.{Store, Told}
use Rattle.tez_meaning.specs.Jobs.{Job}
use Rattle.tez_plan.specs.declared.parts.VertexSpec.{VertexSpec}
use Rattle.tez_am.specs.Meaning.{sink_line}
use Rattle.tez_am.specs.Text.{success_text}

abbrev pub lines_by : Option (List ℕ) → (List (ℕ × ℕ) → List ℕ) → List (ℕ × ℕ) → List ℕ
lines_by None rest sums = rest sums
lines_by (Some name) rest [] = []
lines_by (Some name) rest (sum ∷ sums) = sink_line name sum.0 sum.1 ++ rest sums

abbrev pub lines_for : List VertexSpec → List (ℕ × ℕ) → List ℕ
lines_for [] sums = []
lines_for (s ∷ ss) sums = lines_by s.sink (lines_for ss) sums

abbrev pub told_text : Dag → List (ℕ × ℕ) → List ℕ
told_text g told = codes "SUCCEEDED\n" ++ lines_for g.vertices told

-- where the store tells, they are those of the meaning
abbrev pub TellsSinks : Option Store → Job → List ℕ → Type 0
TellsSinks store job text = ((told : List (ℕ × ℕ)) × (text ≡ told_text job.plan told)) × Told store (λ s. text ≡ success_text job)
