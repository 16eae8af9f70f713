-- The job of the drill: a word count over a generated text.
--     drill_plan              its plan, the same for all numbers
--     drill_conf              its configuration
--     drill_sources ..        its one source file, so many lines of the seed
--     drill_job seed lines    the plan with this file
use Rattle.std.specs.Prelude.{ℕ, true, List, [], ◌∷◌, Some, None, codes}
use Rattle.tez_conf.specs.declared.values.ConfValues.{ConfValues}
use Rattle.tez_gen.specs.Generate.{text_after}
use Rattle.tez_meaning.specs.Jobs.{Files, Job, job_of}
use Rattle.tez_plan.specs.Dag.{Dag, dag_of}
use Rattle.tez_plan.specs.declared.parts.EdgeSpec.{EdgeSpec}
use Rattle.tez_plan.specs.declared.parts.Head.TheVariants.{Each, Sum}
use Rattle.tez_plan.specs.declared.parts.Movement.TheVariants.{ScatterGather}
use Rattle.tez_plan.specs.declared.parts.Step.TheVariants.{Tokenise}
use Rattle.tez_plan.specs.declared.parts.VertexSpec.{VertexSpec}

unfoldable pub drill_vertices : List VertexSpec
drill_vertices =
    record { name = codes "split"; tasks = 8; source = Some (codes "in.txt"); head = Each; steps = Tokenise ∷ []; sink = None }
    ∷ record { name = codes "total"; tasks = 8; source = None; head = Sum 1; steps = []; sink = Some (codes "counts") }
    ∷ []

unfoldable pub drill_edges : List EdgeSpec
drill_edges = record { source = codes "split"; target = codes "total"; movement = ScatterGather (0 ∷ []) } ∷ []

abbrev pub drill_plan : Dag
drill_plan = dag_of (codes "wc") drill_vertices drill_edges

unfoldable pub drill_conf : ConfValues
drill_conf = record {
  min_src = 250;
  max_src = 750;
  auto_parallel = true;
  desired_bytes = 65536;
  min_tasks = 1;
  max_failed = 4;
  max_masters = 2;
  reuse = true;
  nodes = 2;
  per_node = 2;
}

abbrev pub drill_sources : ℕ → ℕ → Files
drill_sources seed lines = (codes "in.txt", text_after seed lines) ∷ []

abbrev pub drill_job : ℕ → ℕ → Job
drill_job seed lines = job_of drill_plan (drill_sources seed lines)
