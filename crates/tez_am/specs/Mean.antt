-- The texts of the tools.
--     text_part sink            the line of a sink of this name and text, and the text
--     Checks word files text    the text is that of a valid plan, which the DAG file says
--     Means word files text     the text is due, and is that of a job that has a meaning
use Rattle.std.specs.Prelude.{◌≡◌, ℕ, List, ◌++◌, length, Option, Ok}
use Rattle.tez_plan.specs.Faults.{IsValid}
use Rattle.tez_record.specs.Line.{lines}
use Rattle.tez_ports.specs.Content.{Named, Told}
use Rattle.tez_meaning.specs.Jobs.{Job}
use Rattle.tez_meaning.specs.Value.{IsDefined}
use Rattle.tez_am.specs.Accept.{AfterDag, IsDag, Planned}
use Rattle.tez_am.specs.Meaning.{sink_line, meaning_text}
use Rattle.tez_am.specs.Tool.{check_text, meaning_of}

unfoldable pub text_part : List ℕ × List ℕ → List ℕ
text_part sink = sink_line sink.0 (length (lines sink.1)) (length sink.1) ++ sink.1

-- the text is that of a valid plan, which the DAG file says
pub record Checks (word : Option (List ℕ)) (files : Option Named) (text : List ℕ) : Type 0 where
  pub said : Planned
  pub valid : IsValid said.0
  pub is : text ≡ check_text said
  pub due : Told files (λ m. IsDag word m (Ok said))

pub record Means (word : Option (List ℕ)) (files : Option Named) (text : List ℕ) : Type 0 where
  pub job : Job
  pub valid : IsValid job.plan
  pub defined : IsDefined job
  pub is : text ≡ meaning_text job
  pub due : Told files (λ m. AfterDag meaning_of word m (Ok text))
