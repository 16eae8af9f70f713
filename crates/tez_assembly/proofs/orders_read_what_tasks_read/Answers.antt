use Rattle.std.proofs.Common.{◌≡◌, ap}
use Rattle.tez_meaning.specs.Value.{lines_of}
use Rattle.tez_shares.specs.Shares.{share_of_lines}
use Rattle.tez_values.specs.Heads.{HeadInputs}
use Rattle.tez_values.specs.Program.{output, first_bad}
use Rattle.tez_contents.specs.Contents.{number_of}
use Rattle.tez_assembly.proofs.EdgeLemmas.{numbers_agree}
use Rattle.tez_assembly.proofs.ReadLemmas.{reads_are}
use Rattle.tez_assembly.proofs.orders_read_what_tasks_read.Goals as goal

pub returns-clause-edges : goal.returns-clause-edges
returns-clause-edges c job tasks a place copy of_edge s valid here agrees =
    reads_are job.plan a.task.vertex.0 s (λ name. share_of_lines (lines_of job name) tasks a.task.index) of_edge copy valid here agrees

pub returns-clause-reads : goal.returns-clause-reads
returns-clause-reads c job tasks a place copy s valid here =
    reads_are job.plan a.task.vertex.0 s (λ name. share_of_lines (lines_of job name) tasks a.task.index) (λ e. copy (number_of job.plan e)) copy valid here (numbers_agree job.plan a.task.vertex.0 copy valid)

pub returns-clause-value : goal.returns-clause-value
returns-clause-value c job tasks a place copy s valid here =
    ap (output s.head s.steps) (reads_are job.plan a.task.vertex.0 s (λ name. share_of_lines (lines_of job name) tasks a.task.index) (λ e. copy (number_of job.plan e)) copy valid here (numbers_agree job.plan a.task.vertex.0 copy valid))

pub returns-clause-bad : goal.returns-clause-bad
returns-clause-bad c job tasks a place copy s valid here =
    ap (first_bad s.head s.steps) (reads_are job.plan a.task.vertex.0 s (λ name. share_of_lines (lines_of job name) tasks a.task.index) (λ e. copy (number_of job.plan e)) copy valid here (numbers_agree job.plan a.task.vertex.0 copy valid))
