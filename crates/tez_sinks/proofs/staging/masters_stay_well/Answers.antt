use Rattle.tez_sinks.proofs.Wells.{well_begins, well_event, well_report, well_answer, event_kept, report_kept, answer_kept, event_over, report_over, answer_over}
use Rattle.tez_sinks.proofs.staging.masters_stay_well.Goals as goal

pub returns-clause-begins : goal.returns-clause-begins
returns-clause-begins c = well_begins

pub returns-clause-event : goal.returns-clause-event
returns-clause-event c = well_event

pub returns-clause-report : goal.returns-clause-report
returns-clause-report c = well_report

pub returns-clause-asked : goal.returns-clause-asked
returns-clause-asked c = well_answer

pub returns-clause-event_takes_none : goal.returns-clause-event_takes_none
returns-clause-event_takes_none c = λ job. event_kept job.plan

pub returns-clause-report_takes_none : goal.returns-clause-report_takes_none
returns-clause-report_takes_none c = report_kept

pub returns-clause-answer_takes_none : goal.returns-clause-answer_takes_none
returns-clause-answer_takes_none c = answer_kept

pub returns-clause-event_finds_no_end : goal.returns-clause-event_finds_no_end
returns-clause-event_finds_no_end c = λ job. event_over job.plan

pub returns-clause-report_finds_no_end : goal.returns-clause-report_finds_no_end
returns-clause-report_finds_no_end c = report_over

pub returns-clause-answer_finds_no_end : goal.returns-clause-answer_finds_no_end
returns-clause-answer_finds_no_end c = answer_over
