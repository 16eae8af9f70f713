use Rattle.tez_sinks.proofs.Publications.{counted, all_published, finished_published, at_most_once, once}
use Rattle.tez_sinks.proofs.result.results_are_whole.Goals as goal

pub returns-clause-whole : goal.returns-clause-whole
returns-clause-whole c = finished_published

pub returns-clause-recorded : goal.returns-clause-recorded
returns-clause-recorded c = counted

pub returns-clause-all : goal.returns-clause-all
returns-clause-all c = all_published

pub returns-clause-once : goal.returns-clause-once
returns-clause-once c = λ job k past before valid m new over none h. once job valid before k past m new over none h

pub returns-clause-at_most_once : goal.returns-clause-at_most_once
returns-clause-at_most_once c = λ job k past before valid m new. at_most_once job valid before k past m new
