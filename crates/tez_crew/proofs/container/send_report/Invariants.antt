use Rattle.std.proofs.Common.{◌≡◌}
use Rattle.crossbeam_queue.specs.Passes.{view, IsPassOf}
use Rattle.tez_crew.proofs.container.send_report.Given as goal

abbrev pub invariant-loop : goal.invariant-loop
invariant-loop g l = IsPassOf l.container.events.now l.pass × (view l.pass ≡ view l.fn.pass) × (l.report ≡ l.fn.report)
