use Rattle.std.proofs.Common.{subst, sym}
use Rattle.tez_drill.specs.Drill.{drill_sources}
use Rattle.tez_drill.proofs.Valid.{has_sources}
use Rattle.tez_drill.proofs.job.Goals as goal
use Rattle.tez_meaning.specs.Jobs.{HasSources}

pub new-requires : goal.new-requires
new-requires c =
    subst (λ files. HasSources c.in_ok-plan.plan files) (sym c.in_ok-sources.ensures)
    (subst (λ p. HasSources p (drill_sources c.args.seed c.args.lines)) (sym c.in_ok-plan.ensures) (has_sources c.args.seed c.args.lines))
