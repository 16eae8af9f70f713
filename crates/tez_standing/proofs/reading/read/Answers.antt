use Rattle.std.proofs.Common.{◌≡◌, ◌≤◌, ◌<◌, ◌∙◌, ap, sym, subst, length, arith}
use Rattle.tez_standing.specs.Standing.{IsFirstIllegal}
use Rattle.tez_standing.specs.Progress.{known_in}
use Rattle.tez_standing.proofs.ReadLemmas.{at_next, at_break}
use Rattle.tez_standing.proofs.SinkLemmas.{can_take}
use Rattle.tez_standing.proofs.reading.read.Goals as goal

pub returns-then-not-allows-clause-illegal : goal.returns-then-not-allows-clause-illegal
returns-then-not-allows-clause-illegal c = λ n e.
    let same : c.loop-place.place ≡ n = cc in
    subst (λ m. IsFirstIllegal c.args.p.now c.args.rs.now m) same
    (at_break c.args.p.now c.args.rs.now c.loop-place.place c.loop-place.progress c.record_at-record.result.now c.loop-place.invariant c.record_at-record.ensures.there (sym c.allows.ensures ∙ c.if-not-allows.true))

pub loop-place-preserved : goal.loop-place-preserved
loop-place-preserved c =
    at_next c.args.p.now c.args.rs.now c.loop-place.place c.loop-place.progress c.add.new.self c.record_at-record.result.now c.vertices-valid.ensures.valid c.loop-place.invariant c.record_at-record.ensures.there
    (sym c.allows.ensures ∙ c.if-not-allows.false) c.record_at-record.ensures.small c.in-Ok-add.ensures

pub add-requires : goal.add-requires
add-requires c =
    let few : length c.args.p.now.vertices ≤ 64 = omega (arith, c.vertices-valid.ensures.few, ap length c.vertices-valid.ensures.same) in
    can_take c.args.p.now (known_in c.loop-place.progress) c.record_at-record.result.now few (sym c.allows.ensures ∙ c.if-not-allows.false)

pub returns-clause-legal : goal.returns-clause-legal
returns-clause-legal c = λ k r l g. let low : k < c.loop-place.place = omega (arith, c.loop-place-test.false, l) in c.loop-place.invariant.legal k r low g
