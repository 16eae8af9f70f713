use Rattle.std.specs.Prelude.{◌≡◌, ◌<◌, length}
use Rattle.std.proofs.Common.{ap, sym, ◌∙◌, arith, get_or}
use Rattle.tez_world.proofs.FirstSinks.{first_found, first_passed}
use Rattle.tez_steps.proofs.Rows.{get_there}
use Rattle.tez_world.proofs.Openings.{sink_there}
use Rattle.tez_world.proofs.opening.first_published.Goals as goal

pub returns-then-branch-clause-found : goal.returns-then-branch-clause-found
returns-then-branch-clause-found g c s at =
    let g' = c.args.job.now.plan in
    let x = c.index-vertices-v.result in
    let vs : c.vertices-vertices.result.now ≡ g'.vertices = c.vertices-vertices.ensures.same ∙ ap (λ d. d.vertices) c.plan.ensures in
    let low : c.loop-v.v < length g'.vertices = omega (arith, c.loop-v-test.true, ap length vs) in
    let is : x ≡ get_or g'.vertices c.loop-v.v x = c.index-vertices-v.is ∙ ap (λ ys. get_or ys c.loop-v.v x) vs in
    let there = get_there g'.vertices c.loop-v.v x low is in
    let told = sym (c.in_ok-is_found.ensures.found s (c.loop-v.invariant.same ∙ at)) ∙ c.if-branch.true in
    sym (c.loop-v.invariant.passed s at ∙ first_found g' s.publications c.loop-v.v x low there told)

pub returns-then-branch-clause-sink : goal.returns-then-branch-clause-sink
returns-then-branch-clause-sink g c =
    let g' = c.args.job.now.plan in
    let x = c.index-vertices-v.result in
    let vs : c.vertices-vertices.result.now ≡ g'.vertices = c.vertices-vertices.ensures.same ∙ ap (λ d. d.vertices) c.plan.ensures in
    let low : c.loop-v.v < length g'.vertices = omega (arith, c.loop-v-test.true, ap length vs) in
    let is : x ≡ get_or g'.vertices c.loop-v.v x = c.index-vertices-v.is ∙ ap (λ ys. get_or ys c.loop-v.v x) vs in
    let there = get_there g'.vertices c.loop-v.v x low is in
    sink_there g' c.loop-v.v x there (c.in_ok-is_found.ensures.sink c.if-branch.true)

pub loop-v-preserved : goal.loop-v-preserved
loop-v-preserved g c =
    let g' = c.args.job.now.plan in
    let x = c.index-vertices-v.result in
    let vs : c.vertices-vertices.result.now ≡ g'.vertices = c.vertices-vertices.ensures.same ∙ ap (λ d. d.vertices) c.plan.ensures in
    let low : c.loop-v.v < length g'.vertices = omega (arith, c.loop-v-test.true, ap length vs) in
    let is : x ≡ get_or g'.vertices c.loop-v.v x = c.index-vertices-v.is ∙ ap (λ ys. get_or ys c.loop-v.v x) vs in
    let there = get_there g'.vertices c.loop-v.v x low is in
    record {
      same = c.in_ok-is_found.ensures.same ∙ c.loop-v.invariant.same;
      faults = c.in_ok-is_found.ensures.steady.0 ∙ c.loop-v.invariant.faults;
      stops = c.in_ok-is_found.ensures.steady.1 ∙ c.loop-v.invariant.stops;
      lent = c.in_ok-is_found.ensures.lent ∙ c.loop-v.invariant.lent;
      sure = λ sure. c.in_ok-is_found.ensures.stays_sure (c.loop-v.invariant.sure sure);
      passed = λ s at. c.loop-v.invariant.passed s at ∙ first_passed g' s.publications c.loop-v.v x low there (sym (c.in_ok-is_found.ensures.found s (c.loop-v.invariant.same ∙ at)) ∙ c.if-branch.false);
    }
