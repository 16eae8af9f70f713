use Rattle.std.proofs.Common.{◌≡◌, ap, sym, ◌∙◌, subst, take, get_or}
use Rattle.tez_pool.specs.Table.{free}
use Rattle.tez_pool.specs.Victim.{IsKnown, candidate, candidates, greater}
use Rattle.tez_pool.proofs.PlaceLemmas.{got}
use Rattle.tez_pool.proofs.VictimLemmas.{IsBest, best_more, candidates_more, known_more, waiting_known, candidate_known}
use Rattle.tez_pool.proofs.victim.victim.Goals as goal

pub candidate-next-requires : goal.candidate-next-requires
candidate-next-requires c = waiting_known c.args.plan.now c.args.places.now c.loop-place.place-index _ c.requires (got c.args.places.now c.loop-place.place-index (free 0) c.loop-place-test.true)

pub greater-best-requires-clause-second : goal.greater-best-requires-clause-second
greater-best-requires-clause-second c =
    subst (IsKnown c.args.plan.now) (sym c.candidate-next.ensures) (candidate_known c.args.plan.now c.args.bound (get_or c.args.places.now c.loop-place.place-index (free 0)) (waiting_known c.args.plan.now c.args.places.now c.loop-place.place-index (get_or c.args.places.now c.loop-place.place-index (free 0)) c.requires (got c.args.places.now c.loop-place.place-index (free 0) c.loop-place-test.true)))

pub loop-place-preserved : goal.loop-place-preserved
loop-place-preserved c =
    let plan = c.args.plan.now in
    let i = c.loop-place.place-index in
    let x = get_or c.args.places.now i (free 0) in
    let next = candidate plan c.args.bound x in
    let same : c.greater-best.result ≡ greater plan c.loop-place.best next = c.greater-best.ensures ∙ ap (greater plan c.loop-place.best) c.candidate-next.ensures in
    let known = candidate_known plan c.args.bound x (waiting_known c.args.plan.now c.args.places.now c.loop-place.place-index (get_or c.args.places.now c.loop-place.place-index (free 0)) c.requires (got c.args.places.now c.loop-place.place-index (free 0) c.loop-place-test.true)) in
    let best = best_more plan (candidates plan c.args.bound (take i c.args.places.now)) c.loop-place.best next c.loop-place.invariant.best in
    record {
      best = subst (λ cs. IsBest plan cs c.greater-best.result) (sym (candidates_more plan c.args.bound c.args.places.now i (free 0) c.loop-place-test.true)) (subst (IsBest plan _) (sym same) best);
      known = subst (IsKnown plan) (sym same) (known_more plan c.loop-place.best next c.loop-place.invariant.known known);
    }
