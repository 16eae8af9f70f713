use Rattle.std.proofs.Common.{◌≡◌, ◌<◌, ◌-◌, ◌++◌, ◌∙◌, List, not, take, drop, get_or, sym, ap, arith}
use Rattle.std.specs.List.{flat_map, filter, AllByRecursion}
use Rattle.tez_ids.specs.declared.AttemptId.{AttemptId}
use Rattle.tez_ids.specs.declared.EdgeId.{EdgeId}
use Rattle.tez_router.specs.State.{AdmittedState}
use Rattle.tez_router.specs.Table.{attempt_notices, is_among}
use Rattle.tez_router.specs.Edges.{AreInto}
use Rattle.tez_router.specs.Between.{edges_between, notices_by}
use Rattle.tez_router.proofs.Ordered.{of_vertex, further}
use Rattle.tez_router.proofs.Into.{part_all, part_more, all_get}
use Rattle.tez_router.proofs.Between.{of_all}
use Rattle.tez_router.proofs.Readers.{part_order}
use Rattle.tez_router.proofs.notices.notices_of.Goals as goal

pub add_readers-requires-clause-ordered : goal.add_readers-requires-clause-ordered
add_readers-requires-clause-ordered c = part_order c.args.admitted.now c.loop-at.at (c.end_of-end.result - c.loop-at.at) c.requires.ordered

pub add_readers-requires-clause-here : goal.add_readers-requires-clause-here
add_readers-requires-clause-here c =
    let xs : List AdmittedState = c.args.admitted.now in
    let at = c.loop-at.at in
    let end = c.end_of-end.result in
    let v = c.attempt.result.task.vertex.0 in
    let x : AdmittedState = c.index-admitted-at.result in
    let here : (get_or xs at x).attempt.task.vertex.0 ≡ v = ap (λ (y : AdmittedState). y.attempt.task.vertex.0) (sym c.index-admitted-at.is) ∙ ap (λ (a : AttemptId). a.task.vertex.0) (sym c.attempt.ensures) in
    let more : at < end = further xs at end v x c.end_of-end.ensures.end c.loop-at-test.true here in
    part_all (λ (y : AdmittedState). y.attempt.task.vertex.0 ≡ v) xs at (end - at) (λ k d low high long. of_vertex xs at end v k x d c.requires.ordered c.end_of-end.ensures.end c.loop-at-test.true here low (omega arith) long)

pub loop-at-preserved : goal.loop-at-preserved
loop-at-preserved c =
    let xs : List AdmittedState = c.args.admitted.now in
    let links = c.args.links.now in
    let t = c.args.loss.task in
    let lost = c.args.loss.lost in
    let at = c.loop-at.at in
    let end = c.end_of-end.result in
    let v = c.attempt.result.task.vertex.0 in
    let x : AdmittedState = c.index-admitted-at.result in
    let part : List AdmittedState = take (end - at) (drop at xs) in
    let here : (get_or xs at x).attempt.task.vertex.0 ≡ v = ap (λ (y : AdmittedState). y.attempt.task.vertex.0) (sym c.index-admitted-at.is) ∙ ap (λ (a : AttemptId). a.task.vertex.0) (sym c.attempt.ensures) in
    let more : at < end = further xs at end v x c.end_of-end.ensures.end c.loop-at-test.true here in
    let of : AllByRecursion (λ (y : AdmittedState). y.attempt.task.vertex.0 ≡ v) part =
    part_all (λ (y : AdmittedState). y.attempt.task.vertex.0 ≡ v) xs at (end - at) (λ k d low high long. of_vertex xs at end v k x d c.requires.ordered c.end_of-end.ensures.end c.loop-at-test.true here low (omega arith) long) in
    let into : AllByRecursion (AreInto links) part = part_all (AreInto links) xs at (end - at) (λ k d low high long. all_get (AreInto links) xs k d c.requires.into long) in
    let is : c.as_slice.result.now ≡ edges_between links t.vertex.0 v = c.as_slice.ensures.value ∙ c.in_ok-edges.ensures in
    let same = ap (λ (es : List EdgeId). flat_map (notices_by links t lost es) (filter (λ (y : AdmittedState). not (is_among c.args.ended.now y.attempt)) part)) is ∙ sym (of_all links t lost v c.args.ended.now part c.requires.numbered of into) in
    record {
      inside = c.end_of-end.ensures.inside;
      so_far = part_more (attempt_notices links t lost) (λ (y : AdmittedState). not (is_among c.args.ended.now y.attempt)) xs at end c.loop-at.found.items c.add_readers.new.found.items
          (omega arith) c.loop-at.invariant.so_far (c.in_ok-add_readers.ensures ∙ ap (λ zs. c.loop-at.found.items ++ zs) same);
    }
