use Rattle.std.proofs.Common.{◌∙◌, length, sym, ap, subst, arith}
use Rattle.std.specs.List.{AllByRecursion}
use Rattle.tez_router.specs.Edges.{AreInto}
use Rattle.tez_router.specs.Order.{AreInOrder, IsPlaceOf, IsTaskAt, IsNotTaskAt}
use Rattle.tez_router.proofs.Ordered.{put_over, put_new, put_order, all_put}
use Rattle.tez_router.proofs.order.put.Goals as goal

pub index_mut-requires : goal.index_mut-requires
index_mut-requires c =
    let there = c.is_task_at.ensures.yes c.if-is_task_at.true c.args.x in
    let long = c.as_slice-2.ensures.len in
    omega arith

pub returns-then-is_task_at-clause-put : goal.returns-then-is_task_at-clause-put
returns-then-is_task_at-clause-put c =
    let xs = c.args.admitted.now.items in
    let at = c.place_of-at.result in
    let place = subst (λ a. IsPlaceOf xs a.task at) c.attempt.ensures (subst (λ ys. IsPlaceOf ys c.attempt.result.task at) c.as_slice.ensures.value c.place_of-at.ensures.place) in
    let there = subst (λ a. IsTaskAt xs a.task at) c.attempt.ensures (subst (λ ys. IsTaskAt ys c.attempt.result.task at) c.as_slice-2.ensures.value (c.is_task_at.ensures.yes c.if-is_task_at.true)) in
    put_over c.args.x xs at c.args.x place (there c.args.x).0 (there c.args.x).1

pub returns-then-is_task_at-clause-order : goal.returns-then-is_task_at-clause-order
returns-then-is_task_at-clause-order c =
    let xs = c.args.admitted.now.items in
    let at = c.place_of-at.result in
    let place = subst (λ a. IsPlaceOf xs a.task at) c.attempt.ensures (subst (λ ys. IsPlaceOf ys c.attempt.result.task at) c.as_slice.ensures.value c.place_of-at.ensures.place) in
    let there = subst (λ a. IsTaskAt xs a.task at) c.attempt.ensures (subst (λ ys. IsTaskAt ys c.attempt.result.task at) c.as_slice-2.ensures.value (c.is_task_at.ensures.yes c.if-is_task_at.true)) in
    subst AreInOrder (sym (put_over c.args.x xs at c.args.x place (there c.args.x).0 (there c.args.x).1)) (put_order c.args.x xs c.requires)

pub returns-clause-put : goal.returns-clause-put
returns-clause-put c =
    let xs = c.args.admitted.now.items in
    let at = c.place_of-at.result in
    let place = subst (λ a. IsPlaceOf xs a.task at) c.attempt.ensures (subst (λ ys. IsPlaceOf ys c.attempt.result.task at) c.as_slice.ensures.value c.place_of-at.ensures.place) in
    let apart = subst (λ a. IsNotTaskAt xs a.task at) c.attempt.ensures (subst (λ ys. IsNotTaskAt ys c.attempt.result.task at) c.as_slice-2.ensures.value (c.is_task_at.ensures.no c.if-is_task_at.false)) in
    let same = ap length c.as_slice.ensures.value in
    let inside = c.place_of-at.ensures.inside in
    c.in_ok-insert.ensures.items ∙ put_new c.args.x xs at place (omega arith) apart

pub returns-clause-order : goal.returns-clause-order
returns-clause-order c =
    let xs = c.args.admitted.now.items in
    let at = c.place_of-at.result in
    let place = subst (λ a. IsPlaceOf xs a.task at) c.attempt.ensures (subst (λ ys. IsPlaceOf ys c.attempt.result.task at) c.as_slice.ensures.value c.place_of-at.ensures.place) in
    let apart = subst (λ a. IsNotTaskAt xs a.task at) c.attempt.ensures (subst (λ ys. IsNotTaskAt ys c.attempt.result.task at) c.as_slice-2.ensures.value (c.is_task_at.ensures.no c.if-is_task_at.false)) in
    let same = ap length c.as_slice.ensures.value in
    let inside = c.place_of-at.ensures.inside in
    subst AreInOrder (sym (c.in_ok-insert.ensures.items ∙ put_new c.args.x xs at place (omega arith) apart)) (put_order c.args.x xs c.requires)

pub returns-then-is_task_at-clause-into : goal.returns-then-is_task_at-clause-into
returns-then-is_task_at-clause-into c links here all =
    let xs = c.args.admitted.now.items in
    let at = c.place_of-at.result in
    let place = subst (λ a. IsPlaceOf xs a.task at) c.attempt.ensures (subst (λ ys. IsPlaceOf ys c.attempt.result.task at) c.as_slice.ensures.value c.place_of-at.ensures.place) in
    let there = subst (λ a. IsTaskAt xs a.task at) c.attempt.ensures (subst (λ ys. IsTaskAt ys c.attempt.result.task at) c.as_slice-2.ensures.value (c.is_task_at.ensures.yes c.if-is_task_at.true)) in
    subst (AllByRecursion (AreInto links)) (sym (put_over c.args.x xs at c.args.x place (there c.args.x).0 (there c.args.x).1)) (all_put (AreInto links) c.args.x xs here all)

pub returns-clause-into : goal.returns-clause-into
returns-clause-into c links here all =
    let xs = c.args.admitted.now.items in
    let at = c.place_of-at.result in
    let place = subst (λ a. IsPlaceOf xs a.task at) c.attempt.ensures (subst (λ ys. IsPlaceOf ys c.attempt.result.task at) c.as_slice.ensures.value c.place_of-at.ensures.place) in
    let apart = subst (λ a. IsNotTaskAt xs a.task at) c.attempt.ensures (subst (λ ys. IsNotTaskAt ys c.attempt.result.task at) c.as_slice-2.ensures.value (c.is_task_at.ensures.no c.if-is_task_at.false)) in
    let same = ap length c.as_slice.ensures.value in
    let inside = c.place_of-at.ensures.inside in
    subst (AllByRecursion (AreInto links)) (sym (c.in_ok-insert.ensures.items ∙ put_new c.args.x xs at place (omega arith) apart)) (all_put (AreInto links) c.args.x xs here all)
