use Rattle.std.proofs.Common.{◌≡◌, ap, ◌∙◌, arith, length, map, replicate, false, flat_map}
use Rattle.tez_lists.specs.Numbers.{numbers_from}
use Rattle.tez_queue.specs.Queue.{row_of}
use Rattle.tez_queue.specs.Kept.{by_depth, start_of, tasks_of}
use Rattle.tez_queue.proofs.OrderLemmas.{of_plan, few_vertices, few_depths, few_rows, low_rows, few_tasks_in, kept_new, new_is}
use Rattle.tez_queue.proofs.queue.TaskQueue.new.Goals as goal

pub by_depth-requires : goal.by_depth-requires
by_depth-requires c =
    let few = few_depths c.args.p.now c.in_ok-depths.depths.items c.in_ok-rows.rows.items (of_plan c.args.p.now c.in_ok-depths.depths.items c.in_ok-rows.rows.items c.vertices.result.now c.vertices.ensures.valid c.vertices.ensures.in_ranges c.vertices.ensures.few c.vertices.ensures.same c.in_ok-depths.ensures c.in_ok-rows.ensures) in
    let same = ap length c.deref.ensures.value in
    omega arith

pub starts_of-requires-clause-some : goal.starts_of-requires-clause-some
starts_of-requires-clause-some c =
    let few = few_rows c.args.p.now c.in_ok-depths.depths.items c.in_ok-rows.rows.items (of_plan c.args.p.now c.in_ok-depths.depths.items c.in_ok-rows.rows.items c.vertices.result.now c.vertices.ensures.valid c.vertices.ensures.in_ranges c.vertices.ensures.few c.vertices.ensures.same c.in_ok-depths.ensures c.in_ok-rows.ensures) in
    let same = ap length c.deref-2.ensures.value in
    omega arith

pub starts_of-requires-clause-few : goal.starts_of-requires-clause-few
starts_of-requires-clause-few c =
    let few = few_vertices c.in_ok-depths.depths.items (few_depths c.args.p.now c.in_ok-depths.depths.items c.in_ok-rows.rows.items (of_plan c.args.p.now c.in_ok-depths.depths.items c.in_ok-rows.rows.items c.vertices.result.now c.vertices.ensures.valid c.vertices.ensures.in_ranges c.vertices.ensures.few c.vertices.ensures.same c.in_ok-depths.ensures c.in_ok-rows.ensures)) in
    let same = ap length (c.deref-3.ensures.value ∙ c.in_ok-vertices.ensures ∙ ap by_depth c.deref.ensures.value) in
    omega arith

pub starts_of-requires-clause-low : goal.starts_of-requires-clause-low
starts_of-requires-clause-low c w =
    let low = low_rows c.args.p.now c.in_ok-depths.depths.items c.in_ok-rows.rows.items (of_plan c.args.p.now c.in_ok-depths.depths.items c.in_ok-rows.rows.items c.vertices.result.now c.vertices.ensures.valid c.vertices.ensures.in_ranges c.vertices.ensures.few c.vertices.ensures.same c.in_ok-depths.ensures c.in_ok-rows.ensures) w in
    let same = ap (λ r. length (row_of r w)) c.deref-2.ensures.value in
    omega arith

pub overflow_cast-len : goal.overflow_cast-len
overflow_cast-len c =
    let few = few_tasks_in c.args.p.now c.in_ok-depths.depths.items c.in_ok-rows.rows.items (of_plan c.args.p.now c.in_ok-depths.depths.items c.in_ok-rows.rows.items c.vertices.result.now c.vertices.ensures.valid c.vertices.ensures.in_ranges c.vertices.ensures.few c.vertices.ensures.same c.in_ok-depths.ensures c.in_ok-rows.ensures) c.in_ok-tasks.tasks.items (c.in_ok-tasks.ensures ∙ ap (λ r. flat_map (tasks_of r) c.deref-5.result.now) c.deref-4.ensures.value ∙ ap (flat_map (tasks_of c.in_ok-rows.rows.items)) (c.deref-5.ensures.value ∙ c.in_ok-vertices.ensures ∙ ap by_depth c.deref.ensures.value)) in
    let long = c.len.ensures in
    omega arith

pub invariant_of-result : goal.invariant_of-result
invariant_of-result c =
    let long : c.in_ok-tasks.tasks.len ≡ length c.in_ok-tasks.tasks.items = omega arith in
    kept_new c.args.p.now c.in_ok-depths.depths.items c.in_ok-rows.rows.items (of_plan c.args.p.now c.in_ok-depths.depths.items c.in_ok-rows.rows.items c.vertices.result.now c.vertices.ensures.valid c.vertices.ensures.in_ranges c.vertices.ensures.few c.vertices.ensures.same c.in_ok-depths.ensures c.in_ok-rows.ensures) c.in_ok-starts.starts.items c.in_ok-tasks.tasks.items c.in_ok-waiting.waiting
    (c.in_ok-starts.ensures ∙ ap (λ r. map (start_of r c.deref-3.result.now) (numbers_from 0 (length r))) c.deref-2.ensures.value ∙ ap (λ v. map (start_of c.in_ok-rows.rows.items v) (numbers_from 0 (length c.in_ok-rows.rows.items))) (c.deref-3.ensures.value ∙ c.in_ok-vertices.ensures ∙ ap by_depth c.deref.ensures.value))
    (c.in_ok-tasks.ensures ∙ ap (λ r. flat_map (tasks_of r) c.deref-5.result.now) c.deref-4.ensures.value ∙ ap (flat_map (tasks_of c.in_ok-rows.rows.items)) (c.deref-5.ensures.value ∙ c.in_ok-vertices.ensures ∙ ap by_depth c.deref.ensures.value))
    (c.in_ok-waiting.ensures ∙ ap (λ n. replicate n false) (c.len.ensures ∙ long))

pub returns : goal.returns
returns c = new_is c.args.p.now c.in_ok-depths.depths.items c.in_ok-rows.rows.items (of_plan c.args.p.now c.in_ok-depths.depths.items c.in_ok-rows.rows.items c.vertices.result.now c.vertices.ensures.valid c.vertices.ensures.in_ranges c.vertices.ensures.few c.vertices.ensures.same c.in_ok-depths.ensures c.in_ok-rows.ensures)
