use Rattle.std.proofs.Common.{◌≡◌, ◌+◌, ◌<◌, ap, ◌∙◌, sym, subst, arith, length, set}
use Rattle.tez_lists.proofs.Tables.{whole}
use Rattle.tez_lists.specs.Tables.{set_in}
use Rattle.tez_queue.specs.Queue.{row_of, with_task}
use Rattle.tez_queue.specs.Kept.{IsKept}
use Rattle.tez_queue.proofs.FirstLemmas.{same_long}
use Rattle.tez_queue.proofs.SetLemmas.{inside, starts_long, start_read, place_low, kept_set, set_in_past}
use Rattle.tez_queue.proofs.queue.TaskQueue.set.Goals as goal

pub index-requires : goal.index-requires
index-requires c =
    let count = ap (λ r. length (row_of r c.args.t.vertex.0)) c.deref.ensures.value in
    let there = inside c.self.inside.rows.items c.args.t.vertex.0 c.args.t.index (omega arith) in
    let long = starts_long _ _ _ _ _ c.self.invariant in
    omega arith

pub overflow_add-place : goal.overflow_add-place
overflow_add-place c =
    let count = ap (λ r. length (row_of r c.args.t.vertex.0)) c.deref.ensures.value in
    let low : c.args.t.index < length (row_of c.self.inside.rows.items c.args.t.vertex.0) = omega arith in
    let start = start_read _ _ _ _ _ c.args.t.vertex.0 c.index.result.now c.self.invariant (inside c.self.inside.rows.items c.args.t.vertex.0 c.args.t.index low) c.index.ensures in
    let place = place_low _ _ _ _ _ c.args.t.vertex.0 c.args.t.index c.self.invariant low in
    let same = same_long _ _ _ _ _ c.self.invariant in
    let small = c.self.invariant.small in
    omega arith

pub set-requires : goal.set-requires
set-requires c =
    let count = ap (λ r. length (row_of r c.args.t.vertex.0)) c.deref.ensures.value in
    let low : c.args.t.index < length (row_of c.self.inside.rows.items c.args.t.vertex.0) = omega arith in
    let start = start_read _ _ _ _ _ c.args.t.vertex.0 c.index.result.now c.self.invariant (inside c.self.inside.rows.items c.args.t.vertex.0 c.args.t.index low) c.index.ensures in
    let place = place_low _ _ _ _ _ c.args.t.vertex.0 c.args.t.index c.self.invariant low in
    omega arith

pub invariant_of-self : goal.invariant_of-self
invariant_of-self c =
    let count = ap (λ r. length (row_of r c.args.t.vertex.0)) c.deref.ensures.value in
    let rows = c.self.inside.rows.items in
    let low : c.args.t.index < length (row_of c.self.inside.rows.items c.args.t.vertex.0) = omega arith in
    let start = start_read _ _ _ _ _ c.args.t.vertex.0 c.index.result.now c.self.invariant (inside c.self.inside.rows.items c.args.t.vertex.0 c.args.t.index low) c.index.ensures in
    let changed : c.set_in.new.rows ≡ set_in c.self.inside.rows.items c.args.t.vertex.0 c.args.t.index c.args.present = c.set_in.ensures ∙ ap (λ r. set_in r c.args.t.vertex.0 c.args.t.index c.args.present) c.as_mut_slice.ensures.value in
    let back = whole c.self.inside.rows.len c.set_in.new.rows c.self.inside.rows.items (omega arith) in
    let kept = kept_set _ _ _ _ _ c.args.t.vertex.0 c.args.t.index c.args.present c.self.invariant low in
    let at = c.set.ensures ∙ ap (λ n. set c.self.inside.waiting (n + c.args.t.index) c.args.present) start in
    subst (λ r. IsKept c.self.inside.depths.items r c.self.inside.starts.items c.self.inside.tasks.items c.set.new.self) (sym (back ∙ changed))
    (subst (λ f. IsKept c.self.inside.depths.items (set_in c.self.inside.rows.items c.args.t.vertex.0 c.args.t.index c.args.present) c.self.inside.starts.items c.self.inside.tasks.items f) (sym at) kept)

pub returns-else-t-count_of : goal.returns-else-t-count_of
returns-else-t-count_of c =
    let count = ap (λ r. length (row_of r c.args.t.vertex.0)) c.deref.ensures.value in
    let none = set_in_past c.self.inside.rows.items c.args.t.vertex.0 c.args.t.index c.args.present (omega arith) in
    sym c.self.view_is ∙ ap (λ r. record { depths = c.self.inside.depths.items; queued = r }) (sym none) ∙ ap (λ q. with_task q c.args.t c.args.present) c.self.view_is
