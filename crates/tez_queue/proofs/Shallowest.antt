-- The first of a queue is the task of the first of its attempts in order of depth.
--     shallowest      where the attempts stand in the order of tasks
use Rattle.std.specs.Prelude.{◌≡◌, ℕ, ◌<◌, ◌==◌, Bool, true, false, cond, List, [], ◌∷◌, length, map, slice_get, slice_index_or, refl}
use Rattle.std.specs.List.{filter, flat_map}
use Rattle.std.specs.Option.{option_map}
use Rattle.std.proofs.Common.{ap, sym, ◌∙◌, arith}
use Rattle.tez_ids.specs.declared.AttemptId.{AttemptId}
use Rattle.tez_ids.specs.Same.{task}
use Rattle.tez_lists.specs.Numbers.{numbers_from}
use Rattle.tez_lists.proofs.Flat.{flat_same}
use Rattle.tez_plan.specs.Dag.{Dag}
use Rattle.tez_plan.specs.Order.{depth}
use Rattle.tez_history.specs.Shape.{vertices}
use Rattle.tez_history.specs.Steps.{of_depth as attempts_of_depth, by_depth}
use Rattle.tez_queue.specs.Queue.{Queue, row_of, flag, queued_of, queued_at, first, IsQueueOf}
use Rattle.tez_queue.proofs.ListLemmas.{map-flat, filter-map, filter_parts, first-map, in_numbers}
use Rattle.tez_queue.proofs.OrderLemmas.{depth_read, long_depths}

-- all tasks of a vertex are of one depth
whole : (g : Dag) (d v : ℕ) (ns : List ℕ) → filter (λ t. depth g t.vertex.0 == d) (map (task v) ns) ≡ cond (depth g v == d) (map (task v) ns) []
whole g d v ns = by (depth g v == d) refl ns where
  by : (b : Bool) → (depth g v == d) ≡ b → (ns : List ℕ) → filter (λ t. depth g t.vertex.0 == d) (map (task v) ns) ≡ cond b (map (task v) ns) []
  by true e [] = refl
  by true e (n ∷ ns) = rw e (ap (λ ts. task v n ∷ ts) (by true e ns))
  by false e [] = refl
  by false e (n ∷ ns) = rw e (by false e ns)

at_depth : (g : Dag) (q : Queue) (xs : List AttemptId) (d : ℕ) → q.depths ≡ map (depth g) (numbers_from 0 (length g.vertices))
    → map (λ a. a.task) xs ≡ flat_map (queued_of q.queued) (numbers_from 0 (length g.vertices)) → map (λ a. a.task) (attempts_of_depth g xs d) ≡ queued_at q d
at_depth g q xs d depths tasks =
    let n = length g.vertices in
    let long : length q.depths ≡ n = ap length depths ∙ long_depths g n in
    sym (filter-map (λ t. depth g t.vertex.0 == d) (λ (a : AttemptId). a.task) xs) ∙ ap (filter (λ t. depth g t.vertex.0 == d)) tasks
    ∙ filter_parts (λ t. depth g t.vertex.0 == d) (λ v. slice_index_or q.depths v 0 == d) (queued_of q.queued) (numbers_from 0 n)
    (λ v i.
    let inside : v < n = let l = in_numbers 0 n v i in omega arith in
    let at : depth g v ≡ slice_index_or q.depths v 0 = sym (ap (λ ds. slice_index_or ds v 0) depths ∙ depth_read g n v inside) in
    whole g d v (filter (flag (row_of q.queued v)) (numbers_from 0 (length (row_of q.queued v)))) ∙ ap (λ m. cond (m == d) (queued_of q.queued v) []) at)
    ∙ ap (λ m. flat_map (queued_of q.queued) (filter (λ v. slice_index_or q.depths v 0 == d) (numbers_from 0 m))) (sym long)

pub shallowest : (g : Dag) (q : Queue) (xs : List AttemptId) → IsQueueOf g q xs → option_map (λ a. a.task) (slice_get (by_depth g xs) 0) ≡ first q
shallowest g q xs of =
    let n = length g.vertices in
    let long : length q.depths ≡ n = ap length of.depths_are ∙ long_depths g n in
    let tasks = of.attempts_are ∙ ap (λ m. flat_map (queued_of q.queued) (numbers_from 0 m)) of.rows_are in
    first-map (λ (a : AttemptId). a.task) (by_depth g xs)
    ∙ ap (λ ts. slice_get ts 0) (map-flat (λ (a : AttemptId). a.task) (attempts_of_depth g xs) (vertices g) ∙ flat_same (λ d. map (λ a. a.task) (attempts_of_depth g xs d)) (queued_at q) (vertices g) (λ d i. at_depth g q xs d of.depths_are tasks))
    ∙ ap (λ m. slice_get (flat_map (queued_at q) (numbers_from 0 m)) 0) (sym long)
