-- How a queue is made: each vertex stands once in the order, and there is room for all tasks.
use Rattle.std.specs.Prelude.{◌≡◌, ℕ, zero, suc, ◌+◌, ◌<◌, ◌≤◌, ◌==◌, ◌^◌, ◌&&◌, Bool, true, false, cond, List, [], ◌∷◌, ◌++◌, length, map, replicate, slice_get, slice_index_or, Some, refl}
use Rattle.std.specs.List.{flat_map, count_by, list_all}
use Rattle.std.specs.Option.{option_map_or}
use Rattle.std.proofs.Common.{ap, sym, ◌∙◌, arith, subst, inl, inr, ◌⊎◌, zero-add, length-append}
use Rattle.std.proofs.lemmas.Bool.{cases_lt, and_parts}
use Rattle.std.proofs.lemmas.Bool.Decides.{nat_tests}
use Rattle.std.proofs.lemmas.List.{get_or_past, length-map}
use Rattle.std.proofs.lemmas.Option.{get_or_from_slice_get}
use Rattle.tez_ids.specs.declared.TaskId.{TaskId}
use Rattle.tez_ids.specs.Same.{task}
use Rattle.tez_lists.specs.Numbers.{numbers_from}
use Rattle.tez_lists.specs.Tables.{table}
use Rattle.tez_lists.proofs.Ranges.{one_in_range}
use Rattle.tez_lists.proofs.Sums.{sum_by-parts, sum_by-ext}
use Rattle.tez_lists.proofs.Tables.{get_each}
use Rattle.tez_plan.specs.declared.parts.VertexSpec.{VertexSpec}
use Rattle.tez_plan.specs.Dag.{Dag, tasks_of as planned}
use Rattle.tez_plan.specs.Order.{depth}
use Rattle.tez_plan.specs.Faults.{IsValid}
use Rattle.tez_plan.specs.Ranges.{IsInRanges, vertex_in_range, is_within, most_tasks}
use Rattle.tez_queue.specs.Queue.{row_of, of_depth, empty_queue}
use Rattle.tez_queue.specs.Kept.{by_depth, tasks_of, start_of, IsKept}
use Rattle.tez_queue.proofs.DepthLemmas.{shallow}
use Rattle.tez_queue.proofs.ListLemmas.{numbers-range, length_numbers, filter_short, flat_short}

-- ---- the order

pub few_vertices : (depths : List ℕ) → length depths ≤ 64 → length (by_depth depths) ≤ 4096
few_vertices depths few =
    let long = length_numbers 0 (length depths) in
    let short = flat_short 64 (of_depth depths) (numbers_from 0 (length depths)) (λ d. let s = filter_short (λ v. slice_index_or depths v 0 == d) (numbers_from 0 (length depths)) in omega arith) in
    omega arith

one_number : (v n : ℕ) → v < n → count_by (λ p. v == p) (numbers_from 0 n) ≡ 1
one_number v n l = ap (count_by (λ p. v == p)) (numbers-range 0 n) ∙ one_in_range v n l

turned : (w v : ℕ) → (w == v) ≡ (v == w)
turned w v = grind (arith, nat_tests)

pub stands_once : (depths : List ℕ) → ((v : ℕ) → slice_index_or depths v 0 < length depths) → (v : ℕ) → v < length depths → count_by (λ w. w == v) (by_depth depths) ≡ 1
stands_once depths low v l =
    let ns = numbers_from 0 (length depths) in
    sum_by-parts (λ d w. slice_index_or depths w 0 == d) ns ns (λ w. cond (w == v) 1 0) (λ w. one_number (slice_index_or depths w 0) (length depths) (low w))
    ∙ sum_by-ext (λ w. cond (w == v) 1 0) (λ w. cond (v == w) 1 0) ns (λ w. ap (λ b. cond b 1 0) (turned w v)) ∙ one_number v (length depths) l

pub depth_read : (g : Dag) (n v : ℕ) → v < n → slice_index_or (map (depth g) (numbers_from 0 n)) v 0 ≡ depth g v
depth_read g n v l = get_or_from_slice_get (map (depth g) (numbers_from 0 n)) v (depth g v) 0 (get_each (depth g) 0 n v l ∙ ap (λ m. Some (depth g m)) (zero-add v))

pub long_depths : (g : Dag) (n : ℕ) → length (map (depth g) (numbers_from 0 n)) ≡ n
long_depths g n = length-map (numbers_from 0 n) (depth g) ∙ length_numbers 0 n

pub depths_low : (g : Dag) → IsValid g → IsInRanges g → (depths : List ℕ) → depths ≡ map (depth g) (numbers_from 0 (length g.vertices)) → (v : ℕ) → slice_index_or depths v 0 < length depths
depths_low g valid ranges depths e v = by (cases_lt v (length g.vertices)) where
  long : length depths ≡ length g.vertices
  long = ap length e ∙ long_depths g (length g.vertices)

  by : (v < length g.vertices) ⊎ (length g.vertices ≤ v) → slice_index_or depths v 0 < length depths
  by (inl l) = let at = ap (λ ds. slice_index_or ds v 0) e ∙ depth_read g (length g.vertices) v l in let low = shallow g valid v l in let many = long in omega arith
  by (inr l) = let many = long in let at = get_or_past depths v 0 (omega arith) in let some = ranges.some in omega arith

-- ---- how many tasks

within_part : (a b c d e f : Bool) → (a && b && c && d && e && f) ≡ true → b ≡ true
within_part a b c d e f h = grind arith

few_of_one : (s : VertexSpec) → vertex_in_range s ≡ true → s.tasks ≤ most_tasks
few_of_one s h = let w = within_part _ (is_within 1 most_tasks s.tasks) _ _ _ _ h in grind (arith, nat_tests)

long_copies : (n : ℕ) (b : Bool) → length (replicate n b) ≡ n
long_copies zero b = refl
long_copies (suc n) b = ap suc (long_copies n b)

abbrev empty_row : VertexSpec → List Bool
empty_row s = replicate s.tasks false

pub few_tasks : (vs : List VertexSpec) → list_all vertex_in_range vs ≡ true → (w : ℕ) → length (row_of (map (λ (s : VertexSpec). replicate s.tasks false) vs) w) ≤ most_tasks
few_tasks [] h w = omega arith
few_tasks (s ∷ vs) h zero = let few = few_of_one s (and_parts _ _ h).0 in let long = long_copies s.tasks false in omega arith
few_tasks (s ∷ vs) h (suc w) = few_tasks vs (and_parts _ _ h).1 w

long_tasks : (rows : List (List Bool)) (v : ℕ) → length (tasks_of rows v) ≡ length (row_of rows v)
long_tasks rows v = length-map (numbers_from 0 (length (row_of rows v))) (task v) ∙ length_numbers 0 (length (row_of rows v))

pub room : (rows : List (List Bool)) (vs : List ℕ) → length vs ≤ 4096 → ((w : ℕ) → length (row_of rows w) ≤ most_tasks) → length (flat_map (tasks_of rows) vs) < 2 ^ 32
room rows vs few low = let short = flat_short most_tasks (tasks_of rows) vs (λ v. let long = long_tasks rows v in let l = low v in omega arith) in omega arith

-- ---- nothing waits

no_flags : (a n : ℕ) → map (λ (i : ℕ). false) (numbers_from a n) ≡ replicate n false
no_flags a zero = refl
no_flags a (suc n) = ap (λ xs. false ∷ xs) (no_flags (suc a) n)

rows_are : (size : ℕ → ℕ) (a : ℕ) (vs : List VertexSpec) → ((k : ℕ) → size (a + k) ≡ option_map_or (λ s. s.tasks) (slice_get vs k) 0)
    → map (λ (s : VertexSpec). replicate s.tasks false) vs ≡ map (λ v. map (λ (i : ℕ). false) (numbers_from 0 (size v))) (numbers_from a (length vs))
rows_are size a [] same = refl
rows_are size a (s ∷ vs) same =
    let zero_off : a + 0 ≡ a = omega arith in
    let here : size a ≡ s.tasks = ap size (sym zero_off) ∙ same 0 in
    let row : replicate s.tasks false ≡ map (λ (i : ℕ). false) (numbers_from 0 (size a)) = sym (no_flags 0 (size a) ∙ ap (λ n. replicate n false) here) in
    let rest = rows_are size (suc a) vs (λ k. let e : suc a + k ≡ a + suc k = omega arith in ap size e ∙ same (suc k)) in
    cc

pub empty_rows : (g : Dag) → map (λ (s : VertexSpec). replicate s.tasks false) g.vertices ≡ table (λ v i. false) (planned g) (length g.vertices)
empty_rows g = rows_are (planned g) 0 g.vertices (λ k. ap (planned g) (zero-add k))

more_copies : (n m : ℕ) → replicate n false ++ replicate m false ≡ replicate (n + m) false
more_copies zero m = let e : 0 + m ≡ m = omega arith in rw e refl
more_copies (suc n) m = let e : suc n + m ≡ suc (n + m) = omega arith in rw e (ap (λ xs. false ∷ xs) (more_copies n m))

empty_at : (vs : List VertexSpec) (w : ℕ) → row_of (map (λ (s : VertexSpec). replicate s.tasks false) vs) w ≡ replicate (length (row_of (map (λ (s : VertexSpec). replicate s.tasks false) vs) w)) false
empty_at [] w = refl
empty_at (s ∷ vs) zero = ap (λ n. replicate n false) (sym (long_copies s.tasks false))
empty_at (s ∷ vs) (suc w) = empty_at vs w

pub none_waits : (rows : List (List Bool)) (vs : List ℕ) → ((w : ℕ) → row_of rows w ≡ replicate (length (row_of rows w)) false) → replicate (length (flat_map (tasks_of rows) vs)) false ≡ flat_map (row_of rows) vs
none_waits rows [] none = refl
none_waits rows (v ∷ vs) none =
    ap (λ n. replicate n false) (length-append (tasks_of rows v) (flat_map (tasks_of rows) vs) ∙ ap (λ n. n + length (flat_map (tasks_of rows) vs)) (long_tasks rows v))
    ∙ sym (more_copies (length (row_of rows v)) (length (flat_map (tasks_of rows) vs))) ∙ ap (λ xs. xs ++ replicate (length (flat_map (tasks_of rows) vs)) false) (sym (none v)) ∙ ap (λ xs. row_of rows v ++ xs) (none_waits rows vs none)

-- what the tasks of a plan and their depths say of its queue
pub record IsOf (g : Dag) (depths : List ℕ) (rows : List (List Bool)) : Type 0 where
  pub valid : IsValid g
  pub ranges : IsInRanges g
  pub few : length g.vertices ≤ 64
  pub depths_are : depths ≡ map (depth g) (numbers_from 0 (length g.vertices))
  pub rows_are : rows ≡ map (λ (s : VertexSpec). replicate s.tasks false) g.vertices

pub of_plan : (g : Dag) (depths : List ℕ) (rows : List (List Bool)) (vs : List VertexSpec) → IsValid g → IsInRanges g → length vs ≤ 64 → vs ≡ g.vertices
    → depths ≡ map (depth g) (numbers_from 0 (length g.vertices)) → rows ≡ map (λ (s : VertexSpec). replicate s.tasks false) vs → IsOf g depths rows
of_plan g depths rows vs valid ranges few same d r = record {
  valid = valid;
  ranges = ranges;
  few = subst (λ x. length x ≤ 64) same few;
  depths_are = d;
  rows_are = r ∙ ap (map (λ (s : VertexSpec). replicate s.tasks false)) same;
}

module _ (g : Dag) (depths : List ℕ) (rows : List (List Bool)) (of : IsOf g depths rows) where
  pub few_depths : length depths ≤ 64
  few_depths = let long = ap length of.depths_are ∙ long_depths g (length g.vertices) in let few = of.few in omega arith

  many : length rows ≡ length g.vertices
  many = ap length of.rows_are ∙ length-map g.vertices (λ (s : VertexSpec). replicate s.tasks false)

  pub few_rows : length rows ≤ 64
  few_rows = let same = many in let few = of.few in omega arith

  pub low_rows : (w : ℕ) → length (row_of rows w) ≤ most_tasks
  low_rows = subst (λ (x : List (List Bool)). (w : ℕ) → length (row_of x w) ≤ most_tasks) (sym of.rows_are) (few_tasks g.vertices of.ranges.vertices)

  empty : (w : ℕ) → row_of rows w ≡ replicate (length (row_of rows w)) false
  empty = subst (λ (x : List (List Bool)). (w : ℕ) → row_of x w ≡ replicate (length (row_of x w)) false) (sym of.rows_are) (empty_at g.vertices)

  pub few_tasks_in : (tasks : List TaskId) → tasks ≡ flat_map (tasks_of rows) (by_depth depths) → length tasks < 2 ^ 32
  few_tasks_in tasks t = subst (λ x. length x < 2 ^ 32) (sym t) (room rows (by_depth depths) (few_vertices depths few_depths) low_rows)

  pub kept_new : (starts : List ℕ) (tasks : List TaskId) (waiting : List Bool) → starts ≡ map (start_of rows (by_depth depths)) (numbers_from 0 (length rows)) → tasks ≡ flat_map (tasks_of rows) (by_depth depths)
      → waiting ≡ replicate (length tasks) false → IsKept depths rows starts tasks waiting
  kept_new starts tasks waiting s t w =
      let same : length rows ≡ length depths = many ∙ sym (ap length of.depths_are ∙ long_depths g (length g.vertices)) in
      record {
        once = λ v h. stands_once depths (depths_low g of.valid of.ranges depths of.depths_are) v (omega arith);
        starts_are = s;
        tasks_are = t;
        waiting_is = w ∙ ap (λ x. replicate (length x) false) t ∙ none_waits rows (by_depth depths) empty;
        small = few_tasks_in tasks t;
      }

  pub new_is : record { depths = depths; queued = rows } ≡ empty_queue g
  new_is = let d = of.depths_are in let r = of.rows_are ∙ empty_rows g in cc
