-- What the type of a queue keeps: its tasks in order, and the set of those that wait as a list over this order.
--     by_depth depths       the vertices by depth, and those of one depth by number
--     tasks_of rows v       the tasks of a vertex, in order
--     start_of rows vs v    how many tasks stand before those of v, where the vertices stand in the order vs
use Rattle.std.specs.Prelude.{◌≡◌, ℕ, ◌+◌, ◌<◌, ◌^◌, Bool, ◌==◌, if◌then◌else◌, List, [], ◌∷◌, map, length}
use Rattle.std.specs.List.{flat_map, count_by}
use Rattle.tez_ids.specs.declared.TaskId.{TaskId}
use Rattle.tez_ids.specs.Same.{task}
use Rattle.tez_lists.specs.Numbers.{numbers_from}
use Rattle.tez_queue.specs.Queue.{row_of, of_depth}

abbrev pub by_depth : List ℕ → List ℕ
by_depth depths = flat_map (of_depth depths) (numbers_from 0 (length depths))

abbrev pub tasks_of : List (List Bool) → ℕ → List TaskId
tasks_of rows v = map (task v) (numbers_from 0 (length (row_of rows v)))

abbrev pub start_of : List (List Bool) → List ℕ → ℕ → ℕ
start_of rows [] v = 0
start_of rows (w ∷ ws) v = if w == v then 0 else (length (row_of rows w) + start_of rows ws v)

pub record IsKept (depths : List ℕ) (rows : List (List Bool)) (starts : List ℕ) (tasks : List TaskId) (waiting : List Bool) : Type 0 where
  pub once : (v : ℕ) → v < length rows → count_by (λ w. w == v) (by_depth depths) ≡ 1
  pub starts_are : starts ≡ map (start_of rows (by_depth depths)) (numbers_from 0 (length rows))
  pub tasks_are : tasks ≡ flat_map (tasks_of rows) (by_depth depths)
  pub waiting_is : waiting ≡ flat_map (row_of rows) (by_depth depths)
  pub small : length tasks < 2 ^ 32
