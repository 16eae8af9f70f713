-- As many tasks as asked for.
use Rattle.std.specs.Prelude.{◌≡◌, ℕ, zero, suc, List, length, map, refl}
use Rattle.std.proofs.Common.{ap, sym, ◌∙◌}
use Rattle.tez_lists.specs.Numbers.{numbers_from}
use Rattle.tez_ids.specs.Same.{task}
use Rattle.tez_task.specs.TaskState.{TaskState}
use Rattle.tez_task.specs.Table.{new_task}
use Rattle.tez_vertex.specs.Vertex.{Vertex}
use Rattle.tez_vertex.specs.Table.{new_tasks}

so_many : {X : Type 0} (f : ℕ → X) (a n : ℕ) → length (map f (numbers_from a n)) ≡ n
so_many f a zero = refl
so_many f a (suc n) = ap suc (so_many f (suc a) n)

pub counted : (x : Vertex) (n : ℕ) (tasks : List TaskState) → tasks ≡ new_tasks x n → length tasks ≡ n
counted x n tasks is = ap length is ∙ so_many (λ i. new_task (task x.vertex.0 i) x.epoch x.max_failed) 0 n

pub same_tasks : (x : Vertex) (n : ℕ) (tasks : List TaskState) → tasks ≡ new_tasks x n → tasks ≡ new_tasks x (length tasks)
same_tasks x n tasks is = is ∙ ap (new_tasks x) (sym (counted x n tasks is))
