-- The whole-number formulas. Quotients are rounded down, and `div_ceil` rounds up.
--     expected, wanted           the bytes to come in, and the tasks wanted for them
--     base_of, tasks_of          the partitions that a task takes, and how many tasks that makes
--     first_of, end_of           where a task's partitions start and end
--     slow_start                 how many tasks slow start schedules
--     IsInOneRange               a partition is in the range of exactly one task
use Rattle.std.specs.Int.{div_ceil}
use Rattle.std.specs.Prelude.{◌≡◌, ℕ, ◌+◌, ◌-◌, ◌*◌, ◌/◌, ◌&&◌, Bool, min, max, nat_lt, nat_le, if◌then◌else◌, count_by}
use Rattle.std.specs.List.{range_with_len}

-- s source tasks, of which f have finished with b bytes
abbrev pub expected : ℕ → ℕ → ℕ → ℕ
expected s f b = s * b / f

abbrev pub wanted : ℕ → ℕ → ℕ → ℕ → ℕ → ℕ
wanted s f b desired min_tasks = max (div_ceil (expected s f b) desired) min_tasks

-- of `parts` partitions, where this many tasks are wanted; where more are wanted than there are partitions, the quotient is at most 1
abbrev pub base_of : ℕ → ℕ → ℕ
base_of parts wanted = max 1 (parts / wanted)

abbrev pub tasks_of : ℕ → ℕ → ℕ
tasks_of parts base = div_ceil parts base

abbrev pub first_of : ℕ → ℕ → ℕ
first_of base task = task * base

abbrev pub end_of : ℕ → ℕ → ℕ → ℕ
end_of parts base task = min ((task + 1) * base) parts

-- f of s source tasks have finished; fractions are in thousandths
abbrev pub slow_start : ℕ → ℕ → ℕ → ℕ → ℕ → ℕ
slow_start f s tasks least most = if nat_lt (1000 * f) (least * s) then 0
    else (if nat_le (most * s) (1000 * f) then tasks
    else div_ceil (tasks * (1000 * f - least * s)) ((most - least) * s))

abbrev pub in_range : ℕ → ℕ → ℕ → ℕ → Bool
in_range parts base p task = nat_le (first_of base task) p && nat_lt p (end_of parts base task)

abbrev pub IsInOneRange : ℕ → ℕ → ℕ → Type 0
IsInOneRange parts base p = count_by (in_range parts base p) (range_with_len 0 (tasks_of parts base)) ≡ 1
