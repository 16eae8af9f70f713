-- The lines of a script.
--     line_of g c line      what a line says, None where it is outside the grammar
--     IsScript g c ls xs    these lines are a script
--     IsRefusedAt g c ls n  line n is the first outside the grammar
use Rattle.std.specs.Prelude.{◌≡◌, ℕ, ◌+◌, ◌≤◌, nat_lt, nat_le, Bool, true, false, List, [], ◌∷◌, ◌++◌, codes, length, map, Option, Some, None, if◌then◌else◌, bytes_eq, option_map, option_and_then, count_by, position}
use Rattle.tez_ids.specs.declared.TaskId.{TaskId}
use Rattle.tez_ids.specs.Same.{task, same_task}
use Rattle.tez_plan.specs.Dag.{Dag, tasks_of}
use Rattle.tez_conf.specs.declared.values.ConfValues.{ConfValues}
use Rattle.tez_script.specs.declared.line.When.{When}
use Rattle.tez_script.specs.declared.line.When.TheVariants.{At, On}
use Rattle.tez_script.specs.declared.line.Stop.{Stop}
use Rattle.tez_script.specs.declared.line.Device.{Device}
use Rattle.tez_script.specs.declared.line.Device.TheVariants.{Disk, Store}
use Rattle.tez_script.specs.declared.line.ScriptLine.{ScriptLine}
use Rattle.tez_script.specs.declared.line.ScriptLine.TheVariants.{Fail, Repeat, LoseNode, LoseOutput, Restart, StopDisk, StopStore}
use Rattle.tez_script.specs.Words.{words, number, number_where, is_within}

-- ---- tasks, kinds of calls, sides

abbrev pub vertex_named : Dag → List ℕ → Option ℕ
vertex_named g name = position (λ v. bytes_eq name v.name) g.vertices

abbrev pub task_below : ℕ → ℕ → List ℕ → Option TaskId
task_below tasks v index = option_map (task v) (number_where (λ i. nat_lt i tasks) index)

abbrev pub task_of : Dag → List ℕ → List ℕ → Option TaskId
task_of g name index = option_and_then (λ v. task_below (tasks_of g v) v index) (vertex_named g name)

abbrev pub calls_of : Device → List (List ℕ)
calls_of Disk = codes "size" ∷ codes "read" ∷ codes "write" ∷ codes "sync" ∷ []
calls_of Store = codes "stage" ∷ codes "load" ∷ codes "ready" ∷ codes "publish" ∷ codes "asked" ∷ codes "purge" ∷ []

-- by its place, from 0
abbrev pub call_of : Device → List ℕ → Option ℕ
call_of device w = position (bytes_eq w) (calls_of device)

abbrev pub side_of : List ℕ → Option Bool
side_of w = if bytes_eq w (codes "before") then Some false else (if bytes_eq w (codes "after") then Some true else None)

-- ---- the parts of lines

abbrev pub both : {X Y Z : Type 0} → (X → Y → Z) → Option X → Option Y → Option Z
both f x y = option_and_then (λ a. option_map (f a) y) x

abbrev pub at_of : List (List ℕ) → Option When
at_of [] = None
at_of (n ∷ []) = option_map At (number n)
at_of (n ∷ w ∷ ws) = None

abbrev pub on_of : Dag → List (List ℕ) → Option When
on_of g [] = None
on_of g (name ∷ []) = None
on_of g (name ∷ index ∷ []) = option_map On (task_of g name index)
on_of g (name ∷ index ∷ w ∷ ws) = None

abbrev pub when_of : Dag → List (List ℕ) → Option When
when_of g [] = None
when_of g (w ∷ ws) = if bytes_eq w (codes "at") then at_of ws else (if bytes_eq w (codes "on") then on_of g ws else None)

abbrev pub task_times_of : Dag → ℕ → List (List ℕ) → Option (TaskId × ℕ)
task_times_of g most [] = None
task_times_of g most (name ∷ []) = None
task_times_of g most (name ∷ index ∷ []) = None
task_times_of g most (name ∷ index ∷ times ∷ []) = both (λ t n. (t, n)) (task_of g name index) (number_where (is_within 1 most) times)
task_times_of g most (name ∷ index ∷ times ∷ w ∷ ws) = None

abbrev pub node_line : Dag → ConfValues → List (List ℕ) → Option ScriptLine
node_line g c [] = None
node_line g c (slot ∷ ws) = both (λ s w. LoseNode s w) (number_where (λ s. nat_lt s c.nodes) slot) (when_of g ws)

abbrev pub output_line : Dag → List (List ℕ) → Option ScriptLine
output_line g [] = None
output_line g (name ∷ []) = None
output_line g (name ∷ index ∷ ws) = both (λ t w. LoseOutput t w) (task_of g name index) (when_of g ws)

abbrev pub stop_at : Option ℕ → Option ℕ → Option Bool → Option Stop
stop_at call n side = option_and_then (λ k. both (λ m after. record { call = k; n = m; after = after }) n side) call

abbrev pub stop_of : Device → List (List ℕ) → Option Stop
stop_of device [] = None
stop_of device (call ∷ []) = None
stop_of device (call ∷ n ∷ []) = None
stop_of device (call ∷ n ∷ side ∷ []) = stop_at (call_of device call) (number_where (nat_le 1) n) (side_of side)
stop_of device (call ∷ n ∷ side ∷ w ∷ ws) = None

abbrev pub stop_line : List (List ℕ) → Option ScriptLine
stop_line [] = None
stop_line (device ∷ ws) =
    if bytes_eq device (codes "disk") then option_map StopDisk (stop_of Disk ws)
    else (if bytes_eq device (codes "store") then option_map StopStore (stop_of Store ws) else None)

-- ---- lines

abbrev pub line_by : Dag → ConfValues → List (List ℕ) → Option ScriptLine
line_by g c [] = None
line_by g c (w ∷ ws) =
    if bytes_eq w (codes "fail") then option_map (λ t. Fail t.0 t.1) (task_times_of g 1000 ws)
    else (if bytes_eq w (codes "repeat") then option_map (λ t. Repeat t.0 t.1) (task_times_of g 100 ws)
    else (if bytes_eq w (codes "lose-node") then node_line g c ws
    else (if bytes_eq w (codes "lose-output") then output_line g ws
    else (if bytes_eq w (codes "restart") then option_map Restart (when_of g ws)
    else (if bytes_eq w (codes "stop") then stop_line ws else None)))))

unfoldable pub line_of : Dag → ConfValues → List ℕ → Option ScriptLine
line_of g c line = line_by g c (words line)

-- ---- scripts

-- how often a line asks for a failure or a repeat is from 1 to 1000
abbrev pub has_times : ScriptLine → Bool
has_times (Fail t n) = is_within 1 1000 n
has_times (Repeat t n) = is_within 1 1000 n
has_times (LoseNode slot w) = true
has_times (LoseOutput t w) = true
has_times (Restart w) = true
has_times (StopDisk s) = true
has_times (StopStore s) = true

abbrev pub repeats : TaskId → ScriptLine → Bool
repeats t (Fail s n) = false
repeats t (Repeat s n) = same_task s t
repeats t (LoseNode slot w) = false
repeats t (LoseOutput s w) = false
repeats t (Restart w) = false
repeats t (StopDisk s) = false
repeats t (StopStore s) = false

-- each line is in the grammar, there are few, and no task has two `repeat` lines
pub record IsScript (g : Dag) (c : ConfValues) (ls : List (List ℕ)) (xs : List ScriptLine) : Type 0 where
  pub lines : map (line_of g c) ls ≡ map Some xs
  pub few : length xs ≤ 1000
  pub once : (t : TaskId) → count_by (repeats t) xs ≤ 1

-- the lines before line n are a script, and with it they are none
pub record IsRefusedAt (g : Dag) (c : ConfValues) (ls : List (List ℕ)) (n : ℕ) : Type 0 where
  pub before : List (List ℕ)
  pub line : List ℕ
  pub after : List (List ℕ)
  pub all : ls ≡ before ++ line ∷ after
  pub place : n ≡ length before + 1
  pub lines : List ScriptLine
  pub script : IsScript g c before lines
  pub no_script : (xs : List ScriptLine) → ¬ (IsScript g c (before ++ line ∷ []) xs)
