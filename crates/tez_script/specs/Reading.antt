-- A script as its type holds it, and how it is read line by line.
--     ScriptValue             the lines, and which have fired
--     IsKept lines fired      what the type of a script keeps
--     next_of g c xs line     what a line says behind these lines of a script
--     IsRefused g c ls fault  the fault is one of these lines
use Rattle.std.specs.Prelude.{◌≡◌, ◌≤◌, ⊤, ℕ, nat_lt, Bool, true, false, not, IsTrue, List, length, Option, Some, None, if◌then◌else◌, option_and_then}
use Rattle.std.specs.List.{list_any, list_all}
use Rattle.tez_plan.specs.Dag.{Dag}
use Rattle.tez_conf.specs.declared.values.ConfValues.{ConfValues}
use Rattle.tez_script.specs.declared.line.ScriptLine.{ScriptLine}
use Rattle.tez_script.specs.declared.line.ScriptLine.TheVariants.{Fail, Repeat, LoseNode, LoseOutput, Restart, StopDisk, StopStore}
use Rattle.tez_script.specs.declared.fault.ScriptFault.{ScriptFault}
use Rattle.tez_script.specs.declared.fault.ScriptFault.TheVariants.{Line, NoMemory}
use Rattle.tez_script.specs.Grammar.{line_of, repeats, has_times, IsRefusedAt}

pub record ScriptValue : Type 0 where
  pub lines : List ScriptLine
  pub fired : List Bool

pub record IsKept (lines : List ScriptLine) (fired : List Bool) : Type 0 where
  pub same : length fired ≡ length lines
  pub few : length lines ≤ 1000
  pub times : IsTrue (list_all has_times lines)

-- no line has fired
abbrev pub none_fired : ScriptLine → Bool
none_fired x = false

-- whether a line may stand behind these
abbrev pub may_follow : List ScriptLine → ScriptLine → Bool
may_follow xs (Fail t n) = true
may_follow xs (Repeat t n) = not (list_any (repeats t) xs)
may_follow xs (LoseNode slot w) = true
may_follow xs (LoseOutput t w) = true
may_follow xs (Restart w) = true
may_follow xs (StopDisk s) = true
may_follow xs (StopStore s) = true

abbrev pub if_may_follow : List ScriptLine → ScriptLine → Option ScriptLine
if_may_follow xs x = if may_follow xs x then Some x else None

abbrev pub next_of : Dag → ConfValues → List ScriptLine → List ℕ → Option ScriptLine
next_of g c xs line = if nat_lt (length xs) 1000 then option_and_then (if_may_follow xs) (line_of g c line) else None

abbrev pub IsRefused : Dag → ConfValues → List (List ℕ) → ScriptFault → Type 0
IsRefused g c ls (Line n) = IsRefusedAt g c ls n
IsRefused g c ls NoMemory = ⊤
