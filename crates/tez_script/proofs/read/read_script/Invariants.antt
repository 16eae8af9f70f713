use Rattle.std.proofs.Common.{◌≡◌, ℕ, List, ◌++◌, IsTrue}
use Rattle.std.specs.List.{list_all}
use Rattle.tez_record.specs.Line.{lines}
use Rattle.tez_script.specs.Grammar.{IsScript, has_times}
use Rattle.tez_script.proofs.read.read_script.Given as goal

abbrev pub invariant-loop-line : goal.invariant-loop-line
invariant-loop-line l =
    ((front : List (List ℕ)) × (front ++ lines l.line-iterator.rest.now ≡ lines l.fn.bytes) × IsScript l.fn.p l.fn.c front l.found.items)
    × IsTrue (list_all has_times l.found.items)
