use Rattle.std.proofs.Common.{◌≡◌, ◌++◌, take, map}
use Rattle.tez_master.specs.Master.{made_line}
use Rattle.tez_master.proofs.answers.add_made.Given as goal

abbrev pub invariant-loop-m : goal.invariant-loop-m
invariant-loop-m l = l.entries.items ≡ l.fn.entries.items ++ map (made_line l.a) (take l.m-index l.made)
