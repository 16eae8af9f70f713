-- Lines of worked scripts over a plan of two vertices.
use Rattle.std.specs.Prelude.{◌≡◌, true, false, [], ◌∷◌, codes, count_by, Some, None, refl}
use Rattle.tez_ids.specs.Same.{task}
use Rattle.tez_plan.specs.Dag.{Dag}
use Rattle.tez_plan.specs.declared.parts.Head.TheVariants.{Each, Sum}
use Rattle.tez_plan.specs.declared.parts.Movement.TheVariants.{ScatterGather}
use Rattle.tez_conf.specs.declared.values.ConfValues.{ConfValues}
use Rattle.tez_script.specs.declared.line.When.TheVariants.{At, On}
use Rattle.tez_script.specs.declared.line.ScriptLine.TheVariants.{Fail, Repeat, LoseNode, LoseOutput, Restart, StopDisk, StopStore}
use Rattle.tez_script.specs.Grammar.{line_of, repeats}

abbrev words_counted : Dag
words_counted = record {
  name = codes "wc";
  vertices = record { name = codes "split"; tasks = 2; source = Some (codes "in.txt"); head = Each; steps = []; sink = None }
      ∷ record { name = codes "total"; tasks = 2; source = None; head = Sum 1; steps = []; sink = Some (codes "counts") } ∷ [];
  edges = record { source = codes "split"; target = codes "total"; movement = ScatterGather (0 ∷ []) } ∷ [];
}

abbrev conf : ConfValues
conf = record { min_src = 250; max_src = 750; auto_parallel = false; desired_bytes = 104857600; min_tasks = 1; max_failed = 4; max_masters = 2; reuse = true; nodes = 2; per_node = 2 }

fail_line : line_of words_counted conf (codes "fail total 0 1") ≡ Some (Fail (task 1 0) 1)
unfolding line_of
fail_line = refl

fail_without_times : line_of words_counted conf (codes "fail total 0") ≡ None
unfolding line_of
fail_without_times = refl

two_spaces : line_of words_counted conf (codes "fail  total 0 1") ≡ None
unfolding line_of
two_spaces = refl

no_such_task : line_of words_counted conf (codes "fail total 2 1") ≡ None
unfolding line_of
no_such_task = refl

leading_zeros : line_of words_counted conf (codes "restart at 0000000008") ≡ Some (Restart (At 8))
unfolding line_of
leading_zeros = refl

eleven_digits : line_of words_counted conf (codes "restart at 00000000008") ≡ None
unfolding line_of
eleven_digits = refl

lose_node : line_of words_counted conf (codes "lose-node 0 at 8") ≡ Some (LoseNode 0 (At 8))
unfolding line_of
lose_node = refl

lose_output : line_of words_counted conf (codes "lose-output split 0 on split 0") ≡ Some (LoseOutput (task 0 0) (On (task 0 0)))
unfolding line_of
lose_output = refl

stop_disk : line_of words_counted conf (codes "stop disk size 1 before") ≡ Some (StopDisk (record { call = 0; n = 1; after = false }))
unfolding line_of
stop_disk = refl

stop_store : line_of words_counted conf (codes "stop store publish 1 after") ≡ Some (StopStore (record { call = 3; n = 1; after = true }))
unfolding line_of
stop_store = refl

no_line : line_of words_counted conf [] ≡ None
unfolding line_of
no_line = refl

no_vertex : line_of words_counted conf (codes "fail sum 0 1") ≡ None
unfolding line_of
no_vertex = refl

no_times : line_of words_counted conf (codes "fail total 0 0") ≡ None
unfolding line_of
no_times = refl

too_often : line_of words_counted conf (codes "repeat total 0 101") ≡ None
unfolding line_of
too_often = refl

no_slot : line_of words_counted conf (codes "lose-node 2 at 8") ≡ None
unfolding line_of
no_slot = refl

no_side : line_of words_counted conf (codes "stop disk size 1") ≡ None
unfolding line_of
no_side = refl

call_of_store : line_of words_counted conf (codes "stop disk publish 1 after") ≡ None
unfolding line_of
call_of_store = refl

call_of_none : line_of words_counted conf (codes "stop disk size 0 after") ≡ None
unfolding line_of
call_of_none = refl

twice : count_by (repeats (task 1 0)) (Repeat (task 1 0) 2 ∷ Repeat (task 1 1) 2 ∷ Repeat (task 1 0) 1 ∷ []) ≡ 2
twice = refl
