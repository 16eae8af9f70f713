use Rattle.std.proofs.Common.{◌++◌, ◌∷◌, [], false, ap, sym, ◌∙◌}
use Rattle.std.proofs.lemmas.List.{map_more}
use Rattle.tez_script.specs.declared.line.When.TheVariants.{At}
use Rattle.tez_script.specs.declared.line.ScriptLine.TheVariants.{Restart}
use Rattle.tez_script.specs.Reading.{none_fired}
use Rattle.tez_script.proofs.script.no_marks.Goals as goal

pub loop-line-preserved : goal.loop-line-preserved
loop-line-preserved c = c.in_ok-push.ensures.items ∙ ap (λ xs. xs ++ false ∷ []) c.loop-line.invariant ∙ sym (map_more none_fired c.args.lines.now c.loop-line._line-index (Restart (At 0)) c.loop-line-test.true)
