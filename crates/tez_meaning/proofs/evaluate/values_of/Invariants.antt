use Rattle.tez_meaning.proofs.WalkLemmas.{AreMade}
use Rattle.tez_meaning.proofs.evaluate.values_of.Given as goal

abbrev pub invariant-loop-v : goal.invariant-loop-v
invariant-loop-v l = AreMade l.job l.values.items l.v-index
