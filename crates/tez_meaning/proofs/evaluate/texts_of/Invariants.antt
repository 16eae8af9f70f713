use Rattle.std.proofs.Common.{◌≡◌, ◌++◌, map, drop}
use Rattle.tez_record.specs.Bag.{text}
use Rattle.tez_meaning.specs.Value.{sinks}
use Rattle.tez_meaning.specs.Known.{known_in}
use Rattle.tez_meaning.proofs.evaluate.texts_of.Given as goal

abbrev pub invariant-loop-v : goal.invariant-loop-v
invariant-loop-v l = l.texts.items ++ map (λ s. (s.1, text (known_in l.values s.0))) (sinks l.v (drop l.v l.vertices)) ≡ map (λ s. (s.1, text (known_in l.values s.0))) (sinks 0 l.vertices)
