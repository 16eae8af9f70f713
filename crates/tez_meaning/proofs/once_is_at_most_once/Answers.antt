use Rattle.std.proofs.Common.{◌≡◌, ◌⊎◌, ℕ, List, [], ◌∷◌, inl, inr, refl}
use Rattle.std.specs.List.{AllByRecursion}
use Rattle.tez_plan.proofs.OrderLemmas.{all_map}
use Rattle.tez_meaning.specs.Value.{sink_texts}
use Rattle.tez_meaning.specs.Published.{published, IsThere}
use Rattle.tez_meaning.proofs.once_is_at_most_once.Goals as goal

nowhere : (sinks : List (List ℕ × List ℕ)) → AllByRecursion (λ sink. (published sink.0 [] ≡ []) ⊎ IsThere [] sink) sinks
nowhere [] = tt
nowhere (sink ∷ sinks) = (inl refl, nowhere sinks)

pub returns-clause-once : goal.returns-clause-once
returns-clause-once c = λ job publications h. all_map (IsThere publications) (λ sink. (published sink.0 publications ≡ []) ⊎ IsThere publications sink) (λ sink there. inr there) (sink_texts job) h

pub returns-clause-nothing : goal.returns-clause-nothing
returns-clause-nothing c = λ job. nowhere (sink_texts job)
