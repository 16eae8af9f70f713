-- What a run publishes.
--     sink_names plan                       the names of the sinks, in the order of vertices
--     published name publications           those of a name
--     IsPublishedAtMostOnce job publications      no sink is there twice, and each that is there has exactly its text
--     IsPublishedOnce job publications            each sink is there exactly once, with exactly its text
use Rattle.std.specs.Prelude.{◌≡◌, ◌⊎◌, ℕ, List, [], ◌∷◌}
use Rattle.std.specs.List.{filter, AllByRecursion}
use Rattle.std.specs.Str.{bytes_eq}
use Rattle.tez_meaning.specs.Jobs.{Job, Files}
use Rattle.tez_meaning.specs.Value.{sink_texts}

abbrev pub published : List ℕ → Files → Files
published name publications = filter (λ p. bytes_eq p.0 name) publications

-- this name and text alone are published under the name
abbrev pub IsThere : Files → List ℕ × List ℕ → Type 0
IsThere publications sink = published sink.0 publications ≡ sink ∷ []

abbrev pub IsPublishedOnce : Job → Files → Type 0
IsPublishedOnce job publications = AllByRecursion (IsThere publications) (sink_texts job)

abbrev pub IsPublishedAtMostOnce : Job → Files → Type 0
IsPublishedAtMostOnce job publications = AllByRecursion (λ sink. (published sink.0 publications ≡ []) ⊎ IsThere publications sink) (sink_texts job)
