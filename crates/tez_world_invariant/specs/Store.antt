-- What holds of the store, and at the end.
--     IsSuccess job told past             what a success promises, but for what was published before
--     HasPublished job before s           what was published since is a first part of the sinks, each with its text
--     WasClear job before past            none of the job's sinks was there before its first master
--     StoreStands job before past s       the store after a history
use Rattle.std.specs.Prelude.{◌≡◌, ⊤, ℕ, List, [], ◌∷◌, ◌++◌, take}
use Rattle.tez_ports.specs.Content.{Named, Store}
use Rattle.tez_meaning.specs.Jobs.{Job}
use Rattle.tez_meaning.specs.Value.{sink_texts, sums, IsDefined}
use Rattle.tez_history.specs.History.{Past}
use Rattle.tez_sinks.specs.Sinks.{published_view, StoreIsRight, HasNoSink}

pub record IsSuccess (job : Job) (told : List (ℕ × ℕ)) (past : Past) : Type 0 where
  pub defined : IsDefined job
  pub whole : published_view job past ≡ sink_texts job
  pub sums : told ≡ sums job

abbrev pub HasPublished : Job → Named → Store → Type 0
HasPublished job before s = (n : ℕ) × (s.publications ≡ before ++ take n (sink_texts job))

abbrev pub WasClear : Job → Named → Past → Type 0
WasClear job before [] = ⊤
WasClear job before (e ∷ past) = HasNoSink job before

pub record StoreStands (job : Job) (before : Named) (past : Past) (s : Store) : Type 0 where
  pub right : StoreIsRight job past before s
  pub clear : WasClear job before past
