-- What a run does to the store.
--     publications store               the names and bytes that were published, in their order
--     first_taken job publications     the first of the job's sinks that is among them
--     Publishes job store              the job has a meaning, no sink was there before, each is there once now, and nothing else was published
--     PublishesPart job store          a first part of the sinks was published, and nothing else
use Rattle.std.specs.Prelude.{◌≡◌, ℕ, true, List, ◌++◌, take, map, find, is_some, Bool, bytes_eq, Option, Some, None, option_map}
use Rattle.std.specs.List.{list_any}
use Rattle.tez_ports.specs.Content.{Named, Store, Told, bytes_of}
use Rattle.tez_meaning.specs.Jobs.{Job}
use Rattle.tez_meaning.specs.Value.{sinks, sink_texts, bad, IsDefined}
use Rattle.tez_meaning.specs.Published.{IsPublishedOnce, IsPublishedAtMostOnce}
use Rattle.tez_plan.specs.Dag.{Dag}
use Rattle.tez_am.specs.Call.{Stored, StoreFailed}
use Rattle.tez_steps.specs.declared.verdict.Device.TheVariants as device
use Rattle.tez_am.specs.declared.status.Status.{Status}
use Rattle.tez_am.specs.declared.status.Status.TheVariants.{SinkExists, AttemptsSpent, DeviceFault, NoMemory}

abbrev pub publications : Option Store → Option Named
publications store = option_map (λ s. s.publications) store

abbrev pub is_taken : Named → List ℕ → Bool
is_taken publications name = is_some (bytes_of name publications)

abbrev pub sink_names : Dag → List (List ℕ)
sink_names p = map (λ sink. sink.1) (sinks 0 p.vertices)

abbrev pub is_sink : Dag → List ℕ → Bool
is_sink p name = list_any (bytes_eq name) (sink_names p)

abbrev pub first_taken : Dag → Named → Option (List ℕ)
first_taken p publications = find (is_taken publications) (sink_names p)

-- as before
abbrev pub SamePublications : Stored → Type 0
SamePublications store = publications store.new ≡ publications store.old

-- as before, with these at the end
abbrev pub More : Named → Stored → Type 0
More sinks store = publications store.new ≡ option_map (λ ps. ps ++ sinks) (publications store.old)

pub record Publishes (job : Job) (store : Stored) : Type 0 where
  pub defined : IsDefined job
  pub not_before : Told store.old (λ s. first_taken job.plan s.publications ≡ None)
  pub once : Told store.new (λ s. IsPublishedOnce job s.publications)
  pub no_other : More (sink_texts job) store

-- a first part of them is there, in their order, and nothing else was published
pub record PublishesPart (job : Job) (store : Stored) : Type 0 where
  pub count : ℕ
  pub part : More (take count (sink_texts job)) store
  pub at_most_once : Told store.old (λ s. first_taken job.plan s.publications ≡ None → Told store.new (λ t. IsPublishedAtMostOnce job t.publications))

-- why a job was not run to its end, and what that left
abbrev pub RunCause : Job → Stored → Status → Type 0
RunCause job store (SinkExists name) = SamePublications store × (is_sink job.plan name ≡ true) × Told store.old (λ s. first_taken job.plan s.publications ≡ Some name)
RunCause job store (AttemptsSpent vertex task) = SamePublications store × Told store.old (λ s. first_taken job.plan s.publications ≡ None) × (bad job vertex.0 ≡ true)
RunCause job store (DeviceFault device.Store) = StoreFailed store × PublishesPart job store
RunCause job store NoMemory = PublishesPart job store
RunCause job store _ = ⊥
