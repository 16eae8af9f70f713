-- What the store of the outputs holds after a history, and what was published.
--     sink_of g v                   the name of a vertex's sink, where it has one
--     published_view job past       the publications of a history, in order of time
--     is_taken_up e                 an open took up a commit that had started, or the store had a sink that it was asked of
--     readied_sums job past         the records and bytes of the sinks that are readied, in order of time
--     is_purged past                all that was put aside was thrown away since the last open
--     WinnersAreStaged job past staged      each winner of a vertex with a sink staged the text of its records
--     WinnersWereStaged job past calls      each such winner was staged with the text of its records, in a call
--     TasksWereStaged job past calls        each task of such a vertex has a winner, which was staged with the text of what the task is to make
--     SinksAreReadied job past readied      the text of each sink that is readied, and not published yet, was put aside
--     StoreIsRight job past before store    the first and the last until the purge, the calls always, and this history was
--                                           published after what had been before
--     WinnersAreGood job past       no winner read a bad record
--     HasNoSink job before          no sink of the job was published before
--     IsOfNoSink e                  an event of a master that readies, publishes and purges nothing
use Rattle.std.specs.Prelude.{◌≡◌, ◌<◌, ⊤, ℕ, Bool, true, false, List, [], ◌∷◌, ◌++◌, length, Option, Some, None, unwrap_or, slice_get}
use Rattle.std.specs.List.{AllByRecursion}
use Rattle.std.specs.Option.{option_map_or}
use Rattle.tez_ids.specs.declared.TaskId.{TaskId}
use Rattle.tez_ids.specs.declared.AttemptId.{AttemptId}
use Rattle.tez_ids.specs.Same.{task}
use Rattle.tez_lists.specs.Numbers.{In}
use Rattle.tez_record.specs.Bag.{text}
use Rattle.tez_ports.specs.Content.{Named, Staged, Store, bytes_of, staged_at}
use Rattle.tez_plan.specs.Dag.{Dag}
use Rattle.tez_meaning.specs.Jobs.{Job}
use Rattle.tez_meaning.specs.Value.{value, sink_text, sink_texts}
use Rattle.tez_meaning.specs.Published.{published}
use Rattle.tez_events.specs.declared.Entry.{Entry}
use Rattle.tez_events.specs.declared.Entry.TheVariants.{Opened, Over, Rerun, Committing, Ready, Settled, Published, Purged}
use Rattle.tez_events.specs.declared.CoreEvent.{CoreEvent}
use Rattle.tez_events.specs.declared.CoreEvent.TheVariants.{Open, Configure, Queue, Place, Fetch, Send, Preempt, Fail, LoseNode, LoseOutput, Restart, Ready as ReadySink, CommitStart, Ask, Publish, Finish, Purge}
use Rattle.tez_history.specs.History.{Past, winner, is_readied}
use Rattle.tez_history.specs.Derived.{task_count}
use Rattle.tez_history.specs.Rules.{is_published}
use Rattle.tez_contents.specs.Contents.{made, met_bad}
use Rattle.tez_contents.specs.Laws.{task_makes}

abbrev pub sink_of : Dag → ℕ → Option (List ℕ)
sink_of g v = option_map_or (λ s. s.sink) (slice_get g.vertices v) None

abbrev pub sink_name : Dag → ℕ → List ℕ
sink_name g v = unwrap_or (sink_of g v) []

-- the name of a vertex's sink, and what goes into it
abbrev pub sink_entry : Job → ℕ → List ℕ × List ℕ
sink_entry job v = (sink_name job.plan v, sink_text job v)

abbrev pub published_view : Job → Past → Named
published_view job [] = []
published_view job (Published v ∷ past) = published_view job past ++ sink_entry job v.0 ∷ []
published_view job (_ ∷ past) = published_view job past

-- a publication may then be there without its entry, since a master may stop between the two
abbrev pub is_taken_up : Entry → Bool
is_taken_up (Committing n) = true
is_taken_up (Settled v) = true
is_taken_up _ = false

-- the records and bytes of a sink
abbrev pub sink_sum : Job → ℕ → ℕ × ℕ
sink_sum job v = (length (value job v), length (sink_text job v))

-- of those that are readied; after a withdrawal or an open all are readied anew
abbrev pub readied_sums : Job → Past → List (ℕ × ℕ)
readied_sums job [] = []
readied_sums job (Opened e ∷ past) = []
readied_sums job (Rerun a ∷ past) = []
readied_sums job (Ready v ∷ past) = readied_sums job past ++ sink_sum job v.0 ∷ []
readied_sums job (_ ∷ past) = readied_sums job past

abbrev pub is_purged : Past → Bool
is_purged [] = false
is_purged (Opened e ∷ past) = false
is_purged (Purged ∷ past) = true
is_purged (_ ∷ past) = is_purged past

-- ---- the store

abbrev pub WinnersAreStaged : Job → Past → Staged → Type 0
WinnersAreStaged job past staged =
    (t : TaskId) (w : AttemptId) (name : List ℕ) → sink_of job.plan t.vertex.0 ≡ Some name → winner t past ≡ Some w
    → staged_at w staged ≡ Some (text (made job w past))

abbrev pub WinnersWereStaged : Job → Past → Staged → Type 0
WinnersWereStaged job past calls =
    (t : TaskId) (w : AttemptId) (name : List ℕ) → sink_of job.plan t.vertex.0 ≡ Some name → winner t past ≡ Some w
    → In (w, text (made job w past)) calls

abbrev pub TasksWereStaged : Job → Past → Staged → Type 0
TasksWereStaged job past calls =
    (v i : ℕ) (name : List ℕ) → sink_of job.plan v ≡ Some name → i < task_count job.plan v past
    → (w : AttemptId) × (winner (task v i) past ≡ Some w) × In (w, text (task_makes job past (task v i))) calls

abbrev pub SinksAreReadied : Job → Past → Named → Type 0
SinksAreReadied job past readied =
    (v : ℕ) (name : List ℕ) → sink_of job.plan v ≡ Some name → is_readied v past ≡ true → is_published v past ≡ false
    → bytes_of name readied ≡ Some (sink_text job v)

pub record StoreIsRight (job : Job) (past : Past) (before : Named) (store : Store) : Type 0 where
  pub staged : is_purged past ≡ false → WinnersAreStaged job past store.staged
  pub called : WinnersWereStaged job past store.stage_calls
  pub readied : is_purged past ≡ false → SinksAreReadied job past store.readied
  pub publications : store.publications ≡ before ++ published_view job past

-- ---- the result

abbrev pub WinnersAreGood : Job → Past → Type 0
WinnersAreGood job past = (t : TaskId) (w : AttemptId) → winner t past ≡ Some w → met_bad job w past ≡ false

abbrev pub HasNoSink : Job → Named → Type 0
HasNoSink job before = AllByRecursion (λ sink. published sink.0 before ≡ []) (sink_texts job)

-- a master found the job finished
abbrev pub is_over : Entry → Bool
is_over Over = true
is_over _ = false

abbrev pub IsOfNoSink : CoreEvent → Type 0
IsOfNoSink Open = ⊥
IsOfNoSink (Configure v) = ⊤
IsOfNoSink (Queue t) = ⊤
IsOfNoSink (Place a p) = ⊤
IsOfNoSink (Fetch a e i) = ⊤
IsOfNoSink (Send a) = ⊤
IsOfNoSink (Preempt a) = ⊤
IsOfNoSink (Fail a) = ⊤
IsOfNoSink (LoseNode slot) = ⊤
IsOfNoSink (LoseOutput t) = ⊤
IsOfNoSink Restart = ⊥
IsOfNoSink (ReadySink v) = ⊥
IsOfNoSink CommitStart = ⊤
IsOfNoSink (Ask v) = ⊥
IsOfNoSink (Publish v) = ⊥
IsOfNoSink Finish = ⊤
IsOfNoSink Purge = ⊥
