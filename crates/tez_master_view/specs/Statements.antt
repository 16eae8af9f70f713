-- What the laws say, of a history that a master can go by.
use Rattle.std.specs.Prelude.{◌≡◌, ◌<◌, ℕ, Bool, List, map, true, IsTrue, Option, Some, slice_get}
use Rattle.std.specs.Option.{option_map}
use Rattle.tez_ids.specs.declared.AttemptId.{AttemptId}
use Rattle.tez_ids.specs.declared.EdgeId.{EdgeId}
use Rattle.tez_ids.specs.declared.VertexId.{VertexId}
use Rattle.tez_plan.specs.Dag.{Dag}
use Rattle.tez_plan.specs.declared.parts.EdgeSpec.{EdgeSpec}
use Rattle.tez_conf.specs.declared.values.ConfValues.{ConfValues}
use Rattle.tez_events.specs.declared.CoreEvent.{CoreEvent}
use Rattle.tez_events.specs.declared.CoreEvent.TheVariants.{Ask}
use Rattle.tez_history.specs.History.{Past, extend, stage, is_up}
use Rattle.tez_history.specs.Derived.{is_processing, table_over, input_count}
use Rattle.tez_history.specs.Steps.{enabled, entries_of, done_entries, choice, winner_behind}
use Rattle.tez_router.specs.Table.{output_in}
use Rattle.tez_master_model.specs.Read.{piece_in}
use Rattle.tez_master_model.specs.Enabled.{enabled_in, may_ask, why_in}
use Rattle.tez_master_model.specs.Entries.{entries_in}
use Rattle.tez_master_model.specs.Settled.{settled, after_done, after_asked}
use Rattle.tez_master_model.specs.Choice.{choice_in}
use Rattle.tez_master_model.specs.Steady.{IsSteady}
use Rattle.tez_master_model.specs.Bytes.{bytes_of, IsMadeFor}
use Rattle.tez_master_model.specs.Victim.{IsVictim}
use Rattle.tez_laws.specs.Laws.{SpendsNot, answered}
use Rattle.tez_master_view.specs.View.{master_view}
use Rattle.tez_master_view.specs.Laws.{Goes, IsMasters, why_after}

-- ---- what a master that is up answers

-- it takes the event exactly where it may come
abbrev pub TakesWhatIsEnabled : Dag → ConfValues → Past → CoreEvent → Type 0
TakesWhatIsEnabled g c past e = Goes g c past → is_up past ≡ true → IsMasters e → enabled_in (master_view g c past) e ≡ enabled g c past e

-- it asks the store of a sink exactly where it may be asked
abbrev pub AsksWhatIsEnabled : Dag → ConfValues → Past → VertexId → Type 0
AsksWhatIsEnabled g c past v = may_ask (master_view g c past) v.0 ≡ enabled g c past (Ask v)

-- it tells why the attempt is not processing
abbrev pub TellsWhy : Dag → ConfValues → Past → AttemptId → Type 0
TellsWhy g c past a = Goes g c past → is_up past ≡ true → why_in (master_view g c past) a ≡ why_after past a

-- it adds the entries of an event that may come
abbrev pub AddsTheEntries : Dag → ConfValues → Past → CoreEvent → Type 0
AddsTheEntries g c past e = Goes g c past → enabled g c past e ≡ true → IsMasters e → entries_in (master_view g c past) e ≡ entries_of g c past e

-- by the attempt that is to give way, it chooses what the model chooses
abbrev pub Chooses : Dag → ConfValues → Past → Option AttemptId → Type 0
Chooses g c past victim = Goes g c past → is_up past ≡ true → IsVictim (master_view g c past) victim → choice_in (master_view g c past) victim ≡ choice g c past

-- ---- what it is afterwards

-- after an event that may come it is what the longer history says
abbrev pub EventSettles : Dag → ConfValues → Past → CoreEvent → Type 0
EventSettles g c past e = Goes g c past → enabled g c past e ≡ true → IsMasters e → settled (master_view g c past) e ≡ master_view g c (extend past (entries_of g c past e))

-- so it is after the report of an attempt that processes
abbrev pub ReportSettles : Dag → ConfValues → Past → AttemptId → Type 0
ReportSettles g c past a =
    (made : List (EdgeId × ℕ)) → Goes g c past → IsTrue (is_processing (stage a past)) → IsMadeFor g a made
    → after_done (master_view g c past) a made ≡ master_view g c (extend past (done_entries a (map bytes_of made)))

-- and once the store has answered whether it has the sink of a vertex
abbrev pub AnswerSettles : Dag → ConfValues → Past → VertexId → Type 0
AnswerSettles g c past v =
    (there : Bool) → after_asked (master_view g c past) v.0 there ≡ master_view g c (answered past v there)

-- after an event that spends no task it can go by the longer history
abbrev pub GoesOnByEvent : Dag → ConfValues → Past → CoreEvent → Type 0
GoesOnByEvent g c past e = Goes g c past → enabled g c past e ≡ true → IsMasters e → SpendsNot c past e → Goes g c (extend past (entries_of g c past e))

-- so it can after a report
abbrev pub GoesOnByReport : Dag → ConfValues → Past → AttemptId → Type 0
GoesOnByReport g c past a = (made : List (ℕ × ℕ)) → Goes g c past → IsTrue (is_processing (stage a past)) → Goes g c (extend past (done_entries a made))

-- ---- what it gives to the calls on its parts

abbrev pub StaysSteady : Dag → ConfValues → Past → Type 0
StaysSteady g c past = Goes g c past → is_up past ≡ true → IsSteady (master_view g c past)

-- the input of an attempt over an edge of the plan is the output that the table of the edge leads to
abbrev pub TellsOutputs : Dag → ConfValues → Past → Type 0
TellsOutputs g c past =
    (a : AttemptId) (n : ℕ) (e : EdgeSpec) (i : ℕ) → slice_get g.edges n ≡ Some e → i < input_count g past e a.task.index
    → output_in (master_view g c past).router a n i ≡ ((table_over g past e).leads a.task.index i).1

-- the piece behind such an input is that output of the winner that the history says
abbrev pub TellsPieces : Dag → ConfValues → Past → Type 0
TellsPieces g c past =
    (a : AttemptId) (n : ℕ) (e : EdgeSpec) (i : ℕ) → Goes g c past → slice_get g.edges n ≡ Some e → i < input_count g past e a.task.index
    → piece_in (master_view g c past) a n i ≡ option_map (λ w. (w, ((table_over g past e).leads a.task.index i).1)) (winner_behind g past a n i)
