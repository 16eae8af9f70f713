-- A step of a running master, as contracts see it.
--     Phase                        no master yet, a master that is up, or the end
--     Notes                        the records and bytes of sinks by vertex as they were last put aside, and of all sinks once the commit has started
--     IsEnd job c v past           what holds at an end
--     AreNoted job past notes      the notes are right
--     SinksStand job before past notes s       the store is as it is to be, and the notes are right
--     StoreAfter job before took past notes s    the same, by what a step answered
--     IsWhy job c phase past e why         why an event is ignored
--     bytes_out g v value                  of each scatter-gather edge out of a vertex, the bytes of a value that goes out over it
--     Adds job c phase past e after        the history after an event that was taken
--     StepIs job c phase past e took ..    what a step answered, and the phase and history after it
--     FaultIs .., IsNoFault took   whether a step ended at a device
use Rattle.std.specs.Prelude.{◌≡◌, ◌≢◌, ◌⊎◌, ◌≤◌, ⊤, ℕ, true, false, List, [], ◌∷◌, map, length, is_some, Option, Some}
use Rattle.std.specs.List.{find, filter, enumerate_from}
use Rattle.tez_ids.specs.declared.AttemptId.{AttemptId}
use Rattle.tez_record.specs.Bag.{text}
use Rattle.tez_plan.specs.Dag.{Dag}
use Rattle.tez_conf.specs.declared.values.ConfValues.{ConfValues}
use Rattle.tez_events.specs.declared.Entry.TheVariants.{Opened}
use Rattle.tez_events.specs.declared.CoreEvent.TheVariants.{Open, Fail}
use Rattle.tez_ports.specs.Causes.{Rose}
use Rattle.tez_ports.specs.Content.{Named, Store, bytes_of}
use Rattle.tez_meaning.specs.Jobs.{Job}
use Rattle.tez_meaning.specs.Value.{bad, sums}
use Rattle.tez_history.specs.Shape.{sinks, has_sink}
use Rattle.tez_history.specs.History.{Past, extend, stage, failures, is_up, is_committing}
use Rattle.tez_history.specs.Derived.{is_processing}
use Rattle.tez_history.specs.Steps.{entries_of, done_entries}
use Rattle.tez_contents.specs.Contents.{made, met_bad}
use Rattle.tez_master_model.specs.declared.why.Why.{Why}
use Rattle.tez_master_model.specs.declared.why.Why.TheVariants.{Over as IsOver, Down as IsDown, Stranger}
use Rattle.tez_master_model.specs.Enabled.{enabled_in, why_not}
use Rattle.tez_master_view.specs.View.{master_view}
use Rattle.tez_master_view.specs.Laws.{why_after}
use Rattle.tez_master_model.specs.Bytes.{leaves_by_key}
use Rattle.tez_rules.specs.OneMaster.{AllFit}
use Rattle.tez_orders.specs.declared.report.Outcome.{Outcome}
use Rattle.tez_orders.specs.declared.report.Outcome.TheVariants.{Done, Bad, NoMemory}
use Rattle.tez_sinks.specs.Sinks.{sink_name, TasksWereStaged, HasNoSink}
use Rattle.tez_world_invariant.specs.Keeping.{TextsAreRight}
use Rattle.tez_world_invariant.specs.Store.{IsSuccess, HasPublished, WasClear, StoreStands}
use Rattle.tez_steps.specs.declared.event.Event.{Event}
use Rattle.tez_steps.specs.declared.event.Event.TheVariants.{Core, Report}
use Rattle.tez_steps.specs.declared.verdict.Device.TheVariants as device
use Rattle.tez_steps.specs.declared.verdict.Verdict.{Verdict}
use Rattle.tez_steps.specs.declared.verdict.Verdict.TheVariants.{Succeeded, SinkExists, AttemptsSpent, DeviceFault}
use Rattle.tez_steps.specs.declared.verdict.Took.{Took}
use Rattle.tez_steps.specs.declared.verdict.Took.TheVariants.{Changed, Ignored, Ended}

pub data Phase : Type 0 where
  Down : Phase
  Up : Phase
  Over : Phase

pub record Notes : Type 0 where
  pub texts : List (ℕ × ℕ)
  pub sums : List (ℕ × ℕ)

-- ---- the end

abbrev pub IsEnd : Job → ConfValues → Verdict → Past → Type 0
IsEnd job c (Succeeded pairs) past = IsSuccess job (sums job) past
IsEnd job c (SinkExists v) past = (past ≡ []) × (has_sink job.plan v.0 ≡ true)
IsEnd job c (AttemptsSpent t) past = c.max_failed ≤ failures t past
IsEnd job c (DeviceFault device) past = ⊤

-- ---- the store

-- the first sink, in the order of vertices, that was published
abbrev pub first_published : Dag → Named → Option ℕ
first_published g publications = find (λ v. is_some (bytes_of (sink_name g v) publications)) (sinks g)

pub record AreNoted (job : Job) (past : Past) (notes : Notes) : Type 0 where
  pub rows : is_up past ≡ true → length notes.texts ≡ length job.plan.vertices
  pub texts : TextsAreRight job past notes.texts
  pub sums : is_committing past ≡ true → notes.sums ≡ sums job

pub record SinksStand (job : Job) (before : Named) (past : Past) (notes : Notes) (s : Store) : Type 0 where
  pub store : StoreStands job before past s
  pub noted : AreNoted job past notes

-- a success tells the records and bytes of the sinks, and each task of a vertex with a sink was staged by its winner
abbrev pub StoreAfter : Job → Named → Took → Past → Notes → Store → Type 0
StoreAfter job before Changed past notes s = SinksStand job before past notes s
StoreAfter job before (Ignored why) past notes s = SinksStand job before past notes s
StoreAfter job before (Ended (Succeeded pairs)) past notes s = StoreStands job before past s × (pairs.items ≡ sums job) × TasksWereStaged job past s.stage_calls
StoreAfter job before (Ended (SinkExists v)) past notes s = (s.publications ≡ before) × (first_published job.plan before ≡ Some v.0)
StoreAfter job before (Ended (AttemptsSpent t)) past notes s = (s.publications ≡ before) × HasNoSink job before
StoreAfter job before (Ended (DeviceFault device)) past notes s = HasPublished job before s × WasClear job before past

-- ---- why an event is ignored

abbrev pub IsWhyUp : Job → ConfValues → Past → Event → Why → Type 0
IsWhyUp job c past (Core e) why = (enabled_in (master_view job.plan c past) e ≡ false) × (why ≡ why_not (master_view job.plan c past) e)
IsWhyUp job c past (Report r) why = (why_after past r.order.attempt ≡ Some why) ⊎ (why ≡ Stranger)

abbrev pub IsWhy : Job → ConfValues → Phase → Past → Event → Why → Type 0
IsWhy job c Down past e why = (e ≢ Core Open) × (why ≡ IsDown)
IsWhy job c Up past e why = IsWhyUp job c past e why
IsWhy job c Over past e why = why ≡ IsOver

-- ---- what an event adds

abbrev pub bytes_out : Dag → ℕ → List (List ℕ) → List (ℕ × ℕ)
bytes_out g v value = map (λ e. (e.0, length (text value))) (filter (leaves_by_key g v) (enumerate_from 0 g.edges))

-- a report tells the bytes of what its attempt made, or the bad record that it met
abbrev pub ReportAdds : Job → ConfValues → Past → AttemptId → Outcome → Past → Type 0
ReportAdds job c past a (Done value pieces) after =
    (value ≡ made job a past)
    × AllFit (bytes_out job.plan a.task.vertex.0 value)
    × (after ≡ extend past (done_entries a (bytes_out job.plan a.task.vertex.0 value)))
ReportAdds job c past a (Bad r) after = (after ≡ extend past (entries_of job.plan c past (Fail a))) × (met_bad job a past ≡ true) × (bad job a.task.vertex.0 ≡ true)
ReportAdds job c past a NoMemory after = ⊥

abbrev pub Adds : Job → ConfValues → Phase → Past → Event → Past → Type 0
Adds job c Down past e after = (e ≡ Core Open) × (after ≡ Opened (record { 0 = 1 }) ∷ [])
Adds job c Up past (Core e) after = (enabled_in (master_view job.plan c past) e ≡ true) × (after ≡ extend past (entries_of job.plan c past e))
Adds job c Up past (Report r) after = (is_processing (stage r.order.attempt past) ≡ true) × ReportAdds job c past r.order.attempt r.outcome after
Adds job c Over past e after = ⊥

-- ---- a step

abbrev pub IsBad : Outcome → Type 0
IsBad (Done value pieces) = ⊥
IsBad (Bad r) = ⊤
IsBad NoMemory = ⊥

-- a failure that ends the world is that of an attempt of the task that is spent
abbrev pub IsFailureOf : Event → AttemptId → Type 0
IsFailureOf (Core e) a = e ≡ Fail a
IsFailureOf (Report r) a = (r.order.attempt ≡ a) × IsBad r.outcome

abbrev pub EndIs : Job → ConfValues → Phase → Past → Event → Verdict → Past → Type 0
EndIs job c phase past e (Succeeded pairs) after = Adds job c phase past e after
EndIs job c phase past e (SinkExists v) after = (phase ≡ Down) × (after ≡ past)
EndIs job c phase past e (AttemptsSpent t) after = Adds job c phase past e after × ((a : AttemptId) × IsFailureOf e a × (a.task ≡ t))
EndIs job c phase past e (DeviceFault device) after = after ≡ past

abbrev pub StepIs : Job → ConfValues → Phase → Past → Event → Took → Phase → Past → Type 0
StepIs job c phase past e Changed next after = (next ≡ Up) × Adds job c phase past e after
StepIs job c phase past e (Ignored why) next after = (next ≡ phase) × (after ≡ past) × IsWhy job c phase past e why
StepIs job c phase past e (Ended v) next after = (next ≡ Over) × EndIs job c phase past e v after × IsEnd job c v after

abbrev pub IsIgnored : Took → Type 0
IsIgnored Changed = ⊥
IsIgnored (Ignored why) = ⊤
IsIgnored (Ended v) = ⊥

-- ---- devices

-- where a step ended at a device, this was the store, and it failed or was stopped
abbrev pub FaultIs : ℕ → ℕ → ℕ → ℕ → Took → Type 0
FaultIs faults stops new_faults new_stops Changed = ⊤
FaultIs faults stops new_faults new_stops (Ignored why) = ⊤
FaultIs faults stops new_faults new_stops (Ended (Succeeded pairs)) = ⊤
FaultIs faults stops new_faults new_stops (Ended (SinkExists v)) = ⊤
FaultIs faults stops new_faults new_stops (Ended (AttemptsSpent t)) = ⊤
FaultIs faults stops new_faults new_stops (Ended (DeviceFault d)) = (d ≡ device.Store) × (Rose faults new_faults ⊎ Rose stops new_stops)

abbrev pub IsNoFault : Took → Type 0
IsNoFault Changed = ⊤
IsNoFault (Ignored why) = ⊤
IsNoFault (Ended (Succeeded pairs)) = ⊤
IsNoFault (Ended (SinkExists v)) = ⊤
IsNoFault (Ended (AttemptsSpent t)) = ⊤
IsNoFault (Ended (DeviceFault d)) = ⊥
