-- The trace of a run, to its end.
--     fail_enabled               a failure of an attempt at work may come
--     adds_well, ended_well      an event and an end leave the history well
--     lawful, trace_of, going    what holds of a history that is well
use Rattle.std.specs.Prelude.{◌≡◌, ◌⊎◌, not, true, false, Bool, [], Option, Some, None}
use Rattle.std.proofs.Common.{sym, ◌∙◌, ap, subst, inl, inr}
use Rattle.tez_ids.specs.declared.AttemptId.{AttemptId}
use Rattle.tez_conf.specs.declared.values.ConfValues.{ConfValues}
use Rattle.tez_events.specs.declared.CoreEvent.{CoreEvent}
use Rattle.tez_events.specs.declared.CoreEvent.TheVariants.{Fail}
use Rattle.tez_meaning.specs.Jobs.{Job}
use Rattle.tez_history.specs.History.{Past, extend, stage, is_up, is_finished}
use Rattle.tez_history.specs.Derived.{is_processing}
use Rattle.tez_history.specs.Steps.{enabled, entries_of, is_running}
use Rattle.tez_laws.proofs.OneLive.{one_live}
use Rattle.tez_laws.proofs.Tasks.{no_both}
use Rattle.tez_progress.proofs.Ending.{goes_further}
use Rattle.tez_contents.proofs.Attempts.{all_right}
use Rattle.tez_master_model.specs.State.{MasterState}
use Rattle.tez_master_model.specs.Read.{processes}
use Rattle.tez_master_model.specs.Enabled.{enabled_in}
use Rattle.tez_master_view.specs.View.{master_view}
use Rattle.tez_master_view.proofs.TaskReadings.{processes_read}
use Rattle.tez_orders.specs.declared.report.Outcome.{Outcome}
use Rattle.tez_orders.specs.declared.report.Outcome.TheVariants.{Done, Bad, NoMemory}
use Rattle.tez_rules.specs.OneMaster.{IsRuled}
use Rattle.tez_rules.proofs.Unbroken.{one_unbroken}
use Rattle.tez_sinks.specs.Well.{IsWell}
use Rattle.tez_sinks.proofs.Wells.{well_event, well_report}
use Rattle.tez_world_invariant.proofs.PartsKeep.{on_of}
use Rattle.tez_steps.specs.declared.event.Event.{Event}
use Rattle.tez_steps.specs.declared.event.Event.TheVariants.{Core, Report}
use Rattle.tez_steps.specs.declared.running.Running.{Running}
use Rattle.tez_steps.specs.declared.verdict.Verdict.{Verdict}
use Rattle.tez_steps.specs.declared.verdict.Verdict.TheVariants.{Succeeded, SinkExists, AttemptsSpent, DeviceFault}
use Rattle.tez_steps.specs.Step.{Up, Adds, ReportAdds, EndIs, bytes_out}
use Rattle.tez_steps.specs.Holds.{parts_of, with_right_notes, Holds}
use Rattle.tez_world.specs.Holds.{phase_of, HasParts, IsWorld}
use Rattle.tez_world.specs.Lawful.{BytesAreTold, IsLawful, IsTrace, IsGoing}
use Rattle.tez_world.proofs.Consumers.{consumed}
use Rattle.tez_steps.proofs.Events.{on_master}
use Rattle.tez_steps.proofs.Taking.{masters_event}
use Rattle.tez_steps.proofs.Reported.{both_on, goes_unfinished, unfinished}

-- a failure of an attempt at work may come
pub fail_enabled : (job : Job) (c : ConfValues) (r : Running) (past : Past) (a : AttemptId) → Holds job c (parts_of r) past → is_processing (stage a past) ≡ true → enabled job.plan c past (Fail a) ≡ true
fail_enabled job c r past a h runs =
    let on : processes r.master.state a ≡ true = ap (λ (m : MasterState). processes m a) h.master ∙ processes_read job.plan c past a h.goes.sound.made ∙ runs in
    both_on (is_running past) (is_processing (stage a past)) (both_on (is_up past) (not (is_finished past)) h.up (goes_unfinished (is_finished past) (unfinished job c r past a h on))) runs

core_well : (job : Job) (c : ConfValues) (r : Running) (past after : Past) (e : CoreEvent) → Holds job c (parts_of r) past → enabled_in (master_view job.plan c past) e ≡ true → after ≡ extend past (entries_of job.plan c past e) → IsWell job c after
core_well job c r past after e h on is =
    let here = on_master job c (parts_of r) past e h on in
    subst (IsWell job c) (sym is) (well_event job c past e h.well (on_of job c (with_right_notes job (parts_of r)) past e h (masters_event r.master.state e here) here))

report_well : (job : Job) (c : ConfValues) (r : Running) (past after : Past) (a : AttemptId) (o : Outcome) → Holds job c (parts_of r) past → is_processing (stage a past) ≡ true → ReportAdds job c past a o after → IsWell job c after
report_well job c r past after a (Done value pieces) h runs k = subst (IsWell job c) (sym k.2) (well_report job c past a (bytes_out job.plan a.task.vertex.0 value) h.well runs)
report_well job c r past after a (Bad rec) h runs k = subst (IsWell job c) (sym k.0) (well_event job c past (Fail a) h.well (fail_enabled job c r past a h runs))
report_well job c r past after a NoMemory h runs k = absurd k

adds_well : (job : Job) (c : ConfValues) (r : Running) (past after : Past) (e : Event) → Holds job c (parts_of r) past → Adds job c Up past e after → IsWell job c after
adds_well job c r past after (Core e) h k = core_well job c r past after e h k.0 k.1
adds_well job c r past after (Report x) h k = report_well job c r past after x.order.attempt x.outcome h k.0 k.1

pub ended_well : (job : Job) (c : ConfValues) (r : Running) (past after : Past) (e : Event) (v : Verdict) → Holds job c (parts_of r) past → EndIs job c Up past e v after → IsWell job c after
ended_well job c r past after e (Succeeded pairs) h k = adds_well job c r past after e h k
ended_well job c r past after e (SinkExists v) h k = let no = k.0 in cc
ended_well job c r past after e (AttemptsSpent t) h k = adds_well job c r past after e h k.0
ended_well job c r past after e (DeviceFault d) h k = subst (IsWell job c) (sym k) h.well

-- ---- what holds of it

pub lawful : (job : Job) (c : ConfValues) (past : Past) → IsWell job c past → IsRuled job.plan c past → BytesAreTold job past → IsLawful job c past
lawful job c past w ruled bytes =
    let right = all_right job c w.ranges w.valid past w.made w.allowed w.kept in
    record {
      made = w.made;
      one_live = one_live job.plan c past w.made;
      never_both = no_both job.plan c past w.made;
      winners = λ t a h. (right.0 t a h).1;
      orders = λ a h. (right.1 a h).0.1;
      fetches = λ a n i e at h. (right.2 a n i e at h).3;
      consumers = consumed job.plan past w.now;
      bytes = bytes;
      unbroken = one_unbroken job.plan c past w.valid w.ranges w.made ruled;
    }

well_trace : (job : Job) (c : ConfValues) (past : Past) → IsRuled job.plan c past → BytesAreTold job past → (past ≡ []) ⊎ IsWell job c past → IsTrace job c past
well_trace job c past ruled bytes (inl e) = inl e
well_trace job c past ruled bytes (inr w) = inr (lawful job c past w ruled bytes)

pub trace_of : (job : Job) (c : ConfValues) (running : Option Running) (over : Bool) (past : Past) → IsWorld job c running over past → IsTrace job c past
trace_of job c running over past w = by running over w.parts where
  by : (running : Option Running) (over : Bool) → HasParts job c running over past → IsTrace job c past
  by running true h = well_trace job c past w.ruled w.bytes h
  by None false h = inl h
  by (Some r) false h = inr (lawful job c past h.well w.ruled w.bytes)

going_up : (job : Job) (c : ConfValues) (past : Past) (r : Running) → Holds job c (parts_of r) past → IsGoing job.plan c past
going_up job c past r h = record { further = goes_further job.plan c past h.goes.valid h.goes.conf h.well.made h.goes.fitted h.goes.sound.goes_on h.up; goes_on = h.goes.sound.goes_on }

pub going : (job : Job) (c : ConfValues) (running : Option Running) (over : Bool) (past : Past) → IsWorld job c running over past → phase_of running over ≡ Up → IsGoing job.plan c past
going job c running over past w up = by running over w.parts up where
  by : (running : Option Running) (over : Bool) → HasParts job c running over past → phase_of running over ≡ Up → IsGoing job.plan c past
  by running true h up = cc
  by None false h up = cc
  by (Some r) false h up = going_up job c past r h
