-- What a world keeps: its parts, the rules of its trace, and that reports told the bytes of what their attempts made.
--     adds_keeps        an event that is taken keeps the rules and the bytes
--     ended_keeps       so does the end
--     took_world        a step of a master that is up
--     new_world, begun_world, ended_world      a run that is down, and its first event
use Rattle.std.specs.Prelude.{◌≡◌, true, Bool, false, [], Option, Some, None, refl}
use Rattle.std.proofs.Common.{sym, subst, inl}
use Rattle.tez_ids.specs.declared.AttemptId.{AttemptId}
use Rattle.tez_conf.specs.declared.values.ConfValues.{ConfValues}
use Rattle.tez_events.specs.declared.CoreEvent.{CoreEvent}
use Rattle.tez_events.specs.declared.CoreEvent.TheVariants.{Fail}
use Rattle.tez_meaning.specs.Jobs.{Job}
use Rattle.tez_history.specs.History.{Past, extend, stage}
use Rattle.tez_history.specs.Derived.{is_processing}
use Rattle.tez_history.specs.Steps.{enabled, entries_of}
use Rattle.tez_log.specs.Log.{LogState}
use Rattle.tez_master_model.specs.Enabled.{enabled_in}
use Rattle.tez_master_view.specs.Laws.{IsMasters}
use Rattle.tez_master_view.specs.View.{master_view}
use Rattle.tez_orders.specs.declared.report.Outcome.{Outcome}
use Rattle.tez_orders.specs.declared.report.Outcome.TheVariants.{Done, Bad, NoMemory}
use Rattle.tez_rules.specs.OneMaster.{IsRuled}
use Rattle.tez_rules.proofs.Kept.{begins_ruled, opens_ruled, event_ruled, report_ruled, event_adds}
use Rattle.tez_world_invariant.proofs.PartsKeep.{on_of}
use Rattle.tez_steps.specs.declared.event.Event.{Event}
use Rattle.tez_steps.specs.declared.event.Event.TheVariants.{Core, Report}
use Rattle.tez_world.specs.declared.opening.Began.{Began}
use Rattle.tez_world.specs.declared.opening.Began.TheVariants.{Up as BegunUp, Ended as BegunEnded}
use Rattle.tez_steps.specs.declared.running.Running.{Running}
use Rattle.tez_steps.specs.declared.verdict.Verdict.{Verdict}
use Rattle.tez_steps.specs.declared.verdict.Verdict.TheVariants.{Succeeded, SinkExists, AttemptsSpent, DeviceFault}
use Rattle.tez_steps.specs.declared.verdict.Took.{Took}
use Rattle.tez_steps.specs.declared.verdict.Took.TheVariants.{Changed, Ignored, Ended}
use Rattle.tez_steps.specs.Step.{Up, Adds, ReportAdds, EndIs, bytes_out}
use Rattle.tez_world.specs.Begun.{HasBegun}
use Rattle.tez_steps.specs.Holds.{parts_of, with_right_notes, Holds}
use Rattle.tez_world.specs.Holds.{IsWorld}
use Rattle.tez_world.specs.Lawful.{BytesAreTold}
use Rattle.tez_steps.specs.Taking.{IsTook}
use Rattle.tez_world.specs.Taking.{is_ended}
use Rattle.tez_steps.proofs.Events.{on_master}
use Rattle.tez_steps.proofs.Taking.{masters_event}
use Rattle.tez_world.proofs.WellLaws.{fail_enabled}
use Rattle.tez_world.proofs.ReportBytes.{quiet_told, report_told}
use Rattle.tez_world.proofs.RunLaws.{up_parts}
use Rattle.tez_world.proofs.StepLaws.{world_is}

-- the rules and the bytes
record Keeps (job : Job) (c : ConfValues) (past : Past) : Type 0 where
  ruled : IsRuled job.plan c past
  bytes : BytesAreTold job past

event_keeps : (job : Job) (c : ConfValues) (r : Running) (past after : Past) (e : CoreEvent) → Holds job c (parts_of r) past → IsMasters e → enabled job.plan c past e ≡ true → after ≡ extend past (entries_of job.plan c past e) → Keeps job c past → Keeps job c after
event_keeps job c r past after e h masters on is k = subst (Keeps job c) (sym is) (record {
  ruled = event_ruled job.plan c past e h.well.made h.goes.sound.settled k.ruled on masters;
  bytes = quiet_told job past (entries_of job.plan c past e) (event_adds job.plan c past e masters) k.bytes;
})

core_keeps : (job : Job) (c : ConfValues) (r : Running) (past after : Past) (e : CoreEvent) → Holds job c (parts_of r) past → enabled_in (master_view job.plan c past) e ≡ true → after ≡ extend past (entries_of job.plan c past e) → Keeps job c past → Keeps job c after
core_keeps job c r past after e h on is k =
    let here = on_master job c (parts_of r) past e h on in
    let masters = masters_event r.master.state e here in
    event_keeps job c r past after e h masters (on_of job c (with_right_notes job (parts_of r)) past e h masters here) is k

report_keeps : (job : Job) (c : ConfValues) (r : Running) (past after : Past) (a : AttemptId) (o : Outcome) → Holds job c (parts_of r) past → is_processing (stage a past) ≡ true → ReportAdds job c past a o after → Keeps job c past → Keeps job c after
report_keeps job c r past after a (Done value pieces) h runs adds k = subst (Keeps job c) (sym adds.2) (record {
  ruled = report_ruled job.plan c past a (bytes_out job.plan a.task.vertex.0 value) h.well.made h.goes.sound.settled k.ruled runs adds.1;
  bytes = report_told job c past a value h.well runs adds.0 k.bytes;
})
report_keeps job c r past after a (Bad rec) h runs adds k = event_keeps job c r past after (Fail a) h tt (fail_enabled job c r past a h runs) adds.0 k
report_keeps job c r past after a NoMemory h runs adds k = absurd adds

adds_keeps : (job : Job) (c : ConfValues) (r : Running) (past after : Past) (e : Event) → Holds job c (parts_of r) past → Adds job c Up past e after → Keeps job c past → Keeps job c after
adds_keeps job c r past after (Core e) h adds k = core_keeps job c r past after e h adds.0 adds.1 k
adds_keeps job c r past after (Report x) h adds k = report_keeps job c r past after x.order.attempt x.outcome h adds.0 adds.1 k

ended_keeps : (job : Job) (c : ConfValues) (r : Running) (past after : Past) (e : Event) (v : Verdict) → Holds job c (parts_of r) past → EndIs job c Up past e v after → Keeps job c past → Keeps job c after
ended_keeps job c r past after e (Succeeded pairs) h end k = adds_keeps job c r past after e h end k
ended_keeps job c r past after e (SinkExists v) h end k = let no = end.0 in cc
ended_keeps job c r past after e (AttemptsSpent t) h end k = adds_keeps job c r past after e h end.0 k
ended_keeps job c r past after e (DeviceFault d) h end k = subst (Keeps job c) (sym end) k

took_keeps : (job : Job) (c : ConfValues) (e : Event) (r : Running) (log : LogState) (took : Took) (after : Running) (l : LogState) → Holds job c (parts_of r) log.past → IsTook job c e r log took after l → Keeps job c log.past → Keeps job c l.past
took_keeps job c e r log Changed after l h t k = adds_keeps job c r log.past l.past e h t.0 k
took_keeps job c e r log (Ignored why) after l h t k = subst (Keeps job c) (sym t.2.past) k
took_keeps job c e r log (Ended v) after l h t k = ended_keeps job c r log.past l.past e v h t.0 k

pub took_world : (job : Job) (c : ConfValues) (e : Event) (r : Running) (log : LogState) (took : Took) (after : Running) (l : LogState) → IsWorld job c (Some r) false log.past → IsTook job c e r log took after l
    → IsWorld job c (Some after) (is_ended took) l.past
took_world job c e r log took after l w t =
    let kept = took_keeps job c e r log took after l w.parts t (record { ruled = w.ruled; bytes = w.bytes }) in
    record { parts = world_is job c e r log took after l w.parts t; ruled = kept.ruled; bytes = kept.bytes }

-- ---- a run that is down

pub new_world : (job : Job) (c : ConfValues) → IsWorld job c None false []
new_world job c = record { parts = refl; ruled = begins_ruled job.plan c; bytes = tt }

pub begun_world : (job : Job) (c : ConfValues) (r : Running) (over : Bool) (past : Past) (began : Began) → over ≡ false → began ≡ BegunUp r → HasBegun job c began past → IsWorld job c (Some r) over past
begun_world job c r over past began off is h =
    let begun : HasBegun job c (BegunUp r) past = subst (λ (b : Began). HasBegun job c b past) is h in
    record {
      parts = up_parts job c r over past began off is h;
      ruled = subst (IsRuled job.plan c) (sym begun.0) (opens_ruled job.plan c (record { 0 = 1 }));
      bytes = subst (BytesAreTold job) (sym begun.0) (tt, tt);
    }

pub ended_world : (job : Job) (c : ConfValues) (running : Option Running) (past : Past) (v : Verdict) (began : Began) → began ≡ BegunEnded v → HasBegun job c began past → IsWorld job c running true past
ended_world job c running past v began is h =
    let begun : HasBegun job c (BegunEnded v) past = subst (λ (b : Began). HasBegun job c b past) is h in
    record {
      parts = inl begun.0;
      ruled = subst (IsRuled job.plan c) (sym begun.0) (begins_ruled job.plan c);
      bytes = subst (BytesAreTold job) (sym begun.0) tt;
    }
