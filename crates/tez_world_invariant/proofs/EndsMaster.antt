-- What a master whose parts hold tells of the history.
--     is_enabled       an event that it may take is enabled
--     runs_now         an attempt that it says is processing is so
--     takes_up_none    no commit was taken up
use Rattle.std.specs.Prelude.{◌≡◌, true}
use Rattle.std.proofs.Common.{sym, ◌∙◌, subst}
use Rattle.tez_ids.specs.declared.AttemptId.{AttemptId}
use Rattle.tez_conf.specs.declared.values.ConfValues.{ConfValues}
use Rattle.tez_events.specs.declared.CoreEvent.{CoreEvent}
use Rattle.tez_events.specs.declared.CoreEvent.TheVariants.{Open, Configure, Queue, Place, Fetch, Send, Preempt, Fail, LoseNode, LoseOutput, Restart, Ready, CommitStart, Ask, Publish, Finish, Purge}
use Rattle.tez_meaning.specs.Jobs.{Job}
use Rattle.tez_history.specs.History.{Past, stage}
use Rattle.tez_history.specs.Derived.{is_processing}
use Rattle.tez_history.specs.Steps.{enabled}
use Rattle.tez_master_model.specs.Enabled.{enabled_in}
use Rattle.tez_master_model.specs.Read.{processes}
use Rattle.tez_master_view.specs.Laws.{IsMasters}
use Rattle.tez_master_view.proofs.Takes.{takes}
use Rattle.tez_master_view.proofs.TaskReadings.{processes_read}
use Rattle.tez_contents.specs.Laws.{HasNone}
use Rattle.tez_sinks.specs.Sinks.{is_taken_up, IsOfNoSink}
use Rattle.tez_sinks.proofs.TakenUp.{none_taken_up}
use Rattle.tez_world_invariant.specs.Keeping.{Parts, Holds}

pub is_enabled : (job : Job) (c : ConfValues) (ps : Parts) (past : Past) (e : CoreEvent) → Holds job c ps past → IsMasters e → enabled_in ps.master e ≡ true → enabled job.plan c past e ≡ true
is_enabled job c ps past e h is on = sym (takes job.plan c past e h.goes h.up is) ∙ subst (λ m. enabled_in m e ≡ true) h.master on

pub runs_now : (job : Job) (c : ConfValues) (ps : Parts) (past : Past) (a : AttemptId) → Holds job c ps past → processes ps.master a ≡ true → is_processing (stage a past) ≡ true
runs_now job c ps past a h on = sym (processes_read job.plan c past a h.goes.sound.made) ∙ subst (λ m. processes m a ≡ true) h.master on

-- it took over no winner
pub takes_up_none : (job : Job) (c : ConfValues) (ps : Parts) (past : Past) → Holds job c ps past → HasNone is_taken_up past
takes_up_none job c ps past h = none_taken_up job c past h.well h.none_kept

pub no_sink_masters : (e : CoreEvent) → IsOfNoSink e → IsMasters e
no_sink_masters Open h = absurd h
no_sink_masters (Configure v) h = tt
no_sink_masters (Queue t) h = tt
no_sink_masters (Place a p) h = tt
no_sink_masters (Fetch a e i) h = tt
no_sink_masters (Send a) h = tt
no_sink_masters (Preempt a) h = tt
no_sink_masters (Fail a) h = tt
no_sink_masters (LoseNode slot) h = tt
no_sink_masters (LoseOutput t) h = tt
no_sink_masters Restart h = absurd h
no_sink_masters (Ready v) h = absurd h
no_sink_masters CommitStart h = tt
no_sink_masters (Ask v) h = absurd h
no_sink_masters (Publish v) h = absurd h
no_sink_masters Finish h = tt
no_sink_masters Purge h = absurd h
