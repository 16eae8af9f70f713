-- What the laws of a master ask of a history, and what they say.
--     Goes g c past       a master can go by this history
--     IsMasters e         an event that a master takes; to open, to restart and to ask the store is the world's
--     why_after past a    why an attempt is not processing
use Rattle.std.specs.Prelude.{⊤, nat_lt, if◌then◌else◌, Option, Some, None}
use Rattle.tez_ids.specs.declared.AttemptId.{AttemptId}
use Rattle.tez_plan.specs.Dag.{Dag}
use Rattle.tez_plan.specs.Faults.{IsValid}
use Rattle.tez_plan.specs.Ranges.{IsInRanges}
use Rattle.tez_conf.specs.declared.values.ConfValues.{ConfValues}
use Rattle.tez_conf.specs.Ranges.{IsInRange}
use Rattle.tez_events.specs.declared.CoreEvent.{CoreEvent}
use Rattle.tez_events.specs.declared.CoreEvent.TheVariants.{Open, Configure, Queue, Place, Fetch, Send, Preempt, Fail, LoseNode, LoseOutput, Restart, Ready, CommitStart, Ask, Publish, Finish, Purge}
use Rattle.tez_history.specs.History.{Past, Stage, Unknown, InQueue, Waits, Runs, Ended, epoch, stage}
use Rattle.tez_laws.specs.Laws.{Sound}
use Rattle.tez_progress.specs.Laws.{IsFitted}
use Rattle.tez_pool_view.specs.View.{IsWholeAtCommit}
use Rattle.tez_vertex_view.specs.View.{FailedAreTasks}
use Rattle.tez_router_view.specs.View.{FitsPlan}
use Rattle.tez_schedule_view.specs.Events.{TellsInTime}
use Rattle.tez_master_model.specs.declared.why.Why.{Why}
use Rattle.tez_master_model.specs.declared.why.Why.TheVariants.{OldEpoch, UnknownAttempt, AttemptEnded, Stranger}

pub record Goes (g : Dag) (c : ConfValues) (past : Past) : Type 0 where
  pub valid : IsValid g
  pub ranges : IsInRanges g
  pub conf : IsInRange c
  pub sound : Sound g c past
  pub fitted : IsFitted g past
  pub plan : FitsPlan g past
  pub whole : IsWholeAtCommit g past
  pub failed : FailedAreTasks g past
  pub tells : TellsInTime past

abbrev pub IsMasters : CoreEvent → Type 0
IsMasters Open = ⊥
IsMasters (Configure v) = ⊤
IsMasters (Queue t) = ⊤
IsMasters (Place a p) = ⊤
IsMasters (Fetch a e i) = ⊤
IsMasters (Send a) = ⊤
IsMasters (Preempt a) = ⊤
IsMasters (Fail a) = ⊤
IsMasters (LoseNode slot) = ⊤
IsMasters (LoseOutput t) = ⊤
IsMasters Restart = ⊥
IsMasters (Ready v) = ⊤
IsMasters CommitStart = ⊤
IsMasters (Ask v) = ⊥
IsMasters (Publish v) = ⊤
IsMasters Finish = ⊤
IsMasters Purge = ⊤

abbrev pub why_at : Stage → Option Why
why_at Unknown = Some UnknownAttempt
why_at InQueue = Some Stranger
why_at (Waits p) = Some Stranger
why_at (Runs p) = None
why_at Ended = Some AttemptEnded

abbrev pub why_after : Past → AttemptId → Option Why
why_after past a = if nat_lt a.epoch.0 (epoch past) then Some OldEpoch else why_at (stage a past)
