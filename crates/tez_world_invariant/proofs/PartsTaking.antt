-- What the master takes, adds and chooses, and that it does not ask the store.
use Rattle.std.specs.Prelude.{◌≡◌, ℕ, suc, ◌+◌, ◌&&◌, nat_le, Bool, true, false, not, Option, refl}
use Rattle.std.specs.Option.{option_map_or}
use Rattle.std.proofs.Common.{ap, sym, ◌∙◌, arith, subst}
use Rattle.tez_ids.specs.declared.AttemptId.{AttemptId}
use Rattle.tez_ids.specs.declared.VertexId.{VertexId}
use Rattle.tez_conf.specs.declared.values.ConfValues.{ConfValues}
use Rattle.tez_events.specs.declared.CoreEvent.{CoreEvent}
use Rattle.tez_events.specs.declared.CoreEvent.TheVariants.{Open, Configure, Queue, Place, Fetch, Send, Preempt, Fail, LoseNode, LoseOutput, Restart, Ready, CommitStart, Ask, Publish, Finish, Purge}
use Rattle.tez_meaning.specs.Jobs.{Job}
use Rattle.tez_history.specs.History.{Past, stage, is_up, failures, was_asked}
use Rattle.tez_history.specs.Derived.{is_next}
use Rattle.tez_history.specs.Steps.{enabled, entries_of, choice, is_running}
use Rattle.tez_task.specs.Table.{is_last}
use Rattle.tez_laws.specs.Laws.{SpendsNot}
use Rattle.tez_laws.proofs.StepLaw.{both, alive_task}
use Rattle.tez_laws.proofs.OneLive.{running_alive}
use Rattle.tez_master_model.specs.Enabled.{enabled_in}
use Rattle.tez_master_model.specs.Entries.{entries_in, is_last_in}
use Rattle.tez_master_model.specs.Choice.{choice_in}
use Rattle.tez_master_view.specs.Laws.{IsMasters}
use Rattle.tez_master_model.specs.Victim.{IsVictim}
use Rattle.tez_master_view.proofs.Lines.{adds}
use Rattle.tez_master_view.proofs.Chosen.{choice_same}
use Rattle.tez_master_view.proofs.TaskReadings.{task_read}
use Rattle.tez_sinks.proofs.TakenUp.{own_commit}
use Rattle.tez_world_invariant.specs.Keeping.{Parts, Holds}
use Rattle.tez_world_invariant.specs.Step.{IsPlain, later, is_purge}
use Rattle.tez_world_invariant.proofs.EndsMaster.{takes_up_none}
use Rattle.tez_world_invariant.proofs.PartsKeep.{on_of, leaves_event}

pub events_taken : (job : Job) (c : ConfValues) (ps : Parts) (past : Past) (e : CoreEvent) → Holds job c ps past → IsMasters e → enabled_in ps.master e ≡ true → entries_in ps.master e ≡ entries_of job.plan c past e
events_taken job c ps past e h is taken = ap (λ m. entries_in m e) h.master ∙ adds job.plan c past e h.goes (on_of job c ps past e h is taken) is

pub choice_taken : (job : Job) (c : ConfValues) (ps : Parts) (past : Past) (victim : Option AttemptId) → Holds job c ps past → IsVictim ps.master victim → choice_in ps.master victim ≡ choice job.plan c past
choice_taken job c ps past victim h is =
    ap (λ m. choice_in m victim) h.master ∙ choice_same job.plan c past victim h.goes h.up (subst (λ m. IsVictim m victim) h.master is)

pub stays_up : (job : Job) (c : ConfValues) (ps : Parts) (past : Past) (e : CoreEvent) → Holds job c ps past → IsMasters e → is_up (later job c past e) ≡ not (is_purge e)
stays_up job c ps past e h is = by e is where
  plain : (e : CoreEvent) → IsPlain e → is_up (later job c past e) ≡ true
  plain e k = (leaves_event job.plan c past e k).up h.up

  by : (e : CoreEvent) → IsMasters e → is_up (later job c past e) ≡ not (is_purge e)
  by Open k = absurd k
  by (Configure v) k = plain (Configure v) tt
  by (Queue t) k = plain (Queue t) tt
  by (Place a p) k = plain (Place a p) tt
  by (Fetch a d i) k = plain (Fetch a d i) tt
  by (Send a) k = plain (Send a) tt
  by (Preempt a) k = plain (Preempt a) tt
  by (Fail a) k = plain (Fail a) tt
  by (LoseNode slot) k = plain (LoseNode slot) tt
  by (LoseOutput t) k = plain (LoseOutput t) tt
  by Restart k = absurd k
  by (Ready v) k = h.up
  by CommitStart k = h.up
  by (Ask v) k = absurd k
  by (Publish v) k = plain (Publish v) tt
  by Finish k = plain Finish tt
  by Purge k = refl

-- no commit was taken up
and_none : (x : Bool) → (x && false) ≡ false
and_none true = refl
and_none false = refl

pub asks_none : (job : Job) (c : ConfValues) (ps : Parts) (past : Past) (v : VertexId) → Holds job c ps past
    → enabled job.plan c past (Ask v) ≡ false
asks_none job c ps past v h =
    ap (λ b. is_running past && (b && (is_next job.plan past v.0 && not (was_asked v.0 past))))
    (own_commit past (takes_up_none job c ps past h)) ∙ and_none (is_running past)

more : (n : ℕ) → n + 1 ≡ suc n
more n = omega arith

pub spent_told : (job : Job) (c : ConfValues) (ps : Parts) (past : Past) (a : AttemptId) → Holds job c ps past → enabled_in ps.master (Fail a) ≡ true → is_last_in ps.master a.task ≡ false → SpendsNot c past (Fail a)
spent_told job c ps past a h taken last =
    let on = on_of job c ps past (Fail a) h tt taken in
    let runs = both {x = is_running past} on in
    let there = alive_task job.plan c past a h.well.made (running_alive (stage a past) runs.1) in
    sym (ap (λ o. option_map_or is_last o false) (task_read job.plan c past a.task h.well.made there.0) ∙ ap (nat_le c.max_failed) (more (failures a.task past))) ∙ sym (ap (λ m. is_last_in m a.task) h.master) ∙ last
