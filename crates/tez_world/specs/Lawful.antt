-- What holds of the trace of a run.
--     IsConsumed m t           each output of an edge's table is an input of exactly one consumer, over a broadcast edge of every consumer once
--     AreConsumed g past       so it is over each edge, as the vertices at its ends are configured
--     BytesAreTold job past    each line of a report tells the bytes of what its attempt's task is to make, as the vertices stood configured then
--     IsLawful job c past      each entry might follow those before it, attempts and their inputs are right, and no rule is broken
--     IsTrace job c past       there is none yet, or it is lawful
--     IsGoing g c past         a master that is up has a next event of its own unless an attempt is processing, and each task that was queued has a live attempt or a winner
use Rattle.std.specs.Prelude.{◌≡◌, ◌⊎◌, ⊤, true, [], ◌∷◌, length, reverse, is_some, None}
use Rattle.tez_lists.specs.Numbers.{In}
use Rattle.tez_record.specs.Bag.{text}
use Rattle.tez_plan.specs.declared.parts.EdgeSpec.{EdgeSpec}
use Rattle.tez_plan.specs.declared.parts.Movement.{Movement}
use Rattle.tez_plan.specs.declared.parts.Movement.TheVariants.{OneToOne, Broadcast, ScatterGather}
use Rattle.tez_plan.specs.Dag.{Dag}
use Rattle.tez_conf.specs.declared.values.ConfValues.{ConfValues}
use Rattle.tez_events.specs.declared.Entry.{Entry}
use Rattle.tez_events.specs.declared.Entry.TheVariants.{Made}
use Rattle.tez_tables.specs.Table.{Table, HasOneConsumer, ReachesEachConsumer}
use Rattle.tez_meaning.specs.Jobs.{Job}
use Rattle.tez_history.specs.History.{Past}
use Rattle.tez_history.specs.Derived.{table_over}
use Rattle.tez_history.specs.Steps.{choice}
use Rattle.tez_history.specs.Follows.{IsMade}
use Rattle.tez_history.specs.Rules.{broken}
use Rattle.tez_laws.specs.Laws.{OneLive, NeverBoth, GoesOn}
use Rattle.tez_progress.specs.Laws.{IsIdle}
use Rattle.tez_contents.specs.Laws.{WinnersAreRight, OrdersAreRight, FetchesAreRight, task_makes}

abbrev pub IsConsumed : Movement → Table → Type 0
IsConsumed OneToOne t = HasOneConsumer t
IsConsumed Broadcast t = ReachesEachConsumer t
IsConsumed (ScatterGather keys) t = HasOneConsumer t

abbrev pub AreConsumed : Dag → Past → Type 0
AreConsumed g past = (e : EdgeSpec) → In e g.edges → IsConsumed e.movement (table_over g past e)

abbrev pub IsTold : Job → Past → Entry → Type 0
IsTold job past (Made a e n) = n ≡ length (text (task_makes job past a.task))
IsTold job past _ = ⊤

abbrev pub BytesAreTold : Job → Past → Type 0
BytesAreTold job [] = ⊤
BytesAreTold job (e ∷ past) = IsTold job past e × BytesAreTold job past

pub record IsLawful (job : Job) (c : ConfValues) (past : Past) : Type 0 where
  pub made : IsMade job.plan c past
  pub one_live : OneLive past
  pub never_both : NeverBoth past
  -- each winner made what its task is to make, each order had exactly its inputs, and each of these came from a winner
  pub winners : WinnersAreRight job past
  pub orders : OrdersAreRight job past
  pub fetches : FetchesAreRight job past
  -- each piece goes to one consumer, or to each, and the bytes of the pieces are told as they are
  pub consumers : AreConsumed job.plan past
  pub bytes : BytesAreTold job past
  -- no rule of traces is broken, from the first entry to the last
  pub unbroken : broken job.plan c (reverse past) ≡ None

abbrev pub IsTrace : Job → ConfValues → Past → Type 0
IsTrace job c past = (past ≡ []) ⊎ IsLawful job c past

pub record IsGoing (g : Dag) (c : ConfValues) (past : Past) : Type 0 where
  pub further : IsIdle past → is_some (choice g c past) ≡ true
  pub goes_on : GoesOn past
