-- What a running master makes of any event, and of one that calls no device.
--     IsTook job c e r log took ..                   what came of an event
--     IsQuiet e                                      the event calls no device
--     IsQuietStep job c e r log result ..            all that is said of a step that calls no device
--     LeavesStore .. job r log s result ..           what a step leaves of its master, its log and its store, whatever the event was
--     IsStep .. job c e r log s result ..            all that is said of a step
use Rattle.std.specs.Prelude.{◌≡◌, ◌≤◌, ℕ, ⊤, Option, is_some, Result, IfOk, OnErr}
use Rattle.tez_conf.specs.declared.values.ConfValues.{ConfValues}
use Rattle.tez_ports.specs.Content.{Named, Store, Told}
use Rattle.tez_meaning.specs.Jobs.{Job}
use Rattle.tez_log.specs.Log.{LogState}
use Rattle.tez_events.specs.declared.CoreEvent.{CoreEvent}
use Rattle.tez_events.specs.declared.CoreEvent.TheVariants.{Open as OpenEvent, Configure, Queue, Place, Fetch, Send, Preempt, Fail, LoseNode, LoseOutput, Restart, Ready, CommitStart, Ask, Publish, Finish, Purge}
use Rattle.tez_steps.specs.declared.event.Event.{Event}
use Rattle.tez_steps.specs.declared.event.Event.TheVariants.{Core}
use Rattle.tez_steps.specs.declared.running.Running.{Running}
use Rattle.tez_steps.specs.declared.verdict.Took.{Took}
use Rattle.tez_steps.specs.declared.verdict.Took.TheVariants.{Changed, Ignored, Ended}
use Rattle.tez_steps.specs.Step.{Up, SinksStand, StoreAfter, IsIgnored, FaultIs, IsNoFault, IsEnd, Adds, EndIs, IsWhyUp}
use Rattle.tez_steps.specs.Holds.{parts_of, Holds, notes_of}
use Rattle.tez_steps.specs.Parts.{SameParts, SameLog}

abbrev pub IsTook : Job → ConfValues → Event → Running → LogState → Took → Running → LogState → Type 0
IsTook job c e r log Changed after then_log = Adds job c Up log.past e then_log.past × Holds job c (parts_of after) then_log.past
IsTook job c e r log (Ignored why) after then_log = IsWhyUp job c log.past e why × SameParts r after × SameLog log then_log
IsTook job c e r log (Ended v) after then_log = EndIs job c Up log.past e v then_log.past × IsEnd job c v then_log.past

-- the event calls no device
abbrev pub IsQuiet : CoreEvent → Type 0
IsQuiet OpenEvent = ⊤
IsQuiet (Configure v) = ⊤
IsQuiet (Queue t) = ⊤
IsQuiet (Place a p) = ⊤
IsQuiet (Fetch a e i) = ⊤
IsQuiet (Send a) = ⊤
IsQuiet (Preempt a) = ⊤
IsQuiet (Fail a) = ⊤
IsQuiet (LoseNode slot) = ⊤
IsQuiet (LoseOutput t) = ⊤
IsQuiet Restart = ⊤
IsQuiet (Ready v) = ⊥
IsQuiet CommitStart = ⊤
IsQuiet (Ask v) = ⊤
IsQuiet (Publish v) = ⊥
IsQuiet Finish = ⊤
IsQuiet Purge = ⊥

-- a step that calls no device: what came of the event, that nothing changed where memory is short, and that a store
-- which stood right stands right as it is
pub record IsQuietStep {E : Type 0} (job : Job) (c : ConfValues) (e : CoreEvent) (r : Running) (log : LogState) (result : Result Took E) (after : Running) (l : LogState) : Type 0 where
  pub taken : IfOk result (λ took. IsTook job c (Core e) r log took after l)
  pub refused_parts : OnErr result (SameParts r after)
  pub refused_log : OnErr result (SameLog log l)
  pub store : (before : Named) (s : Store) → SinksStand job before log.past (notes_of r) s → IfOk result (λ took. StoreAfter job before took l.past (notes_of after) s)
  pub no_fault : IfOk result IsNoFault

-- whatever the event was: nothing changed where memory is short, the store stays right, tells as it told and goes by
-- the same reference, and a step ends at it only where it failed or was stopped, and never where it is sure
pub record LeavesStore {S E : Type 0} (store_of : S → Option Store) (faults stops lent_of : S → ℕ) (is_sure : S → Type 0) (job : Job) (r : Running) (log : LogState) (s : S) (result : Result Took E) (after : Running) (l : LogState) (t : S) : Type 0 where
  pub refused_parts : OnErr result (SameParts r after)
  pub refused_log : OnErr result (SameLog log l)
  pub store : (before : Named) → Told (store_of s) (SinksStand job before log.past (notes_of r)) → IfOk result (λ took. Told (store_of t) (StoreAfter job before took l.past (notes_of after)))
  pub store_refused : (before : Named) → Told (store_of s) (SinksStand job before log.past (notes_of r)) → OnErr result (Told (store_of t) (SinksStand job before l.past (notes_of after)))
  pub same_store : IfOk result (λ took. IsIgnored took → t ≡ s)
  pub later : (faults s ≤ faults t) × (stops s ≤ stops t)
  pub fault : IfOk result (FaultIs (faults s) (stops s) (faults t) (stops t))
  pub told : is_some (store_of t) ≡ is_some (store_of s)
  pub lent : lent_of t ≡ lent_of s
  pub stays_sure : is_sure s → is_sure t
  pub sure : (before : Named) → is_sure s → Told (store_of s) (SinksStand job before log.past (notes_of r)) → IfOk result IsNoFault

-- what came of the event, and what it left
pub record IsStep {S E : Type 0} (store_of : S → Option Store) (faults stops lent_of : S → ℕ) (is_sure : S → Type 0) (job : Job) (c : ConfValues) (e : Event) (r : Running) (log : LogState) (s : S) (result : Result Took E) (after : Running) (l : LogState) (t : S) : Type 0 where
  pub taken : IfOk result (λ took. IsTook job c e r log took after l)
  pub leaves : LeavesStore store_of faults stops lent_of is_sure job r log s result after l t
