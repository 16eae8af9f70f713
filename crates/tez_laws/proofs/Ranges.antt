-- A task that was kept or queued is a task of a configured vertex.
use Rattle.std.specs.Prelude.{◌≡◌, ℕ, ◌==◌, ◌&&◌, ◌||◌, nat_lt, Bool, true, false, if◌then◌else◌, [], ◌∷◌, Option, Some, None, is_some, unwrap_or, refl}
use Rattle.std.proofs.Common.{subst}
use Rattle.tez_ids.specs.declared.TaskId.{TaskId}
use Rattle.tez_ids.specs.declared.AttemptId.{AttemptId}
use Rattle.tez_ids.specs.Same.{same_task}
use Rattle.tez_plan.specs.Dag.{Dag, tasks_of as planned}
use Rattle.tez_conf.specs.declared.values.ConfValues.{ConfValues}
use Rattle.tez_vman.specs.declared.seen.Config.{Config}
use Rattle.tez_vman.specs.Rules.{config as shape}
use Rattle.tez_events.specs.declared.Entry.TheVariants.{Opened, Over, Stands, Kept, Configured, Queued, Stopped}
use Rattle.tez_history.specs.Shape.{is_vertex}
use Rattle.tez_history.specs.History.{Past, config, is_scheduled, live, winner}
use Rattle.tez_history.specs.Derived.{is_task}
use Rattle.tez_history.specs.Follows.{IsMade}
use Rattle.tez_laws.specs.Laws.{ScheduledIsTask, ConfiguredIsVertex}
use Rattle.tez_laws.proofs.Same.{same_task-true}
use Rattle.tez_laws.proofs.Tasks.{unscheduled}

-- whether a task is there, by its vertex's configuration
is_in : Option Config → ℕ → Config → Bool
is_in o i plan = is_some o && nat_lt i (unwrap_or o plan).tasks

either : (g : Dag) (past : Past) (b t : TaskId) (s : Bool) → is_task g past b ≡ true → (s ≡ true → is_task g past t ≡ true) → (same_task b t || s) ≡ true → is_task g past t ≡ true
either g past b t s there ih h = by (same_task b t) refl h where
  by : (x : Bool) → same_task b t ≡ x → (x || s) ≡ true → is_task g past t ≡ true
  by true e k = subst (λ u. is_task g past u ≡ true) (same_task-true b t e) there
  by false e k = ih k

-- a configuration of another vertex, or none before
stays : (same : Bool) (o : Option Config) (i : ℕ) (plan new : Config) → (same ≡ true → o ≡ None) → is_in o i plan ≡ true → is_in (if same then Some new else o) i plan ≡ true
unfolding is_in
stays false o i plan new none h = h
stays true o i plan new none h = let k : is_in None i plan ≡ true = subst (λ x. is_in x i plan ≡ true) (none refl) h in cc

same_config : (past : Past) (v w : ℕ) → config v past ≡ None → (v == w) ≡ true → config w past ≡ None
same_config past v w none e = subst (λ x. config x past ≡ None) (Rattle.std.proofs.lemmas.Bool.eqb-true v w e) none

pub scheduled_is_task : (g : Dag) (c : ConfValues) (past : Past) → IsMade g c past → ScheduledIsTask g past
unfolding is_in
scheduled_is_task g c [] m t h = cc
scheduled_is_task g c (Opened _ ∷ past) m t h = cc
scheduled_is_task g c (Over ∷ past) m t h = cc
scheduled_is_task g c (Stopped _ ∷ past) m t h = cc
scheduled_is_task g c (Kept a ∷ past) m t h = either g past a.task t (is_scheduled t past) m.0.1 (scheduled_is_task g c past m.1 t) h
scheduled_is_task g c (Queued a ∷ past) m t h = either g past a.task t (is_scheduled t past) m.0.3 (scheduled_is_task g c past m.1 t) h
scheduled_is_task g c (Stands v n b ∷ past) m t h =
    stays (v.0 == t.vertex.0) (config t.vertex.0 past) t.index (shape (planned g t.vertex.0) 1) (shape n b) (same_config past v.0 t.vertex.0 m.0.0) (scheduled_is_task g c past m.1 t h)
scheduled_is_task g c (Configured v n b ∷ past) m t h =
    stays (v.0 == t.vertex.0) (config t.vertex.0 past) t.index (shape (planned g t.vertex.0) 1) (shape n b) (same_config past v.0 t.vertex.0 m.0.0) (scheduled_is_task g c past m.1 t h)
scheduled_is_task g c (_ ∷ past) m t h = scheduled_is_task g c past m.1 t h

-- what has a live attempt or a winner was scheduled
pub live_scheduled : (g : Dag) (c : ConfValues) (past : Past) → IsMade g c past → (t : TaskId) (a : AttemptId) → live t past ≡ Some a → is_scheduled t past ≡ true
live_scheduled g c past m t a h = by (is_scheduled t past) refl where
  by : (b : Bool) → is_scheduled t past ≡ b → is_scheduled t past ≡ true
  by true e = e
  by false e = let none : live t past ≡ None = (unscheduled g c past m t e).0 in cc

pub winner_scheduled : (g : Dag) (c : ConfValues) (past : Past) → IsMade g c past → (t : TaskId) (a : AttemptId) → winner t past ≡ Some a → is_scheduled t past ≡ true
winner_scheduled g c past m t a h = by (is_scheduled t past) refl where
  by : (b : Bool) → is_scheduled t past ≡ b → is_scheduled t past ≡ true
  by true e = e
  by false e = let none : winner t past ≡ None = (unscheduled g c past m t e).1 in cc

-- ---- what is configured is a vertex

other_vertex : (g : Dag) (v w : ℕ) (o : Option Config) (s : Config) → is_vertex g v ≡ true → (is_some o ≡ true → is_vertex g w ≡ true) → is_some (if v == w then Some s else o) ≡ true → is_vertex g w ≡ true
other_vertex g v w o s there ih h = by (v == w) refl h where
  by : (b : Bool) → (v == w) ≡ b → is_some (if b then Some s else o) ≡ true → is_vertex g w ≡ true
  by true e k = subst (λ x. is_vertex g x ≡ true) (Rattle.std.proofs.lemmas.Bool.eqb-true v w e) there
  by false e k = ih k

pub configured_is_vertex : (g : Dag) (c : ConfValues) (past : Past) → IsMade g c past → ConfiguredIsVertex g past
configured_is_vertex g c [] m v h = cc
configured_is_vertex g c (Opened _ ∷ past) m v h = cc
configured_is_vertex g c (Over ∷ past) m v h = cc
configured_is_vertex g c (Stands w n b ∷ past) m v h = other_vertex g w.0 v (config v past) (shape n b) m.0.1 (configured_is_vertex g c past m.1 v) h
configured_is_vertex g c (Configured w n b ∷ past) m v h = other_vertex g w.0 v (config v past) (shape n b) m.0.2 (configured_is_vertex g c past m.1 v) h
configured_is_vertex g c (_ ∷ past) m v h = configured_is_vertex g c past m.1 v h
