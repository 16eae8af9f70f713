-- Rules that hold at an entry which may follow, and so in every history that is made.
use Rattle.std.specs.Prelude.{◌≡◌, ℕ, ◌<◌, ◌==◌, ◌&&◌, not, nat_lt, Bool, true, false, [], ◌∷◌, length, Option, Some, None, is_none, is_some, refl}
use Rattle.std.proofs.Common.{lt-ltb, eq-eqb, ap, sym, ◌∙◌, subst}
use Rattle.tez_ids.specs.declared.AttemptId.{AttemptId}
use Rattle.tez_plan.specs.Dag.{Dag}
use Rattle.tez_conf.specs.declared.values.ConfValues.{ConfValues}
use Rattle.tez_vman.specs.declared.seen.Config.{Config}
use Rattle.tez_vman.specs.Rules.{config as shape}
use Rattle.tez_events.specs.declared.KillCause.TheVariants.{Node, Preempt}
use Rattle.tez_events.specs.declared.Entry.{Entry}
use Rattle.tez_events.specs.declared.Entry.TheVariants.{Stands, Configured, Placed, Fetched, ReadError, Ordered, Succeeded, Failed, Killed, NodeLost, Committing, Ready, Asked, Settled, Published, CommitStarted, Finished, Purged}
use Rattle.tez_history.specs.Shape.{places, vertices}
use Rattle.tez_history.specs.History.{Past, Stage, InQueue, stage, holder, container_of, config}
use Rattle.tez_history.specs.Derived.{Input, is_queued, is_configured, is_vertex_done, all_done, winners_of, task_count, configures}
use Rattle.tez_history.specs.Steps.{input_at, winner_of_input, winner_behind}
use Rattle.tez_history.specs.Rules.{has_input, places_right, commit_right, is_config, all_won}
use Rattle.tez_history.specs.Follows.{IsAlive, MayFollow, IsMade}
use Rattle.tez_laws.specs.Laws.{Obeys, configured_right}
use Rattle.tez_laws.proofs.OneLive.{waiting_alive, running_alive}
use Rattle.tez_laws.proofs.StepLaw.{both}
use Rattle.tez_laws.proofs.Opening.{all_hold, alive_there}
use Rattle.tez_laws.proofs.Sinks.{sink_is_vertex, all_less}
use Rattle.tez_laws.proofs.Counting.{open_same, ready_sink, committing_right, asked_right, settled_right, published_right, finished_right}

pub obeys : (rule : Dag → ConfValues → Past → Entry → Bool) → ((g : Dag) (c : ConfValues) (past : Past) (e : Entry) → IsMade g c past → MayFollow g c past e → rule g c past e ≡ true)
    → (g : Dag) (c : ConfValues) (past : Past) → IsMade g c past → Obeys rule g c past
obeys rule follow g c [] m = tt
obeys rule follow g c (e ∷ past) m = (follow g c past e m.1 m.0, obeys rule follow g c past m.1)

turned : (x : Bool) → x ≡ false → not x ≡ true
turned true e = cc
turned false e = refl

-- ---- places

placed_right : (s : Stage) (h : Option AttemptId) (p n k x : ℕ) → s ≡ InQueue → h ≡ None → p < n → k ≡ x → is_queued s && (nat_lt p n && (is_none h && (k == x))) ≡ true
placed_right s h p n k x queued free there same =
    all_hold (is_queued s) (nat_lt p n && (is_none h && (k == x))) (ap is_queued queued)
    (all_hold (nat_lt p n) (is_none h && (k == x)) (lt-ltb p n there) (all_hold (is_none h) (k == x) (ap is_none free) (eq-eqb k x same)))

-- an input with a winner behind it is there
input_there : (g : Dag) (past : Past) (a : AttemptId) (e i : ℕ) (w : AttemptId) → winner_behind g past a e i ≡ Some w → has_input g past a e i ≡ true
input_there g past a e i w h = by (input_at g past a e i) h where
  by : (o : Option Input) → winner_of_input g past a o ≡ Some w → is_some o ≡ true
  by None k = cc
  by (Some x) k = refl

places_follow : (g : Dag) (c : ConfValues) (past : Past) (e : Entry) → IsMade g c past → MayFollow g c past e → places_right g c past e ≡ true
places_follow g c past (Placed a k p) made m =
    all_hold _ _ (alive_there g c past a made (subst IsAlive (sym m.0) tt)) (placed_right (stage a past) (holder p past) p (places c) k.0 (container_of c p past) m.0 m.1 m.2 m.3)
places_follow g c past (Fetched a e i w) made m = all_hold _ _ (alive_there g c past a made (waiting_alive (stage a past) m.0)) m.0
places_follow g c past (ReadError a e i w) made m =
    all_hold _ _ (alive_there g c past a made (waiting_alive (stage a past) m.0)) (all_hold _ _ m.0 (input_there g past a e.0 i w m.2))
places_follow g c past (Ordered a) made m = all_hold _ _ (alive_there g c past a made (waiting_alive (stage a past) m.0)) m.0
places_follow g c past (Succeeded a) made m = all_hold _ _ (alive_there g c past a made (running_alive (stage a past) m)) m
places_follow g c past (Failed a) made m = all_hold _ _ (alive_there g c past a made (running_alive (stage a past) m)) m
places_follow g c past (Killed a Preempt) made m =
    all_hold _ _ (alive_there g c past a made (waiting_alive (stage a past) m.0)) (all_hold _ _ m.0 (all_hold _ _ (turned _ m.1) m.2))
places_follow g c past (Killed a Node) made m = refl
places_follow g c past (NodeLost slot l) made m = lt-ltb slot c.nodes m.0
places_follow g c past _ made m = refl

pub places_obeyed : (g : Dag) (c : ConfValues) (past : Past) → IsMade g c past → Obeys places_right g c past
places_obeyed = obeys places_right places_follow

-- ---- configurations

config_right : (o p : Option Config) (tasks base : ℕ) → o ≡ None → p ≡ Some (shape tasks base) → is_none o && is_config tasks base p ≡ true
config_right o p tasks base free found =
    all_hold (is_none o) (is_config tasks base p) (ap is_none free)
    (ap (is_config tasks base) found ∙ all_hold (tasks == tasks) (base == base) (eq-eqb tasks tasks refl) (eq-eqb base base refl))

configs_follow : (g : Dag) (c : ConfValues) (past : Past) (e : Entry) → IsMade g c past → MayFollow g c past e → configured_right g c past e ≡ true
configs_follow g c past (Configured v tasks base) made m = all_hold _ _ m.2 (config_right (config v.0 past) (configures g c v.0 past) tasks base m.0 m.1)
configs_follow g c past (Stands v tasks base) made m = all_hold _ _ m.1 (ap is_none m.0)
configs_follow g c past _ made m = refl

pub configs_obeyed : (g : Dag) (c : ConfValues) (past : Past) → IsMade g c past → Obeys configured_right g c past
configs_obeyed = obeys configured_right configs_follow

-- ---- the commit

won_all : (g : Dag) (past : Past) → all_done g past ≡ true → all_won g past ≡ true
won_all g past h =
    all_less (λ v. is_vertex_done g v past) (λ v. length (winners_of v (task_count g v past) past) == task_count g v past) (vertices g) (λ v k. (both {x = is_configured v past} k).1) h

commit_follow : (g : Dag) (c : ConfValues) (past : Past) (e : Entry) → IsMade g c past → MayFollow g c past e → commit_right g c past e ≡ true
commit_follow g c past (Committing n) made m = all_hold _ _ m.0 (committing_right g c past n made m.1)
commit_follow g c past (Ready v) made m = all_hold _ _ (sink_is_vertex g v.0 (ready_sink g past v.0 m.1)) (won_all g past m.0)
commit_follow g c past (Asked v) made m = asked_right g c past v.0 made m.0 m.1
commit_follow g c past (Settled v) made m = settled_right g c past v.0 made m.0 m.1
commit_follow g c past CommitStarted made m = m.1
commit_follow g c past (Published v) made m = published_right g c past v.0 made m
commit_follow g c past Finished made m = all_hold _ _ (open_same g c past made ∙ m.0) (finished_right g past m.1)
commit_follow g c past Purged made m = m.0
commit_follow g c past _ made m = refl

pub commit_obeyed : (g : Dag) (c : ConfValues) (past : Past) → IsMade g c past → Obeys commit_right g c past
commit_obeyed = obeys commit_right commit_follow
