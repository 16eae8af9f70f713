-- What the pool has to be after a history.
--     pool_view c past          the whole pool: its places, the lives of the nodes, and the next container number
--     standing s                the place where an attempt of this stage stands, and whether its order went out
--     place_for xs p            the first of these attempts gets this place, if there is one
--     IsLeastQueued g past d    d is the least depth of a queued attempt
--     IsWholeAtCommit g past    from the commit on every task has a winner
use Rattle.std.specs.Prelude.{◌≡◌, ◌≤◌, ℕ, Bool, true, false, List, [], ◌∷◌, map, Option, Some, None}
use Rattle.std.specs.Option.{option_map}
use Rattle.tez_ids.specs.declared.AttemptId.{AttemptId}
use Rattle.tez_lists.specs.Numbers.{In}
use Rattle.tez_plan.specs.Dag.{Dag}
use Rattle.tez_conf.specs.declared.values.ConfValues.{ConfValues}
use Rattle.tez_events.specs.declared.CoreEvent.{CoreEvent}
use Rattle.tez_events.specs.declared.CoreEvent.TheVariants.{Place as GivePlace}
use Rattle.tez_history.specs.Shape.{numbers_below, places}
use Rattle.tez_history.specs.History.{Past, Stage, Unknown, InQueue, Waits, Runs, Ended, stage, holder, container_of, next_container, life, is_up, is_committing, is_readied}
use Rattle.tez_history.specs.Derived.{is_processing, queued_attempts, all_done}
use Rattle.tez_history.specs.Steps.{is_running}
use Rattle.tez_pool.specs.declared.place.Held.{Held}
use Rattle.tez_pool.specs.declared.place.Place.{Place}
use Rattle.tez_pool.specs.State.{PoolState}
use Rattle.tez_pool.specs.Victim.{depth_of}

-- the order of a holder went out, once it is processing
abbrev pub held_by : Past → Option AttemptId → Option Held
held_by past None = None
held_by past (Some a) = Some (record { attempt = a; sent = is_processing (stage a past) })

abbrev pub place_view : ConfValues → Past → ℕ → Place
place_view c past p = record { holder = held_by past (holder p past); container = record { 0 = container_of c p past } }

abbrev pub pool_view : ConfValues → Past → PoolState
pool_view c past = record {
  places = map (place_view c past) (numbers_below (places c));
  lives = map (λ slot. life slot past) (numbers_below c.nodes);
  next = next_container c past;
  per_node = c.per_node;
  reuse = c.reuse;
}

abbrev pub standing : Stage → Option (ℕ × Bool)
standing (Waits p) = Some (p, false)
standing (Runs p) = Some (p, true)
standing Unknown = None
standing InQueue = None
standing Ended = None

pub record IsLeastQueued (g : Dag) (past : Past) (d : ℕ) : Type 0 where
  pub some : (a : AttemptId) × In a (queued_attempts g past) × (depth_of g a ≡ d)
  pub least : (a : AttemptId) → In a (queued_attempts g past) → d ≤ depth_of g a

-- once the commit has started, and before that once a sink is readied
pub record IsWholeAtCommit (g : Dag) (past : Past) : Type 0 where
  pub committing : is_up past ≡ true → is_committing past ≡ true → all_done g past ≡ true
  pub readied : (v : ℕ) → is_running past ≡ true → is_readied v past ≡ true → all_done g past ≡ true

-- the place that the first of some attempts gets
abbrev pub place_for : List AttemptId → Option ℕ → Option CoreEvent
place_for [] p = None
place_for (a ∷ rest) p = option_map (GivePlace a) p
