-- The first master of a job.
--     first_past                      the history once it is open
--     first_parts job c texts sums    its parts, with whatever is noted of the sinks
use Rattle.std.specs.Prelude.{ℕ, List, [], ◌∷◌, replicate}
use Rattle.tez_conf.specs.declared.values.ConfValues.{ConfValues}
use Rattle.tez_events.specs.declared.Entry.TheVariants.{Opened}
use Rattle.tez_meaning.specs.Jobs.{Job}
use Rattle.tez_history.specs.Shape.{places}
use Rattle.tez_history.specs.History.{Past}
use Rattle.tez_pool.specs.Table.{new_pool}
use Rattle.tez_master_model.specs.Fresh.{fresh}
use Rattle.tez_inflight.specs.Seats.{Vacant}
use Rattle.tez_world_invariant.specs.Keeping.{Parts}

abbrev pub first_past : Past
first_past = Opened (record { 0 = 1 }) ∷ []

abbrev pub first_parts : Job → ConfValues → List (ℕ × ℕ) → List (ℕ × ℕ) → Parts
first_parts job c texts sums = record {
  master = fresh job.plan c 1 (new_pool c.nodes c.per_node c.reuse);
  seats = replicate (places c) Vacant;
  shelves = [];
  texts = texts;
  sums = sums;
}
