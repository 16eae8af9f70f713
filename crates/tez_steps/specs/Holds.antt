-- A running master and its parts.
--     parts_of r                       the parts of a running master
--     Holds job c ps past              what holds of them, whatever is noted of the sinks
--     notes_of                         what is noted of the sinks
use Rattle.std.specs.Prelude.{ℕ, List, map}
use Rattle.tez_conf.specs.declared.values.ConfValues.{ConfValues}
use Rattle.tez_meaning.specs.Jobs.{Job}
use Rattle.tez_meaning.specs.Value.{sums}
use Rattle.tez_history.specs.Shape.{vertices}
use Rattle.tez_history.specs.History.{Past}
use Rattle.tez_world_invariant.specs.Keeping.{Parts, Holds as HoldsNoted, sum_of}
use Rattle.tez_steps.specs.declared.running.Running.{Running}
use Rattle.tez_steps.specs.Step.{Notes}

abbrev pub parts_of : Running → Parts
parts_of r = record { master = r.master.state; seats = r.seats.seats; shelves = r.shelves; texts = r.texts.items; sums = r.sums.items }

-- the records and bytes of the sinks are what they are to be
abbrev pub right_texts : Job → List (ℕ × ℕ)
right_texts job = map (sum_of job) (vertices job.plan)

abbrev pub with_right_notes : Job → Parts → Parts
with_right_notes job ps = record { master = ps.master; seats = ps.seats; shelves = ps.shelves; texts = right_texts job; sums = sums job }

-- what is noted of the sinks is not in it: it comes from the store, which may not tell
abbrev pub Holds : Job → ConfValues → Parts → Past → Type 0
Holds job c ps past = HoldsNoted job c (with_right_notes job ps) past

abbrev pub notes_of : Running → Notes
notes_of r = record { texts = r.texts.items; sums = r.sums.items }
