-- What holds of a world whose master is up: its parts are what its history says.
--     Parts                           the master's state, the seats, the shelves, and the noted records and bytes of sinks
--     sum_of job v                    the records and bytes of a sink
--     TextsAreRight job past texts    of each sink that counts as readied its records and bytes are noted
--     most_entries                    a trace is shorter than this
--     Holds job c ps past             all that holds of the parts
use Rattle.std.specs.Prelude.{◌≡◌, ℕ, ◌<◌, Bool, true, false, List, length, slice_get, Some}
use Rattle.tez_ids.specs.declared.AttemptId.{AttemptId}
use Rattle.tez_ids.specs.declared.NodeId.{NodeId}
use Rattle.tez_conf.specs.declared.values.ConfValues.{ConfValues}
use Rattle.tez_events.specs.declared.Entry.{Entry}
use Rattle.tez_events.specs.declared.Entry.TheVariants.{Stopped}
use Rattle.tez_meaning.specs.Jobs.{Job}
use Rattle.tez_meaning.specs.Value.{value, sink_text, sums}
use Rattle.tez_history.specs.Shape.{has_sink}
use Rattle.tez_history.specs.History.{Past, is_up, is_readied, is_committing}
use Rattle.tez_contents.specs.Laws.{HasNone, is_kept}
use Rattle.tez_master_model.specs.State.{MasterState}
use Rattle.tez_master_view.specs.View.{master_view}
use Rattle.tez_master_view.specs.Laws.{Goes}
use Rattle.tez_inflight.specs.Seats.{Seat}
use Rattle.tez_work_view.specs.Holdings.{Pieces, seats_view, IsShelved}
use Rattle.tez_sinks.specs.Sinks.{WinnersAreGood, is_over}
use Rattle.tez_sinks.specs.Well.{IsWell}

pub record Parts : Type 0 where
  pub master : MasterState
  pub seats : List Seat
  pub shelves : List (AttemptId × (NodeId × Pieces))
  pub texts : List (ℕ × ℕ)
  pub sums : List (ℕ × ℕ)

abbrev pub sum_of : Job → ℕ → ℕ × ℕ
sum_of job v = (length (value job v), length (sink_text job v))

abbrev pub TextsAreRight : Job → Past → List (ℕ × ℕ) → Type 0
TextsAreRight job past texts = (v : ℕ) → has_sink job.plan v ≡ true → is_readied v past ≡ true → slice_get texts v ≡ Some (sum_of job v)

abbrev pub is_stop : Entry → Bool
is_stop (Stopped cause) = true
is_stop _ = false

-- far more than memory holds; so the numbers of attempts, lives and containers stay in their ranges
abbrev pub most_entries : ℕ
most_entries = 2305843009213693952

pub record Holds (job : Job) (c : ConfValues) (ps : Parts) (past : Past) : Type 0 where
  pub goes : Goes job.plan c past
  pub well : IsWell job c past
  pub up : is_up past ≡ true
  pub none_kept : HasNone is_kept past
  pub none_over : HasNone is_over past
  pub none_stopped : HasNone is_stop past
  pub short : length past < most_entries
  pub master : ps.master ≡ master_view job.plan c past
  pub seats : ps.seats ≡ seats_view job c past
  pub shelves : IsShelved job c past ps.shelves
  pub good : WinnersAreGood job past
  pub texts : TextsAreRight job past ps.texts
  pub rows : length ps.texts ≡ length job.plan.vertices
  pub sums : is_committing past ≡ true → ps.sums ≡ sums job
