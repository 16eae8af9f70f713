-- The commit of a sink.
--     winners_in m v      the winners of the tasks of a vertex, in order
--     sum_in records      how many records there are, and how many bytes their text has
use Rattle.std.specs.Prelude.{ℕ, List, length}
use Rattle.std.specs.List.{filter_map}
use Rattle.tez_ids.specs.declared.AttemptId.{AttemptId}
use Rattle.tez_ids.specs.Same.{task}
use Rattle.tez_record.specs.Bag.{text}
use Rattle.tez_history.specs.Shape.{numbers_below}
use Rattle.tez_schedule.specs.Table.{progress_at}
use Rattle.tez_master_model.specs.State.{MasterState}
use Rattle.tez_master_model.specs.Read.{winner_in}

abbrev pub winners_in : MasterState → ℕ → List AttemptId
winners_in m v = filter_map (λ i. winner_in m (task v i)) (numbers_below (progress_at m.schedule v).1)

abbrev pub sum_in : List (List ℕ) → ℕ × ℕ
sum_in records = (length records, length (text records))
