-- A step of a world whose master takes an event.
--     later job c past e            the history after the event
--     stepped ps e seats shelves    the parts after it, with these seats and shelves
--     IsPlain e                     an event of a master that readies no sink, starts no commit and purges nothing
--     is_purge e                    the event is the purge
--     left m seats a                       attempt a has left its place
--     fetched m shelves seats a n i        it has gathered the piece behind input i over edge n, where that is on a shelf
use Rattle.std.specs.Prelude.{ℕ, ⊤, Bool, true, false, List, Option, Some, None}
use Rattle.std.specs.Option.{option_map_or}
use Rattle.tez_ids.specs.declared.AttemptId.{AttemptId}
use Rattle.tez_ids.specs.declared.NodeId.{NodeId}
use Rattle.tez_plan.specs.Dag.{edge}
use Rattle.tez_conf.specs.declared.values.ConfValues.{ConfValues}
use Rattle.tez_events.specs.declared.CoreEvent.{CoreEvent}
use Rattle.tez_events.specs.declared.CoreEvent.TheVariants.{Open, Configure, Queue, Place, Fetch, Send, Preempt, Fail, LoseNode, LoseOutput, Restart, Ready, CommitStart, Ask, Publish, Finish, Purge}
use Rattle.tez_meaning.specs.Jobs.{Job}
use Rattle.tez_history.specs.History.{Past, extend}
use Rattle.tez_history.specs.Steps.{entries_of}
use Rattle.tez_pool.specs.Table.{place_held}
use Rattle.tez_shelves.specs.Shelf.{piece_of}
use Rattle.tez_master_model.specs.State.{MasterState}
use Rattle.tez_master_model.specs.Read.{piece_in}
use Rattle.tez_master_model.specs.Settled.{settled}
use Rattle.tez_inflight.specs.Seats.{Seat, SeatsState, Records, after_leave, after_gather}
use Rattle.tez_work_view.specs.Holdings.{Pieces}
use Rattle.tez_world_invariant.specs.Keeping.{Parts}

abbrev pub later : Job → ConfValues → Past → CoreEvent → Past
later job c past e = extend past (entries_of job.plan c past e)

abbrev pub stepped : Parts → CoreEvent → List Seat → List (AttemptId × (NodeId × Pieces)) → Parts
stepped ps e seats shelves = record { master = settled ps.master e; seats = seats; shelves = shelves; texts = ps.texts; sums = ps.sums }

abbrev pub IsPlain : CoreEvent → Type 0
IsPlain Open = ⊥
IsPlain (Configure v) = ⊤
IsPlain (Queue t) = ⊤
IsPlain (Place a p) = ⊤
IsPlain (Fetch a e i) = ⊤
IsPlain (Send a) = ⊤
IsPlain (Preempt a) = ⊤
IsPlain (Fail a) = ⊤
IsPlain (LoseNode slot) = ⊤
IsPlain (LoseOutput t) = ⊤
IsPlain Restart = ⊥
IsPlain (Ready v) = ⊥
IsPlain CommitStart = ⊥
IsPlain (Ask v) = ⊥
IsPlain (Publish v) = ⊤
IsPlain Finish = ⊤
IsPlain Purge = ⊥

abbrev pub is_purge : CoreEvent → Bool
is_purge Open = false
is_purge (Configure v) = false
is_purge (Queue t) = false
is_purge (Place a p) = false
is_purge (Fetch a e i) = false
is_purge (Send a) = false
is_purge (Preempt a) = false
is_purge (Fail a) = false
is_purge (LoseNode slot) = false
is_purge (LoseOutput t) = false
is_purge Restart = false
is_purge (Ready v) = false
is_purge CommitStart = false
is_purge (Ask v) = false
is_purge (Publish v) = false
is_purge Finish = false
is_purge Purge = true

-- ---- seats, from what the master and the shelves tell

abbrev pub left : MasterState → SeatsState → AttemptId → SeatsState
left m seats a = option_map_or (after_leave seats) (place_held m.pool.places a) seats

abbrev pub gathered_at : SeatsState → Option ℕ → ℕ → Option Records → SeatsState
gathered_at seats None n rs = seats
gathered_at seats (Some p) n None = seats
gathered_at seats (Some p) n (Some rs) = after_gather seats p n rs

abbrev pub fetched_by : MasterState → List (AttemptId × (NodeId × Pieces)) → SeatsState → AttemptId → ℕ → Option (AttemptId × ℕ) → SeatsState
fetched_by m shelves seats a n None = seats
fetched_by m shelves seats a n (Some w) = gathered_at seats (place_held m.pool.places a) n (piece_of shelves w.0 (edge n) w.1)

abbrev pub fetched : MasterState → List (AttemptId × (NodeId × Pieces)) → SeatsState → AttemptId → ℕ → ℕ → SeatsState
fetched m shelves seats a n i = fetched_by m shelves seats a n (piece_in m a n i)
