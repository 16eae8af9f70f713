-- The lines of a withdrawal, from the notices that it sends.
--     withdrawal_by m notices w     the winner w is withdrawn: these are told, and its task is queued again
--     lost_withdrawal m held w      a winner that is lost with a node is withdrawn, and who held a place there is told nothing
--     lost_withdrawals m held lost  so are all of these
use Rattle.std.specs.Prelude.{List, ◌∷◌, ◌++◌, map}
use Rattle.std.specs.List.{flat_map}
use Rattle.tez_ids.specs.declared.AttemptId.{AttemptId}
use Rattle.tez_events.specs.declared.Entry.{Entry}
use Rattle.tez_events.specs.declared.Entry.TheVariants.{Rerun}
use Rattle.tez_router.specs.declared.notice.Notice.{Notice}
use Rattle.tez_router.specs.Table.{without}
use Rattle.tez_master_model.specs.State.{MasterState}
use Rattle.tez_master_model.specs.Entries.{notice_entry, requeue_in, withdrawal_in}

abbrev pub withdrawal_by : MasterState → List Notice → AttemptId → List Entry
withdrawal_by m notices w = Rerun w ∷ (map notice_entry notices ++ requeue_in m w.task)

abbrev pub lost_withdrawal : MasterState → List AttemptId → AttemptId → List Entry
lost_withdrawal m held w = withdrawal_in m (without m.router held) w

abbrev pub lost_withdrawals : MasterState → List AttemptId → List AttemptId → List Entry
lost_withdrawals m held lost = flat_map (withdrawal_in m (without m.router held)) lost
