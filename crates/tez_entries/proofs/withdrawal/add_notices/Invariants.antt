use Rattle.std.proofs.Common.{◌≡◌, ◌++◌, take, map}
use Rattle.tez_master_model.specs.Entries.{notice_entry}
use Rattle.tez_entries.proofs.withdrawal.add_notices.Given as goal

abbrev pub invariant-loop-notice : goal.invariant-loop-notice
invariant-loop-notice l = l.entries.items ≡ l.fn.entries.items ++ map notice_entry (take l.notice-index l.notices)
