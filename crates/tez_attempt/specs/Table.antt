-- The table of an attempt: the state to which an event moves it, or None where the event is ignored.
use Rattle.std.specs.Prelude.{Option, Some, None, unwrap_or, is_some, if◌then◌else◌}
use Rattle.tez_attempt.specs.declared.AttemptState.{AttemptState}
use Rattle.tez_attempt.specs.declared.AttemptState.TheVariants.{Queued, Placed, Processing, Succeeded, Failed, Killed}
use Rattle.tez_attempt.specs.declared.AttemptEvent.{AttemptEvent}
use Rattle.tez_attempt.specs.declared.AttemptEvent.TheVariants.{Place, Send, Succeed, Fail, Kill}
use Rattle.tez_attempt.specs.declared.AttemptTook.{AttemptTook}
use Rattle.tez_attempt.specs.declared.AttemptTook.TheVariants.{Moved, Ignored}

abbrev pub moved_to : AttemptState → AttemptEvent → Option AttemptState
moved_to Queued Place = Some Placed
moved_to Placed Send = Some Processing
moved_to Processing Succeed = Some Succeeded
moved_to Processing Fail = Some Failed
moved_to Queued Kill = Some Killed
moved_to Placed Kill = Some Killed
moved_to Processing Kill = Some Killed
moved_to state event = None

abbrev pub attempt_after : AttemptState → AttemptEvent → AttemptState
attempt_after s e = unwrap_or (moved_to s e) s

abbrev pub attempt_took : AttemptState → AttemptEvent → AttemptTook
attempt_took s e = if is_some (moved_to s e) then Moved else Ignored
