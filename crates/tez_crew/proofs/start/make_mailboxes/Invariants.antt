use Rattle.std.proofs.Common.{◌≡◌, length}
use Rattle.tez_crew.specs.PreparedPlaces.{IsPrepared}
use Rattle.tez_crew.proofs.start.make_mailboxes.Given as goal

abbrev pub invariant-loop-place : goal.invariant-loop-place
invariant-loop-place l = (length l.mailboxes.items ≡ l.place) × (length l.prepared_places.items ≡ l.place) × IsPrepared l.mailboxes.items l.prepared_places.items
