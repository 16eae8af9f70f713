use Rattle.std.proofs.Common.{◌≡◌, take, map}
use Rattle.tez_inflight.specs.Seats.{number, numbered, nothing_over}
use Rattle.tez_inflight.proofs.parts.no_parts.Given as goal

abbrev pub invariant-loop-edge : goal.invariant-loop-edge
invariant-loop-edge l = map numbered l.parts.items ≡ map nothing_over (map number (take l.edge-index l.edges))
