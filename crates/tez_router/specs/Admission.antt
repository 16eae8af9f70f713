-- What admitting an attempt takes: the attempt with its inputs, and for how many admitted attempts there is room.
--     FitsRouter s x      it is of the edges as they are, and the room is enough
use Rattle.std.specs.Prelude.{◌≡◌, ℕ, ◌<◌, length}
use Rattle.tez_router.specs.State.{RouterState, AdmittedState}
use Rattle.tez_router.specs.Table.{blank}

pub record AdmissionState : Type 0 where
  pub blank : AdmittedState
  pub room : ℕ

pub record FitsRouter (s : RouterState) (x : AdmissionState) : Type 0 where
  pub inputs : x.blank ≡ blank s.links x.blank.attempt
  pub room : length s.admitted < x.room
