-- What a clause sees of a desk: for each place the attempts that were put, those whose reports were got, and the attempts that the dispatcher worked.
use Rattle.std.specs.Prelude.{◌⊎◌, ◌≡◌, ◌≢◌, ℕ, List, [], ◌∷◌, ◌++◌, ◌<◌, ◌≤◌, map, length, slice_index_or}
use Rattle.crossbeam_queue.specs.Passes.{view}
use Rattle.tez_ids.specs.declared.AttemptId.{AttemptId}
use Rattle.tez_crew.specs.declared.desk.Desk.{Desk}
use Rattle.tez_crew.specs.declared.place_handle.PlaceHandle.{PlaceHandle}
use Rattle.tez_crew.specs.Starts.{IsRunning}
use Rattle.tez_crew.specs.Events.{of}

-- x is added to the list of one place
abbrev pub Adds : ℕ → AttemptId → (ℕ → List AttemptId) → (ℕ → List AttemptId) → Type 0
Adds place x before after = (after place ≡ before place ++ x ∷ []) × ((p : ℕ) → p ≢ place → after p ≡ before p)

abbrev pub puts_of : List PlaceHandle → List (List AttemptId)
puts_of handles = map (λ l. l.put.items) handles

module _ {G R : Type 0} where
  abbrev pub places : Desk G R → ℕ
  places desk = length desk.handles.items

  abbrev pub put_at : Desk G R → ℕ → List AttemptId
  put_at desk p = slice_index_or (puts_of desk.handles.items) p []

  abbrev pub got_at : Desk G R → ℕ → List AttemptId
  got_at desk p = of p (view desk.seen).got

  abbrev pub own_of : Desk G R → List AttemptId
  own_of desk = desk.own.items

  -- a place of the desk whose container runs
  abbrev pub IsRunningAt : Desk G R → ℕ → Type 0
  IsRunningAt desk p = (p < places desk) × ((d : PlaceHandle) → IsRunning (slice_index_or desk.handles.items p d).start)

  -- at least 64 orders were put to the place, or no container runs there
  abbrev pub MayBeOwn : Desk G R → ℕ → Type 0
  MayBeOwn desk p = (64 ≤ length (put_at desk p)) ⊎ (¬ (IsRunningAt desk p))
