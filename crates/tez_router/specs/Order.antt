-- The order of admitted attempts, and where one stands.
--     AreInOrder xs        each is at a task before those of all that follow
--     IsPlaceOf xs t at    those below this place are at tasks before t, the others are not
--     IsEndOf xs v at      those below this place are at vertices up to v, the others are not
--     IsOnly xs a at       the attempt stands at this place, and at no other
--     IsNowhere xs a       it is not among them
use Rattle.std.specs.Prelude.{◌≡◌, ◌≢◌, ℕ, ◌<◌, ◌≤◌, true, false, ⊤, List, [], ◌∷◌, length, slice_index_or}
use Rattle.std.specs.List.{AllByRecursion}
use Rattle.tez_ids.specs.declared.TaskId.{TaskId}
use Rattle.tez_ids.specs.declared.AttemptId.{AttemptId}
use Rattle.tez_ids.specs.Same.{same_task, same_attempt}
use Rattle.tez_router.specs.State.{AdmittedState}
use Rattle.tez_router.specs.Table.{before}

abbrev pub AreInOrder : List AdmittedState → Type 0
AreInOrder [] = ⊤
AreInOrder (x ∷ xs) = AllByRecursion (λ y. before x.attempt.task y.attempt.task ≡ true) xs × AreInOrder xs

pub record IsPlaceOf (xs : List AdmittedState) (t : TaskId) (at : ℕ) : Type 0 where
  pub below : (k : ℕ) (d : AdmittedState) → k < at → before (slice_index_or xs k d).attempt.task t ≡ true
  pub above : (k : ℕ) (d : AdmittedState) → at ≤ k → k < length xs → before (slice_index_or xs k d).attempt.task t ≡ false

pub record IsEndOf (xs : List AdmittedState) (v at : ℕ) : Type 0 where
  pub below : (k : ℕ) (d : AdmittedState) → k < at → (slice_index_or xs k d).attempt.task.vertex.0 ≤ v
  pub above : (k : ℕ) (d : AdmittedState) → at ≤ k → k < length xs → v < (slice_index_or xs k d).attempt.task.vertex.0

-- the attempt stands at this place, or not; so does one of the task, or not
abbrev pub IsAt : List AdmittedState → AttemptId → ℕ → Type 0
IsAt xs a at = (d : AdmittedState) → (at < length xs) × (same_attempt (slice_index_or xs at d).attempt a ≡ true)

abbrev pub IsNotAt : List AdmittedState → AttemptId → ℕ → Type 0
IsNotAt xs a at = (d : AdmittedState) → at < length xs → same_attempt (slice_index_or xs at d).attempt a ≡ false

abbrev pub IsTaskAt : List AdmittedState → TaskId → ℕ → Type 0
IsTaskAt xs t at = (d : AdmittedState) → (at < length xs) × (same_task (slice_index_or xs at d).attempt.task t ≡ true)

abbrev pub IsNotTaskAt : List AdmittedState → TaskId → ℕ → Type 0
IsNotTaskAt xs t at = (d : AdmittedState) → at < length xs → same_task (slice_index_or xs at d).attempt.task t ≡ false

pub record IsOnly (xs : List AdmittedState) (a : AttemptId) (at : ℕ) : Type 0 where
  pub inside : at < length xs
  pub there : (d : AdmittedState) → same_attempt (slice_index_or xs at d).attempt a ≡ true
  pub other : (k : ℕ) (d : AdmittedState) → k ≢ at → k < length xs → same_attempt (slice_index_or xs k d).attempt a ≡ false

abbrev pub IsNowhere : List AdmittedState → AttemptId → Type 0
IsNowhere xs a = AllByRecursion (λ x. same_attempt x.attempt a ≡ false) xs
