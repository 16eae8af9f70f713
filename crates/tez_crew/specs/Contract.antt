-- What a crew's book says of what its dispatcher got.
use Rattle.std.specs.Prelude.{◌≡◌, ℕ, ◌<◌, List, [], ◌++◌, length, slice_index_or, take}
use Rattle.tez_ids.specs.declared.AttemptId.{AttemptId}
use Rattle.tez_crew.specs.declared.book.PlaceRecord.{PlaceRecord}
use Rattle.tez_crew.specs.Books.{taken_of}
use Rattle.tez_crew.specs.Lists.{Begins}

-- what was gained is a first part of the orders that were taken
unfoldable pub KeepsBook : List AttemptId → List AttemptId → ℕ → List AttemptId → Type 0
KeepsBook before after taken put = (more : List AttemptId) × (after ≡ before ++ more) × Begins more (take taken put)

-- what each container reported is a first part of what it took
abbrev pub Reports : List (List AttemptId) → List PlaceRecord → Type 0
Reports known rows = (length known ≡ length rows) × ((p : ℕ) → p < length rows → Begins (slice_index_or known p []) (taken_of rows p))
