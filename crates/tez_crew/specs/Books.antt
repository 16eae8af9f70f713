-- What a clause sees of a crew's book.
use Rattle.std.specs.Prelude.{ℕ, List, [], length, map, slice_index_or, take}
use Rattle.tez_ids.specs.declared.AttemptId.{AttemptId}
use Rattle.tez_crew.specs.declared.book.CrewBook.{CrewBook}
use Rattle.tez_crew.specs.declared.book.PlaceRecord.{PlaceRecord}

abbrev pub rows_put : List PlaceRecord → List (List AttemptId)
rows_put rows = map (λ r. r.put.items) rows

abbrev pub rows_taken : List PlaceRecord → List ℕ
rows_taken rows = map (λ r. r.taken) rows

abbrev pub book_places : CrewBook → ℕ
book_places b = length b.rows.items

abbrev pub book_put : CrewBook → ℕ → List AttemptId
book_put b p = slice_index_or (rows_put b.rows.items) p []

abbrev pub book_taken : CrewBook → ℕ → ℕ
book_taken b p = slice_index_or (rows_taken b.rows.items) p 0

abbrev pub book_own : CrewBook → List AttemptId
book_own b = b.own.items

-- what was taken at a place
abbrev pub row_taken : PlaceRecord → List AttemptId
row_taken r = take r.taken r.put.items

abbrev pub taken_of : List PlaceRecord → ℕ → List AttemptId
taken_of rows p = take (slice_index_or (rows_taken rows) p 0) (slice_index_or (rows_put rows) p [])
