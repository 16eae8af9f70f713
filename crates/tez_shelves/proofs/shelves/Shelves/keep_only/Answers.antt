use Rattle.std.proofs.Common.{ap, ◌∙◌}
use Rattle.std.specs.List.{list_any}
use Rattle.tez_ids.specs.declared.AttemptId.{AttemptId}
use Rattle.tez_ids.specs.Same.{same_attempt}
use Rattle.tez_shelves.specs.declared.slots.Shelved.{Shelved}
use Rattle.tez_shelves.specs.Shelf.{kept_if, shelf}
use Rattle.tez_shelves.proofs.ShelfLemmas.{kept_shelf, kept_by}
use Rattle.tez_shelves.proofs.WantLemmas.{marked_held, marked_shelved, marked_tests}
use Rattle.tez_shelves.proofs.shelves.Shelves.keep_only.Goals as goal

pub returns : goal.returns
returns c = λ b.
    let among = λ (a : AttemptId). list_any (same_attempt a) c.args.attempts.now in
    let was = c.self.inside.places.entries in
    let old = c.self.inside.slots in
    let marks = c.want_only.new.slots in
    kept_shelf marks c.keep_wanted.new.slots was c.keep_placed.new.places.entries
    (λ (s : Shelved). s.wanted) (λ a at. among a) (marked_tests old marks among c.want_only.ensures)
    (marked_held old marks (λ s. among s.attempt) c.want_only.ensures was c.self.invariant)
    c.keep_wanted.ensures c.keep_placed.ensures b
    ∙ ap (λ v. kept_if (λ at. among b) (shelf b v))
    (marked_shelved old marks (λ s. among s.attempt) c.want_only.ensures was ∙ c.self.view_is)
    ∙ kept_by (among b) (shelf b c.args.self.now)
