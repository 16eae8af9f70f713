use Rattle.std.proofs.Common.{◌≡◌, ◌∙◌, ℕ, true, false, cond, None, Some, ap, sym, refl, not, is_ok}
use Rattle.tez_lists.proofs.Tables.{if_same, if_other}
use Rattle.std.specs.Map.{lookup}
use Rattle.slab.specs.Slab.{get}
use Rattle.tez_ids.specs.declared.AttemptId.{AttemptId}
use Rattle.tez_ids.specs.Same.{same_attempt}
use Rattle.tez_ids.proofs.Sameness.{same_attempt-true}
use Rattle.tez_shelves.specs.Shelf.{shelf}
use Rattle.tez_shelves.proofs.ShelfLemmas.{put_shelf, not_its, not_empty, on_ok}
use Rattle.tez_shelves.proofs.shelves.Shelves.put.Goals.{in-Some, in-None+else-is_err+else-is_err-2}
use Rattle.tez_shelves.proofs.shelves.Shelves.put.Goals as goal

pub returns-clause-there : goal.returns-clause-there
returns-clause-there c = elim c.match-place_of.branch [
  | in-Some w ↦ λ b.
      let its : lookup (same_attempt c.args.a) c.self.inside.places.entries ≡ Some w.in-Some.k = sym c.place_of.ensures ∙ w.in-Some.is in
      ap (shelf b) w.self-is
      ∙ put_shelf c.self.inside.slots w.replace.new.slots c.self.inside.places.entries c.self.inside.places.entries c.args.a c.self.invariant
      (λ d other. refl)
      (λ d j other e. w.replace.ensures j ∙ if_other j w.in-Some.k (Some record { attempt = c.args.a; node = c.args.n; pieces = c.args.ps; wanted = false }) (get c.self.inside.slots j) (not_its c.self.inside.slots c.self.inside.places.entries c.args.a d j w.in-Some.k c.self.invariant its other e))
      w.in-Some.k record { attempt = c.args.a; node = c.args.n; pieces = c.args.ps; wanted = false } refl
      (w.replace.ensures w.in-Some.k ∙ if_same w.in-Some.k w.in-Some.k (Some record { attempt = c.args.a; node = c.args.n; pieces = c.args.ps; wanted = false }) (get c.self.inside.slots w.in-Some.k) refl)
      (λ d here. ap (λ x. lookup (same_attempt x) c.self.inside.places.entries) (sym (same_attempt-true c.args.a d here)) ∙ its) b
      ∙ ap (λ v. cond (same_attempt c.args.a b) (Some (c.args.n, c.args.ps)) (shelf b v)) c.self.view_is
  | in-None+else-is_err+else-is_err-2 w ↦ λ b.
      let ok : is_ok w.add_place.result ≡ true = w.is_err-in-None.ensures.negation ∙ ap not w.if-is_err-2.false in
      let placed = on_ok ((d : AttemptId) → lookup (same_attempt d) w.add_place.new.places.entries ≡ cond (same_attempt c.args.a d) (Some w.vacant_key-k.result) (lookup (same_attempt d) c.self.inside.places.entries)) w.add_place.result ok w.add_place.ensures.added in
      let key : w.insert_reserved.result ≡ w.vacant_key-k.result = w.insert_reserved.ensures.key ∙ sym w.vacant_key-k.ensures.value in
      let same : (k : ℕ) → get w.reserve.new.self k ≡ get c.self.inside.slots k = λ k. ap (λ s. get s k) w.reserve.ensures.rest_kept in
      let vacant : get c.self.inside.slots w.insert_reserved.result ≡ None = sym (same w.insert_reserved.result) ∙ w.insert_reserved.ensures.was_vacant in
      ap (shelf b) w.self-is
      ∙ put_shelf c.self.inside.slots w.insert_reserved.new.self c.self.inside.places.entries w.add_place.new.places.entries c.args.a c.self.invariant
      (λ d other. placed d ∙ ap (λ t. cond t (Some w.vacant_key-k.result) (lookup (same_attempt d) c.self.inside.places.entries)) other)
      (λ d j other e. w.insert_reserved.ensures.updates.others j (not_empty c.self.inside.slots c.self.inside.places.entries d j w.insert_reserved.result c.self.invariant vacant e) ∙ same j)
      w.insert_reserved.result record { attempt = c.args.a; node = c.args.n; pieces = c.args.ps; wanted = false } refl
      w.insert_reserved.ensures.updates.changed
      (λ d here. placed d ∙ ap (λ t. cond t (Some w.vacant_key-k.result) (lookup (same_attempt d) c.self.inside.places.entries)) here ∙ ap Some (sym key)) b
      ∙ ap (λ v. cond (same_attempt c.args.a b) (Some (c.args.n, c.args.ps)) (shelf b v)) c.self.view_is
]
