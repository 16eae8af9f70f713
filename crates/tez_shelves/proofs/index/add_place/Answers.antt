use Rattle.std.proofs.Common.{◌∙◌, cond, Some, ap, sym}
use Rattle.std.specs.Ordering.{is_eq}
use Rattle.std.specs.Map.{lookup}
use Rattle.tez_ids.specs.Same.{same_attempt}
use Rattle.tez_shelves.proofs.IndexLemmas.{order, tied, lookup_same}
use Rattle.tez_shelves.proofs.index.add_place.Goals as goal

pub returns-clause-added : goal.returns-clause-added
returns-clause-added c = λ b.
    sym (lookup_same (λ k. is_eq (order b k)) (same_attempt b) (tied b) c.insert.new.self.entries)
    ∙ c.in_ok-insert.ensures.updates.0 b
    ∙ ap (λ t. cond t (Some c.args.k) (lookup (λ k. is_eq (order b k)) c.args.places.now.entries)) (tied c.args.a b)
    ∙ ap (λ o. cond (same_attempt c.args.a b) (Some c.args.k) o) (lookup_same (λ k. is_eq (order b k)) (same_attempt b) (tied b) c.args.places.now.entries)
