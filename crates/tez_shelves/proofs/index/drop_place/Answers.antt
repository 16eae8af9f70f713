use Rattle.std.proofs.Common.{◌∙◌, cond, None, ap, sym}
use Rattle.std.specs.Ordering.{is_eq}
use Rattle.std.specs.Map.{lookup}
use Rattle.tez_ids.specs.Same.{same_attempt}
use Rattle.tez_shelves.proofs.IndexLemmas.{order, tied, lookup_same}
use Rattle.tez_shelves.proofs.index.drop_place.Goals as goal

pub returns-clause-place : goal.returns-clause-place
returns-clause-place c = c.remove.ensures.value ∙ lookup_same (λ k. is_eq (order c.args.a k)) (same_attempt c.args.a) (tied c.args.a) c.args.places.now.entries

pub returns-clause-rest : goal.returns-clause-rest
returns-clause-rest c = λ b.
    sym (lookup_same (λ k. is_eq (order b k)) (same_attempt b) (tied b) c.remove.new.self.entries)
    ∙ c.remove.ensures.updates.0 b
    ∙ ap (λ t. cond t None (lookup (λ k. is_eq (order b k)) c.args.places.now.entries)) (tied c.args.a b)
    ∙ ap (λ o. cond (same_attempt c.args.a b) None o) (lookup_same (λ k. is_eq (order b k)) (same_attempt b) (tied b) c.args.places.now.entries)
