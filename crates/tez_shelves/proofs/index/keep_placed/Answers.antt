use Rattle.std.proofs.Common.{◌≡◌, ◌∙◌, ℕ, filter, is_some, ap, rules}
use Rattle.std.specs.Map.{lookup, keys_of}
use Rattle.std.proofs.lemmas.Map.Made.{filter_same_pairs}
use Rattle.std.proofs.lemmas.Map.Keys.{IsDistinct-from_sorted}
use Rattle.slab.specs.Slab.{get}
use Rattle.tez_ids.specs.declared.AttemptId.{AttemptId}
use Rattle.tez_ids.specs.Same.{same_attempt}
use Rattle.tez_shelves.proofs.IndexLemmas.{order, lookup_kept}
use Rattle.tez_shelves.proofs.index.keep_placed.Goals as goal

kept_is : (c : goal.After-retain) → c.retain.new.self.entries ≡ filter (λ (e : AttemptId × ℕ). is_some (get c.args.slots.now e.1)) c.args.places.now.entries
kept_is c = filter_same_pairs _ (λ (e : AttemptId × ℕ). is_some (get c.args.slots.now e.1)) _ (λ k v b w f' t. search rules) _ _ c.retain.ensures.filtered

pub returns : goal.returns
returns c = λ b.
    ap (lookup (same_attempt b)) (kept_is c)
    ∙ lookup_kept (λ (k : ℕ). is_some (get c.args.slots.now k)) b c.args.places.now.entries (IsDistinct-from_sorted order (keys_of c.args.places.now.entries) c.retain.ensures.was_ordered)
