-- Attempts as keys of a map, by their order.
--     tied               attempts tie exactly where they are the same
--     lookup_same        tests that agree find the same
--     lookup_kept        a look-up after a test of the values
use Rattle.std.proofs.Common.{◌≡◌, ◌&&◌, Bool, false, cond, List, [], ◌∷◌, refl, sym, ap, ◌∙◌, subst, Some, None, filter}
use Rattle.std.specs.Ordering.{nat_cmp, ordering_then, is_eq, eq_by_cmp}
use Rattle.std.specs.declared.cmp.Ordering.{Ordering}
use Rattle.std.specs.declared.cmp.Ordering.TheVariants.{Less, Equal, Greater}
use Rattle.std.specs.Cmp.{unsigned_tied}
use Rattle.std.specs.Map.{lookup, keys_of}
use Rattle.std.specs.List.{AllByRecursion, IsDistinct}
use Rattle.std.proofs.lemmas.Map.Keys.{IsDistinct-head, IsDistinct-tail}
use Rattle.tez_lists.proofs.Cases.{cases}
use Rattle.tez_ids.specs.declared.AttemptId.{AttemptId}
use Rattle.tez_ids.specs.Same.{same_attempt}
use Rattle.tez_ids.proofs.Sameness.{same_attempt-true}
use Rattle.tez_shelves.specs.Shelf.{kept_if}

both_tied : (o p : Ordering) → is_eq (ordering_then o p) ≡ (is_eq o && is_eq p)
both_tied Less p = refl
both_tied Equal p = refl
both_tied Greater p = refl

abbrev pub order : AttemptId → AttemptId → Ordering
order a b = ordering_then (nat_cmp a.epoch.0 b.epoch.0) (ordering_then (ordering_then (nat_cmp a.task.vertex.0 b.task.vertex.0) (nat_cmp a.task.index b.task.index)) (nat_cmp a.number b.number))

pub tied : (a b : AttemptId) → is_eq (order a b) ≡ same_attempt a b
tied a b =
    both_tied (nat_cmp a.epoch.0 b.epoch.0) (ordering_then (ordering_then (nat_cmp a.task.vertex.0 b.task.vertex.0) (nat_cmp a.task.index b.task.index)) (nat_cmp a.number b.number))
    ∙ ap (λ t. is_eq (nat_cmp a.epoch.0 b.epoch.0) && t) (both_tied (ordering_then (nat_cmp a.task.vertex.0 b.task.vertex.0) (nat_cmp a.task.index b.task.index)) (nat_cmp a.number b.number) ∙ ap (λ t. t && is_eq (nat_cmp a.number b.number)) (both_tied (nat_cmp a.task.vertex.0 b.task.vertex.0) (nat_cmp a.task.index b.task.index)))
    ∙ rw (unsigned_tied a.epoch.0 b.epoch.0, unsigned_tied a.task.vertex.0 b.task.vertex.0, unsigned_tied a.task.index b.task.index, unsigned_tied a.number b.number) refl

pub lookup_same : {X : Type 0} (t u : AttemptId → Bool) → ((k : AttemptId) → t k ≡ u k) → (es : List (AttemptId × X)) → lookup t es ≡ lookup u es
lookup_same t u e [] = refl
lookup_same t u e (x ∷ es) = rw (e x.0) (ap (λ o. cond (u x.0) (Some x.1) o) (lookup_same t u e es))

none_there : {X : Type 0} (a : AttemptId) (es : List (AttemptId × X)) → AllByRecursion (λ b. is_eq (order a b) ≡ false) (keys_of es) → lookup (same_attempt a) es ≡ None
none_there a [] h = refl
none_there a (e ∷ es) h = rw (sym (tied a e.0) ∙ h.0) (none_there a es h.1)

-- a look-up among the entries whose values pass a test, where each key comes once
pub lookup_kept : {X : Type 0} (p : X → Bool) (a : AttemptId) (es : List (AttemptId × X)) → IsDistinct (eq_by_cmp order) (keys_of es) → lookup (same_attempt a) (filter (λ e. p e.1) es) ≡ kept_if p (lookup (same_attempt a) es)
lookup_kept p a [] own = refl
lookup_kept {X} p a (e ∷ es) own =
    let rest = lookup_kept p a es (IsDistinct-tail (eq_by_cmp order) e.0 (keys_of es) own) in
    cases (p e.1)
    (λ passes. cases (same_attempt a e.0)
    (λ here. rw (passes, here) (rw passes refl))
    (λ other. rw (passes, other) rest))
    (λ fails. cases (same_attempt a e.0)
    (λ here.
    let none : lookup (same_attempt a) es ≡ None = none_there a es (subst (λ k. AllByRecursion (λ b. is_eq (order k b) ≡ false) (keys_of es)) (sym (same_attempt-true a e.0 here)) (IsDistinct-head (eq_by_cmp order) e.0 (keys_of es) own)) in
    rw (fails, here) (rest ∙ ap (kept_if p) none ∙ rw fails refl))
    (λ other. rw (fails, other) rest))
