-- Slots of a slab after a walk over all.
--     Leaves p g        a closure tells of each value whether it passes p, makes g of it, and stays as it was
--     slots_left        it leaves g of what passes p
--     slots_kept        where it only tests
--     slots_marked      where it only changes
use Rattle.std.proofs.Common.{◌≡◌, ℕ, zero, suc, ◌+◌, Bool, true, cond, List, [], ◌∷◌, slice_index_or, ap, ◌∙◌, subst, Option, Some, None, refl}
use denote.Ref.{MutBor}
use Rattle.std.specs.Option.{option_map}
use Rattle.slab.specs.Slab.{CalledAt, RetainsFrom}
use Rattle.tez_lists.proofs.Cases.{cases}
use Rattle.tez_shelves.specs.Shelf.{kept_if}

left_by : {T : Type 0} (p : T → Bool) (g : T → T) (x : T) → cond (p x) (Some (g x)) None ≡ option_map g (kept_if p (Some x))
left_by p g x = cases (p x) (λ e. rw e refl) (λ e. rw e refl)

unchanged : {X : Type 0} (o : Option X) → option_map (λ x. x) o ≡ o
unchanged None = refl
unchanged (Some x) = refl

all_kept : {X : Type 0} (o : Option X) → kept_if (λ x. true) o ≡ o
all_kept None = refl
all_kept (Some x) = refl

module _ {T F : Type 0} (step : F → ℕ → MutBor T → Bool → MutBor T → F → Type 0) (f : F) where
  abbrev pub Leaves : (T → Bool) → (T → T) → Type 0
  Leaves p g = (key : ℕ) (old : T) (keep : Bool) (new : T) (next : F) → CalledAt step f key old keep new next
      → (keep ≡ p old) × (new ≡ g old) × (next ≡ f)

  module _ (p : T → Bool) (g : T → T) (leaves : Leaves p g) where
    slots_left : (old : List (Option T)) (key : ℕ) (kept : List (Option T)) → RetainsFrom step f key old kept
        → (k : ℕ) → slice_index_or kept k None ≡ option_map g (kept_if p (slice_index_or old k None))
    slots_left [] key kept h k = ap (λ slots. slice_index_or slots k None) h
    slots_left (None ∷ old) key kept (later, is, rest) zero = ap (λ slots. slice_index_or slots 0 None) is
    slots_left (None ∷ old) key kept (later, is, rest) (suc k) =
        ap (λ slots. slice_index_or slots (suc k) None) is ∙ slots_left old (key + 1) later rest k
    slots_left (Some x ∷ old) key kept (keep, new, next, called, later, is, rest) zero =
        let told = leaves key x keep new next called in
        ap (λ slots. slice_index_or slots 0 None) is
        ∙ ap (λ b. cond b (Some new) None) told.0 ∙ ap (λ y. cond (p x) (Some y) None) told.1 ∙ left_by p g x
    slots_left (Some x ∷ old) key kept (keep, new, next, called, later, is, rest) (suc k) =
        let told = leaves key x keep new next called in
        ap (λ slots. slice_index_or slots (suc k) None) is
        ∙ slots_left old (key + 1) later (subst (λ c. RetainsFrom step c (key + 1) old later) told.2 rest) k

  pub slots_kept : (p : T → Bool) → Leaves p (λ x. x)
      → (old : List (Option T)) (key : ℕ) (kept : List (Option T)) → RetainsFrom step f key old kept
      → (k : ℕ) → slice_index_or kept k None ≡ kept_if p (slice_index_or old k None)
  slots_kept p leaves old key kept h k =
      slots_left p (λ x. x) leaves old key kept h k ∙ unchanged (kept_if p (slice_index_or old k None))

  pub slots_marked : (g : T → T) → Leaves (λ x. true) g
      → (old : List (Option T)) (key : ℕ) (kept : List (Option T)) → RetainsFrom step f key old kept
      → (k : ℕ) → slice_index_or kept k None ≡ option_map g (slice_index_or old k None)
  slots_marked g leaves old key kept h k =
      slots_left (λ x. true) g leaves old key kept h k ∙ ap (option_map g) (all_kept (slice_index_or old k None))
