-- Lists that grow with what the desk gave.
use Rattle.std.proofs.Common.{◌≡◌, ◌≢◌, ℕ, List, [], ◌∷◌, ◌++◌, sym, refl, ap, ◌∙◌, subst, rules}
use Rattle.std.proofs.lemmas.Grind.{common_steps}
use native.Mathlib.Decide.{ℕ_discrete}
use Rattle.tez_ids.specs.declared.AttemptId.{AttemptId}
use Rattle.tez_orders.specs.Outcomes.{ReportParts}
use Rattle.tez_crew.specs.Lists.{Gains}
use Rattle.tez_crew.specs.Desks.{Adds}
use Rattle.tez_crew.specs.Events.{of}
use Rattle.tez_crew.proofs.EventMoves.{more_here, more_else}
use Rattle.tez_batch.specs.Marks.{marked}

one_here : (p n : ℕ) (x : AttemptId) → n ≡ p → marked p ((n, x) ∷ []) ≡ x ∷ []
unfolding marked
one_here p n x e = search rules

one_else : (p n : ℕ) (x : AttemptId) → n ≢ p → marked p ((n, x) ∷ []) ≡ []
unfolding marked
one_else p n x e = search rules

both : (p : ℕ) (xs ys : List (ℕ × AttemptId)) → marked p (xs ++ ys) ≡ marked p xs ++ marked p ys
unfolding marked
both p xs ys = search (rules, common_steps)

nothing : (xs : List AttemptId) → xs ≡ xs ++ []
nothing xs = search (rules, common_steps)

at : (place : ℕ) (x : AttemptId) (mine mine' before after : ℕ → List AttemptId) → Adds place x mine mine' → Adds place x before after → (p : ℕ) → Dec (p ≡ place) → Gains (mine p) (mine' p) (before p) (after p)
at place x mine mine' before after a b p (yes e) = (x ∷ [], ap mine' e ∙ a.0 ∙ ap (λ k. mine k ++ x ∷ []) (sym e), ap after e ∙ b.0 ∙ ap (λ k. before k ++ x ∷ []) (sym e))
at place x mine mine' before after a b p (no n) = ([], a.1 p n ∙ nothing (mine p), b.1 p n ∙ nothing (before p))

-- two lists a place to which the same was added
both_gain : (place : ℕ) (x : AttemptId) (mine mine' before after : ℕ → List AttemptId) → Adds place x mine mine' → Adds place x before after → (p : ℕ) → Gains (mine p) (mine' p) (before p) (after p)
both_gain place x mine mine' before after a b p = at place x mine mine' before after a b p (ℕ_discrete p place)

marked_adds : (place : ℕ) (x : AttemptId) (log : List (ℕ × AttemptId)) → Adds place x (λ p. marked p log) (λ p. marked p (log ++ (place, x) ∷ []))
marked_adds place x log = (
  both place log ((place, x) ∷ []) ∙ ap (λ l. marked place log ++ l) (one_here place place x refl),
  λ p apart. both p log ((place, x) ∷ []) ∙ ap (λ l. marked p log ++ l) (one_else p place x (λ e. apart (sym e))) ∙ sym (nothing (marked p log)),
)

marked_here : (place : ℕ) (x : AttemptId) (before after : ℕ → List AttemptId) (log : List (ℕ × AttemptId)) → Adds place x before after → (p : ℕ) → Gains (marked p log) (marked p (log ++ (place, x) ∷ [])) (before p) (after p)
marked_here place x before after log adds p = both_gain place x (λ p. marked p log) (λ p. marked p (log ++ (place, x) ∷ [])) before after (marked_adds place x log) adds p

pub of_gains : (r : ReportParts) (before after : ℕ → List AttemptId) (reports : List ReportParts) → Adds r.order.place r.order.attempt before after → (p : ℕ) → Gains (of p reports) (of p (reports ++ r ∷ [])) (before p) (after p)
of_gains r before after reports adds p =
    both_gain r.order.place r.order.attempt (λ p. of p reports) (λ p. of p (reports ++ r ∷ [])) before after
    (more_here r.order.place reports r refl, λ p apart. more_else p reports r (λ e. apart (sym e))) adds p

pub marked_gains : (n place : ℕ) (y x : AttemptId) (before after : ℕ → List AttemptId) (log : List (ℕ × AttemptId)) → n ≡ place → y ≡ x → Adds place x before after
    → (p : ℕ) → Gains (marked p log) (marked p (log ++ (n, y) ∷ [])) (before p) (after p)
marked_gains n place y x before after log e f adds p =
    subst (λ (z : ℕ × AttemptId). Gains (marked p log) (marked p (log ++ z ∷ [])) (before p) (after p)) (λ i. (sym e i, sym f i)) (marked_here place x before after log adds p)

pub same_gains : (xs before after : List AttemptId) → after ≡ before → Gains xs xs before after
same_gains xs before after e = ([], nothing xs, e ∙ nothing before)
