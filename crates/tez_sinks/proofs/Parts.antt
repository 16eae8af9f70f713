-- Numbers that get something one after another, in their order.
--     Parts xs has      those that have it, and those that do not yet
--     no_part           none has it
--     next_part         the first one without gets it
--     none_left         all have it
use Rattle.std.specs.Prelude.{◌≡◌, ℕ, ◌<◌, ◌==◌, ◌||◌, Bool, true, false, if◌then◌else◌, List, [], ◌∷◌, ◌++◌, map, refl}
use Rattle.std.specs.List.{AllByRecursion, list_all}
use Rattle.std.proofs.Common.{ap, sym, ◌∙◌, arith, subst, append_assoc}
use Rattle.std.proofs.lemmas.Bool.{eqb-true, eq-eqb, ne_eqb}
use Rattle.std.proofs.lemmas.List.{append-nil}
use Rattle.tez_history.specs.Steps.{is_first_without}
use Rattle.tez_laws.proofs.Sinks.{Rises, AllAbove}
use Rattle.tez_laws.proofs.StepLaw.{both}
use Rattle.tez_progress.proofs.Members.{clash}

pub record Parts (xs : List ℕ) (has : ℕ → Bool) : Type 0 where
  pub done : List ℕ
  pub todo : List ℕ
  pub all : xs ≡ done ++ todo
  pub were : AllByRecursion (λ v. has v ≡ true) done
  pub are_not : AllByRecursion (λ v. has v ≡ false) todo

none_has : (has : ℕ → Bool) (xs : List ℕ) → ((v : ℕ) → has v ≡ false) → AllByRecursion (λ v. has v ≡ false) xs
none_has has [] h = tt
none_has has (x ∷ xs) h = (h x, none_has has xs h)

pub no_part : (xs : List ℕ) (has : ℕ → Bool) → ((v : ℕ) → has v ≡ false) → (p : Parts xs has) × (p.done ≡ [])
no_part xs has h = (record { done = []; todo = xs; all = refl; were = tt; are_not = none_has has xs h }, refl)

-- those that have it are passed over
after_done : (has : ℕ → Bool) (done todo : List ℕ) (v : ℕ) → AllByRecursion (λ u. has u ≡ true) done → is_first_without has (done ++ todo) v ≡ true → is_first_without has todo v ≡ true
after_done has [] todo v h k = k
after_done has (u ∷ done) todo v h k = after_done has done todo v h.1 (let step : (if has u then is_first_without has (done ++ todo) v else u == v) ≡ true = k in rw h.0 at step)

rises_after : (xs ys : List ℕ) → Rises (xs ++ ys) → Rises ys
rises_after [] ys h = h
rises_after (x ∷ xs) ys h = rises_after xs ys h.1

pub or_true : (x y : Bool) → y ≡ true → (x || y) ≡ true
or_true true y h = refl
or_true false y h = h

or_false : (x y : Bool) → x ≡ false → y ≡ false → (x || y) ≡ false
or_false x y h k = rw (h, k) refl

itself : (v : ℕ) (y : Bool) → ((v == v) || y) ≡ true
itself v y = rw (eq-eqb v v refl) refl

abbrev gets : ℕ → (ℕ → Bool) → ℕ → Bool
gets v has u = (v == u) || has u

still_were : (has : ℕ → Bool) (v : ℕ) (done : List ℕ) → AllByRecursion (λ u. has u ≡ true) done → AllByRecursion (λ u. gets v has u ≡ true) done
still_were has v [] h = tt
still_were has v (u ∷ done) h = (or_true (v == u) (has u) h.0, still_were has v done h.1)

still_not : (has : ℕ → Bool) (v : ℕ) (todo : List ℕ) → AllAbove v todo → AllByRecursion (λ u. has u ≡ false) todo → AllByRecursion (λ u. gets v has u ≡ false) todo
still_not has v [] a h = tt
still_not has v (u ∷ todo) a h =
    let over : v < u = a.0 in
    (or_false (v == u) (has u) (ne_eqb v u (λ e. omega (arith, over, e))) h.0, still_not has v todo a.1 h.1)

and_last : {X : Type 0} (P : X → Type 0) (xs : List X) (x : X) → AllByRecursion P xs → P x → AllByRecursion P (xs ++ x ∷ [])
and_last P [] x h k = (k, tt)
and_last P (y ∷ xs) x h k = (h.0, and_last P xs x h.1 k)

-- it is the first of those that do not have it
is_next : (has : ℕ → Bool) (todo : List ℕ) (v : ℕ) → AllByRecursion (λ u. has u ≡ false) todo → is_first_without has todo v ≡ true → (rest : List ℕ) × (todo ≡ v ∷ rest)
is_next has [] v h k = cc
is_next has (u ∷ rest) v h k =
    let step : (if has u then is_first_without has rest v else u == v) ≡ true = k in
    let here : (u == v) ≡ true = rw h.0 at step in
    (rest, ap (λ x. x ∷ rest) (eqb-true u v here))

pub next_part : (xs : List ℕ) (has : ℕ → Bool) (v : ℕ) → Rises xs → (s : Parts xs has) → is_first_without has xs v ≡ true → (p : Parts xs (λ u. (v == u) || has u)) × (p.done ≡ s.done ++ v ∷ [])
next_part xs has v rises s h =
    let next = is_next has s.todo v s.are_not (after_done has s.done s.todo v s.were (subst (λ ys. is_first_without has ys v ≡ true) s.all h)) in
    let all : xs ≡ s.done ++ v ∷ next.0 = s.all ∙ ap (λ ys. s.done ++ ys) next.1 in
    let above : AllAbove v next.0 = (rises_after s.done (v ∷ next.0) (subst Rises all rises)).0 in
    let are_not : AllByRecursion (λ u. has u ≡ false) next.0 = (subst (AllByRecursion (λ u. has u ≡ false)) next.1 s.are_not).1 in (
      record {
        done = s.done ++ v ∷ [];
        todo = next.0;
        all = all ∙ sym (append_assoc s.done (v ∷ []) next.0);
        were = and_last (λ u. gets v has u ≡ true) s.done v (still_were has v s.done s.were) (itself v (has v));
        are_not = still_not has v next.0 above are_not;
      },
      refl,
    )

pub map-append : {X Y : Type 0} (f : X → Y) (xs ys : List X) → map f (xs ++ ys) ≡ map f xs ++ map f ys
map-append f [] ys = refl
map-append f (x ∷ xs) ys = ap (λ zs. f x ∷ zs) (map-append f xs ys)

-- ---- where all have it

none_todo : (has : ℕ → Bool) (done todo : List ℕ) → list_all has (done ++ todo) ≡ true → AllByRecursion (λ v. has v ≡ false) todo → todo ≡ []
none_todo has [] [] h k = refl
none_todo has [] (v ∷ todo) h k = clash (both {x = has v} h).0 k.0
none_todo has (u ∷ done) todo h k = none_todo has done todo (both {x = has u} h).1 k

pub none_left : (xs : List ℕ) (has : ℕ → Bool) (s : Parts xs has) → list_all has xs ≡ true → xs ≡ s.done
none_left xs has s h =
    let none = none_todo has s.done s.todo (subst (λ ys. list_all has ys ≡ true) s.all h) s.are_not in
    s.all ∙ ap (λ ys. s.done ++ ys) none ∙ append-nil s.done
