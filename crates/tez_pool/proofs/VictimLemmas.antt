-- The greatest of a growing list of attempts.
use Rattle.std.specs.Prelude.{◌≡◌, ℕ, zero, suc, ◌+◌, ◌<◌, ◌⊎◌, ◌&&◌, Bool, true, false, if◌then◌else◌, nat_lt, List, [], ◌∷◌, ◌++◌, length, take, slice_get, Option, Some, None, MatchOption, option_and_then, option_to_list, refl}
use Rattle.std.specs.List.{list_all}
use Rattle.std.specs.Option.{option_map_or}
use Rattle.std.specs.declared.cmp.Ordering.{Ordering}
use Rattle.std.specs.declared.cmp.Ordering.TheVariants.{Less, Equal, Greater}
use Rattle.std.specs.Ordering.{is_gt, ordering_reverse}
use Rattle.std.specs.Cmp.Lexicographic.{nat_list_cmp_total}
use Rattle.std.proofs.Common.{ap, sym, ◌∙◌, subst, arith, inl, inr, get_or, true≢false}
use Rattle.std.proofs.lemmas.Bool.Decides.{nat_tests}
use Rattle.std.proofs.lemmas.Option.{same_Some}
use Rattle.tez_lists.specs.Numbers.{In}
use Rattle.tez_lists.proofs.Members.{in_append_left, in_append_right}
use Rattle.tez_ids.specs.declared.AttemptId.{AttemptId}
use Rattle.tez_plan.specs.Dag.{Dag}
use Rattle.tez_pool.specs.declared.place.Held.{Held}
use Rattle.tez_pool.specs.declared.place.Place.{Place}
use Rattle.tez_pool.specs.Table.{is_within, who}
use Rattle.tez_pool.specs.Index.{held_at}
use Rattle.tez_pool.proofs.PlaceLemmas.{place_from}
use Rattle.tez_pool.specs.Victim.{AreIn, IsGreatest, IsKnown, candidate, candidates, compare, deeper, depth_of, greater, rank, waiting}
use Rattle.tez_pool.proofs.PoolLemmas.{filter_map_more}

abbrev pub IsBest : Dag → List AttemptId → Option AttemptId → Type 0
IsBest p attempts o = MatchOption o (attempts ≡ []) (IsGreatest p attempts)

-- ---- the order

not_both : (o : Ordering) → o ≡ ordering_reverse o → is_gt o ≡ false
not_both Less e = refl
not_both Equal e = refl
not_both Greater e = cc

turned : (o r : Ordering) → o ≡ ordering_reverse r → is_gt o ≡ true → r ≡ Less
turned Less r e h = absurd (true≢false (sym h))
turned Equal r e h = absurd (true≢false (sym h))
turned Greater Less e h = refl
turned Greater Equal e h = cc
turned Greater Greater e h = cc

back : (o r : Ordering) → o ≡ ordering_reverse r → r ≡ Less → is_gt o ≡ true
back Less Less e h = cc
back Equal Less e h = cc
back Greater Less e h = refl
back o Equal e h = cc
back o Greater e h = cc

itself : (p : Dag) (a : AttemptId) → is_gt (compare p a a) ≡ false
itself p a = not_both (compare p a a) (nat_list_cmp_total.antisymm (rank p a) (rank p a))

-- what is no greater than v is no greater than what is greater than v
below : (p : Dag) (a v b : AttemptId) → is_gt (compare p a v) ≡ false → is_gt (compare p b v) ≡ true → is_gt (compare p a b) ≡ false
below p a v b low high = by (is_gt (compare p a b)) refl where
  by : (t : Bool) → is_gt (compare p a b) ≡ t → is_gt (compare p a b) ≡ false
  by false e = e
  by true e =
      let ba = turned (compare p a b) (compare p b a) (nat_list_cmp_total.antisymm (rank p a) (rank p b)) e in
      let vb = turned (compare p b v) (compare p v b) (nat_list_cmp_total.antisymm (rank p b) (rank p v)) high in
      let va = nat_list_cmp_total.trans (rank p v) (rank p b) (rank p a) vb ba in
      absurd (true≢false (sym (back (compare p a v) (compare p v a) (nat_list_cmp_total.antisymm (rank p a) (rank p v)) va) ∙ low))

-- ---- one more

in_either : (a b : AttemptId) (xs : List AttemptId) → In a (xs ++ b ∷ []) → In a xs ⊎ (a ≡ b)
in_either a b [] (inl e) = inr e
in_either a b [] (inr h) = absurd h
in_either a b (x ∷ xs) (inl e) = inl (inl e)
in_either a b (x ∷ xs) (inr h) = by (in_either a b xs h) where
  by : In a xs ⊎ (a ≡ b) → In a (x ∷ xs) ⊎ (a ≡ b)
  by (inl i) = inl (inr i)
  by (inr e) = inr e

new_best : (p : Dag) (xs : List AttemptId) (b : AttemptId) → ((a : AttemptId) → In a xs → is_gt (compare p a b) ≡ false) → IsGreatest p (xs ++ b ∷ []) b
new_best p xs b low = record { among = in_append_right b xs (b ∷ []) (inl refl); greatest = λ a h. by a (in_either a b xs h) } where
  by : (a : AttemptId) → In a xs ⊎ (a ≡ b) → is_gt (compare p a b) ≡ false
  by a (inl i) = low a i
  by a (inr e) = ap (λ x. is_gt (compare p x b)) e ∙ itself p b

same_best : (p : Dag) (xs : List AttemptId) (v b : AttemptId) → IsGreatest p xs v → is_gt (compare p b v) ≡ false → IsGreatest p (xs ++ b ∷ []) v
same_best p xs v b g low = record { among = in_append_left v xs (b ∷ []) g.among; greatest = λ a h. by a (in_either a b xs h) } where
  by : (a : AttemptId) → In a xs ⊎ (a ≡ b) → is_gt (compare p a v) ≡ false
  by a (inl i) = g.greatest a i
  by a (inr e) = ap (λ x. is_gt (compare p x v)) e ∙ low

append_none : (xs : List AttemptId) → xs ++ [] ≡ xs
append_none [] = refl
append_none (x ∷ xs) = ap (λ ys. x ∷ ys) (append_none xs)

pub best_more : (p : Dag) (xs : List AttemptId) (o n : Option AttemptId) → IsBest p xs o → IsBest p (xs ++ option_to_list n) (greater p o n)
best_more p xs None None e = append_none xs ∙ e
best_more p xs None (Some b) e = subst (λ ys. IsGreatest p (ys ++ b ∷ []) b) (sym e) (new_best p [] b (λ a h. absurd h))
best_more p xs (Some v) None g = subst (λ ys. IsGreatest p ys v) (sym (append_none xs)) g
best_more p xs (Some v) (Some b) g = by (is_gt (compare p b v)) refl where
  by : (t : Bool) → is_gt (compare p b v) ≡ t → IsGreatest p (xs ++ b ∷ []) (if is_gt (compare p b v) then b else v)
  by true e = subst (λ t. IsGreatest p (xs ++ b ∷ []) (if t then b else v)) (sym e) (new_best p xs b (λ a i. below p a v b (g.greatest a i) e))
  by false e = subst (λ t. IsGreatest p (xs ++ b ∷ []) (if t then b else v)) (sym e) (same_best p xs v b g e)

pub candidates_more : (p : Dag) (d : ℕ) (places : List Place) (i : ℕ) (x : Place) → i < length places → candidates p d (take (i + 1) places) ≡ candidates p d (take i places) ++ option_to_list (candidate p d (get_or places i x))
candidates_more p d places i x l = filter_map_more (candidate p d) places i x l

-- ---- their vertices are in the plan

pub known_more : (p : Dag) (o n : Option AttemptId) → IsKnown p o → IsKnown p n → IsKnown p (greater p o n)
known_more p None n ho hn = hn
known_more p (Some a) None ho hn = ho
known_more p (Some a) (Some b) ho hn = by (is_gt (compare p b a)) where
  by : (t : Bool) → (if t then b else a).task.vertex.0 < length p.vertices
  by true = hn
  by false = ho

waits_known : (p : Dag) (o : Option Held) → ((h : Held) → o ≡ Some h → h.attempt.task.vertex.0 < length p.vertices) → IsKnown p (option_and_then waiting o)
waits_known p None h = tt
waits_known p (Some x) h = by x.sent where
  by : (b : Bool) → IsKnown p (if b then None else Some x.attempt)
  by true = tt
  by false = h x refl

pub waiting_known : (p : Dag) (places : List Place) (i : ℕ) (x : Place) → AreIn p places → slice_get places i ≡ Some x → IsKnown p (option_and_then waiting x.holder)
waiting_known p places i x known e = waits_known p x.holder (λ h g. known i h.attempt (held h g)) where
  held : (h : Held) → x.holder ≡ Some h → held_at places i ≡ Some h.attempt
  held h g = cc

pub candidate_known : (p : Dag) (d : ℕ) (x : Place) → IsKnown p (option_and_then waiting x.holder) → IsKnown p (candidate p d x)
candidate_known p d x = by (option_and_then waiting x.holder) where
  by : (o : Option AttemptId) → IsKnown p o → IsKnown p (option_and_then (deeper p d) o)
  by None h = tt
  by (Some a) h = test (nat_lt d (depth_of p a)) where
    test : (b : Bool) → IsKnown p (if b then Some a else None)
    test true = h
    test false = tt

-- ---- the test that a caller has

within_test : (n : ℕ) (x : Place) (a : AttemptId) → is_within n x ≡ true → who x ≡ Some a → a.task.vertex.0 < n
within_test n x a t w = let test : nat_lt a.task.vertex.0 n ≡ true = sym (ap (λ o. option_map_or (λ b. nat_lt b.task.vertex.0 n) o true) w) ∙ t in grind (arith, nat_tests)

from_within : (n : ℕ) (x : Place) → ((a : AttemptId) → who x ≡ Some a → a.task.vertex.0 < n) → is_within n x ≡ true
from_within n x h = by (who x) refl where
  below_test : (k n : ℕ) → k < n → nat_lt k n ≡ true
  below_test k n l = grind (arith, nat_tests)

  by : (o : Option AttemptId) → who x ≡ o → is_within n x ≡ true
  by None w = ap (λ o. option_map_or (λ b. nat_lt b.task.vertex.0 n) o true) w
  by (Some a) w = let l : a.task.vertex.0 < n = h a w in ap (λ o. option_map_or (λ b. nat_lt b.task.vertex.0 n) o true) w ∙ below_test a.task.vertex.0 n l

first_true : (a b : Bool) → (a && b) ≡ true → a ≡ true
first_true a b h = grind arith

second_true : (a b : Bool) → (a && b) ≡ true → b ≡ true
second_true a b h = grind arith

both_true : (a b : Bool) → a ≡ true → b ≡ true → (a && b) ≡ true
both_true a b g h = grind arith

all_of : (t : Place → Bool) (xs : List Place) (n : ℕ) (x : Place) → list_all t xs ≡ true → slice_get xs n ≡ Some x → t x ≡ true
all_of t [] n x h e = cc
all_of t (y ∷ ys) zero x h e = let here : t y ≡ true = first_true (t y) (list_all t ys) h in ap t (sym (same_Some y x e)) ∙ here
all_of t (y ∷ ys) (suc n) x h e = all_of t ys n x (second_true (t y) (list_all t ys) h) e

all_from : (t : Place → Bool) (xs : List Place) → ((n : ℕ) (x : Place) → slice_get xs n ≡ Some x → t x ≡ true) → list_all t xs ≡ true
all_from t [] h = refl
all_from t (y ∷ ys) h = let here = h 0 y refl in let rest = all_from t ys (λ n x e. h (suc n) x e) in both_true (t y) (list_all t ys) here rest

pub are_in : (p : Dag) (places : List Place) → list_all (is_within (length p.vertices)) places ≡ true → AreIn p places
are_in p places h n a held =
    let x = place_from places n a held in
    within_test (length p.vertices) x.0 a (all_of (is_within (length p.vertices)) places n x.0 h x.1) (sym (ap (option_and_then who) x.1) ∙ held)

pub from_are_in : (p : Dag) (places : List Place) → AreIn p places → list_all (is_within (length p.vertices)) places ≡ true
from_are_in p places h = all_from (is_within (length p.vertices)) places (λ n x e. from_within (length p.vertices) x (λ a w. h n a (ap (option_and_then who) e ∙ w)))
