-- Lists in the order of tasks: where a task is looked for, and what an edit at one place does.
use Rattle.std.proofs.Common.{◌≡◌, ◌≢◌, ◌⊎◌, inl, inr, ℕ, zero, suc, ◌<◌, ◌≤◌, ◌&&◌, ◌||◌, Bool, true, false, not, cond, List, [], ◌∷◌, length, map, set, get_or, refl, sym, ap, ◌∙◌, subst, arith, filter, sum_by, zero-add}
use Rattle.std.specs.Prelude.{if◌then◌else◌}
use Rattle.std.specs.List.{list_any, insert, remove, AllByRecursion}
use Rattle.std.specs.List.Sorted.{IsPartitionedBy, IsNonDecreasingBy}
use Rattle.std.proofs.lemmas.Bool.{cases_order, cases_lt}
use Rattle.std.proofs.lemmas.List.{get_or_default}
use Rattle.std.proofs.lemmas.Bool.Decides.{nat_tests}
use Rattle.tez_lists.proofs.Cases.{cases, both}
use Rattle.tez_ids.specs.declared.TaskId.{TaskId}
use Rattle.tez_ids.specs.declared.AttemptId.{AttemptId}
use Rattle.tez_ids.specs.Same.{same_task, same_attempt}
use Rattle.tez_router.specs.State.{AdmittedState}
use Rattle.tez_router.specs.Table.{before, admit_in, fetch_over, fetch_by, missing_of}
use Rattle.tez_router.specs.Order.{AreInOrder, IsPlaceOf, IsEndOf, IsOnly, IsNowhere}

-- ---- the order of tasks

before_trans : (r s t : TaskId) → before r s ≡ true → before s t ≡ true → before r t ≡ true
before_trans r s t h k = grind (arith, nat_tests)

before_other : (s t : TaskId) → before s t ≡ true → same_task s t ≡ false
before_other s t h = grind (arith, nat_tests)

after_other : (s t : TaskId) → before t s ≡ true → same_task s t ≡ false
after_other s t h = grind (arith, nat_tests)

neither : (s t : TaskId) → before s t ≡ false → same_task s t ≡ false → before t s ≡ true
neither s t h k = grind (arith, nat_tests)

before_same : (r s t : TaskId) → same_task s t ≡ true → before r s ≡ before r t
before_same r s t h = grind (arith, nat_tests)

same_before : (r s t : TaskId) → same_task r s ≡ true → before r t ≡ before s t
same_before r s t h = grind (arith, nat_tests)

other_attempt : (a b : AttemptId) → same_task a.task b.task ≡ false → same_attempt a b ≡ false
other_attempt a b h = grind (arith, nat_tests)

attempt_task : (a b : AttemptId) → same_attempt a b ≡ true → same_task a.task b.task ≡ true
attempt_task a b h = grind (arith, nat_tests)

-- ---- looking for a task

all_after : (t : TaskId) (x : AdmittedState) (xs : List AdmittedState) → before x.attempt.task t ≡ false → AllByRecursion (λ y. before x.attempt.task y.attempt.task ≡ true) xs → (j : ℕ) (d : AdmittedState) → j < length xs
    → before (get_or xs j d).attempt.task t ≡ true → before x.attempt.task t ≡ true
all_after t x [] h all j d b k = absurd (omega arith)
all_after t x (y ∷ ys) h all zero d b k = before_trans x.attempt.task y.attempt.task t all.0 k
all_after t x (y ∷ ys) h all (suc j) d b k = all_after t x ys h all.1 j d (omega arith) k

pub parted : (t : TaskId) (xs : List AdmittedState) → AreInOrder xs → IsPartitionedBy (λ x. before x.attempt.task t) xs
parted t [] order i j d le b k = absurd (omega arith)
parted t (x ∷ xs) order zero zero d le b k = k
parted t (x ∷ xs) order zero (suc j) d le b k = cases (before x.attempt.task t) (λ e. e) (λ e. all_after t x xs e order.0 j d (omega arith) k)
parted t (x ∷ xs) order (suc i) zero d le b k = absurd (omega arith)
parted t (x ∷ xs) order (suc i) (suc j) d le b k = parted t xs order.1 i j d (omega arith) (omega arith) k

pub order_at : (xs : List AdmittedState) (i k : ℕ) (d : AdmittedState) → AreInOrder xs → i < k → k < length xs → before (get_or xs i d).attempt.task (get_or xs k d).attempt.task ≡ true
order_at [] i k d order h b = absurd (omega arith)
order_at (x ∷ xs) i zero d order h b = absurd (omega arith)
order_at (x ∷ xs) zero (suc k) d order h b = at_index xs k d order.0 (omega arith) where
  at_index : (ys : List AdmittedState) (k : ℕ) (d : AdmittedState) → AllByRecursion (λ y. before x.attempt.task y.attempt.task ≡ true) ys → k < length ys → before x.attempt.task (get_or ys k d).attempt.task ≡ true
  at_index [] k d all h = absurd (omega arith)
  at_index (y ∷ ys) zero d all h = all.0
  at_index (y ∷ ys) (suc k) d all h = at_index ys k d all.1 (omega arith)
order_at (x ∷ xs) (suc i) (suc k) d order h b = order_at xs i k d order.1 (omega arith) (omega arith)

pub by_index : {X : Type 0} (P : X → Type 0) (xs : List X) → ((k : ℕ) (d : X) → k < length xs → P (get_or xs k d)) → AllByRecursion P xs
by_index P [] h = tt
by_index P (x ∷ xs) h = (h 0 x (omega arith), by_index P xs (λ k d b. h (suc k) d (omega arith)))

pub found_only : (xs : List AdmittedState) (a : AttemptId) (at : ℕ) (e : AdmittedState) → AreInOrder xs → IsPlaceOf xs a.task at → at < length xs → same_attempt (get_or xs at e).attempt a ≡ true → IsOnly xs a at
found_only xs a at e order place inside same = record {
  inside = inside;
  there = λ d. ap (λ x. same_attempt x.attempt a) (get_or_default xs at d e inside) ∙ same;
  other = λ k d apart b. by k d b (cases_order k at) apart;
}
  where
    by : (k : ℕ) (d : AdmittedState) → k < length xs → (k ≡ at) ⊎ ((k < at) ⊎ (at < k)) → k ≢ at → same_attempt (get_or xs k d).attempt a ≡ false
    by k d b (inl is) apart = absurd (apart is)
    by k d b (inr (inl h)) apart = other_attempt (get_or xs k d).attempt a (before_other (get_or xs k d).attempt.task a.task (place.below k d h))
    by k d b (inr (inr h)) apart =
        let x = get_or xs at d in let y = get_or xs k d in
        let here : same_attempt x.attempt a ≡ true = ap (λ z. same_attempt z.attempt a) (get_or_default xs at d e inside) ∙ same in
        let later : before x.attempt.task y.attempt.task ≡ true = order_at xs at k d order h b in
        let past : before a.task y.attempt.task ≡ true = sym (same_before x.attempt.task a.task y.attempt.task (attempt_task x.attempt a here)) ∙ later in
        other_attempt y.attempt a (after_other y.attempt.task a.task past)

pub found_nowhere : (xs : List AdmittedState) (a : AttemptId) (at : ℕ) → AreInOrder xs → IsPlaceOf xs a.task at → ((d : AdmittedState) → at < length xs → same_attempt (get_or xs at d).attempt a ≡ false) → IsNowhere xs a
found_nowhere xs a at order place absent = by_index (λ x. same_attempt x.attempt a ≡ false) xs (λ k d b. by k d b (cases_order k at)) where
  by : (k : ℕ) (d : AdmittedState) → k < length xs → (k ≡ at) ⊎ ((k < at) ⊎ (at < k)) → same_attempt (get_or xs k d).attempt a ≡ false
  by k d b (inl is) = ap (λ j. same_attempt (get_or xs j d).attempt a) is ∙ absent d (subst (λ j. j < length xs) is b)
  by k d b (inr (inl h)) = other_attempt (get_or xs k d).attempt a (before_other (get_or xs k d).attempt.task a.task (place.below k d h))
  by k d b (inr (inr h)) =
      let x = get_or xs at d in let y = get_or xs k d in
      let later : before x.attempt.task y.attempt.task ≡ true = order_at xs at k d order h b in
      cases (same_attempt y.attempt a)
      (λ e. both (sym (before_same x.attempt.task y.attempt.task a.task (attempt_task y.attempt a e)) ∙ later) (place.above at d (omega arith) (omega arith)))
      (λ e. e)

-- ---- putting one in

rest_place : (y : AdmittedState) (ys : List AdmittedState) (t : TaskId) (at : ℕ) → IsPlaceOf (y ∷ ys) t (suc at) → IsPlaceOf ys t at
rest_place y ys t at place = record { below = λ k d h. place.below (suc k) d (omega arith); above = λ k d h b. place.above (suc k) d (omega arith) (omega arith) }

pub put_over : (x : AdmittedState) (xs : List AdmittedState) (at : ℕ) (e : AdmittedState) → IsPlaceOf xs x.attempt.task at → at < length xs → same_task (get_or xs at e).attempt.task x.attempt.task ≡ true
    → set xs at x ≡ admit_in x xs
put_over x [] at e place inside same = absurd (omega arith)
put_over x (y ∷ ys) zero e place inside same =
    let first : before y.attempt.task x.attempt.task ≡ false = place.above 0 y (omega arith) (omega arith) in
    sym (ap (λ b. if b then y ∷ admit_in x ys else (if same_task y.attempt.task x.attempt.task then x ∷ ys else x ∷ y ∷ ys)) first ∙ ap (λ b. if b then x ∷ ys else x ∷ y ∷ ys) same)
put_over x (y ∷ ys) (suc at) e place inside same =
    let first : before y.attempt.task x.attempt.task ≡ true = place.below 0 y (omega arith) in
    ap (λ zs. y ∷ zs) (put_over x ys at e (rest_place y ys x.attempt.task at place) (omega arith) same)
    ∙ sym (ap (λ b. if b then y ∷ admit_in x ys else (if same_task y.attempt.task x.attempt.task then x ∷ ys else x ∷ y ∷ ys)) first)

pub put_new : (x : AdmittedState) (xs : List AdmittedState) (at : ℕ) → IsPlaceOf xs x.attempt.task at → at ≤ length xs → ((d : AdmittedState) → at < length xs → same_task (get_or xs at d).attempt.task x.attempt.task ≡ false)
    → insert xs at x ≡ admit_in x xs
put_new x [] zero place inside other = refl
put_new x [] (suc at) place inside other = absurd (omega arith)
put_new x (y ∷ ys) zero place inside other =
    let first : before y.attempt.task x.attempt.task ≡ false = place.above 0 y (omega arith) (omega arith) in
    let apart : same_task y.attempt.task x.attempt.task ≡ false = other y (omega arith) in
    sym (ap (λ b. if b then y ∷ admit_in x ys else (if same_task y.attempt.task x.attempt.task then x ∷ ys else x ∷ y ∷ ys)) first ∙ ap (λ b. if b then x ∷ ys else x ∷ y ∷ ys) apart)
put_new x (y ∷ ys) (suc at) place inside other =
    let first : before y.attempt.task x.attempt.task ≡ true = place.below 0 y (omega arith) in
    ap (λ zs. y ∷ zs) (put_new x ys at (rest_place y ys x.attempt.task at place) (omega arith) (λ d h. other d (omega arith)))
    ∙ sym (ap (λ b. if b then y ∷ admit_in x ys else (if same_task y.attempt.task x.attempt.task then x ∷ ys else x ∷ y ∷ ys)) first)

pub all_put : (P : AdmittedState → Type 0) (x : AdmittedState) (xs : List AdmittedState) → P x → AllByRecursion P xs → AllByRecursion P (admit_in x xs)
all_put P x [] p all = (p, tt)
all_put P x (y ∷ ys) p all = by (before y.attempt.task x.attempt.task) (same_task y.attempt.task x.attempt.task) (all_put P x ys p all.1) where
  by : (b c : Bool) → AllByRecursion P (admit_in x ys) → AllByRecursion P (if b then y ∷ admit_in x ys else (if c then x ∷ ys else x ∷ y ∷ ys))
  by true c rest = (all.0, rest)
  by false true rest = (p, all.1)
  by false false rest = (p, (all.0, all.1))

after_same : (r s : TaskId) (xs : List AdmittedState) → ((t : TaskId) → before r t ≡ true → before s t ≡ true) → AllByRecursion (λ y. before r y.attempt.task ≡ true) xs → AllByRecursion (λ y. before s y.attempt.task ≡ true) xs
after_same r s [] h all = tt
after_same r s (x ∷ xs) h all = (h x.attempt.task all.0, after_same r s xs h all.1)

pub put_order : (x : AdmittedState) (xs : List AdmittedState) → AreInOrder xs → AreInOrder (admit_in x xs)
put_order x [] order = (tt, tt)
put_order x (y ∷ ys) order = by (put_order x ys order.1) (before y.attempt.task x.attempt.task) (same_task y.attempt.task x.attempt.task) refl refl where
  by : AreInOrder (admit_in x ys) → (b c : Bool) → before y.attempt.task x.attempt.task ≡ b → same_task y.attempt.task x.attempt.task ≡ c → AreInOrder (if b then y ∷ admit_in x ys else (if c then x ∷ ys else x ∷ y ∷ ys))
  by rest true c e f = (all_put (λ z. before y.attempt.task z.attempt.task ≡ true) x ys e order.0, rest)
  by rest false true e f = (after_same y.attempt.task x.attempt.task ys (λ t h. sym (same_before y.attempt.task x.attempt.task t f) ∙ h) order.0, order.1)
  by rest false false e f =
      let first = neither y.attempt.task x.attempt.task e f in
      ((first, after_same y.attempt.task x.attempt.task ys (λ t h. before_trans x.attempt.task y.attempt.task t first h) order.0), order)

-- ---- changing one, and taking one out

pub mapped_order : (f : AdmittedState → AdmittedState) (xs : List AdmittedState) → ((x : AdmittedState) → (f x).attempt ≡ x.attempt) → AreInOrder xs → AreInOrder (map f xs)
mapped_order f [] same order = tt
mapped_order f (x ∷ xs) same order = (all_mapped xs order.0, mapped_order f xs same order.1) where
  all_mapped : (ys : List AdmittedState) → AllByRecursion (λ y. before x.attempt.task y.attempt.task ≡ true) ys → AllByRecursion (λ y. before (f x).attempt.task y.attempt.task ≡ true) (map f ys)
  all_mapped [] all = tt
  all_mapped (y ∷ ys) all = (ap (λ a. before a.task (f y).attempt.task) (same x) ∙ ap (λ a. before x.attempt.task a.task) (same y) ∙ all.0, all_mapped ys all.1)

pub all_filtered : (P : AdmittedState → Type 0) (q : AdmittedState → Bool) (ys : List AdmittedState) → AllByRecursion P ys → AllByRecursion P (filter q ys)
all_filtered P q [] all = tt
all_filtered P q (y ∷ ys) all = by (q y) (all_filtered P q ys all.1) where
  by : (b : Bool) → AllByRecursion P (filter q ys) → AllByRecursion P (cond b (y ∷ filter q ys) (filter q ys))
  by true rest = (all.0, rest)
  by false rest = rest

pub filtered_order : (q : AdmittedState → Bool) (xs : List AdmittedState) → AreInOrder xs → AreInOrder (filter q xs)
filtered_order q [] order = tt
filtered_order q (x ∷ xs) order = by (q x) (filtered_order q xs order.1) where
  by : (b : Bool) → AreInOrder (filter q xs) → AreInOrder (cond b (x ∷ filter q xs) (filter q xs))
  by true rest = (all_filtered (λ y. before x.attempt.task y.attempt.task ≡ true) q xs order.0, rest)
  by false rest = rest

rest_only : (x : AdmittedState) (xs : List AdmittedState) (a : AttemptId) (at : ℕ) → IsOnly (x ∷ xs) a (suc at) → IsOnly xs a at
rest_only x xs a at only = let inside = only.inside in record { inside = omega arith; there = only.there; other = λ k d apart b. only.other (suc k) d (λ e. apart (omega arith)) (omega arith) }

rest_nowhere : (x : AdmittedState) (xs : List AdmittedState) (a : AttemptId) → IsOnly (x ∷ xs) a 0 → IsNowhere xs a
rest_nowhere x xs a only = by_index (λ y. same_attempt y.attempt a ≡ false) xs (λ k d b. only.other (suc k) d (λ e. absurd (omega arith)) (omega arith))

pub nowhere_kept : (a : AttemptId) (xs : List AdmittedState) → IsNowhere xs a → xs ≡ filter (λ x. not (same_attempt x.attempt a)) xs
nowhere_kept a [] none = refl
nowhere_kept a (x ∷ xs) none =
    ap (λ ys. x ∷ ys) (nowhere_kept a xs none.1)
    ∙ sym (ap (λ b. cond (not b) (x ∷ filter (λ y. not (same_attempt y.attempt a)) xs) (filter (λ y. not (same_attempt y.attempt a)) xs)) none.0)

pub only_removed : (a : AttemptId) (xs : List AdmittedState) (at : ℕ) → IsOnly xs a at → remove xs at ≡ filter (λ x. not (same_attempt x.attempt a)) xs
only_removed a [] at only = let inside = only.inside in absurd (omega arith)
only_removed a (x ∷ xs) zero only =
    nowhere_kept a xs (rest_nowhere x xs a only)
    ∙ sym (ap (λ b. cond (not b) (x ∷ filter (λ y. not (same_attempt y.attempt a)) xs) (filter (λ y. not (same_attempt y.attempt a)) xs)) (only.there x))
only_removed a (x ∷ xs) (suc at) only =
    let other = only.other 0 x (λ e. absurd (omega arith)) (omega arith) in
    ap (λ ys. x ∷ ys) (only_removed a xs at (rest_only x xs a at only))
    ∙ sym (ap (λ b. cond (not b) (x ∷ filter (λ y. not (same_attempt y.attempt a)) xs) (filter (λ y. not (same_attempt y.attempt a)) xs)) other)

pub nowhere_picked : (a : AttemptId) (xs : List AdmittedState) → IsNowhere xs a → filter (λ x. same_attempt x.attempt a) xs ≡ []
nowhere_picked a [] none = refl
nowhere_picked a (x ∷ xs) none =
    ap (λ b. cond b (x ∷ filter (λ y. same_attempt y.attempt a) xs) (filter (λ y. same_attempt y.attempt a) xs)) none.0 ∙ nowhere_picked a xs none.1

pub only_picked : (a : AttemptId) (xs : List AdmittedState) (at : ℕ) (d : AdmittedState) → IsOnly xs a at → filter (λ x. same_attempt x.attempt a) xs ≡ get_or xs at d ∷ []
only_picked a [] at d only = let inside = only.inside in absurd (omega arith)
only_picked a (x ∷ xs) zero d only =
    ap (λ b. cond b (x ∷ filter (λ y. same_attempt y.attempt a) xs) (filter (λ y. same_attempt y.attempt a) xs)) (only.there x)
    ∙ ap (λ ys. x ∷ ys) (nowhere_picked a xs (rest_nowhere x xs a only))
only_picked a (x ∷ xs) (suc at) d only =
    ap (λ b. cond b (x ∷ filter (λ y. same_attempt y.attempt a) xs) (filter (λ y. same_attempt y.attempt a) xs)) (only.other 0 x (λ e. absurd (omega arith)) (omega arith))
    ∙ only_picked a xs at d (rest_only x xs a at only)

-- a change that leaves the others as they are
pub nowhere_mapped : (a : AttemptId) (f : AdmittedState → AdmittedState) (xs : List AdmittedState) → ((x : AdmittedState) → same_attempt x.attempt a ≡ false → f x ≡ x) → IsNowhere xs a → xs ≡ map f xs
nowhere_mapped a f [] same none = refl
nowhere_mapped a f (x ∷ xs) same none =
    let here = same x none.0 in
    let rest = nowhere_mapped a f xs same none.1 in
    ap (λ y. y ∷ xs) (sym here) ∙ ap (λ ys. f x ∷ ys) rest

pub only_mapped : (a : AttemptId) (f : AdmittedState → AdmittedState) (xs : List AdmittedState) (at : ℕ) (d : AdmittedState) → ((x : AdmittedState) → same_attempt x.attempt a ≡ false → f x ≡ x) → IsOnly xs a at
    → set xs at (f (get_or xs at d)) ≡ map f xs
only_mapped a f [] at d same only = let inside = only.inside in absurd (omega arith)
only_mapped a f (x ∷ xs) zero d same only = ap (λ ys. f x ∷ ys) (nowhere_mapped a f xs same (rest_nowhere x xs a only))
only_mapped a f (x ∷ xs) (suc at) d same only =
    let other = only.other 0 x (λ e. absurd (omega arith)) (omega arith) in
    ap (λ y. y ∷ set xs at (f (get_or xs at d))) (sym (same x other)) ∙ ap (λ ys. f x ∷ ys) (only_mapped a f xs at d same (rest_only x xs a at only))

-- a test of this attempt alone
pub nowhere_any : (a : AttemptId) (q : AdmittedState → Bool) (xs : List AdmittedState) → IsNowhere xs a → list_any (λ x. same_attempt x.attempt a && q x) xs ≡ false
nowhere_any a q [] none = refl
nowhere_any a q (x ∷ xs) none = ap (λ b. (b && q x) || list_any (λ y. same_attempt y.attempt a && q y) xs) none.0 ∙ nowhere_any a q xs none.1

pub only_any : (a : AttemptId) (q : AdmittedState → Bool) (xs : List AdmittedState) (at : ℕ) (d : AdmittedState) → IsOnly xs a at → list_any (λ x. same_attempt x.attempt a && q x) xs ≡ q (get_or xs at d)
only_any a q [] at d only = let inside = only.inside in absurd (omega arith)
only_any a q (x ∷ xs) zero d only =
    ap (λ b. (b && q x) || list_any (λ y. same_attempt y.attempt a && q y) xs) (only.there x)
    ∙ ap (λ b. q x || b) (nowhere_any a q xs (rest_nowhere x xs a only)) ∙ or_false (q x)
  where
    or_false : (b : Bool) → (b || false) ≡ b
    or_false true = refl
    or_false false = refl
only_any a q (x ∷ xs) (suc at) d only =
    ap (λ b. (b && q x) || list_any (λ y. same_attempt y.attempt a && q y) xs) (only.other 0 x (λ e. absurd (omega arith)) (omega arith))
    ∙ only_any a q xs at d (rest_only x xs a at only)

-- ---- what the calls do at the place that was found

pub fetched_at : (a : AttemptId) (e i : ℕ) (xs : List AdmittedState) (at : ℕ) (x y : AdmittedState) → IsOnly xs a at → x ≡ get_or xs at x → y ≡ record x { edges = map (fetch_over e i) x.edges }
    → set xs at y ≡ map (fetch_by a e i) xs
fetched_at a e i xs at x y only is changed =
    let here : same_attempt x.attempt a ≡ true = ap (λ z. same_attempt z.attempt a) is ∙ only.there x in
    let made : y ≡ fetch_by a e i x = changed ∙ sym (ap (λ b. if b then record x { edges = map (fetch_over e i) x.edges } else x) here) in
    ap (λ z. set xs at z) (made ∙ ap (fetch_by a e i) is)
    ∙ only_mapped a (fetch_by a e i) xs at x (λ z h. ap (λ b. if b then record z { edges = map (fetch_over e i) z.edges } else z) h) only

pub fetched_nowhere : (a : AttemptId) (e i : ℕ) (xs : List AdmittedState) → IsNowhere xs a → xs ≡ map (fetch_by a e i) xs
fetched_nowhere a e i xs none = nowhere_mapped a (fetch_by a e i) xs (λ z h. ap (λ b. if b then record z { edges = map (fetch_over e i) z.edges } else z) h) none

pub fetched_order : (a : AttemptId) (e i : ℕ) (xs : List AdmittedState) → AreInOrder xs → AreInOrder (map (fetch_by a e i) xs)
fetched_order a e i xs order = mapped_order (fetch_by a e i) xs (λ x. by x (same_attempt x.attempt a)) order where
  by : (x : AdmittedState) (b : Bool) → (if b then record x { edges = map (fetch_over e i) x.edges } else x).attempt ≡ x.attempt
  by x true = refl
  by x false = refl

pub missing_at : (a : AttemptId) (xs : List AdmittedState) (at : ℕ) (d : AdmittedState) → IsOnly xs a at → missing_of (get_or xs at d) ≡ sum_by missing_of (filter (λ x. same_attempt x.attempt a) xs)
missing_at a xs at d only = sym (ap (sum_by missing_of) (only_picked a xs at d only) ∙ zero-add (missing_of (get_or xs at d)))

pub missing_nowhere : (a : AttemptId) (xs : List AdmittedState) → IsNowhere xs a → 0 ≡ sum_by missing_of (filter (λ x. same_attempt x.attempt a) xs)
missing_nowhere a xs none = sym (ap (sum_by missing_of) (nowhere_picked a xs none))

-- ---- the vertices

before_up_to : (s t : TaskId) → before s t ≡ true → s.vertex.0 ≤ t.vertex.0
before_up_to s t h = grind (arith, nat_tests)

pub by_vertex : (xs : List AdmittedState) → AreInOrder xs → IsNonDecreasingBy (λ x. x.attempt.task.vertex.0) xs
by_vertex xs order i j d le h = by (cases_order i j) where
  by : (i ≡ j) ⊎ ((i < j) ⊎ (j < i)) → (get_or xs i d).attempt.task.vertex.0 ≤ (get_or xs j d).attempt.task.vertex.0
  by (inl e) = let same : (get_or xs i d).attempt.task.vertex.0 ≡ (get_or xs j d).attempt.task.vertex.0 = ap (λ k. (get_or xs k d).attempt.task.vertex.0) e in omega arith
  by (inr (inl k)) = before_up_to (get_or xs i d).attempt.task (get_or xs j d).attempt.task (order_at xs i j d order k h)
  by (inr (inr k)) = absurd (omega arith)

-- those from a place to the end of its vertex
pub of_vertex : (xs : List AdmittedState) (at end v k : ℕ) (c d : AdmittedState) → AreInOrder xs → IsEndOf xs v end → at < length xs → (get_or xs at c).attempt.task.vertex.0 ≡ v → at ≤ k → k < end → k < length xs → (get_or xs k d).attempt.task.vertex.0 ≡ v
of_vertex xs at end v k c d order ends inside is low high long =
    let here : (get_or xs at d).attempt.task.vertex.0 ≡ (get_or xs at c).attempt.task.vertex.0 = ap (λ (x : AdmittedState). x.attempt.task.vertex.0) (get_or_default xs at d c inside) in
    let more = by_vertex xs order at k d low long in
    let most = ends.below k d high in
    omega arith

pub further : (xs : List AdmittedState) (at end v : ℕ) (c : AdmittedState) → IsEndOf xs v end → at < length xs → (get_or xs at c).attempt.task.vertex.0 ≡ v → at < end
further xs at end v c ends inside is = by (cases_lt at end) where
  by : (at < end) ⊎ (end ≤ at) → at < end
  by (inl h) = h
  by (inr h) = let past = ends.above at c h inside in absurd (omega arith)
