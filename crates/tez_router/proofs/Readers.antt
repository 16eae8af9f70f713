-- Who reads a task's outputs over one-to-one edges: the attempt of its index alone.
use Rattle.std.proofs.Common.{◌≡◌, ℕ, zero, suc, ◌+◌, ◌-◌, ◌<◌, ◌≤◌, ◌==◌, ◌&&◌, Bool, true, false, not, cond, List, [], ◌∷◌, ◌++◌, length, take, drop, get_or, refl, sym, ap, ◌∙◌, arith, flat_map, filter, eqb-true}
use Rattle.std.specs.Prelude.{if◌then◌else◌, nat_lt, slice_get, unwrap_or, Option, Some, None}
use Rattle.std.specs.Option.{option_map_or}
use Rattle.std.specs.List.{range_with_len, list_all}
use Rattle.std.proofs.lemmas.Bool.{and_parts}
use Rattle.std.proofs.lemmas.Bool.Decides.{nat_tests}
use Rattle.tez_ids.specs.declared.TaskId.{TaskId}
use Rattle.tez_ids.specs.declared.EdgeId.{EdgeId}
use Rattle.tez_ids.specs.declared.AttemptId.{AttemptId}
use Rattle.tez_ids.specs.Same.{task}
use Rattle.tez_plan.specs.Dag.{edge}
use Rattle.tez_router.specs.State.{LinkState, EdgeInputs, AdmittedState, Routing, OneToOne, Broadcast, ScatterGather, table_for}
use Rattle.tez_router.specs.Table.{before, inputs_in, is_task, input_notice, notices_over, edge_notices}
use Rattle.tez_router.specs.Order.{AreInOrder, IsPlaceOf}
use Rattle.tez_router.specs.Between.{is_one_to_one, is_paired, over, notices_by, AreAt, AreReaders}
use Rattle.tez_router.proofs.Between.{none_flat}
use Rattle.tez_router.proofs.Ordered.{order_at}
use Rattle.tez_router.proofs.Into.{part_all, all_get}

-- ---- an attempt of another index

and_false : (b : Bool) → (b && false) ≡ false
and_false true = refl
and_false false = refl

other_source : (s : ℕ) (r : Routing) (t : TaskId) (c i : ℕ) → is_one_to_one r ≡ true → (c == t.index) ≡ false → is_task t (if nat_lt i (inputs_in r c) then Some (task s ((table_for r).leads c i).0) else None) ≡ false
other_source s (OneToOne tasks) t c i is other = by (nat_lt i (inputs_in (OneToOne tasks) c)) where
  by : (b : Bool) → is_task t (if b then Some (task s c) else None) ≡ false
  by true = ap (λ b. (s == t.vertex.0) && b) other ∙ and_false (s == t.vertex.0)
  by false = refl
other_source s (Broadcast sources consumers) t c i is other = cc
other_source s (ScatterGather sources parts base) t c i is other = cc

quiet_link : (l : LinkState) (t : TaskId) (lost a : AttemptId) (y : EdgeInputs) → is_one_to_one l.routing ≡ true → (a.task.index == t.index) ≡ false → notices_over (Some l) t lost a y ≡ []
quiet_link l t lost a y is other =
    none_flat (input_notice l t lost a y) (range_with_len 0 (length y.fetched))
    (λ i. ap (λ b. if b && not (unwrap_or (slice_get y.fetched i) false) then record { attempt = a; edge = edge y.edge; input = i; lost = lost } ∷ [] else []) (other_source l.source l.routing t a.task.index i is other))

quiet_over : (links : List LinkState) (t : TaskId) (lost a : AttemptId) (e : EdgeId) (ys : List EdgeInputs) → is_paired links e ≡ true → (a.task.index == t.index) ≡ false → flat_map (edge_notices links t lost a) (over e.0 ys) ≡ []
quiet_over links t lost a e [] is other = refl
quiet_over links t lost a e (y ∷ ys) is other = by (y.edge == e.0) refl (quiet_over links t lost a e ys is other) where
  at : (o : Option LinkState) → option_map_or (λ l. is_one_to_one l.routing) o false ≡ true → notices_over o t lost a y ≡ []
  at None h = refl
  at (Some l) h = quiet_link l t lost a y h other

  by : (b : Bool) → (y.edge == e.0) ≡ b → flat_map (edge_notices links t lost a) (over e.0 ys) ≡ [] → flat_map (edge_notices links t lost a) (cond b (y ∷ over e.0 ys) (over e.0 ys)) ≡ []
  by true same rest = ap (λ zs. zs ++ flat_map (edge_notices links t lost a) (over e.0 ys)) (ap (λ k. notices_over (slice_get links k) t lost a y) (eqb-true y.edge e.0 same) ∙ at (slice_get links e.0) is) ∙ rest
  by false same rest = rest

quiet_attempt : (links : List LinkState) (t : TaskId) (lost : AttemptId) (es : List EdgeId) (x : AdmittedState) → list_all (is_paired links) es ≡ true → (x.attempt.task.index == t.index) ≡ false → notices_by links t lost es x ≡ []
quiet_attempt links t lost [] x all other = refl
quiet_attempt links t lost (e ∷ es) x all other =
    let parts = and_parts (is_paired links e) (list_all (is_paired links) es) all in
    ap (λ zs. zs ++ notices_by links t lost es x) (quiet_over links t lost x.attempt e x.edges parts.0 other) ∙ quiet_attempt links t lost es x parts.1 other

-- ---- where the attempt of the index stands

index_below : (s t : TaskId) → before s t ≡ true → s.vertex.0 ≡ t.vertex.0 → (s.index == t.index) ≡ false
index_below s t h same = grind (arith, nat_tests)

index_behind : (s r t : TaskId) → before s t ≡ false → before s r ≡ true → s.vertex.0 ≡ t.vertex.0 → r.vertex.0 ≡ t.vertex.0 → (r.index == t.index) ≡ false
index_behind s r t h k same other = grind (arith, nat_tests)

pub one_reader : (links : List LinkState) (t r : TaskId) (es : List EdgeId) (xs : List AdmittedState) (at : ℕ) → list_all (is_paired links) es ≡ true → r.index ≡ t.index → AreInOrder xs → AreAt r.vertex.0 xs → IsPlaceOf xs r at → at < length xs
    → AreReaders links t es xs at (at + 1)
one_reader links t r es xs at all index order here place inside = record {
  ordered = omega arith;
  inside = omega arith;
  below = λ k d lost h. quiet_attempt links t lost es (get_or xs k d) all (ap (λ i. (get_or xs k d).attempt.task.index == i) (sym index) ∙ index_below (get_or xs k d).attempt.task r (place.below k d h) (all_get (λ x. x.attempt.task.vertex.0 ≡ r.vertex.0) xs k d here (omega arith)));
  behind = λ k d lost low h. quiet_attempt links t lost es (get_or xs k d) all (ap (λ i. (get_or xs k d).attempt.task.index == i) (sym index)
      ∙ index_behind (get_or xs at d).attempt.task (get_or xs k d).attempt.task r (place.above at d (omega arith) inside) (order_at xs at k d order (omega arith) h)
      (all_get (λ x. x.attempt.task.vertex.0 ≡ r.vertex.0) xs at d here inside) (all_get (λ x. x.attempt.task.vertex.0 ≡ r.vertex.0) xs k d here h));
}

pub no_reader : (links : List LinkState) (t r : TaskId) (es : List EdgeId) (xs : List AdmittedState) (at : ℕ) → list_all (is_paired links) es ≡ true → r.index ≡ t.index → AreAt r.vertex.0 xs → IsPlaceOf xs r at → at ≤ length xs → length xs ≤ at
    → AreReaders links t es xs at at
no_reader links t r es xs at all index here place inside past = record {
  ordered = omega arith;
  inside = inside;
  below = λ k d lost h. quiet_attempt links t lost es (get_or xs k d) all (ap (λ i. (get_or xs k d).attempt.task.index == i) (sym index) ∙ index_below (get_or xs k d).attempt.task r (place.below k d h) (all_get (λ x. x.attempt.task.vertex.0 ≡ r.vertex.0) xs k d here (omega arith)));
  behind = λ k d lost low h. absurd (omega arith);
}

-- ---- a part of a list, the others having nothing

pub part_order : (xs : List AdmittedState) (at n : ℕ) → AreInOrder xs → AreInOrder (take n (drop at xs))
part_order [] zero zero order = tt
part_order [] zero (suc n) order = tt
part_order [] (suc at) zero order = tt
part_order [] (suc at) (suc n) order = tt
part_order (x ∷ xs) (suc at) n order = part_order xs at n order.1
part_order (x ∷ xs) zero zero order = tt
part_order (x ∷ xs) zero (suc n) order =
    (part_all (λ y. before x.attempt.task y.attempt.task ≡ true) xs 0 n (λ k d low high long. all_get (λ y. before x.attempt.task y.attempt.task ≡ true) xs k d order.0 long), part_order xs zero n order.1)

with_none : {X Y : Type 0} (f : X → List Y) (b : Bool) (x : X) (xs : List X) → f x ≡ [] → flat_map f (cond b (x ∷ xs) xs) ≡ flat_map f xs
with_none f true x xs none = ap (λ zs. zs ++ flat_map f xs) none
with_none f false x xs none = refl

with_same : {X Y : Type 0} (f : X → List Y) (b : Bool) (x : X) (xs ys : List X) → flat_map f xs ≡ flat_map f ys → flat_map f (cond b (x ∷ xs) xs) ≡ flat_map f (cond b (x ∷ ys) ys)
with_same f true x xs ys same = ap (λ zs. f x ++ zs) same
with_same f false x xs ys same = same

cut : {X Y : Type 0} (f : X → List Y) (p : X → Bool) (xs : List X) (at n : ℕ) → ((k : ℕ) (d : X) → k < at → k < length xs → f (get_or xs k d) ≡ []) → ((k : ℕ) (d : X) → at + n ≤ k → k < length xs → f (get_or xs k d) ≡ [])
    → flat_map f (filter p (take n (drop at xs))) ≡ flat_map f (filter p xs)
cut f p [] zero zero below behind = refl
cut f p [] zero (suc n) below behind = refl
cut f p [] (suc at) zero below behind = refl
cut f p [] (suc at) (suc n) below behind = refl
cut f p (x ∷ xs) (suc at) n below behind =
    cut f p xs at n (λ k d h b. below (suc k) d (omega arith) (omega arith)) (λ k d h b. behind (suc k) d (omega arith) (omega arith))
    ∙ sym (with_none f (p x) x (filter p xs) (below 0 x (omega arith) (omega arith)))
cut f p (x ∷ xs) zero zero below behind =
    cut f p xs zero zero (λ k d h b. absurd (omega arith)) (λ k d h b. behind (suc k) d (omega arith) (omega arith))
    ∙ sym (with_none f (p x) x (filter p xs) (behind 0 x (omega arith) (omega arith)))
cut f p (x ∷ xs) zero (suc n) below behind =
    with_same f (p x) x (filter p (take n xs)) (filter p xs) (cut f p xs zero n (λ k d h b. absurd (omega arith)) (λ k d h b. behind (suc k) d (omega arith) (omega arith)))

pub of_readers : (links : List LinkState) (t : TaskId) (lost : AttemptId) (es : List EdgeId) (p : AdmittedState → Bool) (xs : List AdmittedState) (first end : ℕ) → AreReaders links t es xs first end
    → flat_map (notices_by links t lost es) (filter p (take (end - first) (drop first xs))) ≡ flat_map (notices_by links t lost es) (filter p xs)
of_readers links t lost es p xs first end readers =
    let order = readers.ordered in
    cut (notices_by links t lost es) p xs first (end - first) (λ k d h b. readers.below k d lost h) (λ k d h b. readers.behind k d lost (omega arith) b)
