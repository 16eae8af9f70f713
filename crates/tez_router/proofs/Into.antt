-- Inputs over edges into the attempt's vertex: they stay so.
use Rattle.std.proofs.Common.{◌≡◌, ℕ, zero, suc, ◌+◌, ◌-◌, ◌<◌, ◌≤◌, ◌==◌, Bool, true, false, List, [], ◌∷◌, ◌++◌, length, map, take, drop, get_or, replicate, refl, sym, ap, ◌∙◌, arith, flat_map, filter}
use Rattle.std.specs.Prelude.{if◌then◌else◌, slice_get, slice_set, Option, Some, None}
use Rattle.std.specs.Option.{option_map_or}
use Rattle.std.specs.List.{AllByRecursion}
use Rattle.std.proofs.Math.Seq.{take-add}
use Rattle.tez_ids.specs.declared.AttemptId.{AttemptId}
use Rattle.tez_ids.specs.Same.{same_attempt}
use Rattle.tez_lists.proofs.Flat.{flat-append, filter-append}
use Rattle.tez_router.specs.State.{LinkState, EdgeInputs, AdmittedState, Routing}
use Rattle.tez_router.specs.Table.{blank, blank_over, inputs_in, with_routing, fetch_over, fetch_by, restart_over, restart_by}
use Rattle.tez_router.specs.Edges.{AreNumberedFrom, AreInto, leads_to}
use Rattle.tez_router.proofs.Edges.{same_edge_fetched, same_edge_restarted, fetched_by_edge, restarted_by_edge, blank_by_edge}

-- ---- they stay so

all_mapped : {X : Type 0} (P Q : X → Type 0) (f : X → X) (xs : List X) → ((x : X) → P x → Q (f x)) → AllByRecursion P xs → AllByRecursion Q (map f xs)
all_mapped P Q f [] h all = tt
all_mapped P Q f (x ∷ xs) h all = (h x all.0, all_mapped P Q f xs h all.1)

leads_over : (links : List LinkState) (v : ℕ) (y z : EdgeInputs) → z.edge ≡ y.edge → leads_to links v y ≡ true → leads_to links v z ≡ true
leads_over links v y z same h = ap (λ e. option_map_or (λ l. l.target == v) (slice_get links e) false) same ∙ h

pub fetched_into : (links : List LinkState) (a : AttemptId) (e i : ℕ) (xs : List AdmittedState) → AllByRecursion (AreInto links) xs → AllByRecursion (AreInto links) (map (fetch_by a e i) xs)
fetched_into links a e i xs all = all_mapped (AreInto links) (AreInto links) (fetch_by a e i) xs (λ x into. by x (same_attempt x.attempt a) into) all where
  by : (x : AdmittedState) (b : Bool) → AreInto links x → AreInto links (if b then record x { edges = map (fetch_over e i) x.edges } else x)
  by x true into = record {
    leads = all_mapped (λ y. leads_to links x.attempt.task.vertex.0 y ≡ true) (λ y. leads_to links x.attempt.task.vertex.0 y ≡ true) (fetch_over e i) x.edges
        (λ y h. leads_over links x.attempt.task.vertex.0 y (fetch_over e i y) (same_edge_fetched e i y) h) into.leads;
    by_edge = fetched_by_edge e i x.edges into.by_edge;
  }
  by x false into = into

same_target : (links : List LinkState) (e : ℕ) (l m : LinkState) (v k : ℕ) → slice_get links e ≡ Some l → m.target ≡ l.target
    → option_map_or (λ q. q.target == v) (slice_get (slice_set links e m) k) false ≡ option_map_or (λ q. q.target == v) (slice_get links k) false
same_target [] e l m v k h same = refl
same_target (q ∷ links) zero l m v zero h same = let is : q ≡ l = cc in ap (λ t. t == v) (same ∙ ap (λ (p : LinkState). p.target) (sym is))
same_target (q ∷ links) zero l m v (suc k) h same = refl
same_target (q ∷ links) (suc e) l m v zero h same = refl
same_target (q ∷ links) (suc e) l m v (suc k) h same = same_target links e l m v k h same

routed_leads : (links : List LinkState) (e : ℕ) (r : Routing) (v k : ℕ) → option_map_or (λ q. q.target == v) (slice_get (with_routing links e r) k) false ≡ option_map_or (λ q. q.target == v) (slice_get links k) false
routed_leads links e r v k = by (slice_get links e) refl where
  by : (o : Option LinkState) → slice_get links e ≡ o
      → option_map_or (λ q. q.target == v) (slice_get (option_map_or (λ l. slice_set links e (record l { routing = r })) o links) k) false ≡ option_map_or (λ q. q.target == v) (slice_get links k) false
  by None is = refl
  by (Some l) is = same_target links e l (record l { routing = r }) v k is refl

pub restarted_into : (links : List LinkState) (e : ℕ) (r : Routing) (xs : List AdmittedState) → AllByRecursion (AreInto links) xs → AllByRecursion (AreInto (with_routing links e r)) (map (restart_by e r) xs)
restarted_into links e r xs all = all_mapped (AreInto links) (AreInto (with_routing links e r)) (restart_by e r) xs (λ x into. record {
  leads = all_mapped (λ y. leads_to links x.attempt.task.vertex.0 y ≡ true) (λ y. leads_to (with_routing links e r) x.attempt.task.vertex.0 y ≡ true) (restart_over e (inputs_in r x.attempt.task.index)) x.edges
      (λ y h. leads_over (with_routing links e r) x.attempt.task.vertex.0 y (restart_over e (inputs_in r x.attempt.task.index) y) (same_edge_restarted e (inputs_in r x.attempt.task.index) y)
      (routed_leads links e r x.attempt.task.vertex.0 y.edge ∙ h)) into.leads;
  by_edge = restarted_by_edge e (inputs_in r x.attempt.task.index) x.edges into.by_edge;
}) all

blank_from : (whole : List LinkState) (a : AttemptId) (n : ℕ) (links : List LinkState) → AreNumberedFrom n links → ((j : ℕ) → slice_get whole (n + j) ≡ slice_get links j)
    → AllByRecursion (λ y. leads_to whole a.task.vertex.0 y ≡ true) (flat_map (blank_over a) links)
blank_from whole a n [] numbered here = tt
blank_from whole a n (l ∷ links) numbered here =
    let next : n + 0 ≡ n = omega arith in
    let found : slice_get whole l.edge ≡ Some l = ap (λ k. slice_get whole k) (numbered.0 ∙ sym next) ∙ here 0 in
    by (l.target == a.task.vertex.0) refl found (blank_from whole a (n + 1) links numbered.1 (λ j. let step : n + 1 + j ≡ n + suc j = omega arith in ap (λ k. slice_get whole k) step ∙ here (suc j)))
  where
    by : (b : Bool) → (l.target == a.task.vertex.0) ≡ b → slice_get whole l.edge ≡ Some l → AllByRecursion (λ y. leads_to whole a.task.vertex.0 y ≡ true) (flat_map (blank_over a) links)
        → AllByRecursion (λ y. leads_to whole a.task.vertex.0 y ≡ true) ((if b then record { edge = l.edge; fetched = replicate (inputs_in l.routing a.task.index) false } ∷ [] else []) ++ flat_map (blank_over a) links)
    by true is found rest = (ap (λ o. option_map_or (λ q. q.target == a.task.vertex.0) o false) found ∙ is, rest)
    by false is found rest = rest

pub blank_into : (links : List LinkState) (a : AttemptId) → AreNumberedFrom 0 links → AreInto links (blank links a)
blank_into links a numbered = record {
  leads = blank_from links a 0 links numbered (λ j. let same : 0 + j ≡ j = omega arith in ap (λ k. slice_get links k) same);
  by_edge = blank_by_edge a links numbered;
}

-- ---- a part of a list

pub part_all : {X : Type 0} (P : X → Type 0) (xs : List X) (at n : ℕ) → ((k : ℕ) (d : X) → at ≤ k → k < at + n → k < length xs → P (get_or xs k d)) → AllByRecursion P (take n (drop at xs))
part_all P [] zero zero h = tt
part_all P [] zero (suc n) h = tt
part_all P [] (suc at) zero h = tt
part_all P [] (suc at) (suc n) h = tt
part_all P (x ∷ xs) (suc at) n h = part_all P xs at n (λ k d low high long. h (suc k) d (omega arith) (omega arith) (omega arith))
part_all P (x ∷ xs) zero zero h = tt
part_all P (x ∷ xs) zero (suc n) h = (h 0 x (omega arith) (omega arith) (omega arith), part_all P xs zero n (λ k d low high long. h (suc k) d (omega arith) (omega arith) (omega arith)))

pub all_get : {X : Type 0} (P : X → Type 0) (xs : List X) (k : ℕ) (d : X) → AllByRecursion P xs → k < length xs → P (get_or xs k d)
all_get P [] k d all h = absurd (omega arith)
all_get P (x ∷ xs) zero d all h = all.0
all_get P (x ∷ xs) (suc k) d all h = all_get P xs k d all.1 (omega arith)

-- a loop that adds a part of the list in each step
pub part_more : {X Y : Type 0} (f : X → List Y) (p : X → Bool) (xs : List X) (at end : ℕ) (was now : List Y) → at ≤ end → was ≡ flat_map f (filter p (take at xs)) → now ≡ was ++ flat_map f (filter p (take (end - at) (drop at xs)))
    → now ≡ flat_map f (filter p (take end xs))
part_more f p xs at end was now le w n =
    let whole : at + (end - at) ≡ end = omega arith in
    n ∙ ap (λ ys. ys ++ flat_map f (filter p (take (end - at) (drop at xs)))) w
    ∙ sym (flat-append f (filter p (take at xs)) (filter p (take (end - at) (drop at xs))))
    ∙ ap (flat_map f) (sym (filter-append p (take at xs) (take (end - at) (drop at xs))))
    ∙ ap (λ ys. flat_map f (filter p ys)) (sym (take-add at (end - at) xs))
    ∙ ap (λ k. flat_map f (filter p (take k xs))) whole
