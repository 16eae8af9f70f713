-- What the router answers of notices, sources and fetched inputs is what the model says.
use Rattle.std.specs.Prelude.{◌≡◌, ◌⊎◌, ℕ, zero, suc, ◌+◌, ◌<◌, ◌≤◌, Bool, true, false, not, ◌&&◌, ◌||◌, ◌==◌, nat_lt, if◌then◌else◌, List, [], ◌∷◌, map, slice_get, Option, Some, None, unwrap_or, option_and_then, refl}
use Rattle.std.specs.List.{list_any, enumerate_from}
use Rattle.std.specs.Option.{option_map, option_map_or}
use Rattle.std.proofs.Common.{ap, sym, ◌∙◌, arith, subst, inl, inr, zero-add, add-zero}
use Rattle.std.proofs.lemmas.Bool.Decides.{nat_tests}
use Rattle.std.proofs.lemmas.Bool.{cases_lt}
use Rattle.std.proofs.lemmas.Option.{same_Some}
use Rattle.tez_ids.specs.declared.TaskId.{TaskId}
use Rattle.tez_ids.specs.declared.AttemptId.{AttemptId}
use Rattle.tez_ids.specs.Same.{same_task, same_attempt}
use Rattle.tez_events.specs.declared.Entry.TheVariants.{InputFailed}
use Rattle.tez_lists.specs.Numbers.{In, numbers_from}
use Rattle.tez_lists.proofs.Flat.{flat_same, flat_map-map}
use Rattle.tez_lists.proofs.Members.{in_filter, in_map}
use Rattle.tez_plan.specs.Dag.{Dag, to, edge, target_of}
use Rattle.tez_plan.specs.declared.parts.EdgeSpec.{EdgeSpec}
use Rattle.tez_conf.specs.declared.values.ConfValues.{ConfValues}
use Rattle.tez_history.specs.Shape.{Edge, edges_to}
use Rattle.tez_history.specs.History.{Past, winner, is_fetched}
use Rattle.tez_history.specs.Derived.{Input, inputs, input_count, waiting_attempts, notices, notices_of, source_of_input, has_fetched}
use Rattle.tez_history.specs.Steps.{winner_of_input, winner_behind}
use Rattle.tez_history.specs.Follows.{IsMade}
use Rattle.tez_laws.proofs.Same.{same_attempt-true, same_attempt-refl}
use Rattle.tez_router.specs.Table.{is_task, source_task, inputs_in, waits_for, notices_over, notices_in, attempt_notices, winner_in, source_in, fetched_in, has_over}
use Rattle.tez_router.specs.Table.{notices_of as router_notices, has_fetched as attempt_fetched}
use Rattle.tez_router_view.specs.View.{router_view, link_view, links_view, inputs_view, admitted_view, routing_view, FitsPlan}
use Rattle.tez_master_model.specs.Entries.{notice_entry}
use Rattle.tez_router_view.proofs.Lists.{map-flat}
use Rattle.tez_router_view.proofs.Edges.{one_edge, edge_in, edge_target, link_got, inputs_same, source_same}
use Rattle.tez_router_view.proofs.Ordering.{in-mapped}
use Rattle.tez_router_view.proofs.Winners.{winner_read}
use Rattle.tez_router_view.proofs.Sources.{edge_of, input-in, behind}
use Rattle.tez_router_view.proofs.Inputs.{attempt_list, flag_is, input_at_here}

-- ---- notices

waits_same : (g : Dag) (past : Past) (a : AttemptId) (t : TaskId) (e : Edge) (i : ℕ) → i < input_count g past e.1 a.task.index
    → waits_for (link_view g past e) t a.task.index (inputs_view g past a e).fetched i ≡ same_task (source_of_input g past a (e.0, e.1, i)) t && not (has_fetched past a (e.0, e.1, i))
waits_same g past a t e i low =
    ap (λ o. is_task t o && not (unwrap_or (slice_get (inputs_view g past a e).fetched i) false)) (source_same g past e a.task.index i low)
    ∙ ap (λ b. same_task (source_of_input g past a (e.0, e.1, i)) t && not b) (flag_is g past a e i low)

attempt_notices_same : (g : Dag) (past : Past) (lost a : AttemptId) → map notice_entry (attempt_notices (links_view g past) lost.task lost (admitted_view g past a)) ≡ notices_of g past lost a
attempt_notices_same g past lost a =
    attempt_list g past a (λ o y. notices_over o lost.task lost a y) (λ l y i. waits_for l lost.task a.task.index y.fetched i) (λ y i. record { attempt = a; edge = edge y.edge; input = i; lost = lost }) notice_entry
    (λ i. same_task (source_of_input g past a i) lost.task && not (has_fetched past a i)) (λ i. InputFailed a (edge i.0) i.2 lost) (λ l y. refl) (λ e i _ low. waits_same g past a lost.task e i low) (λ e i. refl)

pub notices_same : (g : Dag) (past : Past) (lost : AttemptId) → map notice_entry (router_notices (router_view g past) lost.task lost) ≡ notices g past lost
notices_same g past lost =
    map-flat notice_entry (attempt_notices (links_view g past) lost.task lost) (map (admitted_view g past) (waiting_attempts g past))
    ∙ flat_map-map (λ x. map notice_entry (attempt_notices (links_view g past) lost.task lost x)) (admitted_view g past) (waiting_attempts g past)
    ∙ flat_same (λ a. map notice_entry (attempt_notices (links_view g past) lost.task lost (admitted_view g past a))) (notices_of g past lost) (waiting_attempts g past) (λ a _. attempt_notices_same g past lost a)

-- of the task's winner, where it has one
pub notices_read : (g : Dag) (c : ConfValues) (past : Past) (w : AttemptId) → IsMade g c past → FitsPlan g past → winner w.task past ≡ Some w
    → map notice_entry (notices_in (router_view g past) w.task) ≡ notices g past w
notices_read g c past w m fits won =
    ap (λ o. map notice_entry (option_map_or (router_notices (router_view g past) w.task) o [])) (winner_read g c past m fits w.task ∙ won) ∙ notices_same g past w

pub no_notices : (g : Dag) (c : ConfValues) (past : Past) (t : TaskId) → IsMade g c past → FitsPlan g past → winner t past ≡ None → notices_in (router_view g past) t ≡ []
no_notices g c past t m fits none = ap (λ o. option_map_or (router_notices (router_view g past) t) o []) (winner_read g c past m fits t ∙ none)

-- ---- sources

got_option : {X Y : Type 0} (f : ℕ × X → Y) (n k : ℕ) (xs : List X) → slice_get (map f (enumerate_from n xs)) k ≡ option_map (λ x. f (n + k, x)) (slice_get xs k)
got_option f n k [] = refl
got_option f n zero (x ∷ xs) = ap (λ m. Some (f (m, x))) (sym (add-zero n))
got_option f n (suc k) (x ∷ xs) = got_option f (n + 1) k xs ∙ ap (λ m. option_map (λ y. f (m, y)) (slice_get xs k)) (omega arith)

abbrev pair : {X : Type 0} → ℕ → X → ℕ × X
pair m x = (m, x)

enumerated : {X : Type 0} (n k : ℕ) (xs : List X) (x : X) → slice_get xs k ≡ Some x → In (pair (n + k) x) (enumerate_from n xs)
enumerated n k [] x h = cc
enumerated n zero (y ∷ ys) x h = inl (ap (λ m. pair m x) (add-zero n) ∙ ap (pair n) (sym (same_Some y x h)))
enumerated n (suc k) (y ∷ ys) x h = inr (subst (λ m. In (pair m x) (enumerate_from (n + 1) ys)) (omega arith) (enumerated (n + 1) k ys x h))

edge_here : (xs : List EdgeSpec) (k : ℕ) (x : EdgeSpec) → slice_get xs k ≡ Some x → In (pair k x) (enumerate_from 0 xs)
edge_here xs k x h = subst (λ m. In (pair m x) (enumerate_from 0 xs)) (zero-add k) (enumerated 0 k xs x h)

numbered_from : {X : Type 0} (n : ℕ) (xs : List X) (d : ℕ × X) → In d (enumerate_from n xs) → (k : ℕ) × (d.0 ≡ n + k) × (slice_get xs k ≡ Some d.1)
numbered_from n [] d h = absurd h
numbered_from n (x ∷ xs) d (inl h) = (0, ap (λ y. y.0) h ∙ sym (add-zero n), ap (λ y. Some y.1) (sym h))
numbered_from n (x ∷ xs) d (inr h) = let r = numbered_from (n + 1) xs d h in (suc r.0, r.1 ∙ omega arith, r.2)

pub edge_at : (xs : List EdgeSpec) (d : Edge) → In d (enumerate_from 0 xs) → slice_get xs d.0 ≡ Some d.1
edge_at xs d h = let r = numbered_from 0 xs d h in ap (slice_get xs) (r.1 ∙ zero-add r.0) ∙ r.2

below_not : {X : Type 0} (i n : ℕ) (x y : X) → n ≤ i → (if nat_lt i n then x else y) ≡ y
below_not i n x y h = grind (arith, nat_tests)

-- nothing is behind an input that there is not
no_input : (g : Dag) (past : Past) (a : AttemptId) (e i : ℕ) → ((k : Input) → In k (inputs g past a) → k.0 ≡ e → k.2 ≡ i → ⊥) → winner_behind g past a e i ≡ None
no_input g past a e i none = by (winner_behind g past a e i) refl where
  by : (o : Option AttemptId) → winner_behind g past a e i ≡ o → winner_behind g past a e i ≡ None
  by None h = h
  by (Some w) h = let r = behind g past a e i w h in absurd (none r.at r.there r.edge r.number)

-- an edge into the attempt's vertex
source_at : (g : Dag) (c : ConfValues) (past : Past) → IsMade g c past → FitsPlan g past → (a : AttemptId) (e : Edge) (i : ℕ) → In e (edges_to g a.task.vertex.0) → source_in (router_view g past) a e.0 i ≡ winner_behind g past a e.0 i
source_at g c past m fits a e i there = ap (λ o. option_and_then (winner_in (router_view g past)) (option_and_then (λ l. source_task l a.task.index i) o)) (link_got g past a.task.vertex.0 e there) ∙ by (cases_lt i (input_count g past e.1 a.task.index)) where
  one : (k : Input) → In k (inputs g past a) → k.0 ≡ e.0 → edge_of k ≡ e
  one k h s = one_edge g.edges (edge_of k) e (edge_in g a.task.vertex.0 (edge_of k) (input-in g past a k h).edge) (edge_in g a.task.vertex.0 e there) s

  by : (i < input_count g past e.1 a.task.index) ⊎ (input_count g past e.1 a.task.index ≤ i) → option_and_then (winner_in (router_view g past)) (source_task (link_view g past e) a.task.index i) ≡ winner_behind g past a e.0 i
  by (inl low) =
      ap (option_and_then (winner_in (router_view g past))) (source_same g past e a.task.index i low)
      ∙ winner_read g c past m fits (source_of_input g past a (e.0, e.1, i)) ∙ ap (winner_of_input g past a) (sym (input_at_here g past a e i there low))
  by (inr high) =
      ap (option_and_then (winner_in (router_view g past))) (below_not i (inputs_in (routing_view g past e) a.task.index) _ None (subst (λ n. n ≤ i) (sym (inputs_same g past e a.task.index)) high))
      ∙ sym (no_input g past a e.0 i (λ k h s n.
      let low = (input-in g past a k h).below in
      let same : input_count g past k.1 a.task.index ≡ input_count g past e.1 a.task.index = ap (λ (d : Edge). input_count g past d.1 a.task.index) (one k h s) in
      omega (arith, low, same, n, high)))

equal_numbers : (d e : ℕ) → d ≡ e → (d == e) ≡ true
equal_numbers d e h = grind (arith, nat_tests)

not_both : (d e : ℕ) → d ≡ e → (d == e) ≡ false → ⊥
not_both d e h k = let t : (d == e) ≡ true = equal_numbers d e h in cc

either_none : {X : Type 0} (b : Bool) (o : Option X) → o ≡ None → (if b then o else None) ≡ None
either_none true o h = h
either_none false o h = refl

pub source_read : (g : Dag) (c : ConfValues) (past : Past) → IsMade g c past → FitsPlan g past → (a : AttemptId) (e i : ℕ)
    → winner_behind g past a e i ≡ (if target_of g e == a.task.vertex.0 then source_in (router_view g past) a e i else None)
source_read g c past m fits a e i = by (slice_get g.edges e) refl where
  listed : (k : Input) → In k (inputs g past a) → slice_get g.edges k.0 ≡ Some k.1
  listed k h = edge_at g.edges (edge_of k) (edge_in g a.task.vertex.0 (edge_of k) (input-in g past a k h).edge)

  missing : slice_get g.edges e ≡ None → source_in (router_view g past) a e i ≡ None
  missing h =
      ap (λ o. option_and_then (winner_in (router_view g past)) (option_and_then (λ l. source_task l a.task.index i) o)) (got_option (link_view g past) 0 e g.edges ∙ ap (option_map (λ x. link_view g past (0 + e, x))) h)

  at : (s : EdgeSpec) → slice_get g.edges e ≡ Some s → (b : Bool) → (to g s == a.task.vertex.0) ≡ b → winner_behind g past a e i ≡ (if b then source_in (router_view g past) a e i else None)
  at s h true t = sym (source_at g c past m fits a (pair e s) i (in_filter (λ d. to g d.1 == a.task.vertex.0) (pair e s) (enumerate_from 0 g.edges) (edge_here g.edges e s h) t))
  at s h false t =
      no_input g past a e i (λ k j n _.
      let there = (input-in g past a k j).edge in
      let here : Some k.1 ≡ Some s = sym (listed k j) ∙ ap (slice_get g.edges) n ∙ h in
      let target : to g s ≡ a.task.vertex.0 = ap (to g) (sym (same_Some k.1 s here)) ∙ edge_target g a.task.vertex.0 (edge_of k) there in
      not_both (to g s) a.task.vertex.0 target t)

  by : (o : Option EdgeSpec) → slice_get g.edges e ≡ o → winner_behind g past a e i ≡ (if target_of g e == a.task.vertex.0 then source_in (router_view g past) a e i else None)
  by None h =
      no_input g past a e i (λ k j n _. let here : Some k.1 ≡ None = sym (listed k j) ∙ ap (slice_get g.edges) n ∙ h in cc)
      ∙ sym (either_none (target_of g e == a.task.vertex.0) (source_in (router_view g past) a e i) (missing h))
  by (Some s) h = at s h (to g s == a.task.vertex.0) refl ∙ ap (λ o. if option_map_or (to g) o 0 == a.task.vertex.0 then source_in (router_view g past) a e i else None) (sym h)

-- ---- what was fetched

from-any : {X : Type 0} (p : X → Bool) (xs : List X) → list_any p xs ≡ true → (x : X) × In x xs × (p x ≡ true)
from-any p [] h = cc
from-any {X} p (x ∷ xs) h = by (p x) refl h (from-any p xs) where
  by : (b : Bool) → p x ≡ b → (b || list_any p xs) ≡ true → (list_any p xs ≡ true → (y : X) × In y xs × (p y ≡ true)) → (y : X) × In y (x ∷ xs) × (p y ≡ true)
  by true e k ih = (x, inl refl, e)
  by false e k ih = let r = ih k in (r.0, inr r.1, r.2)

any-from : {X : Type 0} (p : X → Bool) (xs : List X) (x : X) → In x xs → p x ≡ true → list_any p xs ≡ true
any-from p [] x i h = absurd i
any-from p (y ∷ ys) x (inl e) h = ap (λ b. b || list_any p ys) (subst (λ z. p z ≡ true) e h)
any-from p (y ∷ ys) x (inr k) h = by (p y) (any-from p ys x k h) where
  by : (b : Bool) → list_any p ys ≡ true → (b || list_any p ys) ≡ true
  by true e = refl
  by false e = e

flag_from : (h : ℕ → Bool) (m n i : ℕ) → unwrap_or (slice_get (map h (numbers_from m n)) i) false ≡ true → h (m + i) ≡ true
flag_from h m zero i e = cc
flag_from h m (suc n) zero e = subst (λ k. h k ≡ true) (sym (add-zero m)) e
flag_from h m (suc n) (suc i) e = subst (λ k. h k ≡ true) (omega arith) (flag_from h (suc m) n i e)

pub agree : (x y : Bool) → (x ≡ true → y ≡ true) → (y ≡ true → x ≡ true) → x ≡ y
agree true y f h = sym (f refl)
agree false true f h = h refl
agree false false f h = refl

two : (x y : Bool) → (x && y) ≡ true → (x ≡ true) × (y ≡ true)
two true y h = (refl, h)
two false y h = cc

is_number : (d e : ℕ) → (d == e) ≡ true → d ≡ e
is_number d e h = grind (arith, nat_tests)

equal_number : (d : ℕ) → (d == d) ≡ true
equal_number d = grind (arith, nat_tests)

told_over : (g : Dag) (past : Past) (b : AttemptId) (d : Edge) (e i : ℕ) → has_over e i (inputs_view g past b d) ≡ true → is_fetched b e i past ≡ true
told_over g past b d e i h =
    let u = two (d.0 == e) (unwrap_or (slice_get (inputs_view g past b d).fetched i) false) h in
    let f : is_fetched b d.0 (0 + i) past ≡ true = flag_from (λ j. is_fetched b d.0 j past) 0 (input_count g past d.1 b.task.index) i u.1 in
    subst (λ z. is_fetched b z i past ≡ true) (is_number d.0 e u.0) (subst (λ j. is_fetched b d.0 j past ≡ true) (zero-add i) f)

-- by the flag of an admitted attempt
told_by : (g : Dag) (past : Past) (a b : AttemptId) (e i : ℕ) → attempt_fetched a e i (admitted_view g past b) ≡ true → is_fetched a e i past ≡ true
told_by g past a b e i h =
    let t = two (same_attempt b a) (list_any (has_over e i) (admitted_view g past b).edges) h in
    let y = from-any (has_over e i) (map (inputs_view g past b) (edges_to g b.task.vertex.0)) t.1 in
    let d = in-mapped (inputs_view g past b) y.0 (edges_to g b.task.vertex.0) y.1 in
    subst (λ z. is_fetched z e i past ≡ true) (same_attempt-true b a t.0) (told_over g past b d.0 e i (subst (λ z. has_over e i z ≡ true) d.2 y.2))

told : (g : Dag) (past : Past) (a : AttemptId) (e i : ℕ) → fetched_in (router_view g past) a e i ≡ true → is_fetched a e i past ≡ true
told g past a e i h =
    let x = from-any (attempt_fetched a e i) (map (admitted_view g past) (waiting_attempts g past)) h in
    let b = in-mapped (admitted_view g past) x.0 (waiting_attempts g past) x.1 in
    told_by g past a b.0 e i (subst (λ z. attempt_fetched a e i z ≡ true) b.2 x.2)

both_hold : (x y : Bool) → x ≡ true → y ≡ true → (x && y) ≡ true
both_hold true y h k = k
both_hold false y h k = h

tells : (g : Dag) (past : Past) (a : AttemptId) (k : Input) → In a (waiting_attempts g past) → In k (inputs g past a) → is_fetched a k.0 k.2 past ≡ true → fetched_in (router_view g past) a k.0 k.2 ≡ true
tells g past a k waits there h =
    let f = input-in g past a k there in
    any-from (attempt_fetched a k.0 k.2) (map (admitted_view g past) (waiting_attempts g past)) (admitted_view g past a) (in_map (admitted_view g past) a (waiting_attempts g past) waits)
    (both_hold (same_attempt a a) (list_any (has_over k.0 k.2) (admitted_view g past a).edges) (same_attempt-refl a)
    (any-from (has_over k.0 k.2) (map (inputs_view g past a) (edges_to g a.task.vertex.0)) (inputs_view g past a (edge_of k)) (in_map (inputs_view g past a) (edge_of k) (edges_to g a.task.vertex.0) f.edge)
    (both_hold (k.0 == k.0) (unwrap_or (slice_get (inputs_view g past a (edge_of k)).fetched k.2) false) (equal_number k.0) (flag_is g past a (edge_of k) k.2 f.below ∙ h))))

pub fetched_read : (g : Dag) (past : Past) (a : AttemptId) (k : Input) → In a (waiting_attempts g past) → In k (inputs g past a) → fetched_in (router_view g past) a k.0 k.2 ≡ is_fetched a k.0 k.2 past
fetched_read g past a k waits there = agree (fetched_in (router_view g past) a k.0 k.2) (is_fetched a k.0 k.2 past) (told g past a k.0 k.2) (tells g past a k waits there)

-- the same of an input with a winner behind it
pub fetched_behind : (g : Dag) (past : Past) (a : AttemptId) (e i : ℕ) (w : AttemptId) → In a (waiting_attempts g past) → winner_behind g past a e i ≡ Some w → fetched_in (router_view g past) a e i ≡ is_fetched a e i past
fetched_behind g past a e i w waits h =
    let r = behind g past a e i w h in
    subst (λ j. fetched_in (router_view g past) a e j ≡ is_fetched a e j past) r.number
    (subst (λ d. fetched_in (router_view g past) a d r.at.2 ≡ is_fetched a d r.at.2 past) r.edge (fetched_read g past a r.at waits r.there))
