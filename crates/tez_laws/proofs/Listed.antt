-- The tasks of a history are those of its configured vertices, in order of vertex and index.
use Rattle.std.specs.Prelude.{◌≡◌, ◌⊎◌, ℕ, zero, suc, ◌+◌, ◌<◌, ◌≤◌, ◌==◌, ◌&&◌, nat_lt, true, List, [], ◌∷◌, ◌++◌, map, length, Option, Some, None, is_some, unwrap_or, refl}
use Rattle.std.specs.List.{flat_map}
use Rattle.std.proofs.Common.{inl, inr, ap, sym, ◌∙◌, arith, subst, lt-ltb, eqb-true}
use Rattle.std.proofs.lemmas.Bool.{eqb-false}
use Rattle.std.proofs.lemmas.Bool.Decides.{nat_tests}
use Rattle.tez_ids.specs.declared.TaskId.{TaskId}
use Rattle.tez_ids.specs.Same.{task}
use Rattle.tez_lists.specs.Numbers.{numbers_from, In}
use Rattle.tez_lists.proofs.Cases.{cases}
use Rattle.tez_lists.proofs.Members.{in_map, in_flat_map}
use Rattle.tez_plan.specs.Dag.{Dag, tasks_of as planned}
use Rattle.tez_conf.specs.declared.values.ConfValues.{ConfValues}
use Rattle.tez_vman.specs.declared.seen.Config.{Config}
use Rattle.tez_vman.specs.Rules.{config as shape}
use Rattle.tez_history.specs.Shape.{numbers_below, vertices, is_vertex}
use Rattle.tez_history.specs.History.{Past, config}
use Rattle.tez_history.specs.Derived.{tasks_if, tasks, is_task, is_configured}
use Rattle.tez_history.specs.Follows.{IsMade}
use Rattle.tez_laws.specs.Laws.{comes_before, AreInOrder, TasksAreListed, LiveIsListed, WinnerIsListed}
use Rattle.tez_laws.proofs.StepLaw.{both, below}
use Rattle.tez_laws.proofs.Ranges.{configured_is_vertex, live_scheduled, winner_scheduled, scheduled_is_task}
use Rattle.tez_laws.proofs.Feeding.{from-flat, from-map, from-below}

-- ---- they are those of the configured vertices

in_numbers : (a n i : ℕ) → a ≤ i → i < a + n → In i (numbers_from a n)
in_numbers a zero i low high = absurd (omega arith)
in_numbers a (suc n) i low high = cases (a == i)
    (λ e. inl (sym (eqb-true a i e)))
    (λ e. inr (in_numbers (suc a) n i (let apart : a ≡ i → ⊥ = eqb-false a i e in omega arith) (omega arith)))

pub in_below : (n i : ℕ) → i < n → In i (numbers_below n)
in_below n i h = in_numbers 0 n i (omega arith) (omega arith)

listed_if : (o : Option Config) (t : TaskId) (plan : Config) → (is_some o && nat_lt t.index (unwrap_or o plan).tasks) ≡ true → In t (tasks_if o t.vertex.0)
listed_if None t plan h = cc
listed_if (Some s) t plan h = in_map (task t.vertex.0) t.index (numbers_below s.tasks) (in_below s.tasks t.index (below t.index s.tasks h))

pub task_listed : (g : Dag) (past : Past) (t : TaskId) → is_vertex g t.vertex.0 ≡ true → is_task g past t ≡ true → In t (tasks g past)
task_listed g past t there h =
    in_flat_map (λ v. tasks_if (config v past) v) t.vertex.0 t (vertices g) (in_below (length g.vertices) t.vertex.0 (below t.vertex.0 (length g.vertices) there))
    (listed_if (config t.vertex.0 past) t (shape (planned g t.vertex.0) 1) h)

-- what is listed for a vertex is one of its tasks
if_listed : (o : Option Config) (v : ℕ) (t : TaskId) (plan : Config) → In t (tasks_if o v) → (t.vertex.0 ≡ v) × ((is_some o && nat_lt t.index (unwrap_or o plan).tasks) ≡ true)
if_listed None v t plan h = absurd h
if_listed (Some s) v t plan h =
    let r = from-map (task v) t (numbers_below s.tasks) h in
    let low : r.0 < s.tasks = from-below s.tasks r.0 r.1 in
    (ap (λ u. u.vertex.0) r.2, ap (λ u. nat_lt u.index s.tasks) r.2 ∙ lt-ltb r.0 s.tasks low)

listed_task : (g : Dag) (past : Past) (t : TaskId) → In t (tasks g past) → is_task g past t ≡ true
listed_task g past t h =
    let r = from-flat (λ v. tasks_if (config v past) v) t (vertices g) h in
    let k = if_listed (config r.0 past) r.0 t (shape (planned g r.0) 1) r.2 in
    subst (λ v. (is_some (config v past) && nat_lt t.index (unwrap_or (config v past) (shape (planned g v) 1)).tasks) ≡ true) (sym k.0) k.1

pub tasks_listed : (g : Dag) (c : ConfValues) (past : Past) → IsMade g c past → TasksAreListed g past
tasks_listed g c past m t = (
  listed_task g past t,
  λ h. task_listed g past t (configured_is_vertex g c past m t.vertex.0 (both {x = is_configured t.vertex.0 past} h).0) h,
)

pub live_listed : (g : Dag) (c : ConfValues) (past : Past) → IsMade g c past → LiveIsListed g past
live_listed g c past m t a h = (tasks_listed g c past m t).1 (scheduled_is_task g c past m t (live_scheduled g c past m t a h))

pub winner_listed : (g : Dag) (c : ConfValues) (past : Past) → IsMade g c past → WinnerIsListed g past
winner_listed g c past m t a h = (tasks_listed g c past m t).1 (scheduled_is_task g c past m t (winner_scheduled g c past m t a h))

-- ---- in order

order-append : (xs ys : List TaskId) → AreInOrder xs → AreInOrder ys → ((s t : TaskId) → In s xs → In t ys → comes_before s t ≡ true) → AreInOrder (xs ++ ys)
order-append [] ys h k before = k
order-append (x ∷ xs) ys h k before = (λ s i. by s (from_both s xs i), order-append xs ys h.1 k (λ s t i j. before s t (inr i) j)) where
  from_both : (s : TaskId) (zs : List TaskId) → In s (zs ++ ys) → In s zs ⊎ In s ys
  from_both s zs i = Rattle.tez_laws.proofs.Feeding.from-append s zs ys i

  by : (s : TaskId) → In s xs ⊎ In s ys → comes_before x s ≡ true
  by s (inl i) = h.0 s i
  by s (inr j) = before x s (inl refl) j

by_vertex : (s t : TaskId) → s.vertex.0 < t.vertex.0 → comes_before s t ≡ true
by_vertex s t h = grind (arith, nat_tests)

by_index : (v i j : ℕ) → i < j → comes_before (task v i) (task v j) ≡ true
by_index v i j h = grind (arith, nat_tests)

from_numbers : (a n i : ℕ) → In i (numbers_from a n) → a ≤ i
from_numbers a zero i h = absurd h
from_numbers a (suc n) i (inl e) = omega (arith, e)
from_numbers a (suc n) i (inr h) = let k : suc a ≤ i = from_numbers (suc a) n i h in omega arith

row_order : (v a n : ℕ) → AreInOrder (map (task v) (numbers_from a n))
row_order v a zero = tt
row_order v a (suc n) = (
  λ s i. (
      let r = from-map (task v) s (numbers_from (suc a) n) i in
      let k : suc a ≤ r.0 = from_numbers (suc a) n r.0 r.1 in
      subst (λ u. comes_before (task v a) u ≡ true) (sym r.2) (by_index v a r.0 k)
      ),
  row_order v (suc a) n,
)

if_order : (o : Option Config) (v : ℕ) → AreInOrder (tasks_if o v)
if_order None v = tt
if_order (Some s) v = row_order v 0 s.tasks

from_vertex : (past : Past) (a n : ℕ) (t : TaskId) → In t (flat_map (λ v. tasks_if (config v past) v) (numbers_from a n)) → a ≤ t.vertex.0
from_vertex past a n t h =
    let r = from-flat (λ v. tasks_if (config v past) v) t (numbers_from a n) h in
    let k : a ≤ r.0 = from_numbers a n r.0 r.1 in
    let e : t.vertex.0 ≡ r.0 = (if_listed (config r.0 past) r.0 t (shape 0 0) r.2).0 in
    omega arith

order_from : (past : Past) (a n : ℕ) → AreInOrder (flat_map (λ v. tasks_if (config v past) v) (numbers_from a n))
order_from past a zero = tt
order_from past a (suc n) =
    order-append (tasks_if (config a past) a) (flat_map (λ v. tasks_if (config v past) v) (numbers_from (suc a) n)) (if_order (config a past) a) (order_from past (suc a) n)
    (λ s t i j. (
    let e : s.vertex.0 ≡ a = (if_listed (config a past) a s (shape 0 0) i).0 in
    let k : suc a ≤ t.vertex.0 = from_vertex past (suc a) n t j in
    by_vertex s t (omega arith)
    ))

pub tasks_order : (g : Dag) (past : Past) → AreInOrder (tasks g past)
tasks_order g past = order_from past 0 (length g.vertices)
