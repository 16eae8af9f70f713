-- The tasks stand in order, and a task of a configured vertex is among them.
use Rattle.std.specs.Prelude.{◌≡◌, ◌⊎◌, ℕ, zero, suc, ◌+◌, ◌<◌, ◌≤◌, true, false, nat_lt, ⊤, List, [], ◌∷◌, ◌++◌, map, length, Option, Some, None, is_some, unwrap_or, refl}
use Rattle.std.specs.List.{flat_map}
use Rattle.std.proofs.Common.{ap, sym, arith, subst, inl, inr, ◌≢◌, eqb}
use Rattle.std.proofs.lemmas.Bool.Decides.{nat_tests, eqb_tells}
use Rattle.tez_ids.specs.declared.TaskId.{TaskId}
use Rattle.tez_ids.specs.Same.{task, same_task}
use Rattle.tez_lists.specs.Numbers.{numbers_from, In}
use Rattle.tez_lists.proofs.Members.{in_map, in_flat_map}
use Rattle.tez_plan.specs.Dag.{Dag, tasks_of as planned}
use Rattle.tez_vman.specs.declared.seen.Config.{Config}
use Rattle.tez_vman.specs.Rules.{config as shape}
use Rattle.tez_history.specs.Shape.{numbers_below, vertices, is_vertex}
use Rattle.tez_history.specs.History.{Past, config}
use Rattle.tez_history.specs.Derived.{tasks, tasks_if, is_task, task_count}
use Rattle.tez_laws.proofs.StepLaw.{both}
use Rattle.tez_router.specs.Table.{before}

-- each before all that follow
abbrev pub AreTasksInOrder : List TaskId → Type 0
AreTasksInOrder [] = ⊤
AreTasksInOrder (t ∷ ts) = ((s : TaskId) → In s ts → before t s ≡ true) × AreTasksInOrder ts

pub before_not : (s t : TaskId) → before s t ≡ true → (before t s ≡ false) × (same_task t s ≡ false) × (same_task s t ≡ false)
before_not s t h = (grind (arith, nat_tests), grind (arith, nat_tests), grind (arith, nat_tests))

-- ---- members

in-append : {X : Type 0} (x : X) (xs ys : List X) → In x (xs ++ ys) → In x xs ⊎ In x ys
in-append x [] ys h = inr h
in-append x (y ∷ xs) ys (inl e) = inl (inl e)
in-append x (y ∷ xs) ys (inr h) = by (in-append x xs ys h) where
  by : In x xs ⊎ In x ys → In x (y ∷ xs) ⊎ In x ys
  by (inl k) = inl (inr k)
  by (inr k) = inr k

pub in-flat : {X Y : Type 0} (f : X → List Y) (y : Y) (xs : List X) → In y (flat_map f xs) → (x : X) × In x xs × In y (f x)
in-flat f y [] h = absurd h
in-flat {X} {Y} f y (x ∷ xs) h = by (λ m. in-flat f y xs m) (in-append y (f x) (flat_map f xs) h) where
  by : (In y (flat_map f xs) → (z : X) × In z xs × In y (f z)) → In y (f x) ⊎ In y (flat_map f xs) → (z : X) × In z (x ∷ xs) × In y (f z)
  by ih (inl k) = (x, inl refl, k)
  by ih (inr k) = let r = ih k in (r.0, inr r.1, r.2)

pub in-mapped : {X Y : Type 0} (f : X → Y) (y : Y) (xs : List X) → In y (map f xs) → (x : X) × In x xs × (y ≡ f x)
in-mapped f y [] h = absurd h
in-mapped f y (x ∷ xs) (inl e) = (x, inl refl, e)
in-mapped f y (x ∷ xs) (inr h) = let r = in-mapped f y xs h in (r.0, inr r.1, r.2)

pub in-numbers : (a n i : ℕ) → In i (numbers_from a n) → (a ≤ i) × (i < a + n)
in-numbers a zero i h = absurd h
in-numbers a (suc n) i (inl e) = (omega (arith, e), omega (arith, e))
in-numbers a (suc n) i (inr h) = let k = in-numbers (suc a) n i h in (omega (arith, k.0), omega (arith, k.1))

numbers-in : (a n i : ℕ) → a ≤ i → i < a + n → In i (numbers_from a n)
numbers-in a zero i l h = absurd (omega arith)
numbers-in a (suc n) i l h = by (eqb_tells a i) (numbers-in (suc a) n i) where
  by : ((eqb a i ≡ true) × (a ≡ i)) ⊎ ((eqb a i ≡ false) × (a ≢ i)) → (suc a ≤ i → i < suc a + n → In i (numbers_from (suc a) n)) → (i ≡ a) ⊎ In i (numbers_from (suc a) n)
  by (inl s) ih = inl (sym s.1)
  by (inr s) ih = inr (ih (omega (arith, s.1)) (omega arith))

pub below-in : (n i : ℕ) → i < n → In i (numbers_below n)
below-in n i h = numbers-in 0 n i (omega arith) (omega arith)

-- ---- the order

tasks-of : (o : Option Config) (v : ℕ) (t : TaskId) → In t (tasks_if o v) → t.vertex.0 ≡ v
tasks-of None v t h = absurd h
tasks-of (Some s) v t h = let r = in-mapped (task v) t (numbers_below s.tasks) h in ap (λ u. u.vertex.0) r.2

row-order : (v a n : ℕ) → AreTasksInOrder (map (task v) (numbers_from a n))
row-order v a zero = tt
row-order v a (suc n) = (later, row-order v (suc a) n) where
  test : (t : TaskId) (i : ℕ) → t ≡ task v i → a < i → before (task v a) t ≡ true
  test t i e l = subst (λ u. before (task v a) u ≡ true) (sym e) (grind (arith, nat_tests))

  later : (s : TaskId) → In s (map (task v) (numbers_from (suc a) n)) → before (task v a) s ≡ true
  later s h = let r = in-mapped (task v) s (numbers_from (suc a) n) h in let k = in-numbers (suc a) n r.0 r.1 in test s r.0 r.2 (omega (arith, k.0))

if-order : (o : Option Config) (v : ℕ) → AreTasksInOrder (tasks_if o v)
if-order None v = tt
if-order (Some s) v = row-order v 0 s.tasks

join-order : (xs ys : List TaskId) → AreTasksInOrder xs → AreTasksInOrder ys → ((s t : TaskId) → In s xs → In t ys → before s t ≡ true) → AreTasksInOrder (xs ++ ys)
join-order [] ys o p h = p
join-order (x ∷ xs) ys o p h = (λ s k. by s (in-append s xs ys k), join-order xs ys o.1 p (λ s t i j. h s t (inr i) j)) where
  by : (s : TaskId) → In s xs ⊎ In s ys → before x s ≡ true
  by s (inl k) = o.0 s k
  by s (inr k) = h x s (inl refl) k

vertex-before : (s t : TaskId) → s.vertex.0 < t.vertex.0 → before s t ≡ true
vertex-before s t h = grind (arith, nat_tests)

rows-order : (past : Past) (a n : ℕ) → AreTasksInOrder (flat_map (λ v. tasks_if (config v past) v) (numbers_from a n))
rows-order past a zero = tt
rows-order past a (suc n) =
    join-order (tasks_if (config a past) a) (flat_map (λ v. tasks_if (config v past) v) (numbers_from (suc a) n)) (if-order (config a past) a) (rows-order past (suc a) n)
    (λ s t i j.
    let r = in-flat (λ v. tasks_if (config v past) v) t (numbers_from (suc a) n) j in
    let k = in-numbers (suc a) n r.0 r.1 in
    let here : s.vertex.0 ≡ a = tasks-of (config a past) a s i in
    let there : t.vertex.0 ≡ r.0 = tasks-of (config r.0 past) r.0 t r.2 in
    vertex-before s t (omega (arith, k.0)))

pub tasks-order : (g : Dag) (past : Past) → AreTasksInOrder (tasks g past)
tasks-order g past = rows-order past 0 (length g.vertices)

-- ---- membership

if-member : (o : Option Config) (t : TaskId) (plan : Config) → is_some o ≡ true → t.index < (unwrap_or o plan).tasks → In t (tasks_if o t.vertex.0)
if-member None t plan h l = cc
if-member (Some s) t plan h l = in_map (task t.vertex.0) t.index (numbers_below s.tasks) (below-in s.tasks t.index l)

is_below : (a b : ℕ) → nat_lt a b ≡ true → a < b
is_below a b h = grind (arith, nat_tests)

pub vertex_below : (g : Dag) (v : ℕ) → is_vertex g v ≡ true → v < length g.vertices
vertex_below g v h = is_below v (length g.vertices) h

pub task-member : (g : Dag) (past : Past) (t : TaskId) → is_task g past t ≡ true → is_vertex g t.vertex.0 ≡ true → In t (tasks g past)
task-member g past t h there =
    let k = both {x = is_some (config t.vertex.0 past)} h in
    in_flat_map (λ v. tasks_if (config v past) v) t.vertex.0 t (vertices g) (below-in (length g.vertices) t.vertex.0 (vertex_below g t.vertex.0 there))
    (if-member (config t.vertex.0 past) t (shape (planned g t.vertex.0) 1) k.0 (is_below t.index (task_count g t.vertex.0 past) k.1))
