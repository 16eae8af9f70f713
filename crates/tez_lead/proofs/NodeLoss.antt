-- A node's loss, place by place and task by task.
use Rattle.std.specs.Prelude.{◌≡◌, ℕ, zero, suc, ◌+◌, ◌*◌, ◌-◌, ◌<◌, ◌≤◌, ◌^◌, ◌==◌, ◌&&◌, Bool, true, false, if◌then◌else◌, List, [], ◌∷◌, ◌++◌, length, map, take, drop, slice_get, slice_set, Option, Some, None, IfSome, unwrap_or, refl, option_and_then}
use Rattle.std.specs.List.{filter, filter_map, flat_map, fold, cons_option}
use Rattle.std.specs.Option.{option_map, option_map_or}
use Rattle.std.proofs.Common.{ap, sym, ◌∙◌, subst, arith, add-zero, zero-add, inl, inr, ◌⊎◌}
use Rattle.std.proofs.lemmas.Bool.Decides.{nat_tests}
use Rattle.std.proofs.lemmas.Option.{same_Some}
use Rattle.std.proofs.lemmas.List.Elements.{filter_map-append}
use Rattle.std.proofs.lemmas.List.Sums.{fold-append}
use Rattle.tez_ids.specs.declared.TaskId.{TaskId}
use Rattle.tez_ids.specs.declared.AttemptId.{AttemptId}
use Rattle.tez_ids.specs.Same.{task, same_task}
use Rattle.tez_ids.proofs.Sameness.{same_task-true}
use Rattle.tez_lists.specs.Numbers.{numbers_from}
use Rattle.tez_history.specs.Shape.{has_edge_out}
use Rattle.tez_task.specs.declared.TaskEvent.{TaskEvent}
use Rattle.tez_task.specs.declared.TaskEvent.TheVariants.{Kill, Lose}
use Rattle.tez_task.specs.TaskState.{TaskState, HasRoom}
use Rattle.tez_task.specs.Table.{task_after}
use Rattle.tez_vertex.specs.Vertex.{Vertex}
use Rattle.tez_vertex.specs.Table.{task_of, take_by, after_take}
use Rattle.tez_master_model.specs.Vertices.{change_by, take_in}
use Rattle.tez_pool.specs.declared.place.Place.{Place}
use Rattle.tez_pool.specs.Index.{held_at}
use Rattle.tez_pool.specs.Table.{who, held_on}
use Rattle.tez_master_model.proofs.Pairs.{Pairwise, pairwise-flat, pairwise-numbers, in-map-out}
use Rattle.tez_queue.proofs.ListLemmas.{filter-flat, length_numbers}
use Rattle.tez_master_model.specs.State.{MasterState}
use Rattle.tez_master_model.specs.Read.{task_in, winner_in, is_on_slot, winners_in, lost_in}
use Rattle.tez_master_model.specs.Settled.{killed, withdrawn, without_node, after_node_loss}
use Rattle.tez_core.specs.Parts.{task_at}
use Rattle.tez_core.specs.Choosing.{count_at, lost_by, lost_at}
use Rattle.tez_lead.specs.Kept.{AreVertices}
use Rattle.tez_lead.specs.Losing.{killed_by, killed_at, withdrawn_by, withdrawn_at, tasks_in, emptied, RoomsBelow}
use Rattle.tez_lead.proofs.Lists.{long_map, tells, row_elsewhere, by_number, filter_map-same}
use Rattle.tez_lead.proofs.Tasks.{took_here, took_elsewhere, took_vertices, task_there, kill_winner, count_after, change_none, change_here, change_elsewhere, after_long}

-- ---- steps by number

pub fold_suc : {S : Type 0} (f : S → ℕ → S) (s : S) (a n : ℕ) → fold f s (numbers_from a (suc n)) ≡ f (fold f s (numbers_from a n)) (a + n)
fold_suc f s a zero = ap (f s) (sym (add-zero a))
fold_suc f s a (suc n) = let e : suc a + n ≡ a + suc n = omega arith in fold_suc f (f s a) (suc a) n ∙ ap (f (fold f (f s a) (numbers_from (suc a) n))) e

pub fold_map_suc : {S X : Type 0} (f : S → X → S) (g : ℕ → X) (s : S) (a n : ℕ) → fold f s (map g (numbers_from a (suc n))) ≡ f (fold f s (map g (numbers_from a n))) (g (a + n))
fold_map_suc f g s a zero = ap (λ k. f s (g k)) (sym (add-zero a))
fold_map_suc f g s a (suc n) = let e : suc a + n ≡ a + suc n = omega arith in fold_map_suc f g (f s (g a)) (suc a) n ∙ ap (λ k. f (fold f (f s (g a)) (map g (numbers_from (suc a) n))) (g k)) e

pub fold_flat_suc : {S X : Type 0} (f : S → X → S) (h : ℕ → List X) (s : S) (a n : ℕ)
    → fold f s (flat_map h (numbers_from a (suc n))) ≡ fold f (fold f s (flat_map h (numbers_from a n))) (h (a + n))
fold_flat_suc f h s a zero = fold-append f s (h a) [] ∙ ap (λ k. fold f s (h k)) (sym (add-zero a))
fold_flat_suc f h s a (suc n) =
    let e : suc a + n ≡ a + suc n = omega arith in
    fold-append f s (h a) (flat_map h (numbers_from (suc a) (suc n)))
    ∙ fold_flat_suc f h (fold f s (h a)) (suc a) n
    ∙ ap (λ k. fold f (fold f (fold f s (h a)) (flat_map h (numbers_from (suc a) n))) (h k)) e
    ∙ ap (λ r. fold f r (h (a + suc n))) (sym (fold-append f s (h a) (flat_map h (numbers_from (suc a) n))))

-- ---- who holds the places of a node

shift : (x : Place) (xs : List Place) (a n : ℕ) → filter_map (held_at (x ∷ xs)) (numbers_from (suc a) n) ≡ filter_map (held_at xs) (numbers_from a n)
shift x xs a zero = refl
shift x xs a (suc n) = ap (cons_option (held_at xs a)) (shift x xs (suc a) n)

nobody : (a n : ℕ) → filter_map (held_at []) (numbers_from a n) ≡ []
nobody a zero = refl
nobody a (suc n) = nobody (suc a) n

abbrev none : List Place
none = []

drop_nothing : (a n : ℕ) → take n (drop a none) ≡ []
drop_nothing zero zero = refl
drop_nothing zero (suc n) = refl
drop_nothing (suc a) zero = refl
drop_nothing (suc a) (suc n) = refl

held_from : (xs : List Place) (a n : ℕ) → filter_map (held_at xs) (numbers_from a n) ≡ filter_map who (take n (drop a xs))
held_from [] a n = nobody a n ∙ sym (ap (filter_map who) (drop_nothing a n))
held_from (x ∷ xs) zero zero = refl
held_from (x ∷ xs) zero (suc n) = ap (cons_option (who x)) (shift x xs 0 n ∙ held_from xs 0 n)
held_from (x ∷ xs) (suc a) n = shift x xs a n ∙ held_from xs a n

kill_fold : (m : MasterState) (ns : List ℕ) → fold killed_at m ns ≡ fold killed m (filter_map (held_at m.pool.places) ns)
kill_fold m [] = refl
kill_fold m (n ∷ ns) = by (kill_fold m ns) (λ a. kill_fold (killed m a) ns) (held_at m.pool.places n) where
  by : fold killed_at m ns ≡ fold killed m (filter_map (held_at m.pool.places) ns) → ((a : AttemptId) → fold killed_at (killed m a) ns ≡ fold killed (killed m a) (filter_map (held_at m.pool.places) ns))
      → (o : Option AttemptId) → fold killed_at (killed_by m o) ns ≡ fold killed m (cons_option o (filter_map (held_at m.pool.places) ns))
  by here there None = here
  by here there (Some a) = there a

pub kills_on : (m : MasterState) (slot per : ℕ) → per ≡ m.pool.per_node → fold killed_at m (numbers_from (slot * per) per) ≡ fold killed m (held_on m.pool slot)
kills_on m slot per e =
    let first = slot * m.pool.per_node in
    let many : m.pool.per_node ≡ (first + m.pool.per_node) - first = omega arith in
    ap (λ p. fold killed_at m (numbers_from (slot * p) p)) e
    ∙ kill_fold m (numbers_from first m.pool.per_node)
    ∙ ap (fold killed m) (held_from m.pool.places first m.pool.per_node ∙ ap (λ n. filter_map who (take n (drop first m.pool.places))) many)

-- ---- the winner of a task, and where its pieces lie

winner_task : (m : MasterState) (t : TaskId) (w : AttemptId) → AreVertices m.plan m.vertices → winner_in m t ≡ Some w → w.task ≡ t
winner_task m t w k h = by (task_at m.vertices t) refl where
  by : (o : Option TaskState) → task_at m.vertices t ≡ o → w.task ≡ t
  by None e = let none : winner_in m t ≡ None = ap (option_and_then (λ (x : TaskState). x.winner)) e in cc
  by (Some s) e = (task_there m.plan m.vertices t s k e).winner_is w (sym (ap (option_and_then (λ (x : TaskState). x.winner)) e) ∙ h)

lost_winner : (m : MasterState) (slot : ℕ) (o : Option AttemptId) (w : AttemptId) → lost_by m slot o ≡ Some w → o ≡ Some w
lost_winner m slot None w h = h
lost_winner m slot (Some x) w h = by (is_on_slot m slot x) h where
  by : (b : Bool) → (if b then Some x else None) ≡ Some w → Some x ≡ Some w
  by true e = e
  by false e = cc

later_lost : (m : MasterState) (w : AttemptId) (slot : ℕ) (s : TaskId) → AreVertices m.plan m.vertices → same_task w.task s ≡ false → lost_at (withdrawn m w) slot s ≡ lost_at m slot s
later_lost m w slot s k ne =
    ap (λ o. lost_by (withdrawn m w) slot (option_and_then (λ (x : TaskState). x.winner) o)) (took_elsewhere m.vertices w.task s (Lose w) ne) ∙ by (winner_in m s) refl
  where
    by : (o : Option AttemptId) → winner_in m s ≡ o → lost_by (withdrawn m w) slot o ≡ lost_by m slot o
    by None e = refl
    by (Some x) e =
        let apart : same_task w.task x.task ≡ false = subst (λ t. same_task w.task t ≡ false) (sym (winner_task m s x k e)) ne in
        ap (λ o. if has_edge_out m.plan x.task.vertex.0 && option_map_or (λ n. n == slot) (unwrap_or o None) false then Some x else None)
        (row_elsewhere m.locations w.task.vertex.0 w.task.index x.task.vertex.0 x.task.index None apart)

abbrev pub Apart : TaskId → TaskId → Type 0
Apart t s = same_task t s ≡ false

withdraw_fold : (slot : ℕ) (ts : List TaskId) (m : MasterState) → AreVertices m.plan m.vertices → Pairwise Apart ts → fold (withdrawn_at slot) m ts ≡ fold withdrawn m (filter_map (lost_at m slot) ts)
withdraw_fold slot [] m k apart = refl
withdraw_fold slot (t ∷ ts) m k apart = by (withdraw_fold slot ts m k apart.1) (λ w. withdraw_fold slot ts (withdrawn m w) (took_vertices m.plan m.vertices w.task (Lose w) k) apart.1) (lost_at m slot t) refl where
  by : fold (withdrawn_at slot) m ts ≡ fold withdrawn m (filter_map (lost_at m slot) ts)
      → ((w : AttemptId) → fold (withdrawn_at slot) (withdrawn m w) ts ≡ fold withdrawn (withdrawn m w) (filter_map (lost_at (withdrawn m w) slot) ts))
      → (o : Option AttemptId) → lost_at m slot t ≡ o → fold (withdrawn_at slot) (withdrawn_by m o) ts ≡ fold withdrawn m (cons_option o (filter_map (lost_at m slot) ts))
  by here there None e = here
  by here there (Some w) e =
      let at : w.task ≡ t = winner_task m t w k (lost_winner m slot (winner_in m t) w e) in
      there w
      ∙ ap (fold withdrawn (withdrawn m w)) (filter_map-same (lost_at (withdrawn m w) slot) (lost_at m slot) ts (λ s i. later_lost m w slot s k (subst (λ u. same_task u s ≡ false) (sym at) (apart.0 s i))))

-- ---- the winners by task

lost_row : (m : MasterState) (slot v a : ℕ) (xs : List TaskState) → ((k : ℕ) (s : TaskState) → slice_get xs k ≡ Some s → lost_at m slot (task v (a + k)) ≡ lost_by m slot s.winner)
    → filter_map (lost_at m slot) (map (task v) (numbers_from a (length xs))) ≡ filter (is_on_slot m slot) (filter_map (λ t. t.winner) xs)
lost_row m slot v a [] is = refl
lost_row m slot v a (x ∷ xs) is =
    ap (λ o. cons_option o (filter_map (lost_at m slot) (map (task v) (numbers_from (suc a) (length xs))))) (ap (λ i. lost_at m slot (task v i)) (sym (add-zero a)) ∙ is 0 x refl)
    ∙ ap (cons_option (lost_by m slot x.winner)) (lost_row m slot v (suc a) xs (λ k s e. let next : suc a + k ≡ a + suc k = omega arith in ap (λ i. lost_at m slot (task v i)) next ∙ is (suc k) s e))
    ∙ by x.winner
  where
    at : (w : AttemptId) (b : Bool) → cons_option (if b then Some w else None) (filter (is_on_slot m slot) (filter_map (λ t. t.winner) xs)) ≡ (if b then w ∷ filter (is_on_slot m slot) (filter_map (λ t. t.winner) xs) else filter (is_on_slot m slot) (filter_map (λ t. t.winner) xs))
    at w true = refl
    at w false = refl

    by : (o : Option AttemptId) → cons_option (lost_by m slot o) (filter (is_on_slot m slot) (filter_map (λ t. t.winner) xs)) ≡ filter (is_on_slot m slot) (cons_option o (filter_map (λ t. t.winner) xs))
    by None = refl
    by (Some w) = at w (is_on_slot m slot w)

filter_map-flat : {X Y Z : Type 0} (f : Y → Option Z) (h : X → List Y) (xs : List X) → filter_map f (flat_map h xs) ≡ flat_map (λ x. filter_map f (h x)) xs
filter_map-flat f h [] = refl
filter_map-flat f h (x ∷ xs) = filter_map-append f (h x) (flat_map h xs) ∙ ap (λ zs. filter_map f (h x) ++ zs) (filter_map-flat f h xs)

lost_read : (m : MasterState) (slot : ℕ) → filter_map (lost_at m slot) (flat_map (tasks_in m) (numbers_from 0 (length m.vertices))) ≡ lost_in m slot
lost_read m slot =
    filter_map-flat (lost_at m slot) (tasks_in m) (numbers_from 0 (length m.vertices))
    ∙ by_number (λ (x : Vertex). filter (is_on_slot m slot) (filter_map (λ t. t.winner) x.tasks)) (λ v. filter_map (lost_at m slot) (tasks_in m v)) m.vertices 0
    (λ v x e. ap (λ u. filter_map (lost_at m slot) (tasks_in m u)) (zero-add v) ∙ row v x e)
    ∙ sym (filter-flat (is_on_slot m slot) (λ (x : Vertex). filter_map (λ t. t.winner) x.tasks) m.vertices)
  where
    row : (v : ℕ) (x : Vertex) → slice_get m.vertices v ≡ Some x → filter_map (lost_at m slot) (tasks_in m v) ≡ filter (is_on_slot m slot) (filter_map (λ t. t.winner) x.tasks)
    row v x e =
        ap (λ (o : Option Vertex). filter_map (lost_at m slot) (map (task v) (numbers_from 0 (option_map_or (λ (y : Vertex). length y.tasks) o 0)))) e
        ∙ lost_row m slot v 0 x.tasks
        (λ i s g. ap (λ j. lost_at m slot (task v j)) (zero-add i)
        ∙ ap (λ (o : Option Vertex). lost_by m slot (option_and_then (λ (y : TaskState). y.winner) (option_and_then (λ (y : Vertex). task_of y i) o))) e
        ∙ ap (λ (o : Option TaskState). lost_by m slot (option_and_then (λ (y : TaskState). y.winner) o)) g)

tasks_apart : (m : MasterState) (n : ℕ) → Pairwise Apart (flat_map (tasks_in m) (numbers_from 0 n))
tasks_apart m n = pairwise-flat Apart (tasks_in m)
    (λ v. pairwise-numbers Apart (task v) (λ i j l. row_apart v i j l) 0 (count_at m.vertices v))
    (λ u v y z l i j. let p = in-map-out (task u) y (numbers_from 0 (count_at m.vertices u)) i in let q = in-map-out (task v) z (numbers_from 0 (count_at m.vertices v)) j in
    subst (λ s. Apart s z) (sym p.2) (subst (λ s. Apart (task u p.0) s) (sym q.2) (vertex_apart u v p.0 q.0 l))) 0 n
  where
    row_apart : (v i j : ℕ) → i < j → Apart (task v i) (task v j)
    row_apart v i j l = grind (arith, nat_tests)

    vertex_apart : (u v i j : ℕ) → u < v → Apart (task u i) (task v j)
    vertex_apart u v i j l = grind (arith, nat_tests)

pub withdraws_on : (m : MasterState) (slot n : ℕ) → AreVertices m.plan m.vertices → n ≡ length m.plan.vertices
    → fold (withdrawn_at slot) m (flat_map (tasks_in m) (numbers_from 0 n)) ≡ fold withdrawn m (lost_in m slot)
withdraws_on m slot n k e =
    ap (λ c. fold (withdrawn_at slot) m (flat_map (tasks_in m) (numbers_from 0 c))) (e ∙ sym k.sized)
    ∙ withdraw_fold slot (flat_map (tasks_in m) (numbers_from 0 (length m.vertices))) m k (tasks_apart m (length m.vertices))
    ∙ ap (fold withdrawn m) (lost_read m slot)

-- ---- kills keep the winners

flat_set : {X Y : Type 0} (f : X → List Y) (xs : List X) (i : ℕ) (x y : X) → slice_get xs i ≡ Some x → f y ≡ f x → flat_map f (slice_set xs i y) ≡ flat_map f xs
flat_set f [] i x y h e = refl
flat_set f (z ∷ zs) zero x y h e = ap (λ r. r ++ flat_map f zs) (e ∙ ap f (same_Some x z (sym h)))
flat_set f (z ∷ zs) (suc i) x y h e = ap (λ r. f z ++ r) (flat_set f zs i x y h e)

picked_set : {X Y : Type 0} (f : X → Option Y) (xs : List X) (i : ℕ) (x y : X) → slice_get xs i ≡ Some x → f y ≡ f x → filter_map f (slice_set xs i y) ≡ filter_map f xs
picked_set f [] i x y h e = refl
picked_set f (z ∷ zs) zero x y h e = ap (λ o. cons_option o (filter_map f zs)) (e ∙ ap f (same_Some x z (sym h)))
picked_set f (z ∷ zs) (suc i) x y h e = ap (cons_option (f z)) (picked_set f zs i x y h e)

kill_keeps : (m : MasterState) (a : AttemptId) → AreVertices m.plan m.vertices → winners_in (killed m a) ≡ winners_in m
kill_keeps m a k = by (slice_get m.vertices a.task.vertex.0) refl where
  one : Vertex → List AttemptId
  one x = filter_map (λ (t : TaskState). t.winner) x.tasks

  at : (x : Vertex) → slice_get m.vertices a.task.vertex.0 ≡ Some x → (o : Option TaskState) → task_of x a.task.index ≡ o → one (take_by x a.task.index (Kill a) o) ≡ one x
  at x e None h = refl
  at x e (Some s) h = picked_set (λ (t : TaskState). t.winner) x.tasks a.task.index s (task_after s (Kill a)) h (kill_winner (task a.task.vertex.0 a.task.index) s a ((k.each a.task.vertex.0 x e).tasks a.task.index s h))

  by : (o : Option Vertex) → slice_get m.vertices a.task.vertex.0 ≡ o → flat_map one (change_by m.vertices a.task.vertex.0 (λ s. after_take s a.task.index (Kill a)) o) ≡ flat_map one m.vertices
  by None e = refl
  by (Some x) e = flat_set one m.vertices a.task.vertex.0 x (after_take x a.task.index (Kill a)) e (at x e (task_of x a.task.index) refl)

pub kills_keep : (slot : ℕ) (held : List AttemptId) (m : MasterState) → AreVertices m.plan m.vertices → lost_in (fold killed m held) slot ≡ lost_in m slot
kills_keep slot [] m k = refl
kills_keep slot (a ∷ held) m k =
    kills_keep slot held (killed m a) (took_vertices m.plan m.vertices a.task (Kill a) k)
    ∙ ap (filter (is_on_slot m slot)) (kill_keeps m a k)

-- ---- the tasks that there are stay the same

count_took : (vs : List Vertex) (t : TaskId) (e : TaskEvent) (v : ℕ) → count_at (take_in vs t e) v ≡ count_at vs v
count_took vs t e v = by (tells t.vertex.0 v) where
  f : Vertex → Vertex
  f s = after_take s t.index e

  at : t.vertex.0 ≡ v → (o : Option Vertex) → slice_get vs t.vertex.0 ≡ o → count_at (take_in vs t e) v ≡ count_at vs v
  at q None h = ap (λ ws. count_at ws v) (change_none vs t.vertex.0 f h)
  at q (Some x) h =
      ap (count_at (take_in vs t e)) (sym q)
      ∙ ap (λ (o : Option Vertex). option_map_or (λ (y : Vertex). length y.tasks) o 0) (change_here vs t.vertex.0 f x h)
      ∙ after_long x t.index e
      ∙ sym (ap (λ (o : Option Vertex). option_map_or (λ (y : Vertex). length y.tasks) o 0) h)
      ∙ ap (count_at vs) q

  by : (t.vertex.0 ≡ v) ⊎ (t.vertex.0 ≡ v → ⊥) → count_at (take_in vs t e) v ≡ count_at vs v
  by (inl q) = at q (slice_get vs t.vertex.0) refl
  by (inr n) = ap (λ (o : Option Vertex). option_map_or (λ (y : Vertex). length y.tasks) o 0) (change_elsewhere vs t.vertex.0 v f n)

count_withdrawn : (slot : ℕ) (m : MasterState) (t : TaskId) (v : ℕ) → count_at (withdrawn_at slot m t).vertices v ≡ count_at m.vertices v
count_withdrawn slot m t v = by (lost_at m slot t) where
  by : (o : Option AttemptId) → count_at (withdrawn_by m o).vertices v ≡ count_at m.vertices v
  by None = refl
  by (Some w) = count_took m.vertices w.task (Lose w) v

pub count_fold : (slot : ℕ) (ts : List TaskId) (m : MasterState) (v : ℕ) → count_at (fold (withdrawn_at slot) m ts).vertices v ≡ count_at m.vertices v
count_fold slot [] m v = refl
count_fold slot (t ∷ ts) m v = count_fold slot ts (withdrawn_at slot m t) v ∙ count_withdrawn slot m t v

pub withdraw_step : (m l n : MasterState) (slot v : ℕ) → l ≡ fold (withdrawn_at slot) m (flat_map (tasks_in m) (numbers_from 0 v)) → n ≡ fold (withdrawn_at slot) l (tasks_in l v)
    → n ≡ fold (withdrawn_at slot) m (flat_map (tasks_in m) (numbers_from 0 (v + 1)))
withdraw_step m l n slot v e is =
    let next : v + 1 ≡ suc v = omega arith in
    is
    ∙ ap (λ k. fold (withdrawn_at slot) l (map (task v) (numbers_from 0 k))) (ap (λ (s : MasterState). count_at s.vertices v) e ∙ count_fold slot (flat_map (tasks_in m) (numbers_from 0 v)) m v)
    ∙ ap (λ s. fold (withdrawn_at slot) s (tasks_in m v)) e
    ∙ sym (ap (λ k. fold (withdrawn_at slot) m (flat_map (tasks_in m) (numbers_from 0 k))) next
    ∙ fold_flat_suc (withdrawn_at slot) (tasks_in m) m 0 v
    ∙ ap (λ k. fold (withdrawn_at slot) (fold (withdrawn_at slot) m (flat_map (tasks_in m) (numbers_from 0 v))) (tasks_in m k)) (zero-add v))

-- ---- the whole loss

killed_pool : (held : List AttemptId) (m : MasterState) → (fold killed m held).pool ≡ m.pool
killed_pool [] m = refl
killed_pool (a ∷ held) m = killed_pool held (killed m a)

withdrawn_pool : (lost : List AttemptId) (m : MasterState) → (fold withdrawn m lost).pool ≡ m.pool
withdrawn_pool [] m = refl
withdrawn_pool (w ∷ lost) m = withdrawn_pool lost (withdrawn m w)

pub emptied_pool : (m : MasterState) (slot : ℕ) → (emptied m slot).pool ≡ m.pool
emptied_pool m slot = by m.committing where
  by : (b : Bool) → (if b then m else fold withdrawn (fold killed m (held_on m.pool slot)) (lost_in m slot)).pool ≡ m.pool
  by true = refl
  by false = withdrawn_pool (lost_in m slot) (fold killed m (held_on m.pool slot)) ∙ killed_pool (held_on m.pool slot) m

pub loss_is : (m : MasterState) (slot : ℕ) → without_node (emptied m slot) slot ≡ after_node_loss m slot
loss_is m slot = by m.committing where
  by : (b : Bool) → without_node (if b then m else fold withdrawn (fold killed m (held_on m.pool slot)) (lost_in m slot)) slot
      ≡ (if b then without_node m slot else without_node (fold withdrawn (fold killed m (held_on m.pool slot)) (lost_in m slot)) slot)
  by true = refl
  by false = refl

pub emptied_late : (m : MasterState) (slot : ℕ) → m.committing ≡ true → m ≡ emptied m slot
emptied_late m slot e = sym (ap (λ b. if b then m else fold withdrawn (fold killed m (held_on m.pool slot)) (lost_in m slot)) e)

pub emptied_early : (m k n : MasterState) (slot : ℕ) → AreVertices m.plan m.vertices → m.committing ≡ false → k ≡ fold killed m (held_on m.pool slot) → n ≡ fold withdrawn k (lost_in k slot) → n ≡ emptied m slot
emptied_early m k n slot fit c e is =
    is ∙ ap (λ s. fold withdrawn s (lost_in s slot)) e
    ∙ ap (fold withdrawn (fold killed m (held_on m.pool slot))) (kills_keep slot (held_on m.pool slot) m fit)
    ∙ sym (ap (λ b. if b then m else fold withdrawn (fold killed m (held_on m.pool slot)) (lost_in m slot)) c)

-- ---- rooms

wider_one : (o : Option TaskState) (b c : ℕ) → b ≤ c → IfSome o (λ s. s.queued < b) → IfSome o (λ s. s.queued < c)
wider_one None b c l h = tt
wider_one (Some s) b c l h = omega arith

pub wider : (m : MasterState) (b c : ℕ) → b ≤ c → RoomsBelow b m → RoomsBelow c m
wider m b c l h = λ t. wider_one (task_in m t) b c l (h t)

more_one : (o : Option TaskState) (e : TaskEvent) (b : ℕ) → IfSome o (λ s. s.queued < b) → IfSome (option_map (λ s. task_after s e) o) (λ s. s.queued < suc b)
more_one None e b h = tt
more_one (Some s) e b h = let c = count_after s e in omega arith

took_below : (vs : List Vertex) (t : TaskId) (e : TaskEvent) (b : ℕ) → ((u : TaskId) → IfSome (task_at vs u) (λ s. s.queued < b)) → (u : TaskId) → IfSome (task_at (take_in vs t e) u) (λ s. s.queued < suc b)
took_below vs t e b h u = by (same_task t u) refl where
  by : (c : Bool) → same_task t u ≡ c → IfSome (task_at (take_in vs t e) u) (λ s. s.queued < suc b)
  by true q = subst (λ r. IfSome (task_at (take_in vs t e) r) (λ s. s.queued < suc b)) (same_task-true t u q) (subst (λ o. IfSome o (λ s. s.queued < suc b)) (sym (took_here vs t e)) (more_one (task_at vs t) e b (h t)))
  by false q = subst (λ o. IfSome o (λ s. s.queued < suc b)) (sym (took_elsewhere vs t u e q)) (wider_one (task_at vs u) b (suc b) (omega arith) (h u))

pub killed_below : (m : MasterState) (p b : ℕ) → RoomsBelow b m → RoomsBelow (suc b) (killed_at m p)
killed_below m p b h = by (held_at m.pool.places p) where
  by : (o : Option AttemptId) → RoomsBelow (suc b) (killed_by m o)
  by None = wider m b (suc b) (omega arith) h
  by (Some a) = took_below m.vertices a.task (Kill a) b h

pub withdrawn_below : (slot : ℕ) (m : MasterState) (t : TaskId) (b : ℕ) → RoomsBelow b m → RoomsBelow (suc b) (withdrawn_at slot m t)
withdrawn_below slot m t b h = by (lost_at m slot t) where
  by : (o : Option AttemptId) → RoomsBelow (suc b) (withdrawn_by m o)
  by None = wider m b (suc b) (omega arith) h
  by (Some w) = took_below m.vertices w.task (Lose w) b h

pub fold_below : {X : Type 0} (f : MasterState → X → MasterState) → ((m : MasterState) (x : X) (b : ℕ) → RoomsBelow b m → RoomsBelow (suc b) (f m x))
    → (xs : List X) (m : MasterState) (b : ℕ) → RoomsBelow b m → RoomsBelow (b + length xs) (fold f m xs)
fold_below f each [] m b h = subst (λ c. RoomsBelow c m) (sym (add-zero b)) h
fold_below f each (x ∷ xs) m b h = let e : suc b + length xs ≡ b + suc (length xs) = omega arith in subst (λ c. RoomsBelow c (fold f (f m x) xs)) e (fold_below f each xs (f m x) (suc b) (each m x b h))

room_one : (o : Option TaskState) → IfSome o (λ s. s.queued < 2 ^ 63 + 2 ^ 62) → IfSome o HasRoom
room_one None h = tt
room_one (Some s) h = omega arith

pub room_for : (m : MasterState) (t : TaskId) → RoomsBelow (2 ^ 63 + 2 ^ 62) m → IfSome (task_in m t) HasRoom
room_for m t h = room_one (task_in m t) (h t)

-- after so many tasks of a vertex
pub row_below : (m n : MasterState) (slot v i b c : ℕ) → n ≡ fold (withdrawn_at slot) m (map (task v) (numbers_from 0 i)) → RoomsBelow b m → b + i ≤ c → RoomsBelow c n
row_below m n slot v i b c e h l =
    let ts = map (task v) (numbers_from 0 i) in
    let long : length (map (task v) (numbers_from 0 i)) ≡ i = long_map (task v) 0 i in
    subst (RoomsBelow c) (sym e) (wider (fold (withdrawn_at slot) m ts) (b + length (map (task v) (numbers_from 0 i))) c (omega arith) (fold_below (withdrawn_at slot) (withdrawn_below slot) (map (task v) (numbers_from 0 i)) m b h))

-- after so many places
pub places_below : (m n : MasterState) (first i b c : ℕ) → n ≡ fold killed_at m (numbers_from first i) → RoomsBelow b m → b + i ≤ c → RoomsBelow c n
places_below m n first i b c e h l =
    let long = length_numbers first i in
    subst (RoomsBelow c) (sym e) (wider (fold killed_at m (numbers_from first i)) (b + length (numbers_from first i)) c (omega arith) (fold_below killed_at killed_below (numbers_from first i) m b h))
