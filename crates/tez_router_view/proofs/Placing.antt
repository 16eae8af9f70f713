-- An attempt that is placed stands in its place among those that wait, and has fetched nothing.
use Rattle.std.specs.Prelude.{◌≡◌, ℕ, Bool, true, false, ◌==◌, if◌then◌else◌, List, [], ◌∷◌, map, replicate, Option, Some, None, refl}
use Rattle.std.specs.List.{filter_map, cons_option, enumerate_from}
use Rattle.std.proofs.Common.{ap, sym, ◌∙◌, subst, inl, inr}
use Rattle.tez_ids.specs.declared.TaskId.{TaskId}
use Rattle.tez_ids.specs.declared.AttemptId.{AttemptId}
use Rattle.tez_ids.specs.Same.{same_task}
use Rattle.tez_events.specs.declared.Entry.TheVariants.{Placed}
use Rattle.tez_lists.specs.Numbers.{In}
use Rattle.tez_lists.proofs.Flat.{flat_map-map}
use Rattle.tez_plan.specs.Dag.{Dag, to}
use Rattle.tez_conf.specs.declared.values.ConfValues.{ConfValues}
use Rattle.tez_history.specs.Shape.{Edge, edges_to}
use Rattle.tez_history.specs.History.{Past, InQueue, stage, live, is_fetched}
use Rattle.tez_history.specs.Derived.{tasks, waiting_attempts, is_waiting, input_count}
use Rattle.tez_history.specs.Follows.{IsMade, IsAlive}
use Rattle.tez_laws.proofs.Same.{same_task-refl}
use Rattle.tez_laws.proofs.OneLive.{one_live}
use Rattle.tez_laws.proofs.Places.{queued_fetched}
use Rattle.tez_router.specs.State.{EdgeInputs, AdmittedState}
use Rattle.tez_router.specs.Table.{before, admit_in, after_admit, blank, blank_over, inputs_in}
use Rattle.tez_router_view.specs.View.{router_view, admitted_view, inputs_view, link_view, links_view, routing_view}
use Rattle.tez_router_view.proofs.Lists.{map-same, flat-if, all-false, filter_map-same}
use Rattle.tez_router_view.proofs.Edges.{inputs_same}
use Rattle.tez_router_view.proofs.Ordering.{AreTasksInOrder, before_not, tasks-order, task-member}
use Rattle.tez_router_view.proofs.Winners.{live_task_there, task_vertex}
use Rattle.tez_router_view.proofs.Waiting.{waiting_at, waiting_by_task, placed_moves, idle_live, waits_of}

-- ---- in its place

abbrev insert_at : AttemptId → List AttemptId → List AttemptId
insert_at a [] = a ∷ []
insert_at a (b ∷ bs) = if before b.task a.task then b ∷ insert_at a bs else (if same_task b.task a.task then a ∷ bs else a ∷ b ∷ bs)

abbrev with_one : AttemptId → (TaskId → Option AttemptId) → TaskId → Option AttemptId
with_one a w t = if same_task a.task t then Some a else w t

AreOfTask : (TaskId → Option AttemptId) → Type 0
AreOfTask w = (t : TaskId) (b : AttemptId) → w t ≡ Some b → b.task ≡ t

-- behind the task: as before, and it comes first
after_it : (a : AttemptId) (w : TaskId → Option AttemptId) (ts : List TaskId) → ((s : TaskId) → In s ts → before a.task s ≡ true) → AreOfTask w
    → (filter_map (with_one a w) ts ≡ filter_map w ts) × (insert_at a (filter_map w ts) ≡ a ∷ filter_map w ts)
unfolding AreOfTask
after_it a w [] h of = (refl, refl)
after_it a w (t ∷ ts) h of = by (w t) refl (after_it a w ts (λ s i. h s (inr i)) of) where
  here : before a.task t ≡ true
  here = h t (inl refl)

  other : with_one a w t ≡ w t
  other = ap (λ x. if x then Some a else w t) (before_not a.task t here).2

  first : (b : AttemptId) (bs : List AttemptId) → b.task ≡ t → insert_at a (b ∷ bs) ≡ a ∷ b ∷ bs
  first b bs e =
      ap (λ x. if x then b ∷ insert_at a bs else (if same_task b.task a.task then a ∷ bs else a ∷ b ∷ bs)) (subst (λ u. before u a.task ≡ false) (sym e) (before_not a.task t here).0)
      ∙ ap (λ x. if x then a ∷ bs else a ∷ b ∷ bs) (subst (λ u. same_task u a.task ≡ false) (sym e) (before_not a.task t here).1)

  by : (o : Option AttemptId) → w t ≡ o → (filter_map (with_one a w) ts ≡ filter_map w ts) × (insert_at a (filter_map w ts) ≡ a ∷ filter_map w ts)
      → (cons_option (with_one a w t) (filter_map (with_one a w) ts) ≡ cons_option o (filter_map w ts)) × (insert_at a (cons_option o (filter_map w ts)) ≡ a ∷ cons_option o (filter_map w ts))
  by None e ih = (ap (λ y. cons_option y (filter_map (with_one a w) ts)) (other ∙ e) ∙ ih.0, ih.1)
  by (Some b) e ih = (ap (λ y. cons_option y (filter_map (with_one a w) ts)) (other ∙ e) ∙ ap (λ ys. b ∷ ys) ih.0, first b (filter_map w ts) (of t b e))

inserted : (a : AttemptId) (w : TaskId → Option AttemptId) (ts : List TaskId) → AreTasksInOrder ts → In a.task ts → w a.task ≡ None → AreOfTask w → insert_at a (filter_map w ts) ≡ filter_map (with_one a w) ts
unfolding AreOfTask
inserted a w [] o i none of = absurd i
inserted a w (t ∷ ts) o (inl e) none of =
    let behind = after_it a w ts (λ s k. subst (λ u. before u s ≡ true) (sym e) (o.0 s k)) of in
    let here : w t ≡ None = subst (λ u. w u ≡ None) e none in
    let same : same_task a.task t ≡ true = subst (λ u. same_task a.task u ≡ true) e (same_task-refl a.task) in
    ap (λ y. insert_at a (cons_option y (filter_map w ts))) here ∙ behind.1 ∙ ap (λ ys. a ∷ ys) (sym behind.0) ∙ sym (ap (λ x. cons_option (if x then Some a else w t) (filter_map (with_one a w) ts)) same)
inserted a w (t ∷ ts) o (inr k) none of = by (w t) refl (inserted a w ts o.1 k none of) where
  by : (y : Option AttemptId) → w t ≡ y → insert_at a (filter_map w ts) ≡ filter_map (with_one a w) ts
      → insert_at a (cons_option y (filter_map w ts)) ≡ cons_option (if same_task a.task t then Some a else y) (filter_map (with_one a w) ts)
  by None e ih = ih ∙ sym (ap (λ x. cons_option (if x then Some a else None) (filter_map (with_one a w) ts)) (before_not t a.task (o.0 a.task k)).1)
  by (Some b) e ih =
      ap (λ x. if x then b ∷ insert_at a (filter_map w ts) else (if same_task b.task a.task then a ∷ filter_map w ts else a ∷ b ∷ filter_map w ts)) (subst (λ u. before u a.task ≡ true) (sym (of t b e)) (o.0 a.task k))
      ∙ ap (λ ys. b ∷ ys) ih ∙ sym (ap (λ x. cons_option (if x then Some a else Some b) (filter_map (with_one a w) ts)) (before_not t a.task (o.0 a.task k)).1)

map-insert : (g : Dag) (past : Past) (a : AttemptId) (bs : List AttemptId) → admit_in (admitted_view g past a) (map (admitted_view g past) bs) ≡ map (admitted_view g past) (insert_at a bs)
map-insert g past a [] = refl
map-insert g past a (b ∷ bs) = by (before b.task a.task) (same_task b.task a.task) (map-insert g past a bs) where
  by : (x y : Bool) → admit_in (admitted_view g past a) (map (admitted_view g past) bs) ≡ map (admitted_view g past) (insert_at a bs)
      → (if x then admitted_view g past b ∷ admit_in (admitted_view g past a) (map (admitted_view g past) bs) else (if y then admitted_view g past a ∷ map (admitted_view g past) bs else admitted_view g past a ∷ admitted_view g past b ∷ map (admitted_view g past) bs))
      ≡ map (admitted_view g past) (if x then b ∷ insert_at a bs else (if y then a ∷ bs else a ∷ b ∷ bs))
  by true y e = ap (λ ys. admitted_view g past b ∷ ys) e
  by false true e = refl
  by false false e = refl

-- ---- nothing is fetched

blank_row : (g : Dag) (past : Past) (a : AttemptId) (e : Edge) → ((d i : ℕ) → is_fetched a d i past ≡ false) → record { edge = e.0; fetched = replicate (inputs_in (routing_view g past e) a.task.index) false } ≡ inputs_view g past a e
blank_row g past a e none =
    ap (λ n. row (replicate n false)) (inputs_same g past e a.task.index) ∙ ap row (sym (all-false (λ i. is_fetched a e.0 i past) 0 (input_count g past e.1 a.task.index) (none e.0)))
  where
    row : List Bool → EdgeInputs
    row bs = record { edge = e.0; fetched = bs }

abbrev attempt_with : AttemptId → List EdgeInputs → AdmittedState
attempt_with a ys = record { attempt = a; edges = ys }

abbrev blank_inputs : Dag → Past → AttemptId → Edge → EdgeInputs
blank_inputs g past a e = record { edge = e.0; fetched = replicate (inputs_in (routing_view g past e) a.task.index) false }

pub blank_view : (g : Dag) (past : Past) (a : AttemptId) → ((d i : ℕ) → is_fetched a d i past ≡ false) → blank (links_view g past) a ≡ admitted_view g past a
blank_view g past a none =
    ap (attempt_with a)
    (flat_map-map (blank_over a) (link_view g past) (enumerate_from 0 g.edges)
    ∙ flat-if (λ e. to g e.1 == a.task.vertex.0) (blank_inputs g past a) (enumerate_from 0 g.edges)
    ∙ map-same (blank_inputs g past a) (inputs_view g past a) (edges_to g a.task.vertex.0) (λ e _. blank_row g past a e none))

-- ---- placed

pub placed_view : (g : Dag) (c : ConfValues) (past : Past) (a : AttemptId) (k : _) (p : ℕ) → IsMade g c past → stage a past ≡ InQueue → after_admit (router_view g past) a ≡ router_view g (Placed a k p ∷ past)
unfolding AreOfTask
placed_view g c past a k p m queued =
    let lives : live a.task past ≡ Some a = one_live g c past m a (subst IsAlive (sym queued) tt) in
    let there = live_task_there g c past m a.task a lives in
    ap (λ x. record (router_view g past) { admitted = admit_in x (map (admitted_view g past) (waiting_attempts g past)) }) (blank_view g past a (λ d i. queued_fetched g c past m a d i queued))
    ∙ ap (λ xs. record (router_view g past) { admitted = xs })
    (map-insert g past a (waiting_attempts g past)
    ∙ ap (λ xs. map (admitted_view g past) (insert_at a xs)) (waiting_by_task g past)
    ∙ ap (map (admitted_view g past))
    (inserted a (waiting_at past) (tasks g past) (tasks-order g past) (task-member g past a.task there (task_vertex g c past m a.task there)) (idle_live past a lives (ap is_waiting queued)) (waits_of past)
    ∙ filter_map-same (with_one a (waiting_at past)) (waiting_at (Placed a k p ∷ past)) (tasks g past) (λ t _. sym (placed_moves past a k p lives t))
    ∙ sym (waiting_by_task g (Placed a k p ∷ past))))
