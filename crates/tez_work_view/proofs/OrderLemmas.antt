-- The order of an attempt makes what the history says that the attempt makes.
use Rattle.std.specs.Prelude.{◌≡◌, ℕ, zero, suc, ◌+◌, ◌==◌, ◌&&◌, Bool, true, false, IsTrue, if◌then◌else◌, List, [], ◌∷◌, ◌++◌, slice_get, Option, Some, None, is_some, unwrap_or, refl, ◌⊎◌, ◌<◌, ◌≤◌, length}
use Rattle.std.specs.List.{flat_map, enumerate_from}
use Rattle.std.specs.Option.{option_map, option_map_or}
use Rattle.std.proofs.Common.{inl, inr, ap, sym, ◌∙◌, arith, subst, get_or}
use Rattle.std.proofs.lemmas.Bool.{eq-eqb}
use Rattle.std.proofs.lemmas.Option.{same_Some, slice_get_cases}
use Rattle.tez_ids.specs.declared.AttemptId.{AttemptId}
use Rattle.tez_ids.specs.Same.{same_attempt}
use Rattle.tez_lists.specs.Numbers.{In}
use Rattle.tez_lists.proofs.Members.{in_filter}
use Rattle.tez_record.specs.Bag.{sort}
use Rattle.tez_plan.specs.Dag.{Dag, to, tasks_of as planned}
use Rattle.tez_plan.specs.declared.parts.EdgeSpec.{EdgeSpec}
use Rattle.tez_plan.specs.declared.parts.VertexSpec.{VertexSpec}
use Rattle.tez_conf.specs.declared.values.ConfValues.{ConfValues}
use Rattle.tez_vman.specs.declared.seen.Config.{Config}
use Rattle.tez_vman.specs.Rules.{config as shape}
use Rattle.tez_values.specs.Program.{output, first_bad, is_bad}
use Rattle.tez_events.specs.declared.Entry.TheVariants.{Opened, Over, Stands, Configured, Queued, Placed, Fetched, Ordered, Succeeded, Failed, Killed, Stopped}
use Rattle.tez_history.specs.Shape.{Edge, edges_to, numbers_below, is_vertex}
use Rattle.tez_history.specs.History.{Past, Stage, Unknown, InQueue, Waits, Runs, Ended, stage, sent, config}
use Rattle.tez_history.specs.Derived.{is_processing, is_waiting, task_count, input_count, all_fetched}
use Rattle.tez_history.specs.Follows.{IsMade, IsPlaced}
use Rattle.tez_laws.proofs.Same.{same_attempt-true}
use Rattle.tez_laws.proofs.OneLive.{running_alive, placed_alive}
use Rattle.tez_laws.proofs.Ranges.{configured_is_vertex}
use Rattle.tez_laws.proofs.StepLaw.{below}
use Rattle.tez_router_view.proofs.Edges.{edge_in, edge_target}
use Rattle.tez_meaning.specs.Jobs.{Job}
use Rattle.tez_contents.specs.Contents.{Records, made, copied, met_bad, piece_over, reads, fetched_over, worked, reads_bad, number_of}
use Rattle.tez_orders.specs.Orders.{OrderParts}
use Rattle.tez_orders.specs.Outcomes.{value_of, bad_of, reads_of}
use Rattle.tez_assembly.specs.Order.{order_for}
use Rattle.tez_work_view.specs.Holdings.{gathered, order_view}
use Rattle.tez_work_view.proofs.Copies.{gathered_is_copied}
use Rattle.tez_work_view.proofs.Fetched.{config_stays, alive_configured}

-- ---- edges by their numbers

pub edge_numbered : {X : Type 0} (k : ℕ) (xs : List X) (e : ℕ × X) → In {X = ℕ × X} e (enumerate_from k xs) → (n : ℕ) × (e.0 ≡ k + n) × (slice_get xs n ≡ Some e.1)
edge_numbered k [] e h = absurd h
edge_numbered {X} k (x ∷ xs) e (inl h) =
    let a : e.0 ≡ k = ap (λ (p : ℕ × X). p.0) h in
    let b : e.1 ≡ x = ap (λ (p : ℕ × X). p.1) h in
    (0, omega (arith, a), ap Some (sym b))
edge_numbered k (x ∷ xs) e (inr h) = let r = edge_numbered (k + 1) xs e h in (suc r.0, omega (arith, r.1), r.2)

pub edge_at : (g : Dag) (e : Edge) → In e (enumerate_from 0 g.edges) → slice_get g.edges e.0 ≡ Some e.1
edge_at g e h = let r = edge_numbered 0 g.edges e h in (let same : e.0 ≡ r.0 = omega (arith, r.1) in ap (slice_get g.edges) same ∙ r.2)

numbered_edge : {X : Type 0} (x : X) (k n : ℕ) (xs : List X) → slice_get xs n ≡ Some x → In {X = ℕ × X} (k + n, x) (enumerate_from k xs)
numbered_edge x k n [] h = cc
numbered_edge {X} x k zero (y ∷ xs) h =
    let e : x ≡ y = (let z : Some y ≡ Some x = h in cc) in
    let z : k + 0 ≡ k = omega arith in
    inl (rw (z, e) refl)
numbered_edge {X} x k (suc n) (y ∷ xs) h =
    let z : k + suc n ≡ k + 1 + n = omega arith in
    inr (subst (λ m. In {X = ℕ × X} (m, x) (enumerate_from (k + 1) xs)) (sym z) (numbered_edge x (k + 1) n xs h))

edge_there : (g : Dag) (v n : ℕ) (e : EdgeSpec) → slice_get g.edges n ≡ Some e → (to g e == v) ≡ true → In {X = Edge} (n, e) (edges_to g v)
edge_there g v n e h t =
    let z : 0 + n ≡ n = omega arith in
    in_filter {X = Edge} (λ d. to g d.1 == v) (n, e) (enumerate_from 0 g.edges) (subst (λ m. In {X = Edge} (m, e) (enumerate_from 0 g.edges)) z (numbered_edge e 0 n g.edges h)) t

-- ---- what orders are known to make

pub record OrdersRead (job : Job) : Type 0 where
  pub numbers : (e : Edge) → In e (enumerate_from 0 job.plan.edges) → number_of job.plan e.1 ≡ e.0
  pub reads : (past : Past) (a : AttemptId) (p : ℕ) (copy : ℕ → Records) (taken : ℕ → ℕ → Records) (s : VertexSpec) → slice_get job.plan.vertices a.task.vertex.0 ≡ Some s
      → ((e : Edge) → In e (edges_to job.plan a.task.vertex.0) → fetched_over job past a.task.index taken e.1 ≡ copy e.0)
      → reads_of (order_for job (task_count job.plan a.task.vertex.0 past) a p copy s) ≡ reads job past a.task taken s
  pub value : (tasks : ℕ) (a : AttemptId) (p : ℕ) (copy other : ℕ → Records) (s : VertexSpec) → ((n : ℕ) → sort (copy n) ≡ sort (other n)) → value_of (order_for job tasks a p copy s) ≡ value_of (order_for job tasks a p other s)
  pub bad : (tasks : ℕ) (a : AttemptId) (p : ℕ) (copy other : ℕ → Records) (s : VertexSpec) → ((n : ℕ) → sort (copy n) ≡ sort (other n)) → bad_of (order_for job tasks a p copy s) ≡ bad_of (order_for job tasks a p other s)

-- what is copied over an edge into the vertex, and over another what is gathered
abbrev copy_by : Job → Past → AttemptId → ℕ → Option EdgeSpec → Records
copy_by job past a n None = gathered job a n past
copy_by job past a n (Some e) = if to job.plan e == a.task.vertex.0 then flat_map (λ i. copied job a n i past) (numbers_below (input_count job.plan past e a.task.index)) else gathered job a n past

abbrev copy_of : Job → Past → AttemptId → ℕ → Records
copy_of job past a n = copy_by job past a n (slice_get job.plan.edges n)

same_copy : (job : Job) (c : ConfValues) (past : Past) (a : AttemptId) → IsMade job.plan c past → all_fetched job.plan past a ≡ true → (n : ℕ) → sort (gathered job a n past) ≡ sort (copy_of job past a n)
same_copy job c past a m all n = by (slice_get job.plan.edges n) refl where
  at : (e : EdgeSpec) → slice_get job.plan.edges n ≡ Some e → (x : Bool) → (to job.plan e == a.task.vertex.0) ≡ x
      → sort (gathered job a n past) ≡ sort (if x then flat_map (λ i. copied job a n i past) (numbers_below (input_count job.plan past e a.task.index)) else gathered job a n past)
  at e h true t = gathered_is_copied job c past a (n, e) m (edge_there job.plan a.task.vertex.0 n e h t) all
  at e h false t = refl

  by : (o : Option EdgeSpec) → slice_get job.plan.edges n ≡ o → sort (gathered job a n past) ≡ sort (copy_by job past a n o)
  by None h = refl
  by (Some e) h = at e h (to job.plan e == a.task.vertex.0) refl

taken_over : (job : Job) (past : Past) (a : AttemptId) → OrdersRead job → (e : Edge) → In e (edges_to job.plan a.task.vertex.0) → fetched_over job past a.task.index (λ n i. copied job a n i past) e.1 ≡ copy_of job past a e.0
taken_over job past a law e h =
    let there = edge_in job.plan a.task.vertex.0 e h in
    ap (λ n. flat_map (λ i. copied job a n i past) (numbers_below (input_count job.plan past e.1 a.task.index))) (law.numbers e there)
    ∙ sym (ap (λ b. if b then flat_map (λ i. copied job a e.0 i past) (numbers_below (input_count job.plan past e.1 a.task.index)) else gathered job a e.0 past) (eq-eqb (to job.plan e.1) a.task.vertex.0 (edge_target job.plan a.task.vertex.0 e h)))
    ∙ sym (ap (copy_by job past a e.0) (edge_at job.plan e there))

-- ---- at the order

abbrev value_for : Job → AttemptId → ℕ → ℕ → (ℕ → Records) → Records
value_for job a p t copy = option_map_or (λ s. value_of (order_for job t a p copy s)) (slice_get job.plan.vertices a.task.vertex.0) []

abbrev bad_for : Job → AttemptId → ℕ → ℕ → (ℕ → Records) → Bool
bad_for job a p t copy = option_map_or (λ s. is_some (bad_of (order_for job t a p copy s))) (slice_get job.plan.vertices a.task.vertex.0) false

worked_so : (job : Job) (c : ConfValues) (past : Past) (a : AttemptId) (p : ℕ) → OrdersRead job → IsMade job.plan c past → all_fetched job.plan past a ≡ true
    → worked job past a.task (λ n i. copied job a n i past) ≡ value_for job a p (task_count job.plan a.task.vertex.0 past) (λ n. gathered job a n past)
worked_so job c past a p law m all = by (slice_get job.plan.vertices a.task.vertex.0) refl where
  by : (o : Option VertexSpec) → slice_get job.plan.vertices a.task.vertex.0 ≡ o
      → option_map_or (λ s. output s.head s.steps (reads job past a.task (λ n i. copied job a n i past) s)) o []
      ≡ option_map_or (λ s. value_of (order_for job (task_count job.plan a.task.vertex.0 past) a p (λ n. gathered job a n past) s)) o []
  by None h = refl
  by (Some s) h =
      sym (law.value (task_count job.plan a.task.vertex.0 past) a p (λ n. gathered job a n past) (copy_of job past a) s (same_copy job c past a m all)
      ∙ ap (output s.head s.steps) (law.reads past a p (copy_of job past a) (λ n i. copied job a n i past) s h (taken_over job past a law)))

bad_so : (job : Job) (c : ConfValues) (past : Past) (a : AttemptId) (p : ℕ) → OrdersRead job → IsMade job.plan c past → all_fetched job.plan past a ≡ true
    → reads_bad job past a.task (λ n i. copied job a n i past) ≡ bad_for job a p (task_count job.plan a.task.vertex.0 past) (λ n. gathered job a n past)
bad_so job c past a p law m all = by (slice_get job.plan.vertices a.task.vertex.0) refl where
  by : (o : Option VertexSpec) → slice_get job.plan.vertices a.task.vertex.0 ≡ o
      → option_map_or (λ s. is_bad s.head s.steps (reads job past a.task (λ n i. copied job a n i past) s)) o false
      ≡ option_map_or (λ s. is_some (bad_of (order_for job (task_count job.plan a.task.vertex.0 past) a p (λ n. gathered job a n past) s))) o false
  by None h = refl
  by (Some s) h =
      sym (ap is_some (law.bad (task_count job.plan a.task.vertex.0 past) a p (λ n. gathered job a n past) (copy_of job past a) s (same_copy job c past a m all)
      ∙ ap (first_bad s.head s.steps) (law.reads past a p (copy_of job past a) (λ n i. copied job a n i past) s h (taken_over job past a law))))

-- ---- as long as it is processing

not_same : (b a : AttemptId) (past : Past) → IsTrue (is_waiting (stage b past)) → is_processing (stage a past) ≡ true → same_attempt b a ≡ false
not_same b a past waits runs = by (same_attempt b a) refl where
  never : (s : Stage) → is_waiting s ≡ true → is_processing s ≡ true → ⊥
  never Unknown h k = cc
  never InQueue h k = cc
  never (Waits p) h k = cc
  never (Runs p) h k = cc
  never Ended h k = cc

  by : (x : Bool) → same_attempt b a ≡ x → x ≡ false
  by true e = absurd (never (stage a past) (subst (λ y. is_waiting (stage y past) ≡ true) (same_attempt-true b a e) waits) runs)
  by false e = refl

still : (b : Bool) (x s : Stage) → is_processing x ≡ false → is_processing (if b then x else s) ≡ true → is_processing s ≡ true
still true x s none h = cc
still false x s none h = h

tasks_same : (g : Dag) (c : ConfValues) (past : Past) (v : ℕ) (s : Config) (a : AttemptId) → IsMade g c past → config v past ≡ None → is_processing (stage a past) ≡ true
    → (unwrap_or (if v == a.task.vertex.0 then Some s else config a.task.vertex.0 past) (shape (planned g a.task.vertex.0) 1)).tasks ≡ task_count g a.task.vertex.0 past
tasks_same g c past v s a m none runs =
    ap (λ o. (unwrap_or o (shape (planned g a.task.vertex.0) 1)).tasks) (config_stays past v a.task.vertex.0 s none (alive_configured g c past a m (running_alive (stage a past) runs)))

pub runs_so : (job : Job) (c : ConfValues) → OrdersRead job → (past : Past) → IsMade job.plan c past → (a : AttemptId) (p : ℕ) → is_processing (stage a past) ≡ true
    → (made job a past ≡ value_for job a p (task_count job.plan a.task.vertex.0 past) (λ n. gathered job a n past)) × (met_bad job a past ≡ bad_for job a p (task_count job.plan a.task.vertex.0 past) (λ n. gathered job a n past))
unfolding made copied
runs_so job c law [] m a p h = cc
runs_so job c law (Opened _ ∷ past) m a p h = cc
runs_so job c law (Over ∷ past) m a p h = cc
runs_so job c law (Stopped _ ∷ past) m a p h = cc
runs_so job c law (Queued b ∷ past) m a p h = runs_so job c law past m.1 a p (still (same_attempt b a) InQueue (stage a past) refl h)
runs_so job c law (Placed b k q ∷ past) m a p h = runs_so job c law past m.1 a p (still (same_attempt b a) (Waits q) (stage a past) refl h)
runs_so job c law (Succeeded b ∷ past) m a p h = runs_so job c law past m.1 a p (still (same_attempt b a) Ended (stage a past) refl h)
runs_so job c law (Failed b ∷ past) m a p h = runs_so job c law past m.1 a p (still (same_attempt b a) Ended (stage a past) refl h)
runs_so job c law (Killed b cause ∷ past) m a p h = runs_so job c law past m.1 a p (still (same_attempt b a) Ended (stage a past) refl h)
runs_so job c law (Stands v t b ∷ past) m a p h =
    subst (λ n. (made job a past ≡ value_for job a p n (λ k. gathered job a k past)) × (met_bad job a past ≡ bad_for job a p n (λ k. gathered job a k past)))
    (sym (tasks_same job.plan c past v.0 (shape t b) a m.1 m.0.0 h)) (runs_so job c law past m.1 a p h)
runs_so job c law (Configured v t b ∷ past) m a p h =
    subst (λ n. (made job a past ≡ value_for job a p n (λ k. gathered job a k past)) × (met_bad job a past ≡ bad_for job a p n (λ k. gathered job a k past)))
    (sym (tasks_same job.plan c past v.0 (shape t b) a m.1 m.0.0 h)) (runs_so job c law past m.1 a p h)
runs_so job c law (Fetched b d j w ∷ past) m a p h =
    let n = task_count job.plan a.task.vertex.0 past in
    subst (λ x. (made job a past ≡ value_for job a p n (λ k. if x && (d.0 == k) then gathered job a k past ++ piece_over job.plan past k a.task.index j (made job w past) else gathered job a k past))
    × (met_bad job a past ≡ bad_for job a p n (λ k. if x && (d.0 == k) then gathered job a k past ++ piece_over job.plan past k a.task.index j (made job w past) else gathered job a k past)))
    (sym (not_same b a past m.0.0 h)) (runs_so job c law past m.1 a p h)
runs_so job c law (Ordered b ∷ past) m a p h = by (same_attempt b a) refl h (runs_so job c law past m.1 a p) where
  all : b ≡ a → all_fetched job.plan past a ≡ true
  all e = subst (λ x. all_fetched job.plan past x ≡ true) e m.0.1

  by : (x : Bool) → same_attempt b a ≡ x → is_processing (sent x (stage a past)) ≡ true
      → (is_processing (stage a past) ≡ true → (made job a past ≡ value_for job a p (task_count job.plan a.task.vertex.0 past) (λ k. gathered job a k past)) × (met_bad job a past ≡ bad_for job a p (task_count job.plan a.task.vertex.0 past) (λ k. gathered job a k past)))
      → ((if x then worked job past a.task (λ e i. copied job a e i past) else made job a past) ≡ value_for job a p (task_count job.plan a.task.vertex.0 past) (λ k. gathered job a k past))
      × ((if x then reads_bad job past a.task (λ e i. copied job a e i past) else met_bad job a past) ≡ bad_for job a p (task_count job.plan a.task.vertex.0 past) (λ k. gathered job a k past))
  by true e k ih = (worked_so job c past a p law m.1 (all (same_attempt-true b a e)), bad_so job c past a p law m.1 (all (same_attempt-true b a e)))
  by false e k ih = ih k
runs_so job c law (_ ∷ past) m a p h = runs_so job c law past m.1 a p h

runs_true : (s : Stage) (p : ℕ) → s ≡ Runs p → is_processing s ≡ true
runs_true s p e = ap is_processing e

pub order_is_right : (job : Job) (c : ConfValues) (past : Past) (a : AttemptId) (p : ℕ) (o : OrderParts) → OrdersRead job → IsMade job.plan c past → stage a past ≡ Runs p → order_view job past a p ≡ Some o
    → (value_of o ≡ made job a past) × (is_some (bad_of o) ≡ met_bad job a past)
order_is_right job c past a p o law m runs is = by (slice_get job.plan.vertices a.task.vertex.0) refl is (runs_so job c law past m a p (runs_true (stage a past) p runs)) where
  by : (v : Option VertexSpec) → slice_get job.plan.vertices a.task.vertex.0 ≡ v → option_map (order_for job (task_count job.plan a.task.vertex.0 past) a p (λ n. gathered job a n past)) v ≡ Some o
      → (made job a past ≡ option_map_or (λ s. value_of (order_for job (task_count job.plan a.task.vertex.0 past) a p (λ n. gathered job a n past) s)) (slice_get job.plan.vertices a.task.vertex.0) [])
      × (met_bad job a past ≡ option_map_or (λ s. is_some (bad_of (order_for job (task_count job.plan a.task.vertex.0 past) a p (λ n. gathered job a n past) s))) (slice_get job.plan.vertices a.task.vertex.0) false)
      → (value_of o ≡ made job a past) × (is_some (bad_of o) ≡ met_bad job a past)
  by None h k so = cc
  by (Some s) h k so =
      let same : order_for job (task_count job.plan a.task.vertex.0 past) a p (λ n. gathered job a n past) s ≡ o = same_Some _ _ k in (
        sym (ap value_of same) ∙ sym (so.0 ∙ ap (λ v. option_map_or (λ s. value_of (order_for job (task_count job.plan a.task.vertex.0 past) a p (λ n. gathered job a n past) s)) v []) h),
        sym (ap (λ x. is_some (bad_of x)) same) ∙ sym (so.1 ∙ ap (λ v. option_map_or (λ s. is_some (bad_of (order_for job (task_count job.plan a.task.vertex.0 past) a p (λ n. gathered job a n past) s))) v false) h),
      )

-- ---- there is an order

inside_some : {X : Type 0} (xs : List X) (v : ℕ) → v < length xs → is_some (slice_get xs v) ≡ true
inside_some {X} xs v low = by (slice_get_cases xs v).1 where
  by : ((x : X) × (v < length xs) × (slice_get xs v ≡ Some x) × (get_or xs v x ≡ x)) ⊎ ((length xs ≤ v) × (slice_get xs v ≡ None)) → is_some (slice_get xs v) ≡ true
  by (inl r) = ap is_some r.2
  by (inr r) = absurd (omega (arith, r.0))

mapped_some : {X Y : Type 0} (f : X → Y) (o : Option X) → is_some o ≡ true → is_some (option_map f o) ≡ true
mapped_some f None h = h
mapped_some f (Some x) h = refl

pub order_there : (job : Job) (c : ConfValues) (past : Past) (a : AttemptId) (p : ℕ) → IsMade job.plan c past → IsPlaced (stage a past) → is_some (order_view job past a p) ≡ true
order_there job c past a p m placed =
    let v = a.task.vertex.0 in
    let is : is_vertex job.plan v ≡ true = configured_is_vertex job.plan c past m v (alive_configured job.plan c past a m (placed_alive (stage a past) placed)) in
    mapped_some (order_for job (task_count job.plan v past) a p (λ n. gathered job a n past)) (slice_get job.plan.vertices v) (inside_some job.plan.vertices v (below v (length job.plan.vertices) is))
