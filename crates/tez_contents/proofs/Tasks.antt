-- A task whose copies are right makes what it is to make.
--     together_whole     the tasks of a configured vertex are to make together what the vertex makes
--     CopiesRight        the copies of a task's inputs
--     worked_right, bad_right
use Rattle.std.specs.Prelude.{◌≡◌, ℕ, zero, suc, ◌+◌, ◌-◌, ◌*◌, ◌<◌, ◌≤◌, ◌==◌, ◌&&◌, ◌||◌, not, nat_lt, Bool, true, false, cond, if◌then◌else◌, List, [], ◌∷◌, ◌++◌, length, slice_get, Option, Some, None, is_some, unwrap_or, refl}
use Rattle.std.specs.List.{filter, flat_map, range_with_len}
use Rattle.std.specs.Option.{option_map_or}
use Rattle.std.proofs.Common.{inl, inr, ap, ap₂, sym, ◌∙◌, arith, subst, sum_by, bytes_eq}
use Rattle.std.proofs.lemmas.Bool.{eq-eqb}
use Rattle.std.proofs.lemmas.Bool.Decides.{nat_tests}
use Rattle.std.proofs.lemmas.List.Sums.{sum_by-append}
use Rattle.tez_ids.specs.declared.TaskId.{TaskId}
use Rattle.tez_lists.specs.Numbers.{In}
use Rattle.tez_lists.proofs.Flat.{append-nil, flat_same, in-filter-out}
use Rattle.tez_record.specs.Bag.{sort}
use Rattle.tez_record.proofs.BagLemmas.{same_bag, sum_by-same, sort-sort}
use Rattle.tez_plan.specs.declared.parts.VertexSpec.{VertexSpec}
use Rattle.tez_plan.specs.declared.parts.EdgeSpec.{EdgeSpec}
use Rattle.tez_plan.specs.declared.parts.Head.{Head}
use Rattle.tez_plan.specs.declared.parts.Step.{Step}
use Rattle.tez_plan.specs.declared.parts.Movement.{Movement}
use Rattle.tez_plan.specs.declared.parts.Movement.TheVariants.{OneToOne, Broadcast, ScatterGather}
use Rattle.tez_plan.specs.Dag.{from, to, edges_into, is_one_to_one, is_broadcast, is_scatter_gather, goes_one_to_one, goes_by_key, tasks_of as planned}
use Rattle.tez_plan.specs.Faults.{IsValid}
use Rattle.tez_plan.specs.Ranges.{IsInRanges}
use Rattle.tez_shrink.specs.Formulas.{tasks_of as tasks_for, first_of, end_of}
use Rattle.tez_shrink.proofs.RangeLemmas.{range_there}
use Rattle.tez_values.specs.Heads.{HeadInputs, head_rows, SameInputs}
use Rattle.tez_values.specs.Program.{output, is_bad}
use Rattle.tez_values.proofs.SameLemmas.{head_rows-same, output-same}
use Rattle.tez_values.proofs.BadLemmas.{is_bad-parts}
use Rattle.tez_vman.specs.declared.seen.Config.{Config as Setting}
use Rattle.tez_vman.specs.Rules.{config as shape}
use Rattle.tez_meaning.specs.Jobs.{Job}
use Rattle.tez_meaning.specs.Value.{is_left, lines_of, value}
use Rattle.tez_shares.specs.Shares.{Config, HasTasks, has_edge_from, share_of_lines, share_of_edge, task_inputs, task_value, task_bad}
use Rattle.tez_shares.proofs.Shared.{shares_whole}
use Rattle.tez_shares.proofs.FitsLemmas.{fits_valid}
use Rattle.tez_shares.proofs.TaskLemmas.{task_value-step}
use Rattle.tez_history.specs.Shape.{numbers_below}
use Rattle.tez_history.specs.History.{Past, config}
use Rattle.tez_history.specs.Derived.{is_configured, is_task, shape_of, task_count, table_by, input_count, source_task}
use Rattle.tez_laws.proofs.StepLaw.{both}
use Rattle.tez_progress.proofs.Members.{true_and, any_true, numbers_in}
use Rattle.tez_progress.proofs.Fitting.{planned_some}
use Rattle.tez_contents.specs.Contents.{Records, configurations, number_of, piece_for, fetched_over, reads, worked, reads_bad}
use Rattle.tez_contents.specs.Laws.{IsAllowedNow, task_makes}
use Rattle.tez_contents.proofs.Pieces.{numbers_are, by_inputs, has_task, share_by_inputs}
use Rattle.tez_contents.proofs.Edges.{into_edges}
use Rattle.tez_contents.proofs.Agree.{IsClosed, at_spec, starts_inside, value_same}
use Rattle.tez_contents.proofs.Complete.{config_of, completed, completed_there, completed_allowed}

-- ---- bags

pub append_same : (zs xs ys : Records) → sort xs ≡ sort ys → sort (zs ++ xs) ≡ sort (zs ++ ys)
append_same zs xs ys e = same_bag (zs ++ xs) (zs ++ ys) (λ r.
    let one = λ (s : List ℕ). cond (bytes_eq r s) 1 0 in
    sum_by-append one zs xs ∙ ap (λ n. sum_by one zs + n) (sum_by-same one xs ys e) ∙ sym (sum_by-append one zs ys))

pub flat_each : {X : Type 0} (f g : X → Records) (xs : List X) → ((x : X) → In x xs → sort (f x) ≡ sort (g x)) → sort (flat_map f xs) ≡ sort (flat_map g xs)
flat_each f g [] h = refl
flat_each {X} f g (x ∷ xs) h = same_bag (f x ++ flat_map f xs) (g x ++ flat_map g xs) (λ r.
    let one = λ (s : List ℕ). cond (bytes_eq r s) 1 0 in
    sum_by-append one (f x) (flat_map f xs)
    ∙ ap₂ (λ a b. a + b) (sum_by-same one (f x) (g x) (h x (inl refl))) (sum_by-same one (flat_map f xs) (flat_map g xs) (flat_each f g xs (λ y m. h y (inr m))))
    ∙ sym (sum_by-append one (g x) (flat_map g xs)))

or_false : (b : Bool) → (b || false) ≡ b
or_false true = refl
or_false false = refl

pub is_bad-same : (h : Head) (steps : List Step) (i j : HeadInputs) → SameInputs i j → is_bad h steps i ≡ is_bad h steps j
is_bad-same h steps i j same =
    sym (or_false (is_bad h steps i))
    ∙ is_bad-parts h steps (λ (t : ℕ). i) j (0 ∷ []) (ap sort (append-nil i.primary) ∙ same.primary) (ap sort (append-nil (head_rows h i)) ∙ head_rows-same h i j same)

-- ---- inputs that are there

times_some : (a b : ℕ) → 1 ≤ a → 1 ≤ b → 1 ≤ a * b
times_some zero b h k = absurd (omega (arith, h))
times_some (suc a) zero h k = absurd (omega (arith, k))
times_some (suc a) (suc b) h k = grind arith

if_below : (t n x : ℕ) → t < n → (if nat_lt t n then x else 0) ≡ x
if_below t n x h = let e : nat_lt t n ≡ true = grind (arith, nat_tests) in ap (λ b. if b then x else 0) e

has_input : (m : Movement) (sources consumers parts base t : ℕ) → has_task m sources consumers parts base t → 1 ≤ sources → (goes_by_key m ≡ true → 1 ≤ base)
    → 1 ≤ (if nat_lt t (table_by m sources consumers parts base).consumers then (table_by m sources consumers parts base).inputs_of t else 0)
has_input OneToOne sources consumers parts base t there some h = let k = if_below t sources 1 there in omega (arith, k)
has_input Broadcast sources consumers parts base t there some h = let k = if_below t consumers sources there in omega (arith, k, some)
has_input (ScatterGather cols) sources consumers parts base t there some h =
    let wide : 1 ≤ base = h refl in
    let inside = range_there parts base t wide there in
    let next : (t + 1) * base ≡ t * base + base = omega arith in
    let width : 1 ≤ end_of parts base t - first_of base t = omega (arith, inside, next, wide) in
    let all = times_some sources (end_of parts base t - first_of base t) some width in
    let k = if_below t (tasks_for parts base) (sources * (end_of parts base t - first_of base t)) there in
    omega (arith, k, all)

below : (a b : ℕ) → nat_lt a b ≡ true → a < b
below a b h = grind (arith, nat_tests)

-- before it is configured a vertex counts the tasks of the plan
unset : (o : Option Setting) (n : ℕ) → is_some o ≡ false → (unwrap_or o (shape n 1)).tasks ≡ n
unset None n h = refl
unset (Some s) n h = cc

-- ---- one history

module _ (job : Job) (past : Past) (ranges : IsInRanges job.plan) (valid : IsValid job.plan) (now : IsAllowedNow job.plan past) where
  abbrev as_configured : ℕ → Config
  as_configured = configurations job.plan past

  abbrev pub Stands : ℕ → Type 0
  Stands v = (v < length job.plan.vertices) × (is_configured v past ≡ true)

  setting_of : (v : ℕ) → is_configured v past ≡ true → (s : Setting) × (config v past ≡ Some s)
  setting_of v h = by (config v past) refl h where
    by : (o : Option Setting) → config v past ≡ o → is_some o ≡ true → (s : Setting) × (config v past ≡ Some s)
    by None e k = cc
    by (Some s) e k = (s, e)

  configured_by : (v : ℕ) (s : Setting) → config v past ≡ Some s → is_configured v past ≡ true
  configured_by v s h = ap is_some h

  as_set : (v : ℕ) (s : Setting) → config v past ≡ Some s → as_configured v ≡ config_of s
  as_set v s h = ap (λ o. config_of (unwrap_or o (shape (planned job.plan v) 1))) h

  edge_there : (kind : EdgeSpec → Bool) (v : ℕ) (e : EdgeSpec) → In e (edges_into job.plan v) → kind e ≡ true → has_edge_from kind job.plan (from job.plan e) v ≡ true
  edge_there kind v e m k = any_true (λ d. kind d && (from job.plan d == from job.plan e)) e (edges_into job.plan v) m (true_and k (eq-eqb (from job.plan e) (from job.plan e) refl))

  pub closed_so_far : IsClosed job.plan Stands
  closed_so_far v e h m one =
      let s = setting_of v h.1 in
      let d = now.one_to_one v (from job.plan e) s.0 s.1 (edge_there is_one_to_one v e m one) in
      (starts_inside job.plan v e valid m, configured_by (from job.plan e) d.0 d.1)

  complete : ℕ → Config
  complete = completed job.plan (λ v. config v past)

  complete_same : (v : ℕ) → Stands v → complete v ≡ as_configured v
  unfolding complete
  complete_same v h =
      let s = setting_of v h.1 in
      completed_there job.plan (λ u. config u past) ranges valid now v s.0 h.0 s.1 ∙ sym (as_set v s.0 s.1)

  -- the tasks of a configured vertex are to make together what it makes
  pub together_whole : (u : ℕ) → Stands u → sort (flat_map (task_value job as_configured u) (numbers_below (task_count job.plan u past))) ≡ value job u
  unfolding complete
  together_whole u h =
      let has : HasTasks job.plan = λ v inside. let some = planned_some job.plan v ranges inside in omega (arith, some) in
      let whole = shares_whole job complete valid (fits_valid job.plan valid has) (completed_allowed job.plan (λ v. config v past) ranges valid now) u h.0 in
      ap (λ f. sort (flat_map f (numbers_below (task_count job.plan u past)))) (sym (value_same job complete as_configured Stands valid closed_so_far complete_same u h.0 h))
      ∙ ap (λ xs. sort (flat_map (task_value job complete u) xs)) (numbers_are 0 (task_count job.plan u past))
      ∙ ap (λ n. sort (flat_map (task_value job complete u) (range_with_len 0 n))) (sym (ap (λ (c : Config). c.tasks) (complete_same u h)))
      ∙ whole.values

  -- ---- one task

  module _ (t : TaskId) (copy : ℕ → ℕ → Records) where
    -- the vertex behind each input is configured, and the copy is the piece of what its task is to make
    abbrev pub CopiesRight : Type 0
    CopiesRight =
        (e : EdgeSpec) (i : ℕ) → In e (edges_into job.plan t.vertex.0) → i < input_count job.plan past e t.index
        → (is_configured (from job.plan e) past ≡ true)
        × (copy (number_of job.plan e) i ≡ piece_for job.plan past e t.index i (task_makes job past (source_task job.plan past e t.index i)))

    module _ (inside : t.vertex.0 < length job.plan.vertices) (there : is_task job.plan past t ≡ true) (right : CopiesRight) where
      own : (s : Setting) × (config t.vertex.0 past ≡ Some s)
      own = setting_of t.vertex.0 (both {x = is_configured t.vertex.0 past} there).0

      own_low : t.index < task_count job.plan t.vertex.0 past
      own_low = below t.index (task_count job.plan t.vertex.0 past) (both {x = is_configured t.vertex.0 past} there).1

      -- the task is a consumer of each edge
      consumes : (m : Movement) (e : EdgeSpec) → e.movement ≡ m → In e (edges_into job.plan t.vertex.0)
          → has_task m (task_count job.plan (from job.plan e) past) (task_count job.plan t.vertex.0 past) (planned job.plan t.vertex.0) (shape_of job.plan t.vertex.0 past).base t.index
      unfolding own own_low
      consumes OneToOne e is m =
          let d = now.one_to_one t.vertex.0 (from job.plan e) own.0 own.1 (edge_there is_one_to_one t.vertex.0 e m (ap goes_one_to_one is)) in
          let here : task_count job.plan t.vertex.0 past ≡ own.0.tasks = ap (λ (c : Config). c.tasks) (as_set t.vertex.0 own.0 own.1) in
          let fed : task_count job.plan (from job.plan e) past ≡ d.0.tasks = ap (λ (c : Config). c.tasks) (as_set (from job.plan e) d.0 d.1) in
          omega (arith, own_low, here, fed, d.2)
      consumes Broadcast e is m = own_low
      consumes (ScatterGather cols) e is m =
          let d = now.shuffle t.vertex.0 (from job.plan e) own.0 own.1 (edge_there is_scatter_gather t.vertex.0 e m (ap goes_by_key is)) in
          let here : shape_of job.plan t.vertex.0 past ≡ own.0 = ap (λ o. unwrap_or o (shape (planned job.plan t.vertex.0) 1)) own.1 in
          let tasks : task_count job.plan t.vertex.0 past ≡ tasks_for (planned job.plan t.vertex.0) (shape_of job.plan t.vertex.0 past).base = ap (λ s. s.tasks) here ∙ d.2 ∙ ap (λ s. tasks_for (planned job.plan t.vertex.0) s.base) (sym here) in
          subst (λ n. t.index < n) tasks own_low

      base_some : (e : EdgeSpec) → In e (edges_into job.plan t.vertex.0) → is_scatter_gather e ≡ true → 1 ≤ (shape_of job.plan t.vertex.0 past).base
      unfolding own own_low
      base_some e m k =
          let d = now.shuffle t.vertex.0 (from job.plan e) own.0 own.1 (edge_there is_scatter_gather t.vertex.0 e m k) in
          let here : shape_of job.plan t.vertex.0 past ≡ own.0 = ap (λ o. unwrap_or o (shape (planned job.plan t.vertex.0) 1)) own.1 in
          subst (λ (s : Setting). 1 ≤ s.base) (sym here) d.0

      -- so each vertex that feeds it is configured
      feeder_stands : (e : EdgeSpec) → In e (edges_into job.plan t.vertex.0) → Stands (from job.plan e)
      feeder_stands e m = (starts_inside job.plan t.vertex.0 e valid m, by (is_configured (from job.plan e) past) refl) where
        by : (b : Bool) → is_configured (from job.plan e) past ≡ b → is_configured (from job.plan e) past ≡ true
        by true k = k
        by false k =
            let as_planned : task_count job.plan (from job.plan e) past ≡ planned job.plan (from job.plan e) = unset (config (from job.plan e) past) (planned job.plan (from job.plan e)) k in
            let some : 1 ≤ task_count job.plan (from job.plan e) past = subst (λ n. 1 ≤ n) (sym as_planned) (planned_some job.plan (from job.plan e) ranges (starts_inside job.plan t.vertex.0 e valid m)) in
            let v : to job.plan e ≡ t.vertex.0 = (into_edges job.plan t.vertex.0 e m).1 in
            let inputs : 1 ≤ input_count job.plan past e t.index = subst (λ w. 1 ≤ (if nat_lt t.index (table_by e.movement (task_count job.plan (from job.plan e) past) (task_count job.plan w past) (planned job.plan w) (shape_of job.plan w past).base).consumers then (table_by e.movement (task_count job.plan (from job.plan e) past) (task_count job.plan w past) (planned job.plan w) (shape_of job.plan w past).base).inputs_of t.index else 0)) (sym v)
            (has_input e.movement (task_count job.plan (from job.plan e) past) (task_count job.plan t.vertex.0 past) (planned job.plan t.vertex.0) (shape_of job.plan t.vertex.0 past).base t.index (consumes e.movement e refl m) some (base_some e m)) in
            (right e 0 m (omega (arith, inputs))).0

      edge_right : (e : EdgeSpec) → In e (edges_into job.plan t.vertex.0) → sort (fetched_over job past t.index copy e) ≡ sort (share_of_edge job as_configured t.vertex.0 (task_value job as_configured) t.index e)
      edge_right e m =
          let u = from job.plan e in
          let v : to job.plan e ≡ t.vertex.0 = (into_edges job.plan t.vertex.0 e m).1 in
          let count = input_count job.plan past e t.index in
          let stands = feeder_stands e m in
          let whole : sort (flat_map (task_value job as_configured u) (numbers_below (task_count job.plan u past))) ≡ sort (value job u) =
          sym (sort-sort (flat_map (task_value job as_configured u) (numbers_below (task_count job.plan u past)))) ∙ ap sort (together_whole u stands) in
          ap sort (flat_same (copy (number_of job.plan e)) (λ i. piece_for job.plan past e t.index i (task_makes job past (source_task job.plan past e t.index i))) (numbers_below count)
          (λ i k. (right e i m (let low : i < 0 + count = numbers_in 0 count i k in omega (arith, low))).1))
          ∙ ap (λ w. sort (by_inputs e.movement (task_count job.plan u past) (task_count job.plan w past) (planned job.plan w) (as_configured w).base t.index (task_value job as_configured u))) v
          ∙ share_by_inputs e.movement (task_count job.plan u past) (task_count job.plan t.vertex.0 past) (planned job.plan t.vertex.0) (as_configured t.vertex.0) t.index (value job u) (task_value job as_configured u) (consumes e.movement e refl m) whole

      -- what the program reads
      reads_right : (s : VertexSpec) → SameInputs (reads job past t copy s) (task_inputs job as_configured t.vertex.0 s (task_value job as_configured) t.index)
      reads_right s =
          let ahead = filter (λ e. not (is_broadcast e)) (edges_into job.plan t.vertex.0) in
          let got = fetched_over job past t.index copy in
          let share = share_of_edge job as_configured t.vertex.0 (task_value job as_configured) t.index in
          let from_ahead = λ (kind : EdgeSpec → Bool). flat_each got share (filter kind ahead)
          (λ e m. edge_right e (in-filter-out (λ d. not (is_broadcast d)) e (edges_into job.plan t.vertex.0) (in-filter-out kind e ahead m))) in
          record {
            columns = refl;
            primary = append_same (option_map_or (λ name. share_of_lines (lines_of job name) (task_count job.plan t.vertex.0 past) t.index) s.source []) (flat_map got (filter (is_left s.head) ahead)) (flat_map share (filter (is_left s.head) ahead)) (from_ahead (is_left s.head));
            partner_columns = refl;
            partner = from_ahead (λ e. not (is_left s.head e));
            side = flat_each got share (filter is_broadcast (edges_into job.plan t.vertex.0)) (λ e m. edge_right e (in-filter-out is_broadcast e (edges_into job.plan t.vertex.0) m));
          }

      pub worked_right : worked job past t copy ≡ task_makes job past t
      worked_right =
          at_spec (λ s. output s.head s.steps (reads job past t copy s)) (λ s. output s.head s.steps (task_inputs job as_configured t.vertex.0 s (task_value job as_configured) t.index)) [] (slice_get job.plan.vertices t.vertex.0)
          (λ s k. output-same s.head s.steps (reads job past t copy s) (task_inputs job as_configured t.vertex.0 s (task_value job as_configured) t.index) (reads_right s))
          ∙ ap (λ f. f t.index) (sym (task_value-step job as_configured t.vertex.0 valid inside))

      pub bad_right : reads_bad job past t copy ≡ task_bad job as_configured t.vertex.0 t.index
      bad_right =
          at_spec (λ s. is_bad s.head s.steps (reads job past t copy s)) (λ s. is_bad s.head s.steps (task_inputs job as_configured t.vertex.0 s (task_value job as_configured) t.index)) false (slice_get job.plan.vertices t.vertex.0)
          (λ s k. is_bad-same s.head s.steps (reads job past t copy s) (task_inputs job as_configured t.vertex.0 s (task_value job as_configured) t.index) (reads_right s))
