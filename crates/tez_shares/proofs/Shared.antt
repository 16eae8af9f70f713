-- The law of shares, over the whole plan.
--     PlanFits              what the law wants of the edges into each vertex
--     shares_whole          for each allowed configuration the tasks of a vertex make what the vertex makes, and some is bad where it is
use Rattle.std.proofs.Common.{◌≡◌, ℕ, zero, suc, ◌<◌, ◌==◌, ◌&&◌, Bool, true, false, not, List, [], ◌∷◌, length, refl, sym, ap, ◌∙◌, arith, count_by, flat_map, Option, Some, None, slice_get, IsTrue, eq-eqb}
use Rattle.std.specs.List.{AllByRecursion, list_any, range_with_len}
use Rattle.std.specs.Option.{option_map_or, is_some}
use Rattle.std.proofs.lemmas.Bool.{not-true, and_from, or_left, or_right}
use Rattle.tez_record.specs.Bag.{sort}
use Rattle.tez_record.proofs.BagLemmas.{sort-sort}
use Rattle.tez_plan.specs.declared.parts.VertexSpec.{VertexSpec}
use Rattle.tez_plan.specs.declared.parts.EdgeSpec.{EdgeSpec}
use Rattle.tez_plan.specs.Dag.{Dag, from, to, edges_into, is_broadcast, is_scatter_gather, is_one_to_one, tasks_of}
use Rattle.tez_plan.specs.Faults.{IsValid}
use Rattle.tez_plan.proofs.OrderLemmas.{all_map, all_filter}
use Rattle.tez_plan.specs.Graph.{AreInside}
use Rattle.tez_plan.proofs.RankLemmas.{Ranked, ranked, inside_edges, all_both}
use Rattle.tez_meaning.specs.Jobs.{Job}
use Rattle.tez_values.specs.Heads.{head_rows}
use Rattle.tez_values.specs.Steps.{run}
use Rattle.tez_values.specs.Program.{output, is_bad}
use Rattle.tez_meaning.specs.Value.{value, bad, inputs_of, lines_of}
use Rattle.tez_shares.specs.Shares.{Config, IsAllowed, has_edge_from, share_of_lines, share_of_edge, task_inputs, task_value, task_bad, SharesMakeWhole}
use Rattle.tez_meaning.proofs.ValueLemmas.{value-step}
use Rattle.tez_meaning.proofs.JoinLemmas.{ahead_of, left_of, right_of}
use Rattle.tez_shares.proofs.TaskLemmas.{task_value-step}
use Rattle.tez_shares.proofs.ShareLemmas.{lines_whole, one_share}
use Rattle.tez_shares.proofs.LawOfShares.{HeadFits, HasKey, key_in_share, share_over-whole, program_whole, bad_whole}

-- each vertex has tasks, and its edges fit its head
pub record PlanFits (p : Dag) : Type 0 where
  pub tasks : (v : ℕ) → v < length p.vertices → 0 < tasks_of p v
  pub heads : (v : ℕ) (s : VertexSpec) → slice_get p.vertices v ≡ Some s → HeadFits s.head s.source (left_of p v s) (right_of p v s)
  pub gathers : (v : ℕ) (s : VertexSpec) → slice_get p.vertices v ≡ Some s → HasKey s.head → (u : ℕ) × IsTrue (has_edge_from is_scatter_gather p u v)

-- an element that passes is in the list
members_from : {X : Type 0} (ys xs : List X) → ((test : X → Bool) → list_any test xs ≡ true → list_any test ys ≡ true) → AllByRecursion (λ x. (test : X → Bool) → test x ≡ true → list_any test ys ≡ true) xs
members_from ys [] h = tt
members_from ys (x ∷ xs) h = ((λ test e. h test (or_left _ _ e)), members_from ys xs (λ test e. h test (or_right _ _ e)))

members : {X : Type 0} (xs : List X) → AllByRecursion (λ x. (test : X → Bool) → test x ≡ true → list_any test xs ≡ true) xs
members xs = members_from xs xs (λ test e. e)

nothing_made : (ts : List ℕ) → flat_map {A = List ℕ} (λ t. []) ts ≡ []
nothing_made [] = refl
nothing_made (t ∷ ts) = nothing_made ts

at_spec : {P : Type 0} (o : Option VertexSpec) → (o ≡ None → P) → ((s : VertexSpec) → o ≡ Some s → P) → P
at_spec None f g = f refl
at_spec (Some s) f g = g s refl

module _ (job : Job) (c : ℕ → Config) (valid : IsValid job.plan) (fits : PlanFits job.plan) (allowed : IsAllowed job.plan c) where
  abbrev IsShared : ℕ → Type 0
  IsShared v = sort (flat_map (task_value job c v) (range_with_len 0 (c v).tasks)) ≡ sort (value job v)

  source_shared : (v : ℕ) → v < length job.plan.vertices → (source : Option (List ℕ)) → (is_some source ≡ true → 0 < (c v).tasks)
      → sort (flat_map (λ t. option_map_or (λ name. share_of_lines (lines_of job name) (c v).tasks t) source []) (range_with_len 0 (c v).tasks)) ≡ sort (option_map_or (lines_of job) source [])
  source_shared v inside None h = ap sort (nothing_made (range_with_len 0 (c v).tasks))
  source_shared v inside (Some name) h = ap sort (lines_whole (lines_of job name) (c v).tasks (h refl))

  edge_shared : (v : ℕ) → v < length job.plan.vertices → (e : EdgeSpec) → ((test : EdgeSpec → Bool) → test e ≡ true → list_any test (edges_into job.plan v) ≡ true)
      → is_broadcast e ≡ false → IsShared (from job.plan e)
      → sort (flat_map (λ t. share_of_edge job c v (task_value job c) t e) (range_with_len 0 (c v).tasks)) ≡ sort (value job (from job.plan e))
  edge_shared v inside e member b shared =
      let u = from job.plan e in
      let here = allowed.at v inside in
      share_over-whole e.movement (tasks_of job.plan v) (c v) (value job u) (task_value job c u) b
      (λ one. ap (λ n. sort (flat_map (task_value job c u) (range_with_len 0 n))) (here.one_to_one u (member (λ d. is_one_to_one d && (from job.plan d == u)) (and_from _ _ one (eq-eqb u u refl)))).0 ∙ shared)
      (λ key.
      let fit = here.shuffle u (member (λ d. is_scatter_gather d && (from job.plan d == u)) (and_from _ _ key (eq-eqb u u refl))) in
      (omega (arith, fit.0), fits.tasks v inside, fit.2))

  abbrev Member : ℕ → EdgeSpec → Type 0
  Member v e = (test : EdgeSpec → Bool) → test e ≡ true → list_any test (edges_into job.plan v) ≡ true

  -- what is shared over the edges that are no broadcast
  ahead_shared : (v : ℕ) → v < length job.plan.vertices → AllByRecursion (λ e. IsShared (from job.plan e)) (edges_into job.plan v)
      → AllByRecursion (λ d. sort (flat_map (λ t. share_of_edge job c v (task_value job c) t d) (range_with_len 0 (c v).tasks)) ≡ sort (value job (from job.plan d))) (ahead_of job.plan v)
  ahead_shared v inside sources = all_filter (λ d. IsShared (from job.plan d) × Member v d) (λ d. sort (flat_map (λ t. share_of_edge job c v (task_value job c) t d) (range_with_len 0 (c v).tasks)) ≡ sort (value job (from job.plan d))) (λ d. not (is_broadcast d))
      (λ d k h. edge_shared v inside d h.1 (not-true _ k) h.0) (edges_into job.plan v)
      (all_both (λ d. IsShared (from job.plan d)) (Member v) (edges_into job.plan v) sources (members (edges_into job.plan v)))

  source_tasks : (v : ℕ) → v < length job.plan.vertices → (s : VertexSpec) → slice_get job.plan.vertices v ≡ Some s → is_some s.source ≡ true → 0 < (c v).tasks
  source_tasks v inside s e k =
      let same = (allowed.at v inside).source (ap (λ o. option_map_or (λ spec. is_some spec.source) o false) e ∙ k) in
      let any = fits.tasks v inside in
      omega (arith, same.0)

  one_each : (v : ℕ) → v < length job.plan.vertices → (s : VertexSpec) → slice_get job.plan.vertices v ≡ Some s → HasKey s.head → (k : List ℕ) → count_by (λ t. key_in_share (tasks_of job.plan v) (c v).base t k) (range_with_len 0 (c v).tasks) ≡ 1
  one_each v inside s e h k =
      let u = fits.gathers v s e h in
      let fit = (allowed.at v inside).shuffle u.0 u.1 in
      ap (λ n. count_by (λ t. key_in_share (tasks_of job.plan v) (c v).base t k) (range_with_len 0 n)) fit.2
      ∙ one_share [] (tasks_of job.plan v) (c v).base k (omega (arith, fit.0)) (fits.tasks v inside)

  shared_at : (v : ℕ) → v < length job.plan.vertices → AllByRecursion (λ e. IsShared (from job.plan e)) (edges_into job.plan v) → IsShared v
  shared_at v inside sources = at_spec (slice_get job.plan.vertices v)
      (λ e.
      ap (λ f. sort (flat_map f (range_with_len 0 (c v).tasks))) (task_value-step job c v valid inside ∙ (λ i t. option_map_or (λ s. output s.head s.steps (task_inputs job c v s (task_value job c) t)) (e i) []))
      ∙ ap sort (nothing_made (range_with_len 0 (c v).tasks))
      ∙ ap sort (sym (value-step job v valid inside ∙ ap (λ o. option_map_or (λ s. output s.head s.steps (inputs_of job v s (value job))) o []) e)))
      (λ s e.
      ap (λ f. sort (flat_map f (range_with_len 0 (c v).tasks))) (task_value-step job c v valid inside ∙ (λ i t. option_map_or (λ spec. output spec.head spec.steps (task_inputs job c v spec (task_value job c) t)) (e i) []))
      ∙ program_whole job.plan v s (c v) (lines_of job) (λ t name. share_of_lines (lines_of job name) (c v).tasks t) (value job) (task_value job c)
      (source_shared v inside s.source (source_tasks v inside s e)) (ahead_shared v inside sources) (fits.heads v s e) (one_each v inside s e)
      ∙ sym (sort-sort (run s.steps (head_rows s.head (inputs_of job v s (value job)))))
      ∙ ap sort (sym (value-step job v valid inside ∙ ap (λ o. option_map_or (λ spec. output spec.head spec.steps (inputs_of job v spec (value job))) o []) e)))

  nobody_bad : (ts : List ℕ) → list_any {X = ℕ} (λ t. false) ts ≡ false
  nobody_bad [] = refl
  nobody_bad (t ∷ ts) = nobody_bad ts

  bads_at : (v : ℕ) → v < length job.plan.vertices → AllByRecursion (λ e. IsShared (from job.plan e)) (edges_into job.plan v) → list_any (task_bad job c v) (range_with_len 0 (c v).tasks) ≡ bad job v
  bads_at v inside sources = at_spec (slice_get job.plan.vertices v)
      (λ e.
      ap (λ f. list_any f (range_with_len 0 (c v).tasks)) (λ i t. option_map_or (λ s. is_bad s.head s.steps (task_inputs job c v s (task_value job c) t)) (e i) false)
      ∙ nobody_bad (range_with_len 0 (c v).tasks)
      ∙ ap (λ o. option_map_or (λ s. is_bad s.head s.steps (inputs_of job v s (value job))) o false) (sym e))
      (λ s e.
      ap (λ f. list_any f (range_with_len 0 (c v).tasks)) (λ i t. option_map_or (λ spec. is_bad spec.head spec.steps (task_inputs job c v spec (task_value job c) t)) (e i) false)
      ∙ bad_whole job.plan v s (c v) (lines_of job) (λ t name. share_of_lines (lines_of job name) (c v).tasks t) (value job) (task_value job c)
      (source_shared v inside s.source (source_tasks v inside s e)) (ahead_shared v inside sources) (fits.heads v s e) (one_each v inside s e)
      ∙ ap (λ o. option_map_or (λ spec. is_bad spec.head spec.steps (inputs_of job v spec (value job))) o false) (sym e))

  by_rank : (r : Ranked job.plan) (n v : ℕ) → r.rank_of v < n → v < length job.plan.vertices → IsShared v
  by_rank r zero v h inside = absurd (omega arith)
  by_rank r (suc n) v h inside = shared_at v inside
      (all_map (λ e. (r.rank_of (from job.plan e) < r.rank_of v) × AreInside job.plan e) (λ e. IsShared (from job.plan e))
      (λ e lower. by_rank r n (from job.plan e) (omega (arith, lower.0)) lower.1.0) (edges_into job.plan v)
      (all_both (λ e. r.rank_of (from job.plan e) < r.rank_of v) (AreInside job.plan) (edges_into job.plan v) (r.falls v)
      (all_filter (AreInside job.plan) (AreInside job.plan) (λ e. to job.plan e == v) (λ e t k. k) job.plan.edges (inside_edges job.plan valid))))

  value_sorted : (v : ℕ) (o : Option VertexSpec) → sort (option_map_or (λ s. output s.head s.steps (inputs_of job v s (value job))) o []) ≡ option_map_or (λ s. output s.head s.steps (inputs_of job v s (value job))) o []
  value_sorted v None = refl
  value_sorted v (Some s) = sort-sort (run s.steps (head_rows s.head (inputs_of job v s (value job))))

  pub shares_whole : (v : ℕ) → v < length job.plan.vertices → SharesMakeWhole job c v
  shares_whole v inside =
      let r = ranked job.plan valid in
      let step = value-step job v valid inside in
      let sources : AllByRecursion (λ e. IsShared (from job.plan e)) (edges_into job.plan v) =
      all_filter (AreInside job.plan) (λ e. IsShared (from job.plan e)) (λ e. to job.plan e == v) (λ e t k. by_rank r (suc (r.rank_of (from job.plan e))) (from job.plan e) (omega arith) k.0) job.plan.edges (inside_edges job.plan valid) in
      let same = bads_at v inside sources in
      record {
        values = shared_at v inside sources ∙ ap sort step ∙ value_sorted v (slice_get job.plan.vertices v) ∙ sym step;
        bads = ((λ h. sym same ∙ h), (λ h. same ∙ h));
      }
