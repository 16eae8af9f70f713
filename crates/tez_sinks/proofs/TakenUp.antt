-- A commit is taken up only where every task has a winner right after the open, so a history that took over no winner took
-- up none.
--     own_commit        where none was taken up, none is found
--     some_tasks        of the vertices that are configured, one has tasks
--     none_taken_up
use Rattle.std.specs.Prelude.{◌≡◌, ℕ, zero, suc, ◌+◌, ◌<◌, ◌≤◌, ◌==◌, ◌&&◌, min, Bool, true, false, List, [], ◌∷◌, length, slice_get, Option, Some, None, is_some, unwrap_or, refl}
use Rattle.std.specs.Int.{div_ceil}
use Rattle.std.specs.Option.{option_map_or}
use Rattle.std.proofs.Common.{inl, ap, sym, ◌∙◌, arith, subst}
use Rattle.std.proofs.lemmas.Bool.{eqb-true, eq-eqb}
use Rattle.std.proofs.lemmas.Grind.{div_ceil_times}
use Rattle.tez_ids.specs.declared.TaskId.{TaskId}
use Rattle.tez_ids.specs.Same.{task}
use Rattle.tez_lists.specs.Numbers.{In}
use Rattle.tez_plan.specs.declared.parts.VertexSpec.{VertexSpec}
use Rattle.tez_plan.specs.declared.parts.EdgeSpec.{EdgeSpec}
use Rattle.tez_plan.specs.Dag.{Dag, from, edges_into, is_one_to_one, is_scatter_gather, tasks_of as planned}
use Rattle.tez_plan.specs.Faults.{IsValid, incoming, primaries, no_primary}
use Rattle.tez_plan.specs.Ranges.{IsInRanges}
use Rattle.tez_plan.proofs.CheckLemmas.{valid_parts}
use Rattle.tez_plan.proofs.RankLemmas.{Ranked, ranked}
use Rattle.tez_conf.specs.declared.values.ConfValues.{ConfValues}
use Rattle.tez_vman.specs.declared.seen.Config.{Config as Setting}
use Rattle.tez_vman.specs.Rules.{config as shape}
use Rattle.tez_meaning.specs.Jobs.{Job}
use Rattle.tez_shares.specs.Shares.{has_source, has_edge_from}
use Rattle.tez_events.specs.declared.Entry.TheVariants.{Opened, Stands, Carried, Kept, Stopped, Committing, Settled}
use Rattle.tez_history.specs.Shape.{vertices}
use Rattle.tez_history.specs.History.{Past, config, winner, is_found}
use Rattle.tez_history.specs.Derived.{task_count, winners_of, is_configured, is_vertex_done, all_done}
use Rattle.tez_history.specs.Rules.{is_opening_step}
use Rattle.tez_history.specs.Follows.{IsMade}
use Rattle.tez_laws.proofs.StepLaw.{both}
use Rattle.tez_progress.proofs.Members.{in_numbers, filter_in, at_each, any_true, all_at, found_each, true_and, clash}
use Rattle.tez_progress.proofs.Fitting.{planned_some, times_some}
use Rattle.tez_contents.specs.Laws.{IsAllowedSoFar, IsAllowedNow, WereAllowed, HasNone, is_kept}
use Rattle.tez_contents.proofs.Agree.{starts_inside}
use Rattle.tez_sinks.specs.Sinks.{is_taken_up}
use Rattle.tez_sinks.specs.Well.{IsWell}

pub own_commit : (past : Past) → HasNone is_taken_up past → is_found past ≡ false
own_commit [] none = refl
own_commit (Opened e ∷ past) none = refl
own_commit (Stopped cause ∷ past) none = refl
own_commit (Committing n ∷ past) none = clash refl none.0
own_commit (_ ∷ past) none = own_commit past none.1

-- ---- a vertex with tasks

not_false : (b : Bool) → (b ≡ true → ⊥) → b ≡ false
not_false true h = absurd (h refl)
not_false false h = refl

-- a vertex without an edge that feeds it has a source
source_there : (g : Dag) (v : ℕ) → IsValid g → IsInRanges g → v < length g.vertices
    → incoming is_one_to_one g v ≡ [] → incoming is_scatter_gather g v ≡ [] → has_source g v ≡ true
source_there g v valid ranges inside one gathers = by (slice_get g.vertices v) refl where
  source : (o : Option (List ℕ)) → (0 + min 1 0 + option_map_or (λ _. 1) o 0 == 0) ≡ false → is_some o ≡ true
  source None h = cc
  source (Some name) h = refl

  by : (o : Option VertexSpec) → slice_get g.vertices v ≡ o → option_map_or (λ s. is_some s.source) o false ≡ true
  by None e =
      let some = planned_some g v ranges inside in
      let nothing : planned g v ≡ 0 = ap (λ o. option_map_or (λ (s : VertexSpec). s.tasks) o 0) e in
      absurd (omega (arith, some, nothing))
  by (Some s) e =
      let no : (primaries g v s == 0) ≡ false =
      sym (ap (λ o. option_map_or (λ t. primaries g v t == 0) o false) e)
      ∙ not_false (no_primary g v) ((valid_parts g valid).some_primary v) in
      source s.source
      (subst (λ (es : List EdgeSpec). (0 + min 1 (length es) + option_map_or (λ _. 1) s.source 0 == 0) ≡ false) gathers
      (subst (λ (es : List EdgeSpec).
      (length es + min 1 (length (incoming is_scatter_gather g v)) + option_map_or (λ _. 1) s.source 0 == 0) ≡ false) one no))

module _ (g : Dag) (f : ℕ → Option Setting) (valid : IsValid g) (ranges : IsInRanges g)
    (so_far : IsAllowedSoFar g f) where
  record HasTasks : Type 0 where
    v : ℕ
    inside : v < length g.vertices
    some : (s : Setting) → f v ≡ Some s → 1 ≤ s.tasks

  r : Ranked g
  r = ranked g valid

  edge_there : (kind : EdgeSpec → Bool) (v : ℕ) (e : EdgeSpec) → In e (edges_into g v) → kind e ≡ true
      → has_edge_from kind g (from g e) v ≡ true
  edge_there kind v e m k =
      any_true (λ d. kind d && (from g d == from g e)) e (edges_into g v) m
      (true_and k (eq-eqb (from g e) (from g e) refl))

  gathered : (v : ℕ) (e : EdgeSpec) (s : Setting) → In e (edges_into g v) → is_scatter_gather e ≡ true → f v ≡ Some s
      → 1 ≤ s.tasks
  gathered v e s m k is =
      let d = so_far.shuffle v (from g e) s is (edge_there is_scatter_gather v e m k) in
      let low : 1 ≤ s.base = d.0 in
      let high : s.base ≤ planned g v = d.1 in
      let times = div_ceil_times (planned g v) s.base (omega (arith, low)) in
      let full : 1 ≤ div_ceil (planned g v) s.base =
      times_some (planned g v) s.base (div_ceil (planned g v) s.base) times.0 (omega (arith, low, high)) in
      subst (λ n. 1 ≤ n) (sym d.2) full

  own_tasks : (v : ℕ) → v < length g.vertices → incoming is_one_to_one g v ≡ [] → HasTasks
  own_tasks v inside one = by (incoming is_scatter_gather g v) refl where
    by : (es : List EdgeSpec) → incoming is_scatter_gather g v ≡ es → HasTasks
    by [] e = record {
      v = v;
      inside = inside;
      some = λ s is.
          let same = (so_far.source v s is (source_there g v valid ranges inside one e)).0 in
          let some = planned_some g v ranges inside in
          omega (arith, same, some);
    }
    by (d ∷ es) e =
        let k = filter_in is_scatter_gather d (edges_into g v) (subst (In d) (sym e) (inl refl)) in
        record { v = v; inside = inside; some = λ s is. gathered v d s k.0 k.1 is }

  tasks_from : (n v : ℕ) → r.rank_of v < n → v < length g.vertices → HasTasks
  tasks_from zero v low inside = absurd (omega (arith, low))
  tasks_from (suc n) v low inside = by (tasks_from n) (incoming is_one_to_one g v) refl where
    by : ((u : ℕ) → r.rank_of u < n → u < length g.vertices → HasTasks) → (es : List EdgeSpec)
        → incoming is_one_to_one g v ≡ es → HasTasks
    by before [] e = own_tasks v inside e
    by before (d ∷ es) e =
        let k = filter_in is_one_to_one d (edges_into g v) (subst (In d) (sym e) (inl refl)) in
        let falls : r.rank_of (from g d) < r.rank_of v =
        at_each (λ x. r.rank_of (from g x) < r.rank_of v) d (edges_into g v) (r.falls v) k.0 in
        before (from g d) (omega (arith, falls, low)) (starts_inside g v d valid k.0)

  some_tasks : HasTasks
  some_tasks = tasks_from (length g.vertices) 0 (r.below 0 ranges.some) ranges.some

-- ---- no winner was taken over

no_winner : (past : Past) (t : TaskId) → is_opening_step past ≡ true → HasNone is_kept past → winner t past ≡ None
no_winner [] t h none = cc
no_winner (Opened e ∷ past) t h none = refl
no_winner (Stands v tasks base ∷ past) t h none = no_winner past t h none.1
no_winner (Carried s n ∷ past) t h none = no_winner past t h none.1
no_winner (Kept a ∷ past) t h none = clash refl none.0
no_winner (_ ∷ past) t h none = cc

configured : (o : Option Setting) → is_some o ≡ true → (s : Setting) × (o ≡ Some s)
configured None h = cc
configured (Some s) h = (s, refl)

none_all_won : (g : Dag) (past : Past) → IsValid g → IsInRanges g → IsAllowedNow g past → is_opening_step past ≡ true
    → HasNone is_kept past → all_done g past ≡ true → ⊥
none_all_won g past valid ranges now opening none done =
    let k = some_tasks g (λ v. config v past) valid ranges now in
    let inside = k.inside in
    let listed = in_numbers 0 (length g.vertices) k.v (omega arith) (omega (arith, inside)) in
    let whole = both {x = is_configured k.v past} (all_at (λ u. is_vertex_done g u past) k.v (vertices g) done listed) in
    let n = task_count g k.v past in
    let s = configured (config k.v past) whole.0 in
    let count : n ≡ s.0.tasks = ap (λ o. (unwrap_or o (shape (planned g k.v) 1)).tasks) s.1 in
    let some : 1 ≤ s.0.tasks = k.some s.0 s.1 in
    let full : length (winners_of k.v n past) ≡ n = eqb-true (length (winners_of k.v n past)) n whole.1 in
    let won : is_some (winner (task k.v 0) past) ≡ true =
    found_each (λ i. winner (task k.v i) past) 0 n 0 full (omega arith) (omega (arith, count, some)) in
    clash won (ap is_some (no_winner past (task k.v 0) opening none))

so_none : (g : Dag) (c : ConfValues) (past : Past) → IsValid g → IsInRanges g → IsMade g c past → WereAllowed g past
    → HasNone is_kept past → HasNone is_taken_up past
so_none g c [] valid ranges m allowed none = tt
so_none g c (Committing n ∷ past) valid ranges m allowed none =
    absurd (none_all_won g past valid ranges allowed.0 m.0.0 none.1 m.0.2)
so_none g c (Settled v ∷ past) valid ranges m allowed none =
    clash m.0.0 (own_commit past (so_none g c past valid ranges m.1 allowed.1 none.1))
so_none g c (_ ∷ past) valid ranges m allowed none = (refl, so_none g c past valid ranges m.1 allowed.1 none.1)

pub none_taken_up : (job : Job) (c : ConfValues) (past : Past) → IsWell job c past → HasNone is_kept past
    → HasNone is_taken_up past
none_taken_up job c past w none = so_none job.plan c past w.valid w.ranges w.made w.allowed none
