-- An attempt that met a bad record tells that its vertex meets one, and where no winner did, none does.
--     task_blames       a bad task makes its vertex bad
--     bad_task          a bad vertex has a bad task
--     attempt_blames
--     good_defined
use Rattle.std.specs.Prelude.{◌≡◌, ◌⊎◌, ℕ, ◌+◌, ◌<◌, ◌≤◌, nat_lt, Bool, true, false, if◌then◌else◌, [], ◌∷◌, length, Option, Some, None, is_some, unwrap_or, refl}
use Rattle.std.specs.Option.{option_map_or}
use Rattle.std.proofs.Common.{ap, sym, ◌∙◌, arith, subst, ⊎_elim}
use Rattle.std.proofs.lemmas.Bool.{eqb-true, cases_lt, or_right}
use Rattle.std.proofs.lemmas.Bool.Decides.{nat_tests}
use Rattle.std.proofs.lemmas.Option.{slice_get_past}
use Rattle.tez_ids.specs.declared.TaskId.{TaskId}
use Rattle.tez_ids.specs.declared.AttemptId.{AttemptId}
use Rattle.tez_ids.specs.Same.{task, same_task, same_attempt}
use Rattle.tez_lists.specs.Numbers.{In, numbers_from}
use Rattle.tez_lists.proofs.Members.{in_range_from}
use Rattle.tez_plan.specs.Dag.{Dag, tasks_of as planned}
use Rattle.tez_plan.specs.Faults.{IsValid}
use Rattle.tez_plan.specs.Ranges.{IsInRanges}
use Rattle.tez_conf.specs.declared.values.ConfValues.{ConfValues}
use Rattle.tez_vman.specs.Rules.{config as shape}
use Rattle.tez_values.specs.Program.{is_bad}
use Rattle.tez_meaning.specs.Jobs.{Job}
use Rattle.tez_meaning.specs.Value.{value, bad, inputs_of, IsDefined}
use Rattle.tez_shares.specs.Shares.{Config, HasTasks, SharesMakeWhole, task_bad, tasks_in}
use Rattle.tez_shares.proofs.FitsLemmas.{fits_valid}
use Rattle.tez_shares.proofs.Shared.{shares_whole}
use Rattle.tez_events.specs.declared.Entry.TheVariants.{Opened, Over, Kept, Ordered, Succeeded, Rerun, Stopped}
use Rattle.tez_history.specs.Shape.{vertices}
use Rattle.tez_history.specs.History.{Past, config, stage, winner}
use Rattle.tez_history.specs.Derived.{is_processing, is_configured, task_count, winners_of, is_vertex_done, all_done}
use Rattle.tez_history.specs.Follows.{IsMade}
use Rattle.tez_laws.proofs.StepLaw.{both, alive_task}
use Rattle.tez_laws.proofs.OneLive.{running_alive}
use Rattle.tez_laws.proofs.Tasks.{winner_task}
use Rattle.tez_progress.proofs.Members.{numbers_in, in_numbers, any_true, any_some, all_at, found_each, clash}
use Rattle.tez_progress.proofs.Fitting.{planned_some}
use Rattle.tez_contents.specs.Contents.{configurations, met_bad, is_ordered}
use Rattle.tez_contents.specs.Laws.{IsAllowedNow, WereAllowed, KeptRight, HasNone, is_kept}
use Rattle.tez_contents.proofs.Agree.{bad_same}
use Rattle.tez_contents.proofs.Complete.{completed, completed_there, completed_allowed, config_of}
use Rattle.tez_contents.proofs.Pieces.{numbers_are}
use Rattle.tez_contents.proofs.Sent.{runs_ordered}
use Rattle.tez_contents.proofs.Tasks.{Stands, closed_so_far}
use Rattle.tez_contents.proofs.Attempts.{all_right}
use Rattle.tez_sinks.specs.Sinks.{WinnersAreGood}
use Rattle.tez_sinks.proofs.Quiet.{freed_some}

below : (a b : ℕ) → nat_lt a b ≡ true → a < b
below a b h = grind (arith, nat_tests)

there : {X : Type 0} (o : Option X) → is_some o ≡ true → (x : X) × (o ≡ Some x)
there None h = cc
there (Some x) h = (x, refl)

module _ (job : Job) (past : Past) (ranges : IsInRanges job.plan) (valid : IsValid job.plan) (now : IsAllowedNow job.plan past) where
  whole_config : ℕ → Config
  whole_config = completed job.plan (λ u. config u past)

  config_same : (v : ℕ) → Stands job past ranges valid now v → whole_config v ≡ configurations job.plan past v
  unfolding whole_config
  config_same v h =
      let s = there (config v past) h.1 in
      completed_there job.plan (λ u. config u past) ranges valid now v s.0 h.0 s.1
      ∙ sym (ap (λ o. config_of (unwrap_or o (shape (planned job.plan v) 1))) s.1)

  shared : (v : ℕ) → v < length job.plan.vertices → SharesMakeWhole job whole_config v
  unfolding whole_config
  shared v inside =
      let has : HasTasks job.plan = λ u low. (let some = planned_some job.plan u ranges low in omega (arith, some)) in
      shares_whole job (completed job.plan (λ u. config u past)) valid (fits_valid job.plan valid has) (completed_allowed job.plan (λ u. config u past) ranges valid now) v inside

  same_bad : (v t : ℕ) → Stands job past ranges valid now v → task_bad job whole_config v t ≡ task_bad job (configurations job.plan past) v t
  same_bad v t h = bad_same job whole_config (configurations job.plan past) (Stands job past ranges valid now) valid (closed_so_far job past ranges valid now) config_same v t h.0 h

  count_same : (v : ℕ) → Stands job past ranges valid now v → (whole_config v).tasks ≡ task_count job.plan v past
  count_same v h = ap (λ (c : Config). c.tasks) (config_same v h)

  pub task_blames : (v t : ℕ) → Stands job past ranges valid now v → t < task_count job.plan v past → task_bad job (configurations job.plan past) v t ≡ true → bad job v ≡ true
  task_blames v t h low blamed =
      let low_there : t < 0 + (whole_config v).tasks = (let n = count_same v h in omega (arith, low, n)) in
      (shared v h.0).bads.0 (any_true (task_bad job whole_config v) t (tasks_in whole_config v) (in_range_from 0 (whole_config v).tasks t (omega arith) low_there) (same_bad v t h ∙ blamed))

  pub bad_task : (v : ℕ) → Stands job past ranges valid now v → bad job v ≡ true → (t : ℕ) × (t < task_count job.plan v past) × (task_bad job (configurations job.plan past) v t ≡ true)
  bad_task v h blamed =
      let found = any_some (task_bad job whole_config v) (tasks_in whole_config v) ((shared v h.0).bads.1 blamed) in
      let inside : In found.0 (numbers_from 0 (whole_config v).tasks) = subst (In found.0) (sym (numbers_are 0 (whole_config v).tasks)) found.1 in
      let low : found.0 < 0 + (whole_config v).tasks = numbers_in 0 (whole_config v).tasks found.0 inside in
      (found.0, (let n = count_same v h in omega (arith, low, n)), sym (same_bad v found.0 h) ∙ found.2)

-- ---- a winner that was not taken over was sent

winner_sent : (g : Dag) (c : ConfValues) (past : Past) (t : TaskId) (w : AttemptId) → IsMade g c past → HasNone is_kept past → winner t past ≡ Some w → is_ordered w past ≡ true
winner_sent g c [] t w m none h = cc
winner_sent g c (Opened _ ∷ past) t w m none h = cc
winner_sent g c (Over ∷ past) t w m none h = cc
winner_sent g c (Stopped _ ∷ past) t w m none h = cc
winner_sent g c (Kept a ∷ past) t w m none h = clash refl none.0
winner_sent g c (Succeeded a ∷ past) t w m none h = by (same_task a.task t) h (winner_sent g c past t w m.1 none.1) where
  by : (b : Bool) → (if b then Some a else winner t past) ≡ Some w → (winner t past ≡ Some w → is_ordered w past ≡ true) → is_ordered w past ≡ true
  by true k before = let same : a ≡ w = cc in subst (λ x. is_ordered x past ≡ true) same (runs_ordered a past m.0)
  by false k before = before k
winner_sent g c (Rerun a ∷ past) t w m none h = winner_sent g c past t w m.1 none.1 (freed_some a w (winner t past) h)
winner_sent g c (Ordered a ∷ past) t w m none h = or_right (same_attempt a w) (is_ordered w past) (winner_sent g c past t w m.1 none.1 h)
winner_sent g c (_ ∷ past) t w m none h = winner_sent g c past t w m.1 none.1 h

module _ (job : Job) (c : ConfValues) (past : Past) (ranges : IsInRanges job.plan) (valid : IsValid job.plan) (m : IsMade job.plan c past) (allowed : WereAllowed job.plan past) (now : IsAllowedNow job.plan past) (kept : KeptRight job past) where
  pub attempt_blames : (a : AttemptId) → is_processing (stage a past) ≡ true → met_bad job a past ≡ true → bad job a.task.vertex.0 ≡ true
  attempt_blames a runs met =
      let right = (all_right job c ranges valid past m allowed kept).1 a (runs_ordered a past runs) in
      let is_task = both {x = is_configured a.task.vertex.0 past} (alive_task job.plan c past a m (running_alive (stage a past) runs)).0 in
      task_blames job past ranges valid now a.task.vertex.0 a.task.index right.0.0 (below a.task.index (task_count job.plan a.task.vertex.0 past) is_task.1) (sym right.1 ∙ met)

  good_at : (v : ℕ) → HasNone is_kept past → WinnersAreGood job past → v < length job.plan.vertices → is_vertex_done job.plan v past ≡ true → bad job v ≡ true → ⊥
  good_at v none good inside done blamed =
      let n = task_count job.plan v past in
      let parts = both {x = is_configured v past} done in
      let found = bad_task job past ranges valid now v (inside, parts.0) blamed in
      let full : length (winners_of v n past) ≡ n = eqb-true (length (winners_of v n past)) n parts.1 in
      let low = found.1 in
      let w = there (winner (task v found.0) past) (found_each (λ i. winner (task v i) past) 0 n found.0 full (omega arith) (omega (arith, low))) in
      let right = (all_right job c ranges valid past m allowed kept).1 w.0 (winner_sent job.plan c past (task v found.0) w.0 m none w.1) in
      let at : w.0.task ≡ task v found.0 = winner_task past (task v found.0) w.0 w.1 in
      let met : task_bad job (configurations job.plan past) w.0.task.vertex.0 w.0.task.index ≡ true = ap (λ (t : TaskId). task_bad job (configurations job.plan past) t.vertex.0 t.index) at ∙ found.2 in
      clash (right.1 ∙ met) (good (task v found.0) w.0 w.1)

  pub good_defined : HasNone is_kept past → WinnersAreGood job past → all_done job.plan past ≡ true → IsDefined job
  good_defined none good done v = by (bad job v) refl where
    inside_or : (v < length job.plan.vertices) ⊎ (length job.plan.vertices ≤ v)
    inside_or = cases_lt v (length job.plan.vertices)

    by : (b : Bool) → bad job v ≡ b → bad job v ≡ false
    by false e = e
    by true e = ⊎_elim
        (λ (inside : v < length job.plan.vertices). absurd (good_at v none good inside (all_at (λ u. is_vertex_done job.plan u past) v (vertices job.plan) done (in_numbers 0 (length job.plan.vertices) v (omega arith) (omega (arith, inside)))) e))
        (λ (past_end : length job.plan.vertices ≤ v). ap (λ o. option_map_or (λ s. is_bad s.head s.steps (inputs_of job v s (value job))) o false) (slice_get_past job.plan.vertices v past_end))
        inside_or
