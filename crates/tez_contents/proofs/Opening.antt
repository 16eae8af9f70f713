-- What a new master takes over is right after its start, if what it finds is.
--     Good job past      the configurations were and are allowed, and the winners that were taken over are right
--     opening_good
use Rattle.std.specs.Prelude.{◌≡◌, ℕ, ◌<◌, ◌&&◌, Bool, true, false, if◌then◌else◌, List, [], ◌∷◌, ◌++◌, length, Option, Some, None, is_some, is_none, unwrap_or, refl}
use Rattle.std.proofs.Common.{inl, inr, ap, sym, ◌∙◌, subst}
use Rattle.tez_ids.specs.declared.TaskId.{TaskId}
use Rattle.tez_ids.specs.declared.AttemptId.{AttemptId}
use Rattle.tez_lists.specs.Numbers.{In}
use Rattle.tez_plan.specs.Dag.{vertex, is_one_to_one, tasks_of as planned}
use Rattle.tez_plan.specs.Faults.{IsValid}
use Rattle.tez_plan.specs.Ranges.{IsInRanges}
use Rattle.tez_vman.specs.declared.seen.Config.{Config as Setting}
use Rattle.tez_vman.specs.Rules.{config as shape}
use Rattle.tez_meaning.specs.Jobs.{Job}
use Rattle.tez_shares.specs.Shares.{Config, has_edge_from, task_value}
use Rattle.tez_events.specs.declared.Entry.TheVariants.{Stands, Carried, Kept}
use Rattle.tez_history.specs.Shape.{is_vertex}
use Rattle.tez_history.specs.History.{Past, config, extend}
use Rattle.tez_history.specs.Derived.{is_task, is_configured}
use Rattle.tez_history.specs.Steps.{each_after}
use Rattle.tez_history.specs.Runs.{Standing, stands_if, kept_if, carried_entries, opened_at, standing_entries}
use Rattle.tez_laws.proofs.Going.{extend-append}
use Rattle.tez_laws.proofs.StepLaw.{both}
use Rattle.tez_progress.specs.Laws.{found_at}
use Rattle.tez_progress.proofs.Configured.{vertex_below}
use Rattle.tez_progress.proofs.Opening.{stands_config}
use Rattle.tez_progress.proofs.Ready.{lt_true}
use Rattle.tez_contents.specs.Contents.{Records, config_by, configurations, made}
use Rattle.tez_contents.specs.Laws.{IsAllowedSoFar, IsAllowedNow, WereAllowed, KeptRight, StandsRight, is_opening, task_makes}
use Rattle.tez_contents.proofs.Agree.{starts_inside, value_same}
use Rattle.tez_contents.proofs.Feeds.{edge_of}
use Rattle.tez_contents.proofs.Tasks.{closed_so_far}

abbrev pub Good : Job → Past → Type 0
Good job past = WereAllowed job.plan past × IsAllowedNow job.plan past × KeptRight job past

-- some of what is found at vertices of the plan is allowed
inside_or : (b : Bool) (o : Option Setting) (x : Setting) → (if b then o else None) ≡ Some x → (b ≡ true) × (o ≡ Some x)
inside_or true o x h = (refl, h)
inside_or false o x h = cc

module _ (job : Job) (ranges : IsInRanges job.plan) (valid : IsValid job.plan) (found : ℕ → Option Setting) (to_make : AttemptId → Records) where
  -- what was found stands, at the vertices of the plan
  abbrev StandsAsFound : Past → Type 0
  StandsAsFound past = (v : ℕ) → config v past ≡ (if is_vertex job.plan v then found v else None)

  abbrev Made : List AttemptId → Past → Type 0
  Made ks past = (a : AttemptId) → In a ks → made job a past ≡ to_make a

  -- ---- configurations

  abbrev IsOpening : List AttemptId → Past → Type 0
  IsOpening ks past = (is_opening past ≡ true) × WereAllowed job.plan past × KeptRight job past × Made ks past

  one_stands : (ks : List AttemptId) (past : Past) (x : ℕ × Setting) (b : Bool) → IsOpening ks past → IsOpening ks (extend past (if b then Stands (vertex x.0) x.1.tasks x.1.base ∷ [] else []))
  unfolding made
  one_stands ks past x true h = (h.0, (h.0, h.1), (tt, h.2), h.3)
  one_stands ks past x false h = h

  all_stand : (ks : List AttemptId) (past : Past) (xs : List (ℕ × Setting)) → IsOpening ks past → IsOpening ks (extend past (each_after (stands_if job.plan) past xs))
  all_stand ks past [] h = h
  all_stand ks past (x ∷ xs) h =
      let next = extend past (stands_if job.plan past x) in
      subst (IsOpening ks) (sym (extend-append past (stands_if job.plan past x) (each_after (stands_if job.plan) next xs)))
      (all_stand ks next xs (one_stands ks past x (is_none (config x.0 past) && is_vertex job.plan x.0) h))

  -- ---- failures and winners

  abbrev IsTakingOver : List AttemptId → Past → Type 0
  IsTakingOver ks past = Good job past × StandsAsFound past × Made ks past

  all_carried : (ks : List AttemptId) (past : Past) (xs : List (TaskId × ℕ)) → IsTakingOver ks past → IsTakingOver ks (extend past (carried_entries xs))
  unfolding made
  all_carried ks past [] h = h
  all_carried ks past (x ∷ xs) h = all_carried ks (Carried x.0 x.1 ∷ past) xs (((h.0.1, h.0.0), h.0.1, (tt, h.0.2)), h.1, h.2)

  module _ (past : Past) (now : IsAllowedNow job.plan past) (stands : StandsAsFound past) where
    abbrev IsThere : ℕ → Type 0
    IsThere v = (v < length job.plan.vertices) × (is_configured v past ≡ true)

    vertex_there : (v : ℕ) → is_configured v past ≡ true → is_vertex job.plan v ≡ true
    vertex_there v h = by (is_vertex job.plan v) refl where
      by : (b : Bool) → is_vertex job.plan v ≡ b → is_vertex job.plan v ≡ true
      by true e = e
      by false e = let none : config v past ≡ None = stands v ∙ ap (λ b. if b then found v else None) e in let some : is_some (config v past) ≡ true = h in cc

    as_found : (v : ℕ) → IsThere v → config_by job.plan found v ≡ configurations job.plan past v
    as_found v h =
        let same : found v ≡ config v past = ap (λ b. if b then found v else None) (sym (vertex_there v h.1)) ∙ sym (stands v) in
        ap (λ o. let s : Setting = unwrap_or o (shape (planned job.plan v) 1) in let d : Config = record { tasks = s.tasks; base = s.base } in d) same

    makes_as_found : (t : TaskId) → is_task job.plan past t ≡ true → task_value job (config_by job.plan found) t.vertex.0 t.index ≡ task_makes job past t
    makes_as_found t h =
        let k = (both {x = is_configured t.vertex.0 past} h).0 in
        let inside = vertex_below job.plan t.vertex.0 (vertex_there t.vertex.0 k) in
        ap (λ f. f t.index) (value_same job (config_by job.plan found) (configurations job.plan past) IsThere valid (closed_so_far job past ranges valid now) as_found t.vertex.0 inside (inside, k))

  module _ (right : (a : AttemptId) → to_make a ≡ task_value job (config_by job.plan found) a.task.vertex.0 a.task.index) where
    one_kept : (a : AttemptId) (ks : List AttemptId) (past : Past) (b : Bool) → is_task job.plan past a.task ≡ b → IsTakingOver (a ∷ ks) past → IsTakingOver ks (extend past (if b then Kept a ∷ [] else []))
    unfolding made
    one_kept a ks past true e h =
        let this : made job a past ≡ task_makes job past a.task = h.2 a (inl refl) ∙ right a ∙ makes_as_found past h.0.1 h.1 a.task e in
        (((h.0.1, h.0.0), h.0.1, (this, h.0.2)), h.1, λ d m. h.2 d (inr m))
    one_kept a ks past false e h = (h.0, h.1, λ d m. h.2 d (inr m))

    all_kept : (ks : List AttemptId) (past : Past) → IsTakingOver ks past → Good job (extend past (each_after (kept_if job.plan) past ks))
    all_kept [] past h = h.0
    all_kept (a ∷ ks) past h =
        let next = extend past (kept_if job.plan past a) in
        subst (Good job) (sym (extend-append past (kept_if job.plan past a) (each_after (kept_if job.plan) next ks)))
        (all_kept ks next (one_kept a ks past (is_task job.plan past a.task) refl h))

-- ---- a start

module _ (job : Job) (ranges : IsInRanges job.plan) (valid : IsValid job.plan) where
  feeder_is_vertex : (v u : ℕ) → has_edge_from is_one_to_one job.plan u v ≡ true → is_vertex job.plan u ≡ true
  feeder_is_vertex v u h =
      let e = edge_of job.plan is_one_to_one u v h in
      lt_true u (length job.plan.vertices) (subst (λ x. x < length job.plan.vertices) e.3 (starts_inside job.plan v e.0 valid e.1))

  stands_allowed : (found : ℕ → Option Setting) (past : Past) → StandsAsFound job ranges valid found (λ a. []) past → IsAllowedSoFar job.plan found → IsAllowedNow job.plan past
  stands_allowed found past stands so_far = record {
    source = λ v s h k. so_far.source v s (inside_or (is_vertex job.plan v) (found v) s (sym (stands v) ∙ h)).1 k;
    one_to_one = λ v u s h k.
        let d = so_far.one_to_one v u s (inside_or (is_vertex job.plan v) (found v) s (sym (stands v) ∙ h)).1 k in
        (d.0, stands u ∙ ap (λ b. if b then found u else None) (feeder_is_vertex v u k) ∙ d.1, d.2, d.3);
    shuffle = λ v u s h k. so_far.shuffle v u s (inside_or (is_vertex job.plan v) (found v) s (sym (stands v) ∙ h)).1 k;
  }

  pub opening_good : (past : Past) (s : Standing) → StandsRight job past s → Good job past → Good job (extend (opened_at s past) (standing_entries job.plan (opened_at s past) s))
  unfolding made
  opening_good past s finds good =
      let found = found_at s.configured in
      let to_make = λ (a : AttemptId). task_value job (config_by job.plan found) a.task.vertex.0 a.task.index in
      let first = opened_at s past in
      let stands = each_after (stands_if job.plan) first s.configured in
      let carried = carried_entries s.failed in
      let standing = extend first stands in
      let kept = each_after (kept_if job.plan) (extend standing carried) s.kept in
      let opening = all_stand job ranges valid found to_make s.kept first s.configured (refl, (good.1, good.0), (tt, good.2), finds.1) in
      let now = stands_allowed found standing (stands_config job.plan past s) finds.0 in
      let taking = all_carried job ranges valid found to_make s.kept standing s.failed ((opening.1, now, opening.2), stands_config job.plan past s, opening.3) in
      subst (Good job) (sym (extend-append first stands (carried ++ kept) ∙ extend-append standing carried kept))
      (all_kept job ranges valid found to_make (λ a. refl) s.kept (extend standing carried) taking)
