-- A master can go by a history that begins, stops and starts.
use Rattle.std.specs.Prelude.{◌≡◌, ℕ, ◌≤◌, true, List, [], ◌∷◌, None, refl}
use Rattle.std.proofs.Common.{ap, sym, ◌∙◌, subst, inl, inr}
use Rattle.tez_ids.specs.declared.VertexId.{VertexId}
use Rattle.tez_lists.specs.Numbers.{In}
use Rattle.tez_plan.specs.Dag.{Dag, tasks_of as planned}
use Rattle.tez_plan.specs.Faults.{IsValid}
use Rattle.tez_plan.specs.Ranges.{IsInRanges}
use Rattle.tez_conf.specs.declared.values.ConfValues.{ConfValues}
use Rattle.tez_conf.specs.Ranges.{IsInRange}
use Rattle.tez_vman.specs.declared.seen.Config.{Config}
use Rattle.tez_events.specs.declared.StopCause.{StopCause}
use Rattle.tez_events.specs.declared.Entry.TheVariants.{Over, Stopped}
use Rattle.tez_standing.specs.declared.state.Phase.{Phase}
use Rattle.tez_standing.specs.declared.state.Phase.TheVariants.{Running, CommitStarted, Finished}
use Rattle.tez_standing.specs.declared.state.Standing.{Standing}
use Rattle.tez_history.specs.History.{Past, config, extend}
use Rattle.tez_history.specs.Derived.{is_task}
use Rattle.tez_history.specs.Rules.{is_at_start}
use Rattle.tez_history.specs.Runs.{Run, Unfinished, AllDone, Committed, opened_at, opened_by}
use Rattle.tez_history.specs.Runs.{opened_unless, committed_unless}
use Rattle.tez_laws.specs.Laws.{Sound}
use Rattle.tez_laws.proofs.SoundLaw.{run_between, stop_sound, over_sound, open_sound, taken_sound}
use Rattle.tez_progress.specs.Laws.{IsFitted, found_configs}
use Rattle.tez_progress.proofs.Fitting.{fits_none}
use Rattle.tez_progress.proofs.Opening.{opening_fits, committed_fits}
use Rattle.tez_pool_view.proofs.Committing.{whole_new, whole_stop, whole_start}
use Rattle.tez_vertex_view.specs.View.{FailedStand}
use Rattle.tez_vertex_view.proofs.Opening.{failed_start}
use Rattle.tez_router_view.specs.View.{FitsPlan}
use Rattle.tez_router_view.proofs.Keeping.{fits_planned, entry_fits, opened_fits, taken_up_fits}
use Rattle.tez_schedule_view.specs.Events.{TellsInTime}
use Rattle.tez_schedule_view.proofs.Bytes.{first_tells, stop_keeps, over_keeps, opened_keeps, taken_up_keeps}
use Rattle.tez_master_view.specs.Laws.{Goes}
use Rattle.tez_master_model.specs.Recovery.{KeptState}
use Rattle.tez_recovery.specs.Laws.{as_ground, committed_in, found_in, start_of, IsSizedFor, IsGoingOn, IsFoundIn}
use Rattle.tez_recovery.specs.Laws.{IsFoundAt}
use Rattle.tez_recovery.proofs.Entries.{stands_all, task_stands, unspent}

pub goes_first : (g : Dag) (c : ConfValues) → IsValid g → IsInRanges g → IsInRange c → Goes g c []
goes_first g c valid ranges conf = record {
  valid = valid;
  ranges = ranges;
  conf = conf;
  sound = run_between g c [] conf.some_failed refl;
  fitted = fits_none g (λ v. config v []) (λ v. refl);
  plan = fits_planned g;
  whole = whole_new g;
  failed = λ u t a. refl;
  tells = first_tells;
}

abbrev at : Past → Run
at past = record { past = past; verdict = None }

pub goes_stop : (g : Dag) (c : ConfValues) (past : Past) (cause : StopCause) → Goes g c past → Goes g c (Stopped cause ∷ past)
goes_stop g c past cause go = record {
  valid = go.valid;
  ranges = go.ranges;
  conf = go.conf;
  sound = stop_sound g c past cause go.sound;
  fitted = go.fitted;
  plan = go.plan;
  whole = whole_stop g c (at past) cause;
  failed = λ u t a. cc;
  tells = stop_keeps past cause go.tells;
}

goes_over : (g : Dag) (c : ConfValues) (past : Past) → Goes g c past → is_at_start past ≡ true → Goes g c (Over ∷ past)
goes_over g c past go start = record {
  valid = go.valid;
  ranges = go.ranges;
  conf = go.conf;
  sound = over_sound g c past go.conf.some_failed go.sound start;
  fitted = fits_none g (λ v. config v (Over ∷ past)) (λ v. refl);
  plan = entry_fits g c past Over go.valid start tt go.plan;
  whole = whole_start g c (at past) AllDone start go.whole;
  failed = failed_start g c (at past) AllDone tt go.failed;
  tells = over_keeps past go.tells;
}

-- no vertex has more tasks than the plan gives it
few : (g : Dag) (xs : List (VertexId × ℕ × ℕ)) → ((x : VertexId × ℕ × ℕ) → In x xs → IsSizedFor g x) → (y : ℕ × Config) → In y (found_configs xs) → y.1.tasks ≤ planned g y.0
few g [] sized y i = absurd i
few g (x ∷ xs) sized y (inl e) = subst (λ (z : ℕ × Config). z.1.tasks ≤ planned g z.0) (sym e) (sized x (inl refl)).few
few g (x ∷ xs) sized y (inr i) = few g xs (λ z j. sized z (inr j)) y i

failed_stand : (g : Dag) (c : ConfValues) (past : Past) (s : Standing) (ks : List KeptState) → IsGoingOn g c past s ks → FailedStand g past (Unfinished (as_ground s ks))
failed_stand g c past s ks f x i =
    let p = opened_at (as_ground s ks) past in
    ap (λ es. is_task g (extend p es) x.0) (stands_all g p s.configured (λ y j. refl) f.right.once f.right.sized)
    ∙ task_stands g p s.configured x.0 (λ y j. refl) f.right.once (f.right.failed x i)

goes_open : (g : Dag) (c : ConfValues) (past : Past) (s : Standing) (ks : List KeptState) → Goes g c past → is_at_start past ≡ true → IsGoingOn g c past s ks
    → Goes g c (opened_by g c (at past) (Unfinished (as_ground s ks))).past
goes_open g c past s ks go start f =
    let x = as_ground s ks in
    let none = unspent c s ks f.few in
    let is = ap (λ o. (opened_unless g (at past) x o).past) none in
    record {
      valid = go.valid;
      ranges = go.ranges;
      conf = go.conf;
      sound = subst (Sound g c) (sym is) (open_sound g c past x go.conf.some_failed go.sound start none);
      fitted = subst (IsFitted g) (sym is) (opening_fits g past x go.valid f.right.fits);
      plan = subst (FitsPlan g) (sym is) (opened_fits g past x (few g s.configured f.right.sized));
      whole = whole_start g c (at past) (Unfinished x) start go.whole;
      failed = failed_start g c (at past) (Unfinished x) (failed_stand g c past s ks f) go.failed;
      tells = subst TellsInTime (sym is) (opened_keeps g past x go.tells);
    }

goes_taken_up : (g : Dag) (c : ConfValues) (past : Past) (s : Standing) (ks : List KeptState) (n : ℕ)
    → Goes g c past → is_at_start past ≡ true → IsGoingOn g c past s ks
    → Goes g c (opened_by g c (at past) (Committed (as_ground s ks) n)).past
goes_taken_up g c past s ks n go start f =
    let x = as_ground s ks in
    let none = unspent c s ks f.few in
    let is = ap (λ o. (committed_unless g (at past) x n o).past) none in
    record {
      valid = go.valid;
      ranges = go.ranges;
      conf = go.conf;
      sound = subst (Sound g c) (sym is) (taken_sound g c past x n go.conf.some_failed go.sound start none);
      fitted = subst (IsFitted g) (sym is) (committed_fits g past x n go.valid f.right.fits);
      plan = subst (FitsPlan g) (sym is) (taken_up_fits g past x n (few g s.configured f.right.sized));
      whole = whole_start g c (at past) (Committed x n) start go.whole;
      failed = failed_start g c (at past) (Committed x n) (failed_stand g c past s ks f) go.failed;
      tells = subst TellsInTime (sym is) (taken_up_keeps g past x n go.tells);
    }

pub goes_start : (g : Dag) (c : ConfValues) (past : Past) (s : Standing) (ks : List KeptState) → Goes g c past → is_at_start past ≡ true → IsFoundAt g c past s ks → Goes g c (start_of g c past s ks)
goes_start g c past s ks go start f = by s.phase f where
  by : (p : Phase) → IsFoundIn p g c past s ks
      → Goes g c (opened_by g c (at past) (found_in p s.version (as_ground s ks))).past
  by Running h = goes_open g c past s ks go start h
  by (CommitStarted sums n) h =
      let x = as_ground s ks in
      subst (λ v. Goes g c (opened_by g c (at past) (committed_in v x n)).past) (sym h.version)
      (goes_taken_up g c past s ks n go start h.going)
  by (Finished sums) h = goes_over g c past go start
