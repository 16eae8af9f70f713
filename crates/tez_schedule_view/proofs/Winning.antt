-- Winners come and go.
use Rattle.std.specs.Prelude.{◌≡◌, ℕ, ◌<◌, ◌≤◌, max, Bool, true, false, ◌||◌, ◌&&◌, ◌==◌, if◌then◌else◌, List, [], ◌∷◌, map, length, Option, Some, None, is_some, IsTrue, refl}
use Rattle.std.specs.Option.{option_map_or}
use Rattle.std.proofs.Common.{ap, sym, ◌∙◌, arith, subst}
use Rattle.tez_ids.specs.declared.EdgeId.{EdgeId}
use Rattle.tez_ids.specs.declared.TaskId.{TaskId}
use Rattle.tez_ids.specs.declared.AttemptId.{AttemptId}
use Rattle.tez_ids.specs.Same.{task, same_task, same_attempt}
use Rattle.tez_events.specs.declared.Entry.TheVariants.{Queued, Succeeded, Made, Rerun, Kept, InputFailed}
use Rattle.tez_plan.specs.Dag.{Dag, edge, source_of, tasks_of as planned}
use Rattle.tez_conf.specs.declared.values.ConfValues.{ConfValues}
use Rattle.tez_history.specs.History.{Past, extend, config, stage, winner, freed, is_scheduled, made_bytes}
use Rattle.tez_history.specs.Derived.{is_processing, task_count, to_schedule, greatest_to_schedule, notices, next_attempt}
use Rattle.tez_history.specs.Steps.{requeue, withdrawal, done_entries}
use Rattle.tez_history.specs.Follows.{IsMade, MayFollow}
use Rattle.tez_laws.proofs.Same.{same_task-true, same_attempt-refl}
use Rattle.tez_laws.proofs.Tasks.{winner_task}
use Rattle.tez_laws.proofs.Ranges.{winner_scheduled}
use Rattle.tez_laws.proofs.StepLaw.{through, notices_are, made-extend, done_may}
use Rattle.tez_laws.proofs.Going.{extend-append}
use Rattle.tez_schedule.specs.Table.{after_schedule, after_win, after_withdraw, bytes_for, with_result}
use Rattle.tez_schedule_view.specs.View.{schedule_view, has_winner, made_view, FitsPlan}
use Rattle.tez_schedule_view.specs.Events.{as_made, Tells, HasNoBytes}
use Rattle.tez_schedule_view.proofs.Beginning.{schedule_with}
use Rattle.tez_schedule_view.proofs.Seeing.{edges_view}
use Rattle.tez_schedule_view.proofs.Asking.{most_view, asks, quiet, to_schedule_by}
use Rattle.tez_schedule_view.proofs.Staying.{silent_view, again_view}
use Rattle.tez_schedule_view.proofs.Changing.{result_view, scheduled_vertices}
use Rattle.tez_schedule_view.proofs.Told.{report_tells}

-- ---- a report

made_through : {A : Type 0} (fact : Past → A) (a : AttemptId) → ((p : Past) (d : EdgeId) (n : ℕ) → fact (Made a d n ∷ p) ≡ fact p) → (past : Past) (made : List (ℕ × ℕ)) → fact (extend past (map (λ m. Made a (edge m.0) m.1) made)) ≡ fact past
made_through fact a same past [] = refl
made_through fact a same past (x ∷ xs) = made_through fact a same (Made a (edge x.0) x.1 ∷ past) xs ∙ same past (edge x.0) x.1

to_schedule_made : (g : Dag) (c : ConfValues) (v : ℕ) (past : Past) (a : AttemptId) (d : EdgeId) (n : ℕ) → to_schedule g c v (Made a d n ∷ past) ≡ to_schedule g c v past
to_schedule_made g c v past a d n = to_schedule_by g c v past (Made a d n ∷ past) refl refl refl refl refl

won_now : (a : AttemptId) (b : Bool) (o : Option AttemptId) → is_some (if b then Some a else o) ≡ (if b then true else is_some o)
won_now a true o = refl
won_now a false o = refl

unlike : (a w : AttemptId) (t : TaskId) → same_task a.task t ≡ false → w.task ≡ t → same_attempt a w ≡ false
unlike a w t h e = grind arith

bytes_after : (g : Dag) (past : Past) (a : AttemptId) (made : List (ℕ × ℕ)) (told : List (EdgeId × ℕ)) → Tells g (extend past (done_entries a made)) a told → (e : ℕ) → e < length g.edges → (i : ℕ)
    → made_view (extend past (done_entries a made)) e (task (source_of g e) i) ≡ (if same_task a.task (task (source_of g e) i) then bytes_for e told else made_view past e (task (source_of g e) i))
bytes_after g past a made told tells e low i =
    ap (λ o. option_map_or (λ w. made_bytes w e (extend past (done_entries a made))) o 0) (made_through (λ p. winner (task (source_of g e) i) p) a (λ p d n. refl) (Succeeded a ∷ past) made)
    ∙ by (same_task a.task (task (source_of g e) i)) refl
  where
    kept : (w : AttemptId) → same_attempt a w ≡ false → made_bytes w e (extend past (done_entries a made)) ≡ made_bytes w e past
    kept w other = made_through (λ p. made_bytes w e p) a (λ p d n. ap (λ b. if b && (d.0 == e) then n else made_bytes w e p) other) (Succeeded a ∷ past) made

    others : (o : Option AttemptId) → winner (task (source_of g e) i) past ≡ o → same_task a.task (task (source_of g e) i) ≡ false
        → option_map_or (λ w. made_bytes w e (extend past (done_entries a made))) o 0 ≡ option_map_or (λ w. made_bytes w e past) o 0
    others None is other = refl
    others (Some w) is other = kept w (unlike a w (task (source_of g e) i) other (winner_task past (task (source_of g e) i) w is))

    by : (b : Bool) → same_task a.task (task (source_of g e) i) ≡ b
        → option_map_or (λ w. made_bytes w e (extend past (done_entries a made))) (if b then Some a else winner (task (source_of g e) i) past) 0
        ≡ (if b then bytes_for e told else made_view past e (task (source_of g e) i))
    by true h = sym (tells e low (ap (λ (t : TaskId). t.vertex.0) (sym (same_task-true a.task (task (source_of g e) i) h))))
    by false h = others (winner (task (source_of g e) i) past) refl h

pub reported_view : (g : Dag) (c : ConfValues) (past : Past) (a : AttemptId) (made : List (ℕ × ℕ)) (told : List (EdgeId × ℕ)) → IsMade g c past → FitsPlan g past → IsTrue (is_processing (stage a past))
    → Tells g (extend past (done_entries a made)) a told → after_win (schedule_view g c past) a.task told ≡ schedule_view g c (extend past (done_entries a made))
reported_view g c past a made told m fits runs tells =
    let later = extend past (done_entries a made) in
    result_view g c past (extend past (done_entries a made)) (λ s. is_scheduled s past) a.task true told
    (record {
      config = λ v. made_through (λ p. config v p) a (λ p d n. refl) (Succeeded a ∷ past) made;
      scheduled = λ s. made_through (λ p. is_scheduled s p) a (λ p d n. refl) (Succeeded a ∷ past) made;
      won = λ s. made_through (λ p. has_winner p s) a (λ p d n. refl) (Succeeded a ∷ past) made ∙ won_now a (same_task a.task s) (winner s past);
      bytes = λ e low i. bytes_after g past a made told tells e low i;
      most = λ v.
          made_through (λ p. greatest_to_schedule g c v p) a (λ p d n. quiet g c v p (Made a d n) refl (to_schedule_made g c v p a d n)) (Succeeded a ∷ past) made
          ∙ asks g c v past (Succeeded a) refl
          ∙ ap (max (greatest_to_schedule g c v past)) (sym (made_through (λ p. to_schedule g c v p) a (λ p d n. to_schedule_made g c v p a d n) (Succeeded a ∷ past) made));
      made = made-extend g c past (done_entries a made) m (done_may g c past a made runs);
      fits = λ v. subst (λ n. n ≤ planned g v) (sym (made_through (λ p. task_count g v p) a (λ p d n. refl) (Succeeded a ∷ past) made)) (fits v);
    })

pub done_view : (g : Dag) (c : ConfValues) (past : Past) (a : AttemptId) (made : List (ℕ × ℕ)) → IsMade g c past → FitsPlan g past → IsTrue (is_processing (stage a past)) → HasNoBytes past a
    → after_win (schedule_view g c past) a.task (as_made made) ≡ schedule_view g c (extend past (done_entries a made))
done_view g c past a made m fits runs none = reported_view g c past a made (as_made made) m fits runs (report_tells g past a made none)

-- ---- a winner that is taken over

bytes_kept : (g : Dag) (past : Past) (a : AttemptId) (told : List (EdgeId × ℕ)) → Tells g past a told → (e : ℕ) → e < length g.edges → (i : ℕ)
    → made_view (Kept a ∷ past) e (task (source_of g e) i) ≡ (if same_task a.task (task (source_of g e) i) then bytes_for e told else made_view past e (task (source_of g e) i))
bytes_kept g past a told tells e low i = by (same_task a.task (task (source_of g e) i)) refl where
  by : (b : Bool) → same_task a.task (task (source_of g e) i) ≡ b
      → option_map_or (λ w. made_bytes w e past) (if b then Some a else winner (task (source_of g e) i) past) 0 ≡ (if b then bytes_for e told else made_view past e (task (source_of g e) i))
  by true h = sym (tells e low (ap (λ (t : TaskId). t.vertex.0) (sym (same_task-true a.task (task (source_of g e) i) h))))
  by false h = refl

pub kept_view : (g : Dag) (c : ConfValues) (past : Past) (a : AttemptId) (told : List (EdgeId × ℕ)) → IsMade g c past → FitsPlan g past → MayFollow g c past (Kept a) → Tells g past a told
    → after_win (after_schedule (schedule_view g c past) a.task) a.task told ≡ schedule_view g c (Kept a ∷ past)
kept_view g c past a told m fits may tells =
    ap (λ vs. with_result (schedule_with vs (edges_view g past) (most_view g c past)) a.task true told) (scheduled_vertices g c past a.task)
    ∙ result_view g c past (Kept a ∷ past) (λ s. same_task a.task s || is_scheduled s past) a.task true told
    (record {
      config = λ v. refl;
      scheduled = λ s. refl;
      won = λ s. won_now a (same_task a.task s) (winner s past);
      bytes = λ e low i. bytes_kept g past a told tells e low i;
      most = λ v. asks g c v past (Kept a) refl;
      made = (may, m);
      fits = fits;
    })

-- ---- a winner that is withdrawn

freed_by : (w : AttemptId) (t : TaskId) (b : Bool) (o : Option AttemptId) → same_task w.task t ≡ b → (b ≡ true → o ≡ Some w) → ((x : AttemptId) → o ≡ Some x → x.task ≡ t) → freed w o ≡ (if b then None else o)
freed_by w t true o e has of = ap (freed w) (has refl) ∙ ap (λ x. if x then None else Some w) (same_attempt-refl w)
freed_by w t false None e has of = refl
freed_by w t false (Some x) e has of = ap (λ y. if y then None else Some x) (unlike w x t e (of x refl))

-- a winner that goes leaves those of other tasks
pub withdrawn_winner : (past : Past) (w : AttemptId) (t : TaskId) → winner w.task past ≡ Some w → winner t (Rerun w ∷ past) ≡ (if same_task w.task t then None else winner t past)
withdrawn_winner past w t won =
    freed_by w t (same_task w.task t) (winner t past) refl (λ e. subst (λ u. winner u past ≡ Some w) (same_task-true w.task t e) won) (winner_task past t)

gone_now : (b : Bool) (o : Option AttemptId) → is_some (if b then None else o) ≡ (if b then false else is_some o)
gone_now true o = refl
gone_now false o = refl

gone_bytes : (f : AttemptId → ℕ) (b : Bool) (o : Option AttemptId) → option_map_or f (if b then None else o) 0 ≡ (if b then 0 else option_map_or f o 0)
gone_bytes f true o = refl
gone_bytes f false o = refl

rerun_view : (g : Dag) (c : ConfValues) (past : Past) (w : AttemptId) → IsMade g c past → FitsPlan g past → winner w.task past ≡ Some w → after_withdraw (schedule_view g c past) w.task ≡ schedule_view g c (Rerun w ∷ past)
rerun_view g c past w m fits won =
    result_view g c past (Rerun w ∷ past) (λ s. is_scheduled s past) w.task false []
    (record {
      config = λ v. refl;
      scheduled = λ s. refl;
      won = λ s. ap is_some (withdrawn_winner past w s won) ∙ gone_now (same_task w.task s) (winner s past);
      bytes = λ e low i.
          ap (λ o. option_map_or (λ x. made_bytes x e past) o 0) (withdrawn_winner past w (task (source_of g e) i) won)
          ∙ gone_bytes (λ x. made_bytes x e past) (same_task w.task (task (source_of g e) i)) (winner (task (source_of g e) i) past);
      most = λ v. asks g c v past (Rerun w) refl;
      made = (won, m);
      fits = fits;
    })

pub withdrawal_ends : (g : Dag) (past : Past) (w : AttemptId) → extend past (withdrawal g past w) ≡ Queued (next_attempt past w.task) ∷ extend (Rerun w ∷ past) (notices g past w)
withdrawal_ends g past w = extend-append (Rerun w ∷ past) (notices g past w) (requeue past w.task)

pub withdrawal_view : (g : Dag) (c : ConfValues) (past : Past) (w : AttemptId) → IsMade g c past → FitsPlan g past → winner w.task past ≡ Some w
    → after_withdraw (schedule_view g c past) w.task ≡ schedule_view g c (extend past (withdrawal g past w))
withdrawal_view g c past w m fits won =
    let told : Past = extend (Rerun w ∷ past) (notices g past w) in
    let was : is_scheduled w.task told ≡ true = through (λ p. is_scheduled w.task p) (λ p a e i x. refl) (Rerun w ∷ past) (notices g past w) (notices_are g past w) ∙ winner_scheduled g c past m w.task w won in
    rerun_view g c past w m fits won
    ∙ sym
    (ap (schedule_view g c) (withdrawal_ends g past w) ∙ again_view g c told (next_attempt past w.task) was
    ∙ through (schedule_view g c) (λ p a e i x. silent_view g c p (InputFailed a e i x) tt) (Rerun w ∷ past) (notices g past w) (notices_are g past w))
