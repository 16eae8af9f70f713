-- The laws by events.
use Rattle.std.specs.Prelude.{◌≡◌, ℕ, suc, nat_le, Bool, true, false, if◌then◌else◌, List, ◌∷◌, [], Option, Some, None, unwrap_or, refl}
use Rattle.std.proofs.Common.{ap, sym, ◌∙◌, subst}
use Rattle.tez_ids.specs.declared.TaskId.{TaskId}
use Rattle.tez_ids.specs.declared.EdgeId.{EdgeId}
use Rattle.tez_ids.specs.declared.VertexId.{VertexId}
use Rattle.tez_ids.specs.declared.AttemptId.{AttemptId}
use Rattle.tez_plan.specs.Dag.{Dag, edge}
use Rattle.tez_conf.specs.declared.values.ConfValues.{ConfValues}
use Rattle.tez_vman.specs.declared.seen.Config.{Config}
use Rattle.tez_vman.specs.Rules.{config as shape}
use Rattle.tez_events.specs.declared.KillCause.TheVariants.{Preempt as Preempted}
use Rattle.tez_events.specs.declared.Entry.{Entry}
use Rattle.tez_events.specs.declared.Entry.TheVariants.{Fetched, ReadError, Failed, OutputLost, Asked, Settled}
use Rattle.tez_events.specs.declared.CoreEvent.TheVariants.{Configure, Fetch, Preempt, Fail, LoseOutput}
use Rattle.tez_history.specs.History.{Past, extend, stage, winner, failures}
use Rattle.tez_history.specs.Derived.{configures, is_on_shelf}
use Rattle.tez_history.specs.Steps.{enabled, entries_of, requeue, withdrawal, fetch_entries, output_lost_entries, winner_behind, is_running}
use Rattle.tez_history.specs.Follows.{IsMade, AllMayFollow}
use Rattle.tez_laws.specs.Laws.{answered}
use Rattle.tez_laws.proofs.OneLive.{waits_placed, placed_alive, running_alive}
use Rattle.tez_laws.proofs.StepLaw.{both, event_may}
use Rattle.tez_schedule.specs.Table.{after_configure, after_withdraw}
use Rattle.tez_schedule_view.specs.View.{schedule_view, FitsPlan}
use Rattle.tez_schedule_view.proofs.Staying.{silent_view}
use Rattle.tez_schedule_view.proofs.Changing.{configured_view}
use Rattle.tez_schedule_view.proofs.Winning.{withdrawal_view}
use Rattle.tez_schedule_view.proofs.Losing.{killed_view, failed_view}

pub configure_view : (g : Dag) (c : ConfValues) (past : Past) (v : VertexId) (s : Config) → IsMade g c past → enabled g c past (Configure v) ≡ true → configures g c v.0 past ≡ Some s
    → FitsPlan g (extend past (entries_of g c past (Configure v))) → after_configure (schedule_view g c past) v.0 s ≡ schedule_view g c (extend past (entries_of g c past (Configure v)))
configure_view g c past v s m may is fits =
    let same : unwrap_or (configures g c v.0 past) (shape 0 0) ≡ s = ap (λ o. unwrap_or o (shape 0 0)) is in
    let n : ℕ = (unwrap_or (configures g c v.0 past) (shape 0 0)).tasks in
    let b : ℕ = (unwrap_or (configures g c v.0 past) (shape 0 0)).base in
    ap (after_configure (schedule_view g c past) v.0) (sym same) ∙ configured_view g c past v n b ((event_may g c past (Configure v) m may).0, m) fits

-- ---- inputs

abbrev error_entries : Dag → Past → AttemptId → ℕ → ℕ → AttemptId → List Entry
error_entries g past a e i w = ReadError a (edge e) i w ∷ withdrawal g (ReadError a (edge e) i w ∷ past) w

pub fetched_view : (g : Dag) (c : ConfValues) (past : Past) (a : AttemptId) (e : EdgeId) (i : ℕ) (w : AttemptId) → winner_behind g past a e.0 i ≡ Some w → is_on_shelf g c past w ≡ true
    → schedule_view g c (extend past (entries_of g c past (Fetch a e i))) ≡ schedule_view g c past
fetched_view g c past a e i w behind there =
    ap (λ o. schedule_view g c (extend past (fetch_entries g c past a e.0 i o))) behind
    ∙ ap (λ b. schedule_view g c (extend past (if b then Fetched a (edge e.0) i w ∷ [] else error_entries g past a e.0 i w))) there
    ∙ silent_view g c past (Fetched a (edge e.0) i w) tt

pub error_view : (g : Dag) (c : ConfValues) (past : Past) (a : AttemptId) (e : EdgeId) (i : ℕ) (w : AttemptId) → IsMade g c past → FitsPlan g past → enabled g c past (Fetch a e i) ≡ true → winner_behind g past a e.0 i ≡ Some w
    → is_on_shelf g c past w ≡ false → after_withdraw (schedule_view g c past) w.task ≡ schedule_view g c (extend past (entries_of g c past (Fetch a e i)))
error_view g c past a e i w m fits h behind gone =
    let same : entries_of g c past (Fetch a e i) ≡ error_entries g past a e.0 i w =
    ap (fetch_entries g c past a e.0 i) behind ∙ ap (λ b. if b then Fetched a (edge e.0) i w ∷ [] else error_entries g past a e.0 i w) gone in
    let f : AllMayFollow g c past (error_entries g past a e.0 i w) = subst (AllMayFollow g c past) same (event_may g c past (Fetch a e i) m h) in
    ap (λ s. after_withdraw s w.task) (sym (silent_view g c past (ReadError a (edge e.0) i w) tt))
    ∙ withdrawal_view g c (ReadError a (edge e.0) i w ∷ past) w (f.0, m) fits f.1.0 ∙ ap (λ es. schedule_view g c (extend past es)) (sym same)

-- ---- other events

pub preempt_view : (g : Dag) (c : ConfValues) (past : Past) (a : AttemptId) → IsMade g c past → enabled g c past (Preempt a) ≡ true → schedule_view g c (extend past (entries_of g c past (Preempt a))) ≡ schedule_view g c past
preempt_view g c past a m h = killed_view g c past a Preempted m (placed_alive (stage a past) (waits_placed (stage a past) (both (both {x = is_running past} h).1).0))

pub fail_view : (g : Dag) (c : ConfValues) (past : Past) (a : AttemptId) → IsMade g c past → enabled g c past (Fail a) ≡ true → schedule_view g c (extend past (entries_of g c past (Fail a))) ≡ schedule_view g c past
fail_view g c past a m h = by (nat_le c.max_failed (suc (failures a.task past))) where
  by : (b : Bool) → schedule_view g c (extend past (Failed a ∷ (if b then [] else requeue past a.task))) ≡ schedule_view g c past
  by true = silent_view g c past (Failed a) tt
  by false = failed_view g c past a m (running_alive (stage a past) (both {x = is_running past} h).1)

pub output_view : (g : Dag) (c : ConfValues) (past : Past) (t : TaskId) → schedule_view g c (extend past (entries_of g c past (LoseOutput t))) ≡ schedule_view g c past
output_view g c past t = by (winner t past) where
  by : (o : Option AttemptId) → schedule_view g c (extend past (output_lost_entries o)) ≡ schedule_view g c past
  by None = refl
  by (Some w) = silent_view g c past (OutputLost w) tt

pub answer_view : (g : Dag) (c : ConfValues) (past : Past) (v : VertexId) (there : Bool) → schedule_view g c (answered past v there) ≡ schedule_view g c past
answer_view g c past v true = silent_view g c past (Settled v) tt
answer_view g c past v false = silent_view g c past (Asked v) tt
