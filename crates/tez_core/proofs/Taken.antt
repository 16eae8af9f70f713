-- A task is one of a configured vertex, also once it is scheduled.
use Rattle.std.specs.Prelude.{◌≡◌, ℕ, zero, suc, nat_lt, Bool, true, false, List, [], ◌∷◌, slice_get, slice_set, Option, Some, None, refl}
use Rattle.std.specs.Option.{option_map_or}
use Rattle.std.proofs.Common.{ap, sym, ◌∙◌}
use Rattle.tez_ids.specs.declared.TaskId.{TaskId}
use Rattle.tez_schedule.specs.State.{ScheduleState, VertexState}
use Rattle.tez_schedule.specs.Table.{tasks_by, scheduled_with, is_task, after_schedule}

abbrev told : ℕ → Option VertexState → Bool
told i o = option_map_or (λ x. nat_lt i (tasks_by x.config)) o false

here : (i : ℕ) (vs : List VertexState) (v : ℕ) (x : VertexState) → slice_get vs v ≡ Some x → told i (slice_get (slice_set vs v (scheduled_with i x)) v) ≡ told i (Some x)
here i [] v x e = cc
here i (y ∷ ys) zero x e = refl
here i (y ∷ ys) (suc v) x e = here i ys v x e

scheduled : (i : ℕ) (vs : List VertexState) (v : ℕ) (o : Option VertexState) → slice_get vs v ≡ o
    → told i (slice_get (option_map_or (λ x. slice_set vs v (scheduled_with i x)) o vs) v) ≡ told i (slice_get vs v)
scheduled i vs v None e = refl
scheduled i vs v (Some x) e = here i vs v x e ∙ sym (ap (told i) e)

pub still_task : (s : ScheduleState) (t : TaskId) → is_task s t ≡ true → is_task (after_schedule s t) t ≡ true
still_task s t h = scheduled t.index s.vertices t.vertex.0 (slice_get s.vertices t.vertex.0) refl ∙ h
