-- The managers that the rules go by can answer at each entry of a history that one master makes.
--     answered      so it is
use Rattle.std.specs.Prelude.{◌≡◌, ℕ, ◌||◌, Bool, true, false, [], ◌∷◌, refl}
use Rattle.tez_ids.specs.declared.AttemptId.{AttemptId}
use Rattle.tez_ids.specs.declared.TaskId.{TaskId}
use Rattle.tez_lists.specs.Numbers.{In}
use Rattle.tez_plan.specs.Dag.{Dag}
use Rattle.tez_plan.specs.Faults.{IsValid}
use Rattle.tez_plan.specs.Ranges.{IsInRanges}
use Rattle.tez_conf.specs.declared.values.ConfValues.{ConfValues}
use Rattle.tez_events.specs.declared.Entry.{Entry}
use Rattle.tez_events.specs.declared.Entry.TheVariants.{Stands, Configured, Queued, Fetched, ReadError, Ordered, Rerun}
use Rattle.tez_history.specs.Shape.{Feed, ByFile, ByVertex, ByPartitions, feed}
use Rattle.tez_history.specs.History.{Past, stage, config}
use Rattle.tez_history.specs.Derived.{is_configured, is_task, is_waiting, live_attempts, waiting_attempts}
use Rattle.tez_history.specs.Rules.{was_scheduled, is_routed, is_asked, start_asked, is_answered}
use Rattle.tez_history.specs.Follows.{MayFollow, IsMade}
use Rattle.tez_laws.specs.Laws.{Obeys}
use Rattle.tez_laws.proofs.OneLive.{waiting_alive}
use Rattle.tez_laws.proofs.Ranges.{configured_is_vertex}
use Rattle.tez_laws.proofs.StepLaw.{both, alive_task}
use Rattle.tez_progress.specs.Laws.{IsFitted, is_stands}
use Rattle.tez_progress.proofs.Fitting.{fits_none}
use Rattle.tez_progress.proofs.Configured.{vertex_below, fits_next}
use Rattle.tez_progress.proofs.Members.{filter_in, all_from}
use Rattle.tez_router_view.specs.View.{FitsPlan}
use Rattle.tez_router_view.specs.Events.{FitsEntry}
use Rattle.tez_router_view.proofs.Keeping.{fits_planned, entry_fits}
use Rattle.tez_contents.specs.Laws.{HasNone, IsAllowedNow}
use Rattle.tez_contents.proofs.Allowed.{allowed_now}
use Rattle.tez_rules.specs.OneMaster.{comes_in_one, has_begun, IsOfOne, BytesFit}
use Rattle.tez_rules.proofs.Sizes.{asked}
use Rattle.tez_rules.proofs.Routed.{routed}

-- ---- no configuration is found

none_stands : (begun : Bool) (e : Entry) → comes_in_one begun e ≡ true → is_stands e ≡ false
none_stands begun (Stands v n b) h = cc
none_stands begun _ h = refl

nothing_found : (past : Past) → IsOfOne past → HasNone is_stands past
nothing_found [] one = tt
nothing_found (e ∷ past) one = (none_stands (has_begun past) e one.0, nothing_found past one.1)

fits_entry : (g : Dag) (e : Entry) → is_stands e ≡ false → FitsEntry g e
fits_entry g (Stands v n b) h = cc
fits_entry g _ h = tt

module _ (g : Dag) (c : ConfValues) (valid : IsValid g) (ranges : IsInRanges g) where
  fitted : (past : Past) → IsMade g c past → IsOfOne past → IsFitted g past
  fitted [] made one = fits_none g (λ v. config v []) (λ v. refl)
  fitted (e ∷ past) made one = fits_next g c past e ranges valid made.0 (none_stands (has_begun past) e one.0) (fitted past made.1 one.1)

  fits_plan : (past : Past) → IsMade g c past → IsOfOne past → FitsPlan g past
  fits_plan [] made one = fits_planned g
  fits_plan (e ∷ past) made one = entry_fits g c past e valid made.0 (fits_entry g e (none_stands (has_begun past) e one.0)) (fits_plan past made.1 one.1)

  -- ---- the managers

  asked_at : (past : Past) (v : ℕ) → IsMade g c past → IsOfOne past → BytesFit past → Rattle.tez_history.specs.Shape.is_vertex g v ≡ true → is_asked g c v past ≡ true
  asked_at past v made one bytes there = asked g c v past valid ranges (fitted past made one) (fits_plan past made one) bytes (vertex_below g v there)

  routed_at : (past : Past) (a : AttemptId) → IsMade g c past → IsOfOne past → is_waiting (stage a past) ≡ true → is_routed g past a ≡ true
  routed_at past a made one waits =
      let allowed : IsAllowedNow g past = allowed_now g c past ranges valid made (nothing_found past one) in
      routed g past valid ranges (fitted past made one) (fits_plan past made one) allowed a (alive_task g c past a made (waiting_alive (stage a past) waits)).0

  or_asked : (x y : Bool) → y ≡ true → (x || y) ≡ true
  or_asked true y h = refl
  or_asked false y h = h

  start_at : (f : Feed) (past : Past) (t : TaskId) → IsMade g c past → IsOfOne past → BytesFit past → is_task g past t ≡ true → start_asked g c f past t ≡ true
  start_at ByFile past t made one bytes there = refl
  start_at (ByVertex u) past t made one bytes there = refl
  start_at ByPartitions past t made one bytes there =
      let k = both {x = is_configured t.vertex.0 past} there in
      or_asked (was_scheduled t past) (is_asked g c t.vertex.0 past) (asked_at past t.vertex.0 made one bytes (configured_is_vertex g c past made t.vertex.0 k.0))

  all_routed : (past : Past) (a : AttemptId) → IsMade g c past → IsOfOne past → In a (waiting_attempts g past) → is_routed g past a ≡ true
  all_routed past a made one m = routed_at past a made one (filter_in (λ b. is_waiting (stage b past)) a (live_attempts g past) m).1

  answered_at : (past : Past) (e : Entry) → IsMade g c past → IsOfOne past → BytesFit past → MayFollow g c past e → is_answered g c past e ≡ true
  answered_at past (Configured v n b) made one bytes m = asked_at past v.0 made one bytes m.2
  answered_at past (Queued a) made one bytes m = start_at (feed g a.task.vertex.0) past a.task made one bytes m.3
  answered_at past (Fetched a e i w) made one bytes m = routed_at past a made one m.0
  answered_at past (ReadError a e i w) made one bytes m = routed_at past a made one m.0
  answered_at past (Ordered a) made one bytes m = routed_at past a made one m.0
  answered_at past (Rerun w) made one bytes m = all_from (is_routed g past) (waiting_attempts g past) (λ a i. all_routed past a made one i)
  answered_at past _ made one bytes m = refl

  pub answered : (past : Past) → IsMade g c past → IsOfOne past → BytesFit past → Obeys is_answered g c past
  answered [] made one bytes = tt
  answered (e ∷ past) made one bytes = (answered_at past e made.1 one.1 bytes.1 made.0, answered past made.1 one.1 bytes.1)
