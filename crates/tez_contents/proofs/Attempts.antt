-- Every attempt makes what its task is to make, after each history.
--     all_right        the winners, the orders and the fetches
use Rattle.std.specs.Prelude.{◌≡◌, ℕ, ◌<◌, ◌==◌, ◌&&◌, ◌||◌, Bool, true, false, if◌then◌else◌, [], ◌∷◌, length, slice_get, Option, Some, None, is_some, unwrap_or, refl}
use Rattle.std.specs.Option.{option_map_or}
use Rattle.std.proofs.Common.{ap, ap₂, sym, ◌∙◌, subst}
use Rattle.std.proofs.lemmas.Bool.{eqb-true}
use Rattle.tez_ids.specs.declared.TaskId.{TaskId}
use Rattle.tez_ids.specs.declared.AttemptId.{AttemptId}
use Rattle.tez_ids.specs.declared.EdgeId.{EdgeId}
use Rattle.tez_ids.specs.Same.{same_task, same_attempt}
use Rattle.tez_lists.specs.Numbers.{In}
use Rattle.tez_plan.specs.declared.parts.EdgeSpec.{EdgeSpec}
use Rattle.tez_plan.specs.Dag.{from, to, tasks_of as planned}
use Rattle.tez_plan.specs.Faults.{IsValid}
use Rattle.tez_plan.specs.Ranges.{IsInRanges}
use Rattle.tez_conf.specs.declared.values.ConfValues.{ConfValues}
use Rattle.tez_vman.specs.declared.seen.Config.{Config as Setting}
use Rattle.tez_vman.specs.Rules.{config as shape}
use Rattle.tez_meaning.specs.Jobs.{Job}
use Rattle.tez_shares.specs.Shares.{Config, task_value, task_bad}
use Rattle.tez_events.specs.declared.Entry.{Entry}
use Rattle.tez_events.specs.declared.Entry.TheVariants.{Opened, Over, Stands, Kept, Configured, Fetched, Ordered, Succeeded, Rerun, Stopped}
use Rattle.tez_history.specs.History.{freed, Past, stage, config, winner, is_fetched}
use Rattle.tez_history.specs.Derived.{is_configured, is_task, shape_of, Input, inputs, has_fetched, source_task, source_of_input, table_by, table_over}
use Rattle.tez_history.specs.Steps.{input_at, winner_of_input}
use Rattle.tez_history.specs.Follows.{IsAlive, MayFollow, IsMade}
use Rattle.tez_laws.proofs.Same.{same_task-true, same_attempt-true, same_attempt-refl}
use Rattle.tez_laws.proofs.StepLaw.{both}
use Rattle.tez_laws.proofs.OneLive.{one_live, waiting_alive}
use Rattle.tez_laws.proofs.Tasks.{winner_task}
use Rattle.tez_laws.proofs.Ranges.{scheduled_is_task, live_scheduled, configured_is_vertex}
use Rattle.tez_progress.proofs.Members.{all_at, find_some}
use Rattle.tez_progress.proofs.Configured.{vertex_below}
use Rattle.tez_contents.specs.Contents.{configurations, number_of, piece, piece_for, piece_over, made, copied, met_bad, is_ordered}
use Rattle.tez_contents.specs.Laws.{IsAllowedNow, WereAllowed, KeptRight, task_makes}
use Rattle.tez_contents.proofs.Edges.{edge_at, into_edges, input_in, input_edge}
use Rattle.tez_contents.proofs.Agree.{value_same, bad_same}
use Rattle.tez_contents.proofs.Sent.{runs_ordered, opening_winner, opening_ordered, opening_fetched}
use Rattle.tez_contents.proofs.Tasks.{closed_so_far, CopiesRight, worked_right, bad_right}

-- ---- a configuration that stands is not given again

config_stays : (past : Past) (v u : ℕ) (s : Setting) → config v past ≡ None → is_configured u past ≡ true → (if v == u then Some s else config u past) ≡ config u past
config_stays past v u s none h = by (v == u) refl where
  by : (b : Bool) → (v == u) ≡ b → (if b then Some s else config u past) ≡ config u past
  by true e = let clear : config u past ≡ None = subst (λ x. config x past ≡ None) (eqb-true v u e) none in cc
  by false e = refl

unset_case : (b : Bool) (o : Option AttemptId) (w : AttemptId) → (if b then None else o) ≡ Some w → o ≡ Some w
unset_case true o w h = cc
unset_case false o w h = h

-- who is left where another was freed was there before
freed_case : (b : AttemptId) (o : Option AttemptId) (w : AttemptId) → freed b o ≡ Some w → o ≡ Some w
freed_case b None w h = cc
freed_case b (Some x) w h = unset_case (same_attempt b x) (Some x) w h

module _ (job : Job) (c : ConfValues) (ranges : IsInRanges job.plan) (valid : IsValid job.plan) where
  abbrev IsThere : ℕ → Past → Type 0
  IsThere v past = (v < length job.plan.vertices) × (is_configured v past ≡ true)

  abbrev HasValue : AttemptId → TaskId → Past → Type 0
  HasValue w t past = IsThere t.vertex.0 past × (made job w past ≡ task_makes job past t)

  abbrev HasBad : AttemptId → Past → Type 0
  HasBad a past = met_bad job a past ≡ task_bad job (configurations job.plan past) a.task.vertex.0 a.task.index

  abbrev HasCopy : AttemptId → ℕ → ℕ → EdgeSpec → Past → Type 0
  HasCopy a n i e past =
      IsThere (from job.plan e) past × IsThere a.task.vertex.0 past × (to job.plan e ≡ a.task.vertex.0)
      × (copied job a n i past ≡ piece_for job.plan past e a.task.index i (task_makes job past (source_task job.plan past e a.task.index i)))

  abbrev Values : Past → Type 0
  Values past = (t : TaskId) (w : AttemptId) → winner t past ≡ Some w → HasValue w t past

  abbrev Orders : Past → Type 0
  Orders past = (a : AttemptId) → is_ordered a past ≡ true → HasValue a a.task past × HasBad a past

  abbrev Copies : Past → Type 0
  Copies past = (a : AttemptId) (n i : ℕ) (e : EdgeSpec) → slice_get job.plan.edges n ≡ Some e → is_fetched a n i past ≡ true → HasCopy a n i e past

  abbrev pub AllRight : Past → Type 0
  AllRight past = Values past × Orders past × Copies past

  -- ---- who is there

  task_there : (past : Past) (t : TaskId) → IsMade job.plan c past → is_task job.plan past t ≡ true → IsThere t.vertex.0 past
  task_there past t m h =
      let k = (both {x = is_configured t.vertex.0 past} h).0 in
      (vertex_below job.plan t.vertex.0 (configured_is_vertex job.plan c past m t.vertex.0 k), k)

  alive_task : (past : Past) (a : AttemptId) → IsMade job.plan c past → IsAlive (stage a past) → is_task job.plan past a.task ≡ true
  alive_task past a m h = scheduled_is_task job.plan c past m a.task (live_scheduled job.plan c past m a.task a (one_live job.plan c past m a h))

  -- ---- a winner that is new

  set_winner : (past : Past) (b w : AttemptId) (t : TaskId) (now : Past) → HasValue b b.task now → (winner t past ≡ Some w → HasValue w t now)
      → (if same_task b.task t then Some b else winner t past) ≡ Some w → HasValue w t now
  set_winner past b w t now new ih h = by (same_task b.task t) refl h where
    by : (x : Bool) → same_task b.task t ≡ x → (if x then Some b else winner t past) ≡ Some w → HasValue w t now
    by true e k = subst (λ u. HasValue w u now) (same_task-true b.task t e) (let same : b ≡ w = cc in subst (λ x. HasValue x b.task now) same new)
    by false e k = ih k

  -- ---- one more configuration

  module _ (past : Past) (v : ℕ) (s : Setting) (x : Entry) (allowed : IsAllowedNow job.plan past) (none : config v past ≡ None)
      (sets : (u : ℕ) → config u (x ∷ past) ≡ (if v == u then Some s else config u past)) where
    config_same : (u : ℕ) → IsThere u past → config u (x ∷ past) ≡ config u past
    config_same u h = sets u ∙ config_stays past v u s none h.1

    shape_same : (u : ℕ) → IsThere u past → shape_of job.plan u (x ∷ past) ≡ shape_of job.plan u past
    shape_same u h = ap (λ o. unwrap_or o (shape (planned job.plan u) 1)) (config_same u h)

    still_there : (u : ℕ) → IsThere u past → IsThere u (x ∷ past)
    still_there u h = (h.0, ap is_some (config_same u h) ∙ h.1)

    set_same : (u : ℕ) → IsThere u past → configurations job.plan (x ∷ past) u ≡ configurations job.plan past u
    set_same u h = ap (λ (z : Setting). let d : Config = record { tasks = z.tasks; base = z.base } in d) (shape_same u h)

    makes_same : (u : ℕ) → IsThere u past → task_value job (configurations job.plan (x ∷ past)) u ≡ task_value job (configurations job.plan past) u
    makes_same u h = value_same job (configurations job.plan (x ∷ past)) (configurations job.plan past) (λ u. IsThere u past) valid (closed_so_far job past ranges valid allowed) set_same u h.0 h

    configured_value : (w : AttemptId) (t : TaskId) → made job w (x ∷ past) ≡ made job w past → HasValue w t past → HasValue w t (x ∷ past)
    configured_value w t same h = (still_there t.vertex.0 h.0, same ∙ h.1 ∙ ap (λ f. f t.index) (sym (makes_same t.vertex.0 h.0)))

    configured_bad : (a : AttemptId) → met_bad job a (x ∷ past) ≡ met_bad job a past → IsThere a.task.vertex.0 past → HasBad a past → HasBad a (x ∷ past)
    configured_bad a same there h =
        same ∙ h
        ∙ sym (bad_same job (configurations job.plan (x ∷ past)) (configurations job.plan past) (λ u. IsThere u past) valid (closed_so_far job past ranges valid allowed) set_same a.task.vertex.0 a.task.index there.0 there)

    configured_copy : (a : AttemptId) (n i : ℕ) (e : EdgeSpec) → copied job a n i (x ∷ past) ≡ copied job a n i past → HasCopy a n i e past → HasCopy a n i e (x ∷ past)
    configured_copy a n i e same h =
        let u = from job.plan e in
        let t = a.task.index in
        let own : IsThere (to job.plan e) past = subst (λ w. IsThere w past) (sym h.2) h.1 in
        let table : table_over job.plan (x ∷ past) e ≡ table_over job.plan past e =
        ap₂ (λ (y z : Setting). table_by e.movement y.tasks z.tasks (planned job.plan (to job.plan e)) z.base) (shape_same u h.0) (shape_same (to job.plan e) own) in (
          still_there u h.0,
          still_there a.task.vertex.0 h.1,
          h.2,
          same ∙ h.3
              ∙ sym (ap₂ (λ y f. piece e.movement (planned job.plan (to job.plan e)) (y.leads t i).1 (f (y.leads t i).0)) table (makes_same u h.0)),
        )

  -- ---- an order

  module _ (past : Past) (b : AttemptId) (m : IsMade job.plan c past) (may : MayFollow job.plan c past (Ordered b)) (allowed : IsAllowedNow job.plan past) (copies : Copies past) where
    ordered_task : is_task job.plan past b.task ≡ true
    ordered_task = alive_task past b m (waiting_alive (stage b past) may.0)

    copies_right : CopiesRight job past ranges valid allowed b.task (λ e i. copied job b e i past)
    copies_right e i h low =
        let fetched : is_fetched b (number_of job.plan e) i past ≡ true = all_at (has_fetched past b) (number_of job.plan e, e, i) (inputs job.plan past b) may.1 (input_in job.plan past b e i valid h low) in
        let k = copies b (number_of job.plan e) i e (edge_at job.plan e valid (into_edges job.plan b.task.vertex.0 e h).0) fetched in
        (k.0.1, k.3)

    ordered_itself : HasValue b b.task (Ordered b ∷ past) × HasBad b (Ordered b ∷ past)
    unfolding made copied
    ordered_itself =
        let there = task_there past b.task m ordered_task in (
          (there, rw (same_attempt-refl b) (worked_right job past ranges valid allowed b.task (λ e i. copied job b e i past) there.0 ordered_task copies_right)),
          rw (same_attempt-refl b) (bad_right job past ranges valid allowed b.task (λ e i. copied job b e i past) there.0 ordered_task copies_right),
        )

    ordered_other : (a : AttemptId) (t : TaskId) → same_attempt b a ≡ false → HasValue a t past → HasValue a t (Ordered b ∷ past)
    unfolding made copied
    ordered_other a t e h = (h.0, rw e h.1)

    bad_other : (a : AttemptId) → same_attempt b a ≡ false → HasBad a past → HasBad a (Ordered b ∷ past)
    bad_other a e h = rw e h

    ordered_winner : (t : TaskId) (w : AttemptId) → winner t past ≡ Some w → HasValue w t past → HasValue w t (Ordered b ∷ past)
    ordered_winner t w h v = by (same_attempt b w) refl where
      by : (x : Bool) → same_attempt b w ≡ x → HasValue w t (Ordered b ∷ past)
      by true e = subst (λ u. HasValue w u (Ordered b ∷ past)) (winner_task past t w h) (subst (λ y. HasValue y y.task (Ordered b ∷ past)) (same_attempt-true b w e) ordered_itself.0)
      by false e = ordered_other w t e v

    ordered_order : (a : AttemptId) → (is_ordered a past ≡ true → HasValue a a.task past × HasBad a past) → (same_attempt b a || is_ordered a past) ≡ true → HasValue a a.task (Ordered b ∷ past) × HasBad a (Ordered b ∷ past)
    ordered_order a ih h = by (same_attempt b a) refl h where
      by : (x : Bool) → same_attempt b a ≡ x → (x || is_ordered a past) ≡ true → HasValue a a.task (Ordered b ∷ past) × HasBad a (Ordered b ∷ past)
      by true e k = subst (λ y. HasValue y y.task (Ordered b ∷ past) × HasBad y (Ordered b ∷ past)) (same_attempt-true b a e) ordered_itself
      by false e k = let r = ih k in (ordered_other a a.task e r.0, bad_other a e r.1)

  -- ---- a fetch

  module _ (past : Past) (b : AttemptId) (d : EdgeId) (j : ℕ) (w : AttemptId) (m : IsMade job.plan c past) (may : MayFollow job.plan c past (Fetched b d j w)) (values : Values past) where
    behind : (k : Input) × In k (inputs job.plan past b) × (k.0 ≡ d.0) × (k.2 ≡ j) × (winner (source_of_input job.plan past b k) past ≡ Some w)
    behind = by (input_at job.plan past b d.0 j) refl may.2 where
      by : (o : Option Input) → input_at job.plan past b d.0 j ≡ o → winner_of_input job.plan past b o ≡ Some w
          → (k : Input) × In k (inputs job.plan past b) × (k.0 ≡ d.0) × (k.2 ≡ j) × (winner (source_of_input job.plan past b k) past ≡ Some w)
      by None e h = cc
      by (Some k) e h =
          let f = find_some (λ (k : Input). (k.0 == d.0) && (k.2 == j)) (inputs job.plan past b) k e in
          let s = both {x = k.0 == d.0} f.1 in
          (k, f.0, eqb-true k.0 d.0 s.0, eqb-true k.2 j s.1, h)

    fetched_itself : (e : EdgeSpec) → slice_get job.plan.edges d.0 ≡ Some e
        → IsThere (from job.plan e) past × IsThere b.task.vertex.0 past × (to job.plan e ≡ b.task.vertex.0)
        × (piece_over job.plan past d.0 b.task.index j (made job w past) ≡ piece_for job.plan past e b.task.index j (task_makes job past (source_task job.plan past e b.task.index j)))
    fetched_itself e at =
        let k = behind in
        let edge = input_edge job.plan past b k.0 k.1 in
        let same : k.0.1 ≡ e = (let z : Some k.0.1 ≡ Some e = sym edge.0 ∙ ap (slice_get job.plan.edges) k.2 ∙ at in cc) in
        let won : winner (source_task job.plan past e b.task.index j) past ≡ Some w = ap₂ (λ s i. winner (source_task job.plan past s b.task.index i) past) (sym same) (sym k.3) ∙ k.4 in
        let v = values (source_task job.plan past e b.task.index j) w won in (
          v.0,
          task_there past b.task m (alive_task past b m (waiting_alive (stage b past) may.0)),
          ap (to job.plan) (sym same) ∙ edge.1,
          ap (λ (o : Option EdgeSpec). option_map_or (λ e. piece_for job.plan past e b.task.index j (made job w past)) o []) at
              ∙ ap (piece_for job.plan past e b.task.index j) v.1,
        )

    fetched_copy : (a : AttemptId) (n i : ℕ) (e : EdgeSpec) → slice_get job.plan.edges n ≡ Some e → (is_fetched a n i past ≡ true → HasCopy a n i e past)
        → ((same_attempt b a && ((d.0 == n) && (j == i))) || is_fetched a n i past) ≡ true → HasCopy a n i e (Fetched b d j w ∷ past)
    unfolding made copied
    fetched_copy a n i e at ih h = by (same_attempt b a && ((d.0 == n) && (j == i))) refl h where
      by : (x : Bool) → (same_attempt b a && ((d.0 == n) && (j == i))) ≡ x → (x || is_fetched a n i past) ≡ true → HasCopy a n i e (Fetched b d j w ∷ past)
      by false q k = let r = ih k in (r.0, r.1, r.2, rw q r.3)
      by true q k =
          let parts = both {x = same_attempt b a} q in
          let numbers = both {x = d.0 == n} parts.1 in
          let ba : b ≡ a = same_attempt-true b a parts.0 in
          let dn : d.0 ≡ n = eqb-true d.0 n numbers.0 in
          let ji : j ≡ i = eqb-true j i numbers.1 in
          let itself = fetched_itself e (ap (slice_get job.plan.edges) dn ∙ at) in
          let there : IsThere a.task.vertex.0 past = subst (λ (y : AttemptId). IsThere y.task.vertex.0 past) ba itself.1 in
          let leads : to job.plan e ≡ a.task.vertex.0 = itself.2 ∙ ap (λ (y : AttemptId). y.task.vertex.0) ba in
          let right : piece_over job.plan past n a.task.index i (made job w past) ≡ piece_for job.plan past e a.task.index i (task_makes job past (source_task job.plan past e a.task.index i)) =
          subst (λ (y : AttemptId). piece_over job.plan past n y.task.index i (made job w past) ≡ piece_for job.plan past e y.task.index i (task_makes job past (source_task job.plan past e y.task.index i))) ba
          (subst (λ z. piece_over job.plan past n b.task.index z (made job w past) ≡ piece_for job.plan past e b.task.index z (task_makes job past (source_task job.plan past e b.task.index z))) ji
          (subst (λ z. piece_over job.plan past z b.task.index j (made job w past) ≡ piece_for job.plan past e b.task.index j (task_makes job past (source_task job.plan past e b.task.index j))) dn itself.3)) in
          (itself.0, there, leads, rw q right)

  -- ---- every history

  pub all_right : (past : Past) → IsMade job.plan c past → WereAllowed job.plan past → KeptRight job past → AllRight past
  unfolding made copied
  all_right [] m a k = ((λ t w h. cc), (λ x h. cc), (λ x n i e at h. cc))
  all_right (Opened z ∷ past) m a k = ((λ t w h. cc), (λ x h. cc), (λ x n i e at h. cc))
  all_right (Over ∷ past) m a k = ((λ t w h. cc), (λ x h. cc), (λ x n i e at h. cc))
  all_right (Stopped z ∷ past) m a k = ((λ t w h. cc), (λ x h. cc), (λ x n i e at h. cc))
  all_right (Stands v n b ∷ past) m a k = (
    (λ t w h. let none = opening_winner past t a.0 in let some : winner t past ≡ Some w = h in cc),
    (λ x h. let none = opening_ordered past x a.0 in let some : is_ordered x past ≡ true = h in cc),
    (λ x n i e at h. let none = opening_fetched past x n i a.0 in let some : is_fetched x n i past ≡ true = h in cc),
  )
  all_right (Configured v tasks base ∷ past) m a k =
      let r = all_right past m.1 a.1 k.1 in
      let new = Configured v tasks base in (
        (λ t w h. configured_value past v.0 (shape tasks base) new a.0 m.0.0 (λ u. refl) w t refl (r.0 t w h)),
        (λ x h. let was = r.1 x h in
            (configured_value past v.0 (shape tasks base) new a.0 m.0.0 (λ u. refl) x x.task refl was.0, configured_bad past v.0 (shape tasks base) new a.0 m.0.0 (λ u. refl) x refl was.0.0 was.1)),
        (λ x n i e at h. configured_copy past v.0 (shape tasks base) new a.0 m.0.0 (λ u. refl) x n i e refl (r.2 x n i e at h)),
      )
  all_right (Kept b ∷ past) m a k =
      let r = all_right past m.1 a.1 k.1 in
      ((λ t w h. set_winner past b w t past (task_there past b.task m.1 m.0.1, k.0) (r.0 t w) h), r.1, r.2)
  all_right (Succeeded b ∷ past) m a k =
      let r = all_right past m.1 a.1 k.1 in
      ((λ t w h. set_winner past b w t past (r.1 b (runs_ordered b past m.0)).0 (r.0 t w) h), r.1, r.2)
  all_right (Rerun b ∷ past) m a k =
      let r = all_right past m.1 a.1 k.1 in
      ((λ t w h. r.0 t w (freed_case b (winner t past) w h)), r.1, r.2)
  all_right (Ordered b ∷ past) m a k =
      let r = all_right past m.1 a.1 k.1 in
      ((λ t w h. ordered_winner past b m.1 m.0 a.0 r.2 t w h (r.0 t w h)), (λ x h. ordered_order past b m.1 m.0 a.0 r.2 x (r.1 x) h), r.2)
  all_right (Fetched b d j w ∷ past) m a k =
      let r = all_right past m.1 a.1 k.1 in
      (r.0, r.1, (λ x n i e at h. fetched_copy past b d j w m.1 m.0 r.0 x n i e at (r.2 x n i e at) h))
  all_right (_ ∷ past) m a k = let r = all_right past m.1 a.1 k.1 in (r.0, r.1, r.2)
