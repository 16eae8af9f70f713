-- The master's own next event is the model's choice, kind by kind.
use Rattle.std.specs.Prelude.{◌≡◌, ℕ, zero, suc, Bool, true, false, not, ◌&&◌, ◌||◌, if◌then◌else◌, List, [], ◌∷◌, ◌++◌, map, reverse, slice_get, Option, Some, None, IfSome, IfNone, is_some, is_none, option_and_then, refl}
use Rattle.std.specs.List.{find, list_all}
use Rattle.std.specs.Option.{option_map}
use Rattle.std.proofs.Common.{ap, sym, ◌∙◌, subst, inl, inr}
use Rattle.std.proofs.lemmas.Option.{same_Some}
use Rattle.tez_ids.specs.declared.AttemptId.{AttemptId}
use Rattle.tez_lists.specs.Numbers.{In}
use Rattle.tez_plan.specs.Dag.{Dag, edge, vertex}
use Rattle.tez_conf.specs.declared.values.ConfValues.{ConfValues}
use Rattle.tez_events.specs.declared.CoreEvent.{CoreEvent}
use Rattle.tez_events.specs.declared.CoreEvent.TheVariants.{Configure, Queue, Place, Fetch, Send, Preempt, Ready, CommitStart, Ask, Publish, Finish, Purge}
use Rattle.tez_history.specs.Shape.{vertices, sinks, numbers_below, places}
use Rattle.tez_history.specs.History.{Past, recorded, is_up, is_finished, is_committing, is_found, is_readied, was_asked}
use Rattle.tez_history.specs.Derived.{tasks, inputs, all_done, waiting_attempts, queued_attempts, next_sink, is_next}
use Rattle.tez_history.specs.Steps.{enabled, is_running, is_first_without, may_ready, may_publish, by_depth, some_configure, some_queue, some_fetch, some_send, some_place, some_preempt, some_ready, some_ask, some_publish, choice}
use Rattle.tez_laws.proofs.Sinks.{find_at, sinks_rise}
use Rattle.tez_pool.specs.Victim.{candidates, IsGreatest, depth_of}
use Rattle.tez_pool_view.specs.View.{place_for}
use Rattle.tez_master_model.proofs.Pairs.{find-map, find-same}
use Rattle.tez_pool_view.proofs.Choosing.{preempt_choice, preempt_free, preempt_unqueued, full_or_free, place_choice as free_place_given}
use Rattle.tez_router_view.proofs.Choosing.{next_fetch_same, next_send_same}
use Rattle.tez_schedule_view.proofs.Answering.{are_done_same, next_configure_same}
use Rattle.tez_schedule_view.proofs.Queueing.{next_queue_same}
use Rattle.tez_master_model.specs.State.{MasterState}
use Rattle.tez_master_model.specs.Read.{free_place, queued_in, depth_in, flag, are_done, next_if}
use Rattle.tez_master_model.specs.Choice.{or_else, place_choice, first_without, sink_to_ready, ready_choice, commit_choice, ask_choice, publish_choice, finish_choice, running_choice, choice_in}
use Rattle.tez_master_view.specs.View.{master_view}
use Rattle.tez_master_view.specs.Laws.{Goes}
use Rattle.tez_master_model.specs.Victim.{IsVictim, IsVictimAt, IsVictimBy}
use Rattle.tez_master_view.proofs.Firsts.{find_or, find_next, or_none, same_or, none_of, none_of_each, first_without_same, where_one, where_not, flag_at, all_same, placed_first}
use Rattle.tez_master_view.proofs.FirstQueued.{queued_same, none_queued, first_is_least}

-- ---- the candidates, kind by kind

abbrev if_passes : (CoreEvent → Bool) → CoreEvent → Option CoreEvent
if_passes p e = if p e then Some e else None

by_kind : (p : CoreEvent → Bool) (cs qs fs ss ps vs rs ks us : List CoreEvent)
    → find p (cs ++ (qs ++ (fs ++ (ss ++ (ps ++ (vs ++ (rs ++ CommitStart ∷ (ks ++ (us ++ Finish ∷ Purge ∷ [])))))))))
    ≡ or_else (find p cs) (or_else (find p qs) (or_else (find p fs) (or_else (find p ss) (or_else (find p ps) (or_else (find p vs)
    (or_else (find p rs) (or_else (if_passes p CommitStart)
    (or_else (find p ks) (or_else (find p us) (or_else (if_passes p Finish) (if_passes p Purge)))))))))))
by_kind p cs qs fs ss ps vs rs ks us =
    find_or p cs _
    ∙ ap (or_else (find p cs)) (find_or p qs _
    ∙ ap (or_else (find p qs)) (find_or p fs _
    ∙ ap (or_else (find p fs)) (find_or p ss _
    ∙ ap (or_else (find p ss)) (find_or p ps _
    ∙ ap (or_else (find p ps)) (find_or p vs _
    ∙ ap (or_else (find p vs)) (find_or p rs _
    ∙ ap (or_else (find p rs)) (find_next p CommitStart _
    ∙ ap (or_else (if_passes p CommitStart)) (find_or p ks _
    ∙ ap (or_else (find p ks)) (find_or p us _
    ∙ ap (or_else (find p us)) (find_next p Finish (Purge ∷ [])))))))))))

-- ---- each kind, while the master runs

placed_same : (g : Dag) (c : ConfValues) (past : Past) → Goes g c past → is_running past ≡ true → place_choice (master_view g c past) ≡ find (enabled g c past) (some_place g c past)
placed_same g c past goes runs =
    placed_first (by_depth g (queued_in (master_view g c past))) (free_place (master_view g c past))
    ∙ ap (λ xs. place_for (by_depth g xs) (free_place (master_view g c past))) (queued_same g c past goes.sound.made)
    ∙ sym (free_place_given g c past runs)

victim_greatest : (m : MasterState) (o : Option AttemptId) (d : ℕ) → IsVictimAt m o d → IfSome o (IsGreatest m.plan (candidates m.plan d m.pool.places))
victim_greatest m None d v = tt
victim_greatest m (Some a) d v = v

victim_none : (m : MasterState) (o : Option AttemptId) (d : ℕ) → IsVictimAt m o d → IfNone o (candidates m.plan d m.pool.places ≡ [])
victim_none m None d v = v
victim_none m (Some a) d v = tt

victim_same : (g : Dag) (c : ConfValues) (past : Past) (victim : Option AttemptId) → Goes g c past → is_running past ≡ true → IsVictim (master_view g c past) victim → option_map Preempt victim ≡ find (enabled g c past) (some_preempt g past)
victim_same g c past victim goes runs v =
    by (free_place (master_view g c past)) refl (by_depth g (queued_attempts g past)) refl
    (subst (λ xs. IsVictimBy (master_view g c past) victim (free_place (master_view g c past)) (option_map (depth_in (master_view g c past)) (slice_get (by_depth g xs) 0))) (queued_same g c past goes.sound.made) v)
  where
    by : (o : Option ℕ) → free_place (master_view g c past) ≡ o → (xs : List AttemptId) → by_depth g (queued_attempts g past) ≡ xs
        → IsVictimBy (master_view g c past) victim o (option_map (depth_in (master_view g c past)) (slice_get xs 0)) → option_map Preempt victim ≡ find (enabled g c past) (some_preempt g past)
    by (Some p) e xs f w = ap (option_map Preempt) w ∙ sym (preempt_free g c past (full_or_free c past ∙ ap is_some e))
    by None e [] f w = ap (option_map Preempt) w ∙ sym (preempt_unqueued g c past (none_queued g c past goes.valid goes.sound.made f))
    by None e (a ∷ rest) f w =
        sym (preempt_choice g c past (depth_of g a) victim goes.valid goes.sound.made runs (full_or_free c past ∙ ap is_some e) (first_is_least g c past a rest goes.valid goes.sound.made f)
        (victim_greatest (master_view g c past) victim (depth_of g a) w) (victim_none (master_view g c past) victim (depth_of g a) w))

-- the first sink without
without_same : (g : Dag) (h : ℕ → Bool) → find (λ v. not (flag (map h (vertices g)) v)) (sinks g) ≡ find (is_first_without h (sinks g)) (sinks g)
without_same g h =
    find-same (λ v. not (flag (map h (vertices g)) v)) (λ v. not (h v)) (sinks g) (λ v m. ap not (flag_at h g v m)) ∙ first_without_same h (sinks g)

every_same : (g : Dag) (h : ℕ → Bool) → list_all (flag (map h (vertices g))) (sinks g) ≡ list_all h (sinks g)
every_same g h = all_same (flag (map h (vertices g))) h (sinks g) (λ v m. flag_at h g v m)

-- ---- the next sink

in_slice : (xs : List ℕ) (k v : ℕ) → slice_get xs k ≡ Some v → In v xs
in_slice [] k v h = cc
in_slice (x ∷ xs) zero v h = inl (sym (same_Some x v h))
in_slice (x ∷ xs) (suc k) v h = inr (in_slice xs k v h)

passing_same : (g : Dag) (t s : ℕ → Bool) (o : Option ℕ) → ((v : ℕ) → o ≡ Some v → t v ≡ s v)
    → option_and_then (λ v. if t v then Some v else None) o ≡ option_and_then (λ v. if s v then Some v else None) o
passing_same g t s None h = refl
passing_same g t s (Some v) h = ap (λ b. if b then Some v else None) (h v refl)

next_same : (g : Dag) (c : ConfValues) (past : Past) (t s : ℕ → Bool) → ((v : ℕ) → In v (sinks g) → t v ≡ s v)
    → next_if (master_view g c past) t ≡ find (λ v. is_next g past v && s v) (sinks g)
next_same g c past t s h =
    passing_same g t s (next_sink g past) (λ v e. h v (in_slice (sinks g) (recorded past) v e))
    ∙ sym (find_at s (sinks g) (recorded past) (sinks_rise g))

-- of a kind that may come where a test passes
next_kind : (g : Dag) (c : ConfValues) (past : Past) (a : Bool) (f : ℕ → CoreEvent) (t s : ℕ → Bool)
    → ((v : ℕ) → In v (sinks g) → t v ≡ s v)
    → (if a then option_map f (next_if (master_view g c past) t) else None)
    ≡ option_map f (find (λ v. a && (is_next g past v && s v)) (sinks g))
next_kind g c past a f t s h =
    ap (λ o. if a then option_map f o else None) (next_same g c past t s h)
    ∙ where_one a f (λ v. is_next g past v && s v) (sinks g)

to_ready_same : (g : Dag) (c : ConfValues) (past : Past)
    → sink_to_ready (master_view g c past) ≡ find (may_ready g past) (sinks g)
to_ready_same g c past = by (is_found past) where
  t : ℕ → Bool
  t v = flag (master_view g c past).asked v && not (flag (master_view g c past).readied v)

  s : ℕ → Bool
  s v = was_asked v past && not (is_readied v past)

  same : (v : ℕ) → In v (sinks g) → t v ≡ s v
  same v m =
      ap (λ b. b && not (flag (master_view g c past).readied v)) (flag_at (λ w. was_asked w past) g v m)
      ∙ ap (λ b. was_asked v past && not b) (flag_at (λ w. is_readied w past) g v m)

  by : (b : Bool)
      → (if b then next_if (master_view g c past) t
      else (if is_committing past then None else first_without (master_view g c past) (master_view g c past).readied))
      ≡ find (λ v. if b then is_next g past v && s v
      else not (is_committing past) && is_first_without (λ w. is_readied w past) (sinks g) v) (sinks g)
  by true = next_same g c past t s same
  by false =
      ap (λ o. if is_committing past then None else o) (without_same g (λ v. is_readied v past))
      ∙ where_not (is_committing past) (is_first_without (λ w. is_readied w past) (sinks g)) (sinks g)

ready_same : (g : Dag) (c : ConfValues) (past : Past) → Goes g c past → is_running past ≡ true → ready_choice (master_view g c past) ≡ find (enabled g c past) (some_ready g)
ready_same g c past goes runs =
    ap (λ o. if are_done (master_view g c past) then option_map (λ v. Ready (vertex v)) o else None)
    (to_ready_same g c past)
    ∙ where_one (are_done (master_view g c past)) (λ v. Ready (vertex v)) (may_ready g past) (sinks g)
    ∙ ap (λ b. option_map (λ v. Ready (vertex v)) (find (λ v. b && may_ready g past v) (sinks g)))
    (are_done_same g c past goes.sound.made goes.plan)
    ∙ ap (λ b. option_map (λ v. Ready (vertex v)) (find (λ v. b && (all_done g past && may_ready g past v)) (sinks g)))
    (sym runs)
    ∙ sym (find-map (enabled g c past) (λ v. Ready (vertex v)) (sinks g))

commit_same : (g : Dag) (c : ConfValues) (past : Past) → is_running past ≡ true → commit_choice (master_view g c past) ≡ if_passes (enabled g c past) CommitStart
commit_same g c past runs =
    ap (λ b. if not (is_committing past) && b then Some CommitStart else None) (every_same g (λ v. is_readied v past))
    ∙ ap (λ b. if b && (not (is_committing past) && list_all (λ v. is_readied v past) (sinks g)) then Some CommitStart else None) (sym runs)

ask_same : (g : Dag) (c : ConfValues) (past : Past) → is_running past ≡ true
    → ask_choice (master_view g c past) ≡ find (enabled g c past) (some_ask g)
ask_same g c past runs =
    next_kind g c past (is_found past) (λ v. Ask (vertex v)) (λ v. not (flag (master_view g c past).asked v))
    (λ v. not (was_asked v past))
    (λ v m. ap not (flag_at (λ w. was_asked w past) g v m))
    ∙ ap (λ b. option_map (λ v. Ask (vertex v))
    (find (λ v. b && (is_found past && (is_next g past v && not (was_asked v past)))) (sinks g))) (sym runs)
    ∙ sym (find-map (enabled g c past) (λ v. Ask (vertex v)) (sinks g))

publish_same : (g : Dag) (c : ConfValues) (past : Past) → is_running past ≡ true → publish_choice (master_view g c past) ≡ find (enabled g c past) (some_publish g)
publish_same g c past runs =
    next_kind g c past (is_committing past) (λ v. Publish (vertex v))
    (λ v. not (is_found past) || flag (master_view g c past).readied v)
    (λ v. not (is_found past) || is_readied v past)
    (λ v m. ap (λ b. not (is_found past) || b) (flag_at (λ w. is_readied w past) g v m))
    ∙ ap (λ b. option_map (λ v. Publish (vertex v)) (find (λ v. b && may_publish g past v) (sinks g))) (sym runs)
    ∙ sym (find-map (enabled g c past) (λ v. Publish (vertex v)) (sinks g))

finish_same : (g : Dag) (c : ConfValues) (past : Past) → is_running past ≡ true → finish_choice (master_view g c past) ≡ if_passes (enabled g c past) Finish
finish_same g c past runs =
    ap (λ b. if b && (is_committing past && is_none (next_sink g past)) then Some Finish else None) (sym runs)

last_same : (g : Dag) (c : ConfValues) (past : Past) → is_running past ≡ true → is_finished past ≡ false
    → finish_choice (master_view g c past) ≡ or_else (if_passes (enabled g c past) Finish) (if_passes (enabled g c past) Purge)
last_same g c past runs going =
    finish_same g c past runs ∙ sym (or_none (if_passes (enabled g c past) Finish))
    ∙ ap (λ b. or_else (if_passes (enabled g c past) Finish) (if b then Some Purge else None)) (sym (ap (λ b. is_up past && b) going ∙ never (is_up past)))
  where
    never : (b : Bool) → (b && false) ≡ false
    never true = refl
    never false = refl

running_same : (g : Dag) (c : ConfValues) (past : Past) (victim : Option AttemptId) → Goes g c past → is_running past ≡ true → is_finished past ≡ false → IsVictim (master_view g c past) victim
    → running_choice (master_view g c past) victim ≡ choice g c past
running_same g c past victim goes runs going v =
    same_or (next_configure_same g c past goes.sound.made goes.plan runs)
    (same_or (next_queue_same g c past goes.sound.made goes.plan runs)
    (same_or (next_fetch_same g c past goes.sound.made goes.plan runs)
    (same_or (next_send_same g c past runs)
    (same_or (placed_same g c past goes runs)
    (same_or (victim_same g c past victim goes runs v)
    (same_or (ready_same g c past goes runs)
    (same_or (commit_same g c past runs)
    (same_or (ask_same g c past runs)
    (same_or (publish_same g c past runs)
    (last_same g c past runs going))))))))))
    ∙ sym (by_kind (enabled g c past) (some_configure g) (some_queue g past) (some_fetch g past) (some_send g past)
    (some_place g c past) (some_preempt g past) (some_ready g) (some_ask g) (some_publish g))

-- ---- once the job is finished

finished_same : (g : Dag) (c : ConfValues) (past : Past) → is_running past ≡ false → (is_up past && is_finished past) ≡ true → choice g c past ≡ Some Purge
finished_same g c past idle over =
    by_kind (enabled g c past) (some_configure g) (some_queue g past) (some_fetch g past) (some_send g past)
    (some_place g c past) (some_preempt g past) (some_ready g) (some_ask g) (some_publish g)
    ∙ same_or (none_of (enabled g c past) (λ v. Configure (vertex v)) (vertices g) (λ v. off _))
    (same_or (none_of (enabled g c past) Queue (tasks g past) (λ t. off _))
    (same_or (none_of_each (enabled g c past) (λ a i. Fetch a (edge i.0) i.2) (inputs g past) (waiting_attempts g past) (λ a i. off _))
    (same_or (none_of (enabled g c past) Send (waiting_attempts g past) (λ a. off _))
    (same_or (none_of_each (enabled g c past) (λ a p. Place a p) (λ a. numbers_below (places c)) (by_depth g (queued_attempts g past)) (λ a p. off _))
    (same_or (none_of (enabled g c past) Preempt (reverse (by_depth g (waiting_attempts g past))) (λ a. off _))
    (same_or (none_of (enabled g c past) (λ v. Ready (vertex v)) (sinks g) (λ v. off _))
    (same_or (not_now CommitStart (off _))
    (same_or (none_of (enabled g c past) (λ v. Ask (vertex v)) (sinks g) (λ v. off _))
    (same_or (none_of (enabled g c past) (λ v. Publish (vertex v)) (sinks g) (λ v. off _))
    (same_or (not_now Finish (off _))
    (ap (λ b. if b then Some Purge else None) over)))))))))))
  where
    off : (b : Bool) → (is_running past && b) ≡ false
    off b = ap (λ r. r && b) idle

    not_now : (e : CoreEvent) → enabled g c past e ≡ false → if_passes (enabled g c past) e ≡ None
    not_now e h = ap (λ b. if b then Some e else None) h

pub choice_same : (g : Dag) (c : ConfValues) (past : Past) (victim : Option AttemptId) → Goes g c past → is_up past ≡ true → IsVictim (master_view g c past) victim → choice_in (master_view g c past) victim ≡ choice g c past
choice_same g c past victim goes up v = by (is_finished past) refl where
  by : (b : Bool) → is_finished past ≡ b → choice_in (master_view g c past) victim ≡ choice g c past
  by false e =
      let runs : is_running past ≡ true = ap (λ b. b && not (is_finished past)) up ∙ ap not e in
      ap (λ b. if b then running_choice (master_view g c past) victim else (if is_up past && is_finished past then Some Purge else None)) runs
      ∙ running_same g c past victim goes runs e v
  by true e =
      let idle : is_running past ≡ false = ap (λ b. b && not (is_finished past)) up ∙ ap not e in
      let over : (is_up past && is_finished past) ≡ true = ap (λ b. b && is_finished past) up ∙ e in
      ap (λ b. if b then running_choice (master_view g c past) victim else (if is_up past && is_finished past then Some Purge else None)) idle
      ∙ ap (λ b. if b then Some Purge else None) over ∙ sym (finished_same g c past idle over)
