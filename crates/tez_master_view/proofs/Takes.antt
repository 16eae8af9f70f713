-- A master takes exactly the events that may come.
use Rattle.std.specs.Prelude.{◌≡◌, ◌⊎◌, ℕ, ◌≤◌, ◌<◌, ◌==◌, nat_lt, Bool, true, false, not, ◌&&◌, ◌||◌, if◌then◌else◌, Option, Some, None, is_some, is_none, position, slice_get, refl}
use Rattle.std.specs.List.{list_any}
use Rattle.std.specs.Option.{option_map_or}
use Rattle.std.proofs.Common.{ap, sym, ◌∙◌, arith, inl, inr}
use Rattle.std.proofs.lemmas.Bool.{cases_lt}
use Rattle.std.proofs.lemmas.Bool.Decides.{nat_tests}
use Rattle.tez_ids.specs.declared.AttemptId.{AttemptId}
use Rattle.tez_ids.specs.declared.VertexId.{VertexId}
use Rattle.tez_lists.specs.Numbers.{In}
use Rattle.tez_plan.specs.Dag.{Dag}
use Rattle.tez_plan.specs.Order.{depth}
use Rattle.tez_conf.specs.declared.values.ConfValues.{ConfValues}
use Rattle.tez_vman.specs.declared.seen.Config.{Config}
use Rattle.tez_events.specs.declared.CoreEvent.{CoreEvent}
use Rattle.tez_events.specs.declared.CoreEvent.TheVariants.{Open, Configure, Queue, Place, Fetch, Send, Preempt, Fail, LoseNode, LoseOutput, Restart, Ready, CommitStart, Ask, Publish, Finish, Purge}
use Rattle.tez_history.specs.Shape.{places, is_vertex, sinks}
use Rattle.tez_history.specs.History.{Past, is_up, is_readied, was_asked, is_committing, is_found, stage, holder, config}
use Rattle.tez_history.specs.Derived.{is_free, any_free, is_waiting, configures, is_queued as is_queued_at, all_done, is_next}
use Rattle.tez_history.specs.Steps.{enabled, is_running, may_ready}
use Rattle.tez_laws.proofs.Counting.{next_in}
use Rattle.tez_pool.specs.Table.{is_free as is_place_free}
use Rattle.tez_pool_view.specs.View.{held_by, place_view, pool_view}
use Rattle.tez_pool_view.proofs.Reading.{view_get}
use Rattle.tez_pool_view.proofs.Choosing.{full_or_free}
use Rattle.tez_master_model.proofs.Numbers.{get_above}
use Rattle.tez_router.specs.Table.{fetched_in, missing_in}
use Rattle.tez_router_view.specs.View.{router_view}
use Rattle.tez_router_view.proofs.Testing.{fetch_test, send_test}
use Rattle.tez_schedule_view.proofs.Queueing.{may_queue_same}
use Rattle.tez_schedule_view.proofs.Answering.{configures_told, are_done_same}
use Rattle.tez_master_model.specs.Read.{is_free_place, free_place, source_in, is_shallower_queued, first_sink, flag}
use Rattle.tez_master_model.specs.Enabled.{enabled_in, may_ask, may_ready_in}
use Rattle.tez_master_view.specs.View.{master_view}
use Rattle.tez_master_view.specs.Laws.{Goes, IsMasters}
use Rattle.tez_master_view.proofs.TaskReadings.{queued_read, waits_read, processes_read, all_queued_read}
use Rattle.tez_master_view.proofs.ShelfReadings.{lost_read, first_read, all_read}
use Rattle.tez_master_view.proofs.Firsts.{flag_at}

-- ---- places

is_low : (p n : ℕ) → p < n → nat_lt p n ≡ true
is_low p n h = grind (arith, nat_tests)

is_high : (p n : ℕ) → n ≤ p → nat_lt p n ≡ false
is_high p n h = grind (arith, nat_tests)

none_held : (past : Past) (o : Option AttemptId) → is_none (held_by past o) ≡ is_none o
none_held past None = refl
none_held past (Some a) = refl

free_read : (c : ConfValues) (past : Past) (p : ℕ) → option_map_or is_place_free (slice_get (pool_view c past).places p) false ≡ (nat_lt p (places c) && is_free past p)
free_read c past p = by (cases_lt p (places c)) where
  by : (p < places c) ⊎ (places c ≤ p) → option_map_or is_place_free (slice_get (pool_view c past).places p) false ≡ (nat_lt p (places c) && is_free past p)
  by (inl l) =
      ap (λ o. option_map_or is_place_free o false) (view_get c past p l) ∙ none_held past (holder p past) ∙ sym (ap (λ b. b && is_free past p) (is_low p (places c) l))
  by (inr l) =
      ap (λ o. option_map_or is_place_free o false) (get_above (place_view c past) (places c) p l) ∙ sym (ap (λ b. b && is_free past p) (is_high p (places c) l))

not_some : (o : Option ℕ) → is_none o ≡ not (is_some o)
not_some None = refl
not_some (Some p) = refl

full_read : (c : ConfValues) (past : Past) → is_none (position is_place_free (pool_view c past).places) ≡ not (any_free c past)
full_read c past = not_some (position is_place_free (pool_view c past).places) ∙ ap not (sym (full_or_free c past))

-- ---- the events

some_if : (x y : Bool) (o : Option Config) → is_some (if x && y then o else None) ≡ (x && (y && is_some o))
some_if true true o = refl
some_if true false o = refl
some_if false y o = refl

-- ---- what is asked of the next sink

where_next : (g : Dag) (past : Past) (v : ℕ) (b d : Bool) → (In v (sinks g) → b ≡ d)
    → (is_next g past v && b) ≡ (is_next g past v && d)
where_next g past v b d h = by (is_next g past v) refl where
  by : (n : Bool) → is_next g past v ≡ n → (n && b) ≡ (n && d)
  by true e = h (next_in g past v e)
  by false e = refl

ready_read : (g : Dag) (c : ConfValues) (past : Past) (v : ℕ)
    → may_ready_in (master_view g c past) v ≡ may_ready g past v
ready_read g c past v =
    ap (λ b. if is_found past then b
    else not (is_committing past) && first_sink (master_view g c past) (master_view g c past).readied v)
    (where_next g past v (flag (master_view g c past).asked v && not (flag (master_view g c past).readied v))
    (was_asked v past && not (is_readied v past)) (λ m.
    ap (λ b. b && not (flag (master_view g c past).readied v)) (flag_at (λ w. was_asked w past) g v m)
    ∙ ap (λ b. was_asked v past && not b) (flag_at (λ w. is_readied w past) g v m)))
    ∙ ap (λ b. if is_found past then is_next g past v && (was_asked v past && not (is_readied v past))
    else not (is_committing past) && b)
    (first_read g (λ w. is_readied w past) v)

pub asks : (g : Dag) (c : ConfValues) (past : Past) (v : VertexId)
    → may_ask (master_view g c past) v.0 ≡ enabled g c past (Ask v)
asks g c past v =
    ap (λ b. is_running past && (is_found past && b))
    (where_next g past v.0 (not (flag (master_view g c past).asked v.0)) (not (was_asked v.0 past))
    (λ m. ap not (flag_at (λ w. was_asked w past) g v.0 m)))

pub takes : (g : Dag) (c : ConfValues) (past : Past) (e : CoreEvent) → Goes g c past → is_up past ≡ true → IsMasters e → enabled_in (master_view g c past) e ≡ enabled g c past e
takes g c past Open goes up is = absurd is
takes g c past (Configure v) goes up is =
    ap (λ o. is_running past && is_some o) (configures_told g c past goes.sound.made goes.plan v.0)
    ∙ ap (λ b. is_running past && b) (some_if (is_vertex g v.0) (is_none (config v.0 past)) (configures g c v.0 past))
takes g c past (Queue t) goes up is = ap (λ b. is_running past && b) (may_queue_same g c past goes.sound.made goes.plan t)
takes g c past (Place a p) goes up is =
    ap (λ b. is_running past && (b && is_free_place (master_view g c past) p)) (queued_read g c past a goes.sound.made)
    ∙ ap (λ b. is_running past && (is_queued_at (stage a past) && b)) (free_read c past p)
takes g c past (Fetch a e i) goes up is =
    ap (λ b. is_running past && (b && (not (fetched_in (router_view g past) a e.0 i) && is_some (source_in (master_view g c past) a e.0 i)))) (waits_read g c past a goes.sound.made)
    ∙ sym (fetch_test g c past goes.sound.made goes.plan a e i)
takes g c past (Send a) goes up is =
    ap (λ b. is_running past && (b && (missing_in (router_view g past) a == 0))) (waits_read g c past a goes.sound.made) ∙ sym (send_test g c past a goes.sound.made)
takes g c past (Preempt a) goes up is =
    let m = master_view g c past in
    let d = depth g a.task.vertex.0 in
    ap (λ b. is_running past && (b && (is_none (free_place m) && is_shallower_queued m d))) (waits_read g c past a goes.sound.made)
    ∙ ap (λ b. is_running past && (is_waiting (stage a past) && (b && is_shallower_queued m d))) (full_read c past)
    ∙ ap (λ xs. is_running past && (is_waiting (stage a past) && (not (any_free c past) && list_any (λ b. nat_lt (depth g b.task.vertex.0) d) xs))) (all_queued_read g c past)
takes g c past (Fail a) goes up is = ap (λ b. is_running past && b) (processes_read g c past a goes.sound.made)
takes g c past (LoseNode slot) goes up is = refl
takes g c past (LoseOutput t) goes up is = ap (λ b. is_up past && b) (lost_read g c past t goes.sound.made goes.plan)
takes g c past Restart goes up is = absurd is
takes g c past (Ready v) goes up is =
    ap (λ b. is_running past && (b && may_ready_in (master_view g c past) v.0))
    (are_done_same g c past goes.sound.made goes.plan)
    ∙ ap (λ b. is_running past && (all_done g past && b)) (ready_read g c past v.0)
takes g c past CommitStart goes up is = ap (λ b. is_running past && (not (is_committing past) && b)) (all_read g (λ w. is_readied w past))
takes g c past (Ask v) goes up is = absurd is
takes g c past (Publish v) goes up is =
    ap (λ b. is_running past && (is_committing past && b))
    (where_next g past v.0 (not (is_found past) || flag (master_view g c past).readied v.0)
    (not (is_found past) || is_readied v.0 past)
    (λ m. ap (λ b. not (is_found past) || b) (flag_at (λ w. is_readied w past) g v.0 m)))
takes g c past Finish goes up is = refl
takes g c past Purge goes up is = refl
