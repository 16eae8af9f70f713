-- Whether a fetch or an order is enabled, by what the router answers.
use Rattle.std.specs.Prelude.{◌≡◌, ℕ, Bool, true, false, not, ◌&&◌, ◌==◌, if◌then◌else◌, List, [], ◌∷◌, Option, Some, None, is_some, refl}
use Rattle.std.specs.List.{filter_map, cons_option}
use Rattle.std.proofs.Common.{ap, sym, ◌∙◌, subst, inl, inr}
use Rattle.tez_ids.specs.declared.EdgeId.{EdgeId}
use Rattle.tez_ids.specs.declared.AttemptId.{AttemptId}
use Rattle.tez_events.specs.declared.CoreEvent.TheVariants.{Fetch, Send}
use Rattle.tez_lists.specs.Numbers.{In}
use Rattle.tez_lists.proofs.Members.{in_filter}
use Rattle.tez_plan.specs.Dag.{Dag, target_of}
use Rattle.tez_conf.specs.declared.values.ConfValues.{ConfValues}
use Rattle.tez_history.specs.History.{Past, stage, live, is_fetched}
use Rattle.tez_history.specs.Derived.{tasks, live_attempts, waiting_attempts, is_waiting, all_fetched}
use Rattle.tez_history.specs.Steps.{enabled, is_running, winner_behind}
use Rattle.tez_history.specs.Follows.{IsMade}
use Rattle.tez_laws.proofs.OneLive.{one_live}
use Rattle.tez_router.specs.Table.{source_in, fetched_in, missing_in}
use Rattle.tez_router_view.specs.View.{router_view, FitsPlan}
use Rattle.tez_router_view.proofs.Ordering.{task-member}
use Rattle.tez_router_view.proofs.Winners.{live_task_there, task_vertex}
use Rattle.tez_router_view.proofs.Moving.{waits_alive}
use Rattle.tez_router_view.proofs.Reading.{source_read, fetched_behind}
use Rattle.tez_router_view.proofs.Choosing.{missing_read}

-- ---- who waits is among those that wait

in-options : {X : Type 0} (f : X → Option AttemptId) (x : X) (a : AttemptId) (xs : List X) → In x xs → f x ≡ Some a → In a (filter_map f xs)
in-options f x a [] i h = absurd i
in-options f x a (y ∷ ys) (inl s) h = let here : f y ≡ Some a = subst (λ z. f z ≡ Some a) s h in subst (λ o. In a (cons_option o (filter_map f ys))) (sym here) (inl refl)
in-options f x a (y ∷ ys) (inr k) h = by (f y) (in-options f x a ys k h) where
  by : (o : Option AttemptId) → In a (filter_map f ys) → In a (cons_option o (filter_map f ys))
  by None i = i
  by (Some b) i = inr i

pub among_waiting : (g : Dag) (c : ConfValues) (past : Past) (a : AttemptId) → IsMade g c past → is_waiting (stage a past) ≡ true → In a (waiting_attempts g past)
among_waiting g c past a m h =
    let lives : live a.task past ≡ Some a = one_live g c past m a (waits_alive (stage a past) h) in
    let there = live_task_there g c past m a.task a lives in
    in_filter (λ b. is_waiting (stage b past)) a (live_attempts g past)
    (in-options (λ t. live t past) a.task a (tasks g past) (task-member g past a.task there (task_vertex g c past m a.task there)) lives) h

-- ---- the tests

where_waits : (w x y : Bool) → (w ≡ true → x ≡ y) → (w && x) ≡ (w && y)
where_waits true x y h = h refl
where_waits false x y h = refl

fetch_so : (g : Dag) (past : Past) (a : AttemptId) (e i : ℕ) (o : Option AttemptId) → In a (waiting_attempts g past) → winner_behind g past a e i ≡ o
    → (not (is_fetched a e i past) && is_some o) ≡ (not (fetched_in (router_view g past) a e i) && is_some o)
fetch_so g past a e i None waits h = where_none (not (is_fetched a e i past)) (not (fetched_in (router_view g past) a e i)) where
  where_none : (x y : Bool) → (x && false) ≡ (y && false)
  where_none true true = refl
  where_none true false = refl
  where_none false true = refl
  where_none false false = refl
fetch_so g past a e i (Some w) waits h = ap (λ b. not b && true) (sym (fetched_behind g past a e i w waits h))

pub fetch_test : (g : Dag) (c : ConfValues) (past : Past) → IsMade g c past → FitsPlan g past → (a : AttemptId) (e : EdgeId) (i : ℕ)
    → enabled g c past (Fetch a e i)
    ≡ (is_running past && (is_waiting (stage a past) && (not (fetched_in (router_view g past) a e.0 i) && is_some (if target_of g e.0 == a.task.vertex.0 then source_in (router_view g past) a e.0 i else None))))
fetch_test g c past m fits a e i =
    ap (λ b. is_running past && b)
    (where_waits (is_waiting (stage a past)) (not (is_fetched a e.0 i past) && is_some (winner_behind g past a e.0 i)) (not (fetched_in (router_view g past) a e.0 i) && is_some (winner_behind g past a e.0 i))
    (λ w. fetch_so g past a e.0 i (winner_behind g past a e.0 i) (among_waiting g c past a m w) refl)
    ∙ ap (λ o. is_waiting (stage a past) && (not (fetched_in (router_view g past) a e.0 i) && is_some o)) (source_read g c past m fits a e.0 i))

pub send_test : (g : Dag) (c : ConfValues) (past : Past) (a : AttemptId) → IsMade g c past → enabled g c past (Send a) ≡ (is_running past && (is_waiting (stage a past) && (missing_in (router_view g past) a == 0)))
send_test g c past a m =
    ap (λ b. is_running past && b) (where_waits (is_waiting (stage a past)) (all_fetched g past a) (missing_in (router_view g past) a == 0) (λ w. sym (missing_read g past a (among_waiting g c past a m w))))
