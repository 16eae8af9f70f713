-- Once all is done, the commit goes on to its end; and so a master that is up and idle has a next event.
use Rattle.std.specs.Prelude.{◌≡◌, ◌⊎◌, ℕ, ◌==◌, ◌&&◌, ◌||◌, Bool, true, false, not, if◌then◌else◌, List, [], ◌∷◌, ◌++◌, Option, Some, None, is_some, is_none, refl}
use Rattle.std.specs.Option.{option_map_or}
use Rattle.std.specs.List.{list_all, AllByRecursion}
use Rattle.std.proofs.Common.{inl, inr, ap, ◌∙◌}
use Rattle.std.proofs.lemmas.Bool.{eq-eqb}
use Rattle.tez_lists.specs.Numbers.{In}
use Rattle.tez_lists.proofs.Members.{in_append_left, in_append_right, in_map}
use Rattle.tez_plan.specs.Dag.{Dag, vertex}
use Rattle.tez_plan.specs.Faults.{IsValid}
use Rattle.tez_plan.specs.Ranges.{IsInRanges}
use Rattle.tez_conf.specs.declared.values.ConfValues.{ConfValues}
use Rattle.tez_conf.specs.Ranges.{IsInRange}
use Rattle.tez_events.specs.declared.CoreEvent.{CoreEvent}
use Rattle.tez_events.specs.declared.CoreEvent.TheVariants.{Ready, CommitStart, Ask, Publish, Finish, Purge}
use Rattle.tez_history.specs.Shape.{vertices, sinks}
use Rattle.tez_history.specs.History.{Past, is_up, is_finished, is_committing, is_found, was_asked, is_readied}
use Rattle.tez_history.specs.Derived.{all_done, is_vertex_done, next_sink, is_next}
use Rattle.tez_history.specs.Steps.{choice, candidates, is_first_without, may_ready, may_publish, some_ready, some_ask, some_publish}
use Rattle.tez_history.specs.Follows.{IsMade}
use Rattle.tez_history.specs.Runs.{Happening, run, not_begun}
use Rattle.tez_laws.specs.Laws.{GoesOn}
use Rattle.tez_laws.proofs.RunLaw.{run_sound}
use Rattle.tez_laws.proofs.Counting.{found_open, next_in}
use Rattle.tez_progress.specs.Laws.{IsFitted, FindsFitting, IsIdle, GoesFurther, IsNeverStuck}
use Rattle.tez_progress.proofs.Members.{clash, true_and, first_or, all_from}
use Rattle.tez_progress.proofs.Plans.{ranks}
use Rattle.tez_progress.proofs.RunFits.{run_fits}
use Rattle.tez_progress.proofs.Stalled.{IsStalled, at_end, none_enabled, running}
use Rattle.tez_progress.proofs.NotStuck.{IsSteady, all_are_done}

module _ (g : Dag) (c : ConfValues) (past : Past) (up : is_up past ≡ true) (none : choice g c past ≡ None) where
  -- the events at the end, in their order
  no_ready : (v : ℕ) → is_finished past ≡ false → In v (sinks g) → all_done g past ≡ true → may_ready g past v ≡ true → ⊥
  no_ready v fin m done may =
      let e = Ready (vertex v) in
      none_enabled g c past e none (at_end g c past e (in_append_left e (some_ready g) _ (in_map (λ w. Ready (vertex w)) v (sinks g) m)))
      (true_and (running past up fin) (true_and done may))

  after_ready : (e : CoreEvent) → In e (CommitStart ∷ (some_ask g ++ (some_publish g ++ Finish ∷ Purge ∷ []))) → In e (candidates g c past)
  after_ready e m = at_end g c past e (in_append_right e (some_ready g) _ m)

  no_commit : is_finished past ≡ false → is_committing past ≡ false → list_all (λ v. is_readied v past) (sinks g) ≡ true → ⊥
  no_commit fin unbegun all = none_enabled g c past CommitStart none (after_ready CommitStart (inl refl)) (true_and (running past up fin) (true_and (ap not unbegun) all))

  no_ask : (v : ℕ) → is_finished past ≡ false → In v (sinks g) → is_found past ≡ true → is_next g past v ≡ true → was_asked v past ≡ false → ⊥
  no_ask v fin m found next fresh =
      let e = Ask (vertex v) in
      none_enabled g c past e none (after_ready e (inr (in_append_left e (some_ask g) _ (in_map (λ w. Ask (vertex w)) v (sinks g) m))))
      (true_and (running past up fin) (true_and found (true_and next (ap not fresh))))

  after_ask : (e : CoreEvent) → In e (some_publish g ++ Finish ∷ Purge ∷ []) → In e (candidates g c past)
  after_ask e m = after_ready e (inr (in_append_right e (some_ask g) _ m))

  no_publish : (v : ℕ) → is_finished past ≡ false → In v (sinks g) → may_publish g past v ≡ true → ⊥
  no_publish v fin m may =
      let e = Publish (vertex v) in
      none_enabled g c past e none (after_ask e (in_append_left e (some_publish g) _ (in_map (λ w. Publish (vertex w)) v (sinks g) m))) (true_and (running past up fin) may)

  no_finish : is_finished past ≡ false → is_committing past ≡ true → next_sink g past ≡ None → ⊥
  no_finish fin begun all =
      none_enabled g c past Finish none (after_ask Finish (in_append_right Finish (some_publish g) _ (inl refl))) (true_and (running past up fin) (true_and begun (ap is_none all)))

  no_purge : is_finished past ≡ true → ⊥
  no_purge fin = none_enabled g c past Purge none (after_ask Purge (in_append_right Purge (some_publish g) _ (inr (inl refl)))) (true_and up fin)

  -- the next sink of a commit: it is published, or asked of, readied and published
  sink_stuck : (v : ℕ) → is_finished past ≡ false → all_done g past ≡ true → is_committing past ≡ true → next_sink g past ≡ Some v → ⊥
  sink_stuck v fin done begun at = by (is_found past) (was_asked v past) (is_readied v past) refl refl refl where
    next : is_next g past v ≡ true
    next = ap (λ o. option_map_or (λ w. w == v) o false) at ∙ eq-eqb v v refl

    there : In v (sinks g)
    there = next_in g past v next

    publish : (not (is_found past) || is_readied v past) ≡ true → ⊥
    publish may = no_publish v fin there (true_and begun (true_and next may))

    by : (f a r : Bool) → is_found past ≡ f → was_asked v past ≡ a → is_readied v past ≡ r → ⊥
    by false a r own asked readied = publish (ap (λ b. not b || is_readied v past) own)
    by true false r found asked readied = no_ask v fin there found next asked
    by true true false found asked readied =
        no_ready v fin there done
        (ap (λ b. if b then is_next g past v && (was_asked v past && not (is_readied v past)) else not (is_committing past) && is_first_without (λ w. is_readied w past) (sinks g) v) found
        ∙ true_and next (true_and asked (ap not readied)))
    by true true true found asked readied = publish (ap (λ b. not b || is_readied v past) found ∙ readied)

  -- all is done, so one of them is enabled
  done_stuck : is_finished past ≡ false → all_done g past ≡ true → ⊥
  done_stuck fin done = by (is_committing past) (next_sink g past) refl refl where
    first_may : (v : ℕ) → is_committing past ≡ false → is_first_without (λ w. is_readied w past) (sinks g) v ≡ true → may_ready g past v ≡ true
    first_may v unbegun first = at (is_found past) refl where
      at : (b : Bool) → is_found past ≡ b
          → (if b then is_next g past v && (was_asked v past && not (is_readied v past)) else not (is_committing past) && is_first_without (λ w. is_readied w past) (sinks g) v) ≡ true
      at true found = clash (found_open past found) unbegun
      at false own = true_and (ap not unbegun) first

    sinks_ready : is_committing past ≡ false → (list_all (λ v. is_readied v past) (sinks g) ≡ true) ⊎ ((v : ℕ) × In v (sinks g) × (is_first_without (λ v. is_readied v past) (sinks g) v ≡ true)) → ⊥
    sinks_ready unbegun (inl all) = no_commit fin unbegun all
    sinks_ready unbegun (inr v) = no_ready v.0 fin v.1 done (first_may v.0 unbegun v.2)

    by : (b : Bool) (o : Option ℕ) → is_committing past ≡ b → next_sink g past ≡ o → ⊥
    by false o e at = sinks_ready e (first_or (λ v. is_readied v past) (sinks g))
    by true None e at = no_finish fin e at
    by true (Some v) e at = sink_stuck v fin done e at

  stuck : IsSteady g c past → IsIdle past → ⊥
  stuck st idle = by (is_finished past) refl where
    by : (b : Bool) → is_finished past ≡ b → ⊥
    by true e = no_purge e
    by false e =
        let s : IsStalled g c past = record { up = up; unfinished = e; idle = idle; none = none } in
        done_stuck e (all_from (λ v. is_vertex_done g v past) (vertices g) (all_are_done g c past st s))

some_or : {X : Type 0} (o : Option X) → (o ≡ None → ⊥) → is_some o ≡ true
some_or None h = absurd (h refl)
some_or (Some x) h = refl

pub goes_further : (g : Dag) (c : ConfValues) (past : Past) → IsValid g → IsInRange c → IsMade g c past → IsFitted g past → GoesOn past → GoesFurther g c past
goes_further g c past valid range made fits goes up idle =
    let st : IsSteady g c past = record { valid = valid; ranks = ranks g valid; range = range; made = made; fits = fits; goes_on = goes } in
    some_or (choice g c past) (λ none. stuck g c past up none st idle)

pub never_stuck : (g : Dag) (c : ConfValues) (hs : List Happening) → IsInRanges g → IsValid g → IsInRange c → AllByRecursion (FindsFitting g) hs → IsNeverStuck g c (run g c not_begun hs)
never_stuck g c hs ranges valid range finds goes up idle =
    let s = run_sound g c hs range.some_failed in
    goes_further g c (run g c not_begun hs).past valid range s.made (run_fits g c hs ranges valid range.some_failed finds) (s.goes_on goes) up idle
