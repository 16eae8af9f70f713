-- What a history publishes: sinks in order, each once, and of those that are recorded all where no commit was taken up.
--     view_splits      so it is of every history that is made
--     counted          where no commit was taken up, those that are recorded
--     all_published, finished_published      where all are published, the texts of the sinks
--     at_most_once, once      what is published then under each name
use Rattle.std.specs.Prelude.{◌≡◌, ◌⊎◌, ℕ, zero, suc, ◌<◌, ◌≤◌, ◌==◌, Bool, true, false, List, [], ◌∷◌, ◌++◌, map, take, slice_get, Option, Some, None, refl}
use Rattle.std.specs.List.{AllByRecursion, list_all}
use Rattle.std.specs.Option.{option_map_or}
use Rattle.std.specs.Str.{bytes_eq}
use Rattle.std.proofs.Common.{inl, inr, ap, ap₂, sym, ◌∙◌, arith, subst}
use Rattle.std.proofs.lemmas.Bool.{eqb-true, eq-eqb}
use Rattle.std.proofs.lemmas.List.{take-map}
use Rattle.std.proofs.lemmas.Option.{same_Some}
use Rattle.tez_lists.specs.Numbers.{In}
use Rattle.tez_lists.proofs.Flat.{filter-append}
use Rattle.tez_record.proofs.BagLemmas.{same_record, same_itself}
use Rattle.tez_ports.specs.Content.{Named}
use Rattle.tez_plan.specs.Dag.{Dag}
use Rattle.tez_plan.specs.Faults.{IsValid}
use Rattle.tez_conf.specs.declared.values.ConfValues.{ConfValues}
use Rattle.tez_meaning.specs.Jobs.{Job}
use Rattle.tez_meaning.specs.Value.{sink_texts}
use Rattle.tez_meaning.specs.Published.{published, IsThere, IsPublishedOnce, IsPublishedAtMostOnce}
use Rattle.tez_events.specs.declared.Entry.TheVariants.{Opened, Over, Committing, Settled, Published, Finished}
use Rattle.tez_history.specs.Shape.{sinks}
use Rattle.tez_history.specs.History.{Past, recorded, is_finished}
use Rattle.tez_history.specs.Derived.{next_sink, is_next}
use Rattle.tez_history.specs.Rules.{is_published}
use Rattle.tez_history.specs.Follows.{IsMade}
use Rattle.tez_laws.proofs.Sinks.{Rises, AllAbove}
use Rattle.tez_laws.proofs.Counting.{is_it, next_of, at_in}
use Rattle.tez_progress.proofs.Members.{clash, all_at}
use Rattle.tez_contents.specs.Laws.{HasNone}
use Rattle.tez_sinks.specs.Sinks.{sink_of, sink_name, sink_entry, published_view, HasNoSink, is_over, is_taken_up}
use Rattle.tez_sinks.proofs.Parts.{map-append}
use Rattle.tez_sinks.proofs.Names.{own_name, has_name, listed_sink, sinks_rise, entries_are}
use Rattle.tez_sinks.proofs.Told.{not_told}

-- ---- the first ones of a list

in_first : {X : Type 0} (n : ℕ) (xs : List X) (x : X) → In x (take n xs) → In x xs
in_first zero xs x h = absurd h
in_first (suc n) [] x h = absurd h
in_first (suc n) (y ∷ xs) x (inl e) = inl e
in_first (suc n) (y ∷ xs) x (inr i) = inr (in_first n xs x i)

in_more : {X : Type 0} (m n : ℕ) (xs : List X) (x : X) → m ≤ n → In x (take m xs) → In x (take n xs)
in_more zero n xs x low h = absurd h
in_more (suc m) zero xs x low h = absurd (omega (arith, low))
in_more (suc m) (suc n) [] x low h = absurd h
in_more (suc m) (suc n) (y ∷ xs) x low (inl e) = inl e
in_more (suc m) (suc n) (y ∷ xs) x low (inr i) = inr (in_more m n xs x (omega (arith, low)) i)

in_next : (xs : List ℕ) (k v : ℕ) → slice_get xs k ≡ Some v → In v (take (suc k) xs)
in_next [] k v h = cc
in_next (x ∷ xs) zero v h = inl (sym (same_Some x v h))
in_next (x ∷ xs) (suc k) v h = inr (in_next xs k v h)

first_next : (xs : List ℕ) (k v : ℕ) → slice_get xs k ≡ Some v → take (suc k) xs ≡ take k xs ++ v ∷ []
first_next [] k v h = cc
first_next (x ∷ xs) zero v h = ap (λ y. y ∷ []) (same_Some x v h)
first_next (x ∷ xs) (suc k) v h = ap (λ ys. x ∷ ys) (first_next xs k v h)

first_whole : (xs : List ℕ) (k : ℕ) → slice_get xs k ≡ None → take k xs ≡ xs
first_whole [] zero h = refl
first_whole [] (suc k) h = refl
first_whole (x ∷ xs) zero h = cc
first_whole (x ∷ xs) (suc k) h = ap (λ ys. x ∷ ys) (first_whole xs k h)

above_in : (n u : ℕ) (xs : List ℕ) → AllAbove n xs → In u xs → n < u
above_in n u [] h i = absurd i
above_in n u (x ∷ xs) h (inl e) = subst (λ y. n < y) (sym e) h.0
above_in n u (x ∷ xs) h (inr i) = above_in n u xs h.1 i

before_next : (xs : List ℕ) (k u v : ℕ) → Rises xs → slice_get xs k ≡ Some v → In u (take k xs) → u < v
before_next [] k u v r h i = cc
before_next (x ∷ xs) zero u v r h i = absurd i
before_next (x ∷ xs) (suc k) u v r h (inl e) = subst (λ y. y < v) (sym e) (above_in x v xs r.0 (at_in xs k v h))
before_next (x ∷ xs) (suc k) u v r h (inr i) = before_next xs k u v r.1 h i

-- ---- one more at the end

above_end : (n v : ℕ) (us : List ℕ) → AllAbove n us → n < v → AllAbove n (us ++ v ∷ [])
above_end n v [] h low = (low, tt)
above_end n v (u ∷ us) h low = (h.0, above_end n v us h.1 low)

rises_end : (v : ℕ) (us : List ℕ) → Rises us → ((u : ℕ) → In u us → u < v) → Rises (us ++ v ∷ [])
rises_end v [] h low = (tt, tt)
rises_end v (u ∷ us) h low = (above_end u v us h.0 (low u (inl refl)), rises_end v us h.1 (λ w i. low w (inr i)))

in_end : (P : ℕ → Type 0) (v u : ℕ) (us : List ℕ) → ((w : ℕ) → In w us → P w) → P v → In u (us ++ v ∷ []) → P u
in_end P v u [] each here (inl e) = subst P (sym e) here
in_end P v u [] each here (inr i) = absurd i
in_end P v u (w ∷ us) each here (inl e) = subst P (sym e) (each w (inl refl))
in_end P v u (w ∷ us) each here (inr i) = in_end P v u us (λ x j. each x (inr j)) here i

-- ---- the sinks that were published

pub record Splits (job : Job) (past : Past) : Type 0 where
  pub done : List ℕ
  pub view : published_view job past ≡ map (sink_entry job) done
  pub low : (v : ℕ) → In v done → In v (take (recorded past) (sinks job.plan))
  pub rises : Rises done
  pub whole : HasNone is_taken_up past → done ≡ take (recorded past) (sinks job.plan)

-- more are recorded, which were not published here
found_more : (job : Job) (past later : Past) (s : Splits job past) → published_view job later ≡ published_view job past
    → recorded past ≤ recorded later → (HasNone is_taken_up later → ⊥) → Splits job later
found_more job past later s same more found = record {
  done = s.done;
  view = same ∙ s.view;
  low = λ v i. in_more (recorded past) (recorded later) (sinks job.plan) v more (s.low v i);
  rises = s.rises;
  whole = λ none. absurd (found none);
}

pub view_splits : (job : Job) (c : ConfValues) (past : Past) → IsMade job.plan c past → Splits job past
view_splits job c [] m = record { done = []; view = refl; low = λ v i. absurd i; rises = tt; whole = λ none. refl }
view_splits job c (Committing n ∷ past) m = found_more job past (Committing n ∷ past) (view_splits job c past m.1) refl m.0.1 (λ none. clash refl none.0)
view_splits job c (Settled v ∷ past) m = found_more job past (Settled v ∷ past) (view_splits job c past m.1) refl (omega arith) (λ none. clash refl none.0)
view_splits job c (Published v ∷ past) m =
    let s = view_splits job c past m.1 in
    let k = recorded past in
    let next : slice_get (sinks job.plan) k ≡ Some v.0 = is_it (next_sink job.plan past) v.0 (next_of job.plan past v.0 m.0) in
    record {
      done = s.done ++ v.0 ∷ [];
      view = ap (λ xs. xs ++ sink_entry job v.0 ∷ []) s.view ∙ sym (map-append (sink_entry job) s.done (v.0 ∷ []));
      low = λ u i. in_end (λ w. In w (take (suc k) (sinks job.plan))) v.0 u s.done
          (λ w j. in_more k (suc k) (sinks job.plan) w (omega arith) (s.low w j)) (in_next (sinks job.plan) k v.0 next) i;
      rises = rises_end v.0 s.done s.rises (λ u i. before_next (sinks job.plan) k u v.0 (sinks_rise job.plan) next (s.low u i));
      whole = λ none. ap (λ us. us ++ v.0 ∷ []) (s.whole none.1) ∙ sym (first_next (sinks job.plan) k v.0 next);
    }
view_splits job c (_ ∷ past) m = let s = view_splits job c past m.1 in record { done = s.done; view = s.view; low = s.low; rises = s.rises; whole = λ none. s.whole none.1 }

-- ---- where no commit was taken up

pub counted : (job : Job) (c : ConfValues) (past : Past) → IsMade job.plan c past → HasNone is_taken_up past → published_view job past ≡ take (recorded past) (sink_texts job)
counted job c past m none =
    let s = view_splits job c past m in
    s.view ∙ ap (map (sink_entry job)) (s.whole none) ∙ sym (take-map (sink_entry job) (recorded past) (sinks job.plan)) ∙ ap (take (recorded past)) (entries_are job)

-- once none is next, all are published
all_counted : (job : Job) (c : ConfValues) (past : Past) → IsMade job.plan c past → HasNone is_taken_up past → next_sink job.plan past ≡ None → published_view job past ≡ map (sink_entry job) (sinks job.plan)
all_counted job c past m none end =
    let s = view_splits job c past m in
    s.view ∙ ap (map (sink_entry job)) (s.whole none ∙ first_whole (sinks job.plan) (recorded past) end)

none_next : (g : Dag) (c : ConfValues) (past : Past) → IsMade g c past → list_all (λ v. is_published v past) (sinks g) ≡ true → next_sink g past ≡ None
none_next g c past m all = by (next_sink g past) refl where
  by : (o : Option ℕ) → next_sink g past ≡ o → next_sink g past ≡ None
  by None e = e
  by (Some v) e =
      let next : is_next g past v ≡ true = ap (λ o. option_map_or (λ w. w == v) o false) e ∙ eq-eqb v v refl in
      clash (all_at (λ u. is_published u past) v (sinks g) all (at_in (sinks g) (recorded past) v e)) (not_told g c past v m next)

-- a job that is finished, and was not found so, has recorded all
finished_next : (g : Dag) (c : ConfValues) (past : Past) → IsMade g c past → HasNone is_over past → HasNone is_taken_up past → is_finished past ≡ true → next_sink g past ≡ None
finished_next g c [] m over none h = cc
finished_next g c (Finished ∷ past) m over none h = m.0.1
finished_next g c (Over ∷ past) m over none h = clash refl over.0
finished_next g c (Opened e ∷ past) m over none h = cc
finished_next g c (Committing n ∷ past) m over none h = clash refl none.0
finished_next g c (Settled v ∷ past) m over none h = clash refl none.0
finished_next g c (Published v ∷ past) m over none h =
    let end = finished_next g c past m.1 over.1 none.1 h in
    clash (next_of g past v.0 m.0) (ap (λ o. option_map_or (λ w. w == v.0) o false) end)
finished_next g c (_ ∷ past) m over none h = finished_next g c past m.1 over.1 none.1 h

pub all_published : (job : Job) (c : ConfValues) (past : Past) → IsMade job.plan c past → HasNone is_taken_up past → list_all (λ v. is_published v past) (sinks job.plan) ≡ true → published_view job past ≡ sink_texts job
all_published job c past m none all = all_counted job c past m none (none_next job.plan c past m all) ∙ entries_are job

pub finished_published : (job : Job) (c : ConfValues) (past : Past) → IsMade job.plan c past → HasNone is_over past → HasNone is_taken_up past → is_finished past ≡ true → published_view job past ≡ sink_texts job
finished_published job c past m over none h = all_counted job c past m none (finished_next job.plan c past m over none h) ∙ entries_are job

-- ---- what is published under a name

module _ (job : Job) (valid : IsValid job.plan) where
  abbrev AreSinks : List ℕ → Type 0
  AreSinks vs = AllByRecursion (λ v. sink_of job.plan v ≡ Some (sink_name job.plan v)) vs

  abbrev under : ℕ → List ℕ → Named
  under v us = published (sink_name job.plan v) (map (sink_entry job) us)

  other_name : (u v : ℕ) → sink_of job.plan u ≡ Some (sink_name job.plan u) → sink_of job.plan v ≡ Some (sink_name job.plan v) → (u ≡ v → ⊥) → bytes_eq (sink_name job.plan u) (sink_name job.plan v) ≡ false
  other_name u v h k differ = by (bytes_eq (sink_name job.plan u) (sink_name job.plan v)) refl where
    by : (b : Bool) → bytes_eq (sink_name job.plan u) (sink_name job.plan v) ≡ b → bytes_eq (sink_name job.plan u) (sink_name job.plan v) ≡ false
    by true e = absurd (differ (own_name job.plan u v (sink_name job.plan v) valid (h ∙ ap Some (same_record (sink_name job.plan u) (sink_name job.plan v) e)) k))
    by false e = e

  -- those after it are others
  none_above : (v : ℕ) (us : List ℕ) → sink_of job.plan v ≡ Some (sink_name job.plan v) → AreSinks us → AllAbove v us → under v us ≡ []
  none_above v [] h all a = refl
  none_above v (u ∷ us) h all a = let over : v < u = a.0 in rw (other_name u v all.0 h (λ e. omega (arith, over, e))) (none_above v us h all.1 a.1)

  none_below : (v : ℕ) (us : List ℕ) → sink_of job.plan v ≡ Some (sink_name job.plan v) → AreSinks us → (In v us → ⊥) → under v us ≡ []
  none_below v [] h all out = refl
  none_below v (u ∷ us) h all out = rw (other_name u v all.0 h (λ e. out (inl (sym e)))) (none_below v us h all.1 (λ i. out (inr i)))

  one : (v : ℕ) (us : List ℕ) → sink_of job.plan v ≡ Some (sink_name job.plan v) → AreSinks us → Rises us → In v us → under v us ≡ sink_entry job v ∷ []
  one v [] h all rises i = absurd i
  one v (u ∷ us) h all rises (inl e) =
      let here : bytes_eq (sink_name job.plan u) (sink_name job.plan v) ≡ true = subst (λ x. bytes_eq (sink_name job.plan u) (sink_name job.plan x) ≡ true) (sym e) (same_itself (sink_name job.plan u)) in
      rw (here, none_above v us h all.1 (subst (λ x. AllAbove x us) (sym e) rises.0)) (ap (λ x. sink_entry job x ∷ []) (sym e))
  one v (u ∷ us) h all rises (inr i) = let over = above_in u v us rises.0 i in rw (other_name u v all.0 h (λ e. omega (arith, over, e))) (one v us h all.1 rises.1 i)

  all_are_sinks : (vs : List ℕ) → ((v : ℕ) → In v vs → In v (sinks job.plan)) → AreSinks vs
  all_are_sinks [] h = tt
  all_are_sinks (v ∷ vs) h = (has_name job.plan v (listed_sink job.plan v (h v (inl refl))).1, all_are_sinks vs (λ u i. h u (inr i)))

  found_or : (v : ℕ) (us : List ℕ) → sink_of job.plan v ≡ Some (sink_name job.plan v) → AreSinks us → Rises us → (under v us ≡ []) ⊎ (under v us ≡ sink_entry job v ∷ [])
  found_or v [] h all rises = inl refl
  found_or v (u ∷ us) h all rises = by (u == v) refl (found_or v us h all.1 rises.1) where
    by : (b : Bool) → (u == v) ≡ b → (under v us ≡ []) ⊎ (under v us ≡ sink_entry job v ∷ []) → (under v (u ∷ us) ≡ []) ⊎ (under v (u ∷ us) ≡ sink_entry job v ∷ [])
    by true e rest = inr (one v (u ∷ us) h all rises (inl (sym (eqb-true u v e))))
    by false e rest = let differs : bytes_eq (sink_name job.plan u) (sink_name job.plan v) ≡ false = other_name u v all.0 h (λ same. clash (eq-eqb u v same) e) in rw differs rest

  known : (v : ℕ) → In v (sinks job.plan) → sink_of job.plan v ≡ Some (sink_name job.plan v)
  known v i = has_name job.plan v (listed_sink job.plan v i).1

  -- a list of sinks is published at most once each
  module _ (before now : Named) (us : List ℕ) (view : now ≡ map (sink_entry job) us) (inside : (v : ℕ) → In v us → In v (sinks job.plan)) (rises : Rises us) where
    after : (v : ℕ) → published (sink_name job.plan v) before ≡ [] → published (sink_name job.plan v) (before ++ now) ≡ under v us
    after v none = filter-append (λ p. bytes_eq p.0 (sink_name job.plan v)) before now ∙ ap₂ (λ (xs ys : Named). xs ++ ys) none (ap (published (sink_name job.plan v)) view)

    one_each : (vs : List ℕ) → ((v : ℕ) → In v vs → In v (sinks job.plan)) → AllByRecursion (λ sink. published sink.0 before ≡ []) (map (sink_entry job) vs)
        → AllByRecursion (λ sink. (published sink.0 (before ++ now) ≡ []) ⊎ IsThere (before ++ now) sink) (map (sink_entry job) vs)
    one_each [] sinks_in none = tt
    one_each (v ∷ vs) sinks_in none = (
      subst (λ xs. (xs ≡ []) ⊎ (xs ≡ sink_entry job v ∷ [])) (sym (after v none.0)) (found_or v us (known v (sinks_in v (inl refl))) (all_are_sinks us inside) rises),
      one_each vs (λ u i. sinks_in u (inr i)) none.1,
    )

    none_before : HasNoSink job before → AllByRecursion (λ sink. published sink.0 before ≡ []) (map (sink_entry job) (sinks job.plan))
    none_before none = subst (AllByRecursion (λ sink. published sink.0 before ≡ [])) (sym (entries_are job)) none

    each_at_most_once : HasNoSink job before → IsPublishedAtMostOnce job (before ++ now)
    each_at_most_once none =
        subst (AllByRecursion (λ sink. (published sink.0 (before ++ now) ≡ []) ⊎ IsThere (before ++ now) sink)) (entries_are job)
        (one_each (sinks job.plan) (λ v i. i) (none_before none))

    each_there : (vs : List ℕ) → ((v : ℕ) → In v vs → In v us) → AllByRecursion (λ sink. published sink.0 before ≡ []) (map (sink_entry job) vs) → AllByRecursion (IsThere (before ++ now)) (map (sink_entry job) vs)
    each_there [] listed none = tt
    each_there (v ∷ vs) listed none =
        let i = listed v (inl refl) in
        (after v none.0 ∙ one v us (known v (inside v i)) (all_are_sinks us inside) rises i, each_there vs (λ u j. listed u (inr j)) none.1)

    each_once : HasNoSink job before → ((v : ℕ) → In v (sinks job.plan) → In v us) → IsPublishedOnce job (before ++ now)
    each_once none listed = subst (AllByRecursion (IsThere (before ++ now))) (entries_are job) (each_there (sinks job.plan) listed (none_before none))

  pub at_most_once : (before : Named) (c : ConfValues) (past : Past) → IsMade job.plan c past → HasNoSink job before → IsPublishedAtMostOnce job (before ++ published_view job past)
  at_most_once before c past m none =
      let s = view_splits job c past m in
      each_at_most_once before (published_view job past) s.done s.view (λ v i. in_first (recorded past) (sinks job.plan) v (s.low v i)) s.rises none

  pub once : (before : Named) (c : ConfValues) (past : Past) → IsMade job.plan c past → HasNoSink job before → HasNone is_over past → HasNone is_taken_up past → is_finished past ≡ true → IsPublishedOnce job (before ++ published_view job past)
  once before c past m new over none h =
      each_once before (published_view job past) (sinks job.plan) (all_counted job c past m none (finished_next job.plan c past m over none h)) (λ v i. i) (sinks_rise job.plan) new (λ v i. i)
