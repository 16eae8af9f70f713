-- What a new master finds is what stands after its start.
--     stands_config      once the configurations stand
--     opening_fits       what stands fits the plan, if what is found does
--     committed_fits     also where a commit is taken up
use Rattle.std.specs.Prelude.{◌≡◌, ℕ, ◌<◌, ◌==◌, ◌&&◌, nat_lt, nat_le, Bool, true, false, if◌then◌else◌, List, [], ◌∷◌, ◌++◌, map, length, Option, Some, None, is_none, refl}
use Rattle.std.proofs.Common.{inl, ap, sym, ◌∙◌, subst}
use Rattle.std.proofs.lemmas.Bool.{eq-eqb, eqb-true}
use Rattle.tez_ids.specs.declared.TaskId.{TaskId}
use Rattle.tez_ids.specs.declared.AttemptId.{AttemptId}
use Rattle.tez_lists.specs.Numbers.{In}
use Rattle.tez_lists.proofs.Cases.{cases}
use Rattle.tez_plan.specs.Dag.{Dag, is_broadcast, vertex}
use Rattle.tez_plan.specs.Faults.{IsValid}
use Rattle.tez_vman.specs.declared.seen.Config.{Config}
use Rattle.tez_events.specs.declared.Entry.TheVariants.{Stands, Carried, Kept, Committing}
use Rattle.tez_history.specs.Shape.{is_vertex, edges_to, ByVertex, feed}
use Rattle.tez_history.specs.History.{Past, config, extend, recorded}
use Rattle.tez_history.specs.Derived.{is_task, all_done}
use Rattle.tez_history.specs.Steps.{each_after}
use Rattle.tez_history.specs.Runs.{Standing, stands_if, kept_if, carried_entries, opened_at, standing_entries, committing_if, committed_entries}
use Rattle.tez_laws.proofs.Going.{extend-append}
use Rattle.tez_progress.specs.Laws.{Fits, IsFed, IsFitted, found_at}
use Rattle.tez_progress.proofs.Members.{filter_in}
use Rattle.tez_progress.proofs.Plans.{fed, ranks}
use Rattle.tez_progress.proofs.Configured.{vertex_below}
use Rattle.tez_progress.proofs.Ready.{lt_true}

-- a configuration that is there stays; else that of a vertex of the plan is taken as it is found
stood : Option Config → Bool → Option Config → Option Config
stood (Some s) inside found = Some s
stood None inside found = if inside then found else None

stood_none : (o : Option Config) (inside : Bool) → o ≡ stood o inside None
unfolding stood
stood_none (Some s) inside = refl
stood_none None true = refl
stood_none None false = refl

stood_first : (o : Option Config) (inside : Bool) (y : Config) (found : Option Config) → stood (if is_none o && inside then Some y else o) inside found ≡ stood o inside (Some y)
unfolding stood
stood_first (Some s) inside y found = refl
stood_first None true y found = refl
stood_first None false y found = refl

-- what one found configuration leaves
one_config : (past : Past) (v w : ℕ) (y : Config) (b : Bool) → config v (extend past (if b then Stands (vertex w) y.tasks y.base ∷ [] else [])) ≡ (if b then (if w == v then Some y else config v past) else config v past)
one_config past v w y true = refl
one_config past v w y false = refl

same_config : (past : Past) (w : ℕ) (y : Config) (b : Bool) → config w (extend past (if b then Stands (vertex w) y.tasks y.base ∷ [] else [])) ≡ (if b then Some y else config w past)
same_config past w y true = rw (eq-eqb w w refl) refl
same_config past w y false = refl

other_config : (past : Past) (v w : ℕ) (y : Config) (b : Bool) → (w == v) ≡ false → config v (extend past (if b then Stands (vertex w) y.tasks y.base ∷ [] else [])) ≡ config v past
other_config past v w y true e = rw e refl
other_config past v w y false e = refl

after_one : (g : Dag) (past : Past) (x : ℕ × Config) (v : ℕ) (found : Option Config)
    → stood (config v (extend past (stands_if g past x))) (is_vertex g v) found ≡ stood (config v past) (is_vertex g v) (if x.0 == v then Some x.1 else found)
after_one g past x v found = cases (x.0 == v)
    (λ e.
    let here : stood (config x.0 (extend past (stands_if g past x))) (is_vertex g x.0) found ≡ stood (config x.0 past) (is_vertex g x.0) (Some x.1) =
    ap (λ o. stood o (is_vertex g x.0) found) (same_config past x.0 x.1 (is_none (config x.0 past) && is_vertex g x.0)) ∙ stood_first (config x.0 past) (is_vertex g x.0) x.1 found in
    rw e (subst (λ w. stood (config w (extend past (stands_if g past x))) (is_vertex g w) found ≡ stood (config w past) (is_vertex g w) (Some x.1)) (eqb-true x.0 v e) here))
    (λ e. ap (λ o. stood o (is_vertex g v) found) (other_config past v x.0 x.1 (is_none (config x.0 past) && is_vertex g x.0) e) ∙ rw e refl)

after_stands : (g : Dag) (past : Past) (xs : List (ℕ × Config)) (v : ℕ) → config v (extend past (each_after (stands_if g) past xs)) ≡ stood (config v past) (is_vertex g v) (found_at xs v)
after_stands g past [] v = stood_none (config v past) (is_vertex g v)
after_stands g past (x ∷ xs) v =
    ap (config v) (extend-append past (stands_if g past x) (each_after (stands_if g) (extend past (stands_if g past x)) xs))
    ∙ after_stands g (extend past (stands_if g past x)) xs v
    ∙ after_one g past x v (found_at xs v)

pub stands_config : (g : Dag) (past : Past) (s : Standing) (v : ℕ)
    → config v (extend (opened_at s past) (each_after (stands_if g) (opened_at s past) s.configured)) ≡ (if is_vertex g v then found_at s.configured v else None)
unfolding stood
stands_config g past s v = after_stands g (opened_at s past) s.configured v

after_carried : (past : Past) (xs : List (TaskId × ℕ)) (v : ℕ) → config v (extend past (carried_entries xs)) ≡ config v past
after_carried past [] v = refl
after_carried past (x ∷ xs) v = after_carried (Carried x.0 x.1 ∷ past) xs v

after_kept : (g : Dag) (past : Past) (xs : List AttemptId) (v : ℕ) → config v (extend past (each_after (kept_if g) past xs)) ≡ config v past
after_kept g past [] v = refl
after_kept g past (a ∷ xs) v =
    ap (config v) (extend-append past (kept_if g past a) (each_after (kept_if g) (extend past (kept_if g past a)) xs))
    ∙ after_kept g (extend past (kept_if g past a)) xs v
    ∙ by (is_task g past a.task)
  where
    by : (b : Bool) → config v (extend past (if b then Kept a ∷ [] else [])) ≡ config v past
    by true = refl
    by false = refl

opened_config : (g : Dag) (past : Past) (s : Standing) (v : ℕ) → config v (extend (opened_at s past) (standing_entries g (opened_at s past) s)) ≡ (if is_vertex g v then found_at s.configured v else None)
unfolding stood
opened_config g past s v =
    let first = opened_at s past in
    let stands = each_after (stands_if g) first s.configured in
    let carried = carried_entries s.failed in
    let kept = each_after (kept_if g) (extend (extend first stands) carried) s.kept in
    ap (config v) (extend-append first stands (carried ++ kept))
    ∙ ap (config v) (extend-append (extend first stands) carried kept)
    ∙ after_kept g (extend (extend first stands) carried) s.kept v
    ∙ after_carried (extend first stands) s.failed v
    ∙ stands_config g past s v

-- the feeder of a vertex is a vertex
feeder_inside : (g : Dag) (v u : ℕ) → IsValid g → is_vertex g v ≡ true → feed g v ≡ ByVertex u → is_vertex g u ≡ true
feeder_inside g v u valid h f =
    let how : IsFed g v (ByVertex u) = subst (λ x. IsFed g v x) f (fed g v valid (vertex_below g v h)) in
    let edge = filter_in (λ e. Rattle.std.specs.Prelude.not (is_broadcast e.1)) how.0 (edges_to g v) (subst (λ xs. In how.0 xs) (sym how.1) (inl refl)) in
    lt_true u (length g.vertices) (subst (λ x. x < length g.vertices) how.2 ((ranks g valid).inside v how.0 edge.0))

inside_or : (b : Bool) (o : Option Config) (x : Config) → (if b then o else None) ≡ Some x → (b ≡ true) × (o ≡ Some x)
inside_or true o x h = (refl, h)
inside_or false o x h = cc

pub opening_fits : (g : Dag) (past : Past) (s : Standing) → IsValid g → Fits g (found_at s.configured) → IsFitted g (extend (opened_at s past) (standing_entries g (opened_at s past) s))
opening_fits g past s valid finds = record {
  tasks = λ v x h. finds.tasks v x (inside_or (is_vertex g v) (found_at s.configured v) x (sym (opened_config g past s v) ∙ h)).1;
  step = λ v u x f h.
      let k = inside_or (is_vertex g v) (found_at s.configured v) x (sym (opened_config g past s v) ∙ h) in
      let d = finds.step v u x f k.1 in
      let there = feeder_inside g v u valid k.0 f in
      (d.0, opened_config g past s u ∙ (rw there d.1), d.2);
}

committing_fits : (g : Dag) (past : Past) (n : ℕ) → IsFitted g past → IsFitted g (extend past (committing_if g past n))
committing_fits g past n fits = by (all_done g past && nat_le (recorded past) n) where
  by : (b : Bool) → IsFitted g (extend past (if b then Committing n ∷ [] else []))
  by true = fits
  by false = fits

pub committed_fits : (g : Dag) (past : Past) (s : Standing) (n : ℕ) → IsValid g → Fits g (found_at s.configured) → IsFitted g (extend (opened_at s past) (committed_entries g (opened_at s past) s n))
committed_fits g past s n valid finds =
    let p = opened_at s past in
    let es = standing_entries g p s in
    subst (IsFitted g) (sym (extend-append p es (committing_if g (extend p es) n))) (committing_fits g (extend p es) n (opening_fits g past s valid finds))
