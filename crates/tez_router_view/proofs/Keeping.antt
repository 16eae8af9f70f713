-- Each event of a valid plan keeps the tasks within the plan.
use Rattle.std.specs.Prelude.{◌≡◌, ℕ, suc, ◌≤◌, ◌==◌, nat_le, Bool, true, false, ⊤, if◌then◌else◌, List, [], ◌∷◌, ◌++◌, map, Option, Some, None, unwrap_or, refl, is_none, ◌&&◌}
use Rattle.std.proofs.Common.{arith, subst, inl, inr, sym, ◌∙◌, ap}
use Rattle.std.proofs.lemmas.Bool.Decides.{nat_tests}
use Rattle.tez_ids.specs.declared.VertexId.{VertexId}
use Rattle.tez_ids.specs.declared.AttemptId.{AttemptId}
use Rattle.tez_events.specs.declared.Entry.{Entry}
use Rattle.tez_events.specs.declared.Entry.TheVariants.{Opened, Over, Stands, Configured, Fetched, ReadError, InputFailed, Succeeded, Made, Failed, NodeLost, Committing}
use Rattle.tez_events.specs.declared.CoreEvent.{CoreEvent}
use Rattle.tez_events.specs.declared.CoreEvent.TheVariants.{Open, Configure, Queue, Place, Fetch, Send, Preempt, Fail, LoseNode, LoseOutput, Restart, Ready, CommitStart, Ask, Publish, Finish, Purge}
use Rattle.tez_plan.specs.Dag.{Dag, edge, tasks_of as planned, vertex}
use Rattle.tez_plan.specs.Faults.{IsValid}
use Rattle.tez_conf.specs.declared.values.ConfValues.{ConfValues}
use Rattle.tez_vman.specs.declared.seen.Config.{Config}
use Rattle.tez_vman.specs.Rules.{config as shape}
use Rattle.tez_history.specs.History.{Past, extend, config, winner, holder, life, failures, is_committing, recorded}
use Rattle.tez_history.specs.Derived.{task_count, notices, tasks, places_on, is_on_node, is_on_shelf, all_done}
use Rattle.tez_history.specs.Steps.{enabled, entries_of, done_entries, each_after, requeue, withdrawal, killed_by_node, kill_at, withdrawn_if, withdraw_lost, node_kills, node_withdrawals, fetch_entries, winner_behind, output_lost_entries}
use Rattle.tez_history.specs.Follows.{IsMade, MayFollow, AllMayFollow}
use Rattle.tez_laws.specs.Laws.{answered, taken_up}
use Rattle.tez_laws.proofs.Going.{extend-append}
use Rattle.tez_laws.proofs.StepLaw.{AllNotices, notices_are, event_may}
use Rattle.tez_router_view.specs.View.{FitsPlan}
use Rattle.tez_router_view.specs.Events.{FitsEntry}
use Rattle.tez_router_view.proofs.Fitting.{configures_few}
use Rattle.tez_lists.specs.Numbers.{In}
use Rattle.tez_history.specs.Shape.{is_vertex}
use Rattle.tez_history.specs.Runs.{Standing, stands_if, opened_at, standing_entries, committing_if}
use Rattle.tez_router_view.proofs.Opening.{stood, ends_so, kept_keep, carried_keep}

-- ---- by entries

is_number : (d e : ℕ) → (d == e) ≡ true → d ≡ e
is_number d e h = grind (arith, nat_tests)

set_fits : (g : Dag) (v w n b : ℕ) (o : Option Config) → n ≤ planned g v → (unwrap_or o (shape (planned g w) 1)).tasks ≤ planned g w → (unwrap_or (if v == w then Some (shape n b) else o) (shape (planned g w) 1)).tasks ≤ planned g w
set_fits g v w n b o few was = by (v == w) refl where
  by : (x : Bool) → (v == w) ≡ x → (unwrap_or (if x then Some (shape n b) else o) (shape (planned g w) 1)).tasks ≤ planned g w
  by true e = subst (λ u. n ≤ planned g u) (is_number v w e) few
  by false e = was

same_at : (v : ℕ) → (v == v) ≡ true
same_at v = grind (arith, nat_tests)

-- the tasks of a vertex that is configured fit, where all do
pub fits_configured : (g : Dag) (v : VertexId) (n b : ℕ) (past : Past) → FitsPlan g (Configured v n b ∷ past) → n ≤ planned g v.0
fits_configured g v n b past fits = subst (λ x. (unwrap_or (if x then Some (shape n b) else config v.0 past) (shape (planned g v.0) 1)).tasks ≤ planned g v.0) (same_at v.0) (fits v.0)

pub fits_stands : (g : Dag) (v : VertexId) (n b : ℕ) (past : Past) → FitsPlan g (Stands v n b ∷ past) → n ≤ planned g v.0
fits_stands g v n b past fits = subst (λ x. (unwrap_or (if x then Some (shape n b) else config v.0 past) (shape (planned g v.0) 1)).tasks ≤ planned g v.0) (same_at v.0) (fits v.0)

at_most : (n : ℕ) → n ≤ n
at_most n = omega arith

pub fits_planned : (g : Dag) → FitsPlan g []
fits_planned g v = at_most (planned g v)

pub entry_fits : (g : Dag) (c : ConfValues) (past : Past) (e : Entry) → IsValid g → MayFollow g c past e → FitsEntry g e → FitsPlan g past → FitsPlan g (e ∷ past)
entry_fits g c past (Opened _) valid may fit fits v = at_most (planned g v)
entry_fits g c past Over valid may fit fits v = at_most (planned g v)
entry_fits g c past (Stands w n b) valid may fit fits v = set_fits g w.0 v n b (config v past) fit (fits v)
entry_fits g c past (Configured w n b) valid may fit fits v = set_fits g w.0 v n b (config v past) (configures_few g c w.0 past (shape n b) valid fits may.2 may.1) (fits v)
entry_fits g c past _ valid may fit fits v = fits v

abbrev pub AllFit : Dag → List Entry → Type 0
AllFit g [] = ⊤
AllFit g (e ∷ es) = FitsEntry g e × AllFit g es

pub entries_fit : (g : Dag) (c : ConfValues) (past : Past) (es : List Entry) → IsValid g → AllMayFollow g c past es → AllFit g es → FitsPlan g past → FitsPlan g (extend past es)
entries_fit g c past [] valid may fit fits = fits
entries_fit g c past (e ∷ es) valid may fit fits = entries_fit g c (e ∷ past) es valid may.1 fit.1 (entry_fits g c past e valid may.0 fit.0 fits)

-- ---- an event configures by its manager alone

fit-append : (g : Dag) (xs ys : List Entry) → AllFit g xs → AllFit g ys → AllFit g (xs ++ ys)
fit-append g [] ys h k = k
fit-append g (x ∷ xs) ys h k = (h.0, fit-append g xs ys h.1 k)

fit-each : {X : Type 0} (g : Dag) (part : Past → X → List Entry) → ((past : Past) (x : X) → AllFit g (part past x)) → (past : Past) (xs : List X) → AllFit g (each_after part past xs)
fit-each g part h past [] = tt
fit-each g part h past (x ∷ xs) = fit-append g (part past x) (each_after part (extend past (part past x)) xs) (h past x) (fit-each g part h (extend past (part past x)) xs)

fit-notices : (g : Dag) (es : List Entry) → AllNotices es → AllFit g es
fit-notices g [] h = tt
fit-notices g (InputFailed a e i w ∷ es) h = (tt, fit-notices g es h)
fit-notices g (_ ∷ es) h = absurd h

fit-withdrawal : (g : Dag) (past : Past) (w : AttemptId) → AllFit g (withdrawal g past w)
fit-withdrawal g past w = (tt, fit-append g (notices g past w) (requeue past w.task) (fit-notices g (notices g past w) (notices_are g past w)) (tt, tt))

fit-kill : (g : Dag) (past : Past) (o : Option AttemptId) → AllFit g (killed_by_node past o)
fit-kill g past None = tt
fit-kill g past (Some a) = (tt, (tt, tt))

fit-lost : (g : Dag) (c : ConfValues) (slot : ℕ) (before past : Past) (o : Option AttemptId) → AllFit g (withdrawn_if g c slot before past o)
fit-lost g c slot before past None = tt
fit-lost g c slot before past (Some w) = by (is_on_node g c before slot w) where
  by : (b : Bool) → AllFit g (if b then withdrawal g past w else [])
  by true = fit-withdrawal g past w
  by false = tt

fit-loss : (g : Dag) (c : ConfValues) (past : Past) (slot : ℕ) (b : Bool)
    → AllFit g (if b then NodeLost slot (suc (life slot past)) ∷ [] else
    (let lost = NodeLost slot (suc (life slot past)) in let kills = node_kills c (lost ∷ past) slot in
    lost ∷ (kills ++ node_withdrawals g c slot past (extend (lost ∷ past) kills))))
fit-loss g c past slot true = (tt, tt)
fit-loss g c past slot false =
    let lost = NodeLost slot (suc (life slot past)) in
    let kills = node_kills c (lost ∷ past) slot in (
      tt,
      fit-append g kills (node_withdrawals g c slot past (extend (lost ∷ past) kills)) (fit-each g kill_at (λ p x. fit-kill g p (holder x p)) (lost ∷ past) (places_on c slot))
          (fit-each g (withdraw_lost g c slot past) (λ p t. fit-lost g c slot past p (winner t p)) (extend (lost ∷ past) kills) (tasks g past)),
    )

fit-fetch : (g : Dag) (c : ConfValues) (past : Past) (a : AttemptId) (e i : ℕ) (o : Option AttemptId) → AllFit g (fetch_entries g c past a e i o)
fit-fetch g c past a e i None = tt
fit-fetch g c past a e i (Some w) = by (is_on_shelf g c past w) where
  by : (b : Bool) → AllFit g (if b then Fetched a (edge e) i w ∷ [] else ReadError a (edge e) i w ∷ withdrawal g (ReadError a (edge e) i w ∷ past) w)
  by true = (tt, tt)
  by false = (tt, fit-withdrawal g (ReadError a (edge e) i w ∷ past) w)

fit-fail : (g : Dag) (past : Past) (a : AttemptId) (b : Bool) → AllFit g (Failed a ∷ (if b then [] else requeue past a.task))
fit-fail g past a true = (tt, tt)
fit-fail g past a false = (tt, (tt, tt))

fit-output : (g : Dag) (o : Option AttemptId) → AllFit g (output_lost_entries o)
fit-output g None = tt
fit-output g (Some w) = (tt, tt)

fit-event : (g : Dag) (c : ConfValues) (past : Past) (e : CoreEvent) → AllFit g (entries_of g c past e)
fit-event g c past Open = tt
fit-event g c past (Configure v) = (tt, tt)
fit-event g c past (Queue t) = (tt, tt)
fit-event g c past (Place a p) = (tt, tt)
fit-event g c past (Fetch a e i) = fit-fetch g c past a e.0 i (winner_behind g past a e.0 i)
fit-event g c past (Send a) = (tt, tt)
fit-event g c past (Preempt a) = (tt, (tt, tt))
fit-event g c past (Fail a) = fit-fail g past a (nat_le c.max_failed (suc (failures a.task past)))
fit-event g c past (LoseNode slot) = fit-loss g c past slot (is_committing past)
fit-event g c past (LoseOutput t) = fit-output g (winner t past)
fit-event g c past Restart = (tt, tt)
fit-event g c past (Ready v) = (tt, tt)
fit-event g c past CommitStart = (tt, tt)
fit-event g c past (Ask v) = tt
fit-event g c past (Publish v) = (tt, tt)
fit-event g c past Finish = (tt, tt)
fit-event g c past Purge = (tt, tt)

pub event_fits : (g : Dag) (c : ConfValues) (past : Past) (e : CoreEvent) → IsValid g → IsMade g c past → enabled g c past e ≡ true → FitsPlan g past → FitsPlan g (extend past (entries_of g c past e))
event_fits g c past e valid m on fits = entries_fit g c past (entries_of g c past e) valid (event_may g c past e m on) (fit-event g c past e) fits

made_fits : (g : Dag) (past : Past) (a : AttemptId) (made : List (ℕ × ℕ)) → FitsPlan g past → FitsPlan g (extend past (map (λ m. Made a (edge m.0) m.1) made))
made_fits g past a [] fits = fits
made_fits g past a (x ∷ xs) fits = made_fits g (Made a (edge x.0) x.1 ∷ past) a xs fits

pub report_fits : (g : Dag) (past : Past) (a : AttemptId) (made : List (ℕ × ℕ)) → FitsPlan g past → FitsPlan g (extend past (done_entries a made))
report_fits g past a made fits = made_fits g (Succeeded a ∷ past) a made fits

pub answer_fits : (g : Dag) (past : Past) (v : VertexId) (there : Bool) → FitsPlan g past → FitsPlan g (answered past v there)
answer_fits g past v true fits = λ u. fits u
answer_fits g past v false fits = λ u. fits u

-- ---- what a new master finds

stands_fit : (g : Dag) (past : Past) (xs : List (ℕ × Config)) → FitsPlan g past → ((x : ℕ × Config) → In x xs → x.1.tasks ≤ planned g x.0) → FitsPlan g (extend past (each_after (stands_if g) past xs))
stands_fit g past [] fits few = fits
stands_fit g past (x ∷ xs) fits few =
    by (is_none (config x.0 past) && is_vertex g x.0) (stands_fit g past xs fits (λ y i. few y (inr i)))
    (stands_fit g (Stands (vertex x.0) x.1.tasks x.1.base ∷ past) xs (λ v. set_fits g x.0 v x.1.tasks x.1.base (config v past) (few x (inl refl)) (fits v)) (λ y i. few y (inr i)))
  where
    by : (b : Bool) → FitsPlan g (extend past (each_after (stands_if g) past xs)) → FitsPlan g (extend (Stands (vertex x.0) x.1.tasks x.1.base ∷ past) (each_after (stands_if g) (Stands (vertex x.0) x.1.tasks x.1.base ∷ past) xs))
        → FitsPlan g (extend past ((if b then Stands (vertex x.0) x.1.tasks x.1.base ∷ [] else []) ++ each_after (stands_if g) (extend past (if b then Stands (vertex x.0) x.1.tasks x.1.base ∷ [] else [])) xs))
    by true stays moves = moves
    by false stays moves = stays

-- once all stand, the tasks are what they are
pub opened_fits : (g : Dag) (past : Past) (s : Standing) → ((x : ℕ × Config) → In x s.configured → x.1.tasks ≤ planned g x.0) → FitsPlan g (extend (opened_at s past) (standing_entries g (opened_at s past) s))
opened_fits g past s few v =
    subst (λ n. n ≤ planned g v)
    (sym
    (ap (task_count g v) (ends_so g (opened_at s past) s) ∙ kept_keep g (λ p. task_count g v p) (λ p w. refl) (stood g (opened_at s past) s) s.kept
    ∙ carried_keep (λ p. task_count g v p) (λ p t n. refl) (extend (opened_at s past) (each_after (stands_if g) (opened_at s past) s.configured)) s.failed))
    (stands_fit g (opened_at s past) s.configured (λ w. at_most (planned g w)) few v)

committing_fits : (g : Dag) (past : Past) (n : ℕ) → FitsPlan g past → FitsPlan g (extend past (committing_if g past n))
committing_fits g past n fits = by (all_done g past && nat_le (recorded past) n) where
  by : (b : Bool) → FitsPlan g (extend past (if b then Committing n ∷ [] else []))
  by true = λ v. fits v
  by false = fits

pub taken_up_fits : (g : Dag) (past : Past) (s : Standing) (n : ℕ) → ((x : ℕ × Config) → In x s.configured → x.1.tasks ≤ planned g x.0) → FitsPlan g (taken_up g past s n)
taken_up_fits g past s n few =
    let start : Past = opened_at s past in
    let stands : List Entry = standing_entries g start s in
    subst (FitsPlan g) (sym (extend-append start stands (committing_if g (extend start stands) n))) (committing_fits g (extend start stands) n (opened_fits g past s few))
