-- A master begins: what each part is after the first entry.
use Rattle.std.specs.Prelude.{◌≡◌, ℕ, zero, suc, ◌+◌, max, Bool, true, false, List, [], ◌∷◌, map, length, replicate, slice_get, Option, None, refl}
use Rattle.std.specs.Option.{option_map_or}
use Rattle.std.proofs.Common.{ap, sym, ◌∙◌, arith, subst, add-zero, zero-add}
use Rattle.tez_ids.specs.declared.Epoch.{Epoch}
use Rattle.tez_lists.specs.Numbers.{numbers_from}
use Rattle.tez_lists.specs.Tables.{table}
use Rattle.tez_lists.proofs.Tables.{map_each}
use Rattle.tez_plan.specs.Dag.{Dag, tasks_of as planned}
use Rattle.tez_conf.specs.declared.values.ConfValues.{ConfValues}
use Rattle.tez_events.specs.declared.Entry.TheVariants.{Opened, Over, Stopped, Committing, Settled, Published}
use Rattle.tez_events.specs.declared.Entry.TheVariants.{CommitStarted}
use Rattle.tez_standing.specs.declared.state.Phase.{Phase}
use Rattle.tez_standing.specs.declared.state.Phase.TheVariants.{Running, Finished}
use Rattle.tez_standing.specs.declared.state.Phase.TheVariants.{CommitStarted as CommitBegun}
use Rattle.tez_standing.specs.declared.state.Standing.{Standing}
use Rattle.tez_history.specs.History.{Past, epoch, is_committing, is_found, is_readied, was_asked, recorded}
use Rattle.tez_history.specs.Rules.{is_at_start}
use Rattle.tez_history.specs.Runs.{Run, opened_by}
use Rattle.tez_laws.proofs.StepLaw.{both}
use Rattle.tez_laws.proofs.Counting.{found_open}
use Rattle.tez_pool_view.specs.View.{pool_view}
use Rattle.tez_pool_view.proofs.Leaving.{leave_opened, leave_over}
use Rattle.tez_router_view.proofs.Told.{start_view}
use Rattle.tez_schedule_view.proofs.Lists.{each-same}
use Rattle.tez_schedule_view.proofs.Beginning.{start_view as schedule_start}
use Rattle.tez_master_view.specs.View.{master_view}
use Rattle.tez_master_view.proofs.Parts.{Rest, same_parts}
use Rattle.tez_master_view.proofs.Own.{readied_view, asked_view}
use Rattle.tez_master_view.proofs.Simple.{rest}
use Rattle.tez_master_model.specs.State.{MasterState}
use Rattle.tez_master_model.specs.Recovery.{KeptState, going_on, committed, found, found_by, CanGoOn, CanBeFoundAt}
use Rattle.tez_recovery.specs.Laws.{knowing_no_sink, has_committed, as_ground, found_in, start_of, open_in, open_of, begun_by, begun}
use Rattle.tez_recovery.specs.Statements.{fresh_at, OpensFresh, TakesUpFresh, RecordsNone}
use Rattle.tez_recovery.proofs.Recorded.{with_recorded, going_on_with, can_go_on_with}
use Rattle.tez_master_model.specs.Fresh.{no_locations, fresh}

-- ---- a table in which each place is the same

by-element : {X Y : Type 0} (f : ℕ → Y) (h : X → Y) (n : ℕ) (xs : List X) → ((k : ℕ) (x : X) → slice_get xs k ≡ Rattle.std.specs.Prelude.Some x → f (n + k) ≡ h x) → map f (numbers_from n (length xs)) ≡ map h xs
by-element f h n [] s = refl
by-element f h n (x ∷ xs) s =
    let here : f n ≡ h x = subst (λ m. f m ≡ h x) (add-zero n) (s 0 x refl) in
    let rest : map f (numbers_from (suc n) (length xs)) ≡ map h xs = by-element f h (suc n) xs (λ k y g. subst (λ m. f m ≡ h y) (omega arith) (s (suc k) y g)) in
    ap (λ y. y ∷ map f (numbers_from (suc n) (length xs))) here ∙ ap (λ ys. h x ∷ ys) rest

no_table : (g : Dag) → table (λ v i. None) (planned g) (length g.vertices) ≡ map no_locations g.vertices
no_table g =
    by-element (λ v. map (λ i. None) (numbers_from 0 (planned g v))) no_locations 0 g.vertices
    (λ k x h. each-same (λ i. None) None 0 (planned g (0 + k)) (λ i. refl) ∙ ap (λ m. replicate (planned g m) None) (zero-add k) ∙ ap (λ o. replicate (option_map_or (λ s. s.tasks) o 0) None) h)

-- ---- the first entry

-- where no master is up, no commit goes on, be it found or not
not_committing : (past : Past) → is_at_start past ≡ true → false ≡ is_committing past
not_committing [] at = refl
not_committing (Stopped cause ∷ past) at = refl
not_committing (_ ∷ past) at = cc

not_found : (past : Past) → is_at_start past ≡ true → false ≡ is_found past
not_found [] at = refl
not_found (Stopped cause ∷ past) at = refl
not_found (_ ∷ past) at = cc

pub opens_view : (g : Dag) (c : ConfValues) (past : Past) (n : Epoch) → is_at_start past ≡ true → begun_by g c past (Opened n ∷ past) ≡ master_view g c (Opened n ∷ past)
opens_view g c past n at =
    same_parts g c (rest g (Opened n ∷ past)) refl (sym (leave_opened c past n at))
    (sym (start_view g past (Opened n) refl)) (sym (schedule_start g c past (Opened n) refl)) (sym (no_table g)) refl

-- what of it is not as in a fresh master, once the job is over
abbrev over_rest : Dag → Past → Rest
over_rest g past = (suc (epoch past), asked_view g past, recorded past, false, false, true, true)

pub over_view : (g : Dag) (c : ConfValues) (past : Past) → is_at_start past ≡ true → record (begun_by g c past (Over ∷ past)) { finished = true } ≡ master_view g c (Over ∷ past)
over_view g c past at =
    same_parts g c (over_rest g past) refl (sym (leave_over c past at)) (sym (start_view g past Over refl))
    (sym (schedule_start g c past Over refl)) (sym (no_table g)) refl
    ∙ ap (λ b. record (master_view g c (Over ∷ past)) { committing = b; found = false }) (not_committing past at)
    ∙ ap (λ b. record (master_view g c (Over ∷ past)) { found = b }) (not_found past at)

pub begun_view : (g : Dag) (c : ConfValues) (past : Past) (s : Standing) → is_at_start past ≡ true → s.phase ≡ Running → begun g c past s ≡ master_view g c (open_of s past ∷ past)
begun_view g c past s at run =
    subst (λ p. begun_by g c past (open_in p s.epoch past ∷ past) ≡ master_view g c (open_in p s.epoch past ∷ past)) (sym run) (opens_view g c past (record { 0 = suc (max s.epoch (epoch past)) }) at)

-- it is fresh but for the sinks that are recorded
opens_fresh : (g : Dag) (c : ConfValues) (past : Past) (n : Epoch)
    → begun_by g c past (Opened n ∷ past) ≡ with_recorded (fresh g c n.0 (pool_view c past)) (recorded past)
opens_fresh g c past n =
    let f = with_recorded (fresh g c n.0 (pool_view c past)) (recorded past) in
    let none = each-same (λ v. false) false 0 (length g.vertices) (λ v. refl) in
    ap (λ xs. record f { readied = xs; asked = asked_view g (Opened n ∷ past) }) none
    ∙ ap (λ xs. record f { asked = xs }) none

abbrev next_epoch : Standing → Past → Epoch
next_epoch s past = record { 0 = suc (max s.epoch (epoch past)) }

-- no sink was recorded before
pub begun_fresh : (g : Dag) (c : ConfValues) (past : Past) (s : Standing) → OpensFresh g c past s
begun_fresh g c past s run none =
    subst (λ p. begun_by g c past (open_in p s.epoch past ∷ past) ≡ fresh_at g c past s) (sym run)
    (opens_fresh g c past (next_epoch s past) ∙ ap (with_recorded (fresh_at g c past s)) none)

-- where a commit has started, how many are recorded is what the journal says
pub committed_fresh : (g : Dag) (c : ConfValues) (past : Past) (s : Standing) → TakesUpFresh g c past s
committed_fresh g c past s ks sums n commit = (
  subst (λ p. found_by p (from p) s ks ≡ found_by p f s ks) (sym commit) is,
  subst (λ p. CanBeFoundAt p (from p) s ks → CanBeFoundAt p f s ks) (sym commit) can,
)
  where
    f : MasterState
    f = fresh_at g c past s

    from : Phase → MasterState
    from p = begun_by g c past (open_in p s.epoch past ∷ past)

    opened : from (CommitBegun sums n) ≡ with_recorded f (recorded past)
    opened = opens_fresh g c past (next_epoch s past)

    is : committed (going_on (from (CommitBegun sums n)) s ks) n ≡ committed (going_on f s ks) n
    is = ap (λ m. committed (going_on m s ks) n) opened ∙ ap (λ m. committed m n) (going_on_with f (recorded past) s ks)

    can : CanGoOn (from (CommitBegun sums n)) s ks → CanGoOn f s ks
    can h = can_go_on_with f (recorded past) s ks (subst (λ m. CanGoOn m s ks) opened h)

-- a commit that goes on has started
begun_once : (past : Past) → is_committing past ≡ true → has_committed past ≡ true
begun_once [] h = cc
begun_once (CommitStarted ∷ past) h = refl
begun_once (Committing n ∷ past) h = refl
begun_once (Opened _ ∷ past) h = cc
begun_once (Stopped _ ∷ past) h = cc
begun_once (_ ∷ past) h = begun_once past h

-- a sink is recorded where a commit goes on
not_so : {A : Type 0} (past : Past) → is_committing past ≡ true → has_committed past ≡ false → A
not_so past h none = let begun : has_committed past ≡ true = begun_once past h in cc

pub none_recorded : (g : Dag) (c : ConfValues) (past : Past) → RecordsNone g c past
none_recorded g c [] m none = refl
none_recorded g c (Published w ∷ past) m none = not_so past (both {x = is_committing past} m.0).0 none
none_recorded g c (Settled w ∷ past) m none = not_so past (found_open past m.0.0) none
none_recorded g c (Committing n ∷ past) m none = cc
none_recorded g c (CommitStarted ∷ past) m none = cc
none_recorded g c (_ ∷ past) m none = none_recorded g c past m.1 none

-- the job is over: a fresh master knows nothing of the sinks
none_known : (f : ℕ → Bool) (n : ℕ) → replicate n false ≡ map (λ b. false) (map f (numbers_from 0 n))
none_known f n = sym (map_each (λ b. false) f 0 n ∙ each-same (λ v. false) false 0 n (λ v. refl))

pub over_fresh : (g : Dag) (c : ConfValues) (past : Past) (s : Standing) (ks : List KeptState) (sums : List (ℕ × ℕ)) → is_at_start past ≡ true → s.phase ≡ Finished sums
    → found (fresh g c (suc (epoch past)) (pool_view c past)) s ks ≡ knowing_no_sink (master_view g c (start_of g c past s ks))
over_fresh g c past s ks sums at end =
    let f = fresh g c (suc (epoch past)) (pool_view c past) in
    let r : Run = record { past = past; verdict = None } in
    let later : Phase → Past = λ p. (opened_by g c r (found_in p s.version (as_ground s ks))).past in
    subst (λ p. found_by p f s ks ≡ knowing_no_sink (master_view g c (later p))) (sym end)
    (ap (λ xs. record f { finished = true; readied = xs }) (none_known (λ v. is_readied v past) (length g.vertices))
    ∙ ap (λ xs. record f { finished = true; readied = map (λ b. false) (readied_view g past); asked = xs })
    (none_known (λ v. was_asked v past) (length g.vertices))
    ∙ ap knowing_no_sink (over_view g c past at))
