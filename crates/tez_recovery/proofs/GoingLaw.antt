-- A new master goes on from what it finds, and then it is what the longer history says.
use Rattle.std.specs.Prelude.{◌≡◌, ℕ, suc, max, ◌<◌, ◌≤◌, nat_le, ◌&&◌, if◌then◌else◌, true, refl}
use Rattle.std.specs.Prelude.{List, [], ◌∷◌, ◌++◌, map, None}
use Rattle.std.proofs.Common.{ap, sym, ◌∙◌, arith, subst}
use Rattle.std.proofs.lemmas.Bool.Decides.{nat_tests}
use Rattle.tez_ids.specs.declared.TaskId.{TaskId}
use Rattle.tez_ids.specs.declared.VertexId.{VertexId}
use Rattle.tez_lists.specs.Numbers.{In}
use Rattle.tez_plan.specs.Dag.{Dag}
use Rattle.tez_conf.specs.declared.values.ConfValues.{ConfValues}
use Rattle.tez_events.specs.declared.Entry.TheVariants.{Opened, Committing}
use Rattle.tez_standing.specs.declared.state.Phase.{Phase}
use Rattle.tez_standing.specs.declared.state.Phase.TheVariants.{Running, CommitStarted, Finished}
use Rattle.tez_standing.specs.declared.state.Standing.{Standing}
use Rattle.tez_history.specs.History.{Past, Location, Nowhere, On, InQuestion, extend, epoch, questioned, kept_there, live, location, made_bytes, recorded, is_up}
use Rattle.tez_history.specs.Derived.{all_done}
use Rattle.tez_history.specs.Rules.{is_at_start}
use Rattle.tez_history.specs.Runs.{Run, opened_by, opened_unless, committed_unless, standing_entries, committing_if}
use Rattle.tez_history.specs.Runs.{Unfinished, Committed}
use Rattle.tez_laws.proofs.Going.{extend-append}
use Rattle.tez_vertex.specs.Vertex.{Vertex}
use Rattle.tez_vertex_view.specs.View.{vertices_view, restored_vertices}
use Rattle.tez_master_model.proofs.Restorable.{new_fresh}
use Rattle.tez_vertex_view.proofs.Opening.{opened_step}
use Rattle.tez_router_view.proofs.Keeping.{entry_fits}
use Rattle.tez_schedule_view.proofs.Staying.{silent_view}
use Rattle.tez_master_model.specs.State.{MasterState}
use Rattle.tez_master_view.specs.View.{master_view, slot_by}
use Rattle.tez_master_view.specs.Laws.{Goes}
use Rattle.tez_master_model.specs.Recovery.{KeptState, config_in, all_carried, all_kept, going_on, committed, found_by, AllCanBeCarried, AllCanBeKept, CanGoOn, CanBeFoundAt, CanBeFound}
use Rattle.tez_recovery.specs.Laws.{as_ground, committed_in, found_in, as_found, open_in, start_of, stands_entry, carried_entry, kept_entry, found_entries, entries_in, start_entries, begun_by, begun, new_master, IsGoingOn, IsTakenUp, IsFoundIn, IsFoundAt}
use Rattle.tez_recovery.proofs.Beginning.{opens_view, over_view}
use Rattle.tez_recovery.proofs.Entries.{keeps, AreNew, found_there, task_stands, unspent, all_taken}
use Rattle.tez_recovery.proofs.Done.{all_kept_done}
use Rattle.tez_recovery.proofs.Steps.{with_vertices}
use Rattle.tez_recovery.proofs.Going.{IsGoing, IsFine, IsThere, stands, carries, keeps_all}

-- ---- what is found is right at the first entry

abbrev first : Past → Standing → Past
first past s = Opened (record { 0 = suc (max s.epoch (epoch past)) }) ∷ past

again : (l : Location) → slot_by l ≡ slot_by (kept_there true (questioned l))
again Nowhere = refl
again (On slot) = refl
again (InQuestion slot) = refl

fine : (g : Dag) (c : ConfValues) (past : Past) (s : Standing) (ks : List KeptState) → IsGoingOn g c past s ks → (x : VertexId × ℕ × ℕ) → In x s.configured → IsFine g x
fine g c past s ks f x i = record { some = f.right.fits.tasks x.0.0 (config_in x) (found_there s.configured x f.right.once i); sized = f.right.sized x i }

new_there : (past : Past) (s : Standing) → AreNew (first past s) s.configured
new_there past s x i = refl

-- the history up to the winners
abbrev stood : Past → Standing → Past
stood past s = extend (first past s) (map stands_entry s.configured)

abbrev gone : Past → Standing → Past
gone past s = extend (stood past s) (map carried_entry s.failures)

there : (g : Dag) (c : ConfValues) (past : Past) (s : Standing) (ks : List KeptState) → IsGoingOn g c past s ks → (k : KeptState) → In k ks → IsThere g c (gone past s) k
there g c past s ks f k i =
    let at = f.kept k i in
    let a = k.attempt in
    record {
      task = keeps (λ q. Rattle.tez_history.specs.Derived.is_task g q a.task) carried_entry (λ q x. refl) (stood past s) s.failures
          ∙ task_stands g (first past s) s.configured a.task (new_there past s) f.right.once (f.right.winners a (f.winners k i));
      locations = at.locations ∙ again (location c a past)
          ∙ ap (λ l. slot_by (kept_there true l)) (sym (keeps (λ q. location c a q) carried_entry (λ q x. refl) (stood past s) s.failures ∙ keeps (λ q. location c a q) stands_entry (λ q x. refl) (first past s) s.configured));
      made = λ e low from. at.made e low from
          ∙ sym (keeps (λ q. made_bytes a e q) carried_entry (λ q x. refl) (stood past s) s.failures ∙ keeps (λ q. made_bytes a e q) stands_entry (λ q x. refl) (first past s) s.configured);
    }

-- ---- the entries

taken : (g : Dag) (c : ConfValues) (past : Past) (s : Standing) (ks : List KeptState) → IsGoingOn g c past s ks → standing_entries g (first past s) (as_ground s ks) ≡ found_entries s ks
taken g c past s ks f =
    all_taken g (first past s) s ks (new_there past s) f.right.once f.right.sized (λ k i. f.right.winners k.attempt (f.winners k i))

opened_past : (g : Dag) (c : ConfValues) (past : Past) (s : Standing) (ks : List KeptState) → IsGoingOn g c past s ks
    → (opened_by g c (record { past = past; verdict = None }) (Unfinished (as_ground s ks))).past ≡ extend (first past s) (found_entries s ks)
opened_past g c past s ks f =
    ap (λ o. (opened_unless g (record { past = past; verdict = None }) (as_ground s ks) o).past) (unspent c s ks f.few)
    ∙ ap (extend (first past s)) (taken g c past s ks f)

ends : (past : Past) (s : Standing) (ks : List KeptState) → extend (first past s) (found_entries s ks) ≡ extend (gone past s) (map kept_entry ks)
ends past s ks =
    extend-append (first past s) (map stands_entry s.configured) (map carried_entry s.failures ++ map kept_entry ks) ∙ extend-append (stood past s) (map carried_entry s.failures) (map kept_entry ks)

-- a fact that only the first entry makes
pub found_leave : {A : Type 0} (fact : Past → A) → ((p : Past) (x : VertexId × ℕ × ℕ) → fact (stands_entry x ∷ p) ≡ fact p) → ((p : Past) (x : TaskId × ℕ) → fact (carried_entry x ∷ p) ≡ fact p) → ((p : Past) (k : KeptState) → fact (kept_entry k ∷ p) ≡ fact p)
    → (past : Past) (s : Standing) (ks : List KeptState) → fact (extend (first past s) (found_entries s ks)) ≡ fact (first past s)
found_leave fact x y z past s ks =
    ap fact (ends past s ks) ∙ keeps fact kept_entry z (gone past s) ks ∙ keeps fact carried_entry y (stood past s) s.failures ∙ keeps fact stands_entry x (first past s) s.configured

-- a run that has just this history
abbrev only : Past → Run
only past = record { past = past; verdict = None }

-- a commit that is taken up: all is done, and as many sinks are recorded as are known to be
takes_up : (g : Dag) (c : ConfValues) (past : Past) (s : Standing) (ks : List KeptState) (n : ℕ)
    → IsTakenUp g c past s ks n → committing_if g (extend (first past s) (found_entries s ks)) n ≡ Committing n ∷ []
takes_up g c past s ks n f =
    let p = extend (first past s) (found_entries s ks) in
    let done : all_done g p ≡ true =
    ap (all_done g) (ends past s ks)
    ∙ all_kept_done g (first past s) s ks (new_there past s) f.going.right.once f.whole in
    let same : recorded p ≡ recorded past =
    found_leave recorded (λ q x. refl) (λ q x. refl) (λ q k. refl) past s ks in
    ap (λ b. if b && nat_le (recorded p) n then Committing n ∷ [] else []) done
    ∙ ap (λ b. if b then Committing n ∷ [] else []) (ap (λ m. nat_le m n) same ∙ at_most (recorded past) n f.few)
  where
    at_most : (a b : ℕ) → a ≤ b → nat_le a b ≡ true
    at_most a b h = grind (arith, nat_tests)

taken_up_past : (g : Dag) (c : ConfValues) (past : Past) (s : Standing) (ks : List KeptState) (n : ℕ)
    → IsTakenUp g c past s ks n
    → (opened_by g c (only past) (Committed (as_ground s ks) n)).past
    ≡ extend (first past s) (found_entries s ks ++ Committing n ∷ [])
taken_up_past g c past s ks n f =
    let p = first past s in
    ap (λ o. (committed_unless g (only past) (as_ground s ks) n o).past) (unspent c s ks f.going.few)
    ∙ ap (λ es. extend p (es ++ committing_if g (extend p es) n)) (taken g c past s ks f.going)
    ∙ ap (λ es. extend p (found_entries s ks ++ es)) (takes_up g c past s ks n f)

-- the journal is of version 2
second : (g : Dag) (c : ConfValues) (past : Past) (s : Standing) (ks : List KeptState) (n : ℕ)
    → IsTakenUp g c past s ks n → committed_in s.version (as_ground s ks) n ≡ Committed (as_ground s ks) n
second g c past s ks n f = ap (λ v. committed_in v (as_ground s ks) n) f.version

pub starts : (g : Dag) (c : ConfValues) (past : Past) (s : Standing) (ks : List KeptState) → IsFoundAt g c past s ks → start_of g c past s ks ≡ extend past (start_entries s past ks)
starts g c past s ks f = by s.phase f where
  by : (p : Phase) → IsFoundIn p g c past s ks
      → (opened_by g c (only past) (found_in p s.version (as_ground s ks))).past
      ≡ extend past (open_in p s.epoch past ∷ entries_in p s ks)
  by Running h = opened_past g c past s ks h
  by (CommitStarted sums n) h =
      ap (λ o. (opened_by g c (only past) o).past) (second g c past s ks n h) ∙ taken_up_past g c past s ks n h
  by (Finished sums) h = refl

-- and the run has no verdict
pub run_starts : (g : Dag) (c : ConfValues) (r : Run) (s : Standing) (ks : List KeptState) → IsFoundAt g c r.past s ks → opened_by g c r (as_found s ks) ≡ record { past = start_of g c r.past s ks; verdict = None }
run_starts g c r s ks f = by s.phase f where
  begin : Run
  begin = only r.past

  by : (p : Phase) → IsFoundIn p g c r.past s ks
      → opened_by g c r (found_in p s.version (as_ground s ks))
      ≡ only (opened_by g c begin (found_in p s.version (as_ground s ks))).past
  by Running h =
      let none = unspent c s ks h.few in
      ap (opened_unless g r (as_ground s ks)) none ∙ sym (ap (λ o. only (opened_unless g begin (as_ground s ks) o).past) none)
  by (CommitStarted sums n) h =
      let x = as_ground s ks in
      let none = unspent c s ks h.going.few in
      let two = second g c r.past s ks n h in
      ap (opened_by g c r) two ∙ ap (committed_unless g r x n) none
      ∙ sym (ap (λ o. only (opened_by g c begin o).past) two
      ∙ ap (λ o. only (committed_unless g begin x n o).past) none)
  by (Finished sums) h = refl

-- ---- the master

record GoesOnFrom (g : Dag) (c : ConfValues) (past : Past) (s : Standing) (ks : List KeptState) : Type 0 where
  can : CanGoOn (begun_by g c past (first past s)) s ks
  is : going_on (begun_by g c past (first past s)) s ks ≡ master_view g c (extend (first past s) (found_entries s ks))

abbrev with_view : Dag → ConfValues → Past → List Vertex → MasterState
with_view g c p vs = with_vertices (master_view g c p) vs

goes_from : (g : Dag) (c : ConfValues) (past : Past) (s : Standing) (ks : List KeptState) → Goes g c past → is_at_start past ≡ true → IsGoingOn g c past s ks → GoesOnFrom g c past s ks
goes_from g c past s ks go at f =
    let p = first past s in
    let n = suc (max s.epoch (epoch past)) in
    let vs = vertices_view g c p in
    let may : Rattle.tez_history.specs.Follows.MayFollow g c past (Opened (record { 0 = n })) = (at, above s.epoch (epoch past)) in
    let now : IsGoing g c p = record { made = (may, go.sound.made); open_now = refl; fits = entry_fits g c past (Opened (record { 0 = n })) go.valid may tt go.plan } in
    let b = opens_view g c past (record { 0 = n }) at in
    let x = stands g c p vs s.configured go.valid go.ranges go.conf.some_failed now (new_fresh g c n) (new_there past s) f.right.once (fine g c past s ks f) in
    let y = carries g c (stood past s) _ s.failures x.going x.fresh f.few in
    let z = keeps_all g c (gone past s) _ ks y.going (λ t. dead t) y.fresh (there g c past s ks f) in
    let second = ap (λ m. all_carried m s.failures) x.is ∙ y.is in
    record {
      can = subst (λ m. CanGoOn m s ks) (sym b) (record {
        stands = x.can;
        few = subst (λ m. AllCanBeCarried m s.failures) (sym x.is) y.can;
        there = subst (λ m. AllCanBeKept m ks) (sym second) z.can;
      });
      is = ap (λ m. going_on m s ks) b
          ∙ ap (λ m. all_kept m ks) second ∙ z.is
          ∙ ap (λ q. with_view g c q (restored_vertices g c n (as_ground s ks))) (sym (ends past s ks))
          ∙ ap (with_view g c (extend p (found_entries s ks))) (sym (ap (vertices_view g c) (sym (opened_past g c past s ks f)) ∙ opened_step g c (record { past = past; verdict = None }) (as_ground s ks) go.conf.some_failed (unspent c s ks f.few)));
    }
  where
    above : (a b : ℕ) → b < suc (max a b)
    above a b = Rattle.tez_laws.proofs.RunLaw.above_both a b

    dead : (t : TaskId) → live t (gone past s) ≡ None
    dead t = keeps (λ q. live t q) carried_entry (λ q x. refl) (stood past s) s.failures ∙ keeps (λ q. live t q) stands_entry (λ q x. refl) (first past s) s.configured

-- what is taken up changes no part of it
committed_view : (g : Dag) (c : ConfValues) (p : Past) (n : ℕ)
    → committed (master_view g c p) n ≡ master_view g c (Committing n ∷ p)
committed_view g c p n =
    ap (λ s. record (master_view g c (Committing n ∷ p)) { schedule = s }) (sym (silent_view g c p (Committing n) tt))

pub can_be_found : (g : Dag) (c : ConfValues) (past : Past) (s : Standing) (ks : List KeptState) → Goes g c past → is_at_start past ≡ true → IsFoundAt g c past s ks → CanBeFound (begun g c past s) s ks
can_be_found g c past s ks go at f = by s.phase f where
  by : (p : Phase) → IsFoundIn p g c past s ks → CanBeFoundAt p (begun_by g c past (open_in p s.epoch past ∷ past)) s ks
  by Running h = (goes_from g c past s ks go at h).can
  by (CommitStarted sums n) h = (goes_from g c past s ks go at h.going).can
  by (Finished sums) h = tt

pub goes_on : (g : Dag) (c : ConfValues) (past : Past) (s : Standing) (ks : List KeptState) → Goes g c past → is_at_start past ≡ true → IsFoundAt g c past s ks → new_master g c past s ks ≡ master_view g c (start_of g c past s ks)
goes_on g c past s ks go at f = by s.phase f ∙ ap (master_view g c) (sym (starts g c past s ks f)) where
  by : (p : Phase) → IsFoundIn p g c past s ks → found_by p (begun_by g c past (open_in p s.epoch past ∷ past)) s ks ≡ master_view g c (extend past (open_in p s.epoch past ∷ entries_in p s ks))
  by Running h = (goes_from g c past s ks go at h).is
  by (CommitStarted sums n) h =
      let p = extend (first past s) (found_entries s ks) in
      ap (λ m. committed m n) (goes_from g c past s ks go at h.going).is ∙ committed_view g c p n
      ∙ ap (master_view g c) (sym (extend-append (first past s) (found_entries s ks) (Committing n ∷ [])))
  by (Finished sums) h = over_view g c past at

pub begins_up : (g : Dag) (c : ConfValues) (past : Past) (s : Standing) (ks : List KeptState) → IsFoundAt g c past s ks → is_up (start_of g c past s ks) ≡ true
begins_up g c past s ks f = ap is_up (starts g c past s ks f) ∙ by s.phase f where
  by : (p : Phase) → IsFoundIn p g c past s ks → is_up (extend past (open_in p s.epoch past ∷ entries_in p s ks)) ≡ true
  by Running h = found_leave is_up (λ q x. refl) (λ q x. refl) (λ q k. refl) past s ks
  by (CommitStarted sums n) h =
      ap is_up (extend-append (first past s) (found_entries s ks) (Committing n ∷ []))
      ∙ found_leave is_up (λ q x. refl) (λ q x. refl) (λ q k. refl) past s ks
  by (Finished sums) h = refl
