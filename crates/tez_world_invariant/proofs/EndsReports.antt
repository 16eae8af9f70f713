-- A report of an attempt, on the parts of a master.
--     order_out          the attempt's order lies at its seat
--     reported_value, reported_pieces, reported_good, reported_bad     what came of the order
--     report_holds       what holds after the report
--     spent_counts       a failure that spends its task was one too many
use Rattle.std.specs.Prelude.{◌≡◌, ◌≤◌, ◌<◌, ◌/◌, ◌*◌, ℕ, zero, suc, ◌+◌, nat_le, Bool, true, false, if◌then◌else◌, List, [], ◌∷◌, map, length, slice_get, slice_set, Option, Some, None, is_some, unwrap_or, refl}
use Rattle.std.specs.List.{filter, enumerate_from}
use Rattle.std.specs.Option.{option_map, option_map_or}
use Rattle.std.proofs.Common.{ap, sym, ◌∙◌, arith, subst}
use Rattle.std.proofs.Math.Nat.{div-lt_iff_lt-mul}
use Rattle.std.proofs.lemmas.Option.{same_Some}
use Rattle.std.proofs.lemmas.Bool.Decides.{nat_tests}
use Rattle.tez_ids.specs.declared.AttemptId.{AttemptId}
use Rattle.tez_ids.specs.declared.EdgeId.{EdgeId}
use Rattle.tez_ids.specs.Same.{same_attempt}
use Rattle.tez_plan.specs.Dag.{Dag, edge}
use Rattle.tez_plan.specs.declared.parts.EdgeSpec.{EdgeSpec}
use Rattle.tez_plan.specs.declared.parts.VertexSpec.{VertexSpec}
use Rattle.tez_conf.specs.declared.values.ConfValues.{ConfValues}
use Rattle.tez_meaning.specs.Jobs.{Job}
use Rattle.tez_meaning.specs.Value.{bad}
use Rattle.tez_events.specs.declared.Entry.TheVariants.{Succeeded, Made, Failed}
use Rattle.tez_events.specs.declared.CoreEvent.TheVariants.{Fail}
use Rattle.tez_history.specs.Shape.{places, slot_of}
use Rattle.tez_history.specs.History.{Past, Stage, Unknown, InQueue, Waits, Runs, Ended, extend, stage, life, failures, is_up, is_readied, is_committing}
use Rattle.tez_history.specs.Derived.{is_processing, task_count}
use Rattle.tez_history.specs.Steps.{is_running, entries_of, done_entries, requeue}
use Rattle.tez_laws.specs.Laws.{place_in}
use Rattle.tez_laws.proofs.Same.{same_task-refl}
use Rattle.tez_laws.proofs.OneLive.{running_alive}
use Rattle.tez_laws.proofs.Places.{stands}
use Rattle.tez_laws.proofs.StepLaw.{both, alive_task}
use Rattle.tez_pool.specs.Table.{place_held, sent_at}
use Rattle.tez_pool_view.specs.View.{standing, pool_view}
use Rattle.tez_pool_view.proofs.Reading.{read_place, read_life, alive_vertex}
use Rattle.tez_contents.specs.Contents.{made, met_bad}
use Rattle.tez_contents.specs.Laws.{HasNone}
use Rattle.tez_master_model.specs.Enabled.{enabled_in, why_in}
use Rattle.tez_master_model.specs.Entries.{is_last_in}
use Rattle.tez_master_model.specs.Read.{processes}
use Rattle.tez_master_model.specs.Settled.{after_done}
use Rattle.tez_master_model.specs.Bytes.{IsMadeFor, leaves_by_key, bytes_of}
use Rattle.tez_master_view.specs.Laws.{why_after}
use Rattle.tez_master_view.proofs.Simple.{report_settles}
use Rattle.tez_master_view.proofs.Lasting.{goes_report}
use Rattle.tez_master_view.proofs.Reasons.{tells}
use Rattle.tez_master_view.proofs.TaskReadings.{task_read}
use Rattle.tez_lists.proofs.Tables.{get_each}
use Rattle.tez_orders.specs.Orders.{OrderParts}
use Rattle.tez_orders.specs.Outcomes.{IsOutcome, pieces_of}
use Rattle.tez_orders.specs.declared.report.Outcome.TheVariants.{Done, Bad}
use Rattle.tez_assembly.specs.Order.{Records, outs_for, order_for}
use Rattle.tez_inflight.specs.Seats.{Vacant, Out, seat_at}
use Rattle.tez_work_view.specs.Holdings.{Pieces, gathered, node, order_view, seat_by, seat_at_stage, seat_view}
use Rattle.tez_work_view.proofs.Seating.{seats_reported}
use Rattle.tez_work_view.proofs.OrderLaws.{order_value, order_bad}
use Rattle.tez_work_view.proofs.Shelving.{shelf_reported}
use Rattle.tez_sinks.proofs.Bads.{attempt_blames}
use Rattle.tez_sinks.proofs.Stores.{reported_good}
use Rattle.tez_sinks.proofs.Wells.{well_report, report_kept, report_over}
use Rattle.tez_world_invariant.specs.Keeping.{Parts, Holds, is_stop, most_entries}
use Rattle.tez_world_invariant.specs.Reports.{IsOut, made_for, Shelves, HasPut}
use Rattle.tez_world_invariant.proofs.EndsMaster.{is_enabled, runs_now}

-- ---- the order of an attempt that is processing

runs_somewhere : (s : Stage) → is_processing s ≡ true → (p : ℕ) × (s ≡ Runs p)
runs_somewhere Unknown h = cc
runs_somewhere InQueue h = cc
runs_somewhere (Waits p) h = cc
runs_somewhere (Runs p) h = (p, refl)
runs_somewhere Ended h = cc

placed_so : (o : Option ℕ) (f : ℕ → Bool) (p : ℕ) (b : Bool) → option_map {U = ℕ × Bool} (λ q. (q, f q)) o ≡ Some (p, b) → o ≡ Some p
placed_so None f p b h = cc
placed_so (Some q) f p b h = ap Some (ap (λ (x : ℕ × Bool). x.0) (same_Some (q, f q) (p, b) h))

-- a vertex of a task that is configured is there
some_order : (job : Job) (past : Past) (a : AttemptId) (p : ℕ) (o : Option VertexSpec) → slice_get job.plan.vertices a.task.vertex.0 ≡ o → a.task.vertex.0 < length job.plan.vertices → (s : VertexSpec) × (o ≡ Some s)
some_order job past a p None e inside = absurd (none_below job.plan.vertices a.task.vertex.0 inside e) where
  none_below : {X : Type 0} (xs : List X) (i : ℕ) → i < length xs → slice_get xs i ≡ None → ⊥
  none_below [] i h k = absurd (omega arith)
  none_below (x ∷ xs) zero h k = cc
  none_below (x ∷ xs) (suc i) h k = none_below xs i (omega (arith, h)) k
some_order job past a p (Some s) e inside = (s, refl)

pub order_out : (job : Job) (c : ConfValues) (ps : Parts) (past : Past) (a : AttemptId) → Holds job c ps past → processes ps.master a ≡ true → IsOut job c ps past a
order_out job c ps past a h on =
    let m = h.well.made in
    let at = runs_somewhere (stage a past) (runs_now job c ps past a h on) in
    let p = at.0 in
    let s = stands job.plan c past m p a (ap place_in at.1) in
    let told = read_place job.plan c past a m ∙ ap standing at.1 in
    let held = placed_so (place_held (pool_view c past).places a) (sent_at (pool_view c past).places) p true told in
    let v = some_order job past a p (slice_get job.plan.vertices a.task.vertex.0) refl (alive_vertex job.plan c past a p m (ap place_in at.1)) in
    let order = order_for job (task_count job.plan a.task.vertex.0 past) a p (λ n. gathered job a n past) v.0 in
    let is : order_view job past a p ≡ Some order = ap (option_map (order_for job (task_count job.plan a.task.vertex.0 past) a p (λ n. gathered job a n past))) v.1 in
    let seat : seat_view job past p ≡ Out order = ap (seat_by job past p) s.0 ∙ ap (seat_at_stage job past p a) at.1 ∙ ap (λ o. option_map_or Out o Vacant) is in
    record {
      place = p;
      order = order;
      held = ap (λ x. place_held x.pool.places a) h.master ∙ held;
      inside = s.1;
      runs = at.1;
      is = is;
      there = ap (λ ds. seat_at ds p) h.seats ∙ ap (λ o. unwrap_or o Vacant) (get_each (seat_view job past) 0 (places c) p s.1) ∙ ap (seat_view job past) (omega arith) ∙ seat;
      own = refl;
    }

-- ---- what came of it

own_order : (job : Job) (c : ConfValues) (ps : Parts) (past : Past) (a : AttemptId) (p : ℕ) (o : OrderParts) → Holds job c ps past → processes ps.master a ≡ true → place_held ps.master.pool.places a ≡ Some p → seat_at ps.seats p ≡ Out o
    → (stage a past ≡ Runs p) × (order_view job past a p ≡ Some o)
own_order job c ps past a p o h on held there =
    let out = order_out job c ps past a h on in
    let same : out.place ≡ p = same_Some out.place p (sym out.held ∙ held) in
    let runs : stage a past ≡ Runs p = out.runs ∙ ap Runs same in
    let seat : Out out.order ≡ Out o = sym out.there ∙ ap (seat_at ps.seats) same ∙ there in
    let order : out.order ≡ o = cc in
    (runs, ap (order_view job past a) (sym same) ∙ out.is ∙ ap Some order)

outs_are : (job : Job) (past : Past) (a : AttemptId) (p : ℕ) (o : OrderParts) (s : Option VertexSpec)
    → option_map (order_for job (task_count job.plan a.task.vertex.0 past) a p (λ n. gathered job a n past)) s ≡ Some o → o.outs ≡ outs_for job.plan a.task.vertex.0
outs_are job past a p o None h = cc
outs_are job past a p o (Some s) h =
    let e : order_for job (task_count job.plan a.task.vertex.0 past) a p (λ n. gathered job a n past) s ≡ o = same_Some (order_for job (task_count job.plan a.task.vertex.0 past) a p (λ n. gathered job a n past) s) o h in
    sym (ap (λ (x : OrderParts). x.outs) e)

module _ (job : Job) (c : ConfValues) (ps : Parts) (past : Past) (a : AttemptId) (p : ℕ) (o : OrderParts) (h : Holds job c ps past) (on : processes ps.master a ≡ true) (held : place_held ps.master.pool.places a ≡ Some p) (there : seat_at ps.seats p ≡ Out o) where
  pub outcome_value : (value : Records) (pieces : Pieces) → IsOutcome o (Done value pieces) → value ≡ made job a past
  unfolding IsOutcome
  outcome_value value pieces done =
      let own = own_order job c ps past a p o h on held there in
      done.1 ∙ order_value job c past a p o h.well.valid h.well.made own.0 own.1

  pub outcome_pieces : (value : Records) (pieces : Pieces) → IsOutcome o (Done value pieces) → pieces ≡ pieces_of (outs_for job.plan a.task.vertex.0) value
  unfolding IsOutcome
  outcome_pieces value pieces done =
      let own = own_order job c ps past a p o h on held there in
      done.2 ∙ ap (pieces_of o.outs) (sym done.1) ∙ ap (λ outs. pieces_of outs value) (outs_are job past a p o (slice_get job.plan.vertices a.task.vertex.0) own.1)

  pub outcome_good : (value : Records) (pieces : Pieces) → IsOutcome o (Done value pieces) → met_bad job a past ≡ false
  unfolding IsOutcome
  outcome_good value pieces done =
      let own = own_order job c ps past a p o h on held there in
      sym (order_bad job c past a p o h.well.valid h.well.made own.0 own.1) ∙ ap is_some done.0

  pub outcome_bad : (r : List ℕ) → IsOutcome o (Bad r) → met_bad job a past ≡ true
  unfolding IsOutcome
  outcome_bad r is =
      let own = own_order job c ps past a p o h on held there in
      sym (order_bad job c past a p o h.well.valid h.well.made own.0 own.1) ∙ ap is_some is

  pub outcome_blames : (r : List ℕ) → IsOutcome o (Bad r) → bad job a.task.vertex.0 ≡ true
  outcome_blames r is =
      let w = h.well in
      attempt_blames job c past w.ranges w.valid w.made w.allowed w.now w.kept a (runs_now job c ps past a h on) (outcome_bad r is)

-- ---- the bytes of a report

numbers_same : (f : ℕ → ℕ) (es : List (ℕ × EdgeSpec)) → map (λ (m : EdgeId × ℕ). m.0.0) (map (λ (e : ℕ × EdgeSpec). (edge e.0, f e.0)) es) ≡ map (λ (e : ℕ × EdgeSpec). e.0) es
numbers_same f [] = refl
numbers_same f (e ∷ es) = ap (λ ns. e.0 ∷ ns) (numbers_same f es)

pub made_right : (g : Dag) (a : AttemptId) (f : ℕ → ℕ) → IsMadeFor g a (made_for g a f)
made_right g a f = numbers_same f (filter (leaves_by_key g a.task.vertex.0) (enumerate_from 0 g.edges))

-- ---- after the report

record Leaves (past later : Past) : Type 0 where
  up : is_up later ≡ is_up past
  committing : is_committing later ≡ is_committing past
  readied : (v : ℕ) → is_readied v later ≡ is_readied v past
  stopped : HasNone is_stop past → HasNone is_stop later

made_leaves : (a : AttemptId) (past : Past) (bytes : List (ℕ × ℕ)) → Leaves past (extend past (map (λ m. Made a (edge m.0) m.1) bytes))
made_leaves a past [] = record { up = refl; committing = refl; readied = λ v. refl; stopped = λ k. k }
made_leaves a past (x ∷ xs) =
    let rest = made_leaves a (Made a (edge x.0) x.1 ∷ past) xs in
    record { up = rest.up; committing = rest.committing; readied = rest.readied; stopped = λ k. rest.stopped (refl, k) }

report_leaves : (a : AttemptId) (past : Past) (bytes : List (ℕ × ℕ)) → Leaves past (extend past (done_entries a bytes))
report_leaves a past bytes =
    let rest = made_leaves a (Succeeded a ∷ past) bytes in
    record { up = rest.up; committing = rest.committing; readied = rest.readied; stopped = λ k. rest.stopped (refl, k) }

pub report_holds : (job : Job) (c : ConfValues) (ps : Parts) (past : Past) (a : AttemptId) (p : ℕ) (bytes : List (EdgeId × ℕ)) (shelves : Shelves) → Holds job c ps past → processes ps.master a ≡ true
    → place_held ps.master.pool.places a ≡ Some p → met_bad job a past ≡ false → HasPut job c past a p ps.shelves shelves → length (extend past (done_entries a (map bytes_of bytes))) < most_entries
    → Holds job c (record ps { master = after_done ps.master a bytes; seats = slice_set ps.seats p Vacant; shelves = shelves }) (extend past (done_entries a (map bytes_of bytes)))
report_holds job c ps past a p bytes shelves h on held fine put short =
    let runs = runs_now job c ps past a h on in
    let out = order_out job c ps past a h on in
    let at : stage a past ≡ Runs p = out.runs ∙ ap Runs (same_Some out.place p (sym out.held ∙ held)) in
    let told = map bytes_of bytes in
    let left = report_leaves a past told in
    record {
      goes = goes_report job.plan c past a told h.goes runs;
      well = well_report job c past a told h.well runs;
      up = left.up ∙ h.up;
      none_kept = report_kept past a told h.none_kept;
      none_over = report_over past a told h.none_over;
      none_stopped = left.stopped h.none_stopped;
      short = short;
      master = ap (λ m. after_done m a bytes) h.master ∙ report_settles job.plan c past a bytes h.goes runs;
      seats = ap (λ ds. slice_set ds p Vacant) h.seats ∙ sym (seats_reported job c past a p told h.well.made at);
      shelves = λ b.
          put b
          ∙ ap (λ o. if same_attempt a b then Some (node (slot_of c p) (life (slot_of c p) past), pieces_of (outs_for job.plan a.task.vertex.0) (made job a past)) else o) (h.shelves b)
          ∙ sym (shelf_reported job c past a b p told h.well.made at);
      good = reported_good job c past a told h.well.made runs fine h.good;
      texts = λ v sink r. h.texts v sink (sym (left.readied v) ∙ r);
      rows = h.rows;
      sums = λ k. h.sums (sym left.committing ∙ k);
    }

-- the life of the node at a place, as the pool has it
slot_inside : (n k p : ℕ) → 0 < k → p < n * k → p / k < n
slot_inside n k p some h = (div-lt_iff_lt-mul some).1 h

pub life_told : (job : Job) (c : ConfValues) (ps : Parts) (past : Past) (p : ℕ) → Holds job c ps past → p < places c → slice_get ps.master.pool.lives (slot_of c p) ≡ Some (life (slot_of c p) past)
life_told job c ps past p h inside =
    ap (λ m. slice_get m.pool.lives (slot_of c p)) h.master ∙ read_life c past (slot_of c p) (slot_inside c.nodes c.per_node p h.goes.conf.some_places inside)

-- ---- a failure that spends its task

at_least : (x y : ℕ) → nat_le x y ≡ true → x ≤ y
at_least x y h = grind (arith, nat_tests)

abbrev one_if : Bool → ℕ
one_if b = if b then 1 else 0

counted : (past : Past) (a : AttemptId) (max : ℕ) (b : Bool) → nat_le max (suc (failures a.task past)) ≡ b → b ≡ true
    → max ≤ failures a.task (extend past (Failed a ∷ (if b then [] else requeue past a.task)))
counted past a max false e h = cc
counted past a max true e h =
    let least : max ≤ suc (failures a.task past) = at_least max (suc (failures a.task past)) e in
    let more : max ≤ one_if true + failures a.task past = (let m : max ≤ 1 + failures a.task past = omega (arith, least) in m) in
    subst (λ b. max ≤ one_if b + failures a.task past) (sym (same_task-refl a.task)) more

pub spent_counts : (job : Job) (c : ConfValues) (ps : Parts) (past : Past) (a : AttemptId) → Holds job c ps past → enabled_in ps.master (Fail a) ≡ true → is_last_in ps.master a.task ≡ true
    → c.max_failed ≤ failures a.task (extend past (entries_of job.plan c past (Fail a)))
spent_counts job c ps past a h on last =
    let runs = (both {x = is_running past} (is_enabled job c ps past (Fail a) h tt on)).1 in
    let is = (alive_task job.plan c past a h.well.made (running_alive (stage a past) runs)).0 in
    let one : nat_le c.max_failed (failures a.task past + 1) ≡ true = sym (ap (λ o. option_map_or (λ t. nat_le t.max_failed (t.failures + 1)) o false) (task_read job.plan c past a.task h.well.made is)) ∙ sym (ap (λ m. is_last_in m a.task) h.master) ∙ last in
    let more : failures a.task past + 1 ≡ suc (failures a.task past) = omega arith in
    let two : nat_le c.max_failed (suc (failures a.task past)) ≡ true = subst (λ n. nat_le c.max_failed n ≡ true) more one in
    counted past a c.max_failed (nat_le c.max_failed (suc (failures a.task past))) refl two

pub why_told : (job : Job) (c : ConfValues) (ps : Parts) (past : Past) (a : AttemptId) → Holds job c ps past → why_in ps.master a ≡ why_after past a
why_told job c ps past a h = ap (λ m. why_in m a) h.master ∙ tells job.plan c past a h.goes h.up
