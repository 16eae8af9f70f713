-- The report of an attempt.
--     works_now                    an attempt with no ground against it is processing
--     numbers_now, steady_now      what the master's settling asks for
--     noted_report                 a report leaves the notes of the sinks right
--     IsSettled, done_holds        what holds once a success is settled
--     tried_told, fault_told, stands_told      the store, where the value was staged or may have been
--     fail_on, blamed                          a failure of an attempt at work is taken; what a bad record says
--     done_reported, bad_reported, ignored_reported    what came of a report
use Rattle.std.specs.Prelude.{◌≡◌, ◌⊎◌, ◌≤◌, ◌<◌, ◌^◌, ◌/◌, ◌&&◌, ℕ, Bool, true, false, not, if◌then◌else◌, List, [], ◌∷◌, map, length, slice_get, slice_set, Option, Some, None, IfSome, is_some, option_map, Result, Ok, Err, is_err, OnOk, sum_by, refl}
use Rattle.std.specs.Option.{option_map_or}
use Rattle.std.proofs.Common.{ap, sym, ◌∙◌, subst, arith, inl, inr}
use Rattle.std.proofs.lemmas.Option.{same_Some}
use Rattle.tez_ids.specs.declared.AttemptId.{AttemptId}
use Rattle.tez_ids.specs.declared.EdgeId.{EdgeId}
use Rattle.tez_ids.specs.Same.{same_attempt}
use Rattle.tez_record.specs.Bag.{text}
use Rattle.tez_plan.specs.declared.parts.VertexSpec.{VertexSpec}
use Rattle.tez_plan.specs.Dag.{edge}
use Rattle.tez_conf.specs.declared.values.ConfValues.{ConfValues}
use Rattle.tez_events.specs.declared.Entry.TheVariants.{Made, Succeeded}
use Rattle.tez_events.specs.declared.CoreEvent.TheVariants.{Fail}
use Rattle.tez_ports.specs.Content.{Named, Store, Told, IsEither, stages}
use Rattle.tez_meaning.specs.Jobs.{Job}
use Rattle.tez_meaning.specs.Value.{bad}
use Rattle.tez_history.specs.Shape.{slot_of, places, has_sink}
use Rattle.tez_history.specs.History.{Past, Stage, Unknown, InQueue, Waits, Runs, Ended, extend, stage, life, is_up, is_readied, is_committing, is_finished}
use Rattle.tez_history.specs.Derived.{is_processing}
use Rattle.tez_history.specs.Steps.{done_entries}
use Rattle.tez_log.specs.Log.{LogState}
use Rattle.tez_shelves.specs.Shelf.{shelf}
use Rattle.tez_shelves.specs.Piece.{size}
use Rattle.tez_master_model.specs.declared.why.Why.{Why}
use Rattle.tez_master_model.specs.declared.why.Why.TheVariants.{OldEpoch, Stranger}
use Rattle.tez_master_model.specs.State.{MasterState}
use Rattle.tez_master_model.specs.Enabled.{why_in, enabled_in}
use Rattle.tez_master_model.specs.Read.{processes, is_running}
use Rattle.tez_master_view.specs.View.{master_view}
use Rattle.tez_master_model.specs.Steady.{IsSteady}
use Rattle.tez_master_model.specs.Settled.{after_done}
use Rattle.tez_master_model.specs.Bytes.{bytes_of}
use Rattle.tez_master_view.specs.Laws.{why_after, why_at}
use Rattle.tez_contents.specs.Contents.{made, met_bad}
use Rattle.tez_orders.specs.Orders.{OrderParts}
use Rattle.tez_orders.specs.Outcomes.{ReportParts, IsOutcome, pieces_of}
use Rattle.tez_orders.specs.declared.report.Outcome.{Outcome}
use Rattle.tez_orders.specs.declared.report.Outcome.TheVariants.{Done, Bad}
use Rattle.tez_assembly.specs.Order.{Records, outs_for}
use Rattle.tez_inflight.specs.Seats.{Vacant, Out, seat_at}
use Rattle.tez_work_view.specs.Holdings.{Pieces, node}
use Rattle.tez_master.specs.Master.{HasNumbers}
use Rattle.tez_world_invariant.specs.Keeping.{Parts, Holds as HoldsNoted, most_entries}
use Rattle.tez_world_invariant.specs.Reports.{IsOut, HasPut}
use Rattle.tez_world_invariant.specs.Store.{StoreStands, HasPublished, WasClear}
use Rattle.tez_steps.specs.declared.running.Running.{Running}
use Rattle.tez_steps.specs.declared.reporting.At.{At}
use Rattle.tez_steps.specs.Step.{Notes, AreNoted, SinksStand, ReportAdds, IsBad, IsEnd}
use Rattle.tez_steps.specs.Holds.{parts_of, with_right_notes, Holds}
use Rattle.tez_steps.specs.Reporting.{IsAtWork, IsDoneReport, staged_for}
use Rattle.tez_steps.specs.Parts.{IsFailed, IsReported}
use Rattle.tez_steps.specs.declared.verdict.Verdict.{Verdict}
use Rattle.tez_steps.specs.declared.verdict.Verdict.TheVariants.{Succeeded, SinkExists, AttemptsSpent, DeviceFault}
use Rattle.tez_steps.specs.declared.verdict.Took.{Took}
use Rattle.tez_steps.specs.declared.verdict.Took.TheVariants.{Changed, Ignored, Ended as Over}
use Rattle.tez_steps.proofs.Tellings.{told_map, told_either}
use Rattle.tez_master_view.proofs.TaskReadings.{processes_read}
use Rattle.tez_world_invariant.proofs.PartsNumbers.{parts_attempts, parts_nodes, parts_lives, parts_containers, parts_steady}
use Rattle.tez_world_invariant.proofs.EndsReports.{order_out, outcome_value, outcome_pieces, outcome_good, outcome_bad, outcome_blames, report_holds, life_told, why_told}
use Rattle.tez_world_invariant.proofs.EndsCommit.{finished_committing}
use Rattle.tez_world_invariant.proofs.EndsStore.{store_staging, store_report, store_no_sink, store_published, before_commit}

-- ---- an attempt at work

none_stops : (b : Bool) (s : Stage) → (if b then Some OldEpoch else why_at s) ≡ None → is_processing s ≡ true
none_stops true s h = cc
none_stops false Unknown h = cc
none_stops false InQueue h = cc
none_stops false (Waits p) h = cc
none_stops false (Runs p) h = refl
none_stops false Ended h = cc

pub stage_now : (job : Job) (c : ConfValues) (r : Running) (past : Past) (a : AttemptId) → Holds job c (parts_of r) past → why_in r.master.state a ≡ None → is_processing (stage a past) ≡ true
stage_now job c r past a h none = none_stops _ (stage a past) (sym (why_told job c (with_right_notes job (parts_of r)) past a h) ∙ none)

pub works_now : (job : Job) (c : ConfValues) (r : Running) (past : Past) (a : AttemptId) → Holds job c (parts_of r) past → why_in r.master.state a ≡ None → processes r.master.state a ≡ true
works_now job c r past a h none = ap (λ (m : MasterState). processes m a) h.master ∙ processes_read job.plan c past a h.goes.sound.made ∙ stage_now job c r past a h none

pub why_later : (job : Job) (c : ConfValues) (r : Running) (past : Past) (a : AttemptId) (why : Why) → Holds job c (parts_of r) past → why_in r.master.state a ≡ Some why → why_after past a ≡ Some why
why_later job c r past a why h is = sym (why_told job c (with_right_notes job (parts_of r)) past a h) ∙ is

itself : (n : ℕ) → n ≤ n
itself n = omega arith

pub numbers_now : (job : Job) (c : ConfValues) (r : Running) (past : Past) → Holds job c (parts_of r) past → HasNumbers r.master.state
numbers_now job c r past h = record {
  tasks = λ t. parts_attempts job c (with_right_notes job (parts_of r)) past h t;
  nodes = subst (λ n. n ≤ length r.master.state.pool.lives) (parts_nodes job c (with_right_notes job (parts_of r)) past h) (itself (length r.master.state.pool.lives));
  lives = λ slot life is. subst (λ o. IfSome o (λ l. l < 2 ^ 63)) is (parts_lives job c (with_right_notes job (parts_of r)) past h slot);
  containers = parts_containers job c (with_right_notes job (parts_of r)) past h;
}

pub steady_now : (job : Job) (c : ConfValues) (r : Running) (past : Past) → Holds job c (parts_of r) past → IsSteady r.master.state
steady_now job c r past h = parts_steady job c (with_right_notes job (parts_of r)) past h

-- ---- the notes

record Leaves (past later : Past) : Type 0 where
  up : is_up later ≡ is_up past
  committing : is_committing later ≡ is_committing past
  readied : (v : ℕ) → is_readied v later ≡ is_readied v past

made_leaves : (a : AttemptId) (past : Past) (bytes : List (ℕ × ℕ)) → Leaves past (extend past (map (λ m. Made a (edge m.0) m.1) bytes))
made_leaves a past [] = record { up = refl; committing = refl; readied = λ v. refl }
made_leaves a past (x ∷ xs) =
    let rest = made_leaves a (Made a (edge x.0) x.1 ∷ past) xs in
    record { up = rest.up; committing = rest.committing; readied = rest.readied }

pub noted_report : (job : Job) (past : Past) (a : AttemptId) (bytes : List (ℕ × ℕ)) (notes : Notes) → AreNoted job past notes → AreNoted job (extend past (done_entries a bytes)) notes
noted_report job past a bytes notes n =
    let left = made_leaves a (Succeeded a ∷ past) bytes in
    record { rows = λ u. n.rows (sym left.up ∙ u); texts = λ v s r. n.texts v s (sym (left.readied v) ∙ r); sums = λ on. n.sums (sym left.committing ∙ on) }

-- ---- what holds after a success

-- the pieces of an outcome have few bytes
few_bytes : (o : OrderParts) (value : Records) (pieces : Pieces) → IsOutcome o (Done value pieces) → sum_by size pieces < 2 ^ 63
unfolding IsOutcome
few_bytes o value pieces k = k.3

pub record IsSettled (old after : Running) (was later : Past) (at : At) (bytes : List (EdgeId × ℕ)) (pieces : Pieces) : Type 0 where
  pub master : after.master.state ≡ after_done old.master.state at.a bytes
  pub seats : after.seats.seats ≡ slice_set old.seats.seats at.place Vacant
  pub shelves : (b : AttemptId) → shelf b after.shelves ≡ (if same_attempt at.a b then Some (at.node, pieces) else shelf b old.shelves)
  pub next : later ≡ extend was (done_entries at.a (map bytes_of bytes))
  pub short : length later < most_entries

module _ (job : Job) (c : ConfValues) (old : Running) (past : Past) (at : At) (value : Records) (pieces : Pieces) (h : Holds job c (parts_of old) past) (w : IsAtWork old.master.state at)
    (due : (o : OrderParts) → seat_at old.seats.seats at.place ≡ Out o → IsOutcome o (Done value pieces)) where
  right : Parts
  right = with_right_notes job (parts_of old)

  on : processes old.master.state at.a ≡ true
  on = works_now job c old past at.a h w.works

  out : IsOut job c (with_right_notes job (parts_of old)) past at.a
  out = order_out job c (with_right_notes job (parts_of old)) past at.a h on

  place_is : out.place ≡ at.place
  place_is = same_Some out.place at.place (sym out.held ∙ w.held)

  there : seat_at old.seats.seats at.place ≡ Out out.order
  there = ap (seat_at old.seats.seats) (sym place_is) ∙ out.there

  pub value_is : value ≡ made job at.a past
  value_is = outcome_value job c (with_right_notes job (parts_of old)) past at.a at.place out.order h on w.held there value pieces (due out.order there)

  pub pieces_are : pieces ≡ pieces_of (outs_for job.plan at.a.task.vertex.0) (made job at.a past)
  pieces_are = outcome_pieces job c (with_right_notes job (parts_of old)) past at.a at.place out.order h on w.held there value pieces (due out.order there) ∙ ap (pieces_of (outs_for job.plan at.a.task.vertex.0)) value_is

  pub few_pieces : sum_by size pieces < 2 ^ 63
  few_pieces = few_bytes out.order value pieces (due out.order there)

  slot_is : at.node.slot ≡ slot_of c at.place
  slot_is = w.slot ∙ ap (λ (m : MasterState). at.place / m.pool.per_node) h.master

  life_is : at.node.life ≡ life (slot_of c at.place) past
  life_is = same_Some at.node.life (life (slot_of c at.place) past) (sym w.life ∙ ap (slice_get old.master.state.pool.lives) slot_is ∙ life_told job c (with_right_notes job (parts_of old)) past at.place h (subst (λ p. p < places c) place_is out.inside))

  node_is : at.node ≡ node (slot_of c at.place) (life (slot_of c at.place) past)
  node_is = ap (λ s. node s at.node.life) slot_is ∙ ap (node (slot_of c at.place)) life_is

  has_put : (after : Running) (later : Past) (bytes : List (EdgeId × ℕ)) → IsSettled old after past later at bytes pieces → HasPut job c past at.a at.place old.shelves after.shelves
  has_put after later bytes s b =
      s.shelves b
      ∙ ap (λ n. if same_attempt at.a b then Some (n, pieces) else shelf b old.shelves) node_is
      ∙ ap (λ ps. if same_attempt at.a b then Some (node (slot_of c at.place) (life (slot_of c at.place) past), ps) else shelf b old.shelves) pieces_are

  pub done_holds : (after : Running) (later : Past) (bytes : List (EdgeId × ℕ)) → IsSettled old after past later at bytes pieces → Holds job c (parts_of after) later
  done_holds after later bytes s =
      let next = report_holds job c (with_right_notes job (parts_of old)) past at.a at.place bytes after.shelves h on w.held
      (outcome_good job c (with_right_notes job (parts_of old)) past at.a at.place out.order h on w.held there value pieces (due out.order there))
      (has_put after later bytes s) (subst (λ (p : Past). length p < most_entries) s.next s.short) in
      subst (λ (p : Past). Holds job c (parts_of after) p) (sym s.next)
      (subst (λ m. HoldsNoted job c (with_right_notes job (record (parts_of after) { master = m })) (extend past (done_entries at.a (map bytes_of bytes)))) (sym s.master)
      (subst (λ d. HoldsNoted job c (with_right_notes job (record (parts_of after) { master = after_done old.master.state at.a bytes; seats = d })) (extend past (done_entries at.a (map bytes_of bytes)))) (sym s.seats) next))

  -- ---- the store

  none_sunk : (o : Option VertexSpec) → option_map_or (λ (s : VertexSpec). is_some s.sink) o false ≡ false → option_map_or (λ (s : VertexSpec). s.sink) o None ≡ None
  none_sunk None k = refl
  none_sunk (Some s) k = by s.sink k where
    by : (o : Option (List ℕ)) → is_some o ≡ false → o ≡ None
    by None k = refl
    by (Some x) k = cc

  pub staged_tries : (before : Named) (s : Store) → StoreStands job before past s → StoreStands job before past (staged_for job.plan at.a (text value) s)
  staged_tries before s k = by (has_sink job.plan at.a.task.vertex.0) where
    by : (b : Bool) → StoreStands job before past (if b then stages at.a (text value) s else s)
    by true = store_staging job c (with_right_notes job (parts_of old)) past at.a (text value) before s h on k
    by false = k

  pub staged_stands : (bytes : List (ℕ × ℕ)) (before : Named) (s : Store) → StoreStands job before past s → StoreStands job before (extend past (done_entries at.a bytes)) (staged_for job.plan at.a (text value) s)
  staged_stands bytes before s k = by (has_sink job.plan at.a.task.vertex.0) refl where
    by : (b : Bool) → has_sink job.plan at.a.task.vertex.0 ≡ b → StoreStands job before (extend past (done_entries at.a bytes)) (if b then stages at.a (text value) s else s)
    by true e = subst (λ (v : Records). StoreStands job before (extend past (done_entries at.a bytes)) (stages at.a (text v) s)) (sym value_is) (store_report job c (with_right_notes job (parts_of old)) past at.a bytes before s h on k)
    by false e = store_no_sink job c (with_right_notes job (parts_of old)) past at.a bytes before s h on (none_sunk (slice_get job.plan.vertices at.a.task.vertex.0) e) k

  pub stands_after : (bytes : List (ℕ × ℕ)) (before : Named) (notes : Notes) (s : Store) → SinksStand job before past notes s → SinksStand job before (extend past (done_entries at.a bytes)) notes (staged_for job.plan at.a (text value) s)
  stands_after bytes before notes s k = record { store = staged_stands bytes before s k.store; noted = noted_report job past at.a bytes notes k.noted }

  pub stands_tried : (before : Named) (notes : Notes) (s : Store) → SinksStand job before past notes s → SinksStand job before past notes (staged_for job.plan at.a (text value) s)
  stands_tried before notes s k = record { store = staged_tries before s k.store; noted = k.noted }

  pub faulted : (before : Named) (notes : Notes) (s : Store) → SinksStand job before past notes s → HasPublished job before s × WasClear job before past
  faulted before notes s k = (store_published job c (with_right_notes job (parts_of old)) past before s h k.store, k.store.clear)

  -- ---- what the store tells

  pub tried_told : (before : Named) (notes : Notes) (later : Past) (was now : Option Store) → later ≡ past → IsEither (staged_for job.plan at.a (text value)) was now → Told was (SinksStand job before past notes) → Told now (SinksStand job before later notes)
  tried_told before notes later was now same either told =
      told_either (SinksStand job before past notes) (SinksStand job before later notes) was now (staged_for job.plan at.a (text value)) either
      (λ s k. subst (λ (p : Past). SinksStand job before p notes s) (sym same) k)
      (λ s k. subst (λ (p : Past). SinksStand job before p notes (staged_for job.plan at.a (text value) s)) (sym same) (stands_tried before notes s k)) told

  pub fault_told : (before : Named) (notes : Notes) (later : Past) (was now : Option Store) → later ≡ past → IsEither (staged_for job.plan at.a (text value)) was now → Told was (SinksStand job before past notes) → Told now (λ s. HasPublished job before s × WasClear job before later)
  fault_told before notes later was now same either told =
      told_either (SinksStand job before past notes) (λ s. HasPublished job before s × WasClear job before later) was now (staged_for job.plan at.a (text value)) either
      (λ s k. subst (λ (p : Past). HasPublished job before s × WasClear job before p) (sym same) (faulted before notes s k))
      (λ s k. subst (λ (p : Past). HasPublished job before (staged_for job.plan at.a (text value) s) × WasClear job before p) (sym same) (faulted before notes (staged_for job.plan at.a (text value) s) (stands_tried before notes s k))) told

  pub stands_told : (bytes : List (ℕ × ℕ)) (before : Named) (notes : Notes) (later : Past) (was now : Option Store) → later ≡ extend past (done_entries at.a bytes) → now ≡ option_map (staged_for job.plan at.a (text value)) was → Told was (SinksStand job before past notes) → Told now (SinksStand job before later notes)
  stands_told bytes before notes later was now same ok told =
      told_map (SinksStand job before past notes) (SinksStand job before later notes) was now (staged_for job.plan at.a (text value)) ok
      (λ s k. subst (λ (p : Past). SinksStand job before p notes (staged_for job.plan at.a (text value) s)) (sym same) (stands_after bytes before notes s k)) told

pub why_given : (job : Job) (c : ConfValues) (r : Running) (past : Past) (a : AttemptId) (why : Why) → Holds job c (parts_of r) past → (why_in r.master.state a ≡ Some why) ⊎ (why ≡ Stranger) → (why_after past a ≡ Some why) ⊎ (why ≡ Stranger)
why_given job c r past a why h (inl e) = inl (why_later job c r past a why h e)
why_given job c r past a why h (inr e) = inr e

-- ---- a report of a bad record

pub both_on : (x y : Bool) → x ≡ true → y ≡ true → (x && y) ≡ true
both_on true true h k = refl
both_on true false h k = cc
both_on false y h k = cc

pub goes_unfinished : (b : Bool) → (b ≡ true → ⊥) → not b ≡ true
goes_unfinished true never = absurd (never refl)
goes_unfinished false never = refl

-- a master that has an attempt at work is not finished
pub unfinished : (job : Job) (c : ConfValues) (r : Running) (past : Past) (a : AttemptId) → Holds job c (parts_of r) past → processes r.master.state a ≡ true → is_finished past ≡ true → ⊥
unfinished job c r past a h on done =
    let k = finished_committing job c past h.well.made h.none_over h.none_stopped done in
    let b = before_commit job c (with_right_notes job (parts_of r)) past a h on in
    cc

-- so a failure of that attempt is taken
pub fail_on : (job : Job) (c : ConfValues) (r : Running) (past : Past) (a : AttemptId) → Holds job c (parts_of r) past → why_in r.master.state a ≡ None → enabled_in (master_view job.plan c past) (Fail a) ≡ true
fail_on job c r past a h none =
    let on = works_now job c r past a h none in
    let up : is_running (master_view job.plan c past) ≡ true = both_on (is_up past) (not (is_finished past)) h.up (goes_unfinished (is_finished past) (unfinished job c r past a h on)) in
    both_on (is_running (master_view job.plan c past)) (processes (master_view job.plan c past) a) up (ap (λ (m : MasterState). processes m a) (sym h.master) ∙ on)

-- what a bad record says of the attempt and of its vertex
pub record IsBlamed (job : Job) (past : Past) (a : AttemptId) : Type 0 where
  pub works : is_processing (stage a past) ≡ true
  pub met : met_bad job a past ≡ true
  pub blames : bad job a.task.vertex.0 ≡ true

pub blamed : (job : Job) (c : ConfValues) (r : Running) (past : Past) (at : At) (o : OrderParts) (rec : List ℕ) → Holds job c (parts_of r) past → IsAtWork r.master.state at → seat_at r.seats.seats at.place ≡ Out o → IsOutcome o (Bad rec)
    → IsBlamed job past at.a
blamed job c r past at o rec h w there is =
    let on = works_now job c r past at.a h w.works in
    record {
      works = stage_now job c r past at.a h w.works;
      met = outcome_bad job c (with_right_notes job (parts_of r)) past at.a at.place o h on w.held there rec is;
      blames = outcome_blames job c (with_right_notes job (parts_of r)) past at.a at.place o h on w.held there rec is;
    }

-- ---- what came of a report

pub done_reported : (job : Job) (c : ConfValues) (x : ReportParts) (value : Records) (pieces : Pieces) (r : Running) (log : LogState) (took : Took) (after : Running) (l : LogState) → x.outcome ≡ Done value pieces
    → IsDoneReport job c x.order.attempt (Done value pieces) r log took after l → IsReported job c x r log took after l
done_reported job c x value pieces r log Changed after l e k = ((k.0, subst (λ (o : Outcome). ReportAdds job c log.past x.order.attempt o l.past) (sym e) k.1), k.2)
done_reported job c x value pieces r log (Ignored why) after l e k = absurd k
done_reported job c x value pieces r log (Over (DeviceFault d)) after l e k = k
done_reported job c x value pieces r log (Over (Succeeded pairs)) after l e k = absurd k
done_reported job c x value pieces r log (Over (SinkExists v)) after l e k = absurd k
done_reported job c x value pieces r log (Over (AttemptsSpent t)) after l e k = absurd k

pub bad_reported : (job : Job) (c : ConfValues) (x : ReportParts) (rec : List ℕ) (r : Running) (log : LogState) (took : Took) (after : Running) (l : LogState) → x.outcome ≡ Bad rec → IsBlamed job log.past x.order.attempt
    → enabled_in (master_view job.plan c log.past) (Fail x.order.attempt) ≡ true → IsFailed job c x.order.attempt r log took after l → IsReported job c x r log took after l
bad_reported job c x rec r log Changed after l e b on k =
    ((b.works, subst (λ (o : Outcome). ReportAdds job c log.past x.order.attempt o l.past) (sym e) (k.2, b.met, b.blames)), k.1)
bad_reported job c x rec r log (Ignored why) after l e b on k = let no : true ≡ false = sym on ∙ k.0 in cc
bad_reported job c x rec r log (Over v) after l e b on k =
    subst (λ (w : Verdict). IsReported job c x r log (Over w) after l) (sym k.1)
    ((b.works, subst (λ (o : Outcome). ReportAdds job c log.past x.order.attempt o l.past) (sym e) (k.3, b.met, b.blames)), refl, subst IsBad (sym e) tt, subst (λ (w : Verdict). IsEnd job c w l.past) k.1 k.2)

pub ignored_reported : (job : Job) (c : ConfValues) (x : ReportParts) (r : Running) (log : LogState) (why : Why) → Holds job c (parts_of r) log.past → (why_in r.master.state x.order.attempt ≡ Some why) ⊎ (why ≡ Stranger)
    → IsReported job c x r log (Ignored why) r log
ignored_reported job c x r log why h given = (why_given job c r log.past x.order.attempt why h given, record { parts = refl; queue = refl }, record { past = refl; records = refl })

-- a call that gave no refusal
pub on_ok : {T E : Type 0} (r : Result T E) (P : Type 0) → is_err r ≡ false → OnOk r P → P
on_ok (Ok x) P went k = k
on_ok (Err e) P went k = cc

pub same_due : (o due : OrderParts) → Out o ≡ Out due → o ≡ due
same_due o due e = cc
