-- What each entry, and so each event, makes of what is on shelves.
use Rattle.std.specs.Prelude.{◌≡◌, ℕ, suc, nat_le, ⊤, not, ◌&&◌, ◌==◌, Bool, true, false, IsTrue, if◌then◌else◌, List, [], ◌∷◌, ◌++◌, map, Option, Some, None, is_some, refl}
use Rattle.std.specs.Option.{option_map_or}
use Rattle.std.proofs.Common.{ap, ap₂, sym, ◌∙◌, arith, subst}
use Rattle.std.proofs.lemmas.Bool.{eqb-true, eq-eqb}
use Rattle.std.proofs.lemmas.Bool.Decides.{nat_tests}
use Rattle.tez_ids.specs.declared.AttemptId.{AttemptId}
use Rattle.tez_ids.specs.declared.TaskId.{TaskId}
use Rattle.tez_ids.specs.declared.VertexId.{VertexId}
use Rattle.tez_ids.specs.Same.{same_attempt}
use Rattle.tez_plan.specs.Dag.{Dag, edge}
use Rattle.tez_conf.specs.declared.values.ConfValues.{ConfValues}
use Rattle.tez_events.specs.declared.Entry.{Entry}
use Rattle.tez_events.specs.declared.Entry.TheVariants.{Opened, Over, Stands, Carried, Kept, Configured, Queued, Placed, Fetched, ReadError, InputFailed, Ordered, Succeeded, Made, Failed, Killed, NodeLost, OutputLost, Rerun, Stopped, Committing, Ready as Readied, Asked, Settled, Published, CommitStarted, Finished, Purged}
use Rattle.tez_events.specs.declared.StopCause.{StopCause}
use Rattle.tez_events.specs.declared.CoreEvent.{CoreEvent}
use Rattle.tez_events.specs.declared.CoreEvent.TheVariants.{Open, Configure, Queue, Place, Fetch, Send, Preempt, Fail, LoseNode, LoseOutput, Restart, Ready, CommitStart, Ask, Publish, Finish, Purge}
use Rattle.tez_history.specs.Shape.{slot_of, has_edge_out}
use Rattle.tez_history.specs.History.{Past, extend, Stage, Runs, Location, Nowhere, On, InQuestion, stage, location, put_by, lost_on, life, winner, failures, is_committing}
use Rattle.tez_history.specs.Derived.{is_processing, is_on_shelf, is_stored, is_on_slot}
use Rattle.tez_history.specs.Steps.{enabled, entries_of, requeue, withdrawal, fetch_entries, winner_behind, output_lost_entries, node_kills, node_withdrawals, node_loss_entries, done_entries}
use Rattle.tez_history.specs.Follows.{IsMade, MayFollow, AllMayFollow}
use Rattle.tez_laws.specs.Laws.{answered}
use Rattle.tez_laws.proofs.Same.{same_attempt-true}
use Rattle.tez_laws.proofs.StepLaw.{event_may, done_may}
use Rattle.tez_orders.specs.Outcomes.{pieces_of}
use Rattle.tez_shelves.specs.Shelf.{kept_if, same_node}
use Rattle.tez_meaning.specs.Jobs.{Job}
use Rattle.tez_contents.specs.Contents.{made, copied}
use Rattle.tez_assembly.specs.Order.{outs_for}
use Rattle.tez_work_view.specs.Holdings.{node, shelf_by, shelf_view}
use Rattle.tez_work_view.specs.Events.{KeepsShelves}
use Rattle.tez_work_view.proofs.EntryKinds.{AllOf, HasWithdrawals, all-append, all_withdrawal, all_withdrawals, all_kills, all_made}
use Rattle.tez_work_view.proofs.Lying.{is_nowhere, waits_here}

-- ---- entries that concern no shelf

abbrev Leaves : Entry → Type 0
Leaves (Opened _) = ⊥
Leaves (Kept _) = ⊥
Leaves (Succeeded _) = ⊥
Leaves (NodeLost _ _) = ⊥
Leaves (OutputLost _) = ⊥
Leaves _ = ⊤

withdraws : HasWithdrawals Leaves
withdraws = record { rerun = λ w. tt; told = λ a e i w. tt; queued = λ a. tt }

shelf_same : (job : Job) (past later : Past) (b : AttemptId) (l : Location) → made job b later ≡ made job b past → ((s : ℕ) → life s later ≡ life s past) → shelf_by job later b l ≡ shelf_by job past b l
shelf_same job past later b Nowhere same lives = refl
shelf_same job past later b (On slot) same lives = ap₂ (λ n rs. Some (node slot n, pieces_of (outs_for job.plan b.task.vertex.0) rs)) (lives slot) same
shelf_same job past later b (InQuestion slot) same lives = refl

leave_ordered : (job : Job) (c : ConfValues) (past : Past) (a : AttemptId) → IsMade job.plan c past → MayFollow job.plan c past (Ordered a) → (b : AttemptId) → shelf_view job c (Ordered a ∷ past) b ≡ shelf_view job c past b
unfolding made copied
leave_ordered job c past a m f b = by (same_attempt a b) refl where
  none : (l : Location) → l ≡ Nowhere → shelf_by job (Ordered a ∷ past) b l ≡ shelf_by job past b l
  none l e = ap (shelf_by job (Ordered a ∷ past) b) e ∙ sym (ap (shelf_by job past b) e)

  by : (x : Bool) → same_attempt a b ≡ x → shelf_by job (Ordered a ∷ past) b (location c b past) ≡ shelf_by job past b (location c b past)
  by true e =
      none (location c b past) (subst (λ x. location c x past ≡ Nowhere) (same_attempt-true a b e) (is_nowhere job.plan c past a m (waits_here (stage a past) f.0)))
  by false e = shelf_same job past (Ordered a ∷ past) b (location c b past) (rw e refl) (λ s. refl)

leave_one : (job : Job) (c : ConfValues) (past : Past) (e : Entry) → IsMade job.plan c past → MayFollow job.plan c past e → Leaves e → (b : AttemptId) → shelf_view job c (e ∷ past) b ≡ shelf_view job c past b
unfolding made copied
leave_one job c past (Opened _) m f h b = absurd h
leave_one job c past (Kept _) m f h b = absurd h
leave_one job c past (Succeeded _) m f h b = absurd h
leave_one job c past (NodeLost _ _) m f h b = absurd h
leave_one job c past (OutputLost _) m f h b = absurd h
leave_one job c past (Ordered a) m f h b = leave_ordered job c past a m f b
leave_one job c past Over m f h b = shelf_same job past (Over ∷ past) b (location c b past) refl (λ s. refl)
leave_one job c past (Stands x y z) m f h b = shelf_same job past (Stands x y z ∷ past) b (location c b past) refl (λ s. refl)
leave_one job c past (Carried x y) m f h b = shelf_same job past (Carried x y ∷ past) b (location c b past) refl (λ s. refl)
leave_one job c past (Configured x y z) m f h b = shelf_same job past (Configured x y z ∷ past) b (location c b past) refl (λ s. refl)
leave_one job c past (Queued x) m f h b = shelf_same job past (Queued x ∷ past) b (location c b past) refl (λ s. refl)
leave_one job c past (Placed x y z) m f h b = shelf_same job past (Placed x y z ∷ past) b (location c b past) refl (λ s. refl)
leave_one job c past (Fetched x y z u) m f h b = shelf_same job past (Fetched x y z u ∷ past) b (location c b past) refl (λ s. refl)
leave_one job c past (ReadError x y z u) m f h b = shelf_same job past (ReadError x y z u ∷ past) b (location c b past) refl (λ s. refl)
leave_one job c past (InputFailed x y z u) m f h b = shelf_same job past (InputFailed x y z u ∷ past) b (location c b past) refl (λ s. refl)
leave_one job c past (Made x y z) m f h b = shelf_same job past (Made x y z ∷ past) b (location c b past) refl (λ s. refl)
leave_one job c past (Failed x) m f h b = shelf_same job past (Failed x ∷ past) b (location c b past) refl (λ s. refl)
leave_one job c past (Killed x y) m f h b = shelf_same job past (Killed x y ∷ past) b (location c b past) refl (λ s. refl)
leave_one job c past (Rerun x) m f h b = shelf_same job past (Rerun x ∷ past) b (location c b past) refl (λ s. refl)
leave_one job c past (Stopped x) m f h b = shelf_same job past (Stopped x ∷ past) b (location c b past) refl (λ s. refl)
leave_one job c past (Committing x) m f h b = shelf_same job past (Committing x ∷ past) b (location c b past) refl (λ s. refl)
leave_one job c past (Readied x) m f h b = shelf_same job past (Readied x ∷ past) b (location c b past) refl (λ s. refl)
leave_one job c past (Asked x) m f h b = shelf_same job past (Asked x ∷ past) b (location c b past) refl (λ s. refl)
leave_one job c past (Settled x) m f h b = shelf_same job past (Settled x ∷ past) b (location c b past) refl (λ s. refl)
leave_one job c past (Published x) m f h b = shelf_same job past (Published x ∷ past) b (location c b past) refl (λ s. refl)
leave_one job c past CommitStarted m f h b = shelf_same job past (CommitStarted ∷ past) b (location c b past) refl (λ s. refl)
leave_one job c past Finished m f h b = shelf_same job past (Finished ∷ past) b (location c b past) refl (λ s. refl)
leave_one job c past Purged m f h b = shelf_same job past (Purged ∷ past) b (location c b past) refl (λ s. refl)

leave_all : (job : Job) (c : ConfValues) (past : Past) (es : List Entry) → IsMade job.plan c past → AllMayFollow job.plan c past es → AllOf Leaves es → (b : AttemptId) → shelf_view job c (extend past es) b ≡ shelf_view job c past b
leave_all job c past [] m f h b = refl
leave_all job c past (e ∷ es) m f h b = leave_all job c (e ∷ past) es (f.0, m) f.1 h.1 b ∙ leave_one job c past e m f.0 h.0 b

-- ---- a report puts pieces on a shelf

succeeded : (job : Job) (c : ConfValues) (past : Past) (a b : AttemptId) (p : ℕ) → stage a past ≡ Runs p
    → shelf_view job c (Succeeded a ∷ past) b ≡ (if same_attempt a b then Some (node (slot_of c p) (life (slot_of c p) past), pieces_of (outs_for job.plan a.task.vertex.0) (made job a past)) else shelf_view job c past b)
unfolding made copied
succeeded job c past a b p runs = by (same_attempt a b) refl where
  own : (x : AttemptId) → stage x past ≡ Runs p → shelf_by job (Succeeded a ∷ past) x (put_by c (stage x past)) ≡ Some (node (slot_of c p) (life (slot_of c p) past), pieces_of (outs_for job.plan x.task.vertex.0) (made job x past))
  own x e = ap (λ s. shelf_by job (Succeeded a ∷ past) x (put_by c s)) e

  by : (x : Bool) → same_attempt a b ≡ x → shelf_by job (Succeeded a ∷ past) b (if x then put_by c (stage b past) else location c b past)
      ≡ (if x then Some (node (slot_of c p) (life (slot_of c p) past), pieces_of (outs_for job.plan a.task.vertex.0) (made job a past)) else shelf_by job past b (location c b past))
  by true e =
      subst (λ y. shelf_by job (Succeeded a ∷ past) y (put_by c (stage y past)) ≡ Some (node (slot_of c p) (life (slot_of c p) past), pieces_of (outs_for job.plan a.task.vertex.0) (made job a past))) (same_attempt-true a b e) (own a runs)
  by false e = shelf_same job past (Succeeded a ∷ past) b (location c b past) refl (λ s. refl)

runs_true : (s : Stage) (p : ℕ) → s ≡ Runs p → IsTrue (is_processing s)
runs_true s p e = ap is_processing e

pub shelf_reported : (job : Job) (c : ConfValues) (past : Past) (a b : AttemptId) (p : ℕ) (bytes : List (ℕ × ℕ)) → IsMade job.plan c past → stage a past ≡ Runs p
    → shelf_view job c (extend past (done_entries a bytes)) b
    ≡ (if same_attempt a b then Some (node (slot_of c p) (life (slot_of c p) past), pieces_of (outs_for job.plan a.task.vertex.0) (made job a past)) else shelf_view job c past b)
shelf_reported job c past a b p bytes m runs =
    let f = done_may job.plan c past a bytes (runs_true (stage a past) p runs) in
    leave_all job c (Succeeded a ∷ past) (map (λ x. Made a (edge x.0) x.1) bytes) (f.0, m) f.1 (all_made Leaves (λ x e n. tt) a bytes) b
    ∙ succeeded job c past a b p runs

-- ---- a node is lost

other_number : (s slot : ℕ) → (s == slot) ≡ false → (slot == s) ≡ false
other_number s slot h = grind (arith, nat_tests)

lost_shelf : (job : Job) (past later : Past) (slot l : ℕ) (b : AttemptId) (at : Location) → made job b later ≡ made job b past → ((s : ℕ) → life s later ≡ (if slot == s then l else life s past))
    → shelf_by job later b (lost_on slot at) ≡ kept_if (λ s. not (same_node s.0 (node slot (life slot past)))) (shelf_by job past b at)
lost_shelf job past later slot l b Nowhere same lives = refl
lost_shelf job past later slot l b (InQuestion s) same lives = by (s == slot) where
  by : (x : Bool) → shelf_by job later b (if x then Nowhere else InQuestion s) ≡ None
  by true = refl
  by false = refl
lost_shelf job past later slot l b (On s) same lives = by (s == slot) refl where
  gone : (s == slot) ≡ true → ((life s past) == (life slot past)) ≡ true
  gone e = eq-eqb (life s past) (life slot past) (ap (λ n. life n past) (eqb-true s slot e))

  by : (x : Bool) → (s == slot) ≡ x
      → shelf_by job later b (if x then Nowhere else On s) ≡ (if not (x && ((life s past) == (life slot past))) then Some (node s (life s past), pieces_of (outs_for job.plan b.task.vertex.0) (made job b past)) else None)
  by true e = ap (λ y. if not y then Some (node s (life s past), pieces_of (outs_for job.plan b.task.vertex.0) (made job b past)) else None) (sym (gone e))
  by false e =
      ap₂ (λ n rs. Some (node s n, pieces_of (outs_for job.plan b.task.vertex.0) rs)) (lives s ∙ ap (λ y. if y then l else life s past) (other_number s slot e)) same

node_lost : (job : Job) (c : ConfValues) (past : Past) (slot l : ℕ) (b : AttemptId) → shelf_view job c (NodeLost slot l ∷ past) b ≡ kept_if (λ s. not (same_node s.0 (node slot (life slot past)))) (shelf_view job c past b)
unfolding made copied
node_lost job c past slot l b = lost_shelf job past (NodeLost slot l ∷ past) slot l b (location c b past) refl (λ s. refl)

pub shelf_lost : (job : Job) (c : ConfValues) (past : Past) (slot : ℕ) (b : AttemptId) → IsMade job.plan c past → enabled job.plan c past (LoseNode slot) ≡ true
    → shelf_view job c (extend past (entries_of job.plan c past (LoseNode slot))) b ≡ kept_if (λ s. not (same_node s.0 (node slot (life slot past)))) (shelf_view job c past b)
shelf_lost job c past slot b m on = by (is_committing past) (event_may job.plan c past (LoseNode slot) m on) where
  by : (x : Bool) → AllMayFollow job.plan c past (if x then NodeLost slot (suc (life slot past)) ∷ [] else node_loss_entries job.plan c past slot)
      → shelf_view job c (extend past (if x then NodeLost slot (suc (life slot past)) ∷ [] else node_loss_entries job.plan c past slot)) b
      ≡ kept_if (λ s. not (same_node s.0 (node slot (life slot past)))) (shelf_view job c past b)
  by true f = node_lost job c past slot (suc (life slot past)) b
  by false f =
      let at : Past = NodeLost slot (suc (life slot past)) ∷ past in
      let kills = node_kills c at slot in
      let rest = node_withdrawals job.plan c slot past (extend at kills) in
      leave_all job c at (kills ++ rest) (f.0, m) f.1 (all-append Leaves kills rest (all_kills Leaves withdraws (λ a. tt) c at slot) (all_withdrawals Leaves withdraws job.plan c slot past (extend at kills))) b
      ∙ node_lost job c past slot (suc (life slot past)) b

-- ---- an output is lost

output_lost : (job : Job) (c : ConfValues) (past : Past) (w b : AttemptId) → shelf_view job c (OutputLost w ∷ past) b ≡ (if same_attempt w b then None else shelf_view job c past b)
unfolding made copied
output_lost job c past w b = by (same_attempt w b) where
  by : (x : Bool) → shelf_by job (OutputLost w ∷ past) b (if x then Nowhere else location c b past) ≡ (if x then None else shelf_by job past b (location c b past))
  by true = refl
  by false = shelf_same job past (OutputLost w ∷ past) b (location c b past) refl (λ s. refl)

pub shelf_output_lost : (job : Job) (c : ConfValues) (past : Past) (t : TaskId) (w b : AttemptId) → winner t past ≡ Some w
    → shelf_view job c (extend past (entries_of job.plan c past (LoseOutput t))) b ≡ (if same_attempt w b then None else shelf_view job c past b)
shelf_output_lost job c past t w b won = ap (λ o. shelf_view job c (extend past (output_lost_entries o)) b) won ∙ output_lost job c past w b

-- ---- the other events

leave_fetch : (g : Dag) (c : ConfValues) (past : Past) (a : AttemptId) (e i : ℕ) (o : Option AttemptId) → AllOf Leaves (fetch_entries g c past a e i o)
leave_fetch g c past a e i None = tt
leave_fetch g c past a e i (Some w) = by (is_on_shelf g c past w) where
  by : (b : Bool) → AllOf Leaves (if b then Fetched a (edge e) i w ∷ [] else ReadError a (edge e) i w ∷ withdrawal g (ReadError a (edge e) i w ∷ past) w)
  by true = (tt, tt)
  by false = (tt, all_withdrawal Leaves withdraws g (ReadError a (edge e) i w ∷ past) w)

leave_failed : (past : Past) (a : AttemptId) (b : Bool) → AllOf Leaves (Failed a ∷ (if b then [] else requeue past a.task))
leave_failed past a true = (tt, tt)
leave_failed past a false = (tt, (tt, tt))

leave_event : (g : Dag) (c : ConfValues) (past : Past) (e : CoreEvent) → KeepsShelves e → AllOf Leaves (entries_of g c past e)
leave_event g c past Open h = tt
leave_event g c past (Configure v) h = (tt, tt)
leave_event g c past (Queue t) h = (tt, tt)
leave_event g c past (Place a p) h = (tt, tt)
leave_event g c past (Fetch a e i) h = leave_fetch g c past a e.0 i (winner_behind g past a e.0 i)
leave_event g c past (Send a) h = (tt, tt)
leave_event g c past (Preempt a) h = (tt, (tt, tt))
leave_event g c past (Fail a) h = leave_failed past a (nat_le c.max_failed (suc (failures a.task past)))
leave_event g c past (LoseNode slot) h = absurd h
leave_event g c past (LoseOutput t) h = absurd h
leave_event g c past Restart h = (tt, tt)
leave_event g c past (Ready v) h = (tt, tt)
leave_event g c past CommitStart h = (tt, tt)
leave_event g c past (Ask v) h = tt
leave_event g c past (Publish v) h = (tt, tt)
leave_event g c past Finish h = (tt, tt)
leave_event g c past Purge h = (tt, tt)

pub shelf_left : (job : Job) (c : ConfValues) (past : Past) (e : CoreEvent) (b : AttemptId) → KeepsShelves e → IsMade job.plan c past → enabled job.plan c past e ≡ true
    → shelf_view job c (extend past (entries_of job.plan c past e)) b ≡ shelf_view job c past b
shelf_left job c past e b k m on = leave_all job c past (entries_of job.plan c past e) m (event_may job.plan c past e m on) (leave_event job.plan c past e k) b

pub shelf_answered : (job : Job) (c : ConfValues) (past : Past) (v : VertexId) (there : Bool) (b : AttemptId) → shelf_view job c (answered past v there) b ≡ shelf_view job c past b
unfolding made copied
shelf_answered job c past v true b = shelf_same job past (Settled v ∷ past) b (location c b past) refl (λ s. refl)
shelf_answered job c past v false b = shelf_same job past (Asked v ∷ past) b (location c b past) refl (λ s. refl)

-- ---- a stop leaves them too, and at the beginning there is nothing

pub shelf_stopped : (job : Job) (c : ConfValues) (past : Past) (cause : StopCause) (b : AttemptId) → shelf_view job c (Stopped cause ∷ past) b ≡ shelf_view job c past b
unfolding made copied
shelf_stopped job c past cause b = shelf_same job past (Stopped cause ∷ past) b (location c b past) refl (λ s. refl)

pub shelf_new : (job : Job) (c : ConfValues) (b : AttemptId) → shelf_view job c [] b ≡ None
shelf_new job c b = refl

-- ---- what a shelf tells

some_locations : (job : Job) (past : Past) (b : AttemptId) (l : Location) → is_stored l ≡ is_some (shelf_by job past b l)
some_locations job past b Nowhere = refl
some_locations job past b (On slot) = refl
some_locations job past b (InQuestion slot) = refl

pub shelf_is : (job : Job) (c : ConfValues) (past : Past) (w : AttemptId) → is_on_shelf job.plan c past w ≡ (has_edge_out job.plan w.task.vertex.0 && is_some (shelf_view job c past w))
shelf_is job c past w = ap (λ x. has_edge_out job.plan w.task.vertex.0 && x) (some_locations job past w (location c w past))

slot_locations : (job : Job) (past : Past) (slot : ℕ) (b : AttemptId) (l : Location) → is_on_slot slot l ≡ option_map_or (λ s. s.0.slot == slot) (shelf_by job past b l) false
slot_locations job past slot b Nowhere = refl
slot_locations job past slot b (On s) = refl
slot_locations job past slot b (InQuestion s) = refl

pub shelf_slot : (job : Job) (c : ConfValues) (past : Past) (slot : ℕ) (w : AttemptId) → is_on_slot slot (location c w past) ≡ option_map_or (λ s. s.0.slot == slot) (shelf_view job c past w) false
shelf_slot job c past slot w = slot_locations job past slot w (location c w past)
