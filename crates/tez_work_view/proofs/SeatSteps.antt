-- What each entry makes of a seat.
use Rattle.std.specs.Prelude.{◌≡◌, ℕ, ⊤, ◌&&◌, ◌||◌, ◌==◌, Bool, true, false, IsTrue, if◌then◌else◌, [], ◌∷◌, ◌++◌, map, slice_get, Option, Some, None, unwrap_or, refl}
use Rattle.std.specs.Option.{option_map, option_map_or}
use Rattle.std.proofs.Common.{ap, sym, ◌∙◌, arith, subst}
use Rattle.std.proofs.lemmas.Bool.{eqb-true, eq-eqb}
use Rattle.std.proofs.lemmas.Bool.Decides.{nat_tests}
use Rattle.tez_ids.specs.declared.AttemptId.{AttemptId}
use Rattle.tez_ids.specs.declared.EdgeId.{EdgeId}
use Rattle.tez_ids.specs.declared.ContainerId.{ContainerId}
use Rattle.tez_ids.specs.declared.TaskId.{TaskId}
use Rattle.tez_ids.specs.declared.VertexId.{VertexId}
use Rattle.tez_ids.specs.Same.{same_attempt}
use Rattle.tez_plan.specs.Dag.{Dag, tasks_of as planned}
use Rattle.tez_conf.specs.declared.values.ConfValues.{ConfValues}
use Rattle.tez_vman.specs.declared.seen.Config.{Config}
use Rattle.tez_vman.specs.Rules.{config as shape}
use Rattle.tez_events.specs.declared.KillCause.{KillCause}
use Rattle.tez_events.specs.declared.Entry.{Entry}
use Rattle.tez_events.specs.declared.Entry.TheVariants.{Opened, Over, Stands, Carried, Kept, Configured, Queued, Placed, Fetched, ReadError, InputFailed, Ordered, Succeeded, Made, Failed, Killed, NodeLost, OutputLost, Rerun, Stopped, Committing, Ready, Asked, Settled, Published, CommitStarted, Finished, Purged}
use Rattle.tez_history.specs.Shape.{Edge, edges_to}
use Rattle.tez_history.specs.History.{Past, Stage, Unknown, InQueue, Waits, Runs, Ended, stage, sent, holder, freed, config, is_fetched}
use Rattle.tez_history.specs.Derived.{task_count, next_attempt, is_configured}
use Rattle.tez_history.specs.Rules.{is_at_start}
use Rattle.tez_history.specs.Follows.{IsMade, IsPlaced, MayFollow}
use Rattle.tez_laws.specs.Laws.{place_in, answered}
use Rattle.tez_laws.proofs.Same.{same_attempt-true, same_attempt-refl}
use Rattle.tez_laws.proofs.OneLive.{placed_alive}
use Rattle.tez_laws.proofs.Places.{held, stands, fresh, placed_known, in_place, none_held_at_start, queued_fetched}
use Rattle.tez_router_view.proofs.Lists.{map-map}
use Rattle.tez_meaning.specs.Jobs.{Job}
use Rattle.tez_contents.specs.Contents.{Records, made, piece_over}
use Rattle.tez_assembly.specs.Order.{order_for}
use Rattle.tez_orders.specs.Orders.{OrderParts}
use Rattle.tez_inflight.specs.Seats.{Seat, Vacant, Gathers, Out, Gathered, gathers_over, gathering}
use Rattle.tez_work_view.specs.Holdings.{gathered, order_view, seat_at_stage, seat_by, seat_view}
use Rattle.tez_work_view.proofs.Fetched.{config_stays, alive_configured}

-- ---- a seat by what it goes by

abbrev parts_for : Job → AttemptId → (ℕ → Records) → Gathered
parts_for job a f = map (λ e. (e.0, f e.0)) (edges_to job.plan a.task.vertex.0)

abbrev seat_for : Job → ℕ → AttemptId → ℕ → (ℕ → Records) → Stage → Seat
seat_for job p a t f Unknown = Vacant
seat_for job p a t f InQueue = Vacant
seat_for job p a t f (Waits q) = Gathers a (map (λ e. (e.0, f e.0)) (edges_to job.plan a.task.vertex.0))
seat_for job p a t f (Runs q) = option_map_or Out (option_map (order_for job t a p f) (slice_get job.plan.vertices a.task.vertex.0)) Vacant
seat_for job p a t f Ended = Vacant

seat_is : (job : Job) (past : Past) (p : ℕ) (a : AttemptId) (s : Stage) → seat_at_stage job past p a s ≡ seat_for job p a (task_count job.plan a.task.vertex.0 past) (λ n. gathered job a n past) s
seat_is job past p a Unknown = refl
seat_is job past p a InQueue = refl
seat_is job past p a (Waits q) = refl
seat_is job past p a (Runs q) = refl
seat_is job past p a Ended = refl

-- what the seat of an attempt goes by stays
pub record IsSame (job : Job) (past later : Past) (a : AttemptId) : Type 0 where
  pub stages : stage a later ≡ stage a past
  pub tasks : task_count job.plan a.task.vertex.0 later ≡ task_count job.plan a.task.vertex.0 past
  pub parts : (n : ℕ) → gathered job a n later ≡ gathered job a n past

stage_same : (job : Job) (past later : Past) (p : ℕ) (a : AttemptId) → IsSame job past later a → seat_at_stage job later p a (stage a later) ≡ seat_at_stage job past p a (stage a past)
stage_same job past later p a h =
    seat_is job later p a (stage a later)
    ∙ ap (seat_for job p a (task_count job.plan a.task.vertex.0 later) (λ n. gathered job a n later)) h.stages
    ∙ ap (λ t. seat_for job p a t (λ n. gathered job a n later) (stage a past)) h.tasks
    ∙ ap (λ (f : ℕ → Records). seat_for job p a (task_count job.plan a.task.vertex.0 past) f (stage a past)) (λ i n. h.parts n i)
    ∙ sym (seat_is job past p a (stage a past))

held_same : (job : Job) (past later : Past) (p : ℕ) (o : Option AttemptId) → ((a : AttemptId) → o ≡ Some a → IsSame job past later a) → seat_by job later p o ≡ seat_by job past p o
held_same job past later p None h = refl
held_same job past later p (Some a) h = stage_same job past later p a (h a refl)

pub seat_same : (job : Job) (past later : Past) (p : ℕ) → holder p later ≡ holder p past → ((a : AttemptId) → holder p past ≡ Some a → IsSame job past later a) → seat_view job later p ≡ seat_view job past p
seat_same job past later p same h = ap (seat_by job later p) same ∙ held_same job past later p (holder p past) h

-- ---- entries that concern no seat

abbrev pub Leaves : Entry → Type 0
Leaves (Placed _ _ _) = ⊥
Leaves (Fetched _ _ _ _) = ⊥
Leaves (Ordered _) = ⊥
Leaves (Succeeded _) = ⊥
Leaves (Failed _) = ⊥
Leaves (Killed _ _) = ⊥
Leaves (Stopped _) = ⊥
Leaves _ = ⊤

-- who holds a place is not the next attempt of a task
not_next : (g : Dag) (c : ConfValues) (past : Past) (q : ℕ) (b : AttemptId) (t : TaskId) → IsMade g c past → holder q past ≡ Some b → same_attempt (next_attempt past t) b ≡ false
not_next g c past q b t m h = by (same_attempt (next_attempt past t) b) refl where
  by : (x : Bool) → same_attempt (next_attempt past t) b ≡ x → x ≡ false
  by true s = absurd (fresh g c past m t (placed_known (stage (next_attempt past t) past)
      (subst (λ y. IsPlaced (stage y past)) (sym (same_attempt-true (next_attempt past t) b s)) (in_place (stage b past) q (held g c past m q b h)))))
  by false s = refl

leave_queued : (job : Job) (c : ConfValues) (past : Past) (b : AttemptId) (p : ℕ) → IsMade job.plan c past → b ≡ next_attempt past b.task → seat_view job (Queued b ∷ past) p ≡ seat_view job past p
leave_queued job c past b p m new =
    seat_same job past (Queued b ∷ past) p refl
    (λ a h. record { stages = ap (λ x. if x then InQueue else stage a past) (subst (λ y. same_attempt y a ≡ false) (sym new) (not_next job.plan c past p a b.task m h)); tasks = refl; parts = λ n. refl })

holder_configured : (g : Dag) (c : ConfValues) (past : Past) (p : ℕ) (a : AttemptId) → IsMade g c past → holder p past ≡ Some a → is_configured a.task.vertex.0 past ≡ true
holder_configured g c past p a m h = alive_configured g c past a m (placed_alive (stage a past) (in_place (stage a past) p (held g c past m p a h)))

leave_configured : (job : Job) (c : ConfValues) (past : Past) (v : ℕ) (s : Config) (x : Entry) (p : ℕ) → IsMade job.plan c past → config v past ≡ None → ((u : ℕ) → config u (x ∷ past) ≡ (if v == u then Some s else config u past))
    → holder p (x ∷ past) ≡ holder p past → ((a : AttemptId) → stage a (x ∷ past) ≡ stage a past) → ((a : AttemptId) (n : ℕ) → gathered job a n (x ∷ past) ≡ gathered job a n past)
    → seat_view job (x ∷ past) p ≡ seat_view job past p
leave_configured job c past v s x p m none sets holds stands parts =
    seat_same job past (x ∷ past) p holds (λ a h. record {
      stages = stands a;
      tasks = ap (λ o. (unwrap_or o (shape (planned job.plan a.task.vertex.0) 1)).tasks) (sets a.task.vertex.0 ∙ config_stays past v a.task.vertex.0 s none (holder_configured job.plan c past p a m h));
      parts = parts a;
    })

leave_start : (job : Job) (past : Past) (x : Entry) (p : ℕ) → IsTrue (is_at_start past) → holder p (x ∷ past) ≡ holder p past → seat_view job (x ∷ past) p ≡ seat_view job past p
leave_start job past x p at same = seat_same job past (x ∷ past) p same (λ a h. absurd (nobody a (sym (none_held_at_start past p at) ∙ h))) where
  nobody : (a : AttemptId) → None ≡ Some a → ⊥
  nobody a e = cc

plain_seat : (job : Job) (past : Past) (x : Entry) (p : ℕ) → holder p (x ∷ past) ≡ holder p past → ((a : AttemptId) → stage a (x ∷ past) ≡ stage a past)
    → ((a : AttemptId) → task_count job.plan a.task.vertex.0 (x ∷ past) ≡ task_count job.plan a.task.vertex.0 past) → ((a : AttemptId) (n : ℕ) → gathered job a n (x ∷ past) ≡ gathered job a n past)
    → seat_view job (x ∷ past) p ≡ seat_view job past p
plain_seat job past x p holds stays tasks parts = seat_same job past (x ∷ past) p holds (λ a k. record { stages = stays a; tasks = tasks a; parts = parts a })

pub leave_seat : (job : Job) (c : ConfValues) (past : Past) (e : Entry) → IsMade job.plan c past → MayFollow job.plan c past e → Leaves e → (p : ℕ) → seat_view job (e ∷ past) p ≡ seat_view job past p
leave_seat job c past (Opened e) m f h p = leave_start job past (Opened e) p f.0 refl
leave_seat job c past Over m f h p = leave_start job past Over p f refl
leave_seat job c past (Stands v t b) m f h p = leave_configured job c past v.0 (shape t b) (Stands v t b) p m f.0 (λ u. refl) refl (λ a. refl) (λ a n. refl)
leave_seat job c past (Configured v t b) m f h p = leave_configured job c past v.0 (shape t b) (Configured v t b) p m f.0 (λ u. refl) refl (λ a. refl) (λ a n. refl)
leave_seat job c past (Queued b) m f h p = leave_queued job c past b p m f.2
leave_seat job c past (Placed _ _ _) m f h p = absurd h
leave_seat job c past (Fetched _ _ _ _) m f h p = absurd h
leave_seat job c past (Ordered _) m f h p = absurd h
leave_seat job c past (Succeeded _) m f h p = absurd h
leave_seat job c past (Failed _) m f h p = absurd h
leave_seat job c past (Killed _ _) m f h p = absurd h
leave_seat job c past (Stopped _) m f h p = absurd h
leave_seat job c past (Carried x y) m f h p = plain_seat job past (Carried x y) p refl (λ a. refl) (λ a. refl) (λ a n. refl)
leave_seat job c past (Kept x) m f h p = plain_seat job past (Kept x) p refl (λ a. refl) (λ a. refl) (λ a n. refl)
leave_seat job c past (ReadError x y z u) m f h p = plain_seat job past (ReadError x y z u) p refl (λ a. refl) (λ a. refl) (λ a n. refl)
leave_seat job c past (InputFailed x y z u) m f h p = plain_seat job past (InputFailed x y z u) p refl (λ a. refl) (λ a. refl) (λ a n. refl)
leave_seat job c past (Made x y z) m f h p = plain_seat job past (Made x y z) p refl (λ a. refl) (λ a. refl) (λ a n. refl)
leave_seat job c past (NodeLost x y) m f h p = plain_seat job past (NodeLost x y) p refl (λ a. refl) (λ a. refl) (λ a n. refl)
leave_seat job c past (OutputLost x) m f h p = plain_seat job past (OutputLost x) p refl (λ a. refl) (λ a. refl) (λ a n. refl)
leave_seat job c past (Rerun x) m f h p = plain_seat job past (Rerun x) p refl (λ a. refl) (λ a. refl) (λ a n. refl)
leave_seat job c past (Committing x) m f h p = plain_seat job past (Committing x) p refl (λ a. refl) (λ a. refl) (λ a n. refl)
leave_seat job c past (Ready x) m f h p = plain_seat job past (Ready x) p refl (λ a. refl) (λ a. refl) (λ a n. refl)
leave_seat job c past (Asked x) m f h p = plain_seat job past (Asked x) p refl (λ a. refl) (λ a. refl) (λ a n. refl)
leave_seat job c past (Settled x) m f h p = plain_seat job past (Settled x) p refl (λ a. refl) (λ a. refl) (λ a n. refl)
leave_seat job c past (Published x) m f h p = plain_seat job past (Published x) p refl (λ a. refl) (λ a. refl) (λ a n. refl)
leave_seat job c past CommitStarted m f h p = plain_seat job past (CommitStarted) p refl (λ a. refl) (λ a. refl) (λ a n. refl)
leave_seat job c past Finished m f h p = plain_seat job past (Finished) p refl (λ a. refl) (λ a. refl) (λ a n. refl)
leave_seat job c past Purged m f h p = plain_seat job past (Purged) p refl (λ a. refl) (λ a. refl) (λ a n. refl)

-- an answer of the store concerns no seat
pub answer_seat : (job : Job) (past : Past) (v : VertexId) (there : Bool) (p : ℕ) → seat_view job (answered past v there) p ≡ seat_view job past p
answer_seat job past v true p = plain_seat job past (Settled v) p refl (λ a. refl) (λ a. refl) (λ a n. refl)
answer_seat job past v false p = plain_seat job past (Asked v) p refl (λ a. refl) (λ a. refl) (λ a n. refl)

-- ---- who holds another place is another attempt

pub apart : (g : Dag) (c : ConfValues) (past : Past) (p q : ℕ) (a b : AttemptId) → IsMade g c past → (place_in (stage a past) ≡ Some q → ⊥) → holder q past ≡ Some b → same_attempt a b ≡ false
apart g c past p q a b m elsewhere h = by (same_attempt a b) refl where
  by : (x : Bool) → same_attempt a b ≡ x → x ≡ false
  by true s = absurd (elsewhere (subst (λ y. place_in (stage y past) ≡ Some q) (sym (same_attempt-true a b s)) (held g c past m q b h)))
  by false s = refl

pub not_at : (s : Stage) (p q : ℕ) → place_in s ≡ Some p → (p == q) ≡ false → place_in s ≡ Some q → ⊥
not_at s p q h e k = (let same : p ≡ q = cc in clash (eq-eqb p q same)) where
  clash : (p == q) ≡ true → ⊥
  clash t = cc

queued_at : (s : Stage) (q : ℕ) → s ≡ InQueue → place_in s ≡ Some q → ⊥
queued_at s q e k = cc

-- ---- an attempt is seated

gathered_none : (job : Job) (past : Past) (a : AttemptId) (n : ℕ) → ((i : ℕ) → is_fetched a n i past ≡ false) → gathered job a n past ≡ []
gathered_none job [] a n h = refl
gathered_none job (Opened _ ∷ past) a n h = refl
gathered_none job (Over ∷ past) a n h = refl
gathered_none job (Stopped _ ∷ past) a n h = refl
gathered_none job (Fetched b d j w ∷ past) a n h = by (same_attempt b a) (d.0 == n) (h j) (gathered_none job past a n (λ i. was (same_attempt b a && ((d.0 == n) && (j == i))) (is_fetched a n i past) (h i))) where
  was : (x y : Bool) → (x || y) ≡ false → y ≡ false
  was true y e = cc
  was false y e = e

  old : (x y : Bool) → (j == j) ≡ true → ((true && (true && (j == j))) || y) ≡ false → x ≡ true → ⊥
  old x y t e k = cc

  by : (x y : Bool) → ((x && (y && (j == j))) || is_fetched a n j past) ≡ false → gathered job a n past ≡ [] → (if x && y then gathered job a n past ++ piece_over job.plan past n a.task.index j (made job w past) else gathered job a n past) ≡ []
  by true true e ih = absurd (old true (is_fetched a n j past) (eq-eqb j j refl) e refl)
  by true false e ih = ih
  by false y e ih = ih
gathered_none job (_ ∷ past) a n h = gathered_none job past a n h

pub seat_placed : (job : Job) (c : ConfValues) (past : Past) (a : AttemptId) (k : ContainerId) (p : ℕ) → IsMade job.plan c past → MayFollow job.plan c past (Placed a k p)
    → (q : ℕ) → seat_view job (Placed a k p ∷ past) q ≡ (if p == q then Gathers a (map (λ n. (n, [])) (map (λ e. e.0) (edges_to job.plan a.task.vertex.0))) else seat_view job past q)
seat_placed job c past a k p m f q = by (p == q) refl where
  none : (n : ℕ) → gathered job a n past ≡ []
  none n = gathered_none job past a n (λ i. queued_fetched job.plan c past m a n i f.0)

  parts : map {B = ℕ × Records} (λ e. (e.0, gathered job a e.0 past)) (edges_to job.plan a.task.vertex.0) ≡ map (λ n. (n, [])) (map (λ e. e.0) (edges_to job.plan a.task.vertex.0))
  parts = (λ i. map (λ e. (e.0, none e.0 i)) (edges_to job.plan a.task.vertex.0)) ∙ sym (map-map (λ n. (n, [])) (λ e. e.0) (edges_to job.plan a.task.vertex.0))

  by : (x : Bool) → (p == q) ≡ x → seat_by job (Placed a k p ∷ past) q (if x then Some a else holder q past) ≡ (if x then Gathers a (map (λ n. (n, [])) (map (λ e. e.0) (edges_to job.plan a.task.vertex.0))) else seat_by job past q (holder q past))
  by true e =
      ap (λ y. seat_at_stage job (Placed a k p ∷ past) q a (if y then Waits p else stage a past)) (same_attempt-refl a)
      ∙ ap (Gathers a) parts
  by false e = held_same job past (Placed a k p ∷ past) q (holder q past)
      (λ b h. record { stages = ap (λ x. if x then Waits p else stage b past) (apart job.plan c past p q a b m (queued_at (stage a past) q f.0) h); tasks = refl; parts = λ n. refl })

-- ---- a piece is gathered

abbrev part : ℕ → Records → ℕ × Records
part e rs = (e, rs)

joined : (n e : ℕ) (piece : ℕ → Records) (had : Records) → (if n == e then part e (had ++ piece e) else part e had) ≡ gathers_over n (piece n) (part e had)
joined n e piece had = by (n == e) (e == n) refl refl where
  at : (x y : Bool) → (n == e) ≡ x → (e == n) ≡ y → x ≡ y
  at x y h k = grind (arith, nat_tests)

  by : (x y : Bool) → (n == e) ≡ x → (e == n) ≡ y → (if x then part e (had ++ piece e) else part e had) ≡ (if y then part e (had ++ piece n) else part e had)
  by true true h k = ap (λ m. part e (had ++ piece m)) (sym (eqb-true n e h))
  by true false h k = let z : true ≡ false = at true false h k in cc
  by false true h k = let z : false ≡ true = at false true h k in cc
  by false false h k = refl

split_pair : (x : Bool) (e : ℕ) (rs ts : Records) → part e (if x then rs else ts) ≡ (if x then part e rs else part e ts)
split_pair true e rs ts = refl
split_pair false e rs ts = refl

pub seat_waits : (job : Job) (c : ConfValues) (past : Past) (a : AttemptId) (p : ℕ) → IsMade job.plan c past → stage a past ≡ Waits p → seat_view job past p ≡ Gathers a (map (λ e. (e.0, gathered job a e.0 past)) (edges_to job.plan a.task.vertex.0))
seat_waits job c past a p m waits =
    ap (seat_by job past p) (stands job.plan c past m p a (ap place_in waits)).0 ∙ ap (seat_at_stage job past p a) waits

pub seat_fetched : (job : Job) (c : ConfValues) (past : Past) (a : AttemptId) (d : EdgeId) (j : ℕ) (w : AttemptId) (p : ℕ) → IsMade job.plan c past → stage a past ≡ Waits p
    → (q : ℕ) → seat_view job (Fetched a d j w ∷ past) q ≡ (if p == q then gathering d.0 (piece_over job.plan past d.0 a.task.index j (made job w past)) (seat_view job past p) else seat_view job past q)
seat_fetched job c past a d j w p m waits q = by (p == q) refl where
  piece : ℕ → Records
  piece n = piece_over job.plan past n a.task.index j (made job w past)

  one : (e : Edge) → part e.0 (gathered job a e.0 (Fetched a d j w ∷ past)) ≡ gathers_over d.0 (piece_over job.plan past d.0 a.task.index j (made job w past)) (part e.0 (gathered job a e.0 past))
  one e =
      ap (λ x. part e.0 (if x && (d.0 == e.0) then gathered job a e.0 past ++ piece_over job.plan past e.0 a.task.index j (made job w past) else gathered job a e.0 past)) (same_attempt-refl a)
      ∙ split_pair (d.0 == e.0) e.0 (gathered job a e.0 past ++ piece_over job.plan past e.0 a.task.index j (made job w past)) (gathered job a e.0 past)
      ∙ joined d.0 e.0 (λ n. piece_over job.plan past n a.task.index j (made job w past)) (gathered job a e.0 past)

  parts : map {B = ℕ × Records} (λ e. (e.0, gathered job a e.0 (Fetched a d j w ∷ past))) (edges_to job.plan a.task.vertex.0)
      ≡ map (gathers_over d.0 (piece_over job.plan past d.0 a.task.index j (made job w past))) (map (λ e. (e.0, gathered job a e.0 past)) (edges_to job.plan a.task.vertex.0))
  parts = (λ i. map (λ e. one e i) (edges_to job.plan a.task.vertex.0))
      ∙ sym (map-map (gathers_over d.0 (piece_over job.plan past d.0 a.task.index j (made job w past))) (λ e. (e.0, gathered job a e.0 past)) (edges_to job.plan a.task.vertex.0))

  here : seat_view job (Fetched a d j w ∷ past) p ≡ gathering d.0 (piece_over job.plan past d.0 a.task.index j (made job w past)) (seat_view job past p)
  here =
      ap (seat_by job (Fetched a d j w ∷ past) p) (stands job.plan c past m p a (ap place_in waits)).0
      ∙ ap (seat_at_stage job (Fetched a d j w ∷ past) p a) waits
      ∙ ap (Gathers a) parts
      ∙ ap (gathering d.0 (piece_over job.plan past d.0 a.task.index j (made job w past))) (sym (seat_waits job c past a p m waits))

  by : (x : Bool) → (p == q) ≡ x → seat_view job (Fetched a d j w ∷ past) q ≡ (if x then gathering d.0 (piece_over job.plan past d.0 a.task.index j (made job w past)) (seat_view job past p) else seat_view job past q)
  by true e = ap (seat_view job (Fetched a d j w ∷ past)) (sym (eqb-true p q e)) ∙ here
  by false e = seat_same job past (Fetched a d j w ∷ past) q refl
      (λ b h. record {
        stages = refl;
        tasks = refl;
        parts = λ n. ap (λ x. if x && (d.0 == n) then gathered job b n past ++ piece_over job.plan past n b.task.index j (made job w past) else gathered job b n past) (apart job.plan c past p q a b m (not_at (stage a past) p q (ap place_in waits) e) h);
      })

-- ---- an order goes out

pub seat_ordered : (job : Job) (c : ConfValues) (past : Past) (a : AttemptId) (p : ℕ) (o : OrderParts) → IsMade job.plan c past → stage a past ≡ Waits p → order_view job past a p ≡ Some o
    → (q : ℕ) → seat_view job (Ordered a ∷ past) q ≡ (if p == q then Out o else seat_view job past q)
seat_ordered job c past a p o m waits is q = by (p == q) refl where
  here : seat_view job (Ordered a ∷ past) p ≡ Out o
  here =
      ap (seat_by job (Ordered a ∷ past) p) (stands job.plan c past m p a (ap place_in waits)).0
      ∙ ap (λ s. seat_at_stage job (Ordered a ∷ past) p a (sent (same_attempt a a) s)) waits
      ∙ ap (λ x. seat_at_stage job (Ordered a ∷ past) p a (sent x (Waits p))) (same_attempt-refl a)
      ∙ ap (λ x. option_map_or Out x Vacant) is

  by : (x : Bool) → (p == q) ≡ x → seat_view job (Ordered a ∷ past) q ≡ (if x then Out o else seat_view job past q)
  by true e = ap (seat_view job (Ordered a ∷ past)) (sym (eqb-true p q e)) ∙ here
  by false e = seat_same job past (Ordered a ∷ past) q refl
      (λ b h. record { stages = ap (λ x. sent x (stage b past)) (apart job.plan c past p q a b m (not_at (stage a past) p q (ap place_in waits) e) h); tasks = refl; parts = λ n. refl })

-- ---- an attempt leaves

left_seat : (job : Job) (c : ConfValues) (past later : Past) (a : AttemptId) (p : ℕ) → IsMade job.plan c past → place_in (stage a past) ≡ Some p → ((q : ℕ) → holder q later ≡ freed a (holder q past))
    → ((b : AttemptId) → same_attempt a b ≡ false → IsSame job past later b) → (q : ℕ) → seat_view job later q ≡ (if p == q then Vacant else seat_view job past q)
left_seat job c past later a p m at holds same q = by (p == q) refl where
  here : seat_view job later p ≡ Vacant
  here =
      ap (seat_by job later p) (holds p ∙ ap (freed a) (stands job.plan c past m p a at).0 ∙ ap (λ x. if x then None else Some a) (same_attempt-refl a))

  other : (p == q) ≡ false → (o : Option AttemptId) → holder q past ≡ o → seat_by job later q (freed a o) ≡ seat_by job past q o
  other e None h = refl
  other e (Some b) h =
      let differ = apart job.plan c past p q a b m (not_at (stage a past) p q at e) h in
      ap (λ x. seat_by job later q (if x then None else Some b)) differ ∙ stage_same job past later q b (same b differ)

  by : (x : Bool) → (p == q) ≡ x → seat_view job later q ≡ (if x then Vacant else seat_view job past q)
  by true e = ap (seat_view job later) (sym (eqb-true p q e)) ∙ here
  by false e = ap (seat_by job later q) (holds q) ∙ other e (holder q past) refl

ended_other : (a b : AttemptId) (s : Stage) → same_attempt a b ≡ false → (if same_attempt a b then Ended else s) ≡ s
ended_other a b s e = ap (λ x. if x then Ended else s) e

pub seat_succeeded : (job : Job) (c : ConfValues) (past : Past) (a : AttemptId) (p : ℕ) → IsMade job.plan c past → place_in (stage a past) ≡ Some p → (q : ℕ) → seat_view job (Succeeded a ∷ past) q ≡ (if p == q then Vacant else seat_view job past q)
seat_succeeded job c past a p m at = left_seat job c past (Succeeded a ∷ past) a p m at (λ q. refl) (λ b e. record { stages = ended_other a b (stage b past) e; tasks = refl; parts = λ n. refl })

pub seat_failed : (job : Job) (c : ConfValues) (past : Past) (a : AttemptId) (p : ℕ) → IsMade job.plan c past → place_in (stage a past) ≡ Some p → (q : ℕ) → seat_view job (Failed a ∷ past) q ≡ (if p == q then Vacant else seat_view job past q)
seat_failed job c past a p m at = left_seat job c past (Failed a ∷ past) a p m at (λ q. refl) (λ b e. record { stages = ended_other a b (stage b past) e; tasks = refl; parts = λ n. refl })

pub seat_killed : (job : Job) (c : ConfValues) (past : Past) (a : AttemptId) (cause : KillCause) (p : ℕ) → IsMade job.plan c past → place_in (stage a past) ≡ Some p
    → (q : ℕ) → seat_view job (Killed a cause ∷ past) q ≡ (if p == q then Vacant else seat_view job past q)
seat_killed job c past a cause p m at = left_seat job c past (Killed a cause ∷ past) a p m at (λ q. refl) (λ b e. record { stages = ended_other a b (stage b past) e; tasks = refl; parts = λ n. refl })

-- where nobody is, the seat is vacant
pub seat_nobody : (job : Job) (past : Past) (p : ℕ) → holder p past ≡ None → seat_view job past p ≡ Vacant
seat_nobody job past p h = ap (seat_by job past p) h
