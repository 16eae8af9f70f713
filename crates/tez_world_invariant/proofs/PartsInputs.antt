-- What an attempt fetches lies on the shelf of the winner behind the input, or nothing does.
use Rattle.std.specs.Prelude.{◌≡◌, ℕ, ◌<◌, ◌==◌, Bool, true, false, ◌&&◌, not, length, slice_get, slice_set, Option, Some, None, is_some, refl}
use Rattle.std.specs.Option.{option_map, option_map_or}
use Rattle.std.proofs.Common.{ap, sym, ◌∙◌, subst}
use Rattle.std.proofs.lemmas.Option.{same_Some}
use Rattle.std.proofs.lemmas.Bool.{eq-eqb}
use Rattle.tez_ids.specs.declared.AttemptId.{AttemptId}
use Rattle.tez_ids.specs.declared.TaskId.{TaskId}
use Rattle.tez_ids.specs.declared.EdgeId.{EdgeId}
use Rattle.tez_ids.specs.declared.NodeId.{NodeId}
use Rattle.tez_lists.specs.Numbers.{In}
use Rattle.tez_plan.specs.Dag.{Dag, edge, from}
use Rattle.tez_conf.specs.declared.values.ConfValues.{ConfValues}
use Rattle.tez_events.specs.declared.CoreEvent.TheVariants.{Fetch}
use Rattle.tez_meaning.specs.Jobs.{Job}
use Rattle.tez_history.specs.Shape.{Edge, edges_to, has_edge_out}
use Rattle.tez_history.specs.History.{Past, stage}
use Rattle.tez_history.specs.Derived.{is_waiting, is_on_shelf as is_shelved, table_over, input_count, source_of_input}
use Rattle.tez_history.specs.Steps.{is_running, winner_behind}
use Rattle.tez_laws.proofs.StepLaw.{both}
use Rattle.tez_laws.proofs.Tasks.{winner_task}
use Rattle.tez_progress.proofs.Members.{any_true}
use Rattle.tez_shelves.specs.Piece.{piece_at}
use Rattle.tez_shelves.specs.Shelf.{piece_of}
use Rattle.tez_contents.specs.Contents.{Records, made, piece_over}
use Rattle.tez_pool.specs.Table.{place_held}
use Rattle.tez_router_view.proofs.Sources.{edge_of, input-in, behind}
use Rattle.tez_router_view.proofs.Edges.{edge_in}
use Rattle.tez_router.specs.Table.{output_in, fetched_in}
use Rattle.tez_master_model.specs.Read.{is_on_shelf, source_in, piece_in, waits, is_running as is_running_in}
use Rattle.tez_master_model.specs.Enabled.{enabled_in}
use Rattle.tez_master_view.proofs.Fetching.{shelf_read, source_is, won_behind}
use Rattle.tez_master_view.proofs.Pieces.{output_told}
use Rattle.tez_inflight.specs.Seats.{SeatsState, seat_at, gathering}
use Rattle.tez_work_view.specs.Holdings.{Pieces, shelf_view}
use Rattle.tez_work_view.proofs.Seating.{seats_fetched, seats_missed}
use Rattle.tez_work_view.proofs.Shelving.{shelf_is}
use Rattle.tez_work_view.proofs.PieceLemmas.{fetch_finds}
use Rattle.tez_work_view.proofs.Fetched.{behind_below}
use Rattle.tez_work_view.proofs.OrderLemmas.{edge_at}
use Rattle.tez_assembly.proofs.FitLemmas.{edge_in as spec_in}
use Rattle.tez_world_invariant.specs.Keeping.{Parts, Holds, most_entries}
use Rattle.tez_world_invariant.specs.Step.{later, stepped, gathered_at, fetched_by, fetched}
use Rattle.tez_world_invariant.proofs.PartsKeep.{on_of, seats_keep}
use Rattle.tez_world_invariant.proofs.PartsPlaces.{waits_at, waits_placed}

fetch_waits : (job : Job) (c : ConfValues) (ps : Parts) (past : Past) (a : AttemptId) (e : EdgeId) (i : ℕ) → Holds job c ps past → enabled_in ps.master (Fetch a e i) ≡ true → is_waiting (stage a past) ≡ true
fetch_waits job c ps past a e i h taken = (both {x = is_waiting (stage a past)} (both {x = is_running past} (on_of job c ps past (Fetch a e i) h tt taken)).1).0

pub fetch_placed : (job : Job) (c : ConfValues) (ps : Parts) (past : Past) (a : AttemptId) (e : EdgeId) (i : ℕ) → Holds job c ps past → enabled_in ps.master (Fetch a e i) ≡ true → is_some (place_held ps.master.pool.places a) ≡ true
fetch_placed job c ps past a e i h taken = waits_placed job c ps past a h (fetch_waits job c ps past a e i h taken)

has_source : (job : Job) (c : ConfValues) (ps : Parts) (past : Past) (a : AttemptId) (e : EdgeId) (i : ℕ) → enabled_in ps.master (Fetch a e i) ≡ true → is_some (source_in ps.master a e.0 i) ≡ true
has_source job c ps past a e i taken =
    let k = both {x = is_running_in ps.master} taken in
    let l = both {x = waits ps.master a} k.1 in
    (both {x = not (fetched_in ps.master.router a e.0 i)} l.1).1

-- ---- the winner behind the input

pub source_told : (job : Job) (c : ConfValues) (ps : Parts) (past : Past) (a : AttemptId) (e i : ℕ) → Holds job c ps past → source_in ps.master a e i ≡ winner_behind job.plan past a e i
source_told job c ps past a e i h = ap (λ m. source_in m a e i) h.master ∙ source_is job.plan c past a e i h.well.made h.goes.plan

abbrev output : ℕ → AttemptId → AttemptId × ℕ
output k w = (w, k)

some_source : (k : ℕ) (o : Option AttemptId) (w : AttemptId) (n : ℕ) → option_map (output k) o ≡ Some (output n w) → (o ≡ Some w) × (k ≡ n)
some_source k None w n h = cc
some_source k (Some v) w n h = let same = same_Some (output k v) (output n w) h in (ap (λ (x : AttemptId × ℕ). Some x.0) same, ap (λ (x : AttemptId × ℕ). x.1) same)

-- the input over its edge
record IsPiece (g : Dag) (past : Past) (a : AttemptId) (n i : ℕ) (w : AttemptId) : Type 0 where
  at : Edge
  there : In at (edges_to g a.task.vertex.0)
  number : at.0 ≡ n
  won : winner_behind g past a at.0 i ≡ Some w
  from_it : w.task.vertex.0 ≡ from g at.1
  inside : i < input_count g past at.1 a.task.index

piece_behind : (g : Dag) (past : Past) (a : AttemptId) (n i : ℕ) (w : AttemptId) → winner_behind g past a n i ≡ Some w → IsPiece g past a n i w
piece_behind g past a n i w won =
    let r = behind g past a n i w won in
    let k = input-in g past a r.at r.there in
    let at : Edge = edge_of r.at in
    let over : winner_behind g past a at.0 i ≡ Some w = subst (λ m. winner_behind g past a m i ≡ Some w) (sym r.edge) won in
    record {
      at = at;
      there = k.edge;
      number = r.edge;
      won = over;
      from_it = ap (λ (t : TaskId). t.vertex.0) (winner_task past (source_of_input g past a r.at) w r.won);
      inside = behind_below g past a at i w k.edge over;
    }

leaves_it : (g : Dag) (past : Past) (a : AttemptId) (n i : ℕ) (w : AttemptId) → IsPiece g past a n i w → has_edge_out g w.task.vertex.0 ≡ true
leaves_it g past a n i w k =
    any_true (λ e. from g e == w.task.vertex.0) k.at.1 g.edges (spec_in g k.at (edge_in g a.task.vertex.0 k.at k.there)) (eq-eqb (from g k.at.1) w.task.vertex.0 (sym k.from_it))

-- ---- the shelf

on_shelf : (job : Job) (c : ConfValues) (ps : Parts) (past : Past) (n i : ℕ) (a w : AttemptId) → Holds job c ps past → IsPiece job.plan past a n i w → is_on_shelf ps.master w ≡ is_some (shelf_view job c past w)
on_shelf job c ps past n i a w h k =
    ap (λ m. is_on_shelf m w) h.master
    ∙ shelf_read job.plan c past w h.well.made h.goes.plan (won_behind job.plan past a k.at.0 i w k.won)
    ∙ shelf_is job c past w
    ∙ ap (λ b. b && is_some (shelf_view job c past w)) (leaves_it job.plan past a n i w k)

own_shelf : (job : Job) (c : ConfValues) (ps : Parts) (past : Past) (w : AttemptId) (e : EdgeId) (o : ℕ) → Holds job c ps past → piece_of ps.shelves w e o ≡ option_map_or (λ at. piece_at e o at.1) (shelf_view job c past w) None
own_shelf job c ps past w e o h = ap (λ x. option_map_or (λ (at : NodeId × Pieces). piece_at e o at.1) x None) (h.shelves w)

found_by : (job : Job) (c : ConfValues) (past : Past) (a : AttemptId) (e : EdgeId) (i : ℕ) (w : AttemptId) (k : IsPiece job.plan past a e.0 i w) (x : Option (NodeId × Pieces)) → shelf_view job c past w ≡ x → is_some x ≡ true
    → option_map_or (λ (at : NodeId × Pieces). piece_at e ((table_over job.plan past k.at.1).leads a.task.index i).1 at.1) x None ≡ Some (piece_over job.plan past e.0 a.task.index i (made job w past))
found_by job c past a e i w k None is some = cc
found_by job c past a e i w k (Some s) is some =
    let o = ((table_over job.plan past k.at.1).leads a.task.index i).1 in
    ap (λ n. piece_at (edge n) o s.1) (sym k.number)
    ∙ fetch_finds job c past a k.at i w s k.there k.won is
    ∙ ap (λ n. Some (piece_over job.plan past n a.task.index i (made job w past))) k.number

output_leads : (job : Job) (c : ConfValues) (ps : Parts) (past : Past) (a : AttemptId) (n i : ℕ) (w : AttemptId) → Holds job c ps past → (k : IsPiece job.plan past a n i w) → output_in ps.master.router a n i ≡ ((table_over job.plan past k.at.1).leads a.task.index i).1
output_leads job c ps past a n i w h k =
    let there : slice_get job.plan.edges n ≡ Some k.at.1 = ap (slice_get job.plan.edges) (sym k.number) ∙ edge_at job.plan k.at (edge_in job.plan a.task.vertex.0 k.at k.there) in
    ap (λ m. output_in m.router a n i) h.master ∙ output_told job.plan c past a n k.at.1 i there k.inside

pub piece_there : (job : Job) (c : ConfValues) (ps : Parts) (past : Past) (a : AttemptId) (e : EdgeId) (i : ℕ) (w : AttemptId) (o : ℕ) → Holds job c ps past → piece_in ps.master a e.0 i ≡ Some (w, o)
    → is_on_shelf ps.master w ≡ true → piece_of ps.shelves w e o ≡ Some (piece_over job.plan past e.0 a.task.index i (made job w past))
piece_there job c ps past a e i w o h is on =
    let r = some_source (output_in ps.master.router a e.0 i) (source_in ps.master a e.0 i) w o is in
    let k = piece_behind job.plan past a e.0 i w (sym (source_told job c ps past a e.0 i h) ∙ r.0) in
    own_shelf job c ps past w e o h
    ∙ ap (λ n. option_map_or (λ (at : NodeId × Pieces). piece_at e n at.1) (shelf_view job c past w) None) (sym r.1 ∙ output_leads job c ps past a e.0 i w h k)
    ∙ found_by job c past a e i w k (shelf_view job c past w) refl (sym (on_shelf job c ps past e.0 i a w h k) ∙ on)

nothing : (x : Option (NodeId × Pieces)) (e : EdgeId) (o : ℕ) → is_some x ≡ false → option_map_or (λ (at : NodeId × Pieces). piece_at e o at.1) x None ≡ None
nothing None e o h = refl
nothing (Some s) e o h = cc

pub piece_gone : (job : Job) (c : ConfValues) (ps : Parts) (past : Past) (a : AttemptId) (e : EdgeId) (i : ℕ) (w : AttemptId) (o : ℕ) → Holds job c ps past → source_in ps.master a e.0 i ≡ Some w
    → is_on_shelf ps.master w ≡ false → piece_of ps.shelves w e o ≡ None
piece_gone job c ps past a e i w o h is off =
    let k = piece_behind job.plan past a e.0 i w (sym (source_told job c ps past a e.0 i h) ∙ is) in
    own_shelf job c ps past w e o h ∙ nothing (shelf_view job c past w) e o (sym (on_shelf job c ps past e.0 i a w h k) ∙ off)

-- ---- the event

shelved_same : (job : Job) (c : ConfValues) (ps : Parts) (past : Past) (a : AttemptId) (e : EdgeId) (i : ℕ) (w : AttemptId) (b : Bool) → Holds job c ps past → source_in ps.master a e.0 i ≡ Some w → is_on_shelf ps.master w ≡ b
    → is_shelved job.plan c past w ≡ b
shelved_same job c ps past a e i w b h is on =
    sym (shelf_read job.plan c past w h.well.made h.goes.plan (won_behind job.plan past a e.0 i w (sym (source_told job c ps past a e.0 i h) ∙ is)))
    ∙ sym (ap (λ m. is_on_shelf m w) h.master)
    ∙ on

pub found_keeps : (job : Job) (c : ConfValues) (ps : Parts) (past : Past) (a : AttemptId) (e : EdgeId) (i : ℕ) (w : AttemptId) (o p : ℕ) (rs : Records) → Holds job c ps past → enabled_in ps.master (Fetch a e i) ≡ true
    → length (later job c past (Fetch a e i)) < most_entries → piece_in ps.master a e.0 i ≡ Some (w, o) → is_on_shelf ps.master w ≡ true → piece_of ps.shelves w e o ≡ Some rs → place_held ps.master.pool.places a ≡ Some p
    → Holds job c (stepped ps (Fetch a e i) (slice_set ps.seats p (gathering e.0 rs (seat_at ps.seats p))) ps.shelves) (later job c past (Fetch a e i))
found_keeps job c ps past a e i w o p rs h taken short is on has at =
    let piece = piece_over job.plan past e.0 a.task.index i (made job w past) in
    let r = some_source (output_in ps.master.router a e.0 i) (source_in ps.master a e.0 i) w o is in
    let same : rs ≡ piece = same_Some rs piece (sym has ∙ piece_there job c ps past a e i w o h is on) in
    seats_keep job c ps past (Fetch a e i) (slice_set ps.seats p (gathering e.0 rs (seat_at ps.seats p))) tt tt h taken tt short
    (ap (λ x. slice_set ps.seats p (gathering e.0 x (seat_at ps.seats p))) same
    ∙ ap (λ ds. slice_set ds p (gathering e.0 piece (seat_at ds p))) h.seats
    ∙ sym (seats_fetched job c past a e i p w h.well.made (waits_at job c ps past a p h (fetch_waits job c ps past a e i h taken) at) (sym (source_told job c ps past a e.0 i h) ∙ r.0) (shelved_same job c ps past a e i w true h r.0 on)))

pub missed_keeps : (job : Job) (c : ConfValues) (ps : Parts) (past : Past) (a : AttemptId) (e : EdgeId) (i : ℕ) (w : AttemptId) → Holds job c ps past → enabled_in ps.master (Fetch a e i) ≡ true
    → length (later job c past (Fetch a e i)) < most_entries → source_in ps.master a e.0 i ≡ Some w → is_on_shelf ps.master w ≡ false
    → Holds job c (stepped ps (Fetch a e i) ps.seats ps.shelves) (later job c past (Fetch a e i))
missed_keeps job c ps past a e i w h taken short is off =
    seats_keep job c ps past (Fetch a e i) ps.seats tt tt h taken tt short
    (h.seats ∙ sym (seats_missed job c past a e i w h.well.made (on_of job c ps past (Fetch a e i) h tt taken) (sym (source_told job c ps past a e.0 i h) ∙ is) (shelved_same job c ps past a e i w false h is off)))

-- both together, as the seats are changed
some_piece : (k : ℕ) (o : Option AttemptId) → option_map (output k) o ≡ None → is_some o ≡ true → ⊥
some_piece k None is some = cc
some_piece k (Some w) is some = cc

seats_at : (s : SeatsState) (n : ℕ) (o : Option ℕ) (rs : Records) (p : ℕ) → o ≡ Some p → (gathered_at s o n (Some rs)).seats ≡ slice_set s.seats p (gathering n rs (seat_at s.seats p))
seats_at s n o rs p is = ap (λ x. (gathered_at s x n (Some rs)).seats) is

seats_none : (s : SeatsState) (n : ℕ) (o : Option ℕ) → (gathered_at s o n None).seats ≡ s.seats
seats_none s n None = refl
seats_none s n (Some p) = refl

pub fetch_keeps : (job : Job) (c : ConfValues) (ps : Parts) (past : Past) (a : AttemptId) (e : EdgeId) (i : ℕ) (s : SeatsState) → Holds job c ps past → enabled_in ps.master (Fetch a e i) ≡ true → length (later job c past (Fetch a e i)) < most_entries
    → s.seats ≡ ps.seats → Holds job c (stepped ps (Fetch a e i) (fetched ps.master ps.shelves s a e.0 i).seats ps.shelves) (later job c past (Fetch a e i))
fetch_keeps job c ps past a e i s h taken short same = by (piece_in ps.master a e.0 i) refl where
  found : (w : AttemptId) (o p : ℕ) → piece_in ps.master a e.0 i ≡ Some (w, o) → is_on_shelf ps.master w ≡ true → place_held ps.master.pool.places a ≡ Some p
      → Holds job c (stepped ps (Fetch a e i) (gathered_at s (place_held ps.master.pool.places a) e.0 (piece_of ps.shelves w e o)).seats ps.shelves) (later job c past (Fetch a e i))
  found w o p is on at =
      let rs = piece_over job.plan past e.0 a.task.index i (made job w past) in
      let has = piece_there job c ps past a e i w o h is on in
      subst (λ ds. Holds job c (stepped ps (Fetch a e i) ds ps.shelves) (later job c past (Fetch a e i)))
      (sym (ap (λ x. (gathered_at s (place_held ps.master.pool.places a) e.0 x).seats) has ∙ seats_at s e.0 (place_held ps.master.pool.places a) rs p at ∙ ap (λ ds. slice_set ds p (gathering e.0 rs (seat_at ds p))) same))
      (found_keeps job c ps past a e i w o p rs h taken short is on has at)

  placed : (w : AttemptId) (o : ℕ) (x : Option ℕ) → place_held ps.master.pool.places a ≡ x → is_some x ≡ true → piece_in ps.master a e.0 i ≡ Some (w, o) → is_on_shelf ps.master w ≡ true
      → Holds job c (stepped ps (Fetch a e i) (gathered_at s (place_held ps.master.pool.places a) e.0 (piece_of ps.shelves w e o)).seats ps.shelves) (later job c past (Fetch a e i))
  placed w o None at some is on = cc
  placed w o (Some p) at some is on = found w o p is on at

  locations : (w : AttemptId) (o : ℕ) (b : Bool) → is_on_shelf ps.master w ≡ b → piece_in ps.master a e.0 i ≡ Some (w, o)
      → Holds job c (stepped ps (Fetch a e i) (gathered_at s (place_held ps.master.pool.places a) e.0 (piece_of ps.shelves w e o)).seats ps.shelves) (later job c past (Fetch a e i))
  locations w o true on is = placed w o (place_held ps.master.pool.places a) refl (fetch_placed job c ps past a e i h taken) is on
  locations w o false off is =
      let r = some_source (output_in ps.master.router a e.0 i) (source_in ps.master a e.0 i) w o is in
      let gone = piece_gone job c ps past a e i w o h r.0 off in
      subst (λ ds. Holds job c (stepped ps (Fetch a e i) ds ps.shelves) (later job c past (Fetch a e i)))
      (sym (ap (λ x. (gathered_at s (place_held ps.master.pool.places a) e.0 x).seats) gone ∙ seats_none s e.0 (place_held ps.master.pool.places a) ∙ same))
      (missed_keeps job c ps past a e i w h taken short r.0 off)

  by : (x : Option (AttemptId × ℕ)) → piece_in ps.master a e.0 i ≡ x → Holds job c (stepped ps (Fetch a e i) (fetched_by ps.master ps.shelves s a e.0 x).seats ps.shelves) (later job c past (Fetch a e i))
  by None is = absurd (some_piece (output_in ps.master.router a e.0 i) (source_in ps.master a e.0 i) is (has_source job c ps past a e i taken))
  by (Some w) is = locations w.0 w.1 (is_on_shelf ps.master w.0) refl is
