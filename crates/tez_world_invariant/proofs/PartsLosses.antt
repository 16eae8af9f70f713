-- A node or an output is lost.
use Rattle.std.specs.Prelude.{◌≡◌, ℕ, ◌<◌, ◌*◌, true, not, if◌then◌else◌, List, [], ◌∷◌, length, slice_get, Option, Some, None, is_some, refl}
use Rattle.std.specs.List.{fold}
use Rattle.std.proofs.Common.{ap, sym, ◌∙◌}
use Rattle.std.proofs.lemmas.Option.{same_Some}
use Rattle.tez_ids.specs.declared.AttemptId.{AttemptId}
use Rattle.tez_ids.specs.declared.TaskId.{TaskId}
use Rattle.tez_ids.specs.declared.NodeId.{NodeId}
use Rattle.tez_ids.specs.Same.{same_attempt}
use Rattle.tez_lists.specs.Numbers.{numbers_from}
use Rattle.tez_conf.specs.declared.values.ConfValues.{ConfValues}
use Rattle.tez_events.specs.declared.CoreEvent.TheVariants.{LoseNode, LoseOutput}
use Rattle.tez_meaning.specs.Jobs.{Job}
use Rattle.tez_history.specs.History.{Past, winner, life, is_up}
use Rattle.tez_laws.proofs.StepLaw.{both, below}
use Rattle.tez_shelves.specs.Shelf.{shelf, kept_if, same_node}
use Rattle.tez_pool_view.proofs.Reading.{read_life}
use Rattle.tez_master_model.specs.State.{MasterState}
use Rattle.tez_master_model.specs.Read.{winner_in}
use Rattle.tez_master_model.specs.Enabled.{enabled_in, is_lost}
use Rattle.tez_master_view.proofs.TaskReadings.{winner_read}
use Rattle.tez_inflight.specs.Seats.{SeatsState, after_leave, after_leaves}
use Rattle.tez_work_view.specs.Holdings.{Pieces, node}
use Rattle.tez_work_view.specs.Events.{vacate}
use Rattle.tez_work_view.proofs.Seating.{seats_lost, seats_left}
use Rattle.tez_work_view.proofs.Shelving.{shelf_lost, shelf_output_lost}
use Rattle.tez_world_invariant.specs.Keeping.{Parts, Holds, most_entries}
use Rattle.tez_world_invariant.specs.Step.{later, stepped}
use Rattle.tez_world_invariant.proofs.PartsKeep.{on_of, plain_keeps}

left_seats : (s : SeatsState) (ps : List ℕ) → (after_leaves s ps).seats ≡ fold vacate s.seats ps
left_seats s [] = refl
left_seats s (p ∷ ps) = left_seats (after_leave s p) ps

life_told : (job : Job) (c : ConfValues) (ps : Parts) (past : Past) (slot n : ℕ) → Holds job c ps past → slot < c.nodes → slice_get ps.master.pool.lives slot ≡ Some n → n ≡ life slot past
life_told job c ps past slot n h low is = same_Some n (life slot past) (sym is ∙ ap (λ m. slice_get m.pool.lives slot) h.master ∙ read_life c past slot low)

pub node_low : (job : Job) (c : ConfValues) (ps : Parts) (past : Past) (slot : ℕ) → Holds job c ps past → enabled_in ps.master (LoseNode slot) ≡ true → slot < c.nodes
node_low job c ps past slot h taken = below slot c.nodes (both {x = is_up past} (on_of job c ps past (LoseNode slot) h tt taken)).1

pub node_keeps : (job : Job) (c : ConfValues) (ps : Parts) (past : Past) (slot n : ℕ) (s : SeatsState) (shelves : List (AttemptId × (NodeId × Pieces))) → Holds job c ps past → enabled_in ps.master (LoseNode slot) ≡ true
    → length (later job c past (LoseNode slot)) < most_entries → slice_get ps.master.pool.lives slot ≡ Some n → s.seats ≡ ps.seats
    → ((b : AttemptId) → shelf b shelves ≡ kept_if (λ x. not (same_node x.0 (node slot n))) (shelf b ps.shelves))
    → Holds job c (stepped ps (LoseNode slot) (after_leaves s (numbers_from (slot * c.per_node) c.per_node)).seats shelves) (later job c past (LoseNode slot))
node_keeps job c ps past slot n s shelves h taken short lives same lost =
    let on = on_of job c ps past (LoseNode slot) h tt taken in
    let here = numbers_from (slot * c.per_node) c.per_node in
    let is = life_told job c ps past slot n h (node_low job c ps past slot h taken) lives in
    plain_keeps job c ps past (LoseNode slot) (after_leaves s here).seats shelves tt h taken tt short
    (left_seats s here ∙ ap (λ ds. fold vacate ds here) (same ∙ h.seats) ∙ sym (seats_lost job c past slot h.well.made h.well.whole on))
    (λ b. lost b ∙ ap (λ k. kept_if (λ (x : NodeId × Pieces). not (same_node x.0 (node slot k))) (shelf b ps.shelves)) is
    ∙ ap (kept_if (λ (x : NodeId × Pieces). not (same_node x.0 (node slot (life slot past))))) (h.shelves b)
    ∙ sym (shelf_lost job c past slot b h.well.made on))

-- ---- an output

some_winner : (m : MasterState) (o : Option AttemptId) → is_lost m o ≡ true → is_some o ≡ true
some_winner m None h = cc
some_winner m (Some w) h = refl

pub output_won : (job : Job) (c : ConfValues) (ps : Parts) (past : Past) (t : TaskId) → Holds job c ps past → enabled_in ps.master (LoseOutput t) ≡ true → is_some (winner_in ps.master t) ≡ true
output_won job c ps past t h taken = some_winner ps.master (winner_in ps.master t) (both {x = ps.master.up} taken).1

pub output_keeps : (job : Job) (c : ConfValues) (ps : Parts) (past : Past) (t : TaskId) (w : AttemptId) (shelves : List (AttemptId × (NodeId × Pieces))) → Holds job c ps past → enabled_in ps.master (LoseOutput t) ≡ true
    → length (later job c past (LoseOutput t)) < most_entries → winner_in ps.master t ≡ Some w
    → ((b : AttemptId) → shelf b shelves ≡ (if same_attempt w b then None else shelf b ps.shelves))
    → Holds job c (stepped ps (LoseOutput t) ps.seats shelves) (later job c past (LoseOutput t))
output_keeps job c ps past t w shelves h taken short is lost =
    let on = on_of job c ps past (LoseOutput t) h tt taken in
    let won : winner t past ≡ Some w = sym (winner_read job.plan c past t h.well.made) ∙ sym (ap (λ m. winner_in m t) h.master) ∙ is in
    plain_keeps job c ps past (LoseOutput t) ps.seats shelves tt h taken tt short
    (h.seats ∙ sym (seats_left job c past (LoseOutput t) tt h.well.made on))
    (λ b. lost b ∙ ap (λ (x : Option (NodeId × Pieces)). if same_attempt w b then None else x) (h.shelves b) ∙ sym (shelf_output_lost job c past t w b won))
