-- The pieces of a value, for each edge out of a vertex.
--     piece_is        the piece of an output
--     bytes_are       the bytes of all pieces
use Rattle.std.proofs.Common.{◌≡◌, ◌∙◌, ℕ, ◌<◌, ◌==◌, Bool, true, false, List, [], ◌∷◌, length, map, Option, Some, refl, sym, ap, subst, eq-eqb}
use Rattle.std.specs.Prelude.{⊤}
use Rattle.std.specs.List.{enumerate_from}
use Rattle.tez_lists.specs.Numbers.{In}
use Rattle.tez_lists.proofs.Members.{in_filter, in_map}
use Rattle.tez_record.specs.Bag.{text}
use Rattle.tez_plan.specs.declared.parts.Movement.{Movement}
use Rattle.tez_plan.specs.declared.parts.Movement.TheVariants.{OneToOne, Broadcast, ScatterGather}
use Rattle.tez_plan.specs.Dag.{Dag, from, to, edge, tasks_of as planned}
use Rattle.tez_plan.specs.Faults.{IsValid}
use Rattle.tez_shares.specs.Shares.{HasTasks}
use Rattle.tez_shelves.specs.Piece.{piece_at, bytes_on}
use Rattle.tez_history.specs.Shape.{Edge}
use Rattle.tez_orders.specs.Orders.{Outs}
use Rattle.tez_orders.specs.Fit.{edges_differ}
use Rattle.tez_orders.specs.Outcomes.{pieces_of}
use Rattle.tez_orders.proofs.PieceLemmas.{whole_at, part_at, bytes_at}
use Rattle.tez_contents.specs.Contents.{piece}
use Rattle.tez_assembly.specs.Order.{Records, cut_by, out_for, outs_for, edges_out}
use Rattle.tez_assembly.specs.Laws.{IsOutput}
use Rattle.tez_assembly.proofs.FitLemmas.{outs_differ, cut_has_parts}

out_there : (g : Dag) (v : ℕ) (e : Edge) → In e (enumerate_from 0 g.edges) → from g e.1 ≡ v → In (out_for g e) (outs_for g v)
out_there g v e i is = in_map (out_for g) e (edges_out g v) (in_filter (λ d. from g d.1 == v) e (enumerate_from 0 g.edges) i (eq-eqb (from g e.1) v is))

by_movement : (outs : Outs) (m : Movement) (parts n o : ℕ) (value : Records) → edges_differ outs ≡ true → In (edge n, cut_by m parts) outs → IsOutput m parts o → piece_at (edge n) o (pieces_of outs value) ≡ Some (piece m parts o value)
by_movement outs OneToOne parts n o value differ there is = ap (λ k. piece_at (edge n) k (pieces_of outs value)) is ∙ whole_at outs value (edge n) differ there
by_movement outs Broadcast parts n o value differ there is = ap (λ k. piece_at (edge n) k (pieces_of outs value)) is ∙ whole_at outs value (edge n) differ there
by_movement outs (ScatterGather keys) parts n o value differ there is = part_at outs value (edge n) keys parts o differ there is

pub piece_is : (g : Dag) (v : ℕ) (e : Edge) (o : ℕ) (value : Records) → In e (enumerate_from 0 g.edges) → from g e.1 ≡ v → IsOutput e.1.movement (planned g (to g e.1)) o
    → piece_at (edge e.0) o (pieces_of (outs_for g v) value) ≡ Some (piece e.1.movement (planned g (to g e.1)) o value)
piece_is g v e o value i is output =
    by_movement (outs_for g v) e.1.movement (planned g (to g e.1)) e.0 o value (outs_differ g (λ d. from g d.1 == v) 0 g.edges) (out_there g v e i is) output

pub bytes_are : (g : Dag) (v : ℕ) (e : Edge) (value : Records) → IsValid g → HasTasks g → In e (enumerate_from 0 g.edges) → from g e.1 ≡ v → bytes_on (edge e.0) (pieces_of (outs_for g v) value) ≡ Some (length (text value))
bytes_are g v e value valid tasks i is =
    bytes_at (outs_for g v) value (edge e.0) (cut_by e.1.movement (planned g (to g e.1))) (outs_differ g (λ d. from g d.1 == v) 0 g.edges) (out_there g v e i is) (cut_has_parts g e valid tasks i)
