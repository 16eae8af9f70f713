-- The output behind an input is the one that the table of the edge leads to.
use Rattle.std.specs.Prelude.{◌≡◌, ℕ, zero, suc, ◌+◌, ◌<◌, nat_lt, if◌then◌else◌, List, [], ◌∷◌, map, slice_get, Some}
use Rattle.std.specs.List.{enumerate_from}
use Rattle.std.specs.Option.{option_map, option_map_or}
use Rattle.std.proofs.Common.{ap, sym, ◌∙◌, arith, subst, zero-add}
use Rattle.std.proofs.lemmas.Bool.Decides.{nat_tests}
use Rattle.tez_ids.specs.declared.AttemptId.{AttemptId}
use Rattle.tez_plan.specs.Dag.{Dag}
use Rattle.tez_plan.specs.declared.parts.EdgeSpec.{EdgeSpec}
use Rattle.tez_conf.specs.declared.values.ConfValues.{ConfValues}
use Rattle.tez_history.specs.Shape.{Edge}
use Rattle.tez_history.specs.History.{Past}
use Rattle.tez_history.specs.Derived.{table_over, input_count}
use Rattle.tez_history.specs.Steps.{winner_behind}
use Rattle.tez_router.specs.State.{table_for}
use Rattle.tez_router.specs.Table.{inputs_in, output_of, output_in}
use Rattle.tez_router_view.specs.View.{links_view, link_view, routing_view}
use Rattle.tez_router_view.proofs.Edges.{table_view, inputs_same}
use Rattle.tez_router_view.proofs.Reading.{source_read}
use Rattle.tez_master_model.specs.Read.{piece_in, source_in}
use Rattle.tez_master_view.specs.View.{master_view}
use Rattle.tez_master_view.specs.Laws.{Goes}

got_from : {Y : Type 0} (f : Edge → Y) (k : ℕ) (xs : List EdgeSpec) (n : ℕ) (e : EdgeSpec) → slice_get xs n ≡ Some e → slice_get (map f (enumerate_from k xs)) n ≡ Some (f (k + n, e))
got_from f k [] n e h = cc
got_from f k (x ∷ xs) zero e h =
    let same : x ≡ e = cc in
    let here : k ≡ k + 0 = omega arith in
    ap (λ y. Some (f (k, y))) same ∙ ap (λ j. Some (f (j, e))) here
got_from f k (x ∷ xs) (suc n) e h =
    let next : k + 1 + n ≡ k + suc n = omega arith in
    got_from f (k + 1) xs n e h ∙ ap (λ j. Some (f (j, e))) next

link_there : (g : Dag) (past : Past) (n : ℕ) (e : EdgeSpec) → slice_get g.edges n ≡ Some e → slice_get (links_view g past) n ≡ Some (link_view g past (n, e))
link_there g past n e h = got_from (link_view g past) 0 g.edges n e h ∙ ap (λ k. Some (link_view g past (k, e))) (zero-add n)

below_if : (i n x : ℕ) → i < n → (if nat_lt i n then x else 0) ≡ x
below_if i n x h = grind (arith, nat_tests)

output_same : (g : Dag) (past : Past) (d : Edge) (t i : ℕ) → i < input_count g past d.1 t → output_of (link_view g past d) t i ≡ ((table_over g past d.1).leads t i).1
output_same g past d t i inside =
    below_if i (inputs_in (routing_view g past d) t) ((table_for (routing_view g past d)).leads t i).1 (subst (λ n. i < n) (sym (inputs_same g past d t)) inside)
    ∙ ap (λ x. (x.leads t i).1) (table_view g past d)

pub output_told : (g : Dag) (c : ConfValues) (past : Past) (a : AttemptId) (n : ℕ) (e : EdgeSpec) (i : ℕ) → slice_get g.edges n ≡ Some e → i < input_count g past e a.task.index
    → output_in (master_view g c past).router a n i ≡ ((table_over g past e).leads a.task.index i).1
output_told g c past a n e i there inside =
    ap (λ o. option_map_or (λ l. output_of l a.task.index i) o 0) (link_there g past n e there) ∙ output_same g past (n, e) a.task.index i inside

abbrev piece : ℕ → AttemptId → AttemptId × ℕ
piece k w = (w, k)

pub piece_told : (g : Dag) (c : ConfValues) (past : Past) (a : AttemptId) (n : ℕ) (e : EdgeSpec) (i : ℕ) → Goes g c past → slice_get g.edges n ≡ Some e → i < input_count g past e a.task.index
    → piece_in (master_view g c past) a n i ≡ option_map (λ w. (w, ((table_over g past e).leads a.task.index i).1)) (winner_behind g past a n i)
piece_told g c past a n e i go there inside =
    ap (λ k. option_map (piece k) (source_in (master_view g c past) a n i)) (output_told g c past a n e i there inside)
    ∙ ap (option_map (piece ((table_over g past e).leads a.task.index i).1)) (sym (source_read g c past go.sound.made go.plan a n i))
