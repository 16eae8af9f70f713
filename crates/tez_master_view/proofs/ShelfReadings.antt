-- What a master tells of pieces and of flags is what the history says.
use Rattle.std.specs.Prelude.{◌≡◌, ℕ, ◌+◌, ◌≤◌, ◌<◌, ◌==◌, Bool, false, ◌&&◌, if◌then◌else◌, List, [], ◌∷◌, map, length, Option, Some, None, is_some, unwrap_or, option_and_then, refl}
use Rattle.std.specs.List.{filter, filter_map, list_all, cons_option}
use Rattle.std.specs.Option.{option_map_or}
use Rattle.std.proofs.Common.{ap, sym, ◌∙◌, subst, arith, inl, inr}
use Rattle.tez_ids.specs.declared.TaskId.{TaskId}
use Rattle.tez_ids.specs.declared.AttemptId.{AttemptId}
use Rattle.tez_ids.specs.Same.{task}
use Rattle.tez_lists.specs.Numbers.{In}
use Rattle.tez_lists.proofs.Tables.{cell_get}
use Rattle.tez_lists.proofs.Flat.{in-filter-out}
use Rattle.tez_plan.specs.Dag.{Dag, tasks_of as planned}
use Rattle.tez_conf.specs.declared.values.ConfValues.{ConfValues}
use Rattle.tez_history.specs.Shape.{numbers_below, sinks, has_sink, has_edge_out}
use Rattle.tez_history.specs.History.{Past, Location, Nowhere, On, InQuestion, location, winner}
use Rattle.tez_history.specs.Derived.{is_configured, task_count, tasks, is_stored, is_on_slot as is_on_slot_at, is_on_shelf as is_on_shelf_at, is_on_node}
use Rattle.tez_history.specs.Steps.{is_first_without, is_winner_on_shelf}
use Rattle.tez_history.specs.Follows.{IsMade}
use Rattle.tez_laws.proofs.StepLaw.{both, below}
use Rattle.tez_laws.proofs.Tasks.{winner_task}
use Rattle.tez_master_model.proofs.Numbers.{get_below}
use Rattle.tez_vertex_view.proofs.Telling.{winner_there}
use Rattle.tez_router_view.specs.View.{FitsPlan}
use Rattle.tez_router_view.specs.Events.{winners_on}
use Rattle.tez_router_view.proofs.Lists.{filter-same}
use Rattle.tez_router_view.proofs.Ordering.{in-numbers}
use Rattle.tez_router_view.proofs.Winners.{won_vertex}
use Rattle.tez_master_model.specs.Read.{location_in, is_on_shelf, is_on_slot, winner_in, lost_in, flag}
use Rattle.tez_master_model.specs.Enabled.{is_lost}
use Rattle.tez_master_view.specs.View.{slot_by, location_view, master_view}
use Rattle.tez_master_view.proofs.TaskReadings.{winner_read, winners_read}

-- ---- where the pieces of a winner lie

pub location_read : (g : Dag) (c : ConfValues) (past : Past) (w : AttemptId) → IsMade g c past → FitsPlan g past → winner w.task past ≡ Some w → location_in (master_view g c past) w.task ≡ slot_by (location c w past)
location_read g c past w m fits won =
    let t = w.task in
    let is = winner_there g c past t w m won in
    let low : t.index < task_count g t.vertex.0 past = below t.index (task_count g t.vertex.0 past) (both {x = is_configured t.vertex.0 past} is).1 in
    let most : task_count g t.vertex.0 past ≤ planned g t.vertex.0 = fits t.vertex.0 in
    ap (λ o. unwrap_or o None) (cell_get (λ v i. location_view c past (task v i)) (planned g) (length g.vertices) t.vertex.0 t.index (won_vertex g c past m t w won) (omega arith))
    ∙ ap (option_and_then (λ x. slot_by (location c x past))) won

some_slot : (l : Location) → is_some (slot_by l) ≡ is_stored l
some_slot Nowhere = refl
some_slot (On slot) = refl
some_slot (InQuestion slot) = refl

same_slot : (slot : ℕ) (l : Location) → option_map_or (λ s. s == slot) (slot_by l) false ≡ is_on_slot_at slot l
same_slot slot Nowhere = refl
same_slot slot (On s) = refl
same_slot slot (InQuestion s) = refl

pub shelf_read : (g : Dag) (c : ConfValues) (past : Past) (w : AttemptId) → IsMade g c past → FitsPlan g past → winner w.task past ≡ Some w → is_on_shelf (master_view g c past) w ≡ is_on_shelf_at g c past w
shelf_read g c past w m fits won = ap (λ o. has_edge_out g w.task.vertex.0 && is_some o) (location_read g c past w m fits won) ∙ ap (λ b. has_edge_out g w.task.vertex.0 && b) (some_slot (location c w past))

slot_read : (g : Dag) (c : ConfValues) (past : Past) (slot : ℕ) (w : AttemptId) → IsMade g c past → FitsPlan g past → winner w.task past ≡ Some w → is_on_slot (master_view g c past) slot w ≡ is_on_node g c past slot w
slot_read g c past slot w m fits won =
    ap (λ o. has_edge_out g w.task.vertex.0 && option_map_or (λ s. s == slot) o false) (location_read g c past w m fits won) ∙ ap (λ b. has_edge_out g w.task.vertex.0 && b) (same_slot slot (location c w past))

-- a winner is the winner of its own task
pub won_own : (past : Past) (t : TaskId) (w : AttemptId) → winner t past ≡ Some w → winner w.task past ≡ Some w
won_own past t w won = subst (λ s. winner s past ≡ Some w) (sym (winner_task past t w won)) won

pub lost_read : (g : Dag) (c : ConfValues) (past : Past) (t : TaskId) → IsMade g c past → FitsPlan g past → is_lost (master_view g c past) (winner_in (master_view g c past) t) ≡ is_winner_on_shelf g c past (winner t past)
lost_read g c past t m fits = ap (is_lost (master_view g c past)) (winner_read g c past t m) ∙ by (winner t past) refl where
  by : (o : Option AttemptId) → winner t past ≡ o → is_lost (master_view g c past) o ≡ is_winner_on_shelf g c past o
  by None e = refl
  by (Some w) e = shelf_read g c past w m fits (won_own past t w e)

-- ---- the winners whose pieces lie on a node

pub in_won : (past : Past) (w : AttemptId) (ts : List TaskId) → In w (filter_map (λ t. winner t past) ts) → winner w.task past ≡ Some w
in_won past w [] i = absurd i
in_won past w (t ∷ ts) i = by (in_won past w ts) (winner t past) refl i where
  by : (In w (filter_map (λ s. winner s past) ts) → winner w.task past ≡ Some w) → (o : Option AttemptId) → winner t past ≡ o → In w (cons_option o (filter_map (λ s. winner s past) ts)) → winner w.task past ≡ Some w
  by rest None e k = rest k
  by rest (Some x) e (inl s) = won_own past t w (e ∙ ap Some (sym s))
  by rest (Some x) e (inr k) = rest k

pub in_lost : (g : Dag) (c : ConfValues) (past : Past) (slot : ℕ) (w : AttemptId) → In w (winners_on g c past slot) → winner w.task past ≡ Some w
in_lost g c past slot w i = in_won past w (tasks g past) (in-filter-out (is_on_node g c past slot) w (filter_map (λ t. winner t past) (tasks g past)) i)

pub all_lost_read : (g : Dag) (c : ConfValues) (past : Past) (slot : ℕ) → IsMade g c past → FitsPlan g past → lost_in (master_view g c past) slot ≡ winners_on g c past slot
all_lost_read g c past slot m fits =
    ap (filter (is_on_slot (master_view g c past) slot)) (winners_read g c past)
    ∙ filter-same (is_on_slot (master_view g c past) slot) (is_on_node g c past slot) (filter_map (λ t. winner t past) (tasks g past)) (λ w i. slot_read g c past slot w m fits (in_won past w (tasks g past) i))

-- ---- flags of the sinks

sink_below : (g : Dag) (w : ℕ) → In w (sinks g) → w < length g.vertices
sink_below g w i = let k = in-numbers 0 (length g.vertices) w (in-filter-out (has_sink g) w (numbers_below (length g.vertices)) i) in let b : w < 0 + length g.vertices = k.1 in omega arith

flag_read : (g : Dag) (f : ℕ → Bool) (w : ℕ) → In w (sinks g) → flag (map f (numbers_below (length g.vertices))) w ≡ f w
flag_read g f w i = ap (λ o. unwrap_or o false) (get_below f (length g.vertices) w (sink_below g w i))

first_same : (p q : ℕ → Bool) (v : ℕ) (ws : List ℕ) → ((w : ℕ) → In w ws → p w ≡ q w) → is_first_without p ws v ≡ is_first_without q ws v
first_same p q v [] same = refl
first_same p q v (w ∷ ws) same =
    ap (λ b. if b then is_first_without p ws v else (w == v)) (same w (inl refl)) ∙ ap (λ b. if q w then b else (w == v)) (first_same p q v ws (λ x i. same x (inr i)))

all_same : (p q : ℕ → Bool) (ws : List ℕ) → ((w : ℕ) → In w ws → p w ≡ q w) → list_all p ws ≡ list_all q ws
all_same p q [] same = refl
all_same p q (w ∷ ws) same = ap (λ b. b && list_all p ws) (same w (inl refl)) ∙ ap (λ b. q w && b) (all_same p q ws (λ x i. same x (inr i)))

pub first_read : (g : Dag) (f : ℕ → Bool) (v : ℕ) → is_first_without (flag (map f (numbers_below (length g.vertices)))) (sinks g) v ≡ is_first_without f (sinks g) v
first_read g f v = first_same (flag (map f (numbers_below (length g.vertices)))) f v (sinks g) (flag_read g f)

pub all_read : (g : Dag) (f : ℕ → Bool) → list_all (flag (map f (numbers_below (length g.vertices)))) (sinks g) ≡ list_all f (sinks g)
all_read g f = all_same (flag (map f (numbers_below (length g.vertices)))) f (sinks g) (flag_read g f)
