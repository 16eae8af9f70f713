-- A schedule that changes has as many planned tasks as before.
use Rattle.std.specs.Prelude.{◌≡◌, ℕ, zero, suc, ◌==◌, Bool, true, false, if◌then◌else◌, List, [], ◌∷◌, map, slice_get, slice_set, Option, Some, None, refl}
use Rattle.std.specs.Option.{option_map_or}
use Rattle.std.proofs.Common.{ap, sym, ◌∙◌}
use Rattle.std.proofs.lemmas.Option.{same_Some}
use Rattle.tez_ids.specs.declared.TaskId.{TaskId}
use Rattle.tez_schedule.specs.State.{VertexState}
use Rattle.tez_schedule.specs.Kept.{layout}
use Rattle.tez_schedule.specs.Table.{changed_at, won_with, fed_with, with_winner}

pub layout_changed : (vs : List VertexState) (v : ℕ) (change : VertexState → VertexState) → ((x : VertexState) → layout (change x) ≡ layout x) → map layout (changed_at vs v change) ≡ map layout vs
layout_changed vs v change same = at (slice_get vs v) refl where
  here : (xs : List VertexState) (i : ℕ) (x : VertexState) → slice_get xs i ≡ Some x → map layout (slice_set xs i (change x)) ≡ map layout xs
  here [] i x e = refl
  here (y ∷ ys) zero x e = ap (λ l. l ∷ map layout ys) (same x ∙ ap layout (same_Some x y (sym e)))
  here (y ∷ ys) (suc i) x e = ap (λ ls. layout y ∷ ls) (here ys i x e)

  at : (o : Option VertexState) → slice_get vs v ≡ o → map layout (option_map_or (λ x. slice_set vs v (change x)) o vs) ≡ map layout vs
  at None e = refl
  at (Some x) e = here vs v x e

layout_map : (vs : List VertexState) (change : VertexState → VertexState) → ((x : VertexState) → layout (change x) ≡ layout x) → map layout (map change vs) ≡ map layout vs
layout_map [] change same = refl
layout_map (x ∷ vs) change same = let here = same x in let rest = layout_map vs change same in cc

layout_fed : (v i : ℕ) (has : Bool) (x : VertexState) → layout (fed_with v i has x) ≡ layout x
layout_fed v i has x = by (option_map_or (λ u. u.0 == v) x.feeder false) where
  by : (b : Bool) → layout (if b then record x { fed = slice_set x.fed i has } else x) ≡ layout x
  by true = refl
  by false = refl

pub layout_winner : (vs : List VertexState) (t : TaskId) (has : Bool) → map layout (with_winner vs t has) ≡ map layout vs
layout_winner vs t has =
    layout_map (changed_at vs t.vertex.0 (won_with t.index has)) (fed_with t.vertex.0 t.index has) (layout_fed t.vertex.0 t.index has)
    ∙ layout_changed vs t.vertex.0 (won_with t.index has) (λ x. refl)
