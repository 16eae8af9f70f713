-- The first of numbers that passes a test, and what a schedule keeps.
use Rattle.std.specs.Prelude.{◌≡◌, ℕ, zero, suc, ◌+◌, ◌<◌, ◌≤◌, Bool, true, false, if◌then◌else◌, List, [], ◌∷◌, ◌++◌, map, length, slice_get, slice_set, take, drop, Option, Some, None, refl}
use Rattle.std.specs.List.{find}
use Rattle.std.specs.Option.{option_map_or}
use Rattle.std.proofs.Common.{ap, sym, ◌∙◌, arith, subst, get_or, set, add-zero, zero-add}
use Rattle.std.proofs.lemmas.List.{length-map}
use Rattle.std.proofs.lemmas.Option.{same_Some}
use Rattle.std.specs.Prelude.{◌==◌}
use Rattle.tez_ids.specs.declared.TaskId.{TaskId}
use Rattle.tez_ids.specs.declared.EdgeId.{EdgeId}
use Rattle.tez_vman.specs.declared.seen.Config.{Config}
use Rattle.tez_lists.specs.Numbers.{numbers_from}
use Rattle.tez_lists.proofs.Tables.{whole, length-each}
use Rattle.tez_schedule.specs.State.{ScheduleState, VertexState, EdgeState}
use Rattle.tez_schedule.specs.Kept.{layout, IsKept, AreLaidOut}
use Rattle.tez_schedule.specs.Table.{changed_at, configured_with, scheduled_with, won_with, fed_with, with_winner, with_made, made_with}

pub read : {X : Type 0} (xs : List X) (i : ℕ) (x : X) → i < length xs → x ≡ get_or xs i x → slice_get xs i ≡ Some x
read [] i x l e = absurd (omega arith)
read (y ∷ ys) zero x l e = ap Some (sym e)
read (y ∷ ys) (suc i) x l e = read ys i x (omega arith) e

pub past : {X : Type 0} (xs : List X) (i : ℕ) → length xs ≤ i → slice_get xs i ≡ None
past [] i l = refl
past (y ∷ ys) zero l = absurd (omega arith)
past (y ∷ ys) (suc i) l = past ys i (omega arith)

-- ---- the first number

none_from : (p : ℕ → Bool) (a i : ℕ) → find p (numbers_from a i) ≡ None → p (a + i) ≡ false → find p (numbers_from a (suc i)) ≡ None
none_from p a zero none fails = ap (λ b. if b then Some a else None) (ap p (sym (add-zero a)) ∙ fails)
none_from p a (suc i) none fails = by (p a) none (λ n. none_from p (suc a) i n (ap p (omega arith) ∙ fails)) where
  by : (b : Bool) → (if b then Some a else find p (numbers_from (suc a) i)) ≡ None → (find p (numbers_from (suc a) i) ≡ None → find p (numbers_from (suc a) (suc i)) ≡ None)
      → (if b then Some a else find p (numbers_from (suc a) (suc i))) ≡ None
  by true n rest = cc
  by false n rest = rest n

pub none_more : (p : ℕ → Bool) (i : ℕ) → find p (numbers_from 0 i) ≡ None → p i ≡ false → find p (numbers_from 0 (i + 1)) ≡ None
none_more p i none fails = let e : i + 1 ≡ suc i = omega arith in ap (λ k. find p (numbers_from 0 k)) e ∙ none_from p 0 i none (ap p (zero-add i) ∙ fails)

found_from : (p : ℕ → Bool) (a i n : ℕ) → i < n → find p (numbers_from a i) ≡ None → p (a + i) ≡ true → find p (numbers_from a n) ≡ Some (a + i)
found_from p a i zero l none passes = absurd (omega arith)
found_from p a zero (suc n) l none passes = ap (λ b. if b then Some a else find p (numbers_from (suc a) n)) (ap p (sym (add-zero a)) ∙ passes) ∙ ap Some (sym (add-zero a))
found_from p a (suc i) (suc n) l none passes = by (p a) none (λ e. found_from p (suc a) i n (omega arith) e (ap p (omega arith) ∙ passes)) where
  by : (b : Bool) → (if b then Some a else find p (numbers_from (suc a) i)) ≡ None → (find p (numbers_from (suc a) i) ≡ None → find p (numbers_from (suc a) n) ≡ Some (suc a + i))
      → (if b then Some a else find p (numbers_from (suc a) n)) ≡ Some (a + suc i)
  by true e rest = cc
  by false e rest = rest e ∙ ap Some (omega arith)

pub found_first : (p : ℕ → Bool) (i n : ℕ) → i < n → find p (numbers_from 0 i) ≡ None → p i ≡ true → find p (numbers_from 0 n) ≡ Some i
found_first p i n l none passes = found_from p 0 i n l none (ap p (zero-add i) ∙ passes) ∙ ap Some (zero-add i)

-- ---- what is kept

layout_changed : (vs : List VertexState) (v : ℕ) (change : VertexState → VertexState) → ((x : VertexState) → layout (change x) ≡ layout x) → map layout (changed_at vs v change) ≡ map layout vs
layout_changed vs v change same = at (slice_get vs v) refl where
  here : (xs : List VertexState) (i : ℕ) (x : VertexState) → slice_get xs i ≡ Some x → map layout (set xs i (change x)) ≡ map layout xs
  here [] i x e = refl
  here (y ∷ ys) zero x e = ap (λ l. l ∷ map layout ys) (same x ∙ ap layout (same_Some x y (sym e)))
  here (y ∷ ys) (suc i) x e = ap (λ ls. layout y ∷ ls) (here ys i x e)

  at : (o : Option VertexState) → slice_get vs v ≡ o → map layout (option_map_or (λ x. slice_set vs v (change x)) o vs) ≡ map layout vs
  at None e = refl
  at (Some x) e = here vs v x e

layout_map : (vs : List VertexState) (change : VertexState → VertexState) → ((x : VertexState) → layout (change x) ≡ layout x) → map layout (map change vs) ≡ map layout vs
layout_map [] change same = refl
layout_map (x ∷ vs) change same = let here = same x in let rest = layout_map vs change same in cc

layout_fed : (v i : ℕ) (has : Bool) (x : VertexState) → layout (fed_with v i has x) ≡ layout x
layout_fed v i has x = by (option_map_or (λ u. u.0 == v) x.feeder false) where
  by : (b : Bool) → layout (if b then record x { fed = slice_set x.fed i has } else x) ≡ layout x
  by true = refl
  by false = refl

layout_winner : (vs : List VertexState) (t : TaskId) (has : Bool) → map layout (with_winner vs t has) ≡ map layout vs
layout_winner vs t has =
    layout_map (changed_at vs t.vertex.0 (won_with t.index has)) (fed_with t.vertex.0 t.index has) (layout_fed t.vertex.0 t.index has)
    ∙ layout_changed vs t.vertex.0 (won_with t.index has) (λ x. refl)

kept_after : (s : ScheduleState) (vs : List VertexState) (es : List EdgeState) (gs : List ℕ) → IsKept s → map layout vs ≡ map layout s.vertices → length es ≡ length s.edges → length gs ≡ length s.greatest
    → IsKept (record { vertices = vs; edges = es; greatest = gs })
kept_after s vs es gs h same edges greatest =
    let long : length vs ≡ length s.vertices = sym (length-map vs layout) ∙ ap length same ∙ length-map s.vertices layout in
    let few_vertices = h.few_vertices in
    let few_edges = h.few_edges in
    let sized = h.sized in
    record {
      few_vertices = omega arith;
      few_edges = omega arith;
      sized = omega arith;
      laid_out = subst AreLaidOut (sym same) h.laid_out;
    }

-- a list that was written through a slice
written : {X : Type 0} (n : ℕ) (ws xs : List X) → length ws ≡ length xs → n ≡ length xs → take n (ws ++ drop (length ws) xs) ≡ ws
written n ws xs h k = whole n ws xs (h ∙ sym k)

-- what stands in a list of which a slice was lent and written
abbrev pub lent : {X : Type 0} → ℕ → List X → List X → List X
lent n ws xs = take n (ws ++ drop (length ws) xs)

length_by : (vs ws : List VertexState) → map layout ws ≡ map layout vs → length ws ≡ length vs
length_by vs ws e = sym (length-map ws layout) ∙ ap length e ∙ length-map vs layout

pub scheduled_is_kept : (s : ScheduleState) (n : ℕ) (ws : List VertexState) (t : TaskId) → IsKept s → n ≡ length s.vertices → ws ≡ changed_at s.vertices t.vertex.0 (scheduled_with t.index)
    → IsKept (record { vertices = lent n ws s.vertices; edges = s.edges; greatest = s.greatest })
scheduled_is_kept s n ws t h k e =
    let same : map layout ws ≡ map layout s.vertices = ap (map layout) e ∙ layout_changed s.vertices t.vertex.0 (scheduled_with t.index) (λ x. refl) in
    subst (λ (vs : List VertexState). IsKept (record { vertices = vs; edges = s.edges; greatest = s.greatest })) (sym (written n ws s.vertices (length_by s.vertices ws same) k))
    (kept_after s ws s.edges s.greatest h same refl refl)

pub configured_is_kept : (s : ScheduleState) (n m : ℕ) (ws : List VertexState) (gs : List ℕ) (v : ℕ) (c : Config) → IsKept s → n ≡ length s.vertices → m ≡ length s.greatest
    → ws ≡ changed_at s.vertices v (configured_with c) → length gs ≡ length s.greatest
    → IsKept (record { vertices = lent n ws s.vertices; edges = s.edges; greatest = lent m gs s.greatest })
configured_is_kept s n m ws gs v c h k l e long =
    let same : map layout ws ≡ map layout s.vertices = ap (map layout) e ∙ layout_changed s.vertices v (configured_with c) (λ x. refl) in
    subst (λ (ys : List ℕ). IsKept (record { vertices = lent n ws s.vertices; edges = s.edges; greatest = ys })) (sym (written m gs s.greatest long l))
    (subst (λ (vs : List VertexState). IsKept (record { vertices = vs; edges = s.edges; greatest = gs })) (sym (written n ws s.vertices (length_by s.vertices ws same) k))
    (kept_after s ws s.edges gs h same refl long))

pub result_is_kept : (s : ScheduleState) (n j m : ℕ) (ws : List VertexState) (es : List EdgeState) (gs : List ℕ) (t : TaskId) (has : Bool) (made : List (EdgeId × ℕ)) → IsKept s
    → n ≡ length s.vertices → j ≡ length s.edges → m ≡ length s.greatest → ws ≡ with_winner s.vertices t has → es ≡ with_made s.edges t made → length gs ≡ length s.greatest
    → IsKept (record { vertices = lent n ws s.vertices; edges = lent j es s.edges; greatest = lent m gs s.greatest })
result_is_kept s n j m ws es gs t has made h k i l e d long =
    let same : map layout ws ≡ map layout s.vertices = ap (map layout) e ∙ layout_winner s.vertices t has in
    let edges : length es ≡ length s.edges = ap length d ∙ length-each (made_with t.vertex.0 t.index made) 0 s.edges in
    subst (λ (ys : List ℕ). IsKept (record { vertices = lent n ws s.vertices; edges = lent j es s.edges; greatest = ys })) (sym (written m gs s.greatest long l))
    (subst (λ (ys : List EdgeState). IsKept (record { vertices = lent n ws s.vertices; edges = ys; greatest = gs })) (sym (written j es s.edges edges i))
    (subst (λ (vs : List VertexState). IsKept (record { vertices = vs; edges = es; greatest = gs })) (sym (written n ws s.vertices (length_by s.vertices ws same) k))
    (kept_after s ws es gs h same edges long)))
