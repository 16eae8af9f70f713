-- The winners that are lost with a node, vertex by vertex and task by task.
use Rattle.std.specs.Prelude.{◌≡◌, ℕ, zero, suc, ◌+◌, ◌++◌, Bool, true, false, if◌then◌else◌, List, [], ◌∷◌, take, slice_get, Option, Some, None, option_to_list, refl}
use Rattle.std.specs.List.{filter, filter_map, flat_map, cons_option}
use Rattle.std.specs.Option.{option_map}
use Rattle.std.proofs.Common.{ap, sym, ◌∙◌, arith, append_assoc}
use Rattle.std.proofs.lemmas.Option.{same_Some}
use Rattle.tez_lists.proofs.Flat.{append-nil, filter-append}
use Rattle.tez_ids.specs.declared.AttemptId.{AttemptId}
use Rattle.tez_task.specs.TaskState.{TaskState}
use Rattle.tez_vertex.specs.Vertex.{Vertex}

-- ---- a loop that adds what comes of a part of each element

one_more : {X Y Z : Type 0} (f : Z → List Y) (h : X → Z) (xs : List X) (i : ℕ) (z : Z) → option_map h (slice_get xs i) ≡ Some z
    → flat_map (λ x. f (h x)) (take (suc i) xs) ≡ flat_map (λ x. f (h x)) (take i xs) ++ f z
one_more f h [] i z e = cc
one_more f h (x ∷ xs) zero z e = append-nil (f (h x)) ∙ ap f (same_Some (h x) z e)
one_more f h (x ∷ xs) (suc i) z e = ap (λ ys. f (h x) ++ ys) (one_more f h xs i z e) ∙ sym (append_assoc (f (h x)) (flat_map (λ y. f (h y)) (take i xs)) (f z))

pub part_more : {X Y Z : Type 0} (f : Z → List Y) (h : X → Z) (xs : List X) (start was now : List Y) (i : ℕ) (z : Z) → option_map h (slice_get xs i) ≡ Some z
    → was ≡ start ++ flat_map (λ x. f (h x)) (take i xs) → now ≡ was ++ f z → now ≡ start ++ flat_map (λ x. f (h x)) (take (i + 1) xs)
part_more f h xs start was now i z e so_far more =
    let next : suc i ≡ i + 1 = omega arith in
    more
    ∙ ap (λ ys. ys ++ f z) so_far
    ∙ append_assoc start (flat_map (λ x. f (h x)) (take i xs)) (f z)
    ∙ ap (λ ys. start ++ ys) (sym (one_more f h xs i z e))
    ∙ ap (λ n. start ++ flat_map (λ x. f (h x)) (take n xs)) next

-- ---- those of all winners that pass a test, task by task

first_of : (q : AttemptId → Bool) (o : Option AttemptId) (xs : List AttemptId) → filter q (cons_option o xs) ≡ filter q (option_to_list o) ++ filter q xs
first_of q None xs = refl
first_of q (Some x) xs = by (q x) where
  by : (b : Bool) → (if b then x ∷ filter q xs else filter q xs) ≡ (if b then x ∷ [] else []) ++ filter q xs
  by true = refl
  by false = refl

of_tasks : (q : AttemptId → Bool) (ts : List TaskState) → filter q (filter_map (λ t. t.winner) ts) ≡ flat_map (λ t. filter q (option_to_list t.winner)) ts
of_tasks q [] = refl
of_tasks q (t ∷ ts) = first_of q t.winner (filter_map (λ x. x.winner) ts) ∙ ap (λ ys. filter q (option_to_list t.winner) ++ ys) (of_tasks q ts)

pub of_vertices : (q : AttemptId → Bool) (vs : List Vertex)
    → filter q (flat_map (λ x. filter_map (λ t. t.winner) x.tasks) vs) ≡ flat_map (λ x. flat_map (λ t. filter q (option_to_list t.winner)) x.tasks) vs
of_vertices q [] = refl
of_vertices q (x ∷ vs) =
    filter-append q (filter_map (λ t. t.winner) x.tasks) (flat_map (λ y. filter_map (λ t. t.winner) y.tasks) vs)
    ∙ ap (λ ys. filter q (filter_map (λ t. t.winner) x.tasks) ++ ys) (of_vertices q vs)
    ∙ ap (λ ys. ys ++ flat_map (λ y. flat_map (λ t. filter q (option_to_list t.winner)) y.tasks) vs) (of_tasks q x.tasks)
