-- Loops over the edges of a plan, and over what was gathered.
--     out_pushed, out_passed       an edge out of the vertex, and one that is passed over
--     parts_step, side_step        a part that is moved
use Rattle.std.proofs.Common.{◌≡◌, ◌∙◌, ℕ, zero, suc, ◌+◌, ◌<◌, ◌≤◌, Bool, true, false, cond, List, [], ◌∷◌, ◌++◌, length, map, filter, take, get_or, Option, refl, sym, ap, append_assoc, arith}
use Rattle.std.specs.List.{enumerate_from}
use Rattle.std.proofs.lemmas.List.{take_more, map-append}
use Rattle.tez_lists.proofs.Flat.{append-nil, filter-append}
use Rattle.tez_ids.specs.declared.EdgeId.{EdgeId}
use Rattle.tez_plan.specs.Dag.{Dag}
use Rattle.tez_operators.specs.Process.{Primary}
use Rattle.tez_assembly.specs.Order.{Records, Gathered}
use Rattle.tez_assembly.specs.Filling.{parts_in, side_in}
use Rattle.tez_assembly.proofs.FillLemmas.{one_part}

numbered-append : {X : Type 0} (k : ℕ) (xs : List X) (y : X) → enumerate_from k (xs ++ y ∷ []) ≡ enumerate_from k xs ++ (k + length xs, y) ∷ []
numbered-append {X} k [] y = let z : k ≡ k + 0 = omega arith in ap (λ (n : ℕ). (n, y) ∷ []) z
numbered-append {X} k (x ∷ xs) y =
    let z : k + 1 + length xs ≡ k + length (x ∷ xs) = omega arith in
    ap (λ (rest : List (ℕ × X)). (k, x) ∷ rest) (numbered-append (k + 1) xs y ∙ ap (λ (n : ℕ). enumerate_from (k + 1) xs ++ (n, y) ∷ []) z)

taken : {X : Type 0} (i : ℕ) (xs : List X) → i ≤ length xs → length (take i xs) ≡ i
taken i xs low = by i xs low
  where
    by : {X : Type 0} (i : ℕ) (xs : List X) → i ≤ length xs → length (take i xs) ≡ i
    by zero xs low = refl
    by (suc i) [] low = absurd (omega arith)
    by (suc i) (x ∷ xs) low = let rest = by i xs (omega arith) in omega arith

numbered_more : {X : Type 0} (xs : List X) (i : ℕ) (x : X) → i < length xs → x ≡ get_or xs i x → enumerate_from 0 (take (i + 1) xs) ≡ enumerate_from 0 (take i xs) ++ (i, x) ∷ []
numbered_more {X} xs i x low is =
    let size : length (take i xs) ≡ i = taken i xs (omega arith) in
    let last : 0 + length (take i xs) ≡ i = omega (arith, size) in
    ap (enumerate_from 0) (take_more xs i x low ∙ ap (λ y. take i xs ++ y ∷ []) (sym is))
    ∙ numbered-append 0 (take i xs) x
    ∙ ap (λ (n : ℕ). enumerate_from 0 (take i xs) ++ (n, x) ∷ []) last

kept_more : {X : Type 0} (q : ℕ × X → Bool) (xs : List X) (i : ℕ) (x : X) → i < length xs → x ≡ get_or xs i x
    → filter q (enumerate_from 0 (take (i + 1) xs)) ≡ filter q (enumerate_from 0 (take i xs)) ++ cond (q (i, x)) ((i, x) ∷ []) []
kept_more {X} q xs i x low is = ap (filter q) (numbered_more xs i x low is) ∙ filter-append q (enumerate_from 0 (take i xs)) ((i, x) ∷ [])

pub out_pushed : {X Y : Type 0} (k : ℕ × X → Y) (q : ℕ × X → Bool) (xs : List X) (was now : List Y) (i : ℕ) (x : X) → i < length xs → x ≡ get_or xs i x → q (i, x) ≡ true
    → was ≡ map k (filter q (enumerate_from 0 (take i xs))) → now ≡ was ++ k (i, x) ∷ [] → now ≡ map k (filter q (enumerate_from 0 (take (i + 1) xs)))
out_pushed {X} {Y} k q xs was now i x low is e w n =
    n
    ∙ ap (λ (ys : List Y). ys ++ k (i, x) ∷ []) w
    ∙ sym (ap (map k) (kept_more q xs i x low is ∙ ap (λ b. filter q (enumerate_from 0 (take i xs)) ++ cond b ((i, x) ∷ []) []) e) ∙ map-append k (filter q (enumerate_from 0 (take i xs))) ((i, x) ∷ []))

pub out_passed : {X Y : Type 0} (k : ℕ × X → Y) (q : ℕ × X → Bool) (xs : List X) (was : List Y) (i : ℕ) (x : X) → i < length xs → x ≡ get_or xs i x → q (i, x) ≡ false
    → was ≡ map k (filter q (enumerate_from 0 (take i xs))) → was ≡ map k (filter q (enumerate_from 0 (take (i + 1) xs)))
out_passed {X} {Y} k q xs was i x low is e w =
    w ∙ sym (ap (map k) (kept_more q xs i x low is ∙ ap (λ b. filter q (enumerate_from 0 (take i xs)) ++ cond b ((i, x) ∷ []) []) e ∙ append-nil (filter q (enumerate_from 0 (take i xs)))))

-- ---- what was gathered

pub parts_step : (g : Dag) (was now all : Primary) (part : EdgeId × Records) (items rest : Gathered) → items ≡ part ∷ rest → now ≡ was ++ parts_in g (part ∷ []) → was ++ parts_in g items ≡ all → now ++ parts_in g rest ≡ all
parts_step g was now all part items rest e n h =
    ap (λ (ps : Primary). ps ++ parts_in g rest) n
    ∙ append_assoc was (parts_in g (part ∷ [])) (parts_in g rest)
    ∙ ap (λ (ps : Primary). was ++ ps) (sym (one_part g part rest))
    ∙ ap (λ (ps : Gathered). was ++ parts_in g ps) (sym e)
    ∙ h

pub side_step : (g : Dag) (was now all : Option Records) (part : EdgeId × Records) (items rest : Gathered) → items ≡ part ∷ rest → now ≡ side_in g was (part ∷ []) → side_in g was items ≡ all → side_in g now rest ≡ all
side_step g was now all part items rest e n h = ap (λ (s : Option Records). side_in g s rest) n ∙ ap (side_in g was) (sym e) ∙ h
