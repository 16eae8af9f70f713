-- A loop that deals records into parts, each record into the part of its key.
--     AreDealt cols parts made left rs      made has each record of rs in its part, but for those that are left
--     dealt_none, dealt_one, dealt_all      at the loop's start, after a record, and at its end
use Rattle.std.proofs.Common.{◌≡◌, ℕ, suc, ◌+◌, ◌<◌, ◌==◌, List, [], ◌∷◌, ◌++◌, length, map, filter, get_or, set, replicate, refl, sym, ap, ◌∙◌, subst, arith, mod-lt, eqb-true}
use Rattle.std.specs.List.{range_with_len}
use Rattle.std.proofs.lemmas.Bool.{eqb-false}
use Rattle.std.proofs.lemmas.List.{get_or-set_same, get_or-set_other, get_or-replicate, length-replicate}
use Rattle.tez_lists.proofs.Cases.{cases}
use Rattle.tez_lists.proofs.Flat.{append-nil}
use Rattle.tez_record.specs.Field.{key}
use Rattle.tez_record.proofs.LoopLemmas.{kept_one, passed_over}
use Rattle.tez_partition.specs.Partition.{hash, partition, in_partition}

abbrev pub AreDealt : List ℕ → ℕ → List (List (List ℕ)) → List (List ℕ) → List (List ℕ) → Type 0
AreDealt cols parts made left rs = (p : ℕ) → p < parts → get_or made p [] ++ filter (in_partition cols parts p) left ≡ filter (in_partition cols parts p) rs

pub length-made : (parts : ℕ) (made : List (List (List ℕ))) → made ≡ replicate parts [] → length made ≡ parts
length-made parts made e = ap length e ∙ length-replicate parts []

pub dealt_none : (cols : List ℕ) (parts : ℕ) (made : List (List (List ℕ))) (rs : List (List ℕ)) → made ≡ replicate parts [] → AreDealt cols parts made rs rs
dealt_none cols parts made rs e p low = ap (λ ps. get_or ps p [] ++ filter (in_partition cols parts p) rs) e ∙ ap (λ xs. xs ++ filter (in_partition cols parts p) rs) (get_or-replicate parts p [] [] low)

pub dealt_one : (cols : List ℕ) (parts : ℕ) (made now : List (List (List ℕ))) (left more rs : List (List ℕ)) (r : List ℕ) → 0 < parts → length made ≡ parts → left ≡ r ∷ more
    → now ≡ set made (partition cols parts r) (get_or made (partition cols parts r) [] ++ r ∷ []) → AreDealt cols parts made left rs → AreDealt cols parts now more rs
dealt_one cols parts made now left more rs r some size first is dealt p low =
    let q = partition cols parts r in
    let below : q < length made = subst (λ n. q < n) (sym size) (mod-lt (hash (key cols r)) some) in
    cases (q == p)
    (λ e.
    let here : q ≡ p = eqb-true q p e in
    let at : get_or now p [] ≡ get_or made p [] ++ r ∷ [] = ap (λ ps. get_or ps p []) is ∙ subst (λ n. get_or (set made q (get_or made q [] ++ r ∷ [])) n [] ≡ get_or made n [] ++ r ∷ []) here (get_or-set_same made q (get_or made q [] ++ r ∷ []) [] below) in
    kept_one (in_partition cols parts p) (get_or made p []) left more r (get_or now p []) rs first e at (dealt p low))
    (λ e.
    let other : q ≡ p → ⊥ = eqb-false q p e in
    let at : get_or now p [] ≡ get_or made p [] = ap (λ ps. get_or ps p []) is ∙ get_or-set_other made q p (get_or made q [] ++ r ∷ []) [] (λ same. other (sym same)) in
    ap (λ xs. xs ++ filter (in_partition cols parts p) more) at ∙ passed_over (in_partition cols parts p) (get_or made p []) left more r rs first e (dealt p low))

-- a list is what its elements are by their numbers
list_from : {X : Type 0} (f : ℕ → X) (d : X) (a : ℕ) (xs : List X) → ((k : ℕ) → k < length xs → get_or xs k d ≡ f (a + k)) → xs ≡ map f (range_with_len a (length xs))
list_from f d a [] h = refl
list_from {X} f d a (x ∷ xs) h =
    let here : x ≡ f a = h 0 (omega arith) ∙ ap f (let none : a + 0 ≡ a = omega arith in none) in
    let rest : xs ≡ map f (range_with_len (a + 1) (length xs)) = list_from f d (a + 1) xs (λ k low. h (suc k) (omega arith) ∙ ap f (let next : a + suc k ≡ a + 1 + k = omega arith in next)) in
    ap (λ y. y ∷ xs) here ∙ ap (λ ys. f a ∷ ys) rest

pub dealt_all : (cols : List ℕ) (parts : ℕ) (made : List (List (List ℕ))) (left rs : List (List ℕ)) → length made ≡ parts → left ≡ [] → AreDealt cols parts made left rs
    → made ≡ map (λ p. filter (in_partition cols parts p) rs) (range_with_len 0 parts)
dealt_all cols parts made left rs size none dealt =
    let at : (p : ℕ) → p < length made → get_or made p [] ≡ filter (in_partition cols parts p) rs =
    λ p low. sym (append-nil (get_or made p [])) ∙ ap (λ xs. get_or made p [] ++ filter (in_partition cols parts p) xs) (sym none) ∙ dealt p (subst (λ n. p < n) size low) in
    list_from (λ p. filter (in_partition cols parts p) rs) [] 0 made (λ k low. at k low ∙ ap (λ n. filter (in_partition cols parts n) rs) (let same : k ≡ 0 + k = omega arith in same)) ∙ ap (λ n. map (λ p. filter (in_partition cols parts p) rs) (range_with_len 0 n)) size
