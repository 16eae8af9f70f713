-- A loop that adds the parts of a value, at its next part.
use Rattle.std.proofs.Common.{◌≡◌, ◌<◌, ℕ, ◌+◌, List, [], ◌∷◌, ◌++◌, length, take, get_or, sym, ap, ◌∙◌, arith, append_assoc, length-take}
use Rattle.std.proofs.lemmas.List.{take_more}
use Rattle.tez_lists.specs.Tables.{each_from}
use Rattle.tez_lists.proofs.Tables.{each-append}

pub each_next : {X Y : Type 0} (f : ℕ → X → Y) (xs : List X) (start was now : List Y) (i : ℕ) (x : X) → i < length xs → was ≡ start ++ each_from 0 f (take i xs)
    → x ≡ get_or xs i x → now ≡ was ++ f i x ∷ [] → now ≡ start ++ each_from 0 f (take (i + 1) xs)
each_next f xs start was now i x low before at pushed =
    let number : 0 + length (take i xs) ≡ i = omega (arith, length-take i xs) in
    let last : each_from 0 f (take (i + 1) xs) ≡ each_from 0 f (take i xs) ++ f i x ∷ [] =
    ap (each_from 0 f) (take_more xs i x low ∙ ap (λ y. take i xs ++ y ∷ []) (sym at)) ∙ each-append f 0 (take i xs) (x ∷ []) ∙ ap (λ n. each_from 0 f (take i xs) ++ f n x ∷ []) number in
    pushed ∙ ap (λ ys. ys ++ f i x ∷ []) before ∙ append_assoc start (each_from 0 f (take i xs)) (f i x ∷ []) ∙ ap (λ ys. start ++ ys) (sym last)
