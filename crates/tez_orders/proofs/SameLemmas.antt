-- Lists that are compared from the front, element by element.
--     more_same, differ_at, all_same      at the next element, where it differs, and at the end
--     same_bytes                          what a comparison of bytes tells
--     same_texts                          records with the same text
use Rattle.std.proofs.Common.{◌≡◌, ◌↔◌, IsTrue, ℕ, ◌+◌, ◌<◌, ◌≤◌, Bool, true, List, [], ◌∷◌, ◌++◌, length, take, get_or, refl, sym, ap, ◌∙◌, subst, bytes_eq}
use Rattle.std.specs.Cmp.Lexicographic.{bytes_decides}
use Rattle.std.proofs.lemmas.List.{take_more, take_all, get_or_default}
use Rattle.tez_record.specs.Line.{lines}
use Rattle.tez_record.specs.Bag.{text}

pub more_same : {X : Type 0} (xs ys : List X) (i : ℕ) (x y : X) → i < length xs → i < length ys → x ≡ get_or xs i x → y ≡ get_or ys i y → x ≡ y → take i xs ≡ take i ys → take (i + 1) xs ≡ take (i + 1) ys
more_same xs ys i x y low high at there same before =
    take_more xs i x low
    ∙ ap (λ z. take i xs ++ z ∷ []) (sym at ∙ same ∙ there)
    ∙ ap (λ zs. zs ++ get_or ys i y ∷ []) before
    ∙ sym (take_more ys i y high)

pub differ_at : {X : Type 0} (xs ys : List X) (i : ℕ) (x y : X) → i < length xs → x ≡ get_or xs i x → y ≡ get_or ys i y → (x ≡ y → ⊥) → xs ≡ ys → ⊥
differ_at xs ys i x y low at there other e = other (at ∙ get_or_default xs i x y low ∙ ap (λ zs. get_or zs i y) e ∙ sym there)

pub all_same : {X : Type 0} (xs ys : List X) (n : ℕ) → length xs ≤ n → length ys ≤ n → take n xs ≡ take n ys → xs ≡ ys
all_same xs ys n few less e = sym (take_all n xs few) ∙ e ∙ take_all n ys less

pub same_bytes : (xs ys : List ℕ) (b : Bool) → b ≡ bytes_eq xs ys → IsTrue b ↔ (xs ≡ ys)
same_bytes xs ys b e = (λ is. (bytes_decides xs ys).0 (sym e ∙ is), λ same. e ∙ (bytes_decides xs ys).1 same)

pub same_texts : (xs ys : List ℕ) (rs ss : List (List ℕ)) (b : Bool) → b ≡ bytes_eq xs ys → xs ≡ text rs → ys ≡ text ss → lines xs ≡ rs → lines ys ≡ ss → IsTrue b ↔ (rs ≡ ss)
same_texts xs ys rs ss b e left right one two =
    let bytes = same_bytes xs ys b e in
    (λ is. sym one ∙ ap lines (bytes.0 is) ∙ two, λ same. bytes.1 (left ∙ ap text same ∙ sym right))
