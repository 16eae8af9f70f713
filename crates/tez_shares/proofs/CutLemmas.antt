-- A list that is taken from its front.
--     taken_more, left_more       one element more
--     taken_none, left_none       none is left
--     share_next, rest_next       the share of the next task
use Rattle.std.proofs.Common.{◌≡◌, ◌∙◌, ℕ, ◌+◌, ◌-◌, ◌≤◌, List, [], ◌∷◌, ◌++◌, length, take, drop, sym, ap, ap₂, arith, take-add, drop-drop}
use Rattle.tez_lists.proofs.Flat.{append-nil}
use Rattle.tez_shares.specs.Shares.{first_line, share_of_lines}

pub taken_more : {X : Type 0} (xs rest : List X) (i : ℕ) (x : X) → drop i xs ≡ x ∷ rest → take (i + 1) xs ≡ take i xs ++ x ∷ []
taken_more xs rest i x e = take-add i 1 xs ∙ ap (λ ys. take i xs ++ take 1 ys) e

pub left_more : {X : Type 0} (xs rest : List X) (i : ℕ) (x : X) → drop i xs ≡ x ∷ rest → rest ≡ drop (i + 1) xs
left_more xs rest i x e = sym (ap (drop 1) e) ∙ drop-drop 1 i xs

pub taken_none : {X : Type 0} (xs : List X) (i : ℕ) → drop i xs ≡ [] → take (i + 1) xs ≡ take i xs
taken_none xs i e = take-add i 1 xs ∙ ap (λ ys. take i xs ++ take 1 ys) e ∙ append-nil (take i xs)

pub left_none : {X : Type 0} (xs : List X) (i : ℕ) → drop i xs ≡ [] → [] ≡ drop (i + 1) xs
left_none xs i e = sym (ap (drop 1) e) ∙ drop-drop 1 i xs

pub share_next : (rs : List (List ℕ)) (tasks t n first end : ℕ) (left share : List (List ℕ)) → n ≡ length rs → first ≡ first_line n tasks t → end ≡ first_line n tasks (t + 1)
    → left ≡ drop (first_line (length rs) tasks t) rs → share ≡ take (end - first) left → share ≡ share_of_lines rs tasks t
share_next rs tasks t n first end left share e f g l s =
    s
    ∙ ap₂ take (ap₂ (λ a b. a - b) (g ∙ ap (λ m. first_line m tasks (t + 1)) e) (f ∙ ap (λ m. first_line m tasks t) e)) l

pub rest_next : (rs : List (List ℕ)) (tasks t n first end : ℕ) (left now : List (List ℕ)) → n ≡ length rs → first ≡ first_line n tasks t → end ≡ first_line n tasks (t + 1) → first ≤ end
    → left ≡ drop (first_line (length rs) tasks t) rs → now ≡ drop (end - first) left → now ≡ drop (first_line (length rs) tasks (t + 1)) rs
rest_next rs tasks t n first end left now e f g up l d =
    let here : left ≡ drop first rs = l ∙ ap (λ m. drop m rs) (sym (f ∙ ap (λ m. first_line m tasks t) e)) in
    let whole : first + (end - first) ≡ end = omega arith in
    d ∙ ap (drop (end - first)) here ∙ drop-drop (end - first) first rs ∙ ap (λ m. drop m rs) (whole ∙ g ∙ ap (λ m. first_line m tasks (t + 1)) e)
