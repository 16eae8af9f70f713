-- A line more of the text is a line less of what is to come.
use Rattle.std.specs.Prelude.{◌≡◌, ℕ, suc, ◌+◌, ◌-◌, ◌<◌, List, ◌++◌}
use Rattle.std.proofs.Common.{ap, sym, ◌∙◌, arith}
use Rattle.std.proofs.lemmas.List.{append_assoc}
use Rattle.tez_gen.specs.Generate.{line_after, text_after, third}

pub one_more : (old now whole : List ℕ) (x y lines i : ℕ) → i < lines → now ≡ old ++ line_after x → y ≡ third x
    → old ++ text_after x (lines - i) ≡ whole → now ++ text_after y (lines - (i + 1)) ≡ whole
one_more old now whole x y lines i more line state was =
    let left : lines - i ≡ suc (lines - (i + 1)) = omega arith in
    ap (λ z. now ++ text_after z (lines - (i + 1))) state
    ∙ ap (λ xs. xs ++ text_after (third x) (lines - (i + 1))) line
    ∙ append_assoc old (line_after x) (text_after (third x) (lines - (i + 1)))
    ∙ sym (ap (λ n. old ++ text_after x n) left)
    ∙ was
