-- A test is true or false, and never both.
use Rattle.std.proofs.Common.{◌≡◌, Bool, true, false, refl, sym, ◌∙◌, true≢false}

pub cases : {P : Type 0} (b : Bool) → (b ≡ true → P) → (b ≡ false → P) → P
cases true f g = f refl
cases false f g = g refl

pub both : {P : Type 0} {b : Bool} → b ≡ true → b ≡ false → P
both is is_not = absurd (true≢false (sym is ∙ is_not))
