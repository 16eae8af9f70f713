-- What follows a prefix.
use Rattle.std.proofs.Common.{◌≡◌, ℕ, true, List, [], ◌∷◌, ◌++◌, ◌==◌, Option, Some, None, refl, sym, ap, ◌∙◌, arith, Bor}
use Rattle.std.specs.Option.{MatchOption, option_map}
use Rattle.std.specs.Str.Pattern.{FindsTextPrefix, StripsPrefix}
use Rattle.std.proofs.lemmas.Option.{none-some}
use Rattle.tez_words.specs.Reading.{after_prefix}
use Rattle.tez_words.proofs.Small.{by_option, by_if, one_value}

same : (b : ℕ) → (b == b) ≡ true
same b = grind arith

alike : (a b : ℕ) → (a == b) ≡ true → a ≡ b
alike a b h = grind arith

pub after : (p v : List ℕ) → after_prefix p (p ++ v) ≡ Some v
after [] v = refl
after (b ∷ p) v = rw (same b) (after p v)

pub before : (p w v : List ℕ) → after_prefix p w ≡ Some v → w ≡ p ++ v
before [] w v h = one_value w v h
before (a ∷ p) [] v h = absurd (none-some v h)
before (a ∷ p) (b ∷ w) v h = by_if (b == a) (after_prefix p w) None (Some v) h
    (λ e f. ap (λ c. c ∷ w) (alike b a e) ∙ ap (λ (t : List ℕ). a ∷ t) (before p w v f))
    (λ e f. absurd (none-some v f))

pub no_prefix : (p w : List ℕ) → ((v : List ℕ) → w ≡ p ++ v → ⊥) → None ≡ after_prefix p w
no_prefix p w h = by_option (after_prefix p w) (λ v e. h v (before p w v e))

pub stripped : (p w : List ℕ) (r : Option (Bor (List ℕ))) → MatchOption r (FindsTextPrefix p w None) (λ x. StripsPrefix (FindsTextPrefix p) w x.now) → option_map (λ x. x.now) r ≡ after_prefix p w
stripped p w None h = no_prefix p w h
stripped p w (Some x) (n, (e, split, cut), rest, short) = sym (ap (after_prefix p) (split ∙ ap (λ t. p ++ t) (sym rest)) ∙ after p x.now)
