-- Options and tests, by cases.
use Rattle.std.proofs.Common.{◌≡◌, List, [], ◌∷◌, ap, Bool, true, false, not, ◌||◌, Option, Some, None, if◌then◌else◌, option_map, refl, sym, true≢false}
use Rattle.std.specs.Option.{is_some, option_and_then}
use Rattle.std.proofs.lemmas.Option.{none-some, cond_some}

pub one_value : {X : Type 0} (x y : X) → Some x ≡ Some y → x ≡ y
one_value x y h = (cond_some true x y h).1

pub by_option : {X : Type 0} (o : Option X) → ((x : X) → o ≡ Some x → ⊥) → None ≡ o
by_option None h = refl
by_option (Some x) h = absurd (h x refl)

pub unless_some : {X : Type 0} (p q : Bool) (x y : X) → (if p || not q then None else Some x) ≡ Some y → (p ≡ false) × (q ≡ true) × (x ≡ y)
unless_some false true x y h = (refl, refl, one_value x y h)
unless_some false false x y h = absurd (none-some y h)
unless_some true q x y h = absurd (none-some y h)

pub none_there : {X : Type 0} (o : Option X) → is_some o ≡ false → o ≡ None
none_there None h = refl
none_there (Some x) h = absurd (true≢false h)

pub chained : {X Y : Type 0} (f : X → Option Y) (o : Option X) (y : Y) → option_and_then f o ≡ Some y → (x : X) × (o ≡ Some x) × (f x ≡ Some y)
chained f None y h = absurd (none-some y h)
chained f (Some x) y h = (x, refl, h)

pub mapped : {X Y : Type 0} (f : X → Y) (o : Option X) (y : Y) → option_map f o ≡ Some y → (x : X) × (o ≡ Some x) × (f x ≡ y)
mapped f None y h = absurd (none-some y h)
mapped f (Some x) y h = (x, refl, one_value (f x) y h)

pub by_if : {X P : Type 0} (b : Bool) (x y z : X) → (if b then x else y) ≡ z → (b ≡ true → x ≡ z → P) → (b ≡ false → y ≡ z → P) → P
by_if true x y z h f g = f refl h
by_if false x y z h f g = g refl h

-- ---- lists of one or none

abbrev is_empty : {X : Type 0} → List X → Bool
is_empty [] = true
is_empty (x ∷ xs) = false

abbrev first_or : {X : Type 0} → X → List X → X
first_or x [] = x
first_or x (y ∷ ys) = y

abbrev others : {X : Type 0} → List X → List X
others [] = []
others (x ∷ xs) = xs

pub empty : {X : Type 0} (x : X) (xs : List X) → [] ≡ x ∷ xs → ⊥
empty x xs h = true≢false (ap is_empty h)

pub firsts : {X : Type 0} (x y : X) (xs ys : List X) → x ∷ xs ≡ y ∷ ys → x ≡ y
firsts x y xs ys h = ap (first_or x) h

pub rests : {X : Type 0} (x y : X) (xs ys : List X) → x ∷ xs ≡ y ∷ ys → xs ≡ ys
rests x y xs ys h = ap others h

pub one_only : {X : Type 0} (a b c : X) (rest : List X) → a ∷ b ∷ rest ≡ c ∷ [] → ⊥
one_only a b c rest h = empty b rest (sym (rests a c (b ∷ rest) [] h))
