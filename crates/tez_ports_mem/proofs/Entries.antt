-- Entries by name: the first of a name, and what is left without it.
use Rattle.std.proofs.Common.{◌≡◌, ◌<◌, ◌+◌, ◌++◌, ◌∷◌, [], ℕ, List, Some, None, length, take, drop, remove, filter, not, get_or, position, bytes_eq, Bool, true, false, cond, refl, sym, ◌∙◌, ap, arith, suc, option_map, subst, rules}
use Rattle.std.specs.List.{position_from}
use Rattle.std.proofs.Math.Seq.{split_at}
use Rattle.std.proofs.lemmas.List.Elements.{filter-append}
use Rattle.std.proofs.lemmas.Iterator.Adapters.{position_from-zero}
use Rattle.tez_ports.specs.Content.{Named, bytes_of, without}

-- the entry has the name
abbrev pub has_name : List ℕ → List ℕ × List ℕ → Bool
has_name name entry = bytes_eq entry.0 name

-- without an element that fails the test, the rest that passes is the same
pub filter-remove : {X : Type 0} (p : X → Bool) (d : X) (xs : List X) (i : ℕ) → i < length xs → p (get_or xs i d) ≡ false
    → filter p (remove xs i) ≡ filter p xs
filter-remove p d xs i fits miss =
    let before = take i xs in let after = drop (suc i) xs in let x = get_or xs i d in
    let whole : filter p xs ≡ filter p before ++ filter p after =
    ap (filter p) (split_at xs i d fits) ∙ filter-append p before (x ∷ after)
    ∙ ap (λ b. filter p before ++ cond b (x ∷ filter p after) (filter p after)) miss in
    filter-append p before after ∙ sym whole

-- no entry has the name, counted from any number
pub none_from : (name : List ℕ) (xs : Named) (i : ℕ) → position_from (has_name name) i xs ≡ None
    → (bytes_of name xs ≡ None) × (without name xs ≡ xs)
none_from name [] i none = (refl, refl)
none_from name (x ∷ xs) i none = by (bytes_eq x.0 name) none (none_from name xs (i + 1)) where
  by : (b : Bool) → cond b (Some i) (position_from (has_name name) (i + 1) xs) ≡ None
      → (position_from (has_name name) (i + 1) xs ≡ None → (bytes_of name xs ≡ None) × (without name xs ≡ xs))
      → (cond b (Some x.1) (bytes_of name xs) ≡ None) × (cond (not b) (x ∷ without name xs) (without name xs) ≡ x ∷ xs)
  by true e rest = cc
  by false e rest = let r = rest e in (r.0, ap (λ zs. x ∷ zs) r.1)

-- no entry has the name
pub none_found : (name : List ℕ) (xs : Named) → position (has_name name) xs ≡ None → (bytes_of name xs ≡ None) × (without name xs ≡ xs)
none_found name xs none = none_from name xs 0 (sym (position_from-zero (has_name name) xs) ∙ none)

-- where the first entry of the name stands, and what it has
pub record IsFirst (name : List ℕ) (d : List ℕ × List ℕ) (xs : Named) (j : ℕ) : Type 0 where
  pub fits : j < length xs
  pub hit : bytes_eq (get_or xs j d).0 name ≡ true
  pub bytes : bytes_of name xs ≡ Some (get_or xs j d).1

pub found : (name : List ℕ) (d : List ℕ × List ℕ) (xs : Named) (i k : ℕ) → position_from (has_name name) i xs ≡ Some k
    → (j : ℕ) × (k ≡ i + j) × IsFirst name d xs j
found name d [] i k some = cc
found name d (x ∷ xs) i k some = by (bytes_eq x.0 name) refl some (found name d xs (i + 1) k) where
  by : (b : Bool) → bytes_eq x.0 name ≡ b → cond b (Some i) (position_from (has_name name) (i + 1) xs) ≡ Some k
      → (position_from (has_name name) (i + 1) xs ≡ Some k → (j : ℕ) × (k ≡ (i + 1) + j) × IsFirst name d xs j)
      → (j : ℕ) × (k ≡ i + j) × IsFirst name d (x ∷ xs) j
  by true is e rest = let at : i ≡ k = cc in (0, omega arith, record { fits = omega arith; hit = is; bytes = ap (λ b. cond b (Some x.1) (bytes_of name xs)) is })
  by false is e rest = let r = rest e in
      (suc r.0, omega arith, record { fits = omega arith; hit = r.2.hit; bytes = ap (λ b. cond b (Some x.1) (bytes_of name xs)) is ∙ r.2.bytes })

pub first_at : (name : List ℕ) (d : List ℕ × List ℕ) (xs : Named) (k : ℕ) → position (has_name name) xs ≡ Some k → IsFirst name d xs k
first_at name d xs k some =
    let r = found name d xs 0 k (sym (position_from-zero (has_name name) xs) ∙ some) in
    let at : r.0 ≡ k = omega arith in subst (IsFirst name d xs) at r.2

-- the first entry of the name, taken out
pub taken : (name : List ℕ) (xs : Named) (k : ℕ) (entry : List ℕ × List ℕ) → position (has_name name) xs ≡ Some k → entry ≡ get_or xs k entry
    → (Some entry ≡ option_map (λ bytes. (name, bytes)) (bytes_of name xs)) × (without name (remove xs k) ≡ without name xs)
taken name xs k entry some is =
    let first = first_at name entry xs k some in
    let named : bytes_eq entry.0 name ≡ true = ap (λ e. bytes_eq e.0 name) is ∙ first.hit in
    let same : entry.0 ≡ name = search rules in
    let bytes : bytes_of name xs ≡ Some entry.1 = first.bytes ∙ ap (λ e. Some e.1) (sym is) in (
      ap (λ n. Some (n, entry.1)) same ∙ sym (ap (option_map (λ b. (name, b))) bytes),
      filter-remove (λ e. not (bytes_eq e.0 name)) entry xs k first.fits (ap not first.hit),
    )
