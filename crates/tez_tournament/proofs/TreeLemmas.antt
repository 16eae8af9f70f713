-- The root of a tournament names the least place of the set.
use Rattle.std.specs.Prelude.{◌≡◌, ℕ, zero, suc, ◌+◌, ◌*◌, ◌/◌, ◌<◌, ◌≤◌, ◌⊎◌, ◌≢◌, ◌^◌, Bool, true, false, List, [], ◌∷◌, length, map, drop, position, replicate, ◌-◌, Option, Some, None, is_some, refl}
use Rattle.std.proofs.Common.{ap, sym, ◌∙◌, subst, arith, inl, inr, set, get_or}
use Rattle.std.proofs.lemmas.Bool.{cases_lt, cases_eq}
use Rattle.std.proofs.lemmas.List.{get_or-set_same, get_or-set_other, length-drop, length-map, length-replicate, get_or-drop, get_or_past, get_or_default, drop-set-add, map-set}
use Rattle.std.proofs.lemmas.List.Sums.{position_or_len_is}
use Rattle.tez_tournament.specs.Tree.{earlier, node_at, IsMatch, leaf, IsTournament}

-- ---- the winner is no later than any leaf

abbrev IsUpTo : ℕ → Option ℕ → Type 0
IsUpTo p None = ⊥
IsUpTo p (Some q) = q ≤ p

up_left : (p : ℕ) (a b : Option ℕ) → IsUpTo p a → IsUpTo p (earlier a b)
up_left p None b h = absurd h
up_left p (Some x) None h = h
up_left p (Some x) (Some y) h = omega arith

up_right : (p : ℕ) (a b : Option ℕ) → IsUpTo p b → IsUpTo p (earlier a b)
up_right p None b h = h
up_right p (Some x) None h = absurd h
up_right p (Some x) (Some y) h = omega arith

halves : (k : ℕ) → (k ≡ 2 * (k / 2)) ⊎ (k ≡ 2 * (k / 2) + 1)
halves k = by (cases_eq k (2 * (k / 2))) where
  by : (k ≡ 2 * (k / 2)) ⊎ (k ≢ 2 * (k / 2)) → (k ≡ 2 * (k / 2)) ⊎ (k ≡ 2 * (k / 2) + 1)
  by (inl e) = inl e
  by (inr ne) = inr (omega arith)

-- one round up
lifts : (count : ℕ) (nodes : List (Option ℕ)) (p k : ℕ) → IsTournament count nodes → 0 < k → k < count + count → k ≢ 1 → IsUpTo p (node_at nodes k) → IsUpTo p (node_at nodes (k / 2))
lifts count nodes p k t lo hi ne h = subst (IsUpTo p) (sym (t.matches (k / 2) (omega arith) (omega arith))) (side (halves k)) where
  side : (k ≡ 2 * (k / 2)) ⊎ (k ≡ 2 * (k / 2) + 1) → IsUpTo p (earlier (node_at nodes (2 * (k / 2))) (node_at nodes (2 * (k / 2) + 1)))
  side (inl e) = up_left p (node_at nodes (2 * (k / 2))) (node_at nodes (2 * (k / 2) + 1)) (subst (λ j. IsUpTo p (node_at nodes j)) e h)
  side (inr e) = up_right p (node_at nodes (2 * (k / 2))) (node_at nodes (2 * (k / 2) + 1)) (subst (λ j. IsUpTo p (node_at nodes j)) e h)

rises : (count : ℕ) (nodes : List (Option ℕ)) (p : ℕ) → IsTournament count nodes → (fuel k : ℕ) → k ≤ fuel → 0 < k → k < count + count → IsUpTo p (node_at nodes k) → IsUpTo p (node_at nodes 1)
rises count nodes p t zero k le lo hi h = absurd (omega arith)
rises count nodes p t (suc fuel) k le lo hi h = by (cases_eq k 1) (λ ne. rises count nodes p t fuel (k / 2) (omega arith) (omega arith) (omega arith) (lifts count nodes p k t lo hi ne h)) where
  by : (k ≡ 1) ⊎ (k ≢ 1) → (k ≢ 1 → IsUpTo p (node_at nodes 1)) → IsUpTo p (node_at nodes 1)
  by (inl e) up = subst (λ j. IsUpTo p (node_at nodes j)) e h
  by (inr ne) up = up ne

-- ---- the winner is a leaf

from_one : (a b : Option ℕ) (q : ℕ) → earlier a b ≡ Some q → (a ≡ Some q) ⊎ (b ≡ Some q)
from_one None b q h = inr h
from_one (Some x) None q h = inl h
from_one (Some x) (Some y) q h = by (cases_lt x y) where
  by : (x < y) ⊎ (y ≤ x) → (Some x ≡ Some q) ⊎ (Some y ≡ Some q)
  by (inl l) = inl (ap Some (omega arith) ∙ h)
  by (inr l) = inr (ap Some (omega arith) ∙ h)

named : (p q : ℕ) (o : Option ℕ) → o ≡ leaf p (is_some o) → o ≡ Some q → p ≡ q
named p q None e is = cc
named p q (Some x) e is = cc

at_leaf : (count : ℕ) (nodes : List (Option ℕ)) (q k : ℕ) → IsTournament count nodes → count ≤ k → k < count + count → node_at nodes k ≡ Some q → (q < count) × (node_at nodes (count + q) ≡ Some q)
at_leaf count nodes q k t l hi h =
    let at : count + (k - count) ≡ k = omega arith in
    let there : node_at nodes (count + (k - count)) ≡ Some q = ap (node_at nodes) at ∙ h in
    let name : k - count ≡ q = named (k - count) q (node_at nodes (count + (k - count))) (t.leaves (k - count) (omega arith)) there in
    (omega arith, subst (λ p. node_at nodes (count + p) ≡ Some q) name there)

falls : (count : ℕ) (nodes : List (Option ℕ)) (q : ℕ) → IsTournament count nodes → (fuel k : ℕ) → count + count ≤ k + fuel → 0 < k → k < count + count → node_at nodes k ≡ Some q
    → (q < count) × (node_at nodes (count + q) ≡ Some q)
falls count nodes q t zero k le lo hi h = absurd (omega arith)
falls count nodes q t (suc fuel) k le lo hi h =
    by (cases_lt k count)
    (λ l e. falls count nodes q t fuel (2 * k) (omega arith) (omega arith) (omega arith) e)
    (λ l e. falls count nodes q t fuel (2 * k + 1) (omega arith) (omega arith) (omega arith) e)
  where
    by : (k < count) ⊎ (count ≤ k) → (k < count → node_at nodes (2 * k) ≡ Some q → (q < count) × (node_at nodes (count + q) ≡ Some q))
        → (k < count → node_at nodes (2 * k + 1) ≡ Some q → (q < count) × (node_at nodes (count + q) ≡ Some q)) → (q < count) × (node_at nodes (count + q) ≡ Some q)
    by (inl l) left right = side (from_one (node_at nodes (2 * k)) (node_at nodes (2 * k + 1)) q (sym (t.matches k lo l) ∙ h)) where
      side : (node_at nodes (2 * k) ≡ Some q) ⊎ (node_at nodes (2 * k + 1) ≡ Some q) → (q < count) × (node_at nodes (count + q) ≡ Some q)
      side (inl e) = left l e
      side (inr e) = right l e
    by (inr l) left right = at_leaf count nodes q k t l hi h

-- ---- the root is the least place of the set

pub position_at : {X : Type 0} (test : X → Bool) (xs : List X) (i : ℕ) (d : X) → i < length xs → test (get_or xs i d) ≡ true → ((k : ℕ) → k < i → test (get_or xs k d) ≡ false) → position test xs ≡ Some i
position_at test xs i d l at before =
    let is = position_or_len_is test xs i d (omega arith) before (λ _. at) in grind arith

pub position_nowhere : {X : Type 0} (test : X → Bool) (xs : List X) (d : X) → ((k : ℕ) → k < length xs → test (get_or xs k d) ≡ false) → position test xs ≡ None
position_nowhere test xs d none =
    let is = position_or_len_is test xs (length xs) d (omega arith) none (λ l. absurd (omega arith)) in grind arith

get_or-map : {X Y : Type 0} (f : X → Y) (xs : List X) (i : ℕ) (d : X) → get_or (map f xs) i (f d) ≡ f (get_or xs i d)
get_or-map f [] i d = refl
get_or-map f (x ∷ xs) zero d = refl
get_or-map f (x ∷ xs) (suc i) d = get_or-map f xs i d

pub in_set : (count : ℕ) (nodes : List (Option ℕ)) (p : ℕ) → get_or (map is_some (drop count nodes)) p false ≡ is_some (node_at nodes (count + p))
in_set count nodes p = get_or-map is_some (drop count nodes) p None ∙ ap is_some (get_or-drop count nodes p None)

pub long_set : (count : ℕ) (nodes : List (Option ℕ)) → IsTournament count nodes → length (map is_some (drop count nodes)) ≡ count
long_set count nodes t = omega (arith, t.sized, length-map (drop count nodes) is_some, length-drop count nodes)

-- a place of the set is no earlier than the root
bounded : (count : ℕ) (nodes : List (Option ℕ)) → IsTournament count nodes → (p : ℕ) → p < count → is_some (node_at nodes (count + p)) ≡ true → IsUpTo p (node_at nodes 1)
bounded count nodes t p l e =
    let at : node_at nodes (count + p) ≡ Some p = t.leaves p l ∙ ap (leaf p) e in
    let below : IsUpTo p (Some p) = omega arith in
    rises count nodes p t (count + p) (count + p) (omega arith) (omega arith) (omega arith) (subst (IsUpTo p) (sym at) below)

not_in_set : (count : ℕ) (nodes : List (Option ℕ)) (k : ℕ) → (is_some (node_at nodes (count + k)) ≡ true → ⊥) → get_or (map is_some (drop count nodes)) k false ≡ false
not_in_set count nodes k absent = by (is_some (node_at nodes (count + k))) refl where
  by : (b : Bool) → is_some (node_at nodes (count + k)) ≡ b → get_or (map is_some (drop count nodes)) k false ≡ false
  by true h = absurd (absent h)
  by false h = in_set count nodes k ∙ h

positive : (count : ℕ) (nodes : List (Option ℕ)) (q : ℕ) → IsTournament count nodes → node_at nodes 1 ≡ Some q → 0 < count
positive zero nodes q t e = let none : node_at nodes 1 ≡ None = get_or_past nodes 1 None (omega (arith, t.sized)) in cc
positive (suc n) nodes q t e = omega arith

pub least_is_root : (count : ℕ) (nodes : List (Option ℕ)) → IsTournament count nodes → node_at nodes 1 ≡ position (λ b. b) (map is_some (drop count nodes))
least_is_root count nodes t = by (node_at nodes 1) refl where
  by : (root : Option ℕ) → node_at nodes 1 ≡ root → node_at nodes 1 ≡ position (λ b. b) (map is_some (drop count nodes))
  by None e =
      let long = long_set count nodes t in
      e ∙ sym (position_nowhere (λ b. b) (map is_some (drop count nodes)) false (λ k l. not_in_set count nodes k (λ h. subst (IsUpTo k) e (bounded count nodes t k (omega arith) h))))
  by (Some q) e =
      let long = long_set count nodes t in
      let some : 0 < count = positive count nodes q t e in
      let there = falls count nodes q t (count + count) 1 (omega arith) (omega arith) (omega arith) e in
      let low : q < count = there.0 in
      e ∙ sym (position_at (λ b. b) (map is_some (drop count nodes)) q false (omega arith) (in_set count nodes q ∙ ap is_some there.1)
      (λ k l. not_in_set count nodes k (λ h. let up : q ≤ k = subst (IsUpTo k) e (bounded count nodes t k (omega arith) h) in omega arith)))

-- the empty set
drop_more_copies : {X : Type 0} (n m : ℕ) (x : X) → drop n (replicate (n + m) x) ≡ replicate m x
drop_more_copies zero m x = ap (λ k. replicate k x) (omega arith)
drop_more_copies (suc n) m x = let e : suc n + m ≡ suc (n + m) = omega arith in rw e (drop_more_copies n m x)

map_copies : {X Y : Type 0} (f : X → Y) (n : ℕ) (x : X) → map f (replicate n x) ≡ replicate n (f x)
map_copies f zero x = refl
map_copies f (suc n) x = ap (λ xs. f x ∷ xs) (map_copies f n x)

pub empty_set : (n : ℕ) (nodes : List (Option ℕ)) → nodes ≡ replicate (n + n) None → map is_some (drop n nodes) ≡ replicate n false
empty_set n nodes e = ap (λ xs. map is_some (drop n xs)) e ∙ ap (map is_some) (drop_more_copies n n None) ∙ map_copies is_some n None

no_node : (n k : ℕ) → node_at (replicate n None) k ≡ None
no_node zero k = refl
no_node (suc n) zero = refl
no_node (suc n) (suc k) = no_node n k

pub empty_tournament : (n : ℕ) (nodes : List (Option ℕ)) → n < 2 ^ 32 → nodes ≡ replicate (n + n) None → IsTournament n nodes
empty_tournament n nodes small e = subst (IsTournament n) (sym e) (record {
  sized = length-replicate (n + n) None;
  small = small;
  leaves = λ p l. let h = no_node (n + n) (n + p) in h ∙ sym (ap (λ o. leaf p (is_some o)) h);
  matches = λ k lo hi. no_node (n + n) k ∙ sym (ap (λ o. earlier o (node_at (replicate (n + n) None) (2 * k + 1))) (no_node (n + n) (2 * k)) ∙ no_node (n + n) (2 * k + 1));
})

-- ---- a leaf is written and the matches above it are played again

half_below : (count leaf k : ℕ) → count ≤ leaf → leaf < count + count → 0 < k → k < count → (2 * k ≡ leaf) ⊎ (2 * k + 1 ≡ leaf) → k ≡ leaf / 2
half_below count leaf k lo hi klo khi (inl e) = omega arith
half_below count leaf k lo hi klo khi (inr e) = omega arith

pub others_stay : (count place : ℕ) (nodes : List (Option ℕ)) (x : Option ℕ) → IsTournament count nodes → place < count
    → (k : ℕ) → 0 < k → k < count → k ≢ (count + place) / 2 → IsMatch (set nodes (count + place) x) k
others_stay count place nodes x t inside k lo hi apart =
    let left = get_or-set_other nodes (count + place) (2 * k) x None (λ e. apart (omega arith)) in
    let right = get_or-set_other nodes (count + place) (2 * k + 1) x None (λ e. apart (omega arith)) in
    get_or-set_other nodes (count + place) k x None (λ e. omega arith) ∙ t.matches k lo hi ∙ ap (λ w. earlier w (node_at nodes (2 * k + 1))) (sym left) ∙ ap (earlier (node_at (set nodes (count + place) x) (2 * k))) (sym right)

leaf_is : (count p : ℕ) (nodes later : List (Option ℕ)) → drop count later ≡ drop count nodes → node_at later (count + p) ≡ node_at nodes (count + p)
leaf_is count p nodes later e = sym (get_or-drop count later p None) ∙ ap (λ xs. get_or xs p None) e ∙ get_or-drop count nodes p None

pub played : (count place : ℕ) (nodes later : List (Option ℕ)) (present : Bool) → IsTournament count nodes → place < count
    → drop count later ≡ drop count (set nodes (count + place) (leaf place present)) → length later ≡ length nodes
    → ((k : ℕ) → 0 < k → k < count → IsMatch later k) → IsTournament count later
played count place nodes later present t inside leaves long matches = record {
  sized = long ∙ t.sized;
  small = t.small;
  leaves = λ p l. leaf_is count p (set nodes (count + place) (leaf place present)) later leaves ∙ by p l (cases_eq p place) ∙ sym (ap (λ o. leaf p (is_some o)) (leaf_is count p (set nodes (count + place) (leaf place present)) later leaves));
  matches = matches;
} where
  named_leaf : (b : Bool) → leaf place b ≡ leaf place (is_some (leaf place b))
  named_leaf true = refl
  named_leaf false = refl

  by : (p : ℕ) → p < count → (p ≡ place) ⊎ (p ≢ place) → node_at (set nodes (count + place) (leaf place present)) (count + p) ≡ leaf p (is_some (node_at (set nodes (count + place) (leaf place present)) (count + p)))
  by p l (inl e) =
      let here = get_or-set_same nodes (count + place) (leaf place present) None (omega (arith, t.sized)) in
      subst (λ q. node_at (set nodes (count + place) (leaf place present)) (count + q) ≡ leaf q (is_some (node_at (set nodes (count + place) (leaf place present)) (count + q)))) (sym e)
      (here ∙ named_leaf present ∙ sym (ap (λ o. leaf place (is_some o)) here))
  by p l (inr ne) =
      let here = get_or-set_other nodes (count + place) (count + p) (leaf place present) None (λ e. ne (omega arith)) in
      here ∙ t.leaves p l ∙ sym (ap (λ o. leaf p (is_some o)) here)

pub set_is : (count place : ℕ) (nodes later : List (Option ℕ)) (present : Bool) → drop count later ≡ drop count (set nodes (count + place) (leaf place present))
    → map is_some (drop count later) ≡ set (map is_some (drop count nodes)) place present
set_is count place nodes later present leaves =
    ap (map is_some) (leaves ∙ drop-set-add count nodes place (leaf place present)) ∙ map-set is_some (drop count nodes) place (leaf place present) ∙ ap (set (map is_some (drop count nodes)) place) (some_leaf present)
  where
    some_leaf : (b : Bool) → is_some (leaf place b) ≡ b
    some_leaf true = refl
    some_leaf false = refl

pub root_read : (count : ℕ) (nodes : List (Option ℕ)) (x : Option ℕ) → IsTournament count nodes → 0 < count → x ≡ get_or nodes 1 x → x ≡ position (λ b. b) (map is_some (drop count nodes))
root_read count nodes x t some is = is ∙ get_or_default nodes 1 x None (omega (arith, t.sized)) ∙ least_is_root count nodes t
