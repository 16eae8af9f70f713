-- What the first bytes of two records say of their order.
use Rattle.std.proofs.Common.{◌≡◌, cond, ◌==◌, rules, ℕ, zero, suc, ◌+◌, ◌*◌, ◌<◌, List, [], ◌∷◌, length, ◌≤◌, slice_index, refl, sym, ap, ◌∙◌, subst, arith, ◌⊎◌, ⊎_elim, Less, Greater, Equal, inl, inr}
use Rattle.std.proofs.lemmas.Bool.{cases_lt, lt-ltb}
use Rattle.std.specs.Ordering.{nat_cmp, ordering_reverse, ordering_then}
use Rattle.std.specs.Cmp.Lexicographic.{nat_list_cmp_total, slice_cmp}
use Rattle.tez_record.specs.Bag.{compare}
use Rattle.tez_record.specs.Front.{front, Bytes}

below : (k n : ℕ) → k < suc n → (k < n) ⊎ (n ≡ k)
below k n low = ⊎_elim (λ less. inl less) (λ more. inr (omega arith)) (cases_lt k n)

-- equal numbers come from equal bytes
same_front : (n : ℕ) (a b : List ℕ) → Bytes a → Bytes b → front n a ≡ front n b → (k : ℕ) → k < n → slice_index a k ≡ slice_index b k
same_front zero a b p q e k low = absurd (omega arith)
same_front (suc n) a b p q e k low =
    let x : slice_index a n < 256 = p n in
    let y : slice_index b n < 256 = q n in
    let whole : front n a * 256 + slice_index a n ≡ front n b * 256 + slice_index b n = e in
    let parts : front n a ≡ front n b = omega arith in
    let last : slice_index a n ≡ slice_index b n = omega arith in
    ⊎_elim (λ less. same_front n a b p q parts k less) (λ at. subst (λ m. slice_index a m ≡ slice_index b m) at last) (below k n low)

nat_less : (x y : ℕ) → x < y → nat_cmp x y ≡ Less
nat_less x y less = ap (λ t. cond t Less (cond (x == y) Equal Greater)) (lt-ltb x y less)

nat_more : (x y : ℕ) → y < x → nat_cmp x y ≡ Greater
nat_more x y less = grind (arith, rules)

nat_same : (x y : ℕ) → x ≡ y → nat_cmp x y ≡ Equal
nat_same x y e = grind (arith, rules)

nat_next : (x y : ℕ) → nat_cmp x y ≡ nat_cmp (suc x) (suc y)
nat_next x y =
    ⊎_elim (λ less. nat_less x y less ∙ sym (nat_less (suc x) (suc y) (omega arith)))
    (λ more.
    ⊎_elim (λ greater. nat_more x y greater ∙ sym (nat_more (suc x) (suc y) (omega arith)))
    (λ low.
    let e : x ≡ y = omega arith in
    nat_same x y e ∙ sym (nat_same (suc x) (suc y) (omega arith)))
    (cases_lt y x))
    (cases_lt x y)

-- the first byte that differs decides
first_differs : (a b : List ℕ) (n : ℕ) → ((k : ℕ) → k < n → slice_index a k ≡ slice_index b k) → slice_index a n < slice_index b n → compare a b ≡ Less
first_differs [] [] n same less = absurd (omega arith)
first_differs [] (y ∷ b) n same less = refl
first_differs (x ∷ a) [] n same less = absurd (omega arith)
first_differs (x ∷ a) (y ∷ b) zero same less = ap (λ o. ordering_then o (slice_cmp nat_cmp a b)) (nat_less x y less)
first_differs (x ∷ a) (y ∷ b) (suc n) same less =
    let rest = first_differs a b n (λ k low. same (suc k) (omega arith)) less in
    let e : x ≡ y = same 0 (omega arith) in
    ap (λ o. ordering_then o (slice_cmp nat_cmp a b)) (nat_same x y e) ∙ rest

pub front_less : (n : ℕ) (a b : List ℕ) → Bytes a → Bytes b → front n a < front n b → compare a b ≡ Less
front_less zero a b p q less = absurd (omega arith)
front_less (suc n) a b p q less =
    let x : slice_index a n < 256 = p n in
    let y : slice_index b n < 256 = q n in
    let whole : front n a * 256 + slice_index a n < front n b * 256 + slice_index b n = less in
    ⊎_elim (λ lower. front_less n a b p q lower)
    (λ upper.
    let same : front n a ≡ front n b = omega arith in
    let last : slice_index a n < slice_index b n = omega arith in
    first_differs a b n (same_front n a b p q same) last)
    (cases_lt (front n a) (front n b))

pub front_greater : (n : ℕ) (a b : List ℕ) → Bytes a → Bytes b → front n b < front n a → compare a b ≡ Greater
front_greater n a b p q less = nat_list_cmp_total.antisymm a b ∙ ap ordering_reverse (front_less n b a q p less)

pub key_less : (f g : ℕ) (a b : List ℕ) → (f ≡ front 16 a) × Bytes a → (g ≡ front 16 b) × Bytes b → f < g → Less ≡ compare a b
key_less f g a b p q less = sym (front_less 16 a b p.1 q.1 (subst (λ n. n < front 16 b) p.0 (subst (λ n. f < n) q.0 less)))

pub key_greater : (f g : ℕ) (a b : List ℕ) → (f ≡ front 16 a) × Bytes a → (g ≡ front 16 b) × Bytes b → g < f → Greater ≡ compare a b
key_greater f g a b p q less = sym (front_greater 16 a b p.1 q.1 (subst (λ n. n < front 16 a) q.0 (subst (λ n. g < n) p.0 less)))

-- of records with the same bytes, the longer one, which only adds zeros, is the greater one
same_bytes : (n : ℕ) (a b : List ℕ) → length a ≤ n → length b ≤ n → ((k : ℕ) → k < n → slice_index a k ≡ slice_index b k) → compare a b ≡ nat_cmp (length a) (length b)
same_bytes n [] [] p q same = refl
same_bytes n [] (y ∷ b) p q same = sym (nat_less 0 (suc (length b)) (omega arith))
same_bytes n (x ∷ a) [] p q same = sym (nat_more (suc (length a)) 0 (omega arith))
same_bytes zero (x ∷ a) (y ∷ b) p q same = absurd (omega arith)
same_bytes (suc n) (x ∷ a) (y ∷ b) p q same =
    let rest = same_bytes n a b (omega arith) (omega arith) (λ k low. same (suc k) (omega arith)) in
    let e : x ≡ y = same 0 (omega arith) in
    ap (λ o. ordering_then o (slice_cmp nat_cmp a b)) (nat_same x y e) ∙ rest ∙ nat_next (length a) (length b)

pub key_short : (f g : ℕ) (a b : List ℕ) → (f ≡ front 16 a) × Bytes a → (g ≡ front 16 b) × Bytes b → f ≡ g → length a ≤ 16 → length b ≤ 16 → nat_cmp (length a) (length b) ≡ compare a b
key_short f g a b p q e short low = sym (same_bytes 16 a b short low (same_front 16 a b p.1 q.1 (sym p.0 ∙ e ∙ q.0)))
