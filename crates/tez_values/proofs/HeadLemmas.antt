-- Heads on the parts of a bag that is split by key.
--     rows_by_key-part        what a head by key makes of the records whose key passes
--     rows_by_key-parts       the rows of the parts are together the rows of the whole
--     join_rows-parts         so are the pairs of a join
use Rattle.std.proofs.Common.{◌≡◌, ℕ, ◌+◌, Bool, true, false, cond, ◌||◌, List, [], ◌∷◌, ◌++◌, map, refl, sym, ap, ◌∙◌, sum_by, count_by, filter, flat_map, bytes_eq}
use Rattle.std.proofs.lemmas.List.Sums.{sum_by-cons}
use Rattle.std.proofs.lemmas.List.Concat.{flat_map_single}
use Rattle.tez_record.specs.Field.{key}
use Rattle.tez_record.specs.Bag.{sort}
use Rattle.tez_lists.proofs.Cases.{cases, both}
use Rattle.tez_record.proofs.BagLemmas.{same_record, same_bag}
use Rattle.tez_lists.proofs.Sums.{sum_by-flat_map, sum_by-ext, sum_by-parts}
use Rattle.tez_values.specs.Heads.{beside, is_among, distinct, has_key, rows_by_key, join_rows}

pub map-filter : {X Y : Type 0} (f : X → Y) (q : Y → Bool) (xs : List X) → map f (filter (λ x. q (f x)) xs) ≡ filter q (map f xs)
map-filter f q [] = refl
map-filter f q (x ∷ xs) = cases (q (f x)) (λ e. rw e (ap (λ (ys : List _). f x ∷ ys) (map-filter f q xs))) (λ e. rw e (map-filter f q xs))

-- a key that passes is not one that does not
differs : (q : List ℕ → Bool) (k x : List ℕ) → q k ≡ true → q x ≡ false → bytes_eq k x ≡ false
differs q k x passed failed = cases (bytes_eq k x) (λ e. both passed (ap q (same_record k x e) ∙ failed)) (λ e. e)

is_among-filter : (q : List ℕ → Bool) (ks : List (List ℕ)) (k : List ℕ) → q k ≡ true → is_among (filter q ks) k ≡ is_among ks k
is_among-filter q [] k h = refl
is_among-filter q (x ∷ ks) k h = cases (q x)
    (λ e. rw e (ap (λ b. bytes_eq k x || b) (is_among-filter q ks k h)))
    (λ e. rw (e, differs q k x h e) (is_among-filter q ks k h))

pub distinct-filter : (q : List ℕ → Bool) (ks : List (List ℕ)) → distinct (filter q ks) ≡ filter q (distinct ks)
distinct-filter q [] = refl
distinct-filter q (k ∷ ks) = cases (q k)
    (λ e. cases (is_among ks k)
    (λ a. rw (e, is_among-filter q ks k e, a) (distinct-filter q ks))
    (λ a. rw (e, is_among-filter q ks k e, a, e) (ap (λ (rest : List (List ℕ)). k ∷ rest) (distinct-filter q ks))))
    (λ e. cases (is_among ks k)
    (λ a. rw (e, a) (distinct-filter q ks))
    (λ a. rw (e, a, e) (distinct-filter q ks)))

-- the records of a key that passes are all among those whose keys pass
pub filter-key : (q : List ℕ → Bool) (cols k : List ℕ) (rs : List (List ℕ)) → q k ≡ true → filter (has_key cols k) (filter (λ r. q (key cols r)) rs) ≡ filter (has_key cols k) rs
filter-key q cols k [] h = refl
filter-key q cols k (r ∷ rs) h = cases (q (key cols r))
    (λ e. cases (bytes_eq k (key cols r))
    (λ b. rw (e, b) (ap (λ (rest : List (List ℕ)). r ∷ rest) (filter-key q cols k rs h)))
    (λ b. rw (e, b) (filter-key q cols k rs h)))
    (λ e. rw (e, differs q k (key cols r) h e) (filter-key q cols k rs h))

pub map-agree : {X Y : Type 0} (f g : X → Y) (q : X → Bool) (xs : List X) → ((x : X) → q x ≡ true → f x ≡ g x) → map f (filter q xs) ≡ map g (filter q xs)
map-agree f g q [] h = refl
map-agree f g q (x ∷ xs) h = cases (q x)
    (λ e. rw e (λ i. h x e i ∷ map-agree f g q xs h i))
    (λ e. rw e (map-agree f g q xs h))

-- the row of a key
abbrev row : (List (List ℕ) → List ℕ → List ℕ) → List ℕ → List (List ℕ) → List ℕ → List ℕ
row says cols rs k = says (filter (has_key cols k) rs) k

pub rows_by_key-part : (says : List (List ℕ) → List ℕ → List ℕ) (cols : List ℕ) (q : List ℕ → Bool) (rs : List (List ℕ))
    → rows_by_key says cols (filter (λ r. q (key cols r)) rs) ≡ map (row says cols rs) (filter q (distinct (map (key cols) rs)))
rows_by_key-part says cols q rs =
    let part = filter (λ r. q (key cols r)) rs in
    ap (λ ks. map (row says cols part) (distinct ks)) (map-filter (key cols) q rs)
    ∙ ap (map (row says cols part)) (distinct-filter q (map (key cols) rs))
    ∙ map-agree (row says cols part) (row says cols rs) q (distinct (map (key cols) rs)) (λ k h. ap (λ those. says those k) (filter-key q cols k rs h))

sum_by-map : {X Y : Type 0} (g : Y → ℕ) (f : X → Y) (xs : List X) → sum_by g (map f xs) ≡ sum_by (λ x. g (f x)) xs
sum_by-map g f [] = refl
sum_by-map g f (x ∷ xs) = sum_by-cons g (f x) (map f xs) ∙ ap (λ n. g (f x) + n) (sum_by-map g f xs) ∙ sym (sum_by-cons (λ y. g (f y)) x xs)

-- a sum over what f makes of the parts is the sum over what it makes of the whole
sum_by-parts_of : {T X : Type 0} (f : X → List (List ℕ)) (passes : T → X → Bool) (ts : List T) (xs : List X) (g : List ℕ → ℕ) → ((x : X) → count_by (λ t. passes t x) ts ≡ 1)
    → sum_by g (flat_map (λ t. flat_map f (filter (passes t) xs)) ts) ≡ sum_by g (flat_map f xs)
sum_by-parts_of {T} {X} f passes ts xs g one =
    let each = λ (x : X). sum_by g (f x) in
    sum_by-flat_map g (λ t. flat_map f (filter (passes t) xs)) ts
    ∙ sum_by-ext (λ t. sum_by g (flat_map f (filter (passes t) xs))) (λ t. sum_by each (filter (passes t) xs)) ts (λ t. sum_by-flat_map g f (filter (passes t) xs))
    ∙ sym (sum_by-flat_map each (λ t. filter (passes t) xs) ts)
    ∙ sum_by-parts passes ts xs each one
    ∙ sym (sum_by-flat_map g f xs)

-- a head by key makes of the parts, together, what it makes of the whole
pub rows_by_key-parts : {T : Type 0} (says : List (List ℕ) → List ℕ → List ℕ) (cols : List ℕ) (passes : T → List ℕ → Bool) (ts : List T) (rs : List (List ℕ)) → ((k : List ℕ) → count_by (λ t. passes t k) ts ≡ 1)
    → sort (flat_map (λ t. rows_by_key says cols (filter (λ r. passes t (key cols r)) rs)) ts) ≡ sort (rows_by_key says cols rs)
rows_by_key-parts says cols passes ts rs one =
    let ks = distinct (map (key cols) rs) in
    let made = row says cols rs in
    ap (λ f. sort (flat_map f ts)) (λ i t. (rows_by_key-part says cols (passes t) rs ∙ sym (flat_map_single made (filter (passes t) ks))) i)
    ∙ same_bag (flat_map (λ t. flat_map (λ k. made k ∷ []) (filter (passes t) ks)) ts) (flat_map (λ k. made k ∷ []) ks)
    (λ r. sum_by-parts_of (λ k. made k ∷ []) passes ts ks (λ s. cond (bytes_eq r s) 1 0) one)
    ∙ ap sort (flat_map_single made ks)

-- the pairs of the parts are together the pairs of the whole
flat_map-agree : (f g : List ℕ → List (List ℕ)) (q : List ℕ → Bool) (xs : List (List ℕ)) → ((x : List ℕ) → q x ≡ true → f x ≡ g x) → flat_map f (filter q xs) ≡ flat_map g (filter q xs)
flat_map-agree f g q [] h = refl
flat_map-agree f g q (x ∷ xs) h = cases (q x)
    (λ e. rw e (λ i. h x e i ++ flat_map-agree f g q xs h i))
    (λ e. rw e (flat_map-agree f g q xs h))

pub join_rows-parts : {T : Type 0} (cols partner_cols : List ℕ) (passes : T → List ℕ → Bool) (ts : List T) (ls rs : List (List ℕ)) → ((k : List ℕ) → count_by (λ t. passes t k) ts ≡ 1)
    → sort (flat_map (λ t. join_rows cols partner_cols (filter (λ l. passes t (key cols l)) ls) (filter (λ r. passes t (key partner_cols r)) rs)) ts) ≡ sort (join_rows cols partner_cols ls rs)
join_rows-parts cols partner_cols passes ts ls rs one =
    let pairs = λ (those : List (List ℕ)) (l : List ℕ). map (beside l) (filter (has_key partner_cols (key cols l)) those) in
    let part = λ (t : _). filter (λ r. passes t (key partner_cols r)) rs in
    ap (λ f. sort (flat_map f ts)) (λ i t. flat_map-agree (pairs (part t)) (pairs rs) (λ l. passes t (key cols l)) ls
    (λ l h. ap (map (beside l)) (filter-key (passes t) partner_cols (key cols l) rs h)) i)
    ∙ same_bag (flat_map (λ t. flat_map (pairs rs) (filter (λ l. passes t (key cols l)) ls)) ts) (flat_map (pairs rs) ls)
    (λ r. sum_by-parts_of (pairs rs) (λ t l. passes t (key cols l)) ts ls (λ s. cond (bytes_eq r s) 1 0) (λ l. one (key cols l)))
