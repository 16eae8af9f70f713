-- Heads, each on whole bags.
--     distinct keys                      each key once
--     count_rows, sum_rows ..            the records that a head makes
--     head_rows head inputs              those of the vertex's head
--     is_bad_for_head head r             the head reads a field of r that is no number
use Rattle.std.specs.Prelude.{◌≡◌, ℕ, ℤ, pos, ◌+ℤ◌, Bool, false, not, cond, List, [], ◌∷◌, ◌++◌, map, length, is_none}
use Rattle.std.specs.List.{filter, flat_map, list_any, fold}
use Rattle.std.specs.Option.{unwrap_or}
use Rattle.std.specs.Str.{bytes_eq}
use Rattle.std.specs.Fmt.{decimal, signed_decimal}
use Rattle.tez_record.specs.Field.{key, number}
use Rattle.tez_record.specs.Bag.{sort}
use Rattle.tez_plan.specs.declared.parts.Head.{Head}
use Rattle.tez_plan.specs.declared.parts.Head.TheVariants.{Each, Sum, Count, Distinct, Join, Lookup, KeepIn, DropIn}

-- What a head reads. A join's left source is the primary, and its other source the partner.
pub record HeadInputs : Type 0 where
  pub columns : List ℕ
  pub primary : List (List ℕ)
  pub partner_columns : List ℕ
  pub partner : List (List ℕ)
  pub side : List (List ℕ)

-- two texts with a tab between them
abbrev pub beside : List ℕ → List ℕ → List ℕ
beside a b = a ++ 9 ∷ b

abbrev pub is_among : List (List ℕ) → List ℕ → Bool
is_among ks k = list_any (bytes_eq k) ks

abbrev pub distinct : List (List ℕ) → List (List ℕ)
distinct [] = []
distinct (k ∷ ks) = cond (is_among ks k) (distinct ks) (k ∷ distinct ks)

abbrev pub has_key : List ℕ → List ℕ → List ℕ → Bool
has_key cols k r = bytes_eq k (key cols r)

abbrev pub is_good : ℕ → List ℕ → Bool
is_good value r = not (is_none (number r value))

-- a record for each distinct key, which says something of the records with that key
abbrev pub rows_by_key : (List (List ℕ) → List ℕ → List ℕ) → List ℕ → List (List ℕ) → List (List ℕ)
rows_by_key says cols rs = map (λ k. says (filter (has_key cols k) rs) k) (distinct (map (key cols) rs))

-- the sum of a field
abbrev pub sum_of : ℕ → List (List ℕ) → ℤ
sum_of value rs = fold (λ n r. n +ℤ unwrap_or (number r value) (pos 0)) (pos 0) rs

abbrev pub sum_rows : List ℕ → ℕ → List (List ℕ) → List (List ℕ)
sum_rows cols value rs = rows_by_key (λ rs k. beside k (signed_decimal (sum_of value rs))) cols (filter (is_good value) rs)

abbrev pub count_rows : List ℕ → List (List ℕ) → List (List ℕ)
count_rows cols rs = rows_by_key (λ rs k. beside k (decimal (length rs))) cols rs

abbrev pub distinct_rows : List ℕ → List (List ℕ) → List (List ℕ)
distinct_rows cols rs = rows_by_key (λ those k. k) cols rs

-- each record beside each partner with the same key
abbrev pub join_rows : List ℕ → List ℕ → List (List ℕ) → List (List ℕ) → List (List ℕ)
join_rows cols partner_cols ls rs = flat_map (λ l. map (beside l) (filter (has_key partner_cols (key cols l)) rs)) ls

abbrev pub keep_rows : List ℕ → List ℕ → List (List ℕ) → List (List ℕ) → List (List ℕ)
keep_rows cols side_cols ls side = filter (λ l. is_among (map (key side_cols) side) (key cols l)) ls

abbrev pub drop_rows : List ℕ → List ℕ → List (List ℕ) → List (List ℕ) → List (List ℕ)
drop_rows cols side_cols ls side = filter (λ l. not (is_among (map (key side_cols) side) (key cols l))) ls

abbrev pub head_rows : Head → HeadInputs → List (List ℕ)
head_rows Each i = i.primary
head_rows (Sum value) i = sum_rows i.columns value i.primary
head_rows Count i = count_rows i.columns i.primary
head_rows Distinct i = distinct_rows i.columns i.primary
head_rows (Join left) i = join_rows i.columns i.partner_columns i.primary i.partner
head_rows (Lookup key side_key) i = join_rows key side_key i.primary i.side
head_rows (KeepIn key side_key) i = keep_rows key side_key i.primary i.side
head_rows (DropIn key side_key) i = drop_rows key side_key i.primary i.side

abbrev pub is_bad_for_head : Head → List ℕ → Bool
is_bad_for_head Each r = false
is_bad_for_head (Sum value) r = is_none (number r value)
is_bad_for_head Count r = false
is_bad_for_head Distinct r = false
is_bad_for_head (Join left) r = false
is_bad_for_head (Lookup key side_key) r = false
is_bad_for_head (KeepIn key side_key) r = false
is_bad_for_head (DropIn key side_key) r = false

-- inputs with the same bags, in whatever order
pub record SameInputs (i j : HeadInputs) : Type 0 where
  pub columns : i.columns ≡ j.columns
  pub primary : sort i.primary ≡ sort j.primary
  pub partner_columns : i.partner_columns ≡ j.partner_columns
  pub partner : sort i.partner ≡ sort j.partner
  pub side : sort i.side ≡ sort j.side
