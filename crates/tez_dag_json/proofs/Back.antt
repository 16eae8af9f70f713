-- What is written reads back: the parts of a plan.
use Rattle.std.proofs.Common.{◌≡◌, ℕ, suc, ◌+◌, pos, negsuc, ℤ, Bool, true, nat_le, List, [], ◌∷◌, length, map, codes, Ok, refl, ap, arith}
use Rattle.std.proofs.lemmas.Bool.{and_parts}
use Rattle.std.specs.List.{list_all}
use Rattle.std.specs.Str.{is_utf8}
use Rattle.serde_json.specs.Data.{Data}
use Rattle.serde_json.specs.Events.{items_len}
use Rattle.serde_json.specs.View.{items_of}
use Rattle.tez_plan.specs.declared.parts.Head.{Head}
use Rattle.tez_plan.specs.declared.parts.Head.TheVariants.{Each, Sum, Count, Distinct, Join, Lookup, KeepIn, DropIn}
use Rattle.tez_plan.specs.declared.parts.Step.{Step}
use Rattle.tez_plan.specs.declared.parts.Step.TheVariants.{Tokenise, Filter, Project}
use Rattle.tez_plan.specs.declared.parts.Test.TheVariants.{Eq, Ne, Contains, Lt, Gt}
use Rattle.tez_plan.specs.Ranges.{is_within, is_column, are_columns, is_number, is_filter_text, head_in_range, step_in_range}
use Rattle.tez_dag_json.specs.Paths.{Path, at_key, at_place}
use Rattle.tez_dag_json.specs.Kinds.{Reader, number, each, list_within}
use Rattle.tez_dag_json.specs.Form.{column, columns, plain_head, sum_head, join_head, two_keys, lookup_head, keep_in_head, drop_in_head, heads, head, tokenise_step, text_test, number_test, tests, filter_test, filter_step, project_step, steps, step}
use Rattle.tez_dag_json.specs.Canonical.{count, signed, list_of, cols_value, head_value, step_value}

pub column_fits : (n : ℕ) → is_column n ≡ true → is_within 0 255 n ≡ true
column_fits n fits = grind arith

pub number_back : (path : Path) (z : ℤ) → is_number z ≡ true → number path (signed z) ≡ Ok z
number_back path (pos n) fits = rw fits
number_back path (negsuc n) fits = rw fits

pub each_back : {X : Type 0} (read : Reader X) (value : X → Data) (fits : X → Bool) → ((path : Path) (x : X) → fits x ≡ true → read path (value x) ≡ Ok x)
    → (path : Path) (n : ℕ) (xs : List X) → list_all fits xs ≡ true → each read path n (items_of (map value xs)) ≡ Ok xs
each_back read value fits back path n [] all = refl
each_back read value fits back path n (x ∷ xs) all =
    let parts = and_parts (fits x) (list_all fits xs) all in rw (back (at_place path n) x parts.0, each_back read value fits back path (n + 1) xs parts.1)

items_len-items_of : {X : Type 0} (value : X → Data) (xs : List X) → items_len (items_of (map value xs)) ≡ length xs
items_len-items_of value [] = refl
items_len-items_of value (x ∷ xs) = ap (λ n. suc n) (items_len-items_of value xs)

pub list_within_back : {X : Type 0} (low high : ℕ) (read : Reader X) (value : X → Data) (fits : X → Bool) → ((path : Path) (x : X) → fits x ≡ true → read path (value x) ≡ Ok x)
    → (path : Path) (xs : List X) → is_within low high (length xs) ≡ true → list_all fits xs ≡ true → list_within low high read path (list_of value xs) ≡ Ok xs
list_within_back low high read value fits back path xs long all = rw (items_len-items_of value xs, long) (each_back read value fits back path 0 xs all)

column_back : (path : Path) (n : ℕ) → is_column n ≡ true → column path (count n) ≡ Ok n
column_back path n fits = rw (column_fits n fits)

pub columns_back : (path : Path) (cols : List ℕ) → are_columns cols ≡ true → columns path (cols_value cols) ≡ Ok cols
columns_back path cols fits =
    let parts = and_parts (is_within 1 8 (length cols)) (list_all is_column cols) fits in list_within_back 1 8 column count is_column column_back path cols parts.0 parts.1

pub head_back : (path : Path) (h : Head) → head_in_range h ≡ true → head path (head_value h) ≡ Ok h
unfolding head heads plain_head sum_head join_head two_keys lookup_head keep_in_head drop_in_head head_value
head_back path Each fits = refl
head_back path (Sum value) fits = rw (column_fits value fits)
head_back path Count fits = refl
head_back path Distinct fits = refl
head_back path (Join left) fits = rw fits
head_back path (Lookup key side_key) fits =
    let parts = and_parts (are_columns key) (are_columns side_key) fits in rw (columns_back (at_key path (codes "key")) key parts.0, columns_back (at_key path (codes "side_key")) side_key parts.1)
head_back path (KeepIn key side_key) fits =
    let parts = and_parts (are_columns key) (are_columns side_key) fits in rw (columns_back (at_key path (codes "key")) key parts.0, columns_back (at_key path (codes "side_key")) side_key parts.1)
head_back path (DropIn key side_key) fits =
    let parts = and_parts (are_columns key) (are_columns side_key) fits in rw (columns_back (at_key path (codes "key")) key parts.0, columns_back (at_key path (codes "side_key")) side_key parts.1)

text_fits : (t : List ℕ) → is_filter_text t ≡ true → nat_le (length t) 255 ≡ true
text_fits t fits = (and_parts (nat_le (length t) 255) (is_utf8 t) fits).0

pub step_back : (path : Path) (s : Step) → step_in_range s ≡ true → step path (step_value s) ≡ Ok s
unfolding step steps tokenise_step filter_step filter_test tests text_test number_test project_step step_value
step_back path Tokenise fits = refl
step_back path (Filter field (Eq text)) fits = let parts = and_parts (is_column field) (is_filter_text text) fits in rw (column_fits field parts.0, text_fits text parts.1)
step_back path (Filter field (Ne text)) fits = let parts = and_parts (is_column field) (is_filter_text text) fits in rw (column_fits field parts.0, text_fits text parts.1)
step_back path (Filter field (Contains text)) fits = let parts = and_parts (is_column field) (is_filter_text text) fits in rw (column_fits field parts.0, text_fits text parts.1)
step_back path (Filter field (Lt z)) fits = let parts = and_parts (is_column field) (is_number z) fits in rw (column_fits field parts.0, number_back (at_key path (codes "value")) z parts.1)
step_back path (Filter field (Gt z)) fits = let parts = and_parts (is_column field) (is_number z) fits in rw (column_fits field parts.0, number_back (at_key path (codes "value")) z parts.1)
step_back path (Project cols) fits = rw (columns_back (at_key path (codes "cols")) cols fits)
