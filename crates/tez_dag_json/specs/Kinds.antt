-- The kinds of value that a DAG file has, and the keys of its objects.
--     text, word fits, whole low high, number, flag, list read      a value of this kind
--     required, optional, defaulted, chosen                         the value at a key of an object
--     no_others                                                     the object has no further key
use Rattle.std.specs.Prelude.{ℕ, ◌+◌, ℤ, pos, negsuc, Bool, true, false, ◌&&◌, nat_le, List, [], ◌∷◌, length, Option, Some, None, option_and_then, Ok, if◌then◌else◌, is_some}
use Rattle.std.specs.List.{list_any}
use Rattle.std.specs.Map.{lookup}
use Rattle.std.specs.Option.{option_map_or}
use Rattle.std.specs.Str.{bytes_eq}
use Rattle.serde_json.specs.Data.{Data, Items, no_items, item, Members, no_members, member}
use Rattle.serde_json.specs.Events.{items_len}
use Rattle.serde_json.specs.Find.{get, as_str, as_bool, as_number, as_integer, as_array, as_object}
use Rattle.tez_plan.specs.Ranges.{is_within, is_number}
use Rattle.tez_dag_json.specs.Answers.{Answer, ◌>>=◌}
use Rattle.tez_dag_json.specs.Paths.{Path, at_key, at_place, shape, out_of_range}

-- how a value, at its path, is read
abbrev pub Reader : Type 0 → Type 0
Reader X = Path → Data → Answer X

-- ---- kinds of value

abbrev pub text : Reader (List ℕ)
text path d = option_map_or Ok (as_str d) (shape path)

-- a text that passes the test
abbrev pub word : (List ℕ → Bool) → Reader (List ℕ)
word fits path d = do
  s ← text path d
  if fits s then Ok s else shape path

-- a text of at most so many bytes
abbrev pub text_of : ℕ → Reader (List ℕ)
text_of most path d = do
  s ← text path d
  if nat_le (length s) most then Ok s else out_of_range path

-- a number that is whole, and of 64 bits
abbrev pub integer : Data → Option ℤ
integer d = option_and_then as_integer (as_number d)

abbrev pub count_within : ℕ → ℕ → Path → ℤ → Answer ℕ
count_within low high path (pos n) = if is_within low high n then Ok n else out_of_range path
count_within low high path (negsuc n) = out_of_range path

-- a number from low to high
abbrev pub whole : ℕ → ℕ → Reader ℕ
whole low high path d = option_map_or (count_within low high path) (integer d) (shape path)

-- a number of at most 18 digits
abbrev pub number : Reader ℤ
number path d = option_map_or (λ z. if is_number z then Ok z else out_of_range path) (integer d) (shape path)

abbrev pub flag : Reader Bool
flag path d = option_map_or Ok (as_bool d) (shape path)

-- the elements from place n on
abbrev pub each : {X : Type 0} → Reader X → Path → ℕ → Items → Answer (List X)
each read path n no_items = Ok []
each read path n (item d ds) = read (at_place path n) d >>= λ x. each read path (n + 1) ds >>= λ xs. Ok (x ∷ xs)

abbrev pub list : {X : Type 0} → Reader X → Reader (List X)
list read path d = option_map_or (each read path 0) (as_array d) (shape path)

-- a list with so many elements
abbrev pub list_within : {X : Type 0} → ℕ → ℕ → Reader X → Reader (List X)
list_within low high read path d = option_map_or (λ ds. if is_within low high (items_len ds) then each read path 0 ds else out_of_range path) (as_array d) (shape path)

-- ---- keys of an object

abbrev pub an_object : Reader (Unit {0})
an_object path d = if is_some (as_object d) then Ok tt else shape path

abbrev pub required : {X : Type 0} → List ℕ → Reader X → Reader X
required key read path d = option_map_or (read (at_key path key)) (get key d) (shape (at_key path key))

-- with a value that stands for a missing key
abbrev pub defaulted : {X : Type 0} → List ℕ → X → Reader X → Reader X
defaulted key missing read path d = option_map_or (read (at_key path key)) (get key d) (Ok missing)

abbrev pub optional : {X : Type 0} → List ℕ → Reader X → Reader (Option X)
optional key read path d = option_map_or (λ v. read (at_key path key) v >>= λ x. Ok (Some x)) (get key d) (Ok None)

abbrev pub absent : List ℕ → Reader (Unit {0})
absent key path d = option_map_or (λ _. shape (at_key path key)) (get key d) (Ok tt)

-- what the table has for the word at the key
abbrev pub chosen : {X : Type 0} → List ℕ → List (List ℕ × X) → Reader X
chosen key table path d = do
  s ← required key text path d
  option_map_or Ok (lookup (bytes_eq s) table) (shape (at_key path key))

abbrev pub members_among : List (List ℕ) → Members → Bool
members_among keys no_members = true
members_among keys (member k d ms) = list_any (bytes_eq k) keys && members_among keys ms

-- no other keys than these
abbrev pub no_others : List (List ℕ) → Reader (Unit {0})
no_others keys path d = if option_map_or (members_among keys) (as_object d) false then Ok tt else shape path
