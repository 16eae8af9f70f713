-- Texts of the file, and keys of its objects.
use Rattle.std.proofs.Common.{◌≡◌, nat_le, ℕ, Result, Ok, Err, MatchResult, IsOk, Some, None, false, cond, ◌≤◌, List, [], ◌∷◌, length, Bool, true, ◌||◌, map, IsTrue, refl, ap, arith}
use Rattle.std.proofs.lemmas.Bool.{and_parts}
use Rattle.std.proofs.lemmas.Str.{is_utf8-from_IsUtf8, IsUtf8-from_is_utf8}
use Rattle.std.specs.List.{list_any, list_all}
use Rattle.std.specs.Option.{option_map_or}
use Rattle.std.specs.Str.{IsUtf8, is_utf8}
use Rattle.serde_json.specs.Data.{Data}
use Rattle.serde_json.specs.Read.{read}
use Rattle.serde_json.specs.Events.{items_len}
use Rattle.serde_json.specs.View.{items_view}
use Rattle.serde_json.specs.declared.value.Value.{Value}
use Rattle.serde_json.proofs.Views.{items_len-items_view}
use Rattle.tez_plan.specs.Ranges.{is_filter_text, is_sink, step_in_range, are_steps, vertex_in_range}
use Rattle.tez_plan.specs.declared.parts.VertexSpec.{VertexSpec}
use Rattle.tez_dag_json.specs.Form.{json}

pub filter_text_fits : (t : List ℕ) → length t ≤ 255 → IsUtf8 t → IsTrue (is_filter_text t)
filter_text_fits t short utf8 = grind (arith, is_utf8-from_IsUtf8 t utf8)

pub any_of_map : {X Y : Type 0} (p : Y → Bool) (f : X → Y) (xs : List X) → list_any p (map f xs) ≡ list_any (λ x. p (f x)) xs
any_of_map p f [] = refl
any_of_map p f (x ∷ xs) = ap (λ b. p (f x) || b) (any_of_map p f xs)

pub length_of_items : (vs : List Value) → items_len (items_view vs) ≡ length vs
length_of_items vs = items_len-items_view vs

-- the value of bytes, and of none
pub json_value : (bytes : List ℕ) (d : Data) → IsUtf8 bytes → read bytes ≡ Some d → json bytes ≡ Some d
unfolding json
json_value bytes d utf8 reads = rw (is_utf8-from_IsUtf8 bytes utf8) reads

no_value_at : (bytes : List ℕ) (b : Bool) → is_utf8 bytes ≡ b → (IsUtf8 bytes → read bytes ≡ None) → cond b (read bytes) None ≡ None
no_value_at bytes true utf8 none = none (IsUtf8-from_is_utf8 bytes utf8)
no_value_at bytes false utf8 none = refl

pub no_json : (bytes : List ℕ) → (IsUtf8 bytes → read bytes ≡ None) → json bytes ≡ None
unfolding json
no_json bytes none = no_value_at bytes _ refl none

pub text_of_filter : (t : List ℕ) → IsTrue (is_filter_text t) → IsUtf8 t
text_of_filter t fits = IsUtf8-from_is_utf8 t ((and_parts _ _ fits).1)

pub ok_where_utf8 : {T E : Type 0} (P : T → Type 0) (Q : E → Type 0) (r : Result T E) (utf8 : Type 0) → MatchResult r P (λ e. (utf8 → ⊥) × Q e) → utf8 → IsOk r
ok_where_utf8 P Q (Ok x) utf8 cases holds = refl
ok_where_utf8 P Q (Err e) utf8 cases holds = absurd (cases.0 holds)

pub all_pass : {X : Type 0} (p : X → Bool) → ((x : X) → p x ≡ true) → (xs : List X) → list_all p xs ≡ true
all_pass p passes [] = refl
all_pass p passes (x ∷ xs) = rw passes (all_pass p passes xs)

pub steps_of_vertex : (v : VertexSpec) → IsTrue (vertex_in_range v) → IsTrue (list_all step_in_range v.steps)
steps_of_vertex v fits = (and_parts (nat_le (length v.steps) 64) _ ((and_parts _ (are_steps v.steps) ((and_parts _ (option_map_or is_sink v.sink true) fits).0)).1)).1
