-- Records by key, and records that are chosen by key.
--     grouped_more        one record more in the groups
--     chosen_is           what a look among keys tells
use Rattle.std.proofs.Common.{◌≡◌, ℕ, Bool, true, false, cond, not, List, [], ◌∷◌, ◌++◌, map, refl, sym, ap, ◌∙◌, filter, bytes_eq, Some, unwrap_or}
use mathlib.Core.Bool.{beq}
use Rattle.tez_lists.proofs.Cases.{cases, both}
use Rattle.std.specs.Map.{lookup}
use Rattle.tez_record.specs.Field.{key}
use Rattle.tez_record.proofs.BagLemmas.{same_record}
use Rattle.tez_record.proofs.LoopLemmas.{kept_one, passed_over}
use Rattle.tez_values.specs.Heads.{has_key, is_among}
use Rattle.tez_operators.specs.Groups.{group_of}
use Rattle.tez_operators.specs.Members.{is_chosen}
use Rattle.tez_operators.proofs.TotalLemmas.{eq-sym}

pub grouped_more : (cols k own r : List ℕ) (old now : List (List ℕ × List (List ℕ))) (left more rs : List (List ℕ)) → left ≡ r ∷ more → own ≡ key cols r
    → group_of now k ≡ cond (bytes_eq own k) (group_of old own ++ r ∷ []) (group_of old k)
    → group_of old k ++ filter (has_key cols k) left ≡ filter (has_key cols k) rs → group_of now k ++ filter (has_key cols k) more ≡ filter (has_key cols k) rs
grouped_more cols k own r old now left more rs first is put whole = cases (bytes_eq own k)
    (λ e.
    let passes : has_key cols k r ≡ true = ap (bytes_eq k) (sym is) ∙ eq-sym k own ∙ e in
    let pushed : group_of now k ≡ group_of old k ++ r ∷ [] = put ∙ ap (λ b. cond b (group_of old own ++ r ∷ []) (group_of old k)) e ∙ ap (λ x. group_of old x ++ r ∷ []) (same_record own k e) in
    kept_one (has_key cols k) (group_of old k) left more r (group_of now k) rs first passes pushed whole)
    (λ e.
    let fails : has_key cols k r ≡ false = ap (bytes_eq k) (sym is) ∙ eq-sym k own ∙ e in
    let same : group_of now k ≡ group_of old k = put ∙ ap (λ b. cond b (group_of old own ++ r ∷ []) (group_of old k)) e in
    ap (λ xs. xs ++ filter (has_key cols k) more) same ∙ passed_over (has_key cols k) (group_of old k) left more r rs first fails whole)

-- a group that is there gets one record more
pub group_put : (es now : List (List ℕ × List (List ℕ))) (k q r : List ℕ) (group v : List (List ℕ)) → lookup (bytes_eq q) now ≡ cond (bytes_eq k q) (Some v) (lookup (bytes_eq q) es) → Some group ≡ lookup (bytes_eq k) es → v ≡ group ++ r ∷ []
    → group_of now q ≡ cond (bytes_eq k q) (group_of es k ++ r ∷ []) (group_of es q)
group_put es now k q r group v put there pushed =
    let longer : v ≡ group_of es k ++ r ∷ [] = pushed ∙ ap (λ o. unwrap_or o [] ++ r ∷ []) there in
    cases (bytes_eq k q)
    (λ e. ap (λ o. unwrap_or o []) (put ∙ ap (λ b. cond b (Some v) (lookup (bytes_eq q) es)) e) ∙ longer ∙ ap (λ b. cond b (group_of es k ++ r ∷ []) (group_of es q)) (sym e))
    (λ e. ap (λ o. unwrap_or o []) (put ∙ ap (λ b. cond b (Some v) (lookup (bytes_eq q) es)) e) ∙ ap (λ b. cond b (group_of es k ++ r ∷ []) (group_of es q)) (sym e))

pub chosen_yes : (keep found : Bool) (cols side_cols : List ℕ) (side : List (List ℕ)) (r : List ℕ) → found ≡ is_among (map (key side_cols) side) (key cols r) → beq found keep ≡ true → is_chosen keep cols side_cols side r ≡ true
chosen_yes true true cols side_cols side r is e = sym is
chosen_yes true false cols side_cols side r is e = both e refl
chosen_yes false true cols side_cols side r is e = both e refl
chosen_yes false false cols side_cols side r is e = ap not (sym is)

pub chosen_no : (keep found : Bool) (cols side_cols : List ℕ) (side : List (List ℕ)) (r : List ℕ) → found ≡ is_among (map (key side_cols) side) (key cols r) → beq found keep ≡ false → is_chosen keep cols side_cols side r ≡ false
chosen_no true true cols side_cols side r is e = both refl e
chosen_no true false cols side_cols side r is e = sym is
chosen_no false true cols side_cols side r is e = ap not (sym is)
chosen_no false false cols side_cols side r is e = both refl e
