-- Rows of a head from what it reads.
use Rattle.std.proofs.Common.{◌≡◌, ℕ, List, [], true, false, not, refl, sym, ap, ◌∙◌, subst, filter, Option}
use Rattle.std.specs.Option.{unwrap_or}
use Rattle.tez_record.specs.Bag.{sort}
use Rattle.tez_plan.specs.declared.parts.Head.{Head}
use Rattle.tez_plan.specs.declared.parts.Head.TheVariants.{Join, KeepIn, DropIn}
use Rattle.tez_values.specs.Heads.{head_rows, join_rows}
use Rattle.tez_operators.specs.Process.{Keys, Primary, reads, is_left, columns_at, records_of}
use Rattle.tez_operators.specs.Members.{is_chosen}

abbrev Made : List (List ℕ) → Head → Keys → Primary → Option (List (List ℕ)) → Type 0
Made rows head keys primary side = sort rows ≡ sort (head_rows head (reads head keys primary side))

pub joined : (head : Head) (name : List ℕ) (keys : Keys) (primary : Primary) (side : Option (List (List ℕ))) (cols right_cols : List ℕ) (left right rows : List (List ℕ)) → head ≡ Join name
    → cols ≡ columns_at keys 0 → right_cols ≡ columns_at keys 1 → left ≡ records_of (is_left head keys) primary → right ≡ records_of (λ u. not (is_left head keys u)) primary → rows ≡ join_rows cols right_cols left right → Made rows head keys primary side
joined head name keys primary side cols right_cols left right rows h a b l r e =
    ap sort (e ∙ (λ i. join_rows (a i) (b i) (l i) (r i)))
    ∙ subst (λ x. sort (join_rows (columns_at keys 0) (columns_at keys 1) (records_of (is_left x keys) primary) (records_of (λ u. not (is_left x keys u)) primary)) ≡ sort (head_rows x (reads x keys primary side))) (sym h) refl

pub kept_in : (head : Head) (key_cols side_key : List ℕ) (keys : Keys) (primary : Primary) (side : Option (List (List ℕ))) (cols side_cols : List ℕ) (others left rows : List (List ℕ)) → head ≡ KeepIn key_cols side_key
    → cols ≡ key_cols → side_cols ≡ side_key → others ≡ unwrap_or side [] → left ≡ records_of (is_left head keys) primary → rows ≡ filter (is_chosen true cols side_cols others) left → Made rows head keys primary side
kept_in head key_cols side_key keys primary side cols side_cols others left rows h a b o l e =
    ap sort (e ∙ (λ i. filter (is_chosen true (a i) (b i) (o i)) (l i)))
    ∙ subst (λ x. sort (filter (is_chosen true key_cols side_key (unwrap_or side [])) (records_of (is_left x keys) primary)) ≡ sort (head_rows x (reads x keys primary side))) (sym h) refl

pub dropped_in : (head : Head) (key_cols side_key : List ℕ) (keys : Keys) (primary : Primary) (side : Option (List (List ℕ))) (cols side_cols : List ℕ) (others left rows : List (List ℕ)) → head ≡ DropIn key_cols side_key
    → cols ≡ key_cols → side_cols ≡ side_key → others ≡ unwrap_or side [] → left ≡ records_of (is_left head keys) primary → rows ≡ filter (is_chosen false cols side_cols others) left → Made rows head keys primary side
dropped_in head key_cols side_key keys primary side cols side_cols others left rows h a b o l e =
    ap sort (e ∙ (λ i. filter (is_chosen false (a i) (b i) (o i)) (l i)))
    ∙ subst (λ x. sort (filter (is_chosen false key_cols side_key (unwrap_or side [])) (records_of (is_left x keys) primary)) ≡ sort (head_rows x (reads x keys primary side))) (sym h) refl
