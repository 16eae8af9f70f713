-- Pairs of a join, and records that are chosen by key.
--     paired              one left record more
--     joined              pairs with a side that is sorted by key are the pairs of a join
--     found_is            an entry with a key is there where the key is among the keys
--     chosen_yes, chosen_no      what that tells
use Rattle.std.proofs.Common.{◌≡◌, ℕ, Bool, true, false, not, ◌==◌, List, [], ◌∷◌, ◌++◌, map, length, refl, sym, ap, ap₂, ◌∙◌, append_assoc, filter, bytes_eq, ne_eqb, zero, suc, ◌+◌, ◌<◌, take, get_or, subst, arith}
use Rattle.std.specs.List.{AllByRecursion}
use Rattle.std.proofs.lemmas.List.{take_more, map-append}
use mathlib.Core.Bool.{beq}
use Rattle.tez_lists.proofs.Cases.{cases, both}
use Rattle.tez_record.specs.Field.{key}
use Rattle.tez_record.specs.Bag.{sort}
use Rattle.tez_plan.specs.declared.parts.Head.{Head}
use Rattle.tez_plan.specs.declared.parts.Head.TheVariants.{KeepIn, DropIn}
use Rattle.tez_values.specs.Heads.{HeadInputs, head_rows, beside, has_key, is_among, join_rows}
use Rattle.tez_values.proofs.SameLemmas.{map-same, is_among-same, join_rows-same}
use Rattle.tez_plain.specs.Keyed.{Entries, keys_in, records_in, with_key, AreByKey, is_chosen}
use Rattle.tez_plain.proofs.OrderLemmas.{Entry}
use Rattle.tez_plain.proofs.KeyLemmas.{records_with_is}

pub paired : (cols right_cols : List ℕ) (right : List (List ℕ)) (es : Entries) → AreByKey right_cols right es → (all rows now left more : List (List ℕ)) (l own : List ℕ) (run : Entries) → left ≡ l ∷ more → own ≡ key cols l → run ≡ with_key own es
    → now ≡ rows ++ map (beside l) (records_in run) → rows ++ join_rows cols right_cols left (records_in es) ≡ all → now ++ join_rows cols right_cols more (records_in es) ≡ all
paired cols right_cols right es are all rows now left more l own run first is found pushed whole =
    let pairs = map (beside l) (filter (has_key right_cols (key cols l)) (records_in es)) in
    let rest = join_rows cols right_cols more (records_in es) in
    let made : now ≡ rows ++ pairs = pushed ∙ ap (λ (xs : Entries). rows ++ map (beside l) (records_in xs)) found ∙ ap (λ xs. rows ++ map (beside l) xs) (records_with_is right_cols own es are.keys ∙ ap (λ k. filter (has_key right_cols k) (records_in es)) is) in
    ap (λ xs. xs ++ rest) made ∙ append_assoc rows pairs rest ∙ ap (λ xs. rows ++ xs) (sym (ap (λ ls. join_rows cols right_cols ls (records_in es)) first)) ∙ whole

-- a pair more
pub pair_pushed : (left : List ℕ) (run : Entries) (i : ℕ) (e : Entry) (start was now : List (List ℕ)) → i < length run → e ≡ get_or run i e → was ≡ start ++ map (beside left) (records_in (take i run))
    → now ≡ was ++ (left ++ 9 ∷ e.1.now) ∷ [] → now ≡ start ++ map (beside left) (records_in (take (i + 1) run))
pair_pushed left run i e start was now low is before pushed =
    let pairs = λ (es : Entries). map (beside left) (records_in es) in
    let more : pairs (take (i + 1) run) ≡ pairs (take i run) ++ beside left e.1.now ∷ [] =
    ap pairs (take_more run i e low ∙ ap (λ x. take i run ++ x ∷ []) (sym is)) ∙ ap (map (beside left)) (map-append (λ (x : Entry). x.1.now) (take i run) (e ∷ [])) ∙ map-append (beside left) (records_in (take i run)) (e.1.now ∷ []) in
    pushed ∙ ap (λ xs. xs ++ beside left e.1.now ∷ []) before ∙ append_assoc start (pairs (take i run)) (beside left e.1.now ∷ []) ∙ ap (λ xs. start ++ xs) (sym more)

pub at_entry : (P : List ℕ → Type 0) (run : Entries) (i : ℕ) (e : Entry) → i < length run → e ≡ get_or run i e → AllByRecursion P (records_in run) → P e.1.now
at_entry P [] i e low is all = absurd (omega arith)
at_entry P (x ∷ run) zero e low is all = subst (λ (y : Entry). P y.1.now) (sym is) all.0
at_entry P (x ∷ run) (suc i) e low is all = at_entry P run i e (omega arith) is all.1

pub joined : (cols right_cols : List ℕ) (left right rows : List (List ℕ)) (es : Entries) → AreByKey right_cols right es → rows ≡ join_rows cols right_cols left (records_in es) → sort rows ≡ sort (join_rows cols right_cols left right)
joined cols right_cols left right rows es are made = ap sort made ∙ join_rows-same cols right_cols left left (records_in es) right refl are.records

some_with : (k : List ℕ) (es : Entries) → not (length (with_key k es) == 0) ≡ is_among (keys_in es) k
some_with k [] = refl
some_with k (e ∷ es) = cases (bytes_eq k e.0)
    (λ t. rw t (ap not (ne_eqb (suc (length (with_key k es))) 0 (λ z. omega arith))))
    (λ f. rw f (some_with k es))

pub found_is : (cols own : List ℕ) (side : List (List ℕ)) (es run : Entries) (k : List ℕ) → AreByKey cols side es → own ≡ k → run ≡ with_key own es → not (length run == 0) ≡ is_among (map (key cols) side) k
found_is cols own side es run k are is found =
    ap (λ (xs : Entries). not (length xs == 0)) found
    ∙ some_with own es
    ∙ ap₂ is_among are.keys is
    ∙ is_among-same (map (key cols) (records_in es)) (map (key cols) side) k (map-same (key cols) (records_in es) side are.records)

pub chosen_yes : (keep found : Bool) (cols side_cols : List ℕ) (side : List (List ℕ)) (r : List ℕ) → found ≡ is_among (map (key side_cols) side) (key cols r) → beq found keep ≡ true → is_chosen keep cols side_cols side r ≡ true
chosen_yes true true cols side_cols side r is e = sym is
chosen_yes true false cols side_cols side r is e = both e refl
chosen_yes false true cols side_cols side r is e = both e refl
chosen_yes false false cols side_cols side r is e = ap not (sym is)

pub chosen_no : (keep found : Bool) (cols side_cols : List ℕ) (side : List (List ℕ)) (r : List ℕ) → found ≡ is_among (map (key side_cols) side) (key cols r) → beq found keep ≡ false → is_chosen keep cols side_cols side r ≡ false
chosen_no true true cols side_cols side r is e = both refl e
chosen_no true false cols side_cols side r is e = sym is
chosen_no false true cols side_cols side r is e = ap not (sym is)
chosen_no false false cols side_cols side r is e = both refl e

-- ---- heads that choose

pub kept_in : (head : Head) (key_cols side_key : List ℕ) (inputs : HeadInputs) (cols side_cols : List ℕ) (others primary rows : List (List ℕ)) → head ≡ KeepIn key_cols side_key
    → cols ≡ key_cols → side_cols ≡ side_key → others ≡ inputs.side → primary ≡ inputs.primary → rows ≡ filter (is_chosen true cols side_cols others) primary → sort rows ≡ sort (head_rows head inputs)
kept_in head key_cols side_key inputs cols side_cols others primary rows h a b o l e =
    ap sort (e ∙ (λ i. filter (is_chosen true (a i) (b i) (o i)) (l i)))
    ∙ ap (λ x. sort (head_rows x inputs)) (sym h)

pub dropped_in : (head : Head) (key_cols side_key : List ℕ) (inputs : HeadInputs) (cols side_cols : List ℕ) (others primary rows : List (List ℕ)) → head ≡ DropIn key_cols side_key
    → cols ≡ key_cols → side_cols ≡ side_key → others ≡ inputs.side → primary ≡ inputs.primary → rows ≡ filter (is_chosen false cols side_cols others) primary → sort rows ≡ sort (head_rows head inputs)
dropped_in head key_cols side_key inputs cols side_cols others primary rows h a b o l e =
    ap sort (e ∙ (λ i. filter (is_chosen false (a i) (b i) (o i)) (l i)))
    ∙ ap (λ x. sort (head_rows x inputs)) (sym h)
