-- The text of records has these records as its lines.
use Rattle.std.proofs.Common.{◌≡◌, ℕ, ◌<◌, ◌==◌, cond, List, [], ◌∷◌, ◌++◌, length, refl, ap, ◌∙◌, arith, append_assoc}
use Rattle.std.specs.List.{slice_split, onto_first, list_any, AllByRecursion}
use Rattle.std.proofs.lemmas.Bool.{or_parts}
use Rattle.tez_record.specs.Line.{without_empty_last, lines, IsRecord}
use Rattle.tez_record.specs.Bag.{text}
use Rattle.tez_lists.proofs.Cases.{cases}

abbrev pub pieces : List ℕ → List (List ℕ)
pieces bytes = slice_split (λ b. b == 10) bytes

pub pieces-record : (r rest : List ℕ) → IsRecord r → pieces (r ++ 10 ∷ rest) ≡ r ∷ pieces rest
pieces-record [] rest h = refl
pieces-record (b ∷ r) rest h =
    let parts = or_parts (b == 10) (list_any (λ x. x == 10) r) h in
    ap (λ t. cond t ([] ∷ pieces (r ++ 10 ∷ rest)) (onto_first b (pieces (r ++ 10 ∷ rest)))) parts.0 ∙ ap (onto_first b) (pieces-record r rest parts.1)

some_first : (b : ℕ) (parts : List (List ℕ)) → 0 < length (onto_first b parts)
some_first b [] = omega arith
some_first b (part ∷ parts) = omega arith

pub some_pieces : (bytes : List ℕ) → 0 < length (pieces bytes)
some_pieces [] = omega arith
some_pieces (b ∷ bytes) = cases (b == 10) (λ e. rw e (omega arith)) (λ e. rw e (some_first b (pieces bytes)))

pub keeps_first : (r : List ℕ) (parts : List (List ℕ)) → 0 < length parts → without_empty_last (r ∷ parts) ≡ r ∷ without_empty_last parts
keeps_first r [] h = absurd (omega arith)
keeps_first [] (part ∷ parts) h = refl
keeps_first (b ∷ r) (part ∷ parts) h = refl

pub lines-text : (bag : List (List ℕ)) → AllByRecursion IsRecord bag → lines (text bag) ≡ bag
lines-text [] all = refl
lines-text (r ∷ bag) all =
    ap lines (append_assoc r (10 ∷ []) (text bag))
    ∙ ap without_empty_last (pieces-record r (text bag) all.0)
    ∙ keeps_first r (pieces (text bag)) (some_pieces (text bag))
    ∙ ap (λ (rest : List (List ℕ)). r ∷ rest) (lines-text bag all.1)
