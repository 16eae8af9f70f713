-- Fields, numbers and keys.
use Rattle.std.proofs.Common.{◌≡◌, ℕ, zero, suc, ◌+◌, ◌-◌, ◌<◌, ◌≤◌, ◌^◌, ◌==◌, false, List, [], ◌∷◌, ◌++◌, map, length, take, drop, get_or, refl, sym, ap, ◌∙◌, subst, arith, slice_index_or, append_assoc, length-take}
use Rattle.std.specs.List.{join_with_byte, list_any, onto_first, AllByRecursion}
use Rattle.std.proofs.lemmas.List.{get_or-drop, drop-drop, take_more, map-append, length-map}
use Rattle.std.proofs.lemmas.List.Folds.{list_any-append}
use Rattle.std.proofs.lemmas.Bool.{or_from, or_parts}
use Rattle.std.proofs.Math.Nat.{pow-le-pow_right}
use Rattle.memchr.specs.Find.{is_byte, Nowhere, Passes}
use Rattle.tez_lists.proofs.Cases.{cases}
use Rattle.tez_lists.proofs.Flat.{append-nil}
use Rattle.tez_record.specs.Line.{IsRecord}
use Rattle.tez_record.specs.Field.{fields, field, key}
use Rattle.tez_record.proofs.SplitLemmas.{split_none, split_some}

pub fields-none : (r : List ℕ) → Nowhere (Passes (is_byte 9) r) 0 (length r) → fields r ≡ r ∷ []
fields-none r nowhere = split_none 9 r nowhere

-- bytes without a tab are their first field
pub first-none : (r : List ℕ) → Nowhere (Passes (is_byte 9) r) 0 (length r) → r ≡ field r 0
first-none r nowhere = sym (ap (λ fs. slice_index_or fs 0 []) (split_none 9 r nowhere))

-- the first field ends before the first tab
pub first-some : (r : List ℕ) (at : ℕ) → at < length r → Nowhere (Passes (is_byte 9) r) 0 at → Passes (is_byte 9) r at → take at r ≡ field r 0
first-some r at low nowhere hit = sym (ap (λ fs. slice_index_or fs 0 []) (split_some 9 r at low nowhere hit))

pub fields-some : (r : List ℕ) (at : ℕ) → at < length r → Nowhere (Passes (is_byte 9) r) 0 at → Passes (is_byte 9) r at → fields r ≡ field r 0 ∷ fields (drop (at + 1) r)
fields-some r at low nowhere hit = split_some 9 r at low nowhere hit ∙ ap (λ f. f ∷ fields (drop (at + 1) r)) (first-some r at low nowhere hit)

-- there is no field after the last one
pub absent : (fs : List (List ℕ)) (f : List ℕ) (k i : ℕ) → drop k fs ≡ f ∷ [] → k < i → [] ≡ slice_index_or fs i []
absent fs f k i e low =
    let at : k + suc (i - k - 1) ≡ i = omega arith in
    ap (λ (xs : List (List ℕ)). get_or xs (suc (i - k - 1)) []) (sym e) ∙ get_or-drop k fs (suc (i - k - 1)) [] ∙ ap (λ n. get_or fs n []) at

pub next_fields : (fs gs : List (List ℕ)) (f : List ℕ) (k : ℕ) → drop k fs ≡ f ∷ gs → drop (k + 1) fs ≡ gs
next_fields fs gs f k e = sym (drop-drop 1 k fs) ∙ ap (λ (xs : List (List ℕ)). drop 1 xs) e

pub at_field : (fs gs : List (List ℕ)) (k : ℕ) → drop k fs ≡ gs → slice_index_or gs 0 [] ≡ slice_index_or fs k []
at_field fs gs k e = ap (λ (xs : List (List ℕ)). get_or xs 0 []) (sym e) ∙ get_or-drop k fs 0 [] ∙ ap (λ n. get_or fs n []) (let same : k + 0 ≡ k = omega arith in same)

-- a number of k digits is small
pub small : (v k m : ℕ) → v < 10 ^ k → k ≤ m → v < 10 ^ m
small v k m low few = let grows : 10 ^ k ≤ 10 ^ m = pow-le-pow_right (omega arith) few in omega arith

join_more : (fs : List (List ℕ)) (f : List ℕ) → 0 < length fs → join_with_byte 9 (fs ++ f ∷ []) ≡ (join_with_byte 9 fs ++ 9 ∷ []) ++ f
join_more [] f h = absurd (omega arith)
join_more (g ∷ []) f h = sym (append_assoc g (9 ∷ []) f)
join_more (g ∷ h ∷ fs) f some =
    let rest = join_more (h ∷ fs) f (omega arith) in
    ap (λ xs. g ++ 9 ∷ xs) rest ∙ sym (append_assoc g (9 ∷ join_with_byte 9 (h ∷ fs) ++ 9 ∷ []) f) ∙ ap (λ xs. xs ++ f) (sym (append_assoc g (9 ∷ join_with_byte 9 (h ∷ fs)) (9 ∷ [])))

-- the key by one column more
pub first_column : (r : List ℕ) (cols : List ℕ) (c : ℕ) → 0 < length cols → key (take (0 + 1) cols) r ≡ field r (get_or cols 0 c)
first_column r [] c h = absurd (omega arith)
first_column r (d ∷ cols) c h = refl

pub next_column : (r : List ℕ) (cols : List ℕ) (n c : ℕ) → 0 < n → n < length cols → key (take (n + 1) cols) r ≡ (key (take n cols) r ++ 9 ∷ []) ++ field r (get_or cols n c)
next_column r cols n c some low =
    let first : 0 < length (map (field r) (take n cols)) = subst (λ k. 0 < k) (sym (length-map (take n cols) (field r))) (omega (arith, length-take n cols)) in
    ap (λ xs. join_with_byte 9 (map (field r) xs)) (take_more cols n c low)
    ∙ ap (join_with_byte 9) (map-append (field r) (take n cols) (get_or cols n c ∷ []))
    ∙ join_more (map (field r) (take n cols)) (field r (get_or cols n c)) first

-- a step of the loop over columns
pub first_pushed : (old was new f r cols : List ℕ) (n c : ℕ) → n ≤ 0 → n < length cols → was ≡ old ++ key (take n cols) r → f ≡ field r (get_or cols n c) → new ≡ was ++ f → new ≡ old ++ key (take (n + 1) cols) r
first_pushed old was new f r cols zero c none low is field_is pushed = pushed ∙ ap (λ xs. xs ++ f) (is ∙ append-nil old) ∙ ap (λ xs. old ++ xs) (field_is ∙ sym (first_column r cols c low))
first_pushed old was new f r cols (suc n) c none low is field_is pushed = absurd (omega arith)

pub next_pushed : (old was mid new f r cols : List ℕ) (n c : ℕ) → 0 < n → n < length cols → was ≡ old ++ key (take n cols) r → mid ≡ was ++ 9 ∷ [] → f ≡ field r (get_or cols n c) → new ≡ mid ++ f → new ≡ old ++ key (take (n + 1) cols) r
next_pushed old was mid new f r cols n c some low is tab field_is pushed =
    let k = key (take n cols) r in
    pushed ∙ ap (λ xs. xs ++ f) (tab ∙ ap (λ xs. xs ++ 9 ∷ []) is ∙ append_assoc old k (9 ∷ [])) ∙ append_assoc old (k ++ 9 ∷ []) f
    ∙ ap (λ xs. old ++ ((k ++ 9 ∷ []) ++ xs)) field_is ∙ ap (λ xs. old ++ xs) (sym (next_column r cols n c some low))

-- fields and keys of a record are records
onto_record : (b : ℕ) (fs : List (List ℕ)) → (b == 10) ≡ false → AllByRecursion IsRecord fs → AllByRecursion IsRecord (onto_first b fs)
onto_record b [] e h = (or_from (b == 10) false e refl, tt)
onto_record b (f ∷ fs) e h = (or_from (b == 10) (list_any (λ x. x == 10) f) e h.0, h.1)

fields_are_records : (r : List ℕ) → IsRecord r → AllByRecursion IsRecord (fields r)
fields_are_records [] h = (refl, tt)
fields_are_records (b ∷ r) h =
    let parts = or_parts (b == 10) (list_any (λ x. x == 10) r) h in
    let rest = fields_are_records r parts.1 in
    cases (b == 9) (λ e. rw e (refl, rest)) (λ e. rw e (onto_record b (fields r) parts.0 rest))

one_of : (fs : List (List ℕ)) (i : ℕ) → AllByRecursion IsRecord fs → IsRecord (get_or fs i [])
one_of [] i h = refl
one_of (f ∷ fs) zero h = h.0
one_of (f ∷ fs) (suc i) h = one_of fs i h.1

pub field_is_record : (r : List ℕ) (i : ℕ) → IsRecord r → IsRecord (field r i)
field_is_record r i h = one_of (fields r) i (fields_are_records r h)

pub joined_is_record : (left right : List ℕ) → IsRecord left → IsRecord right → IsRecord (left ++ 9 ∷ right)
joined_is_record left right h k = list_any-append (λ x. x == 10) left (9 ∷ right) ∙ or_from (list_any (λ x. x == 10) left) (list_any (λ x. x == 10) right) h k

pub key_is_record : (r cols : List ℕ) → IsRecord r → IsRecord (key cols r)
key_is_record r [] h = refl
key_is_record r (c ∷ []) h = field_is_record r c h
key_is_record r (c ∷ d ∷ cols) h = joined_is_record (field r c) (key (d ∷ cols) r) (field_is_record r c h) (key_is_record r (d ∷ cols) h)
