-- Loops over the edges and vertices of a plan, and look-ups by number.
--     pushed, added, passed      an element that a loop takes, in a list or in lists put together, and one that it passes over
--     at_number                  the element of a number
--     file_lines, no_file        the lines of the first file of a name
use Rattle.std.proofs.Common.{◌≡◌, ◌∙◌, ℕ, ◌+◌, ◌<◌, ◌≤◌, Bool, true, false, cond, List, [], ◌∷◌, ◌++◌, length, map, flat_map, filter, find, take, get_or, Option, Some, None, slice_get, refl, sym, ap, append_assoc, subst, ltb-true, ltb-false}
use Rattle.std.specs.List.{position, position_or_len}
use Rattle.std.specs.Prelude.{nat_lt}
use Rattle.std.specs.Option.{option_map_or}
use Rattle.std.proofs.lemmas.List.{take_more, map-append}
use Rattle.std.proofs.lemmas.List.Folds.{find_at}
use Rattle.std.proofs.lemmas.Option.{slice_get_read, slice_get_past}
use Rattle.std.specs.Str.{bytes_eq}
use Rattle.tez_lists.proofs.Flat.{append-nil, flat-append, filter-append}
use Rattle.tez_record.specs.Line.{lines}
use Rattle.tez_meaning.specs.Jobs.{Files, job_of}
use Rattle.tez_meaning.specs.Value.{lines_of}
use Rattle.tez_plan.specs.Dag.{Dag}

last_kept : {X : Type 0} (q : X → Bool) (xs : List X) (i : ℕ) (x : X) → i < length xs → x ≡ get_or xs i x → q x ≡ true → filter q (take (i + 1) xs) ≡ filter q (take i xs) ++ x ∷ []
last_kept q xs i x low is e =
    ap (filter q) (take_more xs i x low ∙ ap (λ y. take i xs ++ y ∷ []) (sym is))
    ∙ filter-append q (take i xs) (x ∷ [])
    ∙ ap (λ b. filter q (take i xs) ++ cond b (x ∷ []) []) e

last_dropped : {X : Type 0} (q : X → Bool) (xs : List X) (i : ℕ) (x : X) → i < length xs → x ≡ get_or xs i x → q x ≡ false → filter q (take (i + 1) xs) ≡ filter q (take i xs)
last_dropped q xs i x low is e =
    ap (filter q) (take_more xs i x low ∙ ap (λ y. take i xs ++ y ∷ []) (sym is))
    ∙ filter-append q (take i xs) (x ∷ [])
    ∙ ap (λ b. filter q (take i xs) ++ cond b (x ∷ []) []) e
    ∙ append-nil (filter q (take i xs))

pub pushed : {X Y : Type 0} (k : X → Y) (q : X → Bool) (xs : List X) (start was now : List Y) (i : ℕ) (x : X) → i < length xs → x ≡ get_or xs i x → q x ≡ true
    → was ≡ start ++ map k (filter q (take i xs)) → now ≡ was ++ k x ∷ [] → now ≡ start ++ map k (filter q (take (i + 1) xs))
pushed k q xs start was now i x low is e w n =
    n
    ∙ ap (λ ys. ys ++ k x ∷ []) w
    ∙ append_assoc start (map k (filter q (take i xs))) (k x ∷ [])
    ∙ ap (λ ys. start ++ ys) (sym (ap (map k) (last_kept q xs i x low is e) ∙ map-append k (filter q (take i xs)) (x ∷ [])))

pub added : {X Y : Type 0} (f : X → List Y) (q : X → Bool) (xs : List X) (start was now : List Y) (i : ℕ) (x : X) → i < length xs → x ≡ get_or xs i x → q x ≡ true
    → was ≡ start ++ flat_map f (filter q (take i xs)) → now ≡ was ++ f x → now ≡ start ++ flat_map f (filter q (take (i + 1) xs))
added f q xs start was now i x low is e w n =
    n
    ∙ ap (λ ys. ys ++ f x) w
    ∙ append_assoc start (flat_map f (filter q (take i xs))) (f x)
    ∙ ap (λ ys. start ++ ys) (sym (ap (flat_map f) (last_kept q xs i x low is e) ∙ flat-append f (filter q (take i xs)) (x ∷ []) ∙ ap (λ ys. flat_map f (filter q (take i xs)) ++ ys) (append-nil (f x))))

pub passed : {X Y : Type 0} (g : List X → List Y) (q : X → Bool) (xs : List X) (start was : List Y) (i : ℕ) (x : X) → i < length xs → x ≡ get_or xs i x → q x ≡ false
    → was ≡ start ++ g (filter q (take i xs)) → was ≡ start ++ g (filter q (take (i + 1) xs))
passed g q xs start was i x low is e w = w ∙ ap (λ ys. start ++ g ys) (sym (last_dropped q xs i x low is e))

pub map_last : {X Y : Type 0} (k : X → Y) (xs : List X) (start was now : List Y) (i : ℕ) (x : X) → i < length xs → x ≡ get_or xs i x
    → was ≡ start ++ map k (take i xs) → now ≡ was ++ k x ∷ [] → now ≡ start ++ map k (take (i + 1) xs)
map_last k xs start was now i x low is w n =
    n
    ∙ ap (λ ys. ys ++ k x ∷ []) w
    ∙ append_assoc start (map k (take i xs)) (k x ∷ [])
    ∙ ap (λ ys. start ++ ys) (sym (ap (map k) (take_more xs i x low ∙ ap (λ y. take i xs ++ y ∷ []) (sym is)) ∙ map-append k (take i xs) (x ∷ [])))

pub at_number : {X : Type 0} (xs : List X) (i : ℕ) (x : X) → i < length xs → x ≡ get_or xs i x → slice_get xs i ≡ Some x
at_number xs i x low is = slice_get_read xs (length xs) i x refl low is

-- what is asked of the element of a number
pub told_at : {X Y : Type 0} (f : X → Y) (d : Y) (xs : List X) (i : ℕ) (x : X) → i < length xs → x ≡ get_or xs i x → option_map_or f (slice_get xs i) d ≡ f x
told_at f d xs i x low is = ap (λ o. option_map_or f o d) (at_number xs i x low is)

place_is : {X : Type 0} (test : X → Bool) (xs : List X) (i : ℕ) → position test xs ≡ Some i → (i ≡ position_or_len test xs) × (i < length xs)
place_is test xs i h = by (nat_lt (position_or_len test xs) (length xs)) refl h
  where
    by : (b : Bool) → nat_lt (position_or_len test xs) (length xs) ≡ b → cond b (Some (position_or_len test xs)) None ≡ Some i → (i ≡ position_or_len test xs) × (i < length xs)
    by true e h = let same : position_or_len test xs ≡ i = cc in (sym same, subst (λ n. n < length xs) same (ltb-true (position_or_len test xs) (length xs) e))
    by false e h = absurd (cc)

found_at : {X : Type 0} (test : X → Bool) (xs : List X) (i : ℕ) (x : X) → position test xs ≡ Some i → x ≡ get_or xs i x → find test xs ≡ Some x
found_at test xs i x h is =
    let place = place_is test xs i h in
    find_at test xs ∙ ap (slice_get xs) (sym place.0) ∙ at_number xs i x place.1 is

found_nowhere : {X : Type 0} (test : X → Bool) (xs : List X) → position test xs ≡ None → find test xs ≡ None
found_nowhere test xs h = find_at test xs ∙ slice_get_past xs (position_or_len test xs) (past (nat_lt (position_or_len test xs) (length xs)) refl h)
  where
    past : (b : Bool) → nat_lt (position_or_len test xs) (length xs) ≡ b → cond b (Some (position_or_len test xs)) None ≡ None → length xs ≤ position_or_len test xs
    past true e h = absurd (cc)
    past false e h = ltb-false (position_or_len test xs) (length xs) e

pub file_lines : (p : Dag) (files : Files) (name : List ℕ) (i : ℕ) (file : List ℕ × List ℕ) → position (λ f. bytes_eq f.0 name) files ≡ Some i → file ≡ get_or files i file → lines_of (job_of p files) name ≡ lines file.1
file_lines p files name i file h is = ap (λ (o : Option (List ℕ × List ℕ)). option_map_or {T = List ℕ × List ℕ} {U = List (List ℕ)} (λ f. lines f.1) o []) (found_at (λ f. bytes_eq f.0 name) files i file h is)

pub no_file : (p : Dag) (files : Files) (name : List ℕ) → position (λ f. bytes_eq f.0 name) files ≡ None → lines_of (job_of p files) name ≡ []
no_file p files name h = ap (λ (o : Option (List ℕ × List ℕ)). option_map_or {T = List ℕ × List ℕ} {U = List (List ℕ)} (λ f. lines f.1) o []) (found_nowhere (λ f. bytes_eq f.0 name) files h)
