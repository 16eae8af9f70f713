-- Images of a disk.
--     torn_within        with all pending ranges inside one, and that one not past the stable end, an image is torn there
--     torn_alone         so it is where that range alone is pending
--     image_splits       the range behind all others was torn last
--     image_unwritten    with nothing pending the stable bytes are the only image
--     image_torn         one range more, torn
--     torn_overwrite     what is written is torn from what was there
use Rattle.std.specs.Prelude.{◌≡◌, ◌⊎◌, ℕ, ◌+◌, ◌≤◌, ◌<◌, ◌-◌, List, [], ◌∷◌, ◌++◌, length, take, drop, slice_get, Some, unwrap_or, Bool, true, false, refl}
use Rattle.std.specs.List.{AllByRecursion}
use Rattle.std.proofs.Common.{ap, sym, ◌∙◌, arith, inl, inr, get_or, append_assoc, length-append, length-drop}
use Rattle.std.proofs.Math.Dec.{ltb}
use Rattle.std.proofs.lemmas.Bool.{ltb-true, ltb-false}
use Rattle.std.proofs.lemmas.List.{same_lists, get_or-take, get_or-drop, get_or_append_left, get_or-append_right, take_at, drop_at, length-take-le}
use Rattle.std.proofs.lemmas.Option.{slice_get-get_or, unwrap_or-slice_get}
use Rattle.tez_ports.specs.Image.{Range, IsOutside, IsImage, IsTorn, greatest_end, overwrite}

-- the range lies inside the n bytes at a place
abbrev pub IsWithin : ℕ → ℕ → Range → Type 0
IsWithin at n range = (at ≤ range.0) × (range.0 + range.1 ≤ at + n)

same_get : (xs ys : List ℕ) (i d : ℕ) → slice_get xs i ≡ slice_get ys i → get_or xs i d ≡ get_or ys i d
same_get xs ys i d e = sym (unwrap_or-slice_get xs i d) ∙ ap (λ o. unwrap_or o d) e ∙ unwrap_or-slice_get ys i d

same_slice : (xs ys : List ℕ) (i : ℕ) → i < length xs → i < length ys → get_or xs i 0 ≡ get_or ys i 0 → slice_get xs i ≡ slice_get ys i
same_slice xs ys i l k e = slice_get-get_or xs i 0 l ∙ ap Some e ∙ sym (slice_get-get_or ys i 0 k)

outside_within : (at n place : ℕ) (pending : List Range) → (place < at) ⊎ (at + n ≤ place) → AllByRecursion (IsWithin at n) pending → AllByRecursion (IsOutside place) pending
outside_within at n place [] out all = tt
outside_within at n place (r ∷ rs) (inl out) all = (inl (let low = all.0.0 in omega arith), outside_within at n place rs (inl out) all.1)
outside_within at n place (r ∷ rs) (inr out) all = (inr (let high = all.0.1 in omega arith), outside_within at n place rs (inr out) all.1)

end_within : (at n : ℕ) (pending : List Range) → AllByRecursion (IsWithin at n) pending → greatest_end pending ≤ at + n
end_within at n [] all = omega arith
end_within at n (r ∷ rs) all = let high = all.0.1 in let rest = end_within at n rs all.1 in omega arith

outside_behind : (place : ℕ) (pending : List Range) → greatest_end pending ≤ place → AllByRecursion (IsOutside place) pending
outside_behind place [] l = tt
outside_behind place (r ∷ rs) l = (inr (omega arith), outside_behind place rs (omega arith))

sides : (place at : ℕ) → (place < at) ⊎ (at ≤ place)
sides place at = by (ltb place at) refl where
  by : (b : Bool) → ltb place at ≡ b → (place < at) ⊎ (at ≤ place)
  by true e = inl (ltb-true place at e)
  by false e = inr (ltb-false place at e)

-- the same front of two lists
same_front : (n : ℕ) (xs ys : List ℕ) → n ≤ length xs → n ≤ length ys → ((i : ℕ) → i < n → slice_get xs i ≡ slice_get ys i) → take n xs ≡ take n ys
same_front n xs ys l k same = same_lists (take n xs) (take n ys) (length-take-le n xs l ∙ sym (length-take-le n ys k))
    (λ i d w. let b : i < n = let e = length-take-le n xs l in omega arith in get_or-take n xs i d b ∙ same_get xs ys i d (same i b) ∙ sym (get_or-take n ys i d b))

-- the same rest of two lists
same_rest : (n : ℕ) (xs ys : List ℕ) → length xs - n ≡ length ys - n → ((i : ℕ) → n ≤ i → i < length xs → slice_get xs i ≡ slice_get ys i) → drop n xs ≡ drop n ys
same_rest n xs ys l same = same_lists (drop n xs) (drop n ys) (length-drop n xs ∙ l ∙ sym (length-drop n ys))
    (λ i d w. let b : n + i < length xs = let e = length-drop n xs in omega arith in get_or-drop n xs i d ∙ same_get xs ys (n + i) d (same (n + i) (omega arith) b) ∙ sym (get_or-drop n ys i d))

pub torn_within : (stable image : List ℕ) (pending : List Range) (at n : ℕ) → at ≤ length stable → AllByRecursion (IsWithin at n) pending → IsImage stable pending image → IsTorn at n stable image
torn_within stable image pending at n start all is =
    let end = end_within at n pending all in
    let short = is.no_shorter in
    let long = is.no_longer in
    record {
      before = same_front at image stable (omega arith) start (λ i b. is.outside i (omega arith) (outside_within at n i pending (inl b) all));
      after = same_rest (at + n) image stable (omega arith) (λ i b w. is.outside i (omega arith) (outside_within at n i pending (inr b) all));
      no_shorter = is.no_shorter;
      no_longer = omega arith;
    }

pub torn_alone : (stable image : List ℕ) (at n : ℕ) → at ≤ length stable → IsImage stable ((at, n) ∷ []) image → IsTorn at n stable image
torn_alone stable image at n start is = torn_within stable image ((at, n) ∷ []) at n start ((omega arith, omega arith), tt) is

pub image_unwritten : (stable image : List ℕ) → IsImage stable [] image → image ≡ stable
image_unwritten stable image is =
    let short = is.no_shorter in
    let long = is.no_longer in
    same_lists image stable (omega arith) (λ i d b. same_get image stable i d (is.outside i (omega arith) tt))

pub image_torn : (stable read torn : List ℕ) (pending : List Range) (at n : ℕ) → IsImage stable pending read → IsTorn at n read torn → IsImage stable ((at, n) ∷ pending) torn
image_torn stable read torn pending at n is t =
    let short = is.no_shorter in
    let long = is.no_longer in
    let grows = t.no_shorter in
    let ends = t.no_longer in
    record {
      outside = λ place b out. same place b out.0 ∙ is.outside place b out.1;
      no_shorter = omega arith;
      no_longer = omega arith;
    } where
      at_place : (place : ℕ) → place < length stable → get_or torn place 0 ≡ get_or read place 0 → slice_get torn place ≡ slice_get read place
      at_place place b e = let short = is.no_shorter in let grows = t.no_shorter in same_slice torn read place (omega arith) (omega arith) e

      same : (place : ℕ) → place < length stable → IsOutside place (at, n) → slice_get torn place ≡ slice_get read place
      same place b (inl l) = at_place place b (sym (get_or-take at torn place 0 l) ∙ ap (λ xs. get_or xs place 0) t.before ∙ get_or-take at read place 0 l)
      same place b (inr l) =
          let there : at + n + (place - (at + n)) ≡ place = omega arith in
          at_place place b (ap (λ i. get_or torn i 0) (sym there) ∙ sym (get_or-drop (at + n) torn (place - (at + n)) 0) ∙ ap (λ xs. get_or xs (place - (at + n)) 0) t.after ∙ get_or-drop (at + n) read (place - (at + n)) 0 ∙ ap (λ i. get_or read i 0) there)

pub torn_overwrite : (old bytes : List ℕ) (at : ℕ) → at ≤ length old → IsTorn at (length bytes) old (overwrite at bytes old)
torn_overwrite old bytes at l =
    let front : length (take at old) ≡ at = length-take-le at old l in
    let whole : length (overwrite at bytes old) ≡ at + length bytes + (length old - (at + length bytes)) =
    omega (arith, length-append (take at old) bytes, length-append (take at old ++ bytes) (drop (at + length bytes) old), length-drop (at + length bytes) old) in
    record {
      before = ap (take at) (append_assoc (take at old) bytes (drop (at + length bytes) old)) ∙ take_at (take at old) (bytes ++ drop (at + length bytes) old) at front;
      after = drop_at (take at old ++ bytes) (drop (at + length bytes) old) (at + length bytes) (omega (arith, length-append (take at old) bytes));
      no_shorter = omega arith;
      no_longer = omega arith;
    }

pub image_splits : (stable image : List ℕ) (pending : List Range) (at n : ℕ) → at ≤ length stable → greatest_end pending ≤ at → IsImage stable ((at, n) ∷ pending) image
    → (mid : List ℕ) × IsImage stable pending mid × IsTorn at n mid image
image_splits stable image pending at n start ends is = (mid, image_before, torn_last) where
  mid : List ℕ
  mid = take at image ++ drop at stable

  front : length (take at image) ≡ at
  front = let short = is.no_shorter in length-take-le at image (omega arith)

  whole : length mid ≡ length stable
  whole = omega (arith, front, length-append (take at image) (drop at stable), length-drop at stable)

  low : (place : ℕ) → place < at → get_or mid place 0 ≡ get_or image place 0
  low place b = get_or_append_left (take at image) (drop at stable) 0 place (omega (arith, front)) ∙ get_or-take at image place 0 b

  high : (place : ℕ) → at ≤ place → get_or mid place 0 ≡ get_or stable place 0
  high place b =
      let there : at + (place - at) ≡ place = omega arith in
      get_or-append_right (take at image) (drop at stable) at place 0 front b ∙ get_or-drop at stable (place - at) 0 ∙ ap (λ i. get_or stable i 0) there

  kept : (place : ℕ) → place < length stable → AllByRecursion (IsOutside place) pending → (place < at) ⊎ (at ≤ place) → get_or mid place 0 ≡ get_or stable place 0
  kept place b out (inl l) = low place l ∙ same_get image stable place 0 (is.outside place b (inl l, out))
  kept place b out (inr l) = high place l

  image_before : IsImage stable pending mid
  image_before = record {
    outside = λ place b out. same_slice mid stable place (omega (arith, whole)) b (kept place b out (sides place at));
    no_shorter = omega (arith, whole);
    no_longer = omega (arith, whole);
  }

  behind : (place : ℕ) → at + n ≤ place → place < length image → place < length stable → slice_get image place ≡ slice_get mid place
  behind place b w l = is.outside place l (inr b, outside_behind place pending (omega arith)) ∙ sym (same_slice mid stable place (omega (arith, whole)) l (high place (omega arith)))

  torn_last : IsTorn at n mid image
  torn_last =
      let short = is.no_shorter in
      let long = is.no_longer in
      record {
        before = sym (take_at (take at image) (drop at stable) at front);
        after = same_rest (at + n) image mid (omega (arith, whole)) (λ i b w. behind i b w (omega (arith, whole)));
        no_shorter = omega (arith, whole);
        no_longer = omega (arith, whole);
      }
