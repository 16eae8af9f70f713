use Rattle.std.proofs.Common.{◌≡◌, ℕ, ◌+◌, ◌≤◌, List, [], ◌++◌, length, take, drop, sym, ap, ◌∙◌, arith, append-nil, length-append, length-drop}
use Rattle.std.specs.Int.{w16, w32, w64, to_le_bytes, from_le_bytes}
use Rattle.std.proofs.lemmas.List.{take-append-le, take_all, drop_all, length-take}
use Rattle.std.proofs.lemmas.Slice.{take-put_mid}
use Rattle.std.proofs.lemmas.Nat.{from_le_bytes-to_le_bytes_2, from_le_bytes-to_le_bytes_4, from_le_bytes-to_le_bytes_8}
use Rattle.tez_ids.specs.declared.AttemptId.{AttemptId}
use Rattle.tez_ids.specs.Fixed.{fixed, FitsFixed}
use borrow.Rule.Slice.PartMut.{put_mid, post_of}

-- a write to the last part leaves what stands before it, and that part
pub put_mid-last : {X : Type 0} (a k : ℕ) (xs ys front : List X) → length xs ≤ a + k → take a xs ≡ front → put_mid a k xs ys ≡ front ++ ys
put_mid-last a k xs ys front last before =
    let gone : post_of a k xs ≡ [] = drop_all k (drop a xs) (omega (arith, length-drop a xs)) in
    ap (λ w. w ++ (ys ++ post_of a k xs)) before ∙ ap (λ w. front ++ (ys ++ w)) gone ∙ ap (λ w. front ++ w) (append-nil ys)

take-front : {X : Type 0} (n : ℕ) (xs ys : List X) → n ≡ length xs → take n (xs ++ ys) ≡ xs
take-front n xs ys is = take-append-le n xs ys (omega arith) ∙ take_all n xs (omega arith)

length-put_mid : {X : Type 0} (a k : ℕ) (xs ys : List X) → a + k ≤ length xs → length ys ≡ k → length (put_mid a k xs ys) ≡ length xs
length-put_mid a k xs ys within same =
    omega (arith, length-append (take a xs) (ys ++ post_of a k xs), length-append ys (post_of a k xs), length-take a xs, length-drop k (drop a xs), length-drop a xs)

-- the four parts of 22 bytes, written one after the other
pub written_parts : (s w x y z : List ℕ) → length s ≡ 22 → length w ≡ 8 → length x ≡ 2 → length y ≡ 4 → length z ≡ 8
    → put_mid 14 8 (put_mid 10 4 (put_mid 8 2 (w ++ post_of 0 8 s) x) y) z ≡ w ++ x ++ y ++ z
written_parts s w x y z whole eight two four last =
    let first = w ++ post_of 0 8 s in
    let second = put_mid 8 2 first x in
    let third = put_mid 10 4 second y in
    let first_len : length first ≡ 22 = omega (arith, length-append w (post_of 0 8 s), length-drop 8 s) in
    let second_len : length second ≡ 22 = omega (arith, length-put_mid 8 2 first x (omega arith) two) in
    let third_len : length third ≡ 22 = omega (arith, length-put_mid 10 4 second y (omega arith) four) in
    let at_second : take 10 second ≡ w ++ x = take-put_mid 8 2 first x 10 (omega arith) (omega arith) ∙ ap (λ v. v ++ x) (take-front 8 w (post_of 0 8 s) (omega arith)) in
    let at_third : take 14 third ≡ w ++ x ++ y = take-put_mid 10 4 second y 14 (omega arith) (omega arith) ∙ ap (λ v. v ++ y) at_second in
    put_mid-last 14 8 third z (w ++ x ++ y) (omega arith) at_third

-- the fixed form tells the attempt
pub fixed-injective : (a b : AttemptId) → FitsFixed a → FitsFixed b → fixed a ≡ fixed b → a ≡ b
fixed-injective a b fits_a fits_b same =
    let epoch : a.epoch.0 ≡ b.epoch.0 = sym (from_le_bytes-to_le_bytes_8 a.epoch.0 fits_a.epoch) ∙ ap (λ w. from_le_bytes w64 (take 8 w)) same ∙ from_le_bytes-to_le_bytes_8 b.epoch.0 fits_b.epoch in
    let vertex : a.task.vertex.0 ≡ b.task.vertex.0 = sym (from_le_bytes-to_le_bytes_2 a.task.vertex.0 fits_a.vertex) ∙ ap (λ w. from_le_bytes w16 (take 2 (drop 8 w))) same ∙ from_le_bytes-to_le_bytes_2 b.task.vertex.0 fits_b.vertex in
    let index : a.task.index ≡ b.task.index = sym (from_le_bytes-to_le_bytes_4 a.task.index fits_a.index) ∙ ap (λ w. from_le_bytes w32 (take 4 (drop 10 w))) same ∙ from_le_bytes-to_le_bytes_4 b.task.index fits_b.index in
    let number : a.number ≡ b.number = sym (from_le_bytes-to_le_bytes_8 a.number fits_a.number) ∙ ap (λ w. from_le_bytes w64 (drop 14 w)) same ∙ from_le_bytes-to_le_bytes_8 b.number fits_b.number in
    λ i. record { epoch = record { 0 = epoch i }; task = record { vertex = record { 0 = vertex i }; index = index i }; number = number i }

-- the four parts are the numbers of an attempt
pub written_fixed : (s w x y z : List ℕ) (a : AttemptId) → length s ≡ 22 → w ≡ to_le_bytes w64 a.epoch.0 → x ≡ to_le_bytes w16 a.task.vertex.0
    → y ≡ to_le_bytes w32 a.task.index → z ≡ to_le_bytes w64 a.number → put_mid 14 8 (put_mid 10 4 (put_mid 8 2 (w ++ post_of 0 8 s) x) y) z ≡ fixed a
written_fixed s w x y z a whole is_w is_x is_y is_z =
    written_parts s w x y z whole (ap length is_w) (ap length is_x) (ap length is_y) (ap length is_z) ∙ (λ i. is_w i ++ is_x i ++ is_y i ++ is_z i)
