-- How long a compact JSON text can be, by the value.
use Rattle.std.proofs.Common.{◌≡◌, ℕ, zero, suc, ◌+◌, ◌*◌, ◌/◌, ◌%◌, ◌==◌, ◌≤◌, pos, negsuc, ℤ, Bool, true, false, cond, nat_lt, List, [], ◌∷◌, ◌++◌, length, map, decimal, arith, length-append}
use Rattle.std.proofs.Math.Nat.{mul-suc}
use Rattle.std.proofs.lemmas.Bool.{and_parts}
use Rattle.std.specs.List.{list_all}
use Rattle.std.specs.Char.{digit_char}
use Rattle.std.specs.Fmt.{digits, digits_onto, digit_glyph, signed_decimal}
use Rattle.json.specs.Print.{escape_byte, escape_letter, escape, quoted}
use Rattle.serde_json.specs.Data.{Num, unsigned, negative, float, Data, null, boolean, number, string, array, object, Items, no_items, item, Members, no_members, member}
use Rattle.serde_json.specs.View.{items_of}
use Rattle.serde_json.specs.Written.{number_text, comma_if, compact_text, items_text, members_text}

-- a byte of a text takes at most six, and a number at most 65
abbrev mutual
  pub size : Data → ℕ
  size null = 5
  size (boolean b) = 5
  size (number n) = 65
  size (string s) = 6 * length s + 2
  size (array ds) = 1 + items_size ds
  size (object ms) = 1 + members_size ms

  -- with the closing bracket and the commas
  pub items_size : Items → ℕ
  items_size no_items = 1
  items_size (item d ds) = 1 + size d + items_size ds

  pub members_size : Members → ℕ
  members_size no_members = 1
  members_size (member k d ms) = 6 * length k + 4 + size d + members_size ms

either_length : (b : Bool) (xs ys : List ℕ) (most : ℕ) → length xs ≤ most → length ys ≤ most → length (cond b xs ys) ≤ most
either_length true xs ys most a b = a
either_length false xs ys most a b = b

digits_onto_length : (k n : ℕ) (acc : List ℕ) → length (digits_onto k 10 false n acc) ≤ k + length acc
digits_onto_length zero n acc = omega arith
digits_onto_length (suc k) n acc =
    let d = digit_glyph false (n % 10) in
    let rest : length (digits_onto k 10 false (n / 10) (d ∷ acc)) ≤ k + suc (length acc) = digits_onto_length k (n / 10) (d ∷ acc) in
    either_length (n / 10 == 0) (d ∷ acc) (digits_onto k 10 false (n / 10) (d ∷ acc)) (suc k + length acc) (omega arith) (omega arith)

decimal_length : (n : ℕ) → length (decimal n) ≤ 64
unfolding digits
decimal_length n = let h : length (digits_onto 64 10 false n []) ≤ 64 + 0 = digits_onto_length 64 n [] in omega arith

signed_length : (z : ℤ) → length (signed_decimal z) ≤ 65
signed_length (pos n) = omega (arith, decimal_length n)
signed_length (negsuc n) = omega (arith, decimal_length (suc n))

number_length : (n : Num) → length (number_text n) ≤ 65
number_length (unsigned n) = omega (arith, decimal_length n)
number_length (negative z) = signed_length z
number_length (float x) = omega arith

escape_byte_length : (x : ℕ) → length (escape_byte x) ≤ 6
unfolding escape_byte
escape_byte_length x =
    let deep = either_length (nat_lt x 32) (92 ∷ 117 ∷ 48 ∷ 48 ∷ digit_char (x / 16) ∷ digit_char (x % 16) ∷ []) (x ∷ []) 6 (omega arith) (omega arith) in
    either_length (nat_lt 0 (escape_letter x)) (92 ∷ escape_letter x ∷ []) _ 6 (omega arith) deep

escape_length : (s : List ℕ) → length (escape s) ≤ 6 * length s
escape_length [] = omega arith
escape_length (x ∷ s) = omega (arith, escape_byte_length x, escape_length s, length-append (escape_byte x) (escape s))

quoted_length : (s : List ℕ) → length (quoted s) ≤ 6 * length s + 2
quoted_length s = omega (arith, escape_length s, length-append (escape s) (34 ∷ []))

comma_length : (later : Bool) → length (comma_if later) ≤ 1
comma_length true = omega arith
comma_length false = omega arith

flag_length : (b : Bool) → length (compact_text (boolean b)) ≤ 5
flag_length true = omega arith
flag_length false = omega arith

mutual
  pub text_length : (d : Data) → length (compact_text d) ≤ size d
  text_length null = omega arith
  text_length (boolean b) = flag_length b
  text_length (number n) = number_length n
  text_length (string s) = quoted_length s
  text_length (array ds) = omega (arith, items_length false ds)
  text_length (object ms) = omega (arith, members_length false ms)

  items_length : (later : Bool) (ds : Items) → length (items_text later ds) ≤ items_size ds
  items_length later no_items = omega arith
  items_length later (item d ds) =
      omega (arith, comma_length later, text_length d, items_length true ds, length-append (comma_if later) (compact_text d ++ items_text true ds), length-append (compact_text d) (items_text true ds))

  members_length : (later : Bool) (ms : Members) → length (members_text later ms) ≤ members_size ms
  members_length later no_members = omega arith
  members_length later (member k d ms) =
      omega (
        arith,
        comma_length later,
        quoted_length k,
        text_length d,
        members_length true ms,
        length-append (comma_if later) (quoted k ++ 58 ∷ (compact_text d ++ members_text true ms)),
        length-append (quoted k) (58 ∷ (compact_text d ++ members_text true ms)),
        length-append (compact_text d) (members_text true ms),
      )

-- of a list whose elements pass a test, and then have at most so much
pub list_size : {X : Type 0} (value : X → Data) (fits : X → Bool) (most : ℕ) → ((x : X) → fits x ≡ true → size (value x) ≤ most) → (xs : List X) → list_all fits xs ≡ true → items_size (items_of (map value xs)) ≤ (most + 1) * length xs + 1
list_size value fits most at [] all = omega arith
list_size value fits most at (x ∷ xs) all =
    let parts = and_parts (fits x) (list_all fits xs) all in
    let more = mul-suc (most + 1) (length xs) in
    omega (arith, more, at x parts.0, list_size value fits most at xs parts.1)
