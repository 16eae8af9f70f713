-- What the calls of a pool make of its places.
use Rattle.std.specs.Prelude.{◌≡◌, ℕ, zero, suc, ◌+◌, ◌-◌, ◌*◌, ◌/◌, ◌%◌, ◌<◌, ◌≤◌, ◌^◌, ◌⊎◌, ◌≢◌, ◌&&◌, ◌==◌, nat_lt, Bool, true, false, cond, if◌then◌else◌, List, [], ◌∷◌, ◌++◌, length, map, take, drop, replicate, count_by, slice_get, Option, Some, None, option_and_then, option_to_list, IsSome, Result, Ok, Err, OnErr, refl}
use Rattle.std.specs.HashMap.{HashMap, get}
use Rattle.std.specs.List.{list_any, filter_map, cons_option}
use Rattle.std.specs.Option.{option_map}
use Rattle.std.proofs.Common.{ap, sym, ◌∙◌, subst, arith, inl, inr, set, get_or, true≢false, add-zero, zero-add, mod-lt, length-take}
use Rattle.std.proofs.lemmas.Bool.{cases_lt, cases_eq}
use Rattle.std.proofs.lemmas.Bool.Decides.{nat_tests}
use Rattle.std.proofs.lemmas.List.{take_more, drop_more, take_all, drop_all, append-nil, get_or_at, length-set, length-replicate}
use Rattle.std.proofs.lemmas.List.Sums.{count_by_more_yes, count_by_more_no}
use Rattle.std.proofs.lemmas.Nat.{div-mul-add, mod-mul-add, div-add-mod'}
use Rattle.std.proofs.Math.Nat.{mul-le-mul_right}
use Rattle.std.proofs.Math.Seq.{take-nil}
use Rattle.std.proofs.lemmas.Option.{same_Some}
use Rattle.tez_lists.specs.Numbers.{numbers_from}
use Rattle.tez_lists.specs.Tables.{each_from}
use Rattle.tez_lists.proofs.Tables.{each_more, length-each, if_same, if_other}
use Rattle.tez_ids.specs.declared.AttemptId.{AttemptId}
use Rattle.tez_pool.specs.declared.place.Held.{Held}
use Rattle.tez_pool.specs.declared.place.Place.{Place}
use Rattle.tez_pool.specs.State.{PoolState}
use Rattle.tez_pool.specs.Table.{free, holds, is_by, is_taken, who, place_held, held_on, send_held, send_place, after_sent, freed_place, numbers_for, release_place, after_release, clear_place, number_in_order, cleared, lose_place, lose_life}
use Rattle.tez_pool.specs.Index.{equal, capacity, held_at, IsIndex}
use Rattle.tez_pool.specs.Kept.{IsKept}
use Rattle.tez_pool.proofs.PlaceLemmas.{got, inside, get_set_same, get_set_other, get_map, length_numbers, map_at, map_nowhere, any_at, any_nowhere, held_from, position_found, position_missed}
use Rattle.tez_pool.proofs.IndexLemmas.{held_there}

-- ---- the index stays right

module _ {S : Type 0} where
  -- a place gets a holder whom the index finds there, or none
  pub index_set : (places : List Place) (m : HashMap AttemptId ℕ S) (p : ℕ) (y : Place) → IsIndex places m → p < length places → ((a : AttemptId) → who y ≡ Some a → get equal m a ≡ Some p) → IsIndex (set places p y) m
  index_set places m p y i l new = record { finds = λ q a h. by q a h (cases_eq q p); room = omega (arith, i.room, length-set places p y) } where
    by : (q : ℕ) (a : AttemptId) → held_at (set places p y) q ≡ Some a → (q ≡ p) ⊎ (q ≢ p) → get equal m a ≡ Some q
    by q a h (inl e) =
        let here : slice_get (set places p y) p ≡ Some y = get_set_same places p y l in
        let w : held_at (set places p y) p ≡ Some a = ap (held_at (set places p y)) (sym e) ∙ h in
        let holder : who y ≡ Some a = cc in
        new a holder ∙ ap Some (sym e)
    by q a h (inr ne) =
        let here : slice_get (set places p y) q ≡ slice_get places q = get_set_other places p q y ne in
        let w : held_at places q ≡ Some a = cc in
        i.finds q a w

  -- some places lose their holders
  pub index_fewer : (places later : List Place) (m : HashMap AttemptId ℕ S) → IsIndex places m → length later ≡ length places → ((q : ℕ) (a : AttemptId) → held_at later q ≡ Some a → held_at places q ≡ Some a) → IsIndex later m
  index_fewer places later m i long fewer = record { finds = λ q a h. i.finds q a (fewer q a h); room = omega (arith, i.room, long) }

  -- whoever holds a place holds no other
  pub others_free : (places : List Place) (m : HashMap AttemptId ℕ S) (p : ℕ) (a : AttemptId) → IsIndex places m → place_held places a ≡ Some p → (q : ℕ) (y : Place) → slice_get places q ≡ Some y → q ≢ p → holds a y ≡ false
  others_free places m p a i e q y g ne = by (holds a y) refl where
    by : (b : Bool) → holds a y ≡ b → holds a y ≡ false
    by false h = h
    by true h = absurd (ne (same_Some q p (sym (held_there places m q a i (held_from places q y a g h)) ∙ e)))

-- ---- the holder of a place

send_none : (a : AttemptId) (o : Option Held) → is_by a o ≡ false → send_held a o ≡ o
send_none a None h = refl
send_none a (Some x) h = ap (λ t. Some (if t then record x { sent = true } else x)) h

send_who : (a : AttemptId) (o : Option Held) → option_map (λ h. h.attempt) (send_held a o) ≡ option_map (λ h. h.attempt) o
send_who a None = refl
send_who a (Some x) = by (is_by a (Some x)) refl where
  by : (t : Bool) → is_by a (Some x) ≡ t → option_map (λ h. h.attempt) (send_held a (Some x)) ≡ Some x.attempt
  by true e = ap (λ t. option_map (λ h. h.attempt) (Some (if t then record x { sent = true } else x))) e
  by false e = ap (λ t. option_map (λ h. h.attempt) (Some (if t then record x { sent = true } else x))) e

pub who_sent : (a : AttemptId) (x : Place) → who (send_place a x) ≡ who x
who_sent a x = send_who a x.holder

pub who_freed : (reuse : Bool) (n : ℕ) (x : Place) → who (freed_place reuse n x) ≡ None
who_freed true n x = refl
who_freed false n x = refl

with_holder : Place → Option Held → Place
with_holder x o = record x { holder = o }

send_other : (a : AttemptId) (x : Place) → holds a x ≡ false → send_place a x ≡ x
send_other a x h = ap (λ o. let y : Place = record x { holder = o } in y) (send_none a x.holder h)

release_other : (reuse : Bool) (n : ℕ) (a : AttemptId) (x : Place) → holds a x ≡ false → release_place reuse n a x ≡ x
release_other reuse n a x h = ap (λ t. if t then freed_place reuse n x else x) h

release_this : (reuse : Bool) (n : ℕ) (a : AttemptId) (x : Place) → holds a x ≡ true → release_place reuse n a x ≡ freed_place reuse n x
release_this reuse n a x h = ap (λ t. if t then freed_place reuse n x else x) h

pub held_here : (places : List Place) (p : ℕ) (x : Place) (a : AttemptId) → place_held places a ≡ Some p → slice_get places p ≡ Some x → holds a x ≡ true
held_here places p x a e g = let f = position_found (holds a) places p e in ap (holds a) (same_Some x f.0 (sym g ∙ f.1)) ∙ f.2

module _ {S : Type 0} where
  pub sent_places : (places : List Place) (m : HashMap AttemptId ℕ S) (p : ℕ) (x : Place) (a : AttemptId) → IsIndex places m → place_held places a ≡ Some p → slice_get places p ≡ Some x → set places p (send_place a x) ≡ map (send_place a) places
  sent_places places m p x a i e g = map_at (send_place a) places p x g (λ q y h ne. send_other a y (others_free places m p a i e q y h ne))

  pub released_places : (reuse : Bool) (n : ℕ) (places : List Place) (m : HashMap AttemptId ℕ S) (p : ℕ) (x : Place) (a : AttemptId) → IsIndex places m → place_held places a ≡ Some p → slice_get places p ≡ Some x
      → set places p (freed_place reuse n x) ≡ map (release_place reuse n a) places
  released_places reuse n places m p x a i e g =
      ap (set places p) (sym (release_this reuse n a x (held_here places p x a e g))) ∙ map_at (release_place reuse n a) places p x g (λ q y h ne. release_other reuse n a y (others_free places m p a i e q y h ne))

pub unsent_places : (places : List Place) (a : AttemptId) → place_held places a ≡ None → places ≡ map (send_place a) places
unsent_places places a e = map_nowhere (send_place a) places (λ q y g. send_other a y (position_missed (holds a) places e q y g))

pub unreleased_places : (reuse : Bool) (n : ℕ) (places : List Place) (a : AttemptId) → place_held places a ≡ None → places ≡ map (release_place reuse n a) places
unreleased_places reuse n places a e = map_nowhere (release_place reuse n a) places (λ q y g. release_other reuse n a y (position_missed (holds a) places e q y g))

pub any_held : (places : List Place) (p : ℕ) (x : Place) (a : AttemptId) → place_held places a ≡ Some p → slice_get places p ≡ Some x → list_any (holds a) places ≡ true
any_held places p x a e g = any_at (holds a) places p x g (held_here places p x a e g)

pub none_held : (places : List Place) (a : AttemptId) → place_held places a ≡ None → list_any (holds a) places ≡ false
none_held places a e = any_nowhere (holds a) places (position_missed (holds a) places e)

-- ---- numbers given in order

pub cleared_number : (reuse : Bool) (n k : ℕ) (x : Place) → clear_place reuse (n + numbers_for reuse k) x ≡ clear_place reuse (n + k) x
cleared_number true n k x = refl
cleared_number false n k x = refl

pub who_cleared : (reuse : Bool) (n : ℕ) (x : Place) → who (clear_place reuse n x) ≡ None
who_cleared reuse n x = by x.holder refl where
  by : (o : Option Held) → x.holder ≡ o → who (clear_place reuse n x) ≡ None
  by None e = cc
  by (Some h) e = ap (λ t. who (if t then freed_place reuse n x else x)) some ∙ who_freed reuse n x where
    some : is_taken x ≡ true
    some = cc

-- ---- lists with their numbers

pub get_each_from : {X Y : Type 0} (n : ℕ) (f : ℕ → X → Y) (xs : List X) (i : ℕ) → slice_get (each_from n f xs) i ≡ option_map (f (n + i)) (slice_get xs i)
get_each_from n f [] i = refl
get_each_from n f (x ∷ xs) zero = let e : n ≡ n + 0 = omega arith in ap (λ k. Some (f k x)) e
get_each_from n f (x ∷ xs) (suc i) = let e : suc n + i ≡ n + suc i = omega arith in get_each_from (suc n) f xs i ∙ ap (λ k. option_map (f k) (slice_get xs i)) e

pub each_same : {X : Type 0} (n : ℕ) (f : ℕ → X → X) (xs : List X) → ((q : ℕ) (x : X) → f q x ≡ x) → xs ≡ each_from n f xs
each_same n f [] same = refl
each_same n f (x ∷ xs) same = let here : f n x ≡ x = same n x in let rest = each_same (suc n) f xs same in cc

pub each_ext : {X : Type 0} (n : ℕ) (f g : ℕ → X → X) (xs : List X) → ((q : ℕ) (x : X) → f q x ≡ g q x) → each_from n f xs ≡ each_from n g xs
each_ext n f g [] same = refl
each_ext n f g (x ∷ xs) same = let here : f n x ≡ g n x = same n x in let rest = each_ext (suc n) f g xs same in cc

each_after : {X : Type 0} (n : ℕ) (f g : ℕ → X → X) (xs : List X) → ((q : ℕ) (x : X) → n ≤ q → f q x ≡ g q x) → each_from n f xs ≡ each_from n g xs
each_after n f g [] same = refl
each_after n f g (x ∷ xs) same = let here : f n x ≡ g n x = same n x (omega arith) in let rest = each_after (suc n) f g xs (λ q y le. same q y (omega arith)) in cc

-- one element is given the value that the other function has there
pub each_set : {X : Type 0} (n : ℕ) (f g : ℕ → X → X) (xs : List X) (p : ℕ) (v : X) → p < length xs → ((x : X) → g (n + p) x ≡ v) → ((q : ℕ) (x : X) → q ≢ n + p → g q x ≡ f q x) → set (each_from n f xs) p v ≡ each_from n g xs
each_set n f g [] p v l here others = absurd (omega arith)
each_set n f g (x ∷ xs) zero v l here others =
    let first : g n x ≡ v = ap (λ k. g k x) (sym (add-zero n)) ∙ here x in
    let rest : each_from (suc n) f xs ≡ each_from (suc n) g xs = each_after (suc n) f g xs (λ q y le. sym (others q y (λ e. omega arith))) in
    cc
each_set n f g (x ∷ xs) (suc p) v l here others =
    let at : suc n + p ≡ n + suc p = omega arith in
    let first : g n x ≡ f n x = others n x (λ e. omega arith) in
    let rest = each_set (suc n) f g xs p v (omega arith) (λ y. ap (λ k. g k y) at ∙ here y) (λ q y ne. others q y (λ e. ne (e ∙ sym at))) in
    cc

-- ---- the places of a node

abbrev pub lose_first : ℕ → ℕ → ℕ → ℕ → ℕ → Place → Place
lose_first i per_node slot next p x = if (p / per_node == slot) && nat_lt (p % per_node) i then free (next + p % per_node) else x

pub lost_none : (per_node slot next p : ℕ) (x : Place) → lose_first 0 per_node slot next p x ≡ x
lost_none per_node slot next p x = grind (arith, nat_tests)

both_true : (a b : Bool) → a ≡ true → b ≡ true → (a && b) ≡ true
both_true a b g h = grind arith

pub lost_here : (i per_node slot next p : ℕ) (x : Place) → i < per_node → p ≡ slot * per_node + i → lose_first (i + 1) per_node slot next p x ≡ free (next + i)
lost_here i per_node slot next p x l e =
    let quotient : p / per_node ≡ slot = ap (λ n. n / per_node) e ∙ div-mul-add slot per_node i l in
    let rest : p % per_node ≡ i = ap (λ n. n % per_node) e ∙ mod-mul-add slot per_node i l in
    let within : p % per_node < i + 1 = omega arith in
    let first : (p / per_node == slot) ≡ true = grind (arith, nat_tests) in
    let second : nat_lt (p % per_node) (i + 1) ≡ true = grind (arith, nat_tests) in
    ap (λ t. if t then free (next + p % per_node) else x) (both_true (p / per_node == slot) (nat_lt (p % per_node) (i + 1)) first second) ∙ ap (λ n. free (next + n)) rest

same_tests : (a b c : Bool) → (a ≡ true → b ≡ c) → (a && b) ≡ (a && c)
same_tests true b c h = h refl
same_tests false b c h = refl

pub lost_others : (i per_node slot next q : ℕ) (x : Place) → q ≢ slot * per_node + i → lose_first (i + 1) per_node slot next q x ≡ lose_first i per_node slot next q x
lost_others i per_node slot next q x ne = ap (λ t. if t then free (next + q % per_node) else x) (same_tests (q / per_node == slot) (nat_lt (q % per_node) (i + 1)) (nat_lt (q % per_node) i) same) where
  one_less : (r i : ℕ) → r ≢ i → nat_lt r (i + 1) ≡ nat_lt r i
  one_less r i ne = grind (arith, nat_tests)

  same : (q / per_node == slot) ≡ true → nat_lt (q % per_node) (i + 1) ≡ nat_lt (q % per_node) i
  same t =
      let at : q / per_node ≡ slot = grind (arith, nat_tests) in
      let whole : slot * per_node + q % per_node ≡ q = ap (λ n. n * per_node + q % per_node) (sym at) ∙ div-add-mod' q per_node in
      let apart : q % per_node ≢ i = λ e. ne (sym whole ∙ ap (λ n. slot * per_node + n) e) in
      one_less (q % per_node) i apart

pub lost_all : (per_node slot next p : ℕ) (x : Place) → 0 < per_node → lose_first per_node per_node slot next p x ≡ lose_place per_node slot next p x
lost_all per_node slot next p x l = ap (λ t. if t then free (next + p % per_node) else x) (second_true (p / per_node == slot) (nat_lt (p % per_node) per_node) below) where
  below : nat_lt (p % per_node) per_node ≡ true
  below = let r : p % per_node < per_node = mod-lt p l in grind (arith, nat_tests)

  second_true : (a b : Bool) → b ≡ true → (a && b) ≡ a
  second_true a b h = grind arith

pub who_lost : (per_node slot next p : ℕ) (x : Place) (a : AttemptId) → who (lose_place per_node slot next p x) ≡ Some a → who x ≡ Some a
who_lost per_node slot next p x a = by (p / per_node == slot) where
  by : (t : Bool) → who (if t then free (next + p % per_node) else x) ≡ Some a → who x ≡ Some a
  by true h = cc
  by false h = h

-- ---- attempts on a node

not_empty : {Y : Type 0} (y : Y) (o : Option Y) (ys : List Y) → o ≡ Some y → cons_option o ys ≡ [] → ⊥
not_empty y None ys e n = cc
not_empty y (Some z) ys e n = cc

still_not_empty : {Y : Type 0} (o : Option Y) (ys : List Y) → (ys ≡ [] → ⊥) → cons_option o ys ≡ [] → ⊥
still_not_empty None ys h n = h n
still_not_empty (Some z) ys h n = cc

some_held : {X Y : Type 0} (h : X → Option Y) (xs : List X) (i : ℕ) (x : X) (y : Y) → slice_get xs i ≡ Some x → h x ≡ Some y → filter_map h xs ≡ [] → ⊥
some_held h [] i x y e g n = cc
some_held h (z ∷ zs) zero x y e g n = not_empty y (h z) (filter_map h zs) (ap h (same_Some z x e) ∙ g) n
some_held h (z ∷ zs) (suc i) x y e g n = still_not_empty (h z) (filter_map h zs) (some_held h zs i x y e g) n

pub some_there : {X Y : Type 0} (h : X → Option Y) (xs : List X) (i : ℕ) (x : X) → slice_get xs i ≡ Some x → IsSome (h x) → filter_map h xs ≡ [] → ⊥
some_there {Y = Y} h xs i x e is n = by (h x) refl is where
  by : (o : Option Y) → h x ≡ o → IsSome o → ⊥
  by None g s = true≢false (sym s)
  by (Some y) g s = some_held h xs i x y e g n

cons_append : {Y : Type 0} (o : Option Y) (xs ys : List Y) → cons_option o (xs ++ ys) ≡ cons_option o xs ++ ys
cons_append None xs ys = refl
cons_append (Some x) xs ys = refl

pub filter_map-append : {X Y : Type 0} (h : X → Option Y) (xs ys : List X) → filter_map h (xs ++ ys) ≡ filter_map h xs ++ filter_map h ys
filter_map-append h [] ys = refl
filter_map-append h (x ∷ xs) ys = ap (cons_option (h x)) (filter_map-append h xs ys) ∙ cons_append (h x) (filter_map h xs) (filter_map h ys)

as_list : {Y : Type 0} (o : Option Y) → cons_option o [] ≡ option_to_list o
as_list None = refl
as_list (Some y) = refl

pub filter_map_more : {X Y : Type 0} (h : X → Option Y) (xs : List X) (i : ℕ) (d : X) → i < length xs → filter_map h (take (i + 1) xs) ≡ filter_map h (take i xs) ++ option_to_list (h (get_or xs i d))
filter_map_more h xs i d l = ap (filter_map h) (take_more xs i d l) ∙ filter_map-append h (take i xs) (get_or xs i d ∷ []) ∙ ap (λ ys. filter_map h (take i xs) ++ ys) (as_list (h (get_or xs i d)))

pub on_err : {T E P : Type 0} (r : Result T E) → P → OnErr r P
on_err (Ok x) p = tt
on_err (Err e) p = p

-- ---- the state after a call

abbrev pub pool : List Place → List ℕ → ℕ → ℕ → Bool → PoolState
pool places lives next per_node reuse = record { places = places; lives = lives; next = next; per_node = per_node; reuse = reuse }

no_numbers : (reuse : Bool) (n : ℕ) → n ≡ n + numbers_for reuse 0
no_numbers true n = omega arith
no_numbers false n = omega arith

pub unsent : (s : PoolState) (a : AttemptId) → place_held s.places a ≡ None → s ≡ after_sent s a
unsent s a e = ap (λ ps. pool ps s.lives s.next s.per_node s.reuse) (unsent_places s.places a e)

pub unreleased : (s : PoolState) (a : AttemptId) → place_held s.places a ≡ None → s ≡ after_release s a
unreleased s a e =
    ap (λ ps. pool ps s.lives s.next s.per_node s.reuse) (unreleased_places s.reuse s.next s.places a e)
    ∙ ap (λ n. pool (map (release_place s.reuse s.next a) s.places) s.lives n s.per_node s.reuse)
    (no_numbers s.reuse s.next ∙ ap (λ t. s.next + numbers_for s.reuse (if t then 1 else 0)) (sym (none_held s.places a e)))

module _ {S : Type 0} where
  pub sent_state : (s : PoolState) (m : HashMap AttemptId ℕ S) (p : ℕ) (x : Place) (a : AttemptId) (later : List Place) → IsIndex s.places m → place_held s.places a ≡ Some p → slice_get s.places p ≡ Some x
      → later ≡ set s.places p (send_place a x) → pool later s.lives s.next s.per_node s.reuse ≡ after_sent s a
  sent_state s m p x a later i e g is = ap (λ ps. pool ps s.lives s.next s.per_node s.reuse) (is ∙ sent_places s.places m p x a i e g)

  pub released_state : (s : PoolState) (m : HashMap AttemptId ℕ S) (p : ℕ) (x : Place) (a : AttemptId) (later : List Place) (n : ℕ) → IsIndex s.places m → place_held s.places a ≡ Some p → slice_get s.places p ≡ Some x
      → later ≡ set s.places p (freed_place s.reuse s.next x) → n ≡ numbers_for s.reuse 1 → pool later s.lives (s.next + n) s.per_node s.reuse ≡ after_release s a
  released_state s m p x a later n i e g is num =
      ap (λ ps. pool ps s.lives (s.next + n) s.per_node s.reuse) (is ∙ released_places s.reuse s.next s.places m p x a i e g)
      ∙ ap (λ k. pool (map (release_place s.reuse s.next a) s.places) s.lives (s.next + k) s.per_node s.reuse) (num ∙ ap (λ t. numbers_for s.reuse (if t then 1 else 0)) (sym (any_held s.places p x a e g)))

  -- ---- what the type keeps

  pub kept_set : (places later : List Place) (lives : List ℕ) (per_node : ℕ) (m : HashMap AttemptId ℕ S) (p : ℕ) (x y : Place) → IsKept places lives per_node m → slice_get places p ≡ Some x → later ≡ set places p y
      → ((b : AttemptId) → who y ≡ Some b → who x ≡ Some b) → IsKept later lives per_node m
  kept_set places later lives per_node m p x y k g is stays = subst (λ q. IsKept q lives per_node m) (sym is) (record {
    sized = length-set places p y ∙ k.sized;
    slots = k.slots;
    finder = index_set places m p y k.finder (inside places p x g) (λ b h. k.finder.finds p b (ap (option_and_then who) g ∙ stays b h));
  })

  pub kept_new : (nodes per_node : ℕ) (places : List Place) (lives : List ℕ) (m : HashMap AttemptId ℕ S) → places ≡ map free (numbers_from 0 (nodes * per_node)) → lives ≡ replicate nodes 0 → nodes < 2 ^ 16 → nodes * per_node + 1 ≤ capacity m
      → IsKept places lives per_node m
  kept_new nodes per_node places lives m is_places is_lives few room =
      let long : length places ≡ nodes * per_node = ap length is_places ∙ length_numbers free 0 (nodes * per_node) in
      let slots : length lives ≡ nodes = ap length is_lives ∙ length-replicate nodes 0 in
      record {
        sized = long ∙ ap (λ n. n * per_node) (sym slots);
        slots = omega arith;
        finder = record { finds = λ p a h. absurd (nobody p a (ap (λ ps. held_at ps p) (sym is_places) ∙ h)); room = omega arith };
      }
    where
      nobody : (p : ℕ) (a : AttemptId) → held_at (map free (numbers_from 0 (nodes * per_node))) p ≡ Some a → ⊥
      nobody p a h = by (slice_get (numbers_from 0 (nodes * per_node)) p) (sym (ap (option_and_then who) (get_map free (numbers_from 0 (nodes * per_node)) p)) ∙ h) where
        by : (o : Option ℕ) → option_and_then who (option_map free o) ≡ Some a → ⊥
        by None e = cc
        by (Some n) e = cc

  pub kept_fewer : (places later : List Place) (lives still : List ℕ) (per_node : ℕ) (m : HashMap AttemptId ℕ S) (f : ℕ → Place → Place) → IsKept places lives per_node m → length still ≡ length lives → later ≡ each_from 0 f places
      → ((q : ℕ) (x : Place) (a : AttemptId) → who (f q x) ≡ Some a → who x ≡ Some a) → IsKept later still per_node m
  kept_fewer places later lives still per_node m f k same is fewer = subst (λ q. IsKept q still per_node m) (sym is) (record {
    sized = length-each f 0 places ∙ k.sized ∙ ap (λ n. n * per_node) (sym same);
    slots = omega (arith, k.slots, same);
    finder = index_fewer places (each_from 0 f places) m k.finder (length-each f 0 places) (λ q a h. by q a (slice_get places q) refl (sym (ap (option_and_then who) (get_each_from 0 f places q)) ∙ h));
  }) where
    by : (q : ℕ) (a : AttemptId) (o : Option Place) → slice_get places q ≡ o → option_and_then who (option_map (f (0 + q)) (slice_get places q)) ≡ Some a → held_at places q ≡ Some a
    by q a None e h = let none : option_and_then who (option_map (f (0 + q)) (slice_get places q)) ≡ None = ap (λ o. option_and_then who (option_map (f (0 + q)) o)) e in let both : None ≡ Some a = sym none ∙ h in cc
    by q a (Some x) e h = ap (option_and_then who) e ∙ fewer (0 + q) x a (sym (ap (λ o. option_and_then who (option_map (f (0 + q)) o)) e) ∙ h)

  pub kept_cleared : (reuse : Bool) (next : ℕ) (places later : List Place) (lives : List ℕ) (per_node : ℕ) (m n : HashMap AttemptId ℕ S) → IsKept places lives per_node m → later ≡ cleared reuse next places → capacity m ≤ capacity n → IsKept later lives per_node n
  kept_cleared reuse next places later lives per_node m n k is room = subst (λ q. IsKept q lives per_node n) (sym is) (record {
    sized = long ∙ k.sized;
    slots = k.slots;
    finder = record {
      finds = λ q a h. absurd (by q a (slice_get places q) (sym (ap (option_and_then who) (get_each_from 0 (λ p. clear_place reuse (number_in_order places next p)) places q)) ∙ h));
      room = omega (arith, long, k.finder.room);
    };
  }) where
    long : length (cleared reuse next places) ≡ length places
    long = length-each (λ p. clear_place reuse (number_in_order places next p)) 0 places

    by : (q : ℕ) (a : AttemptId) (o : Option Place) → option_and_then who (option_map (λ x. clear_place reuse (number_in_order places next (0 + q)) x) o) ≡ Some a → ⊥
    by q a None h = cc
    by q a (Some x) h = let none = who_cleared reuse (number_in_order places next (0 + q)) x in let both : None ≡ Some a = sym none ∙ h in cc

-- ---- clearing, place by place

abbrev clears : Bool → ℕ → List Place → ℕ → Place → Place
clears reuse next places p = clear_place reuse (number_in_order places next p)

-- a place that is not cleared yet is as it was
as_it_was : (f : ℕ → Place → Place) (xs ys : List Place) (i : ℕ) (x : Place) → i < length xs → ys ≡ each_from 0 f (take i xs) ++ drop i xs → get_or ys i x ≡ get_or xs i x
as_it_was f xs ys i x l h =
    let front = each_from 0 f (take i xs) in
    let long : length front ≡ i = length-each f 0 (take i xs) ∙ omega (arith, length-take i xs) in
    ap (λ zs. get_or zs i x) (h ∙ ap (λ zs. front ++ zs) (drop_more xs i x l)) ∙ get_or_at front (get_or xs i x) (drop (i + 1) xs) x i long

pub clear_step : (reuse : Bool) (next number i : ℕ) (xs ys : List Place) (x : Place) → length ys ≡ length xs → i < length xs → ys ≡ each_from 0 (clears reuse next xs) (take i xs) ++ drop i xs → slice_get ys i ≡ Some x
    → number ≡ next + numbers_for reuse (count_by is_taken (take i xs)) → set ys i (clear_place reuse number x) ≡ each_from 0 (clears reuse next xs) (take (i + 1) xs) ++ drop (i + 1) xs
clear_step reuse next number i xs ys x long l h g num =
    let there : get_or ys i x ≡ x = same_Some (get_or ys i x) x (sym (got ys i x (omega arith)) ∙ g) in
    ap (set ys i) (ap (λ n. clear_place reuse n x) num ∙ cleared_number reuse next (count_by is_taken (take i xs)) x) ∙ each_more (clears reuse next xs) xs ys i x l h (sym there)

more_numbers : (reuse : Bool) (k b : ℕ) → numbers_for reuse k + numbers_for reuse b ≡ numbers_for reuse (k + b)
more_numbers true k b = refl
more_numbers false k b = refl

counted : (xs : List Place) (i : ℕ) (d : Place) → i < length xs → count_by is_taken (take (i + 1) xs) ≡ count_by is_taken (take i xs) + cond (is_taken (get_or xs i d)) 1 0
counted xs i d l = by (is_taken (get_or xs i d)) refl where
  by : (t : Bool) → is_taken (get_or xs i d) ≡ t → count_by is_taken (take (i + 1) xs) ≡ count_by is_taken (take i xs) + cond (is_taken (get_or xs i d)) 1 0
  by true e = count_by_more_yes is_taken xs i d l e ∙ ap (λ t. count_by is_taken (take i xs) + cond t 1 0) (sym e)
  by false e = count_by_more_no is_taken xs i d l e ∙ sym (add-zero (count_by is_taken (take i xs))) ∙ ap (λ t. count_by is_taken (take i xs) + cond t 1 0) (sym e)

regroup : (number next a b : ℕ) → number ≡ next + a → number + b ≡ next + (a + b)
regroup number next a b e = omega arith

pub number_step : (reuse : Bool) (next number i : ℕ) (xs ys : List Place) (x : Place) → length ys ≡ length xs → i < length xs → ys ≡ each_from 0 (clears reuse next xs) (take i xs) ++ drop i xs → slice_get ys i ≡ Some x
    → number ≡ next + numbers_for reuse (count_by is_taken (take i xs)) → number + numbers_for reuse (cond (is_taken x) 1 0) ≡ next + numbers_for reuse (count_by is_taken (take (i + 1) xs))
number_step reuse next number i xs ys x long l h g num =
    let there : x ≡ get_or xs i x = sym (same_Some (get_or ys i x) x (sym (got ys i x (omega arith)) ∙ g)) ∙ as_it_was (clears reuse next xs) xs ys i x l h in
    let count = counted xs i x l in
    let bit : cond (is_taken x) 1 0 ≡ cond (is_taken (get_or xs i x)) 1 0 = ap (λ y. cond (is_taken y) 1 0) there in
    let sum = more_numbers reuse (count_by is_taken (take i xs)) (cond (is_taken x) 1 0) in
    let same : count_by is_taken (take i xs) + cond (is_taken x) 1 0 ≡ count_by is_taken (take (i + 1) xs) = ap (λ b. count_by is_taken (take i xs) + b) bit ∙ sym count in
    let all : numbers_for reuse (count_by is_taken (take i xs) + cond (is_taken x) 1 0) ≡ numbers_for reuse (count_by is_taken (take (i + 1) xs)) = ap (numbers_for reuse) same in
    regroup number next (numbers_for reuse (count_by is_taken (take i xs))) (numbers_for reuse (cond (is_taken x) 1 0)) num ∙ ap (λ n. next + n) (sum ∙ all)

pub one_number : (reuse t : Bool) → numbers_for reuse (cond t 1 0) ≤ 1
one_number true t = omega arith
one_number false true = omega arith
one_number false false = omega arith

pub all_cleared : (reuse : Bool) (next i : ℕ) (xs ys : List Place) → length xs ≤ i → ys ≡ each_from 0 (clears reuse next xs) (take i xs) ++ drop i xs → ys ≡ cleared reuse next xs
all_cleared reuse next i xs ys le h = h ∙ ap (λ zs. each_from 0 (clears reuse next xs) (take i xs) ++ zs) (drop_all i xs le) ∙ append-nil (each_from 0 (clears reuse next xs) (take i xs)) ∙ ap (each_from 0 (clears reuse next xs)) (take_all i xs le)

-- ---- losing, place by place

pub lose_step : (i per_node slot next p : ℕ) (xs ys : List Place) → i < per_node → p ≡ slot * per_node + i → p < length xs → ys ≡ each_from 0 (lose_first i per_node slot next) xs
    → set ys p (free (next + i)) ≡ each_from 0 (lose_first (i + 1) per_node slot next) xs
lose_step i per_node slot next p xs ys l at within h =
    ap (λ zs. set zs p (free (next + i))) h
    ∙ each_set 0 (lose_first i per_node slot next) (lose_first (i + 1) per_node slot next) xs p (free (next + i)) within
    (λ x. lost_here i per_node slot next (0 + p) x l (zero-add p ∙ at)) (λ q x ne. lost_others i per_node slot next q x (λ e. ne (e ∙ sym at ∙ sym (zero-add p))))

nothing_there : {X Y : Type 0} (f g : ℕ → X → Y) (xs : List X) → length xs ≡ 0 → each_from 0 f xs ≡ each_from 0 g xs
nothing_there f g [] e = refl
nothing_there f g (x ∷ xs) e = absurd (omega arith)

pub all_lost : (i per_node slot next : ℕ) (xs : List Place) → i ≡ per_node → (per_node ≡ 0 → length xs ≡ 0) → each_from 0 (lose_first i per_node slot next) xs ≡ each_from 0 (lose_place per_node slot next) xs
all_lost i per_node slot next xs e some = ap (λ k. each_from 0 (lose_first k per_node slot next) xs) e ∙ by (cases_lt 0 per_node) where
  by : (0 < per_node) ⊎ (per_node ≤ 0) → each_from 0 (lose_first per_node per_node slot next) xs ≡ each_from 0 (lose_place per_node slot next) xs
  by (inl l) = each_ext 0 (lose_first per_node per_node slot next) (lose_place per_node slot next) xs (λ q x. lost_all per_node slot next q x l)
  by (inr g) = nothing_there (lose_first per_node per_node slot next) (lose_place per_node slot next) xs (some (omega arith))

-- the next life of the node of a slot
other_slots : (slot n : ℕ) (xs : List ℕ) → slot < n → each_from n (lose_life slot) xs ≡ xs
other_slots slot n [] h = refl
other_slots slot n (x ∷ xs) h = let here = if_other slot n (suc x) x (λ e. omega arith) in let rest = other_slots slot (suc n) xs (omega arith) in cc

next_life_from : (n i : ℕ) (xs : List ℕ) (x d : ℕ) → i < length xs → x ≡ get_or xs i d → set xs i (suc x) ≡ each_from n (lose_life (n + i)) xs
next_life_from n i [] x d b e = absurd (omega arith)
next_life_from n zero (y ∷ ys) x d b e =
    let here = if_same (n + 0) n (suc y) y (add-zero n) in let rest = other_slots (n + 0) (suc n) ys (omega arith) in cc
next_life_from n (suc i) (y ∷ ys) x d b e =
    let here = if_other (n + suc i) n (suc y) y (λ e. omega arith) in
    let rest = next_life_from (suc n) i ys x d (omega arith) e in
    let same : suc n + i ≡ n + suc i = omega arith in cc

pub next_life : (i : ℕ) (xs : List ℕ) (x d : ℕ) → i < length xs → x ≡ get_or xs i d → set xs i (x + 1) ≡ each_from 0 (lose_life i) xs
next_life i xs x d b e = ap (set xs i) (omega arith) ∙ next_life_from 0 i xs x d b e ∙ ap (λ n. each_from 0 (lose_life n) xs) (zero-add i)

-- ---- a slot that is not there has no places

pub nobody_on : (s : PoolState) (slot : ℕ) → length s.places ≡ length s.lives * s.per_node → length s.lives ≤ slot → held_on s slot ≡ []
nobody_on s slot sized outside =
    let first = slot * s.per_node in
    let far : length s.places ≤ first = subst (λ n. n ≤ first) (sym sized) (mul-le-mul_right s.per_node outside) in
    ap (λ places. filter_map who (take (first + s.per_node - first) places)) (drop_all first s.places far) ∙ ap (filter_map who) (take-nil (first + s.per_node - first))
