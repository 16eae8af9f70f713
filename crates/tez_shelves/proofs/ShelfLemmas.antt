-- Shelves by their slots and their index.
--     shelf_at, shelf_none       what lies on the shelf of an attempt, by its slot
--     held_at, named_at          an attempt's slot holds something of it, and a slot that holds something is named
--     put_shelf                  after an attempt's pieces are put
--     drop_held, drop_shelf      after an attempt is dropped
--     kept_shelf                 after a test of what is held
use Rattle.std.proofs.Common.{◌≡◌, ◌≢◌, ℕ, eqb, Bool, true, false, cond, List, refl, sym, ap, ◌∙◌, subst, Option, Some, None, is_some, IfSome, IsSomeAnd, ◌⊎◌, inl, inr, Result, Ok, Err, is_ok, OnOk, true≢false}
use denote.Ref.{Bor}
use Rattle.std.specs.Option.{option_map, option_copied}
use Rattle.std.specs.Map.{lookup}
use Rattle.std.proofs.lemmas.Bool.Decides.{eqb_tells}
use Rattle.std.proofs.lemmas.Map.Made.{lookup-map_values}
use Rattle.slab.specs.Slab.{Slab, get}
use Rattle.tez_ids.specs.declared.AttemptId.{AttemptId}
use Rattle.tez_ids.specs.declared.EdgeId.{EdgeId}
use Rattle.tez_ids.specs.declared.NodeId.{NodeId}
use Rattle.tez_ids.specs.Same.{same_attempt}
use Rattle.tez_ids.proofs.Sameness.{same_attempt-true, same_attempt-refl}
use Rattle.tez_lists.proofs.Cases.{cases, both}
use Rattle.tez_shelves.specs.declared.slots.Shelved.{Shelved}
use Rattle.tez_shelves.specs.Shelf.{kept_if, shelf}
use Rattle.tez_shelves.specs.Slots.{held, shelved, AreHeld}

pub shelf_is : (slots : Slab Shelved) (entries : List (AttemptId × ℕ)) (a : AttemptId) → shelf a (shelved slots entries) ≡ option_map (λ k. held (get slots k)) (lookup (same_attempt a) entries)
shelf_is slots entries a = lookup-map_values (λ k. held (get slots k)) (same_attempt a) entries

pub shelf_none : (slots : Slab Shelved) (entries : List (AttemptId × ℕ)) (a : AttemptId) → lookup (same_attempt a) entries ≡ None → shelf a (shelved slots entries) ≡ None
shelf_none slots entries a e = shelf_is slots entries a ∙ ap (option_map (λ k. held (get slots k))) e

pub shelf_at : (slots : Slab Shelved) (entries : List (AttemptId × ℕ)) (a : AttemptId) (k : ℕ) (s : Shelved) → lookup (same_attempt a) entries ≡ Some k → get slots k ≡ Some s → shelf a (shelved slots entries) ≡ Some (s.node, s.pieces)
shelf_at slots entries a k s e there = shelf_is slots entries a ∙ ap (option_map (λ j. held (get slots j))) e ∙ ap (λ o. Some (held o)) there

-- the same by what a look-up and a read of the slot gave
pub nothing : (slots : Slab Shelved) (entries : List (AttemptId × ℕ)) (a : AttemptId) (v : List (AttemptId × (NodeId × List (EdgeId × ℕ × List (List ℕ))))) → shelved slots entries ≡ v → None ≡ lookup (same_attempt a) entries → shelf a v ≡ None
nothing slots entries a v view e = sym (ap (shelf a) view) ∙ shelf_none slots entries a (sym e)

pub something : (slots : Slab Shelved) (entries : List (AttemptId × ℕ)) (a : AttemptId) (v : List (AttemptId × (NodeId × List (EdgeId × ℕ × List (List ℕ))))) (r : Option ℕ) (k : ℕ) (g : Option (Bor Shelved)) (s : Bor Shelved)
    → shelved slots entries ≡ v → r ≡ lookup (same_attempt a) entries → r ≡ Some k → option_copied g ≡ get slots k → g ≡ Some s → shelf a v ≡ Some (s.now.node, s.now.pieces)
something slots entries a v r k g s view e is there got = sym (ap (shelf a) view) ∙ shelf_at slots entries a k s.now (sym e ∙ is) (sym there ∙ ap option_copied got)

pub on_ok : {T E : Type 0} (P : Type 0) (r : Result T E) → is_ok r ≡ true → OnOk r P → P
on_ok P (Ok x) e h = h
on_ok P (Err x) e h = absurd (true≢false (sym e))

opened : {X : Type 0} (P : X → Type 0) (o : Option X) → IsSomeAnd o P → (x : X) × (o ≡ Some x) × P x
opened P None h = absurd h
opened P (Some x) h = (x, refl, h)

if_some : {X : Type 0} (P : X → Type 0) (o : Option X) → ((x : X) → o ≡ Some x → P x) → IfSome o P
if_some P None h = tt
if_some P (Some x) h = h x refl

-- an attempt's slot holds something of this attempt
pub held_at : (slots : Slab Shelved) (entries : List (AttemptId × ℕ)) (a : AttemptId) (k : ℕ) → AreHeld slots entries → lookup (same_attempt a) entries ≡ Some k → (s : Shelved) × (get slots k ≡ Some s) × (s.attempt ≡ a)
held_at slots entries a k h e = opened (λ s. s.attempt ≡ a) (get slots k) (subst (λ o. IfSome o (λ j. IsSomeAnd (get slots j) (λ s. s.attempt ≡ a))) e (h.own a))

-- a slot that holds something is that of its attempt
pub named_at : (slots : Slab Shelved) (entries : List (AttemptId × ℕ)) (k : ℕ) (s : Shelved) → AreHeld slots entries → get slots k ≡ Some s → lookup (same_attempt s.attempt) entries ≡ Some k
named_at slots entries k s h e = subst (λ o. IfSome o (λ t. lookup (same_attempt t.attempt) entries ≡ Some k)) e (h.named k)

-- no other slot holds something of an attempt
only_slot : (slots : Slab Shelved) (entries : List (AttemptId × ℕ)) (a : AttemptId) (k : ℕ) (s : Shelved) → AreHeld slots entries → get slots k ≡ Some s → same_attempt a s.attempt ≡ true → lookup (same_attempt a) entries ≡ Some k
only_slot slots entries a k s h e here = ap (λ b. lookup (same_attempt b) entries) (same_attempt-true a s.attempt here) ∙ named_at slots entries k s h e

-- attempts in one slot are one
one_slot : (slots : Slab Shelved) (entries : List (AttemptId × ℕ)) (a b : AttemptId) (k : ℕ) → AreHeld slots entries → lookup (same_attempt a) entries ≡ Some k → lookup (same_attempt b) entries ≡ Some k → same_attempt a b ≡ true
one_slot slots entries a b k h e f =
    let one = held_at slots entries a k h e in
    let two = held_at slots entries b k h f in
    let same : one.0 ≡ two.0 = cc (one.1, two.1) in
    let is : a ≡ b = sym one.2 ∙ ap (λ s. s.attempt) same ∙ two.2 in
    ap (λ c. same_attempt c b) is ∙ same_attempt-refl b

option_map_same : {X Y : Type 0} (f h : X → Y) (o : Option X) → ((x : X) → o ≡ Some x → f x ≡ h x) → option_map f o ≡ option_map h o
option_map_same f h None same = refl
option_map_same f h (Some x) same = ap Some (same x refl)

-- an attempt of which the index and its slot are as before
shelf_same : (old new : Slab Shelved) (was now : List (AttemptId × ℕ)) (b : AttemptId) → lookup (same_attempt b) now ≡ lookup (same_attempt b) was → ((j : ℕ) → lookup (same_attempt b) was ≡ Some j → get new j ≡ get old j) → shelf b (shelved new now) ≡ shelf b (shelved old was)
shelf_same old new was now b index slot =
    shelf_is new now b ∙ ap (option_map (λ k. held (get new k))) index
    ∙ option_map_same (λ k. held (get new k)) (λ k. held (get old k)) (lookup (same_attempt b) was) (λ j e. ap held (slot j e))
    ∙ sym (shelf_is old was b)

module _ (old new : Slab Shelved) (was now : List (AttemptId × ℕ)) (a : AttemptId) (whole : AreHeld old was)
    (rest : (b : AttemptId) → same_attempt a b ≡ false → lookup (same_attempt b) now ≡ lookup (same_attempt b) was)
    (kept : (b : AttemptId) (j : ℕ) → same_attempt a b ≡ false → lookup (same_attempt b) was ≡ Some j → get new j ≡ get old j) where
  other_held : (b : AttemptId) (j : ℕ) → same_attempt a b ≡ false → lookup (same_attempt b) now ≡ Some j → IsSomeAnd (get new j) (λ s. s.attempt ≡ b)
  other_held b j other e =
      let before : lookup (same_attempt b) was ≡ Some j = sym (rest b other) ∙ e in
      let it = held_at old was b j whole before in
      subst (λ o. IsSomeAnd o (λ s. s.attempt ≡ b)) (sym (kept b j other before ∙ it.1)) it.2

  -- the attempt a has s in slot k, and all others are as before
  module _ (k : ℕ) (s : Shelved) (own : s.attempt ≡ a) (there : get new k ≡ Some s) (placed : (b : AttemptId) → same_attempt a b ≡ true → lookup (same_attempt b) now ≡ Some k) where
    pub put_shelf : (b : AttemptId) → shelf b (shelved new now) ≡ cond (same_attempt a b) (Some (s.node, s.pieces)) (shelf b (shelved old was))
    put_shelf b = cases (same_attempt a b)
        (λ here. shelf_at new now b k s (placed b here) there ∙ ap (λ t. cond t (Some (s.node, s.pieces)) (shelf b (shelved old was))) (sym here))
        (λ other. shelf_same old new was now b (rest b other) (λ j e. kept b j other e) ∙ ap (λ t. cond t (Some (s.node, s.pieces)) (shelf b (shelved old was))) (sym other))

  -- the attempt a has nothing, and all others are as before
  module _ (gone : (b : AttemptId) → same_attempt a b ≡ true → lookup (same_attempt b) now ≡ None) where
    drop_own : (b : AttemptId) → IfSome (lookup (same_attempt b) now) (λ j. IsSomeAnd (get new j) (λ t. t.attempt ≡ b))
    drop_own b = if_some (λ j. IsSomeAnd (get new j) (λ t. t.attempt ≡ b)) (lookup (same_attempt b) now) (λ j e. cases (same_attempt a b)
        (λ here. let none = gone b here in cc)
        (λ other. other_held b j other e))

    -- where what a slot holds is as before, and the attempt's slot is empty
    pub drop_held : ((j : ℕ) (t : Shelved) → get new j ≡ Some t → get old j ≡ Some t) → ((j : ℕ) → lookup (same_attempt a) was ≡ Some j → get new j ≡ None) → AreHeld new now
    drop_held left empty = record {
      own = drop_own;
      named = λ j. if_some (λ t. lookup (same_attempt t.attempt) now ≡ Some j) (get new j) (λ t e.
          cases (same_attempt a t.attempt)
          (λ here. let none = empty j (only_slot old was a j t whole (left j t e) here) in cc)
          (λ other. rest t.attempt other ∙ named_at old was j t whole (left j t e)));
    }

    pub drop_shelf : (b : AttemptId) → shelf b (shelved new now) ≡ cond (same_attempt a b) None (shelf b (shelved old was))
    drop_shelf b = cases (same_attempt a b)
        (λ here. shelf_none new now b (gone b here) ∙ ap (λ t. cond t None (shelf b (shelved old was))) (sym here))
        (λ other. shelf_same old new was now b (rest b other) (λ j e. kept b j other e) ∙ ap (λ t. cond t None (shelf b (shelved old was))) (sym other))

-- another slot than the empty one, and than that of another attempt
pub not_empty : (slots : Slab Shelved) (entries : List (AttemptId × ℕ)) (b : AttemptId) (j k : ℕ) → AreHeld slots entries → get slots k ≡ None → lookup (same_attempt b) entries ≡ Some j → j ≡ k → ⊥
not_empty slots entries b j k whole none e same = let it = held_at slots entries b j whole e in let there = ap (get slots) (sym same) in cc (it.1, none, there)

pub not_its : (slots : Slab Shelved) (entries : List (AttemptId × ℕ)) (a b : AttemptId) (j k : ℕ) → AreHeld slots entries → lookup (same_attempt a) entries ≡ Some k → same_attempt a b ≡ false → lookup (same_attempt b) entries ≡ Some j → j ≡ k → ⊥
not_its slots entries a b j k whole its other e same = both (one_slot slots entries a b k whole its (e ∙ ap Some same)) other

-- what slots hold after one is emptied was there before
pub left_but : (old new : Slab Shelved) (k : ℕ) → get new k ≡ None → ((j : ℕ) → j ≢ k → get new j ≡ get old j) → (j : ℕ) (t : Shelved) → get new j ≡ Some t → get old j ≡ Some t
left_but old new k none others j t e = by (eqb_tells j k) where
  by : ((eqb j k ≡ true) × (j ≡ k)) ⊎ ((eqb j k ≡ false) × (j ≢ k)) → get old j ≡ Some t
  by (inl (test, same)) = let there = ap (get new) (sym same) ∙ e in cc (none, there)
  by (inr (test, differ)) = sym (others j differ) ∙ e

-- a test of what is held, and of the index by what is left
module _ (old new : Slab Shelved) (was now : List (AttemptId × ℕ)) (p : Shelved → Bool) (q : AttemptId → NodeId × List (EdgeId × ℕ × List (List ℕ)) → Bool)
    (tests : (k : ℕ) (s : Shelved) → get old k ≡ Some s → p s ≡ q s.attempt (s.node, s.pieces)) (whole : AreHeld old was)
    (slots : (k : ℕ) → get new k ≡ kept_if p (get old k))
    (index : (b : AttemptId) → lookup (same_attempt b) now ≡ kept_if (λ k. is_some (get new k)) (lookup (same_attempt b) was)) where
  abbrev Left : AttemptId → Type 0
  Left b = (k : ℕ) × (s : Shelved) × (lookup (same_attempt b) now ≡ Some k) × (get new k ≡ Some s) × (s.attempt ≡ b) × (kept_if (q b) (shelf b (shelved old was)) ≡ Some (s.node, s.pieces))

  abbrev Gone : AttemptId → Type 0
  Gone b = (lookup (same_attempt b) now ≡ None) × (kept_if (q b) (shelf b (shelved old was)) ≡ None)

  left_or_gone : (b : AttemptId) → Left b ⊎ Gone b
  left_or_gone b = by (lookup (same_attempt b) was) refl where
    by : (o : Option ℕ) → lookup (same_attempt b) was ≡ o → Left b ⊎ Gone b
    by None e = inr (index b ∙ ap (kept_if (λ k. is_some (get new k))) e, ap (kept_if (q b)) (shelf_none old was b e))
    by (Some k) e =
        let it = held_at old was b k whole e in
        let s = it.0 in
        let content = ap (kept_if (q b)) (shelf_at old was b k s e it.1) in
        let test : p s ≡ q b (s.node, s.pieces) = tests k s it.1 ∙ ap (λ c. q c (s.node, s.pieces)) it.2 in
        let slot : get new k ≡ cond (p s) (Some s) None = slots k ∙ ap (kept_if p) it.1 in
        let place : lookup (same_attempt b) now ≡ cond (is_some (get new k)) (Some k) None = index b ∙ ap (kept_if (λ j. is_some (get new j))) e in
        cases (p s)
        (λ passes.
        let stays : get new k ≡ Some s = slot ∙ ap (λ t. cond t (Some s) None) passes in
        inl (k, s, place ∙ ap (λ o. cond (is_some o) (Some k) None) stays, stays, it.2, content ∙ ap (λ t. cond t (Some (s.node, s.pieces)) None) (sym test ∙ passes)))
        (λ fails.
        let goes : get new k ≡ None = slot ∙ ap (λ t. cond t (Some s) None) fails in
        inr (place ∙ ap (λ o. cond (is_some o) (Some k) None) goes, content ∙ ap (λ t. cond t (Some (s.node, s.pieces)) None) (sym test ∙ fails)))

  pub kept_shelf : (b : AttemptId) → shelf b (shelved new now) ≡ kept_if (q b) (shelf b (shelved old was))
  kept_shelf b = by (left_or_gone b) where
    by : Left b ⊎ Gone b → shelf b (shelved new now) ≡ kept_if (q b) (shelf b (shelved old was))
    by (inl x) = shelf_at new now b x.0 x.1 x.2 x.3 ∙ sym x.5
    by (inr x) = shelf_none new now b x.0 ∙ sym x.1

-- a test that asks nothing of the value
pub kept_by : {X : Type 0} (t : Bool) (o : Option X) → kept_if (λ x. t) o ≡ cond t o None
kept_by true None = refl
kept_by false None = refl
kept_by true (Some x) = refl
kept_by false (Some x) = refl
