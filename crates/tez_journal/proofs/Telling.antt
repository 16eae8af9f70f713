-- What is told of a disk, through what a call does to it.
use Rattle.std.specs.Prelude.{◌≡◌, ℕ, List, Option, Some, None, option_map, refl, Result, Ok, Err, OnOk, OnErr, IfOk, IsSome, is_some, true, false}
use Rattle.std.proofs.Common.{ap, sym, ◌∙◌, subst, inl, inr}
use Rattle.tez_ports.specs.Content.{Told, IsEither}
use Rattle.tez_ports.specs.Image.{Disk, IsBroken, IsTorn, pends}

none_some : {C : Type 0} (c : C) → None ≡ Some c → ⊥
none_some c e = subst (λ (o : Option _). elim o as (λ _. Type 0) [ None ↦ Unit {0} | Some x ↦ ⊥ ]) e tt

same_some : {C : Type 0} (a b : C) → Some a ≡ Some b → a ≡ b
same_some a b e = cc

pub told_map : {C : Type 0} (f : C → C) (old new : Option C) (P : C → Type 0) → new ≡ option_map f old → Told old (λ c. P (f c)) → Told new P
told_map f None new P is there d told = absurd (none_some d (sym is ∙ told))
told_map f (Some c) new P is there d told = subst P (same_some (f c) d (sym is ∙ told)) (there c refl)

pub told_same : {C : Type 0} (old new : Option C) (P : C → Type 0) → new ≡ old → Told old P → Told new P
told_same old new P is there = subst (λ o. Told o P) (sym is) there

pub told_either : {C : Type 0} (f : C → C) (old new : Option C) (P : C → Type 0) → IsEither f old new → Told old P → Told old (λ c. P (f c)) → Told new P
told_either f old new P (inl same) before after = told_same old new P same before
told_either f old new P (inr is) before after = told_map f old new P is after

-- a write that did not answer Ok
pub told_broken : (at n : ℕ) (old new : Option Disk) (P : Disk → Type 0) → IsBroken at n old new → Told old P → ((torn : List ℕ) (d : Disk) → old ≡ Some d → IsTorn at n d.read torn → P (pends (at, n) torn d)) → Told new P
told_broken at n old new P (inl same) before after = told_same old new P same before
told_broken at n old new P (inr broken) before after = told_map (pends (at, n) broken.0) old new P broken.1 (λ d there. after broken.0 d there (broken.2 d there))

-- ---- what holds at Ok, or at an error

pub on_err : {T E P : Type 0} (r : Result T E) → P → OnErr r P
on_err (Ok x) p = tt
on_err (Err e) p = p

pub ok_map : {T E P Q : Type 0} (r : Result T E) → (P → Q) → OnOk r P → OnOk r Q
ok_map (Ok x) f p = f p
ok_map (Err e) f p = tt

pub err_map : {T E P Q : Type 0} (r : Result T E) → (P → Q) → OnErr r P → OnErr r Q
err_map (Ok x) f p = tt
err_map (Err e) f p = f p

-- ---- where one of two disks tells, so does the other

none_true : false ≡ true → ⊥
none_true e = subst (λ b. elim b as (λ _. Type 0) [ false ↦ Unit {0} | true ↦ ⊥ ]) e tt

pub told_some : {C : Type 0} (o : Option C) → IsSome o → (c : C) × (o ≡ Some c)
told_some None h = absurd (none_true h)
told_some (Some c) h = (c, refl)

pub told_before : {C : Type 0} (old new : Option C) (d : C) → is_some new ≡ is_some old → new ≡ Some d → (c : C) × (old ≡ Some c)
told_before None new d same told = absurd (none_true (sym same ∙ ap is_some told))
told_before (Some c) new d same told = (c, refl)

-- a fact that says nothing of the disk
pub told_fact : {C : Type 0} (old new : Option C) (Q : Type 0) → is_some new ≡ is_some old → Told old (λ _. Q) → Told new (λ _. Q)
told_fact old new Q same there d told = let before = told_before old new d same told in there before.0 before.1

-- where the old one is told nothing that can be, neither tells
pub untold_same : {C : Type 0} (old new : Option C) → is_some new ≡ is_some old → Told old (λ _. ⊥) → new ≡ old
untold_same None None same never = refl
untold_same None (Some d) same never = absurd (none_true (sym same))
untold_same (Some d) new same never = absurd (never d refl)

-- one call after another leaves the same, whatever there was
pub map_to : {C : Type 0} (f h : C → C) (old mid new : Option C) (k : C) → mid ≡ option_map f old → new ≡ option_map h mid → Told old (λ c. h (f c) ≡ k) → new ≡ option_map (λ _. k) old
map_to f h old mid new k first next same = next ∙ ap (option_map h) first ∙ both old same where
  both : (o : Option _) → Told o (λ c. h (f c) ≡ k) → option_map h (option_map f o) ≡ option_map (λ _. k) o
  both None there = refl
  both (Some c) there = ap Some (there c refl)

pub ok_all : {T E : Type 0} (r : Result T E) (P Q : T → Type 0) → ((t : T) → P t → Q t) → IfOk r P → IfOk r Q
ok_all (Ok t) P Q f p = f t p
ok_all (Err e) P Q f p = tt
