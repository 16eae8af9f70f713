-- What the managers say fits the plan.
use Rattle.std.specs.Prelude.{◌≡◌, ℕ, zero, suc, ◌+◌, ◌*◌, ◌/◌, ◌%◌, ◌<◌, ◌≤◌, ◌⊎◌, min, Bool, true, false, if◌then◌else◌, ◌&&◌, nat_le, List, [], ◌∷◌, map, slice_get, Option, Some, None, IfSome, is_some, is_none, refl}
use Rattle.std.specs.Option.{option_map, option_map_or}
use Rattle.std.proofs.lemmas.Bool.Decides.{nat_tests}
use Rattle.std.proofs.Common.{zero-mul, ap, ◌∙◌, arith, subst, inl, inr}
use Rattle.std.proofs.Math.Nat.{le-mul_of_pos_right}
use Rattle.std.proofs.lemmas.Bool.{cases_lt}
use Rattle.std.proofs.lemmas.Grind.{div_ceil_times}
use Rattle.tez_shrink.specs.Formulas.{tasks_of, base_of}
use Rattle.tez_shrink.proofs.RangeLemmas.{range_there}
use Rattle.tez_vman.specs.declared.seen.Seen.{Seen}
use Rattle.tez_vman.specs.declared.seen.Config.{Config}
use Rattle.tez_vman.specs.Rules.{Rule, AtOnce, AsSources, Gathers, Shuffling, HasSources, configures, shrunk, shrunk_base, has_enough, config}
use Rattle.tez_schedule.specs.State.{VertexState}
use Rattle.tez_schedule.specs.Table.{is_configured, can_have, can_configure_in}
use Rattle.tez_schedule.specs.Kept.{Fits, GivesFew, Layout, layout, IsLaidOut, AreLaidOut}

few_parts : (parts base : ℕ) → 0 < base → tasks_of parts base ≤ parts
few_parts parts base b = by (cases_lt parts (tasks_of parts base)) where
  by : (parts < tasks_of parts base) ⊎ (tasks_of parts base ≤ parts) → tasks_of parts base ≤ parts
  by (inl l) =
      let more : parts * base < parts = range_there parts base parts b l in
      let less : parts ≤ parts * base = le-mul_of_pos_right parts b in
      absurd (omega arith)
  by (inr l) = l

some_parts : (parts base : ℕ) → 0 < base → 1 ≤ parts → 1 ≤ tasks_of parts base
some_parts parts base b some = by (tasks_of parts base) refl where
  by : (n : ℕ) → tasks_of parts base ≡ n → 1 ≤ n
  by zero e =
      let h = (div_ceil_times parts base b).0 in
      let none : (parts / base + min 1 (parts % base)) * base ≡ 0 = ap (λ n. n * base) e ∙ zero-mul base in
      absurd (omega arith)
  by (suc n) e = omega arith

base_some : (parts wanted : ℕ) → 0 < base_of parts wanted
base_some parts wanted = omega arith

pub shrunk_fits : (s : Shuffling) (seen : Seen) → 1 ≤ s.parts → Fits s.parts (shrunk s seen)
shrunk_fits s seen some =
    let b = base_some s.parts _ in
    (some_parts s.parts (shrunk_base s seen) b some, few_parts s.parts (shrunk_base s seen) b)

pub config_fits : (r : Rule) (seen : Seen) (planned sources : ℕ) (o : Option Config) → o ≡ configures r seen → HasSources r seen → GivesFew r planned sources → seen.sources ≤ sources → 1 ≤ planned → IfSome o (Fits planned)
config_fits (AtOnce tasks) seen planned sources o e has few less some = rw e (omega arith, omega arith)
config_fits AsSources seen planned sources o e has few less some = by seen.configured refl e where
  by : (b : Bool) → seen.configured ≡ b → o ≡ (if b then Some (config seen.sources 1) else None) → IfSome o (Fits planned)
  by true is e = rw e (has is, omega arith)
  by false is e = rw e tt
config_fits (Gathers s) seen planned sources o e has few less some = by s.auto_parallel (has_enough s seen) e where
  by : (b d : Bool) → o ≡ (if b then (if d then Some (shrunk s seen) else None) else Some (config s.parts 1)) → IfSome o (Fits planned)
  by true true e = rw e (subst (λ n. Fits n (shrunk s seen)) few (shrunk_fits s seen (omega arith)))
  by true false e = rw e tt
  by false d e = rw e (omega arith, omega arith)

fits_have : (o : Option Config) (planned : ℕ) (c : Config) → is_some o ≡ false → Fits planned c → (is_none o && (nat_le 1 c.tasks && nat_le c.tasks planned)) ≡ true
fits_have None planned c e h = let some = h.0 in let few = h.1 in grind (arith, nat_tests)
fits_have (Some x) planned c e h = cc

pub can_fit : (o : Option Config) (x : VertexState) → is_configured x ≡ false → IfSome o (Fits x.planned) → IfSome o (λ c. can_have c x ≡ true)
can_fit None x e h = tt
can_fit (Some c) x e h = fits_have x.config x.planned c e h

get_map : {X Y : Type 0} (f : X → Y) (xs : List X) (i : ℕ) → slice_get (map f xs) i ≡ option_map f (slice_get xs i)
get_map f [] i = refl
get_map f (x ∷ xs) zero = refl
get_map f (x ∷ xs) (suc i) = get_map f xs i

pub laid_out_at : (vs : List VertexState) (v : ℕ) (x : VertexState) → AreLaidOut (map layout vs) → slice_get vs v ≡ Some x → IsLaidOut (map layout vs) (layout x)
laid_out_at vs v x all e = subst (λ (o : Option Layout). IfSome o (IsLaidOut (map layout vs))) (get_map layout vs v ∙ ap (option_map layout) e) (all v)

pub can_at : (o : Option Config) (vs : List VertexState) (v : ℕ) (x : VertexState) → slice_get vs v ≡ Some x → IfSome o (λ c. can_have c x ≡ true) → IfSome o (λ c. can_configure_in vs v c ≡ true)
can_at None vs v x e h = tt
can_at (Some c) vs v x e h = ap (λ o. option_map_or (can_have c) o false) e ∙ h
