-- Configurations that fit a plan, and one more that fits beside them.
--     planned_some      a vertex of the plan has tasks
--     fits_set          one more configuration, of a vertex that had none
use Rattle.std.specs.Prelude.{◌≡◌, ℕ, zero, suc, ◌*◌, ◌<◌, ◌≤◌, ◌==◌, nat_le, Bool, true, false, if◌then◌else◌, List, [], ◌∷◌, length, slice_get, Option, Some, None, refl}
use Rattle.std.specs.Option.{option_map_or}
use Rattle.std.proofs.Common.{inl, inr, arith, subst}
use Rattle.std.proofs.lemmas.Bool.{eqb-true}
use Rattle.std.proofs.lemmas.Bool.Decides.{nat_tests}
use Rattle.tez_lists.specs.Numbers.{In}
use Rattle.tez_lists.proofs.Cases.{cases}
use Rattle.tez_plan.specs.declared.parts.VertexSpec.{VertexSpec}
use Rattle.tez_plan.specs.Dag.{Dag, tasks_of as planned}
use Rattle.tez_plan.specs.Ranges.{IsInRanges, vertex_in_range, is_within, most_tasks}
use Rattle.tez_vman.specs.declared.seen.Config.{Config}
use Rattle.tez_history.specs.Shape.{ByVertex, feed}
use Rattle.tez_laws.proofs.StepLaw.{both}
use Rattle.tez_progress.specs.Laws.{Fits}
use Rattle.tez_progress.proofs.Members.{all_at}

pub le_from : (a b : ℕ) → nat_le a b ≡ true → a ≤ b
le_from a b h = grind (arith, nat_tests)

pub same_some : (s d : Config) → Some s ≡ Some d → s ≡ d
same_some s d h = cc

-- ---- the tasks of the plan

in_slice : {X : Type 0} (xs : List X) (i : ℕ) (x : X) → slice_get xs i ≡ Some x → In x xs
in_slice [] i x h = cc
in_slice (y ∷ xs) zero x h = inl (let e : Some y ≡ Some x = h in cc)
in_slice (y ∷ xs) (suc i) x h = inr (in_slice xs i x h)

vertex_tasks : (s : VertexSpec) → vertex_in_range s ≡ true → 1 ≤ s.tasks
vertex_tasks s h = let k : is_within 1 most_tasks s.tasks ≡ true = (both (both (both (both (both h).0).0).0).0).1 in le_from 1 s.tasks (both k).0

pub planned_some : (g : Dag) (v : ℕ) → IsInRanges g → v < length g.vertices → 1 ≤ planned g v
planned_some g v ranges h = by (slice_get g.vertices v) refl where
  by : (o : Option VertexSpec) → slice_get g.vertices v ≡ o → 1 ≤ option_map_or (λ s. s.tasks) o 0
  by (Some s) e = vertex_tasks s (all_at vertex_in_range s g.vertices ranges.vertices (in_slice g.vertices v s e))
  by None e = let some = Rattle.std.proofs.lemmas.Option.slice_get-get_or g.vertices v (nothing g) h in cc where
    nothing : Dag → VertexSpec
    nothing g = record { name = []; tasks = 0; source = None; head = Rattle.tez_plan.specs.declared.parts.Head.TheVariants.Each; steps = []; sink = None }

pub times_some : (a b d : ℕ) → a ≤ d * b → 1 ≤ a → 1 ≤ d
times_some a b zero h some = absurd (omega (arith, h))
times_some a b (suc d) h some = omega arith

-- ---- one more configuration

pub fits_none : (g : Dag) (f : ℕ → Option Config) → ((v : ℕ) → f v ≡ None) → Fits g f
fits_none g f none = record {
  tasks = λ v s h. let clear : f v ≡ None = none v in cc;
  step = λ v u s k h. let clear : f v ≡ None = none v in cc;
}

-- the feeder is configured with as many tasks
abbrev pub HasFeeder : (ℕ → Option Config) → ℕ → Config → Type 0
HasFeeder f u s = (d : Config) × (f u ≡ Some d) × (d.tasks ≡ s.tasks)

set_some : (same : Bool) (o : Option Config) (new s : Config) → 1 ≤ new.tasks → (o ≡ Some s → 1 ≤ s.tasks) → (if same then Some new else o) ≡ Some s → 1 ≤ s.tasks
set_some true o new s some ih h = subst (λ z. 1 ≤ z.tasks) (same_some new s h) some
set_some false o new s some ih h = ih h

-- what is configured before stays so
stays : (f : ℕ → Option Config) (w u : ℕ) (new s : Config) → f w ≡ None → HasFeeder f u s → HasFeeder (λ v. if w == v then Some new else f v) u s
stays f w u new s none k = cases (w == u)
    (λ e. let clear : f u ≡ None = subst (λ x. f x ≡ None) (eqb-true w u e) none in let full : f u ≡ Some k.0 = k.1 in cc)
    (λ e. rw e k)

-- the vertex itself, or another before
set_step : (f : ℕ → Option Config) (w v u : ℕ) (new s : Config) → f w ≡ None → (w ≡ v → HasFeeder f u new) → (f v ≡ Some s → HasFeeder f u s)
    → (if w == v then Some new else f v) ≡ Some s → HasFeeder (λ v. if w == v then Some new else f v) u s
set_step f w v u new s none now before h = by (w == v) refl h where
  by : (b : Bool) → (w == v) ≡ b → (if b then Some new else f v) ≡ Some s → HasFeeder (λ v. if w == v then Some new else f v) u s
  by true e k = stays f w u new s none (subst (λ z. HasFeeder f u z) (same_some new s k) (now (eqb-true w v e)))
  by false e k = stays f w u new s none (before k)

pub fits_set : (g : Dag) (f : ℕ → Option Config) (w : ℕ) (new : Config) → f w ≡ None → 1 ≤ new.tasks → ((u : ℕ) → feed g w ≡ ByVertex u → HasFeeder f u new) → Fits g f
    → Fits g (λ v. if w == v then Some new else f v)
fits_set g f w new none some feeder fits = record {
  tasks = λ v s h. set_some (w == v) (f v) new s some (fits.tasks v s) h;
  step = λ v u s k h. set_step f w v u new s none (λ e. feeder u (subst (λ x. feed g x ≡ ByVertex u) (Rattle.std.proofs.Common.sym e) k)) (fits.step v u s k) h;
}
