-- Rows by vertex, and elements of lists.
--     a_row_each             a row for each vertex
--     get_there, gone        an element that is there, and one that is not
use Rattle.std.specs.Prelude.{◌≡◌, ◌<◌, ℕ, zero, suc, List, [], ◌∷◌, length, map, slice_get, Option, Some, None, refl}
use Rattle.std.proofs.Common.{sym, ◌∙◌, ap, arith, get_or}
use Rattle.tez_lists.specs.Numbers.{numbers_from}
use Rattle.tez_meaning.specs.Jobs.{Job}
use Rattle.tez_history.specs.Shape.{vertices}
use Rattle.tez_world_invariant.specs.Keeping.{sum_of}
use Rattle.tez_steps.specs.Holds.{right_texts}

numbered : (k n : ℕ) → length (numbers_from k n) ≡ n
numbered k zero = refl
numbered k (suc n) = let rest = numbered (suc k) n in omega arith

mapped : {X Y : Type 0} (f : X → Y) (xs : List X) → length (map f xs) ≡ length xs
mapped f [] = refl
mapped f (x ∷ xs) = let rest = mapped f xs in omega arith

pub a_row_each : (job : Job) → length (right_texts job) ≡ length job.plan.vertices
a_row_each job = mapped (sum_of job) (vertices job.plan) ∙ numbered 0 (length job.plan.vertices)

pub get_there : {X : Type 0} (xs : List X) (i : ℕ) (x : X) → i < length xs → x ≡ get_or xs i x → slice_get xs i ≡ Some x
get_there [] i x low is = let never : ⊥ = omega arith in absurd never
get_there (y ∷ xs) zero x low is = ap Some (sym is)
get_there (y ∷ xs) (suc i) x low is = get_there xs i x (omega arith) is

pub gone : {X : Type 0} (o : Option X) → ((x : X) → o ≡ Some x → ⊥) → o ≡ None
gone None none = refl
gone (Some x) none = absurd (none x refl)
