-- The winners of a vertex, once each of its tasks has one, make together what the vertex makes.
--     winners_whole
use Rattle.std.specs.Prelude.{◌≡◌, ℕ, ◌+◌, ◌<◌, true, List, [], ◌∷◌, ◌++◌, length, Option, Some, None, is_some, refl}
use Rattle.std.specs.List.{flat_map, filter_map, cons_option}
use Rattle.std.proofs.Common.{inl, inr, ap, ap₂, ◌∙◌, arith}
use Rattle.std.proofs.lemmas.Bool.{eqb-true}
use Rattle.tez_ids.specs.Same.{task}
use Rattle.tez_lists.specs.Numbers.{In}
use Rattle.tez_record.specs.Bag.{sort}
use Rattle.tez_plan.specs.Faults.{IsValid}
use Rattle.tez_plan.specs.Ranges.{IsInRanges}
use Rattle.tez_conf.specs.declared.values.ConfValues.{ConfValues}
use Rattle.tez_meaning.specs.Jobs.{Job}
use Rattle.tez_shares.specs.Shares.{task_value}
use Rattle.tez_history.specs.Shape.{numbers_below}
use Rattle.tez_history.specs.History.{Past, winner}
use Rattle.tez_history.specs.Derived.{is_configured, task_count, winners_of}
use Rattle.tez_history.specs.Follows.{IsMade}
use Rattle.tez_laws.proofs.StepLaw.{both}
use Rattle.tez_laws.proofs.Ranges.{configured_is_vertex}
use Rattle.tez_progress.proofs.Members.{numbers_in, found_each}
use Rattle.tez_progress.proofs.Configured.{vertex_below}
use Rattle.tez_contents.specs.Contents.{Records, configurations, made}
use Rattle.tez_contents.specs.Laws.{IsAllowedNow, WereAllowed, KeptRight, WinnersAreWhole}
use Rattle.tez_contents.proofs.Attempts.{all_right}
use Rattle.tez_contents.proofs.Tasks.{together_whole}

there : {X : Type 0} (o : Option X) → is_some o ≡ true → (x : X) × (o ≡ Some x)
there None h = cc
there (Some x) h = (x, refl)

-- each number finds something that makes what the number is to make
found_make : {X : Type 0} (f : ℕ → Option X) (makes : X → Records) (to_make : ℕ → Records) (ns : List ℕ) → ((i : ℕ) → In i ns → (x : X) × (f i ≡ Some x) × (makes x ≡ to_make i)) → flat_map makes (filter_map f ns) ≡ flat_map to_make ns
found_make f makes to_make [] h = refl
found_make f makes to_make (i ∷ ns) h =
    let k = h i (inl refl) in
    ap (λ o. flat_map makes (cons_option o (filter_map f ns))) k.1
    ∙ ap₂ (λ (xs ys : Records). xs ++ ys) k.2 (found_make f makes to_make ns (λ j m. h j (inr m)))

pub winners_whole : (job : Job) (c : ConfValues) (past : Past) → IsInRanges job.plan → IsValid job.plan → IsMade job.plan c past → WereAllowed job.plan past → IsAllowedNow job.plan past → KeptRight job past → WinnersAreWhole job past
winners_whole job c past ranges valid m allowed now kept v done =
    let n = task_count job.plan v past in
    let parts = both {x = is_configured v past} done in
    let full : length (winners_of v n past) ≡ n = eqb-true (length (winners_of v n past)) n parts.1 in
    let right = (all_right job c ranges valid past m allowed kept).0 in
    let inside = vertex_below job.plan v (configured_is_vertex job.plan c past m v parts.0) in
    ap sort (found_make (λ i. winner (task v i) past) (λ w. made job w past) (task_value job (configurations job.plan past) v) (numbers_below n)
    (λ i k.
    let low : i < 0 + n = numbers_in 0 n i k in
    let w = there (winner (task v i) past) (found_each (λ i. winner (task v i) past) 0 n i full (omega arith) low) in
    (w.0, w.1, (right (task v i) w.0 w.1).1)))
    ∙ together_whole job past ranges valid now v (inside, parts.0)
