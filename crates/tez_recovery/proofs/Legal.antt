-- The standing that legal records tell is one that the plan can have.
use Rattle.std.specs.Prelude.{◌≡◌, ◌≢◌, ℕ, zero, suc, ◌<◌, ◌≤◌, ◌==◌, nat_lt, Bool, true, false, if◌then◌else◌, List, [], ◌∷◌, ◌++◌, length, Option, Some, None, refl}
use Rattle.std.specs.List.{flat_map}
use Rattle.std.specs.Option.{option_map_or}
use Rattle.std.proofs.Common.{ap, sym, ◌∙◌, arith, subst, inl, inr}
use Rattle.std.proofs.lemmas.Bool.Decides.{nat_tests}
use Rattle.tez_ids.specs.declared.TaskId.{TaskId}
use Rattle.tez_ids.specs.declared.VertexId.{VertexId}
use Rattle.tez_ids.specs.declared.AttemptId.{AttemptId}
use Rattle.tez_ids.specs.Same.{task}
use Rattle.tez_lists.specs.Numbers.{In, numbers_from}
use Rattle.tez_lists.proofs.Members.{in_flat_map}
use Rattle.tez_plan.specs.Dag.{Dag, tasks_of as planned}
use Rattle.tez_plan.specs.Faults.{IsValid}
use Rattle.tez_plan.specs.Ranges.{IsInRanges}
use Rattle.tez_events.specs.declared.JournalRecord.{JournalRecord}
use Rattle.tez_standing.specs.declared.state.Setting.{Setting}
use Rattle.tez_standing.specs.Standing.{setting, winner, failures, setting_row, winner_row, failures_row, each_task, standing, IsLegal}
use Rattle.tez_progress.proofs.Legal.{standing_fits}
use Rattle.tez_router_view.proofs.Ordering.{in-flat, in-numbers, below-in}
use Rattle.tez_recovery.specs.Laws.{is_task_of, IsSizedFor, AreOnce, IsRightFor}
use Rattle.tez_recovery.proofs.Entries.{found_there}
use Rattle.tez_recovery.proofs.Records.{row_of, IsSet, IsTold, are_told}

-- ---- the rows

record IsRow (f : ℕ → Option Setting) (a : ℕ) (x : VertexId × ℕ × ℕ) : Type 0 where
  at : ℕ
  setting : Setting
  from : a ≤ at
  is : f at ≡ Some setting
  row : x ≡ row_of at setting

one_row : (f : ℕ → Option Setting) (a v : ℕ) (x : VertexId × ℕ × ℕ) → a ≤ v → (o : Option Setting) → f v ≡ o → In x (setting_row v o) → IsRow f a x
one_row f a v x low None e i = absurd i
one_row f a v x low (Some s) e (inl k) = record { at = v; setting = s; from = low; is = e; row = k }
one_row f a v x low (Some s) e (inr k) = absurd k

rows : (f : ℕ → Option Setting) (a n : ℕ) (x : VertexId × ℕ × ℕ) → In x (flat_map (λ v. setting_row v (f v)) (numbers_from a n)) → IsRow f a x
rows f a n x i =
    let q = in-flat (λ v. setting_row v (f v)) x (numbers_from a n) i in one_row f a q.0 x (in-numbers a n q.0 q.1).0 (f q.0) refl q.2

less_not : (a b : ℕ) → suc a ≤ b → a ≢ b
less_not a b h e = absurd (omega (arith, h, e))

once : (f : ℕ → Option Setting) (a n : ℕ) → AreOnce (flat_map (λ v. setting_row v (f v)) (numbers_from a n))
once f a zero = tt
once f a (suc n) = by (once f (suc a) n) (f a) where
  by : AreOnce (flat_map (λ v. setting_row v (f v)) (numbers_from (suc a) n)) → (o : Option Setting) → AreOnce (setting_row a o ++ flat_map (λ v. setting_row v (f v)) (numbers_from (suc a) n))
  by rest None = rest
  by rest (Some s) = (λ y i. let r = rows f (suc a) n y i in subst (λ z. a ≢ z.0.0) (sym r.row) (less_not a r.at r.from), rest)

-- ---- a task that is set is one of the standing

-- a setting has its row
pub row_there : (g : Dag) (rs : List JournalRecord) (v : ℕ) (s : Setting) → v < length g.vertices
    → setting rs v ≡ Some s → In (row_of v s) (standing g rs).configured
row_there g rs v s inside e =
    let n = length g.vertices in
    let row = row_of v s in
    let here : In row (setting_row v (setting rs v)) = subst (λ o. In row (setting_row v o)) (sym e) (inl refl) in
    in_flat_map (λ w. setting_row w (setting rs w)) v row (numbers_from 0 n) (below-in n v inside) here

set_there : (g : Dag) (rs : List JournalRecord) (t : TaskId) → IsTold g rs → IsSet rs t → is_task_of (standing g rs) t ≡ true
set_there g rs t told k =
    let v = t.vertex.0 in
    let row = row_there g rs v k.0 (told.sized v k.0 k.1).inside k.1 in
    ap (λ o. option_map_or (λ x. nat_lt t.index x.tasks) o false) (found_there (standing g rs).configured (row_of v k.0) (once (setting rs) 0 (length g.vertices)) row) ∙ low t.index k.0.tasks k.2
  where
    low : (a b : ℕ) → a < b → nat_lt a b ≡ true
    low a b h = grind (arith, nat_tests)

-- what is listed by task is of a task of the plan
by_task : {X : Type 0} (g : Dag) (f : TaskId → List X) (x : X) → In x (flat_map (each_task g f) (numbers_from 0 (length g.vertices))) → (t : TaskId) × In x (f t)
by_task g f x i =
    let q = in-flat (each_task g f) x (numbers_from 0 (length g.vertices)) i in
    let r = in-flat (λ j. f (task q.0 j)) x (numbers_from 0 (planned g q.0)) q.2 in
    (task q.0 r.0, r.2)

won_there : (g : Dag) (rs : List JournalRecord) (t : TaskId) (a : AttemptId) → IsTold g rs → (o : Option AttemptId) → winner rs t ≡ o → In a (winner_row o) → is_task_of (standing g rs) a.task ≡ true
won_there g rs t a told None e i = absurd i
won_there g rs t a told (Some b) e (inl k) =
    let won = told.won t b e in ap (λ x. is_task_of (standing g rs) x.task) k ∙ ap (is_task_of (standing g rs)) won.0 ∙ set_there g rs t told won.1
won_there g rs t a told (Some b) e (inr k) = absurd k

failed_there : (g : Dag) (rs : List JournalRecord) (t : TaskId) (x : TaskId × ℕ) → IsTold g rs → In x (failures_row t (failures rs t)) → is_task_of (standing g rs) x.0 ≡ true
failed_there g rs t x told i = by (failures rs t == 0) refl i where
  some : (n : ℕ) → (n == 0) ≡ false → 1 ≤ n
  some n h = grind (arith, nat_tests)

  by : (b : Bool) → (failures rs t == 0) ≡ b → In x (if b then [] else (t, failures rs t) ∷ []) → is_task_of (standing g rs) x.0 ≡ true
  by true e k = absurd k
  by false e (inl k) = ap (λ y. is_task_of (standing g rs) y.0) k ∙ set_there g rs t told (told.failed t (some (failures rs t) e))
  by false e (inr k) = absurd k

pub right : (g : Dag) (rs : List JournalRecord) → IsValid g → IsInRanges g → IsLegal g rs → IsRightFor g (standing g rs)
right g rs valid ranges legal =
    let told = are_told g rs valid ranges legal in
    record {
      fits = standing_fits g rs ranges legal;
      sized = λ x i. let r = rows (setting rs) 0 (length g.vertices) x i in subst (IsSizedFor g) (sym r.row) (told.sized r.at r.setting r.is);
      once = once (setting rs) 0 (length g.vertices);
      failed = λ x i. let q = by_task g (λ t. failures_row t (failures rs t)) x i in failed_there g rs q.0 x told q.1;
      winners = λ a i. let q = by_task g (λ t. winner_row (winner rs t)) a i in won_there g rs q.0 a told (winner rs q.0) refl q.1;
    }
