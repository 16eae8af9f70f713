-- What legal records tell: settings of the size of the plan, and winners and failures at tasks that are set.
use Rattle.std.specs.Prelude.{◌≡◌, ℕ, zero, suc, ◌+◌, ◌<◌, ◌≤◌, ◌==◌, ◌&&◌, not, nat_lt, nat_le, cond, Bool, true, false, if◌then◌else◌, List, [], ◌∷◌, ◌++◌, length, take, slice_get, Option, Some, None, is_none, refl}
use Rattle.std.specs.List.{find}
use Rattle.std.specs.Option.{option_or, option_map, option_map_or}
use Rattle.std.proofs.Common.{ap, sym, ◌∙◌, arith, subst, add-zero, add-one, get_or}
use Rattle.std.proofs.lemmas.Bool.Decides.{nat_tests}
use Rattle.std.proofs.lemmas.List.{take_more}
use Rattle.std.proofs.lemmas.List.Sums.{sum_by-cons, sum_by-append}
use Rattle.std.proofs.lemmas.Option.{same_Some, slice_get-get_or}
use Rattle.tez_ids.specs.declared.TaskId.{TaskId}
use Rattle.tez_ids.specs.declared.VertexId.{VertexId}
use Rattle.tez_ids.specs.declared.AttemptId.{AttemptId}
use Rattle.tez_ids.specs.Same.{same_task}
use Rattle.tez_shrink.specs.Formulas.{tasks_of as tasks_for}
use Rattle.tez_plan.specs.Dag.{Dag, vertex, from, to, tasks_of as planned, is_one_to_one}
use Rattle.tez_plan.specs.Faults.{IsValid, partitions_differ}
use Rattle.tez_plan.specs.Ranges.{IsInRanges}
use Rattle.tez_plan.specs.declared.parts.EdgeSpec.{EdgeSpec}
use Rattle.tez_plan.proofs.CheckLemmas.{valid_parts}
use Rattle.tez_events.specs.declared.JournalRecord.{JournalRecord}
use Rattle.tez_events.specs.declared.JournalRecord.TheVariants.{Submitted, Opened, Configured, TaskSucceeded, AttemptFailed, CommitStarted, Finished, Version, SinkPublished}
use Rattle.tez_standing.specs.declared.state.Setting.{Setting}
use Rattle.tez_standing.specs.Standing.{latest, sets, wins, fails, setting, winner, failures, feeder, has_source, fits_vertex, fits_feeder, takes_parts, is_present, is_open, known, may_follow, IsLegal, IsLegalTo}
use Rattle.tez_laws.proofs.Same.{same_task-true}
use Rattle.tez_laws.proofs.StepLaw.{both, below}
use Rattle.tez_progress.proofs.Fitting.{le_from, planned_some}
use Rattle.tez_router_view.proofs.Fitting.{tasks_few}
use Rattle.tez_recovery.specs.Laws.{IsSizedFor}

-- ---- one record more

pub latest_more : {X : Type 0} (tells : JournalRecord → Option X) (rs : List JournalRecord) (r : JournalRecord) → latest tells (rs ++ r ∷ []) ≡ option_or (tells r) (latest tells rs)
latest_more {X} tells [] r = by (tells r) where
  by : (o : Option X) → o ≡ option_or o None
  by None = refl
  by (Some x) = refl
latest_more {X} tells (q ∷ rs) r = ap (λ o. option_or o (tells q)) (latest_more tells rs r) ∙ by (tells r) where
  by : (o : Option X) → option_or (option_or o (latest tells rs)) (tells q) ≡ option_or o (option_or (latest tells rs) (tells q))
  by None = refl
  by (Some x) = refl

failed_more : (rs : List JournalRecord) (r : JournalRecord) (t : TaskId) → failures (rs ++ r ∷ []) t ≡ failures rs t + cond (fails t r) 1 0
failed_more rs r t =
    sum_by-append (λ w. cond (fails t w) 1 0) rs (r ∷ [])
    ∙ ap (λ n. failures rs t + n) (sum_by-cons (λ w. cond (fails t w) 1 0) r [] ∙ add-zero (cond (fails t r) 1 0))

-- ---- what they tell

abbrev pub row_of : ℕ → Setting → VertexId × ℕ × ℕ
row_of v s = (vertex v, s.tasks, s.base)

-- a task of a vertex that is set
abbrev pub IsSet : List JournalRecord → TaskId → Type 0
IsSet rs t = (s : Setting) × (setting rs t.vertex.0 ≡ Some s) × (t.index < s.tasks)

pub record IsTold (g : Dag) (rs : List JournalRecord) : Type 0 where
  pub sized : (v : ℕ) (s : Setting) → setting rs v ≡ Some s → IsSizedFor g (row_of v s)
  pub won : (t : TaskId) (a : AttemptId) → winner rs t ≡ Some a → (a.task ≡ t) × IsSet rs t
  pub failed : (t : TaskId) → 1 ≤ failures rs t → IsSet rs t

-- ---- a setting has the size of the plan

same_number : (a b : ℕ) → (a == b) ≡ true → a ≡ b
same_number a b h = grind (arith, nat_tests)

not_true : (b : Bool) → (b ≡ true → ⊥) → b ≡ false
not_true true h = absurd (h refl)
not_true false h = refl

equal_tasks : (one : Bool) (m n : ℕ) → one ≡ true → (one && not (m == n)) ≡ false → m ≡ n
equal_tasks one m n h k = grind (arith, nat_tests)

-- what is found passes, and stands somewhere
record IsFoundBy {X : Type 0} (test : X → Bool) (xs : List X) (x : X) : Type 0 where
  place : ℕ
  there : slice_get xs place ≡ Some x
  passes : test x ≡ true

found_by : {X : Type 0} (test : X → Bool) (xs : List X) (x : X) → find test xs ≡ Some x → IsFoundBy test xs x
found_by test [] x e = cc
found_by {X} test (y ∷ ys) x e = by (test y) refl e (found_by test ys x) where
  by : (b : Bool) → test y ≡ b → (if b then Some y else find test ys) ≡ Some x → (find test ys ≡ Some x → IsFoundBy test ys x) → IsFoundBy test (y ∷ ys) x
  by true t k later = let same : y ≡ x = same_Some y x k in record { place = 0; there = ap Some same; passes = ap test (sym same) ∙ t }
  by false t k later = let rest = later k in record { place = suc rest.place; there = rest.there; passes = rest.passes }

edge_tasks : (g : Dag) (v : ℕ) (e : EdgeSpec) → IsValid g → IsFoundBy (λ x. is_one_to_one x && (to g x == v)) g.edges e → planned g (from g e) ≡ planned g v
edge_tasks g v e valid f =
    let k = both {x = is_one_to_one e} f.passes in
    let test : EdgeSpec → Bool = λ s. is_one_to_one s && not (planned g (from g s) == planned g (to g s)) in
    let none : partitions_differ g f.place ≡ false = not_true _ ((valid_parts g valid).same_partitions f.place) in
    equal_tasks (is_one_to_one e) (planned g (from g e)) (planned g (to g e)) k.0 (sym (ap (λ o. option_map_or test o false) f.there) ∙ none)
    ∙ ap (planned g) (same_number (to g e) v k.1)

feeder_tasks : (g : Dag) (v u : ℕ) → IsValid g → feeder g v ≡ Some u → planned g u ≡ planned g v
feeder_tasks g v u valid h = by (find (λ e. is_one_to_one e && (to g e == v)) g.edges) refl h where
  by : (o : Option EdgeSpec) → find (λ e. is_one_to_one e && (to g e == v)) g.edges ≡ o → option_map (from g) o ≡ Some u → planned g u ≡ planned g v
  by None e k = cc
  by (Some x) e k = ap (planned g) (sym (same_Some (from g x) u k)) ∙ edge_tasks g v x valid (found_by (λ e. is_one_to_one e && (to g e == v)) g.edges x e)

record IsOfSize (p : ℕ) (s : Setting) : Type 0 where
  few : s.tasks ≤ p
  base : 1 ≤ s.base
  parts : s.base ≤ p

parts_size : (p : ℕ) (s : Setting) → takes_parts p s ≡ true → IsOfSize p s
parts_size p s h =
    let k = both {x = nat_le 1 s.base} h in
    let l = both {x = nat_le s.base p} k.1 in
    let some = le_from 1 s.base k.0 in
    let is : s.tasks ≡ tasks_for p s.base = same_number s.tasks (tasks_for p s.base) l.1 in
    record { few = subst (λ n. n ≤ p) (sym is) (tasks_few p s.base some); base = some; parts = le_from s.base p l.0 }

source_size : (p : ℕ) (s : Setting) → 1 ≤ p → ((s.tasks == p) && (s.base == 1)) ≡ true → IsOfSize p s
source_size p s some h =
    let k = both {x = s.tasks == p} h in
    let tasks = same_number s.tasks p k.0 in
    let base = same_number s.base 1 k.1 in
    record { few = omega (arith, tasks); base = omega (arith, base); parts = omega (arith, base, some) }

-- that of the vertex that feeds it
fed_size : (g : Dag) (rs : List JournalRecord) (v u : ℕ) (s : Setting) → IsValid g → IsTold g rs → feeder g v ≡ Some u → 1 ≤ planned g v → (s.base == 1 && option_map_or (λ x. s.tasks == x.tasks) (setting rs u) false) ≡ true → IsOfSize (planned g v) s
fed_size g rs v u s valid told f some h = by (setting rs u) refl k.1 where
  k : (s.base == 1 ≡ true) × (option_map_or (λ x. s.tasks == x.tasks) (setting rs u) false ≡ true)
  k = both {x = s.base == 1} h

  by : (o : Option Setting) → setting rs u ≡ o → option_map_or (λ x. s.tasks == x.tasks) o false ≡ true → IsOfSize (planned g v) s
  by None e q = cc
  by (Some x) e q =
      let same = same_number s.tasks x.tasks q in
      let base = same_number s.base 1 k.0 in
      let low : x.tasks ≤ planned g u = (told.sized u x e).few in
      let plan = feeder_tasks g v u valid f in
      record { few = omega (arith, same, low, plan); base = omega (arith, base); parts = omega (arith, base, some) }

sized_by : (g : Dag) (rs : List JournalRecord) (v : ℕ) (s : Setting) → IsValid g → IsTold g rs → 1 ≤ planned g v → (b : Bool) (o : Option ℕ) → feeder g v ≡ o
    → (if b then ((s.tasks == planned g v) && (s.base == 1)) else fits_feeder g (setting rs) v s o) ≡ true → IsOfSize (planned g v) s
sized_by g rs v s valid told some true o f h = source_size (planned g v) s some h
sized_by g rs v s valid told some false None f h = parts_size (planned g v) s h
sized_by g rs v s valid told some false (Some u) f h = fed_size g rs v u s valid told f some h

-- ---- one record more keeps it

not_set : (o : Option Setting) → is_none o ≡ true → o ≡ None
not_set None h = refl
not_set (Some s) h = cc

-- a vertex that is set stays so
pub stays_set : (g : Dag) (rs : List JournalRecord) (r : JournalRecord) (v : ℕ) (s : Setting) → may_follow g rs r ≡ true → setting rs v ≡ Some s → setting (rs ++ r ∷ []) v ≡ Some s
stays_set g rs (Configured w tasks base) v s h e = latest_more (sets v) rs (Configured w tasks base) ∙ by (w.0 == v) refl where
  none : setting rs w.0 ≡ None
  none = not_set (setting rs w.0) (both {x = is_none (setting rs w.0)} (both {x = nat_lt w.0 (length g.vertices)} (both {x = is_open (known g rs)} h).1).1).0

  by : (b : Bool) → (w.0 == v) ≡ b → option_or (if b then Some (record { tasks = tasks; base = base }) else None) (setting rs v) ≡ Some s
  by true same = let clear : setting rs v ≡ None = subst (λ u. setting rs u ≡ None) (same_number w.0 v same) none in cc
  by false other = e
stays_set g rs (Submitted text) v s h e = latest_more (sets v) rs (Submitted text) ∙ e
stays_set g rs (Opened n) v s h e = latest_more (sets v) rs (Opened n) ∙ e
stays_set g rs (TaskSucceeded a) v s h e = latest_more (sets v) rs (TaskSucceeded a) ∙ e
stays_set g rs (AttemptFailed a) v s h e = latest_more (sets v) rs (AttemptFailed a) ∙ e
stays_set g rs (CommitStarted sums) v s h e = latest_more (sets v) rs (CommitStarted sums) ∙ e
stays_set g rs Finished v s h e = latest_more (sets v) rs Finished ∙ e
stays_set g rs Version v s h e = latest_more (sets v) rs Version ∙ e
stays_set g rs (SinkPublished w) v s h e = latest_more (sets v) rs (SinkPublished w) ∙ e

set_after : (g : Dag) (rs : List JournalRecord) (r : JournalRecord) (t : TaskId) → may_follow g rs r ≡ true → IsSet rs t → IsSet (rs ++ r ∷ []) t
set_after g rs r t h k = (k.0, stays_set g rs r t.vertex.0 k.0 h k.1, k.2)

-- the attempt of a record is at a task that is set
present : (g : Dag) (rs : List JournalRecord) (a : AttemptId) → is_present (known g rs) a ≡ true → IsSet rs a.task
present g rs a h = by (setting rs a.task.vertex.0) refl (both {x = a.epoch.0 == (known g rs).epoch} h).1 where
  by : (o : Option Setting) → setting rs a.task.vertex.0 ≡ o → option_map_or (λ s. nat_lt a.task.index s.tasks) o false ≡ true → IsSet rs a.task
  by None e k = cc
  by (Some s) e k = (s, e, below a.task.index s.tasks k)

same_sized : (g : Dag) (rs : List JournalRecord) (r : JournalRecord) → ((v : ℕ) → sets v r ≡ None) → IsTold g rs → (v : ℕ) (s : Setting) → setting (rs ++ r ∷ []) v ≡ Some s → IsSizedFor g (row_of v s)
same_sized g rs r none told v s e = told.sized v s (sym (latest_more (sets v) rs r ∙ ap (λ o. option_or o (setting rs v)) (none v)) ∙ e)

next_sized : (g : Dag) (rs : List JournalRecord) (r : JournalRecord) → IsValid g → IsInRanges g → may_follow g rs r ≡ true → IsTold g rs → (v : ℕ) (s : Setting) → setting (rs ++ r ∷ []) v ≡ Some s → IsSizedFor g (row_of v s)
next_sized g rs (Configured w tasks base) valid ranges h told v s e = by (w.0 == v) refl (sym (latest_more (sets v) rs (Configured w tasks base)) ∙ e) where
  given : Setting
  given = record { tasks = tasks; base = base }

  inside : w.0 < length g.vertices
  inside = below w.0 (length g.vertices) (both {x = nat_lt w.0 (length g.vertices)} (both {x = is_open (known g rs)} h).1).0

  fits : fits_vertex g (setting rs) w.0 given ≡ true
  fits = (both {x = is_none (setting rs w.0)} (both {x = nat_lt w.0 (length g.vertices)} (both {x = is_open (known g rs)} h).1).1).1

  size : IsOfSize (planned g w.0) given
  size = sized_by g rs w.0 given valid told (planned_some g w.0 ranges inside) (has_source g w.0) (feeder g w.0) refl fits

  by : (b : Bool) → (w.0 == v) ≡ b → option_or (if b then Some given else None) (setting rs v) ≡ Some s → IsSizedFor g (row_of v s)
  by true same k =
      subst (λ u. IsSizedFor g (row_of u s)) (same_number w.0 v same)
      (subst (λ x. IsSizedFor g (row_of w.0 x)) (same_Some given s k) (record { inside = inside; few = size.few; base = size.base; parts = size.parts }))
  by false other k = told.sized v s k
next_sized g rs (Submitted text) valid ranges h told v s e = same_sized g rs (Submitted text) (λ u. refl) told v s e
next_sized g rs (Opened n) valid ranges h told v s e = same_sized g rs (Opened n) (λ u. refl) told v s e
next_sized g rs (TaskSucceeded a) valid ranges h told v s e = same_sized g rs (TaskSucceeded a) (λ u. refl) told v s e
next_sized g rs (AttemptFailed a) valid ranges h told v s e = same_sized g rs (AttemptFailed a) (λ u. refl) told v s e
next_sized g rs (CommitStarted sums) valid ranges h told v s e = same_sized g rs (CommitStarted sums) (λ u. refl) told v s e
next_sized g rs Finished valid ranges h told v s e = same_sized g rs Finished (λ u. refl) told v s e
next_sized g rs Version valid ranges h told v s e = same_sized g rs Version (λ u. refl) told v s e
next_sized g rs (SinkPublished w) valid ranges h told v s e = same_sized g rs (SinkPublished w) (λ u. refl) told v s e

abbrev Won : List JournalRecord → TaskId → AttemptId → Type 0
Won rs t a = (a.task ≡ t) × IsSet rs t

same_won : (g : Dag) (rs : List JournalRecord) (r : JournalRecord) → ((t : TaskId) → wins t r ≡ None) → may_follow g rs r ≡ true → IsTold g rs → (t : TaskId) (a : AttemptId) → winner (rs ++ r ∷ []) t ≡ Some a → Won (rs ++ r ∷ []) t a
same_won g rs r none h told t a e =
    let was = told.won t a (sym (latest_more (wins t) rs r ∙ ap (λ o. option_or o (winner rs t)) (none t)) ∙ e) in (was.0, set_after g rs r t h was.1)

next_won : (g : Dag) (rs : List JournalRecord) (r : JournalRecord) → may_follow g rs r ≡ true → IsTold g rs → (t : TaskId) (a : AttemptId) → winner (rs ++ r ∷ []) t ≡ Some a → Won (rs ++ r ∷ []) t a
next_won g rs (TaskSucceeded b) h told t a e = by (same_task b.task t) refl (sym (latest_more (wins t) rs (TaskSucceeded b)) ∙ e) where
  now : IsSet (rs ++ TaskSucceeded b ∷ []) b.task
  now = set_after g rs (TaskSucceeded b) b.task h (present g rs b (both {x = is_open (known g rs)} h).1)

  by : (same : Bool) → same_task b.task t ≡ same → option_or (if same then Some b else None) (winner rs t) ≡ Some a → Won (rs ++ TaskSucceeded b ∷ []) t a
  by true s k =
      let of : b.task ≡ t = same_task-true b.task t s in
      let is : b ≡ a = same_Some b a k in
      (ap (λ x. x.task) (sym is) ∙ of, subst (IsSet (rs ++ TaskSucceeded b ∷ [])) of now)
  by false s k = let was = told.won t a k in (was.0, set_after g rs (TaskSucceeded b) t h was.1)
next_won g rs (Submitted text) h told t a e = same_won g rs (Submitted text) (λ u. refl) h told t a e
next_won g rs (Opened n) h told t a e = same_won g rs (Opened n) (λ u. refl) h told t a e
next_won g rs (Configured w tasks base) h told t a e = same_won g rs (Configured w tasks base) (λ u. refl) h told t a e
next_won g rs (AttemptFailed b) h told t a e = same_won g rs (AttemptFailed b) (λ u. refl) h told t a e
next_won g rs (CommitStarted sums) h told t a e = same_won g rs (CommitStarted sums) (λ u. refl) h told t a e
next_won g rs Finished h told t a e = same_won g rs Finished (λ u. refl) h told t a e
next_won g rs Version h told t a e = same_won g rs Version (λ u. refl) h told t a e
next_won g rs (SinkPublished w) h told t a e = same_won g rs (SinkPublished w) (λ u. refl) h told t a e

same_failed : (g : Dag) (rs : List JournalRecord) (r : JournalRecord) → ((t : TaskId) → fails t r ≡ false) → may_follow g rs r ≡ true → IsTold g rs → (t : TaskId) → 1 ≤ failures (rs ++ r ∷ []) t → IsSet (rs ++ r ∷ []) t
same_failed g rs r none h told t some =
    set_after g rs r t h (told.failed t (subst (λ n. 1 ≤ n) (failed_more rs r t ∙ ap (λ b. failures rs t + cond b 1 0) (none t) ∙ add-zero (failures rs t)) some))

next_failed : (g : Dag) (rs : List JournalRecord) (r : JournalRecord) → may_follow g rs r ≡ true → IsTold g rs → (t : TaskId) → 1 ≤ failures (rs ++ r ∷ []) t → IsSet (rs ++ r ∷ []) t
next_failed g rs (AttemptFailed b) h told t some = by (same_task b.task t) refl (subst (λ n. 1 ≤ n) (failed_more rs (AttemptFailed b) t) some) where
  now : IsSet (rs ++ AttemptFailed b ∷ []) b.task
  now = set_after g rs (AttemptFailed b) b.task h (present g rs b (both {x = is_open (known g rs)} h).1)

  by : (same : Bool) → same_task b.task t ≡ same → 1 ≤ failures rs t + cond same 1 0 → IsSet (rs ++ AttemptFailed b ∷ []) t
  by true s k = subst (IsSet (rs ++ AttemptFailed b ∷ [])) (same_task-true b.task t s) now
  by false s k = set_after g rs (AttemptFailed b) t h (told.failed t (subst (λ n. 1 ≤ n) (add-zero (failures rs t)) k))
next_failed g rs (Submitted text) h told t some = same_failed g rs (Submitted text) (λ u. refl) h told t some
next_failed g rs (Opened n) h told t some = same_failed g rs (Opened n) (λ u. refl) h told t some
next_failed g rs (Configured w tasks base) h told t some = same_failed g rs (Configured w tasks base) (λ u. refl) h told t some
next_failed g rs (TaskSucceeded b) h told t some = same_failed g rs (TaskSucceeded b) (λ u. refl) h told t some
next_failed g rs (CommitStarted sums) h told t some = same_failed g rs (CommitStarted sums) (λ u. refl) h told t some
next_failed g rs Finished h told t some = same_failed g rs Finished (λ u. refl) h told t some
next_failed g rs Version h told t some = same_failed g rs Version (λ u. refl) h told t some
next_failed g rs (SinkPublished w) h told t some = same_failed g rs (SinkPublished w) (λ u. refl) h told t some

-- ---- all records

none_told : (g : Dag) → IsTold g []
none_told g = record { sized = λ v s e. cc; won = λ t a e. cc; failed = λ t some. absurd (omega (arith, some)) }

-- what holds before the first record, and of each record more that may follow, holds of all
to_each : (g : Dag) (P : List JournalRecord → Type 0) (rs : List JournalRecord) (n : ℕ) → P []
    → ((qs : List JournalRecord) (r : JournalRecord) → may_follow g qs r ≡ true → P qs → P (qs ++ r ∷ []))
    → n ≤ length rs → IsLegalTo g rs n → P (take n rs)
to_each g P rs zero none more low legal = none
to_each g P rs (suc n) none more low legal =
    let r = get_or rs n Finished in
    let at : slice_get rs n ≡ Some r = slice_get-get_or rs n Finished (omega arith) in
    let before = to_each g P rs n none more (omega arith) (λ k q b. legal k q (omega arith)) in
    let grown : take (suc n) rs ≡ take n rs ++ r ∷ [] =
    ap (λ m. take m rs) (sym (add-one n)) ∙ take_more rs n Finished (omega arith) in
    subst P (sym grown) (more (take n rs) r (legal n r (omega arith) at) before)

take_all : {X : Type 0} (xs : List X) → take (length xs) xs ≡ xs
take_all [] = refl
take_all (x ∷ xs) = ap (λ ys. x ∷ ys) (take_all xs)

pub by_records : (g : Dag) (P : List JournalRecord → Type 0) (rs : List JournalRecord) → P []
    → ((qs : List JournalRecord) (r : JournalRecord) → may_follow g qs r ≡ true → P qs → P (qs ++ r ∷ []))
    → IsLegal g rs → P rs
by_records g P rs none more legal = subst P (take_all rs) (to_each g P rs (length rs) none more (omega arith) legal)

pub are_told : (g : Dag) (rs : List JournalRecord) → IsValid g → IsInRanges g → IsLegal g rs → IsTold g rs
are_told g rs valid ranges legal =
    by_records g (IsTold g) rs (none_told g)
    (λ qs r may told. record {
      sized = next_sized g qs r valid ranges may told;
      won = next_won g qs r may told;
      failed = next_failed g qs r may told;
    })
    legal
