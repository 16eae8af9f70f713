-- What the table tells is what the records tell, and settings fit the plan.
use Rattle.std.specs.Prelude.{◌≡◌, ◌⊎◌, ℕ, ◌*◌, ◌<◌, ◌≤◌, ◌==◌, ◌&&◌, not, nat_lt, nat_le, Bool, true, false, if◌then◌else◌, List, [], ◌∷◌, ◌++◌, map, take, length, Option, Some, None, is_none, is_some, refl}
use Rattle.std.specs.List.{find, list_all}
use Rattle.std.specs.Option.{option_or, option_map, option_map_or, option_and_then}
use Rattle.std.proofs.Common.{ap, sym, ◌∙◌, subst, arith, inl, inr, true≢false}
use Rattle.std.proofs.Math.Nat.{le-mul_of_pos_right}
use Rattle.std.proofs.lemmas.Bool.{cases_lt}
use Rattle.std.proofs.lemmas.Bool.Decides.{nat_tests}
use Rattle.std.proofs.lemmas.Option.{same_Some}
use Rattle.std.proofs.lemmas.List.Folds.{list_all-map}
use Rattle.tez_ids.specs.Same.{task}
use Rattle.tez_lists.specs.Numbers.{numbers_from}
use Rattle.tez_shrink.specs.Formulas.{tasks_of as tasks_for}
use Rattle.tez_shrink.proofs.RangeLemmas.{range_there}
use Rattle.tez_plan.specs.declared.parts.EdgeSpec.{EdgeSpec}
use Rattle.tez_plan.specs.Dag.{Dag, from, to, tasks_of, is_one_to_one}
use Rattle.tez_plan.specs.Faults.{IsValid, partitions_differ}
use Rattle.tez_plan.proofs.CheckLemmas.{valid_parts}
use Rattle.tez_events.specs.declared.JournalRecord.{JournalRecord}
use Rattle.tez_events.specs.declared.JournalRecord.TheVariants.{Submitted, Opened, Configured, TaskSucceeded, AttemptFailed, CommitStarted, Finished, Version, SinkPublished}
use Rattle.tez_standing.specs.declared.state.Setting.{Setting}
use Rattle.tez_standing.specs.Standing.{sets, setting, winner, has_winners, is_complete, known, has_source, feeder, takes_parts, fits_feeder, fits_vertex, may_configure, is_open, fits, may_follow, sinks}
use Rattle.tez_standing.specs.Progress.{row, vertex_state, progress, has_won, is_done, setting_in, known_in, IsSized}
use Rattle.tez_standing.proofs.TableLemmas.{get_there, none_past, take_map, all_same, tells, Found, found}
use Rattle.tez_standing.proofs.RecordLemmas.{both_left, both_right, set_more}

-- ---- the table tells what the records tell

setting_same : (p : Dag) (rs : List JournalRecord) → IsSized p rs → (v : ℕ) → setting_in (map (vertex_state p rs) (numbers_from 0 (length p.vertices))) v ≡ setting rs v
setting_same p rs sized v = by (cases_lt v (length p.vertices)) where
  outside : length p.vertices ≤ v → (o : Option Setting) → setting rs v ≡ o → None ≡ setting rs v
  outside l None e = sym e
  outside l (Some s) e = let inside = (sized v s e).0 in absurd (omega arith)

  by : (v < length p.vertices) ⊎ (length p.vertices ≤ v) → setting_in (map (vertex_state p rs) (numbers_from 0 (length p.vertices))) v ≡ setting rs v
  by (inl l) = ap (option_and_then (λ x. x.setting)) (get_there (vertex_state p rs) (length p.vertices) v l)
  by (inr l) = ap (option_and_then (λ x. x.setting)) (none_past (vertex_state p rs) 0 (length p.vertices) v l) ∙ outside l (setting rs v) refl

done_same : (p : Dag) (rs : List JournalRecord) → IsSized p rs → (v : ℕ) → is_done (vertex_state p rs v) ≡ has_winners rs v
done_same p rs sized v = by (setting rs v) refl where
  by : (o : Option Setting) → setting rs v ≡ o
      → option_map_or (λ s. list_all has_won (take s.tasks (map (row rs v) (numbers_from 0 (tasks_of p v))))) o false ≡ option_map_or (λ s. list_all (λ i. is_some (winner rs (task v i))) (numbers_from 0 s.tasks)) o false
  by None e = refl
  by (Some s) e = ap (list_all has_won) (take_map (row rs v) 0 (tasks_of p v) s.tasks (sized v s e).1) ∙ list_all-map has_won (row rs v) (numbers_from 0 s.tasks)

complete_same : (p : Dag) (rs : List JournalRecord) → IsSized p rs → list_all is_done (map (vertex_state p rs) (numbers_from 0 (length p.vertices))) ≡ is_complete p rs
complete_same p rs sized =
    list_all-map is_done (vertex_state p rs) (numbers_from 0 (length p.vertices))
    ∙ all_same (λ v. is_done (vertex_state p rs v)) (has_winners rs) (numbers_from 0 (length p.vertices)) (done_same p rs sized)

feeder_same : (p : Dag) (f g : ℕ → Option Setting) (v : ℕ) (s : Setting) → ((u : ℕ) → f u ≡ g u) → (o : Option ℕ) → fits_feeder p f v s o ≡ fits_feeder p g v s o
feeder_same p f g v s same None = refl
feeder_same p f g v s same (Some u) = ap (λ o. s.base == 1 && option_map_or (λ x. s.tasks == x.tasks) o false) (same u)

may_same : (p : Dag) (f g : ℕ → Option Setting) (v : ℕ) (s : Setting) → ((u : ℕ) → f u ≡ g u) → may_configure p f v s ≡ may_configure p g v s
may_same p f g v s same =
    ap (λ o. nat_lt v (length p.vertices) && (is_none o && fits_vertex p f v s)) (same v)
    ∙ ap (λ b. nat_lt v (length p.vertices) && (is_none (g v) && (if has_source p v then s.tasks == tasks_of p v && s.base == 1 else b))) (feeder_same p f g v s same (feeder p v))

pub fits_same : (p : Dag) (rs : List JournalRecord) (r : JournalRecord) → IsSized p rs → fits p (known_in (progress p rs)) r ≡ may_follow p rs r
fits_same p rs (Submitted text) sized = refl
fits_same p rs (Opened e) sized = refl
fits_same p rs (Configured v tasks base) sized =
    ap (λ b. is_open (known p rs) && b) (may_same p (setting_in (map (vertex_state p rs) (numbers_from 0 (length p.vertices)))) (setting rs) v.0 (record { tasks = tasks; base = base }) (setting_same p rs sized))
fits_same p rs (TaskSucceeded a) sized =
    ap (λ o. is_open (known p rs) && (a.epoch.0 == (known p rs).epoch && option_map_or (λ s. nat_lt a.task.index s.tasks) o false)) (setting_same p rs sized a.task.vertex.0)
fits_same p rs (AttemptFailed a) sized =
    ap (λ o. is_open (known p rs) && (a.epoch.0 == (known p rs).epoch && option_map_or (λ s. nat_lt a.task.index s.tasks) o false)) (setting_same p rs sized a.task.vertex.0)
fits_same p rs (CommitStarted sums) sized = ap (λ b. is_open (known p rs) && (length sums == sinks p && b)) (complete_same p rs sized)
fits_same p rs Finished sized = refl
fits_same p rs Version sized = refl
fits_same p rs (SinkPublished w) sized = refl

-- ---- a setting gives no more tasks than the plan

few_parts : (parts : ℕ) (s : Setting) → takes_parts parts s ≡ true → s.tasks ≤ parts
few_parts parts s h = by (cases_lt parts (tasks_for parts s.base)) where
  some : (b : ℕ) (c : Bool) → (nat_le 1 b && c) ≡ true → 0 < b
  some b c k = grind (arith, nat_tests)

  exact : s.tasks ≡ tasks_for parts s.base
  exact = tells s.tasks (tasks_for parts s.base) (both_right (nat_le s.base parts) _ (both_right (nat_le 1 s.base) _ h))

  by : (parts < tasks_for parts s.base) ⊎ (tasks_for parts s.base ≤ parts) → s.tasks ≤ parts
  by (inl l) =
      let b : 0 < s.base = some s.base _ h in
      let more : parts * s.base < parts = range_there parts s.base parts b l in
      let less : parts ≤ parts * s.base = le-mul_of_pos_right parts b in
      absurd (omega arith)
  by (inr l) = omega (arith, exact)

not_true : (b : Bool) → (b ≡ true → ⊥) → b ≡ false
not_true true h = absurd (h refl)
not_true false h = refl

not_not : (b : Bool) → not b ≡ false → b ≡ true
not_not true h = refl
not_not false h = absurd (true≢false h)

and_first : (b c : Bool) → b ≡ true → (b && c) ≡ false → c ≡ false
and_first true c h k = k
and_first false c h k = absurd (true≢false (sym h))

edge_tasks : (p : Dag) → IsValid p → (v : ℕ) (e : EdgeSpec) → Found (λ e. is_one_to_one e && (to p e == v)) p.edges e → tasks_of p (from p e) ≡ tasks_of p v
edge_tasks p valid v e there =
    let one : is_one_to_one e ≡ true = both_left (is_one_to_one e) (to p e == v) there.passes in
    let at : to p e ≡ v = tells (to p e) v (both_right (is_one_to_one e) (to p e == v) there.passes) in
    let test : EdgeSpec → Bool = λ s. is_one_to_one s && not (tasks_of p (from p s) == tasks_of p (to p s)) in
    let none : partitions_differ p there.place ≡ false = not_true _ ((valid_parts p valid).same_partitions there.place) in
    let here : (is_one_to_one e && not (tasks_of p (from p e) == tasks_of p (to p e))) ≡ false = sym (ap (λ o. option_map_or test o false) there.there) ∙ none in
    tells (tasks_of p (from p e)) (tasks_of p (to p e)) (not_not _ (and_first (is_one_to_one e) _ one here)) ∙ ap (tasks_of p) at

feeder_tasks : (p : Dag) → IsValid p → (v u : ℕ) → feeder p v ≡ Some u → tasks_of p u ≡ tasks_of p v
feeder_tasks p valid v u e = by (find (λ e. is_one_to_one e && (to p e == v)) p.edges) refl e where
  some : (a b : ℕ) → Some a ≡ Some b → a ≡ b
  some a b s = same_Some a b s

  by : (o : Option EdgeSpec) → find (λ e. is_one_to_one e && (to p e == v)) p.edges ≡ o → option_map (from p) o ≡ Some u → tasks_of p u ≡ tasks_of p v
  by None f g = cc
  by (Some x) f g = sym (ap (tasks_of p) (some (from p x) u g)) ∙ edge_tasks p valid v x (found (λ e. is_one_to_one e && (to p e == v)) p.edges x f)

feeder_few : (p : Dag) (rs : List JournalRecord) → IsValid p → IsSized p rs → (v : ℕ) (s : Setting) (o : Option ℕ) → feeder p v ≡ o → fits_feeder p (setting rs) v s o ≡ true → s.tasks ≤ tasks_of p v
feeder_few p rs valid sized v s None f h = few_parts (tasks_of p v) s h
feeder_few p rs valid sized v s (Some u) f h = by (setting rs u) refl (both_right (s.base == 1) _ h) where
  by : (o : Option Setting) → setting rs u ≡ o → option_map_or (λ x. s.tasks == x.tasks) o false ≡ true → s.tasks ≤ tasks_of p v
  by None e k = absurd (true≢false (sym k))
  by (Some x) e k =
      let same : s.tasks ≡ x.tasks = tells s.tasks x.tasks k in
      let few : x.tasks ≤ tasks_of p u = (sized u x e).1 in
      let plan : tasks_of p u ≡ tasks_of p v = feeder_tasks p valid v u f in
      omega arith

vertex_few : (p : Dag) (rs : List JournalRecord) → IsValid p → IsSized p rs → (v : ℕ) (s : Setting) → fits_vertex p (setting rs) v s ≡ true → s.tasks ≤ tasks_of p v
vertex_few p rs valid sized v s h = by (has_source p v) h where
  by : (b : Bool) → (if b then s.tasks == tasks_of p v && s.base == 1 else fits_feeder p (setting rs) v s (feeder p v)) ≡ true → s.tasks ≤ tasks_of p v
  by true k = let same : s.tasks ≡ tasks_of p v = tells s.tasks (tasks_of p v) (both_left (s.tasks == tasks_of p v) (s.base == 1) k) in omega arith
  by false k = feeder_few p rs valid sized v s (feeder p v) refl k

less : (a b : ℕ) → nat_lt a b ≡ true → a < b
less a b h = grind (arith, nat_tests)

quiet : (p : Dag) (rs : List JournalRecord) (r : JournalRecord) → IsSized p rs → ((v : ℕ) → sets v r ≡ None) → IsSized p (rs ++ r ∷ [])
quiet p rs r sized none v s e = sized v s (sym (set_more rs r v None (none v)) ∙ e)

pub sized_more : (p : Dag) (rs : List JournalRecord) (r : JournalRecord) → IsValid p → IsSized p rs → may_follow p rs r ≡ true → IsSized p (rs ++ r ∷ [])
sized_more p rs (Submitted text) valid sized h = quiet p rs (Submitted text) sized (λ v. refl)
sized_more p rs (Opened e) valid sized h = quiet p rs (Opened e) sized (λ v. refl)
sized_more p rs (Configured w tasks base) valid sized h = at where
  given : Setting
  given = record { tasks = tasks; base = base }

  may : may_configure p (setting rs) w.0 given ≡ true
  may = both_right (is_open (known p rs)) (may_configure p (setting rs) w.0 given) h

  fit : fits_vertex p (setting rs) w.0 given ≡ true
  fit = both_right (is_none (setting rs w.0)) (fits_vertex p (setting rs) w.0 given) (both_right (nat_lt w.0 (length p.vertices)) _ may)

  by : (v : ℕ) (s : Setting) (b : Bool) → (w.0 == v) ≡ b → option_or (if b then Some given else None) (setting rs v) ≡ Some s → (v < length p.vertices) × (s.tasks ≤ tasks_of p v)
  by v s true d e =
      let same : w.0 ≡ v = tells w.0 v d in
      subst (λ u. (u < length p.vertices) × (s.tasks ≤ tasks_of p u)) same
      (subst (λ x. (w.0 < length p.vertices) × (x.tasks ≤ tasks_of p w.0)) (same_Some given s e) (less w.0 (length p.vertices) (both_left (nat_lt w.0 (length p.vertices)) _ may), vertex_few p rs valid sized w.0 given fit))
  by v s false d e = sized v s e

  at : IsSized p (rs ++ Configured w tasks base ∷ [])
  at v s e = by v s (w.0 == v) refl (sym (set_more rs (Configured w tasks base) v (if w.0 == v then Some given else None) refl) ∙ e)
sized_more p rs (TaskSucceeded a) valid sized h = quiet p rs (TaskSucceeded a) sized (λ v. refl)
sized_more p rs (AttemptFailed a) valid sized h = quiet p rs (AttemptFailed a) sized (λ v. refl)
sized_more p rs (CommitStarted sums) valid sized h = quiet p rs (CommitStarted sums) sized (λ v. refl)
sized_more p rs Finished valid sized h = quiet p rs Finished sized (λ v. refl)
sized_more p rs Version valid sized h = quiet p rs Version sized (λ v. refl)
sized_more p rs (SinkPublished w) valid sized h = quiet p rs (SinkPublished w) sized (λ v. refl)

pub sized_first : (p : Dag) → IsSized p []
sized_first p v s e = cc
