-- What legal records of a journal tell fits the plan.
--     legal_fits         the settings of legal records
--     standing_fits      the list of them, as a new master finds it
use Rattle.std.specs.Prelude.{◌≡◌, ◌⊎◌, ℕ, zero, suc, ◌+◌, ◌<◌, ◌≤◌, ◌==◌, ◌&&◌, nat_le, nat_lt, Bool, true, false, if◌then◌else◌, List, [], ◌∷◌, ◌++◌, length, take, slice_get, Option, Some, None, is_none, refl}
use Rattle.std.specs.List.{filter, find, flat_map, enumerate_from}
use Rattle.std.specs.Option.{option_map, option_map_or, option_or}
use Rattle.std.proofs.Common.{inl, inr, ap, sym, ◌∙◌, arith, subst, get_or, add-one}
use Rattle.std.proofs.lemmas.Bool.{eqb-true}
use Rattle.std.proofs.lemmas.Bool.Decides.{eqb_tells}
use Rattle.std.proofs.lemmas.Grind.{div_ceil_times}
use Rattle.std.proofs.lemmas.List.{take_more}
use Rattle.std.proofs.lemmas.Option.{slice_get-get_or}
use Rattle.tez_lists.specs.Numbers.{numbers_from}
use Rattle.tez_lists.proofs.Cases.{cases}
use Rattle.tez_plan.specs.declared.parts.EdgeSpec.{EdgeSpec}
use Rattle.tez_plan.specs.Dag.{Dag, from, to, is_one_to_one, tasks_of as planned}
use Rattle.tez_plan.specs.Ranges.{IsInRanges}
use Rattle.tez_shrink.specs.Formulas.{tasks_of as tasks_for}
use Rattle.tez_vman.specs.declared.seen.Config.{Config}
use Rattle.tez_events.specs.declared.JournalRecord.{JournalRecord}
use Rattle.tez_events.specs.declared.JournalRecord.TheVariants.{Submitted, Opened, Configured, TaskSucceeded, AttemptFailed, CommitStarted, Finished, Version, SinkPublished}
use Rattle.tez_standing.specs.declared.state.Setting.{Setting}
use Rattle.tez_standing.specs.Standing.{latest, setting, sets, feeder, fits_vertex, fits_feeder, takes_parts, may_follow, known, is_open, IsLegal, IsLegalTo, setting_row, standing}
use Rattle.tez_history.specs.Shape.{has_source, ByVertex, feed, feed_by, first_source}
use Rattle.tez_laws.proofs.StepLaw.{both}
use Rattle.tez_progress.specs.Laws.{Fits, found_at, found_configs, config_of}
use Rattle.tez_progress.proofs.Ready.{lt_from}
use Rattle.tez_progress.proofs.Fitting.{le_from, planned_some, times_some, HasFeeder, fits_none, fits_set}

-- ---- the feeder is the same

first_one : (g : Dag) (v n : ℕ) (es : List EdgeSpec) → first_source g (filter (λ e. is_one_to_one e.1) (filter (λ e. to g e.1 == v) (enumerate_from n es))) ≡ option_map (from g) (find (λ e. is_one_to_one e && (to g e == v)) es)
first_one g v n [] = refl
first_one g v n (e ∷ es) =
    let rest = first_one g v (n + 1) es in
    cases (to g e == v)
    (λ t. cases (is_one_to_one e) (λ k. rw t (rw k refl)) (λ k. rw t (rw k rest)))
    (λ t. cases (is_one_to_one e) (λ k. rw t (rw k rest)) (λ k. rw t (rw k rest)))

-- ---- one record

latest_more : {X : Type 0} (tells : JournalRecord → Option X) (rs : List JournalRecord) (r : JournalRecord) → latest tells (rs ++ r ∷ []) ≡ option_or (tells r) (latest tells rs)
latest_more tells [] r = alone (tells r) where
  alone : {X : Type 0} (o : Option X) → option_or None o ≡ option_or o None
  alone None = refl
  alone (Some x) = refl
latest_more {X} tells (q ∷ rs) r = ap (λ o. option_or o (tells q)) (latest_more tells rs r) ∙ across (tells r) (latest tells rs) (tells q) where
  across : (a b c : Option X) → option_or (option_or a b) c ≡ option_or a (option_or b c)
  across None b c = refl
  across (Some x) b c = refl

set_more : (rs : List JournalRecord) (r : JournalRecord) (v : ℕ) (o : Option Setting) → sets v r ≡ o → setting (rs ++ r ∷ []) v ≡ option_or o (setting rs v)
set_more rs r v o e = latest_more (sets v) rs r ∙ ap (λ x. option_or x (setting rs v)) e

settings : List JournalRecord → ℕ → Option Config
settings rs v = option_map config_of (setting rs v)

-- the settings fit, and are of vertices of the plan
record AreFit (g : Dag) (rs : List JournalRecord) : Type 0 where
  fit : Fits g (settings rs)
  inside : (v : ℕ) (s : Setting) → setting rs v ≡ Some s → v < length g.vertices

parts_some : (parts : ℕ) (s : Setting) → takes_parts parts s ≡ true → 1 ≤ s.tasks
parts_some parts s h =
    let k = both {x = nat_le 1 s.base} h in
    let l = both {x = nat_le s.base parts} k.1 in
    let base = le_from 1 s.base k.0 in
    let some = le_from s.base parts l.0 in
    let tasks : s.tasks ≡ tasks_for parts s.base = eqb-true s.tasks (tasks_for parts s.base) l.1 in
    let ceil : 1 ≤ tasks_for parts s.base = times_some parts s.base (tasks_for parts s.base) (div_ceil_times parts s.base (omega (arith, base))).0 (omega (arith, base, some)) in
    omega (arith, tasks, ceil)

-- what the rules ask of a setting: it has tasks, and those of its feeder
record IsSet (g : Dag) (rs : List JournalRecord) (v : ℕ) (s : Setting) : Type 0 where
  some : 1 ≤ s.tasks
  step : (u : ℕ) → feed g v ≡ ByVertex u → HasFeeder (settings rs) u (config_of s)

by_file : (u : ℕ) (o : Option ℕ) → feed_by true o ≡ ByVertex u → ⊥
by_file u o h = cc

no_feeder : (u : ℕ) → feed_by false None ≡ ByVertex u → ⊥
no_feeder u h = cc

the_feeder : (u w : ℕ) → feed_by false (Some w) ≡ ByVertex u → w ≡ u
the_feeder u w h = cc

feeder_set : (g : Dag) (rs : List JournalRecord) (w : ℕ) (s : Setting) → AreFit g rs → (o : Option Setting) → setting rs w ≡ o → option_map_or (λ x. s.tasks == x.tasks) o false ≡ true
    → (1 ≤ s.tasks) × HasFeeder (settings rs) w (config_of s)
unfolding settings
feeder_set g rs w s fit None e h = cc
feeder_set g rs w s fit (Some x) e h =
    let same : s.tasks ≡ x.tasks = eqb-true s.tasks x.tasks h in
    let there : option_map config_of (setting rs w) ≡ Some (config_of x) = ap (option_map config_of) e in
    let some : 1 ≤ x.tasks = fit.fit.tasks w (config_of x) there in
    (omega (arith, same, some), (config_of x, there, sym same))

set_by : (g : Dag) (rs : List JournalRecord) (v : ℕ) (s : Setting) → 1 ≤ planned g v → AreFit g rs → (file : Bool) (o : Option ℕ) → feed g v ≡ feed_by file o
    → (if file then ((s.tasks == planned g v) && (s.base == 1)) else fits_feeder g (setting rs) v s o) ≡ true → IsSet g rs v s
set_by g rs v s plan fit true o e h =
    let k : s.tasks ≡ planned g v = eqb-true s.tasks (planned g v) (both {x = s.tasks == planned g v} h).0 in
    record { some = omega (arith, k, plan); step = λ u f. absurd (by_file u o (sym e ∙ f)) }
set_by g rs v s plan fit false None e h = record { some = parts_some (planned g v) s h; step = λ u f. absurd (no_feeder u (sym e ∙ f)) }
set_by g rs v s plan fit false (Some w) e h =
    let k = feeder_set g rs w s fit (setting rs w) refl (both {x = s.base == 1} h).1 in
    record { some = k.0; step = λ u f. subst (λ x. HasFeeder (settings rs) x (config_of s)) (the_feeder u w (sym e ∙ f)) k.1 }

is_set : (g : Dag) (rs : List JournalRecord) (v : ℕ) (s : Setting) → 1 ≤ planned g v → AreFit g rs → fits_vertex g (setting rs) v s ≡ true → IsSet g rs v s
is_set g rs v s plan fit h = set_by g rs v s plan fit (has_source g v) (feeder g v) (ap (feed_by (has_source g v)) (first_one g v 0 g.edges)) h

-- a record that sets nothing
same_settings : (g : Dag) (rs : List JournalRecord) (r : JournalRecord) → ((v : ℕ) → sets v r ≡ None) → AreFit g rs → AreFit g (rs ++ r ∷ [])
unfolding settings
same_settings g rs r none fit =
    let same : (v : ℕ) → setting (rs ++ r ∷ []) v ≡ setting rs v = λ v. set_more rs r v None (none v) in
    record {
      fit = record {
        tasks = λ v s h. fit.fit.tasks v s (sym (ap (option_map config_of) (same v)) ∙ h);
        step = λ v u s f h. let d = fit.fit.step v u s f (sym (ap (option_map config_of) (same v)) ∙ h) in (d.0, ap (option_map config_of) (same u) ∙ d.1, d.2);
      };
      inside = λ v s h. fit.inside v s (sym (same v) ∙ h);
    }

not_set : (o : Option Setting) → is_none o ≡ true → o ≡ None
not_set None h = refl
not_set (Some s) h = cc

-- a vertex is set that was not
one_setting : (g : Dag) (rs : List JournalRecord) (w : ℕ) (s : Setting) (o : ℕ → Option Setting) → ((v : ℕ) → o v ≡ option_or (if w == v then Some s else None) (setting rs v)) → w < length g.vertices → setting rs w ≡ None → IsSet g rs w s → AreFit g rs
    → Fits g (λ v. option_map config_of (o v)) × ((v : ℕ) (x : Setting) → o v ≡ Some x → v < length g.vertices)
unfolding settings
one_setting g rs w s o more below none is fit =
    let set = fits_set g (settings rs) w (config_of s) (ap (option_map config_of) none) is.some is.step fit.fit in
    let same : (v : ℕ) → option_map config_of (o v) ≡ (if w == v then Some (config_of s) else settings rs v) = λ v. ap (option_map config_of) (more v) ∙ mapped (w == v) (setting rs v) in (
      record {
        tasks = λ v x h. set.tasks v x (sym (same v) ∙ h);
        step = λ v u x f h. let d = set.step v u x f (sym (same v) ∙ h) in (d.0, same u ∙ d.1, d.2);
      },
      λ v x h. at (w == v) refl (sym (more v) ∙ h),
    ) where
      mapped : (b : Bool) (p : Option Setting) → option_map config_of (option_or (if b then Some s else None) p) ≡ (if b then Some (config_of s) else option_map config_of p)
      mapped true p = refl
      mapped false p = refl

      at : {v : ℕ} {x : Setting} (b : Bool) → (w == v) ≡ b → option_or (if b then Some s else None) (setting rs v) ≡ Some x → v < length g.vertices
      at {v} {x} true e k = subst (λ u. u < length g.vertices) (eqb-true w v e) below
      at {v} {x} false e k = fit.inside v x k

next_fits : (g : Dag) (rs : List JournalRecord) (r : JournalRecord) → IsInRanges g → may_follow g rs r ≡ true → AreFit g rs → AreFit g (rs ++ r ∷ [])
unfolding settings
next_fits g rs (Configured w tasks base) ranges h fit =
    let s : Setting = record { tasks = tasks; base = base } in
    let k = both {x = is_open (known g rs)} h in
    let l = both {x = nat_lt w.0 (length g.vertices)} k.1 in
    let m = both {x = is_none (setting rs w.0)} l.1 in
    let below : w.0 < length g.vertices = lt_from w.0 (length g.vertices) l.0 in
    let q = one_setting g rs w.0 s (setting (rs ++ Configured w tasks base ∷ [])) (λ v. set_more rs (Configured w tasks base) v (sets v (Configured w tasks base)) refl) below
    (not_set (setting rs w.0) m.0) (is_set g rs w.0 s (planned_some g w.0 ranges below) fit m.1) fit in
    record { fit = q.0; inside = q.1 }
next_fits g rs (Submitted text) ranges h fit = same_settings g rs (Submitted text) (λ v. refl) fit
next_fits g rs (Opened e) ranges h fit = same_settings g rs (Opened e) (λ v. refl) fit
next_fits g rs (TaskSucceeded a) ranges h fit = same_settings g rs (TaskSucceeded a) (λ v. refl) fit
next_fits g rs (AttemptFailed a) ranges h fit = same_settings g rs (AttemptFailed a) (λ v. refl) fit
next_fits g rs (CommitStarted sums) ranges h fit = same_settings g rs (CommitStarted sums) (λ v. refl) fit
next_fits g rs Finished ranges h fit = same_settings g rs Finished (λ v. refl) fit
next_fits g rs Version ranges h fit = same_settings g rs Version (λ v. refl) fit
next_fits g rs (SinkPublished w) ranges h fit = same_settings g rs (SinkPublished w) (λ v. refl) fit

-- ---- all records

legal_to : (g : Dag) (rs : List JournalRecord) (n : ℕ) → IsInRanges g → n ≤ length rs → IsLegalTo g rs n → AreFit g (take n rs)
unfolding settings
legal_to g rs zero ranges h legal = record { fit = fits_none g (settings []) (λ v. refl); inside = λ v s e. cc }
legal_to g rs (suc n) ranges h legal =
    let r = get_or rs n Finished in
    let at : slice_get rs n ≡ Some r = slice_get-get_or rs n Finished (omega arith) in
    let before = legal_to g rs n ranges (omega arith) (λ k q b. legal k q (omega arith)) in
    let more : take (suc n) rs ≡ take n rs ++ r ∷ [] = ap (λ m. take m rs) (sym (add-one n)) ∙ take_more rs n Finished (omega arith) in
    subst (AreFit g) (sym more) (next_fits g (take n rs) r ranges (legal n r (omega arith) at) before)

take_all : {X : Type 0} (xs : List X) → take (length xs) xs ≡ xs
take_all [] = refl
take_all (x ∷ xs) = ap (λ ys. x ∷ ys) (take_all xs)

are_fit : (g : Dag) (rs : List JournalRecord) → IsInRanges g → IsLegal g rs → AreFit g rs
are_fit g rs ranges legal = subst (AreFit g) (take_all rs) (legal_to g rs (length rs) ranges (omega arith) legal)

-- ---- the list of them

rows : (ℕ → Option Setting) → ℕ → ℕ → List (ℕ × Config)
rows f a n = found_configs (flat_map (λ v. setting_row v (f v)) (numbers_from a n))

row_is : (f : ℕ → Option Setting) (a n v : ℕ) (x : Config) → found_at (rows f a n) v ≡ Some x → option_map config_of (f v) ≡ Some x
unfolding rows
row_is f a zero v x h = cc
row_is f a (suc n) v x h = by (row_is f (suc a) n v x) (f a) refl h where
  by : (found_at (rows f (suc a) n) v ≡ Some x → option_map config_of (f v) ≡ Some x) → (o : Option Setting) → f a ≡ o
      → found_at (found_configs (setting_row a o ++ flat_map (λ v. setting_row v (f v)) (numbers_from (suc a) n))) v ≡ Some x → option_map config_of (f v) ≡ Some x
  by ih None e k = ih k
  by ih (Some s) e k = at (a == v) refl k where
    at : (b : Bool) → (a == v) ≡ b → (if b then Some (config_of s) else found_at (rows f (suc a) n) v) ≡ Some x → option_map config_of (f v) ≡ Some x
    at true same q = ap (λ w. option_map config_of (f w)) (sym (eqb-true a v same)) ∙ ap (option_map config_of) e ∙ q
    at false other q = ih q

is_row : (f : ℕ → Option Setting) (a n v : ℕ) (x : Config) → a ≤ v → v < a + n → option_map config_of (f v) ≡ Some x → found_at (rows f a n) v ≡ Some x
unfolding rows
is_row f a zero v x low high h = absurd (omega arith)
is_row f a (suc n) v x low high h = by (λ next. is_row f (suc a) n v x next (omega arith) h) (f a) refl (eqb_tells a v) where
  by : (suc a ≤ v → found_at (rows f (suc a) n) v ≡ Some x) → (o : Option Setting) → f a ≡ o → (((a == v) ≡ true) × (a ≡ v)) ⊎ (((a == v) ≡ false) × (a ≡ v → ⊥))
      → found_at (found_configs (setting_row a o ++ flat_map (λ v. setting_row v (f v)) (numbers_from (suc a) n))) v ≡ Some x
  by ih None e (inl same) = let none : option_map config_of (f v) ≡ None = ap (λ w. option_map config_of (f w)) (sym same.1) ∙ ap (option_map config_of) e in cc
  by ih None e (inr other) = ih (omega (arith, other.1, low))
  by ih (Some s) e (inl same) = rw same.0 (sym (ap (option_map config_of) e) ∙ ap (λ w. option_map config_of (f w)) same.1 ∙ h)
  by ih (Some s) e (inr other) = rw other.0 (ih (omega (arith, other.1, low)))

setting_there : (o : Option Setting) (x : Config) → option_map config_of o ≡ Some x → (s : Setting) × (o ≡ Some s)
setting_there None x h = cc
setting_there (Some s) x h = (s, refl)

pub standing_fits : (g : Dag) (rs : List JournalRecord) → IsInRanges g → IsLegal g rs → Fits g (found_at (found_configs (standing g rs).configured))
unfolding settings rows
standing_fits g rs ranges legal =
    let fit = are_fit g rs ranges legal in
    record {
      tasks = λ v x h. fit.fit.tasks v x (row_is (setting rs) 0 (length g.vertices) v x h);
      step = λ v u x f h.
          let d = fit.fit.step v u x f (row_is (setting rs) 0 (length g.vertices) v x h) in
          let s = setting_there (setting rs u) d.0 d.1 in
          let below = fit.inside u s.0 s.1 in
          (d.0, is_row (setting rs) 0 (length g.vertices) u d.0 (omega arith) (omega (arith, below)) d.1, d.2);
    }
