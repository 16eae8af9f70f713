-- The kills of a node loss, each computed at its own moment, are the dismissals of those who held a place of the node.
use Rattle.std.specs.Prelude.{◌≡◌, ℕ, zero, suc, ◌+◌, Bool, true, false, not, ◌&&◌, ◌||◌, if◌then◌else◌, List, [], ◌∷◌, ◌++◌, Option, Some, None, ⊤, refl}
use Rattle.std.specs.List.{filter_map, cons_option, flat_map}
use Rattle.std.proofs.Common.{ap, sym, ◌∙◌, arith, subst, inl, inr, zero-add}
use Rattle.std.proofs.lemmas.Option.{same_Some}
use Rattle.tez_ids.specs.declared.TaskId.{TaskId}
use Rattle.tez_ids.specs.declared.AttemptId.{AttemptId}
use Rattle.tez_ids.specs.Same.{attempt, same_task, same_attempt}
use Rattle.tez_events.specs.declared.KillCause.TheVariants.{Node}
use Rattle.tez_events.specs.declared.Entry.TheVariants.{Queued, Killed}
use Rattle.tez_lists.specs.Numbers.{In, numbers_from}
use Rattle.tez_lists.proofs.Flat.{flat_same}
use Rattle.tez_plan.specs.Dag.{Dag}
use Rattle.tez_conf.specs.declared.values.ConfValues.{ConfValues}
use Rattle.tez_history.specs.History.{Past, extend, stage, live, winner, holder, freed, epoch, attempts}
use Rattle.tez_history.specs.Derived.{next_attempt}
use Rattle.tez_history.specs.Steps.{each_after, requeue, kill_at, killed_by_node}
use Rattle.tez_history.specs.Follows.{IsMade, IsPlaced}
use Rattle.tez_laws.proofs.Same.{same_task-true, same_attempt-true}
use Rattle.tez_laws.proofs.OneLive.{one_live, placed_alive}
use Rattle.tez_laws.proofs.Tasks.{no_both}
use Rattle.tez_laws.proofs.Places.{held, in_place}
use Rattle.tez_laws.proofs.StepLaw.{made-extend, kill_may}
use Rattle.tez_router.specs.State.{RouterState}
use Rattle.tez_router.specs.Table.{after_dismiss, is_among, without}
use Rattle.tez_router_view.specs.View.{router_view}
use Rattle.tez_router_view.specs.Events.{kill_lines, after_dismisses}
use Rattle.tez_router_view.proofs.Lists.{filter-all, filter-filter, filter-same, filter_map-same}
use Rattle.tez_router_view.proofs.Ordering.{in-numbers}
use Rattle.tez_router_view.proofs.Moving.{killed_again_view}

-- ---- attempts that are dismissed

pub without_none : (s : RouterState) → without s [] ≡ s
without_none s = ap (λ xs. record s { admitted = xs }) (filter-all (λ x. not (is_among [] x.attempt)) s.admitted (λ x. refl))

either_not : (x y : Bool) → (not x && not y) ≡ not (x || y)
either_not true y = refl
either_not false y = refl

-- those of a list but for one
among_freed : (h : ℕ → Option AttemptId) (a x : AttemptId) (ps : List ℕ) → same_attempt x a ≡ false → is_among (filter_map (λ p. freed a (h p)) ps) x ≡ is_among (filter_map h ps) x
among_freed h a x [] other = refl
among_freed h a x (p ∷ ps) other = by (h p) (among_freed h a x ps other) where
  one : (b : AttemptId) (c : Bool) → same_attempt a b ≡ c → is_among (filter_map (λ q. freed a (h q)) ps) x ≡ is_among (filter_map h ps) x
      → is_among (cons_option (if c then None else Some b) (filter_map (λ q. freed a (h q)) ps)) x ≡ (same_attempt x b || is_among (filter_map h ps) x)
  one b true e ih = ih ∙ ap (λ z. z || is_among (filter_map h ps) x) (sym (subst (λ y. same_attempt x y ≡ false) (same_attempt-true a b e) other))
  one b false e ih = ap (λ z. same_attempt x b || z) ih

  by : (o : Option AttemptId) → is_among (filter_map (λ q. freed a (h q)) ps) x ≡ is_among (filter_map h ps) x
      → is_among (cons_option (freed a o) (filter_map (λ q. freed a (h q)) ps)) x ≡ is_among (cons_option o (filter_map h ps)) x
  by None ih = ih
  by (Some b) ih = one b (same_attempt a b) refl ih

dismissed_too : (h : ℕ → Option AttemptId) (a : AttemptId) (ps : List ℕ) (x : AttemptId) → (not (same_attempt x a) && not (is_among (filter_map (λ p. freed a (h p)) ps) x)) ≡ not (is_among (a ∷ filter_map h ps) x)
dismissed_too h a ps x = by (same_attempt x a) refl where
  by : (b : Bool) → same_attempt x a ≡ b → (not b && not (is_among (filter_map (λ p. freed a (h p)) ps) x)) ≡ not (b || is_among (filter_map h ps) x)
  by true e = refl
  by false e = ap not (among_freed h a x ps e)

without_more : (s : RouterState) (h : ℕ → Option AttemptId) (a : AttemptId) (ps : List ℕ) → without (after_dismiss s a) (filter_map (λ p. freed a (h p)) ps) ≡ without s (a ∷ filter_map h ps)
without_more s h a ps =
    ap (λ xs. record s { admitted = xs })
    (filter-filter (λ x. not (is_among (filter_map (λ p. freed a (h p)) ps) x.attempt)) (λ x. not (same_attempt x.attempt a)) s.admitted
    ∙ filter-same (λ x. not (same_attempt x.attempt a) && not (is_among (filter_map (λ p. freed a (h p)) ps) x.attempt)) (λ x. not (is_among (a ∷ filter_map h ps) x.attempt)) s.admitted (λ x _. dismissed_too h a ps x.attempt))

-- dismissed one after another
pub dismissed_all : (s : RouterState) (xs : List AttemptId) → after_dismisses s xs ≡ without s xs
dismissed_all s [] = sym (without_none s)
dismissed_all s (a ∷ xs) =
    dismissed_all (after_dismiss s a) xs
    ∙ ap (λ ys. record s { admitted = ys })
    (filter-filter (λ x. not (is_among xs x.attempt)) (λ x. not (same_attempt x.attempt a)) s.admitted
    ∙ filter-same (λ x. not (same_attempt x.attempt a) && not (is_among xs x.attempt)) (λ x. not (is_among (a ∷ xs) x.attempt)) s.admitted (λ x _. either_not (same_attempt x.attempt a) (is_among xs x.attempt)))

-- ---- one kill

abbrev pub after_kill : Past → AttemptId → Past
after_kill past a = Queued (next_attempt past a.task) ∷ Killed a Node ∷ past

pub record IsHeld (g : Dag) (c : ConfValues) (past : Past) (a : AttemptId) : Type 0 where
  pub lives : live a.task past ≡ Some a
  pub made : IsMade g c (after_kill past a)

is_held : (g : Dag) (c : ConfValues) (past : Past) → IsMade g c past → (p : ℕ) (a : AttemptId) → holder p past ≡ Some a → IsHeld g c past a
is_held g c past m p a h =
    let placed : IsPlaced (stage a past) = in_place (stage a past) p (held g c past m p a h) in
    record { lives = one_live g c past m a (placed_alive (stage a past) placed); made = made-extend g c past (Killed a Node ∷ requeue past a.task) m (kill_may g c past a Node m placed) }

-- ---- the router

pub kills_view : (g : Dag) (c : ConfValues) (past : Past) (ps : List ℕ) → IsMade g c past → router_view g (extend past (each_after kill_at past ps)) ≡ without (router_view g past) (filter_map (λ p. holder p past) ps)
kills_view g c past [] m = sym (without_none (router_view g past))
kills_view g c past (p ∷ ps) m = by (holder p past) refl (kills_view g c past ps m) (λ a k. kills_view g c (after_kill past a) ps k) where
  by : (o : Option AttemptId) → holder p past ≡ o
      → router_view g (extend past (each_after kill_at past ps)) ≡ without (router_view g past) (filter_map (λ q. holder q past) ps)
      → ((a : AttemptId) → IsMade g c (after_kill past a) → router_view g (extend (after_kill past a) (each_after kill_at (after_kill past a) ps)) ≡ without (router_view g (after_kill past a)) (filter_map (λ q. holder q (after_kill past a)) ps))
      → router_view g (extend past (killed_by_node past o ++ each_after kill_at (extend past (killed_by_node past o)) ps)) ≡ without (router_view g past) (cons_option o (filter_map (λ q. holder q past) ps))
  by None h same later = same
  by (Some a) h same later =
      let k = is_held g c past m p a h in
      later a k.made ∙ ap (λ s. without s (filter_map (λ q. freed a (holder q past)) ps)) (sym (killed_again_view g past a Node k.lives)) ∙ without_more (router_view g past) (λ q. holder q past) a ps

-- ---- what stays

differ : (g : Dag) (c : ConfValues) (past : Past) → IsMade g c past → (a w : AttemptId) (t : TaskId) → live a.task past ≡ Some a → winner t past ≡ Some w → same_task a.task t ≡ false
differ g c past m a w t lives won = by (same_task a.task t) refl where
  by : (b : Bool) → same_task a.task t ≡ b → same_task a.task t ≡ false
  by false e = e
  by true e =
      let there : live t past ≡ Some a = subst (λ u. live u past ≡ Some a) (same_task-true a.task t e) lives in
      let none : winner t past ≡ None = no_both g c past m t a there in
      cc

pub next_kept : (past : Past) (a : AttemptId) (t : TaskId) → same_task a.task t ≡ false → next_attempt (after_kill past a) t ≡ next_attempt past t
next_kept past a t other = ap (λ b. attempt (epoch past) t ((if b then 1 else 0) + attempts t past)) other ∙ ap (attempt (epoch past) t) (zero-add (attempts t past))

pub record IsKeptBy (g : Dag) (c : ConfValues) (past later : Past) : Type 0 where
  pub made : IsMade g c later
  pub winners : (t : TaskId) → winner t later ≡ winner t past
  pub next : (t : TaskId) (w : AttemptId) → winner t past ≡ Some w → next_attempt later t ≡ next_attempt past t

pub kills_keep : (g : Dag) (c : ConfValues) (past : Past) (ps : List ℕ) → IsMade g c past → IsKeptBy g c past (extend past (each_after kill_at past ps))
kills_keep g c past [] m = record { made = m; winners = λ t. refl; next = λ t w h. refl }
kills_keep g c past (p ∷ ps) m = by (holder p past) refl (kills_keep g c past ps m) (λ a k. kills_keep g c (after_kill past a) ps k) where
  by : (o : Option AttemptId) → holder p past ≡ o → IsKeptBy g c past (extend past (each_after kill_at past ps))
      → ((a : AttemptId) → IsMade g c (after_kill past a) → IsKeptBy g c (after_kill past a) (extend (after_kill past a) (each_after kill_at (after_kill past a) ps)))
      → IsKeptBy g c past (extend past (killed_by_node past o ++ each_after kill_at (extend past (killed_by_node past o)) ps))
  by None h same later = same
  by (Some a) h same later =
      let k = is_held g c past m p a h in
      let r = later a k.made in
      record { made = r.made; winners = λ t. r.winners t; next = λ t w won. r.next t w won ∙ next_kept past a t (differ g c past m a w t k.lives won) }

-- ---- the lines, from the history before

abbrev pub AreApart : List ℕ → Type 0
AreApart [] = ⊤
AreApart (p ∷ ps) = ((q : ℕ) → In q ps → p ≡ q → ⊥) × AreApart ps

pub numbers-apart : (a n : ℕ) → AreApart (numbers_from a n)
numbers-apart a zero = tt
numbers-apart a (suc n) = (λ q h e. let k = in-numbers (suc a) n q h in omega (arith, k.0, e), numbers-apart (suc a) n)

in-held : (f : ℕ → Option AttemptId) (a : AttemptId) (xs : List ℕ) → In a (filter_map f xs) → (x : ℕ) × In x xs × (f x ≡ Some a)
in-held f a [] h = absurd h
in-held f a (x ∷ xs) h = by (f x) refl h (in-held f a xs) where
  by : (o : Option AttemptId) → f x ≡ o → In a (cons_option o (filter_map f xs)) → (In a (filter_map f xs) → (y : ℕ) × In y xs × (f y ≡ Some a)) → (y : ℕ) × In y (x ∷ xs) × (f y ≡ Some a)
  by None e k ih = let r = ih k in (r.0, inr r.1, r.2)
  by (Some b) e (inl s) ih = (x, inl refl, e ∙ ap Some (sym s))
  by (Some b) e (inr k) ih = let r = ih k in (r.0, inr r.1, r.2)

-- an attempt holds one place
one_place : (g : Dag) (c : ConfValues) (past : Past) → IsMade g c past → (p q : ℕ) (a : AttemptId) → holder p past ≡ Some a → holder q past ≡ Some a → p ≡ q
one_place g c past m p q a h k = same_Some p q (sym (held g c past m p a h) ∙ held g c past m q a k)

not_freed : (a : AttemptId) (o : Option AttemptId) → (o ≡ Some a → ⊥) → freed a o ≡ o
not_freed a None h = refl
not_freed a (Some b) h = by (same_attempt a b) refl where
  by : (x : Bool) → same_attempt a b ≡ x → (if x then None else Some b) ≡ Some b
  by true e = absurd (h (ap Some (sym (same_attempt-true a b e))))
  by false e = refl

tasks_apart : (g : Dag) (c : ConfValues) (past : Past) → IsMade g c past → (p q : ℕ) (a b : AttemptId) → (p ≡ q → ⊥) → holder p past ≡ Some a → holder q past ≡ Some b → same_task a.task b.task ≡ false
tasks_apart g c past m p q a b apart h k = by (same_task a.task b.task) refl where
  by : (x : Bool) → same_task a.task b.task ≡ x → same_task a.task b.task ≡ false
  by false e = e
  by true e =
      let one : Some a ≡ Some b = sym (subst (λ t. live t past ≡ Some a) (same_task-true a.task b.task e) (is_held g c past m p a h).lives) ∙ (is_held g c past m q b k).lives in
      absurd (apart (one_place g c past m p q a h (k ∙ sym one)))

pub kills_lines : (g : Dag) (c : ConfValues) (past : Past) (ps : List ℕ) → IsMade g c past → AreApart ps → each_after kill_at past ps ≡ flat_map (kill_lines past) (filter_map (λ p. holder p past) ps)
kills_lines g c past [] m d = refl
kills_lines g c past (p ∷ ps) m d = by (holder p past) refl (kills_lines g c past ps m d.1) (λ a k. kills_lines g c (after_kill past a) ps k d.1) where
  later : (a : AttemptId) → holder p past ≡ Some a → filter_map (λ q. holder q (after_kill past a)) ps ≡ filter_map (λ q. holder q past) ps
  later a h = filter_map-same (λ q. freed a (holder q past)) (λ q. holder q past) ps (λ q i. not_freed a (holder q past) (λ k. d.0 q i (one_place g c past m p q a h k)))

  line : (a b : AttemptId) → holder p past ≡ Some a → In b (filter_map (λ q. holder q past) ps) → kill_lines (after_kill past a) b ≡ kill_lines past b
  line a b h i =
      let r = in-held (λ q. holder q past) b ps i in
      ap (λ n. Killed b Node ∷ Queued n ∷ []) (next_kept past a b.task (tasks_apart g c past m p r.0 a b (d.0 r.0 r.1) h r.2))

  by : (o : Option AttemptId) → holder p past ≡ o → each_after kill_at past ps ≡ flat_map (kill_lines past) (filter_map (λ q. holder q past) ps)
      → ((a : AttemptId) → IsMade g c (after_kill past a) → each_after kill_at (after_kill past a) ps ≡ flat_map (kill_lines (after_kill past a)) (filter_map (λ q. holder q (after_kill past a)) ps))
      → killed_by_node past o ++ each_after kill_at (extend past (killed_by_node past o)) ps ≡ flat_map (kill_lines past) (cons_option o (filter_map (λ q. holder q past) ps))
  by None h same more = same
  by (Some a) h same more =
      ap (λ ls. Killed a Node ∷ Queued (next_attempt past a.task) ∷ ls)
      (more a (is_held g c past m p a h).made ∙ ap (flat_map (kill_lines (after_kill past a))) (later a h)
      ∙ flat_same (kill_lines (after_kill past a)) (kill_lines past) (filter_map (λ q. holder q past) ps) (λ b i. line a b h i))
