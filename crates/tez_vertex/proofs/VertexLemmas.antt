-- Counting the tasks of a vertex.
use Rattle.std.specs.Prelude.{◌≡◌, ℕ, zero, suc, ◌+◌, ◌<◌, ◌≤◌, ◌^◌, not, ◌||◌, ◌&&◌, nat_eq, Bool, true, false, cond, List, [], ◌∷◌, ◌++◌, length, map, count_by, slice_get, Option, Some, refl}
use Rattle.std.specs.List.{list_any, list_all}
use Rattle.std.proofs.Common.{ap, sym, ◌∙◌, subst, arith, set, get_or}
use Rattle.std.proofs.lemmas.Bool.Decides.{nat_tests}
use Rattle.std.proofs.lemmas.List.{length-set}
use Rattle.std.proofs.lemmas.List.Sums.{sum_by-set, sum_by-cons, count_by-le-length}
use Rattle.std.proofs.lemmas.Option.{same_Some}
use Rattle.tez_lists.specs.Numbers.{numbers_from}
use Rattle.tez_ids.specs.declared.VertexId.{VertexId}
use Rattle.tez_ids.specs.declared.AttemptId.{AttemptId}
use Rattle.tez_ids.specs.Same.{task}
use Rattle.tez_task.specs.declared.TaskEvent.{TaskEvent}
use Rattle.tez_task.specs.TaskState.{TaskState}
use Rattle.tez_task.specs.Table.{new_task, restored, task_after, task_took, after_event}
use Rattle.tez_vertex.specs.Vertex.{Vertex, IsCounted, has_winner, is_spent}
use Rattle.tez_vertex.specs.Table.{is_ignored, take_by, after_take, restore_by, after_restore}

pub got : {X : Type 0} (xs : List X) (i : ℕ) (d : X) → i < length xs → slice_get xs i ≡ Some (get_or xs i d)
got [] i d l = absurd (omega arith)
got (x ∷ xs) zero d l = refl
got (x ∷ xs) (suc i) d l = got xs i d (omega arith)

pub inside : {X : Type 0} (xs : List X) (i : ℕ) (x : X) → slice_get xs i ≡ Some x → i < length xs
inside [] i x e = cc
inside (y ∷ ys) zero x e = omega arith
inside (y ∷ ys) (suc i) x e = let l = inside ys i x e in omega arith

-- ---- one element changes

here : {X : Type 0} (xs : List X) (i : ℕ) (x : X) → slice_get xs i ≡ Some x → get_or xs i x ≡ x
here xs i x e = same_Some (get_or xs i x) x (sym (got xs i x (inside xs i x e)) ∙ e)

pub read : {X : Type 0} (xs : List X) (i : ℕ) (x : X) → i < length xs → x ≡ get_or xs i x → slice_get xs i ≡ Some x
read xs i x l is = got xs i x l ∙ ap Some (sym is)

pub count_set : {X : Type 0} (p : X → Bool) (xs : List X) (i : ℕ) (x y : X) → slice_get xs i ≡ Some x → count_by p (set xs i y) + cond (p x) 1 0 ≡ count_by p xs + cond (p y) 1 0
count_set p xs i x y e = ap (λ w. count_by p (set xs i y) + cond (p w) 1 0) (sym (here xs i x e)) ∙ sum_by-set (λ w. cond (p w) 1 0) xs i y x (inside xs i x e)

count-cons : {X : Type 0} (p : X → Bool) (x : X) (xs : List X) → count_by p (x ∷ xs) ≡ cond (p x) 1 0 + count_by p xs
count-cons p x xs = sum_by-cons (λ w. cond (p w) 1 0) x xs

more_than_none : (a b c : ℕ) → a ≡ b + c → b ≡ 1 → 0 < a
more_than_none a b c e h = omega arith

more_than_rest : (a b c : ℕ) → a ≡ b + c → 0 < c → 0 < a
more_than_rest a b c e h = omega arith

pub counts_one : {X : Type 0} (p : X → Bool) (xs : List X) (i : ℕ) (x : X) → slice_get xs i ≡ Some x → p x ≡ true → 0 < count_by p xs
counts_one p [] i x e h = cc
counts_one p (z ∷ zs) zero x e h = more_than_none (count_by p (z ∷ zs)) (cond (p z) 1 0) (count_by p zs) (count-cons p z zs) (ap (λ w. cond (p w) 1 0) (same_Some z x e) ∙ ap (λ b. cond b 1 0) h)
counts_one p (z ∷ zs) (suc i) x e h = more_than_rest (count_by p (z ∷ zs)) (cond (p z) 1 0) (count_by p zs) (count-cons p z zs) (counts_one p zs i x e h)

-- an element that passes still passes: then some element passes exactly where one did or the new one does
pub any_set : {X : Type 0} (p : X → Bool) (xs : List X) (i : ℕ) (x y : X) → slice_get xs i ≡ Some x → (p x ≡ true → p y ≡ true) → list_any p (set xs i y) ≡ (list_any p xs || p y)
any_set p [] i x y e keeps = cc
any_set p (z ∷ zs) zero x y e keeps = ap (λ w. p y || list_any p zs) (same_Some z x e) ∙ by (p x) (p y) (list_any p zs) keeps ∙ ap (λ w. (p w || list_any p zs) || p y) (sym (same_Some z x e)) where
  by : (a b c : Bool) → (a ≡ true → b ≡ true) → (b || c) ≡ ((a || c) || b)
  by true b c h = ap (λ t. t || c) (h refl)
  by false true true h = refl
  by false true false h = refl
  by false false true h = refl
  by false false false h = refl
any_set p (z ∷ zs) (suc i) x y e keeps = ap (λ t. p z || t) (any_set p zs i x y e keeps) ∙ assoc (p z) (list_any p zs) (p y) where
  assoc : (a b c : Bool) → (a || (b || c)) ≡ ((a || b) || c)
  assoc true b c = refl
  assoc false b c = refl

-- all pass exactly where all are counted
equal_next : (a b : ℕ) → nat_eq (1 + a) (suc b) ≡ nat_eq a b
equal_next a b = grind (arith, nat_tests)

equal_less : (a b : ℕ) → a ≤ b → nat_eq (0 + a) (suc b) ≡ false
equal_less a b l = grind (arith, nat_tests)

pub all_counted : {X : Type 0} (p : X → Bool) (xs : List X) → nat_eq (count_by p xs) (length xs) ≡ list_all p xs
all_counted p [] = refl
all_counted p (x ∷ xs) = ap (λ n. nat_eq n (suc (length xs))) (count-cons p x xs) ∙ by (p x) (all_counted p xs) where
  by : (b : Bool) → nat_eq (count_by p xs) (length xs) ≡ list_all p xs → nat_eq (cond b 1 0 + count_by p xs) (suc (length xs)) ≡ (b && list_all p xs)
  by true rest = equal_next (count_by p xs) (length xs) ∙ rest
  by false rest = equal_less (count_by p xs) (length xs) (count_by-le-length p xs)

pub any_from : {X : Type 0} (p : X → Bool) (xs : List X) (i : ℕ) (x : X) → slice_get xs i ≡ Some x → p x ≡ true → list_any p xs ≡ true
any_from p [] i x e h = cc
any_from p (z ∷ zs) zero x e h = ap (λ b. b || list_any p zs) (ap p (same_Some z x e) ∙ h)
any_from p (z ∷ zs) (suc i) x e h = ap (λ b. p z || b) (any_from p zs i x e h) ∙ or_true (p z) where
  or_true : (b : Bool) → (b || true) ≡ true
  or_true true = refl
  or_true false = refl

abbrev pub vertex : VertexId → ℕ → ℕ → Bool → List TaskState → Bool → Vertex
vertex v epoch max_failed configured tasks moved = record { vertex = v; epoch = epoch; max_failed = max_failed; configured = configured; tasks = tasks; moved = moved }

-- ---- a task that is spent stays so

pub stays_spent : (t : TaskState) (e : TaskEvent) → t.spent ≡ true → (task_after t e).spent ≡ true
stays_spent t e h = ap (λ b. (let s : TaskState = cond b t (after_event t e) in s).spent) h ∙ h

-- ---- new tasks

none_won : (v epoch max a n : ℕ) → count_by has_winner (map (λ i. new_task (task v i) epoch max) (numbers_from a n)) ≡ 0
none_won v epoch max a zero = refl
none_won v epoch max a (suc n) =
    count-cons has_winner (new_task (task v a) epoch max) (map (λ i. new_task (task v i) epoch max) (numbers_from (suc a) n)) ∙ ap (λ k. 0 + k) (none_won v epoch max (suc a) n)

none_spent : (v epoch max a n : ℕ) → list_any is_spent (map (λ i. new_task (task v i) epoch max) (numbers_from a n)) ≡ false
none_spent v epoch max a zero = refl
none_spent v epoch max a (suc n) = none_spent v epoch max (suc a) n

pub so_many : {Y : Type 0} (f : ℕ → Y) (a n : ℕ) → length (map f (numbers_from a n)) ≡ n
so_many f a zero = refl
so_many f a (suc n) = ap suc (so_many f (suc a) n)

numbers_more : (a n : ℕ) → numbers_from a (suc n) ≡ numbers_from a n ++ (a + n) ∷ []
numbers_more a zero = let e : a + 0 ≡ a = omega arith in rw e refl
numbers_more a (suc n) = let e : suc a + n ≡ a + suc n = omega arith in ap (λ xs. a ∷ xs) (numbers_more (suc a) n ∙ ap (λ k. numbers_from (suc a) n ++ k ∷ []) e)

map-append_one : {X Y : Type 0} (f : X → Y) (xs : List X) (x : X) → map f (xs ++ x ∷ []) ≡ map f xs ++ f x ∷ []
map-append_one f [] x = refl
map-append_one f (y ∷ ys) x = ap (λ zs. f y ∷ zs) (map-append_one f ys x)

pub one_more : {Y : Type 0} (f : ℕ → Y) (n : ℕ) → map f (numbers_from 0 (n + 1)) ≡ map f (numbers_from 0 n) ++ f n ∷ []
one_more f n = let e : n + 1 ≡ suc n = omega arith in ap (λ k. map f (numbers_from 0 k)) e ∙ ap (map f) (numbers_more 0 n) ∙ map-append_one f (numbers_from 0 n) (0 + n) ∙ ap (λ k. map f (numbers_from 0 n) ++ f k ∷ []) (omega arith)

-- ---- what the type keeps

pub counted_new : (v epoch max n : ℕ) (tasks : List TaskState) → tasks ≡ map (λ i. new_task (task v i) epoch max) (numbers_from 0 n) → n < 2 ^ 32 → 0 < max → IsCounted tasks max 0 false
counted_new v epoch max n tasks is few some = subst (λ ts. IsCounted ts max 0 false) (sym is) (record {
  winners = sym (none_won v epoch max 0 n);
  any_spent = sym (none_spent v epoch max 0 n);
  few = subst (λ k. k < 2 ^ 32) (sym (so_many (λ i. new_task (task v i) epoch max) 0 n)) few;
  may_fail = some;
})

won_now : (now won count later a b : ℕ) → now + a ≡ won + b → won ≡ count → later + a ≡ count + b → now ≡ later
won_now now won count later a b e f g = omega arith

pub counted_set : (tasks : List TaskState) (max won now : ℕ) (spent later : Bool) (i : ℕ) (x y : TaskState) → IsCounted tasks max won spent → slice_get tasks i ≡ Some x
    → now + cond (has_winner x) 1 0 ≡ won + cond (has_winner y) 1 0 → (x.spent ≡ true → y.spent ≡ true) → later ≡ (spent || y.spent) → IsCounted (set tasks i y) max now later
counted_set tasks max won now spent later i x y c e num keeps is = record {
  winners = won_now now won (count_by has_winner tasks) (count_by has_winner (set tasks i y)) (cond (has_winner x) 1 0) (cond (has_winner y) 1 0) num c.winners (count_set has_winner tasks i x y e);
  any_spent = is ∙ ap (λ s. s || y.spent) c.any_spent ∙ sym (any_set is_spent tasks i x y e keeps);
  few = subst (λ k. k < 2 ^ 32) (sym (length-set tasks i y)) c.few;
  may_fail = c.may_fail;
}

-- a task of the vertex that is spent was counted before
pub spent_before : (tasks : List TaskState) (max won : ℕ) (spent : Bool) (i : ℕ) (x : TaskState) → IsCounted tasks max won spent → slice_get tasks i ≡ Some x → spent ≡ (spent || x.spent)
spent_before tasks max won spent i x c e = by spent x.spent (λ h. c.any_spent ∙ any_from is_spent tasks i x e h) where
  by : (a b : Bool) → (b ≡ true → a ≡ true) → a ≡ (a || b)
  by true b h = refl
  by false true h = h refl
  by false false h = refl

-- ---- the state after a call

pub taken_state : (s : Vertex) (i : ℕ) (e : TaskEvent) (x y : TaskState) (moved : Bool) → slice_get s.tasks i ≡ Some x → y ≡ task_after x e → moved ≡ (s.moved || not (is_ignored (task_took x e)))
    → vertex s.vertex s.epoch s.max_failed s.configured (set s.tasks i y) moved ≡ after_take s i e
taken_state s i e x y moved g is m =
    ap (λ t. vertex s.vertex s.epoch s.max_failed s.configured (set s.tasks i t) moved) is
    ∙ ap (vertex s.vertex s.epoch s.max_failed s.configured (set s.tasks i (task_after x e))) m ∙ ap (take_by s i e) (sym g)

pub restored_state : (s : Vertex) (i failures : ℕ) (winner : Option AttemptId) (x y : TaskState) → slice_get s.tasks i ≡ Some x → y ≡ restored x failures winner
    → vertex s.vertex s.epoch s.max_failed s.configured (set s.tasks i y) s.moved ≡ after_restore s i failures winner
restored_state s i failures winner x y g is =
    ap (λ t. vertex s.vertex s.epoch s.max_failed s.configured (set s.tasks i t) s.moved) is ∙ ap (restore_by s i failures winner) (sym g)
