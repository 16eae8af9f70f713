-- What a change of one task makes of the rows and of the set of those that wait.
use Rattle.std.specs.Prelude.{◌≡◌, ◌≢◌, ℕ, ◌+◌, ◌-◌, ◌<◌, ◌≤◌, ◌==◌, Bool, true, false, cond, List, [], ◌∷◌, ◌++◌, length, map, if◌then◌else◌, Some, refl}
use Rattle.std.specs.List.{flat_map, count_by}
use Rattle.std.proofs.Common.{ap, sym, ◌∙◌, arith, subst, set, get_or, inl, inr, ◌⊎◌, length-append, eqb-true, length-set, zero-add}
use Rattle.std.proofs.lemmas.Bool.{cases_lt, cases_eq, eqb-false}
use Rattle.std.proofs.lemmas.List.{get_or-set_same, get_or-set_other, get_or_past, set-append_left, set-append_right, set-get_or, set_past, length-map}
use Rattle.std.proofs.lemmas.List.Sums.{sum_by-cons}
use Rattle.std.proofs.lemmas.Option.{unwrap_or-slice_get, get_or_from_slice_get}
use Rattle.tez_lists.specs.Tables.{set_in}
use Rattle.tez_lists.specs.Numbers.{numbers_from}
use Rattle.tez_lists.proofs.Cases.{cases}
use Rattle.tez_lists.proofs.Tables.{get_each}
use Rattle.tez_ids.specs.declared.TaskId.{TaskId}
use Rattle.tez_ids.specs.Same.{task}
use Rattle.tez_queue.specs.Queue.{row_of}
use Rattle.tez_queue.specs.Kept.{by_depth, tasks_of, start_of, IsKept}
use Rattle.tez_queue.proofs.ListLemmas.{length_numbers}

set_in_is : (rows : List (List Bool)) (v i : ℕ) (b : Bool) → set_in rows v i b ≡ set rows v (set (row_of rows v) i b)
set_in_is rows v i b = ap (λ r. set rows v (set r i b)) (unwrap_or-slice_get rows v [])

pub inside : (rows : List (List Bool)) (v i : ℕ) → i < length (row_of rows v) → v < length rows
inside rows v i l = by (cases_lt v (length rows)) where
  by : (v < length rows) ⊎ (length rows ≤ v) → v < length rows
  by (inl h) = h
  by (inr h) = let none : row_of rows v ≡ [] = get_or_past rows v [] h in let short = ap length none in omega arith

-- no such task
pub set_in_past : (rows : List (List Bool)) (v i : ℕ) (b : Bool) → length (row_of rows v) ≤ i → set_in rows v i b ≡ rows
set_in_past rows v i b l = set_in_is rows v i b ∙ ap (set rows v) (set_past (row_of rows v) i b l) ∙ set-get_or rows v []

row_same : (rows : List (List Bool)) (v i : ℕ) (b : Bool) → v < length rows → row_of (set_in rows v i b) v ≡ set (row_of rows v) i b
row_same rows v i b l = ap (λ r. row_of r v) (set_in_is rows v i b) ∙ get_or-set_same rows v (set (row_of rows v) i b) [] l

row_other : (rows : List (List Bool)) (v i w : ℕ) (b : Bool) → w ≢ v → row_of (set_in rows v i b) w ≡ row_of rows w
row_other rows v i w b ne = ap (λ r. row_of r w) (set_in_is rows v i b) ∙ get_or-set_other rows v w (set (row_of rows v) i b) [] ne

row_long : (rows : List (List Bool)) (v i : ℕ) (b : Bool) → v < length rows → (w : ℕ) → length (row_of (set_in rows v i b) w) ≡ length (row_of rows w)
row_long rows v i b l w = by (cases_eq w v) where
  by : (w ≡ v) ⊎ (w ≢ v) → length (row_of (set_in rows v i b) w) ≡ length (row_of rows w)
  by (inl e) = subst (λ x. length (row_of (set_in rows v i b) x) ≡ length (row_of rows x)) (sym e) (ap length (row_same rows v i b l) ∙ length-set (row_of rows v) i b)
  by (inr ne) = ap length (row_other rows v i w b ne)

-- ---- the order stays

start_same : (rows later : List (List Bool)) (vs : List ℕ) (v : ℕ) → ((w : ℕ) → length (row_of later w) ≡ length (row_of rows w)) → start_of later vs v ≡ start_of rows vs v
start_same rows later [] v s = refl
start_same rows later (w ∷ ws) v s = ap (λ n. if w == v then 0 else (n + start_of later ws v)) (s w) ∙ ap (λ n. if w == v then 0 else (length (row_of rows w) + n)) (start_same rows later ws v s)

starts_same : (rows later : List (List Bool)) (vs ns : List ℕ) → ((w : ℕ) → length (row_of later w) ≡ length (row_of rows w)) → map (start_of later vs) ns ≡ map (start_of rows vs) ns
starts_same rows later vs [] s = refl
starts_same rows later vs (n ∷ ns) s = let here = start_same rows later vs n s in let rest = starts_same rows later vs ns s in cc

tasks_same : (rows later : List (List Bool)) (vs : List ℕ) → ((w : ℕ) → length (row_of later w) ≡ length (row_of rows w)) → flat_map (tasks_of later) vs ≡ flat_map (tasks_of rows) vs
tasks_same rows later [] s = refl
tasks_same rows later (w ∷ ws) s = ap (λ n. map (task w) (numbers_from 0 n) ++ flat_map (tasks_of later) ws) (s w) ∙ ap (λ ts. tasks_of rows w ++ ts) (tasks_same rows later ws s)

-- ---- the place of a task

count_step : (w v : ℕ) (ws : List ℕ) (b : Bool) → (w == v) ≡ b → count_by (λ x. x == v) (w ∷ ws) ≡ cond b 1 0 + count_by (λ x. x == v) ws
count_step w v ws b e = sum_by-cons (λ x. cond (x == v) 1 0) w ws ∙ ap (λ b. cond b 1 0 + count_by (λ x. x == v) ws) e

count_here : (w v : ℕ) (ws : List ℕ) → (w == v) ≡ true → count_by (λ x. x == v) (w ∷ ws) ≡ 1 + count_by (λ x. x == v) ws
count_here w v ws e = count_step w v ws true e

count_later : (w v : ℕ) (ws : List ℕ) → (w == v) ≡ false → count_by (λ x. x == v) ws ≡ count_by (λ x. x == v) (w ∷ ws)
count_later w v ws e = let m : count_by (λ x. x == v) (w ∷ ws) ≡ 0 + count_by (λ x. x == v) ws = count_step w v ws false e in omega arith

pub place_inside : (rows : List (List Bool)) (vs : List ℕ) (v i : ℕ) → count_by (λ w. w == v) vs ≡ 1 → i < length (row_of rows v) → start_of rows vs v + i < length (flat_map (row_of rows) vs)
place_inside rows [] v i one l = absurd (omega arith)
place_inside rows (w ∷ ws) v i one l =
    let long = length-append (row_of rows w) (flat_map (row_of rows) ws) in
    cases (w == v)
    (λ e. let same : length (row_of rows w) ≡ length (row_of rows v) = ap (λ x. length (row_of rows x)) (eqb-true w v e) in rw e (omega arith))
    (λ e.
    let left : count_by (λ w. w == v) ws ≡ 1 = count_later w v ws e ∙ one in
    let rest = place_inside rows ws v i left l in rw e (omega arith))

unset : (rows : List (List Bool)) (vs : List ℕ) (v i : ℕ) (b : Bool) → count_by (λ w. w == v) vs ≡ 0 → flat_map (row_of (set_in rows v i b)) vs ≡ flat_map (row_of rows) vs
unset rows [] v i b none = refl
unset rows (w ∷ ws) v i b none =
    cases (w == v)
    (λ e. let some : 1 + count_by (λ w. w == v) ws ≡ 0 = sym (count_here w v ws e) ∙ none in absurd (omega arith))
    (λ e.
    let left : count_by (λ w. w == v) ws ≡ 0 = count_later w v ws e ∙ none in
    ap (λ r. r ++ flat_map (row_of (set_in rows v i b)) ws) (row_other rows v i w b (eqb-false w v e)) ∙ ap (λ r. row_of rows w ++ r) (unset rows ws v i b left))

pub set_place : (rows : List (List Bool)) (vs : List ℕ) (v i : ℕ) (b : Bool) → count_by (λ w. w == v) vs ≡ 1 → i < length (row_of rows v)
    → set (flat_map (row_of rows) vs) (start_of rows vs v + i) b ≡ flat_map (row_of (set_in rows v i b)) vs
set_place rows [] v i b one l = absurd (omega arith)
set_place rows (w ∷ ws) v i b one l =
    cases (w == v)
    (λ e.
    let same : w ≡ v = eqb-true w v e in
    let none : 1 + count_by (λ w. w == v) ws ≡ 1 = sym (count_here w v ws e) ∙ one in
    let left : count_by (λ w. w == v) ws ≡ 0 = omega arith in
    let short : i < length (row_of rows w) = subst (λ x. i < length (row_of rows x)) (sym same) l in
    let low : (if w == v then 0 else (length (row_of rows w) + start_of rows ws v)) + i ≡ i = rw e (omega arith) in
    let here : set (row_of rows w) i b ≡ row_of (set_in rows v i b) w = ap (λ x. set (row_of rows x) i b) same ∙ sym (row_same rows v i b (inside rows v i l)) ∙ ap (row_of (set_in rows v i b)) (sym same) in
    ap (λ n. set (row_of rows w ++ flat_map (row_of rows) ws) n b) low ∙ set-append_left (row_of rows w) (flat_map (row_of rows) ws) i b short
    ∙ ap (λ r. r ++ flat_map (row_of rows) ws) here ∙ ap (λ r. row_of (set_in rows v i b) w ++ r) (sym (unset rows ws v i b left)))
    (λ e.
    let left : count_by (λ w. w == v) ws ≡ 1 = count_later w v ws e ∙ one in
    let n = length (row_of rows w) in
    let s = start_of rows ws v in
    let high : (if w == v then 0 else (length (row_of rows w) + start_of rows ws v)) + i ≡ n + (s + i) = rw e (omega arith) in
    let less : n + (s + i) - n ≡ s + i = omega arith in
    ap (λ n. set (row_of rows w ++ flat_map (row_of rows) ws) n b) high ∙ set-append_right (row_of rows w) (flat_map (row_of rows) ws) n (n + (s + i)) b refl (omega arith)
    ∙ ap (λ k. row_of rows w ++ set (flat_map (row_of rows) ws) k b) less ∙ ap (λ r. row_of rows w ++ r) (set_place rows ws v i b left l)
    ∙ ap (λ r. r ++ flat_map (row_of (set_in rows v i b)) ws) (sym (row_other rows v i w b (eqb-false w v e))))

pub kept_set : (depths : List ℕ) (rows : List (List Bool)) (starts : List ℕ) (tasks : List TaskId) (waiting : List Bool) (v i : ℕ) (b : Bool)
    → IsKept depths rows starts tasks waiting → i < length (row_of rows v)
    → IsKept depths (set_in rows v i b) starts tasks (set waiting (start_of rows (by_depth depths) v + i) b)
kept_set depths rows starts tasks waiting v i b k l =
    let there = inside rows v i l in
    let long = row_long rows v i b there in
    let many : length (set_in rows v i b) ≡ length rows = length-set rows v _ in
    record {
      once = λ w h. k.once w (omega arith);
      starts_are = k.starts_are ∙ sym (ap (λ n. map (start_of (set_in rows v i b) (by_depth depths)) (numbers_from 0 n)) many ∙ starts_same rows (set_in rows v i b) (by_depth depths) (numbers_from 0 (length rows)) long);
      tasks_are = k.tasks_are ∙ sym (tasks_same rows (set_in rows v i b) (by_depth depths) long);
      waiting_is = ap (λ f. set f (start_of rows (by_depth depths) v + i) b) k.waiting_is ∙ set_place rows (by_depth depths) v i b (k.once v there) l;
      small = k.small;
    }

-- ---- where a task stands in a queue

pub starts_long : (depths : List ℕ) (rows : List (List Bool)) (starts : List ℕ) (tasks : List TaskId) (waiting : List Bool) → IsKept depths rows starts tasks waiting → length starts ≡ length rows
starts_long depths rows starts tasks waiting k = ap length k.starts_are ∙ length-map (numbers_from 0 (length rows)) (start_of rows (by_depth depths)) ∙ length_numbers 0 (length rows)

pub start_read : (depths : List ℕ) (rows : List (List Bool)) (starts : List ℕ) (tasks : List TaskId) (waiting : List Bool) (v x : ℕ) → IsKept depths rows starts tasks waiting → v < length rows → x ≡ get_or starts v x → x ≡ start_of rows (by_depth depths) v
start_read depths rows starts tasks waiting v x k l is =
    let f = start_of rows (by_depth depths) in
    is ∙ ap (λ (xs : List ℕ). get_or xs v x) k.starts_are
    ∙ get_or_from_slice_get (map f (numbers_from 0 (length rows))) v (f v) x (get_each f 0 (length rows) v l ∙ ap (λ m. Some (f m)) (zero-add v))

pub place_low : (depths : List ℕ) (rows : List (List Bool)) (starts : List ℕ) (tasks : List TaskId) (waiting : List Bool) (v i : ℕ) → IsKept depths rows starts tasks waiting → i < length (row_of rows v) → start_of rows (by_depth depths) v + i < length waiting
place_low depths rows starts tasks waiting v i k l = let there = place_inside rows (by_depth depths) v i (k.once v (inside rows v i l)) l in let long = ap length k.waiting_is in omega arith
