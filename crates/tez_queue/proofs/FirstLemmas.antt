-- The first task in order that waits.
use Rattle.std.specs.Prelude.{◌≡◌, ℕ, suc, ◌+◌, ◌<◌, ◌≤◌, nat_lt, Bool, true, false, cond, List, [], ◌∷◌, ◌++◌, length, map, position, slice_get, Some, None, refl}
use Rattle.std.specs.List.{filter, flat_map, position_or_len}
use Rattle.std.proofs.Common.{ap, sym, ◌∙◌, arith, get_or}
use Rattle.std.proofs.lemmas.Bool.Decides.{nat_tests}
use Rattle.std.proofs.lemmas.Option.{slice_get-get_or, slice_get_past}
use Rattle.tez_ids.specs.declared.TaskId.{TaskId}
use Rattle.tez_ids.specs.Same.{task}
use Rattle.tez_lists.specs.Numbers.{numbers_from}
use Rattle.tez_lists.proofs.Tables.{map_each}
use Rattle.tez_plan.proofs.NameLemmas.{position_or_len-map, position_is}
use Rattle.tez_queue.specs.Queue.{Queue, row_of, flag, queued_of, of_depth, first}
use Rattle.tez_queue.specs.Kept.{by_depth, tasks_of, IsKept}
use Rattle.tez_queue.proofs.ListLemmas.{flat-flat, map-flat, filter-flat, filter-map, first_passes}
use Rattle.std.proofs.lemmas.List.{length-map}

abbrev has_in : List (List Bool) → TaskId → Bool
has_in rows t = flag (row_of rows t.vertex.0) t.index

-- the flags of a row, read one by one
read_row : (row xs : List Bool) (n : ℕ) → ((k : ℕ) → flag row (n + k) ≡ flag xs k) → map (flag row) (numbers_from n (length xs)) ≡ xs
read_row row [] n same = refl
read_row row (x ∷ xs) n same =
    let zero_off : n + 0 ≡ n = omega arith in
    let here : flag row n ≡ x = ap (flag row) (sym zero_off) ∙ same 0 in
    let rest = read_row row xs (suc n) (λ k. let e : suc n + k ≡ n + suc k = omega arith in ap (flag row) e ∙ same (suc k)) in
    cc

row_read : (rows : List (List Bool)) (v : ℕ) → map (has_in rows) (tasks_of rows v) ≡ row_of rows v
row_read rows v =
    map_each (has_in rows) (task v) 0 (length (row_of rows v)) ∙ read_row (row_of rows v) (row_of rows v) 0 (λ k. let e : 0 + k ≡ k = omega arith in ap (flag (row_of rows v)) e)

flags_are : (rows : List (List Bool)) (vs : List ℕ) → map (has_in rows) (flat_map (tasks_of rows) vs) ≡ flat_map (row_of rows) vs
flags_are rows [] = refl
flags_are rows (v ∷ vs) = map-flat (has_in rows) (tasks_of rows) (v ∷ vs) ∙ ap (λ r. r ++ flat_map (λ w. map (has_in rows) (tasks_of rows w)) vs) (row_read rows v) ∙ ap (λ r. row_of rows v ++ r) (sym (map-flat (has_in rows) (tasks_of rows) vs) ∙ flags_are rows vs)

those_queued : (rows : List (List Bool)) (vs : List ℕ) → filter (has_in rows) (flat_map (tasks_of rows) vs) ≡ flat_map (queued_of rows) vs
those_queued rows [] = refl
those_queued rows (v ∷ vs) =
    filter-flat (has_in rows) (tasks_of rows) (v ∷ vs)
    ∙ ap (λ r. r ++ flat_map (λ w. filter (has_in rows) (tasks_of rows w)) vs) (filter-map (has_in rows) (task v) (numbers_from 0 (length (row_of rows v))))
    ∙ ap (λ r. queued_of rows v ++ r) (sym (filter-flat (has_in rows) (tasks_of rows) vs) ∙ those_queued rows vs)

pub first_is : (q : Queue) → first q ≡ slice_get (flat_map (queued_of q.queued) (by_depth q.depths)) 0
first_is q = ap (λ ts. slice_get ts 0) (sym (flat-flat (queued_of q.queued) (of_depth q.depths) (numbers_from 0 (length q.depths))))

module _ (depths : List ℕ) (rows : List (List Bool)) (starts : List ℕ) (tasks : List TaskId) (waiting : List Bool) (k : IsKept depths rows starts tasks waiting) where
  flags : waiting ≡ map (has_in rows) tasks
  flags = k.waiting_is ∙ sym (flags_are rows (by_depth depths)) ∙ sym (ap (map (has_in rows)) k.tasks_are)

  at_first : slice_get tasks (position_or_len (has_in rows) tasks) ≡ first (record { depths = depths; queued = rows })
  at_first = first_passes (has_in rows) tasks ∙ ap (λ ts. slice_get (filter (has_in rows) ts) 0) k.tasks_are ∙ ap (λ ts. slice_get ts 0) (those_queued rows (by_depth depths)) ∙ sym (first_is (record { depths = depths; queued = rows }))

  pub same_long : length waiting ≡ length tasks
  same_long = ap length flags ∙ length-map tasks (has_in rows)

  place : position_or_len (λ b. b) waiting ≡ position_or_len (has_in rows) tasks
  place = ap (position_or_len (λ b. b)) flags ∙ position_or_len-map (λ b. b) (has_in rows) tasks

  pub some_place : (i : ℕ) → Some i ≡ position (λ b. b) waiting → i < length tasks
  some_place i e = by (nat_lt (position_or_len (λ b. b) waiting) (length waiting)) refl (sym e) where
    by : (b : Bool) → nat_lt (position_or_len (λ b. b) waiting) (length waiting) ≡ b → cond b (Some (position_or_len (λ b. b) waiting)) None ≡ Some i → i < length tasks
    by true l h = let same : position_or_len (λ b. b) waiting ≡ i = cc in let below : position_or_len (λ b. b) waiting < length waiting = grind (arith, nat_tests) in let long = same_long in omega arith
    by false l h = cc

  pub some_first : (i : ℕ) (x : TaskId) → Some i ≡ position (λ b. b) waiting → x ≡ get_or tasks i x → Some x ≡ first (record { depths = depths; queued = rows })
  some_first i x e is =
      let at : i ≡ position_or_len (has_in rows) tasks = position_is (λ b. b) waiting i (sym e) ∙ place in
      ap Some is ∙ sym (slice_get-get_or tasks i x (some_place i e)) ∙ ap (slice_get tasks) at ∙ at_first

  pub none_first : None ≡ position (λ b. b) waiting → None ≡ first (record { depths = depths; queued = rows })
  none_first e = by (nat_lt (position_or_len (λ b. b) waiting) (length waiting)) refl (sym e) where
    by : (b : Bool) → nat_lt (position_or_len (λ b. b) waiting) (length waiting) ≡ b → cond b (Some (position_or_len (λ b. b) waiting)) None ≡ None → None ≡ first (record { depths = depths; queued = rows })
    by true l h = cc
    by false l h =
        let past : length waiting ≤ position_or_len (λ b. b) waiting = grind (arith, nat_tests) in
        let long = same_long in
        let there = place in
        sym (slice_get_past tasks (position_or_len (has_in rows) tasks) (omega arith)) ∙ at_first
