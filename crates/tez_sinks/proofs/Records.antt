-- What attempts make are records: no line feed comes in.
--     output_records     a program makes records of records
--     made_records       so does every attempt
use Rattle.std.specs.Prelude.{◌≡◌, ℕ, zero, suc, ◌+◌, ◌-◌, ◌/◌, ◌%◌, ◌==◌, ℤ, pos, negsuc, Bool, true, false, not, ◌||◌, cond, nat_lt, ◌&&◌, if◌then◌else◌, List, [], ◌∷◌, ◌++◌, map, length, take, drop, slice_get, Option, Some, None, refl}
use Rattle.std.specs.List.{AllByRecursion, filter, flat_map, find, list_any, slice_split, onto_first}
use Rattle.std.specs.Option.{option_map_or}
use Rattle.std.specs.Str.{bytes_eq}
use Rattle.std.specs.Fmt.{digits, digits_onto, digit_glyph, decimal, signed_decimal}
use Rattle.std.specs.Ordering.{is_le}
use Rattle.std.proofs.Common.{arith, ne_eqb}
use Rattle.std.proofs.lemmas.Bool.{or_from, or_parts}
use Rattle.tez_ids.specs.declared.AttemptId.{AttemptId}
use Rattle.tez_ids.specs.declared.TaskId.{TaskId}
use Rattle.tez_ids.specs.Same.{same_attempt}
use Rattle.tez_record.specs.Line.{lines, IsRecord}
use Rattle.tez_record.specs.Field.{key}
use Rattle.tez_record.specs.Bag.{sort, place, compare}
use Rattle.tez_record.proofs.BlockLemmas.{lines_are_records}
use Rattle.tez_record.proofs.FieldLemmas.{joined_is_record, key_is_record}
use Rattle.tez_plan.specs.declared.parts.Head.{Head}
use Rattle.tez_plan.specs.declared.parts.Head.TheVariants.{Each, Sum, Count, Distinct, Join, Lookup, KeepIn, DropIn}
use Rattle.tez_plan.specs.declared.parts.Step.{Step}
use Rattle.tez_plan.specs.declared.parts.Step.TheVariants.{Tokenise, Filter, Project}
use Rattle.tez_plan.specs.declared.parts.Movement.{Movement}
use Rattle.tez_plan.specs.declared.parts.Movement.TheVariants.{OneToOne, Broadcast, ScatterGather}
use Rattle.tez_plan.specs.declared.parts.EdgeSpec.{EdgeSpec}
use Rattle.tez_plan.specs.declared.parts.VertexSpec.{VertexSpec}
use Rattle.tez_plan.specs.Dag.{is_broadcast, edges_into, to, tasks_of as planned}
use Rattle.tez_partition.specs.Partition.{in_partition}
use Rattle.tez_values.specs.Heads.{HeadInputs, beside, is_among, distinct, has_key, rows_by_key, join_rows, head_rows, is_good, sum_of}
use Rattle.tez_values.specs.Steps.{words, holds, step_rows, run}
use Rattle.tez_values.specs.Program.{output}
use Rattle.tez_meaning.specs.Jobs.{Job}
use Rattle.tez_meaning.specs.Value.{is_left, lines_of}
use Rattle.tez_shares.specs.Shares.{share_of_lines, first_line}
use Rattle.tez_events.specs.declared.Entry.TheVariants.{Fetched, Ordered}
use Rattle.tez_history.specs.Shape.{numbers_below}
use Rattle.tez_history.specs.History.{Past}
use Rattle.tez_history.specs.Derived.{task_count, table_over, input_count}
use Rattle.tez_contents.specs.Contents.{Records, number_of, piece, piece_over, fetched_over, reads, worked, made, copied}

abbrev pub AllRecords : List (List ℕ) → Type 0
AllRecords rs = AllByRecursion IsRecord rs

-- ---- lists of which each element has a property

module _ {X : Type 0} (P : X → Type 0) where
  all-append : (xs ys : List X) → AllByRecursion P xs → AllByRecursion P ys → AllByRecursion P (xs ++ ys)
  all-append [] ys h k = k
  all-append (x ∷ xs) ys h k = (h.0, all-append xs ys h.1 k)

  all-filter : (p : X → Bool) (xs : List X) → AllByRecursion P xs → AllByRecursion P (filter p xs)
  all-filter p [] h = tt
  all-filter p (x ∷ xs) h = by (p x) (all-filter p xs h.1) where
    by : (b : Bool) → AllByRecursion P (filter p xs) → AllByRecursion P (if b then x ∷ filter p xs else filter p xs)
    by true rest = (h.0, rest)
    by false rest = rest

  all-take : (n : ℕ) (xs : List X) → AllByRecursion P xs → AllByRecursion P (take n xs)
  all-take zero xs h = tt
  all-take (suc n) [] h = tt
  all-take (suc n) (x ∷ xs) h = (h.0, all-take n xs h.1)

  all-drop : (n : ℕ) (xs : List X) → AllByRecursion P xs → AllByRecursion P (drop n xs)
  all-drop zero xs h = h
  all-drop (suc n) [] h = tt
  all-drop (suc n) (x ∷ xs) h = all-drop n xs h.1

all-map : {X Y : Type 0} (P : X → Type 0) (Q : Y → Type 0) (f : X → Y) → ((x : X) → P x → Q (f x)) → (xs : List X) → AllByRecursion P xs → AllByRecursion Q (map f xs)
all-map P Q f each [] h = tt
all-map P Q f each (x ∷ xs) h = (each x h.0, all-map P Q f each xs h.1)

all-flat : {X Y : Type 0} (P : X → Type 0) (Q : Y → Type 0) (f : X → List Y) → ((x : X) → P x → AllByRecursion Q (f x)) → (xs : List X) → AllByRecursion P xs → AllByRecursion Q (flat_map f xs)
all-flat P Q f each [] h = tt
all-flat P Q f each (x ∷ xs) h = all-append Q (f x) (flat_map f xs) (each x h.0) (all-flat P Q f each xs h.1)

flat_of : {X Y : Type 0} (Q : Y → Type 0) (f : X → List Y) → ((x : X) → AllByRecursion Q (f x)) → (xs : List X) → AllByRecursion Q (flat_map f xs)
flat_of Q f each [] = tt
flat_of Q f each (x ∷ xs) = all-append Q (f x) (flat_map f xs) (each x) (flat_of Q f each xs)

place_records : (r : List ℕ) (bag : List (List ℕ)) → IsRecord r → AllRecords bag → AllRecords (place r bag)
place_records r [] h k = (h, tt)
place_records r (s ∷ bag) h k = by (is_le (compare r s)) (place_records r bag h k.1) where
  by : (b : Bool) → AllRecords (place r bag) → AllRecords (cond b (r ∷ s ∷ bag) (s ∷ place r bag))
  by true rest = (h, k)
  by false rest = (k.0, rest)

sort_records : (rs : List (List ℕ)) → AllRecords rs → AllRecords (sort rs)
sort_records [] h = tt
sort_records (r ∷ rs) h = place_records r (sort rs) h.0 (sort_records rs h.1)

-- ---- numbers as texts

glyph : (d : ℕ) → (digit_glyph false d == 10) ≡ false
glyph d = by (nat_lt d 10) where
  by : (b : Bool) → ((if b then 48 + d else 87 + d) == 10) ≡ false
  by true = ne_eqb (48 + d) 10 (λ e. omega arith)
  by false = ne_eqb (87 + d) 10 (λ e. omega arith)

digits_record : (k n : ℕ) (acc : List ℕ) → IsRecord acc → IsRecord (digits_onto k 10 false n acc)
digits_record zero n acc h = h
digits_record (suc k) n acc h = by (n / 10 == 0) (digits_record k (n / 10) (digit_glyph false (n % 10) ∷ acc) more) where
  more : IsRecord (digit_glyph false (n % 10) ∷ acc)
  more = or_from (digit_glyph false (n % 10) == 10) (list_any (λ b. b == 10) acc) (glyph (n % 10)) h

  by : (b : Bool) → IsRecord (digits_onto k 10 false (n / 10) (digit_glyph false (n % 10) ∷ acc))
      → IsRecord (if b then digit_glyph false (n % 10) ∷ acc else digits_onto k 10 false (n / 10) (digit_glyph false (n % 10) ∷ acc))
  by true rest = more
  by false rest = rest

decimal_record : (n : ℕ) → IsRecord (decimal n)
unfolding digits
decimal_record n = digits_record 64 n [] refl

signed_record : (z : ℤ) → IsRecord (signed_decimal z)
signed_record (pos n) = decimal_record n
signed_record (negsuc n) = or_from (45 == 10) (list_any (λ b. b == 10) (decimal (suc n))) refl (decimal_record (suc n))

-- ---- steps

onto_record : (b : ℕ) (ps : List (List ℕ)) → (b == 10) ≡ false → AllRecords ps → AllRecords (onto_first b ps)
onto_record b [] e h = (or_from (b == 10) false e refl, tt)
onto_record b (p ∷ ps) e h = (or_from (b == 10) (list_any (λ x. x == 10) p) e h.0, h.1)

split_records : (q : ℕ → Bool) (r : List ℕ) → IsRecord r → AllRecords (slice_split q r)
split_records q [] h = (refl, tt)
split_records q (b ∷ r) h = by (q b) (split_records q r (or_parts (b == 10) (list_any (λ x. x == 10) r) h).1) where
  parts : ((b == 10) ≡ false) × IsRecord r
  parts = or_parts (b == 10) (list_any (λ x. x == 10) r) h

  by : (x : Bool) → AllRecords (slice_split q r) → AllRecords (cond x ([] ∷ slice_split q r) (onto_first b (slice_split q r)))
  by true rest = (refl, rest)
  by false rest = onto_record b (slice_split q r) parts.0 rest

step_records : (s : Step) (r : List ℕ) → IsRecord r → AllRecords (step_rows s r)
step_records Tokenise r h =
    all-map IsRecord IsRecord (λ w. w ++ 9 ∷ 49 ∷ []) (λ w k. joined_is_record w (49 ∷ []) k refl) (words r)
    (all-filter IsRecord (λ w. nat_lt 0 (length w)) (slice_split (λ b. b == 32 || b == 9) r) (split_records (λ b. b == 32 || b == 9) r h))
step_records (Filter i test) r h = by (holds test r i) where
  by : (b : Bool) → AllRecords (if b then r ∷ [] else [])
  by true = (h, tt)
  by false = tt
step_records (Project cols) r h = (key_is_record r cols h, tt)

run_records : (steps : List Step) (rs : List (List ℕ)) → AllRecords rs → AllRecords (run steps rs)
run_records [] rs h = h
run_records (s ∷ steps) rs h = run_records steps (flat_map (step_rows s) rs) (all-flat IsRecord IsRecord (step_rows s) (step_records s) rs h)

-- ---- heads

distinct_records : (ks : List (List ℕ)) → AllRecords ks → AllRecords (distinct ks)
distinct_records [] h = tt
distinct_records (k ∷ ks) h = by (is_among ks k) (distinct_records ks h.1) where
  by : (b : Bool) → AllRecords (distinct ks) → AllRecords (cond b (distinct ks) (k ∷ distinct ks))
  by true rest = rest
  by false rest = (h.0, rest)

rows_records : (says : List (List ℕ) → List ℕ → List ℕ) (cols : List ℕ) (rs : List (List ℕ)) → ((those : List (List ℕ)) (k : List ℕ) → IsRecord k → IsRecord (says those k)) → AllRecords rs → AllRecords (rows_by_key says cols rs)
rows_records says cols rs each h =
    all-map IsRecord IsRecord (λ k. says (filter (has_key cols k) rs) k) (λ k m. each (filter (has_key cols k) rs) k m) (distinct (map (key cols) rs))
    (distinct_records (map (key cols) rs) (all-map IsRecord IsRecord (key cols) (λ r m. key_is_record r cols m) rs h))

join_records : (cols partner_cols : List ℕ) (ls rs : List (List ℕ)) → AllRecords ls → AllRecords rs → AllRecords (join_rows cols partner_cols ls rs)
join_records cols partner_cols ls rs h k =
    all-flat IsRecord IsRecord (λ l. map (beside l) (filter (has_key partner_cols (key cols l)) rs))
    (λ l m. all-map IsRecord IsRecord (beside l) (λ r n. joined_is_record l r m n) (filter (has_key partner_cols (key cols l)) rs) (all-filter IsRecord (has_key partner_cols (key cols l)) rs k)) ls h

-- what is read are records
record ReadsRecords (i : HeadInputs) : Type 0 where
  primary : AllRecords i.primary
  partner : AllRecords i.partner
  side : AllRecords i.side

head_records : (h : Head) (i : HeadInputs) → ReadsRecords i → AllRecords (head_rows h i)
head_records Each i r = r.primary
head_records (Sum value) i r =
    rows_records (λ rs k. beside k (signed_decimal (sum_of value rs))) i.columns (filter (is_good value) i.primary)
    (λ those k m. joined_is_record k (signed_decimal (sum_of value those)) m (signed_record (sum_of value those))) (all-filter IsRecord (is_good value) i.primary r.primary)
head_records Count i r = rows_records (λ rs k. beside k (decimal (length rs))) i.columns i.primary (λ those k m. joined_is_record k (decimal (length those)) m (decimal_record (length those))) r.primary
head_records Distinct i r = rows_records (λ those k. k) i.columns i.primary (λ those k m. m) r.primary
head_records (Join left) i r = join_records i.columns i.partner_columns i.primary i.partner r.primary r.partner
head_records (Lookup cols side_cols) i r = join_records cols side_cols i.primary i.side r.primary r.side
head_records (KeepIn cols side_cols) i r = all-filter IsRecord (λ l. is_among (map (key side_cols) i.side) (key cols l)) i.primary r.primary
head_records (DropIn cols side_cols) i r = all-filter IsRecord (λ l. not (is_among (map (key side_cols) i.side) (key cols l))) i.primary r.primary

output_records : (h : Head) (steps : List Step) (i : HeadInputs) → ReadsRecords i → AllRecords (output h steps i)
output_records h steps i r = sort_records (run steps (head_rows h i)) (run_records steps (head_rows h i) (head_records h i r))

-- ---- attempts

module _ (job : Job) where
  source_records : (name : List ℕ) → AllRecords (lines_of job name)
  source_records name = by (find (λ file. bytes_eq file.0 name) job.sources) where
    by : (o : Option (List ℕ × List ℕ)) → AllRecords (option_map_or (λ file. lines file.1) o [])
    by None = tt
    by (Some file) = lines_are_records file.1

  share_records : (rs : List (List ℕ)) (n t : ℕ) → AllRecords rs → AllRecords (share_of_lines rs n t)
  share_records rs n t h =
      let a = first_line (length rs) n t in
      let b = first_line (length rs) n (t + 1) in
      all-take IsRecord (b - a) (drop a rs) (all-drop IsRecord a rs h)

  piece_records : (m : Movement) (parts o : ℕ) (value : Records) → AllRecords value → AllRecords (piece m parts o value)
  piece_records OneToOne parts o value h = h
  piece_records Broadcast parts o value h = h
  piece_records (ScatterGather cols) parts o value h = sort_records (filter (in_partition cols parts o) value) (all-filter IsRecord (in_partition cols parts o) value h)

  over_records : (past : Past) (n t i : ℕ) (value : Records) → AllRecords value → AllRecords (piece_over job.plan past n t i value)
  over_records past n t i value h = by (slice_get job.plan.edges n) where
    by : (o : Option EdgeSpec) → AllRecords (option_map_or (λ e. piece e.movement (planned job.plan (to job.plan e)) ((table_over job.plan past e).leads t i).1 value) o [])
    by None = tt
    by (Some e) = piece_records e.movement (planned job.plan (to job.plan e)) ((table_over job.plan past e).leads t i).1 value h

  module _ (past : Past) (t : TaskId) (copy : ℕ → ℕ → Records) (copies : (e i : ℕ) → AllRecords (copy e i)) where
    over_edges : (es : List EdgeSpec) → AllRecords (flat_map (fetched_over job past t.index copy) es)
    over_edges es = flat_of IsRecord (fetched_over job past t.index copy)
        (λ e. flat_of IsRecord (copy (number_of job.plan e)) (copies (number_of job.plan e)) (numbers_below (input_count job.plan past e t.index))) es

    of_source : (o : Option (List ℕ)) → AllRecords (option_map_or (λ name. share_of_lines (lines_of job name) (task_count job.plan t.vertex.0 past) t.index) o [])
    of_source None = tt
    of_source (Some name) = share_records (lines_of job name) (task_count job.plan t.vertex.0 past) t.index (source_records name)

    reads_records : (s : VertexSpec) → ReadsRecords (reads job past t copy s)
    reads_records s =
        let ahead = filter (λ e. not (is_broadcast e)) (edges_into job.plan t.vertex.0) in
        record {
          primary = all-append IsRecord (option_map_or (λ name. share_of_lines (lines_of job name) (task_count job.plan t.vertex.0 past) t.index) s.source []) (flat_map (fetched_over job past t.index copy) (filter (is_left s.head) ahead)) (of_source s.source) (over_edges (filter (is_left s.head) ahead));
          partner = over_edges (filter (λ e. not (is_left s.head e)) ahead);
          side = over_edges (filter is_broadcast (edges_into job.plan t.vertex.0));
        }

    worked_records : AllRecords (worked job past t copy)
    worked_records = by (slice_get job.plan.vertices t.vertex.0) where
      by : (o : Option VertexSpec) → AllRecords (option_map_or (λ s. output s.head s.steps (reads job past t copy s)) o [])
      by None = tt
      by (Some s) = output_records s.head s.steps (reads job past t copy s) (reads_records s)

  abbrev MakesRecords : Past → Type 0
  MakesRecords past = ((a : AttemptId) → AllRecords (made job a past)) × ((a : AttemptId) (e i : ℕ) → AllRecords (copied job a e i past))

  makes_records : (past : Past) → MakesRecords past
  unfolding made copied
  makes_records [] = ((λ a. tt), (λ a e i. tt))
  makes_records (Ordered b ∷ past) = let r = makes_records past in ((λ a. by a (same_attempt b a) (r.0 a) (worked_records past a.task (λ e i. copied job a e i past) (r.1 a))), r.1) where
    by : (a : AttemptId) (x : Bool) → AllRecords (made job a past) → AllRecords (worked job past a.task (λ e i. copied job a e i past))
        → AllRecords (if x then worked job past a.task (λ e i. copied job a e i past) else made job a past)
    by a true old new = new
    by a false old new = old
  makes_records (Fetched b d j w ∷ past) = let r = makes_records past in (r.0, (λ a e i. by a e i (same_attempt b a && ((d.0 == e) && (j == i))) (r.1 a e i) (over_records past e a.task.index i (made job w past) (r.0 w)))) where
    by : (a : AttemptId) (e i : ℕ) (x : Bool) → AllRecords (copied job a e i past) → AllRecords (piece_over job.plan past e a.task.index i (made job w past))
        → AllRecords (if x then piece_over job.plan past e a.task.index i (made job w past) else copied job a e i past)
    by a e i true old new = new
    by a e i false old new = old
  makes_records (_ ∷ past) = makes_records past

  pub made_records : (a : AttemptId) (past : Past) → AllRecords (made job a past)
  made_records a past = (makes_records past).0 a
