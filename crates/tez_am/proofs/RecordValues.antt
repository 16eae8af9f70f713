-- What the vertices of a job make has no line feed in a record, so the lines of a sink's text are its records.
use Rattle.std.proofs.Common.{◌≡◌, ℕ, zero, suc, ◌+◌, ◌==◌, ◌/◌, ◌%◌, Bool, false, not, ◌||◌, nat_lt, List, [], ◌∷◌, ◌++◌, length, map, refl, arith, filter, flat_map, pos, negsuc, ℤ, Option, Some, None, ne_eqb, decimal, bytes_eq, slice_get, find}
use Rattle.std.specs.List.{AllByRecursion, list_any, onto_first, slice_split}
use Rattle.std.specs.Option.{option_map_or}
use Rattle.std.specs.Fmt.{digits, digits_onto, digit_glyph, signed_decimal}
use Rattle.std.proofs.lemmas.Bool.{or_from, or_parts}
use Rattle.tez_lists.proofs.Cases.{cases}
use Rattle.tez_record.specs.Line.{lines, IsRecord}
use Rattle.tez_record.specs.Field.{key}
use Rattle.tez_record.specs.Bag.{place, sort}
use Rattle.tez_record.proofs.BagLemmas.{at_most}
use Rattle.tez_record.proofs.BlockLemmas.{lines_are_records}
use Rattle.tez_record.proofs.FieldLemmas.{joined_is_record, key_is_record}
use Rattle.tez_record.proofs.LineLemmas.{lines-text}
use Rattle.tez_plan.specs.declared.parts.Head.{Head}
use Rattle.tez_plan.specs.declared.parts.Head.TheVariants.{Each, Sum, Count, Distinct, Join, Lookup, KeepIn, DropIn}
use Rattle.tez_plan.specs.declared.parts.Step.{Step}
use Rattle.tez_plan.specs.declared.parts.Step.TheVariants.{Tokenise, Filter, Project}
use Rattle.tez_plan.specs.declared.parts.VertexSpec.{VertexSpec}
use Rattle.tez_plan.specs.Dag.{from}
use Rattle.tez_plan.specs.Order.{by_sources}
use Rattle.tez_values.specs.Steps.{words, holds, step_rows, run}
use Rattle.tez_values.specs.Heads.{HeadInputs, beside, distinct, is_among, has_key, is_good, rows_by_key, sum_of, join_rows, head_rows}
use Rattle.tez_values.specs.Program.{output}
use Rattle.tez_meaning.specs.Jobs.{Job}
use Rattle.tez_meaning.specs.Value.{inputs_of, lines_of, sink_text, value, value_from}

abbrev Records : List (List ℕ) → Type 0
Records = AllByRecursion IsRecord

-- ---- lists of records

appended : (xs ys : List (List ℕ)) → Records xs → Records ys → Records (xs ++ ys)
appended [] ys h k = k
appended (x ∷ xs) ys h k = (h.0, appended xs ys h.1 k)

filtered : (p : List ℕ → Bool) (xs : List (List ℕ)) → Records xs → Records (filter p xs)
filtered p [] h = tt
filtered p (x ∷ xs) h = cases (p x) (λ e. rw e (h.0, filtered p xs h.1)) (λ e. rw e (filtered p xs h.1))

mapped : (f : List ℕ → List ℕ) → ((x : List ℕ) → IsRecord x → IsRecord (f x)) → (xs : List (List ℕ)) → Records xs → Records (map f xs)
mapped f is [] h = tt
mapped f is (x ∷ xs) h = (is x h.0, mapped f is xs h.1)

flattened : (f : List ℕ → List (List ℕ)) → ((x : List ℕ) → IsRecord x → Records (f x)) → (xs : List (List ℕ)) → Records xs → Records (flat_map f xs)
flattened f is [] h = tt
flattened f is (x ∷ xs) h = appended (f x) (flat_map f xs) (is x h.0) (flattened f is xs h.1)

gathered : {X : Type 0} (f : X → List (List ℕ)) → ((x : X) → Records (f x)) → (xs : List X) → Records (flat_map f xs)
gathered f is [] = tt
gathered f is (x ∷ xs) = appended (f x) (flat_map f xs) (is x) (gathered f is xs)

placed : (r : List ℕ) (bag : List (List ℕ)) → IsRecord r → Records bag → Records (place r bag)
placed r [] h k = (h, tt)
placed r (s ∷ bag) h k = cases (at_most r s) (λ e. rw e (h, (k.0, k.1))) (λ e. rw e (k.0, placed r bag h k.1))

sorted : (rs : List (List ℕ)) → Records rs → Records (sort rs)
sorted [] h = tt
sorted (r ∷ rs) h = placed r (sort rs) h.0 (sorted rs h.1)

-- ---- numbers

no_feed : (x : ℕ) (xs : List ℕ) → (x ≡ 10 → ⊥) → IsRecord xs → IsRecord (x ∷ xs)
no_feed x xs other h = or_from (x == 10) (list_any (λ b. b == 10) xs) (ne_eqb x 10 other) h

glyph : (d : ℕ) (xs : List ℕ) → IsRecord xs → IsRecord (digit_glyph false d ∷ xs)
glyph d xs h = cases (nat_lt d 10)
    (λ e. rw e (no_feed (48 + d) xs (λ is. omega arith) h))
    (λ e. rw e (no_feed (87 + d) xs (λ is. omega arith) h))

onto : (k n : ℕ) (acc : List ℕ) → IsRecord acc → IsRecord (digits_onto k 10 false n acc)
onto zero n acc h = h
onto (suc k) n acc h = cases (n / 10 == 0)
    (λ e. rw e (glyph (n % 10) acc h))
    (λ e. rw e (onto k (n / 10) (digit_glyph false (n % 10) ∷ acc) (glyph (n % 10) acc h)))

decimal_is_record : (n : ℕ) → IsRecord (decimal n)
unfolding digits
decimal_is_record n = onto 64 n [] refl

signed_is_record : (z : ℤ) → IsRecord (signed_decimal z)
signed_is_record (pos n) = decimal_is_record n
signed_is_record (negsuc n) = no_feed 45 (decimal (suc n)) (λ is. cc) (decimal_is_record (suc n))

-- ---- steps

onto_first_is : (b : ℕ) (ps : List (List ℕ)) → (b == 10) ≡ false → Records ps → Records (onto_first b ps)
onto_first_is b [] e h = (or_from (b == 10) false e refl, tt)
onto_first_is b (p ∷ ps) e h = (or_from (b == 10) (list_any (λ x. x == 10) p) e h.0, h.1)

pieces : (q : ℕ → Bool) (r : List ℕ) → IsRecord r → Records (slice_split q r)
pieces q [] h = (refl, tt)
pieces q (b ∷ r) h =
    let parts = or_parts (b == 10) (list_any (λ x. x == 10) r) h in
    let rest = pieces q r parts.1 in
    cases (q b) (λ e. rw e (refl, rest)) (λ e. rw e (onto_first_is b (slice_split q r) parts.0 rest))

step_is : (s : Step) (r : List ℕ) → IsRecord r → Records (step_rows s r)
step_is Tokenise r h =
    mapped (λ w. w ++ 9 ∷ 49 ∷ []) (λ w k. joined_is_record w (49 ∷ []) k refl) (words r)
    (filtered (λ w. nat_lt 0 (length w)) (slice_split (λ b. b == 32 || b == 9) r) (pieces (λ b. b == 32 || b == 9) r h))
step_is (Filter i test) r h = cases (holds test r i) (λ e. rw e (h, tt)) (λ e. rw e tt)
step_is (Project cols) r h = (key_is_record r cols h, tt)

run_is : (steps : List Step) (rs : List (List ℕ)) → Records rs → Records (run steps rs)
run_is [] rs h = h
run_is (s ∷ steps) rs h = run_is steps (flat_map (step_rows s) rs) (flattened (step_rows s) (step_is s) rs h)

-- ---- heads

distinct_is : (ks : List (List ℕ)) → Records ks → Records (distinct ks)
distinct_is [] h = tt
distinct_is (k ∷ ks) h = cases (is_among ks k) (λ e. rw e (distinct_is ks h.1)) (λ e. rw e (h.0, distinct_is ks h.1))

by_key : (says : List (List ℕ) → List ℕ → List ℕ) → ((those : List (List ℕ)) (k : List ℕ) → IsRecord k → IsRecord (says those k)) → (cols : List ℕ) (rs : List (List ℕ)) → Records rs → Records (rows_by_key says cols rs)
by_key says is cols rs h = mapped (λ k. says (filter (has_key cols k) rs) k) (λ k b. is (filter (has_key cols k) rs) k b) (distinct (map (key cols) rs)) (distinct_is (map (key cols) rs) (mapped (key cols) (λ r b. key_is_record r cols b) rs h))

joined : (cols partner_cols : List ℕ) (ls rs : List (List ℕ)) → Records ls → Records rs → Records (join_rows cols partner_cols ls rs)
joined cols partner_cols ls rs h k = flattened (λ l. map (beside l) (filter (has_key partner_cols (key cols l)) rs))
    (λ l b. mapped (beside l) (λ r c. joined_is_record l r b c) (filter (has_key partner_cols (key cols l)) rs) (filtered (has_key partner_cols (key cols l)) rs k)) ls h

record Read (i : HeadInputs) : Type 0 where
  primary : Records i.primary
  partner : Records i.partner
  side : Records i.side

head_is : (head : Head) (i : HeadInputs) → Read i → Records (head_rows head i)
head_is Each i h = h.primary
head_is (Sum column) i h = by_key (λ those k. beside k (signed_decimal (sum_of column those))) (λ those k b. joined_is_record k _ b (signed_is_record (sum_of column those))) i.columns (filter (is_good column) i.primary) (filtered (is_good column) i.primary h.primary)
head_is Count i h = by_key (λ those k. beside k (decimal (length those))) (λ those k b. joined_is_record k _ b (decimal_is_record (length those))) i.columns i.primary h.primary
head_is Distinct i h = by_key (λ those k. k) (λ those k b. b) i.columns i.primary h.primary
head_is (Join left) i h = joined i.columns i.partner_columns i.primary i.partner h.primary h.partner
head_is (Lookup key_cols side_cols) i h = joined key_cols side_cols i.primary i.side h.primary h.side
head_is (KeepIn key_cols side_cols) i h = filtered (λ l. is_among (map (key side_cols) i.side) (key key_cols l)) i.primary h.primary
head_is (DropIn key_cols side_cols) i h = filtered (λ l. not (is_among (map (key side_cols) i.side) (key key_cols l))) i.primary h.primary

-- ---- vertices

file_is : (found : Option (List ℕ × List ℕ)) → Records (option_map_or (λ file. lines file.1) found [])
file_is None = tt
file_is (Some file) = lines_are_records file.1

source_is : (job : Job) (o : Option (List ℕ)) → Records (option_map_or (lines_of job) o [])
source_is job None = tt
source_is job (Some name) = file_is (find (λ file. bytes_eq file.0 name) job.sources)

read_is : (job : Job) (v : ℕ) (s : VertexSpec) (known : ℕ → List (List ℕ)) → ((u : ℕ) → Records (known u)) → Read (inputs_of job v s known)
read_is job v s known is = record {
  primary = appended (option_map_or (lines_of job) s.source []) _ (source_is job s.source) (gathered (λ e. known (from job.plan e)) (λ e. is (from job.plan e)) _);
  partner = gathered (λ e. known (from job.plan e)) (λ e. is (from job.plan e)) _;
  side = gathered (λ e. known (from job.plan e)) (λ e. is (from job.plan e)) _;
}

vertex_is : (job : Job) (v : ℕ) (known : ℕ → List (List ℕ)) → ((u : ℕ) → Records (known u)) → (o : Option VertexSpec) → Records (option_map_or (λ s. output s.head s.steps (inputs_of job v s known)) o [])
vertex_is job v known is None = tt
vertex_is job v known is (Some s) = sorted (run s.steps (head_rows s.head (inputs_of job v s known))) (run_is s.steps (head_rows s.head (inputs_of job v s known)) (head_is s.head (inputs_of job v s known) (read_is job v s known is)))

values_are : (job : Job) (n v : ℕ) → Records (by_sources [] (value_from job) n v)
values_are job zero v = tt
values_are job (suc n) v = vertex_is job v (by_sources [] (value_from job) n) (values_are job n) (slice_get job.plan.vertices v)

pub lines_of_sink : (job : Job) (v : ℕ) → lines (sink_text job v) ≡ value job v
unfolding value
lines_of_sink job v = lines-text (value job v) (values_are job (length job.plan.vertices) v)
