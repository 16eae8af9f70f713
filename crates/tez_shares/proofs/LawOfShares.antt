-- The tasks of a vertex make together what the vertex makes.
--     HeadFits            what a valid plan says of the edges into a vertex, by its head
--     shares_of           one vertex, where the law holds of its sources
use Rattle.std.proofs.Common.{◌≡◌, ℕ, ◌<◌, ◌%◌, Bool, true, false, not, ◌&&◌, nat_lt, nat_le, List, [], ◌∷◌, ◌++◌, length, map, refl, sym, ap, ◌∙◌, count_by, filter, flat_map, Option, None, decimal}
use Rattle.std.specs.List.{AllByRecursion, list_any, range_with_len}
use Rattle.std.specs.Option.{option_map_or}
use Rattle.std.specs.Fmt.{signed_decimal}
use Rattle.tez_record.specs.Field.{key}
use Rattle.tez_record.specs.Bag.{sort}
use Rattle.tez_record.proofs.PartsLemmas.{parts_whole}
use Rattle.tez_plan.specs.declared.parts.VertexSpec.{VertexSpec}
use Rattle.tez_plan.specs.declared.parts.EdgeSpec.{EdgeSpec}
use Rattle.tez_plan.specs.declared.parts.Head.{Head}
use Rattle.tez_plan.specs.declared.parts.Head.TheVariants.{Each, Sum, Count, Distinct, Join, Lookup, KeepIn, DropIn}
use Rattle.tez_plan.specs.declared.parts.Movement.{Movement}
use Rattle.tez_plan.specs.declared.parts.Movement.TheVariants.{OneToOne, Broadcast, ScatterGather}
use Rattle.tez_plan.specs.Dag.{Dag, from, edges_into, is_broadcast, is_scatter_gather, goes_by_key, goes_to_all, goes_one_to_one, columns, keys_of, tasks_of}
use Rattle.tez_plan.proofs.OrderLemmas.{all_map, all_filter}
use Rattle.tez_partition.specs.Partition.{hash}
use Rattle.tez_shrink.specs.Formulas.{tasks_of as tasks_for, first_of, end_of}
use Rattle.tez_values.specs.Heads.{HeadInputs, beside, is_among, has_key, head_rows, rows_by_key, count_rows, sum_rows, sum_of, is_good, distinct_rows, join_rows, keep_rows, drop_rows}
use Rattle.tez_values.specs.Program.{output, is_bad}
use Rattle.tez_meaning.specs.Value.{inputs, is_left, columns_of}
use Rattle.tez_shares.specs.Shares.{Config, in_share, share_over}
use Rattle.tez_values.proofs.BadLemmas.{is_bad-parts}
use Rattle.tez_values.proofs.HeadLemmas.{rows_by_key-parts, join_rows-parts}
use Rattle.tez_values.proofs.StepLemmas.{run-parts}
use Rattle.tez_meaning.proofs.ValueLemmas.{flat_map-all}
use Rattle.tez_shares.proofs.ShareLemmas.{one_share}
use Rattle.tez_shares.proofs.EdgeLemmas.{primary_whole, by_record, by_filter, filter-flat_map, filter-filter}

-- the key is in the share of task t
abbrev pub key_in_share : ℕ → ℕ → ℕ → List ℕ → Bool
key_in_share parts base t k = nat_le (first_of base t) (hash k % parts) && nat_lt (hash k % parts) (end_of parts base t)

-- each edge is a scatter-gather by these columns
abbrev pub AreByKey : List ℕ → List EdgeSpec → Type 0
AreByKey cols es = AllByRecursion (λ e. (is_scatter_gather e ≡ true) × (keys_of e ≡ cols)) es

-- what the head asks of a vertex without a source
abbrev pub HeadFits : Head → Option (List ℕ) → List EdgeSpec → List EdgeSpec → Type 0
HeadFits Each source left right = Unit {0}
HeadFits (Sum value) source left right = (source ≡ None) × AreByKey (columns_of left) left
HeadFits Count source left right = (source ≡ None) × AreByKey (columns_of left) left
HeadFits Distinct source left right = (source ≡ None) × AreByKey (columns_of left) left
HeadFits (Join name) source left right = (source ≡ None) × AreByKey (columns_of left) left × AreByKey (columns_of right) right
HeadFits (Lookup key side_key) source left right = Unit {0}
HeadFits (KeepIn key side_key) source left right = Unit {0}
HeadFits (DropIn key side_key) source left right = Unit {0}

-- the head compares keys of its scatter-gather edges
abbrev pub HasKey : Head → Type 0
HasKey Each = ⊥
HasKey (Sum value) = Unit {0}
HasKey Count = Unit {0}
HasKey Distinct = Unit {0}
HasKey (Join left) = Unit {0}
HasKey (Lookup key side_key) = ⊥
HasKey (KeepIn key side_key) = ⊥
HasKey (DropIn key side_key) = ⊥

share_over-key : (m : Movement) (cols : List ℕ) (parts : ℕ) (c : Config) (t : ℕ) (whole : List (List ℕ)) (made : ℕ → List (List ℕ)) → goes_by_key m ≡ true → columns m ≡ cols → share_over m parts c t whole made ≡ filter (in_share cols parts c.base t) whole
share_over-key OneToOne cols parts c t whole made h e = cc
share_over-key Broadcast cols parts c t whole made h e = cc
share_over-key (ScatterGather keys) cols parts c t whole made h e = ap (λ k. filter (in_share k parts c.base t) whole) e

share_over-all : (m : Movement) (parts : ℕ) (c : Config) (t : ℕ) (whole : List (List ℕ)) (made : ℕ → List (List ℕ)) → goes_to_all m ≡ true → share_over m parts c t whole made ≡ whole
share_over-all OneToOne parts c t whole made h = cc
share_over-all Broadcast parts c t whole made h = refl
share_over-all (ScatterGather keys) parts c t whole made h = cc

-- over one edge that is no broadcast
pub share_over-whole : (m : Movement) (parts : ℕ) (c : Config) (whole : List (List ℕ)) (made : ℕ → List (List ℕ)) → goes_to_all m ≡ false
    → (goes_one_to_one m ≡ true → sort (flat_map made (range_with_len 0 c.tasks)) ≡ sort whole)
    → (goes_by_key m ≡ true → (0 < c.base) × (0 < parts) × (c.tasks ≡ tasks_for parts c.base))
    → sort (flat_map (λ t. share_over m parts c t whole made) (range_with_len 0 c.tasks)) ≡ sort whole
share_over-whole OneToOne parts c whole made h one key = one refl
share_over-whole Broadcast parts c whole made h one key = cc
share_over-whole (ScatterGather cols) parts c whole made h one by =
    let fits = by refl in
    ap (λ n. sort (flat_map (λ t. filter (in_share cols parts c.base t) whole) (range_with_len 0 n))) fits.2
    ∙ parts_whole (in_share cols parts c.base) (range_with_len 0 (tasks_for parts c.base)) whole (λ r. one_share cols parts c.base (key cols r) fits.0 fits.1)

-- What a vertex reads, and what its tasks read: a source's records and those of each edge, whole and by tasks.
module _ (p : Dag) (v : ℕ) (s : VertexSpec) (cfg : Config) (of_source : List ℕ → List (List ℕ)) (of_source_task : ℕ → List ℕ → List (List ℕ)) (val : ℕ → List (List ℕ)) (made : ℕ → ℕ → List (List ℕ)) where
  abbrev share : ℕ → EdgeSpec → List (List ℕ)
  share t e = share_over e.movement (tasks_of p v) cfg t (val (from p e)) (made (from p e))

  abbrev of_edge : EdgeSpec → List (List ℕ)
  of_edge e = val (from p e)

  abbrev whole : HeadInputs
  whole = inputs p v s of_source of_edge

  abbrev part : ℕ → HeadInputs
  part t = inputs p v s (of_source_task t) (share t)

  abbrev ahead : List EdgeSpec
  ahead = filter (λ e. not (is_broadcast e)) (edges_into p v)

  abbrev left : List EdgeSpec
  left = filter (is_left s.head) ahead

  abbrev right : List EdgeSpec
  right = filter (λ e. not (is_left s.head e)) ahead

  all_true : (es : List EdgeSpec) → AllByRecursion (λ e. Unit {0}) es
  all_true [] = tt
  all_true (e ∷ es) = (tt, all_true es)

  -- the side is the same for each task
  side_same : (t : ℕ) → (part t).side ≡ whole.side
  side_same t = flat_map-all (share t) of_edge (filter is_broadcast (edges_into p v))
      (all_filter (λ e. Unit {0}) (λ e. share t e ≡ of_edge e) is_broadcast (λ e b u. share_over-all e.movement (tasks_of p v) cfg t (val (from p e)) (made (from p e)) b) (edges_into p v) (all_true (edges_into p v)))

  -- over edges by the same columns a task gets the records whose keys are in its share
  by_key : (cols : List ℕ) (t : ℕ) (es : List EdgeSpec) → AreByKey cols es → flat_map (share t) es ≡ filter (in_share cols (tasks_of p v) cfg.base t) (flat_map of_edge es)
  by_key cols t es all =
      flat_map-all (share t) (λ e. filter (in_share cols (tasks_of p v) cfg.base t) (of_edge e)) es
      (all_map (λ e. (is_scatter_gather e ≡ true) × (keys_of e ≡ cols)) (λ e. share t e ≡ filter (in_share cols (tasks_of p v) cfg.base t) (of_edge e))
      (λ e h. share_over-key e.movement cols (tasks_of p v) cfg t (val (from p e)) (made (from p e)) h.0 h.1) es all)
      ∙ sym (filter-flat_map (in_share cols (tasks_of p v) cfg.base t) of_edge es)

  module _ (source_whole : sort (flat_map (λ t. option_map_or (of_source_task t) s.source []) (range_with_len 0 cfg.tasks)) ≡ sort (option_map_or of_source s.source []))
      (ahead_whole : AllByRecursion (λ e. sort (flat_map (λ t. share t e) (range_with_len 0 cfg.tasks)) ≡ sort (of_edge e)) ahead) where
    all_primary : sort (flat_map (λ t. (part t).primary) (range_with_len 0 cfg.tasks)) ≡ sort whole.primary
    all_primary = primary_whole share of_edge (range_with_len 0 cfg.tasks) (λ t. option_map_or (of_source_task t) s.source []) (option_map_or of_source s.source []) left source_whole
        (all_filter (λ e. sort (flat_map (λ t. share t e) (range_with_len 0 cfg.tasks)) ≡ sort (of_edge e)) (λ e. sort (flat_map (λ t. share t e) (range_with_len 0 cfg.tasks)) ≡ sort (of_edge e)) (is_left s.head) (λ e k h. h) ahead ahead_whole)

    primary_key : s.source ≡ None → AreByKey (columns_of left) left → (t : ℕ) → (part t).primary ≡ filter (in_share (columns_of left) (tasks_of p v) cfg.base t) whole.primary
    primary_key e keyed t =
        ap (λ o. option_map_or (of_source_task t) o [] ++ flat_map (share t) left) e
        ∙ by_key (columns_of left) t left keyed
        ∙ ap (λ o. filter (in_share (columns_of left) (tasks_of p v) cfg.base t) (option_map_or of_source o [] ++ flat_map of_edge left)) (sym e)

    -- the head makes of the parts, together, what it makes of the whole
    head_whole : (h : Head) → HeadFits h s.source left right → (HasKey h → (k : List ℕ) → count_by (λ t. key_in_share (tasks_of p v) cfg.base t k) (range_with_len 0 cfg.tasks) ≡ 1)
        → sort (flat_map (λ t. head_rows h (part t)) (range_with_len 0 cfg.tasks)) ≡ sort (head_rows h whole)
    head_whole Each fits one = all_primary
    head_whole (Sum value) fits one =
        let cols = columns_of left in
        let says = λ (those : List (List ℕ)) (k : List ℕ). beside k (signed_decimal (sum_of value those)) in
        ap (λ f. sort (flat_map f (range_with_len 0 cfg.tasks)))
        (λ i t. (ap (sum_rows cols value) (primary_key fits.0 fits.1 t)
        ∙ ap (rows_by_key says cols) (filter-filter (is_good value) (in_share cols (tasks_of p v) cfg.base t) whole.primary)) i)
        ∙ rows_by_key-parts says cols (key_in_share (tasks_of p v) cfg.base) (range_with_len 0 cfg.tasks) (filter (is_good value) whole.primary) (one tt)
    head_whole Count fits one =
        let cols = columns_of left in
        ap (λ f. sort (flat_map f (range_with_len 0 cfg.tasks))) (λ i t. count_rows cols (primary_key fits.0 fits.1 t i))
        ∙ rows_by_key-parts (λ those k. beside k (decimal (length those))) cols (key_in_share (tasks_of p v) cfg.base) (range_with_len 0 cfg.tasks) whole.primary (one tt)
    head_whole Distinct fits one =
        let cols = columns_of left in
        ap (λ f. sort (flat_map f (range_with_len 0 cfg.tasks))) (λ i t. distinct_rows cols (primary_key fits.0 fits.1 t i))
        ∙ rows_by_key-parts (λ those k. k) cols (key_in_share (tasks_of p v) cfg.base) (range_with_len 0 cfg.tasks) whole.primary (one tt)
    head_whole (Join name) fits one =
        ap (λ f. sort (flat_map f (range_with_len 0 cfg.tasks)))
        (λ i t. join_rows (columns_of left) (columns_of right) (primary_key fits.0 fits.1 t i) (by_key (columns_of right) t right fits.2 i))
        ∙ join_rows-parts (columns_of left) (columns_of right) (key_in_share (tasks_of p v) cfg.base) (range_with_len 0 cfg.tasks) whole.primary whole.partner (one tt)
    head_whole (Lookup key_cols side_cols) fits one =
        ap (λ f. sort (flat_map f (range_with_len 0 cfg.tasks))) (λ i t. join_rows key_cols side_cols (part t).primary (side_same t i))
        ∙ by_record (λ l. map (beside l) (filter (has_key side_cols (key key_cols l)) whole.side)) (λ t. (part t).primary) (range_with_len 0 cfg.tasks) whole.primary all_primary
    head_whole (KeepIn key_cols side_cols) fits one =
        ap (λ f. sort (flat_map f (range_with_len 0 cfg.tasks))) (λ i t. keep_rows key_cols side_cols (part t).primary (side_same t i))
        ∙ by_filter (λ l. is_among (map (key side_cols) whole.side) (key key_cols l)) (λ t. (part t).primary) (range_with_len 0 cfg.tasks) whole.primary all_primary
    head_whole (DropIn key_cols side_cols) fits one =
        ap (λ f. sort (flat_map f (range_with_len 0 cfg.tasks))) (λ i t. drop_rows key_cols side_cols (part t).primary (side_same t i))
        ∙ by_filter (λ l. not (is_among (map (key side_cols) whole.side) (key key_cols l))) (λ t. (part t).primary) (range_with_len 0 cfg.tasks) whole.primary all_primary

    pub program_whole : HeadFits s.head s.source left right → (HasKey s.head → (k : List ℕ) → count_by (λ t. key_in_share (tasks_of p v) cfg.base t k) (range_with_len 0 cfg.tasks) ≡ 1)
        → sort (flat_map (λ t. output s.head s.steps (part t)) (range_with_len 0 cfg.tasks)) ≡ output s.head s.steps whole
    program_whole fits one = run-parts s.steps (λ t. head_rows s.head (part t)) (range_with_len 0 cfg.tasks) (head_rows s.head whole) (head_whole s.head fits one)

    pub bad_whole : HeadFits s.head s.source left right → (HasKey s.head → (k : List ℕ) → count_by (λ t. key_in_share (tasks_of p v) cfg.base t k) (range_with_len 0 cfg.tasks) ≡ 1)
        → list_any (λ t. is_bad s.head s.steps (part t)) (range_with_len 0 cfg.tasks) ≡ is_bad s.head s.steps whole
    bad_whole fits one = is_bad-parts s.head s.steps part whole (range_with_len 0 cfg.tasks) all_primary (head_whole s.head fits one)
