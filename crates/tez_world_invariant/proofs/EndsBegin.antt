-- The first master of a job.
--     begun_view        its parts
--     begun_holds       what holds of them
--     begun_store, opened_stands      the store
--     none_named        no sink of the job was published, where none of their names was
use Rattle.std.specs.Prelude.{◌≡◌, ℕ, suc, zero, ◌+◌, Bool, true, false, if◌then◌else◌, List, [], ◌∷◌, map, length, replicate, slice_get, Option, Some, None, refl}
use Rattle.std.specs.List.{AllByRecursion, flat_map}
use Rattle.std.specs.Option.{option_map_or}
use Rattle.std.specs.Str.{bytes_eq}
use Rattle.std.proofs.Common.{inl, inr, ap, sym, ◌∙◌, arith, subst}
use Rattle.std.proofs.lemmas.List.{append-nil}
use Rattle.tez_ids.specs.declared.Epoch.{Epoch}
use Rattle.tez_ids.specs.Same.{task}
use Rattle.tez_lists.specs.Numbers.{In, numbers_from}
use Rattle.tez_ports.specs.Content.{Named, Store, bytes_of}
use Rattle.tez_plan.specs.Dag.{Dag, tasks_of as planned}
use Rattle.tez_plan.specs.Faults.{IsValid}
use Rattle.tez_plan.specs.Ranges.{IsInRanges}
use Rattle.tez_conf.specs.declared.values.ConfValues.{ConfValues}
use Rattle.tez_conf.specs.Ranges.{IsInRange}
use Rattle.tez_meaning.specs.Jobs.{Job}
use Rattle.tez_meaning.specs.Published.{published}
use Rattle.tez_events.specs.declared.Entry.TheVariants.{Opened}
use Rattle.tez_history.specs.Shape.{vertices, sinks}
use Rattle.tez_history.specs.History.{Past, is_readied}
use Rattle.tez_history.specs.Follows.{IsMade}
use Rattle.tez_laws.specs.Laws.{Sound, AreInOrder}
use Rattle.tez_laws.proofs.Feeding.{inputs_inside}
use Rattle.tez_pool.specs.Table.{new_pool}
use Rattle.tez_pool_view.proofs.Holding.{new_view}
use Rattle.tez_router_view.proofs.Told.{start_view as router_started}
use Rattle.tez_schedule_view.proofs.Beginning.{start_view as schedule_started}
use Rattle.tez_master_view.specs.View.{master_view, location_view, locations_view}
use Rattle.tez_master_view.specs.Laws.{Goes}
use Rattle.tez_master_view.proofs.Parts.{Rest, same_parts, same_rest}
use Rattle.tez_master_model.specs.Fresh.{fresh, no_locations}
use Rattle.tez_vertex_view.specs.View.{vertices_view}
use Rattle.tez_pool_view.specs.View.{pool_view}
use Rattle.tez_router_view.specs.View.{router_view}
use Rattle.tez_schedule_view.specs.View.{schedule_view}
use Rattle.tez_work_view.proofs.Seating.{seats_new}
use Rattle.tez_sinks.specs.Sinks.{sink_of, sink_name, sink_entry, HasNoSink}
use Rattle.tez_sinks.specs.Well.{IsWell}
use Rattle.tez_sinks.proofs.Names.{has_name, listed_sink, entries_are}
use Rattle.tez_sinks.proofs.Stores.{opened_store}
use Rattle.tez_sinks.proofs.Wells.{well_begins}
use Rattle.tez_world_invariant.specs.Keeping.{Holds}
use Rattle.tez_world_invariant.specs.Store.{StoreStands}
use Rattle.tez_world_invariant.specs.Begin.{first_past, first_parts}

-- ---- lists by number

row-none : {Y : Type 0} (f : ℕ → Option Y) (a n : ℕ) → ((i : ℕ) → f i ≡ None) → map f (numbers_from a n) ≡ replicate n None
row-none f a zero h = refl
row-none f a (suc n) h = let here = h a in let rest = row-none f (suc a) n h in cc

all-false : (a n : ℕ) → map (λ v. false) (numbers_from a n) ≡ replicate n false
all-false a zero = refl
all-false a (suc n) = ap (λ xs. false ∷ xs) (all-false (suc a) n)

by-element : {X Y : Type 0} (f : ℕ → Y) (h : X → Y) (n : ℕ) (xs : List X) → ((k : ℕ) (x : X) → slice_get xs k ≡ Some x → f (n + k) ≡ h x) → map f (numbers_from n (length xs)) ≡ map h xs
by-element f h n [] s = refl
by-element f h n (x ∷ xs) s =
    let zero_more : n + 0 ≡ n = omega arith in
    let here : f n ≡ h x = subst (λ m. f m ≡ h x) zero_more (s 0 x refl) in
    let rest : map f (numbers_from (suc n) (length xs)) ≡ map h xs = by-element f h (suc n) xs (λ k y g. let more : n + suc k ≡ suc n + k = omega arith in subst (λ m. f m ≡ h y) more (s (suc k) y g)) in
    ap (λ y. y ∷ map f (numbers_from (suc n) (length xs))) here ∙ ap (λ ys. h x ∷ ys) rest

-- ---- the master

no_location : (g : Dag) (c : ConfValues) → locations_view g c first_past ≡ map no_locations g.vertices
no_location g c =
    by-element (λ v. map (λ i. location_view c first_past (task v i)) (numbers_from 0 (planned g v))) no_locations 0 g.vertices
    (λ k x h. row-none (λ i. location_view c first_past (task (0 + k) i)) 0 (planned g (0 + k)) (λ i. refl) ∙ (let same : 0 + k ≡ k = omega arith in ap (λ m. replicate (planned g m) None) same) ∙ ap (λ o. replicate (option_map_or (λ s. s.tasks) o 0) None) h)

pub begun_view : (g : Dag) (c : ConfValues) → fresh g c 1 (new_pool c.nodes c.per_node c.reuse) ≡ master_view g c first_past
begun_view g c =
    let n = length g.vertices in
    let rest : List Bool → Rest = λ asked. (1, asked, 0, false, false, false, true) in
    same_parts g c (rest (replicate n false)) refl (sym (new_view c)) (sym (router_started g [] (Opened (record { 0 = 1 })) refl)) (sym (schedule_started g c [] (Opened (record { 0 = 1 })) refl)) (sym (no_location g c)) (sym (all-false 0 n))
    ∙ same_rest g c (vertices_view g c first_past) (pool_view c first_past) (router_view g first_past) (schedule_view g c first_past) (locations_view g c first_past) (map (λ v. is_readied v first_past) (vertices g)) (ap rest (sym (all-false 0 n)))

-- ---- what holds of it

begun_made : (g : Dag) (c : ConfValues) → IsMade g c first_past
begun_made g c = ((refl, omega arith), tt)

begun_order : (vs : List ℕ) → AreInOrder (flat_map (λ v. []) vs)
begun_order [] = tt
begun_order (v ∷ vs) = begun_order vs

begun_sound : (g : Dag) (c : ConfValues) → IsInRange c → Sound g c first_past
begun_sound g c range = record {
  made = begun_made g c;
  settled = refl;
  goes_on = λ t l w. refl;
  few = λ t. range.some_failed;
  live_listed = λ t a h. cc;
  winner_listed = λ t a h. cc;
  in_order = begun_order (vertices g);
  inside = inputs_inside g first_past;
}

begun_goes : (g : Dag) (c : ConfValues) → IsValid g → IsInRanges g → IsInRange c → Goes g c first_past
begun_goes g c valid ranges range = record {
  valid = valid;
  ranges = ranges;
  conf = range;
  sound = begun_sound g c range;
  fitted = record { tasks = λ v s h. cc; step = λ v u s f h. cc };
  plan = λ v. omega arith;
  whole = record { committing = λ up h. cc; readied = λ v r h. cc };
  failed = λ up t no. refl;
  tells = record { alive = λ a k. absurd k; unknown = λ a k e. refl };
}

begun_well : (job : Job) (c : ConfValues) → IsValid job.plan → IsInRanges job.plan → IsWell job c first_past
begun_well job c valid ranges =
    well_begins job c first_past valid ranges (begun_made job.plan c) (record { committing = λ up h. cc; readied = λ v r h. cc }) (refl, tt) (refl, tt) refl

pub begun_holds : (job : Job) (c : ConfValues) (texts sums : List (ℕ × ℕ)) → IsValid job.plan → IsInRanges job.plan → IsInRange c → length texts ≡ length job.plan.vertices → Holds job c (first_parts job c texts sums) first_past
begun_holds job c texts sums valid ranges range rows = record {
  goes = begun_goes job.plan c valid ranges range;
  well = begun_well job c valid ranges;
  up = refl;
  none_kept = (refl, tt);
  none_over = (refl, tt);
  none_stopped = (refl, tt);
  short = omega arith;
  master = begun_view job.plan c;
  seats = sym (seats_new job c);
  shelves = λ b. refl;
  good = λ t w h. cc;
  texts = λ v s r. cc;
  rows = rows;
  sums = λ h. cc;
}

-- ---- the store

pub begun_store : (job : Job) (s : Store) → StoreStands job s.publications [] s
begun_store job s = record {
  right = record { staged = λ p t w name k h. cc; called = λ t w name k h. cc; readied = λ p v name k h n. cc; publications = sym (append-nil s.publications) };
  clear = tt;
}

pub opened_stands : (job : Job) (past : Past) (e : Epoch) (before : Named) (s : Store) → HasNoSink job before → StoreStands job before past s → StoreStands job before (Opened e ∷ past) s
opened_stands job past e before s none k = record { right = opened_store job past e before s k.right.publications; clear = none }

none_of : (name : List ℕ) (entries : Named) → bytes_of name entries ≡ None → published name entries ≡ []
none_of name [] h = refl
none_of name (e ∷ es) h = by (bytes_eq e.0 name) h (none_of name es) where
  by : (b : Bool) → (if b then Some e.1 else bytes_of name es) ≡ None → (bytes_of name es ≡ None → published name es ≡ []) → (if b then e ∷ published name es else published name es) ≡ []
  by true k rest = cc
  by false k rest = rest k

all_entries : {X Y : Type 0} (P : Y → Type 0) (f : X → Y) (xs : List X) → ((x : X) → In x xs → P (f x)) → AllByRecursion P (map f xs)
all_entries P f [] each = tt
all_entries P f (x ∷ xs) each = (each x (inl refl), all_entries P f xs (λ y h. each y (inr h)))

pub none_named : (job : Job) (before : Named) → ((v : ℕ) (name : List ℕ) → sink_of job.plan v ≡ Some name → bytes_of name before ≡ None) → HasNoSink job before
none_named job before none =
    subst (AllByRecursion (λ sink. published sink.0 before ≡ [])) (entries_are job)
    (all_entries (λ sink. published sink.0 before ≡ []) (sink_entry job) (sinks job.plan)
    (λ v h. none_of (sink_name job.plan v) before (none v (sink_name job.plan v) (has_name job.plan v (listed_sink job.plan v h).1))))
