-- The walk over a file has no fault but those of kind and range.
use Rattle.std.proofs.Common.{◌≡◌, ◌≢◌, ℕ, ◌+◌, ◌*◌, nat_le, subst, ℤ, pos, negsuc, Bool, true, false, cond, List, [], ◌∷◌, Option, Some, None, codes, Ok, Err, refl, ap, sym, ◌∙◌}
use Rattle.std.specs.Prelude.{⊤, is_some}
use Rattle.std.specs.Map.{lookup}
use Rattle.std.specs.Option.{option_map_or}
use Rattle.std.specs.Str.{bytes_eq}
use Rattle.serde_json.specs.Data.{Data, Items, no_items, item}
use Rattle.serde_json.specs.Events.{items_len}
use Rattle.serde_json.specs.Find.{get, as_str, as_bool, as_array, as_object}
use Rattle.tez_conf.specs.declared.values.ConfValues.{ConfValues}
use Rattle.tez_plan.specs.declared.parts.VertexSpec.{VertexSpec}
use Rattle.tez_plan.specs.declared.parts.Head.{Head}
use Rattle.tez_plan.specs.declared.parts.Head.TheVariants.{Each, Sum, Count, Distinct, Join}
use Rattle.tez_plan.specs.declared.parts.Step.TheVariants.{Tokenise, Filter, Project}
use Rattle.tez_plan.specs.declared.parts.Movement.TheVariants.{OneToOne, Broadcast}
use Rattle.tez_plan.specs.declared.parts.Movement.{Movement}
use Rattle.tez_plan.specs.declared.parts.Test.{Test}
use Rattle.tez_plan.specs.Ranges.{is_within, is_number, is_name, is_file, is_sink, most_tasks}
use Rattle.tez_dag_json.specs.Answers.{Answer, ◌>>=◌, ◌>>◌}
use Rattle.tez_dag_json.specs.Paths.{Path, at_key, at_place, shape, out_of_range}
use Rattle.tez_dag_json.specs.Kinds.{Reader, text, word, text_of, integer, count_within, whole, number, flag, each, list, list_within, an_object, required, defaulted, optional, absent, chosen, members_among, no_others}
use Rattle.tez_dag_json.specs.Form
use Rattle.tez_dag_json.specs.Due.{IsOfForm}
use Rattle.tez_dag_json.specs.declared.fault.DagFault.{DagFault}
use Rattle.tez_dag_json.specs.declared.fault.DagFault.TheVariants.{NotJson, Shape, OutOfRange, Plan, NoMemory}

abbrev pub is_walk : DagFault → Bool
is_walk NotJson = false
is_walk (Shape path) = true
is_walk (OutOfRange path) = true
is_walk (Plan fault) = false
is_walk NoMemory = false

abbrev pub walks : {X : Type 0} → Answer X → Bool
walks (Ok x) = true
walks (Err e) = is_walk e

-- each value is read so
abbrev pub Walks : {X : Type 0} → Reader X → Type 0
Walks read = (path : Path) (d : Data) → walks (read path d) ≡ true

bind : {X Y : Type 0} (m : Answer X) (next : X → Answer Y) → walks m ≡ true → ((x : X) → walks (next x) ≡ true) → walks (m >>= next) ≡ true
bind (Ok x) next first rest = rest x
bind (Err e) next first rest = first

then_next : {X Y : Type 0} (m : Answer X) (next : Answer Y) → walks m ≡ true → walks next ≡ true → walks (m >> next) ≡ true
then_next (Ok x) next first rest = rest
then_next (Err e) next first rest = first

at_option : {V X : Type 0} (go : V → Answer X) (o : Option V) (none : Answer X) → ((v : V) → walks (go v) ≡ true) → walks none ≡ true → walks (option_map_or go o none) ≡ true
at_option go None none some there = there
at_option go (Some v) none some there = some v

at_test : {X : Type 0} (b : Bool) (yes_case no_case : Answer X) → walks yes_case ≡ true → walks no_case ≡ true → walks (cond b yes_case no_case) ≡ true
at_test true x y hx hy = hx
at_test false x y hx hy = hy

-- ---- kinds

text_walks : Walks text
text_walks path d = at_option Ok (as_str d) (shape path) (λ s. refl) refl

word_walks : (fits : List ℕ → Bool) → Walks (word fits)
word_walks fits path d = bind (text path d) _ (text_walks path d) (λ s. at_test (fits s) (Ok s) (shape path) refl refl)

text_of_walks : (most : ℕ) → Walks (text_of most)
text_of_walks most path d = bind (text path d) _ (text_walks path d) (λ s. at_test _ (Ok s) (out_of_range path) refl refl)

count_walks : (low high : ℕ) (path : Path) (z : ℤ) → walks (count_within low high path z) ≡ true
count_walks low high path (pos n) = at_test (is_within low high n) (Ok n) (out_of_range path) refl refl
count_walks low high path (negsuc n) = refl

whole_walks : (low high : ℕ) → Walks (whole low high)
whole_walks low high path d = at_option (count_within low high path) (integer d) (shape path) (count_walks low high path) refl

number_walks : Walks number
number_walks path d = at_option _ (integer d) (shape path) (λ z. at_test (is_number z) (Ok z) (out_of_range path) refl refl) refl

flag_walks : Walks flag
flag_walks path d = at_option Ok (as_bool d) (shape path) (λ b. refl) refl

each_walks : {X : Type 0} (read : Reader X) → Walks read → (path : Path) (n : ℕ) (ds : Items) → walks (each read path n ds) ≡ true
each_walks read go path n no_items = refl
each_walks read go path n (item d ds) = bind (read (at_place path n) d) _ (go (at_place path n) d) (λ x. bind (each read path (n + 1) ds) _ (each_walks read go path (n + 1) ds) (λ xs. refl))

list_walks : {X : Type 0} (read : Reader X) → Walks read → Walks (list read)
list_walks read go path d = at_option (each read path 0) (as_array d) (shape path) (each_walks read go path 0) refl

within_walks : {X : Type 0} (low high : ℕ) (read : Reader X) → Walks read → Walks (list_within low high read)
within_walks low high read go path d =
    at_option _ (as_array d) (shape path) (λ ds. at_test (is_within low high (items_len ds)) (each read path 0 ds) (out_of_range path) (each_walks read go path 0 ds) refl) refl

-- ---- keys

object_walks : Walks an_object
object_walks path d = at_test (is_some (as_object d)) (Ok tt) (shape path) refl refl

required_walks : {X : Type 0} (key : List ℕ) (read : Reader X) → Walks read → Walks (required key read)
required_walks key read go path d = at_option (read (at_key path key)) (get key d) (shape (at_key path key)) (go (at_key path key)) refl

defaulted_walks : {X : Type 0} (key : List ℕ) (missing : X) (read : Reader X) → Walks read → Walks (defaulted key missing read)
defaulted_walks key missing read go path d = at_option (read (at_key path key)) (get key d) (Ok missing) (go (at_key path key)) refl

optional_walks : {X : Type 0} (key : List ℕ) (read : Reader X) → Walks read → Walks (optional key read)
optional_walks key read go path d = at_option _ (get key d) (Ok None) (λ v. bind (read (at_key path key) v) _ (go (at_key path key) v) (λ x. refl)) refl

absent_walks : (key : List ℕ) → Walks (absent key)
absent_walks key path d = at_option (λ _. shape (at_key path key)) (get key d) (Ok tt) (λ _. refl) refl

others_walks : (keys : List (List ℕ)) → Walks (no_others keys)
others_walks keys path d = at_test (option_map_or (members_among keys) (as_object d) false) (Ok tt) (shape path) refl refl

-- what follows for each entry of a table
abbrev AllGo : {X Y : Type 0} → (X → Answer Y) → List (List ℕ × X) → Type 0
AllGo go [] = ⊤
AllGo go (e ∷ es) = (walks (go e.1) ≡ true) × AllGo go es

picked_at : {X Y : Type 0} (b : Bool) (x : X) (rest : Option X) (path : Path) (go : X → Answer Y) → walks (go x) ≡ true → walks (option_map_or Ok rest (shape path) >>= go) ≡ true
    → walks (option_map_or Ok (cond b (Some x) rest) (shape path) >>= go) ≡ true
picked_at true x rest path go here later = here
picked_at false x rest path go here later = later

picked : {X Y : Type 0} (s : List ℕ) (table : List (List ℕ × X)) (path : Path) (go : X → Answer Y) → AllGo go table → walks (option_map_or Ok (lookup (bytes_eq s) table) (shape path) >>= go) ≡ true
picked s [] path go all = refl
picked s (e ∷ es) path go all = picked_at (bytes_eq s e.0) e.1 (lookup (bytes_eq s) es) path go all.0 (picked s es path go all.1)

chosen_from : {X Y : Type 0} (m : Answer (List ℕ)) (table : List (List ℕ × X)) (path : Path) (go : X → Answer Y) → walks m ≡ true → AllGo go table
    → walks ((m >>= λ s. option_map_or Ok (lookup (bytes_eq s) table) (shape path)) >>= go) ≡ true
chosen_from (Ok s) table path go first all = picked s table path go all
chosen_from (Err e) table path go first all = first

chosen_walks : {X Y : Type 0} (key : List ℕ) (table : List (List ℕ × X)) (path : Path) (d : Data) (go : X → Answer Y) → AllGo go table → walks (chosen key table path d >>= go) ≡ true
chosen_walks key table path d go all = chosen_from (required key text path d) table (at_key path key) go (required_walks key text text_walks path d) all

-- ---- the tables

column_walks : Walks Form.column
column_walks path d = whole_walks 0 255 path d

columns_walks : Walks Form.columns
columns_walks path d = within_walks 1 8 Form.column column_walks path d

-- the last line of a table
closes : {X : Type 0} (keys : List (List ℕ)) (path : Path) (d : Data) (x : X) → walks (no_others keys path d >> Ok x) ≡ true
closes keys path d x = then_next (no_others keys path d) (Ok x) (others_walks keys path d) refl

plain_walks : (it : Head) → Walks (Form.plain_head it)
unfolding Form.plain_head
plain_walks it path d = closes (codes "op" ∷ []) path d it

sum_walks : Walks Form.sum_head
unfolding Form.sum_head
sum_walks path d = bind (required (codes "value") Form.column path d) _ (required_walks (codes "value") Form.column column_walks path d) (λ value. closes (codes "op" ∷ codes "value" ∷ []) path d (Sum value))

join_walks : Walks Form.join_head
unfolding Form.join_head
join_walks path d = bind (required (codes "left") (word is_name) path d) _ (required_walks (codes "left") (word is_name) (word_walks is_name) path d) (λ left. closes (codes "op" ∷ codes "left" ∷ []) path d (Join left))

two_keys_walk : Walks Form.two_keys
unfolding Form.two_keys
two_keys_walk path d =
    bind (required (codes "key") Form.columns path d) _ (required_walks (codes "key") Form.columns columns_walks path d)
    (λ key. bind (required (codes "side_key") Form.columns path d) _ (required_walks (codes "side_key") Form.columns columns_walks path d)
    (λ side_key. closes (codes "op" ∷ codes "key" ∷ codes "side_key" ∷ []) path d (key, side_key)))

lookup_walks : Walks Form.lookup_head
unfolding Form.lookup_head
lookup_walks path d = bind (Form.two_keys path d) _ (two_keys_walk path d) (λ keys. refl)

keep_in_walks : Walks Form.keep_in_head
unfolding Form.keep_in_head
keep_in_walks path d = bind (Form.two_keys path d) _ (two_keys_walk path d) (λ keys. refl)

drop_in_walks : Walks Form.drop_in_head
unfolding Form.drop_in_head
drop_in_walks path d = bind (Form.two_keys path d) _ (two_keys_walk path d) (λ keys. refl)

heads_walk : (path : Path) (d : Data) → AllGo (λ further. further path d) Form.heads
unfolding Form.heads
heads_walk path d =
    (plain_walks Each path d, (plain_walks Count path d, (plain_walks Distinct path d, (sum_walks path d, (join_walks path d, (lookup_walks path d, (keep_in_walks path d, (drop_in_walks path d, tt))))))))

head_walks : Walks Form.head
unfolding Form.head
head_walks path d = then_next (an_object path d) _ (object_walks path d) (chosen_walks (codes "op") Form.heads path d (λ further. further path d) (heads_walk path d))

tokenise_walks : Walks Form.tokenise_step
unfolding Form.tokenise_step
tokenise_walks path d = closes (codes "op" ∷ []) path d Tokenise

text_test_walks : (it : List ℕ → Test) → Walks (Form.text_test it)
unfolding Form.text_test
text_test_walks it path d = bind (text_of 255 path d) _ (text_of_walks 255 path d) (λ s. refl)

number_test_walks : (it : ℤ → Test) → Walks (Form.number_test it)
unfolding Form.number_test
number_test_walks it path d = bind (number path d) _ (number_walks path d) (λ z. refl)

tests_walk : (path : Path) (d : Data) → AllGo (λ test. required (codes "value") test path d) Form.tests
unfolding Form.tests
tests_walk path d = (
  required_walks (codes "value") _ (text_test_walks _) path d,
  (
    required_walks (codes "value") _ (text_test_walks _) path d,
    (
      required_walks (codes "value") _ (text_test_walks _) path d,
      (required_walks (codes "value") _ (number_test_walks _) path d, (required_walks (codes "value") _ (number_test_walks _) path d, tt)),
    ),
  ),
)

test_walks : Walks Form.filter_test
unfolding Form.filter_test
test_walks path d = chosen_walks (codes "test") Form.tests path d (λ test. required (codes "value") test path d) (tests_walk path d)

filter_walks : Walks Form.filter_step
unfolding Form.filter_step
filter_walks path d =
    bind (required (codes "field") Form.column path d) _ (required_walks (codes "field") Form.column column_walks path d)
    (λ field. bind (Form.filter_test path d) _ (test_walks path d) (λ it. closes (codes "op" ∷ codes "field" ∷ codes "test" ∷ codes "value" ∷ []) path d (Filter field it)))

project_walks : Walks Form.project_step
unfolding Form.project_step
project_walks path d = bind (required (codes "cols") Form.columns path d) _ (required_walks (codes "cols") Form.columns columns_walks path d) (λ cols. closes (codes "op" ∷ codes "cols" ∷ []) path d (Project cols))

steps_walk : (path : Path) (d : Data) → AllGo (λ further. further path d) Form.steps
unfolding Form.steps
steps_walk path d = (tokenise_walks path d, (filter_walks path d, (project_walks path d, tt)))

step_walks : Walks Form.step
unfolding Form.step
step_walks path d = then_next (an_object path d) _ (object_walks path d) (chosen_walks (codes "op") Form.steps path d (λ further. further path d) (steps_walk path d))

vertex_walks : Walks Form.vertex
unfolding Form.vertex
vertex_walks path d =
    then_next (an_object path d) _ (object_walks path d)
    (bind (required (codes "name") (word is_name) path d) _ (required_walks (codes "name") (word is_name) (word_walks is_name) path d)
    (λ name. bind (required (codes "tasks") (whole 1 most_tasks) path d) _ (required_walks (codes "tasks") (whole 1 most_tasks) (whole_walks 1 most_tasks) path d)
    (λ tasks. bind (optional (codes "source") (word is_file) path d) _ (optional_walks (codes "source") (word is_file) (word_walks is_file) path d)
    (λ source. bind (required (codes "head") Form.head path d) _ (required_walks (codes "head") Form.head head_walks path d)
    (λ it. bind (defaulted (codes "steps") [] (list_within 0 64 Form.step) path d) _ (defaulted_walks (codes "steps") [] (list_within 0 64 Form.step) (within_walks 0 64 Form.step step_walks) path d)
    (λ rest. bind (optional (codes "sink") (word is_sink) path d) _ (optional_walks (codes "sink") (word is_sink) (word_walks is_sink) path d)
    (λ sink. closes (codes "name" ∷ codes "tasks" ∷ codes "source" ∷ codes "head" ∷ codes "steps" ∷ codes "sink" ∷ []) path d
    (record { name = name; tasks = tasks; source = source; head = it; steps = rest; sink = sink }))))))))

unless_empty_walks : (path : Path) (vs : List VertexSpec) → walks (Form.unless_empty path vs) ≡ true
unless_empty_walks path [] = refl
unless_empty_walks path (v ∷ vs) = refl

vertices_walk : Walks Form.vertices
unfolding Form.vertices
vertices_walk path d = bind (list Form.vertex path d) (Form.unless_empty path) (list_walks Form.vertex vertex_walks path d) (unless_empty_walks path)

keyless_walks : (it : Movement) → Walks (Form.keyless it)
unfolding Form.keyless
keyless_walks it path d = then_next (absent (codes "keys") path d) (Ok it) (absent_walks (codes "keys") path d) refl

by_keys_walks : Walks Form.by_keys
unfolding Form.by_keys
by_keys_walks path d = bind (required (codes "keys") Form.columns path d) _ (required_walks (codes "keys") Form.columns columns_walks path d) (λ keys. refl)

movements_walk : (path : Path) (d : Data) → AllGo (λ keys. keys path d) Form.movements
unfolding Form.movements
movements_walk path d = (keyless_walks OneToOne path d, (keyless_walks Broadcast path d, (by_keys_walks path d, tt)))

movement_walks : Walks Form.movement
unfolding Form.movement
movement_walks path d = chosen_walks (codes "movement") Form.movements path d (λ keys. keys path d) (movements_walk path d)

edge_walks : Walks Form.edge
unfolding Form.edge
edge_walks path d =
    then_next (an_object path d) _ (object_walks path d)
    (bind (required (codes "from") (word is_name) path d) _ (required_walks (codes "from") (word is_name) (word_walks is_name) path d)
    (λ source. bind (required (codes "to") (word is_name) path d) _ (required_walks (codes "to") (word is_name) (word_walks is_name) path d)
    (λ target. bind (Form.movement path d) _ (movement_walks path d)
    (λ it. closes (codes "from" ∷ codes "to" ∷ codes "movement" ∷ codes "keys" ∷ []) path d (record { source = source; target = target; movement = it })))))

balanced_walks : (path : Path) (c : ConfValues) → walks (Form.balanced path c) ≡ true
balanced_walks path c =
    at_test (nat_le c.min_src c.max_src) _ _ (at_test (nat_le (c.nodes * c.per_node) 64) (Ok c) (out_of_range (at_key path (codes "per_node"))) refl refl) refl

flag_at : (key : List ℕ) (missing : Bool) → Walks (defaulted key missing flag)
flag_at key missing = defaulted_walks key missing flag flag_walks

whole_at : (key : List ℕ) (missing low high : ℕ) → Walks (defaulted key missing (whole low high))
whole_at key missing low high = defaulted_walks key missing (whole low high) (whole_walks low high)

conf_walks : Walks Form.conf
unfolding Form.conf
conf_walks path d =
    then_next (an_object path d) _ (object_walks path d)
    (bind (defaulted (codes "min_src") 250 (whole 0 1000) path d) _ (whole_at (codes "min_src") 250 0 1000 path d)
    (λ min_src. bind (defaulted (codes "max_src") 750 (whole 0 1000) path d) _ (whole_at (codes "max_src") 750 0 1000 path d)
    (λ max_src. bind (defaulted (codes "auto_parallel") false flag path d) _ (flag_at (codes "auto_parallel") false path d)
    (λ auto_parallel. bind (defaulted (codes "desired_bytes") 104857600 (whole 1 1099511627776) path d) _ (whole_at (codes "desired_bytes") 104857600 1 1099511627776 path d)
    (λ desired_bytes. bind (defaulted (codes "min_tasks") 1 (whole 1 10000) path d) _ (whole_at (codes "min_tasks") 1 1 10000 path d)
    (λ min_tasks. bind (defaulted (codes "max_failed") 4 (whole 1 100) path d) _ (whole_at (codes "max_failed") 4 1 100 path d)
    (λ max_failed. bind (defaulted (codes "max_masters") 2 (whole 1 100) path d) _ (whole_at (codes "max_masters") 2 1 100 path d)
    (λ max_masters. bind (defaulted (codes "reuse") true flag path d) _ (flag_at (codes "reuse") true path d)
    (λ reuse. bind (defaulted (codes "nodes") 2 (whole 1 64) path d) _ (whole_at (codes "nodes") 2 1 64 path d)
    (λ nodes. bind (defaulted (codes "per_node") 2 (whole 1 64) path d) _ (whole_at (codes "per_node") 2 1 64 path d)
    (λ per_node. then_next (no_others Form.conf_keys path d) _ (others_walks Form.conf_keys path d) (balanced_walks path (record { min_src = min_src; max_src = max_src; auto_parallel = auto_parallel; desired_bytes = desired_bytes; min_tasks = min_tasks; max_failed = max_failed; max_masters = max_masters; reuse = reuse; nodes = nodes; per_node = per_node })))))))))))))

conf_of_walks : (d : Data) → walks (Form.conf_of d) ≡ true
unfolding Form.conf_of
conf_of_walks d = conf_walks (codes "conf") _

document_walks : (d : Data) → walks (Form.document d) ≡ true
unfolding Form.document
document_walks d =
    then_next (an_object [] d) _ (object_walks [] d)
    (bind (required (codes "name") (word is_name) [] d) _ (required_walks (codes "name") (word is_name) (word_walks is_name) [] d)
    (λ name. bind (Form.conf_of d) _ (conf_of_walks d)
    (λ configuration. bind (required (codes "vertices") Form.vertices [] d) _ (required_walks (codes "vertices") Form.vertices vertices_walk [] d)
    (λ some. bind (defaulted (codes "edges") [] (list Form.edge) [] d) _ (defaulted_walks (codes "edges") [] (list Form.edge) (list_walks Form.edge edge_walks) [] d)
    (λ joins. closes (codes "name" ∷ codes "conf" ∷ codes "vertices" ∷ codes "edges" ∷ []) [] d (record { name = name; vertices = some; edges = joins }, configuration))))))

-- ---- the form of the bytes

not_walk : (e : DagFault) → is_walk e ≡ true → e ≢ NotJson
not_walk NotJson walk same = cc
not_walk (Shape path) walk same = cc
not_walk (OutOfRange path) walk same = cc
not_walk (Plan fault) walk same = cc
not_walk NoMemory walk same = cc

no_other : (e : DagFault) → is_walk e ≡ true → IsOfForm e
no_other NotJson walk = tt
no_other (Shape path) walk = tt
no_other (OutOfRange path) walk = tt
no_other (Plan fault) walk = cc
no_other NoMemory walk = cc

walk_of : {X : Type 0} (a : Answer X) (e : DagFault) → a ≡ Err e → walks a ≡ true → is_walk e ≡ true
walk_of a e is walk = ap walks (sym is) ∙ walk

faults_at : (value : Option Data) (e : DagFault) → option_map_or Form.document value (Err NotJson) ≡ Err e → IsOfForm e × ((e ≡ NotJson) → value ≡ None)
faults_at None e is = (let same : NotJson ≡ e = cc in subst IsOfForm same tt, λ _. refl)
faults_at (Some d) e is = let walk = walk_of (Form.document d) e is (document_walks d) in (no_other e walk, λ same. absurd (not_walk e walk same))

pub form_faults : (bytes : List ℕ) (e : DagFault) → Form.form bytes ≡ Err e → IsOfForm e
unfolding Form.form
form_faults bytes e is = (faults_at (Form.json bytes) e is).0

pub form_not_json : (bytes : List ℕ) → Form.form bytes ≡ Err NotJson → Form.json bytes ≡ None
unfolding Form.form
form_not_json bytes is = (faults_at (Form.json bytes) NotJson is).1 refl

pub not_json_form : (bytes : List ℕ) → Form.json bytes ≡ None → Form.form bytes ≡ Err NotJson
unfolding Form.form
not_json_form bytes none = rw none
