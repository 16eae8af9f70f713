-- From the words and the input files to what a call works on: the checks, in their order. Each gives a value, or the refusal that is due.
--     content name limit files      the bytes of an input
--     IsDag word files answer       what the DAG file of this name says
--     with_sources files plan       the plan with the bytes of its sources
--     IsAccepted words files answer     the job of the words of a run
use Rattle.std.specs.Prelude.{◌≡◌, ℕ, ◌-◌, not, List, [], ◌∷◌, length, nat_le, if◌then◌else◌, Option, Result, Ok, Err}
use Rattle.std.specs.List.{filter, flat_map}
use Rattle.std.specs.Option.{ok_or, option_map_or}
use Rattle.std.specs.Str.{bytes_eq}
use Rattle.tez_conf.specs.declared.values.ConfValues.{ConfValues}
use Rattle.tez_plan.specs.declared.parts.VertexSpec.{VertexSpec}
use Rattle.tez_plan.specs.Dag.{Dag}
use Rattle.tez_dag_json.specs.Due.{IsDue}
use Rattle.tez_ports.specs.Content.{Named, bytes_of}
use Rattle.tez_meaning.specs.Jobs.{Job, job_of}
use Rattle.tez_am.specs.Words.{dag_word}
use Rattle.tez_am.specs.declared.status.Status.{Status}
use Rattle.tez_am.specs.declared.status.Status.TheVariants.{Usage, DagRefused, InputMissing, InputTooLarge}

-- bytes of a DAG file
abbrev pub dag_limit : ℕ
dag_limit = 1048576

-- bytes of all sources together
abbrev pub source_limit : ℕ
source_limit = 67108864

-- the next check, unless there is a refusal already
abbrev pub and_then : {A B : Type 0} → Result A Status → (A → Result B Status) → Result B Status
and_then (Ok x) next = next x
and_then (Err refusal) next = Err refusal

-- the same of a check that is a relation
abbrev pub Next : {A B : Type 0} → Result A Status → (A → Result B Status → Type 0) → Result B Status → Type 0
Next (Ok x) next answer = next x answer
Next (Err refusal) next answer = answer ≡ Err refusal

abbrev pub within : List ℕ → ℕ → List ℕ → Result (List ℕ) Status
within name limit bytes = if nat_le (length bytes) limit then Ok bytes else Err (InputTooLarge name)

unfoldable pub content : List ℕ → ℕ → Named → Result (List ℕ) Status
content name limit files = and_then (ok_or (bytes_of name files) (InputMissing name)) (within name limit)

abbrev pub IsContent : List ℕ → ℕ → Named → Result (List ℕ) Status → Type 0
IsContent name limit files answer = content name limit files ≡ answer

-- a plan and its configuration
abbrev pub Planned : Type 0
Planned = Dag × ConfValues

-- what the bytes of a DAG file say
abbrev pub IsDagOf : List ℕ → Result Planned Status → Type 0
IsDagOf bytes (Ok said) = IsDue bytes (Ok said)
IsDagOf bytes (Err (DagRefused fault)) = IsDue bytes (Err fault)
IsDagOf bytes (Err _) = ⊥

-- the bytes of the DAG file, of words that name one
abbrev pub dag_bytes : Option (List ℕ) → Named → Result (List ℕ) Status
dag_bytes word files = and_then (ok_or word Usage) (λ name. content name dag_limit files)

unfoldable pub IsDag : Option (List ℕ) → Named → Result Planned Status → Type 0
IsDag word files answer = Next (dag_bytes word files) IsDagOf answer

-- what comes of that, by a function of what was said
pub record AfterDag {A : Type 0} (next : Named → Planned → Result A Status) (word : Option (List ℕ)) (files : Named) (answer : Result A Status) : Type 0 where
  pub dag : Result Planned Status
  pub is : IsDag word files dag
  pub rest : answer ≡ and_then dag (next files)

-- ---- the sources

-- each name once, in the order in which they come first
abbrev pub each_once : List (List ℕ) → List (List ℕ)
each_once [] = []
each_once (name ∷ names) = name ∷ filter (λ other. not (bytes_eq name other)) (each_once names)

abbrev pub source_of : VertexSpec → List (List ℕ)
source_of s = option_map_or (λ name. name ∷ []) s.source []

abbrev pub source_names : Dag → List (List ℕ)
source_names p = each_once (flat_map source_of p.vertices)

-- the bytes of files of these names, which have together at most `left` bytes
abbrev pub contents : Named → ℕ → List (List ℕ) → Result Named Status
contents files left [] = Ok []
contents files left (name ∷ names) = and_then (content name left files) (λ bytes. and_then (contents files (left - length bytes) names) (λ rest. Ok ((name, bytes) ∷ rest)))

unfoldable pub with_sources : Named → Dag → Result Job Status
with_sources files plan = and_then (contents files source_limit (source_names plan)) (λ sources. Ok (job_of plan sources))

-- ---- a run

-- the job of what a DAG file says
abbrev pub run_job : Named → Planned → Result Job Status
run_job files said = with_sources files said.0

abbrev pub IsJob : Option (List ℕ) → Named → Result Job Status → Type 0
IsJob word files answer = AfterDag run_job word files answer

abbrev pub IsAccepted : List (List ℕ) → Named → Result Job Status → Type 0
IsAccepted words files answer = IsJob (dag_word words) files answer
