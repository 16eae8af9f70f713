-- The text of a job's meaning, and why there is none.
use Rattle.std.proofs.Common.{◌≡◌, ◌⊎◌, ℕ, cond, List, [], ◌∷◌, ◌++◌, length, refl, sym, ap, ◌∙◌, subst, flat_map, find, Option, Some, None, Result, Ok, Err, inl, inr}
use Rattle.tez_ids.specs.declared.VertexId.{VertexId}
use Rattle.tez_lists.proofs.Flat.{flat_map-map}
use Rattle.tez_plan.specs.Faults.{IsValid}
use Rattle.tez_plan.specs.Order.{topo}
use Rattle.tez_ports.specs.Content.{Named, Told}
use Rattle.tez_meaning.specs.Jobs.{Job, Files}
use Rattle.tez_meaning.specs.Value.{bad, first_bad_vertex, sink_text, sink_texts, sinks, IsBadVertex, IsDefined}
use Rattle.tez_meaning.specs.declared.fault.MeaningFault.{MeaningFault}
use Rattle.tez_meaning.specs.declared.fault.MeaningFault.TheVariants.{Bad}
use Rattle.tez_am.specs.Accept.{Planned, AfterDag, and_then, run_job}
use Rattle.tez_am.specs.Call.{Reads}
use Rattle.tez_am.specs.Cause.{Refusal}
use Rattle.tez_am.specs.Mean.{Means, text_part}
use Rattle.tez_am.specs.Meaning.{line_of, meaning_text, sink_line}
use Rattle.tez_am.specs.Text.{name_of}
use Rattle.tez_am.specs.Tool.{meaning_of, meant, meant_of, ToolRefusal}
use Rattle.tez_am.specs.declared.status.Status.{Status}
use Rattle.tez_am.specs.declared.status.Status.TheVariants.{MeaningUndefined, NoMemory}
use Rattle.tez_am.proofs.Accepting.{refusal_from}
use Rattle.tez_am.proofs.RecordValues.{lines_of_sink}

-- ---- the text

part_is : (job : Job) (s : ℕ × List ℕ) → text_part (s.1, sink_text job s.0) ≡ line_of job s ++ sink_text job s.0
unfolding text_part
part_is job s = ap (λ rs. sink_line s.1 (length rs) (length (sink_text job s.0)) ++ sink_text job s.0) (lines_of_sink job s.0)

pub parts_are : (job : Job) (lent texts : Files) (text : List ℕ) → text ≡ flat_map text_part lent → lent ≡ texts → texts ≡ sink_texts job → text ≡ meaning_text job
parts_are job lent texts text is same are =
    is
    ∙ ap (flat_map text_part) (same ∙ are)
    ∙ flat_map-map text_part (λ s. (s.1, sink_text job s.0)) (sinks 0 job.plan.vertices)
    ∙ ap (λ f. flat_map f (sinks 0 job.plan.vertices)) (λ i s. part_is job s i)

none_bad : (job : Job) (vs : List ℕ) → IsDefined job → find (bad job) vs ≡ None
none_bad job [] defined = refl
none_bad job (v ∷ vs) defined = ap (λ b. cond b (Some v) (find (bad job) vs)) (defined v) ∙ none_bad job vs defined

pub meant_text : (job : Job) (text : List ℕ) → IsDefined job → text ≡ meaning_text job → meant job ≡ Ok text
unfolding meant
meant_text job text defined is = ap (meant_of job) (none_bad job (topo job.plan) defined) ∙ ap Ok (sym is)

-- ---- or none

abbrev Undefined : Job → Status → Type 0
Undefined job s = (s ≡ NoMemory) ⊎ ((name : List ℕ) × (s ≡ MeaningUndefined name) × (meant job ≡ Err s))

pub meant_bad : (job : Job) (fault : MeaningFault) (v : VertexId) (s : Status) → fault ≡ Bad v → IsBadVertex job fault → (s ≡ NoMemory) ⊎ (s ≡ MeaningUndefined (name_of job.plan v.0)) → Undefined job s
unfolding meant
meant_bad job fault v s is due said =
    let first : first_bad_vertex job ≡ Some v.0 = subst (IsBadVertex job) is due in
    elim said [ inl short ↦ inl short | inr named ↦ inr (name_of job.plan v.0, named, ap (meant_of job) first ∙ ap Err (sym named)) ]

-- ---- of a DAG file

refused_at : (word : Option (List ℕ)) (m : Named) (r : Status) → AfterDag run_job word m (Err r) → AfterDag meaning_of word m (Err r)
refused_at word m r h = record { dag = h.dag; is = h.is; rest = next h.dag h.rest } where
  next : (dag : Result Planned Status) → Err r ≡ and_then dag (run_job m) → Err r ≡ and_then dag (meaning_of m)
  next (Ok said) is = ap (λ x. and_then x meant) is
  next (Err s) is = let same : r ≡ s = cc in ap Err same

job_at : (word : Option (List ℕ)) (m : Named) (job : Job) (answer : Result (List ℕ) Status) → AfterDag run_job word m (Ok job) → meant job ≡ answer → AfterDag meaning_of word m answer
job_at word m job answer h due = record { dag = h.dag; is = h.is; rest = next h.dag h.rest } where
  next : (dag : Result Planned Status) → Ok job ≡ and_then dag (run_job m) → answer ≡ and_then dag (meaning_of m)
  next (Ok said) is = sym due ∙ ap (λ x. and_then x meant) is
  next (Err s) is = cc

pub unread : (word : Option (List ℕ)) (reads : Reads) (s : Status) → Refusal (AfterDag run_job word) reads s → ToolRefusal (AfterDag meaning_of word) reads s
unread word reads s h = inl (refusal_from (AfterDag run_job word) (AfterDag meaning_of word) reads s (refused_at word) h)

pub means : (word : Option (List ℕ)) (files : Option Named) (job : Job) (text : List ℕ) → IsValid job.plan → IsDefined job → text ≡ meaning_text job → meant job ≡ Ok text → Told files (λ m. AfterDag run_job word m (Ok job)) → Means word files text
means word files job text valid defined is due told = record { job = job; valid = valid; defined = defined; is = is; due = λ m t. job_at word m job (Ok text) (told m t) due }

pub undefined_at : (word : Option (List ℕ)) (reads : Reads) (job : Job) (s : Status) → Told reads.files (λ m. AfterDag run_job word m (Ok job)) → Undefined job s → ToolRefusal (AfterDag meaning_of word) reads s
undefined_at word reads job s told h = elim h [
  | inl short ↦ inl (subst (Refusal (AfterDag meaning_of word) reads) (sym short) tt)
  | inr bad_is ↦ inr (bad_is.0, bad_is.1, λ m t. job_at word m job (Err s) (told m t) bad_is.2)
]
