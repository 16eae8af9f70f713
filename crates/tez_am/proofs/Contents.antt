-- What the reads say of the checks before a run.
use Rattle.std.proofs.Common.{◌≡◌, ◌⊎◌, ℕ, ◌<◌, ◌≤◌, List, length, Option, Some, None, IsSomeAnd, Ok, Err, refl, inl, inr, sym, subst}
use Rattle.std.proofs.lemmas.Bool.{le-leb, lt-leb}
use Rattle.tez_ports.specs.Content.{Named, Told, bytes_of}
use Rattle.tez_am.specs.Accept.{content, IsContent}
use Rattle.tez_am.specs.Call.{Reads}
use Rattle.tez_am.specs.Cause.{Refusal}
use Rattle.tez_am.specs.declared.status.Status.{Status}
use Rattle.tez_am.specs.declared.status.Status.TheVariants.{InputMissing, InputTooLarge, NoMemory}

pub content_whole : (name bytes : List ℕ) (limit : ℕ) (files : Named) → bytes_of name files ≡ Some bytes → length bytes ≤ limit → content name limit files ≡ Ok bytes
unfolding content
content_whole name bytes limit files there fits = rw (there, le-leb (length bytes) limit fits)

pub content_missing : (name : List ℕ) (limit : ℕ) (files : Named) → bytes_of name files ≡ None → content name limit files ≡ Err (InputMissing name)
unfolding content
content_missing name limit files none = rw none

large_at : (found : Option (List ℕ)) (limit : ℕ) → IsSomeAnd found (λ bytes. limit < length bytes) → (bytes : List ℕ) × (found ≡ Some bytes) × (limit < length bytes)
large_at (Some bytes) limit h = (bytes, refl, h)
large_at None limit h = absurd h

pub content_large : (name : List ℕ) (limit : ℕ) (files : Named) → IsSomeAnd (bytes_of name files) (λ bytes. limit < length bytes) → content name limit files ≡ Err (InputTooLarge name)
unfolding content
content_large name limit files large =
    let it = large_at (bytes_of name files) limit large in
    rw (it.1, lt-leb (length it.0) limit it.2)

pub missing_refusal : (name : List ℕ) (limit : ℕ) (reads : Reads) (s : Status) → Told reads.files (λ m. bytes_of name m ≡ None)
    → (s ≡ InputMissing name) ⊎ (s ≡ NoMemory) → Refusal (IsContent name limit) reads s
missing_refusal name limit reads s none is =
    let P : Status → Type 0 = λ r. Refusal (IsContent name limit) reads r in
    elim is [ inl named ↦ subst P (sym named) (λ m t. content_missing name limit m (none m t)) | inr short ↦ subst P (sym short) tt ]

pub large_refusal : (name : List ℕ) (limit : ℕ) (reads : Reads) (s : Status) → Told reads.files (λ m. IsSomeAnd (bytes_of name m) (λ bytes. limit < length bytes))
    → (s ≡ InputTooLarge name) ⊎ (s ≡ NoMemory) → Refusal (IsContent name limit) reads s
large_refusal name limit reads s large is =
    let P : Status → Type 0 = λ r. Refusal (IsContent name limit) reads r in
    elim is [ inl named ↦ subst P (sym named) (λ m t. content_large name limit m (large m t)) | inr short ↦ subst P (sym short) tt ]
