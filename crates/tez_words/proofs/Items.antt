-- Where an item begins, by its first word.
use Rattle.std.proofs.Common.{◌≡◌, ℕ, true, false, not, ◌&&◌, ◌==◌, [], ◌∷◌, ◌++◌, codes, Option, Some, None, if◌then◌else◌, refl, sym, true≢false, Bool, arith}
use Rattle.std.specs.Str.{bytes_eq}
use Rattle.std.proofs.lemmas.Slice.Eq.{bytes_eq-Decides}
use Rattle.tez_words.specs.Commands.{Word, is_file_word}
use Rattle.tez_words.specs.declared.options.Found.{Found}
use Rattle.tez_words.specs.declared.options.Next.TheVariants.{ScriptFile}
use Rattle.tez_words.specs.Reading.{after_prefix, begin_item, with_file, with_script, with_trace, with_word}
use Rattle.tez_words.proofs.Small.{by_if, one_value}
use Rattle.tez_words.proofs.Prefixes.{before}

pub same_word : (v w : Word) → bytes_eq v w ≡ true → v ≡ w
same_word v w h = (bytes_eq-Decides v w).0 h

-- what a first word begins, in each of its four forms
pub data Begun (found : Found Word) (w : Word) (g : Found Word) : Type 0 where
  Trace : (is : w ≡ codes "--trace") → (with_trace found ≡ Some g) → Begun found w g
  Script : (is : w ≡ codes "--script") → (record found { next = ScriptFile } ≡ g) → Begun found w g
  ScriptOf : (v : Word) → (is : w ≡ codes "--script=" ++ v) → (with_script found v ≡ Some g) → Begun found w g
  File : (with_file found w ≡ Some g) → Begun found w g

begun_by : (found : Found Word) (w : Word) (g : Found Word) (o : Option Word) → after_prefix (codes "--script=") w ≡ o → with_word found w o ≡ Some g → Begun found w g
begun_by found w g None e h = File h
begun_by found w g (Some v) e h = ScriptOf v (before (codes "--script=") w v e) h

pub begun : (found : Found Word) (w : Word) (g : Found Word) → begin_item found w ≡ Some g → Begun found w g
begun found w g h = by_if (bytes_eq w (codes "--trace")) (with_trace found)
    (if bytes_eq w (codes "--script") then Some (record found { next = ScriptFile }) else with_word found w (after_prefix (codes "--script=") w)) (Some g) h
    (λ e f. Trace (same_word w (codes "--trace") e) f)
    (λ e f. by_if (bytes_eq w (codes "--script")) (Some (record found { next = ScriptFile })) (with_word found w (after_prefix (codes "--script=") w)) (Some g) f
    (λ i j. Script (same_word w (codes "--script") i) (one_value (record found { next = ScriptFile }) g j))
    (λ i j. begun_by found w g (after_prefix (codes "--script=") w) refl j))

-- and back
pub trace_begins : (found : Found Word) → begin_item found (codes "--trace") ≡ with_trace found
trace_begins found = refl

pub script_begins : (found : Found Word) → begin_item found (codes "--script") ≡ Some (record found { next = ScriptFile })
script_begins found = refl

pub script_of_begins : (found : Found Word) (v : Word) → begin_item found (codes "--script" ++ codes "=" ++ v) ≡ with_script found v
script_of_begins found v = refl

no_dash : (b : ℕ) → not (b == 45) ≡ true → (b == 45) ≡ false
no_dash b h = grind arith

file_by : (t x y : Bool) (p q : Option (Found Word)) (r : Option Word) (found : Found Word) (w : Word) → t ≡ false
    → (if t && x then p else (if t && y then q else with_word found w (if t then r else None))) ≡ with_file found w
file_by false x y p q r found w h = refl
file_by true x y p q r found w h = absurd (true≢false h)

pub file_begins : (found : Found Word) (w : Word) → is_file_word w ≡ true → begin_item found w ≡ with_file found w
file_begins found [] h = absurd (true≢false (sym h))
file_begins found (b ∷ w) h = file_by (b == 45) (bytes_eq w (codes "-trace")) (bytes_eq w (codes "-script")) (with_trace found) (Some (record found { next = ScriptFile }))
    (after_prefix (codes "-script=") w) found (b ∷ w) (no_dash b h)
