-- What a command line may be: which words are which command.
--     is_file_word w         a word that names a file
--     IsValue name w words   these words give an option its value
--     IsNumber k a b w n     the word writes the number n, with k digits at most and from a to b
--     Item, IsSpelt x words  one thing that a run is given, and the words for it
--     AreSpelt xs words      these words give the items, one after the other
--     AreOptions xs o        one file, and at most one of each option
--     IsCommand words c      the words are the command c
--     is_run_line words      the first word is that of a run
--     command_as f c         the command with its words held another way
use Rattle.std.specs.Prelude.{◌≡◌, ◌⊎◌, ℕ, ◌-◌, ◌≤◌, ◌^◌, ◌==◌, ◌||◌, Bool, true, false, not, List, [], ◌∷◌, ◌++◌, codes, length, Option, Some, None, IsTrue, if◌then◌else◌, option_map, option_to_list, bytes_eq, filter}
use Rattle.std.specs.List.{filter_map}
use Rattle.std.specs.Str.Parse.{IsNumeral, digits_value}
use Rattle.tez_words.specs.declared.command.Amount.{Amount}
use Rattle.tez_words.specs.declared.command.Options.{Options}
use Rattle.tez_words.specs.declared.command.Command.{Command}
use Rattle.tez_words.specs.declared.command.Command.TheVariants.{Run, Resume, Drill, Check, Meaning, Audit, Generate}

-- the bytes of a word
abbrev pub Word : Type 0
Word = List ℕ

-- ---- single words

-- not empty, and not begun by a dash
abbrev pub is_file_word : Word → Bool
is_file_word [] = false
is_file_word (b ∷ word) = not (b == 45)

-- `NAME VALUE` or `NAME=VALUE`
abbrev pub IsValue : Word → Word → List Word → Type 0
IsValue name value words = (words ≡ name ∷ value ∷ []) ⊎ (words ≡ (name ++ codes "=" ++ value) ∷ [])

pub record IsNumber (digits least most : ℕ) (w : Word) (n : ℕ) : Type 0 where
  pub numeral : IsNumeral 10 w
  pub short : length w ≤ digits
  pub value : digits_value 10 w ≡ n
  pub not_below : least ≤ n
  pub not_above : n ≤ most

-- ---- what a run is given

pub data Item : Type 0 where
  File : (word : Word) → Item
  Script : (word : Word) → Item
  Trace : Item

abbrev pub IsSpelt : Item → List Word → Type 0
IsSpelt (File w) words = IsTrue (is_file_word w) × (words ≡ w ∷ [])
IsSpelt (Script w) words = IsTrue (is_file_word w) × IsValue (codes "--script") w words
IsSpelt Trace words = words ≡ codes "--trace" ∷ []

abbrev pub AreSpelt : List Item → List Word → Type 0
AreSpelt [] words = words ≡ []
AreSpelt (x ∷ xs) words = (first : List Word) × (rest : List Word) × (words ≡ first ++ rest) × IsSpelt x first × AreSpelt xs rest

abbrev pub file_in : Item → Option Word
file_in (File w) = Some w
file_in (Script w) = None
file_in Trace = None

abbrev pub script_in : Item → Option Word
script_in (File w) = None
script_in (Script w) = Some w
script_in Trace = None

abbrev pub is_trace : Item → Bool
is_trace (File w) = false
is_trace (Script w) = false
is_trace Trace = true

-- in any order: the file is the only one, and so is each option that is there
pub record AreOptions (xs : List Item) (o : Options Word) : Type 0 where
  pub file : filter_map file_in xs ≡ o.file ∷ []
  pub script : filter_map script_in xs ≡ option_to_list o.script
  pub trace : filter is_trace xs ≡ (if o.trace then Trace ∷ [] else [])

abbrev pub IsOptions : List Word → Options Word → Type 0
IsOptions words o = (xs : List Item) × AreSpelt xs words × AreOptions xs o

-- ---- what the other commands are given

abbrev pub IsFile : List Word → Word → Type 0
IsFile words w = IsTrue (is_file_word w) × (words ≡ w ∷ [])

abbrev pub AreFiles : List Word → Word → Word → Type 0
AreFiles words v w = IsTrue (is_file_word v) × IsTrue (is_file_word w) × (words ≡ v ∷ w ∷ [])

-- a seed below 2 ^ 31, and a number of lines from 1 to 1,000,000
abbrev pub IsAmount : List Word → Amount → Type 0
IsAmount words a = (seed : Word) × (lines : Word) × (words ≡ seed ∷ lines ∷ [])
    × IsNumber 20 0 (2 ^ 31 - 1) seed a.seed × IsNumber 20 1 1000000 lines a.lines

-- ---- commands

-- the first word, and what is said of the others
abbrev pub Begins : Word → (List Word → Type 0) → List Word → Type 0
Begins name Rest words = (rest : List Word) × (words ≡ name ∷ rest) × Rest rest

abbrev pub IsCommand : List Word → Command Word → Type 0
IsCommand words (Run o) = Begins (codes "run") (λ rest. IsOptions rest o) words
IsCommand words (Resume o) = Begins (codes "resume") (λ rest. IsOptions rest o) words
IsCommand words (Drill a) = Begins (codes "drill") (λ rest. IsAmount rest a) words
IsCommand words (Check file) = Begins (codes "check") (λ rest. IsFile rest file) words
IsCommand words (Meaning file) = Begins (codes "meaning") (λ rest. IsFile rest file) words
IsCommand words (Audit file trace) = Begins (codes "audit") (λ rest. AreFiles rest file trace) words
IsCommand words (Generate a) = Begins (codes "generate") (λ rest. IsAmount rest a) words

abbrev pub is_run_word : Word → Bool
is_run_word w = bytes_eq w (codes "run") || bytes_eq w (codes "resume") || bytes_eq w (codes "drill")

abbrev pub is_run_line : List Word → Bool
is_run_line [] = false
is_run_line (w ∷ words) = is_run_word w

-- ---- words held another way

abbrev pub options_as : {V W : Type 0} → (V → W) → Options V → Options W
options_as f o = record { file = f o.file; script = option_map f o.script; trace = o.trace }

abbrev pub command_as : {V W : Type 0} → (V → W) → Command V → Command W
command_as f (Run o) = Run (options_as f o)
command_as f (Resume o) = Resume (options_as f o)
command_as f (Drill a) = Drill a
command_as f (Check file) = Check (f file)
command_as f (Meaning file) = Meaning (f file)
command_as f (Audit file trace) = Audit (f file) (f trace)
command_as f (Generate a) = Generate a
