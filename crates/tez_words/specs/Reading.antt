-- A reader of command lines, word by word. That it answers what the grammar says is proved.
--     number_in k a b w      the number of a word, where it is one with k digits at most and from a to b
--     Found                  what the words of a run so far have said, and what the next one is
--     read_words found words what it is after these words, None where one does not belong
--     options_in words       the options that these words are
--     command_in words       the command that these words are, None where they are faulty
use Rattle.std.specs.Prelude.{ℕ, ◌-◌, ◌^◌, nat_le, ◌==◌, ◌&&◌, ◌||◌, not, Bool, true, false, List, [], ◌∷◌, codes, length, Option, Some, None, if◌then◌else◌, option_map, is_some, bytes_eq}
use Rattle.std.specs.List.{list_all}
use Rattle.std.specs.Char.{is_ascii_digit}
use Rattle.std.specs.Option.{option_and_then}
use Rattle.std.specs.Str.Parse.{digits_value}
use Rattle.tez_words.specs.Commands.{Word, is_file_word}
use Rattle.tez_words.specs.declared.command.Amount.{Amount}
use Rattle.tez_words.specs.declared.command.Options.{Options}
use Rattle.tez_words.specs.declared.command.Command.{Command}
use Rattle.tez_words.specs.declared.command.Command.TheVariants.{Run, Resume, Drill, Check, Meaning, Audit, Generate}
use Rattle.tez_words.specs.declared.options.Found.{Found}
use Rattle.tez_words.specs.declared.options.Next.{Next}
use Rattle.tez_words.specs.declared.options.Next.TheVariants.{Any, ScriptFile}

-- ---- single words

abbrev pub is_numeral : Word → Bool
is_numeral w = nat_le 1 (length w) && list_all is_ascii_digit w

abbrev pub is_between : ℕ → ℕ → ℕ → Bool
is_between least most n = nat_le least n && nat_le n most

abbrev pub number_in : ℕ → ℕ → ℕ → Word → Option ℕ
number_in digits least most w =
    if is_numeral w && (nat_le (length w) digits && is_between least most (digits_value 10 w)) then Some (digits_value 10 w) else None

-- what follows a prefix
abbrev pub after_prefix : Word → Word → Option Word
after_prefix [] w = Some w
after_prefix (p ∷ prefix) [] = None
after_prefix (p ∷ prefix) (b ∷ w) = if b == p then after_prefix prefix w else None

-- ---- the words of a run

-- what the words so far have said, with the words held another way
abbrev pub found_as : {V W : Type 0} → (V → W) → Found V → Found W
found_as f found = record { file = option_map f found.file; script = option_map f found.script; trace = found.trace; next = found.next }

abbrev pub none_found : Found Word
none_found = record { file = None; script = None; trace = false; next = Any }

abbrev pub with_file : Found Word → Word → Option (Found Word)
with_file found w = if is_some found.file || not (is_file_word w) then None else Some (record found { file = Some w })

abbrev pub with_script : Found Word → Word → Option (Found Word)
with_script found w = if is_some found.script || not (is_file_word w) then None else Some (record found { script = Some w; next = Any })

abbrev pub with_trace : Found Word → Option (Found Word)
with_trace found = if found.trace then None else Some (record found { trace = true })

-- a file word, or `--script=FILE`
abbrev pub with_word : Found Word → Word → Option Word → Option (Found Word)
with_word found w None = with_file found w
with_word found w (Some script) = with_script found script

-- where an item begins
abbrev pub begin_item : Found Word → Word → Option (Found Word)
begin_item found w =
    if bytes_eq w (codes "--trace") then with_trace found
    else (if bytes_eq w (codes "--script") then Some (record found { next = ScriptFile })
    else with_word found w (after_prefix (codes "--script=") w))

abbrev pub read_next : Next → Found Word → Word → Option (Found Word)
read_next Any found w = begin_item found w
read_next ScriptFile found w = with_script found w

abbrev pub read_word : Found Word → Word → Option (Found Word)
read_word found w = read_next found.next found w

abbrev pub read_words : Found Word → List Word → Option (Found Word)
read_words found [] = Some found
read_words found (w ∷ words) = option_and_then (λ f. read_words f words) (read_word found w)

abbrev pub options_with : Next → Option Word → Option Word → Bool → Option (Options Word)
options_with Any None script trace = None
options_with Any (Some file) script trace = Some (record { file = file; script = script; trace = trace })
options_with ScriptFile file script trace = None

abbrev pub options_of : Found Word → Option (Options Word)
options_of found = options_with found.next found.file found.script found.trace

abbrev pub options_in : List Word → Option (Options Word)
options_in words = option_and_then options_of (read_words none_found words)

-- ---- the words of the other commands

abbrev pub file_in_words : List Word → Option Word
file_in_words [] = None
file_in_words (w ∷ []) = if is_file_word w then Some w else None
file_in_words (w ∷ v ∷ words) = None

abbrev pub audit_in : List Word → Option (Command Word)
audit_in [] = None
audit_in (v ∷ []) = None
audit_in (v ∷ w ∷ []) = if is_file_word v && is_file_word w then Some (Audit v w) else None
audit_in (v ∷ w ∷ u ∷ words) = None

abbrev pub amount : ℕ → ℕ → Amount
amount seed lines = record { seed = seed; lines = lines }

abbrev pub amount_in : List Word → Option Amount
amount_in [] = None
amount_in (seed ∷ []) = None
amount_in (seed ∷ lines ∷ []) = option_and_then (λ s. option_map (amount s) (number_in 20 1 1000000 lines)) (number_in 20 0 (2 ^ 31 - 1) seed)
amount_in (seed ∷ lines ∷ w ∷ words) = None

-- ---- commands

abbrev pub command_by : Word → List Word → Option (Command Word)
command_by name rest =
    if bytes_eq name (codes "run") then option_map Run (options_in rest)
    else (if bytes_eq name (codes "resume") then option_map Resume (options_in rest)
    else (if bytes_eq name (codes "drill") then option_map Drill (amount_in rest)
    else (if bytes_eq name (codes "check") then option_map Check (file_in_words rest)
    else (if bytes_eq name (codes "meaning") then option_map Meaning (file_in_words rest)
    else (if bytes_eq name (codes "audit") then audit_in rest
    else (if bytes_eq name (codes "generate") then option_map Generate (amount_in rest) else None))))))

abbrev pub command_in : List Word → Option (Command Word)
command_in [] = None
command_in (name ∷ rest) = command_by name rest
