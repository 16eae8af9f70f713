-- The reader of command lines answers a command exactly where the words are that command.
use Rattle.std.proofs.Common.{◌≡◌, ◌↔◌, ◌-◌, ◌^◌, ◌&&◌, true, List, [], ◌∷◌, codes, Option, Some, None, if◌then◌else◌, option_map, refl, sym, ap, ◌∙◌, subst}
use Rattle.std.specs.Option.{option_and_then}
use Rattle.std.specs.Str.{bytes_eq}
use Rattle.std.proofs.lemmas.Bool.{and_parts, and_from}
use Rattle.std.proofs.lemmas.Option.{none-some, cond_some}
use Rattle.tez_words.specs.Commands.{Word, is_file_word, IsOptions, IsFile, AreFiles, IsAmount, Begins, IsCommand}
use Rattle.tez_words.specs.declared.command.Amount.{Amount}
use Rattle.tez_words.specs.declared.command.Command.{Command}
use Rattle.tez_words.specs.declared.command.Command.TheVariants.{Run, Resume, Drill, Check, Meaning, Audit, Generate}
use Rattle.tez_words.specs.Reading.{options_in, file_in_words, audit_in, amount, amount_in, number_in, command_in}
use Rattle.tez_words.proofs.Small.{by_if, one_value, chained, mapped}
use Rattle.tez_words.proofs.Numbers.{to_number, from_number}
use Rattle.tez_words.proofs.Items.{same_word}
use Rattle.tez_words.proofs.OptionWords.{options_are, options_read}

-- ---- what the other commands are given

file_is : (words : List Word) (w : Word) → file_in_words words ≡ Some w → IsFile words w
file_is [] w h = absurd (none-some w h)
file_is (v ∷ []) w h =
    let found = cond_some (is_file_word v) v w h in
    (subst (λ x. is_file_word x ≡ true) found.1 found.0, ap (λ x. x ∷ []) found.1)
file_is (v ∷ u ∷ words) w h = absurd (none-some w h)

file_read : (words : List Word) (w : Word) → IsFile words w → file_in_words words ≡ Some w
file_read words w (file, is) = subst (λ x. file_in_words x ≡ Some w) (sym is) (ap (λ b. if b then Some w else None) file)

files_are : (words : List Word) (c : Command Word) → audit_in words ≡ Some c → IsCommand (codes "audit" ∷ words) c
files_are [] c h = absurd (none-some c h)
files_are (v ∷ []) c h = absurd (none-some c h)
files_are (v ∷ w ∷ []) c h =
    let found = cond_some (is_file_word v && is_file_word w) (Audit v w) c h in
    let parts = and_parts (is_file_word v) (is_file_word w) found.0 in
    subst (IsCommand (codes "audit" ∷ v ∷ w ∷ [])) found.1 (v ∷ w ∷ [], refl, (parts.0, parts.1, refl))
files_are (v ∷ w ∷ u ∷ words) c h = absurd (none-some c h)

files_read : (words : List Word) (v w : Word) → AreFiles words v w → audit_in words ≡ Some (Audit v w)
files_read words v w (first, second, is) =
    subst (λ x. audit_in x ≡ Some (Audit v w)) (sym is) (ap (λ b. if b then Some (Audit v w) else None) (and_from (is_file_word v) (is_file_word w) first second))

amount_is : (words : List Word) (a : Amount) → amount_in words ≡ Some a → IsAmount words a
amount_is [] a h = absurd (none-some a h)
amount_is (s ∷ []) a h = absurd (none-some a h)
amount_is (s ∷ l ∷ []) a h =
    let (seed, seed_is, rest) = chained (λ n. option_map (amount n) (number_in 20 1 1000000 l)) (number_in 20 0 (2 ^ 31 - 1) s) a h in
    let (lines, lines_is, is) = mapped (amount seed) (number_in 20 1 1000000 l) a rest in
    subst (IsAmount (s ∷ l ∷ [])) is (s, l, refl, to_number 20 0 (2 ^ 31 - 1) seed s seed_is, to_number 20 1 1000000 lines l lines_is)
amount_is (s ∷ l ∷ w ∷ words) a h = absurd (none-some a h)

amount_read : (words : List Word) (a : Amount) → IsAmount words a → amount_in words ≡ Some a
amount_read words a (s, l, is, seed, lines) =
    subst (λ x. amount_in x ≡ Some a) (sym is)
    (ap (option_and_then (λ n. option_map (amount n) (number_in 20 1 1000000 l))) (from_number 20 0 (2 ^ 31 - 1) a.seed s seed)
    ∙ ap (option_map (amount a.seed)) (from_number 20 1 1000000 a.lines l lines))

-- ---- commands

-- a command whose name was tested
named : {A : Type 0} (name word : Word) (rest : List Word) (make : A → Command Word) (Rest : List Word → A → Type 0) (read : Option A) (c : Command Word)
    → bytes_eq name word ≡ true → option_map make read ≡ Some c → ((a : A) → read ≡ Some a → Rest rest a)
    → ((a : A) → Begins word (λ ws. Rest ws a) (name ∷ rest) → IsCommand (name ∷ rest) (make a)) → IsCommand (name ∷ rest) c
named name word rest make Rest read c same is found command =
    let (a, read_is, made) = mapped make read c is in
    subst (IsCommand (name ∷ rest)) made (command a (rest, ap (λ n. n ∷ rest) (same_word name word same), found a read_is))

pub to_command : (words : List Word) (c : Command Word) → command_in words ≡ Some c → IsCommand words c
to_command [] c h = absurd (none-some c h)
to_command (name ∷ rest) c h =
    by_if (bytes_eq name (codes "run")) _ _ _ h (λ e f. named name (codes "run") rest Run IsOptions (options_in rest) c e f (options_are rest) (λ a b. b))
    (λ e h1. by_if (bytes_eq name (codes "resume")) _ _ _ h1 (λ e f. named name (codes "resume") rest Resume IsOptions (options_in rest) c e f (options_are rest) (λ a b. b))
    (λ e h2. by_if (bytes_eq name (codes "drill")) _ _ _ h2 (λ e f. named name (codes "drill") rest Drill IsAmount (amount_in rest) c e f (amount_is rest) (λ a b. b))
    (λ e h3. by_if (bytes_eq name (codes "check")) _ _ _ h3 (λ e f. named name (codes "check") rest Check IsFile (file_in_words rest) c e f (file_is rest) (λ a b. b))
    (λ e h4. by_if (bytes_eq name (codes "meaning")) _ _ _ h4 (λ e f. named name (codes "meaning") rest Meaning IsFile (file_in_words rest) c e f (file_is rest) (λ a b. b))
    (λ e h5. by_if (bytes_eq name (codes "audit")) _ _ _ h5 (λ e f. subst (λ n. IsCommand (n ∷ rest) c) (sym (same_word name (codes "audit") e)) (files_are rest c f))
    (λ e h6. by_if (bytes_eq name (codes "generate")) _ _ _ h6 (λ e f. named name (codes "generate") rest Generate IsAmount (amount_in rest) c e f (amount_is rest) (λ a b. b))
    (λ e h7. absurd (none-some c h7))))))))

-- the words are this name and what follows it
begun_by : (words : List Word) (name : Word) (Rest : List Word → Type 0) (c : Command Word) → Begins name Rest words
    → ((rest : List Word) → Rest rest → command_in (name ∷ rest) ≡ Some c) → command_in words ≡ Some c
begun_by words name Rest c (rest, is, follows) read = subst (λ x. command_in x ≡ Some c) (sym is) (read rest follows)

pub from_command : (words : List Word) (c : Command Word) → IsCommand words c → command_in words ≡ Some c
from_command words (Run o) h = begun_by words (codes "run") (λ rest. IsOptions rest o) (Run o) h (λ rest is. ap (option_map Run) (options_read rest o is))
from_command words (Resume o) h = begun_by words (codes "resume") (λ rest. IsOptions rest o) (Resume o) h (λ rest is. ap (option_map Resume) (options_read rest o is))
from_command words (Drill a) h = begun_by words (codes "drill") (λ rest. IsAmount rest a) (Drill a) h (λ rest is. ap (option_map Drill) (amount_read rest a is))
from_command words (Check w) h = begun_by words (codes "check") (λ rest. IsFile rest w) (Check w) h (λ rest is. ap (option_map Check) (file_read rest w is))
from_command words (Meaning w) h = begun_by words (codes "meaning") (λ rest. IsFile rest w) (Meaning w) h (λ rest is. ap (option_map Meaning) (file_read rest w is))
from_command words (Audit v w) h = begun_by words (codes "audit") (λ rest. AreFiles rest v w) (Audit v w) h (λ rest is. files_read rest v w is)
from_command words (Generate a) h = begun_by words (codes "generate") (λ rest. IsAmount rest a) (Generate a) h (λ rest is. ap (option_map Generate) (amount_read rest a is))

pub commands_are_read : (words : List Word) (c : Command Word) → (command_in words ≡ Some c) ↔ IsCommand words c
commands_are_read words c = (to_command words c, from_command words c)

-- the words are one command at most
pub one_command : (words : List Word) (c d : Command Word) → IsCommand words c → IsCommand words d → c ≡ d
one_command words c d h i = one_value c d (sym (from_command words c h) ∙ from_command words d i)
