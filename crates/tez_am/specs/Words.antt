-- The words of a command.
--     file_of command words     the file of `COMMAND FILE`, and None of any other words
--     dag_word words            the DAG file of `run FILE`
--     check_word words          the DAG file of `check FILE`
--     meaning_word words        the DAG file of `meaning FILE`
--     is_for_run words          the first word is that of a run
use Rattle.std.specs.Prelude.{ℕ, ◌&&◌, ◌||◌, ◌==◌, List, [], ◌∷◌, codes, Bool, false, not, bytes_eq, if◌then◌else◌, Option, Some, None}

-- not empty, and no option
abbrev pub is_file_word : List ℕ → Bool
is_file_word [] = false
is_file_word (b ∷ word) = not (b == 45)

abbrev pub file_of : List ℕ → List (List ℕ) → Option (List ℕ)
file_of name [] = None
file_of name (command ∷ []) = None
file_of name (command ∷ file ∷ []) = if bytes_eq command name && is_file_word file then Some file else None
file_of name (command ∷ file ∷ word ∷ words) = None

abbrev pub dag_word : List (List ℕ) → Option (List ℕ)
dag_word words = file_of (codes "run") words

abbrev pub check_word : List (List ℕ) → Option (List ℕ)
check_word words = file_of (codes "check") words

abbrev pub meaning_word : List (List ℕ) → Option (List ℕ)
meaning_word words = file_of (codes "meaning") words

abbrev pub is_run_word : List ℕ → Bool
is_run_word command = bytes_eq command (codes "run") || bytes_eq command (codes "resume") || bytes_eq command (codes "drill")

abbrev pub is_for_run : List (List ℕ) → Bool
is_for_run [] = false
is_for_run (command ∷ words) = is_run_word command
