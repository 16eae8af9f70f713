-- Lines of words that are faulty, and some that are commands.
use Rattle.std.proofs.Common.{◌≡◌, true, false, List, [], ◌∷◌, codes, Some, None, refl, sym, ◌∙◌}
use Rattle.std.proofs.lemmas.Option.{none-some}
use Rattle.tez_words.specs.Commands.{Word, IsCommand}
use Rattle.tez_words.specs.declared.command.Command.{Command}
use Rattle.tez_words.specs.declared.command.Command.TheVariants.{Run, Resume}
use Rattle.tez_words.specs.Reading.{command_in}
use Rattle.tez_words.proofs.CommandWords.{to_command, from_command}

abbrev IsFaulty : List Word → Type 0
IsFaulty words = (c : Command Word) → IsCommand words c → ⊥

faulty : (words : List Word) → command_in words ≡ None → IsFaulty words
faulty words h c is = none-some c (sym h ∙ from_command words c is)

no_words : IsFaulty []
no_words = faulty [] refl

an_empty_word : IsFaulty ([] ∷ [])
an_empty_word = faulty ([] ∷ []) refl

run_alone : IsFaulty (codes "run" ∷ [])
run_alone = faulty (codes "run" ∷ []) refl

check_alone : IsFaulty (codes "check" ∷ [])
check_alone = faulty (codes "check" ∷ []) refl

meaning_alone : IsFaulty (codes "meaning" ∷ [])
meaning_alone = faulty (codes "meaning" ∷ []) refl

an_unknown_command : IsFaulty (codes "walk" ∷ codes "one.json" ∷ [])
an_unknown_command = faulty (codes "walk" ∷ codes "one.json" ∷ []) refl

two_files : IsFaulty (codes "check" ∷ codes "one.json" ∷ codes "one.json" ∷ [])
two_files = faulty (codes "check" ∷ codes "one.json" ∷ codes "one.json" ∷ []) refl

two_traces : IsFaulty (codes "run" ∷ codes "a.json" ∷ codes "--trace" ∷ codes "--trace" ∷ [])
two_traces = faulty (codes "run" ∷ codes "a.json" ∷ codes "--trace" ∷ codes "--trace" ∷ []) refl

options_do_not_end : IsFaulty (codes "run" ∷ codes "--" ∷ codes "a.json" ∷ [])
options_do_not_end = faulty (codes "run" ∷ codes "--" ∷ codes "a.json" ∷ []) refl

a_file_like_an_option : IsFaulty (codes "run" ∷ codes "-one.json" ∷ [])
a_file_like_an_option = faulty (codes "run" ∷ codes "-one.json" ∷ []) refl

an_empty_file : IsFaulty (codes "run" ∷ [] ∷ [])
an_empty_file = faulty (codes "run" ∷ [] ∷ []) refl

help : IsFaulty (codes "--help" ∷ [])
help = faulty (codes "--help" ∷ []) refl

with_script : IsCommand (codes "run" ∷ codes "--script=s" ∷ codes "a" ∷ []) (Run (record { file = codes "a"; script = Some (codes "s"); trace = false }))
with_script = to_command (codes "run" ∷ codes "--script=s" ∷ codes "a" ∷ []) (Run (record { file = codes "a"; script = Some (codes "s"); trace = false })) refl

with_all : IsCommand (codes "resume" ∷ codes "--trace" ∷ codes "--script" ∷ codes "s" ∷ codes "a" ∷ []) (Resume (record { file = codes "a"; script = Some (codes "s"); trace = true }))
with_all = to_command (codes "resume" ∷ codes "--trace" ∷ codes "--script" ∷ codes "s" ∷ codes "a" ∷ []) (Resume (record { file = codes "a"; script = Some (codes "s"); trace = true })) refl
