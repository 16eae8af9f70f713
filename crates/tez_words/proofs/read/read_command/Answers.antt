use Rattle.std.proofs.Common.{map, string_bytes, sym, ◌∙◌}
use Rattle.tez_words.proofs.CommandWords.{to_command, from_command}
use Rattle.tez_words.proofs.read.read_command.Goals as goal

pub returns : goal.returns
returns c = λ asked. (
  (λ h. to_command (map string_bytes c.args.words.now) asked (sym c.command_in.ensures ∙ h)),
  (λ h. c.command_in.ensures ∙ from_command (map string_bytes c.args.words.now) asked h),
)
