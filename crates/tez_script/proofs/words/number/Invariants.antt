use Rattle.std.proofs.Common.{◌≡◌, ◌<◌, ◌^◌, ◌+◌, ◌*◌, ◌-◌, take, fold, true}
use Rattle.std.specs.List.{list_all}
use Rattle.std.specs.Char.{is_ascii_digit}
use Rattle.tez_script.proofs.words.number.Given as goal

abbrev pub invariant-loop-digit : goal.invariant-loop-digit
invariant-loop-digit l =
    (l.value ≡ fold (λ n d. n * 10 + (d - 48)) 0 (take l.digit-index l.word))
    × (list_all is_ascii_digit (take l.digit-index l.word) ≡ true)
    × (l.value < 10 ^ l.digit-index)
