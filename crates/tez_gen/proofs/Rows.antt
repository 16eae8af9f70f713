-- Worked rows, each by computing: the states of seed 1, and the line of their words.
use Rattle.std.specs.Prelude.{◌≡◌, ◌/◌, codes, refl}
use Rattle.std.specs.Fmt.{digits}
use Rattle.tez_gen.specs.Generate.{line_after, next, text_after, third, word_of}

first : next 1 / 65536 ≡ 16838
unfolding next
first = refl

second : next (next 1) / 65536 ≡ 5758
unfolding next
second = refl

last : third 1 / 65536 ≡ 10113
unfolding next third
last = refl

one_line : text_after 1 1 ≡ codes "w838 w758 w113\n"
unfolding digits next word_of third line_after
one_line = refl
