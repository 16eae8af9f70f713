-- The worked row, by computing: the drill of seed 1 and one line publishes each of its words with the count 1.
use Rattle.std.specs.Prelude.{◌≡◌, [], ◌∷◌, codes, refl}
use Rattle.std.specs.Fmt.{digits}
use Rattle.tez_drill.specs.Drill.{drill_edges, drill_job, drill_vertices}
use Rattle.tez_gen.specs.Generate.{line_after, next, third, word_of}
use Rattle.tez_meaning.specs.Value.{sink_text, sums, value}

one_line : sink_text (drill_job 1 1) 1 ≡ codes "w113\t1\nw758\t1\nw838\t1\n"
unfolding digits next word_of third line_after drill_vertices drill_edges value
one_line = refl

one_line_sums : sums (drill_job 1 1) ≡ (3, 21) ∷ []
unfolding digits next word_of third line_after drill_vertices drill_edges value
one_line_sums = refl
