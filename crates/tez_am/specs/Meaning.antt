-- What is said of the sinks of a job.
--     sink_line name records bytes      the line of a sink
--     summary job                       the line of each sink, in the order of vertices
--     meaning_text job                  each of these lines, with the sink's text after it
use Rattle.std.specs.Prelude.{ℕ, List, ◌++◌, codes, length, decimal}
use Rattle.std.specs.List.{flat_map}
use Rattle.tez_meaning.specs.Jobs.{Job}
use Rattle.tez_meaning.specs.Value.{value, sink_text, sinks}

unfoldable pub sink_line : List ℕ → ℕ → ℕ → List ℕ
sink_line name records bytes = codes "sink " ++ name ++ codes " records " ++ decimal records ++ codes " bytes " ++ decimal bytes ++ codes "\n"

-- the line of the sink of this vertex
abbrev pub line_of : Job → ℕ × List ℕ → List ℕ
line_of job sink = sink_line sink.1 (length (value job sink.0)) (length (sink_text job sink.0))

abbrev pub summary : Job → List ℕ
summary job = flat_map (line_of job) (sinks 0 job.plan.vertices)

abbrev pub meaning_text : Job → List ℕ
meaning_text job = flat_map (λ sink. line_of job sink ++ sink_text job sink.0) (sinks 0 job.plan.vertices)
