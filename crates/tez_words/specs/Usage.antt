-- What is printed where a command line is faulty.
use Rattle.std.specs.Prelude.{ℕ, List, codes}

abbrev pub usage_text : List ℕ
usage_text = codes "usage: tez run or resume DAG [--script FILE] [--trace], drill SEED LINES, check DAG, meaning DAG, audit DAG TRACE, generate SEED LINES"
