-- Where a fault stands: keys joined by `.`, and places of lists in brackets. The document's own path is `.`.
use Rattle.std.specs.Prelude.{ℕ, List, [], ◌∷◌, ◌++◌, codes, decimal, Err}
use Rattle.tez_dag_json.specs.Answers.{Answer}
use Rattle.tez_dag_json.specs.declared.fault.DagFault.TheVariants.{Shape, OutOfRange}

-- the path of a value, with nothing for the document
abbrev pub Path : Type 0
Path = List ℕ

abbrev pub at_key : Path → List ℕ → Path
at_key [] key = key
at_key (b ∷ bs) key = (b ∷ bs) ++ codes "." ++ key

abbrev pub at_place : Path → ℕ → Path
at_place path n = path ++ codes "[" ++ decimal n ++ codes "]"

abbrev pub shown : Path → List ℕ
shown [] = codes "."
shown (b ∷ bs) = b ∷ bs

abbrev pub shape : {X : Type 0} → Path → Answer X
shape path = Err (Shape (shown path))

abbrev pub out_of_range : {X : Type 0} → Path → Answer X
out_of_range path = Err (OutOfRange (shown path))
