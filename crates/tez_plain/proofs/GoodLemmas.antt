-- Where no number is read, no record is bad.
--     none_bad_for_head, none_bad_for_step
use Rattle.std.proofs.Common.{◌≡◌, ℕ, false, ◌&&◌, List, [], ◌∷◌, refl, sym, ap, ◌∙◌, filter, is_none}
use Rattle.tez_lists.proofs.Cases.{both}
use Rattle.tez_record.specs.Field.{number}
use Rattle.tez_plan.specs.declared.parts.Head.{Head}
use Rattle.tez_plan.specs.declared.parts.Head.TheVariants.{Each, Sum, Count, Distinct, Join, Lookup, KeepIn, DropIn}
use Rattle.tez_plan.specs.declared.parts.Step.{Step}
use Rattle.tez_plan.specs.declared.parts.Step.TheVariants.{Tokenise, Filter, Project}
use Rattle.tez_values.specs.Heads.{is_bad_for_head}
use Rattle.tez_values.specs.Steps.{is_bad_for}
use Rattle.tez_plain.specs.Numbers.{head_reads_number, step_reads_number}

none_pass : (rs : List (List ℕ)) → [] ≡ filter (λ r. false) rs
none_pass [] = refl
none_pass (r ∷ rs) = none_pass rs

pub none_bad_for_head : (h : Head) (rs : List (List ℕ)) → head_reads_number h ≡ false → [] ≡ filter (is_bad_for_head h) rs
none_bad_for_head Each rs e = none_pass rs
none_bad_for_head (Sum value) rs e = both refl e
none_bad_for_head Count rs e = none_pass rs
none_bad_for_head Distinct rs e = none_pass rs
none_bad_for_head (Join left) rs e = none_pass rs
none_bad_for_head (Lookup key side_key) rs e = none_pass rs
none_bad_for_head (KeepIn key side_key) rs e = none_pass rs
none_bad_for_head (DropIn key side_key) rs e = none_pass rs

pub none_bad_for_step : (s : Step) (rs : List (List ℕ)) → step_reads_number s ≡ false → [] ≡ filter (is_bad_for s) rs
none_bad_for_step Tokenise rs e = none_pass rs
none_bad_for_step (Filter i test) rs e = none_pass rs ∙ ap (λ b. filter (λ r. b && is_none (number r i)) rs) (sym e)
none_bad_for_step (Project cols) rs e = none_pass rs
