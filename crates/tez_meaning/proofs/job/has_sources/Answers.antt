use Rattle.std.proofs.Common.{◌≡◌, ◌∙◌, ◌==◌, ℕ, true, List, [], ◌∷◌, Option, Some, None, count_by, bytes_eq, refl, sym, ap, eqb-true, eq-eqb}
use Rattle.std.specs.Prelude.{IfSome}
use Rattle.std.specs.List.{AllByRecursion, list_all}
use Rattle.std.specs.Option.{option_map_or}
use Rattle.std.proofs.lemmas.Bool.{and_parts, and_from}
use Rattle.tez_plan.specs.declared.parts.VertexSpec.{VertexSpec}
use Rattle.tez_meaning.specs.Jobs.{Files, IsThereOnce, is_there_once}
use Rattle.tez_meaning.proofs.job.has_sources.Goals as goal

abbrev often : Files → List ℕ → ℕ
often files name = count_by (λ file. bytes_eq file.0 name) files

one_there : (files : Files) (source : Option (List ℕ)) → option_map_or (λ name. often files name == 1) source true ≡ true → IfSome source (λ name. often files name ≡ 1)
one_there files None e = tt
one_there files (Some name) e = eqb-true (often files name) 1 e

one_told : (files : Files) (source : Option (List ℕ)) → IfSome source (λ name. often files name ≡ 1) → option_map_or (λ name. often files name == 1) source true ≡ true
one_told files None e = refl
one_told files (Some name) e = eq-eqb (often files name) 1 e

all_there : (files : Files) (ss : List VertexSpec) → list_all (is_there_once files) ss ≡ true → AllByRecursion (IsThereOnce files) ss
all_there files [] e = tt
all_there files (s ∷ ss) e = let parts = and_parts _ _ e in (one_there files s.source parts.0, all_there files ss parts.1)

all_told : (files : Files) (ss : List VertexSpec) → AllByRecursion (IsThereOnce files) ss → list_all (is_there_once files) ss ≡ true
all_told files [] h = refl
all_told files (s ∷ ss) h = and_from _ _ (one_told files s.source h.0) (all_told files ss h.1)

pub returns : goal.returns
returns c =
    let files = c.args.sources.now in
    let same : c.all_there_once.result ≡ list_all (is_there_once files) c.args.plan.now.vertices = c.all_there_once.ensures ∙ ap (list_all (is_there_once files)) c.vertices.ensures.same in
    (λ e. all_there files c.args.plan.now.vertices (sym same ∙ e), λ h. same ∙ all_told files c.args.plan.now.vertices h)
