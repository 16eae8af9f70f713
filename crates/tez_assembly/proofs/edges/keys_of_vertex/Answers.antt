use Rattle.std.proofs.Common.{◌≡◌, ◌∙◌, ◌++◌, true, false, not, filter, map, sym, ap, ap₂}
use Rattle.std.proofs.lemmas.List.{map-append}
use Rattle.tez_operators.specs.Process.{Keys}
use Rattle.tez_meaning.specs.Value.{is_left}
use Rattle.tez_meaning.proofs.JoinLemmas.{ahead_of}
use Rattle.tez_meaning.proofs.ReadLemmas.{ahead_edges}
use Rattle.tez_assembly.specs.Order.{key_at}
use Rattle.tez_assembly.proofs.EdgeLemmas.{keys_plain}
use Rattle.tez_assembly.proofs.edges.keys_of_vertex.Goals as goal

pub returns : goal.returns
returns c =
    let p = c.args.plan.now in
    let v = c.args.v.0 in
    let head = c.args.head.now in
    let left = filter (is_left head) (ahead_of p v) in
    let right = filter (λ e. not (is_left head e)) (ahead_of p v) in
    c.in_ok-push_keys-2.ensures
    ∙ ap₂ (λ (xs ys : Keys). xs ++ ys)
    (c.in_ok-push_keys.ensures ∙ ap₂ (λ (xs ys : Keys). xs ++ ys) c.new-keys.ensures.items (ap (map (key_at p)) (ahead_edges p v head true)))
    (ap (map (key_at p)) (ahead_edges p v head false))
    ∙ sym (keys_plain p v head ∙ map-append (key_at p) left right)
