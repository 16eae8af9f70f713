-- An order of other lists of the same bags.
--     orders_same      orders of the same bags read the same inputs
use Rattle.std.proofs.Common.{◌≡◌, ◌∙◌, ℕ, ◌+◌, bytes_eq, Bool, true, false, cond, not, List, [], ◌∷◌, ◌++◌, map, filter, flat_map, Option, None, Some, refl, sym, ap, ap₂, unwrap_or}
use Rattle.std.proofs.lemmas.List.Sums.{sum_by-append}
use Rattle.tez_lists.proofs.Cases.{cases}
use Rattle.tez_record.specs.Bag.{sort, first_or}
use Rattle.tez_record.proofs.BagLemmas.{same_bag, sum_by-same}
use Rattle.tez_record.proofs.PartsLemmas.{flat_map-same}
use Rattle.tez_ids.specs.declared.VertexId.{VertexId}
use Rattle.tez_plan.specs.declared.parts.VertexSpec.{VertexSpec}
use Rattle.tez_plan.specs.declared.parts.Step.{Step}
use Rattle.tez_plan.specs.declared.parts.Head.{Head}
use Rattle.tez_plan.specs.declared.parts.Head.TheVariants.{Each, Sum, Count, Distinct, Join, Lookup, KeepIn, DropIn}
use Rattle.tez_plan.specs.Dag.{Dag, from, vertex}
use Rattle.tez_operators.specs.Process.{Keys, Primary, is_left, records_of, reads}
use Rattle.tez_values.specs.Heads.{HeadInputs, SameInputs, head_rows, is_bad_for_head}
use Rattle.tez_values.specs.Steps.{step_rows, is_bad_for, bad_in_steps}
use Rattle.tez_values.specs.Program.{output, first_bad, least_of}
use Rattle.tez_values.proofs.SameLemmas.{filter-same, head_rows-same, output-same}
use Rattle.tez_history.specs.Shape.{Edge}
use Rattle.tez_assembly.specs.Order.{Records, ahead, beside, keys_for, part_for, source_part, primary_for, side_for}
use Rattle.tez_assembly.specs.Laws.{SameBags}

-- ---- lists of the same bags

append-same : (xs ys zs ws : Records) → sort xs ≡ sort ys → sort zs ≡ sort ws → sort (xs ++ zs) ≡ sort (ys ++ ws)
append-same xs ys zs ws e d = same_bag (xs ++ zs) (ys ++ ws) (λ r.
    let one = λ (s : List ℕ). cond (bytes_eq r s) 1 0 in
    sum_by-append one xs zs ∙ ap₂ (λ (m n : ℕ). m + n) (sum_by-same one xs ys e) (sum_by-same one zs ws d) ∙ sym (sum_by-append one ys ws))

parts_same : (g : Dag) (q : Option VertexId → Bool) (copy other : ℕ → Records) (xs : List Edge) → SameBags copy other → sort (records_of q (map (part_for g copy) xs)) ≡ sort (records_of q (map (part_for g other) xs))
parts_same g q copy other [] h = refl
parts_same g q copy other (x ∷ xs) h = cases (q (Some (vertex (from g x.1))))
    (λ t. rw t (append-same (copy x.0) (other x.0) (records_of q (map (part_for g copy) xs)) (records_of q (map (part_for g other) xs)) (h x.0) (parts_same g q copy other xs h)))
    (λ t. rw t (parts_same g q copy other xs h))

primary_same : (g : Dag) (v : ℕ) (q : Option VertexId → Bool) (share : List ℕ → Records) (source : Option (List ℕ)) (copy other : ℕ → Records) (xs : List Edge) → SameBags copy other
    → (s : VertexSpec) → s.source ≡ source → sort (records_of q (source_part share s ++ map (part_for g copy) xs)) ≡ sort (records_of q (source_part share s ++ map (part_for g other) xs))
primary_same g v q share None copy other xs h s e = rw e (parts_same g q copy other xs h)
primary_same g v q share (Some name) copy other xs h s e = rw e (cases (q None)
    (λ t. rw t (append-same (share name) (share name) (records_of q (map (part_for g copy) xs)) (records_of q (map (part_for g other) xs)) refl (parts_same g q copy other xs h)))
    (λ t. rw t (parts_same g q copy other xs h)))

beside_same : (copy other : ℕ → Records) (xs : List Edge) → SameBags copy other → sort (flat_map (λ (e : Edge). copy e.0) xs) ≡ sort (flat_map (λ (e : Edge). other e.0) xs)
beside_same copy other [] h = refl
beside_same copy other (x ∷ xs) h = append-same (copy x.0) (other x.0) (flat_map (λ (e : Edge). copy e.0) xs) (flat_map (λ (e : Edge). other e.0) xs) (h x.0) (beside_same copy other xs h)

side_same : (g : Dag) (v : ℕ) (head : Head) (copy other : ℕ → Records) → SameBags copy other → sort (unwrap_or (side_for g v head copy) []) ≡ sort (unwrap_or (side_for g v head other) [])
side_same g v Each copy other h = refl
side_same g v (Sum value) copy other h = refl
side_same g v Count copy other h = refl
side_same g v Distinct copy other h = refl
side_same g v (Join left) copy other h = refl
side_same g v (Lookup key side_key) copy other h = beside_same copy other (beside g v) h
side_same g v (KeepIn key side_key) copy other h = beside_same copy other (beside g v) h
side_same g v (DropIn key side_key) copy other h = beside_same copy other (beside g v) h

pub orders_same : (g : Dag) (v : ℕ) (s : VertexSpec) (share : List ℕ → Records) (copy other : ℕ → Records) → SameBags copy other
    → SameInputs (reads s.head (keys_for g v s.head) (primary_for g v s share copy) (side_for g v s.head copy)) (reads s.head (keys_for g v s.head) (primary_for g v s share other) (side_for g v s.head other))
orders_same g v s share copy other h =
    let keys = keys_for g v s.head in
    record {
      columns = refl;
      primary = primary_same g v (is_left s.head keys) share s.source copy other (ahead g v) h s refl;
      partner_columns = refl;
      partner = primary_same g v (λ u. not (is_left s.head keys u)) share s.source copy other (ahead g v) h s refl;
      side = side_same g v s.head copy other h;
    }
