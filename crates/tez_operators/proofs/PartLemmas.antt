-- Records that are gathered from parts.
--     taken, left_out      a step of the loop over parts
use Rattle.std.proofs.Common.{◌≡◌, ℕ, ◌+◌, ◌<◌, Bool, true, false, cond, List, [], ◌∷◌, ◌++◌, length, take, get_or, sym, ap, ◌∙◌, filter, flat_map, Option}
use Rattle.std.proofs.lemmas.List.{take_more}
use Rattle.std.proofs.lemmas.List.Concat.{flat_map-append}
use Rattle.std.proofs.lemmas.List.Elements.{filter-append}
use Rattle.tez_lists.proofs.Flat.{append-nil}
use Rattle.tez_ids.specs.declared.VertexId.{VertexId}
use Rattle.tez_operators.specs.Process.{Primary, records_of}

module _ (passes : Option VertexId → Bool) (parts : Primary) (i : ℕ) (part : Option VertexId × List (List ℕ)) (low : i < length parts) (is : part ≡ get_or parts i part) where
  next : records_of passes (take (i + 1) parts) ≡ records_of passes (take i parts) ++ records_of passes (part ∷ [])
  next =
      ap (records_of passes) (take_more parts i part low ∙ ap (λ p. take i parts ++ p ∷ []) (sym is))
      ∙ ap (flat_map (λ p. p.1)) (filter-append (λ p. passes p.0) (take i parts) (part ∷ []))
      ∙ flat_map-append (λ p. p.1) (filter (λ p. passes p.0) (take i parts)) (filter (λ p. passes p.0) (part ∷ []))

  pub taken : (was now : List (List ℕ)) → passes part.0 ≡ true → was ≡ records_of passes (take i parts) → now ≡ was ++ part.1 → now ≡ records_of passes (take (i + 1) parts)
  taken was now passed w n =
      let one : records_of passes (part ∷ []) ≡ part.1 = ap (λ b. flat_map (λ p. p.1) (cond b (part ∷ []) [])) passed ∙ append-nil part.1 in
      n ∙ ap (λ xs. xs ++ part.1) w ∙ ap (λ xs. records_of passes (take i parts) ++ xs) (sym one) ∙ sym next

  pub left_out : (was now : List (List ℕ)) → passes part.0 ≡ false → was ≡ records_of passes (take i parts) → now ≡ was → now ≡ records_of passes (take (i + 1) parts)
  left_out was now failed w n =
      let none : records_of passes (part ∷ []) ≡ [] = ap (λ b. flat_map (λ p. p.1) (cond b (part ∷ []) [])) failed in
      n ∙ w ∙ sym (append-nil (records_of passes (take i parts))) ∙ ap (λ xs. records_of passes (take i parts) ++ xs) (sym none) ∙ sym next
