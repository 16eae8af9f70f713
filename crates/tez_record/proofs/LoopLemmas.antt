-- A step of a loop over records, of which r is the next one and more are left after it. The loop's
-- invariant is `made ++ f left ≡ f rs`, where f is what the loop makes of all records rs, and left
-- are those that are still to come.
--     kept_one, passed_over      f is `filter p`
--     rows_added                 f is `flat_map rows`
use Rattle.std.proofs.Common.{◌≡◌, ℕ, Bool, true, false, cond, List, [], ◌∷◌, ◌++◌, ap, sym, ◌∙◌, append_assoc}
use Rattle.std.specs.List.{filter, flat_map}

pub kept_one : (p : List ℕ → Bool) (kept left more : List (List ℕ)) (r : List ℕ) (now rs : List (List ℕ)) → left ≡ r ∷ more → p r ≡ true → now ≡ kept ++ r ∷ []
    → kept ++ filter p left ≡ filter p rs → now ++ filter p more ≡ filter p rs
kept_one p kept left more r now rs first passes pushed is =
    let here : filter p left ≡ r ∷ filter p more = ap (filter p) first ∙ ap (λ b. cond b (r ∷ filter p more) (filter p more)) passes in
    ap (λ xs. xs ++ filter p more) pushed ∙ append_assoc kept (r ∷ []) (filter p more) ∙ ap (λ xs. kept ++ xs) (sym here) ∙ is

pub passed_over : (p : List ℕ → Bool) (kept left more : List (List ℕ)) (r : List ℕ) (rs : List (List ℕ)) → left ≡ r ∷ more → p r ≡ false
    → kept ++ filter p left ≡ filter p rs → kept ++ filter p more ≡ filter p rs
passed_over p kept left more r rs first fails is =
    let here : filter p left ≡ filter p more = ap (filter p) first ∙ ap (λ b. cond b (r ∷ filter p more) (filter p more)) fails in
    ap (λ xs. kept ++ xs) (sym here) ∙ is

pub rows_added : (rows : List ℕ → List (List ℕ)) (made left more : List (List ℕ)) (r : List ℕ) (now rs : List (List ℕ)) → left ≡ r ∷ more → now ≡ made ++ rows r
    → made ++ flat_map rows left ≡ flat_map rows rs → now ++ flat_map rows more ≡ flat_map rows rs
rows_added rows made left more r now rs first pushed is =
    ap (λ xs. xs ++ flat_map rows more) pushed ∙ append_assoc made (rows r) (flat_map rows more) ∙ ap (λ xs. made ++ xs) (sym (ap (flat_map rows) first)) ∙ is
