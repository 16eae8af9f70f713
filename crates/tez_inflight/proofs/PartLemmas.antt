-- The part of an edge gathers records, where each edge comes once.
use Rattle.std.proofs.Common.{◌≡◌, ℕ, ◌<◌, ◌==◌, zero, suc, Bool, true, false, not, ◌&&◌, ◌||◌, List, [], ◌∷◌, ◌++◌, length, map, get_or, refl, sym, ap, ◌∙◌, true≢false, eqb-true, arith, if◌then◌else◌}
use Rattle.std.specs.List.{list_any}
use Rattle.std.proofs.Math.ListN.{set}
use Rattle.std.proofs.lemmas.List.{set-get_or}
use Rattle.std.proofs.lemmas.List.Folds.{list_any_at}
use Rattle.tez_ids.specs.declared.EdgeId.{EdgeId}
use Rattle.tez_lists.proofs.Cases.{cases, both}
use Rattle.tez_inflight.specs.Seats.{Seat, Vacant, Gathers, Out, Records, numbered, nothing_over, numbers_differ, gathers_over, gathering}
use Rattle.tez_inflight.specs.Held.{edges_of, is_over, IsPartOf, IsNumbered}

or_false : (a b : Bool) → (a || b) ≡ false → (a ≡ false) × (b ≡ false)
or_false true b h = absurd (true≢false h)
or_false false b h = (refl, h)

and_true : (a b : Bool) → (a && b) ≡ true → (a ≡ true) × (b ≡ true)
and_true true b h = (refl, h)
and_true false b h = absurd (true≢false (sym h))

not_true : (a : Bool) → not a ≡ true → a ≡ false
not_true true h = absurd (true≢false (sym h))
not_true false h = refl

pub none_over : (e : EdgeId) (rs : Records) (parts : List (EdgeId × Records)) → list_any (is_over e) parts ≡ false → map (gathers_over e.0 rs) (map numbered parts) ≡ map numbered parts
none_over e rs [] h = refl
none_over e rs (p ∷ ps) h =
    let k = or_false (is_over e p) (list_any (is_over e) ps) h in
    let here : (p.0.0 == e.0) ≡ false = k.0 in
    rw here (ap (λ xs. numbered p ∷ xs) (none_over e rs ps k.1))

any_edge : (n : ℕ) (parts : List (EdgeId × Records)) → list_any (λ m. m == n) (edges_of (map numbered parts)) ≡ list_any (λ q. q.0.0 == n) parts
any_edge n [] = refl
any_edge n (p ∷ ps) = ap (λ b. (p.0.0 == n) || b) (any_edge n ps)

no_other : (p : EdgeId × Records) (ps : List (EdgeId × Records)) → numbers_differ (edges_of (map numbered (p ∷ ps))) ≡ true → list_any (is_over p.0) ps ≡ false
no_other p ps h =
    let k = and_true (not (list_any (λ m. m == p.0.0) (edges_of (map numbered ps)))) (numbers_differ (edges_of (map numbered ps))) h in
    sym (any_edge p.0.0 ps) ∙ not_true (list_any (λ m. m == p.0.0) (edges_of (map numbered ps))) k.0

others_differ : (p : EdgeId × Records) (ps : List (EdgeId × Records)) → numbers_differ (edges_of (map numbered (p ∷ ps))) ≡ true → numbers_differ (edges_of (map numbered ps)) ≡ true
others_differ p ps h = (and_true (not (list_any (λ m. m == p.0.0) (edges_of (map numbered ps)))) (numbers_differ (edges_of (map numbered ps))) h).1

pub one_over : (e : EdgeId) (rs : Records) (parts : List (EdgeId × Records)) (i : ℕ) (d : EdgeId × Records) → numbers_differ (edges_of (map numbered parts)) ≡ true → i < length parts → is_over e (get_or parts i d) ≡ true
    → map (gathers_over e.0 rs) (map numbered parts) ≡ map numbered (set parts i ((get_or parts i d).0, (get_or parts i d).1 ++ rs))
one_over e rs [] i d differ within over = absurd (omega arith)
one_over e rs (p ∷ ps) zero d differ within over =
    let here : (p.0.0 == e.0) ≡ true = over in
    let same : p.0.0 ≡ e.0 = eqb-true p.0.0 e.0 here in
    let rest : list_any (is_over e) ps ≡ false = ap (λ n. list_any (λ q. q.0.0 == n) ps) (sym same) ∙ no_other p ps differ in
    rw here (ap (λ xs. (p.0.0, p.1 ++ rs) ∷ xs) (none_over e rs ps rest))
one_over e rs (p ∷ ps) (suc i) d differ within over =
    let there : list_any (is_over e) ps ≡ true = list_any_at (is_over e) ps i d (omega arith) over in
    cases (p.0.0 == e.0)
    (λ t. let same : p.0.0 ≡ e.0 = eqb-true p.0.0 e.0 t in both there (ap (λ n. list_any (λ q. q.0.0 == n) ps) (sym same) ∙ no_other p ps differ))
    (λ f. rw f (ap (λ xs. numbered p ∷ xs) (one_over e rs ps i d (others_differ p ps differ) (omega arith) over)))

-- the parts keep their edges
pub same_edges : (n : ℕ) (rs : Records) (parts : List (ℕ × Records)) → edges_of (map (gathers_over n rs) parts) ≡ edges_of parts
same_edges n rs [] = refl
same_edges n rs (p ∷ ps) = cases (p.0 == n)
    (λ t. rw t (ap (λ xs. p.0 ∷ xs) (same_edges n rs ps)))
    (λ f. rw f (ap (λ xs. p.0 ∷ xs) (same_edges n rs ps)))

pub over_nothing : (ns : List ℕ) → edges_of (map nothing_over ns) ≡ ns
over_nothing [] = refl
over_nothing (n ∷ ns) = ap (λ xs. n ∷ xs) (over_nothing ns)

pub part_gathered : (ok : Bool) (e : EdgeId) (rs more new : Records) (parts : List (EdgeId × Records)) (i : ℕ) (d : EdgeId × Records) → IsPartOf e parts i → numbers_differ (edges_of (map numbered parts)) ≡ true
    → more ≡ rs → new ≡ (if ok then (get_or parts i d).1 ++ more else (get_or parts i d).1)
    → map numbered (set parts i ((get_or parts i d).0, new)) ≡ (if ok then map (gathers_over e.0 rs) (map numbered parts) else map numbered parts)
part_gathered true e rs more new parts i d is differ same eq = rw (eq, same) (sym (one_over e rs parts i d differ is.within (is.over d)))
part_gathered false e rs more new parts i d is differ same eq = rw eq (ap (map numbered) (set-get_or parts i d))

numbered_more : (n : ℕ) (rs : Records) (d : Seat) → IsNumbered d → IsNumbered (gathering n rs d)
numbered_more n rs Vacant h = tt
numbered_more n rs (Gathers a parts) h = rw (same_edges n rs parts) h
numbered_more n rs (Out order) h = tt

pub numbered_after : (ok : Bool) (n : ℕ) (rs : Records) (d new : Seat) → IsNumbered d → new ≡ (if ok then gathering n rs d else d) → IsNumbered new
numbered_after true n rs d new h e = rw e (numbered_more n rs d h)
numbered_after false n rs d new h e = rw e h
