-- What the joins of the containers add up to.
use Rattle.std.proofs.Common.{◌≡◌, ◌<◌, ℕ, zero, suc, List, [], ◌∷◌, ◌++◌, length, take, drop, sym, refl, ap, ◌∙◌, subst, below_more, rules, arith}
use Rattle.std.specs.Prelude.{slice_index_or}
use Rattle.std.proofs.lemmas.List.{get_or_append_left}
use Rattle.std.proofs.lemmas.Grind.{common_steps}
use native.Mathlib.Decide.{dec_lt}
use Rattle.tez_ids.specs.declared.AttemptId.{AttemptId}
use Rattle.tez_orders.specs.Outcomes.{ReportParts}
use Rattle.tez_crew.specs.declared.book.PlaceRecord.{PlaceRecord}
use Rattle.tez_crew.specs.declared.event_queue.EventView.{EventView}
use Rattle.tez_crew.specs.declared.place_handle.PlaceHandle.{PlaceHandle}
use Rattle.tez_crew.specs.Books.{rows_put, taken_of}
use Rattle.tez_crew.specs.Contract.{Reports}
use Rattle.tez_crew.specs.Desks.{puts_of}
use Rattle.tez_crew.specs.Events.{getter, of, KnowsAll}
use Rattle.tez_crew.specs.Lists.{Begins}
use Rattle.tez_crew.proofs.EventMoves.{of_append}
use Rattle.tez_crew.proofs.Opened.{read_last}

module _ {A : Type 0} where
  begins_append : (xs ys : List A) → Begins xs (xs ++ ys)
  begins_append [] ys = refl
  begins_append (x ∷ xs) ys = ap (λ l. x ∷ l) (begins_append xs ys)

  begins_on : (xs ys zs : List A) → Begins xs ys → Begins ys zs → Begins xs zs
  begins_on [] ys zs a b = refl
  begins_on (x ∷ xs) [] zs a b = absurd (let e = ap length a in omega arith)
  begins_on (x ∷ xs) (y ∷ ys) [] a b = absurd (let e = ap length b in omega arith)
  begins_on (x ∷ xs) (y ∷ ys) (z ∷ zs) a b =
      let first : x ≡ z = ap (λ l. slice_index_or l 0 x) a ∙ ap (λ l. slice_index_or l 0 x) b in let rest = begins_on xs ys zs (ap (drop 1) a) (ap (drop 1) b) in λ i. first i ∷ rest i

  short : (xs ys : List A) → xs ++ ys ≡ [] → xs ≡ []
  short [] ys e = refl
  short (x ∷ xs) ys e = absurd (let h = ap length e in omega arith)

taken_left : (rows : List PlaceRecord) (row : PlaceRecord) (p : ℕ) → p < length rows → taken_of (rows ++ row ∷ []) p ≡ taken_of rows p
taken_left [] row p low = absurd (omega arith)
taken_left (r ∷ rs) row zero low = refl
taken_left (r ∷ rs) row (suc p) low = taken_left rs row p (omega arith)

taken_last : (rows : List PlaceRecord) (row : PlaceRecord) → taken_of (rows ++ row ∷ []) (length rows) ≡ take row.taken row.put.items
taken_last [] row = refl
taken_last (r ∷ rs) row = taken_last rs row

pub reports_more : (known : List (List AttemptId)) (rows : List PlaceRecord) (row : PlaceRecord) (reported : List AttemptId) → Reports known rows → Begins reported (take row.taken row.put.items) → Reports (known ++ reported ∷ []) (rows ++ row ∷ [])
reports_more known rows row reported before new = (
  search (rules, common_steps, before.0),
  λ p low. below_more (λ k. Begins (slice_index_or (known ++ reported ∷ []) k []) (taken_of (rows ++ row ∷ []) k)) (length rows)
      (λ k less. let long = before.0 in subst (λ (y : List AttemptId × List AttemptId). Begins y.0 y.1) (λ j. (sym (get_or_append_left known (reported ∷ []) [] k (omega arith)) j, sym (taken_left rows row k less) j)) (before.1 k less))
      (subst (λ (y : List AttemptId × List AttemptId). Begins y.0 y.1) (λ j. (sym (read_last known reported [] (length rows) before.0) j, sym (taken_last rows row) j)) new) p (search (rules, common_steps)),
)

pub puts_more : (rows : List PlaceRecord) (row : PlaceRecord) (place_handle : PlaceHandle) (rest all : List PlaceHandle) (total : List (List AttemptId)) → all ≡ place_handle ∷ rest → row.put.items ≡ place_handle.put.items → rows_put rows ++ puts_of all ≡ total → rows_put (rows ++ row ∷ []) ++ puts_of rest ≡ total
puts_more [] row place_handle rest all total is same before = (λ i. same i ∷ puts_of rest) ∙ ap puts_of (sym is) ∙ before
puts_more (r ∷ rs) row place_handle rest all total is same before = ap (λ l. r.put.items ∷ l) (puts_more rs row place_handle rest all _ is same refl) ∙ before

at_place : (v old : EventView) (rows : List PlaceRecord) (items : List ReportParts) → v ≡ getter old.got old.made v.known → old.made ≡ length rows → Reports v.known rows → KnowsAll v items → (p : ℕ) → Dec (p < length rows) → Begins (of p old.got) (taken_of rows p)
at_place v old rows items is made reports all p (yes low) =
    let long = reports.0 in
    let got : of p (v.got ++ items) ≡ of p old.got ++ of p items = ap (λ (w : EventView). of p (w.got ++ items)) is ∙ of_append p old.got items in
    begins_on (of p old.got) (slice_index_or v.known p []) (taken_of rows p)
    (subst (λ l. Begins (of p old.got) l) (sym (all.joined p (omega arith) ∙ got)) (begins_append (of p old.got) (of p items))) (reports.1 p low)
at_place v old rows items is made reports all p (no over) =
    let got : of p (v.got ++ items) ≡ of p old.got ++ of p items = ap (λ (w : EventView). of p (w.got ++ items)) is ∙ of_append p old.got items in
    let makes : v.made ≡ length rows = ap (λ (w : EventView). w.made) is ∙ made in
    subst (λ l. Begins l (taken_of rows p)) (sym (short (of p old.got) (of p items) (sym got ∙ all.fresh p (omega arith)))) refl

pub closes : (v old : EventView) (rows : List PlaceRecord) (items : List ReportParts) → v ≡ getter old.got old.made v.known → old.made ≡ length rows → Reports v.known rows → KnowsAll v items → (p : ℕ) → Begins (of p old.got) (taken_of rows p)
closes v old rows items is made reports all p = at_place v old rows items is made reports all p (dec_lt p (length rows))

pub own_view : (v : EventView) (got : List ReportParts) (made : ℕ) → v ≡ getter got made v.known → v ≡ getter v.got v.made v.known
own_view v got made is = is ∙ (λ i. getter (sym (ap (λ (w : EventView). w.got) is) i) (sym (ap (λ (w : EventView). w.made) is) i) v.known)

pub same_length : (rows : List PlaceRecord) (handles : List PlaceHandle) → rows_put rows ≡ puts_of handles → length handles ≡ length rows
same_length [] [] e = refl
same_length [] (l ∷ ls) e = absurd (let h = ap length e in omega arith)
same_length (r ∷ rs) [] e = absurd (let h = ap length e in omega arith)
same_length (r ∷ rs) (l ∷ ls) e = ap suc (same_length rs ls (ap (drop 1) e))
