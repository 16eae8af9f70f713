-- Each move on the event queue keeps its rule.
use Rattle.std.proofs.Common.{◌≡◌, ◌≢◌, ◌+◌, ℕ, true, true≢false, List, [], ◌∷◌, ◌++◌, length, set, sym, refl, ap, ◌∙◌, subst, append_assoc, below_more, rules, arith}
use Rattle.std.specs.Prelude.{slice_index_or}
use Rattle.std.proofs.lemmas.List.{length-set, get_or_append_left, get_or-append_right}
use Rattle.std.proofs.lemmas.Grind.{common_steps}
use Rattle.crossbeam_queue.proofs.Lists.{set_else}
use mathlib.Core.Option.{some, some-ne-none}
use lib.ListN.{get_elem?}
use Rattle.crossbeam_queue.specs.Fifo.{Pushes, Pops, Forks, Merges, Learns}
use Rattle.tez_ids.specs.declared.AttemptId.{AttemptId}
use Rattle.tez_orders.specs.Outcomes.{ReportParts}
use Rattle.tez_crew.specs.declared.event_queue.EventView.{EventView}
use Rattle.tez_crew.specs.Events.{getter, reporter, spent_view, of, KnowsEvents, EventsFit, KnowsAll}
use Rattle.tez_crew.proofs.Seats.{each_set, each_snoc}

pub of_append : (p : ℕ) (xs ys : List ReportParts) → of p (xs ++ ys) ≡ of p xs ++ of p ys
unfolding of
of_append p xs ys = search (rules, common_steps)

of_here : (p : ℕ) (x : ReportParts) → x.order.place ≡ p → of p (x ∷ []) ≡ x.order.attempt ∷ []
unfolding of
of_here p x e = search rules

of_else : (p : ℕ) (x : ReportParts) → x.order.place ≢ p → of p (x ∷ []) ≡ []
unfolding of
of_else p x e = search rules

-- one more report, of the place p
pub more_here : (p : ℕ) (all : List ReportParts) (x : ReportParts) → x.order.place ≡ p → of p (all ++ x ∷ []) ≡ of p all ++ x.order.attempt ∷ []
more_here p all x e = of_append p all (x ∷ []) ∙ ap (λ l. of p all ++ l) (of_here p x e)

pub more_else : (p : ℕ) (all : List ReportParts) (x : ReportParts) → x.order.place ≢ p → of p (all ++ x ∷ []) ≡ of p all
more_else p all x e = of_append p all (x ∷ []) ∙ ap (λ l. of p all ++ l) (of_else p x e) ∙ search (rules, common_steps)

pub begins : EventsFit [] (getter [] 0 [] ∷ [])
unfolding of
begins = record {
  got = [];
  made = 0;
  known = [];
  count = refl;
  behind = omega arith;
  fresh = (λ p low. refl);
  joined = (λ p low. absurd (omega arith));
  each = each_snoc (KnowsEvents [] 0 [] []) [] (getter [] 0 []) ((λ p. absurd (true≢false (sym p))), λ _. record { seat = refl; gets = refl; makes = refl; knows = refl }) (λ j u e. absurd (some-ne-none u (sym e)));
}

pub reports : (n pass : ℕ) (v : EventView) (x : ReportParts) → v.reports ≡ true → x.order.place ≡ v.place
    → Pushes EventsFit n pass v x (λ w. w ≡ reporter v.place (v.reported ++ x.order.attempt ∷ []))
reports n pass v x may here items views _ h at =
    let mine = (h.each pass v at).0 may in
    let all = h.got ++ items in
    let longer : all ++ x ∷ [] ≡ h.got ++ (items ++ x ∷ []) = append_assoc h.got items (x ∷ []) in
    let w : EventView = reporter v.place (v.reported ++ x.order.attempt ∷ []) in
    let other_place : (p : ℕ) → x.order.place ≢ p → of p (h.got ++ (items ++ x ∷ [])) ≡ of p all = (λ p apart. ap (of p) (sym longer) ∙ more_else p all x apart) in
    let same_place : of v.place (h.got ++ (items ++ x ∷ [])) ≡ of v.place all ++ x.order.attempt ∷ [] = ap (of v.place) (sym longer) ∙ more_here v.place all x here in
    let below = mine.below in let out = mine.out in (
      w,
      record {
        got = h.got;
        made = h.made;
        known = h.known;
        count = length-set views pass _ ∙ h.count;
        behind = h.behind;
        fresh = (λ p low. other_place p (λ e. let same : v.place ≡ p = sym here ∙ e in absurd (omega arith)) ∙ h.fresh p low);
        joined = (λ p low. h.joined p low ∙ sym (other_place p (λ e. let same : v.place ≡ p = sym here ∙ e in absurd (omega arith))));
        each = each_set (KnowsEvents h.got h.made h.known (h.got ++ (items ++ x ∷ []))) views pass w
            ((λ _. record { seat = mine.seat; below = below; out = out; tells = ap (λ l. l ++ x.order.attempt ∷ []) mine.tells ∙ sym same_place }), λ p. absurd (true≢false (sym p)))
            (λ j u other e. (
              (λ p. let theirs = (h.each j u e).0 p in record {
                seat = theirs.seat;
                below = theirs.below;
                out = theirs.out;
                tells = theirs.tells ∙ sym (other_place u.place (λ q. let same : v.place ≡ u.place = sym here ∙ q in other (theirs.seat ∙ ap (λ k. k + 1) (sym same) ∙ sym mine.seat)));
              }),
              (h.each j u e).1,
            ));
      },
      refl,
    )

pub gets : (pass : ℕ) (v : EventView) → v.gets ≡ true → Pops EventsFit pass v (λ x w. w ≡ getter (v.got ++ x ∷ []) v.made v.known)
gets pass v may x items views h at =
    let mine = (h.each pass v at).1 may in
    let got = h.got ++ x ∷ [] in
    let w : EventView = getter (v.got ++ x ∷ []) v.made v.known in
    let same : h.got ++ x ∷ items ≡ got ++ items = sym (append_assoc h.got (x ∷ []) items) in (
      w,
      record {
        got = got;
        made = h.made;
        known = h.known;
        count = length-set views pass _ ∙ h.count;
        behind = h.behind;
        fresh = (λ p low. ap (of p) (sym same) ∙ h.fresh p low);
        joined = (λ p low. h.joined p low ∙ ap (of p) same);
        each = each_set (KnowsEvents got h.made h.known (got ++ items)) views pass w
            ((λ p. absurd (true≢false (sym p))), λ _. record { seat = mine.seat; gets = ap (λ l. l ++ x ∷ []) mine.gets; makes = mine.makes; knows = mine.knows })
            (λ j u other e. (
              (λ p. let theirs = (h.each j u e).0 p in record { seat = theirs.seat; below = theirs.below; out = theirs.out; tells = theirs.tells ∙ ap (of u.place) same }),
              λ p. absurd (other (((h.each j u e).1 p).seat ∙ sym mine.seat)),
            ));
      },
      refl,
    )

pub hires : (pass : ℕ) (v : EventView) → v.gets ≡ true → Forks EventsFit pass v (getter v.got (v.made + 1) v.known) (reporter v.made [])
hires pass v may items views h at =
    let mine = (h.each pass v at).1 may in
    let left : EventView = getter v.got (v.made + 1) v.known in
    let right : EventView = reporter v.made [] in
    let vs : List EventView = set views pass left in
    let makes = mine.makes in
    let long : length vs ≡ h.made + 1 = length-set views pass _ ∙ h.count in
    let behind = h.behind in
    record {
      got = h.got;
      made = h.made + 1;
      known = h.known;
      count = search (rules, common_steps, long);
      behind = omega arith;
      fresh = (λ p low. h.fresh p (omega arith));
      joined = h.joined;
      each = each_snoc (KnowsEvents h.got (h.made + 1) h.known (h.got ++ items)) vs right
          ((λ _. record { seat = long ∙ ap (λ k. k + 1) (sym makes); below = omega arith; out = omega arith; tells = sym (ap (λ k. of k (h.got ++ items)) makes ∙ h.fresh h.made (omega arith)) }), λ p. absurd (true≢false (sym p)))
          (each_set (KnowsEvents h.got (h.made + 1) h.known (h.got ++ items)) views pass left
          ((λ p. absurd (true≢false (sym p))), λ _. record { seat = mine.seat; gets = mine.gets; makes = ap (λ k. k + 1) makes; knows = mine.knows })
          (λ j u other e. (
            (λ p. let theirs = (h.each j u e).0 p in let b = theirs.below in record { seat = theirs.seat; below = omega arith; out = theirs.out; tells = theirs.tells }),
            λ p. absurd (other (((h.each j u e).1 p).seat ∙ sym mine.seat)),
          )));
    }

-- a list with one more at its end, read at its end and before
at_last : (known : List (List AttemptId)) (x : List AttemptId) → slice_index_or (known ++ x ∷ []) (length known) [] ≡ x
at_last known x = get_or-append_right known (x ∷ []) (length known) (length known) [] refl (omega arith) ∙ search (rules, common_steps)

pub ends : (pass : ℕ) (v : EventView) (other : ℕ) (u : EventView) → v.gets ≡ true → u.reports ≡ true → length v.known ≡ u.place
    → Merges EventsFit pass v other u (getter v.got v.made (v.known ++ u.reported ∷ [])) spent_view
ends pass v other u a b next items views h at two at' =
    let both : EventView = getter v.got v.made (v.known ++ u.reported ∷ []) in
    let mine = (h.each pass v at).1 a in
    let was : get_elem? views other ≡ some u = subst (λ l. l ≡ some u) (set_else views pass other both two) at' in
    let theirs = (h.each other u was).0 b in
    let all = h.got ++ items in
    let known = h.known ++ u.reported ∷ [] in
    let place : u.place ≡ length h.known = sym next ∙ ap length mine.knows in
    let below = theirs.below in
    let long : length known ≡ length h.known + 1 = search (rules, common_steps) in
    let Now : ℕ → EventView → Type 0 = KnowsEvents h.got h.made known all in
    record {
      got = h.got;
      made = h.made;
      known = known;
      count = length-set (set views pass both) other _ ∙ length-set views pass _ ∙ h.count;
      behind = omega arith;
      fresh = h.fresh;
      joined = (λ p low. below_more (λ k. slice_index_or known k [] ≡ of k all) (length h.known) (λ k less. get_or_append_left h.known (u.reported ∷ []) [] k less ∙ h.joined k less)
          (at_last h.known u.reported ∙ theirs.tells ∙ ap (λ k. of k all) place) p (omega arith));
      each = each_set Now (set views pass both) other spent_view
          ((λ p. absurd (true≢false (sym p))), λ p. absurd (true≢false (sym p)))
          (λ j y apart e. each_set (λ j y. j ≢ other → Now j y) views pass both
          (λ _. ((λ p. absurd (true≢false (sym p))), λ _. record { seat = mine.seat; gets = mine.gets; makes = mine.makes; knows = ap (λ l. l ++ u.reported ∷ []) mine.knows }))
          (λ j y not_pass e apart. (
            (λ p. let its = (h.each j y e).0 p in let out = its.out in let b = its.seat in let c = theirs.seat in
                let elsewhere : y.place ≢ u.place = (λ q. apart (its.seat ∙ ap (λ k. k + 1) q ∙ sym theirs.seat)) in
                let further : y.place ≢ length h.known = (λ q. elsewhere (q ∙ sym place)) in
                record { seat = its.seat; below = its.below; out = omega arith; tells = its.tells }),
            λ p. absurd (not_pass (((h.each j y e).1 p).seat ∙ sym mine.seat)),
          )) j y e apart);
    }

pub learns : (pass : ℕ) (v : EventView) → v.gets ≡ true → Learns EventsFit pass v (KnowsAll v)
learns pass v may items views h at = let mine = (h.each pass v at).1 may in
    let got : h.got ++ items ≡ v.got ++ items = ap (λ l. l ++ items) (sym mine.gets) in
    let knows = ap length mine.knows in let makes = mine.makes in record {
      joined = (λ p low. ap (λ l. slice_index_or l p []) mine.knows ∙ h.joined p (omega arith) ∙ ap (of p) got);
      fresh = (λ p low. ap (of p) (sym got) ∙ h.fresh p (omega arith));
    }

pub of_none : (p : ℕ) → of p [] ≡ []
unfolding of
of_none p = refl
