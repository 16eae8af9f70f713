-- Each move on an order queue keeps its rule.
use Rattle.std.proofs.Common.{◌≡◌, ◌≢◌, ℕ, true, false, true≢false, List, [], ◌∷◌, ◌++◌, length, set, sym, refl, ap, ◌∙◌, subst, append_assoc}
use mathlib.Core.Option.{some, some-ne-none}
use lib.ListN.{get_elem?}
use Rattle.crossbeam_queue.specs.Fifo.{Pushes, Pops, Forks, Merges, Learns}
use Rattle.tez_orders.specs.Orders.{OrderParts}
use Rattle.tez_crew.specs.declared.order_queue.OrderView.{OrderView}
use Rattle.tez_crew.specs.Orders.{order_view, putter, taker, attempts, KnowsOrders, OrdersFit, IsPartLeft}
use Rattle.tez_crew.proofs.Seats.{each_set, each_snoc}

attempts_snoc : (items : List OrderParts) (x : OrderParts) → attempts (items ++ x ∷ []) ≡ attempts items ++ x.attempt ∷ []
attempts_snoc [] x = refl
attempts_snoc (y ∷ ys) x = ap (λ l. y.attempt ∷ l) (attempts_snoc ys x)

pub begins : OrdersFit [] (order_view true true [] [] ∷ [])
begins = record {
  writer = 0;
  reader = 0;
  put = [];
  taken = [];
  whole = refl;
  each = each_snoc (KnowsOrders 0 0 [] []) [] (order_view true true [] []) ((λ _. (refl, refl)), λ _. (refl, refl)) (λ j u e. absurd (some-ne-none u (sym e)));
}

pub puts : (n pass : ℕ) (v : OrderView) (x : OrderParts) → v.puts ≡ true → Pushes OrdersFit n pass v x (λ w. w ≡ putter (v.put ++ x.attempt ∷ []))
puts n pass v x may items views _ h at =
    let mine = (h.each pass v at).0 may in
    let put = h.put ++ x.attempt ∷ [] in
    let w : OrderView = putter (v.put ++ x.attempt ∷ []) in (
      w,
      record {
        writer = h.writer;
        reader = h.reader;
        put = put;
        taken = h.taken;
        whole = ap (λ l. l ++ x.attempt ∷ []) h.whole ∙ append_assoc h.taken (attempts items) (x.attempt ∷ []) ∙ ap (λ l. h.taken ++ l) (sym (attempts_snoc items x));
        each = each_set (KnowsOrders h.writer h.reader put h.taken) views pass w
            ((λ _. (mine.0, ap (λ l. l ++ x.attempt ∷ []) mine.1)), λ p. absurd (true≢false (sym p)))
            (λ j u other e. ((λ p. absurd (other (((h.each j u e).0 p).0 ∙ sym mine.0))), (h.each j u e).1));
      },
      refl,
    )

pub takes : (pass : ℕ) (v : OrderView) → v.takes ≡ true → Pops OrdersFit pass v (λ x w. w ≡ taker (v.taken ++ x.attempt ∷ []))
takes pass v may x items views h at =
    let mine = (h.each pass v at).1 may in
    let taken = h.taken ++ x.attempt ∷ [] in
    let w : OrderView = taker (v.taken ++ x.attempt ∷ []) in (
      w,
      record {
        writer = h.writer;
        reader = h.reader;
        put = h.put;
        taken = taken;
        whole = h.whole ∙ sym (append_assoc h.taken (x.attempt ∷ []) (attempts items));
        each = each_set (KnowsOrders h.writer h.reader h.put taken) views pass w
            ((λ p. absurd (true≢false (sym p))), λ _. (mine.0, ap (λ l. l ++ x.attempt ∷ []) mine.1))
            (λ j u other e. ((h.each j u e).0, λ p. absurd (other (((h.each j u e).1 p).0 ∙ sym mine.0))));
      },
      refl,
    )

pub forks : (pass : ℕ) (v : OrderView) → v.puts ≡ true → v.takes ≡ true → Forks OrdersFit pass v (putter v.put) (taker v.taken)
forks pass v a b items views h at =
    let mine = h.each pass v at in
    let vs : List OrderView = set views pass (putter v.put) in
    record {
      writer = h.writer;
      reader = length vs;
      put = h.put;
      taken = h.taken;
      whole = h.whole;
      each = each_snoc (KnowsOrders h.writer (length vs) h.put h.taken) vs (taker v.taken)
          ((λ p. absurd (true≢false (sym p))), λ _. (refl, (mine.1 b).1))
          (each_set (KnowsOrders h.writer (length vs) h.put h.taken) views pass (putter v.put)
          ((λ _. mine.0 a), λ p. absurd (true≢false (sym p)))
          (λ j u other e. ((h.each j u e).0, λ p. absurd (other (((h.each j u e).1 p).0 ∙ sym (mine.1 b).0)))));
    }

pub merges : (pass : ℕ) (v : OrderView) (other : ℕ) (u : OrderView) → v.puts ≡ true → u.takes ≡ true → Merges OrdersFit pass v other u (order_view true true v.put u.taken) (order_view false false [] [])
merges pass v other u a b items views h at two at' =
    let both : OrderView = order_view true true v.put u.taken in
    let mine = (h.each pass v at).0 a in
    let was : get_elem? views other ≡ some u = subst (λ l. l ≡ some u) (Rattle.crossbeam_queue.proofs.Lists.set_else views pass other both two) at' in
    let theirs = (h.each other u was).1 b in
    record {
      writer = h.writer;
      reader = pass;
      put = h.put;
      taken = h.taken;
      whole = h.whole;
      each = each_set (KnowsOrders h.writer pass h.put h.taken) (set views pass both) other (order_view false false [] [])
          ((λ p. absurd (true≢false (sym p))), λ p. absurd (true≢false (sym p)))
          (λ j y apart e. each_set (λ j y. j ≢ other → KnowsOrders h.writer pass h.put h.taken j y) views pass both
          (λ _. ((λ _. mine), λ _. (refl, theirs.1)))
          (λ j y not_pass e apart. ((h.each j y e).0, λ p. absurd (apart (((h.each j y e).1 p).0 ∙ sym theirs.0)))) j y e apart);
    }

pub learns : (pass : ℕ) (v : OrderView) → v.puts ≡ true → v.takes ≡ true → Learns OrdersFit pass v (λ items. v.put ≡ v.taken ++ attempts items)
learns pass v a b items views h at = let mine = h.each pass v at in (mine.0 a).1 ∙ h.whole ∙ ap (λ l. l ++ attempts items) (sym (mine.1 b).1)

pub learns_left : (pass : ℕ) (v : OrderView) → v.puts ≡ true → Learns OrdersFit pass v (IsPartLeft v.put)
learns_left pass v a items views h at = (h.taken, ((h.each pass v at).0 a).1 ∙ h.whole)
