-- Worked examples, each by computing.
use Rattle.std.proofs.Common.{◌≡◌, ℕ, true, false, List, [], ◌∷◌, refl, ⊎_elim, Some, codes}
use Rattle.std.specs.Fmt.{digits}
use Rattle.tez_plan.proofs.Samples.{one, wc, again, pairs, countries}
use Rattle.tez_meaning.specs.Jobs.{Job, job_of}
use Rattle.tez_meaning.specs.Value.{value, bad, first_bad_vertex, sink_text, sums}
use Rattle.tez_meaning.specs.Published.{IsPublishedOnce, IsPublishedAtMostOnce}
use Rattle.tez_plan.specs.Order.{topo}

-- the words of `a b a`
abbrev words_job : Job
words_job = job_of wc ((codes "in.txt", codes "a b a\n") ∷ [])

words : sink_text words_job 1 ≡ codes "a\t2\nb\t1\n"
unfolding digits value
words = refl

words_sums : sums words_job ≡ (2, 8) ∷ []
unfolding digits value
words_sums = refl

abbrev counts : List ℕ × List ℕ
counts = (codes "counts", codes "a\t2\nb\t1\n")

-- its text once, and not twice
words_once : IsPublishedOnce words_job (counts ∷ [])
unfolding digits value
words_once = (refl, tt)

words_twice : IsPublishedAtMostOnce words_job (counts ∷ counts ∷ []) → ⊥
unfolding digits value
words_twice h = ⊎_elim (λ none. cc) (λ one. cc) h.0

-- of an empty file
nothing : (sink_text (job_of one ((codes "in.txt", []) ∷ [])) 0 ≡ []) × (sums (job_of one ((codes "in.txt", []) ∷ [])) ≡ (0, 0) ∷ [])
unfolding digits value
nothing = (refl, refl)

kept : sink_text (job_of one ((codes "in.txt", codes "ab\nc\nb\n") ∷ [])) 0 ≡ codes "ab\nb\n"
unfolding value
kept = refl

-- a sum of nineteen digits is no number
abbrev too_long : Job
too_long = job_of again ((codes "in.txt", codes "k\t999999999999999999\nk\t999999999999999999\n") ∷ [])

nineteen_digits : (sink_text too_long 1 ≡ codes "k\t1999999999999999998\n") × (sink_text too_long 2 ≡ [])
unfolding digits value
nineteen_digits = (refl, refl)

bad_again : (bad too_long 0 ≡ false) × (bad too_long 1 ≡ false) × (bad too_long 2 ≡ true) × (first_bad_vertex too_long ≡ Some 2)
unfolding digits value topo
bad_again = (refl, refl, refl, refl)

-- left and right by their first fields
joined : sink_text (job_of pairs ((codes "l.txt", codes "k\t1\nk\t2\nx\t0\n") ∷ (codes "r.txt", codes "k\ta\nk\tb\nk\tc\ny\td\n") ∷ [])) 2
    ≡ codes "k\t1\tk\ta\nk\t1\tk\tb\nk\t1\tk\tc\nk\t2\tk\ta\nk\t2\tk\tb\nk\t2\tk\tc\n"
unfolding value
joined = refl

-- the amounts of each country
by_country : sink_text (job_of countries ((codes "orders.txt", codes "o1\tann\t30\no2\tbob\t15\no3\tann\t12\n") ∷ (codes "users.txt", codes "ann\tFR\nbob\tDE\n") ∷ [])) 0
    ≡ codes "DE\t15\nFR\t42\n"
unfolding digits value
by_country = refl
