use Rattle.std.proofs.Common.{◌≡◌, ◌+◌, ◌<◌, ◌≤◌, ◌^◌, [], ◌∷◌, ◌++◌, arith, inl, inr, length, subst, ◌∙◌}
use Rattle.tez_ports.specs.Image.{Disk, writes}
use Rattle.tez_journal.specs.Text.{entries}
use Rattle.tez_journal.specs.Crash.{Leaves, IsOneOf, IsOneOfThree, EndsAt, IsSafe}
use Rattle.tez_journal.proofs.Telling.{told_map, told_broken, told_some, told_fact, on_err}
use Rattle.tez_journal.proofs.CrashLemmas.{behind_the_gate, laid_read, laid_leaves, laid_opens, laid_safe, laid_torn, laid_torn_leaves, gated_one, last_two}
use Rattle.tez_journal.proofs.gate.Gate.append.Goals as goal

pub returns-in-Err-clause-faultless : goal.returns-in-Err-clause-faultless
returns-in-Err-clause-faultless g c faultless failed rs h =
    let there = told_some _ (g.met.D.JournalDisk.faultless_tells c.args.disk.now faultless) in
    let place : c.args.self.now.place ≡ length (entries rs) = (h.read there.0 there.1).1 in
    subst (λ n. 2 ^ 62 ≤ n + length c.args.body.now + 6) place (c.in-Err.ensures.faultless faultless failed)

pub write_at-requires-clause-inside : goal.write_at-requires-clause-inside
write_at-requires-clause-inside g c =
    let rs = c.requires.sound.0 in
    let h = c.requires.sound.1 in
    let r = c.requires.«record» in
    let place = told_fact _ _ (c.lay.new.self.place ≡ length (entries rs)) c.lay.ensures.told (λ d told. c.lay.ensures.place ∙ (h.read d told).1) in
    λ d told.
    let there = behind_the_gate d.read rs c.lay.new.self.place (laid_read rs r.0 c.args.body.now c.lay.new.self.place d (c.in-Ok.ensures.laid rs h d told) (r.1, r.2) (place d told), place d told) in
    omega arith

pub returns-in_err-write_at-clause-err_read : goal.returns-in_err-write_at-clause-err_read
returns-in_err-write_at-clause-err_read g c = on_err c.from_residual.result (λ rs r h is.
    let b = c.args.body.now in
    let gate = c.lay.new.self.place in
    let place = told_fact _ _ (gate ≡ length (entries rs)) c.lay.ensures.told (λ d told. c.lay.ensures.place ∙ (h.read d told).1) in
    let laid = c.in-Ok.ensures.laid rs h in
    told_broken gate 1 _ _ (λ (d : Disk). IsOneOf rs (rs ++ r ∷ []) d.read) c.in_err-write_at.ensures.err
    (λ d told. inl (inr (laid_read rs r b gate d (laid d told) is (place d told))))
    (λ torn d told t. gated_one rs (rs ++ r ∷ []) torn (laid_torn rs r b gate d (laid d told) is (place d told) torn t)))

pub returns-in_err-write_at-clause-err_images : goal.returns-in_err-write_at-clause-err_images
returns-in_err-write_at-clause-err_images g c = on_err c.from_residual.result (λ rs r h is kept s.
    let b = c.args.body.now in
    let gate = c.lay.new.self.place in
    let qs = rs ++ r ∷ [] in
    let place = told_fact _ _ (gate ≡ length (entries rs)) c.lay.ensures.told (λ d told. c.lay.ensures.place ∙ (h.read d told).1) in
    let laid = c.in-Ok.ensures.laid rs h in
    told_broken gate 1 _ _ (Leaves (IsOneOfThree kept rs qs)) c.in_err-write_at.ensures.err
    (λ d told image i. last_two kept rs qs image (laid_leaves rs r b gate d (laid d told) is (place d told) image i))
    (λ torn d told t image i. last_two kept rs qs image (laid_torn_leaves rs r b gate d (laid d told) is (place d told) torn image i)))

pub returns-clause-holds : goal.returns-clause-holds
returns-clause-holds g c = λ rs r h is.
    let b = c.args.body.now in
    let gate = c.lay.new.self.place in
    let place = told_fact _ _ (gate ≡ length (entries rs)) c.lay.ensures.told (λ d told. c.lay.ensures.place ∙ (h.read d told).1) in
    let laid = c.in-Ok.ensures.laid rs h in
    let inside : c.args.self.now.place + length b + 6 < 2 ^ 62 = c.in-Ok.ensures.inside in
    let same : gate ≡ c.args.self.now.place = c.lay.ensures.place in
    record {
      small = omega arith;
      read = told_map (writes gate (1 ∷ [])) _ _ (λ (d : Disk). EndsAt (gate + (length b + 5)) (rs ++ r ∷ []) d.read) c.in_ok-write_at.ensures.ok (λ d told. laid_opens rs r b gate d (laid d told) is (place d told));
    }

pub returns-clause-survives : goal.returns-clause-survives
returns-clause-survives g c = λ rs r h is.
    let b = c.args.body.now in
    let gate = c.lay.new.self.place in
    let place = told_fact _ _ (gate ≡ length (entries rs)) c.lay.ensures.told (λ d told. c.lay.ensures.place ∙ (h.read d told).1) in
    let laid = c.in-Ok.ensures.laid rs h in
    told_map (writes gate (1 ∷ [])) _ _ (IsSafe (gate + (length b + 5)) rs (rs ++ r ∷ [])) c.in_ok-write_at.ensures.ok (λ d told. laid_safe rs r b gate d (laid d told) is (place d told))

pub returns-clause-sound : goal.returns-clause-sound
returns-clause-sound g c =
    let open_now = c.requires.sound in
    let r = c.requires.«record» in
    (open_now.0 ++ r.0 ∷ [], returns-clause-holds g c open_now.0 r.0 open_now.1 (r.1, r.2))
