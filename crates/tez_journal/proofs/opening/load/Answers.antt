use Rattle.std.proofs.Common.{◌≡◌, ◌∙◌, [], ◌∷◌, ap, is_some, arith}
use Rattle.tez_ports.specs.Image.{Disk, settled}
use Rattle.tez_journal.specs.Text.{IsText}
use Rattle.tez_journal.specs.Crash.{EndsAt, IsSafe, Leaves}
use Rattle.tez_journal.proofs.Telling.{told_map, told_same, told_before, untold_same, ok_all, on_err}
use Rattle.tez_journal.proofs.OpenLemmas.{fresh_safe, still_short, unwritten_safe, unwritten_leaves}
use Rattle.tez_journal.proofs.opening.load.Goals as goal

pub returns-then-size-gt1-clause-holds : goal.returns-then-size-gt1-clause-holds
returns-then-size-gt1-clause-holds g c =
    let disk = g.D.JournalDisk.disk in
    ok_all c.read.result _ _ (λ t ends. told_same (disk c.size.new.self) (disk c.read.new.disk) (λ (d : Disk). EndsAt t.gate t.records.items d.read) c.read.ensures.same ends) c.read.ensures.records

pub returns-then-size-gt1-clause-survives : goal.returns-then-size-gt1-clause-survives
returns-then-size-gt1-clause-survives g c =
    let disk = g.D.JournalDisk.disk in
    let same = c.read.ensures.same ∙ c.size.ensures.same in
    ok_all c.read.result _ _
    (λ t ends none. told_same (disk c.args.disk.now) (disk c.read.new.disk) (IsSafe t.gate t.records.items t.records.items) same
    (λ d told. unwritten_safe d t.records.items t.gate (g.met.D.JournalDisk.sound c.args.disk.now d told) (none d told) (ends d (c.size.ensures.same ∙ told))))
    c.read.ensures.records

pub returns-then-size-gt1-clause-refused : goal.returns-then-size-gt1-clause-refused
returns-then-size-gt1-clause-refused g c = λ is d told. c.read.ensures.refused is d (c.size.ensures.same ∙ told)

pub returns-then-size-gt1-clause-err_images : goal.returns-then-size-gt1-clause-err_images
returns-then-size-gt1-clause-err_images g c =
    let disk = g.D.JournalDisk.disk in
    on_err c.read.result
    (λ rs was. told_same (disk c.args.disk.now) (disk c.read.new.disk) (Leaves (λ image. IsText image rs)) (c.read.ensures.same ∙ c.size.ensures.same)
    (λ d told. unwritten_leaves d (λ image. IsText image rs) (g.met.D.JournalDisk.sound c.args.disk.now d told) (was d told).0 (was d told).1))

pub returns-in-Ok-begin-clause-survives : goal.returns-in-Ok-begin-clause-survives
returns-in-Ok-begin-clause-survives g c = λ none.
    let disk = g.D.JournalDisk.disk in
    let t = c.blank.result in
    told_map (λ _. settled (0 ∷ [])) (disk c.size.new.self) (disk c.begin.new.disk) (IsSafe t.gate t.records.items t.records.items) c.in-Ok-begin.ensures.ok (λ d told. fresh_safe t.records.items t.gate c.blank.ensures.records c.blank.ensures.gate)

pub returns-in-Err-begin-clause-err_same : goal.returns-in-Err-begin-clause-err_same
returns-in-Err-begin-clause-err_same g c = λ long.
    let disk = g.D.JournalDisk.disk in
    let few = c.if-size-gt1.false in
    untold_same (disk c.args.disk.now) (disk c.begin.new.disk) (c.begin.ensures.told ∙ ap is_some c.size.ensures.same)
    (λ d told. let a = long d told in let b = c.in-Ok.ensures.ok d told in omega arith)

pub returns-in-Err-begin-clause-err_read : goal.returns-in-Err-begin-clause-err_read
returns-in-Err-begin-clause-err_read g c = λ rs was d told.
    let disk = g.D.JournalDisk.disk in
    let before = told_before (disk c.args.disk.now) (disk c.begin.new.disk) d (c.begin.ensures.told ∙ ap is_some c.size.ensures.same) told in
    let few = c.if-size-gt1.false in
    let size = c.in-Ok.ensures.ok before.0 before.1 in
    still_short before.0.read d.read rs (omega arith) (c.in-Err-begin.ensures.err d told) (was before.0 before.1)

pub returns-in-Err-begin-clause-err_images : goal.returns-in-Err-begin-clause-err_images
returns-in-Err-begin-clause-err_images g c = λ rs was d told image is.
    let disk = g.D.JournalDisk.disk in
    let before = told_before (disk c.args.disk.now) (disk c.begin.new.disk) d (c.begin.ensures.told ∙ ap is_some c.size.ensures.same) told in
    let few = c.if-size-gt1.false in
    let size = c.in-Ok.ensures.ok before.0 before.1 in
    let none = told_same (disk c.args.disk.now) (disk c.size.new.self) (λ (d : Disk). d.pending ≡ []) c.size.ensures.same (λ d told. (was d told).0) in
    still_short before.0.read image rs (omega arith) (c.in-Err-begin.ensures.err_images none d told image is) (was before.0 before.1).1
