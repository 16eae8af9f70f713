use Rattle.std.proofs.Common.{◌≡◌, ◌∙◌, ◌≤◌, [], ◌∷◌, ℕ, option_map, List, length, ap, arith, sym, subst}
use Rattle.tez_ports.specs.Image.{Disk, overwrite, settled, syncs, writes}
use Rattle.tez_journal.specs.Crash.{Leaves}
use Rattle.tez_journal.proofs.Telling.{told_map, told_same, told_either, map_to}
use Rattle.tez_journal.proofs.CrashLemmas.{settled_leaves}
use Rattle.tez_journal.proofs.OpenLemmas.{fresh_read, fresh_leaves}
use Rattle.tez_journal.proofs.opening.begin.Goals as goal

pub returns-in-Ok-sync-clause-ok : goal.returns-in-Ok-sync-clause-ok
returns-in-Ok-sync-clause-ok g c =
    let disk = g.D.JournalDisk.disk in
    map_to (writes 0 (0 ∷ [])) syncs (disk c.args.disk.now) (disk c.write_at.new.self) _ (settled (0 ∷ [])) (c.in-Ok.ensures.ok ∙ ap (λ o. option_map (writes 0 (0 ∷ [])) o) c.reserve.ensures.same) c.in-Ok-sync.ensures.ok
    (λ d told. ap settled (fresh_read d.read (c.requires d told)))

pub returns-in-Err-sync-clause-err : goal.returns-in-Err-sync-clause-err
returns-in-Err-sync-clause-err g c =
    let disk = g.D.JournalDisk.disk in
    let short = told_same (disk c.args.disk.now) (disk c.reserve.new.self) (λ (d : Disk). length d.read ≤ 1) c.reserve.ensures.same c.requires in
    let written = told_map (writes 0 (0 ∷ [])) (disk c.reserve.new.self) (disk c.write_at.new.self) (λ (d : Disk). length d.read ≤ 1) c.in-Ok.ensures.ok (λ d told. subst (λ w. length w ≤ 1) (sym (fresh_read d.read (short d told))) (omega arith)) in
    told_either syncs (disk c.write_at.new.self) _ (λ (d : Disk). length d.read ≤ 1) c.in-Err-sync.ensures.err written written

pub returns-in-Err-sync-clause-err_images : goal.returns-in-Err-sync-clause-err_images
returns-in-Err-sync-clause-err_images g c = λ unwritten.
    let disk = g.D.JournalDisk.disk in
    let P = λ (image : List ℕ). length image ≤ 1 in
    let short = told_same (disk c.args.disk.now) (disk c.reserve.new.self) (λ (d : Disk). length d.read ≤ 1) c.reserve.ensures.same c.requires in
    let none = told_same (disk c.args.disk.now) (disk c.reserve.new.self) (λ (d : Disk). d.pending ≡ []) c.reserve.ensures.same unwritten in
    let pending = told_map (writes 0 (0 ∷ [])) (disk c.reserve.new.self) (disk c.write_at.new.self) (Leaves P) c.in-Ok.ensures.ok
    (λ d told. fresh_leaves d (overwrite 0 (0 ∷ []) d.read) (g.met.D.JournalDisk.sound c.reserve.new.self d told) (none d told) (short d told)) in
    let synced = told_map (writes 0 (0 ∷ [])) (disk c.reserve.new.self) (disk c.write_at.new.self) (λ d. Leaves P (syncs d)) c.in-Ok.ensures.ok
    (λ d told. settled_leaves (overwrite 0 (0 ∷ []) d.read) P (subst P (sym (fresh_read d.read (short d told))) (omega arith))) in
    told_either syncs (disk c.write_at.new.self) _ (Leaves P) c.in-Err-sync.ensures.err pending synced
