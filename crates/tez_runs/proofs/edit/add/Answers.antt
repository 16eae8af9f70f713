use Rattle.std.proofs.Common.{◌≡◌, ℕ, ◌+◌, ◌<◌, ◌∙◌, length, sym, ap, subst, arith, if◌then◌else◌}
use Rattle.std.specs.List.{insert}
use Rattle.std.specs.Vec.{vec_len, vec_capacity}
use Rattle.std.proofs.lemmas.List.Edits.{length-insert}
use Rattle.std.proofs.Common.{◌*◌, ◌≤◌}
use Rattle.tez_runs.specs.Flags.{IsAdded, IsSpot}
use Rattle.tez_runs.proofs.RunLemmas.{nowhere, few_runs, alone_of, alone_at, left_at, right_at, both_at}
use Rattle.tez_runs.proofs.edit.add.Goals as goal

pub index-requires : goal.index-requires
index-requires c =
    let starts = c.spot-at.ensures.right_is c.if-right.true nowhere in
    let same = c.as_slice.ensures.len in
    omega arith

pub overflow_sub-at-then-left-2 : goal.overflow_sub-at-then-left-2
overflow_sub-at-then-left-2 c = let ends = c.spot-at.ensures.left_is c.if-left-2.true nowhere in omega arith

pub index_mut-requires-then-left-2 : goal.index_mut-requires-then-left-2
index_mut-requires-then-left-2 c =
    let ends = c.spot-at.ensures.left_is c.if-left-2.true nowhere in
    let inside = c.spot-at.ensures.inside in
    let same = c.as_slice.ensures.len in
    omega arith

pub index_mut-requires-then-right-2 : goal.index_mut-requires-then-right-2
index_mut-requires-then-right-2 c =
    let starts = c.spot-at.ensures.right_is c.if-right-2.true nowhere in
    let same = c.as_slice.ensures.len in
    omega arith

pub returns-then-right-clause-added : goal.returns-then-right-clause-added
returns-then-right-clause-added c =
    let xs = c.args.runs.now.items in
    let at = c.spot-at.result.0 in
    let spot = subst (λ rs. IsSpot rs c.args.i at c.spot-at.result.1 c.spot-at.result.2) c.as_slice.ensures.value c.spot-at.ensures in
    subst (λ ys. IsAdded xs ys c.args.i) (sym c.remove.ensures.items)
    (both_at c.requires.room.0 xs at c.args.i c.spot-at.result.1 c.spot-at.result.2 c.index_mut.result.now c.index.result.now c.requires.room.1 spot c.if-left.true c.if-right.true c.index_mut.ensures.value c.index.ensures)

pub returns-then-left-2-clause-added : goal.returns-then-left-2-clause-added
returns-then-left-2-clause-added c =
    let xs = c.args.runs.now.items in
    let at = c.spot-at.result.0 in
    let spot = subst (λ rs. IsSpot rs c.args.i at c.spot-at.result.1 c.spot-at.result.2) c.as_slice.ensures.value c.spot-at.ensures in
    left_at c.requires.room.0 xs at c.args.i c.spot-at.result.1 c.spot-at.result.2 c.index_mut-then-left-2.result.now c.requires.room.1 spot c.requires.fresh c.if-left-2.true (alone_of c.spot-at.result.1 c.spot-at.result.2 c.if-left-2.true c.else-left.either) c.index_mut-then-left-2.ensures.value

pub returns-then-right-2-clause-added : goal.returns-then-right-2-clause-added
returns-then-right-2-clause-added c =
    let xs = c.args.runs.now.items in
    let at = c.spot-at.result.0 in
    let spot = subst (λ rs. IsSpot rs c.args.i at c.spot-at.result.1 c.spot-at.result.2) c.as_slice.ensures.value c.spot-at.ensures in
    right_at c.requires.room.0 xs at c.args.i c.spot-at.result.1 c.spot-at.result.2 c.index_mut-then-right-2.result.now c.requires.room.1 spot c.requires.fresh c.if-left-2.false c.if-right-2.true c.index_mut-then-right-2.ensures.value

pub returns-clause-added : goal.returns-clause-added
returns-clause-added c =
    let xs = c.args.runs.now.items in
    let at = c.spot-at.result.0 in
    let spot = subst (λ rs. IsSpot rs c.args.i at c.spot-at.result.1 c.spot-at.result.2) c.as_slice.ensures.value c.spot-at.ensures in
    let added = alone_at xs at c.args.i c.spot-at.result.1 c.spot-at.result.2 spot c.requires.fresh c.if-left-2.false c.if-right-2.false in
    let n : ℕ = c.requires.room.0 in
    let few : 0 + 2 * length (insert xs at (record { start = c.args.i; end = c.args.i + 1 })) ≤ n + 1 = few_runs 0 n _ (added.apart n c.requires.room.1 c.requires.room.2) in
    let inside : at ≤ length xs = spot.inside in
    let longer : length (insert xs at (record { start = c.args.i; end = c.args.i + 1 })) ≡ length xs + 1 = length-insert xs at (record { start = c.args.i; end = c.args.i + 1 }) inside in
    let room = c.requires.room.3 in
    let same = c.as_slice.ensures.len in
    let known : length c.as_slice.result.now ≡ length xs = ap length c.as_slice.ensures.value in
    let held : vec_len c.args.runs.now < vec_capacity c.args.runs.now = omega arith in
    subst (λ ys. IsAdded xs ys c.args.i) (sym (c.insert.ensures.items ∙ ap (λ b. if b then insert xs at (record { start = c.args.i; end = c.args.i + 1 }) else xs) (c.insert.ensures.succeeds held))) added
