use Rattle.std.proofs.Common.{◌≡◌, ◌+◌, ◌≤◌, ◌++◌, take, drop, length, count_by}
use Rattle.tez_lists.specs.Tables.{each_from}
use Rattle.tez_pool.specs.Table.{clear_place, number_in_order, numbers_for, is_taken}
use Rattle.tez_pool.proofs.pool.clear_places.Given as goal

abbrev pub invariant-loop-place : goal.invariant-loop-place
invariant-loop-place l = record {
  long : length l.places ≡ length l.fn.places;
  places : l.places ≡ each_from 0 (λ p. clear_place l.reuse (number_in_order l.fn.places l.next p)) (take l.place l.fn.places) ++ drop l.place l.fn.places;
  number : l.number ≡ l.next + numbers_for l.reuse (count_by is_taken (take l.place l.fn.places));
  few : l.number ≤ l.next + l.place;
}
