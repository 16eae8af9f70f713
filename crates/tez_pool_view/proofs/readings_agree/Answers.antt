use Rattle.tez_pool_view.proofs.Reading.{first_free, read_place, read_container, read_holder, read_life, read_node}
use Rattle.tez_pool_view.proofs.Choosing.{full_or_free}
use Rattle.tez_pool_view.proofs.readings_agree.Goals as goal

pub returns : goal.returns
returns c = record {
  free = first_free;
  some_free = full_or_free;
  place = read_place;
  container = read_container;
  holder = read_holder;
  life = read_life;
  node = read_node;
}
