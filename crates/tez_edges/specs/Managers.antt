-- The table of a manager.
use Rattle.tez_edges.specs.declared.any.Manager.{Manager}
use Rattle.tez_edges.specs.declared.any.Manager.TheVariants.{OneToOne, Broadcast, ScatterGather}
use Rattle.tez_tables.specs.Table.{Table, one_to_one, broadcast, scatter_gather}

abbrev pub table_of : Manager → Table
table_of (OneToOne m) = one_to_one m.tasks
table_of (Broadcast m) = broadcast m.sources m.consumers
table_of (ScatterGather m) = scatter_gather m.sources m.parts m.base
