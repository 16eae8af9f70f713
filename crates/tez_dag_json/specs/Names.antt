-- How messages name the fault of a plan.
use Rattle.std.specs.Prelude.{ℕ, List, codes, Option, Some, None}
use Rattle.tez_plan.specs.declared.fault.PlanFault.{PlanFault}
use Rattle.tez_plan.specs.declared.fault.PlanFault.TheVariants.{TooMany, DuplicateName, UnknownName, DuplicateEdge, Cycle, NoPrimary, MixedPrimary, HeadInputs, KeyDiffers, PartitionsDiffer, LeafWithoutSink, DuplicateSink, NoMemory}

-- its word, and the vertex, the edge or the number that it tells
abbrev pub word_and_place : PlanFault → Option (List ℕ × ℕ)
word_and_place (TooMany place) = Some (codes "too-many", place)
word_and_place (DuplicateName vertex) = Some (codes "duplicate-name", vertex.0)
word_and_place (UnknownName edge) = Some (codes "unknown-name", edge.0)
word_and_place (DuplicateEdge edge) = Some (codes "duplicate-edge", edge.0)
word_and_place (Cycle vertex) = Some (codes "cycle", vertex.0)
word_and_place (NoPrimary vertex) = Some (codes "no-primary", vertex.0)
word_and_place (MixedPrimary vertex) = Some (codes "mixed-primary", vertex.0)
word_and_place (HeadInputs vertex) = Some (codes "head-inputs", vertex.0)
word_and_place (KeyDiffers vertex) = Some (codes "key-differs", vertex.0)
word_and_place (PartitionsDiffer edge) = Some (codes "partitions-differ", edge.0)
word_and_place (LeafWithoutSink vertex) = Some (codes "leaf-without-sink", vertex.0)
word_and_place (DuplicateSink vertex) = Some (codes "duplicate-sink", vertex.0)
word_and_place NoMemory = None
