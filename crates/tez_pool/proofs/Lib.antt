mod IndexLemmas
mod PlaceLemmas
mod PoolLemmas
mod VictimLemmas
