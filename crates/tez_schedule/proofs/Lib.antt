mod FlagLemmas
mod EdgeLemmas
mod VertexLemmas
mod SeenLemmas
mod ScheduleLemmas
mod PlanLemmas
