pub mod DeleteLemmas
pub mod LeftLemmas
pub mod PlanLemmas
pub mod TurnLemmas
