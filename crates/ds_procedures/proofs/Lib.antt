pub mod Places
pub mod AttributesAfter
pub mod Named
pub mod PlanLemmas
