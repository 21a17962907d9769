pub mod ListLemmas
pub mod MergeLemmas
pub mod PlaceLemmas
pub mod PlanLemmas
