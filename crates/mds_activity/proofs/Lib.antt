mod CopyFits
mod FenceLemmas
mod FirstCalls
mod PlanFits
pub mod SeenFits
mod StepLemmas
mod Swaps
mod TargetFits
