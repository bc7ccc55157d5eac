mod MirrorLemmas
pub mod Shown
mod WriterSteps
mod FirstOn
mod PlaceLemmas
mod RunLemmas
mod Stretches
mod GapLemmas
mod InsertLemmas
mod Begins
mod Moved
mod PlainLaws
mod Noted
mod Answered
mod Kept
mod Covers
mod CoverLaw
