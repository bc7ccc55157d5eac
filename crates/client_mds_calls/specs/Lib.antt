pub mod MdsCalls
pub mod MdsCompounds
pub mod FittingCalls
pub mod MdsReplies
pub mod MdsCallLaws
