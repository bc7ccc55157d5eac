pub mod MadeCalls
pub mod GivenReplies
pub mod DsCallLaws
