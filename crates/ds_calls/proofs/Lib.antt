pub mod CallHeaders
pub mod MirrorNames
pub mod DsCallsAgain
pub mod DsRepliesAgain
pub mod RuleAnswers
