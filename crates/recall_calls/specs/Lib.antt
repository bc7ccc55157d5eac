pub mod RecallCalls
pub mod RecallAnswers
pub mod RecallCallLaws
