pub mod ClientMirrors
pub mod ClientAnswers
pub mod AnswerSteps
pub mod LateSteps
