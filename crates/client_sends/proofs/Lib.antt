mod SpelledCalls
mod UserSteps
mod QueueSteps
mod CallSteps
mod ServerSteps
mod AnswerSteps
mod RuleSteps
