mod AnswerLemmas
mod FoundCalls
