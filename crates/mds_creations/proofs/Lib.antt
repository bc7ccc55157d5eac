mod CreationSteps
mod MakingLemmas
