mod ProperFiles
mod ProperSteps
mod ProperReplies
