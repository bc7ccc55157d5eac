pub mod RecallsAgain
