pub mod MdsCallsAgain
