pub mod ReturnedEnds
