pub mod KeptCalls
