mod ClosesNone
mod OpenLemmas
mod Values
