pub mod AddressLemmas
mod TextLemmas
mod TableLemmas
