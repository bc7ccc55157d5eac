pub mod TableSlots
