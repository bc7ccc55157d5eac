pub mod MdsRunLaws
pub mod HandedLayouts
pub mod SlotUses
pub mod OwnPeriods
