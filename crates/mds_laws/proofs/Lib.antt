pub mod OwnWriters
pub mod Keeping
pub mod EachCases
pub mod WriterKept
pub mod CasesOfEach
pub mod EachParts
pub mod GoesWalk
pub mod Numbers
mod FileUids
mod Uids
pub mod FileGrants
mod Grants
mod SlotUses
pub mod PeriodUids
pub mod FileCreds
pub mod UsedOnce
mod GrantsOnce
mod Handed
mod TakesNone
mod HeldFiles
pub mod OwnPeriods
