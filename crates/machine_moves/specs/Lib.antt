pub mod MachineGoesOn
pub mod MachineMoves
