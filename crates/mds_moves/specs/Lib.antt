pub mod MdsMoves
pub mod MdsBinds
