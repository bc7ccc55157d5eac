pub mod MdsPace
