pub mod MdsReceive
pub mod PlainIncoming
pub mod MdsReceiveLaws
