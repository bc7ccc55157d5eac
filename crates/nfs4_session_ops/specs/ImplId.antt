-- Who made a client or a server (RFC 8881, section 3.3.21).
use Rattle.ff_xdr.specs.Form.{Form, Pair, Value}
use Rattle.nfs4_types.specs.Times.{nfstime4, nfstime4_value}
use Rattle.nfs4_session_ops.specs.declared.impl_id.ImplId.{ImplId}
use Rattle.nfs4_types.specs.Texts.{free_text}

-- nfs_impl_id4: domain, name, date
abbrev pub impl_id4 : Form
impl_id4 = Pair free_text (Pair free_text nfstime4)

abbrev pub impl_id4_value : ImplId → Value impl_id4
impl_id4_value a = (a.domain.text.now, (a.name.text.now, nfstime4_value a.date))
