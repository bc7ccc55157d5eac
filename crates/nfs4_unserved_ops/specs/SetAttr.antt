-- SETATTR: attributes are set (RFC 8881, section 18.30).
use Rattle.ff_xdr.specs.Form.{Form, Pair, Value}
use Rattle.nfs4_types.specs.Bitmaps.{bitmap4, bitmap4_value}
use Rattle.nfs4_types.specs.Stateids.{stateid4, stateid4_value}
use Rattle.nfs4_types.specs.Status.{nfsstat4, stat4_number}
use Rattle.nfs4_file_ops.specs.Fattr4.{fattr4, fattr4_value}
use Rattle.nfs4_unserved_ops.specs.declared.set_attr.SetAttrArgs.{SetAttrArgs}
use Rattle.nfs4_unserved_ops.specs.declared.set_attr.SetAttrRes.{SetAttrRes}

-- SETATTR4args: stateid, obj_attributes
abbrev pub setattr4_args : Form
setattr4_args = Pair stateid4 fattr4

abbrev pub setattr4_args_value : SetAttrArgs → Value setattr4_args
setattr4_args_value a = (stateid4_value a.stateid, fattr4_value a.attributes)

-- SETATTR4res: status, attrsset, in every status
abbrev pub setattr4_res : Form
setattr4_res = Pair nfsstat4 bitmap4

abbrev pub setattr4_res_value : SetAttrRes → Value setattr4_res
setattr4_res_value r = (stat4_number r.status, bitmap4_value r.set)
