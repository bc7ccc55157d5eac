-- SETATTR: attributes of an object are set (RFC 1813, section 3.3.2).
use Rattle.std.specs.Option.{option_map}
use Rattle.ff_xdr.specs.Form.{Form, Optional, Pair, Arm, Value}
use Rattle.nfs3_wire.specs.declared.setattr.SetAttrArgs.{SetAttrArgs}
use Rattle.nfs3_wire.specs.Objects.{nfs_fh3}
use Rattle.nfs3_wire.specs.Status.{refusal}
use Rattle.nfs3_wire.specs.Attributes.{nfstime3, time3_value}
use Rattle.nfs3_wire.specs.Sattr.{sattr3, sattr3_value}
use Rattle.nfs3_wire.specs.Wcc.{wcc_data}

-- SETATTR3args: the object, its new attributes, the guard: the ctime that it must have
abbrev pub setattr_args : Form
setattr_args = Pair nfs_fh3 (Pair sattr3 (Optional nfstime3))

abbrev pub setattr_args_value : SetAttrArgs → Value setattr_args
setattr_args_value a = (a.file.now, (sattr3_value a.attributes, option_map time3_value a.guard))

-- SETATTR3resok and SETATTR3resfail: the attributes before and after
abbrev pub setattr_result : Form
setattr_result = Arm 0 wcc_data (Pair refusal wcc_data)
