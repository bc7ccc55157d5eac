-- GETATTR: the attributes of an object (RFC 1813, section 3.3.1).
use Rattle.ff_xdr.specs.Form.{Form, Void, Pair, Arm, Value}
use Rattle.nfs3_wire.specs.declared.getattr.GetAttrArgs.{GetAttrArgs}
use Rattle.nfs3_wire.specs.Objects.{nfs_fh3}
use Rattle.nfs3_wire.specs.Status.{refusal}
use Rattle.nfs3_wire.specs.Attributes.{fattr3}

-- GETATTR3args: the object
abbrev pub getattr_args : Form
getattr_args = nfs_fh3

abbrev pub getattr_args_value : GetAttrArgs → Value getattr_args
getattr_args_value a = a.file.now

-- GETATTR3resok: the attributes; of a refusal nothing but its status
abbrev pub getattr_result : Form
getattr_result = Arm 0 fattr3 (Pair refusal Void)
