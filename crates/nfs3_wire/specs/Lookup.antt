-- LOOKUP: a name is looked up in a directory (RFC 1813, section 3.3.3).
use Rattle.ff_xdr.specs.Form.{Form, Pair, Arm, Value}
use Rattle.nfs3_wire.specs.declared.lookup.LookupArgs.{LookupArgs}
use Rattle.nfs3_wire.specs.declared.lookup.LookupOk.{LookupOk}
use Rattle.nfs3_wire.specs.Objects.{nfs_fh3, filename3}
use Rattle.nfs3_wire.specs.Status.{refusal}
use Rattle.nfs3_wire.specs.Wcc.{post_op_attr, post_op_value}

-- LOOKUP3args: the directory and the name
abbrev pub lookup_args : Form
lookup_args = Pair nfs_fh3 filename3

abbrev pub lookup_args_value : LookupArgs → Value lookup_args
lookup_args_value a = (a.directory.now, a.name.now)

-- LOOKUP3resok: the object, its attributes, the directory's
abbrev pub lookup_ok : Form
lookup_ok = Pair nfs_fh3 (Pair post_op_attr post_op_attr)

abbrev pub lookup_ok_value : LookupOk → Value lookup_ok
lookup_ok_value r = (r.file.now, (post_op_value r.attributes, post_op_value r.directory))

-- LOOKUP3resfail: the directory's attributes
abbrev pub lookup_result : Form
lookup_result = Arm 0 lookup_ok (Pair refusal post_op_attr)
