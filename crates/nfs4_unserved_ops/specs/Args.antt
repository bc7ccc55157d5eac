-- The operations of which the forms are read and which are not carried out, by number (RFC 8881, sections 16.2.3 and 18).
use Rattle.ff_xdr.specs.Items.{contents}
use Rattle.ff_xdr.specs.Form.{Form, Void, Number32, Array, Arm, NoArm, Value}
use Rattle.ff_xdr.specs.Arms.{arm}
use Rattle.nfs4_types.specs.Stateids.{stateid4, stateid4_value}
use Rattle.nfs4_unserved_ops.specs.OpenDowngrade.{open_downgrade4_args, open_downgrade4_args_value}
use Rattle.nfs4_unserved_ops.specs.ReadDir.{readdir4_args, readdir4_args_value}
use Rattle.nfs4_unserved_ops.specs.SetAttr.{setattr4_args, setattr4_args_value}
use Rattle.nfs4_unserved_ops.specs.SecInfoNoName.{secinfo_style4, secinfo_style4_number}
use Rattle.nfs4_unserved_ops.specs.declared.op.UnservedOp.{UnservedOp}
use Rattle.nfs4_unserved_ops.specs.declared.op.UnservedOp.TheVariants as op

abbrev pub unserved_argop4 : Form
unserved_argop4 =
    Arm 3 Number32
    (Arm 21 open_downgrade4_args
    (Arm 26 readdir4_args
    (Arm 31 Void
    (Arm 32 Void
    (Arm 34 setattr4_args
    (Arm 45 stateid4
    (Arm 52 secinfo_style4
    (Arm 55 (Array 4294967295 stateid4) NoArm))))))))

abbrev pub unserved_op_value : UnservedOp → Value unserved_argop4
unserved_op_value (op.Access a) = arm 3 unserved_argop4 a
unserved_op_value (op.OpenDowngrade a) = arm 21 unserved_argop4 (open_downgrade4_args_value a)
unserved_op_value (op.ReadDir a) = arm 26 unserved_argop4 (readdir4_args_value a)
unserved_op_value op.RestoreFh = arm 31 unserved_argop4 tt
unserved_op_value op.SaveFh = arm 32 unserved_argop4 tt
unserved_op_value (op.SetAttr a) = arm 34 unserved_argop4 (setattr4_args_value a)
unserved_op_value (op.FreeStateid a) = arm 45 unserved_argop4 (stateid4_value a)
unserved_op_value (op.SecInfoNoName a) = arm 52 unserved_argop4 (secinfo_style4_number a)
unserved_op_value (op.TestStateid a) = arm 55 unserved_argop4 (contents stateid4 stateid4_value a.items.place)
