-- The callbacks by number (RFC 8881, sections 20.2 and 20): nfs_cb_argop4.
use Rattle.ff_xdr.specs.Form.{Form, Arm, NoArm, Value}
use Rattle.ff_xdr.specs.Arms.{arm}
use Rattle.nfs4_file_ops.specs.CbLayoutRecall.{cb_layoutrecall4_args, cb_layoutrecall4_args_value}
use Rattle.nfs4_session_ops.specs.CbSequence.{cb_sequence4_args, cb_sequence4_args_value}
use Rattle.nfs4_compound.specs.declared.cb_op.CbOp.{CbOp}
use Rattle.nfs4_compound.specs.declared.cb_op.CbOp.TheVariants as op

-- the arguments of each that is built, by its number
abbrev pub cb_argop4 : Form
cb_argop4 =
    Arm 5 cb_layoutrecall4_args
    (Arm 11 cb_sequence4_args NoArm)

abbrev pub cb_op_value : CbOp → Value cb_argop4
cb_op_value (op.LayoutRecall a) = arm 5 cb_argop4 (cb_layoutrecall4_args_value a)
cb_op_value (op.Sequence a) = arm 11 cb_argop4 (cb_sequence4_args_value a)
