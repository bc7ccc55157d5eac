-- The operations by number (RFC 8881, sections 16.2.3 and 18): nfs_argop4.
use Rattle.ff_xdr.specs.Form.{Form, Void, Number64, Boolean, Arm, NoArm, Value}
use Rattle.ff_xdr.specs.Arms.{arm}
use Rattle.nfs4_types.specs.Bitmaps.{bitmap4, bitmap4_value}
use Rattle.nfs4_types.specs.Handles.{nfs_fh4}
use Rattle.nfs4_types.specs.Ids.{sessionid4}
use Rattle.nfs4_types.specs.Sequences.{sequence4_args, sequence4_args_value}
use Rattle.nfs4_file_ops.specs.Close.{close4_args, close4_args_value}
use Rattle.nfs4_file_ops.specs.Commit.{commit4_args, commit4_args_value}
use Rattle.nfs4_file_ops.specs.GetDeviceInfo.{getdeviceinfo4_args, getdeviceinfo4_args_value}
use Rattle.nfs4_file_ops.specs.LayoutCommit.{layoutcommit4_args, layoutcommit4_args_value}
use Rattle.nfs4_file_ops.specs.LayoutGet.{layoutget4_args, layoutget4_args_value}
use Rattle.nfs4_file_ops.specs.LayoutReturn.{layoutreturn4_args, layoutreturn4_args_value}
use Rattle.nfs4_types.specs.Objects.{component4}
use Rattle.nfs4_file_ops.specs.Open.{open4_args, open4_args_value}
use Rattle.nfs4_file_ops.specs.Read.{read4_args, read4_args_value}
use Rattle.nfs4_file_ops.specs.Write.{write4_args, write4_args_value}
use Rattle.nfs4_session_ops.specs.BindConn.{bind_conn4_args, bind_conn4_value}
use Rattle.nfs4_session_ops.specs.Directions.{from_client4, from_client4_number}
use Rattle.nfs4_session_ops.specs.CreateSession.{create_session4_args, create_session4_args_value}
use Rattle.nfs4_session_ops.specs.ExchangeId.{exchange_id4_args, exchange_id4_args_value}
use Rattle.nfs4_compound.specs.declared.op.Op.{Op}
use Rattle.nfs4_compound.specs.declared.op.Op.TheVariants as op

-- the arguments of each that is built, by its number
abbrev pub argop4 : Form
argop4 =
    Arm 4 close4_args
    (Arm 5 commit4_args
    (Arm 9 bitmap4
    (Arm 10 Void
    (Arm 15 component4
    (Arm 18 open4_args
    (Arm 22 nfs_fh4
    (Arm 24 Void
    (Arm 25 read4_args
    (Arm 38 write4_args
    (Arm 41 bind_conn4_args
    (Arm 42 exchange_id4_args
    (Arm 43 create_session4_args
    (Arm 44 sessionid4
    (Arm 47 getdeviceinfo4_args
    (Arm 49 layoutcommit4_args
    (Arm 50 layoutget4_args
    (Arm 51 layoutreturn4_args
    (Arm 53 sequence4_args
    (Arm 57 Number64
    (Arm 58 Boolean NoArm))))))))))))))))))))

abbrev pub op_value : Op → Value argop4
op_value (op.Close a) = arm 4 argop4 (close4_args_value a)
op_value (op.Commit a) = arm 5 argop4 (commit4_args_value a)
op_value (op.GetAttr a) = arm 9 argop4 (bitmap4_value a)
op_value op.GetFh = arm 10 argop4 tt
op_value (op.Lookup a) = arm 15 argop4 a.bytes.now
op_value (op.Open a) = arm 18 argop4 (open4_args_value a)
op_value (op.PutFh a) = arm 22 argop4 a.bytes.now
op_value op.PutRootFh = arm 24 argop4 tt
op_value (op.Read a) = arm 25 argop4 (read4_args_value a)
op_value (op.Write a) = arm 38 argop4 (write4_args_value a)
op_value (op.BindConn a) = arm 41 argop4 (bind_conn4_value from_client4 from_client4_number a)
op_value (op.ExchangeId a) = arm 42 argop4 (exchange_id4_args_value a)
op_value (op.CreateSession a) = arm 43 argop4 (create_session4_args_value a)
op_value (op.DestroySession a) = arm 44 argop4 a.0
op_value (op.GetDeviceInfo a) = arm 47 argop4 (getdeviceinfo4_args_value a)
op_value (op.LayoutCommit a) = arm 49 argop4 (layoutcommit4_args_value a)
op_value (op.LayoutGet a) = arm 50 argop4 (layoutget4_args_value a)
op_value (op.LayoutReturn a) = arm 51 argop4 (layoutreturn4_args_value a)
op_value (op.Sequence a) = arm 53 argop4 (sequence4_args_value a)
op_value (op.DestroyClientId a) = arm 57 argop4 a
op_value (op.ReclaimComplete a) = arm 58 argop4 a
