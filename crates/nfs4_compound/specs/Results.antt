-- The results of operations by number (RFC 8881, sections 16.2.3 and 18): nfs_resop4.
use Rattle.std.specs.Prelude.{ℕ, List, [], ◌∷◌}
use Rattle.std.specs.Option.{option_map}
use Rattle.ff_xdr.specs.Form.{Form, Void, Number64, Optional, Arm, NoArm, Value}
use Rattle.ff_xdr.specs.Arms.{arm}
use Rattle.nfs4_types.specs.Handles.{nfs_fh4}
use Rattle.nfs4_types.specs.Stateids.{stateid4, stateid4_value}
use Rattle.nfs4_file_ops.specs.Fattr4.{fattr4, fattr4_value}
use Rattle.nfs4_file_ops.specs.GetDeviceInfo.{getdeviceinfo4_res, getdeviceinfo4_res_value}
use Rattle.nfs4_file_ops.specs.LayoutGet.{layoutget4_res, layoutget4_res_value}
use Rattle.nfs4_types.specs.OpResults.{result4, result4_value}
use Rattle.nfs4_file_ops.specs.Open.{open4_ok, open4_ok_value}
use Rattle.nfs4_file_ops.specs.Read.{read4_ok, read4_ok_value}
use Rattle.nfs4_file_ops.specs.Write.{write4_ok, write4_ok_value}
use Rattle.nfs4_session_ops.specs.BindConn.{bind_conn4_ok, bind_conn4_value}
use Rattle.nfs4_session_ops.specs.Directions.{from_server4, from_server4_number}
use Rattle.nfs4_session_ops.specs.CreateSession.{create_session4_ok, create_session4_ok_value}
use Rattle.nfs4_session_ops.specs.ExchangeId.{exchange_id4_ok, exchange_id4_ok_value}
use Rattle.nfs4_session_ops.specs.SequenceRes.{sequence4_ok, sequence4_ok_value}
use Rattle.nfs4_unserved_ops.specs.Results.{unserved_resop4, unserved_res_value}
use Rattle.nfs4_compound.specs.Joined.{joined, behind}
use Rattle.nfs4_compound.specs.declared.op_res.OpRes.{OpRes}
use Rattle.nfs4_compound.specs.declared.op_res.OpRes.TheVariants as res

-- the numbers that are built
abbrev pub op_numbers : List ℕ
op_numbers = 4 ∷ 5 ∷ 9 ∷ 10 ∷ 15 ∷ 18 ∷ 22 ∷ 24 ∷ 25 ∷ 38 ∷ 41 ∷ 42 ∷ 43 ∷ 44 ∷ 47 ∷ 49 ∷ 50 ∷ 51 ∷ 53 ∷ 57 ∷ 58 ∷ []

-- the result of each that is carried out, by its number
abbrev pub served_resop4 : Form
served_resop4 =
    Arm 4 (result4 stateid4)
    (Arm 5 (result4 Number64)
    (Arm 9 (result4 fattr4)
    (Arm 10 (result4 nfs_fh4)
    (Arm 15 (result4 Void)
    (Arm 18 (result4 open4_ok)
    (Arm 22 (result4 Void)
    (Arm 24 (result4 Void)
    (Arm 25 (result4 read4_ok)
    (Arm 38 (result4 write4_ok)
    (Arm 41 (result4 bind_conn4_ok)
    (Arm 42 (result4 exchange_id4_ok)
    (Arm 43 (result4 create_session4_ok)
    (Arm 44 (result4 Void)
    (Arm 47 getdeviceinfo4_res
    (Arm 49 (result4 (Optional Number64))
    (Arm 50 layoutget4_res
    (Arm 51 (result4 (Optional stateid4))
    (Arm 53 (result4 sequence4_ok)
    (Arm 57 (result4 Void)
    (Arm 58 (result4 Void) NoArm))))))))))))))))))))

-- nfs_resop4: these, those of the operations that are not carried out, and under any other number a status other than OK
abbrev pub resop4 : Form
resop4 = joined served_resop4 unserved_resop4

abbrev pub op_res_value : OpRes → Value resop4
op_res_value (res.Close r) = arm 4 resop4 (result4_value stateid4 stateid4_value r)
op_res_value (res.Commit r) = arm 5 resop4 (result4_value Number64 (λ n. n) r)
op_res_value (res.GetAttr r) = arm 9 resop4 (result4_value fattr4 fattr4_value r)
op_res_value (res.GetFh r) = arm 10 resop4 (result4_value nfs_fh4 (λ handle. handle.bytes.now) r)
op_res_value (res.Lookup r) = arm 15 resop4 (result4_value Void (λ nothing. tt) r)
op_res_value (res.Open r) = arm 18 resop4 (result4_value open4_ok open4_ok_value r)
op_res_value (res.PutFh r) = arm 22 resop4 (result4_value Void (λ nothing. tt) r)
op_res_value (res.PutRootFh r) = arm 24 resop4 (result4_value Void (λ nothing. tt) r)
op_res_value (res.Read r) = arm 25 resop4 (result4_value read4_ok read4_ok_value r)
op_res_value (res.Write r) = arm 38 resop4 (result4_value write4_ok write4_ok_value r)
op_res_value (res.BindConn r) = arm 41 resop4 (result4_value bind_conn4_ok (bind_conn4_value from_server4 from_server4_number) r)
op_res_value (res.ExchangeId r) = arm 42 resop4 (result4_value exchange_id4_ok exchange_id4_ok_value r)
op_res_value (res.CreateSession r) = arm 43 resop4 (result4_value create_session4_ok create_session4_ok_value r)
op_res_value (res.DestroySession r) = arm 44 resop4 (result4_value Void (λ nothing. tt) r)
op_res_value (res.GetDeviceInfo r) = arm 47 resop4 (getdeviceinfo4_res_value r)
op_res_value (res.LayoutCommit r) = arm 49 resop4 (result4_value (Optional Number64) (λ size. size) r)
op_res_value (res.LayoutGet r) = arm 50 resop4 (layoutget4_res_value r)
op_res_value (res.LayoutReturn r) = arm 51 resop4 (result4_value (Optional stateid4) (λ stateid. option_map stateid4_value stateid) r)
op_res_value (res.Sequence r) = arm 53 resop4 (result4_value sequence4_ok sequence4_ok_value r)
op_res_value (res.DestroyClientId r) = arm 57 resop4 (result4_value Void (λ nothing. tt) r)
op_res_value (res.ReclaimComplete r) = arm 58 resop4 (result4_value Void (λ nothing. tt) r)
op_res_value (res.Unserved r) = behind served_resop4 unserved_resop4 tt (unserved_res_value r)
