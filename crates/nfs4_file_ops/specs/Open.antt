-- OPEN: a file is opened, and may be created (RFC 8881, section 18.16).
use Rattle.std.proofs.Common.{inl}
use Rattle.ff_xdr.specs.Form.{Form, Boolean, Number32, Number64, Pair, Void, Value}
use Rattle.nfs4_types.specs.Stateids.{stateid4, stateid4_value}
use Rattle.nfs4_types.specs.Bitmaps.{bitmap4, bitmap4_value}
use Rattle.nfs4_file_ops.specs.declared.open.OpenArgs.{OpenArgs}
use Rattle.nfs4_file_ops.specs.declared.open.OpenOk.{OpenOk}
use Rattle.nfs4_types.specs.Objects.{owner4, component4}
use Rattle.nfs4_file_ops.specs.OpenHow.{openflag4, openflag4_value}
use Rattle.nfs4_types.specs.ArmZero.{arm_zero}

-- OPEN4args: seqid, share_access, share_deny, owner (clientid, owner), openhow, claim, of which CLAIM_NULL 0 with a name is built
abbrev pub open4_args : Form
open4_args = Pair Number32 (Pair Number32 (Pair Number32 (Pair Number64 (Pair owner4 (Pair openflag4 (arm_zero component4))))))

abbrev pub open4_args_value : OpenArgs → Value open4_args
open4_args_value a = (a.seqid, (a.share_access, (a.share_deny, (a.clientid, (a.owner.bytes.now, (openflag4_value a.how, inl a.claim.body.bytes.now))))))

-- OPEN4resok: stateid, cinfo (atomic, before, after), rflags, attrset, delegation, of which OPEN_DELEGATE_NONE 0 is built
abbrev pub open4_ok : Form
open4_ok = Pair stateid4 (Pair Boolean (Pair Number64 (Pair Number64 (Pair Number32 (Pair bitmap4 (arm_zero Void))))))

abbrev pub open4_ok_value : OpenOk → Value open4_ok
open4_ok_value a = (stateid4_value a.stateid, (a.atomic, (a.before, (a.after, (a.rflags, (bitmap4_value a.attrset, inl tt))))))
