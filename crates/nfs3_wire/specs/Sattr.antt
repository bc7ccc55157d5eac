-- The attributes that a call sets (RFC 1813, section 2.5).
use Rattle.ff_xdr.specs.Form.{Form, Void, Number32, Number64, Optional, Pair, Arm, NoArm, Value}
use Rattle.ff_xdr.specs.Arms.{arm, by_arm}
use Rattle.nfs3_wire.specs.declared.sattr.SetTime.{SetTime}
use Rattle.nfs3_wire.specs.declared.sattr.SetTime.TheVariants.{Keep, Server, Client}
use Rattle.nfs3_wire.specs.declared.sattr.Sattr3.{Sattr3}
use Rattle.nfs3_wire.specs.Attributes.{nfstime3, time3_value, time3_of}

-- set_atime and set_mtime: keep it, the server's time, the client's
abbrev pub set_time : Form
set_time = Arm 0 Void (Arm 1 Void (Arm 2 nfstime3 NoArm))

abbrev pub set_time_value : SetTime → Value set_time
set_time_value Keep = arm 0 set_time tt
set_time_value Server = arm 1 set_time tt
set_time_value (Client t) = arm 2 set_time (time3_value t)

abbrev pub set_time_of : Value set_time → SetTime
set_time_of = by_arm set_time (λ nothing. Keep, (λ nothing. Server, (λ t. Client (time3_of t), tt)))

-- sattr3: mode, uid, gid, size where they are to be set, then the two times
abbrev pub sattr3 : Form
sattr3 = Pair (Optional Number32) (Pair (Optional Number32) (Pair (Optional Number32) (Pair (Optional Number64) (Pair set_time set_time))))

abbrev pub sattr3_value : Sattr3 → Value sattr3
sattr3_value s = (s.mode, (s.uid, (s.gid, (s.size, (set_time_value s.atime, set_time_value s.mtime)))))

abbrev pub sattr3_of : Value sattr3 → Sattr3
sattr3_of (mode, (uid, (gid, (size, (atime, mtime))))) =
    record { mode = mode; uid = uid; gid = gid; size = size; atime = set_time_of atime; mtime = set_time_of mtime }
