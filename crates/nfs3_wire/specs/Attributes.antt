-- The attributes of an object (RFC 1813, section 2.5).
use Rattle.ff_xdr.specs.Form.{Form, Number32, Number64, Pair, Value}
use Rattle.nfs3_wire.specs.declared.attributes.Time3.{Time3}
use Rattle.nfs3_wire.specs.declared.attributes.Specdata3.{Specdata3}
use Rattle.nfs3_wire.specs.declared.attributes.Fattr3.{Fattr3}
use Rattle.nfs3_wire.specs.FileTypes.{ftype3, file_type_number}

-- nfstime3: seconds, nanoseconds
abbrev pub nfstime3 : Form
nfstime3 = Pair Number32 Number32

abbrev pub time3_value : Time3 → Value nfstime3
time3_value t = (t.seconds, t.nanos)

abbrev pub time3_of : Value nfstime3 → Time3
time3_of (seconds, nanos) = record { seconds = seconds; nanos = nanos }

-- specdata3: two numbers of a device
abbrev pub specdata3 : Form
specdata3 = Pair Number32 Number32

abbrev pub specdata3_value : Specdata3 → Value specdata3
specdata3_value d = (d.major, d.minor)

-- fattr3: type, mode, nlink, uid, gid; size, used, rdev, fsid, fileid; atime, mtime, ctime
abbrev pub fattr3 : Form
fattr3 =
    Pair (Pair ftype3 (Pair Number32 (Pair Number32 (Pair Number32 Number32))))
    (Pair (Pair Number64 (Pair Number64 (Pair specdata3 (Pair Number64 Number64)))) (Pair nfstime3 (Pair nfstime3 nfstime3)))

abbrev pub fattr3_value : Fattr3 → Value fattr3
fattr3_value a = (
  (file_type_number a.kind, (a.mode, (a.nlink, (a.uid, a.gid)))),
  (
    (a.size, (a.used, (specdata3_value a.rdev, (a.fsid, a.fileid)))),
    (time3_value a.atime, (time3_value a.mtime, time3_value a.ctime)),
  ),
)
