-- The bodies of a data server's log, in XDR (RFC 4506).
use Rattle.std.specs.Prelude.{ℕ, List, map, Option, Some, None, Result, Ok, Err}
use Rattle.ff_xdr.specs.declared.error.XdrError.{XdrError}
use Rattle.ff_xdr.specs.Form.{Form, Number32, Number64, Opaque, Array, Pair, Arm, NoArm, Value}
use Rattle.ff_xdr.specs.Arms.{arm, by_arm}
use Rattle.ff_xdr.specs.Reading.{reading, whole}
use Rattle.cluster_model.specs.declared.tick.Tick.{Tick}
use Rattle.cluster_model.specs.declared.tick.Times.{Times}
use Rattle.cluster_model.specs.Content.{Pending}

-- The server began a boot; a file was made; a file's owner, group, mode and times were set; bytes of a file became stable, each range
-- behind the one before, and its mtime and ctime; there is a file with these attributes, which last, and no bytes; the root has these
-- times.
pub data Logged : Type 0 where
  Boots : (boot : ℕ) → Logged
  Creates : (name : List ℕ) (fileid owner group mode : ℕ) (tick : Tick) → Logged
  SetsAttributes : (fileid owner group mode : ℕ) (times : Times) → Logged
  HoldsBytes : (fileid : ℕ) (mtime ctime : Tick) (ranges : List Pending) → Logged
  HoldsFile : (name : List ℕ) (fileid owner group mode : ℕ) (times : Times) → Logged
  HoldsRoot : (times : Times) → Logged

-- the most that a length in XDR says
abbrev pub any_length : ℕ
any_length = 4294967295

-- a tick: the boot, and the count
abbrev pub tick_form : Form
tick_form = Pair Number32 Number32

-- times: atime, mtime and ctime
abbrev pub times_form : Form
times_form = Pair tick_form (Pair tick_form tick_form)

abbrev pub range_form : Form
range_form = Pair Number64 (Opaque any_length)

abbrev pub create_form : Form
create_form = Pair (Opaque any_length) (Pair Number64 (Pair Number32 (Pair Number32 (Pair Number32 tick_form))))

abbrev pub setattr_form : Form
setattr_form = Pair Number64 (Pair Number32 (Pair Number32 (Pair Number32 times_form)))

abbrev pub bytes_form : Form
bytes_form = Pair Number64 (Pair tick_form (Pair tick_form (Array any_length range_form)))

abbrev pub file_form : Form
file_form = Pair (Opaque any_length) (Pair Number64 (Pair Number32 (Pair Number32 (Pair Number32 times_form))))

-- a body begins with the number of its kind; 5 is none
abbrev pub body_form : Form
body_form = Arm 1 Number32 (Arm 2 create_form (Arm 3 setattr_form (Arm 4 bytes_form (Arm 6 file_form (Arm 7 times_form NoArm)))))

abbrev pub tick_value : Tick → Value tick_form
tick_value t = (t.boot, t.count)

abbrev pub tick_from : Value tick_form → Tick
tick_from v = record { boot = v.0; count = v.1 }

abbrev pub times_value : Times → Value times_form
times_value t = (tick_value t.atime, (tick_value t.mtime, tick_value t.ctime))

abbrev pub times_from : Value times_form → Times
times_from (atime, (mtime, ctime)) = record { atime = tick_from atime; mtime = tick_from mtime; ctime = tick_from ctime }

abbrev pub range_value : Pending → Value range_form
range_value w = (w.at, w.bytes)

abbrev pub range_from : Value range_form → Pending
range_from v = record { at = v.0; bytes = v.1 }

abbrev pub body_value : Logged → Value body_form
body_value (Boots boot) = arm 1 body_form boot
body_value (Creates name fileid owner group mode tick) = arm 2 body_form (name, (fileid, (owner, (group, (mode, tick_value tick)))))
body_value (SetsAttributes fileid owner group mode times) = arm 3 body_form (fileid, (owner, (group, (mode, times_value times))))
body_value (HoldsBytes fileid mtime ctime ranges) = arm 4 body_form (fileid, (tick_value mtime, (tick_value ctime, map range_value ranges)))
body_value (HoldsFile name fileid owner group mode times) = arm 6 body_form (name, (fileid, (owner, (group, (mode, times_value times)))))
body_value (HoldsRoot times) = arm 7 body_form (times_value times)

abbrev pub body_from : Value body_form → Logged
body_from = by_arm body_form (
  λ boot. Boots boot,
  (
    λ (name, (fileid, (owner, (group, (mode, tick))))). Creates name fileid owner group mode (tick_from tick),
    (
      λ (fileid, (owner, (group, (mode, times)))). SetsAttributes fileid owner group mode (times_from times),
      (
        λ (fileid, (mtime, (ctime, ranges))). HoldsBytes fileid (tick_from mtime) (tick_from ctime) (map range_from ranges),
        (
          λ (name, (fileid, (owner, (group, (mode, times))))). HoldsFile name fileid owner group mode (times_from times),
          (λ times. HoldsRoot (times_from times), tt),
        ),
      ),
    ),
  ),
)

-- what a body says, where it is in its form with nothing behind it
abbrev pub body_read : Result (Value body_form) XdrError → Option Logged
body_read (Ok v) = Some (body_from v)
body_read (Err e) = None

abbrev pub body_in : List ℕ → Option Logged
body_in bytes = body_read (whole bytes (reading body_form bytes 0))
