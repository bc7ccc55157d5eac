-- What the calls of a writer do.
use Rattle.std.specs.Prelude.{◌≡◌, ◌≤◌, ℕ, Bool, true, false, List, length, Option, Some, None, slice_get}
use Rattle.cluster_model.specs.declared.limits.TheConstants.{PIECE_SIZE}
use Rattle.cluster_model.specs.declared.ids.MirrorId.{MirrorId}
use Rattle.cluster_model.specs.declared.ds_call.DsCall.{DsCall}
use Rattle.cluster_model.specs.DsCalls.{DsCallValue, plain_ds_call, data_in}
use Rattle.mirror_writer.specs.declared.call.NextCall.{NextCall}
use Rattle.mirror_writer.specs.declared.step.WriteStart.{WriteStart}
use Rattle.mirror_writer.specs.declared.step.WriteStart.TheVariants.{Taken, Overlap, NoMemory}
use Rattle.mirror_writer.specs.declared.call.TakenWrite.{TakenWrite}
use Rattle.mirror_writer.specs.Writers.{WriterMirror, WriterValue, WriterSends, overlaps_taken, with_write, next_place, next_at, next_sent, call_for}

abbrev pub TakesWriteAs : WriterValue → ℕ → List ℕ → WriteStart → WriterValue → Type 0
TakesWriteAs old at bytes Taken new = (overlaps_taken old at (length bytes) ≡ false) × (new ≡ with_write old at bytes)
TakesWriteAs old at bytes Overlap new = (overlaps_taken old at (length bytes) ≡ true) × (new ≡ old)
TakesWriteAs old at bytes NoMemory new = new ≡ old

-- a taken write, lent
abbrev pub LendsTaken : Option TakenWrite → Option (ℕ × List ℕ) → Type 0
LendsTaken None lent = lent ≡ None
LendsTaken (Some w) lent = lent ≡ Some (w.at, w.bytes)

-- the call that goes out under a number, and the writer then, which lends it
abbrev pub SendsNamed : WriterValue → ℕ → Option (MirrorId × NextCall) → WriterValue → Type 0
SendsNamed old xid None new = (next_sent old xid ≡ None) × (new ≡ old)
SendsNamed old xid (Some (id, next)) new =
    (call : DsCallValue) × (call_for new id next ≡ Some call) × (next_sent old xid ≡ Some (record { writer = new; id = id; call = call }))

-- the same call as it is sent
abbrev pub LendsCall : WriterValue → Option (MirrorId × NextCall) → Option (MirrorId × DsCall) → Type 0
LendsCall s None lent = lent ≡ None
LendsCall s (Some (id, next)) None = call_for s id next ≡ None
LendsCall s (Some (id, next)) (Some (mirror, call)) = (mirror ≡ id) × (call_for s id next ≡ Some (plain_ds_call call))

abbrev pub SendsCall : WriterValue → ℕ → Option (MirrorId × DsCall) → WriterValue → Type 0
SendsCall old xid None new = (next_sent old xid ≡ None) × (new ≡ old)
SendsCall old xid (Some (id, call)) new = next_sent old xid ≡ Some (record { writer = new; id = id; call = plain_ds_call call })

-- the call that waits to go out next, and where
pub record IsNextAt (s : WriterValue) (place : ℕ) (id : MirrorId) (next : NextCall) : Type 0 where
  pub mirror : WriterMirror
  pub first : next_place s ≡ Some place
  pub found : slice_get s.mirrors place ≡ Some mirror
  pub next_is : next_at s.wants_commit mirror ≡ Some next
  pub id_is : id ≡ mirror.id
  pub call : DsCallValue
  pub call_is : call_for s id next ≡ Some call

abbrev pub IsToSend : WriterValue → Option (ℕ × MirrorId × NextCall) → Type 0
IsToSend s None = (xid : ℕ) → next_sent s xid ≡ None
IsToSend s (Some (place, id, next)) = IsNextAt s place id next

-- whether there is no such call
abbrev pub IsGone : WriterValue → NextCall → Bool → Type 0
IsGone s next true = (id : MirrorId) → call_for s id next ≡ None
IsGone s next false = (id : MirrorId) → (call : DsCallValue) × (call_for s id next ≡ Some call)

-- the bytes of a WRITE that is lent are at most 65,536
abbrev pub CarriesFewBytes : {A : Type 0} → Option (A × DsCall) → Type 0
CarriesFewBytes None = Unit {0}
CarriesFewBytes (Some (id, call)) = length (data_in (plain_ds_call call)) ≤ PIECE_SIZE

-- the mirror to which the next call would go
abbrev pub WaitsAt : WriterValue → ℕ → Option MirrorId → Type 0
WaitsAt s xid None = next_sent s xid ≡ None
WaitsAt s xid (Some id) = (sent : WriterSends) × (next_sent s xid ≡ Some sent) × (sent.id ≡ id)
