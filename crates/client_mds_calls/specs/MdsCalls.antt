-- What a client asks of its metadata server, as plain values.
use Rattle.std.specs.Prelude.{ℕ, Bool, true, false, List, length}
use Rattle.nfs4_types.specs.declared.ids.SessionId.{SessionId}
use Rattle.nfs4_types.specs.declared.stateid.Stateid.{Stateid}
use Rattle.cluster_model.specs.declared.ids.FileId.{FileId}
use Rattle.client_file_calls.specs.declared.open.OpenFile.{OpenFile}
use Rattle.client_file_calls.specs.declared.layout_return.FailedMirror.{FailedMirror}
use Rattle.client_mds_calls.specs.declared.ask.MdsAsk.{MdsAsk}
use Rattle.client_mds_calls.specs.declared.ask.MdsAsk.TheVariants as ask
use Rattle.client_mds_calls.specs.declared.call.MdsCall.{MdsCall}
use Rattle.client_mds_calls.specs.declared.call.MdsCall.TheVariants as declared
use Rattle.client_mds_calls.specs.declared.call.SlotCall.{SlotCall}
use Rattle.client_mds_calls.specs.declared.call.SlotCall.TheVariants as slot

-- what a request on a slot asks for
pub data SlotCallValue : Type 0 where
  ReclaimComplete : SlotCallValue
  Open : (name : List ℕ) → SlotCallValue
  LayoutGet : (file : OpenFile) → SlotCallValue
  DeviceInfo : (servers : List ℕ) → SlotCallValue
  Write : (file : OpenFile) (at : ℕ) (bytes : List ℕ) → SlotCallValue
  Read : (file : OpenFile) (at count : ℕ) → SlotCallValue
  LayoutReturn : (file : FileId) (stateid : Stateid) (failed : List FailedMirror) → SlotCallValue
  Renew : SlotCallValue

pub data MdsCallValue : Type 0 where
  ExchangeId : (verifier : ℕ) → MdsCallValue
  CreateSession : (clientid sequence : ℕ) → MdsCallValue
  OnSlot : (session : SessionId) (sequence : ℕ) (call : SlotCallValue) → MdsCallValue

abbrev pub plain_slot_call : SlotCall → SlotCallValue
plain_slot_call slot.ReclaimComplete = ReclaimComplete
plain_slot_call (slot.Open name) = Open name.now
plain_slot_call (slot.LayoutGet file) = LayoutGet file
plain_slot_call (slot.DeviceInfo servers) = DeviceInfo servers.now
plain_slot_call (slot.Write file at bytes) = Write file at bytes.now
plain_slot_call (slot.Read file at count) = Read file at count
plain_slot_call (slot.LayoutReturn file stateid failed) = LayoutReturn file stateid failed.now
plain_slot_call slot.Renew = Renew

abbrev pub plain_mds_call : MdsCall → MdsCallValue
plain_mds_call (declared.ExchangeId verifier) = ExchangeId verifier
plain_mds_call (declared.CreateSession clientid sequence) = CreateSession clientid sequence
plain_mds_call (declared.OnSlot session sequence call) = OnSlot session sequence (plain_slot_call call)

-- the reply to a READ is not kept, all others are
abbrev pub is_kept_reply : SlotCallValue → Bool
is_kept_reply (Read file at count) = false
is_kept_reply call = true

-- what the answer is held against
abbrev pub ask_on_slot : SlotCallValue → MdsAsk
ask_on_slot ReclaimComplete = ask.ReclaimComplete
ask_on_slot (Open name) = ask.Open
ask_on_slot (LayoutGet file) = ask.LayoutGet
ask_on_slot (DeviceInfo servers) = ask.DeviceInfo (length servers)
ask_on_slot (Write file at bytes) = ask.Write
ask_on_slot (Read file at count) = ask.Read at count
ask_on_slot (LayoutReturn file stateid failed) = ask.LayoutReturn
ask_on_slot Renew = ask.Renew

abbrev pub ask_of : MdsCallValue → MdsAsk
ask_of (ExchangeId verifier) = ask.ExchangeId
ask_of (CreateSession clientid sequence) = ask.CreateSession
ask_of (OnSlot session sequence call) = ask_on_slot call

-- it is a request on a slot
abbrev pub takes_slot : MdsAsk → Bool
takes_slot ask.ExchangeId = false
takes_slot ask.CreateSession = false
takes_slot kind = true
