-- Each call that something awaits stands among those that were sent and are not answered.
use Rattle.std.specs.Prelude.{◌≡◌, ℕ, suc, true, Some, slice_get}
use Rattle.std.specs.List.{find, list_any}
use Rattle.cluster_model.specs.declared.ids.NodeId.TheVariants.{Server}
use Rattle.cluster_model.specs.declared.ids.FileId.{FileId}
use Rattle.cluster_model.specs.declared.ids.Mirror.{Mirror}
use Rattle.cluster_model.specs.Fences.{is_out}
use Rattle.file_rule.specs.FilePhases.{is_outstanding}
use Rattle.mds_io.specs.Reads.{in_turn}
use Rattle.mds_rule.specs.MdsStates.{WaitingRead, WaitingWrite, ServedFile, AwaitedCall, MdsValue, is_call_to, numbered}
use Rattle.mds_rule.specs.declared.waiter.Waiter.{Waiter}
use Rattle.mds_rule.specs.declared.waiter.Waiter.TheVariants.{ForFile, ForRead, ForWrite}
use Rattle.mds_progress.specs.FirstOut.{is_called_at}

-- the call of this number to this data server is among those that were sent and are not answered, and this waiter sent it
abbrev pub StandsTo : MdsValue → ℕ → ℕ → Waiter → Type 0
StandsTo m server xid caller = (call : AwaitedCall) × (find (is_call_to (Server server) xid) m.calls ≡ Some call) × (call.caller ≡ caller)

-- what a file has under way: CREATEs, a fence, the COMMIT of a copy's source, a copy
abbrev pub FileCallsStand : MdsValue → FileId → ServedFile → Type 0
FileCallsStand m file s = (server xid : ℕ) → is_outstanding s.file server xid ≡ true → StandsTo m server xid (ForFile file)

-- each of its READs, to the mirror that has its turn
abbrev pub ReadCallsStand : MdsValue → FileId → ServedFile → Type 0
ReadCallsStand m file s =
    (place xid : ℕ) (r : WaitingRead) → slice_get s.reads place ≡ Some r → is_out xid r.read.stage ≡ true → (mirror : Mirror) × (in_turn r.read ≡ Some mirror) × StandsTo m mirror.id.server xid (ForRead file)

-- its own write, to each mirror
abbrev pub WriteCallsStand : MdsValue → FileId → ServedFile → Type 0
WriteCallsStand m file s = (w : WaitingWrite) → s.write ≡ Some w → (server xid : ℕ) → list_any (is_called_at server xid) w.writer.mirrors ≡ true → StandsTo m server xid (ForWrite file)

-- of each file, by its place
abbrev pub OfEachFile : (MdsValue → FileId → ServedFile → Type 0) → MdsValue → Type 0
OfEachFile Stand m = (place : ℕ) (s : ServedFile) → slice_get m.files place ≡ Some s → Stand m (numbered (suc place)) s

pub record CallsStand (m : MdsValue) : Type 0 where
  pub files : OfEachFile FileCallsStand m
  pub reads : OfEachFile ReadCallsStand m
  pub writes : OfEachFile WriteCallsStand m
