-- What the entries of a metadata server say of its periods, in every run to which clients of this cluster call (RFC 8881, section 12.5.5; RFC 8435,
-- section 2.2).
use Rattle.std.specs.Prelude.{◌≡◌, ◌≤◌, ℕ, List, [], ◌∷◌, ◌++◌, Some}
use Rattle.cluster_model.specs.declared.ids.NodeId.TheVariants.{Client}
use Rattle.cluster_model.specs.declared.ids.FileId.{FileId}
use Rattle.cluster_model.specs.declared.ids.MirrorId.{MirrorId}
use Rattle.cluster_model.specs.declared.ids.Cred.{Cred}
use Rattle.cluster_model.specs.declared.phase.EndCause.{EndCause}
use Rattle.cluster_model.specs.declared.entry.Entry.{Entry}
use Rattle.cluster_model.specs.declared.entry.Entry.TheVariants.{Granted, Ended}
use Rattle.cluster_model.specs.Phases.{ids_of}
use Rattle.cluster_laws.specs.FenceLaw.{live_in}
use Rattle.cluster_laws.specs.Agreement.{causes_of}
use Rattle.device_addr.specs.Universal.{AddressValue}
use Rattle.client_mds_calls.specs.MdsCalls.{CreateSession}
use Rattle.mds_walk.specs.MdsRuns.{MdsEvent, mds_run}
use Rattle.mds_replies.specs.ClientCalls.{IsCallFrom, AreCalls, server_after, IsEventOf}
use Rattle.mds_replies.specs.LayoutReplies.{HasPeriod}

-- a period was granted to its client's node, and its live mirrors are those that were live then
pub record IsBegun (entries : List Entry) (file : FileId) (uid : ℕ) (node : ℕ) (live : List MirrorId) : Type 0 where
  pub before : List Entry
  pub behind : List Entry
  pub split : entries ≡ before ++ Granted file (record { 0 = uid }) (Client node) ∷ behind
  pub live_then : live_in before file ≡ Some live

abbrev pub PeriodsBegin : Type 0
PeriodsBegin =
    (servers : List AddressValue) (mirrors : ℕ) (events : List MdsEvent) (file : FileId) (client uid : ℕ) → mirrors ≤ 4 → AreCalls events → (p : HasPeriod (server_after servers mirrors events) file client uid)
    → IsBegun (mds_run servers mirrors events).entries file uid p.node (ids_of p.file_is.file.layout.live)

-- the node to which it was granted is one from which a session was asked for with the client's id (RFC 8881, section 18.36)
pub record IsConfirmed (events : List MdsEvent) (node client : ℕ) : Type 0 where
  pub early : List MdsEvent
  pub f : MdsEvent
  pub late : List MdsEvent
  pub split : IsEventOf events early f late
  pub xid : ℕ
  pub name : List ℕ
  pub sequence : ℕ
  pub came : IsCallFrom f (Client node) xid name (CreateSession client sequence)

abbrev pub PeriodsAreConfirmed : Type 0
PeriodsAreConfirmed =
    (servers : List AddressValue) (mirrors : ℕ) (events : List MdsEvent) (file : FileId) (client uid : ℕ) → AreCalls events → (p : HasPeriod (server_after servers mirrors events) file client uid) → IsConfirmed events p.node client

-- a uid is entered once as that of a period that ended
abbrev pub UidsEndOnce : Type 0
UidsEndOnce =
    (servers : List AddressValue) (mirrors : ℕ) (events : List MdsEvent) (before behind : List Entry) (file : FileId) (cred : Cred) (cause : EndCause) → AreCalls events
    → (mds_run servers mirrors events).entries ≡ before ++ Ended file cred cause ∷ behind → causes_of cred.0 before ≡ []
