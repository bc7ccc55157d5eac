-- What a metadata server does in each event. It has three parts: what came is taken, and what it brought runs as far as it goes; then calls
-- go out.
use Rattle.std.specs.Prelude.{ℕ, zero, suc, Bool, false, not, ◌==◌, ◌&&◌, List, [], ◌∷◌, length, filter, map, Option, Some, None, if◌then◌else◌}
use Rattle.std.specs.List.{find, range_with_len}
use Rattle.rpc_record.specs.Replies.{RpcReply}
use Rattle.cluster_model.specs.declared.ids.NodeId.{NodeId}
use Rattle.cluster_model.specs.declared.ids.NodeId.TheVariants.{Mds}
use Rattle.cluster_model.specs.declared.ids.FileId.{FileId}
use Rattle.cluster_model.specs.declared.ids.Cred.{Cred}
use Rattle.cluster_model.specs.declared.phase.EndCause.TheVariants.{Lease, Recalled}
use Rattle.cluster_model.specs.declared.entry.Entry.TheVariants.{TimedOut}
use Rattle.cluster_model.specs.Nodes.{is_node}
use Rattle.file_rule.specs.FilePhases.{Revokes, Resilver, Ticks}
use Rattle.nfs4_compound.specs.Compounds.{CompoundValue}
use Rattle.nfs4_session.specs.Clients.{ClientState}
use Rattle.nfs4_session.specs.Ends.{has_ended, without_client}
use Rattle.recall.specs.Recalls.{after_tick}
use Rattle.ds_calls.specs.GivenReplies.{reply_of_call}
use Rattle.recall_calls.specs.RecallAnswers.{recall_status}
use Rattle.mds_activity.specs.FileCalls.{kept_out}
use Rattle.mds_receive.specs.MdsReceive.{IncomingValue, PassedOver, IsReply, IsAnswered, IsCompound, incoming_of}
use Rattle.mds_rule.specs.MdsStates.{ServedFile, AwaitedCall, Answers, MdsValue, MdsStep, sends_none, enters, and_then, is_call_to, without_call, served, numbered}
use Rattle.mds_rule.specs.declared.waiter.Waiter.{Waiter}
use Rattle.mds_rule.specs.declared.waiter.Waiter.TheVariants.{ForFile}
use Rattle.mds_rule.specs.ServedFiles.{takes_input, asks_back, ends_client}
use Rattle.mds_rule.specs.Compounds.{runs_compound}
use Rattle.mds_rule.specs.Answers.{is_awaited, takes_answer, timed_out_for}
use Rattle.mds_rule.specs.Goes.{each, calls_out}

-- ---- records

abbrev pub takes_compound : ℕ → MdsValue → NodeId → ℕ → CompoundValue → MdsStep
takes_compound now m node xid v = and_then (runs_compound now m node xid v) (calls_out [])

abbrev pub takes_reply : ℕ → MdsValue → NodeId → RpcReply → MdsStep
takes_reply now m node reply = and_then (takes_answer now m node reply.xid (λ call. reply_of_call call reply) (recall_status reply.stat reply.results)) (calls_out [])

-- what is answered at once
abbrev pub answers_with : MdsValue → NodeId → List ℕ → MdsStep
answers_with m node bytes = record { mds = m; entries = []; sends = Answers node bytes ∷ [] }

abbrev pub takes_incoming : ℕ → MdsValue → NodeId → IncomingValue → MdsStep
takes_incoming now m node PassedOver = sends_none m
takes_incoming now m node (IsReply reply) = takes_reply now m node reply
takes_incoming now m node (IsAnswered bytes) = answers_with m node bytes
takes_incoming now m node (IsCompound xid v) = takes_compound now m node xid v

abbrev pub takes_record : ℕ → MdsValue → NodeId → List ℕ → MdsStep
takes_record now m node bytes = takes_incoming now m node (incoming_of bytes)

-- ---- a timeout: of the call to this node that has the number given, or else of the one that was sent first; of those that are awaited

abbrev pub is_outstanding_to : MdsValue → NodeId → AwaitedCall → Bool
is_outstanding_to m node call = is_node call.node node && is_awaited m call

abbrev pub if_awaited : MdsValue → Option AwaitedCall → Option AwaitedCall
if_awaited m None = None
if_awaited m (Some call) = if is_awaited m call then Some call else None

abbrev pub late_call : MdsValue → NodeId → Option ℕ → Option AwaitedCall
late_call m node None = find (is_outstanding_to m node) m.calls
late_call m node (Some xid) = if_awaited m (find (is_call_to node xid) m.calls)

-- Its record goes out again, where it is still awaited and is not kept until the next tick. A call for which nobody waits is forgotten.
abbrev pub is_kept : Option (ℕ × ℕ) → ℕ → Bool
is_kept None xid = false
is_kept (Some kept) xid = kept.1 == xid

abbrev pub kept_call_of : Option ServedFile → Option (ℕ × ℕ)
kept_call_of None = None
kept_call_of (Some s) = kept_out s.file

abbrev pub is_kept_by : MdsValue → ℕ → Waiter → Bool
is_kept_by m xid (ForFile file) = is_kept (kept_call_of (served m file)) xid
is_kept_by m xid other = false

abbrev pub goes_again : AwaitedCall → MdsValue → MdsStep
goes_again call m =
    if not (is_awaited m call) then sends_none (record m { calls = without_call call.node call.xid m.calls })
    else if is_kept_by m call.xid call.caller then sends_none m
    else record { mds = m; entries = []; sends = call.sent ∷ [] }

abbrev pub times_out : ℕ → MdsValue → Option AwaitedCall → MdsStep
times_out now m None = sends_none m
times_out now m (Some call) = enters (TimedOut Mds call.xid ∷ []) (and_then (and_then (timed_out_for now m call.xid call.caller) (goes_again call)) (calls_out []))

abbrev pub takes_timeout : ℕ → MdsValue → NodeId → Option ℕ → MdsStep
takes_timeout now m node which = times_out now m (late_call m node which)

-- ---- a tick: leases, recalls, what waited for it, calls that nobody awaits

abbrev pub lease_ends : MdsValue → Option ClientState → (MdsValue → MdsStep) → MdsStep
lease_ends m None next = sends_none m
lease_ends m (Some c) next = and_then (ends_client (record m { sessions = without_client m.sessions c.id }) c.id Lease) next

-- in the order in which the clients came
abbrev pub leases_end : ℕ → ℕ → MdsValue → MdsStep
leases_end now zero m = sends_none m
leases_end now (suc n) m = lease_ends m (find (has_ended now) m.sessions.clients) (leases_end now n)

abbrev pub recall_expires : MdsValue → Option (FileId × Cred) → (MdsValue → MdsStep) → MdsStep
recall_expires m None next = sends_none m
recall_expires m (Some grant) next = and_then (takes_input m grant.0 (Revokes Recalled)) next

-- in the order of the files
abbrev pub recalls_expire : ℕ → ℕ → MdsValue → MdsStep
recalls_expire now zero m = sends_none (record m { recalls = (after_tick m.recalls now).recalls })
recalls_expire now (suc n) m = recall_expires (record m { recalls = (after_tick m.recalls now).recalls }) (after_tick m.recalls now).expired (recalls_expire now n)

-- of each file, the call that it has kept, by its server and number
abbrev pub kept_calls : MdsValue → List (Option (ℕ × ℕ))
kept_calls m = map (λ (s : ServedFile). kept_out s.file) m.files

abbrev pub files_tick : MdsValue → MdsStep
files_tick m = and_then (each (λ n k. takes_input k (numbered n) Ticks) (range_with_len 1 (length m.files)) m) (calls_out (kept_calls m))

-- What waits for nothing is outstanding no more. That its call is kept until the next tick is seen by nobody: each question asks whether the
-- call is awaited.
abbrev pub forgets_calls : MdsValue → MdsStep
forgets_calls m = sends_none (record m { calls = filter (is_awaited m) m.calls })

abbrev pub takes_tick : ℕ → MdsValue → MdsStep
takes_tick now m = and_then (and_then (and_then (leases_end now (length m.sessions.clients) m) (λ n. recalls_expire now (length n.recalls) n)) files_tick) forgets_calls

-- ---- what the cluster's administrator asks

abbrev pub takes_recall : ℕ → MdsValue → FileId → MdsStep
takes_recall now m file = and_then (asks_back m file now) (calls_out [])

abbrev pub takes_resilver : MdsValue → FileId → MdsStep
takes_resilver m file = and_then (takes_input m file Resilver) (calls_out [])
