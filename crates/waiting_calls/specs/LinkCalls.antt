-- The calls of a link that got no answer yet: each is given up under its own number, two seconds behind its last sending; a READ of a data
-- server that is down is given up at once.
use Rattle.std.specs.Prelude.{ℕ, ◌+◌, ◌-◌, ◌^◌, ◌==◌, ◌&&◌, not, ◌≡◌, nat_le, max, min, Bool, true, false, if◌then◌else◌, List, [], ◌∷◌, ◌++◌, length, drop, Option, None, Some}
use Rattle.std.specs.List.{filter}
use Rattle.rpc_record.specs.Calls.{word_of}
use Rattle.rpc_record.specs.declared.call.TheConstants.{NFS_PROGRAM}
use Rattle.record_link.specs.Messages.{is_reply_record}
use Rattle.cluster_model.specs.declared.ids.NodeId.{NodeId}
use Rattle.cluster_model.specs.declared.ids.NodeId.TheVariants.{Mds, Server, Client}
use Rattle.cluster_model.specs.Nodes.{is_node}
use Rattle.waiting_calls.specs.declared.link_call.LinkCall.{LinkCall}
use Rattle.waiting_calls.specs.declared.link_call.TheConstants.{CALL_LIMIT, DATA_VERSION, READ_PROCEDURE}
use Rattle.waiting_calls.specs.declared.server_news.ServerNews.{ServerNews}
use Rattle.waiting_calls.specs.ServerNews.{is_server_down, is_found_down, servers_called, servers_heard, servers_given_up}

-- The calls that went out and got no answer, in the order of their last sending; the READs of servers that are down, which are given up at once,
-- in order; what is known of the data servers that were called; and the highest number under which a call went out.
pub record LinkCallsValue : Type 0 where
  pub waiting : List LinkCall
  pub at_once : List LinkCall
  pub servers : List ServerNews
  pub highest : ℕ

abbrev pub no_link_calls : LinkCallsValue
no_link_calls = record { waiting = []; at_once = []; servers = []; highest = 0 }

-- ---- one call

-- the moment, in milliseconds, at which what goes now is given up
abbrev pub later : ℕ → ℕ
later now = min (now + CALL_LIMIT) (2 ^ 64 - 1)

-- A READ of NFSv3 (RFC 1813, section 3.3.6): program, version and procedure are the words 3, 4 and 5 of the call (RFC 5531, section 9).
abbrev pub is_read_record : List ℕ → Bool
is_read_record bytes = nat_le 24 (length bytes) && (word_of bytes 12 == NFS_PROGRAM && (word_of bytes 16 == DATA_VERSION && word_of bytes 20 == READ_PROCEDURE))

-- a READ of a data server
abbrev pub is_read_to : NodeId → List ℕ → Bool
is_read_to Mds bytes = false
is_read_to (Server number) bytes = is_read_record bytes
is_read_to (Client k) bytes = false

-- the call that goes now; its number is the first word (RFC 5531, section 9)
abbrev pub new_link_call : ℕ → NodeId → ℕ → Bool → LinkCall
new_link_call now node xid is_data_read = record { node = node; xid = xid; due = later now; is_data_read = is_data_read }

-- it is the call of this number to this node
abbrev pub is_link_call : NodeId → ℕ → LinkCall → Bool
is_link_call node xid call = is_node call.node node && call.xid == xid

-- it is a READ of the data server of this number
abbrev pub is_read_of : ℕ → LinkCall → Bool
is_read_of number call = call.is_data_read && is_node call.node (Server number)

-- ---- all of them

-- the call of this number to this node stands here no longer
abbrev pub calls_without : NodeId → ℕ → List LinkCall → List LinkCall
calls_without node xid [] = []
calls_without node xid (call ∷ calls) = if is_link_call node xid call then calls else call ∷ calls_without node xid calls

-- it neither waits nor is to be given up at once
abbrev pub taken_out : NodeId → ℕ → LinkCallsValue → LinkCallsValue
taken_out node xid c = record c { waiting = calls_without node xid c.waiting; at_once = calls_without node xid c.at_once }

-- the node is a data server that is down at this moment
abbrev pub is_node_down : ℕ → NodeId → List ServerNews → Bool
is_node_down now Mds servers = false
is_node_down now (Server number) servers = is_server_down now number servers
is_node_down now (Client k) servers = false

-- it stands behind the others
abbrev pub with_waiting : Bool → LinkCall → LinkCallsValue → LinkCallsValue
with_waiting false call c = record c { waiting = c.waiting ++ call ∷ [] }
with_waiting true call c = record c { at_once = c.at_once ++ call ∷ [] }

abbrev pub with_servers : List ServerNews → LinkCallsValue → LinkCallsValue
with_servers servers c = record c { servers = servers }

-- the same, where no call of a number above this one stands here: one of such a number is not looked for
abbrev pub calls_without_known : ℕ → NodeId → ℕ → List LinkCall → List LinkCall
calls_without_known highest node xid calls = if nat_le xid highest then calls_without node xid calls else calls

abbrev pub taken_out_known : NodeId → ℕ → LinkCallsValue → LinkCallsValue
taken_out_known node xid c = record c {
  waiting = calls_without_known c.highest node xid c.waiting;
  at_once = calls_without_known c.highest node xid c.at_once;
  highest = max c.highest xid;
}

-- A call goes: where it went before, that counts no longer. A READ to a server that is down is given up at once.
abbrev pub call_goes_out : ℕ → LinkCall → LinkCallsValue → LinkCallsValue
call_goes_out now call c =
    with_waiting (call.is_data_read && is_node_down now call.node c.servers) call (with_servers (servers_called now call.node c.servers) (taken_out_known call.node call.xid c))

-- the number of the call that a record replies to: its first word
abbrev pub replied_number : List ℕ → Option ℕ
replied_number bytes = if is_reply_record bytes then Some (word_of bytes 0) else None

-- the call of this number to this node is answered
abbrev pub settles_call : NodeId → Option ℕ → LinkCallsValue → LinkCallsValue
settles_call node None c = c
settles_call node (Some xid) c = taken_out node xid c

-- A record comes from a node, the reply to the call of a number, or none. A reply to a call that is not out changes no call.
abbrev pub record_comes : ℕ → NodeId → Option ℕ → LinkCallsValue → LinkCallsValue
record_comes now node answers c = settles_call node answers (with_servers (servers_heard now node c.servers) c)

-- ---- giving up

-- the first of those that wait, where its moment has come
abbrev pub first_due : ℕ → List LinkCall → Option LinkCall
first_due now [] = None
first_due now (call ∷ calls) = if nat_le call.due now then Some call else None

-- what is to be given up first, where something is
abbrev pub first_over_of : ℕ → List LinkCall → List LinkCall → Option LinkCall
first_over_of now waiting [] = first_due now waiting
first_over_of now waiting (call ∷ calls) = Some call

abbrev pub call_over : ℕ → LinkCallsValue → Option LinkCall
call_over now c = first_over_of now c.waiting c.at_once

-- the first of those that are given up at once, or else of those that wait, stands there no longer
abbrev pub without_first : List LinkCall → LinkCallsValue → LinkCallsValue
without_first [] c = record c { waiting = drop 1 c.waiting }
without_first (call ∷ calls) c = record c { at_once = calls }

-- the READs that wait for this server are given up at once
abbrev pub with_reads_over : ℕ → LinkCallsValue → LinkCallsValue
with_reads_over number c = record c { waiting = filter (λ call. not (is_read_of number call)) c.waiting; at_once = c.at_once ++ filter (λ call. is_read_of number call) c.waiting }

-- so it is where it is down
abbrev pub with_reads_over_if : Bool → ℕ → LinkCallsValue → LinkCallsValue
with_reads_over_if false number c = c
with_reads_over_if true number c = with_reads_over number c

abbrev pub node_given_up : ℕ → NodeId → LinkCallsValue → LinkCallsValue
node_given_up now Mds c = c
node_given_up now (Server number) c = with_reads_over_if (is_found_down now number c.servers) number (with_servers (servers_given_up now (Server number) c.servers) c)
node_given_up now (Client k) c = c

-- the call that is to be given up first is given up
abbrev pub call_given_up : ℕ → LinkCall → LinkCallsValue → LinkCallsValue
call_given_up now call c = node_given_up now call.node (without_first c.at_once c)

-- nothing is to be given up by this moment; or the call was
abbrev pub GivesUpFirst : ℕ → LinkCallsValue → Option LinkCall → LinkCallsValue → Type 0
GivesUpFirst now old None new = (call_over now old ≡ None) × (new ≡ old)
GivesUpFirst now old (Some call) new = (call_over now old ≡ Some call) × (new ≡ call_given_up now call old)

-- ---- the first moment at which something is to be given up, and the last of all where nothing is

abbrev pub first_due_moment : List LinkCall → ℕ
first_due_moment [] = 2 ^ 64 - 1
first_due_moment (call ∷ calls) = call.due

abbrev pub earliest_of : ℕ → List LinkCall → List LinkCall → ℕ
earliest_of now waiting [] = first_due_moment waiting
earliest_of now waiting (call ∷ calls) = now

abbrev pub earliest : ℕ → LinkCallsValue → ℕ
earliest now c = earliest_of now c.waiting c.at_once
