-- What a data server makes of a packet is moves of the machine that are bound, where clients send what they took.
use Rattle.std.proofs.Common.{◌≡◌, ◌≢◌, ◌<◌, ℕ, ◌^◌, ◌+◌, ◌-◌, Bool, true, false, cond, List, [], ◌∷◌, ◌++◌, length, Option, Some, None, refl, sym, ap, subst, ◌∙◌, inl, inr, ◌⊎◌, arith, length-set}
use Rattle.std.specs.Prelude.{slice_get, slice_set, ◌&&◌}
use Rattle.std.specs.List.{AllByRecursion, flat_map}
use Rattle.std.proofs.lemmas.List.{append_assoc, append-nil}
use Rattle.ff_xdr.specs.Form.{word}
use Rattle.rpc_record.specs.Calls.{RpcCall, call_bytes}
use Rattle.rpc_record.specs.Replies.{RpcReply, reply_bytes}
use Rattle.cluster_model.specs.declared.ids.NodeId.{NodeId}
use Rattle.cluster_model.specs.declared.ids.NodeId.TheVariants.{Mds, Server, Client}
use Rattle.cluster_model.specs.declared.entry.Entry.{Entry}
use Rattle.cluster_model.specs.declared.entry.Entry.TheVariants as entry
use Rattle.cluster_model.specs.Content.{Pending}
use Rattle.cluster_model.specs.Server.{ServerState, Caller}
use Rattle.cluster_model.specs.DsCalls.{DsCallValue, Create, SetAttr, Write, Commit, Read, DsReplyValue, ds_plan, ds_step}
use Rattle.cluster_model.specs.Members.{IsOneOf}
use Rattle.ds_files.specs.Receive.{Outcome, outcome_of}
use Rattle.ds_files.specs.Records.{sent_to}
use Rattle.ds_calls.specs.MadeCalls.{ds_rpc_call, ds_call_bytes}
use Rattle.ds_calls.specs.DsCallLaws.{IsSpeakable, DsMessage, HasRecord, record_of}
use Rattle.cluster_laws.specs.Machine.{PacketValue, Call, Reply, Machine, MachineStep, Move, Deliver, Uses, Restarts, new_machine, no_move, numbered_at, with_server, puts_out, caller_by, served, arrives_at, delivered, may_use, moved, machine_after, journal_of}
use Rattle.cluster_laws.specs.FenceLaw.{new_servers}
use Rattle.cluster_laws.specs.Agreement.{sent_in, strayed_in, sent_of, rogue_of}
use Rattle.cluster_laws.specs.Holders.{IsIn, the_write, IsBoundCall, AreBoundFrom}
use Rattle.cluster_laws.specs.Telling.{telling}
use Rattle.cluster_laws.proofs.SameTold.{TellSame, same_told}
use Rattle.sound_runs.proofs.UserNotes.{flat_append}
use Rattle.machine_moves.specs.MachineMoves.{KeepsPackets}
use Rattle.machine_moves.proofs.Packets.{keeps_same, keeps_then, moves_keep}
use Rattle.machine_moves.proofs.Going.{telling_append}
use Rattle.mds_rule.specs.MdsStates.{MdsSend, MdsValue}
use Rattle.mds_walk.proofs.Lists.{AllOf}
use Rattle.mds_forms.specs.Forms.{IsNoPacket, IsInForm}
use Rattle.mds_moves.specs.MdsMoves.{IsMdsOf}
use Rattle.mds_moves.specs.MdsBinds.{MdsHasOwnWrites, OwnWritesStay}
use Rattle.proper_servers.specs.ProperServers.{IsProper}
use Rattle.same_server.specs.SameServer.{DoesTheCall}
use Rattle.world_moves.specs.WorldMoves.{IsCarried, IsEntryCarried}
use Rattle.world_moves.proofs.ServerMoves.{IsLike, at_end, at_place, all_set}
use Rattle.world_moves.proofs.MdsLike.{mds_like}
use Rattle.world_moves.proofs.ServerActs.{effect_none}
use Rattle.holder_parts.specs.CoveredRecords.{WasPosted}
use Rattle.holder_parts.specs.HolderParts.{IsPostedCall}
use Rattle.bound_worlds.specs.MatchedPackets.{Stage, Shows, Hides, entries_of, packets_of, Matches, AreMatched, IsServedCall}
use Rattle.bound_worlds.specs.BoundWorlds.{IsBoundRun}
use Rattle.bound_worlds.proofs.CoveredCalls.{still_posted}
use Rattle.bound_worlds.proofs.StageLists.{entries_join, packets_join, matched_join}
use Rattle.bound_worlds.proofs.Extending.{GoesFurther, goes}
use Rattle.bound_worlds.proofs.Notes.{BoundLaws}

-- ---- a call that is bound stays so

in_more : (w : Pending) (a b : List Pending) → IsIn w a → IsIn w (a ++ b)
in_more w [] b inside = absurd inside
in_more w (v ∷ a) b (inl same) = inl same
in_more w (v ∷ a) b (inr inside) = inr (in_more w a b inside)

sent_more : (uid : ℕ) (w : Pending) (a b : List Entry) → IsIn w (sent_of uid a) → IsIn w (sent_of uid (a ++ b))
sent_more uid w a b inside = subst (IsIn w) (sym (flat_append (sent_in uid) a b)) (in_more w (sent_of uid a) (sent_of uid b) inside)

rogue_more : (uid : ℕ) (w : Pending) (a b : List Entry) → IsIn w (rogue_of uid a) → IsIn w (rogue_of uid (a ++ b))
rogue_more uid w a b inside = subst (IsIn w) (sym (flat_append (strayed_in uid) a b)) (in_more w (rogue_of uid a) (rogue_of uid b) inside)

pub bound_more : (uid : ℕ) (call : DsCallValue) (a b : List Entry) → IsBoundCall a uid call → IsBoundCall (telling (a ++ b)) uid call
bound_more uid (Create name owner) a b k = tt
bound_more uid (SetAttr fileid owner guard) a b k = tt
bound_more uid (Write fileid at synced bytes) a b (inl sent) = inl (subst (IsIn (the_write at bytes)) (sym ((same_told (a ++ b)).sent uid)) (sent_more uid (the_write at bytes) a b sent))
bound_more uid (Write fileid at synced bytes) a b (inr rogue) = inr (subst (IsIn (the_write at bytes)) (sym ((same_told (a ++ b)).rogue uid)) (rogue_more uid (the_write at bytes) a b rogue))
bound_more uid (Commit fileid) a b k = tt
bound_more uid (Read fileid at count) a b k = tt

-- ---- entries without packets, one stage each

abbrev pub plain_stages : List Entry → List Stage
plain_stages [] = []
plain_stages (e ∷ entries) = Shows e [] ∷ plain_stages entries

pub plain_entries : (entries : List Entry) → entries_of (plain_stages entries) ≡ entries
plain_entries [] = refl
plain_entries (e ∷ entries) = ap (λ (l : List Entry). e ∷ l) (plain_entries entries)

pub plain_packets : (entries : List Entry) → packets_of (plain_stages entries) ≡ []
plain_packets [] = refl
plain_packets (e ∷ entries) = plain_packets entries

plain_match : (past : List Entry) (place : ℕ) (e : Entry) → IsNoPacket e → Matches past place e []
plain_match past place (entry.Packet number from to bytes) none = absurd none
plain_match past place e none = tt

pub plain_matched : (past : List Entry) (place : ℕ) (entries : List Entry) → AllByRecursion IsNoPacket entries → AreMatched past place (plain_stages entries)
plain_matched past place [] none = tt
plain_matched past place (e ∷ entries) none = (plain_match past place e none.0, plain_matched (past ++ e ∷ []) (place + 0) entries none.1)

plain_carry : (n : Machine) (ss : List MdsSend) (e : Entry) → IsNoPacket e → IsEntryCarried n ss e
plain_carry n ss (entry.Packet number from to bytes) none = absurd none
plain_carry n ss e none = tt

pub plain_carried : (n : Machine) (ss : List MdsSend) (entries : List Entry) → AllByRecursion IsNoPacket entries → AllByRecursion (IsEntryCarried n ss) entries
plain_carried n ss [] none = tt
plain_carried n ss (e ∷ entries) none = (plain_carry n ss e none.0, plain_carried n ss entries none.1)

pub carried_join : (n : Machine) (ss : List MdsSend) (a b : List Entry) → AllByRecursion (IsEntryCarried n ss) a → AllByRecursion (IsEntryCarried n ss) b → AllByRecursion (IsEntryCarried n ss) (a ++ b)
carried_join n ss [] b first second = second
carried_join n ss (e ∷ a) b first second = (first.0, carried_join n ss a b first.1 second)

-- ---- a data server's part in an event

-- how the machine goes on: by moves to one where the data server is this one, and nothing else has changed but packets
pub record ServesSo (mc : Machine) (past : List Entry) (n : ℕ) (o : Outcome) (more : List PacketValue) : Type 0 where
  pub moves : List Move
  pub machine : Machine
  pub goes_to : machine_after mc moves ≡ machine
  pub enters : journal_of mc moves ≡ telling o.entries
  pub bound : AreBoundFrom mc past moves
  pub servers : machine.servers ≡ slice_set mc.servers (n - 1) o.server
  pub like : IsLike mc machine
  pub packets : machine.packets ≡ mc.packets ++ more

-- what stands behind it: the entries, and the packet of the reply with what the machine sent
module _ (laws : BoundLaws) (boots : List ℕ) (servers : List ServerState) (mds : MdsValue) (journal : List Entry) (i : IsBoundRun boots servers mds journal) where
  module _ (n : ℕ) (o : Outcome) (more : List PacketValue) (d : ServesSo i.machine (telling journal) n o more) (proper : IsProper o.server) (none : AllByRecursion IsNoPacket o.entries) where
    then_servers : List ServerState
    then_servers = slice_set servers (n - 1) o.server

    keeps : KeepsPackets i.machine d.machine
    keeps = d.like.packets

    own_now : (all : List Entry) → MdsHasOwnWrites d.machine.packets (telling (journal ++ all)) mds i.sends
    own_now all =
        subst (λ (l : List Entry). MdsHasOwnWrites d.machine.packets l mds i.sends) (sym (telling_append journal all)) (laws.stay i.machine d.machine (telling journal) (telling all) mds i.sends keeps i.own)

    servers_so : slice_set servers (n - 1) o.server ≡ d.machine.servers
    servers_so = ap (λ (l : List ServerState). slice_set l (n - 1) o.server) i.servers_are ∙ sym d.servers

    proper_so : AllByRecursion IsProper (slice_set servers (n - 1) o.server)
    proper_so = all_set IsProper servers (n - 1) o.server i.proper proper

    -- with no reply: packets of the machine that the journal does not have
    pub serves_silently : IsBoundRun boots (slice_set servers (n - 1) o.server) mds (journal ++ o.entries)
    serves_silently =
        goes boots servers mds journal i o.entries i.sends d.machine (slice_set servers (n - 1) o.server) mds
        (record {
          moves = d.moves;
          machine = d.goes_to;
          told = d.enters;
          bound = d.bound;
          stages = plain_stages o.entries ++ Hides more ∷ [];
          stages_are = entries_join (plain_stages o.entries) (Hides more ∷ []) ∙ (append-nil (entries_of (plain_stages o.entries)) ∙ plain_entries o.entries);
          brought = ap (λ (l : List PacketValue). i.machine.packets ++ l) (packets_join (plain_stages o.entries) (Hides more ∷ []) ∙ (ap (λ (l : List PacketValue). l ++ (more ++ [])) (plain_packets o.entries) ∙ append-nil more)) ∙ sym d.packets;
          matched = matched_join journal (length i.machine.packets) (plain_stages o.entries) (Hides more ∷ []) (plain_matched journal (length i.machine.packets) o.entries none) tt;
          carried = plain_carried d.machine i.sends o.entries none;
        })
        (λ s inside. inside) keeps servers_so proper_so (mds_like i.machine d.machine mds i.sends d.like i.mds_is) (own_now o.entries) i.forms

    -- with the packet of its reply
    pub serves_with : (number : ℕ) (to : NodeId) (bytes : List ℕ) → Matches (journal ++ o.entries) (length i.machine.packets) (entry.Packet number (Server n) to bytes) more → IsCarried d.machine i.sends (Server n) to bytes
        → IsBoundRun boots (slice_set servers (n - 1) o.server) mds (journal ++ (o.entries ++ entry.Packet number (Server n) to bytes ∷ []))
    serves_with number to bytes matches carried =
        let e : Entry = entry.Packet number (Server n) to bytes in
        let all : List Entry = o.entries ++ entry.Packet number (Server n) to bytes ∷ [] in
        let none_yet : length i.machine.packets + length (packets_of (plain_stages o.entries)) ≡ length i.machine.packets = let l = ap (λ (x : List PacketValue). length x) (plain_packets o.entries) in omega (arith, l) in
        goes boots servers mds journal i (o.entries ++ entry.Packet number (Server n) to bytes ∷ []) i.sends d.machine (slice_set servers (n - 1) o.server) mds
        (record {
          moves = d.moves;
          machine = d.goes_to;
          told = d.enters ∙ sym (telling_append o.entries (entry.Packet number (Server n) to bytes ∷ []) ∙ append-nil (telling o.entries));
          bound = d.bound;
          stages = plain_stages o.entries ++ Shows (entry.Packet number (Server n) to bytes) more ∷ [];
          stages_are = entries_join (plain_stages o.entries) (Shows (entry.Packet number (Server n) to bytes) more ∷ []) ∙ ap (λ (l : List Entry). l ++ entry.Packet number (Server n) to bytes ∷ []) (plain_entries o.entries);
          brought = ap (λ (l : List PacketValue). i.machine.packets ++ l)
              (packets_join (plain_stages o.entries) (Shows (entry.Packet number (Server n) to bytes) more ∷ []) ∙ (ap (λ (l : List PacketValue). l ++ (more ++ [])) (plain_packets o.entries) ∙ append-nil more)) ∙ sym d.packets;
          matched =
              matched_join journal (length i.machine.packets) (plain_stages o.entries) (Shows (entry.Packet number (Server n) to bytes) more ∷ []) (plain_matched journal (length i.machine.packets) o.entries none) (
                subst (λ (l : List Entry). Matches l (length i.machine.packets + length (packets_of (plain_stages o.entries))) (entry.Packet number (Server n) to bytes) more) (ap (λ (l : List Entry). journal ++ l) (sym (plain_entries o.entries)))
                    (subst (λ (k : ℕ). Matches (journal ++ o.entries) k (entry.Packet number (Server n) to bytes) more) (sym none_yet) matches),
                tt,
              );
          carried = carried_join d.machine i.sends o.entries (entry.Packet number (Server n) to bytes ∷ []) (plain_carried d.machine i.sends o.entries none) (carried, tt);
        })
        (λ s inside. inside) keeps servers_so proper_so (mds_like i.machine d.machine mds i.sends d.like i.mds_is) (own_now (o.entries ++ entry.Packet number (Server n) to bytes ∷ [])) i.forms
