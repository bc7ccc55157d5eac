-- Servers in range, and the steps of clients, as users'.
use Rattle.std.proofs.Common.{◌≡◌, ◌<◌, ◌≤◌, ℕ, zero, suc, ◌+◌, ◌*◌, ◌-◌, ◌^◌, true, List, [], ◌∷◌, ◌++◌, length, Option, Some, None, refl, sym, ap, subst, ◌∙◌, inl, inr, arith}
use Rattle.std.specs.Prelude.{map, replicate, slice_get, slice_set}
use Rattle.std.specs.List.{range_with_len, AllByRecursion}
use Rattle.std.proofs.lemmas.Bool.{cond_both}
use Rattle.cluster_model.specs.declared.ids.NodeId.{NodeId}
use Rattle.cluster_model.specs.declared.ids.NodeId.TheVariants.{Mds, Server, Client}
use Rattle.cluster_model.specs.declared.ids.FileId.{FileId}
use Rattle.cluster_model.specs.declared.ids.Mirror.{Mirror}
use Rattle.cluster_model.specs.declared.piece.Piece.{Piece}
use Rattle.cluster_model.specs.declared.entry.Entry.{Entry}
use Rattle.cluster_model.specs.declared.entry.Entry.TheVariants as entry
use Rattle.cluster_model.specs.Event.{EventValue, Deliver, DeliverPacket, DeliverBetween, Flow, Hold, Pass, Timeout, Tick, Open, Write, Through, Fill, Commit, Read, Return, Rogue, Stray, Reboot, Recall, Resilver, Audit, Restart}
use Rattle.cluster_model.specs.Server.{ServerState, max_boot, max_ticks, restart_of}
use Rattle.cluster_model.specs.Members.{IsOneOf}
use Rattle.ds_files.specs.Receive.{outcome_of}
use Rattle.cluster_laws.specs.Machine.{Machine, numbered_at}
use Rattle.cluster_laws.specs.CallRanges.{IsServerInRange, AreServersInRange}
use Rattle.cluster_laws.specs.Telling.{telling}
use Rattle.machine_moves.proofs.Going.{goes_quiet}
use Rattle.client_state.specs.declared.request.UserRequest.{UserRequest}
use Rattle.client_state.specs.declared.request.UserRequest.TheVariants as request
use Rattle.client_state.specs.ClientStates.{ClientValue, fresh_client}
use Rattle.client_state.specs.ClientSends.{ClientStep}
use Rattle.client_state.specs.ClientSends as client
use Rattle.mirror_client.specs.ClientRule.{client_requested, client_recorded, client_timed_out, client_ticked, turned, strays}
use Rattle.client_laws.specs.ClientHistory.{ClientInput, Requested, Recorded, TimeoutOf, Ticked, Strayed, input_step}
use Rattle.client_sends.specs.SendsOfUsers.{IsUserSend, is_user_entry, SendsAsUser, EntersAsUser}
use Rattle.mds_rule.specs.MdsStates.{ServedFile, MdsSend, MdsStep, served, numbered}
use Rattle.mds_rule.specs.Spelled.{spelled_send}
use Rattle.mds_walk.specs.MdsRuns.{MdsEvent, Hears, IsTimedOut, Ticks, RecallsFile, Resilvers, after_event}
use Rattle.mds_walk.proofs.Lists.{in_more, all_in}
use Rattle.mds_moves.specs.MdsMoves.{IsReached, IsSentIn, MayComeTo, GoesOnBy, MdsGoesOn}
use Rattle.packet_table.specs.declared.note.PacketNote.{PacketNote}
use Rattle.packet_table.specs.Packets.{packet_numbered, number_between}
use Rattle.proper_servers.specs.ProperServers.{IsProper}
use Rattle.world_rule.specs.Machines.{MachinesValue, does_nothing, nth, mds_did, mds_acts, client_did, client_at, client_acts, server_did, server_at, server_acts, receives, times_out, leaves, goes_astray, starts_anew, started, restarts_at, restarts, audit_of, audits_of}
use Rattle.world_rule.specs.Sent.{bytes_at_place}
use Rattle.world_rule.specs.ClusterWorlds.{ClusterState, entering, packets, acting, packet_comes, delivering, delivering_some, client_ticks, clients_tick, ticking, asking, behind}
use Rattle.mds_forms.specs.Forms.{IsNoPacket, IsInForm, StaysInForm, MdsStaysInForm}
use Rattle.world_moves.specs.WorldMoves.{IsCarried, IsEntryCarried, IsRunOf}
use Rattle.world_moves.proofs.ServerMoves.{at_place, all_at, all_set, GoesAt, starts_again}

-- ---- servers in range

-- there are fewer ticks than fileids
room_left : (files boot count : ℕ) → files ≤ boot * max_ticks + count → boot ≤ max_boot → count ≤ max_ticks → files + 2 < 2 ^ 64
room_left files boot count few booted counted = omega (arith, few, booted, counted)

pub in_range : (s : ServerState) → IsProper s → IsServerInRange s
in_range s i =
    let boot = i.boot in
    let count = i.count in
    record { boot = omega (arith, boot); count = omega (arith, count); files = room_left (length s.files) s.clock.boot s.clock.count i.few i.boot i.count }

pub proper_at : (servers : List ServerState) (n : ℕ) (s : ServerState) → AllByRecursion IsProper servers → numbered_at servers n ≡ Some s → IsProper s
proper_at servers n s all at = all_at IsProper servers (n - 1) s all (at_place servers n s at)

-- a client's step is a user's
pub record IsUserStep (s : ClientStep) : Type 0 where
  pub entries : AllByRecursion (λ e. is_user_entry e ≡ true) s.entries
  pub sends : AllByRecursion IsUserSend s.sends

module _ (sends : (c : ClientValue) (input : ClientInput) → SendsAsUser input c) (entries : (c : ClientValue) (input : ClientInput) → EntersAsUser input c) where
  pub by_input : (input : ClientInput) (c : ClientValue) → IsUserStep (input_step input c)
  by_input input c = record { entries = entries c input; sends = sends c input }

  pub leaves_so : (n : ℕ) (c : ClientValue) → IsUserStep (leaves n c)
  leaves_so n c =
      cond_both c.has_left (client.sends_none c) (record { client = turned c; entries = entry.Turned n ∷ []; sends = [] }) IsUserStep (λ e. record { entries = tt; sends = tt }) (λ e. record { entries = (refl, tt); sends = tt })

  pub astray_so : (place at : ℕ) (bytes : List ℕ) (c : ClientValue) → IsUserStep (goes_astray place at bytes c)
  astray_so place at bytes c = cond_both c.has_left (strays c.file c.layout place at bytes c) (client.sends_none c) IsUserStep (λ e. by_input (Strayed place at bytes) c) (λ e. record { entries = tt; sends = tt })

  pub anew_so : (n verifier : ℕ) (c : ClientValue) → IsUserStep (starts_anew n verifier c)
  anew_so n verifier c =
      cond_both c.has_left (client.sends_none c) (record { client = fresh_client n verifier c.next_xid; entries = entry.Rebooted n ∷ []; sends = [] }) IsUserStep (λ e. record { entries = tt; sends = tt })
      (λ e. record { entries = (refl, tt); sends = tt })
