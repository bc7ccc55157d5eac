-- Each event of a world keeps it a bound run of the machine, where holders keep their part.
use Rattle.std.proofs.Common.{◌≡◌, ◌<◌, ◌≤◌, ℕ, zero, suc, ◌+◌, ◌-◌, ◌^◌, Bool, true, false, cond, List, [], ◌∷◌, ◌++◌, length, Option, Some, None, refl, sym, ap, subst, ◌∙◌, inl, inr, ◌⊎◌, arith}
use Rattle.std.specs.Prelude.{map, replicate, slice_get, slice_set, ◌==◌}
use Rattle.std.specs.List.{range_with_len, AllByRecursion}
use Rattle.std.proofs.lemmas.List.{append_assoc, append-nil}
use Rattle.cluster_model.specs.declared.ids.NodeId.{NodeId}
use Rattle.cluster_model.specs.declared.ids.NodeId.TheVariants.{Mds, Server, Client}
use Rattle.cluster_model.specs.declared.ids.FileId.{FileId}
use Rattle.cluster_model.specs.declared.ids.Mirror.{Mirror}
use Rattle.cluster_model.specs.declared.piece.Piece.{Piece}
use Rattle.cluster_model.specs.declared.entry.Entry.{Entry}
use Rattle.cluster_model.specs.declared.entry.Entry.TheVariants as entry
use Rattle.cluster_model.specs.Event.{EventValue, Deliver, DeliverPacket, DeliverBetween, Flow, Hold, Pass, Timeout, Tick, Open, Write, Through, Fill, Commit, Read, Return, Rogue, Stray, Reboot, Recall, Resilver, Audit, Restart}
use Rattle.cluster_model.specs.Server.{ServerState, restart_of}
use Rattle.ds_files.specs.Receive.{outcome_of}
use Rattle.cluster_laws.specs.Machine.{Machine, numbered_at}
use Rattle.cluster_laws.specs.CallRanges.{AreServersInRange}
use Rattle.cluster_laws.specs.Telling.{telling}
use Rattle.client_state.specs.declared.request.UserRequest.{UserRequest}
use Rattle.client_state.specs.declared.request.UserRequest.TheVariants as request
use Rattle.client_state.specs.ClientStates.{ClientValue}
use Rattle.client_state.specs.ClientSends.{ClientStep}
use Rattle.client_state.specs.ClientSends as client
use Rattle.mirror_client.specs.ClientRule.{client_requested, client_recorded, client_timed_out, client_ticked}
use Rattle.client_laws.specs.ClientHistory.{ClientInput, Requested, Recorded, TimeoutOf, Ticked, Strayed, input_step}
use Rattle.client_sends.specs.SendsOfUsers.{IsUserSend, is_user_entry, SendsAsUser, EntersAsUser, IsRecordOfUser}
use Rattle.mds_rule.specs.MdsStates.{ServedFile, MdsSend, MdsValue, served, numbered}
use Rattle.mds_rule.specs.Spelled.{spelled_send}
use Rattle.mds_walk.specs.MdsRuns.{MdsEvent, Hears, IsTimedOut, Ticks, RecallsFile, Resilvers, after_event}
use Rattle.mds_moves.specs.MdsMoves.{MayComeTo}
use Rattle.packet_table.specs.declared.note.PacketNote.{PacketNote}
use Rattle.packet_table.specs.Packets.{packet_numbered, number_between}
use Rattle.proper_servers.specs.ProperServers.{IsProper}
use Rattle.world_rule.specs.Machines.{MachinesValue, does_nothing, nth, mds_did, mds_acts, client_did, client_at, client_acts, server_did, server_at, server_acts, receives, times_out, leaves, goes_astray, starts_anew, started, restarts_at, restarts, audit_of, audits_of}
use Rattle.world_rule.specs.Sent.{bytes_at_place}
use Rattle.world_rule.specs.ClusterWorlds.{ClusterState, entering, packets, acting, packet_comes, delivering, delivering_some, client_ticks, clients_tick, ticking, asking, behind}
use Rattle.world_journal.specs.SentPackets.{packets_of as posted}
use Rattle.mds_forms.specs.Forms.{IsNoPacket}
use Rattle.world_moves.specs.WorldMoves.{IsCarried, IsEntryCarried}
use Rattle.world_moves.proofs.ServerMoves.{at_place, all_at}
use Rattle.world_moves.proofs.PacketNotes.{IsNoteOf, note_of, bytes_there}
use Rattle.world_moves.proofs.UserEntries.{users_enter, users_send}
use Rattle.world_moves.proofs.UserSteps.{in_range, proper_at, IsUserStep, by_input, leaves_so, astray_so, anew_so}
use Rattle.holder_parts.specs.CoveredRecords.{WasPosted}
use Rattle.holder_parts.specs.HolderParts.{IsPostedCall, KeepsPart, HoldersKeepParts}
use Rattle.bound_worlds.specs.BoundWorlds.{IsBoundRun, IsBoundRunOf, BeginsOtherwise, MayHappen}
use Rattle.bound_worlds.proofs.Notes.{BoundLaws, all_notes, all_quiet}
use Rattle.bound_worlds.proofs.BoundActs.{MdsLaws, none_own, posts_otherwise, posts, mds_acts_so}
use Rattle.bound_worlds.proofs.BoundCalls.{restarts_so}
use Rattle.bound_worlds.proofs.BoundServers.{serves_silently}
use Rattle.bound_worlds.proofs.BoundPackets.{RecordLaws, from_client, from_mds}

-- the laws of clients
pub record UserLaws : Type 0 where
  pub sends : (c : ClientValue) (input : ClientInput) → SendsAsUser input c
  pub entries : (c : ClientValue) (input : ClientInput) → EntersAsUser input c
  pub records : (s : client.ClientSend) (server : ℕ) (bytes : List ℕ) → IsRecordOfUser s server bytes
  pub restarted : (s : ServerState) (pieces : List Piece) (new : ServerState) → IsProper s → restart_of s pieces ≡ Some new → IsProper new

-- ---- lists

pub record SplitAt {A : Type 0} (xs : List A) (x : A) : Type 0 where
  pub before : List A
  pub behind : List A
  pub is : xs ≡ before ++ x ∷ behind

pub split_at : {A : Type 0} (xs : List A) (k : ℕ) (x : A) → slice_get xs k ≡ Some x → SplitAt xs x
split_at [] k x is = absurd cc
split_at {A} (y ∷ xs) zero x is = let same : y ≡ x = cc (is) in record { before = []; behind = xs; is = ap (λ (h : A). h ∷ xs) same }
split_at {A} (y ∷ xs) (suc k) x is = let s : SplitAt xs x = split_at xs k x is in record { before = y ∷ s.before; behind = s.behind; is = ap (λ (l : List A). y ∷ l) s.is }

pub still_there : {A : Type 0} (xs more : List A) (k : ℕ) (x : A) → slice_get xs k ≡ Some x → slice_get (xs ++ more) k ≡ Some x
still_there [] more k x is = absurd cc
still_there (y ∷ xs) more zero x is = is
still_there (y ∷ xs) more (suc k) x is = still_there xs more k x is

pub other_join : (a b : List Entry) → BeginsOtherwise a → BeginsOtherwise b → BeginsOtherwise (a ++ b)
other_join [] b first second = second
other_join (e ∷ a) b first second = first

pub none_other : BeginsOtherwise []
none_other file uid is = is

pub user_other : (entries : List Entry) → AllByRecursion (λ e. is_user_entry e ≡ true) entries → BeginsOtherwise entries
user_other [] all = none_other
user_other (e ∷ entries) all = λ file uid is. let wrong : false ≡ true = sym (ap is_user_entry is) ∙ all.0 in absurd cc

pub posted_other : (from : NodeId) (sent : ℕ) (sends : List (NodeId × List ℕ)) → BeginsOtherwise (posted from sent sends)
posted_other from sent [] = none_other
posted_other from sent ((to, bytes) ∷ sends) = λ file uid is. absurd cc

-- the tail of an event is the same journal
pub regroup : (j a b more : List Entry) → (j ++ (a ++ b)) ++ more ≡ j ++ (a ++ (b ++ more))
regroup j a b more = append_assoc j (a ++ b) more ∙ ap (λ (l : List Entry). j ++ l) (append_assoc a b more)

module _ (laws : BoundLaws) (mds_laws : MdsLaws) (records : RecordLaws) (users : UserLaws) (boots : List ℕ) where
  -- ---- nothing, and what tells nothing

  pub nothing_so : (w : ClusterState) → IsBoundRunOf boots w → (node : NodeId) → IsBoundRunOf boots (acting node (does_nothing w.machines) w)
  nothing_so w i node = subst (IsBoundRun boots w.machines.servers w.machines.mds) (sym (append-nil w.journal)) i

  pub quiet_so : (w : ClusterState) → IsBoundRunOf boots w → (entries : List Entry) → telling entries ≡ [] → AllByRecursion IsNoPacket entries → IsBoundRun boots w.machines.servers w.machines.mds (w.journal ++ entries)
  quiet_so w i entries quiet none = all_quiet laws boots w.machines.servers w.machines.mds w.journal entries i quiet none

  -- ---- a client

  client_did_so : (w : ClusterState) → IsBoundRunOf boots w → (n : ℕ) (s : ClientStep) → IsUserStep s → (more : List Entry) → HoldersKeepParts ((w.journal ++ (s.entries ++ posted (Client n) w.sent (map client.spelled_send s.sends))) ++ more) → BeginsOtherwise more
      → IsBoundRunOf boots (acting (Client n) (client_did w.machines n s) w)
  client_did_so w i n s user more parts other =
      let packets : List Entry = posted (Client n) w.sent (map client.spelled_send s.sends) in
      let first : IsBoundRun boots w.machines.servers w.machines.mds (w.journal ++ s.entries) =
      all_notes laws boots w.machines.servers w.machines.mds w.journal s.entries (posted (Client n) w.sent (map client.spelled_send s.sends) ++ more) i user.entries
      (subst HoldersKeepParts (regroup w.journal s.entries (posted (Client n) w.sent (map client.spelled_send s.sends)) more) parts)
      (none_own s.entries (posted (Client n) w.sent (map client.spelled_send s.sends) ++ more) user.entries (posts_otherwise (Client n) w.sent (map client.spelled_send s.sends) more other)) in
      subst (IsBoundRun boots w.machines.servers w.machines.mds) (append_assoc w.journal s.entries (posted (Client n) w.sent (map client.spelled_send s.sends)))
      (posts laws boots w.machines.servers w.machines.mds (w.journal ++ s.entries) first (Client n) tt w.sent (map client.spelled_send s.sends) (users_send users.records first.machine first.sends n s.sends user.sends))

  pub client_acts_so : (w : ClusterState) → IsBoundRunOf boots w → (n : ℕ) (rule : ClientValue → ClientStep) → ((c : ClientValue) → IsUserStep (rule c)) → (more : List Entry) → HoldersKeepParts ((acting (Client n) (client_acts n rule w.machines) w).journal ++ more)
      → BeginsOtherwise more → IsBoundRunOf boots (acting (Client n) (client_acts n rule w.machines) w)
  client_acts_so w i n rule user more parts other = by_client (nth w.machines.clients n) parts
    where
      by_client : (o : Option ClientValue) → HoldersKeepParts ((acting (Client n) (client_at w.machines n rule o) w).journal ++ more) → IsBoundRunOf boots (acting (Client n) (client_at w.machines n rule o) w)
      by_client None parts = nothing_so w i (Client n)
      by_client (Some c) parts = client_did_so w i n (rule c) (user c) more parts other

  -- where nothing follows
  pub alone : (journal : List Entry) → HoldersKeepParts journal → HoldersKeepParts (journal ++ [])
  alone journal parts = subst HoldersKeepParts (sym (append-nil journal)) parts

  pub client_alone : (w : ClusterState) → IsBoundRunOf boots w → (n : ℕ) (rule : ClientValue → ClientStep) → ((c : ClientValue) → IsUserStep (rule c)) → HoldersKeepParts (acting (Client n) (client_acts n rule w.machines) w).journal
      → IsBoundRunOf boots (acting (Client n) (client_acts n rule w.machines) w)
  client_alone w i n rule user parts = client_acts_so w i n rule user [] (alone (acting (Client n) (client_acts n rule w.machines) w).journal parts) none_other

  -- ---- the metadata server

  ranges_of : (servers : List ServerState) (mds : MdsValue) (journal : List Entry) (i : IsBoundRun boots servers mds journal) → AreServersInRange i.machine
  ranges_of servers mds journal i n x at = in_range x (proper_at servers n x i.proper (subst (λ (l : List ServerState). numbered_at l n ≡ Some x) (sym i.servers_are) at))

  pub mds_so : (w : ClusterState) (i : IsBoundRunOf boots w) (e : MdsEvent) → MayComeTo i.machine i.sends e.input → HoldersKeepParts (acting Mds (mds_acts (after_event e) w.machines) w).journal → IsBoundRunOf boots (acting Mds (mds_acts (after_event e) w.machines) w)
  mds_so w i e may parts =
      mds_acts_so laws mds_laws boots w.machines.servers w.machines.mds w.journal i e (ranges_of w.machines.servers w.machines.mds w.journal i) may w.sent (posted Mds w.sent (map spelled_send (after_event e w.machines.mds).sends)) parts

  -- ---- data servers

  -- what a packet that came says, by who sent it
  abbrev pub CameFrom : List Entry → NodeId → ℕ → List ℕ → Type 0
  CameFrom journal Mds n bytes = Unit {0}
  CameFrom journal (Server k) n bytes = Unit {0}
  CameFrom journal (Client c) n bytes = (past : List Entry) × (more : List Entry) × (journal ≡ past ++ more) × IsPostedCall past bytes × WasPosted journal (Client c) (Server n) bytes

  pub server_so : (w : ClusterState) (i : IsBoundRunOf boots w) (n : ℕ) (from : NodeId) (bytes : List ℕ) → IsCarried i.machine i.sends from (Server n) bytes → CameFrom w.journal from n bytes → IsBoundRunOf boots (acting (Server n) (server_acts n from bytes w.machines) w)
  server_so w i n from bytes was came = by_server (nth w.machines.servers n) refl
    where
      served_so : (s : ServerState) → nth w.machines.servers n ≡ Some s → (from : NodeId) → IsCarried i.machine i.sends from (Server n) bytes → CameFrom w.journal from n bytes → IsBoundRunOf boots (acting (Server n) (server_did w.machines n from (outcome_of s bytes)) w)
      served_so s is Mds was came =
          from_mds laws records boots w.machines.servers w.machines.mds w.journal i n s (subst (λ (l : List ServerState). numbered_at l n ≡ Some s) i.servers_are is) (proper_at w.machines.servers n s i.proper is) w.sent bytes was
      served_so s is (Server k) was came = absurd was
      served_so s is (Client c) was came =
          from_client laws records boots w.machines.servers w.machines.mds w.journal i n s (subst (λ (l : List ServerState). numbered_at l n ≡ Some s) i.servers_are is) (proper_at w.machines.servers n s i.proper is) w.sent c bytes came.0 came.1 came.2 came.3 came.4

      by_server : (o : Option ServerState) → nth w.machines.servers n ≡ o → IsBoundRunOf boots (acting (Server n) (server_at w.machines n from bytes o) w)
      by_server None is = nothing_so w i (Server n)
      by_server (Some s) is = served_so s is from was came

  pub restarted_so : (w : ClusterState) (i : IsBoundRunOf boots w) (n : ℕ) (pieces : List Piece) → IsBoundRunOf boots (acting (Server n) (restarts n pieces w.machines) w)
  restarted_so w i n pieces = by_server (nth w.machines.servers n) refl
    where
      by_start : (s : ServerState) → numbered_at w.machines.servers n ≡ Some s → (o : Option ServerState) → restart_of s pieces ≡ o → IsBoundRunOf boots (acting (Server n) (started w.machines n pieces o) w)
      by_start s at None is = nothing_so w i (Server n)
      by_start s at (Some new) is =
          serves_silently laws boots w.machines.servers w.machines.mds w.journal i n (record { server = new; entries = entry.Restarted n pieces ∷ []; reply = None }) []
          (restarts_so i.machine (telling w.journal) n pieces s new None (subst (λ (l : List ServerState). numbered_at l n ≡ Some s) i.servers_are at) is) (users.restarted s pieces new (proper_at w.machines.servers n s i.proper at) is) (tt, tt)

      by_server : (o : Option ServerState) → nth w.machines.servers n ≡ o → IsBoundRunOf boots (acting (Server n) (restarts_at w.machines n pieces o) w)
      by_server None is = nothing_so w i (Server n)
      by_server (Some s) is = by_start s is (restart_of s pieces) refl
