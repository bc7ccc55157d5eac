-- The moves of a data server's part: a user's call goes out and is delivered, a call that was sent is delivered, the server starts again, or nothing
-- happens.
use Rattle.std.proofs.Common.{◌≡◌, ◌<◌, ℕ, zero, suc, ◌+◌, ◌-◌, Bool, true, false, cond, List, [], ◌∷◌, ◌++◌, length, Option, Some, None, refl, sym, ap, subst, ◌∙◌, length-set}
use Rattle.std.specs.Prelude.{slice_get, slice_set, ◌&&◌}
use Rattle.std.specs.List.{AllByRecursion}
use Rattle.std.proofs.lemmas.List.{append_assoc, append-nil}
use Rattle.cluster_model.specs.declared.ids.NodeId.{NodeId}
use Rattle.cluster_model.specs.declared.ids.NodeId.TheVariants.{Mds, Server, Client}
use Rattle.cluster_model.specs.declared.ids.MirrorId.{MirrorId}
use Rattle.cluster_model.specs.declared.piece.Piece.{Piece}
use Rattle.cluster_model.specs.declared.entry.Entry.{Entry}
use Rattle.cluster_model.specs.declared.entry.Entry.TheVariants as entry
use Rattle.cluster_model.specs.File.{Writes, Commits, Sets, Restarts as Restarting}
use Rattle.cluster_model.specs.Server.{ServerState, Caller, Effect, NoEffect, OnFile, NewFile, applied_entries, committed_entries, owner_entries, entries_of, mirror_of, restart_of}
use Rattle.cluster_model.specs.DsCalls.{DsCallValue, DsReplyValue, DsStep, ds_plan, ds_step}
use Rattle.ds_files.specs.Receive.{Outcome}
use Rattle.cluster_laws.specs.Machine.{PacketValue, Call, Reply, Machine, MachineStep, Move, Deliver, Uses, Restarts, no_move, numbered_at, with_server, puts_out, caller_by, served, arrives_at, delivered, may_use, started_again, restarts_at, moved, machine_after, journal_of}
use Rattle.cluster_laws.specs.Holders.{IsBoundCall, AreBoundFrom}
use Rattle.cluster_laws.specs.Telling.{telling}
use Rattle.machine_moves.specs.MachineMoves.{KeepsPackets}
use Rattle.machine_moves.proofs.Packets.{keeps_same, moves_keep}
use Rattle.world_moves.proofs.ServerMoves.{IsLike, at_end, at_place}
use Rattle.bound_worlds.proofs.BoundServers.{ServesSo}

-- ---- what a data server enters is told

applied_told : (m : MirrorId) (uid at : ℕ) (bytes : List ℕ) (more : List Entry) → telling more ≡ more → telling (applied_entries m uid at bytes ++ more) ≡ applied_entries m uid at bytes ++ more
applied_told m uid at [] more told = told
applied_told m uid at (b ∷ bytes) more told = ap (λ (l : List Entry). entry.Applied m (record { 0 = uid }) at (b ∷ bytes) ∷ l) told

committed_told : (m : MirrorId) (synced : Bool) → telling (committed_entries m synced) ≡ committed_entries m synced
committed_told m true = refl
committed_told m false = refl

owner_told : (m : MirrorId) (owner : Option ℕ) → telling (owner_entries m owner) ≡ owner_entries m owner
owner_told m None = refl
owner_told m (Some uid) = refl

effect_told : (s : ServerState) (uid : ℕ) (does : Effect) → telling (entries_of s uid does) ≡ entries_of s uid does
effect_told s uid NoEffect = refl
effect_told s uid (OnFile index (Writes at synced bytes)) = applied_told (mirror_of s index) uid at bytes (committed_entries (mirror_of s index) synced) (committed_told (mirror_of s index) synced)
effect_told s uid (OnFile index Commits) = refl
effect_told s uid (OnFile index (Sets changes)) = owner_told (mirror_of s index) changes.owner
effect_told s uid (OnFile index (Restarting pieces)) = refl
effect_told s uid (NewFile name owner group mode) = refl

set_there : {A : Type 0} (xs : List A) (k : ℕ) (x : A) → slice_get xs k ≡ Some x → slice_set xs k x ≡ xs
set_there [] k x is = refl
set_there (y ∷ xs) zero x is = cc
set_there (y ∷ xs) (suc k) x is = ap (λ (l : List _). y ∷ l) (set_there xs k x is)

-- ---- a call that was sent is delivered

module _ (mc : Machine) (place : ℕ) (from : NodeId) (n xid uid gid : ℕ) (call : DsCallValue) (s : ServerState) (there : slice_get mc.packets place ≡ Some (Call from n xid uid gid call)) (at : numbered_at mc.servers n ≡ Some s) where
  abbrev step : DsStep
  step = ds_step s (caller_by uid gid) call

  abbrev pub served_by : MachineStep
  served_by = served mc place from n xid (ds_step s (caller_by uid gid) call)

  pub comes_so : moved mc (Deliver place) ≡ served mc place from n xid (ds_step s (caller_by uid gid) call)
  comes_so = ap (delivered mc place) there ∙ ap (arrives_at mc place from n xid (caller_by uid gid) call) at

  pub step_told : telling (ds_step s (caller_by uid gid) call).entries ≡ (ds_step s (caller_by uid gid) call).entries
  step_told = effect_told s uid (ds_plan s (caller_by uid gid) call).effect

  pub delivers_so : (past : List Entry) (o : Outcome) → o.server ≡ (ds_step s (caller_by uid gid) call).server → o.entries ≡ (ds_step s (caller_by uid gid) call).entries
      → ServesSo mc past n o (Reply place n from xid (ds_step s (caller_by uid gid) call).reply ∷ [])
  delivers_so past o server entries = record {
    moves = Deliver place ∷ [];
    machine = (served mc place from n xid (ds_step s (caller_by uid gid) call)).machine;
    goes_to = ap (λ (x : MachineStep). x.machine) comes_so;
    enters = append-nil (moved mc (Deliver place)).entries ∙ (ap (λ (x : MachineStep). x.entries) comes_so ∙ (sym step_told ∙ ap telling (sym entries)));
    bound = (tt, tt);
    servers = ap (λ (x : ServerState). slice_set mc.servers (n - 1) x) (sym server);
    like = record {
      files = refl;
      uid = refl;
      name = refl;
      count = length-set mc.servers (n - 1) (ds_step s (caller_by uid gid) call).server;
      last = refl;
      packets = subst (λ (x : MachineStep). KeepsPackets mc x.machine) comes_so (moves_keep mc (Deliver place ∷ []));
    };
    packets = refl;
  }

-- ---- a user's call goes out and is delivered

module _ (mc : Machine) (client n xid uid gid : ℕ) (call : DsCallValue) (s : ServerState) (may : may_use call ≡ true) (at : numbered_at mc.servers n ≡ Some s) where
  abbrev sent_out : Machine
  sent_out = puts_out mc (Client client) xid (Call (Client client) n xid uid gid call)

  use_is : moved mc (Uses (Client client) n xid uid gid call) ≡ record { machine = puts_out mc (Client client) xid (Call (Client client) n xid uid gid call); entries = [] }
  use_is = ap (λ (b : Bool). cond (b && true) (record { machine = puts_out mc (Client client) xid (Call (Client client) n xid uid gid call); entries = [] }) (no_move mc)) may

  abbrev after_it : MachineStep
  after_it = served sent_out (length mc.packets) (Client client) n xid (ds_step s (caller_by uid gid) call)

  second_is : moved sent_out (Deliver (length mc.packets)) ≡ after_it
  second_is = comes_so sent_out (length mc.packets) (Client client) n xid uid gid call s (at_end mc.packets (Call (Client client) n xid uid gid call)) at

  both_are : machine_after mc (Uses (Client client) n xid uid gid call ∷ (Deliver (length mc.packets) ∷ [])) ≡ after_it.machine
  both_are = ap (λ (x : MachineStep). (moved x.machine (Deliver (length mc.packets))).machine) use_is ∙ ap (λ (x : MachineStep). x.machine) second_is

  both_enter : journal_of mc (Uses (Client client) n xid uid gid call ∷ (Deliver (length mc.packets) ∷ [])) ≡ (ds_step s (caller_by uid gid) call).entries
  both_enter =
      ap (λ (x : MachineStep). x.entries ++ ((moved x.machine (Deliver (length mc.packets))).entries ++ [])) use_is
      ∙ (append-nil (moved sent_out (Deliver (length mc.packets))).entries ∙ ap (λ (x : MachineStep). x.entries) second_is)

  pub uses_so : (past : List Entry) → IsBoundCall past uid call → (o : Outcome) → o.server ≡ (ds_step s (caller_by uid gid) call).server → o.entries ≡ (ds_step s (caller_by uid gid) call).entries
      → ServesSo mc past n o (Call (Client client) n xid uid gid call ∷ (Reply (length mc.packets) n (Client client) xid (ds_step s (caller_by uid gid) call).reply ∷ []))
  uses_so past bound o server entries = record {
    moves = Uses (Client client) n xid uid gid call ∷ (Deliver (length mc.packets) ∷ []);
    machine = after_it.machine;
    goes_to = both_are;
    enters = both_enter ∙ (sym (effect_told s uid (ds_plan s (caller_by uid gid) call).effect) ∙ ap telling (sym entries));
    bound = (bound, (tt, tt));
    servers = ap (λ (x : ServerState). slice_set mc.servers (n - 1) x) (sym server);
    like = record {
      files = refl;
      uid = refl;
      name = refl;
      count = length-set mc.servers (n - 1) (ds_step s (caller_by uid gid) call).server;
      last = refl;
      packets = subst (λ (x : Machine). KeepsPackets mc x) both_are (moves_keep mc (Uses (Client client) n xid uid gid call ∷ (Deliver (length mc.packets) ∷ [])));
    };
    packets = append_assoc mc.packets (Call (Client client) n xid uid gid call ∷ []) (Reply (length mc.packets) n (Client client) xid (ds_step s (caller_by uid gid) call).reply ∷ []);
  }

-- ---- nothing happens

pub stays_so : (mc : Machine) (past : List Entry) (n : ℕ) (s : ServerState) (o : Outcome) → numbered_at mc.servers n ≡ Some s → o.server ≡ s → o.entries ≡ [] → ServesSo mc past n o []
stays_so mc past n s o at server entries = record {
  moves = [];
  machine = mc;
  goes_to = refl;
  enters = ap telling (sym entries);
  bound = tt;
  servers = sym (ap (λ (x : ServerState). slice_set mc.servers (n - 1) x) server ∙ set_there mc.servers (n - 1) s (at_place mc.servers n s at));
  like = record { files = refl; uid = refl; name = refl; count = refl; last = refl; packets = keeps_same mc };
  packets = sym (append-nil mc.packets);
}

-- ---- a restart

pub restarts_so : (mc : Machine) (past : List Entry) (n : ℕ) (pieces : List Piece) (s new : ServerState) (reply : Option (List ℕ)) → numbered_at mc.servers n ≡ Some s → restart_of s pieces ≡ Some new
    → ServesSo mc past n (record { server = new; entries = entry.Restarted n pieces ∷ []; reply = reply }) []
restarts_so mc past n pieces s new reply at is =
    let comes : moved mc (Restarts n pieces) ≡ record { machine = with_server mc n new mc.packets; entries = entry.Restarted n pieces ∷ [] } = ap (restarts_at mc n pieces) at ∙ ap (started_again mc n pieces) is in
    record {
      moves = Restarts n pieces ∷ [];
      machine = with_server mc n new mc.packets;
      goes_to = ap (λ (x : MachineStep). x.machine) comes;
      enters = append-nil (moved mc (Restarts n pieces)).entries ∙ ap (λ (x : MachineStep). x.entries) comes;
      bound = (tt, tt);
      servers = refl;
      like = record {
        files = refl;
        uid = refl;
        name = refl;
        count = length-set mc.servers (n - 1) new;
        last = refl;
        packets = subst (λ (x : MachineStep). KeepsPackets mc x.machine) comes (moves_keep mc (Restarts n pieces ∷ []));
      };
      packets = sym (append-nil mc.packets);
    }
