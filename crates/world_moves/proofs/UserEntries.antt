-- What a client enters is moves of the machine, and what it sends is carried.
use Rattle.std.proofs.Common.{◌≡◌, ℕ, Bool, true, false, cond, List, [], ◌∷◌, refl}
use Rattle.std.specs.Prelude.{not, map}
use Rattle.std.specs.List.{AllByRecursion}
use Rattle.cluster_model.specs.declared.ids.NodeId.{NodeId}
use Rattle.cluster_model.specs.declared.ids.NodeId.TheVariants.{Client}
use Rattle.cluster_model.specs.declared.entry.Entry.{Entry}
use Rattle.cluster_model.specs.declared.entry.Entry.TheVariants.{Packet, Sent, Rogue, Told}
use Rattle.cluster_laws.specs.Machine.{Machine, Takes, Strays, Tells}
use Rattle.cluster_laws.specs.Telling.{is_telling, telling}
use Rattle.machine_moves.specs.MachineGoesOn.{MachineGoesOn}
use Rattle.machine_moves.proofs.Going.{goes_none, goes_quiet, goes_then, goes_by}
use Rattle.client_state.specs.ClientSends.{ClientSend, CallsServer, CallsMds, RepeatsToServer, RepeatsToMds, RepliesToMds, spelled_send}
use Rattle.client_sends.specs.SendsOfUsers.{IsUserSend, is_user_entry, IsRecordOfUser}
use Rattle.mds_rule.specs.MdsStates.{MdsSend}
use Rattle.mds_forms.specs.Forms.{IsNoPacket}
use Rattle.world_moves.specs.WorldMoves.{IsFromClient, IsCarried}

-- an entry that tells nothing
untold : (e : Entry) → not (is_telling e) ≡ true → telling (e ∷ []) ≡ []
untold e is = by_kind (is_telling e) is
  where
    by_kind : (b : Bool) → not b ≡ true → cond b (e ∷ []) [] ≡ []
    by_kind true is = absurd cc
    by_kind false is = refl

one_goes : (mc : Machine) (e : Entry) → is_user_entry e ≡ true → MachineGoesOn mc (e ∷ []) mc
one_goes mc (Sent file cred at bytes) is = goes_by mc (Takes file cred.0 at bytes)
one_goes mc (Rogue file cred at bytes) is = goes_by mc (Strays file cred.0 at bytes)
one_goes mc (Told file cred at bytes) is = goes_by mc (Tells file cred.0 at bytes)
one_goes mc (Packet number from to bytes) is = absurd cc
one_goes mc e is = goes_quiet mc (e ∷ []) (untold e is)

pub user_goes : (mc : Machine) (entries : List Entry) → AllByRecursion (λ e. is_user_entry e ≡ true) entries → MachineGoesOn mc entries mc
user_goes mc [] all = goes_none mc
user_goes mc (e ∷ entries) all = goes_then mc mc mc (e ∷ []) entries (one_goes mc e all.0) (user_goes mc entries all.1)

no_packet : (e : Entry) → is_user_entry e ≡ true → IsNoPacket e
no_packet (Packet number from to bytes) is = absurd cc
no_packet e is = tt

pub users_enter : (entries : List Entry) → AllByRecursion (λ e. is_user_entry e ≡ true) entries → AllByRecursion IsNoPacket entries
users_enter [] all = tt
users_enter (e ∷ entries) all = (no_packet e all.0, users_enter entries all.1)

module _ (records : (s : ClientSend) (server : ℕ) (bytes : List ℕ) → IsRecordOfUser s server bytes) (mc : Machine) (ss : List MdsSend) (n : ℕ) where
  send_carried : (s : ClientSend) → IsUserSend s → IsFromClient (spelled_send s).0 (spelled_send s).1
  send_carried (CallsServer server xid name uid call) user = records (CallsServer server xid name uid call) server (spelled_send (CallsServer server xid name uid call)).1 user refl
  send_carried (RepeatsToServer server xid name uid call) user = records (RepeatsToServer server xid name uid call) server (spelled_send (RepeatsToServer server xid name uid call)).1 user refl
  send_carried (CallsMds xid name call) user = tt
  send_carried (RepeatsToMds xid message) user = tt
  send_carried (RepliesToMds reply) user = tt

  pub users_send : (sends : List ClientSend) → AllByRecursion IsUserSend sends → AllByRecursion (λ (x : NodeId × List ℕ). IsCarried mc ss (Client n) x.0 x.1) (map spelled_send sends)
  users_send [] all = tt
  users_send (s ∷ sends) all = (send_carried s all.0, users_send sends all.1)
