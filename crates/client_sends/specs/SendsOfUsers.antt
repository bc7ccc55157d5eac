-- What a client sends to data servers, and what it enters of what a run of the machine tells.
use Rattle.std.specs.Prelude.{◌≡◌, ℕ, Bool, true, false, not, List}
use Rattle.std.specs.List.{AllByRecursion}
use Rattle.cluster_model.specs.declared.ids.NodeId.TheVariants.{Server}
use Rattle.cluster_model.specs.declared.entry.Entry.{Entry}
use Rattle.cluster_model.specs.declared.entry.Entry.TheVariants.{Packet, Sent, Rogue, Told}
use Rattle.cluster_laws.specs.Machine.{may_use}
use Rattle.cluster_laws.specs.Telling.{is_telling}
use Rattle.client_state.specs.ClientStates.{ClientValue}
use Rattle.client_state.specs.ClientSends.{ClientSend, CallsServer, RepeatsToServer, spelled_send}
use Rattle.client_laws.specs.ClientHistory.{ClientInput, input_step}
use Rattle.user_records.specs.UserRecords.{IsUserRecord}

-- a call to a data server, new or repeated, is one that a user may make
abbrev pub IsUserSend : ClientSend → Type 0
IsUserSend (CallsServer server xid name uid call) = may_use call ≡ true
IsUserSend (RepeatsToServer server xid name uid call) = may_use call ≡ true
IsUserSend _ = Unit {0}

-- a write that was taken, strayed or was told, or an entry of no kind that a run of the machine makes; no packet, which is the world's
abbrev pub is_user_entry : Entry → Bool
is_user_entry (Sent file cred at bytes) = true
is_user_entry (Rogue file cred at bytes) = true
is_user_entry (Told file cred at bytes) = true
is_user_entry (Packet number from to bytes) = false
is_user_entry e = not (is_telling e)

-- of an input that comes to a client
abbrev pub SendsAsUser : ClientInput → ClientValue → Type 0
SendsAsUser input c = AllByRecursion IsUserSend (input_step input c).sends

abbrev pub EntersAsUser : ClientInput → ClientValue → Type 0
EntersAsUser input c = AllByRecursion (λ e. is_user_entry e ≡ true) (input_step input c).entries

-- the record of a user's call is a user's record
abbrev pub IsRecordOfUser : ClientSend → ℕ → List ℕ → Type 0
IsRecordOfUser s server bytes = IsUserSend s → spelled_send s ≡ (Server server, bytes) → IsUserRecord bytes
