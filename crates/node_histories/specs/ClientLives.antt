-- The lives of a client of a world: each start of it, with all that came to it until the next, and where its history stands in the journal.
use Rattle.std.specs.Prelude.{◌≡◌, ℕ, true, false, List, [], ◌∷◌, ◌++◌, Some, ◌⊎◌}
use Rattle.cluster_model.specs.declared.ids.NodeId.TheVariants.{Client}
use Rattle.cluster_model.specs.declared.entry.Entry.{Entry}
use Rattle.cluster_model.specs.declared.entry.Entry.TheVariants.{Rebooted}
use Rattle.cluster_model.specs.Members.{IsOneOf}
use Rattle.client_state.specs.ClientStates.{ClientValue, fresh_client}
use Rattle.client_state.specs.ClientSends.{spelled_send}
use Rattle.client_laws.specs.ClientHistory.{ClientInput, Requested, Recorded, TimeoutOf, Ticked, LeftProtocol, Strayed, HistoryItem, Hears, Enters, Sends, client_history, client_after, input_step}
use Rattle.world_rule.specs.ClusterWorlds.{verifier_after}
use Rattle.node_histories.specs.Weaves.{ItemShown, IsUnseen, IsArrival, IsEntry, IsSending, WeaveStep, entries_in, items_in, AreWoven}

abbrev pub input_shown : ClientInput → ItemShown
input_shown (Recorded from bytes now) = IsArrival from bytes
input_shown (Requested request) = IsUnseen
input_shown (TimeoutOf to) = IsUnseen
input_shown (Ticked now) = IsUnseen
input_shown LeftProtocol = IsUnseen
input_shown (Strayed place at bytes) = IsUnseen

-- what is seen of a client's item
abbrev pub client_shown : HistoryItem → ItemShown
client_shown (Hears input) = input_shown input
client_shown (Enters entry) = IsEntry entry
client_shown (Sends send) = IsSending (spelled_send send).0 (spelled_send send).1

-- a start, all that came to it, the journal before it, and how its history goes on in the journal
pub record Life : Type 0 where
  pub verifier : ℕ
  pub first_xid : ℕ
  pub inputs : List ClientInput
  pub begun : List Entry
  pub steps : List (WeaveStep HistoryItem)

abbrev pub start_of : ℕ → Life → ClientValue
start_of n l = fresh_client n l.verifier l.first_xid

-- the client at its last moment, and the journal then
abbrev pub client_of : ℕ → Life → ClientValue
client_of n l = client_after (start_of n l) l.inputs

abbrev pub journal_of : Life → List Entry
journal_of l = l.begun ++ entries_in l.steps

-- writes stray only from a client that has left the protocol (RFC 8435, section 2.2)
abbrev pub StraysIfLeft : ClientValue → ClientInput → Type 0
StraysIfLeft c (Requested request) = Unit {0}
StraysIfLeft c (Recorded from bytes now) = Unit {0}
StraysIfLeft c (TimeoutOf to) = Unit {0}
StraysIfLeft c (Ticked now) = Unit {0}
StraysIfLeft c LeftProtocol = Unit {0}
StraysIfLeft c (Strayed place at bytes) = c.has_left ≡ true

abbrev pub HaveStraysLeft : ClientValue → List ClientInput → Type 0
HaveStraysLeft c [] = Unit {0}
HaveStraysLeft c (input ∷ inputs) = StraysIfLeft c input × HaveStraysLeft (input_step input c).client inputs

pub record IsLife (n : ℕ) (l : Life) : Type 0 where
  pub history : client_history (start_of n l) l.inputs ≡ items_in l.steps
  pub woven : AreWoven client_shown (Client n) l.begun l.steps
  pub strays : HaveStraysLeft (start_of n l) l.inputs

-- The first start has the verifier 1 and begins its calls with the number 1, with no entry before it. Each other begins behind the entry
-- of the restart, with the next verifier, and its calls are numbered on; who has left the protocol does not start again.
pub record Restarts (n : ℕ) (old new : Life) : Type 0 where
  pub stayed : (client_of n old).has_left ≡ false
  pub verifier : new.verifier ≡ verifier_after (Some old.verifier)
  pub numbered_on : new.first_xid ≡ (client_of n old).next_xid
  pub begins : new.begun ≡ journal_of old ++ Rebooted n ∷ []

pub record IsFirst (l : Life) : Type 0 where
  pub verifier : l.verifier ≡ 1
  pub first_xid : l.first_xid ≡ 1
  pub begins : l.begun ≡ []

-- the newest first
abbrev pub AreLives : ℕ → Life → List Life → Type 0
AreLives n l [] = IsLife n l × IsFirst l
AreLives n l (old ∷ older) = IsLife n l × Restarts n old l × AreLives n old older
