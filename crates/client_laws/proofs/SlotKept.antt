-- The callback whose status a client keeps was heard.
use Rattle.std.proofs.Common.{◌≡◌, ℕ, List, [], ◌∷◌, ◌++◌, Option, Some, None, sym, ap, ◌∙◌}
use Rattle.nfs4_types.specs.declared.status.Stat4.{Stat4}
use Rattle.cluster_model.specs.declared.ids.NodeId.TheVariants.{Mds}
use Rattle.client_state.specs.declared.tie.Tie.{Tie}
use Rattle.client_state.specs.declared.tie.Tie.TheVariants.{NoClient, HasClient, HasSession}
use Rattle.client_laws.specs.ClientHistory.{HistoryItem, Hears, Recorded, HasItem}
use Rattle.client_laws.specs.RecallLaws.{IsCallback}
use Rattle.client_laws.proofs.Orders.{in_more}

-- the session of a slot, the number of its last callback and the status that is kept
pub record SlotHeld : Type 0 where
  pub session : List ℕ
  pub last : ℕ
  pub kept : Option Stat4

abbrev pub slot_of : Tie → Option SlotHeld
slot_of NoClient = None
slot_of (HasClient clientid sequence) = None
slot_of (HasSession s) = Some (record { session = s.id.0; last = s.callbacks.last; kept = s.callbacks.kept })

pub record HeardCallback (h : List HistoryItem) (session : List ℕ) (number : ℕ) : Type 0 where
  pub bytes : List ℕ
  pub now : ℕ
  pub there : HasItem h (Hears (Recorded Mds bytes now))
  pub callback : IsCallback bytes session number

abbrev pub SlotStands : List HistoryItem → Tie → Type 0
SlotStands h tie = (k : SlotHeld) (status : Stat4) → slot_of tie ≡ Some k → k.kept ≡ Some status → HeardCallback h k.session k.last

pub slot_later : (h more : List HistoryItem) (tie : Tie) → SlotStands h tie → SlotStands (h ++ more) tie
slot_later h more tie s k status is kept =
    let c : HeardCallback h k.session k.last = s k status is kept in
    record { bytes = c.bytes; now = c.now; there = in_more (Hears (Recorded Mds c.bytes c.now) ∷ []) h more c.there; callback = c.callback }

-- no other status is kept
abbrev pub KeepsSlot : Tie → Tie → Type 0
KeepsSlot old new = (k : SlotHeld) (status : Stat4) → slot_of new ≡ Some k → k.kept ≡ Some status → slot_of old ≡ Some k

pub slot_keeps : (h : List HistoryItem) (old new : Tie) → KeepsSlot old new → SlotStands h old → SlotStands h new
slot_keeps h old new keeps s k status is kept = s k status (keeps k status is kept) kept

pub same_slot : (old new : Tie) → new ≡ old → KeepsSlot old new
same_slot old new same k status is kept = ap slot_of (sym same) ∙ is
