-- How the history of a node stands in the journal of a world: which of its items are entries there, and where.
use Rattle.std.specs.Prelude.{◌≡◌, ℕ, List, [], ◌∷◌, ◌++◌}
use Rattle.cluster_model.specs.declared.ids.NodeId.{NodeId}
use Rattle.cluster_model.specs.declared.entry.Entry.{Entry}
use Rattle.cluster_model.specs.declared.entry.Entry.TheVariants.{Packet, Delivered}

-- What an item of a history is in a journal: nothing; a packet of these bytes that came from a node; an entry; or a packet that was sent.
pub data ItemShown : Type 0 where
  IsUnseen : ItemShown
  IsArrival : (from : NodeId) (bytes : List ℕ) → ItemShown
  IsEntry : (entry : Entry) → ItemShown
  IsSending : (to : NodeId) (bytes : List ℕ) → ItemShown

-- From one moment to the next: an entry of others, an item that is no entry, or an item with its entry.
pub data WeaveStep (I : Type 0) : Type 0 where
  Passes : (entry : Entry) → WeaveStep I
  Unseen : (item : I) → WeaveStep I
  Seen : (item : I) (entry : Entry) → WeaveStep I

abbrev pub entries_in : {I : Type 0} → List (WeaveStep I) → List Entry
entries_in [] = []
entries_in (Passes entry ∷ steps) = entry ∷ entries_in steps
entries_in (Unseen item ∷ steps) = entries_in steps
entries_in (Seen item entry ∷ steps) = entry ∷ entries_in steps

abbrev pub items_in : {I : Type 0} → List (WeaveStep I) → List I
items_in [] = []
items_in (Passes entry ∷ steps) = items_in steps
items_in (Unseen item ∷ steps) = item ∷ items_in steps
items_in (Seen item entry ∷ steps) = item ∷ items_in steps

-- the packet of a number was sent
pub record HasPacket (journal : List Entry) (number : ℕ) (from to : NodeId) (bytes : List ℕ) : Type 0 where
  pub before : List Entry
  pub behind : List Entry
  pub split : journal ≡ before ++ Packet number from to bytes ∷ behind

-- an entry behind a journal is what is shown of a node
abbrev pub IsArrivalAt : NodeId → List Entry → NodeId → List ℕ → Entry → Type 0
IsArrivalAt node journal from bytes (Delivered number) = HasPacket journal number from node bytes
IsArrivalAt node journal from bytes e = ⊥

abbrev pub IsSendingOf : NodeId → NodeId → List ℕ → Entry → Type 0
IsSendingOf node to bytes (Packet number from at sent) = (from ≡ node) × (at ≡ to) × (sent ≡ bytes)
IsSendingOf node to bytes e = ⊥

abbrev pub IsShownAs : NodeId → List Entry → ItemShown → Entry → Type 0
IsShownAs node journal IsUnseen e = ⊥
IsShownAs node journal (IsArrival from bytes) e = IsArrivalAt node journal from bytes e
IsShownAs node journal (IsEntry entry) e = e ≡ entry
IsShownAs node journal (IsSending to bytes) e = IsSendingOf node to bytes e

-- each step is right behind the journal before it
abbrev pub AreWoven : {I : Type 0} → (I → ItemShown) → NodeId → List Entry → List (WeaveStep I) → Type 0
AreWoven shown node journal [] = Unit {0}
AreWoven shown node journal (Passes entry ∷ steps) = AreWoven shown node (journal ++ entry ∷ []) steps
AreWoven shown node journal (Unseen item ∷ steps) = (shown item ≡ IsUnseen) × AreWoven shown node journal steps
AreWoven shown node journal (Seen item entry ∷ steps) = IsShownAs node journal (shown item) entry × AreWoven shown node (journal ++ entry ∷ []) steps

-- an item stands in a weave as an entry, behind this journal
pub record StandsInWeave {I : Type 0} (begun : List Entry) (steps : List (WeaveStep I)) (past : List Entry) (item : I) (entry : Entry) : Type 0 where
  pub earlier : List (WeaveStep I)
  pub later : List (WeaveStep I)
  pub split : steps ≡ earlier ++ Seen item entry ∷ later
  pub place : past ≡ begun ++ entries_in earlier
