-- What may happen next: the lines of a script.
use Rattle.std.specs.Prelude.{ℕ, List}
use Rattle.cluster_model.specs.declared.ids.NodeId.{NodeId}
use Rattle.cluster_model.specs.declared.piece.Piece.{Piece}

pub data EventValue : Type 0 where
  -- bare: a record comes from client 0 to the one data server
  Deliver : List ℕ → EventValue
  -- the packet of this number comes, also where it came before; nothing where it was not sent
  DeliverPacket : ℕ → EventValue
  -- so does the packet of this place, from 1, among those from the first machine to the second
  DeliverBetween : NodeId → NodeId → ℕ → EventValue
  -- the lowest packet that never came and is not held comes, again and again until there is none
  Flow : EventValue
  -- packets from the first machine to the second wait in `flow`, or wait no longer
  Hold : NodeId → NodeId → EventValue
  Pass : NodeId → NodeId → EventValue
  -- the first machine's oldest outstanding call to the second times out
  Timeout : NodeId → NodeId → EventValue
  -- so many seconds pass: each client in order, and then the metadata server, takes a tick
  Tick : ℕ → EventValue
  -- the user of a client asks it for a file of this name
  Open : ℕ → List ℕ → EventValue
  -- to write these bytes at this place, to the mirrors or through the metadata server
  Write : ℕ → ℕ → List ℕ → EventValue
  Through : ℕ → ℕ → List ℕ → EventValue
  -- to write at this place so many bytes, each the one given
  Fill : ℕ → ℕ → ℕ → ℕ → EventValue
  -- to commit what was written
  Commit : ℕ → EventValue
  -- for so many bytes from this place on
  Read : ℕ → ℕ → ℕ → EventValue
  -- to return its layout
  Return : ℕ → EventValue
  -- a client leaves the protocol: it ignores packets, timeouts, ticks and requests from then on
  Rogue : ℕ → EventValue
  -- a client that left the protocol with a layout sends an UNSTABLE WRITE of these bytes at this place, to the mirror of
  -- this number in the layout, from 1
  Stray : ℕ → ℕ → ℕ → List ℕ → EventValue
  -- a client starts anew with the next verifier; its xids go on
  Reboot : ℕ → EventValue
  -- the metadata server recalls the layout of this file
  Recall : ℕ → EventValue
  -- it adds mirrors to this file where some are missing
  Resilver : ℕ → EventValue
  -- the live mirrors of this file are put into the journal
  Audit : ℕ → EventValue
  -- this data server starts again; these pieces of its pending writes had reached its disk
  Restart : ℕ → List Piece → EventValue
