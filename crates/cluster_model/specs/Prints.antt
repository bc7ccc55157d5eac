-- What the program can hold of a journal.
use Rattle.std.specs.Prelude.{ℕ, ◌<◌, ◌^◌, List, [], ◌∷◌, Option, Some, None}
use Rattle.std.specs.List.{AllByRecursion}
use Rattle.hex.specs.Hex.{IsBytes}
use Rattle.cluster_model.specs.declared.ids.NodeId.{NodeId}
use Rattle.cluster_model.specs.declared.ids.NodeId.TheVariants.{Mds, Server, Client}
use Rattle.cluster_model.specs.declared.ids.MirrorId.{MirrorId}
use Rattle.cluster_model.specs.declared.piece.Piece.{Piece}
use Rattle.cluster_model.specs.declared.phase.LeftCause.{LeftCause}
use Rattle.cluster_model.specs.declared.phase.LeftCause.TheVariants as leaving
use Rattle.cluster_model.specs.declared.answer.FailCause.{FailCause}
use Rattle.cluster_model.specs.declared.answer.FailCause.TheVariants as failing
use Rattle.cluster_model.specs.declared.answer.UserAnswer.{UserAnswer}
use Rattle.cluster_model.specs.declared.answer.UserAnswer.TheVariants as answer
use Rattle.cluster_model.specs.declared.entry.Entry.{Entry}
use Rattle.cluster_model.specs.declared.entry.Entry.TheVariants.{Packet, Delivered, TimedOut, Hold, Pass, Tick, Granted, Sent, Rogue, Turned, Told, Ended, Left, Swapped, Fenced, Free, Applied, Committed, Owner, Restarted, ReadAnswer, Failed, Later, Answer, Audit, Rebooted}

-- numbers of four and of eight bytes
abbrev pub Fits32 : ℕ → Type 0
Fits32 n = n < 2 ^ 32

abbrev pub Fits64 : ℕ → Type 0
Fits64 n = n < 2 ^ 64

-- a machine that the program can hold
abbrev pub FitsNode : NodeId → Type 0
FitsNode Mds = Unit {0}
FitsNode (Server n) = Fits32 n
FitsNode (Client n) = Fits32 n

-- a mirror that the program can hold
abbrev pub FitsMirror : MirrorId → Type 0
FitsMirror m = Fits32 m.server × Fits64 m.fileid

abbrev pub FitsOld : Option MirrorId → Type 0
FitsOld None = Unit {0}
FitsOld (Some m) = FitsMirror m

-- a piece of a pending write that the program can hold
abbrev pub FitsPiece : Piece → Type 0
FitsPiece p = Fits64 p.fileid × Fits32 p.index × Fits32 p.from × Fits32 p.count

-- a cause and an answer that the program can hold
abbrev pub FitsLeft : LeftCause → Type 0
FitsLeft (leaving.Error status) = Fits32 status
FitsLeft _ = Unit {0}

abbrev pub FitsFail : FailCause → Type 0
FitsFail (failing.Refused status) = Fits32 status
FitsFail _ = Unit {0}

abbrev pub FitsAnswer : UserAnswer → Type 0
FitsAnswer (answer.Opened file) = Fits32 file.0
FitsAnswer (answer.Committed writes) = Fits32 writes
FitsAnswer (answer.Bytes eof bytes) = IsBytes bytes
FitsAnswer (answer.Failed why) = FitsFail why
FitsAnswer _ = Unit {0}

-- an entry that the program can hold
abbrev pub FitsEntry : Entry → Type 0
FitsEntry (Packet number from to bytes) = Fits64 number × FitsNode from × FitsNode to × IsBytes bytes
FitsEntry (Delivered number) = Fits64 number
FitsEntry (TimedOut node xid) = FitsNode node × Fits32 xid
FitsEntry (Hold from to) = FitsNode from × FitsNode to
FitsEntry (Pass from to) = FitsNode from × FitsNode to
FitsEntry (Tick seconds) = Fits32 seconds
FitsEntry (Granted file cred holder) = Fits32 file.0 × Fits32 cred.0 × FitsNode holder
FitsEntry (Sent file cred at bytes) = Fits32 file.0 × Fits32 cred.0 × Fits64 at × IsBytes bytes
FitsEntry (Rogue file cred at bytes) = Fits32 file.0 × Fits32 cred.0 × Fits64 at × IsBytes bytes
FitsEntry (Turned client) = Fits32 client
FitsEntry (Told file cred at bytes) = Fits32 file.0 × Fits32 cred.0 × Fits64 at × IsBytes bytes
FitsEntry (Ended file cred cause) = Fits32 file.0 × Fits32 cred.0
FitsEntry (Left file mirror cause) = Fits32 file.0 × FitsMirror mirror × FitsLeft cause
FitsEntry (Swapped file old new) = Fits32 file.0 × FitsOld old × FitsMirror new
FitsEntry (Fenced file old new live) = Fits32 file.0 × Fits32 old.0 × Fits32 new.0 × AllByRecursion FitsMirror live
FitsEntry (Free file live) = Fits32 file.0 × AllByRecursion FitsMirror live
FitsEntry (Applied mirror cred at bytes) = FitsMirror mirror × Fits32 cred.0 × Fits64 at × IsBytes bytes
FitsEntry (Committed mirror) = FitsMirror mirror
FitsEntry (Owner mirror cred) = FitsMirror mirror × Fits32 cred.0
FitsEntry (Restarted server pieces) = Fits32 server × AllByRecursion FitsPiece pieces
FitsEntry (ReadAnswer file status bytes) = Fits32 file.0 × Fits32 status × IsBytes bytes
FitsEntry (Failed mirror xid) = FitsMirror mirror × Fits32 xid
FitsEntry (Later file phase) = Fits32 file.0
FitsEntry (Answer client said) = Fits32 client × FitsAnswer said
FitsEntry (Audit file mirror size bytes) = Fits32 file.0 × FitsMirror mirror × Fits64 size × IsBytes bytes
FitsEntry (Rebooted client) = Fits32 client

-- a journal that the program can hold
abbrev pub FitsJournal : List Entry → Type 0
FitsJournal [] = Unit {0}
FitsJournal (entry ∷ rest) = FitsEntry entry × FitsJournal rest
