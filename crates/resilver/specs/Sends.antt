-- What goes out next in a copy, before it is lent, and what memory is wanted for.
use Rattle.std.specs.Prelude.{◌≡◌, ℕ, true, false, Option, Some, None, Result, Ok, Err}
use Rattle.cluster_model.specs.declared.limits.TheConstants.{PIECE_SIZE}
use Rattle.cluster_model.specs.declared.ids.Mirror.{Mirror}
use Rattle.cluster_model.specs.DsCalls.{DsCallValue, Create, Write, Read, DsReplyValue, Created, Set, Written, Committed, Bytes, NotSync, Failed}
use Rattle.cluster_model.specs.Fences.{is_out}
use Rattle.ff_xdr.specs.declared.error.NoMemory.{NoMemory}
use Rattle.resilver.specs.declared.call.NextCall.{NextCall}
use Rattle.resilver.specs.declared.call.SentCall.{SentCall}
use Rattle.resilver.specs.declared.call.NextCall.TheVariants.{MakesFile, WritesPiece, ReadsSource}
use Rattle.copy_rule.specs.declared.copy_target.CopyStep.{CopyStep}
use Rattle.copy_rule.specs.Copies.{CopyState, next_call, target_of, is_long, read_answered}

abbrev pub next_for : ℕ → ℕ → Option Mirror → NextCall
next_for copier name None = MakesFile name (record { 0 = copier })
next_for copier name (Some m) = WritesPiece m.id.fileid

-- the call
abbrev pub call_as : CopyState → NextCall → DsCallValue
call_as c (MakesFile name owner) = Create name owner.0
call_as c (WritesPiece fileid) = Write fileid c.at true c.piece
call_as c (ReadsSource fileid at) = Read fileid at PIECE_SIZE

-- what goes out under a number, to which server and by which uid, and the copy then, which lends it
abbrev pub SendsBeforeLent : CopyState → ℕ → Option SentCall → CopyState → Type 0
SendsBeforeLent old xid None new = (next_call old xid ≡ None) × (new ≡ old)
SendsBeforeLent old xid (Some s) new = next_call old xid ≡ Some (record { copy = new; server = s.server; uid = s.uid; call = call_as new s.call })

-- by which uid
abbrev pub caller_for : ℕ → NextCall → ℕ
caller_for copier (MakesFile name owner) = 0
caller_for copier (WritesPiece fileid) = copier
caller_for copier (ReadsSource fileid at) = 0

-- an answer to the READ, unless memory is wanted for its piece; nothing has changed then
abbrev pub TakesRead : CopyState → DsReplyValue → Result CopyStep NoMemory → CopyState → Type 0
TakesRead old reply (Ok step) new = record { copy = new; step = step } ≡ read_answered old reply
TakesRead old reply (Err e) new = new ≡ old

-- it is a piece of the source, and not too long
abbrev pub BringsPiece : CopyState → DsReplyValue → Type 0
BringsPiece c (Bytes shown eof bytes) = is_long c bytes ≡ false
BringsPiece c (Created fileid shown) = ⊥
BringsPiece c (Set shown) = ⊥
BringsPiece c (Written shown verifier) = ⊥
BringsPiece c (Committed shown verifier) = ⊥
BringsPiece c (NotSync shown) = ⊥
BringsPiece c (Failed status shown) = ⊥

-- memory is wanted for a piece that answers the READ that is out, and for nothing else
pub record AsksForPiece (c : CopyState) (xid : ℕ) (reply : DsReplyValue) : Type 0 where
  pub of_none : target_of c xid ≡ None
  pub of_read : is_out xid c.read ≡ true
  pub piece : BringsPiece c reply
