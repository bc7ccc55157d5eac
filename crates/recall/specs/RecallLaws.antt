-- What holds of recalls in every run of them, told by what was asked, sent and answered (RFC 8881, sections 12.5.5.1 and 20.3).
use Rattle.std.specs.Prelude.{◌≡◌, ℕ, ◌+◌, ◌<◌, ◌≤◌, Bool, false, ◌==◌, ◌&&◌, List, [], ◌∷◌, Option, Some, None, find, fold, nat_lt, if◌then◌else◌}
use Rattle.std.specs.Option.{option_map}
use Rattle.cluster_model.specs.declared.limits.TheConstants.{MAX_TIMEOUTS}
use Rattle.cluster_model.specs.declared.ids.FileId.{FileId}
use Rattle.cluster_model.specs.declared.ids.Cred.{Cred}
use Rattle.nfs4_types.specs.declared.status.Stat4.{Stat4}
use Rattle.nfs4_types.specs.declared.status.Stat4.TheVariants as stat
use Rattle.recall.specs.declared.recall.TheConstants.{RECALL_TIME}
use Rattle.recall.specs.declared.recall.Recall.{Recall}
use Rattle.recall.specs.declared.recall.RecallCall.{RecallCall}
use Rattle.recall.specs.declared.recall.Outcome.{Outcome}
use Rattle.recall.specs.declared.recall.Outcome.TheVariants as outcome
use Rattle.recall.specs.Recalls.{is_of, is_under_way, with_recall, new_recall, RecallSends, next_sent, out_at, after_reply, after_timeout, after_tick, without_file}

-- ---- runs

pub data RecallMove : Type 0 where
  Asks : (file : FileId) (cred : Cred) (client now : ℕ) → RecallMove
  -- the next callback, under a number of which none is outstanding
  SendsOne : (xid : ℕ) → RecallMove
  TakesReply : (xid : ℕ) (status : Stat4) → RecallMove
  TakesTimeout : (xid : ℕ) → RecallMove
  Ticks : (now : ℕ) → RecallMove
  Ends : (file : FileId) → RecallMove

-- what came to pass, as it is seen outside
pub data RecallNote : Type 0 where
  -- a recall began
  WasAsked : (file : FileId) (cred : Cred) (client at : ℕ) → RecallNote
  WasSent : (call : RecallCall) → RecallNote
  -- an answer came, or a timeout, be the callback outstanding or not
  WasAnswered : (xid : ℕ) (status : Stat4) → RecallNote
  WasLate : (xid : ℕ) → RecallNote
  -- a tick told that it has expired
  HasExpired : (file : FileId) (cred : Cred) → RecallNote
  WasEnded : (file : FileId) → RecallNote

pub record RecallRun : Type 0 where
  pub recalls : List Recall
  -- the latest first
  pub notes : List RecallNote

abbrev pub sent_noted : RecallRun → Option RecallSends → RecallRun
sent_noted run None = run
sent_noted run (Some s) = record { recalls = s.recalls; notes = WasSent s.call ∷ run.notes }

abbrev pub sends_new : RecallRun → ℕ → Option ℕ → RecallRun
sends_new run xid None = sent_noted run (next_sent run.recalls xid)
sends_new run xid (Some place) = run

abbrev pub expired_notes : Option (FileId × Cred) → List RecallNote → List RecallNote
expired_notes None notes = notes
expired_notes (Some (file, cred)) notes = HasExpired file cred ∷ notes

abbrev pub recall_moved : RecallRun → RecallMove → RecallRun
recall_moved run (Asks file cred client now) =
    if is_under_way file cred run.recalls then run
    else record { recalls = with_recall (new_recall file cred client now) run.recalls; notes = WasAsked file cred client now ∷ run.notes }
recall_moved run (SendsOne xid) = sends_new run xid (out_at run.recalls xid)
recall_moved run (TakesReply xid status) = record { recalls = (after_reply run.recalls xid status).recalls; notes = WasAnswered xid status ∷ run.notes }
recall_moved run (TakesTimeout xid) = record { recalls = (after_timeout run.recalls xid).recalls; notes = WasLate xid ∷ run.notes }
recall_moved run (Ticks now) = record { recalls = (after_tick run.recalls now).recalls; notes = expired_notes (after_tick run.recalls now).expired run.notes }
recall_moved run (Ends file) = record { recalls = without_file file run.recalls; notes = WasEnded file ∷ run.notes }

abbrev pub recall_run : List RecallMove → RecallRun
recall_run moves = fold recall_moved (record { recalls = []; notes = [] }) moves

-- ---- what the notes tell

-- a callback that is out, and how often it has timed out
pub record OutRecall : Type 0 where
  pub call : RecallCall
  pub timeouts : ℕ

abbrev pub is_call_of : FileId → Cred → RecallCall → Bool
is_call_of file cred call = (call.file.0 == file.0) && (call.cred.0 == cred.0)

-- one timeout more; with the third one it is not out any more
abbrev pub late_once : Option OutRecall → Option OutRecall
late_once None = None
late_once (Some o) = if nat_lt (o.timeouts + 1) MAX_TIMEOUTS then Some (record { call = o.call; timeouts = o.timeouts + 1 }) else None

abbrev pub unless_call : (RecallCall → Bool) → Option OutRecall → Option OutRecall
unless_call test None = None
unless_call test (Some o) = if test o.call then None else Some o

-- the callback that is out under a number
abbrev pub call_out : List RecallNote → ℕ → Option OutRecall
call_out [] xid = None
call_out (WasAsked file cred client at ∷ before) xid = call_out before xid
call_out (WasSent call ∷ before) xid = if call.xid == xid then Some (record { call = call; timeouts = 0 }) else call_out before xid
call_out (WasAnswered own status ∷ before) xid = if own == xid then None else call_out before xid
call_out (WasLate own ∷ before) xid = if own == xid then late_once (call_out before xid) else call_out before xid
call_out (HasExpired file cred ∷ before) xid = unless_call (is_call_of file cred) (call_out before xid)
call_out (WasEnded file ∷ before) xid = unless_call (λ call. call.file.0 == file.0) (call_out before xid)

-- the client answered that it knows of no such layout
abbrev pub answers_none : FileId → Cred → Stat4 → Option OutRecall → Bool
answers_none file cred stat.NoMatchingLayout (Some o) = is_call_of file cred o.call
answers_none file cred stat.NoMatchingLayout None = false
answers_none file cred status o = false

-- this was the third timeout of its callback
abbrev pub is_third : FileId → Cred → Option OutRecall → Bool
is_third file cred None = false
is_third file cred (Some o) = is_call_of file cred o.call && (o.timeouts + 1 == MAX_TIMEOUTS)

-- who was asked, and when, of a grant whose recall has not ended
pub record AskedRecall : Type 0 where
  pub client : ℕ
  pub at : ℕ

abbrev pub asked_of : List RecallNote → FileId → Cred → Option AskedRecall
asked_of [] file cred = None
asked_of (WasAsked f c client at ∷ before) file cred = if (f.0 == file.0) && (c.0 == cred.0) then Some (record { client = client; at = at }) else asked_of before file cred
asked_of (WasSent call ∷ before) file cred = asked_of before file cred
asked_of (WasAnswered xid status ∷ before) file cred = if answers_none file cred status (call_out before xid) then None else asked_of before file cred
asked_of (WasLate xid ∷ before) file cred = if is_third file cred (call_out before xid) then None else asked_of before file cred
asked_of (HasExpired f c ∷ before) file cred = if (f.0 == file.0) && (c.0 == cred.0) then None else asked_of before file cred
asked_of (WasEnded f ∷ before) file cred = if f.0 == file.0 then None else asked_of before file cred

-- ---- the promises

abbrev pub asked_in : Recall → AskedRecall
asked_in r = record { client = r.client; at = r.asked }

-- an answer's outcome is that of the callback that is out
abbrev pub reply_outcome : Stat4 → Option OutRecall → Outcome
reply_outcome status None = outcome.Stranger
reply_outcome stat.Ok (Some o) = outcome.Agreed
reply_outcome stat.NoMatchingLayout (Some o) = outcome.NoLayout o.call.file o.call.cred
reply_outcome status (Some o) = outcome.Waiting

abbrev pub timeout_outcome : Option OutRecall → Outcome
timeout_outcome None = outcome.Stranger
timeout_outcome (Some o) = if nat_lt (o.timeouts + 1) MAX_TIMEOUTS then outcome.Waiting else outcome.Expired o.call.file o.call.cred

-- who is told to have expired was asked more than 90 s ago and has not ended; where nobody is, nobody was
abbrev pub IsExpiry : List RecallNote → ℕ → Option (FileId × Cred) → Type 0
IsExpiry notes now None = (file : FileId) (cred : Cred) (asked : AskedRecall) → asked_of notes file cred ≡ Some asked → now ≤ asked.at + RECALL_TIME
IsExpiry notes now (Some (file, cred)) = (asked : AskedRecall) × (asked_of notes file cred ≡ Some asked) × (asked.at + RECALL_TIME < now)

-- a callback that goes out is of a recall that is under way, to whose client no other is out
pub record IsDueCall (notes : List RecallNote) (call : RecallCall) : Type 0 where
  pub asked : AskedRecall
  pub under_way : asked_of notes call.file call.cred ≡ Some asked
  pub client : asked.client ≡ call.client
  pub alone : (xid : ℕ) (o : OutRecall) → call_out notes xid ≡ Some o → o.call.client ≡ call.client → ⊥

pub record RecallLaw : Type 0 where
  -- what is under way was asked and has not ended, and the reverse
  pub under_way : (moves : List RecallMove) (file : FileId) (cred : Cred) → option_map asked_in (find (is_of file cred) (recall_run moves).recalls) ≡ asked_of (recall_run moves).notes file cred
  pub replies : (moves : List RecallMove) (xid : ℕ) (status : Stat4) → (after_reply (recall_run moves).recalls xid status).outcome ≡ reply_outcome status (call_out (recall_run moves).notes xid)
  pub timeouts : (moves : List RecallMove) (xid : ℕ) → (after_timeout (recall_run moves).recalls xid).outcome ≡ timeout_outcome (call_out (recall_run moves).notes xid)
  pub expiries : (moves : List RecallMove) (now : ℕ) → IsExpiry (recall_run moves).notes now (after_tick (recall_run moves).recalls now).expired
  pub sends : (moves : List RecallMove) (xid : ℕ) (s : RecallSends) → next_sent (recall_run moves).recalls xid ≡ Some s → IsDueCall (recall_run moves).notes s.call
  -- two callbacks that are out are to different clients
  pub alone : (moves : List RecallMove) (x y : ℕ) (a b : OutRecall) → call_out (recall_run moves).notes x ≡ Some a → call_out (recall_run moves).notes y ≡ Some b → a.call.client ≡ b.call.client → x ≡ y
