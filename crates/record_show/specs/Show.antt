-- What the command `show` says of records.
use Rattle.std.specs.Prelude.{ℕ, ◌+◌, ◌-◌, ◌==◌, ◌≡◌, ◌&&◌, Bool, true, false, List, [], ◌∷◌, ◌++◌, length, codes, decimal, Option, Some, None, Result, Ok, Err, if◌then◌else◌}
use Rattle.std.specs.Option.{option_map}
use Rattle.rpc_record.specs.declared.call.TheConstants.{NFS_PROGRAM}
use Rattle.record_show.specs.declared.shower.TheConstants.{CALLBACK_PROGRAM, COMPOUND, NULL}
use Rattle.ff_xdr.specs.declared.error.XdrError.{XdrError}
use Rattle.ff_xdr.specs.declared.error.XdrWhy.{XdrWhy}
use Rattle.ff_xdr.specs.declared.error.XdrWhy.TheVariants as why
use Rattle.ff_xdr.specs.Form.{Value, has_arm}
use Rattle.ff_xdr.specs.Reading.{arm_reading, rest_of, whole}
use Rattle.rpc_record.specs.declared.call.CallFault.{CallFault}
use Rattle.rpc_record.specs.declared.call.CallFault.TheVariants as fault
use Rattle.rpc_record.specs.Calls.{RpcCall, call_at}
use Rattle.rpc_record.specs.Replies.{RpcReply, ReplyStat, is_denied, reply_stat_number, reply_at}
use Rattle.nfs3_wire.specs.Calls.{calls}
use Rattle.nfs4_compound.specs.Compounds.{compound_verdict, cb_compound_verdict}
use Rattle.line_runs.specs.declared.end.LineStep.{LineStep}
use Rattle.line_runs.specs.declared.end.LineStep.TheVariants as step
use Rattle.line_runs.specs.Runs.{RunEffect, LinesMeaning, at_end, after_text}
use Rattle.line_runs.specs.Tasks.{TaskValue}
use Rattle.ff_xdr.specs.declared.error.NoMemory.{NoMemory}
use Rattle.ff_script.specs.Digits.{bytes_of_digits}

-- the name of a refusal
abbrev pub why_text : XdrWhy → List ℕ
why_text why.Short = codes "short"
why_text why.Pad = codes "pad"
why_text why.NotBool = codes "notbool"
why_text why.NotEnum = codes "notenum"
why_text why.TooLong = codes "toolong"
why_text why.NotUtf8 = codes "notutf8"
why_text why.Rest = codes "rest"

-- the first byte that is refused, and why
unfoldable pub bad_text : ℕ → XdrWhy → List ℕ
bad_text place refusal = codes "bad " ++ (decimal place ++ (codes " " ++ why_text refusal))

-- What the arguments are, which stand behind a header of so many bytes: in their form, or refused at a place, counted from the
-- record's first byte.
abbrev pub args_text : {A : Type 0} → ℕ → Result A XdrError → List ℕ
args_text header (Ok v) = codes "good"
args_text header (Err e) = bad_text (header + e.place) e.why

-- all the arguments, read in the form of their procedure
unfoldable pub args_of : RpcCall → Result (Value calls) XdrError
args_of c = whole c.args (arm_reading calls c.procedure c.args 0)

-- Of NFSv4.1 and of its callbacks: procedure 0 is NULL, which has no arguments, and procedure 1 is COMPOUND (RFC 8881, sections 16
-- and 20.1). An operation that is not built counts as good and ends the check.
unfoldable pub compound_text : ℕ → RpcCall → List ℕ
compound_text header c =
    if c.procedure == NULL then args_text header (rest_of c.args 0)
    else (if c.procedure == COMPOUND then args_text header (compound_verdict c.args) else codes "unbuilt")

unfoldable pub cb_compound_text : ℕ → RpcCall → List ℕ
cb_compound_text header c =
    if c.procedure == NULL then args_text header (rest_of c.args 0)
    else (if c.procedure == COMPOUND then args_text header (cb_compound_verdict c.args) else codes "unbuilt")

-- The procedures of NFS (RFC 1813; RFC 8881): program 100003, versions 3 and 4; and the callbacks of the cluster's clients, program
-- 1073741824, version 1. All others are not built.
unfoldable pub verdict_text : ℕ → RpcCall → List ℕ
verdict_text header c =
    if c.program == NFS_PROGRAM && (c.version == 3 && has_arm c.procedure calls) then args_text header (args_of c)
    else (if c.program == NFS_PROGRAM && c.version == 4 then compound_text header c
    else (if c.program == CALLBACK_PROGRAM && c.version == 1 then cb_compound_text header c
    else codes "unbuilt"))

-- `call XID PROGRAM VERSION PROCEDURE LENGTH` and what the arguments are, of which there are LENGTH bytes
unfoldable pub program_text : RpcCall → List ℕ
program_text c = (codes "call " ++ decimal c.xid) ++ ((codes " " ++ decimal c.program) ++ (codes " " ++ decimal c.version))

unfoldable pub procedure_text : RpcCall → List ℕ
procedure_text c = (codes " " ++ decimal c.procedure) ++ ((codes " " ++ decimal (length c.args)) ++ codes " ")

abbrev pub call_text : ℕ → RpcCall → List ℕ
call_text size c = program_text c ++ (procedure_text c ++ verdict_text (size - length c.args) c)

-- how a call was answered: its accept_stat, or its reject_stat (RFC 5531, section 9)
abbrev pub stat_word : Bool → List ℕ
stat_word false = codes " accepted "
stat_word true = codes " denied "

abbrev pub stat_text : ReplyStat → List ℕ
stat_text s = stat_word (is_denied s) ++ decimal (reply_stat_number s)

-- a record that is neither a call nor a reply
abbrev pub refused_text : XdrError → List ℕ
refused_text e = codes "record " ++ bad_text e.place e.why

-- a record that is no call: a reply, or neither
abbrev pub reply_text : Result RpcReply XdrError → List ℕ
reply_text (Ok r) = (codes "reply " ++ decimal r.xid) ++ stat_text r.stat
reply_text (Err e) = refused_text e

-- a record of so many bytes, as what it is; one of another RPC version than 2 has its third word refused
abbrev pub found_text : List ℕ → Result RpcCall CallFault → List ℕ
found_text bytes (Ok c) = call_text (length bytes) c
found_text bytes (Err fault.NotACall) = reply_text (reply_at bytes)
found_text bytes (Err (fault.RpcVersion xid)) = refused_text (record { place = 8; why = why.NotEnum })
found_text bytes (Err (fault.Bad xid e)) = refused_text e

-- the line of a record
abbrev pub record_line : List ℕ → List ℕ
record_line bytes = found_text bytes (call_at bytes) ++ codes "\n"

-- What a line of the source adds: nothing where it is empty or begins with `#` (35), else the line of the record that it spells.
abbrev pub line_shown : List ℕ → Option (List ℕ)
line_shown [] = Some []
line_shown (c ∷ rest) = if c == 35 then Some [] else option_map record_line (bytes_of_digits (c ∷ rest))

-- what the line with this number comes to, and the lines behind it
abbrev pub by_shown : ℕ → Option (List ℕ) → RunEffect → RunEffect
by_shown number None rest = record { text = []; bad = Some number; past = false; count = 0; closing = [] }
by_shown number (Some text) rest = after_text text rest

abbrev pub show_from : ℕ → LinesMeaning
show_from number [] = at_end 0 []
show_from number (line ∷ lines) = by_shown number (line_shown line) (show_from (number + 1) lines)

-- what the lines of the source come to
abbrev pub show_meaning : LinesMeaning
show_meaning = show_from 1

-- the most bytes of the source: 64 MiB
abbrev pub show_budget : ℕ
show_budget = 67108864

-- the task as its run sees it: nothing becomes of it
abbrev pub show_task : TaskValue (Unit {0})
show_task = record { meaning = show_from; after = λ lines. tt; entries = 0; closing = []; state = tt }

-- What a line did: its text stands behind the old one; it is outside the grammar; or memory was wanted, and all is as before.
abbrev pub ShowsLine : List ℕ → Option (List ℕ) → Result LineStep NoMemory → List ℕ → Type 0
ShowsLine old text (Ok step.Done) new = (more : List ℕ) × (text ≡ Some more) × (new ≡ old ++ more)
ShowsLine old text (Ok step.More) new = ⊥
ShowsLine old text (Ok step.Outside) new = (text ≡ None) × (new ≡ old)
ShowsLine old text (Ok (step.Limited count)) new = ⊥
ShowsLine old text (Err e) new = new ≡ old
