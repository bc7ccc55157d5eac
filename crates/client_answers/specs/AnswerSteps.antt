-- What the functions that take answers do: the values of the rule, in place of what a client has and puts out.
use Rattle.std.specs.Prelude.{◌≡◌, ℕ, ◌==◌, Bool, true, false, not, List, [], ◌++◌, length, Option, Some, None}
use Rattle.std.specs.List.{filter}
use Rattle.rpc_record.specs.Replies.{RpcReply}
use Rattle.cluster_model.specs.declared.entry.Entry.{Entry}
use Rattle.ds_calls.specs.GivenReplies.{reply_of_call}
use Rattle.mirror_writer.specs.Outstanding.{OutCall, out_at, is_covered_everywhere}
use Rattle.client_file_calls.specs.declared.open.OpenFile.{OpenFile}
use Rattle.client_state.specs.declared.request.UserRequest.{UserRequest}
use Rattle.client_answers.specs.declared.mirrors.Heard.{Heard}
use Rattle.cluster_model.specs.declared.outbox.Outbox.{Outbox}
use Rattle.mirror_writer.specs.Writers.{after_reply}
use Rattle.client_state.specs.declared.asked.Asked.{Asked}
use Rattle.client_state.specs.declared.tie.Tie.{Tie}
use Rattle.client_state.specs.declared.layout.Layout.{Layout}
use Rattle.client_state.specs.ClientStates.{ClientValue}
use Rattle.client_state.specs.ClientQueue.{with_writer, ending}
use Rattle.client_answers.specs.ClientMirrors.{is_commit, told_entries}

-- entries behind those that were there
abbrev pub PutsEntries : List Entry → Outbox → Outbox → Type 0
PutsEntries more old new = (new.entries.items ≡ old.entries.items ++ more) × (new.sends.items ≡ old.sends.items)

-- the numbers that pass a test, and the others
abbrev pub Splits : (ℕ → Bool) → List ℕ → List ℕ → List ℕ → Type 0
Splits test all passing rest = (passing ≡ filter test all) × (rest ≡ filter (λ n. not (test n)) all)

abbrev pub covered_untold : Layout → List ℕ
covered_untold l = filter (is_covered_everywhere l.writer) l.untold

-- the writes under a layout that are covered by now are told, and how many
abbrev pub TellsCovered : OpenFile → Layout → ℕ → Outbox → Layout → Outbox → Type 0
TellsCovered file old count before new after =
    (count ≡ length (covered_untold old)) × (new ≡ record old { untold = filter (λ n. not (is_covered_everywhere old.writer n)) old.untold })
    × PutsEntries (told_entries file old.writer (covered_untold old)) before after

abbrev pub with_queue : ClientValue → List UserRequest → ClientValue
with_queue c queue = record c { queue = queue }

-- the layout is given back; where every mirror failed, the writes that are not told are dropped
abbrev pub layout_after_failure : Bool → Layout → Layout
layout_after_failure false l = ending l
layout_after_failure true l = record (ending l) { untold = [] }

abbrev pub with_asked_as : ClientValue → Option Asked → ClientValue
with_asked_as c asked = record c { asked = asked }

abbrev pub with_tie : ClientValue → Tie → ClientValue
with_tie c tie = record c { tie = tie }

-- A reply was heard: the layout has the writer behind it; or it is to no call that is outstanding there.
abbrev pub HearsOut : Layout → RpcReply → Option OutCall → Option Heard → Layout → Type 0
HearsOut old reply None heard new = (heard ≡ None) × (new ≡ old)
HearsOut old reply (Some out) None new = ((out.xid == reply.xid) ≡ false) × (new ≡ old)
HearsOut old reply (Some out) (Some heard) new =
    ((out.xid == reply.xid) ≡ true)
    × (heard.is_commit ≡ is_commit out.call)
    × (record { writer = new.writer; step = heard.step } ≡ after_reply old.writer reply.xid (reply_of_call out.call reply))
    × (new ≡ with_writer old new.writer)

abbrev pub Hears : Layout → ℕ → RpcReply → Option Heard → Layout → Type 0
Hears old server reply heard new = HearsOut old reply (out_at old.writer server) heard new
