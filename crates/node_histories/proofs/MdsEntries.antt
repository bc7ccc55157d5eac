-- What an event of the metadata server enters is of the kinds that a metadata server enters.
use Rattle.std.proofs.Common.{◌≡◌, true, List, [], ◌∷◌, ◌++◌, inl, inr}
use Rattle.std.specs.List.{list_any, AllByRecursion}
use Rattle.std.proofs.lemmas.Bool.{cond_both}
use Rattle.cluster_model.specs.declared.ids.NodeId.TheVariants.{Server}
use Rattle.cluster_model.specs.declared.ids.FileId.{FileId}
use Rattle.cluster_model.specs.declared.entry.Entry.{Entry}
use Rattle.cluster_model.specs.declared.entry.Entry.TheVariants as entry
use Rattle.cluster_model.specs.Members.{IsOneOf}
use Rattle.file_rule.specs.FilePhases.{FileInput, Answers as IsAnswer, TimesOut, Sees, phase}
use Rattle.mds_rows.specs.Draws.{drawn}
use Rattle.recall.specs.Recalls.{without_file}
use Rattle.mds_rule.specs.Answers.{own_answer}
use Rattle.mds_rule.specs.MdsStates.{ServedFile, MdsSend, CallsServer, CallsBack, Replies, Answers, AwaitedCall, MdsValue, with_call, with_served}
use Rattle.mds_rule.specs.declared.waiter.Waiter.TheVariants.{ForFile, ForRead, ForWrite, ForRecall}
use Rattle.mds_rule.specs.ServedFiles.{is_period_end, file_behind, file_stepped}
use Rattle.mds_walk.specs.MdsRuns.{MdsEvent, after_event}
use Rattle.mds_laws.proofs.Keeping.{Cases, is_note}
use Rattle.mds_walk.proofs.Parts.{HeardAny}
use Rattle.mds_walk.proofs.Keeping.{hears_any}
use Rattle.mds_laws.proofs.Numbers.{WereSent, sent_more, sent_with, sent_kept}
use Rattle.mds_laws.proofs.GoesWalk.{event_walk}
use Rattle.node_histories.proofs.Parts.{all_joined}
use Rattle.node_histories.proofs.MdsKinds.{IsMdsEntry}
use Rattle.machine_walk.proofs.PhaseEntries.{IsPhaseEntry, phase_all}

-- what an input of a file enters
of_phase : (input : FileInput) (e : Entry) → IsPhaseEntry input e → IsMdsEntry e
of_phase input (entry.Granted file cred holder) its = tt
of_phase input (entry.Sent file cred at bytes) its = tt
of_phase input (entry.Told file cred at bytes) its = tt
of_phase input (entry.Ended file cred cause) its = tt
of_phase input (entry.Left file mirror cause) its = tt
of_phase input (entry.Swapped file old new) its = tt
of_phase input (entry.Fenced file old new live) its = tt
of_phase input (entry.Free file live) its = tt
of_phase input _ its = absurd its

-- by the parts of the server that it is about
record Kinds (calls : List AwaitedCall) (es : List Entry) (ss : List MdsSend) : Type 0 where
  kinds : AllByRecursion IsMdsEntry es
  were : WereSent calls ss

abbrev IsSo : MdsValue → List Entry → List MdsSend → Type 0
IsSo m es ss = Kinds m.calls es ss

plain : (calls : List AwaitedCall) (es : List Entry) (ss : List MdsSend) (s : MdsSend) → Kinds calls es ss → Kinds calls es (ss ++ s ∷ [])
plain calls es ss s i = record { kinds = i.kinds; were = sent_more calls ss s i.were }

called : (calls : List AwaitedCall) (es : List Entry) (ss : List MdsSend) (call : AwaitedCall) → Kinds calls es ss → Kinds (with_call call calls) (es ++ []) (ss ++ call.sent ∷ [])
called calls es ss call i = record { kinds = all_joined IsMdsEntry es [] i.kinds tt; were = sent_with calls ss call i.were }

inputs : (m : MdsValue) (file : FileId) (s : ServedFile) (input : FileInput) (es : List Entry) (ss : List MdsSend) → IsSo m es ss
    → IsSo (file_stepped m file s (phase file s.file input m.fresh)).mds (es ++ (phase file s.file input m.fresh).entries) ss
inputs m file s input es ss i =
    let n : MdsValue = with_served (record m { fresh = drawn m.fresh (phase file s.file input m.fresh) }) file (file_behind s (phase file s.file input m.fresh)) in
    let more : Kinds m.calls (es ++ (phase file s.file input m.fresh).entries) ss =
    record { kinds = all_joined IsMdsEntry es (phase file s.file input m.fresh).entries i.kinds (phase_all IsMdsEntry file m.fresh s.file input (of_phase input)); were = i.were } in
    cond_both (list_any is_period_end (phase file s.file input m.fresh).entries) (record n { recalls = without_file file n.recalls }) n
    (λ (x : MdsValue). Kinds x.calls (es ++ (phase file s.file input m.fresh).entries) ss) (λ end. more) (λ other. more)

note_kind : (e : Entry) → is_note e ≡ true → IsMdsEntry e
note_kind (entry.TimedOut node xid) is = tt
note_kind (entry.Failed id xid) is = tt
note_kind (entry.Later file phase) is = tt
note_kind (entry.ReadAnswer file status bytes) is = tt
note_kind e is = absurd cc

cases : Cases IsSo HeardAny
cases = record {
  quiet = λ m confirmed opens reclaimed recalls es ss i. i;
  tables = λ m move is es ss i. i;
  replies = λ m node reply es ss i. plain m.calls es ss (Replies node reply) i;
  answers = λ m node bytes reply is es ss i. plain m.calls es ss (Answers node bytes) i;
  notes = λ m e is es ss i. record { kinds = all_joined IsMdsEntry es (e ∷ []) i.kinds (note_kind e is, tt); were = i.were };
  puts = λ m file s t at same write es ss i. i;
  inputs = λ m file s input itself at fresh es ss i. inputs m file s input es ss i;
  timeouts = λ m file s xid at fresh es ss i. inputs m file s (TimesOut xid) es ss i;
  hears = λ m file s call server own uid c replies heard caller sent out at fresh es ss i. inputs m file s (IsAnswer call.xid (own_answer c (replies c))) es ss i;
  learns = λ m file s call server own uid c replies fileid shown heard caller sent named shows at fresh es ss i. inputs m file s (Sees (record { server = server; fileid = fileid }) shown.seen) es ss i;
  makes = λ m name may es ss i. i;
  calls_file = λ m file s c at has its es ss i. called m.calls es ss (record { node = Server c.server; xid = m.next_xid; caller = ForFile file; sent = CallsServer c.server m.next_xid c.uid c.call }) i;
  calls_write = λ m file s w c at has waits its is_write es ss i. called m.calls es ss (record { node = Server c.id.server; xid = m.next_xid; caller = ForWrite file; sent = CallsServer c.id.server m.next_xid w.writer.cred c.call }) i;
  calls_read = λ m file s t server call at has same write uid is_read es ss i. called m.calls es ss (record { node = Server server; xid = m.next_xid; caller = ForRead file; sent = CallsServer server m.next_xid 0 call }) i;
  calls_back = λ m node back file stateid has es ss i. called m.calls es ss (record { node = node; xid = m.next_xid; caller = ForRecall; sent = CallsBack m.next_xid back file stateid }) i;
  skips = λ m has es ss i. i;
  forgets = λ m test es ss i. record { kinds = i.kinds; were = sent_kept test m.calls ss i.were };
  was = λ m es ss i. i.were;
  again = λ m s es ss i inside. plain m.calls es ss s i;
}

-- ---- each event

abbrev its_sends : List AwaitedCall → List MdsSend
its_sends [] = []
its_sends (call ∷ calls) = call.sent ∷ its_sends calls

were_all : (calls : List AwaitedCall) (call : AwaitedCall) → IsOneOf call calls → IsOneOf call.sent (its_sends calls)
were_all [] call inside = absurd inside
were_all (c ∷ calls) call (inl is) = inl cc
were_all (c ∷ calls) call (inr inside) = inr (were_all calls call inside)

pub mds_kinds : (m : MdsValue) (e : MdsEvent) → AllByRecursion IsMdsEntry (after_event e m).entries
mds_kinds m e =
    let begun : Kinds m.calls [] (its_sends m.calls) = record { kinds = tt; were = were_all m.calls } in
    let k : Kinds (after_event e m).mds.calls (after_event e m).entries (its_sends m.calls ++ (after_event e m).sends) =
    event_walk IsSo HeardAny cases (λ n request now es xs i. i) e (hears_any IsSo e.input) m [] (its_sends m.calls) begun in
    k.kinds
