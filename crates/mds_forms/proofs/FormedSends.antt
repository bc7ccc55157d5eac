-- What an event of the metadata server enters is no packet, and what it sends is in form.
use Rattle.std.proofs.Common.{◌≡◌, ◌≤◌, ℕ, ◌+◌, true, List, [], ◌∷◌, ◌++◌, arith, ◌<◌, ◌^◌}
use Rattle.std.specs.Prelude.{◌==◌}
use Rattle.std.specs.List.{list_any, AllByRecursion}
use Rattle.std.proofs.lemmas.Bool.{cond_both}
use Rattle.std.proofs.lemmas.Bool.Decides.{nat_tests}
use Rattle.cluster_model.specs.declared.ids.NodeId.TheVariants.{Server}
use Rattle.cluster_model.specs.declared.ids.FileId.{FileId}
use Rattle.cluster_model.specs.declared.entry.Entry.{Entry}
use Rattle.cluster_model.specs.declared.entry.Entry.TheVariants.{Packet}
use Rattle.file_rule.specs.FilePhases.{FileInput, Answers as IsAnswer, TimesOut, Sees, phase}
use Rattle.mds_rows.specs.Draws.{drawn}
use Rattle.recall.specs.Recalls.{without_file}
use Rattle.mds_rule.specs.Answers.{own_answer}
use Rattle.mds_rule.specs.MdsStates.{ServedFile, MdsSend, CallsServer, CallsBack, Replies, Answers, AwaitedCall, MdsValue, with_call, with_served}
use Rattle.mds_rule.specs.declared.waiter.Waiter.TheVariants.{ForFile, ForRead, ForWrite, ForRecall}
use Rattle.mds_rule.specs.ServedFiles.{is_period_end, file_behind, file_stepped}
use Rattle.mds_rule.specs.Goes.{xid_after}
use Rattle.mds_walk.specs.MdsRuns.{after_event}
use Rattle.mds_walk.proofs.Lists.{AllOf, all_push, all_in}
use Rattle.mds_laws.proofs.Keeping.{Cases, is_note}
use Rattle.mds_walk.proofs.Parts.{HeardAny}
use Rattle.mds_walk.proofs.Keeping.{hears_any}
use Rattle.mds_laws.proofs.Numbers.{WereSent, sent_more, sent_with, sent_kept}
use Rattle.mds_laws.proofs.GoesWalk.{event_walk}
use Rattle.mds_forms.specs.Forms.{IsNoPacket, IsInForm, MdsStaysInForm}
use Rattle.machine_walk.proofs.PhaseEntries.{IsPhaseEntry, phase_all}

-- what an input of a file enters
no_packet : (input : FileInput) (e : Entry) → IsPhaseEntry input e → IsNoPacket e
no_packet input (Packet number from to bytes) its = absurd its
no_packet input _ its = tt

pub all_join : {A : Type 0} (P : A → Type 0) (a b : List A) → AllByRecursion P a → AllByRecursion P b → AllByRecursion P (a ++ b)
all_join P [] b first second = second
all_join P (x ∷ a) b first second = (first.0, all_join P a b first.1 second)

-- ---- by the parts of the server that it is about

-- nothing entered is a packet; what is sent is in form
record Formed (next : ℕ) (calls : List AwaitedCall) (es : List Entry) (ss : List MdsSend) : Type 0 where
  none : AllByRecursion IsNoPacket es
  fits : next ≤ 4294967295
  were : WereSent calls ss
  forms : AllOf IsInForm ss

abbrev IsSo : MdsValue → List Entry → List MdsSend → Type 0
IsSo m es ss = Formed m.next_xid m.calls es ss

after_fits : (next : ℕ) → next ≤ 4294967295 → xid_after next ≤ 4294967295
after_fits next fits = cond_both (next == 4294967295) 0 (next + 1) (λ (n : ℕ). n ≤ 4294967295) (λ is. omega arith) (λ off. grind (arith, nat_tests, off, fits))

plain : (next : ℕ) (calls : List AwaitedCall) (es : List Entry) (ss : List MdsSend) (s : MdsSend) → IsInForm s → Formed next calls es ss → Formed next calls es (ss ++ s ∷ [])
plain next calls es ss s form i = record { none = i.none; fits = i.fits; were = sent_more calls ss s i.were; forms = all_push IsInForm ss s i.forms form }

called : (next : ℕ) (calls : List AwaitedCall) (es : List Entry) (ss : List MdsSend) (call : AwaitedCall) → (next < 2 ^ 32 → IsInForm call.sent) → Formed next calls es ss
    → Formed (xid_after next) (with_call call calls) (es ++ []) (ss ++ call.sent ∷ [])
called next calls es ss call form i =
    let fits = i.fits in
    record {
      none = all_join IsNoPacket es [] i.none tt;
      fits = after_fits next i.fits;
      were = sent_with calls ss call i.were;
      forms = all_push IsInForm ss call.sent i.forms (form (omega (arith, fits)));
    }

inputs : (m : MdsValue) (file : FileId) (s : ServedFile) (input : FileInput) (es : List Entry) (ss : List MdsSend) → IsSo m es ss
    → IsSo (file_stepped m file s (phase file s.file input m.fresh)).mds (es ++ (phase file s.file input m.fresh).entries) ss
inputs m file s input es ss i =
    let n : MdsValue = with_served (record m { fresh = drawn m.fresh (phase file s.file input m.fresh) }) file (file_behind s (phase file s.file input m.fresh)) in
    let more : Formed m.next_xid m.calls (es ++ (phase file s.file input m.fresh).entries) ss =
    record { none = all_join IsNoPacket es (phase file s.file input m.fresh).entries i.none (phase_all IsNoPacket file m.fresh s.file input (no_packet input)); fits = i.fits; were = i.were; forms = i.forms } in
    cond_both (list_any is_period_end (phase file s.file input m.fresh).entries) (record n { recalls = without_file file n.recalls }) n
    (λ (x : MdsValue). Formed x.next_xid x.calls (es ++ (phase file s.file input m.fresh).entries) ss) (λ end. more) (λ other. more)

note_none : (e : Entry) → is_note e ≡ true → IsNoPacket e
note_none (Packet number from to bytes) is = absurd cc
note_none e is = tt

cases : Cases IsSo HeardAny
cases = record {
  quiet = λ m confirmed opens reclaimed recalls es ss i. i;
  tables = λ m move is es ss i. i;
  replies = λ m node reply es ss i. plain m.next_xid m.calls es ss (Replies node reply) tt i;
  answers = λ m node bytes reply is es ss i. plain m.next_xid m.calls es ss (Answers node bytes) (record { reply = reply; is = is }) i;
  notes = λ m e is es ss i. record { none = all_join IsNoPacket es (e ∷ []) i.none (note_none e is, tt); fits = i.fits; were = i.were; forms = i.forms };
  puts = λ m file s t at same write es ss i. i;
  inputs = λ m file s input itself at fresh es ss i. inputs m file s input es ss i;
  timeouts = λ m file s xid at fresh es ss i. inputs m file s (TimesOut xid) es ss i;
  hears = λ m file s call server own uid c replies heard caller sent out at fresh es ss i. inputs m file s (IsAnswer call.xid (own_answer c (replies c))) es ss i;
  learns = λ m file s call server own uid c replies fileid shown heard caller sent named shows at fresh es ss i. inputs m file s (Sees (record { server = server; fileid = fileid }) shown.seen) es ss i;
  makes = λ m name may es ss i. i;
  calls_file = λ m file s c at has its es ss i. called m.next_xid m.calls es ss (record { node = Server c.server; xid = m.next_xid; caller = ForFile file; sent = CallsServer c.server m.next_xid c.uid c.call }) (λ small. small) i;
  calls_write = λ m file s w c at has waits its is_write es ss i.
      called m.next_xid m.calls es ss (record { node = Server c.id.server; xid = m.next_xid; caller = ForWrite file; sent = CallsServer c.id.server m.next_xid w.writer.cred c.call }) (λ small. small) i;
  calls_read = λ m file s t server call at has same write uid is_read es ss i. called m.next_xid m.calls es ss (record { node = Server server; xid = m.next_xid; caller = ForRead file; sent = CallsServer server m.next_xid 0 call }) (λ small. small) i;
  calls_back = λ m node back file stateid has es ss i. called m.next_xid m.calls es ss (record { node = node; xid = m.next_xid; caller = ForRecall; sent = CallsBack m.next_xid back file stateid }) (λ small. small) i;
  skips = λ m has es ss i. record { none = i.none; fits = after_fits m.next_xid i.fits; were = i.were; forms = i.forms };
  forgets = λ m test es ss i. record { none = i.none; fits = i.fits; were = sent_kept test m.calls ss i.were; forms = i.forms };
  was = λ m es ss i. i.were;
  again = λ m s es ss i inside. plain m.next_xid m.calls es ss s (all_in IsInForm ss s i.forms inside) i;
}

-- ---- each event

pub stays_in_form : MdsStaysInForm
stays_in_form m ss e fits were forms =
    let begun : Formed m.next_xid m.calls [] ss = record { none = tt; fits = fits; were = were; forms = forms } in
    let k : Formed (after_event e m).mds.next_xid (after_event e m).mds.calls (after_event e m).entries (ss ++ (after_event e m).sends) =
    event_walk IsSo HeardAny cases (λ n request now es xs i. i) e (hears_any IsSo e.input) m [] ss begun in
    record { entries = k.none; sends = k.forms }
