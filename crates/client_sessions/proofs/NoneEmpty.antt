-- No write that is taken is empty, where users ask for no empty one.
use Rattle.std.proofs.Common.{◌≡◌, ℕ, ◌<◌, List, [], ◌∷◌, ◌++◌, length, drop, subst}
use Rattle.std.specs.List.{AllByRecursion}
use Rattle.cluster_model.specs.declared.entry.Entry.TheVariants.{Sent, Rogue, Told, TimedOut, Answer}
use Rattle.client_state.specs.declared.request.UserRequest.{UserRequest}
use Rattle.client_state.specs.declared.request.UserRequest.TheVariants.{Write}
use Rattle.client_file_calls.specs.declared.open.OpenFile.{OpenFile}
use Rattle.client_state.specs.declared.layout.Layout.{Layout}
use Rattle.client_state.specs.ClientStates.{ClientValue, fresh_client}
use Rattle.client_answers.specs.ClientMirrors.{has_writer}
use Rattle.client_answers.specs.ClientAnswers.{learns_devices}
use Rattle.client_state.specs.declared.asked.Asked.{Asked}
use Rattle.client_state.specs.declared.tie.Tie.{Tie}
use Rattle.client_state.specs.ClientQueue.{with_writer}
use Rattle.device_addr.specs.declared.net_addr.NetAddr.{NetAddr}
use Rattle.std.proofs.Common.{Option, Some, None}
use Rattle.client_laws.specs.ClientHistory.{ClientInput, HistoryItem, Enters, client_history, Each}
use Rattle.client_records.proofs.Cases.{IsTaking, heard_mds, Adds, free, Cases}
use Rattle.client_records.proofs.QueueAll.{commit_all, dropped_all, shorter_all, more_all}
use Rattle.client_records.proofs.Told.{any_tells, any_covers}
use Rattle.client_records.proofs.EachRun.{Base, in_each_run}
use Rattle.client_sessions.specs.LayoutEnds.{IsRequestOfBytes, IsInputOfBytes, TakesBytes, EachRunTakesBytes}

abbrev WaitsForBytes : List HistoryItem → ClientValue → Type 0
WaitsForBytes past c = AllByRecursion IsRequestOfBytes c.queue

told_so : (past : List HistoryItem) (c : ClientValue) (file : OpenFile) (cred at : ℕ) (bytes : List ℕ) → WaitsForBytes past c → Adds WaitsForBytes TakesBytes past (Enters (Told file.file (record { 0 = cred }) at bytes)) c
told_so past c file cred at bytes i = (tt, i)

learned : (past : List HistoryItem) (tie : Tie) (c : ClientValue) (layout : Option Layout) (addresses : List NetAddr) → WaitsForBytes past c → WaitsForBytes past (learns_devices layout addresses (free tie c))
learned past tie c None addresses i = i
learned past tie c (Some l) addresses i = i

rest_of : (queue : List UserRequest) (request : UserRequest) (rest : List UserRequest) → queue ≡ request ∷ rest → AllByRecursion IsRequestOfBytes queue → IsRequestOfBytes request × AllByRecursion IsRequestOfBytes rest
rest_of queue request rest is all = subst (λ (q : List UserRequest). AllByRecursion IsRequestOfBytes q) is all

bytes_cases : Cases Base IsInputOfBytes WaitsForBytes TakesBytes
bytes_cases = record {
  heard = λ past input. tt;
  hears = λ h c input stays q i. i;
  requests = λ h c request q i. more_all IsRequestOfBytes c.queue request i q;
  leaves = λ h c i. i;
  ticks = λ past c i. i;
  answers = λ past c a answers told i. (tt, i);
  done = λ past c request rest at may i. (rest_of c.queue request rest at i).1;
  takes = λ past c file l at bytes rest taking i. rest_of c.queue (Write at bytes) rest taking.queue i;
  ends = λ past c l at i. i;
  commits = λ past c l at i. i;
  calls = λ past c l s at some is i. (tt, i);
  asks = λ past c kind call none some due is i. (tt, i);
  client = λ h c a bytes now reply tie s behind i clientid sequence is. i;
  session = λ h c a bytes now reply tie s behind i session is. i;
  complete = λ h c a bytes now reply tie s behind i is. i;
  opened = λ h c a bytes now reply tie s behind i file is. dropped_all IsRequestOfBytes c.queue i;
  granted = λ h c a bytes now reply tie s behind i grant is. i;
  learns = λ h c a bytes now reply tie s behind i addresses is. learned h tie c c.layout addresses i;
  served = λ h c a bytes now reply tie s behind i is. dropped_all IsRequestOfBytes c.queue i;
  idle = λ h c a bytes now reply tie s behind i is. i;
  returned = λ h c a bytes now reply tie s behind i file l is there at. any_tells WaitsForBytes TakesBytes told_so (heard_mds h bytes now) file l.writer l.untold (record (free tie c) { layout = None }) i;
  refused = λ h c a bytes now reply tie s behind i status queue waits layout is shorter kept. shorter_all IsRequestOfBytes queue c.queue shorter i;
  gone = λ h c a bytes now reply tie s behind i status is bad kind. commit_all IsRequestOfBytes c.queue i;
  starts_over = λ h c a bytes now reply tie s behind i queue over shorter. shorter_all IsRequestOfBytes queue c.queue shorter i;
  again = λ h c a bytes now reply s at i. i;
  delays = λ h c a bytes now reply s at i. i;
  wakes = λ past c a at i. i;
  repeats_mds = λ past c a at i. (tt, i);
  timed = λ past c xid i. (tt, i);
  moves = λ past c file l after comes quiet i. i;
  covers = λ past c file l after comes quiet i. any_covers WaitsForBytes TakesBytes told_so past file (with_writer l after.writer) (has_writer c l after) (λ untold told. i);
  fails = λ past c file l after id cause comes is some i. i;
  loses = λ past c file l after id cause comes is i. commit_all IsRequestOfBytes c.queue i;
  fenced = λ past c file l after id status comes is i. commit_all IsRequestOfBytes c.queue i;
  repeats_server = λ h c file l server out late entries d j. (tt, j);
  callbacks = λ past c s slot at i. i;
  replies = λ past d bytes now reply q call i. (tt, i);
  strays = λ past c file l place at bytes m q straying i. (tt, (tt, i));
}

pub bytes : EachRunTakesBytes
bytes number verifier first_xid inputs all = (in_each_run IsInputOfBytes WaitsForBytes TakesBytes bytes_cases number verifier first_xid inputs all tt).each
