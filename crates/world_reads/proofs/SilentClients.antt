-- A client that begins with no number left sends no compound, and has no number left then either.
use Rattle.std.proofs.Common.{◌≡◌, ◌≢◌, ℕ, List, [], ◌∷◌, ◌++◌, Option, Some, None, refl}
use Rattle.device_addr.specs.declared.net_addr.NetAddr.{NetAddr}
use Rattle.cluster_model.specs.declared.ids.NodeId.TheVariants.{Mds}
use Rattle.cluster_model.specs.declared.entry.Entry.TheVariants.{Told}
use Rattle.client_file_calls.specs.declared.open.OpenFile.{OpenFile}
use Rattle.client_state.specs.declared.layout.Layout.{Layout}
use Rattle.client_state.specs.declared.tie.Tie.{Tie}
use Rattle.client_state.specs.ClientStates.{ClientValue, fresh_client}
use Rattle.client_state.specs.ClientQueue.{with_writer}
use Rattle.client_state.specs.ClientSends.{ClientSend, CallsServer, CallsMds, RepeatsToServer, RepeatsToMds, RepliesToMds}
use Rattle.client_answers.specs.ClientMirrors.{has_writer}
use Rattle.client_answers.specs.ClientAnswers.{learns_devices}
use Rattle.client_laws.specs.ClientHistory.{ClientInput, HistoryItem, Hears, Enters, Sends, Each, client_history, client_after}
use Rattle.client_records.proofs.Cases.{Adds, free, heard_mds, Cases}
use Rattle.client_records.proofs.Told.{any_tells, any_covers}
use Rattle.client_records.proofs.EachRun.{Base, any_inputs, in_each_run}

abbrev IsSilent : List HistoryItem → ClientValue → Type 0
IsSilent past c = c.next_xid ≡ 0

abbrev pub AsksNone : List HistoryItem → HistoryItem → Type 0
AsksNone past (Sends (CallsMds xid name call)) = ⊥
AsksNone past (Sends (CallsServer server xid name uid call)) = Unit {0}
AsksNone past (Sends (RepeatsToServer server xid name uid call)) = Unit {0}
AsksNone past (Sends (RepeatsToMds xid message)) = Unit {0}
AsksNone past (Sends (RepliesToMds reply)) = Unit {0}
AsksNone past (Hears input) = Unit {0}
AsksNone past (Enters entry) = Unit {0}

told_so : (past : List HistoryItem) (c : ClientValue) (file : OpenFile) (cred at : ℕ) (bytes : List ℕ) → IsSilent past c → Adds IsSilent AsksNone past (Enters (Told file.file (record { 0 = cred }) at bytes)) c
told_so past c file cred at bytes i = (tt, i)

learned_so : (h : List HistoryItem) (c : ClientValue) (bytes : List ℕ) (now : ℕ) (tie : Tie) (addresses : List NetAddr) (layout : Option Layout) → IsSilent h c → IsSilent (heard_mds h bytes now) (learns_devices layout addresses (free tie c))
learned_so h c bytes now tie addresses None i = i
learned_so h c bytes now tie addresses (Some l) i = i

cases : Cases Base (λ (input : ClientInput). Unit {0}) IsSilent AsksNone
cases = record {
  heard = λ past input. tt;
  hears = λ h c input stays q i. i;
  requests = λ h c request q i. i;
  leaves = λ h c i. i;
  ticks = λ past c i. i;
  answers = λ past c a answers told i. (tt, i);
  done = λ past c request rest at may i. i;
  takes = λ past c file l at bytes rest taking i. (tt, i);
  ends = λ past c l at i. i;
  commits = λ past c l at i. i;
  calls = λ past c l s at some is i. absurd (some i);
  asks = λ past c kind call none some due is i. absurd (some i);
  client = λ h c a bytes now reply tie s behind i clientid sequence is. i;
  session = λ h c a bytes now reply tie s behind i session is. i;
  complete = λ h c a bytes now reply tie s behind i is. i;
  opened = λ h c a bytes now reply tie s behind i file is. i;
  granted = λ h c a bytes now reply tie s behind i grant is. i;
  learns = λ h c a bytes now reply tie s behind i addresses is. learned_so h c bytes now tie addresses c.layout i;
  served = λ h c a bytes now reply tie s behind i is. i;
  idle = λ h c a bytes now reply tie s behind i is. i;
  returned = λ h c a bytes now reply tie s behind i file l is there at. any_tells IsSilent AsksNone told_so (heard_mds h bytes now) file l.writer l.untold (record (free tie c) { layout = None }) i;
  refused = λ h c a bytes now reply tie s behind i status queue waits layout is shorter kept. i;
  gone = λ h c a bytes now reply tie s behind i status is bad kind. i;
  starts_over = λ h c a bytes now reply tie s behind i queue over shorter. i;
  again = λ h c a bytes now reply s at i. i;
  delays = λ h c a bytes now reply s at i. i;
  wakes = λ past c a at i. i;
  repeats_mds = λ past c a at i. (tt, i);
  timed = λ past c xid i. (tt, i);
  moves = λ past c file l after comes quiet i. i;
  covers = λ past c file l after comes quiet i. any_covers IsSilent AsksNone told_so past file (with_writer l after.writer) (has_writer c l after) (λ untold told. i);
  fails = λ past c file l after id cause comes is some i. i;
  loses = λ past c file l after id cause comes is i. i;
  fenced = λ past c file l after id status comes is i. i;
  repeats_server = λ h c file l server out late entries d j. (tt, j);
  callbacks = λ past c s slot at i. i;
  replies = λ past d bytes now reply q call i. (tt, i);
  strays = λ past c file l place at bytes m q straying i. absurd (straying.left i);
}

pub record StaysSilent (number verifier : ℕ) (inputs : List ClientInput) : Type 0 where
  pub none : Each AsksNone [] (client_history (fresh_client number verifier 0) inputs)
  pub spent : (client_after (fresh_client number verifier 0) inputs).next_xid ≡ 0

pub stays_silent : (number verifier : ℕ) (inputs : List ClientInput) → StaysSilent number verifier inputs
stays_silent number verifier inputs =
    let r = in_each_run (λ (input : ClientInput). Unit {0}) IsSilent AsksNone cases number verifier 0 inputs (any_inputs inputs) refl in
    record { none = r.each; spent = r.keeps }
