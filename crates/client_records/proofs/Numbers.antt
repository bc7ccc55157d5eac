-- Each call has a number of its own, and each repeat is of a call that went out.
use Rattle.std.proofs.Common.{◌≡◌, ◌≢◌, ℕ, ◌+◌, ◌<◌, ◌^◌, Bool, true, false, List, [], ◌∷◌, ◌++◌, Option, Some, None, refl, sym, subst, ◌∙◌, arith, inl, inr}
use Rattle.std.specs.Prelude.{◌==◌, if◌then◌else◌}
use Rattle.std.specs.List.{find}
use Rattle.std.proofs.lemmas.Bool.{eq-eqb}
use Rattle.std.proofs.lemmas.Option.{none-some}
use Rattle.device_addr.specs.declared.net_addr.NetAddr.{NetAddr}
use Rattle.cluster_model.specs.declared.ids.NodeId.TheVariants.{Mds, Server, Client}
use Rattle.cluster_model.specs.declared.entry.Entry.TheVariants.{Sent, Rogue, Told, TimedOut, Answer}
use Rattle.cluster_model.specs.DsCalls as ds
use Rattle.client_file_calls.specs.declared.open.OpenFile.{OpenFile}
use Rattle.client_state.specs.declared.tie.Tie.{Tie}
use Rattle.cluster_model.specs.DsCalls.{DsCallValue}
use Rattle.rpc_record.specs.CallNumbers.{IsBelow}
use Rattle.mirror_writer.specs.Writers.{WriterMirror, WriterValue}
use Rattle.mirror_writer.specs.Outstanding.{OutCall, out_at_mirror, out_at}
use Rattle.client_state.specs.declared.layout.Layout.{Layout}
use Rattle.client_state.specs.declared.asked.Asked.{Asked}
use Rattle.client_state.specs.ClientStates.{ClientValue}
use Rattle.client_state.specs.ClientQueue.{with_writer}
use Rattle.client_state.specs.ClientSends.{ClientSend, CallsServer, CallsMds, RepeatsToServer, RepeatsToMds, RepliesToMds}
use Rattle.client_calls.specs.ClientCalls.{xid_after}
use Rattle.client_calls.specs.ClientLaws.{new_number}
use Rattle.client_answers.specs.ClientMirrors.{has_writer}
use Rattle.client_answers.specs.ClientAnswers.{learns_devices}
use Rattle.client_mds_calls.specs.FittingCalls.{reports_server}
use Rattle.client_laws.specs.ClientHistory.{ClientInput, Requested, Recorded, TimeoutOf, LeftProtocol, HistoryItem, Hears, Enters, Sends, HasItem, entered}
use Rattle.client_laws.proofs.Orders.{in_more, in_end}
use Rattle.client_laws.proofs.Places.{Found, found, same_number}
use Rattle.client_laws.proofs.WriterMoves.{out_sent}
use Rattle.client_laws.proofs.Stands.{Stands, WriterStands, LayoutStands, IfThere, reported_of}
use Rattle.client_records.specs.ClientRecords.{CallsAreBelow, IsNextNumber, WasAskedAs, NumbersOn, IsNumberedOn, EachRunIsNumbered}
use Rattle.client_records.proofs.Cases.{Adds, free, heard_mds, heard_late, Cases}
use Rattle.client_records.proofs.Told.{any_tells, any_covers}
use Rattle.client_records.proofs.EachRun.{Base, any_inputs, in_each_run}

-- ---- numbers below another

below_append : (xid : ℕ) (past more : List HistoryItem) → CallsAreBelow xid past → CallsAreBelow xid more → CallsAreBelow xid (past ++ more)
below_append xid [] more first second = second
below_append xid (Hears input ∷ past) more first second = below_append xid past more first second
below_append xid (Enters entry ∷ past) more first second = below_append xid past more first second
below_append xid (Sends send ∷ past) more first second = (first.0, below_append xid past more first.1 second)

one_more : (xid : ℕ) (o : Option ℕ) → IsBelow xid o → IsBelow (xid + 1) o
one_more xid None below = below
one_more xid (Some other) below = omega (arith, below)

below_more : (xid : ℕ) (past : List HistoryItem) → CallsAreBelow xid past → CallsAreBelow (xid + 1) past
below_more xid [] below = tt
below_more xid (Hears input ∷ past) below = below_more xid past below
below_more xid (Enters entry ∷ past) below = below_more xid past below
below_more xid (Sends send ∷ past) below = (one_more xid (new_number send) below.0, below_more xid past below.1)

-- ---- what is kept

pub record NumberedOf (first : ℕ) (past : List HistoryItem) (next : ℕ) (asked : Option Asked) : Type 0 where
  pub numbers : IsNumberedOn first past next
  pub asked_as : IfThere asked (λ a. WasAskedAs past a.xid a.message)

abbrev pub Numbered : ℕ → List HistoryItem → ClientValue → Type 0
Numbered first past c = NumberedOf first past c.next_xid c.asked

-- it takes no number
abbrev IsPlain : HistoryItem → Type 0
IsPlain item = (xid : ℕ) → CallsAreBelow xid (item ∷ [])

numbers_later : (first : ℕ) (past : List HistoryItem) (item : HistoryItem) (next : ℕ) → IsPlain item → IsNumberedOn first past next → IsNumberedOn first (past ++ item ∷ []) next
numbers_later first past item next plain (inl none) = inl none
numbers_later first past item next plain (inr (from, fits, above)) = inr (from, fits, below_append next past (item ∷ []) above (plain next))

asked_later : (past more : List HistoryItem) (asked : Option Asked) → IfThere asked (λ a. WasAskedAs past a.xid a.message) → IfThere asked (λ a. WasAskedAs (past ++ more) a.xid a.message)
asked_later past more None out = tt
asked_later past more (Some a) out = record { name = out.name; call = out.call; sent = in_more (Sends (CallsMds a.xid out.name out.call) ∷ []) past more out.sent; same = out.same }

pub later : (first : ℕ) (past : List HistoryItem) (item : HistoryItem) (next : ℕ) (asked : Option Asked) → ((xid : ℕ) → CallsAreBelow xid (item ∷ [])) → NumberedOf first past next asked → NumberedOf first (past ++ item ∷ []) next asked
later first past item next asked plain i = record { numbers = numbers_later first past item next plain i.numbers; asked_as = asked_later past (item ∷ []) asked i.asked_as }

-- ---- a new call

number_fits : (n : ℕ) → (n == 4294967295) ≡ false → n < 2 ^ 32 → n + 1 < 2 ^ 32
number_fits n is small = omega (arith, small, other)
  where
    other : n ≢ 4294967295
    other same = absurd (true_false (sym (eq-eqb n 4294967295 same) ∙ is))
      where
        true_false : true ≡ false → ⊥
        true_false e = absurd cc

-- the number of this send is the next
module _ (first : ℕ) (past : List HistoryItem) (next : ℕ) (send : ClientSend) (is : new_number send ≡ Some next) where
  pub takes_next : next ≢ 0 → IsNumberedOn first past next → IsNextNumber first past next
  takes_next some (inl none) = absurd (some none)
  takes_next some (inr (from, fits, above)) = record { from_first = from; fits = fits; above = above }

  pub goes_on : next ≢ 0 → IsNumberedOn first past next → IsNumberedOn first (past ++ Sends send ∷ []) (xid_after next)
  goes_on some (inl none) = absurd (some none)
  goes_on some (inr (from, fits, above)) = by_test (next == 4294967295) refl
    where
      here : CallsAreBelow (next + 1) (Sends send ∷ [])
      here = (subst (IsBelow (next + 1)) (sym is) (omega arith), tt)

      by_test : (b : Bool) → (next == 4294967295) ≡ b → IsNumberedOn first (past ++ Sends send ∷ []) (if b then 0 else next + 1)
      by_test true last = inl refl
      by_test false last = inr (omega (arith, from), number_fits next last fits, below_append (next + 1) past (Sends send ∷ []) (below_more next past above) here)

-- ---- a call that is out was sent

pub found_sent : (h : List HistoryItem) (name : List ℕ) (reports : ℕ → Bool) (w : WriterValue) (server : ℕ) (out : OutCall) → WriterStands h name reports w → out_at w server ≡ Some out
    → HasItem h (Sends (CallsServer server out.xid name w.cred out.call))
found_sent h name reports w server out s is = by_mirror (find (λ (m : WriterMirror). m.id.server == server) w.mirrors) refl is
  where
    by_mirror : (o : Option WriterMirror) → find (λ (m : WriterMirror). m.id.server == server) w.mirrors ≡ o → out_at_mirror w o ≡ Some out → HasItem h (Sends (CallsServer server out.xid name w.cred out.call))
    by_mirror None at is = absurd (none-some out is)
    by_mirror (Some m) at is =
        let f : Found (λ (m : WriterMirror). m.id.server == server) w.mirrors m = found (λ (m : WriterMirror). m.id.server == server) w.mirrors m at in
        subst (λ (k : ℕ). HasItem h (Sends (CallsServer k out.xid name w.cred out.call))) (same_number m.id.server server f.passes) (out_sent h name reports w s m m.call out (s f.place m f.there).call is)

-- of a client whose call timed out
pub late_sent : (h : List HistoryItem) (c : ClientValue) (l : Layout) (server : ℕ) (out : OutCall) → Stands h c → c.layout ≡ Some l → out_at l.writer server ≡ Some out → HasItem h (Sends (CallsServer server out.xid c.name l.writer.cred out.call))
late_sent h c l server out s at is =
    found_sent h c.name (reports_server (reported_of l)) l.writer server out (subst (λ (o : Option Layout). IfThere o (λ l. LayoutStands h c.name (reports_server (reported_of l)) l)) at s.layout_stands).writer is

-- ---- the cases

module _ (first : ℕ) where
  told_so : (past : List HistoryItem) (c : ClientValue) (file : OpenFile) (cred at : ℕ) (bytes : List ℕ) → Numbered first past c → Adds (Numbered first) (NumbersOn first) past (Enters (Told file.file (record { 0 = cred }) at bytes)) c
  told_so past c file cred at bytes i = (tt, later first past (Enters (Told file.file (record { 0 = cred }) at bytes)) c.next_xid c.asked (λ xid. tt) i)

  -- nothing is out any more
  freed : (past : List HistoryItem) (item : HistoryItem) (c : ClientValue) → ((xid : ℕ) → CallsAreBelow xid (item ∷ [])) → Numbered first past c → NumberedOf first (past ++ item ∷ []) c.next_xid None
  freed past item c plain i = record { numbers = numbers_later first past item c.next_xid plain i.numbers; asked_as = tt }

  -- the record that is out is the same
  same_out : (past : List HistoryItem) (c : ClientValue) (a : Asked) (late : Bool) → c.asked ≡ Some a → Numbered first past c → NumberedOf first past c.next_xid (Some (record a { is_late = late }))
  same_out past c a late at i = record { numbers = i.numbers; asked_as = subst (λ (o : Option Asked). IfThere o (λ a. WasAskedAs past a.xid a.message)) at i.asked_as }

  learned_so : (h : List HistoryItem) (c : ClientValue) (bytes : List ℕ) (now : ℕ) (tie : Tie) (addresses : List NetAddr) (layout : Option Layout) → Numbered first h c → Numbered first (heard_mds h bytes now) (learns_devices layout addresses (free tie c))
  learned_so h c bytes now tie addresses None i = freed h (Hears (Recorded Mds bytes now)) c (λ xid. tt) i
  learned_so h c bytes now tie addresses (Some l) i = freed h (Hears (Recorded Mds bytes now)) c (λ xid. tt) i

  -- a call to a data server
  server_called : (past : List HistoryItem) (c : ClientValue) (server uid : ℕ) (call : DsCallValue) → c.next_xid ≢ 0 → Numbered first past c
      → Adds (Numbered first) (NumbersOn first) past (Sends (CallsServer server c.next_xid c.name uid call)) (record c { next_xid = xid_after c.next_xid })
  server_called past c server uid call some i = (
    takes_next first past c.next_xid (CallsServer server c.next_xid c.name uid call) refl some i.numbers,
    record {
      numbers = goes_on first past c.next_xid (CallsServer server c.next_xid c.name uid call) refl some i.numbers;
      asked_as = asked_later past (Sends (CallsServer server c.next_xid c.name uid call) ∷ []) c.asked i.asked_as;
    },
  )

  numbers_cases : Cases Base (λ (input : ClientInput). Unit {0}) (Numbered first) (NumbersOn first)
  numbers_cases = record {
    heard = λ past input. tt;
    hears = λ h c input stays q i. later first h (Hears input) c.next_xid c.asked (λ xid. tt) i;
    requests = λ h c request q i. later first h (Hears (Requested request)) c.next_xid c.asked (λ xid. tt) i;
    leaves = λ h c i. later first h (Hears LeftProtocol) c.next_xid c.asked (λ xid. tt) i;
    ticks = λ past c i. i;
    answers = λ past c a answers told i. (tt, later first past (Enters (Answer c.number a)) c.next_xid c.asked (λ xid. tt) i);
    done = λ past c request rest at may i. i;
    takes = λ past c file l at bytes rest taking i. (tt, later first past (Enters (Sent file.file (record { 0 = l.writer.cred }) at bytes)) c.next_xid c.asked (λ xid. tt) i);
    ends = λ past c l at i. i;
    commits = λ past c l at i. i;
    calls = λ past c l s at some is i. server_called past c s.id.server l.writer.cred s.call some i;
    asks = λ past c kind call none some due is i. (
      takes_next first past c.next_xid (CallsMds c.next_xid c.name call) refl some i.numbers,
      record {
        numbers = goes_on first past c.next_xid (CallsMds c.next_xid c.name call) refl some i.numbers;
        asked_as = record { name = c.name; call = call; sent = in_end past (Sends (CallsMds c.next_xid c.name call)); same = refl };
      },
    );
    client = λ h c a bytes now reply tie s behind i clientid sequence is. freed h (Hears (Recorded Mds bytes now)) c (λ xid. tt) i;
    session = λ h c a bytes now reply tie s behind i session is. freed h (Hears (Recorded Mds bytes now)) c (λ xid. tt) i;
    complete = λ h c a bytes now reply tie s behind i is. freed h (Hears (Recorded Mds bytes now)) c (λ xid. tt) i;
    opened = λ h c a bytes now reply tie s behind i file is. freed h (Hears (Recorded Mds bytes now)) c (λ xid. tt) i;
    granted = λ h c a bytes now reply tie s behind i grant is. freed h (Hears (Recorded Mds bytes now)) c (λ xid. tt) i;
    learns = λ h c a bytes now reply tie s behind i addresses is. learned_so h c bytes now tie addresses c.layout i;
    served = λ h c a bytes now reply tie s behind i is. freed h (Hears (Recorded Mds bytes now)) c (λ xid. tt) i;
    idle = λ h c a bytes now reply tie s behind i is. freed h (Hears (Recorded Mds bytes now)) c (λ xid. tt) i;
    returned = λ h c a bytes now reply tie s behind i file l is there at.
        any_tells (Numbered first) (NumbersOn first) told_so (heard_mds h bytes now) file l.writer l.untold (record (free tie c) { layout = None }) (freed h (Hears (Recorded Mds bytes now)) c (λ xid. tt) i);
    refused = λ h c a bytes now reply tie s behind i status queue waits layout is shorter kept. freed h (Hears (Recorded Mds bytes now)) c (λ xid. tt) i;
    gone = λ h c a bytes now reply tie s behind i status is bad kind. freed h (Hears (Recorded Mds bytes now)) c (λ xid. tt) i;
    starts_over = λ h c a bytes now reply tie s behind i queue over shorter. freed h (Hears (Recorded Mds bytes now)) c (λ xid. tt) i;
    again = λ h c a bytes now reply s at i. freed h (Hears (Recorded Mds bytes now)) c (λ xid. tt) i;
    delays = λ h c a bytes now reply s at i. same_out (heard_mds h bytes now) c a true s.out (later first h (Hears (Recorded Mds bytes now)) c.next_xid c.asked (λ xid. tt) i);
    wakes = λ past c a at i. same_out past c a false at i;
    repeats_mds = λ past c a at i. (subst (λ (o : Option Asked). IfThere o (λ a. WasAskedAs past a.xid a.message)) at i.asked_as, later first past (Sends (RepeatsToMds a.xid a.message)) c.next_xid c.asked (λ xid. (tt, tt)) i);
    timed = λ past c xid i. (tt, later first past (Enters (TimedOut (Client c.number) xid)) c.next_xid c.asked (λ xid. tt) i);
    moves = λ past c file l after comes quiet i. i;
    covers = λ past c file l after comes quiet i. any_covers (Numbered first) (NumbersOn first) told_so past file (with_writer l after.writer) (has_writer c l after) (λ untold told. i);
    fails = λ past c file l after id cause comes is some i. i;
    loses = λ past c file l after id cause comes is i. i;
    fenced = λ past c file l after id status comes is i. i;
    repeats_server = λ h c file l server out late entries d j. (
      in_more (Sends (CallsServer server out.xid c.name l.writer.cred out.call) ∷ []) (heard_late h server) (entered entries) (in_more (Sends (CallsServer server out.xid c.name l.writer.cred out.call) ∷ []) h (Hears (TimeoutOf (Server server)) ∷ []) (late_sent h c l server out late.base.0 late.layout late.out_is)),
      later first (heard_late h server ++ entered entries) (Sends (RepeatsToServer server out.xid c.name l.writer.cred out.call)) d.next_xid d.asked (λ xid. (tt, tt)) j,
    );
    callbacks = λ past c s slot at i. i;
    replies = λ past d bytes now reply q call i. (tt, later first past (Sends (RepliesToMds reply)) d.next_xid d.asked (λ xid. (tt, tt)) i);
    strays = λ past c file l place at bytes m q straying i. (
      tt,
      server_called (past ++ Enters (Rogue file.file (record { 0 = l.writer.cred }) at bytes) ∷ []) c m.id.server l.writer.cred (ds.Write m.id.fileid at false bytes) straying.left
          (later first past (Enters (Rogue file.file (record { 0 = l.writer.cred }) at bytes)) c.next_xid c.asked (λ xid. tt) i),
    );
  }

pub numbered : EachRunIsNumbered
numbered number verifier first_xid inputs fits =
    let r = in_each_run (λ (input : ClientInput). Unit {0}) (Numbered first_xid) (NumbersOn first_xid) (numbers_cases first_xid) number verifier first_xid inputs (any_inputs inputs)
    (record { numbers = inr (omega arith, fits, tt); asked_as = tt }) in
    (r.each, r.keeps.numbers)
