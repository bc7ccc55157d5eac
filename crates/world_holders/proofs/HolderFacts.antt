-- What those who hold a file in a world rest on besides: the metadata server's own periods, whose entries stand together, and who strays (RFC 8881,
-- section 18.32; RFC 8435, section 2.2).
use Rattle.std.proofs.Common.{◌≡◌, ℕ, Bool, true, false, List, [], ◌∷◌, ◌++◌, Option, Some, None, refl, sym, ap, subst, ◌∙◌, inl, inr}
use Rattle.std.specs.Prelude.{map}
use Rattle.std.specs.List.{AllByRecursion}
use Rattle.std.proofs.lemmas.List.{append_assoc, append-nil}
use Rattle.cluster_model.specs.declared.entry.Entry.{Entry}
use Rattle.device_addr.specs.Universal.{AddressValue}
use Rattle.device_addr.specs.declared.net_addr.NetAddr.{NetAddr}
use Rattle.client_file_calls.specs.declared.open.OpenFile.{OpenFile}
use Rattle.mds_walk.specs.MdsRuns.{MdsEvent}
use Rattle.mds_laws.specs.OwnPeriods.{RunsOwnPeriods}
use Rattle.mds_histories.specs.MdsHistory.{MdsItem, Comes, Enters as MdsEnters, Sends as MdsSends}
use Rattle.client_state.specs.declared.layout.Layout.{Layout}
use Rattle.client_state.specs.declared.tie.Tie.{Tie}
use Rattle.client_state.specs.ClientStates.{ClientValue, fresh_client}
use Rattle.client_state.specs.ClientSends.{ClientSend}
use Rattle.client_state.specs.ClientQueue.{with_writer}
use Rattle.client_answers.specs.ClientMirrors.{has_writer}
use Rattle.client_answers.specs.ClientAnswers.{learns_devices}
use Rattle.cluster_model.specs.declared.entry.Entry.TheVariants.{Sent, Rogue, Told, TimedOut, Answer}
use Rattle.client_laws.specs.ClientHistory.{ClientInput, Requested, Recorded, TimeoutOf, Ticked, LeftProtocol, Strayed, HistoryItem, Hears, Enters, Sends, HasItem, entered, sent, items_of, input_step, client_history, client_after}
use Rattle.client_laws.proofs.Orders.{in_more}
use Rattle.client_records.proofs.Cases.{IsStaying, heard_mds, Adds, free, Cases}
use Rattle.client_records.proofs.Told.{any_tells, any_covers}
use Rattle.client_records.proofs.EachRun.{Base, any_inputs, in_each_run}
use Rattle.client_sessions.specs.LayoutEnds.{HasNotLeft}
use Rattle.client_sessions.proofs.LayoutsHeld.{stays_item}
use Rattle.world_rule.specs.ClusterWorlds.{ClusterState}
use Rattle.node_histories.specs.Weaves.{WeaveStep, Passes, Unseen, Seen, entries_in, items_in}
use Rattle.node_histories.specs.ClientLives.{Life, start_of, HaveStraysLeft}
use Rattle.node_histories.specs.NodeHistories.{IsEntryNext, AreTogether, HasLife, IsToldByNodes}
use Rattle.node_histories.proofs.Lives.{after_joins}
use Rattle.node_histories.proofs.Parts.{all_joined}

-- ---- the metadata server's own periods

-- in every run
abbrev pub EachRunOwnsPeriods : Type 0
EachRunOwnsPeriods = (servers : List AddressValue) (mirrors : ℕ) (events : List MdsEvent) → RunsOwnPeriods servers mirrors events

-- where the metadata server's next item is an entry, the next of the journal is that entry: those of one event are not parted
abbrev pub AreEntriesTogether : {w : ClusterState} → IsToldByNodes w → Type 0
AreEntriesTogether told =
    (earlier later : List (WeaveStep MdsItem)) (x y e : Entry) (more : List MdsItem) → told.mds.steps ≡ earlier ++ Seen (MdsEnters x) e ∷ later → items_in later ≡ MdsEnters y ∷ more → (rest : List Entry) × (entries_in later ≡ y ∷ rest)

next_at : (earlier later : List (WeaveStep MdsItem)) (x e : Entry) → AreTogether (earlier ++ Seen (MdsEnters x) e ∷ later) → IsEntryNext later
next_at [] later x e all = all.0
next_at (Passes z ∷ earlier) later x e all = next_at earlier later x e all
next_at (Unseen item ∷ earlier) later x e all = next_at earlier later x e all
next_at (Seen (Comes event) z ∷ earlier) later x e all = next_at earlier later x e all
next_at (Seen (MdsEnters y) z ∷ earlier) later x e all = next_at earlier later x e all.1
next_at (Seen (MdsSends send) z ∷ earlier) later x e all = next_at earlier later x e all

pub together : (w : ClusterState) (told : IsToldByNodes w) → AreEntriesTogether told
together w told earlier later x y e more is items = next_at earlier later x e (subst AreTogether is told.mds_is.together) y more items

-- ---- who strays

abbrev pub IsNotStrayed : ClientInput → Type 0
IsNotStrayed (Strayed place at bytes) = ⊥
IsNotStrayed input = Unit {0}

-- no write strays before the client left the protocol
abbrev pub StraysBehind : List ClientInput → Type 0
StraysBehind [] = Unit {0}
StraysBehind (LeftProtocol ∷ inputs) = Unit {0}
StraysBehind (input ∷ inputs) = IsNotStrayed input × StraysBehind inputs

abbrev pub StraysHaveLeft : {w : ClusterState} → IsToldByNodes w → Type 0
StraysHaveLeft told = (n : ℕ) (l : Life) → HasLife told.stories n l → StraysBehind l.inputs

-- ---- a client that has left heard so

abbrev HasLeftHere : List HistoryItem → ClientValue → Type 0
HasLeftHere past c = c.has_left ≡ true → HasItem past (Hears LeftProtocol)

abbrev AnyItem : List HistoryItem → HistoryItem → Type 0
AnyItem past item = Unit {0}

later : (past : List HistoryItem) (item : HistoryItem) (c : ClientValue) → HasLeftHere past c → HasLeftHere (past ++ item ∷ []) c
later past item c i left = in_more (Hears LeftProtocol ∷ []) past (item ∷ []) (i left)

at_end : (past : List HistoryItem) → HasItem (past ++ Hears LeftProtocol ∷ []) (Hears LeftProtocol)
at_end [] = inl (refl, tt)
at_end (x ∷ past) = inr (at_end past)

told_so : (past : List HistoryItem) (c : ClientValue) (file : OpenFile) (cred at : ℕ) (bytes : List ℕ) → HasLeftHere past c → Adds HasLeftHere AnyItem past (Enters (Told file.file (record { 0 = cred }) at bytes)) c
told_so past c file cred at bytes i = (tt, later past (Enters (Told file.file (record { 0 = cred }) at bytes)) c i)

learned : (past : List HistoryItem) (tie : Tie) (c : ClientValue) (layout : Option Layout) (addresses : List NetAddr) → HasLeftHere past c → HasLeftHere past (learns_devices layout addresses (free tie c))
learned past tie c None addresses i = i
learned past tie c (Some l) addresses i = i

left_cases : Cases Base (λ (input : ClientInput). Unit {0}) HasLeftHere AnyItem
left_cases = record {
  heard = λ past input. tt;
  hears = λ h c input stays q i. later h (Hears input) c i;
  requests = λ h c request q i. later h (Hears (Requested request)) c i;
  leaves = λ h c i left. at_end h;
  ticks = λ past c i. i;
  answers = λ past c a answers told i. (tt, later past _ c i);
  done = λ past c request rest at may i. i;
  takes = λ past c file l at bytes rest taking i. (tt, later past _ c i);
  ends = λ past c l at i. i;
  commits = λ past c l at i. i;
  calls = λ past c l s at some is i. (tt, later past _ c i);
  asks = λ past c kind call none some due is i. (tt, later past _ c i);
  client = λ h c a bytes now reply tie s behind i clientid sequence is. later h _ c i;
  session = λ h c a bytes now reply tie s behind i session is. later h _ c i;
  complete = λ h c a bytes now reply tie s behind i is. later h _ c i;
  opened = λ h c a bytes now reply tie s behind i file is. later h _ c i;
  granted = λ h c a bytes now reply tie s behind i grant is. later h _ c i;
  learns = λ h c a bytes now reply tie s behind i addresses is. learned (heard_mds h bytes now) tie c c.layout addresses (later h (Hears (Recorded _ bytes now)) c i);
  served = λ h c a bytes now reply tie s behind i is. later h _ c i;
  idle = λ h c a bytes now reply tie s behind i is. later h _ c i;
  returned = λ h c a bytes now reply tie s behind i file l is there at. any_tells HasLeftHere AnyItem told_so (heard_mds h bytes now) file l.writer l.untold (record (free tie c) { layout = None }) (later h _ c i);
  refused = λ h c a bytes now reply tie s behind i status queue waits layout is shorter kept. later h _ c i;
  gone = λ h c a bytes now reply tie s behind i status is bad kind. later h _ c i;
  starts_over = λ h c a bytes now reply tie s behind i queue over shorter. later h _ c i;
  again = λ h c a bytes now reply s at i. later h _ c i;
  delays = λ h c a bytes now reply s at i. later h _ c i;
  wakes = λ past c a at i. i;
  repeats_mds = λ past c a at i. (tt, later past _ c i);
  timed = λ past c xid i. (tt, later past _ c i);
  moves = λ past c file l after comes quiet i. i;
  covers = λ past c file l after comes quiet i. any_covers HasLeftHere AnyItem told_so past file (with_writer l after.writer) (has_writer c l after) (λ untold told. i);
  fails = λ past c file l after id cause comes is some i. i;
  loses = λ past c file l after id cause comes is i. i;
  fenced = λ past c file l after id status comes is i. i;
  repeats_server = λ h c file l server out late entries d j. (tt, later _ _ d j);
  callbacks = λ past c s slot at i. i;
  replies = λ past d bytes now reply q call i. (tt, later past _ d i);
  strays = λ past c file l place at bytes m q straying i. (tt, (tt, later _ _ c (later past _ c i)));
}

left_heard : (number verifier first_xid : ℕ) (inputs : List ClientInput) → (client_after (fresh_client number verifier first_xid) inputs).has_left ≡ true → HasItem (client_history (fresh_client number verifier first_xid) inputs) (Hears LeftProtocol)
left_heard number verifier first_xid inputs =
    (in_each_run (λ (input : ClientInput). Unit {0}) HasLeftHere AnyItem left_cases number verifier first_xid inputs (any_inputs inputs) (λ wrong. absurd cc)).keeps

-- ---- where it has not left, nothing strayed

none_among : (items : List HistoryItem) → AllByRecursion HasNotLeft items → HasItem items (Hears LeftProtocol) → ⊥
none_among [] none has = has
none_among (x ∷ items) none (inl here) = subst HasNotLeft (sym here.0) none.0
none_among (x ∷ items) none (inr there) = none_among items none.1 there

none_entered : (entries : List Entry) → AllByRecursion HasNotLeft (entered entries)
none_entered [] = tt
none_entered (e ∷ entries) = (tt, none_entered entries)

none_sent : (sends : List ClientSend) → AllByRecursion HasNotLeft (sent sends)
none_sent [] = tt
none_sent (s ∷ sends) = (tt, none_sent sends)

none_left : (c : ClientValue) (inputs : List ClientInput) → AllByRecursion IsStaying inputs → AllByRecursion HasNotLeft (client_history c inputs)
none_left c [] stay = tt
none_left c (input ∷ inputs) stay =
    let s = input_step input c in
    all_joined HasNotLeft (items_of input s) (client_history s.client inputs) (stays_item input stay.0, all_joined HasNotLeft (entered s.entries) (sent s.sends) (none_entered s.entries) (none_sent s.sends)) (none_left s.client inputs stay.1)

module _ (number verifier first_xid : ℕ) where
  abbrev start : ClientValue
  start = fresh_client number verifier first_xid

  moved : (front : List ClientInput) (input : ClientInput) (inputs : List ClientInput) → HaveStraysLeft (input_step input (client_after (fresh_client number verifier first_xid) front)).client inputs
      → HaveStraysLeft (client_after (fresh_client number verifier first_xid) (front ++ input ∷ [])) inputs
  moved front input inputs strays = subst (λ (d : ClientValue). HaveStraysLeft d inputs) (sym (after_joins (fresh_client number verifier first_xid) front (input ∷ []))) strays

  strays_behind : (front inputs : List ClientInput) → AllByRecursion IsStaying front → HaveStraysLeft (client_after (fresh_client number verifier first_xid) front) inputs → StraysBehind inputs
  strays_behind front [] stay strays = tt
  strays_behind front (Requested request ∷ inputs) stay strays = (tt, strays_behind (front ++ Requested request ∷ []) inputs (all_joined IsStaying front (Requested request ∷ []) stay (tt, tt)) (moved front (Requested request) inputs strays.1))
  strays_behind front (Recorded from bytes now ∷ inputs) stay strays =
      (tt, strays_behind (front ++ Recorded from bytes now ∷ []) inputs (all_joined IsStaying front (Recorded from bytes now ∷ []) stay (tt, tt)) (moved front (Recorded from bytes now) inputs strays.1))
  strays_behind front (TimeoutOf to ∷ inputs) stay strays = (tt, strays_behind (front ++ TimeoutOf to ∷ []) inputs (all_joined IsStaying front (TimeoutOf to ∷ []) stay (tt, tt)) (moved front (TimeoutOf to) inputs strays.1))
  strays_behind front (Ticked now ∷ inputs) stay strays = (tt, strays_behind (front ++ Ticked now ∷ []) inputs (all_joined IsStaying front (Ticked now ∷ []) stay (tt, tt)) (moved front (Ticked now) inputs strays.1))
  strays_behind front (LeftProtocol ∷ inputs) stay strays = tt
  strays_behind front (Strayed place at bytes ∷ inputs) stay strays =
      absurd (none_among (client_history (fresh_client number verifier first_xid) front) (none_left (fresh_client number verifier first_xid) front stay) (left_heard number verifier first_xid front strays.0))

pub strays_left : (n : ℕ) (l : Life) → HaveStraysLeft (start_of n l) l.inputs → StraysBehind l.inputs
strays_left n l strays = strays_behind n l.verifier l.first_xid [] l.inputs tt strays
