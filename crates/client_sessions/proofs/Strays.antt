-- A write that strays goes out at once.
use Rattle.std.proofs.Common.{◌≡◌, ℕ, Bool, true, false, List, [], ◌∷◌, ◌++◌, Option, Some, None, refl, sym, ap, subst, ◌∙◌}
use Rattle.std.specs.Prelude.{◌==◌, ◌||◌, if◌then◌else◌}
use Rattle.std.proofs.lemmas.List.{append_assoc}
use Rattle.device_addr.specs.declared.net_addr.NetAddr.{NetAddr}
use Rattle.cluster_model.specs.declared.ids.Mirror.{Mirror}
use Rattle.cluster_model.specs.declared.ids.FileId.{FileId}
use Rattle.cluster_model.specs.declared.entry.Entry.{Entry}
use Rattle.cluster_model.specs.declared.entry.Entry.TheVariants as entry
use Rattle.cluster_model.specs.declared.entry.Entry.TheVariants.{Rogue, Told}
use Rattle.client_file_calls.specs.declared.open.OpenFile.{OpenFile}
use Rattle.client_state.specs.declared.layout.Layout.{Layout}
use Rattle.client_state.specs.declared.tie.Tie.{Tie}
use Rattle.client_state.specs.ClientStates.{ClientValue, fresh_client}
use Rattle.client_state.specs.ClientSends.{ClientStep, sends_none}
use Rattle.client_state.specs.ClientQueue.{with_writer}
use Rattle.client_answers.specs.ClientMirrors.{has_writer}
use Rattle.client_answers.specs.ClientAnswers.{learns_devices}
use Rattle.mirror_client.specs.ClientRule.{rogue_write, mirror_of_place, strays}
use Rattle.client_laws.specs.ClientHistory.{ClientInput, Requested, Recorded, TimeoutOf, Ticked, LeftProtocol, Strayed, input_step, HistoryItem, Hears, Enters, Sends, entered, sent, items_of, client_history, Each}
use Rattle.client_records.proofs.Joins.{StepKeeps}
use Rattle.client_records.proofs.Cases.{heard_mds, Adds, free, Cases}
use Rattle.client_records.proofs.Told.{any_tells, any_covers}
use Rattle.client_records.proofs.InputsKeep.{input_keeps}
use Rattle.client_sessions.specs.LayoutEnds.{GoesAtOnce, EachRunStraysAtOnce}

-- ---- no other input makes one

abbrev IsNotStrayed : ClientInput → Type 0
IsNotStrayed (Strayed place at bytes) = ⊥
IsNotStrayed input = Unit {0}

abbrev NoStray : Entry → Type 0
NoStray (Rogue file uid at bytes) = ⊥
NoStray entry = Unit {0}

abbrev IsNoStray : List HistoryItem → HistoryItem → Type 0
IsNoStray past (Enters entry) = NoStray entry
IsNoStray past item = Unit {0}

abbrev Anyhow : List HistoryItem → ClientValue → Type 0
Anyhow past c = Unit {0}

stray_cases : Cases Anyhow IsNotStrayed Anyhow IsNoStray
stray_cases = record {
  heard = λ past input. tt;
  hears = λ h c input stays q i. tt;
  requests = λ h c request q i. tt;
  leaves = λ h c i. tt;
  ticks = λ past c i. tt;
  answers = λ past c a answers told i. (tt, tt);
  done = λ past c request rest at may i. tt;
  takes = λ past c file l at bytes rest taking i. (tt, tt);
  ends = λ past c l at i. tt;
  commits = λ past c l at i. tt;
  calls = λ past c l s at some is i. (tt, tt);
  asks = λ past c kind call none some due is i. (tt, tt);
  client = λ h c a bytes now reply tie s behind i clientid sequence is. tt;
  session = λ h c a bytes now reply tie s behind i session is. tt;
  complete = λ h c a bytes now reply tie s behind i is. tt;
  opened = λ h c a bytes now reply tie s behind i file is. tt;
  granted = λ h c a bytes now reply tie s behind i grant is. tt;
  learns = λ h c a bytes now reply tie s behind i addresses is. tt;
  served = λ h c a bytes now reply tie s behind i is. tt;
  idle = λ h c a bytes now reply tie s behind i is. tt;
  returned = λ h c a bytes now reply tie s behind i file l is there at. any_tells Anyhow IsNoStray (λ past c file cred at bytes i. (tt, tt)) (heard_mds h bytes now) file l.writer l.untold (record (free tie c) { layout = None }) tt;
  refused = λ h c a bytes now reply tie s behind i status queue waits layout is shorter kept. tt;
  gone = λ h c a bytes now reply tie s behind i status is bad kind. tt;
  starts_over = λ h c a bytes now reply tie s behind i queue over shorter. tt;
  again = λ h c a bytes now reply s at i. tt;
  delays = λ h c a bytes now reply s at i. tt;
  wakes = λ past c a at i. tt;
  repeats_mds = λ past c a at i. (tt, tt);
  timed = λ past c xid i. (tt, tt);
  moves = λ past c file l after comes quiet i. tt;
  covers = λ past c file l after comes quiet i. any_covers Anyhow IsNoStray (λ past c file cred at bytes i. (tt, tt)) past file (with_writer l after.writer) (has_writer c l after) (λ untold told. tt);
  fails = λ past c file l after id cause comes is some i. tt;
  loses = λ past c file l after id cause comes is i. tt;
  fenced = λ past c file l after id status comes is i. tt;
  repeats_server = λ h c file l server out late entries d j. (tt, tt);
  callbacks = λ past c s slot at i. tt;
  replies = λ past d bytes now reply q call i. (tt, tt);
  strays = λ past c file l place at bytes m q straying i. absurd q;
}

-- ---- what is behind it

abbrev GoesBehind : List HistoryItem → Entry → Type 0
GoesBehind behind (Rogue file uid at bytes) = GoesAtOnce behind uid.0 at bytes
GoesBehind behind entry = Unit {0}

abbrev IsFollowed : HistoryItem → List HistoryItem → Type 0
IsFollowed (Enters entry) behind = GoesBehind behind entry
IsFollowed item behind = Unit {0}

-- each write that strays goes out at once
abbrev AreFollowed : List HistoryItem → Type 0
AreFollowed [] = Unit {0}
AreFollowed (item ∷ items) = IsFollowed item items × AreFollowed items

-- so it is where none strays
goes_behind : (behind : List HistoryItem) (e : Entry) → NoStray e → GoesBehind behind e
goes_behind behind (entry.Packet number from to bytes) none = tt
goes_behind behind (entry.Delivered number) none = tt
goes_behind behind (entry.TimedOut node xid) none = tt
goes_behind behind (entry.Hold from to) none = tt
goes_behind behind (entry.Pass from to) none = tt
goes_behind behind (entry.Tick seconds) none = tt
goes_behind behind (entry.Granted file cred holder) none = tt
goes_behind behind (entry.Sent file cred at bytes) none = tt
goes_behind behind (Rogue file uid at bytes) none = absurd none
goes_behind behind (entry.Turned client) none = tt
goes_behind behind (entry.Told file cred at bytes) none = tt
goes_behind behind (entry.Ended file cred cause) none = tt
goes_behind behind (entry.Left file mirror cause) none = tt
goes_behind behind (entry.Swapped file old new) none = tt
goes_behind behind (entry.Fenced file old new live) none = tt
goes_behind behind (entry.Free file live) none = tt
goes_behind behind (entry.Applied mirror cred at bytes) none = tt
goes_behind behind (entry.Committed mirror) none = tt
goes_behind behind (entry.Owner mirror cred) none = tt
goes_behind behind (entry.Restarted server pieces) none = tt
goes_behind behind (entry.ReadAnswer file status bytes) none = tt
goes_behind behind (entry.Failed mirror xid) none = tt
goes_behind behind (entry.Later file phase) none = tt
goes_behind behind (entry.Answer client answer) none = tt
goes_behind behind (entry.Audit file mirror length bytes) none = tt
goes_behind behind (entry.Rebooted client) none = tt

more_behind : (a b : List HistoryItem) (e : Entry) → GoesBehind a e → GoesBehind (a ++ b) e
more_behind a b (entry.Packet number from to bytes) g = tt
more_behind a b (entry.Delivered number) g = tt
more_behind a b (entry.TimedOut node xid) g = tt
more_behind a b (entry.Hold from to) g = tt
more_behind a b (entry.Pass from to) g = tt
more_behind a b (entry.Tick seconds) g = tt
more_behind a b (entry.Granted file cred holder) g = tt
more_behind a b (entry.Sent file cred at bytes) g = tt
more_behind a b (Rogue file uid at bytes) g = record { id = g.id; xid = g.xid; name = g.name; more = g.more ++ b; is = ap (λ (l : List HistoryItem). l ++ b) g.is }
more_behind a b (entry.Turned client) g = tt
more_behind a b (entry.Told file cred at bytes) g = tt
more_behind a b (entry.Ended file cred cause) g = tt
more_behind a b (entry.Left file mirror cause) g = tt
more_behind a b (entry.Swapped file old new) g = tt
more_behind a b (entry.Fenced file old new live) g = tt
more_behind a b (entry.Free file live) g = tt
more_behind a b (entry.Applied mirror cred at bytes) g = tt
more_behind a b (entry.Committed mirror) g = tt
more_behind a b (entry.Owner mirror cred) g = tt
more_behind a b (entry.Restarted server pieces) g = tt
more_behind a b (entry.ReadAnswer file status bytes) g = tt
more_behind a b (entry.Failed mirror xid) g = tt
more_behind a b (entry.Later file phase) g = tt
more_behind a b (entry.Answer client answer) g = tt
more_behind a b (entry.Audit file mirror length bytes) g = tt
more_behind a b (entry.Rebooted client) g = tt

more_followed : (a b : List HistoryItem) (item : HistoryItem) → IsFollowed item a → IsFollowed item (a ++ b)
more_followed a b (Enters e) g = more_behind a b e g
more_followed a b (Hears input) g = tt
more_followed a b (Sends send) g = tt

followed_append : (a b : List HistoryItem) → AreFollowed a → AreFollowed b → AreFollowed (a ++ b)
followed_append [] b first second = second
followed_append (item ∷ a) b first second = (more_followed a b item first.0, followed_append a b first.1 second)

is_followed : (past behind : List HistoryItem) (item : HistoryItem) → IsNoStray past item → IsFollowed item behind
is_followed past behind (Enters e) none = goes_behind behind e none
is_followed past behind (Hears input) none = tt
is_followed past behind (Sends send) none = tt

all_followed : (past items : List HistoryItem) → Each IsNoStray past items → AreFollowed items
all_followed past [] each = tt
all_followed past (item ∷ items) each = (is_followed past items item each.0, all_followed (past ++ item ∷ []) items each.1)

-- ---- each input

step_followed : (input : ClientInput) → IsNotStrayed input → (c : ClientValue) → AreFollowed (items_of input (input_step input c))
step_followed input other c =
    let s : ClientStep = input_step input c in
    let g : StepKeeps Anyhow IsNoStray (Hears input ∷ []) s = input_keeps Anyhow IsNotStrayed Anyhow IsNoStray stray_cases [] c input tt other tt in
    (tt, followed_append (entered s.entries) (sent s.sends) (all_followed (Hears input ∷ []) (entered s.entries) g.entries) (all_followed ((Hears input ∷ []) ++ entered s.entries) (sent s.sends) g.sends))

rogue_followed : (c : ClientValue) (file : OpenFile) (l : Layout) (at : ℕ) (bytes : List ℕ) (o : Option Mirror)
    → AreFollowed (entered (rogue_write c file l at bytes o).entries ++ sent (rogue_write c file l at bytes o).sends)
rogue_followed c file l at bytes None = tt
rogue_followed c file l at bytes (Some m) = (record { id = m.id; xid = c.next_xid; name = c.name; more = []; is = refl }, (tt, tt))

either_followed : (b : Bool) (x y : ClientStep) → AreFollowed (entered x.entries ++ sent x.sends) → AreFollowed (entered y.entries ++ sent y.sends) → AreFollowed (entered (if b then x else y).entries ++ sent (if b then x else y).sends)
either_followed true x y first second = first
either_followed false x y first second = second

stray_followed : (file : Option OpenFile) (layout : Option Layout) (place at : ℕ) (bytes : List ℕ) (c : ClientValue) → AreFollowed (entered (strays file layout place at bytes c).entries ++ sent (strays file layout place at bytes c).sends)
stray_followed (Some file) (Some l) place at bytes c =
    either_followed (l.was_sent || (c.next_xid == 0)) (sends_none c) (rogue_write c file l at bytes (mirror_of_place l.mirrors place)) tt (rogue_followed c file l at bytes (mirror_of_place l.mirrors place))
stray_followed (Some file) None place at bytes c = tt
stray_followed None layout place at bytes c = tt

input_followed : (input : ClientInput) (c : ClientValue) → AreFollowed (items_of input (input_step input c))
input_followed (Requested request) c = step_followed (Requested request) tt c
input_followed (Recorded from bytes now) c = step_followed (Recorded from bytes now) tt c
input_followed (TimeoutOf to) c = step_followed (TimeoutOf to) tt c
input_followed (Ticked now) c = step_followed (Ticked now) tt c
input_followed LeftProtocol c = step_followed LeftProtocol tt c
input_followed (Strayed place at bytes) c = (tt, stray_followed c.file c.layout place at bytes c)

run_followed : (inputs : List ClientInput) (c : ClientValue) → AreFollowed (client_history c inputs)
run_followed [] c = tt
run_followed (input ∷ inputs) c =
    followed_append (items_of input (input_step input c)) (client_history (input_step input c).client inputs) (input_followed input c) (run_followed inputs (input_step input c).client)

-- one of them
followed_there : (past behind : List HistoryItem) (item : HistoryItem) → AreFollowed (past ++ item ∷ behind) → IsFollowed item behind
followed_there [] behind item all = all.0
followed_there (x ∷ past) behind item all = followed_there past behind item all.1

pub strays_go_out : EachRunStraysAtOnce
strays_go_out number verifier first_xid inputs past behind file uid at bytes is =
    followed_there past behind (Enters (Rogue file (record { 0 = uid }) at bytes)) (subst AreFollowed is (run_followed inputs (fresh_client number verifier first_xid)))
