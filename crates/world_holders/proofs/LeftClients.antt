-- A write strays only behind the moment at which its client left the protocol, and a client that left asks the metadata server nothing.
use Rattle.std.proofs.Common.{◌≡◌, ℕ, Bool, true, false, List, [], ◌∷◌, ◌++◌, Option, Some, None, refl, sym, subst, inl, inr, ◌⊎◌}
use Rattle.std.specs.Prelude.{◌==◌, ◌||◌, if◌then◌else◌}
use Rattle.std.specs.List.{AllByRecursion}
use Rattle.cluster_model.specs.declared.ids.Mirror.{Mirror}
use Rattle.cluster_model.specs.declared.ids.FileId.{FileId}
use Rattle.cluster_model.specs.declared.ids.Cred.{Cred}
use Rattle.cluster_model.specs.declared.entry.Entry.{Entry}
use Rattle.cluster_model.specs.declared.entry.Entry.TheVariants.{Rogue}
use Rattle.client_file_calls.specs.declared.open.OpenFile.{OpenFile}
use Rattle.client_state.specs.declared.layout.Layout.{Layout}
use Rattle.client_state.specs.ClientStates.{ClientValue}
use Rattle.client_state.specs.ClientSends.{ClientSend, ClientStep, CallsServer, CallsMds, RepeatsToServer, RepeatsToMds, RepliesToMds, sends_none}
use Rattle.client_state.specs.ClientQueue.{with_writer}
use Rattle.client_answers.specs.ClientMirrors.{has_writer}
use Rattle.mirror_client.specs.ClientRule.{unless_left, turned, rogue_write, mirror_of_place, strays}
use Rattle.client_laws.specs.ClientHistory.{ClientInput, Requested, Recorded, TimeoutOf, Ticked, LeftProtocol, Strayed, input_step, HistoryItem, Hears, Enters, Sends, entered, sent, items_of, HasItem, client_history, Each}
use Rattle.client_laws.proofs.Orders.{in_either}
use Rattle.client_laws.proofs.Splits.{IsIn, IsBehind, split_either}
use Rattle.client_records.proofs.Joins.{StepKeeps}
use Rattle.client_records.proofs.Cases.{heard_mds, free, Cases}
use Rattle.client_records.proofs.Told.{any_tells, any_covers}
use Rattle.client_records.proofs.InputsKeep.{input_keeps}
use Rattle.world_reads.proofs.Steps.{Splits, Longer, Shorter, splits}
use Rattle.world_holders.proofs.HolderFacts.{IsNotStrayed, StraysBehind}

-- ---- no other input makes one stray

abbrev NoStray : Entry → Type 0
NoStray (Rogue file uid at bytes) = ⊥
NoStray entry = Unit {0}

abbrev IsNoStray : List HistoryItem → HistoryItem → Type 0
IsNoStray past (Enters entry) = NoStray entry
IsNoStray past item = Unit {0}

abbrev Anyhow : List HistoryItem → ClientValue → Type 0
Anyhow past c = Unit {0}

stray_cases : Cases Anyhow IsNotStrayed Anyhow IsNoStray
stray_cases = record {
  heard = λ past input. tt;
  hears = λ h c input stays q i. tt;
  requests = λ h c request q i. tt;
  leaves = λ h c i. tt;
  ticks = λ past c i. tt;
  answers = λ past c a answers told i. (tt, tt);
  done = λ past c request rest at may i. tt;
  takes = λ past c file l at bytes rest taking i. (tt, tt);
  ends = λ past c l at i. tt;
  commits = λ past c l at i. tt;
  calls = λ past c l s at some is i. (tt, tt);
  asks = λ past c kind call none some due is i. (tt, tt);
  client = λ h c a bytes now reply tie s behind i clientid sequence is. tt;
  session = λ h c a bytes now reply tie s behind i session is. tt;
  complete = λ h c a bytes now reply tie s behind i is. tt;
  opened = λ h c a bytes now reply tie s behind i file is. tt;
  granted = λ h c a bytes now reply tie s behind i grant is. tt;
  learns = λ h c a bytes now reply tie s behind i addresses is. tt;
  served = λ h c a bytes now reply tie s behind i is. tt;
  idle = λ h c a bytes now reply tie s behind i is. tt;
  returned = λ h c a bytes now reply tie s behind i file l is there at. any_tells Anyhow IsNoStray (λ past c file cred at bytes i. (tt, tt)) (heard_mds h bytes now) file l.writer l.untold (record (free tie c) { layout = None }) tt;
  refused = λ h c a bytes now reply tie s behind i status queue waits layout is shorter kept. tt;
  gone = λ h c a bytes now reply tie s behind i status is bad kind. tt;
  starts_over = λ h c a bytes now reply tie s behind i queue over shorter. tt;
  again = λ h c a bytes now reply s at i. tt;
  delays = λ h c a bytes now reply s at i. tt;
  wakes = λ past c a at i. tt;
  repeats_mds = λ past c a at i. (tt, tt);
  timed = λ past c xid i. (tt, tt);
  moves = λ past c file l after comes quiet i. tt;
  covers = λ past c file l after comes quiet i. any_covers Anyhow IsNoStray (λ past c file cred at bytes i. (tt, tt)) past file (with_writer l after.writer) (has_writer c l after) (λ untold told. tt);
  fails = λ past c file l after id cause comes is some i. tt;
  loses = λ past c file l after id cause comes is i. tt;
  fenced = λ past c file l after id status comes is i. tt;
  repeats_server = λ h c file l server out late entries d j. (tt, tt);
  callbacks = λ past c s slot at i. tt;
  replies = λ past d bytes now reply q call i. (tt, tt);
  strays = λ past c file l place at bytes m q straying i. absurd q;
}

none_strayed : (past items : List HistoryItem) (file : FileId) (cred : Cred) (at : ℕ) (bytes : List ℕ) → Each IsNoStray past items → HasItem items (Enters (Rogue file cred at bytes)) → ⊥
none_strayed past [] file cred at bytes each has = has
none_strayed past (x ∷ items) file cred at bytes each (inl here) = subst (λ (item : HistoryItem). IsNoStray past item) (sym here.0) each.0
none_strayed past (x ∷ items) file cred at bytes each (inr has) = none_strayed (past ++ x ∷ []) items file cred at bytes each.1 has

step_strays_none : (input : ClientInput) → IsNotStrayed input → (c : ClientValue) (file : FileId) (cred : Cred) (at : ℕ) (bytes : List ℕ) → HasItem (items_of input (input_step input c)) (Enters (Rogue file cred at bytes)) → ⊥
step_strays_none input other c file cred at bytes (inl here) = not_heard here.0
  where
    not_heard : Enters (Rogue file cred at bytes) ≡ Hears input → ⊥
    not_heard same = absurd cc
step_strays_none input other c file cred at bytes (inr has) = by_part (in_either (entered s.entries) (sent s.sends) (Enters (Rogue file cred at bytes)) has)
  where
    s : ClientStep
    s = input_step input c

    g : StepKeeps Anyhow IsNoStray (Hears input ∷ []) s
    g = input_keeps Anyhow IsNotStrayed Anyhow IsNoStray stray_cases [] c input tt other tt

    by_part : HasItem (entered s.entries) (Enters (Rogue file cred at bytes)) ⊎ HasItem (sent s.sends) (Enters (Rogue file cred at bytes)) → ⊥
    by_part (inl inside) = none_strayed (Hears input ∷ []) (entered s.entries) file cred at bytes g.entries inside
    by_part (inr inside) = none_strayed ((Hears input ∷ []) ++ entered s.entries) (sent s.sends) file cred at bytes g.sends inside

there : (a b : List HistoryItem) (x : HistoryItem) → HasItem (a ++ x ∷ b) x
there [] b x = inl (refl, tt)
there (y ∷ a) b x = inr (there a b x)

further : (a b : List HistoryItem) (x : HistoryItem) → HasItem b x → HasItem (a ++ b) x
further [] b x has = has
further (y ∷ a) b x has = inr (further a b x has)

first_left : (a b more : List HistoryItem) (file : FileId) (cred : Cred) (at : ℕ) (bytes : List ℕ) → Hears LeftProtocol ∷ more ≡ a ++ Enters (Rogue file cred at bytes) ∷ b → HasItem a (Hears LeftProtocol)
first_left [] b more file cred at bytes is = absurd cc
first_left (x ∷ a) b more file cred at bytes is = inl (cc is, tt)

-- the write stands behind what this input adds
other_left : (input : ClientInput) (inputs : List ClientInput) (c : ClientValue) → IsNotStrayed input → (a b : List HistoryItem) (file : FileId) (cred : Cred) (at : ℕ) (bytes : List ℕ)
    → client_history c (input ∷ inputs) ≡ a ++ Enters (Rogue file cred at bytes) ∷ b
    → ((mid : List HistoryItem) → client_history (input_step input c).client inputs ≡ mid ++ Enters (Rogue file cred at bytes) ∷ b → HasItem mid (Hears LeftProtocol)) → HasItem a (Hears LeftProtocol)
other_left input inputs c other a b file cred at bytes is again =
    by_part (split_either (items_of input (input_step input c)) (client_history (input_step input c).client inputs) a b (Enters (Rogue file cred at bytes)) is)
  where
    by_part : IsIn (items_of input (input_step input c)) (client_history (input_step input c).client inputs) a b (Enters (Rogue file cred at bytes))
        ⊎ IsBehind (items_of input (input_step input c)) (client_history (input_step input c).client inputs) a b (Enters (Rogue file cred at bytes)) → HasItem a (Hears LeftProtocol)
    by_part (inl i) =
        absurd
        (step_strays_none input other c file cred at bytes (subst (λ (h : List HistoryItem). HasItem h (Enters (Rogue file cred at bytes))) (sym i.split) (there a i.left (Enters (Rogue file cred at bytes)))))
    by_part (inr i) =
        subst (λ (h : List HistoryItem). HasItem h (Hears LeftProtocol)) (sym i.items_are) (further (items_of input (input_step input c)) i.mid (Hears LeftProtocol) (again i.mid i.split))

none_there : {A : Type 0} (a b : List HistoryItem) (x : HistoryItem) → [] ≡ a ++ x ∷ b → A
none_there [] b x is = absurd cc
none_there (y ∷ a) b x is = absurd cc

pub rogue_left : (inputs : List ClientInput) (c : ClientValue) → StraysBehind inputs → (a b : List HistoryItem) (file : FileId) (cred : Cred) (at : ℕ) (bytes : List ℕ) → client_history c inputs ≡ a ++ Enters (Rogue file cred at bytes) ∷ b
    → HasItem a (Hears LeftProtocol)
rogue_left [] c behind a b file cred at bytes is = none_there a b (Enters (Rogue file cred at bytes)) is
rogue_left (LeftProtocol ∷ inputs) c behind a b file cred at bytes is = first_left a b (client_history (turned c) inputs) file cred at bytes is
rogue_left (Requested request ∷ inputs) c behind a b file cred at bytes is =
    other_left (Requested request) inputs c tt a b file cred at bytes is (λ mid its. rogue_left inputs (input_step (Requested request) c).client behind.1 mid b file cred at bytes its)
rogue_left (Recorded from record_of now ∷ inputs) c behind a b file cred at bytes is =
    other_left (Recorded from record_of now) inputs c tt a b file cred at bytes is (λ mid its. rogue_left inputs (input_step (Recorded from record_of now) c).client behind.1 mid b file cred at bytes its)
rogue_left (TimeoutOf to ∷ inputs) c behind a b file cred at bytes is =
    other_left (TimeoutOf to) inputs c tt a b file cred at bytes is (λ mid its. rogue_left inputs (input_step (TimeoutOf to) c).client behind.1 mid b file cred at bytes its)
rogue_left (Ticked now ∷ inputs) c behind a b file cred at bytes is =
    other_left (Ticked now) inputs c tt a b file cred at bytes is (λ mid its. rogue_left inputs (input_step (Ticked now) c).client behind.1 mid b file cred at bytes its)
rogue_left (Strayed place pos other ∷ inputs) c behind a b file cred at bytes is = absurd behind.0

-- ---- a client that left

abbrev pub AsksNothing : HistoryItem → Type 0
AsksNothing (Sends (CallsMds xid name call)) = ⊥
AsksNothing (Sends (CallsServer server xid name uid call)) = Unit {0}
AsksNothing (Sends (RepeatsToServer server xid name uid call)) = Unit {0}
AsksNothing (Sends (RepeatsToMds xid message)) = Unit {0}
AsksNothing (Sends (RepliesToMds reply)) = Unit {0}
AsksNothing (Hears input) = Unit {0}
AsksNothing (Enters entry) = Unit {0}

all_joined : (a b : List HistoryItem) → AllByRecursion AsksNothing a → AllByRecursion AsksNothing b → AllByRecursion AsksNothing (a ++ b)
all_joined [] b first second = second
all_joined (x ∷ a) b first second = (first.0, all_joined a b first.1 second)

all_behind : (a b : List HistoryItem) → AllByRecursion AsksNothing (a ++ b) → AllByRecursion AsksNothing b
all_behind [] b all = all
all_behind (x ∷ a) b all = all_behind a b all.1

-- it stays so, and asks nothing
record StaysLeft (input : ClientInput) (s : ClientStep) : Type 0 where
  asks : AllByRecursion AsksNothing (items_of input s)
  left : s.client.has_left ≡ true

unless_stays : (input : ClientInput) (c : ClientValue) (step : ClientStep) → c.has_left ≡ true → StaysLeft input (unless_left c step)
unless_stays input c step left = subst (λ (b : Bool). StaysLeft input (if b then sends_none c else step)) (sym left) (record { asks = (tt, tt); left = left })

rogue_stays : (input : ClientInput) (c : ClientValue) (file : OpenFile) (l : Layout) (at : ℕ) (bytes : List ℕ) (o : Option Mirror) → c.has_left ≡ true → StaysLeft input (rogue_write c file l at bytes o)
rogue_stays input c file l at bytes None left = record { asks = (tt, tt); left = left }
rogue_stays input c file l at bytes (Some m) left = record { asks = (tt, (tt, (tt, tt))); left = left }

either_stays : (input : ClientInput) (b : Bool) (x y : ClientStep) → StaysLeft input x → StaysLeft input y → StaysLeft input (if b then x else y)
either_stays input true x y first second = first
either_stays input false x y first second = second

stray_stays : (input : ClientInput) (file : Option OpenFile) (layout : Option Layout) (place at : ℕ) (bytes : List ℕ) (c : ClientValue) → c.has_left ≡ true → StaysLeft input (strays file layout place at bytes c)
stray_stays input (Some file) (Some l) place at bytes c left =
    either_stays input (l.was_sent || (c.next_xid == 0)) (sends_none c) (rogue_write c file l at bytes (mirror_of_place l.mirrors place)) (record { asks = (tt, tt); left = left }) (rogue_stays input c file l at bytes (mirror_of_place l.mirrors place) left)
stray_stays input (Some file) None place at bytes c left = record { asks = (tt, tt); left = left }
stray_stays input None layout place at bytes c left = record { asks = (tt, tt); left = left }

stays_left : (input : ClientInput) (c : ClientValue) → c.has_left ≡ true → StaysLeft input (input_step input c)
stays_left (Requested request) c left = unless_stays (Requested request) c _ left
stays_left (Recorded from record_of now) c left = unless_stays (Recorded from record_of now) c _ left
stays_left (TimeoutOf to) c left = unless_stays (TimeoutOf to) c _ left
stays_left (Ticked now) c left = unless_stays (Ticked now) c _ left
stays_left LeftProtocol c left = record { asks = (tt, tt); left = refl }
stays_left (Strayed place at bytes) c left = stray_stays (Strayed place at bytes) c.file c.layout place at bytes c left

left_asks : (inputs : List ClientInput) (c : ClientValue) → c.has_left ≡ true → AllByRecursion AsksNothing (client_history c inputs)
left_asks [] c left = tt
left_asks (input ∷ inputs) c left =
    let s : StaysLeft input (input_step input c) = stays_left input c left in
    all_joined (items_of input (input_step input c)) (client_history (input_step input c).client inputs) s.asks (left_asks inputs (input_step input c).client s.left)

-- ---- behind the moment at which it left

abbrev IsStaying : ClientInput → Type 0
IsStaying LeftProtocol = ⊥
IsStaying input = Unit {0}

not_in_entries : {A : Type 0} (entries : List Entry) (input : ClientInput) → HasItem (entered entries) (Hears input) → A
not_in_entries [] input has = absurd has
not_in_entries (e ∷ entries) input (inl here) = not_entered here.0
  where
    not_entered : {A : Type 0} → Hears input ≡ Enters e → A
    not_entered same = absurd cc
not_in_entries (e ∷ entries) input (inr has) = not_in_entries entries input has

not_in_sends : {A : Type 0} (sends : List ClientSend) (input : ClientInput) → HasItem (sent sends) (Hears input) → A
not_in_sends [] input has = absurd has
not_in_sends (s ∷ sends) input (inl here) = not_sent here.0
  where
    not_sent : {A : Type 0} → Hears input ≡ Sends s → A
    not_sent same = absurd cc
not_in_sends (s ∷ sends) input (inr has) = not_in_sends sends input has

heard_input : (x y : ClientInput) → Hears x ≡ Hears y → x ≡ y
heard_input x y is = cc

step_stays : (input : ClientInput) (s : ClientStep) → IsStaying input → HasItem (items_of input s) (Hears LeftProtocol) → ⊥
step_stays input s stays (inl here) = subst IsStaying (sym (heard_input LeftProtocol input here.0)) stays
step_stays input s stays (inr has) = by_part (in_either (entered s.entries) (sent s.sends) (Hears LeftProtocol) has)
  where
    by_part : HasItem (entered s.entries) (Hears LeftProtocol) ⊎ HasItem (sent s.sends) (Hears LeftProtocol) → ⊥
    by_part (inl inside) = not_in_entries s.entries LeftProtocol inside
    by_part (inr inside) = not_in_sends s.sends LeftProtocol inside

in_front : (a b : List HistoryItem) (x : HistoryItem) → HasItem a x → HasItem (a ++ b) x
in_front [] b x has = absurd has
in_front (y ∷ a) b x (inl here) = inl (here.0, tt)
in_front (y ∷ a) b x (inr has) = inr (in_front a b x has)

other_asks : (input : ClientInput) (inputs : List ClientInput) (c : ClientValue) → IsStaying input → (a b : List HistoryItem) → client_history c (input ∷ inputs) ≡ a ++ b → HasItem a (Hears LeftProtocol)
    → ((mid : List HistoryItem) → client_history (input_step input c).client inputs ≡ mid ++ b → HasItem mid (Hears LeftProtocol) → AllByRecursion AsksNothing b) → AllByRecursion AsksNothing b
other_asks input inputs c stays a b is has again = by_place (splits (items_of input (input_step input c)) (client_history (input_step input c).client inputs) a b is)
  where
    by_part : (mid : List HistoryItem) → client_history (input_step input c).client inputs ≡ mid ++ b → HasItem (items_of input (input_step input c)) (Hears LeftProtocol) ⊎ HasItem mid (Hears LeftProtocol) → AllByRecursion AsksNothing b
    by_part mid its (inl inside) = absurd (step_stays input (input_step input c) stays inside)
    by_part mid its (inr inside) = again mid its inside

    by_place : Splits (items_of input (input_step input c)) (client_history (input_step input c).client inputs) a b → AllByRecursion AsksNothing b
    by_place (Longer middle first second) = by_part middle second (in_either (items_of input (input_step input c)) middle (Hears LeftProtocol) (subst (λ (h : List HistoryItem). HasItem h (Hears LeftProtocol)) first has))
    by_place (Shorter x middle first second) =
        absurd (step_stays input (input_step input c) stays (subst (λ (h : List HistoryItem). HasItem h (Hears LeftProtocol)) (sym first) (in_front a (x ∷ middle) (Hears LeftProtocol) has)))

pub behind_left : (inputs : List ClientInput) (c : ClientValue) (a b : List HistoryItem) → client_history c inputs ≡ a ++ b → HasItem a (Hears LeftProtocol) → AllByRecursion AsksNothing b
behind_left [] c [] b is has = absurd has
behind_left [] c (x ∷ a) b is has = absurd cc
behind_left (LeftProtocol ∷ inputs) c a b is has = all_behind a b (subst (λ (h : List HistoryItem). AllByRecursion AsksNothing h) is (tt, left_asks inputs (turned c) refl))
behind_left (Requested request ∷ inputs) c a b is has = other_asks (Requested request) inputs c tt a b is has (λ mid its inside. behind_left inputs (input_step (Requested request) c).client mid b its inside)
behind_left (Recorded from record_of now ∷ inputs) c a b is has = other_asks (Recorded from record_of now) inputs c tt a b is has (λ mid its inside. behind_left inputs (input_step (Recorded from record_of now) c).client mid b its inside)
behind_left (TimeoutOf to ∷ inputs) c a b is has = other_asks (TimeoutOf to) inputs c tt a b is has (λ mid its inside. behind_left inputs (input_step (TimeoutOf to) c).client mid b its inside)
behind_left (Ticked now ∷ inputs) c a b is has = other_asks (Ticked now) inputs c tt a b is has (λ mid its inside. behind_left inputs (input_step (Ticked now) c).client mid b its inside)
behind_left (Strayed place at bytes ∷ inputs) c a b is has = other_asks (Strayed place at bytes) inputs c tt a b is has (λ mid its inside. behind_left inputs (input_step (Strayed place at bytes) c).client mid b its inside)
