-- A metadata server that has sent itself nothing hears from other nodes alone, and so it sends itself nothing.
use Rattle.std.proofs.Common.{◌≡◌, ℕ, ◌+◌, List, [], ◌∷◌, ◌++◌, refl, sym, ap, subst, ◌∙◌}
use Rattle.std.specs.Prelude.{map}
use Rattle.std.specs.List.{AllByRecursion}
use Rattle.std.proofs.lemmas.List.{append_assoc}
use Rattle.cluster_model.specs.declared.ids.NodeId.{NodeId}
use Rattle.cluster_model.specs.declared.ids.NodeId.TheVariants.{Mds, Server, Client}
use Rattle.cluster_model.specs.declared.entry.Entry.{Entry}
use Rattle.cluster_model.specs.declared.entry.Entry.TheVariants.{Packet, Delivered}
use Rattle.mds_rule.specs.MdsStates.{MdsSend, MdsValue, new_mds}
use Rattle.mds_rule.specs.Spelled.{spelled_send}
use Rattle.mds_walk.specs.MdsRuns.{MdsInput, MdsEvent, Hears, IsTimedOut, Ticks, RecallsFile, Resilvers, after_event}
use Rattle.mds_walk.proofs.Lists.{AllOf}
use Rattle.mds_histories.specs.MdsHistory.{MdsItem, Comes, Enters, Sends, mds_history}
use Rattle.world_journal.specs.SentPackets.{packets_of}
use Rattle.node_histories.specs.Weaves.{IsUnseen, IsArrival, WeaveStep, Passes, Unseen, Seen, entries_in, items_in, HasPacket, IsShownAs, AreWoven}
use Rattle.node_histories.specs.NodeHistories.{input_shown, mds_shown, MdsStory, IsMdsStory}
use Rattle.node_histories.proofs.Parts.{all_joined, all_there}
use Rattle.node_histories.proofs.Numbering.{IsNoPacket}
use Rattle.node_histories.proofs.Elsewhere.{IsElse, SendElse, Else}
use Rattle.node_histories.proofs.ElseEvents.{InputElse, EventElse, event_else, all_else}

-- ---- no packet from the metadata server to itself

abbrev pub IsApart : Entry → Type 0
IsApart (Packet number Mds Mds bytes) = ⊥
IsApart e = Unit {0}

abbrev pub AreApart : List Entry → Type 0
AreApart journal = AllByRecursion IsApart journal

pub apart_join : (a b : List Entry) → AreApart a → AreApart b → AreApart (a ++ b)
apart_join a b first second = all_joined IsApart a b first second

apart_front : (a b : List Entry) → AreApart (a ++ b) → AreApart a
apart_front [] b all = tt
apart_front (e ∷ a) b all = (all.0, apart_front a b all.1)

apart_there : (a b : List Entry) (e : Entry) → AreApart (a ++ e ∷ b) → IsApart e
apart_there a b e all = all_there IsApart a b e all

none_apart : (e : Entry) → IsNoPacket e → IsApart e
none_apart (Packet number from to bytes) none = absurd none
none_apart e none = tt

pub nones_apart : (entries : List Entry) → AllByRecursion IsNoPacket entries → AreApart entries
nones_apart [] none = tt
nones_apart (e ∷ entries) none = (none_apart e none.0, nones_apart entries none.1)

-- packets of another node
from_else : (number : ℕ) (node to : NodeId) (bytes : List ℕ) → IsElse node → IsApart (Packet number node to bytes)
from_else number Mds to bytes its = absurd its
from_else number (Server n) to bytes its = tt
from_else number (Client n) to bytes its = tt

pub packets_apart : (node : NodeId) (sent : ℕ) (sends : List (NodeId × List ℕ)) → IsElse node → AreApart (packets_of node sent sends)
packets_apart node sent [] its = tt
packets_apart node sent ((to, bytes) ∷ sends) its = (from_else (sent + 1) node to bytes its, packets_apart node (sent + 1) sends its)

-- packets to other nodes
to_else : (number : ℕ) (to : NodeId) (bytes : List ℕ) → IsElse to → IsApart (Packet number Mds to bytes)
to_else number Mds bytes its = absurd its
to_else number (Server n) bytes its = tt
to_else number (Client n) bytes its = tt

sends_apart : (sent : ℕ) (sends : List MdsSend) → AllOf SendElse sends → AreApart (packets_of Mds sent (map spelled_send sends))
sends_apart sent [] all = tt
sends_apart sent (s ∷ sends) all = (to_else (sent + 1) (spelled_send s).0 (spelled_send s).1 all.0, sends_apart (sent + 1) sends all.1)

-- by a place in the journal, and by each entry
itself : (number : ℕ) (from to : NodeId) (bytes : List ℕ) → (from ≡ Mds → to ≡ Mds → ⊥) → IsApart (Packet number from to bytes)
itself number Mds Mds bytes none = none refl refl
itself number Mds (Server n) bytes none = tt
itself number Mds (Client n) bytes none = tt
itself number (Server n) to bytes none = tt
itself number (Client n) to bytes none = tt

abbrev NoneItself : List Entry → Type 0
NoneItself journal = (past behind : List Entry) (number : ℕ) (bytes : List ℕ) → journal ≡ past ++ Packet number Mds Mds bytes ∷ behind → ⊥

one_apart : (e : Entry) (rest : List Entry) → NoneItself (e ∷ rest) → IsApart e
one_apart (Packet number from to bytes) rest none =
    itself number from to bytes
    (λ mds its. none [] rest number bytes (ap (λ (x : NodeId). Packet number x to bytes ∷ rest) mds ∙ ap (λ (x : NodeId). Packet number Mds x bytes ∷ rest) its))
one_apart e rest none = tt

pub all_apart : (journal : List Entry) → NoneItself journal → AreApart journal
all_apart [] none = tt
all_apart (e ∷ journal) none = (one_apart e journal none, all_apart journal (λ past behind number bytes is. none (e ∷ past) behind number bytes (ap (λ (l : List Entry). e ∷ l) is)))

pub none_itself : (journal : List Entry) → AreApart journal → NoneItself journal
none_itself journal all past behind number bytes is = apart_there past behind (Packet number Mds Mds bytes) (subst AreApart is all)

-- ---- what it hears

abbrev ItemElse : MdsItem → Type 0
ItemElse (Comes event) = EventElse event
ItemElse (Enters entry) = Unit {0}
ItemElse (Sends send) = Unit {0}

unseen_input : (input : MdsInput) → input_shown input ≡ IsUnseen → InputElse input
unseen_input (Hears from bytes) is = absurd cc
unseen_input (IsTimedOut to which) is = tt
unseen_input Ticks is = tt
unseen_input (RecallsFile file) is = tt
unseen_input (Resilvers file) is = tt

unseen_else : (item : MdsItem) → mds_shown item ≡ IsUnseen → ItemElse item
unseen_else (Comes event) is = unseen_input event.input is
unseen_else (Enters entry) is = tt
unseen_else (Sends send) is = tt

sent_else : (number : ℕ) (from : NodeId) (bytes : List ℕ) → IsApart (Packet number from Mds bytes) → IsElse from
sent_else number Mds bytes apart = apart
sent_else number (Server n) bytes apart = tt
sent_else number (Client n) bytes apart = tt

heard_else : (journal : List Entry) (from : NodeId) (bytes : List ℕ) (e : Entry) → AreApart journal → IsShownAs Mds journal (IsArrival from bytes) e → IsElse from
heard_else journal from bytes (Delivered number) all has = sent_else number from bytes (apart_there has.before has.behind (Packet number from Mds bytes) (subst AreApart has.split all))
heard_else journal from bytes e all has = absurd has

seen_input : (journal : List Entry) (input : MdsInput) (e : Entry) → AreApart journal → IsShownAs Mds journal (input_shown input) e → InputElse input
seen_input journal (Hears from bytes) e all is = heard_else journal from bytes e all is
seen_input journal (IsTimedOut to which) e all is = tt
seen_input journal Ticks e all is = tt
seen_input journal (RecallsFile file) e all is = tt
seen_input journal (Resilvers file) e all is = tt

seen_else : (journal : List Entry) (item : MdsItem) (e : Entry) → AreApart journal → IsShownAs Mds journal (mds_shown item) e → ItemElse item
seen_else journal (Comes event) e all is = seen_input journal event.input e all is
seen_else journal (Enters entry) e all is = tt
seen_else journal (Sends send) e all is = tt

-- each item of a weave in a journal without such packets
items_else : (journal : List Entry) (steps : List (WeaveStep MdsItem)) → AreWoven mds_shown Mds journal steps → AreApart (journal ++ entries_in steps) → AllOf ItemElse (items_in steps)
items_else journal [] woven all = tt
items_else journal (Passes e ∷ steps) woven all = items_else (journal ++ e ∷ []) steps woven (subst AreApart (sym (append_assoc journal (e ∷ []) (entries_in steps))) all)
items_else journal (Unseen item ∷ steps) (is, woven) all = (unseen_else item is, items_else journal steps woven all)
items_else journal (Seen item e ∷ steps) (is, woven) all =
    (seen_else journal item e (apart_front journal (e ∷ entries_in steps) all) is, items_else (journal ++ e ∷ []) steps woven (subst AreApart (sym (append_assoc journal (e ∷ []) (entries_in steps))) all))

behind_items : (a b : List MdsItem) → AllOf ItemElse (a ++ b) → AllOf ItemElse b
behind_items [] b all = all
behind_items (x ∷ a) b all = behind_items a b all.1

events_else : (m : MdsValue) (events : List MdsEvent) → AllOf ItemElse (mds_history m events) → AllOf EventElse events
events_else m [] all = tt
events_else m (e ∷ events) all =
    (all.0, events_else (after_event e m).mds events (behind_items (map Enters (after_event e m).entries ++ map Sends (after_event e m).sends) (mds_history (after_event e m).mds events) all.1))

-- ---- so the server knows no node as itself

pub story_else : (s : MdsStory) (m : MdsValue) (journal : List Entry) → IsMdsStory s m journal → AreApart journal → Else m
story_else s m journal i all =
    let items : AllOf ItemElse (items_in s.steps) = items_else [] s.steps i.woven (subst AreApart (sym i.told) all) in
    let events : AllOf EventElse s.events = events_else (new_mds s.servers s.mirrors) s.events (subst (λ (l : List MdsItem). AllOf ItemElse l) (sym i.history) items) in
    subst (λ (x : MdsValue). Else x) i.mds (all_else s.events (new_mds s.servers s.mirrors) (record { table = tt; files_else = tt; calls_else = tt }) events)

-- and what it sends in an event that is seen so
pub event_apart : (s : MdsStory) (m : MdsValue) (journal : List Entry) → IsMdsStory s m journal → AreApart journal → (e : MdsEvent) → EventElse e → (sent : ℕ)
    → AreApart (packets_of Mds sent (map spelled_send (after_event e m).sends))
event_apart s m journal i all e its sent = sends_apart sent (after_event e m).sends (event_else e m (story_else s m journal i all) its).1

-- what came in a packet
pub packet_else : (journal : List Entry) (number : ℕ) (from : NodeId) (bytes : List ℕ) → AreApart journal → HasPacket journal number from Mds bytes → IsElse from
packet_else journal number from bytes all has = sent_else number from bytes (apart_there has.before has.behind (Packet number from Mds bytes) (subst AreApart has.split all))
