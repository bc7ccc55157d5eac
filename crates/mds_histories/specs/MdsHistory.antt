-- The history of a metadata server's run: what came to it, what it entered into the journal, and what it sent, in order.
use Rattle.std.specs.Prelude.{◌≡◌, List, [], ◌∷◌, ◌++◌, map}
use Rattle.cluster_model.specs.declared.entry.Entry.{Entry}
use Rattle.mds_rule.specs.MdsStates.{MdsSend, MdsValue, MdsStep}
use Rattle.mds_walk.specs.MdsRuns.{MdsEvent, after_event, run_from}

pub data MdsItem : Type 0 where
  Comes : (event : MdsEvent) → MdsItem
  Enters : (entry : Entry) → MdsItem
  Sends : (send : MdsSend) → MdsItem

-- what one event adds to a history
abbrev pub items_of : MdsEvent → MdsStep → List MdsItem
items_of e s = Comes e ∷ (map Enters s.entries ++ map Sends s.sends)

abbrev pub mds_history : MdsValue → List MdsEvent → List MdsItem
mds_history m [] = []
mds_history m (e ∷ events) = items_of e (after_event e m) ++ mds_history (after_event e m).mds events

-- what was entered, and what was sent
abbrev pub entries_in : List MdsItem → List Entry
entries_in [] = []
entries_in (Comes event ∷ items) = entries_in items
entries_in (Enters entry ∷ items) = entry ∷ entries_in items
entries_in (Sends send ∷ items) = entries_in items

abbrev pub sends_in : List MdsItem → List MdsSend
sends_in [] = []
sends_in (Comes event ∷ items) = sends_in items
sends_in (Enters entry ∷ items) = sends_in items
sends_in (Sends send ∷ items) = send ∷ sends_in items

-- a history enters and sends what its run does
pub record IsOfRun (m : MdsValue) (events : List MdsEvent) : Type 0 where
  pub entries : entries_in (mds_history m events) ≡ (run_from m events).entries
  pub sends : sends_in (mds_history m events) ≡ (run_from m events).sends
