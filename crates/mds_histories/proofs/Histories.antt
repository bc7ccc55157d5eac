-- What histories enter and send, and the history of events that others follow.
use Rattle.std.proofs.Common.{◌≡◌, List, [], ◌∷◌, ◌++◌, refl, sym, ap, ◌∙◌}
use Rattle.std.specs.Prelude.{map}
use Rattle.std.proofs.lemmas.List.{append_assoc, append-nil}
use Rattle.cluster_model.specs.declared.entry.Entry.{Entry}
use Rattle.mds_rule.specs.MdsStates.{MdsSend, MdsValue, MdsStep}
use Rattle.mds_walk.specs.MdsRuns.{MdsEvent, after_event, run_from}
use Rattle.mds_histories.specs.MdsHistory.{MdsItem, Comes, Enters, Sends, items_of, mds_history, entries_in, sends_in, IsOfRun}

-- ---- joined items

pub entries_joined : (a b : List MdsItem) → entries_in (a ++ b) ≡ entries_in a ++ entries_in b
entries_joined [] b = refl
entries_joined (Comes event ∷ a) b = entries_joined a b
entries_joined (Enters entry ∷ a) b = ap (λ l. entry ∷ l) (entries_joined a b)
entries_joined (Sends send ∷ a) b = entries_joined a b

pub sends_joined : (a b : List MdsItem) → sends_in (a ++ b) ≡ sends_in a ++ sends_in b
sends_joined [] b = refl
sends_joined (Comes event ∷ a) b = sends_joined a b
sends_joined (Enters entry ∷ a) b = sends_joined a b
sends_joined (Sends send ∷ a) b = ap (λ l. send ∷ l) (sends_joined a b)

-- ---- items of one kind

pub entries_entered : (es : List Entry) → entries_in (map Enters es) ≡ es
entries_entered [] = refl
entries_entered (e ∷ es) = ap (λ l. e ∷ l) (entries_entered es)

pub sends_entered : (es : List Entry) → sends_in (map Enters es) ≡ []
sends_entered [] = refl
sends_entered (e ∷ es) = sends_entered es

pub entries_sent : (ss : List MdsSend) → entries_in (map Sends ss) ≡ []
entries_sent [] = refl
entries_sent (s ∷ ss) = entries_sent ss

pub sends_sent : (ss : List MdsSend) → sends_in (map Sends ss) ≡ ss
sends_sent [] = refl
sends_sent (s ∷ ss) = ap (λ l. s ∷ l) (sends_sent ss)

-- ---- one event

pub entries_of_event : (e : MdsEvent) (s : MdsStep) → entries_in (items_of e s) ≡ s.entries
entries_of_event e s =
    entries_joined (map Enters s.entries) (map Sends s.sends) ∙ ap (λ l. l ++ entries_in (map Sends s.sends)) (entries_entered s.entries)
    ∙ ap (λ l. s.entries ++ l) (entries_sent s.sends) ∙ append-nil s.entries

pub sends_of_event : (e : MdsEvent) (s : MdsStep) → sends_in (items_of e s) ≡ s.sends
sends_of_event e s =
    sends_joined (map Enters s.entries) (map Sends s.sends) ∙ ap (λ l. l ++ sends_in (map Sends s.sends)) (sends_entered s.entries) ∙ sends_sent s.sends

-- ---- runs

pub entries_of_run : (m : MdsValue) (events : List MdsEvent) → entries_in (mds_history m events) ≡ (run_from m events).entries
entries_of_run m [] = refl
entries_of_run m (e ∷ events) =
    let s : MdsStep = after_event e m in
    entries_joined (items_of e s) (mds_history s.mds events) ∙ ap (λ l. l ++ entries_in (mds_history s.mds events)) (entries_of_event e s)
    ∙ ap (λ l. s.entries ++ l) (entries_of_run s.mds events)

pub sends_of_run : (m : MdsValue) (events : List MdsEvent) → sends_in (mds_history m events) ≡ (run_from m events).sends
sends_of_run m [] = refl
sends_of_run m (e ∷ events) =
    let s : MdsStep = after_event e m in
    sends_joined (items_of e s) (mds_history s.mds events) ∙ ap (λ l. l ++ sends_in (mds_history s.mds events)) (sends_of_event e s)
    ∙ ap (λ l. s.sends ++ l) (sends_of_run s.mds events)

pub is_of_run : (m : MdsValue) (events : List MdsEvent) → IsOfRun m events
is_of_run m events = record { entries = entries_of_run m events; sends = sends_of_run m events }

-- ---- events that others follow

-- the server behind them
abbrev pub mds_after : MdsValue → List MdsEvent → MdsValue
mds_after m events = (run_from m events).mds

pub run_on : (m : MdsValue) (events more : List MdsEvent) → mds_after m (events ++ more) ≡ mds_after (mds_after m events) more
run_on m [] more = refl
run_on m (e ∷ events) more = run_on (after_event e m).mds events more

-- The history of events is that of the first ones, and then that of those that follow, from the server behind the first.
pub history_on : (m : MdsValue) (events more : List MdsEvent) → mds_history m (events ++ more) ≡ mds_history m events ++ mds_history (mds_after m events) more
history_on m [] more = refl
history_on m (e ∷ events) more =
    let s : MdsStep = after_event e m in
    ap (λ l. items_of e s ++ l) (history_on s.mds events more) ∙ sym (append_assoc (items_of e s) (mds_history s.mds events) (mds_history (mds_after s.mds events) more))

-- of one event more
pub history_push : (m : MdsValue) (events : List MdsEvent) (e : MdsEvent) → mds_history m (events ++ e ∷ []) ≡ mds_history m events ++ items_of e (after_event e (mds_after m events))
history_push m events e =
    let n : MdsValue = mds_after m events in
    history_on m events (e ∷ []) ∙ ap (λ l. mds_history m events ++ l) (append-nil (items_of e (after_event e n)))
