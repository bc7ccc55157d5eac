-- An item's place in a history names the event that it is of, and its place in what that event adds.
use Rattle.std.proofs.Common.{◌≡◌, List, [], ◌∷◌, ◌++◌, refl, sym, ap, subst, ◌∙◌, inl, inr, ◌⊎◌}
use Rattle.std.specs.Prelude.{map}
use Rattle.std.proofs.lemmas.List.{append_assoc}
use Rattle.cluster_model.specs.declared.entry.Entry.{Entry}
use Rattle.mds_rule.specs.MdsStates.{MdsSend, MdsValue, MdsStep}
use Rattle.mds_walk.specs.MdsRuns.{MdsEvent, after_event}
use Rattle.mds_histories.specs.MdsHistory.{MdsItem, Comes, Enters, Sends, items_of, mds_history}
use Rattle.mds_histories.proofs.Histories.{mds_after}

-- ---- lists of items

abbrev tail_of : List MdsItem → List MdsItem
tail_of [] = []
tail_of (x ∷ xs) = xs

abbrev head_of : MdsItem → List MdsItem → MdsItem
head_of other [] = other
head_of other (x ∷ xs) = x

-- it stands in the first of two parts, with what is left of that part behind it
pub record StandsFirst (xs ys before behind : List MdsItem) (x : MdsItem) : Type 0 where
  pub left : List MdsItem
  pub split : xs ≡ before ++ x ∷ left
  pub rest : behind ≡ left ++ ys

-- or in the second, behind the whole first part
pub record StandsSecond (xs ys before behind : List MdsItem) (x : MdsItem) : Type 0 where
  pub front : List MdsItem
  pub before_is : before ≡ xs ++ front
  pub split : ys ≡ front ++ x ∷ behind

further : (y z : MdsItem) (xs ys before behind : List MdsItem) (x : MdsItem) → y ≡ z → StandsFirst xs ys before behind x ⊎ StandsSecond xs ys before behind x
    → StandsFirst (y ∷ xs) ys (z ∷ before) behind x ⊎ StandsSecond (y ∷ xs) ys (z ∷ before) behind x
further y z xs ys before behind x same (inl i) = inl (record { left = i.left; split = ap (λ k. k ∷ xs) same ∙ ap (λ l. z ∷ l) i.split; rest = i.rest })
further y z xs ys before behind x same (inr i) = inr (record { front = i.front; before_is = ap (λ k. k ∷ before) (sym same) ∙ ap (λ l. y ∷ l) i.before_is; split = i.split })

pub stands_in : (xs ys before behind : List MdsItem) (x : MdsItem) → xs ++ ys ≡ before ++ x ∷ behind → StandsFirst xs ys before behind x ⊎ StandsSecond xs ys before behind x
stands_in [] ys before behind x is = inr (record { front = before; before_is = refl; split = is })
stands_in (y ∷ xs) ys [] behind x is = inl (record { left = xs; split = ap (λ k. k ∷ xs) (ap (head_of y) is); rest = sym (ap tail_of is) })
stands_in (y ∷ xs) ys (z ∷ before) behind x is = further y z xs ys before behind x (ap (head_of y) is) (stands_in xs ys before behind x (ap tail_of is))

-- ---- an item of a history

-- its event, with the events before it and behind it, and the items before it and behind it, of its own event and of the others
pub record IsOfEvent (m : MdsValue) (events : List MdsEvent) (before behind : List MdsItem) (x : MdsItem) : Type 0 where
  pub past : List MdsEvent
  pub event : MdsEvent
  pub later : List MdsEvent
  pub events_are : events ≡ past ++ event ∷ later
  pub front : List MdsItem
  pub back : List MdsItem
  pub items : items_of event (after_event event (mds_after m past)) ≡ front ++ x ∷ back
  pub before_is : before ≡ mds_history m past ++ front
  pub behind_is : behind ≡ back ++ mds_history (after_event event (mds_after m past)).mds later

no_items : (before behind : List MdsItem) (x : MdsItem) → [] ≡ before ++ x ∷ behind → ⊥
no_items [] behind x is = absurd cc
no_items (y ∷ before) behind x is = absurd cc

pub of_event : (events : List MdsEvent) (m : MdsValue) (before behind : List MdsItem) (x : MdsItem) → mds_history m events ≡ before ++ x ∷ behind → IsOfEvent m events before behind x
of_event [] m before behind x is = absurd (no_items before behind x is)
of_event (e ∷ events) m before behind x is =
    by_part (stands_in (items_of e (after_event e m)) (mds_history (after_event e m).mds events) before behind x is) (λ front its. of_event events (after_event e m).mds front behind x its)
  where
    by_part : StandsFirst (items_of e (after_event e m)) (mds_history (after_event e m).mds events) before behind x ⊎ StandsSecond (items_of e (after_event e m)) (mds_history (after_event e m).mds events) before behind x
        → ((front : List MdsItem) → mds_history (after_event e m).mds events ≡ front ++ x ∷ behind → IsOfEvent (after_event e m).mds events front behind x) → IsOfEvent m (e ∷ events) before behind x
    by_part (inl i) more = record { past = []; event = e; later = events; events_are = refl; front = before; back = i.left; items = i.split; before_is = refl; behind_is = i.rest }
    by_part (inr i) more =
        let r : IsOfEvent (after_event e m).mds events i.front behind x = more i.front i.split in
        record {
          past = e ∷ r.past;
          event = r.event;
          later = r.later;
          events_are = ap (λ l. e ∷ l) r.events_are;
          front = r.front;
          back = r.back;
          items = r.items;
          before_is = i.before_is ∙ ap (λ l. items_of e (after_event e m) ++ l) r.before_is ∙ sym (append_assoc (items_of e (after_event e m)) (mds_history (after_event e m).mds r.past) r.front);
          behind_is = r.behind_is;
        }

-- ---- where it stands in what its event adds

-- an entry has the event and the entries before it in front of it, and the other entries and the sends behind it
pub record IsEntryOf (e : MdsEvent) (s : MdsStep) (front back : List MdsItem) (entry : Entry) : Type 0 where
  pub first : List Entry
  pub last : List Entry
  pub entries : s.entries ≡ first ++ entry ∷ last
  pub front_is : front ≡ Comes e ∷ map Enters first
  pub back_is : back ≡ map Enters last ++ map Sends s.sends

-- a send has the event, the entries and the sends before it in front of it, and the other sends behind it
pub record IsSendOf (e : MdsEvent) (s : MdsStep) (front back : List MdsItem) (send : MdsSend) : Type 0 where
  pub first : List MdsSend
  pub last : List MdsSend
  pub sends : s.sends ≡ first ++ send ∷ last
  pub front_is : front ≡ Comes e ∷ (map Enters s.entries ++ map Sends first)
  pub back_is : back ≡ map Sends last

-- what an item is, and no other
abbrev IsComing : MdsItem → Type 0
IsComing (Comes e) = Unit {0}
IsComing (Enters entry) = ⊥
IsComing (Sends send) = ⊥

abbrev entry_or : Entry → MdsItem → Entry
entry_or other (Comes e) = other
entry_or other (Enters entry) = entry
entry_or other (Sends send) = other

abbrev send_or : MdsSend → MdsItem → MdsSend
send_or other (Comes e) = other
send_or other (Enters entry) = other
send_or other (Sends send) = send

abbrev IsEntering : MdsItem → Type 0
IsEntering (Comes e) = ⊥
IsEntering (Enters entry) = Unit {0}
IsEntering (Sends send) = ⊥

record SplitsEntries (entries : List Entry) (ss : List MdsSend) (front back : List MdsItem) (entry : Entry) : Type 0 where
  first : List Entry
  last : List Entry
  is : entries ≡ first ++ entry ∷ last
  front_is : front ≡ map Enters first
  back_is : back ≡ map Enters last ++ map Sends ss

no_entry_sent : (ss : List MdsSend) (front back : List MdsItem) (entry : Entry) → map Sends ss ≡ front ++ Enters entry ∷ back → ⊥
no_entry_sent [] front back entry is = no_items front back (Enters entry) is
no_entry_sent (s ∷ ss) [] back entry is = subst IsEntering (sym (ap (head_of (Enters entry)) is)) tt
no_entry_sent (s ∷ ss) (y ∷ front) back entry is = no_entry_sent ss front back entry (ap tail_of is)

entry_splits : (entries : List Entry) (ss : List MdsSend) (front back : List MdsItem) (entry : Entry) → map Enters entries ++ map Sends ss ≡ front ++ Enters entry ∷ back → SplitsEntries entries ss front back entry
entry_splits [] ss front back entry is = absurd (no_entry_sent ss front back entry is)
entry_splits (x ∷ entries) ss [] back entry is =
    record { first = []; last = entries; is = ap (λ k. k ∷ entries) (ap (λ l. entry_or x (head_of (Enters x) l)) is); front_is = refl; back_is = sym (ap tail_of is) }
entry_splits (x ∷ entries) ss (y ∷ front) back entry is =
    let r : SplitsEntries entries ss front back entry = entry_splits entries ss front back entry (ap tail_of is) in
    record { first = x ∷ r.first; last = r.last; is = ap (λ l. x ∷ l) r.is; front_is = ap (λ k. k ∷ front) (sym (ap (head_of (Enters x)) is)) ∙ ap (λ l. Enters x ∷ l) r.front_is; back_is = r.back_is }

pub entry_of : (e : MdsEvent) (s : MdsStep) (front back : List MdsItem) (entry : Entry) → items_of e s ≡ front ++ Enters entry ∷ back → IsEntryOf e s front back entry
entry_of e s [] back entry is = absurd (subst IsComing (ap (head_of (Comes e)) is) tt)
entry_of e s (y ∷ front) back entry is =
    let r : SplitsEntries s.entries s.sends front back entry = entry_splits s.entries s.sends front back entry (ap tail_of is) in
    record { first = r.first; last = r.last; entries = r.is; front_is = ap (λ k. k ∷ front) (sym (ap (head_of (Comes e)) is)) ∙ ap (λ l. Comes e ∷ l) r.front_is; back_is = r.back_is }

record SplitsSends (entries : List Entry) (ss : List MdsSend) (front back : List MdsItem) (send : MdsSend) : Type 0 where
  first : List MdsSend
  last : List MdsSend
  is : ss ≡ first ++ send ∷ last
  front_is : front ≡ map Enters entries ++ map Sends first
  back_is : back ≡ map Sends last

send_splits : (entries : List Entry) (ss : List MdsSend) (front back : List MdsItem) (send : MdsSend) → map Enters entries ++ map Sends ss ≡ front ++ Sends send ∷ back → SplitsSends entries ss front back send
send_splits [] [] front back send is = absurd (no_items front back (Sends send) is)
send_splits [] (x ∷ ss) [] back send is =
    record { first = []; last = ss; is = ap (λ k. k ∷ ss) (ap (λ l. send_or x (head_of (Sends x) l)) is); front_is = refl; back_is = sym (ap tail_of is) }
send_splits [] (x ∷ ss) (y ∷ front) back send is =
    let r : SplitsSends [] ss front back send = send_splits [] ss front back send (ap tail_of is) in
    record { first = x ∷ r.first; last = r.last; is = ap (λ l. x ∷ l) r.is; front_is = ap (λ k. k ∷ front) (sym (ap (head_of (Sends x)) is)) ∙ ap (λ l. Sends x ∷ l) r.front_is; back_is = r.back_is }
send_splits (x ∷ entries) ss [] back send is = absurd (subst IsEntering (ap (head_of (Enters x)) is) tt)
send_splits (x ∷ entries) ss (y ∷ front) back send is =
    let r : SplitsSends entries ss front back send = send_splits entries ss front back send (ap tail_of is) in
    record { first = r.first; last = r.last; is = r.is; front_is = ap (λ k. k ∷ front) (sym (ap (head_of (Enters x)) is)) ∙ ap (λ l. Enters x ∷ l) r.front_is; back_is = r.back_is }

pub send_of : (e : MdsEvent) (s : MdsStep) (front back : List MdsItem) (send : MdsSend) → items_of e s ≡ front ++ Sends send ∷ back → IsSendOf e s front back send
send_of e s [] back send is = absurd (subst IsComing (ap (head_of (Comes e)) is) tt)
send_of e s (y ∷ front) back send is =
    let r : SplitsSends s.entries s.sends front back send = send_splits s.entries s.sends front back send (ap tail_of is) in
    record { first = r.first; last = r.last; sends = r.is; front_is = ap (λ k. k ∷ front) (sym (ap (head_of (Comes e)) is)) ∙ ap (λ l. Comes e ∷ l) r.front_is; back_is = r.back_is }

-- what came stands before all that its event adds
pub record IsComingOf (e : MdsEvent) (s : MdsStep) (front back : List MdsItem) (event : MdsEvent) : Type 0 where
  pub event_is : event ≡ e
  pub front_is : front ≡ []
  pub back_is : back ≡ map Enters s.entries ++ map Sends s.sends

abbrev event_or : MdsEvent → MdsItem → MdsEvent
event_or other (Comes e) = e
event_or other (Enters entry) = other
event_or other (Sends send) = other

none_comes_sent : (ss : List MdsSend) (front back : List MdsItem) (event : MdsEvent) → map Sends ss ≡ front ++ Comes event ∷ back → ⊥
none_comes_sent [] front back event is = no_items front back (Comes event) is
none_comes_sent (s ∷ ss) [] back event is = subst IsComing (sym (ap (head_of (Comes event)) is)) tt
none_comes_sent (s ∷ ss) (y ∷ front) back event is = none_comes_sent ss front back event (ap tail_of is)

none_comes : (entries : List Entry) (ss : List MdsSend) (front back : List MdsItem) (event : MdsEvent) → map Enters entries ++ map Sends ss ≡ front ++ Comes event ∷ back → ⊥
none_comes [] ss front back event is = none_comes_sent ss front back event is
none_comes (x ∷ entries) ss [] back event is = subst IsComing (sym (ap (head_of (Comes event)) is)) tt
none_comes (x ∷ entries) ss (y ∷ front) back event is = none_comes entries ss front back event (ap tail_of is)

pub coming_of : (e : MdsEvent) (s : MdsStep) (front back : List MdsItem) (event : MdsEvent) → items_of e s ≡ front ++ Comes event ∷ back → IsComingOf e s front back event
coming_of e s [] back event is = record { event_is = sym (ap (λ l. event_or e (head_of (Comes e) l)) is); front_is = refl; back_is = sym (ap tail_of is) }
coming_of e s (y ∷ front) back event is = absurd (none_comes s.entries s.sends front back event (ap tail_of is))
