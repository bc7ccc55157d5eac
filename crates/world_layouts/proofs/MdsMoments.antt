-- The event of an item in a metadata server's history, and what stands before it there.
use Rattle.std.proofs.Common.{◌≡◌, List, [], ◌∷◌, ◌++◌, refl, sym, ap, subst, ◌∙◌, append_assoc}
use Rattle.std.specs.Prelude.{map}
use Rattle.cluster_model.specs.declared.entry.Entry.{Entry}
use Rattle.mds_rule.specs.MdsStates.{MdsSend, MdsValue, MdsStep}
use Rattle.mds_walk.specs.MdsRuns.{MdsEvent, after_event}
use Rattle.mds_histories.specs.MdsHistory.{MdsItem, Comes, Enters, Sends, items_of, mds_history}
use Rattle.mds_histories.proofs.Histories.{mds_after}
use Rattle.world_reads.proofs.Steps.{Splits, Longer, Shorter, splits}

abbrev head_or : MdsItem → List MdsItem → MdsItem
head_or other [] = other
head_or other (x ∷ xs) = x

abbrev tail_of : List MdsItem → List MdsItem
tail_of [] = []
tail_of (x ∷ xs) = xs

none_there : {A : Type 0} (xs ys : List MdsItem) (y : MdsItem) → [] ≡ xs ++ y ∷ ys → A
none_there [] ys y is = absurd cc
none_there (x ∷ xs) ys y is = absurd cc

-- ---- what was sent

-- among the sends of one event
pub record IsAmongSends (ss : List MdsSend) (xs : List MdsItem) (s : MdsSend) : Type 0 where
  pub front : List MdsSend
  pub back : List MdsSend
  pub sends : ss ≡ front ++ s ∷ back
  pub items : xs ≡ map Sends front

same_send : (x y : MdsSend) → Sends x ≡ Sends y → x ≡ y
same_send x y is = cc

among_sends : (ss : List MdsSend) (xs : List MdsItem) (s : MdsSend) (ys : List MdsItem) → map Sends ss ≡ xs ++ Sends s ∷ ys → IsAmongSends ss xs s
among_sends [] xs s ys is = none_there xs ys (Sends s) is
among_sends (x ∷ ss) [] s ys is =
    let same : x ≡ s = same_send x s (ap (λ (l : List MdsItem). head_or (Sends x) l) is) in
    record { front = []; back = ss; sends = ap (λ (y : MdsSend). y ∷ ss) same; items = refl }
among_sends (x ∷ ss) (y ∷ xs) s ys is =
    let r : IsAmongSends ss xs s = among_sends ss xs s ys (ap tail_of is) in
    record {
      front = x ∷ r.front;
      back = r.back;
      sends = ap (λ (l : List MdsSend). x ∷ l) r.sends;
      items = ap (λ (k : MdsItem). k ∷ xs) (sym (ap (λ (l : List MdsItem). head_or (Sends x) l) is)) ∙ ap (λ (l : List MdsItem). Sends x ∷ l) r.items;
    }

enters_no_send : {A : Type 0} (e : Entry) (s : MdsSend) → Enters e ≡ Sends s → A
enters_no_send e s is = absurd cc

comes_no_send : {A : Type 0} (e : MdsEvent) (s : MdsSend) → Comes e ≡ Sends s → A
comes_no_send e s is = absurd cc

comes_no_entry : {A : Type 0} (e : MdsEvent) (x : Entry) → Comes e ≡ Enters x → A
comes_no_entry e x is = absurd cc

-- behind the entries of one event
pub record IsBehindEntries (es : List Entry) (ss : List MdsSend) (xs : List MdsItem) (s : MdsSend) : Type 0 where
  pub front : List MdsSend
  pub back : List MdsSend
  pub sends : ss ≡ front ++ s ∷ back
  pub items : xs ≡ map Enters es ++ map Sends front

behind_entries : (es : List Entry) (ss : List MdsSend) (xs : List MdsItem) (s : MdsSend) (ys : List MdsItem) → map Enters es ++ map Sends ss ≡ xs ++ Sends s ∷ ys → IsBehindEntries es ss xs s
behind_entries [] ss xs s ys is = let r : IsAmongSends ss xs s = among_sends ss xs s ys is in record { front = r.front; back = r.back; sends = r.sends; items = r.items }
behind_entries (e ∷ es) ss [] s ys is = enters_no_send e s (ap (λ (l : List MdsItem). head_or (Enters e) l) is)
behind_entries (e ∷ es) ss (x ∷ xs) s ys is =
    let r : IsBehindEntries es ss xs s = behind_entries es ss xs s ys (ap tail_of is) in
    record {
      front = r.front;
      back = r.back;
      sends = r.sends;
      items = ap (λ (k : MdsItem). k ∷ xs) (sym (ap (λ (l : List MdsItem). head_or (Enters e) l) is)) ∙ ap (λ (l : List MdsItem). Enters e ∷ l) r.items;
    }

-- the event in which it was sent: its entries, and what it sent before
pub record IsSentBy (m : MdsValue) (events : List MdsEvent) (xs : List MdsItem) (s : MdsSend) : Type 0 where
  pub before : List MdsEvent
  pub e : MdsEvent
  pub after : List MdsEvent
  pub split : events ≡ before ++ e ∷ after
  pub front : List MdsSend
  pub back : List MdsSend
  pub sends : (after_event e (mds_after m before)).sends ≡ front ++ s ∷ back
  pub items : xs ≡ mds_history m before ++ Comes e ∷ (map Enters (after_event e (mds_after m before)).entries ++ map Sends front)

sent_first : (m : MdsValue) (e : MdsEvent) (events : List MdsEvent) (xs : List MdsItem) (s : MdsSend) (ys : List MdsItem) → items_of e (after_event e m) ≡ xs ++ Sends s ∷ ys → IsSentBy m (e ∷ events) xs s
sent_first m e events [] s ys is = comes_no_send e s (ap (λ (l : List MdsItem). head_or (Comes e) l) is)
sent_first m e events (x ∷ xs) s ys is =
    let step : MdsStep = after_event e m in
    let r : IsBehindEntries step.entries step.sends xs s = behind_entries step.entries step.sends xs s ys (ap tail_of is) in
    record {
      before = [];
      e = e;
      after = events;
      split = refl;
      front = r.front;
      back = r.back;
      sends = r.sends;
      items = ap (λ (k : MdsItem). k ∷ xs) (sym (ap (λ (l : List MdsItem). head_or (Comes e) l) is)) ∙ ap (λ (l : List MdsItem). Comes e ∷ l) r.items;
    }

pub sent_by : (m : MdsValue) (events : List MdsEvent) (xs : List MdsItem) (s : MdsSend) (ys : List MdsItem) → mds_history m events ≡ xs ++ Sends s ∷ ys → IsSentBy m events xs s
sent_by m [] xs s ys is = none_there xs ys (Sends s) is
sent_by m (e ∷ events) xs s ys is = by_place (λ middle second. sent_by (after_event e m).mds events middle s ys second) (splits (items_of e (after_event e m)) (mds_history (after_event e m).mds events) xs (Sends s ∷ ys) is)
  where
    by_place : ((middle : List MdsItem) → mds_history (after_event e m).mds events ≡ middle ++ Sends s ∷ ys → IsSentBy (after_event e m).mds events middle s) → Splits (items_of e (after_event e m)) (mds_history (after_event e m).mds events) xs (Sends s ∷ ys) → IsSentBy m (e ∷ events) xs s
    by_place again (Longer middle first second) =
        let n : MdsValue = (after_event e m).mds in
        let r : IsSentBy n events middle s = again middle second in
        let last : List MdsItem = Comes r.e ∷ (map Enters (after_event r.e (mds_after n r.before)).entries ++ map Sends r.front) in
        record {
          before = e ∷ r.before;
          e = r.e;
          after = r.after;
          split = ap (λ (l : List MdsEvent). e ∷ l) r.split;
          front = r.front;
          back = r.back;
          sends = r.sends;
          items = first ∙ (ap (λ (l : List MdsItem). items_of e (after_event e m) ++ l) r.items ∙ sym (append_assoc (items_of e (after_event e m)) (mds_history n r.before) last));
        }
    by_place again (Shorter x middle first second) =
        let same : x ≡ Sends s = sym (ap (λ (l : List MdsItem). head_or x l) second) in
        sent_first m e events xs s middle (subst (λ (k : MdsItem). items_of e (after_event e m) ≡ xs ++ k ∷ middle) same first)

-- ---- what was entered

pub record IsAmongEntries (es : List Entry) (xs : List MdsItem) (x : Entry) : Type 0 where
  pub front : List Entry
  pub back : List Entry
  pub entries : es ≡ front ++ x ∷ back
  pub items : xs ≡ map Enters front

same_entry : (x y : Entry) → Enters x ≡ Enters y → x ≡ y
same_entry x y is = cc

no_send_entered : {A : Type 0} (ss : List MdsSend) (xs : List MdsItem) (x : Entry) (ys : List MdsItem) → map Sends ss ≡ xs ++ Enters x ∷ ys → A
no_send_entered [] xs x ys is = none_there xs ys (Enters x) is
no_send_entered (s ∷ ss) [] x ys is = enters_no_send x s (sym (ap (λ (l : List MdsItem). head_or (Sends s) l) is))
no_send_entered (s ∷ ss) (y ∷ xs) x ys is = no_send_entered ss xs x ys (ap tail_of is)

among_entries : (es : List Entry) (ss : List MdsSend) (xs : List MdsItem) (x : Entry) (ys : List MdsItem) → map Enters es ++ map Sends ss ≡ xs ++ Enters x ∷ ys → IsAmongEntries es xs x
among_entries [] ss xs x ys is = no_send_entered ss xs x ys is
among_entries (e ∷ es) ss [] x ys is =
    let same : e ≡ x = same_entry e x (ap (λ (l : List MdsItem). head_or (Enters e) l) is) in
    record { front = []; back = es; entries = ap (λ (y : Entry). y ∷ es) same; items = refl }
among_entries (e ∷ es) ss (y ∷ xs) x ys is =
    let r : IsAmongEntries es xs x = among_entries es ss xs x ys (ap tail_of is) in
    record {
      front = e ∷ r.front;
      back = r.back;
      entries = ap (λ (l : List Entry). e ∷ l) r.entries;
      items = ap (λ (k : MdsItem). k ∷ xs) (sym (ap (λ (l : List MdsItem). head_or (Enters e) l) is)) ∙ ap (λ (l : List MdsItem). Enters e ∷ l) r.items;
    }

-- the event that entered it, and what it entered before
pub record IsEnteredBy (m : MdsValue) (events : List MdsEvent) (xs : List MdsItem) (x : Entry) : Type 0 where
  pub before : List MdsEvent
  pub e : MdsEvent
  pub after : List MdsEvent
  pub split : events ≡ before ++ e ∷ after
  pub front : List Entry
  pub back : List Entry
  pub entries : (after_event e (mds_after m before)).entries ≡ front ++ x ∷ back
  pub items : xs ≡ mds_history m before ++ Comes e ∷ map Enters front

entered_first : (m : MdsValue) (e : MdsEvent) (events : List MdsEvent) (xs : List MdsItem) (x : Entry) (ys : List MdsItem) → items_of e (after_event e m) ≡ xs ++ Enters x ∷ ys → IsEnteredBy m (e ∷ events) xs x
entered_first m e events [] x ys is = comes_no_entry e x (ap (λ (l : List MdsItem). head_or (Comes e) l) is)
entered_first m e events (y ∷ xs) x ys is =
    let step : MdsStep = after_event e m in
    let r : IsAmongEntries step.entries xs x = among_entries step.entries step.sends xs x ys (ap tail_of is) in
    record {
      before = [];
      e = e;
      after = events;
      split = refl;
      front = r.front;
      back = r.back;
      entries = r.entries;
      items = ap (λ (k : MdsItem). k ∷ xs) (sym (ap (λ (l : List MdsItem). head_or (Comes e) l) is)) ∙ ap (λ (l : List MdsItem). Comes e ∷ l) r.items;
    }

pub entered_by : (m : MdsValue) (events : List MdsEvent) (xs : List MdsItem) (x : Entry) (ys : List MdsItem) → mds_history m events ≡ xs ++ Enters x ∷ ys → IsEnteredBy m events xs x
entered_by m [] xs x ys is = none_there xs ys (Enters x) is
entered_by m (e ∷ events) xs x ys is = by_place (λ middle second. entered_by (after_event e m).mds events middle x ys second) (splits (items_of e (after_event e m)) (mds_history (after_event e m).mds events) xs (Enters x ∷ ys) is)
  where
    by_place : ((middle : List MdsItem) → mds_history (after_event e m).mds events ≡ middle ++ Enters x ∷ ys → IsEnteredBy (after_event e m).mds events middle x) → Splits (items_of e (after_event e m)) (mds_history (after_event e m).mds events) xs (Enters x ∷ ys) → IsEnteredBy m (e ∷ events) xs x
    by_place again (Longer middle first second) =
        let n : MdsValue = (after_event e m).mds in
        let r : IsEnteredBy n events middle x = again middle second in
        record {
          before = e ∷ r.before;
          e = r.e;
          after = r.after;
          split = ap (λ (l : List MdsEvent). e ∷ l) r.split;
          front = r.front;
          back = r.back;
          entries = r.entries;
          items = first ∙ (ap (λ (l : List MdsItem). items_of e (after_event e m) ++ l) r.items ∙ sym (append_assoc (items_of e (after_event e m)) (mds_history n r.before) (Comes r.e ∷ map Enters r.front)));
        }
    by_place again (Shorter k middle first second) =
        let same : k ≡ Enters x = sym (ap (λ (l : List MdsItem). head_or k l) second) in
        entered_first m e events xs x middle (subst (λ (i : MdsItem). items_of e (after_event e m) ≡ xs ++ i ∷ middle) same first)
