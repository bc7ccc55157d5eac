-- What the metadata server entered by the event of a reply stands in the journal before a client hears the reply.
use Rattle.std.proofs.Common.{◌≡◌, ℕ, length, List, [], ◌∷◌, ◌++◌, None, refl, sym, ap, subst, ◌∙◌, arith, append_assoc, append-nil, length-append}
use Rattle.std.specs.Prelude.{map}
use Rattle.std.specs.List.{AllByRecursion}
use Rattle.rpc_record.specs.Replies.{RpcReply}
use Rattle.cluster_model.specs.declared.ids.NodeId.TheVariants.{Mds, Client}
use Rattle.cluster_model.specs.declared.ids.FileId.{FileId}
use Rattle.cluster_model.specs.declared.entry.Entry.{Entry}
use Rattle.cluster_model.specs.declared.entry.Entry.TheVariants as entry
use Rattle.cluster_laws.specs.FenceLaw.{live_in}
use Rattle.world_rule.specs.ClusterWorlds.{ClusterState}
use Rattle.mds_rule.specs.MdsStates.{MdsSend, MdsValue, new_mds}
use Rattle.mds_walk.specs.MdsRuns.{MdsEvent, after_event, run_from, mds_run}
use Rattle.mds_histories.specs.MdsHistory.{MdsItem, Comes, Enters, Sends, mds_history}
use Rattle.mds_histories.specs.MdsHistory as of_mds
use Rattle.mds_histories.proofs.Histories.{entries_joined, entries_entered, entries_sent, entries_of_run, mds_after}
use Rattle.mds_replies.proofs.Periods.{entries_behind}
use Rattle.client_laws.specs.ClientHistory.{HistoryItem}
use Rattle.node_histories.specs.Weaves.{WeaveStep, Seen, entries_in, items_in}
use Rattle.node_histories.specs.ClientLives.{Life}
use Rattle.node_histories.specs.NodeHistories.{IsToldByNodes}
use Rattle.node_histories.proofs.WeaveLemmas.{entries_join, items_join}
use Rattle.world_reads.proofs.Steps.{Splits, Longer, Shorter, splits, all_first}
use Rattle.world_reads.proofs.OwnEntries.{IsToldStep, all_told, live_told}
use Rattle.world_reads.proofs.MdsPlaces.{Steps, EnteredAt, entered_at}
use Rattle.world_layouts.specs.WorldLayouts.{journal_at}
use Rattle.world_layouts.proofs.LifeSends.{LifeSteps, hearing_from, HeardAt}
use Rattle.world_layouts.proofs.RepliesHeard.{AnswersCall}

-- ---- an entry as an item

pub record ItemOf (items : List MdsItem) (before : List Entry) (x : Entry) : Type 0 where
  pub first : List MdsItem
  pub last : List MdsItem
  pub split : items ≡ first ++ Enters x ∷ last
  pub entries : of_mds.entries_in first ≡ before

head_is : (x y : Entry) (xs ys : List Entry) → x ∷ xs ≡ y ∷ ys → x ≡ y
head_is x y xs ys is = cc

tail_is : (x y : Entry) (xs ys : List Entry) → x ∷ xs ≡ y ∷ ys → xs ≡ ys
tail_is x y xs ys is = cc

none_there : {A : Type 0} (before behind : List Entry) (x : Entry) → [] ≡ before ++ x ∷ behind → A
none_there [] behind x is = absurd cc
none_there (y ∷ before) behind x is = absurd cc

pub item_of : (items : List MdsItem) (before behind : List Entry) (x : Entry) → of_mds.entries_in items ≡ before ++ x ∷ behind → ItemOf items before x
item_of [] before behind x is = none_there before behind x is
item_of (Comes e ∷ items) before behind x is =
    let r : ItemOf items before x = item_of items before behind x is in
    record { first = Comes e ∷ r.first; last = r.last; split = ap (λ (l : List MdsItem). Comes e ∷ l) r.split; entries = r.entries }
item_of (Sends s ∷ items) before behind x is =
    let r : ItemOf items before x = item_of items before behind x is in
    record { first = Sends s ∷ r.first; last = r.last; split = ap (λ (l : List MdsItem). Sends s ∷ l) r.split; entries = r.entries }
item_of (Enters y ∷ items) [] behind x is =
    record { first = []; last = items; split = ap (λ (z : Entry). Enters z ∷ items) (head_is y x (of_mds.entries_in items) behind is); entries = refl }
item_of (Enters y ∷ items) (z ∷ before) behind x is =
    let r : ItemOf items before x = item_of items before behind x (tail_is y z (of_mds.entries_in items) (before ++ x ∷ behind) is) in
    record {
      first = Enters y ∷ r.first;
      last = r.last;
      split = ap (λ (l : List MdsItem). Enters y ∷ l) r.split;
      entries = ap (λ (l : List Entry). y ∷ l) r.entries ∙ ap (λ (e : Entry). e ∷ before) (head_is y z (of_mds.entries_in items) (before ++ x ∷ behind) is);
    }

-- its place in the journal, and the live lists then
pub record EntryOf (part : Steps) (before : List Entry) (x : Entry) : Type 0 where
  pub earlier : Steps
  pub later : Steps
  pub split : part ≡ earlier ++ Seen (Enters x) x ∷ later
  pub entries : of_mds.entries_in (items_in earlier) ≡ before
  pub live : (file : FileId) → live_in (entries_in earlier) file ≡ live_in before file

pub entry_of : (part : Steps) (before behind : List Entry) (x : Entry) → AllByRecursion IsToldStep part → of_mds.entries_in (items_in part) ≡ before ++ x ∷ behind → EntryOf part before x
entry_of part before behind x told is =
    let i : ItemOf (items_in part) before x = item_of (items_in part) before behind x is in
    let e : EnteredAt part i.first x i.last = entered_at part i.first x i.last told i.split in
    let entries : of_mds.entries_in (items_in e.earlier) ≡ before = ap of_mds.entries_in e.earlier_items ∙ i.entries in
    let first : AllByRecursion IsToldStep e.earlier = all_first IsToldStep e.earlier (Seen (Enters x) x ∷ e.later) (subst (λ (l : Steps). AllByRecursion IsToldStep l) e.split told) in
    record {
      earlier = e.earlier;
      later = e.later;
      split = e.split;
      entries = entries;
      live = λ file. live_told file None e.earlier first ∙ ap (λ (l : List Entry). live_in l file) entries;
    }

-- ---- by the event of a reply

one_event : (m : MdsValue) (before : List MdsEvent) (e : MdsEvent) → (run_from m (before ++ e ∷ [])).entries ≡ (run_from m before).entries ++ (after_event e (mds_after m before)).entries
one_event m before e = entries_behind m before (e ∷ []) ∙ ap (λ (l : List Entry). (run_from m before).entries ++ l) (append-nil (after_event e (mds_after m before)).entries)

entries_by : (m : MdsValue) (before : List MdsEvent) (e : MdsEvent) (front : List MdsSend) (items : List MdsItem) → items ≡ mds_history m before ++ Comes e ∷ (map Enters (after_event e (mds_after m before)).entries ++ map Sends front)
    → of_mds.entries_in items ≡ (run_from m (before ++ e ∷ [])).entries
entries_by m before e front items is =
    let es : List Entry = (after_event e (mds_after m before)).entries in
    let event : of_mds.entries_in (map Enters es ++ map Sends front) ≡ es =
    entries_joined (map Enters es) (map Sends front) ∙ (ap (λ (l : List Entry). l ++ of_mds.entries_in (map Sends front)) (entries_entered es) ∙ (ap (λ (l : List Entry). es ++ l) (entries_sent front) ∙ append-nil es)) in
    ap of_mds.entries_in is ∙ (entries_joined (mds_history m before) (Comes e ∷ (map Enters es ++ map Sends front)) ∙ (ap (λ (l : List Entry). l ++ of_mds.entries_in (map Enters es ++ map Sends front)) (entries_of_run m before)
    ∙ (ap (λ (l : List Entry). (run_from m before).entries ++ l) event ∙ sym (one_event m before e))))

-- ---- the place of what was heard

longer_not : {A : Type 0} (a b c : List HistoryItem) (x : HistoryItem) (d : List HistoryItem) → a ≡ (a ++ x ∷ b) ++ c → A
longer_not a b c x d is =
    let size = ap (λ (l : List HistoryItem). length l) is in
    let first = length-append (a ++ x ∷ b) c in
    let second = length-append a (x ∷ b) in
    absurd (omega (arith, size, first, second))

-- what a life heard by a moment stands in the steps up to it
heard_before : (n : ℕ) (l : Life) (earlier later : LifeSteps) → l.steps ≡ earlier ++ later → (past : List HistoryItem) (bytes : List ℕ) (now : ℕ) (behind more : List HistoryItem) → items_in earlier ≡ past ++ hearing_from Mds bytes now ∷ behind
    → (h : HeardAt n l past Mds bytes now more) → (rest : LifeSteps) × (earlier ≡ h.earlier ++ rest)
heard_before n l earlier later split past bytes now behind more items h = by_place (splits earlier later h.earlier (Seen (hearing_from Mds bytes now) (entry.Delivered h.number) ∷ h.later) (sym split ∙ h.split))
  where
    by_place : Splits earlier later h.earlier (Seen (hearing_from Mds bytes now) (entry.Delivered h.number) ∷ h.later) → (rest : LifeSteps) × (earlier ≡ h.earlier ++ rest)
    by_place (Longer middle first second) =
        longer_not past behind (items_in middle) (hearing_from Mds bytes now) []
        (sym h.earlier_items ∙ (ap (λ (s : LifeSteps). items_in s) first ∙ (items_join earlier middle ∙ ap (λ (x : List HistoryItem). x ++ items_in middle) items)))
    by_place (Shorter x middle first second) = (x ∷ middle, first)

module _ (w : ClusterState) (t : IsToldByNodes w) where
  -- An entry of the metadata server by the event of a reply that a life heard by a moment stands in the journal at this moment.
  pub record ToldThen (journal : List Entry) (before : List Entry) (x : Entry) : Type 0 where
    pub first : List Entry
    pub last : List Entry
    pub split : journal ≡ first ++ x ∷ last
    pub live : (file : FileId) → live_in first file ≡ live_in before file
    pub steps : Steps
    pub rest : Steps
    pub whole : t.mds.steps ≡ steps ++ rest
    pub steps_entries : entries_in steps ≡ first
    pub entries : of_mds.entries_in (items_in steps) ≡ before

  pub told_then : (n : ℕ) (l : Life) (earlier later : LifeSteps) → l.steps ≡ earlier ++ later → (past : List HistoryItem) (bytes : List ℕ) (now : ℕ) (behind more : List HistoryItem) → items_in earlier ≡ past ++ hearing_from Mds bytes now ∷ behind
      → (h : HeardAt n l past Mds bytes now more) (reply : RpcReply) (a : AnswersCall t h.packet.before n reply) (upto late : List MdsEvent) → a.before ++ a.e ∷ [] ≡ upto ++ late → (before behinds : List Entry) (x : Entry)
      → (mds_run t.mds.servers t.mds.mirrors upto).entries ≡ before ++ x ∷ behinds → ToldThen (journal_at l earlier) before x
  told_then n l earlier later split past bytes now behind more items h reply a upto late events before behinds x is =
      let m : MdsValue = new_mds t.mds.servers t.mds.mirrors in
      let later_entries : List Entry = (run_from (run_from m upto).mds late).entries in
      let run : (run_from m (a.before ++ a.e ∷ [])).entries ≡ before ++ x ∷ (behinds ++ later_entries) =
      ap (λ (k : List MdsEvent). (run_from m k).entries) events ∙ (entries_behind m upto late ∙ (ap (λ (k : List Entry). k ++ later_entries) is ∙ append_assoc before (x ∷ behinds) later_entries)) in
      let told : AllByRecursion IsToldStep a.earlier = all_first IsToldStep a.earlier a.later (subst (λ (k : Steps). AllByRecursion IsToldStep k) a.steps (all_told w t)) in
      let e : EntryOf a.earlier before x = entry_of a.earlier before (behinds ++ later_entries) x told (entries_by m a.before a.e a.front (items_in a.earlier) a.items ∙ run) in
      let packet : Entry = entry.Packet h.number Mds (Client n) bytes in
      let heard : (rest : LifeSteps) × (earlier ≡ h.earlier ++ rest) = heard_before n l earlier later split past bytes now behind more items h in
      let step : WeaveStep MdsItem = Seen (Enters x) x in
      let at : h.packet.before ≡ entries_in e.earlier ++ x ∷ (entries_in e.later ++ a.since) =
      a.place ∙ (ap (λ (k : List Entry). k ++ a.since) (ap (λ (k : Steps). entries_in k) e.split ∙ entries_join e.earlier (step ∷ e.later)) ∙ append_assoc (entries_in e.earlier) (x ∷ entries_in e.later) a.since) in
      let tail : List Entry = (packet ∷ h.packet.behind) ++ entries_in heard.0 in
      let journal : journal_at l earlier ≡ h.packet.before ++ tail =
      ap (λ (k : LifeSteps). l.begun ++ entries_in k) heard.1 ∙ (ap (λ (k : List Entry). l.begun ++ k) (entries_join h.earlier heard.0) ∙ (sym (append_assoc l.begun (entries_in h.earlier) (entries_in heard.0))
      ∙ (ap (λ (k : List Entry). k ++ entries_in heard.0) h.packet.split ∙ append_assoc h.packet.before (packet ∷ h.packet.behind) (entries_in heard.0)))) in
      record {
        first = entries_in e.earlier;
        last = (entries_in e.later ++ a.since) ++ tail;
        split = journal ∙ (ap (λ (k : List Entry). k ++ tail) at ∙ append_assoc (entries_in e.earlier) (x ∷ (entries_in e.later ++ a.since)) tail);
        live = e.live;
        steps = e.earlier;
        rest = (step ∷ e.later) ++ a.later;
        whole = a.steps ∙ (ap (λ (k : Steps). k ++ a.later) e.split ∙ append_assoc e.earlier (step ∷ e.later) a.later);
        steps_entries = refl;
        entries = e.entries;
      }
