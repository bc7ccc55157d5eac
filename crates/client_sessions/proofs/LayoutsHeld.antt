-- How the layout that a client holds came, and what became of all that it asked for.
use Rattle.std.proofs.Common.{◌≡◌, ℕ, Bool, true, false, List, [], ◌∷◌, ◌++◌, Option, Some, None, refl, sym, ap, subst, ◌∙◌, inl, inr, ◌⊎◌}
use Rattle.std.specs.List.{AllByRecursion}
use Rattle.std.proofs.lemmas.List.{append-nil}
use Rattle.std.proofs.lemmas.Option.{same_Some}
use Rattle.nfs4_types.specs.declared.ids.SessionId.{SessionId}
use Rattle.nfs4_types.specs.declared.stateid.Stateid.{Stateid}
use Rattle.cluster_model.specs.declared.ids.FileId.{FileId}
use Rattle.mirror_writer.specs.Writers.{WriterValue}
use Rattle.client_file_calls.specs.declared.open.OpenFile.{OpenFile}
use Rattle.client_file_calls.specs.declared.grant.LayoutGrant.{LayoutGrant}
use Rattle.client_mds_calls.specs.declared.ask.MdsAsk.{MdsAsk}
use Rattle.client_mds_calls.specs.declared.reply.SlotReport.TheVariants.{Delayed}
use Rattle.client_mds_calls.specs.MdsCalls.{MdsCallValue, OnSlot, SlotCallValue}
use Rattle.client_mds_calls.specs.MdsCalls as slot
use Rattle.client_mds_calls.specs.MdsReplies.{MdsReplyValue, Granted}
use Rattle.client_state.specs.declared.stage.LayoutStage.{LayoutStage}
use Rattle.client_state.specs.declared.stage.LayoutStage.TheVariants.{Writing, Ending, Deferred, Returning}
use Rattle.client_state.specs.declared.layout.Layout.{Layout}
use Rattle.client_state.specs.declared.asked.Asked.{Asked}
use Rattle.client_state.specs.declared.tie.Tie.{Tie}
use Rattle.client_state.specs.declared.tie.Tie.TheVariants.{HasSession}
use Rattle.client_state.specs.ClientStates.{ClientValue}
use Rattle.client_state.specs.ClientQueue.{ends_layout, ending}
use Rattle.client_state.specs.ClientSends.{CallsMds}
use Rattle.client_laws.specs.ClientHistory.{ClientInput, Requested, Recorded, TimeoutOf, Ticked, LeftProtocol, Strayed, HistoryItem, Hears, Sends, HasItem}
use Rattle.client_laws.proofs.Orders.{in_either}
use Rattle.client_laws.proofs.Stands.{IfThere, WriterStands, writer_ids, mirror_ids, IsOut}
use Rattle.client_laws.proofs.WriterMoves.{writer_later}
use Rattle.client_records.proofs.Cases.{IsStaying}
use Rattle.client_sessions.specs.HeardReplies.{IsHeard, IsNoCompound}
use Rattle.client_sessions.specs.LayoutEnds.{IsAskSettled, HasGrant, HasNotLeft}
use Rattle.client_sessions.specs.EnteredFiles.{HasGrantFor}
use Rattle.client_sessions.proofs.HeardLater.{all_more, heard_later, settled_later, granted_of}
use Rattle.client_sessions.proofs.SlotStands.{AskedOut, asked_later}

-- ---- the layout

-- any mirror may be reported
abbrev pub any_server : ℕ → Bool
any_server server = true

abbrev pub IsHere : Tie → SessionId → Type 0
IsHere (HasSession s) session = s.id ≡ session
IsHere tie session = ⊥

-- a LAYOUTRETURN is of this file and this stateid
abbrev pub IsSlotReturn : FileId → Stateid → SlotCallValue → Type 0
IsSlotReturn id stateid (slot.LayoutReturn file state failed) = (file ≡ id) × (state ≡ stateid)
IsSlotReturn id stateid call = Unit {0}

abbrev pub IsReturnCall : FileId → Stateid → MdsCallValue → Type 0
IsReturnCall id stateid (OnSlot session sequence call) = IsSlotReturn id stateid call
IsReturnCall id stateid call = Unit {0}

-- what is out went out since
pub record AskedSince (behind : List HistoryItem) (name : List ℕ) (tie : Tie) (file : Option OpenFile) (id : FileId) (stateid : Stateid) (xid : ℕ) (kind : MdsAsk) : Type 0 where
  pub out : AskedOut behind name tie file xid kind
  pub returns : IsReturnCall id stateid out.call

-- It was granted by a reply to the LAYOUTGET of this number, for the file that is open, on the client's session; and all that is under way of it,
-- and the compound that is out, went out since.
pub record LayoutOf (past : List HistoryItem) (held : ℕ) (name : List ℕ) (tie : Tie) (file : Option OpenFile) (asked : Option Asked) (stateid : Stateid) (writer : WriterValue) : Type 0 where
  pub session : SessionId
  pub sequence : ℕ
  pub other : OpenFile
  pub says : MdsReplyValue
  pub behind : List HistoryItem
  pub heard : IsHeard past held name (OnSlot session sequence (slot.LayoutGet other)) says behind
  pub quiet : AllByRecursion IsNoCompound heard.until
  pub final : says.slot ≡ Delayed → ⊥
  pub grant : LayoutGrant
  pub is : says.answer ≡ Granted grant
  pub stateid_is : stateid ≡ grant.stateid
  pub uid_is : writer.cred ≡ grant.uid.0
  pub ids_are : writer_ids writer ≡ mirror_ids grant.mirrors
  pub file_is : file ≡ Some other
  pub on : IsHere tie session
  pub stands : WriterStands behind name any_server writer
  pub since : IfThere asked (λ a. AskedSince behind name tie file other.file grant.stateid a.xid a.ask)

-- it came by the LAYOUTGET of this number
abbrev pub IsHeld : Option Layout → ℕ → ℕ → Type 0
IsHeld None held xid = ⊥
IsHeld (Some l) held xid = held ≡ xid

-- Each LAYOUTGET is out, or the layout that it granted is held, or it is settled.
abbrev pub AreSettled : List HistoryItem → Option Layout → Option Asked → ℕ → Type 0
AreSettled past layout asked held =
    (xid : ℕ) (name : List ℕ) (session : SessionId) (sequence : ℕ) (other : OpenFile) → HasItem past (Sends (CallsMds xid name (OnSlot session sequence (slot.LayoutGet other))))
    → IsOut asked xid ⊎ (IsHeld layout held xid ⊎ IsAskSettled past xid name session sequence other)

pub record LayoutsOf (past : List HistoryItem) (name : List ℕ) (tie : Tie) (file : Option OpenFile) (layout : Option Layout) (asked : Option Asked) (has_left : Bool) : Type 0 where
  pub held : ℕ
  pub layout_of : IfThere layout (λ l. LayoutOf past held name tie file asked l.stateid l.writer)
  pub settles : AreSettled past layout asked held
  pub left : has_left ≡ false → AllByRecursion HasNotLeft past

abbrev pub Layouts : List HistoryItem → ClientValue → Type 0
Layouts past c = LayoutsOf past c.name c.tie c.file c.layout c.asked c.has_left

-- ---- a longer history

asked_since : (behind more : List HistoryItem) (name : List ℕ) (tie : Tie) (file : Option OpenFile) (id : FileId) (stateid : Stateid) (asked : Option Asked) → AllByRecursion IsNoCompound more → IfThere asked (λ a. AskedSince behind name tie file id stateid a.xid a.ask)
    → IfThere asked (λ a. AskedSince (behind ++ more) name tie file id stateid a.xid a.ask)
asked_since behind more name tie file id stateid None none s = tt
asked_since behind more name tie file id stateid (Some a) none s = record { out = asked_later behind more name tie file a.xid a.ask none s.out; returns = s.returns }

module _ (past : List HistoryItem) (held : ℕ) (name : List ℕ) (tie : Tie) (file : Option OpenFile) (asked : Option Asked) (stateid : Stateid) (writer : WriterValue) (o : LayoutOf past held name tie file asked stateid writer) (more : List HistoryItem) where
  -- with another writer, and another compound
  pub layout_later : (asked' : Option Asked) (stateid' : Stateid) (writer' : WriterValue) → stateid' ≡ stateid → writer'.cred ≡ writer.cred → writer_ids writer' ≡ writer_ids writer → WriterStands (o.behind ++ more) name any_server writer' → IfThere asked' (λ a. AskedSince (o.behind ++ more) name tie file o.other.file o.grant.stateid a.xid a.ask)
      → LayoutOf (past ++ more) held name tie file asked' stateid' writer'
  layout_later asked' stateid' writer' same cred ids stands since = record {
    session = o.session;
    sequence = o.sequence;
    other = o.other;
    says = o.says;
    behind = o.behind ++ more;
    heard = heard_later past more held name (OnSlot o.session o.sequence (slot.LayoutGet o.other)) o.says o.behind o.heard;
    quiet = o.quiet;
    final = o.final;
    grant = o.grant;
    is = o.is;
    stateid_is = same ∙ o.stateid_is;
    uid_is = cred ∙ o.uid_is;
    ids_are = ids ∙ o.ids_are;
    file_is = o.file_is;
    on = o.on;
    stands = stands;
    since = since;
  }

  pub writer_behind : WriterStands (o.behind ++ more) name any_server writer
  writer_behind = writer_later o.behind name any_server writer o.stands more any_server (λ server is. is)

  pub since_behind : AllByRecursion IsNoCompound more → IfThere asked (λ a. AskedSince (o.behind ++ more) name tie file o.other.file o.grant.stateid a.xid a.ask)
  since_behind none = asked_since o.behind more name tie file o.other.file o.grant.stateid asked none o.since

-- a compound is in the longer history just where it was in the first
pub sent_before : (past more : List HistoryItem) → AllByRecursion IsNoCompound more → (xid : ℕ) (name : List ℕ) (call : MdsCallValue) → HasItem (past ++ more) (Sends (CallsMds xid name call)) → HasItem past (Sends (CallsMds xid name call))
sent_before past more none xid name call i = by_place (in_either past more (Sends (CallsMds xid name call)) i)
  where
    no_item : (more : List HistoryItem) → AllByRecursion IsNoCompound more → HasItem more (Sends (CallsMds xid name call)) → ⊥
    no_item [] none i = i
    no_item (x ∷ more) none (inl (same, rest)) = subst IsNoCompound (sym same) none.0
    no_item (x ∷ more) none (inr i) = no_item more none.1 i

    by_place : HasItem past (Sends (CallsMds xid name call)) ⊎ HasItem more (Sends (CallsMds xid name call)) → HasItem past (Sends (CallsMds xid name call))
    by_place (inl i) = i
    by_place (inr i) = absurd (no_item more none i)

-- what was settled, or will be by another layout and compound
pub settles_later : (past more : List HistoryItem) (layout layout' : Option Layout) (asked asked' : Option Asked) (held held' : ℕ) → AllByRecursion IsNoCompound more
    → ((xid : ℕ) → IsOut asked xid → IsOut asked' xid) → ((xid : ℕ) → IsHeld layout held xid → IsHeld layout' held' xid) → AreSettled past layout asked held → AreSettled (past ++ more) layout' asked' held'
settles_later past more layout layout' asked asked' held held' none outs holds all xid name session sequence other i =
    by_way (all xid name session sequence other (sent_before past more none xid name (OnSlot session sequence (slot.LayoutGet other)) i))
  where
    by_way : IsOut asked xid ⊎ (IsHeld layout held xid ⊎ IsAskSettled past xid name session sequence other) → IsOut asked' xid ⊎ (IsHeld layout' held' xid ⊎ IsAskSettled (past ++ more) xid name session sequence other)
    by_way (inl out) = inl (outs xid out)
    by_way (inr (inl holding)) = inr (inl (holds xid holding))
    by_way (inr (inr s)) = inr (inr (settled_later past more xid name session sequence other s))

pub same_held : (old new : Option Layout) (held : ℕ) → ((l : Layout) → old ≡ Some l → (k : Layout) × (new ≡ Some k)) → (xid : ℕ) → IsHeld old held xid → IsHeld new held xid
same_held None new held keeps xid holding = absurd holding
same_held (Some l) new held keeps xid holding = subst (λ (o : Option Layout). IsHeld o held xid) (sym (keeps l refl).1) holding

-- ---- another layout in the place of one

-- of the same stateid, with a writer that stands where the old one does
pub record KeepsLayout (name : List ℕ) (l new : Layout) : Type 0 where
  pub stateid : new.stateid ≡ l.stateid
  pub cred : new.writer.cred ≡ l.writer.cred
  pub ids : writer_ids new.writer ≡ writer_ids l.writer
  pub stands : (h : List HistoryItem) → WriterStands h name any_server l.writer → WriterStands h name any_server new.writer

pub keeps_itself : (name : List ℕ) (l : Layout) → KeepsLayout name l l
keeps_itself name l = record { stateid = refl; cred = refl; ids = refl; stands = λ h s. s }

pub ending_keeps : (name : List ℕ) (l : Layout) → KeepsLayout name l (ending l)
ending_keeps name l = by_stage l.stage
  where
    by_stage : (stage : LayoutStage) → KeepsLayout name l (ends_layout l stage)
    by_stage Writing = record { stateid = refl; cred = refl; ids = refl; stands = λ h s. s }
    by_stage Ending = record { stateid = refl; cred = refl; ids = refl; stands = λ h s. s }
    by_stage Deferred = record { stateid = refl; cred = refl; ids = refl; stands = λ h s. s }
    by_stage Returning = record { stateid = refl; cred = refl; ids = refl; stands = λ h s. s }

-- of what there is
abbrev pub KeepsSome : List ℕ → Option Layout → Option Layout → Type 0
KeepsSome name None None = Unit {0}
KeepsSome name (Some l) (Some new) = KeepsLayout name l new
KeepsSome name old new = ⊥

pub some_held : (name : List ℕ) (old new : Option Layout) (held xid : ℕ) → KeepsSome name old new → IsHeld old held xid → IsHeld new held xid
some_held name None None held xid keeps holding = absurd holding
some_held name None (Some new) held xid keeps holding = absurd keeps
some_held name (Some l) None held xid keeps holding = absurd keeps
some_held name (Some l) (Some new) held xid keeps holding = holding

pub some_later : (past more : List HistoryItem) (held : ℕ) (name : List ℕ) (tie : Tie) (file : Option OpenFile) (asked : Option Asked) (old new : Option Layout) → AllByRecursion IsNoCompound more → KeepsSome name old new
    → IfThere old (λ l. LayoutOf past held name tie file asked l.stateid l.writer) → IfThere new (λ l. LayoutOf (past ++ more) held name tie file asked l.stateid l.writer)
some_later past more held name tie file asked None None none keeps o = tt
some_later past more held name tie file asked None (Some new) none keeps o = absurd keeps
some_later past more held name tie file asked (Some l) None none keeps o = absurd keeps
some_later past more held name tie file asked (Some l) (Some new) none keeps o =
    layout_later past held name tie file asked l.stateid l.writer o more asked new.stateid new.writer keeps.stateid keeps.cred keeps.ids
    (keeps.stands (o.behind ++ more) (writer_behind past held name tie file asked l.stateid l.writer o more)) (since_behind past held name tie file asked l.stateid l.writer o more none)

module _ (past : List HistoryItem) (c : ClientValue) (i : Layouts past c) where
  -- a longer history, and another layout
  pub layouts_later : (more : List HistoryItem) (layout : Option Layout) → AllByRecursion IsNoCompound more → (c.has_left ≡ false → AllByRecursion HasNotLeft more) → KeepsSome c.name c.layout layout
      → LayoutsOf (past ++ more) c.name c.tie c.file layout c.asked c.has_left
  layouts_later more layout none left keeps = record {
    held = i.held;
    layout_of = some_later past more i.held c.name c.tie c.file c.asked c.layout layout none keeps i.layout_of;
    settles = settles_later past more c.layout layout c.asked c.asked i.held i.held none (λ xid out. out) (λ xid. some_held c.name c.layout layout i.held xid keeps) i.settles;
    left = λ stays. all_more HasNotLeft past more (i.left stays) (left stays);
  }

  pub same_some : KeepsSome c.name c.layout c.layout
  same_some = by_layout c.layout
    where
      by_layout : (layout : Option Layout) → KeepsSome c.name layout layout
      by_layout None = tt
      by_layout (Some l) = keeps_itself c.name l

  pub there_some : (l new : Layout) → c.layout ≡ Some l → KeepsLayout c.name l new → KeepsSome c.name c.layout (Some new)
  there_some l new at keeps = subst (λ (o : Option Layout). KeepsSome c.name o (Some new)) (sym at) keeps

  pub later : (item : HistoryItem) → IsNoCompound item → HasNotLeft item → LayoutsOf (past ++ item ∷ []) c.name c.tie c.file c.layout c.asked c.has_left
  later item none stays = layouts_later (item ∷ []) c.layout (none, tt) (λ is. (stays, tt)) same_some

  pub relayout : (layout : Option Layout) → KeepsSome c.name c.layout layout → LayoutsOf past c.name c.tie c.file layout c.asked c.has_left
  relayout layout keeps = subst (λ h. LayoutsOf h c.name c.tie c.file layout c.asked c.has_left) (append-nil past) (layouts_later [] layout tt (λ is. tt) keeps)

  pub its_layout : (l : Layout) → c.layout ≡ Some l → LayoutOf past i.held c.name c.tie c.file c.asked l.stateid l.writer
  its_layout l at = subst (λ (o : Option Layout). IfThere o (λ l. LayoutOf past i.held c.name c.tie c.file c.asked l.stateid l.writer)) at i.layout_of

  -- there is a grant under its uid
  pub has_grant : (l : Layout) → c.layout ≡ Some l → HasGrant past l.writer.cred
  has_grant l at =
      let o : LayoutOf past i.held c.name c.tie c.file c.asked l.stateid l.writer = its_layout l at in
      record { grant = o.grant; granted = granted_of past i.held c.name o.session o.sequence o.other o.says o.behind o.grant o.heard o.is; its_uid = sym o.uid_is }

  -- it is for the file that is open
  pub has_grant_for : (file : OpenFile) (l : Layout) → c.file ≡ Some file → c.layout ≡ Some l → HasGrantFor past file.file l.writer.cred
  has_grant_for file l there at =
      let o : LayoutOf past i.held c.name c.tie c.file c.asked l.stateid l.writer = its_layout l at in
      record {
        grant = o.grant;
        granted = granted_of past i.held c.name o.session o.sequence o.other o.says o.behind o.grant o.heard o.is;
        its_uid = sym o.uid_is;
        its_file = ap (λ (f : OpenFile). f.file) (same_Some o.other file (sym o.file_is ∙ there));
      }

pub stays_item : (input : ClientInput) → IsStaying input → HasNotLeft (Hears input)
stays_item (Requested request) stays = tt
stays_item (Recorded from bytes now) stays = tt
stays_item (TimeoutOf to) stays = tt
stays_item (Ticked now) stays = tt
stays_item LeftProtocol stays = absurd stays
stays_item (Strayed place at bytes) stays = tt
