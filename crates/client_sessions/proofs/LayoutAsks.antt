-- A compound goes out, by a client that holds a layout or none.
use Rattle.std.proofs.Common.{◌≡◌, ℕ, Bool, true, false, List, [], ◌∷◌, ◌++◌, Option, Some, None, refl, sym, ap, subst, ◌∙◌, inl, inr, ◌⊎◌}
use Rattle.std.specs.List.{AllByRecursion}
use Rattle.std.proofs.lemmas.Option.{none-some, same_Some}
use Rattle.nfs4_types.specs.declared.ids.SessionId.{SessionId}
use Rattle.nfs4_types.specs.declared.stateid.Stateid.{Stateid}
use Rattle.cluster_model.specs.declared.ids.FileId.{FileId}
use Rattle.client_file_calls.specs.declared.open.OpenFile.{OpenFile}
use Rattle.client_file_calls.specs.declared.grant.LayoutGrant.{LayoutGrant}
use Rattle.client_file_calls.specs.declared.layout_return.FailedMirror.{FailedMirror}
use Rattle.client_mds_calls.specs.declared.ask.MdsAsk.{MdsAsk}
use Rattle.client_mds_calls.specs.declared.ask.MdsAsk.TheVariants as ask
use Rattle.client_mds_calls.specs.MdsCalls.{MdsCallValue, ExchangeId, CreateSession, OnSlot, SlotCallValue, ask_of}
use Rattle.client_mds_calls.specs.MdsCalls as slot
use Rattle.client_mds_calls.specs.MdsCompounds.{mds_call_bytes}
use Rattle.client_state.specs.declared.layout.Layout.{Layout}
use Rattle.client_state.specs.declared.asked.Asked.{Asked}
use Rattle.client_state.specs.declared.tie.Tie.{Tie}
use Rattle.client_state.specs.declared.tie.Tie.TheVariants.{NoClient, HasClient, HasSession}
use Rattle.client_state.specs.ClientStates.{ClientValue}
use Rattle.client_state.specs.ClientSends.{ClientSend, CallsMds}
use Rattle.client_calls.specs.ClientCalls.{returning, layout_asked}
use Rattle.client_laws.specs.ClientHistory.{HistoryItem, Sends, HasItem}
use Rattle.client_laws.specs.ClientRunLaws.{WasGranted}
use Rattle.client_laws.proofs.Orders.{in_either}
use Rattle.client_laws.proofs.Stands.{IfThere, IsOut}
use Rattle.client_sessions.specs.LayoutEnds.{IsAskSettled, AsksSettled, AsksOnSlot, IsGrantOf, ReturnsAsGranted, ReturnsGrantOnSlot, HasNotLeft}
use Rattle.client_sessions.proofs.HeardLater.{all_more, settled_later, granted_of}
use Rattle.client_sessions.proofs.CallsMade.{IsOnSession, IsBy, IsReturnOf, IsSlotOf, IsCallOf, KindStands, IsMade}
use Rattle.client_sessions.proofs.SlotStands.{file_of, asked_now}
use Rattle.client_sessions.proofs.LayoutsHeld.{any_server, IsHere, IsSlotReturn, IsReturnCall, LayoutOf, IsHeld, AreSettled, LayoutsOf, Layouts, layout_later, writer_behind, KeepsLayout, KeepsSome, keeps_itself, some_held, its_layout}

-- the number of a compound
abbrev xid_of : HistoryItem → ℕ
xid_of (Sends (CallsMds xid name call)) = xid
xid_of item = 0

itself : (name : List ℕ) (layout : Option Layout) → KeepsSome name layout layout
itself name None = tt
itself name (Some l) = keeps_itself name l

-- what goes out changes at most the stage
pub asked_keeps : (name : List ℕ) (kind : MdsAsk) (layout : Option Layout) → KeepsSome name layout (layout_asked kind layout)
asked_keeps name ask.LayoutReturn None = tt
asked_keeps name ask.LayoutReturn (Some l) = record { stateid = refl; cred = refl; ids = refl; stands = λ h s. s }
asked_keeps name ask.ExchangeId layout = itself name layout
asked_keeps name ask.CreateSession layout = itself name layout
asked_keeps name ask.ReclaimComplete layout = itself name layout
asked_keeps name ask.Open layout = itself name layout
asked_keeps name ask.LayoutGet layout = itself name layout
asked_keeps name (ask.DeviceInfo count) layout = itself name layout
asked_keeps name ask.Write layout = itself name layout
asked_keeps name (ask.Read at count) layout = itself name layout
asked_keeps name ask.Renew layout = itself name layout

-- ---- a LAYOUTRETURN is of the layout

is_return : (file : Option OpenFile) (other : OpenFile) → file ≡ Some other → (layout : Option Layout) (l : Layout) → layout ≡ Some l → (stateid : Stateid) → l.stateid ≡ stateid → (call : MdsCallValue) → IsCallOf file layout call → IsReturnCall other.file stateid call
is_return file other there layout l at stateid same (ExchangeId verifier) its = tt
is_return file other there layout l at stateid same (CreateSession clientid sequence) its = tt
is_return file other there layout l at stateid same (OnSlot session sequence call) its = by_slot call (subst (λ (o : Option OpenFile). IsSlotOf o (Some l) call) there (subst (λ (o : Option Layout). IsSlotOf file o call) at its))
  where
    by_slot : (call : SlotCallValue) → IsSlotOf (Some other) (Some l) call → IsSlotReturn other.file stateid call
    by_slot (slot.LayoutReturn id state failed) its = (its.0, its.1 ∙ same)
    by_slot (slot.LayoutGet f) its = tt
    by_slot slot.ReclaimComplete its = tt
    by_slot (slot.Open name) its = tt
    by_slot (slot.DeviceInfo servers) its = tt
    by_slot (slot.Write f place bytes) its = tt
    by_slot (slot.Read f place count) its = tt
    by_slot slot.Renew its = tt

same_session : (tie : Tie) (session other : SessionId) (sequence : ℕ) → IsHere tie session → IsOnSession tie other sequence → session ≡ other
same_session NoClient session other sequence here by = absurd here
same_session (HasClient clientid number) session other sequence here by = absurd here
same_session (HasSession s) session other sequence here by = sym here ∙ by.0

module _ (past : List HistoryItem) (c : ClientValue) (kind : MdsAsk) (call : MdsCallValue) (none : c.asked ≡ None) (m : IsMade c kind call) (stands : KindStands c.file c.layout c.devices kind) (i : Layouts past c) where
  abbrev item : HistoryItem
  item = Sends (CallsMds c.next_xid c.name call)

  no_get : (session : SessionId) (sequence : ℕ) (f : OpenFile) → call ≡ OnSlot session sequence (slot.LayoutGet f) → c.layout ≡ None
  no_get session sequence f same = subst (KindStands c.file c.layout c.devices) (sym m.kind_is ∙ ap ask_of same) stands

  -- each LAYOUTGET before is settled
  all_settled : c.layout ≡ None → (xid : ℕ) (name : List ℕ) (session : SessionId) (sequence : ℕ) (other : OpenFile) → HasItem past (Sends (CallsMds xid name (OnSlot session sequence (slot.LayoutGet other)))) → IsAskSettled past xid name session sequence other
  all_settled empty xid name session sequence other i' = by_way (i.settles xid name session sequence other i')
    where
      by_way : IsOut c.asked xid ⊎ (IsHeld c.layout i.held xid ⊎ IsAskSettled past xid name session sequence other) → IsAskSettled past xid name session sequence other
      by_way (inl out) = absurd (subst (λ (o : Option Asked). IsOut o xid) none out)
      by_way (inr (inl holding)) = absurd (subst (λ (o : Option Layout). IsHeld o i.held xid) empty holding)
      by_way (inr (inr s)) = s

  pub asks_one : AsksOnSlot past call
  asks_one = by_call call refl
    where
      by_slot : (session : SessionId) (sequence : ℕ) (k : SlotCallValue) → call ≡ OnSlot session sequence k → AsksSettled past k
      by_slot session sequence (slot.LayoutGet f) same = all_settled (no_get session sequence f same)
      by_slot session sequence slot.ReclaimComplete same = tt
      by_slot session sequence (slot.Open name) same = tt
      by_slot session sequence (slot.DeviceInfo servers) same = tt
      by_slot session sequence (slot.Write f at bytes) same = tt
      by_slot session sequence (slot.Read f at count) same = tt
      by_slot session sequence (slot.LayoutReturn id state failed) same = tt
      by_slot session sequence slot.Renew same = tt

      by_call : (k : MdsCallValue) → call ≡ k → AsksOnSlot past k
      by_call (ExchangeId verifier) same = tt
      by_call (CreateSession clientid sequence) same = tt
      by_call (OnSlot session sequence k) same = by_slot session sequence k same

  -- what is given back was granted
  own_return : (session : SessionId) (sequence : ℕ) (id : FileId) (state : Stateid) (failed : List FailedMirror) → IsOnSession c.tie session sequence → (file : Option OpenFile) → c.file ≡ file → (layout : Option Layout) → c.layout ≡ layout → IsReturnOf file layout id state failed
      → (grant : LayoutGrant) × (grant.stateid ≡ state) × IsGrantOf past session id grant
  own_return session sequence id state failed by None there layout at its = absurd its
  own_return session sequence id state failed by (Some f) there None at its = absurd its
  own_return session sequence id state failed by (Some f) there (Some l) at its =
      let o : LayoutOf past i.held c.name c.tie c.file c.asked l.stateid l.writer = its_layout past c i l at in (
        o.grant,
        sym o.stateid_is ∙ sym its.1,
        record {
          granted = granted_of past i.held c.name o.session o.sequence o.other o.says o.behind o.grant o.heard o.is;
          its_session = same_session c.tie o.session session sequence o.on by;
          its_file = ap (λ (k : OpenFile). k.file) (same_Some o.other f (sym o.file_is ∙ there)) ∙ sym its.0;
        },
      )

  pub returns_own : ReturnsGrantOnSlot past call
  returns_own = by_call call m.by m.its
    where
      by_slot : (session : SessionId) (sequence : ℕ) (k : SlotCallValue) → IsOnSession c.tie session sequence → IsSlotOf c.file c.layout k → ReturnsAsGranted past k session
      by_slot session sequence (slot.LayoutReturn id state failed) by its = own_return session sequence id state failed by c.file refl c.layout refl its
      by_slot session sequence (slot.LayoutGet f) by its = tt
      by_slot session sequence slot.ReclaimComplete by its = tt
      by_slot session sequence (slot.Open name) by its = tt
      by_slot session sequence (slot.DeviceInfo servers) by its = tt
      by_slot session sequence (slot.Write f at bytes) by its = tt
      by_slot session sequence (slot.Read f at count) by its = tt
      by_slot session sequence slot.Renew by its = tt

      by_call : (k : MdsCallValue) → IsBy c.tie k → IsCallOf c.file c.layout k → ReturnsGrantOnSlot past k
      by_call (ExchangeId verifier) by its = tt
      by_call (CreateSession clientid sequence) by its = tt
      by_call (OnSlot session sequence k) by its = by_slot session sequence k by its

  -- it is out from now on
  abbrev its_asked : Asked
  its_asked = record { xid = c.next_xid; ask = kind; message = mds_call_bytes c.next_xid c.name call; is_late = false }

  held_then : (old new : Option Layout) → c.layout ≡ old → KeepsSome c.name old new
      → IfThere new (λ l. LayoutOf (past ++ Sends (CallsMds c.next_xid c.name call) ∷ []) i.held c.name c.tie c.file (Some (record { xid = c.next_xid; ask = kind; message = mds_call_bytes c.next_xid c.name call; is_late = false })) l.stateid l.writer)
  held_then None None at keeps = tt
  held_then None (Some new) at keeps = absurd keeps
  held_then (Some l) None at keeps = absurd keeps
  held_then (Some l) (Some new) at keeps =
      let o : LayoutOf past i.held c.name c.tie c.file c.asked l.stateid l.writer = its_layout past c i l at in
      layout_later past i.held c.name c.tie c.file c.asked l.stateid l.writer o (item ∷ []) (Some its_asked) new.stateid new.writer keeps.stateid keeps.cred keeps.ids
      (keeps.stands (o.behind ++ item ∷ []) (writer_behind past i.held c.name c.tie c.file c.asked l.stateid l.writer o (item ∷ [])))
      (record {
        out = asked_now o.behind c.name c.tie c.file c.next_xid kind call m.kind_is m.by (file_of c.file c.layout call m.its);
        returns = is_return c.file o.other o.file_is c.layout l at o.grant.stateid o.stateid_is call m.its;
      })

  pub layouts_asked : LayoutsOf (past ++ Sends (CallsMds c.next_xid c.name call) ∷ []) c.name c.tie c.file (layout_asked kind c.layout) (Some (record { xid = c.next_xid; ask = kind; message = mds_call_bytes c.next_xid c.name call; is_late = false })) c.has_left
  layouts_asked = record {
    held = i.held;
    layout_of = held_then c.layout (layout_asked kind c.layout) refl (asked_keeps c.name kind c.layout);
    settles = λ xid name session sequence other i'. by_place xid name session sequence other (in_either past (item ∷ []) (Sends (CallsMds xid name (OnSlot session sequence (slot.LayoutGet other)))) i');
    left = λ is. all_more HasNotLeft past (item ∷ []) (i.left is) (tt, tt);
  }
    where
      by_way : (xid : ℕ) (name : List ℕ) (session : SessionId) (sequence : ℕ) (other : OpenFile) → IsOut c.asked xid ⊎ (IsHeld c.layout i.held xid ⊎ IsAskSettled past xid name session sequence other)
          → (c.next_xid ≡ xid) ⊎ (IsHeld (layout_asked kind c.layout) i.held xid ⊎ IsAskSettled (past ++ Sends (CallsMds c.next_xid c.name call) ∷ []) xid name session sequence other)
      by_way xid name session sequence other (inl out) = absurd (subst (λ (o : Option Asked). IsOut o xid) none out)
      by_way xid name session sequence other (inr (inl holding)) = inr (inl (some_held c.name c.layout (layout_asked kind c.layout) i.held xid (asked_keeps c.name kind c.layout) holding))
      by_way xid name session sequence other (inr (inr s)) = inr (inr (settled_later past (item ∷ []) xid name session sequence other s))

      by_place : (xid : ℕ) (name : List ℕ) (session : SessionId) (sequence : ℕ) (other : OpenFile)
          → HasItem past (Sends (CallsMds xid name (OnSlot session sequence (slot.LayoutGet other)))) ⊎ HasItem (Sends (CallsMds c.next_xid c.name call) ∷ []) (Sends (CallsMds xid name (OnSlot session sequence (slot.LayoutGet other))))
          → (c.next_xid ≡ xid) ⊎ (IsHeld (layout_asked kind c.layout) i.held xid ⊎ IsAskSettled (past ++ Sends (CallsMds c.next_xid c.name call) ∷ []) xid name session sequence other)
      by_place xid name session sequence other (inl i') = by_way xid name session sequence other (i.settles xid name session sequence other i')
      by_place xid name session sequence other (inr (inl (same, rest))) = inl (sym (ap xid_of same))
      by_place xid name session sequence other (inr (inr i')) = absurd i'
