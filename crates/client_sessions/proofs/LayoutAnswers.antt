-- An answer of the metadata server, by a client that holds a layout or none.
use Rattle.std.proofs.Common.{◌≡◌, ℕ, false, List, [], ◌∷◌, ◌++◌, Option, Some, None, refl, sym, ap, subst, ◌∙◌, inl, inr, ◌⊎◌, arith}
use Rattle.std.specs.Prelude.{slice_get, option_map}
use Rattle.std.specs.List.{AllByRecursion}
use Rattle.std.proofs.lemmas.Option.{none-some, same_Some, slice_get-map}
use Rattle.rpc_record.specs.Replies.{RpcReply}
use Rattle.nfs4_types.specs.declared.ids.SessionId.{SessionId}
use Rattle.nfs4_types.specs.declared.stateid.Stateid.{Stateid}
use Rattle.cluster_model.specs.declared.ids.NodeId.TheVariants.{Mds}
use Rattle.cluster_model.specs.declared.ids.Mirror.{Mirror}
use Rattle.mirror_writer.specs.Writers.{WriterValue, new_writer, new_mirror}
use Rattle.client_file_calls.specs.declared.open.OpenFile.{OpenFile}
use Rattle.client_file_calls.specs.declared.grant.LayoutGrant.{LayoutGrant}
use Rattle.client_mds_calls.specs.declared.ask.MdsAsk.TheVariants as ask
use Rattle.client_mds_calls.specs.declared.reply.SlotReport.TheVariants.{Delayed}
use Rattle.client_mds_calls.specs.MdsCalls.{MdsCallValue, ExchangeId, CreateSession, OnSlot, SlotCallValue, ask_on_slot, ask_of}
use Rattle.client_mds_calls.specs.MdsCalls as slot
use Rattle.client_mds_calls.specs.MdsReplies.{Granted}
use Rattle.client_state.specs.declared.layout.Layout.{Layout}
use Rattle.client_state.specs.declared.asked.Asked.{Asked}
use Rattle.client_state.specs.declared.tie.Tie.{Tie}
use Rattle.client_state.specs.declared.tie.Tie.TheVariants.{NoClient, HasClient, HasSession}
use Rattle.client_state.specs.ClientStates.{ClientValue}
use Rattle.client_state.specs.ClientSends.{CallsMds}
use Rattle.client_answers.specs.ClientAnswers.{new_layout}
use Rattle.client_laws.specs.ClientHistory.{ClientInput, HistoryItem, Hears, Sends, Recorded, HasItem}
use Rattle.client_laws.proofs.Stands.{WriterStands, MirrorStands, writer_ids, IfThere, IsOut}
use Rattle.client_laws.proofs.GrantFacts.{granted_kind}
use Rattle.client_records.proofs.Cases.{IsAnswered, said, heard_mds}
use Rattle.client_records.proofs.EachRun.{Base}
use Rattle.client_sessions.specs.LayoutEnds.{HasLayoutEnded, IsAskSettled, HasNotLeft}
use Rattle.client_sessions.proofs.HeardLater.{all_more, heard_later, settled_later}
use Rattle.client_sessions.proofs.WriterIds.{new_ids}
use Rattle.client_sessions.proofs.CallsMade.{IsOnSession, IsBy}
use Rattle.client_sessions.proofs.SlotStands.{AskedOut, IsSlotFile, IsFileOf, asked_heard}
use Rattle.client_sessions.proofs.Settling.{out_settles, layout_settles}
use Rattle.client_sessions.proofs.LayoutsHeld.{any_server, IsHere, LayoutOf, IsHeld, LayoutsOf, Layouts, KeepsSome, some_held, sent_before, its_layout, writer_behind}

-- ---- a new layout

-- nothing is under way at its mirrors
fresh_stands : (name : List ℕ) (cred : ℕ) (mirrors : List Mirror) → WriterStands [] name any_server (new_writer mirrors cred)
fresh_stands name cred mirrors place m there = by_mirror (slice_get mirrors place) refl (sym (slice_get-map new_mirror mirrors place) ∙ there)
  where
    by_mirror : (o : Option Mirror) → slice_get mirrors place ≡ o → option_map new_mirror o ≡ Some m → MirrorStands [] name cred [] any_server m
    by_mirror None at is = absurd (none-some m is)
    by_mirror (Some k) at is = subst (MirrorStands [] name cred [] any_server) (same_Some (new_mirror k) m is) (fresh_mirror k)
      where
        fresh_mirror : (k : Mirror) → MirrorStands [] name cred [] any_server (new_mirror k)
        fresh_mirror k = record {
          size = refl;
          call = tt;
          answered = tt;
          covered = λ n is. absurd cc;
          reported = λ is. refl;
          counts = record { once = λ n. omega arith; taken = λ n past. refl; wanted = λ is. absurd cc; idle = λ is. refl };
        }

-- ---- a layout that is held still

-- with another tie, and another file, of which as much holds
module _ (past : List HistoryItem) (held : ℕ) (name : List ℕ) (tie : Tie) (file : Option OpenFile) (asked : Option Asked) (stateid : Stateid) (writer : WriterValue) (o : LayoutOf past held name tie file asked stateid writer) (more : List HistoryItem) where
  pub layout_answered : (tie' : Tie) (file' : Option OpenFile) (stateid' : Stateid) (writer' : WriterValue) → ((session : SessionId) → IsHere tie session → IsHere tie' session) → ((f : OpenFile) → file ≡ Some f → file' ≡ Some f) → stateid' ≡ stateid → writer'.cred ≡ writer.cred
      → writer_ids writer' ≡ writer_ids writer → WriterStands (o.behind ++ more) name any_server writer' → LayoutOf (past ++ more) held name tie' file' None stateid' writer'
  layout_answered tie' file' stateid' writer' here there same cred ids stands = record {
    session = o.session;
    sequence = o.sequence;
    other = o.other;
    says = o.says;
    behind = o.behind ++ more;
    heard = heard_later past more held name (OnSlot o.session o.sequence (slot.LayoutGet o.other)) o.says o.behind o.heard;
    quiet = o.quiet;
    final = o.final;
    grant = o.grant;
    is = o.is;
    stateid_is = same ∙ o.stateid_is;
    uid_is = cred ∙ o.uid_is;
    ids_are = ids ∙ o.ids_are;
    file_is = there o.other o.file_is;
    on = here o.session o.on;
    stands = stands;
    since = tt;
  }

-- what keeps a layout that is there
pub record KeepsHold (c : ClientValue) (tie : Tie) (file : Option OpenFile) : Type 0 where
  pub here : (session : SessionId) → IsHere c.tie session → IsHere tie session
  pub there : (f : OpenFile) → c.file ≡ Some f → file ≡ Some f

module _ (h : List HistoryItem) (c : ClientValue) (a : Asked) (bytes : List ℕ) (now : ℕ) (reply : RpcReply) (s : IsAnswered Base (λ (input : ClientInput). Unit {0}) h c a bytes now reply) (out : AskedOut h c.name c.tie c.file a.xid a.ask) (i : Layouts h c) where
  abbrev item : HistoryItem
  item = Hears (Recorded Mds bytes now)

  -- what is settled, where the reply is final and grants nothing
  settles : (layout : Option Layout) → ((said a reply).slot ≡ Delayed → ⊥) → ((g : LayoutGrant) → (said a reply).answer ≡ Granted g → ⊥)
      → ((xid : ℕ) (name : List ℕ) (session : SessionId) (sequence : ℕ) (other : OpenFile) → HasItem h (Sends (CallsMds xid name (OnSlot session sequence (slot.LayoutGet other)))) → IsHeld c.layout i.held xid → IsHeld layout i.held xid ⊎ IsAskSettled (heard_mds h bytes now) xid name session sequence other)
      → (xid : ℕ) (name : List ℕ) (session : SessionId) (sequence : ℕ) (other : OpenFile) → HasItem (heard_mds h bytes now) (Sends (CallsMds xid name (OnSlot session sequence (slot.LayoutGet other)))) → IsOut None xid ⊎ (IsHeld layout i.held xid ⊎ IsAskSettled (heard_mds h bytes now) xid name session sequence other)
  settles layout final none holds xid name session sequence other j = by_way (before j) (i.settles xid name session sequence other (before j))
    where
      before : HasItem (heard_mds h bytes now) (Sends (CallsMds xid name (OnSlot session sequence (slot.LayoutGet other)))) → HasItem h (Sends (CallsMds xid name (OnSlot session sequence (slot.LayoutGet other))))
      before j = sent_before h (item ∷ []) (tt, tt) xid name (OnSlot session sequence (slot.LayoutGet other)) j

      by_way : HasItem h (Sends (CallsMds xid name (OnSlot session sequence (slot.LayoutGet other)))) → IsOut c.asked xid ⊎ (IsHeld c.layout i.held xid ⊎ IsAskSettled h xid name session sequence other)
          → IsOut None xid ⊎ (IsHeld layout i.held xid ⊎ IsAskSettled (heard_mds h bytes now) xid name session sequence other)
      by_way j (inl is) =
          inr (inr (out_settles h c.name c.tie c.file a.xid a.ask out bytes now reply s.reply_is s.number c.next_xid s.base.0.numbers final none xid name session sequence other (subst (λ (o : Option Asked). IsOut o xid) s.out is) j))
      by_way j (inr (inl holding)) = inr (holds xid name session sequence other j holding)
      by_way j (inr (inr t)) = inr (inr (settled_later h (item ∷ []) xid name session sequence other t))

  stays_left : c.has_left ≡ false → AllByRecursion HasNotLeft (heard_mds h bytes now)
  stays_left is = all_more HasNotLeft h (item ∷ []) (i.left is) (tt, tt)

  held_still : (tie : Tie) (file : Option OpenFile) (old new : Option Layout) → c.layout ≡ old → KeepsSome c.name old new → ((l : Layout) → c.layout ≡ Some l → KeepsHold c tie file)
      → IfThere new (λ l. LayoutOf (heard_mds h bytes now) i.held c.name tie file None l.stateid l.writer)
  held_still tie file None None at keeps holds = tt
  held_still tie file None (Some new) at keeps holds = absurd keeps
  held_still tie file (Some l) None at keeps holds = absurd keeps
  held_still tie file (Some l) (Some new) at keeps holds =
      let o : LayoutOf h i.held c.name c.tie c.file c.asked l.stateid l.writer = its_layout h c i l at in
      layout_answered h i.held c.name c.tie c.file c.asked l.stateid l.writer o (item ∷ []) tie file new.stateid new.writer (holds l at).here (holds l at).there keeps.stateid keeps.cred keeps.ids
      (keeps.stands (o.behind ++ item ∷ []) (writer_behind h i.held c.name c.tie c.file c.asked l.stateid l.writer o (item ∷ [])))

  -- the layout is held still
  pub answered : (tie : Tie) (file : Option OpenFile) (layout : Option Layout) → KeepsSome c.name c.layout layout → ((l : Layout) → c.layout ≡ Some l → KeepsHold c tie file) → ((said a reply).slot ≡ Delayed → ⊥) → ((g : LayoutGrant) → (said a reply).answer ≡ Granted g → ⊥)
      → LayoutsOf (heard_mds h bytes now) c.name tie file layout None c.has_left
  answered tie file layout keeps holds final none = record {
    held = i.held;
    layout_of = held_still tie file c.layout layout refl keeps holds;
    settles = settles layout final none (λ xid name session sequence other j holding. inl (some_held c.name c.layout layout i.held xid keeps holding));
    left = stays_left;
  }

  -- it has ended, if it was there
  pub ended : (tie : Tie) (file : Option OpenFile) → ((l : Layout) (at : c.layout ≡ Some l) → HasLayoutEnded ((its_layout h c i l at).behind ++ Hears (Recorded Mds bytes now) ∷ []) (its_layout h c i l at).session (its_layout h c i l at).other.file (its_layout h c i l at).grant)
      → ((said a reply).slot ≡ Delayed → ⊥) → ((g : LayoutGrant) → (said a reply).answer ≡ Granted g → ⊥) → LayoutsOf (heard_mds h bytes now) c.name tie file None None c.has_left
  ended tie file ends final none = record {
    held = i.held;
    layout_of = tt;
    settles = settles None final none (λ xid name session sequence other j holding. inr (by_layout xid name session sequence other j c.layout refl (holding)));
    left = stays_left;
  }
    where
      by_layout : (xid : ℕ) (name : List ℕ) (session : SessionId) (sequence : ℕ) (other : OpenFile) → HasItem h (Sends (CallsMds xid name (OnSlot session sequence (slot.LayoutGet other)))) → (layout : Option Layout) → c.layout ≡ layout → IsHeld layout i.held xid
          → IsAskSettled (heard_mds h bytes now) xid name session sequence other
      by_layout xid name session sequence other j None at holding = absurd holding
      by_layout xid name session sequence other j (Some l) at holding =
          layout_settles h i.held c.name c.tie c.file c.asked l.stateid l.writer (its_layout h c i l at) (item ∷ []) c.next_xid s.base.0.numbers (ends l at) xid name session sequence other holding j

  -- ---- a layout is granted

  pub granted : (tie : Tie) → ((session : SessionId) → IsHere c.tie session → IsHere tie session) → c.layout ≡ None → ((said a reply).slot ≡ Delayed → ⊥) → (g : LayoutGrant) → (said a reply).answer ≡ Granted g
      → LayoutsOf (heard_mds h bytes now) c.name tie c.file (Some (new_layout g)) None c.has_left
  granted tie here empty final g is = record {
    held = a.xid;
    layout_of = by_call out.call refl out.by out.its_file (out.kind_is ∙ granted_kind a.ask reply g is);
    settles = λ xid name session sequence other j. by_way xid name session sequence other (i.settles xid name session sequence other (sent_before h (item ∷ []) (tt, tt) xid name (OnSlot session sequence (slot.LayoutGet other)) j));
    left = stays_left;
  }
    where
      by_way : (xid : ℕ) (name : List ℕ) (session : SessionId) (sequence : ℕ) (other : OpenFile) → IsOut c.asked xid ⊎ (IsHeld c.layout i.held xid ⊎ IsAskSettled h xid name session sequence other)
          → IsOut None xid ⊎ ((a.xid ≡ xid) ⊎ IsAskSettled (heard_mds h bytes now) xid name session sequence other)
      by_way xid name session sequence other (inl is) = inr (inl (subst (λ (o : Option Asked). IsOut o xid) s.out is))
      by_way xid name session sequence other (inr (inl holding)) = absurd (subst (λ (o : Option Layout). IsHeld o i.held xid) empty holding)
      by_way xid name session sequence other (inr (inr t)) = inr (inr (settled_later h (item ∷ []) xid name session sequence other t))

      here_so : (tie : Tie) (session : SessionId) (sequence : ℕ) → IsOnSession tie session sequence → IsHere tie session
      here_so NoClient session sequence by = absurd by
      here_so (HasClient clientid number) session sequence by = absurd by
      here_so (HasSession t) session sequence by = by.0

      by_slot : (session : SessionId) (sequence : ℕ) (k : SlotCallValue) → out.call ≡ OnSlot session sequence k → IsOnSession c.tie session sequence → IsSlotFile c.file k → ask_on_slot k ≡ ask.LayoutGet
          → LayoutOf (heard_mds h bytes now) a.xid c.name tie c.file None g.stateid (new_writer g.mirrors g.uid.0)
      by_slot session sequence (slot.LayoutGet f) same by its kind = record {
        session = session;
        sequence = sequence;
        other = f;
        says = said a reply;
        behind = [];
        heard = asked_heard h c.name c.tie c.file a.xid a.ask out bytes now reply s.reply_is s.number (OnSlot session sequence (slot.LayoutGet f)) same;
        quiet = out.quiet;
        final = final;
        grant = g;
        is = is;
        stateid_is = refl;
        uid_is = refl;
        ids_are = new_ids g.mirrors;
        file_is = its;
        on = here session (here_so c.tie session sequence by);
        stands = fresh_stands c.name g.uid.0 g.mirrors;
        since = tt;
      }
      by_slot session sequence slot.ReclaimComplete same by its kind = absurd (cc (kind))
      by_slot session sequence (slot.Open other) same by its kind = absurd (cc (kind))
      by_slot session sequence (slot.DeviceInfo servers) same by its kind = absurd (cc (kind))
      by_slot session sequence (slot.Write f at data_of) same by its kind = absurd (cc (kind))
      by_slot session sequence (slot.Read f at count) same by its kind = absurd (cc (kind))
      by_slot session sequence (slot.LayoutReturn id state failed) same by its kind = absurd (cc (kind))
      by_slot session sequence slot.Renew same by its kind = absurd (cc (kind))

      by_call : (k : MdsCallValue) → out.call ≡ k → IsBy c.tie out.call → IsFileOf c.file out.call → ask_of out.call ≡ ask.LayoutGet → LayoutOf (heard_mds h bytes now) a.xid c.name tie c.file None g.stateid (new_writer g.mirrors g.uid.0)
      by_call (ExchangeId verifier) same by its kind = absurd (cc (ap ask_of same, kind))
      by_call (CreateSession clientid sequence) same by its kind = absurd (cc (ap ask_of same, kind))
      by_call (OnSlot session sequence k) same by its kind = by_slot session sequence k same (subst (IsBy c.tie) same by) (subst (IsFileOf c.file) same its) (sym (ap ask_of same) ∙ kind)
