-- What an answer of a data server, or a timeout, makes of the layout: its writer since it came, and that it has ended where it is lost.
use Rattle.std.proofs.Common.{◌≡◌, ℕ, false, List, [], ◌∷◌, ◌++◌, Option, Some, None, sym, ap, subst, ◌∙◌, inl, inr, ◌⊎◌}
use Rattle.std.specs.List.{AllByRecursion}
use Rattle.std.proofs.lemmas.List.{append-nil}
use Rattle.nfs4_types.specs.declared.ids.SessionId.{SessionId}
use Rattle.ds_calls.specs.GivenReplies.{reply_of_call}
use Rattle.cluster_model.specs.declared.ids.MirrorId.{MirrorId}
use Rattle.cluster_model.specs.declared.ids.NodeId.TheVariants.{Server}
use Rattle.mirror_writer.specs.declared.step.WriterStep.TheVariants as step
use Rattle.mirror_writer.specs.Writers.{WriterValue, WriterAfter, after_reply, after_timeout}
use Rattle.client_file_calls.specs.declared.open.OpenFile.{OpenFile}
use Rattle.client_mds_calls.specs.MdsCalls.{MdsCallValue, OnSlot}
use Rattle.client_mds_calls.specs.MdsCalls as slot
use Rattle.client_mds_calls.specs.MdsReplies.{MdsReplyValue}
use Rattle.client_state.specs.declared.layout.Layout.{Layout}
use Rattle.client_state.specs.ClientStates.{ClientValue}
use Rattle.client_state.specs.ClientSends.{CallsServer, CallsMds}
use Rattle.client_laws.specs.ClientHistory.{ClientInput, HistoryItem, Hears, Sends, Recorded, HasItem, InOrder}
use Rattle.client_laws.proofs.Orders.{in_next}
use Rattle.client_laws.proofs.Stands.{NumbersStand, WriterStands, writer_ids, IsOut}
use Rattle.client_laws.proofs.WriterMoves.{WriterMoves, also, reply_moves, timeout_moves}
use Rattle.client_records.proofs.Cases.{ComesTo, ByReply, ByTimeout}
use Rattle.client_records.proofs.EachRun.{Base}
use Rattle.client_records.proofs.Numbers.{found_sent}
use Rattle.client_sessions.specs.HeardReplies.{IsHeard, IsNoCompound}
use Rattle.client_sessions.specs.LayoutEnds.{HasLayoutEnded, ByFence, IsAskSettled, HasNotLeft}
use Rattle.client_sessions.proofs.HeardLater.{all_more, in_behind, settled_later}
use Rattle.client_sessions.proofs.WriterIds.{IsOutTo, out_to}
use Rattle.client_sessions.proofs.Fences.{FencedBy, reply_fence, timeout_none}
use Rattle.client_sessions.proofs.Settling.{layout_settles}
use Rattle.client_sessions.proofs.LayoutsHeld.{any_server, LayoutOf, IsHeld, LayoutsOf, Layouts, layout_later, since_behind, sent_before, settles_later, its_layout}

-- ---- the numbers since

pub numbers_behind : (past : List HistoryItem) (next : ℕ) → NumbersStand past next → (xid : ℕ) (name : List ℕ) (call : MdsCallValue) (says : MdsReplyValue) (behind : List HistoryItem) → IsHeard past xid name call says behind → NumbersStand behind next
numbers_behind past next numbers xid name call says behind heard = record {
  below = λ s number i is some. numbers.below s number (in_behind past xid name call says behind heard (Sends s) i) is some;
  once = λ s t number i j is same. numbers.once s t number (in_behind past xid name call says behind heard (Sends s) i) (in_behind past xid name call says behind heard (Sends t) j) is same;
}

-- a layout with this writer, or one that keeps what stands of it
pub record HasWriter (name : List ℕ) (l : Layout) (writer : WriterValue) (new : Layout) : Type 0 where
  pub stateid : new.stateid ≡ l.stateid
  pub cred : new.writer.cred ≡ writer.cred
  pub ids : writer_ids new.writer ≡ writer_ids writer
  pub stands : (h : List HistoryItem) → WriterStands h name any_server writer → WriterStands h name any_server new.writer

-- behind more items, with another layout in the place of the one that is there
module _ (h : List HistoryItem) (c : ClientValue) (l : Layout) (at : c.layout ≡ Some l) (was : Layouts h c) (more : List HistoryItem) (none : AllByRecursion IsNoCompound more) (stays : c.has_left ≡ false → AllByRecursion HasNotLeft more) where
  pub other_layout : (new : Layout) → new.stateid ≡ l.stateid → new.writer.cred ≡ l.writer.cred → writer_ids new.writer ≡ writer_ids l.writer → WriterStands ((its_layout h c was l at).behind ++ more) c.name any_server new.writer → LayoutsOf (h ++ more) c.name c.tie c.file (Some new) c.asked c.has_left
  other_layout new stateid cred ids stands = record {
    held = was.held;
    layout_of =
        layout_later h was.held c.name c.tie c.file c.asked l.stateid l.writer (its_layout h c was l at) more c.asked new.stateid new.writer stateid cred ids stands
        (since_behind h was.held c.name c.tie c.file c.asked l.stateid l.writer (its_layout h c was l at) more none);
    settles = settles_later h more c.layout (Some new) c.asked c.asked was.held was.held none (λ xid out. out) (λ xid holding. subst (λ (o : Option Layout). IsHeld o was.held xid) at holding) was.settles;
    left = λ is. all_more HasNotLeft h more (was.left is) (stays is);
  }

  -- it has ended
  pub no_layout : NumbersStand h c.next_xid → HasLayoutEnded ((its_layout h c was l at).behind ++ more) (its_layout h c was l at).session (its_layout h c was l at).other.file (its_layout h c was l at).grant
      → LayoutsOf (h ++ more) c.name c.tie c.file None c.asked c.has_left
  no_layout numbers ended = record {
    held = was.held;
    layout_of = tt;
    settles = λ xid name session sequence other i. by_way xid name session sequence other (sent_before h more none xid name (OnSlot session sequence (slot.LayoutGet other)) i) (was.settles xid name session sequence other (sent_before h more none xid name (OnSlot session sequence (slot.LayoutGet other)) i));
    left = λ is. all_more HasNotLeft h more (was.left is) (stays is);
  }
    where
      by_way : (xid : ℕ) (name : List ℕ) (session : SessionId) (sequence : ℕ) (other : OpenFile) → HasItem h (Sends (CallsMds xid name (OnSlot session sequence (slot.LayoutGet other))))
          → IsOut c.asked xid ⊎ (IsHeld c.layout was.held xid ⊎ IsAskSettled h xid name session sequence other) → IsOut c.asked xid ⊎ (IsHeld None was.held xid ⊎ IsAskSettled (h ++ more) xid name session sequence other)
      by_way xid name session sequence other i (inl out) = inl out
      by_way xid name session sequence other i (inr (inl holding)) =
          inr (inr (layout_settles h was.held c.name c.tie c.file c.asked l.stateid l.writer (its_layout h c was l at) more c.next_xid numbers ended xid name session sequence other (subst (λ (o : Option Layout). IsHeld o was.held xid) at holding) i))
      by_way xid name session sequence other i (inr (inr s)) = inr (inr (settled_later h more xid name session sequence other s))

-- ---- by a reply, and by a timeout

module _ (Q : ClientInput → Type 0) (I : List HistoryItem → ClientValue → Type 0) (its : (h : List HistoryItem) (c : ClientValue) → I h c → Layouts h c) where
  pub came_layout : (past : List HistoryItem) (c : ClientValue) (file : OpenFile) (l : Layout) (after : WriterAfter) → ComesTo Base Q I past c file l after → Layouts past c → (new : Layout) → HasWriter c.name l after.writer new
      → LayoutsOf past c.name c.tie c.file (Some new) c.asked c.has_left
  came_layout past c file l after (ByReply h server bytes now reply out s past_is is) i new keeps =
      let was : Layouts h c = its h c s.was in
      let o : LayoutOf h was.held c.name c.tie c.file c.asked l.stateid l.writer = its_layout h c was l s.layout in
      let numbers : NumbersStand o.behind c.next_xid = numbers_behind h c.next_xid s.base.0.numbers was.held c.name (OnSlot o.session o.sequence (slot.LayoutGet o.other)) o.says o.behind o.heard in
      let moves : WriterMoves (o.behind ++ Hears (Recorded (Server server) bytes now) ∷ []) c.name (also any_server (after_reply l.writer reply.xid (reply_of_call out.call reply)).step) l.writer (after_reply l.writer reply.xid (reply_of_call out.call reply)).writer =
      (reply_moves o.behind c.name any_server l.writer o.stands c.next_xid numbers server bytes now reply s.reply_is out s.out_is s.number).moves in
      let mine : WriterMoves (o.behind ++ Hears (Recorded (Server server) bytes now) ∷ []) c.name any_server l.writer after.writer =
      subst (λ (x : WriterAfter). WriterMoves (o.behind ++ Hears (Recorded (Server server) bytes now) ∷ []) c.name any_server l.writer x.writer) (sym is) (record { cred = moves.cred; taken = moves.taken; ids = moves.ids; stands = moves.stands; settled = moves.settled }) in
      subst (λ p. LayoutsOf p c.name c.tie c.file (Some new) c.asked c.has_left) (sym past_is)
      (other_layout h c l s.layout was (Hears (Recorded (Server server) bytes now) ∷ []) (tt, tt) (λ stays. (tt, tt)) new keeps.stateid (keeps.cred ∙ mine.cred) (keeps.ids ∙ mine.ids) (keeps.stands (o.behind ++ Hears (Recorded (Server server) bytes now) ∷ []) mine.stands))
  came_layout past c file l after (ByTimeout h server out s past_is is) i new keeps =
      let o : LayoutOf past i.held c.name c.tie c.file c.asked l.stateid l.writer = its_layout past c i l s.layout in
      let moves : WriterMoves (o.behind ++ []) c.name (also any_server (after_timeout l.writer out.xid).step) l.writer (after_timeout l.writer out.xid).writer = (timeout_moves o.behind c.name any_server l.writer o.stands [] out.xid).moves in
      let mine : WriterMoves (o.behind ++ []) c.name any_server l.writer after.writer =
      subst (λ (x : WriterAfter). WriterMoves (o.behind ++ []) c.name any_server l.writer x.writer) (sym is) (record { cred = moves.cred; taken = moves.taken; ids = moves.ids; stands = moves.stands; settled = moves.settled }) in
      subst (λ p. LayoutsOf p c.name c.tie c.file (Some new) c.asked c.has_left) (append-nil past)
      (other_layout past c l s.layout i [] tt (λ stays. tt) new keeps.stateid (keeps.cred ∙ mine.cred) (keeps.ids ∙ mine.ids) (keeps.stands (o.behind ++ []) mine.stands))

  -- it is lost
  pub fenced_layout : (past : List HistoryItem) (c : ClientValue) (file : OpenFile) (l : Layout) (after : WriterAfter) → ComesTo Base Q I past c file l after → (id : MirrorId) (status : ℕ) → after.step ≡ step.Fenced id status
      → LayoutsOf past c.name c.tie c.file None c.asked c.has_left
  fenced_layout past c file l after (ByTimeout h server out s past_is is) id status lost = absurd (timeout_none l.writer id status out.xid (sym (ap (λ (x : WriterAfter). x.step) is) ∙ lost))
  fenced_layout past c file l after (ByReply h server bytes now reply out s past_is is) id status lost =
      let was : Layouts h c = its h c s.was in
      let o : LayoutOf h was.held c.name c.tie c.file c.asked l.stateid l.writer = its_layout h c was l s.layout in
      let by : FencedBy (reply_of_call out.call reply) status = reply_fence l.writer id status reply.xid (reply_of_call out.call reply) (sym (ap (λ (x : WriterAfter). x.step) is) ∙ lost) in
      let sent : HasItem o.behind (Sends (CallsServer server out.xid c.name o.grant.uid.0 out.call)) =
      subst (λ (uid : ℕ). HasItem o.behind (Sends (CallsServer server out.xid c.name uid out.call))) o.uid_is (found_sent o.behind c.name any_server l.writer server out o.stands s.out_is) in
      let to : IsOutTo o.grant.mirrors server out.call = out_to l.writer server out o.grant.mirrors o.ids_are s.out_is in
      let order : InOrder (Sends (CallsServer server out.xid c.name o.grant.uid.0 out.call) ∷ Hears (Recorded (Server server) bytes now) ∷ []) (o.behind ++ Hears (Recorded (Server server) bytes now) ∷ []) =
      in_next (Sends (CallsServer server out.xid c.name o.grant.uid.0 out.call) ∷ []) o.behind (Hears (Recorded (Server server) bytes now)) sent in
      subst (λ p. LayoutsOf p c.name c.tie c.file None c.asked c.has_left) (sym past_is)
      (no_layout h c l s.layout was (Hears (Recorded (Server server) bytes now) ∷ []) (tt, tt) (λ stays. (tt, tt)) s.base.0.numbers
      (ByFence (record {
        place = to.place;
        mirror = to.mirror;
        there = to.there;
        xid = out.xid;
        name = c.name;
        call = out.call;
        to_mirror = to.to_mirror;
        bytes = bytes;
        now = now;
        status = status;
        shown = by.shown;
        says = record { reply = reply; reply_is = s.reply_is; number = sym s.number; says_so = by.is };
        fence = by.fence;
        order = subst (λ (k : ℕ). InOrder (Sends (CallsServer k out.xid c.name o.grant.uid.0 out.call) ∷ Hears (Recorded (Server k) bytes now) ∷ []) (o.behind ++ Hears (Recorded (Server server) bytes now) ∷ [])) (sym to.its_server) order;
      })))
