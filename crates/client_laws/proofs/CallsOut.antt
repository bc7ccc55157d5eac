-- The calls that go out at the end of an event.
use Rattle.client_laws.proofs.Silent.{silent_now, unsent_sending, writes_now}
use Rattle.std.proofs.Common.{◌≡◌, ◌≢◌, ℕ, ◌<◌, Bool, true, false, List, [], ◌∷◌, ◌++◌, length, get_or, Option, Some, None, refl, sym, ap, subst, ◌∙◌, inl, inr, ◌⊎◌, arith}
use Rattle.std.specs.Prelude.{slice_get, option_map, ◌==◌, ◌||◌, ◌&&◌, if◌then◌else◌}
use Rattle.std.proofs.lemmas.Option.{none-some, same_Some, slice_get-map, slice_get_within, slice_get-get_or}
use Rattle.cluster_model.specs.declared.ids.Mirror.{Mirror}
use Rattle.cluster_model.specs.declared.ids.MirrorId.{MirrorId}
use Rattle.cluster_model.specs.DsCalls.{DsCallValue}
use Rattle.mirror_writer.specs.declared.call.TakenWrite.{TakenWrite}
use Rattle.mirror_writer.specs.Writers.{WriterMirror, WriterValue, WriterSends, next_sent, rest_committed, open_committed, is_committed, is_covered, covered_flag}
use Rattle.mirror_writer.specs.Outstanding.{has_no_mirror}
use Rattle.client_mds_calls.specs.FittingCalls.{reports_server}
use Rattle.client_mds_calls.specs.MdsCalls.{MdsCallValue}
use Rattle.client_state.specs.declared.layout.Layout.{Layout}
use Rattle.client_state.specs.ClientStates.{ClientValue}
use Rattle.client_state.specs.ClientQueue.{with_writer}
use Rattle.client_state.specs.ClientSends.{CallsServer, CallsMds, sends_none, ClientStep}
use Rattle.client_calls.specs.ClientCalls.{calls_next, calls_under, calls_mirror, calls_two, calls_mirrors, is_settled, xid_after}
use Rattle.client_laws.specs.ClientHistory.{HistoryItem, Sends, HasItem, sent}
use Rattle.client_laws.specs.ClientRunLaws.{IsReplied, WasCovered}
use Rattle.client_laws.proofs.Orders.{in_either}
use Rattle.client_laws.proofs.Later.{numbers_next, replied_later, layout_later, ask_later, there_later, under_later}
use Rattle.client_laws.proofs.Places.{all_at, or_left}
use Rattle.client_laws.proofs.WriterMoves.{WriterMoves, send_moves, sends_taken}
use Rattle.client_laws.proofs.LayoutMoves.{layout_after}
use Rattle.client_laws.proofs.Goes.{CallsGo, calls_none, calls_then, KeepsLayout, with_layout_stands}
use Rattle.client_laws.proofs.Stands.{StandsOf, Stands, LayoutStands, MirrorStands, TakenCovered, AskOut, IfThere, IsOut, IsSettled, reported_of}

pub nonzero : (xid : ℕ) → (xid == 0) ≡ false → xid ≢ 0
nonzero xid is e = not_both (sym is ∙ ap (λ x. x == 0) e)
  where
    not_both : false ≡ true → ⊥
    not_both e = absurd cc

-- ---- a call to a mirror

no_compound : (h : List HistoryItem) (server xid uid : ℕ) (name : List ℕ) (call : DsCallValue) (x : ℕ) (caller : List ℕ) (its : MdsCallValue)
    → HasItem (Sends (CallsServer server xid name uid call) ∷ []) (Sends (CallsMds x caller its)) → ⊥
no_compound h server xid uid name call x caller its (inl (same, rest)) = absurd (cc (same))
no_compound h server xid uid name call x caller its (inr i) = i

server_replied : (h : List HistoryItem) (c : ClientValue) (server xid uid : ℕ) (name : List ℕ) (call : DsCallValue) → Stands h c
    → (x : ℕ) (caller : List ℕ) (its : MdsCallValue) → HasItem (h ++ Sends (CallsServer server xid name uid call) ∷ []) (Sends (CallsMds x caller its)) → IsOut c.asked x ⊎ IsReplied (h ++ Sends (CallsServer server xid name uid call) ∷ []) x caller its
server_replied h c server xid uid name call s x caller its i = by_place (in_either h (Sends (CallsServer server xid name uid call) ∷ []) (Sends (CallsMds x caller its)) i)
  where
    further : IsOut c.asked x ⊎ IsReplied h x caller its → IsOut c.asked x ⊎ IsReplied (h ++ Sends (CallsServer server xid name uid call) ∷ []) x caller its
    further (inl out) = inl out
    further (inr r) = inr (replied_later h (Sends (CallsServer server xid name uid call) ∷ []) x caller its r)

    by_place : HasItem h (Sends (CallsMds x caller its)) ⊎ HasItem (Sends (CallsServer server xid name uid call) ∷ []) (Sends (CallsMds x caller its)) → IsOut c.asked x ⊎ IsReplied (h ++ Sends (CallsServer server xid name uid call) ∷ []) x caller its
    by_place (inl i) = further (s.replied x caller its i)
    by_place (inr i) = absurd (no_compound h server xid uid name call x caller its i)

-- a call to a data server under the next number
pub server_called : (h : List HistoryItem) (c : ClientValue) (server uid : ℕ) (call : DsCallValue) → Stands h c → c.next_xid ≢ 0
    → StandsOf (h ++ Sends (CallsServer server c.next_xid c.name uid call) ∷ []) c.name (xid_after c.next_xid) c.layout c.asked c.again
server_called h c server uid call s some =
    let item : HistoryItem = Sends (CallsServer server c.next_xid c.name uid call) in
    record {
      numbers = numbers_next h (CallsServer server c.next_xid c.name uid call) c.next_xid refl some s.numbers;
      replied = server_replied h c server c.next_xid uid c.name call s;
      asked_out = there_later c.asked (AskOut h c.name c.layout) (AskOut (h ++ item ∷ []) c.name c.layout) (λ a. ask_later h (item ∷ []) c.name c.layout a (λ gets none. ((tt, tt), (tt, tt)))) s.asked_out;
      alone = s.alone;
      layout_stands = there_later c.layout (λ l. LayoutStands h c.name (reports_server (reported_of l)) l) (λ l. LayoutStands (h ++ item ∷ []) c.name (reports_server (reported_of l)) l) (λ l. layout_later h (item ∷ []) c.name (reports_server (reported_of l)) l (tt, tt) (tt, tt)) s.layout_stands;
      taken_under = under_later h (item ∷ []) (tt, tt) s.taken_under;
      gets_again = s.gets_again;
      returns_again = s.returns_again;
    }

mirror_goes_next : (past : List HistoryItem) (c : ClientValue) (l : Layout) → Stands past c → c.layout ≡ Some l → c.next_xid ≢ 0 → (o : Option WriterSends) → next_sent l.writer c.next_xid ≡ o → CallsGo past (calls_next c l o)
mirror_goes_next past c l s at some None is = calls_none past c s
mirror_goes_next past c l s at some (Some sends) is =
    let item : HistoryItem = Sends (CallsServer sends.id.server c.next_xid c.name l.writer.cred sends.call) in
    let called : StandsOf (past ++ item ∷ []) c.name (xid_after c.next_xid) c.layout c.asked c.again = server_called past c sends.id.server l.writer.cred sends.call s some in
    let old : LayoutStands past c.name (reports_server (reported_of l)) l = subst (λ (o : Option Layout). IfThere o (λ l. LayoutStands past c.name (reports_server (reported_of l)) l)) at s.layout_stands in
    let later : LayoutStands (past ++ item ∷ []) c.name (reports_server (reported_of l)) l = layout_later past (item ∷ []) c.name (reports_server (reported_of l)) l (tt, tt) (tt, tt) old in
    let moves : WriterMoves (past ++ item ∷ []) c.name (reports_server (reported_of l)) l.writer sends.writer = send_moves past c.name (reports_server (reported_of l)) l.writer old.writer c.next_xid sends is in
    record {
      none = refl;
      sends = ((tt, tt, tt, silent_now past c.name (reports_server (reported_of l)) l old (unsent_sending past c.name (reports_server (reported_of l)) l old c.next_xid sends is), writes_now past c.name (reports_server (reported_of l)) l old sends.call (sends_taken l.writer c.next_xid sends is), tt), tt);
      stands =
          with_layout_stands (past ++ item ∷ []) (record c { next_xid = xid_after c.next_xid }) (Some (with_writer l sends.writer)) called
          (subst (λ (o : Option Layout). KeepsLayout o (Some (with_writer l sends.writer))) (sym at) (λ stage. record { stateid = refl; mirrors = refl; cred = moves.cred; taken = moves.taken; stage = stage }))
          (layout_after past (past ++ item ∷ []) c.name (reports_server (reported_of l)) (reports_server (reported_of l)) l sends.writer later moves);
    }

mirror_goes_under : (past : List HistoryItem) (c : ClientValue) (layout : Option Layout) → Stands past c → c.layout ≡ layout → c.next_xid ≢ 0 → CallsGo past (calls_under c layout)
mirror_goes_under past c None s at some = calls_none past c s
mirror_goes_under past c (Some l) s at some = mirror_goes_next past c l s at some (next_sent l.writer c.next_xid) refl

mirror_goes : (past : List HistoryItem) (c : ClientValue) → Stands past c → CallsGo past (calls_mirror c)
mirror_goes past c s = by_test (c.next_xid == 0) refl
  where
    by_test : (b : Bool) → (c.next_xid == 0) ≡ b → CallsGo past (if b then sends_none c else calls_under c c.layout)
    by_test true is = calls_none past c s
    by_test false is = mirror_goes_under past c c.layout s refl (nonzero c.next_xid is)

-- without a layout there is none behind it
pub mirror_none : (c : ClientValue) → c.layout ≡ None → (calls_mirror c).client.layout ≡ None
mirror_none c none = by_test (c.next_xid == 0)
  where
    by_layout : (layout : Option Layout) → layout ≡ None → (calls_under c layout).client.layout ≡ None
    by_layout None is = none
    by_layout (Some l) is = absurd (none-some l (sym is))

    by_test : (b : Bool)
        → (let s : ClientStep = if b then sends_none c else calls_under c c.layout in s.client.layout ≡ None)
    by_test true = none
    by_test false = by_layout c.layout none

pub mirrors_none : (c : ClientValue) → c.layout ≡ None → (calls_mirrors c).client.layout ≡ None
mirrors_none c none = two_none (calls_two c).client (two_none c none)
  where
    two_none : (d : ClientValue) → d.layout ≡ None → (calls_two d).client.layout ≡ None
    two_none d is = mirror_none (calls_mirror d).client (mirror_none d is)

two_go : (past : List HistoryItem) (c : ClientValue) → Stands past c → CallsGo past (calls_two c)
two_go past c s =
    let first : CallsGo past (calls_mirror c) = mirror_goes past c s in
    calls_then past (calls_mirror c) calls_mirror first (mirror_goes (past ++ sent (calls_mirror c).sends) (calls_mirror c).client first.stands)

pub mirrors_go : (past : List HistoryItem) (c : ClientValue) → Stands past c → CallsGo past (calls_mirrors c)
mirrors_go past c s =
    let first : CallsGo past (calls_two c) = two_go past c s in
    calls_then past (calls_two c) calls_two first (two_go (past ++ sent (calls_two c).sends) (calls_two c).client first.stands)

-- ---- a layout that is settled

-- each taken write is covered at each mirror that is not reported
pub settled_covered : (h : List HistoryItem) (name : List ℕ) (l : Layout) → LayoutStands h name (reports_server (reported_of l)) l → IsSettled l.writer.mirrors
    → (n : ℕ) (w : TakenWrite) → slice_get l.writer.taken n ≡ Some w → (place : ℕ) (m : Mirror) → slice_get l.mirrors place ≡ Some m → reports_server (reported_of l) m.id.server ≡ false
    → WasCovered h m.id l.writer.cred w.at w.bytes []
settled_covered h name l s settled n w there place m at not_so = by_mirror (slice_get l.writer.mirrors place) refl (sym (slice_get-map (λ (x : WriterMirror). x.id) l.writer.mirrors place) ∙ ap (λ k. slice_get k place) s.ids ∙ slice_get-map (λ (x : Mirror). x.id) l.mirrors place ∙ ap (option_map (λ (x : Mirror). x.id)) at)
  where
    not_both : true ≡ false → ⊥
    not_both e = absurd cc

    by_flag : (x : WriterMirror) → slice_get l.writer.mirrors place ≡ Some x → x.id ≡ m.id → (b : Bool) → x.has_failed ≡ b → (b || is_committed x) ≡ true → WasCovered h m.id l.writer.cred w.at w.bytes []
    by_flag x found same true failed is = absurd (not_both (sym ((s.writer place x found).reported failed) ∙ ap (λ (i : MirrorId). reports_server (reported_of l) i.server) same ∙ not_so))
    by_flag x found same false failed is =
        let mirror : MirrorStands h name l.writer.cred l.writer.taken (reports_server (reported_of l)) x = s.writer place x found in
        let within : n < length x.covered = omega (arith, slice_get_within l.writer.taken n w there, mirror.size) in
        let flag : slice_get x.covered n ≡ Some (get_or x.covered n false) = slice_get-get_or x.covered n false within in
        let set : covered_flag (slice_get x.covered n) ≡ true = ap covered_flag flag ∙ all_at is_covered x.covered is n (get_or x.covered n false) flag in
        let its : TakenCovered h l.writer.cred l.writer.taken x.id n = mirror.covered n set in
        let one : its.write ≡ w = same_Some its.write w (sym its.there ∙ there) in
        subst (λ (i : MirrorId). WasCovered h i l.writer.cred w.at w.bytes []) same (subst (λ (t : TakenWrite). WasCovered h x.id l.writer.cred t.at t.bytes []) one its.covered)

    by_mirror : (o : Option WriterMirror) → slice_get l.writer.mirrors place ≡ o → option_map (λ (x : WriterMirror). x.id) o ≡ Some m.id → WasCovered h m.id l.writer.cred w.at w.bytes []
    by_mirror None found is = absurd (none-some m.id is)
    by_mirror (Some x) found is = by_flag x found (same_Some x.id m.id is) x.has_failed refl (settled place x found)

either : (a b : Bool) → (a || b) ≡ true → (a ≡ true) ⊎ (b ≡ true)
either true b is = inl refl
either false b is = inr is

pub both : (a b : Bool) → (a && b) ≡ true → (a ≡ true) × (b ≡ true)
both true b is = (refl, is)
both false b is = absurd cc

pub is_settled_so : (w : WriterValue) → is_settled w ≡ true → IsSettled w.mirrors
is_settled_so w is = by_either (either (rest_committed w) (has_no_mirror w) is)
  where
    by_either : (rest_committed w ≡ true) ⊎ (has_no_mirror w ≡ true) → IsSettled w.mirrors
    by_either (inl rest) = λ place m there. all_at (λ x. x.has_failed || is_committed x) w.mirrors (both (open_committed w.mirrors) _ rest).0 place m there
    by_either (inr none) = λ place m there. or_left m.has_failed (is_committed m) (all_at (λ x. x.has_failed) w.mirrors none place m there)
