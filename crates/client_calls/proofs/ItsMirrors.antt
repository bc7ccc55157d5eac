-- Calls to data servers go to the mirrors of the layout.
use Rattle.std.proofs.Common.{◌≡◌, ℕ, Bool, true, false, List, [], ◌∷◌, ◌++◌, Option, Some, None, refl, sym, ap, ◌∙◌, subst}
use Rattle.std.specs.Prelude.{◌==◌, nat_eq, if◌then◌else◌, ◌&&◌, slice_get, slice_set, option_map}
use Rattle.std.specs.List.{list_all, list_any}
use Rattle.std.proofs.Math.Seq.{map-set_same}
use Rattle.std.proofs.lemmas.Option.{get_or_from_slice_get, slice_get-map}
use Rattle.std.proofs.lemmas.Map.Keys.{any_passes_from_place}
use Rattle.std.proofs.lemmas.Bool.{eq-eqb}
use Rattle.cluster_model.specs.DsCalls.{DsCallValue}
use Rattle.mirror_writer.specs.declared.call.NextCall.{NextCall}
use Rattle.mirror_writer.specs.declared.call.NextCall.TheVariants.{SendsWrite, SendsCommit}
use Rattle.mirror_writer.specs.Writers.{WriterValue, WriterMirror, WriterSends, next_sent, next_place, next_at, call_for, sends_at, sends_to, sends_next, sends_as, with_out, with_writer_mirrors}
use Rattle.client_mds_calls.specs.declared.ask.MdsAsk.{MdsAsk}
use Rattle.client_mds_calls.specs.MdsCalls.{MdsCallValue}
use Rattle.client_state.specs.declared.layout.Layout.{Layout}
use Rattle.client_state.specs.ClientStates.{ClientValue}
use Rattle.client_state.specs.ClientSends.{ClientSend, ClientStep, sends_none, and_then}
use Rattle.client_calls.specs.ClientCalls.{calls_next, calls_under, calls_mirror, calls_two, calls_mirrors, may_ask, asks, asks_as, due_ask, call_by_ask, calls_mds}
use Rattle.client_calls.specs.ClientLaws.{writer_servers, layout_servers, goes_to, CallsItsMirrors}

server_of : WriterMirror → ℕ
server_of m = m.id.server

-- what a writer sends goes to one of its mirrors, and its mirrors stay where they are
record SendsHome (w : WriterValue) (s : WriterSends) : Type 0 where
  home : list_any (nat_eq s.id.server) (writer_servers w) ≡ true
  same : writer_servers s.writer ≡ writer_servers w

stays_there : (xid : ℕ) (next : NextCall) (m : WriterMirror) → (with_out xid next m).id.server ≡ m.id.server
stays_there xid (SendsWrite n) m = refl
stays_there xid SendsCommit m = refl

equal : (n : ℕ) → nat_eq n n ≡ true
equal n = eq-eqb n n refl

sent_at_mirror : (w : WriterValue) (xid place : ℕ) (m : WriterMirror) (next : NextCall) → slice_get w.mirrors place ≡ Some m
    → (call : Option DsCallValue) (s : WriterSends) → sends_as w xid place m next call ≡ Some s → SendsHome w s
sent_at_mirror w xid place m next at None s is = absurd cc
sent_at_mirror w xid place m next at (Some call) s is =
    let e : record { writer = with_writer_mirrors w (slice_set w.mirrors place (with_out xid next m)); id = m.id; call = call } ≡ s = cc in
    subst (λ (x : WriterSends). SendsHome w x) e (record {
      home = any_passes_from_place (nat_eq m.id.server) (writer_servers w) place m.id.server (slice_get-map (λ (x : WriterMirror). x.id.server) w.mirrors place ∙ ap (option_map (λ (x : WriterMirror). x.id.server)) at) (equal m.id.server);
      same = map-set_same (λ (x : WriterMirror). x.id.server) w.mirrors place (with_out xid next m) m (stays_there xid next m ∙ sym (ap (λ (x : WriterMirror). x.id.server) (get_or_from_slice_get w.mirrors place m m at)));
    })

sent_next : (w : WriterValue) (xid place : ℕ) (m : WriterMirror) → slice_get w.mirrors place ≡ Some m
    → (next : Option NextCall) (s : WriterSends) → sends_next w xid place m next ≡ Some s → SendsHome w s
sent_next w xid place m at None s is = absurd cc
sent_next w xid place m at (Some next) s is = sent_at_mirror w xid place m next at (call_for w m.id next) s is

sent_to : (w : WriterValue) (xid place : ℕ) (m : Option WriterMirror) → slice_get w.mirrors place ≡ m
    → (s : WriterSends) → sends_to w xid place m ≡ Some s → SendsHome w s
sent_to w xid place None at s is = absurd cc
sent_to w xid place (Some m) at s is = sent_next w xid place m at (next_at w.wants_commit m) s is

sent_at : (w : WriterValue) (xid : ℕ) (place : Option ℕ) (s : WriterSends) → sends_at w xid place ≡ Some s → SendsHome w s
sent_at w xid None s is = absurd cc
sent_at w xid (Some place) s is = sent_to w xid place (slice_get w.mirrors place) refl s is

sent_home : (w : WriterValue) (xid : ℕ) (s : WriterSends) → next_sent w xid ≡ Some s → SendsHome w s
sent_home w xid s is = sent_at w xid (next_place w) s is

both_true : (a b : Bool) → a ≡ true → b ≡ true → a && b ≡ true
both_true true b first second = second
both_true false b first second = first

-- its records go to the mirrors of the layout, which stays on its data servers
record StaysHome (c : ClientValue) (s : ClientStep) : Type 0 where
  home : list_all (goes_to (layout_servers c.layout)) s.sends ≡ true
  same : layout_servers s.client.layout ≡ layout_servers c.layout

next_home : (c : ClientValue) (l : Layout) → c.layout ≡ Some l → (s : Option WriterSends) → next_sent l.writer c.next_xid ≡ s → StaysHome c (calls_next c l s)
next_home c l at None is = record { home = refl; same = refl }
next_home c l at (Some s) is =
    let h = sent_home l.writer c.next_xid s is in
    let there : writer_servers l.writer ≡ layout_servers c.layout = ap layout_servers (sym at) in
    record {
      home = subst (λ servers. list_all (goes_to servers) (calls_next c l (Some s)).sends ≡ true) there (both_true _ true h.home refl);
      same = h.same ∙ there;
    }

under_home : (c : ClientValue) (layout : Option Layout) → c.layout ≡ layout → StaysHome c (calls_under c layout)
under_home c None at = record { home = refl; same = refl }
under_home c (Some l) at = next_home c l at (next_sent l.writer c.next_xid) refl

mirror_home : (c : ClientValue) → StaysHome c (calls_mirror c)
mirror_home c = by_test (c.next_xid == 0)
  where
    by_test : (t : Bool) → StaysHome c (if t then sends_none c else calls_under c c.layout)
    by_test true = record { home = refl; same = refl }
    by_test false = under_home c c.layout refl

asked_home : (servers : List ℕ) (c : ClientValue) (kind : MdsAsk) (call : Option MdsCallValue) → list_all (goes_to servers) (asks_as c kind call).sends ≡ true
asked_home servers c kind None = refl
asked_home servers c kind (Some call) = refl

due_home : (servers : List ℕ) (c : ClientValue) (kind : Option MdsAsk) → list_all (goes_to servers) (asks c kind).sends ≡ true
due_home servers c None = refl
due_home servers c (Some kind) = asked_home servers c kind (call_by_ask c kind)

mds_home : (servers : List ℕ) (wants : Option MdsAsk) (c : ClientValue) → list_all (goes_to servers) (calls_mds wants c).sends ≡ true
mds_home servers wants c = by_test (may_ask c c.asked)
  where
    by_test : (t : Bool) → list_all (goes_to servers) (if t then asks c (due_ask wants c) else sends_none c).sends ≡ true
    by_test true = due_home servers c (due_ask wants c)
    by_test false = refl

all_append : (servers : List ℕ) (s t : List ClientSend) → list_all (goes_to servers) s ≡ true → list_all (goes_to servers) t ≡ true → list_all (goes_to servers) (s ++ t) ≡ true
all_append servers [] t first second = second
all_append servers (x ∷ s) t first second = by_test (goes_to servers x) (list_all (goes_to servers) s) (list_all (goes_to servers) (s ++ t)) first (λ e. all_append servers s t e second)
  where
    by_test : (a b d : Bool) → a && b ≡ true → (b ≡ true → d ≡ true) → a && d ≡ true
    by_test true b d first rest = rest first
    by_test false b d first rest = first

then_home : (c : ClientValue) (s : ClientStep) (next : ClientValue → ClientStep) → StaysHome c s → ((d : ClientValue) → StaysHome d (next d)) → StaysHome c (and_then s next)
then_home c s next first second =
    let more = second s.client in
    record {
      home = all_append (layout_servers c.layout) s.sends (next s.client).sends first.home (subst (λ servers. list_all (goes_to servers) (next s.client).sends ≡ true) first.same more.home);
      same = more.same ∙ first.same;
    }

two_home : (c : ClientValue) → StaysHome c (calls_two c)
two_home c = then_home c (calls_mirror c) calls_mirror (mirror_home c) mirror_home

mirrors_home : (c : ClientValue) → StaysHome c (calls_mirrors c)
mirrors_home c = then_home c (calls_two c) calls_two (two_home c) two_home

pub all_home : (c : ClientValue) (wants : Option MdsAsk) → CallsItsMirrors c wants
all_home c wants =
    all_append (layout_servers c.layout) (calls_mirrors c).sends (calls_mds wants (calls_mirrors c).client).sends
    (mirrors_home c).home (mds_home (layout_servers c.layout) wants (calls_mirrors c).client)
