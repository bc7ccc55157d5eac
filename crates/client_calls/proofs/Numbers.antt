-- The calls at the end of an event are numbered on.
use Rattle.std.proofs.Common.{◌≡◌, ◌≢◌, ℕ, Bool, true, false, List, [], ◌∷◌, ◌++◌, Option, Some, None, refl, sym, ap, ◌∙◌, subst}
use Rattle.std.specs.Prelude.{not, ◌==◌, if◌then◌else◌}
use Rattle.std.proofs.lemmas.List.{append_assoc}
use Rattle.ff_xdr.specs.Form.{word, spelling}
use Rattle.rpc_record.specs.Calls.{RpcCall, call_bytes, call_body, body_value}
use Rattle.mirror_writer.specs.Writers.{WriterSends, next_sent}
use Rattle.ds_calls.specs.MadeCalls.{ds_rpc_call}
use Rattle.client_mds_calls.specs.declared.ask.MdsAsk.{MdsAsk}
use Rattle.client_mds_calls.specs.MdsCalls.{MdsCallValue}
use Rattle.client_mds_calls.specs.MdsCompounds.{mds_rpc_call}
use Rattle.client_state.specs.declared.layout.Layout.{Layout}
use Rattle.client_state.specs.declared.asked.Asked.{Asked}
use Rattle.client_state.specs.ClientStates.{ClientValue}
use Rattle.client_state.specs.ClientSends.{ClientSend, CallsServer, CallsMds, RepeatsToServer, RepeatsToMds, RepliesToMds, ClientStep, sends_none, and_then}
use Rattle.client_calls.specs.ClientCalls.{xid_after, calls_next, calls_under, calls_mirror, calls_two, calls_mirrors, may_ask, asks, asks_as, due_ask, call_by_ask, calls_mds}
use Rattle.client_calls.specs.ClientLaws.{BeginsWith, CarryNumbers, SpellsNumber, SendsNumbered, NumbersCalls}

not_both : false ≡ true → ⊥
not_both e = absurd cc

-- a call begins with its number
call_begins : (call : RpcCall) → BeginsWith call.xid (call_bytes call)
call_begins call = record {
  rest = (word 0 ++ word 2) ++ (spelling call_body (body_value call) ++ call.args);
  is = append_assoc (word call.xid) (word 0 ++ word 2) (spelling call_body (body_value call) ++ call.args);
}

pub all_spelled : (s : ClientSend) → SpellsNumber s
all_spelled (CallsServer server xid name uid call) = call_begins (ds_rpc_call xid name uid call)
all_spelled (CallsMds xid name call) = call_begins (mds_rpc_call xid name call)
all_spelled (RepeatsToServer server xid name uid call) = tt
all_spelled (RepeatsToMds xid message) = tt
all_spelled (RepliesToMds reply) = tt

numbered_append : (xid mid next : ℕ) (s t : List ClientSend) → CarryNumbers xid s mid → CarryNumbers mid t next → CarryNumbers xid (s ++ t) next
numbered_append xid mid next [] t first second = subst (λ x. CarryNumbers x t next) first second
numbered_append xid mid next (x ∷ s) t first second = (first.0, (first.1.0, numbered_append (xid_after xid) mid next s t first.1.1 second))

nonzero : (xid : ℕ) → (xid == 0) ≡ false → xid ≢ 0
nonzero xid is e = not_both (sym is ∙ ap (λ x. x == 0) e)

next_numbered : (c : ClientValue) (l : Layout) (s : Option WriterSends) → c.next_xid ≢ 0 → SendsNumbered c (calls_next c l s)
next_numbered c l None some = refl
next_numbered c l (Some s) some = (some, (refl, refl))

under_numbered : (c : ClientValue) (layout : Option Layout) → c.next_xid ≢ 0 → SendsNumbered c (calls_under c layout)
under_numbered c None some = refl
under_numbered c (Some l) some = next_numbered c l (next_sent l.writer c.next_xid) some

mirror_numbered : (c : ClientValue) → SendsNumbered c (calls_mirror c)
mirror_numbered c = by_test (c.next_xid == 0) refl
  where
    by_test : (t : Bool) → (c.next_xid == 0) ≡ t → SendsNumbered c (if t then sends_none c else calls_under c c.layout)
    by_test true is = refl
    by_test false is = under_numbered c c.layout (nonzero c.next_xid is)

-- what follows goes on with the numbers
then_numbered : (c : ClientValue) (s : ClientStep) (next : ClientValue → ClientStep) → SendsNumbered c s → ((d : ClientValue) → SendsNumbered d (next d)) → SendsNumbered c (and_then s next)
then_numbered c s next first second = numbered_append c.next_xid s.client.next_xid (next s.client).client.next_xid s.sends (next s.client).sends first (second s.client)

two_numbered : (c : ClientValue) → SendsNumbered c (calls_two c)
two_numbered c = then_numbered c (calls_mirror c) calls_mirror (mirror_numbered c) mirror_numbered

mirrors_numbered : (c : ClientValue) → SendsNumbered c (calls_mirrors c)
mirrors_numbered c = then_numbered c (calls_two c) calls_two (two_numbered c) two_numbered

asked_numbered : (c : ClientValue) (kind : MdsAsk) (call : Option MdsCallValue) → c.next_xid ≢ 0 → SendsNumbered c (asks_as c kind call)
asked_numbered c kind None some = refl
asked_numbered c kind (Some call) some = (some, (refl, refl))

due_numbered : (c : ClientValue) (kind : Option MdsAsk) → c.next_xid ≢ 0 → SendsNumbered c (asks c kind)
due_numbered c None some = refl
due_numbered c (Some kind) some = asked_numbered c kind (call_by_ask c kind) some

may_nonzero : (c : ClientValue) (asked : Option Asked) → may_ask c asked ≡ true → c.next_xid ≢ 0
may_nonzero c None may e = not_both (sym (sym may ∙ ap (λ x. not (x == 0)) e))
may_nonzero c (Some asked) may e = not_both may

mds_numbered : (wants : Option MdsAsk) (c : ClientValue) → SendsNumbered c (calls_mds wants c)
mds_numbered wants c = by_test (may_ask c c.asked) refl
  where
    by_test : (t : Bool) → may_ask c c.asked ≡ t → SendsNumbered c (if t then asks c (due_ask wants c) else sends_none c)
    by_test true may = due_numbered c (due_ask wants c) (may_nonzero c c.asked may)
    by_test false may = refl

pub all_numbered : (c : ClientValue) (wants : Option MdsAsk) → NumbersCalls c wants
all_numbered c wants = then_numbered c (calls_mirrors c) (calls_mds wants) (mirrors_numbered c) (mds_numbered wants)
