-- What holds of the calls that go out at the end of an event.
use Rattle.std.specs.Prelude.{◌≡◌, ◌≢◌, ℕ, Bool, true, false, nat_eq, List, [], ◌∷◌, ◌++◌, map, Option, Some, None}
use Rattle.std.specs.List.{list_all, list_any}
use Rattle.ff_xdr.specs.Form.{word}
use Rattle.cluster_model.specs.declared.ids.NodeId.{NodeId}
use Rattle.cluster_model.specs.declared.ids.NodeId.TheVariants.{Mds, Server, Client}
use Rattle.mirror_writer.specs.Writers.{WriterValue, WriterMirror}
use Rattle.client_mds_calls.specs.declared.ask.MdsAsk.{MdsAsk}
use Rattle.client_state.specs.declared.layout.Layout.{Layout}
use Rattle.client_state.specs.ClientStates.{ClientValue}
use Rattle.client_state.specs.ClientSends.{ClientSend, CallsServer, CallsMds, spelled_send, ClientStep}
use Rattle.client_calls.specs.ClientCalls.{xid_after, calls_all}

-- the number that a call takes where it goes out for the first time; a repeat and the reply to a callback take none
abbrev pub new_number : ClientSend → Option ℕ
new_number (CallsServer server xid name uid call) = Some xid
new_number (CallsMds xid name call) = Some xid
new_number send = None

-- They are new calls, and take the numbers from this one on, one after the other, up to the next that is free. None takes 0, which
-- stands for no number.
abbrev pub CarryNumbers : ℕ → List ClientSend → ℕ → Type 0
CarryNumbers xid [] next = next ≡ xid
CarryNumbers xid (s ∷ sends) next = (xid ≢ 0) × ((new_number s ≡ Some xid) × CarryNumbers (xid_after xid) sends next)

-- the bytes begin with this number (RFC 5531, section 9)
pub record BeginsWith (xid : ℕ) (bytes : List ℕ) : Type 0 where
  pub rest : List ℕ
  pub is : bytes ≡ word xid ++ rest

abbrev pub BeginsWithNew : Option ℕ → List ℕ → Type 0
BeginsWithNew None bytes = Unit {0}
BeginsWithNew (Some xid) bytes = BeginsWith xid bytes

-- The record of a call begins with the number that it takes.
abbrev pub SpellsNumber : ClientSend → Type 0
SpellsNumber s = BeginsWithNew (new_number s) (spelled_send s).1

abbrev pub SendsNumbered : ClientValue → ClientStep → Type 0
SendsNumbered c step = CarryNumbers c.next_xid step.sends step.client.next_xid

-- Whatever a client has, and whatever the head of its queue wants, its calls are numbered on, and each number is used once.
abbrev pub NumbersCalls : ClientValue → Option MdsAsk → Type 0
NumbersCalls c wants = SendsNumbered c (calls_all wants c)

-- the data servers of a writer's mirrors, and of a layout's
abbrev pub writer_servers : WriterValue → List ℕ
writer_servers w = map (λ (m : WriterMirror). m.id.server) w.mirrors

abbrev pub layout_servers : Option Layout → List ℕ
layout_servers None = []
layout_servers (Some l) = writer_servers l.writer

-- the metadata server, or one of these data servers
abbrev pub is_called : List ℕ → NodeId → Bool
is_called servers Mds = true
is_called servers (Server server) = list_any (nat_eq server) servers
is_called servers (Client number) = false

abbrev pub goes_to : List ℕ → ClientSend → Bool
goes_to servers s = is_called servers (spelled_send s).0

-- A client that has no layout with a mirror on a data server calls nothing there.
abbrev pub CallsItsMirrors : ClientValue → Option MdsAsk → Type 0
CallsItsMirrors c wants = list_all (goes_to (layout_servers c.layout)) (calls_all wants c).sends ≡ true
