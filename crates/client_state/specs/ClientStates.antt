-- What a client of the cluster has (RFC 8881, sections 2.4, 2.10 and 12; RFC 8435, sections 5 to 8).
use Rattle.std.specs.Prelude.{ℕ, Bool, true, false, List, [], ◌++◌, codes, decimal, Option, None}
use Rattle.nfs4_types.specs.declared.ids.DeviceId.{DeviceId}
use Rattle.device_addr.specs.declared.net_addr.NetAddr.{NetAddr}
use Rattle.cluster_model.specs.declared.answer.UserAnswer.{UserAnswer}
use Rattle.cluster_model.specs.declared.entry.Entry.{Entry}
use Rattle.client_file_calls.specs.declared.open.OpenFile.{OpenFile}
use Rattle.client_mds_calls.specs.declared.ask.MdsAsk.{MdsAsk}
use Rattle.client_mds_calls.specs.declared.ask.MdsAsk.TheVariants as ask
use Rattle.client_state.specs.declared.request.UserRequest.{UserRequest}
use Rattle.client_state.specs.declared.tie.Tie.{Tie}
use Rattle.client_state.specs.declared.tie.Tie.TheVariants.{NoClient}
use Rattle.client_state.specs.declared.layout.Layout.{Layout}
use Rattle.client_state.specs.declared.asked.Asked.{Asked}

pub record ClientValue : Type 0 where
  -- who it is, its name in calls, and what tells this start of it from the next
  pub number : ℕ
  pub name : List ℕ
  pub verifier : ℕ
  -- the number of its next call; 0 where none is left
  pub next_xid : ℕ
  -- the requests that are not answered, the first of them at the head; and whether the head asks again at the next tick
  pub queue : List UserRequest
  pub waits : Bool
  pub tie : Tie
  pub file : Option OpenFile
  pub layout : Option Layout
  -- the devices whose addresses are known
  pub devices : List (DeviceId × NetAddr)
  pub asked : Option Asked
  -- what goes out anew, since its reply was not kept
  pub again : Option MdsAsk
  -- the answers that the user has not taken, and how many writes were told since the last that says so
  pub answers : List UserAnswer
  pub told : ℕ
  -- it left the protocol
  pub has_left : Bool

-- its name: c, and its number
abbrev pub client_name : ℕ → List ℕ
client_name number = codes "c" ++ decimal number

-- a new client
abbrev pub fresh_client : ℕ → ℕ → ℕ → ClientValue
fresh_client number verifier first_xid = record {
  number = number;
  name = client_name number;
  verifier = verifier;
  next_xid = first_xid;
  queue = [];
  waits = false;
  tie = NoClient;
  file = None;
  layout = None;
  devices = [];
  asked = None;
  again = None;
  answers = [];
  told = 0;
  has_left = false;
}

-- the same client as new: its calls are numbered on, and its requests and answers stay
abbrev pub as_new : ClientValue → ClientValue
as_new c = record (fresh_client c.number c.verifier c.next_xid) { name = c.name; queue = c.queue; answers = c.answers; has_left = c.has_left }

-- a client, and the entries of the journal that it made so far in an event
pub record ClientRun : Type 0 where
  pub client : ClientValue
  pub entries : List Entry

abbrev pub unmoved : ClientValue → ClientRun
unmoved c = record { client = c; entries = [] }

-- what follows comes behind what was entered before
abbrev pub followed_by : ClientRun → (ClientValue → ClientRun) → ClientRun
followed_by r next = record { client = (next r.client).client; entries = r.entries ++ (next r.client).entries }

-- and at last it becomes something
abbrev pub ends_as : ClientRun → (ClientValue → ClientValue) → ClientRun
ends_as r next = record { client = next r.client; entries = r.entries }

-- it was asked to take a layout back
abbrev pub is_layout_return : MdsAsk → Bool
is_layout_return ask.LayoutReturn = true
is_layout_return kind = false
