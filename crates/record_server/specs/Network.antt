-- What a network tells of the connections that are still to be accepted, and why there is none.
use Rattle.std.specs.Prelude.{◌≡◌, ℕ, Bool, true, false, List, [], ◌∷◌, ◌++◌, Option, None, Some, Result, Ok, Err}
use Rattle.rpc_record.specs.Stream.{one_more}
use Rattle.device_addr.specs.declared.net_addr.NetAddr.{NetAddr}
use Rattle.ff_xdr.specs.declared.error.NoMemory.{NoMemory}
use Rattle.record_server.specs.declared.network.Refused.{Refused}
use Rattle.record_server.specs.declared.network.Refused.TheVariants as refused

-- the bytes that each connection that is still to be accepted will give, in order, where the network tells them
abbrev pub Waiting : Type 0
Waiting = Option (List (Option (List ℕ)))

-- A connection that will give these bytes was accepted, as the next of those that wait.
abbrev pub ComesNext : Waiting → Option (List ℕ) → Waiting → Type 0
ComesNext None coming new = new ≡ None
ComesNext (Some waiting) coming new = (rest : List (Option (List ℕ))) × (waiting ≡ coming ∷ rest) × (new ≡ Some rest)

-- the tries to make a connection, in order, where the network tells them: its number, or 0 where none was made, and to which address
abbrev pub Made : Type 0
Made = Option (List (ℕ × NetAddr))

abbrev pub made_more : Made → ℕ → NetAddr → Made
made_more None number address = None
made_more (Some made) number address = Some (made ++ (number, address) ∷ [])

-- what a try to make a connection did to them
abbrev pub MakesOne : {T : Type 0} → Made → ℕ → NetAddr → Result (Option T) NoMemory → Made → Type 0
MakesOne made number address (Ok (Some conn)) new = new ≡ made_more made number address
MakesOne made number address (Ok None) new = new ≡ made_more made 0 address
MakesOne made number address (Err e) new = new ≡ made

-- the count of faults after a call with this result
abbrev pub refused_more : {T : Type 0} → Result T Refused → ℕ → ℕ
refused_more (Ok x) n = n
refused_more (Err refused.Nothing) n = n
refused_more (Err refused.Lost) n = n
refused_more (Err refused.Busy) n = n
refused_more (Err refused.Fault) n = one_more n
refused_more (Err refused.NoMemory) n = n

-- the count of faults after a wait that could be, or could not
abbrev pub waited_more : Bool → ℕ → ℕ
waited_more true n = n
waited_more false n = one_more n
