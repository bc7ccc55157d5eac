-- On which connection each node is called.
use Rattle.std.specs.Prelude.{⊤, ◌≡◌, ℕ, Bool, true, false, if◌then◌else◌, List, [], ◌∷◌, Result, Ok, Err}
use Rattle.cluster_model.specs.declared.ids.NodeId.{NodeId}
use Rattle.cluster_model.specs.declared.ids.NodeId.TheVariants.{Mds, Server, Client}
use Rattle.cluster_model.specs.Nodes.{is_node}
use Rattle.ff_xdr.specs.declared.error.NoMemory.{NoMemory}

-- a client is called on the connection of its own number; of others none was made
abbrev pub own_connection : NodeId → ℕ
own_connection Mds = 0
own_connection (Server n) = 0
own_connection (Client k) = k

-- of each node to which one was made, the number of its connection
abbrev pub CalleesValue : Type 0
CalleesValue = List (NodeId × ℕ)

abbrev pub callee_in : List (NodeId × ℕ) → NodeId → ℕ
callee_in [] node = own_connection node
callee_in (entry ∷ entries) node = if is_node entry.0 node then entry.1 else callee_in entries node

-- it has no entry
abbrev pub HasNoEntry : NodeId → List (NodeId × ℕ) → Type 0
HasNoEntry node [] = ⊤
HasNoEntry node (entry ∷ entries) = (is_node entry.0 node ≡ false) × HasNoEntry node entries

-- each node has one entry at most
abbrev pub AreOnce : List (NodeId × ℕ) → Type 0
AreOnce [] = ⊤
AreOnce (entry ∷ entries) = HasNoEntry entry.0 entries × AreOnce entries

-- this node is called on this connection, and all others on theirs
abbrev pub SetsCallee : NodeId → ℕ → CalleesValue → CalleesValue → Type 0
SetsCallee node number old new = (other : NodeId) → callee_in new other ≡ (if is_node node other then number else callee_in old other)

-- each is called on the same
abbrev pub AreSame : CalleesValue → CalleesValue → Type 0
AreSame old new = (node : NodeId) → callee_in new node ≡ callee_in old node

-- the same, where memory may be wanted: then all is as it was
abbrev pub PutsCallee : NodeId → ℕ → CalleesValue → Result (Unit {0}) NoMemory → CalleesValue → Type 0
PutsCallee node number old (Ok x) new = SetsCallee node number old new
PutsCallee node number old (Err e) new = AreSame old new

-- the metadata server and data servers are called on connections that are made
abbrev pub is_connected_to : NodeId → Bool
is_connected_to Mds = true
is_connected_to (Server n) = true
is_connected_to (Client k) = false

-- What comes on the connection of this number is from this node: the one to which it was made, or a client that made it.
abbrev pub IsFrom : ℕ → CalleesValue → NodeId → Type 0
IsFrom number callees Mds = callee_in callees Mds ≡ number
IsFrom number callees (Server n) = callee_in callees (Server n) ≡ number
IsFrom number callees (Client k) = (k ≡ number) × ((node : NodeId) → is_connected_to node ≡ true → callee_in callees node ≡ number → number ≡ 0)
