-- The lines of a cluster's script, by their first words.
use Rattle.std.specs.Prelude.{ℕ, List, [], ◌∷◌, codes, Option, Some, None, option_map, if◌then◌else◌}
use Rattle.std.specs.Str.{bytes_eq}
use Rattle.cluster_model.specs.declared.ids.NodeId.{NodeId}
use Rattle.cluster_model.specs.Event.{EventValue, DeliverPacket, DeliverBetween, Flow, Hold, Pass, Timeout, Tick, Open, Write, Through, Fill, Commit, Read, Return, Rogue, Stray, Reboot, Recall, Resilver, Audit, Restart}
use Rattle.ff_script.specs.Pieces.{◌>>=◌, decimal_at, pieces_at}
use Rattle.cluster_script.specs.declared.event.ClusterEvent.{ClusterEvent}
use Rattle.cluster_script.specs.declared.event.ClusterEvent.TheVariants as event
use Rattle.cluster_script.specs.declared.sizes.ClusterSizes.{ClusterSizes}
use Rattle.cluster_script.specs.ScriptWords.{words_of, one_of, two_of, three_of, four_of, within, number_within, place_at, count_at, bytes_at, byte_at, name_at, server_at, client_at, node_at}

-- ---- the setup: `cluster S K C`, of S data servers, K mirrors a file, and C clients

abbrev pub sizes_from : List ℕ × List ℕ × List ℕ → Option ClusterSizes
sizes_from (s, k, c) = do
  servers ← number_within 1 16 s
  mirrors ← number_within 1 4 k
  few ← within 0 servers mirrors
  clients ← number_within 1 256 c
  Some (record { servers = servers; mirrors = few; clients = clients })

abbrev pub setup_by : List (List ℕ) → Option ClusterSizes
setup_by (word ∷ args) = if bytes_eq word (codes "cluster") then three_of args >>= sizes_from else None
setup_by [] = None

abbrev pub cluster_at : List ℕ → Option ClusterSizes
cluster_at line = setup_by (words_of line)

-- ---- packets and time

-- `deliver K` and `deliver A B N`
abbrev pub between_from : ClusterSizes → List ℕ × List ℕ × List ℕ → Option EventValue
between_from s (a, b, n) = do
  from ← node_at s a
  to ← node_at s b
  place ← decimal_at n
  Some (DeliverBetween from to place)

abbrev pub between_by : ClusterSizes → List (List ℕ) → Option EventValue
between_by s args = three_of args >>= between_from s

abbrev pub deliver_by : ClusterSizes → List (List ℕ) → Option EventValue
deliver_by s (k ∷ []) = option_map DeliverPacket (decimal_at k)
deliver_by s args = between_by s args

-- `flow`
abbrev pub flow_by : List (List ℕ) → Option EventValue
flow_by [] = Some Flow
flow_by args = None

-- two machines
abbrev pub pair_from : ClusterSizes → List ℕ × List ℕ → Option (NodeId × NodeId)
pair_from s (a, b) = do
  from ← node_at s a
  to ← node_at s b
  Some (from, to)

abbrev pub pair_by : ClusterSizes → List (List ℕ) → Option (NodeId × NodeId)
pair_by s args = two_of args >>= pair_from s

-- `tick S`: 1 to 1,000 seconds
abbrev pub tick_by : List (List ℕ) → Option EventValue
tick_by args = option_map Tick (one_of args >>= number_within 1 1000)

-- ---- requests of users

-- `open C NAME`
abbrev pub open_from : ClusterSizes → List ℕ × List ℕ → Option EventValue
open_from s (c, word) = do
  client ← client_at s c
  name ← name_at word
  Some (Open client name)

abbrev pub open_by : ClusterSizes → List (List ℕ) → Option EventValue
open_by s args = two_of args >>= open_from s

-- a client, a place and bytes
abbrev pub written_from : ClusterSizes → List ℕ × List ℕ × List ℕ → Option (ℕ × ℕ × List ℕ)
written_from s (c, at, hex) = do
  client ← client_at s c
  place ← place_at at
  bytes ← bytes_at hex
  Some (client, place, bytes)

abbrev pub written_by : ClusterSizes → List (List ℕ) → Option (ℕ × ℕ × List ℕ)
written_by s args = three_of args >>= written_from s

-- `fill C AT COUNT BYTE`
abbrev pub fill_from : ClusterSizes → List ℕ × List ℕ × List ℕ × List ℕ → Option EventValue
fill_from s (c, at, n, hex) = do
  client ← client_at s c
  place ← place_at at
  count ← count_at n
  byte ← byte_at hex
  Some (Fill client place count byte)

abbrev pub fill_by : ClusterSizes → List (List ℕ) → Option EventValue
fill_by s args = four_of args >>= fill_from s

-- `read C AT COUNT`
abbrev pub read_from : ClusterSizes → List ℕ × List ℕ × List ℕ → Option EventValue
read_from s (c, at, n) = do
  client ← client_at s c
  place ← place_at at
  count ← count_at n
  Some (Read client place count)

abbrev pub read_by : ClusterSizes → List (List ℕ) → Option EventValue
read_by s args = three_of args >>= read_from s

-- a client alone
abbrev pub client_by : ClusterSizes → List (List ℕ) → Option ℕ
client_by s args = one_of args >>= client_at s

-- `stray C PLACE AT HEX`
abbrev pub stray_from : ClusterSizes → List ℕ × List ℕ × List ℕ × List ℕ → Option EventValue
stray_from s (c, n, at, hex) = do
  client ← client_at s c
  mirror ← decimal_at n
  place ← place_at at
  bytes ← bytes_at hex
  Some (Stray client mirror place bytes)

abbrev pub stray_by : ClusterSizes → List (List ℕ) → Option EventValue
stray_by s args = four_of args >>= stray_from s

-- ---- files and data servers

-- `restart D`, alone or with pieces
abbrev pub pieces_from : ClusterSizes → List ℕ × List ℕ → Option EventValue
pieces_from s (d, word) = do
  server ← server_at s d
  pieces ← pieces_at word
  Some (Restart server pieces)

abbrev pub pieces_by : ClusterSizes → List (List ℕ) → Option EventValue
pieces_by s args = two_of args >>= pieces_from s

abbrev pub restart_by : ClusterSizes → List (List ℕ) → Option EventValue
restart_by s (d ∷ []) = option_map (λ server. Restart server []) (server_at s d)
restart_by s args = pieces_by s args

-- a file's number alone
abbrev pub file_by : List (List ℕ) → Option ℕ
file_by args = one_of args >>= decimal_at

-- ---- by the first word

-- each row is a first word and what the words behind it say; the last is what comes of any other
abbrev pub Row : Type 0
Row = List ℕ × Option EventValue

abbrev pub by_row : List ℕ → List Row → Option EventValue → Option EventValue
by_row word [] other = other
by_row word (row ∷ rows) other = if bytes_eq word row.0 then row.1 else by_row word rows other

abbrev pub others_by : ClusterSizes → List ℕ → List (List ℕ) → Option EventValue
others_by s word args =
    by_row word (
    (codes "rogue", option_map Rogue (client_by s args))
    ∷ (codes "stray", stray_by s args)
    ∷ (codes "reboot", option_map Reboot (client_by s args))
    ∷ (codes "restart", restart_by s args)
    ∷ (codes "recall", option_map Recall (file_by args))
    ∷ (codes "resilver", option_map Resilver (file_by args))
    ∷ (codes "audit", option_map Audit (file_by args))
    ∷ []
    ) None

abbrev pub requests_by : ClusterSizes → List ℕ → List (List ℕ) → Option EventValue
requests_by s word args =
    by_row word (
    (codes "open", open_by s args)
    ∷ (codes "write", option_map (λ w. Write w.0 w.1 w.2) (written_by s args))
    ∷ (codes "through", option_map (λ w. Through w.0 w.1 w.2) (written_by s args))
    ∷ (codes "fill", fill_by s args)
    ∷ (codes "commit", option_map Commit (client_by s args))
    ∷ (codes "read", read_by s args)
    ∷ (codes "return", option_map Return (client_by s args))
    ∷ []
    ) (others_by s word args)

abbrev pub moves_by : ClusterSizes → List ℕ → List (List ℕ) → Option EventValue
moves_by s word args =
    by_row word (
    (codes "deliver", deliver_by s args)
    ∷ (codes "flow", flow_by args)
    ∷ (codes "hold", option_map (λ p. Hold p.0 p.1) (pair_by s args))
    ∷ (codes "pass", option_map (λ p. Pass p.0 p.1) (pair_by s args))
    ∷ (codes "timeout", option_map (λ p. Timeout p.0 p.1) (pair_by s args))
    ∷ (codes "tick", tick_by args)
    ∷ []
    ) (requests_by s word args)

abbrev pub event_by : ClusterSizes → List (List ℕ) → Option EventValue
event_by s (word ∷ args) = moves_by s word args
event_by s [] = None

-- a line behind the setup
abbrev pub event_at : ClusterSizes → List ℕ → Option EventValue
event_at s line = event_by s (words_of line)

-- ---- what the code's event says

abbrev pub cluster_event : ClusterEvent → EventValue
cluster_event (event.DeliverPacket number) = DeliverPacket number
cluster_event (event.DeliverBetween from to place) = DeliverBetween from to place
cluster_event event.Flow = Flow
cluster_event (event.Hold from to) = Hold from to
cluster_event (event.Pass from to) = Pass from to
cluster_event (event.Timeout node to) = Timeout node to
cluster_event (event.Tick seconds) = Tick seconds
cluster_event (event.Open client name) = Open client name.now
cluster_event (event.Write client at bytes) = Write client at bytes
cluster_event (event.Through client at bytes) = Through client at bytes
cluster_event (event.Fill client at count byte) = Fill client at count byte
cluster_event (event.Commit client) = Commit client
cluster_event (event.Read client at count) = Read client at count
cluster_event (event.Return client) = Return client
cluster_event (event.Rogue client) = Rogue client
cluster_event (event.Stray client mirror at bytes) = Stray client mirror at bytes
cluster_event (event.Reboot client) = Reboot client
cluster_event (event.Restart server pieces) = Restart server pieces
cluster_event (event.Recall file) = Recall file.0
cluster_event (event.Resilver file) = Resilver file.0
cluster_event (event.Audit file) = Audit file.0
