-- The script that is generated for a number.
--
--   t 0 to 5    fill C AT COUNT BYTE    9     return C           12   tick S       15      timeout C D
--   t 6 to 8    commit C                10    read C AT COUNT    13   restart D    16      resilver F
--                                       11    recall F           14   timeout m D  17      deliver K
--                                                                                  18, 19  flow
--
-- Each letter is drawn in the order written: a client C and a data server D of 4, a file F of 2, a place AT below 4,096, a COUNT of
-- 1 to 256, a BYTE below 256, seconds S of 1 to 30, and a packet K of 1 to 200.
use Rattle.std.specs.Prelude.{ℕ, zero, suc, ◌+◌, ◌*◌, ◌/◌, ◌%◌, ◌^◌, nat_le, List, [], ◌∷◌, ◌++◌, codes, decimal, if◌then◌else◌}
use Rattle.hex.specs.Hex.{encode_lower}
use Rattle.cluster_model.specs.declared.ids.NodeId.TheVariants.{Mds, Server, Client}
use Rattle.cluster_model.specs.Print.{words, node_text}

-- ---- numbers that are drawn

-- the state behind a draw
unfoldable pub next_state : ℕ → ℕ
next_state x = (x * 6364136223846793005 + 1442695040888963407) % 2 ^ 64

-- the state behind n draws
abbrev pub states_on : ℕ → ℕ → ℕ
states_on zero x = x
states_on (suc n) x = states_on n (next_state x)

-- the draw with number i, from 1, below k, of what begins at state x
abbrev pub draw : ℕ → ℕ → ℕ → ℕ
draw i k x = (states_on i x / 2 ^ 33) % k

-- ---- a line that is drawn

-- a line of each kind: a write of equal bytes, a commit, a return, a read, a recall, time, a restart, a timeout of the metadata
-- server's call, one of a client's call, new mirrors, a delivery, and a flow
pub data DrawnLine : Type 0 where
  FillLine : (client at count byte : ℕ) → DrawnLine
  CommitLine : (client : ℕ) → DrawnLine
  ReturnLine : (client : ℕ) → DrawnLine
  ReadLine : (client at count : ℕ) → DrawnLine
  RecallLine : (file : ℕ) → DrawnLine
  TickLine : (seconds : ℕ) → DrawnLine
  RestartLine : (server : ℕ) → DrawnLine
  ServerTimeout : (server : ℕ) → DrawnLine
  ClientTimeout : (client server : ℕ) → DrawnLine
  ResilverLine : (file : ℕ) → DrawnLine
  DeliverLine : (packet : ℕ) → DrawnLine
  FlowLine : DrawnLine

-- a row of a table: the last number that it is for, and what it gives
abbrev pub LineRow : Type 0
LineRow = ℕ × DrawnLine

-- what a number gives: the first row that it does not pass, and a flow behind all rows
abbrev pub row_for : ℕ → List LineRow → DrawnLine
row_for t [] = FlowLine
row_for t (row ∷ rows) = if nat_le t row.0 then row.1 else row_for t rows

-- the lines that may begin at state x
abbrev pub line_rows : ℕ → List LineRow
line_rows x =
    (5, FillLine (1 + draw 2 4 x) (draw 3 4096 x) (1 + draw 4 256 x) (draw 5 256 x))
    ∷ (8, CommitLine (1 + draw 2 4 x))
    ∷ (9, ReturnLine (1 + draw 2 4 x))
    ∷ (10, ReadLine (1 + draw 2 4 x) (draw 3 4096 x) (1 + draw 4 256 x))
    ∷ (11, RecallLine (1 + draw 2 2 x))
    ∷ (12, TickLine (1 + draw 2 30 x))
    ∷ (13, RestartLine (1 + draw 2 4 x))
    ∷ (14, ServerTimeout (1 + draw 2 4 x))
    ∷ (15, ClientTimeout (1 + draw 2 4 x) (1 + draw 3 4 x))
    ∷ (16, ResilverLine (1 + draw 2 2 x))
    ∷ (17, DeliverLine (1 + draw 2 200 x))
    ∷ []

-- the line that begins at state x
unfoldable pub drawn_line : ℕ → DrawnLine
drawn_line x = row_for (draw 1 20 x) (line_rows x)

-- how many draws it took, with that of its kind
abbrev pub draws_of : DrawnLine → ℕ
draws_of (FillLine client at count byte) = 5
draws_of (CommitLine client) = 2
draws_of (ReturnLine client) = 2
draws_of (ReadLine client at count) = 4
draws_of (RecallLine file) = 2
draws_of (TickLine seconds) = 2
draws_of (RestartLine server) = 2
draws_of (ServerTimeout server) = 2
draws_of (ClientTimeout client server) = 3
draws_of (ResilverLine file) = 2
draws_of (DeliverLine packet) = 2
draws_of FlowLine = 1

-- its text, with the newline
abbrev pub line_text : DrawnLine → List ℕ
line_text (FillLine client at count byte) = words (codes "fill" ∷ node_text (Client client) ∷ decimal at ∷ decimal count ∷ encode_lower (byte ∷ []) ∷ [])
line_text (CommitLine client) = words (codes "commit" ∷ node_text (Client client) ∷ [])
line_text (ReturnLine client) = words (codes "return" ∷ node_text (Client client) ∷ [])
line_text (ReadLine client at count) = words (codes "read" ∷ node_text (Client client) ∷ decimal at ∷ decimal count ∷ [])
line_text (RecallLine file) = words (codes "recall" ∷ decimal file ∷ [])
line_text (TickLine seconds) = words (codes "tick" ∷ decimal seconds ∷ [])
line_text (RestartLine server) = words (codes "restart" ∷ node_text (Server server) ∷ [])
line_text (ServerTimeout server) = words (codes "timeout" ∷ node_text Mds ∷ node_text (Server server) ∷ [])
line_text (ClientTimeout client server) = words (codes "timeout" ∷ node_text (Client client) ∷ node_text (Server server) ∷ [])
line_text (ResilverLine file) = words (codes "resilver" ∷ decimal file ∷ [])
line_text (DeliverLine packet) = words (codes "deliver" ∷ decimal packet ∷ [])
line_text FlowLine = words (codes "flow" ∷ [])

-- ---- the script

-- n drawn lines, from state x on
unfoldable pub drawn_text : ℕ → ℕ → List ℕ
drawn_text zero x = []
drawn_text (suc n) x = line_text (drawn_line x) ++ drawn_text n (states_on (draws_of (drawn_line x)) x)

-- the lines before those that are drawn, and the lines behind them
abbrev pub opening_lines : List ℕ
opening_lines = codes "cluster 4 3 4\nopen c1 a\nopen c2 a\nopen c3 b\nopen c4 b\nflow\n"

abbrev pub closing_lines : List ℕ
closing_lines = codes "tick 91\nflow\naudit 1\naudit 2\n"

-- the script of a number
unfoldable pub generated : ℕ → List ℕ
generated seed = opening_lines ++ drawn_text 2000 seed ++ closing_lines
