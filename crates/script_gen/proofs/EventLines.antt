-- Each line that is drawn is an event of a script.
use Rattle.std.proofs.Common.{◌≡◌, ℕ, ◌+◌, ◌-◌, ◌<◌, ◌≤◌, ◌^◌, Bool, true, false, nat_le, if◌then◌else◌, List, [], ◌∷◌, ◌++◌, length, codes, Some, refl, ap, ◌∙◌, arith}
use Rattle.std.specs.Prelude.{⊤, decimal}
use Rattle.std.specs.Option.{option_map}
use Rattle.std.specs.List.{AllByRecursion}
use Rattle.hex.specs.Hex.{encode_lower}
use Rattle.cluster_model.specs.declared.limits.TheConstants.{MAX_FILE, PIECE_SIZE}
use Rattle.cluster_model.specs.declared.ids.NodeId.{NodeId}
use Rattle.cluster_model.specs.declared.ids.NodeId.TheVariants.{Mds, Server, Client}
use Rattle.cluster_model.specs.Event.{EventValue, DeliverPacket, Flow, Timeout, Tick, Fill, Commit, Read, Return, Recall, Resilver, Restart}
use Rattle.cluster_model.specs.Print.{words, joined, node_text}
use Rattle.journal_print.proofs.Reading.{Above, Above-decimal, bytes_word}
use Rattle.line_runs.specs.Lines.{script_lines}
use Rattle.ff_script.specs.Pieces.{◌>>=◌}
use Rattle.cluster_script.specs.ClusterLines.{event_by}
use Rattle.script_gen.specs.Generated.{DrawnLine, FillLine, CommitLine, ReturnLine, ReadLine, RecallLine, TickLine, RestartLine, ServerTimeout, ClientTimeout, ResilverLine, DeliverLine, FlowLine, draw, LineRow, row_for, line_rows, drawn_line, line_text}
use Rattle.script_gen.specs.ScriptLaw.{generated_sizes, SaysEvent}
use Rattle.script_gen.proofs.LineWords.{words_again, words_first}
use Rattle.script_gen.proofs.NumberWords.{number_again, within_number, client_again, server_again, server_node, client_node, one_is_bytes, byte_again}

-- its numbers are such as are drawn
abbrev pub IsDrawn : DrawnLine → Type 0
IsDrawn (FillLine client at count byte) = (1 ≤ client) × (client ≤ 4) × (at < 4096) × (1 ≤ count) × (count ≤ 256) × (byte < 256)
IsDrawn (CommitLine client) = (1 ≤ client) × (client ≤ 4)
IsDrawn (ReturnLine client) = (1 ≤ client) × (client ≤ 4)
IsDrawn (ReadLine client at count) = (1 ≤ client) × (client ≤ 4) × (at < 4096) × (1 ≤ count) × (count ≤ 256)
IsDrawn (RecallLine file) = file ≤ 2
IsDrawn (TickLine seconds) = (1 ≤ seconds) × (seconds ≤ 30)
IsDrawn (RestartLine server) = (1 ≤ server) × (server ≤ 4)
IsDrawn (ServerTimeout server) = (1 ≤ server) × (server ≤ 4)
IsDrawn (ClientTimeout client server) = (1 ≤ client) × (client ≤ 4) × (1 ≤ server) × (server ≤ 4)
IsDrawn (ResilverLine file) = file ≤ 2
IsDrawn (DeliverLine packet) = packet ≤ 200
IsDrawn FlowLine = ⊤

-- a text begins with a line of an event, behind which the rest is read
pub record BeginsEvent (text rest : List ℕ) (n : ℕ) : Type 0 where
  pub line : List ℕ
  pub budget : ℕ
  pub is : script_lines n text ≡ line ∷ script_lines budget rest
  pub room : length rest ≤ budget
  pub event : SaysEvent line

pub begins : (w : List ℕ) (ws : List (List ℕ)) (rest : List ℕ) (n : ℕ) (event : EventValue) → AllByRecursion (Above 32) (w ∷ ws) → event_by generated_sizes (w ∷ ws) ≡ Some event → length (words (w ∷ ws) ++ rest) ≤ n
    → BeginsEvent (words (w ∷ ws) ++ rest) rest n
begins w ws rest n event above says room =
    let first = words_first w ws rest n above room in record {
      line = joined 32 (w ∷ ws);
      budget = n - (length (joined 32 (w ∷ ws)) + 1);
      is = first.0;
      room = first.1;
      event = (event, ap (event_by generated_sizes) (words_again w ws above) ∙ says);
    }

digits : (n : ℕ) → n < 2 ^ 32 → Above 32 (decimal n)
digits n small = Above-decimal 32 n (omega arith) (omega (arith, small))

pub begins_line : (line : DrawnLine) → IsDrawn line → (rest : List ℕ) (n : ℕ) → length (line_text line ++ rest) ≤ n → BeginsEvent (line_text line ++ rest) rest n
begins_line (FillLine client at count byte) (least, most, place, some, few, small) rest n room =
    let client_is = client_again client least most in
    let place_is = within_number 0 MAX_FILE at (omega (arith, place)) (omega arith) (omega (arith, place)) in
    let count_is = within_number 1 PIECE_SIZE count (omega (arith, few)) some (omega (arith, few)) in
    let byte_is = byte_again byte small in
    begins (codes "fill") (node_text (Client client) ∷ decimal at ∷ decimal count ∷ encode_lower (byte ∷ []) ∷ []) rest n (Fill client at count byte)
    (refl, (digits client (omega (arith, most)), (digits at (omega (arith, place)), (digits count (omega (arith, few)), (bytes_word (byte ∷ []) (one_is_bytes byte small), tt)))))
    (λ i. client_is i >>= (λ c. place_is i >>= (λ a. count_is i >>= (λ k. byte_is i >>= (λ b. Some (Fill c a k b)))))) room
begins_line (CommitLine client) (least, most) rest n room =
    begins (codes "commit") (node_text (Client client) ∷ []) rest n (Commit client) (refl, (digits client (omega (arith, most)), tt)) (ap (option_map Commit) (client_again client least most)) room
begins_line (ReturnLine client) (least, most) rest n room =
    begins (codes "return") (node_text (Client client) ∷ []) rest n (Return client) (refl, (digits client (omega (arith, most)), tt)) (ap (option_map Return) (client_again client least most)) room
begins_line (ReadLine client at count) (least, most, place, some, few) rest n room =
    let client_is = client_again client least most in
    let place_is = within_number 0 MAX_FILE at (omega (arith, place)) (omega arith) (omega (arith, place)) in
    let count_is = within_number 1 PIECE_SIZE count (omega (arith, few)) some (omega (arith, few)) in
    begins (codes "read") (node_text (Client client) ∷ decimal at ∷ decimal count ∷ []) rest n (Read client at count)
    (refl, (digits client (omega (arith, most)), (digits at (omega (arith, place)), (digits count (omega (arith, few)), tt))))
    (λ i. client_is i >>= (λ c. place_is i >>= (λ a. count_is i >>= (λ k. Some (Read c a k))))) room
begins_line (RecallLine file) few rest n room =
    begins (codes "recall") (decimal file ∷ []) rest n (Recall file) (refl, (digits file (omega (arith, few)), tt)) (ap (option_map Recall) (number_again file (omega (arith, few)))) room
begins_line (TickLine seconds) (least, most) rest n room =
    begins (codes "tick") (decimal seconds ∷ []) rest n (Tick seconds) (refl, (digits seconds (omega (arith, most)), tt)) (ap (option_map Tick) (within_number 1 1000 seconds (omega (arith, most)) least (omega (arith, most)))) room
begins_line (RestartLine server) (least, most) rest n room =
    begins (codes "restart") (node_text (Server server) ∷ []) rest n (Restart server []) (refl, (digits server (omega (arith, most)), tt)) (ap (option_map (λ d. Restart d [])) (server_again server least most)) room
begins_line (ServerTimeout server) (least, most) rest n room =
    begins (codes "timeout") (node_text Mds ∷ node_text (Server server) ∷ []) rest n (Timeout Mds (Server server)) (refl, (refl, (digits server (omega (arith, most)), tt)))
    (ap (λ o. option_map (λ (p : NodeId × NodeId). Timeout p.0 p.1) (o >>= (λ to. Some (Mds, to)))) (server_node server least most)) room
begins_line (ClientTimeout client server) (least, most, first, last) rest n room =
    let client_is = client_node client least most in
    let server_is = server_node server first last in
    begins (codes "timeout") (node_text (Client client) ∷ node_text (Server server) ∷ []) rest n (Timeout (Client client) (Server server)) (refl, (digits client (omega (arith, most)), (digits server (omega (arith, last)), tt)))
    (λ i. option_map (λ (p : NodeId × NodeId). Timeout p.0 p.1) (client_is i >>= (λ from. server_is i >>= (λ to. Some (from, to))))) room
begins_line (ResilverLine file) few rest n room =
    begins (codes "resilver") (decimal file ∷ []) rest n (Resilver file) (refl, (digits file (omega (arith, few)), tt)) (ap (option_map Resilver) (number_again file (omega (arith, few)))) room
begins_line (DeliverLine packet) few rest n room =
    begins (codes "deliver") (decimal packet ∷ []) rest n (DeliverPacket packet) (refl, (digits packet (omega (arith, few)), tt)) (ap (option_map DeliverPacket) (number_again packet (omega (arith, few)))) room
begins_line FlowLine drawn rest n room = begins (codes "flow") [] rest n Flow (refl, tt) refl room

-- ---- what is drawn

below : (i k x : ℕ) → 0 < k → draw i k x < k
below i k x some = omega (arith, some)

number : (i k x : ℕ) → 0 < k → (1 ≤ 1 + draw i k x) × (1 + draw i k x ≤ k)
number i k x some = (omega arith, omega (arith, below i k x some))

abbrev AreDrawn : List LineRow → Type 0
AreDrawn [] = ⊤
AreDrawn (row ∷ rows) = IsDrawn row.1 × AreDrawn rows

either : (b : Bool) (one other : DrawnLine) → IsDrawn one → IsDrawn other → IsDrawn (if b then one else other)
either true one other first second = first
either false one other first second = second

in_row : (t : ℕ) (rows : List LineRow) → AreDrawn rows → IsDrawn (row_for t rows)
in_row t [] all = tt
in_row t (row ∷ rows) all = either (nat_le t row.0) row.1 (row_for t rows) all.0 (in_row t rows all.1)

-- each line that is drawn
pub is_drawn : (x : ℕ) → IsDrawn (drawn_line x)
unfolding drawn_line
is_drawn x =
    let of_four = λ (i : ℕ). number i 4 x (omega arith) in
    let place : draw 3 4096 x < 4096 = below 3 4096 x (omega arith) in
    let count = number 4 256 x (omega arith) in
    let file : 1 + draw 2 2 x ≤ 2 = (number 2 2 x (omega arith)).1 in
    in_row (draw 1 20 x) (line_rows x) (
      ((of_four 2).0, (of_four 2).1, place, count.0, count.1, below 5 256 x (omega arith)),
      (
        of_four 2,
        (
          of_four 2,
          (
            ((of_four 2).0, (of_four 2).1, place, count.0, count.1),
            (
              file,
              (
                number 2 30 x (omega arith),
                (
                  of_four 2,
                  (
                    of_four 2,
                    (((of_four 2).0, (of_four 2).1, (of_four 3).0, (of_four 3).1), (file, ((number 2 200 x (omega arith)).1, tt))),
                  ),
                ),
              ),
            ),
          ),
        ),
      ),
    )
