-- The events that the lines of a cluster's script say are in the ranges of its grammar.
use Rattle.std.proofs.Common.{◌≡◌, ℕ, ◌+◌, ◌≤◌, ◌&&◌, List, [], ◌∷◌, length, Option, Some, None, refl, ap, subst}
use Rattle.std.specs.Prelude.{nat_le, codes, ◌==◌, option_and_then, option_map}
use Rattle.std.specs.List.{AllByRecursion, list_all}
use Rattle.std.specs.Str.{bytes_eq}
use Rattle.std.proofs.lemmas.Bool.{and_parts, cond_both, leb-true}
use Rattle.cluster_model.specs.declared.limits.TheConstants.{MAX_FILE, PIECE_SIZE}
use Rattle.cluster_model.specs.Event.{EventValue, Deliver, DeliverPacket, DeliverBetween, Flow, Hold, Pass, Tick, Timeout, Open, Write, Through, Fill, Commit, Read, Return, Rogue, Stray, Reboot, Recall, Resilver, Audit, Restart}
use Rattle.ff_script.specs.Pieces.{◌>>=◌, decimal_at, pieces_at}
use Rattle.ff_script.specs.Digits.{bytes_of_digits}
use Rattle.ff_script.specs.Line as bare
use Rattle.cluster_script.specs.declared.sizes.ClusterSizes.{ClusterSizes}
use Rattle.cluster_script.specs.ScriptWords.{one_of, two_of, three_of, four_of, words_of, number_within, place_at, count_at, bytes_at, byte_at, name_at, few_bytes, is_of_name, server_at, client_at, node_at}
use Rattle.cluster_script.specs.ClusterLines.{Row, by_row, open_from, open_by, written_from, written_by, fill_from, fill_by, read_from, read_by, stray_from, stray_by, deliver_by, flow_by, pair_by, tick_by, client_by, restart_by, file_by, between_from, between_by, pieces_from, pieces_by, others_by, requests_by, moves_by, event_by, event_at}
use Rattle.ff_replay.specs.declared.setup.Setup.{Setup}
use Rattle.ff_replay.specs.declared.setup.Setup.TheVariants.{Bare, Cluster}
use Rattle.ff_replay.specs.Script.{ScriptLine, SaysNothing, SetsUp, Happens, Script, setup_in, words_in, line_in, by_line, script_of}
use Rattle.node_histories.specs.NodeHistories.{IsEventInRange}
use Rattle.script_laws.proofs.Setups.{bound, tested, number_range}

-- what is said, if it is, is in range
abbrev Ranged : Option EventValue → Type 0
Ranged o = (e : EventValue) → o ≡ Some e → IsEventInRange e

says_none : Ranged None
says_none e is = absurd cc

said : (event : EventValue) → IsEventInRange event → Ranged (Some event)
said event so e is =
    let same : event ≡ e = cc is in
    subst IsEventInRange same so

-- of a kind that has no range
mapped : {A : Type 0} (o : Option A) (f : A → EventValue) → ((a : A) → IsEventInRange (f a)) → Ranged (option_map f o)
mapped None f all = says_none
mapped (Some a) f all = said (f a) (all a)

-- a row of a table, or what comes of another word
row_ranged : (word : List ℕ) (rows : List Row) (other : Option EventValue) → AllByRecursion (λ (row : Row). Ranged row.1) rows → Ranged other → Ranged (by_row word rows other)
row_ranged word [] other all rest = rest
row_ranged word (row ∷ rows) other all rest =
    cond_both (bytes_eq word row.0) row.1 (by_row word rows other) Ranged (λ is. all.0) (λ is. row_ranged word rows other all.1 rest)

-- ---- words

some_name : (word name : List ℕ) → name_at word ≡ Some name → length name ≤ 255
some_name word name is =
    let both = tested ((nat_le 1 (length word) && nat_le (length word) 255) && list_all is_of_name word) word name is in
    let parts = and_parts (nat_le 1 (length word)) (nat_le (length word) 255) (and_parts (nat_le 1 (length word) && nat_le (length word) 255) (list_all is_of_name word) both.0).0 in
    subst (λ (n : List ℕ). length n ≤ 255) both.1 (leb-true (length word) 255 parts.1)

some_bytes : (word bytes : List ℕ) → bytes_at word ≡ Some bytes → (1 ≤ length bytes) × (length bytes ≤ PIECE_SIZE)
some_bytes word bytes is =
    let found = bound (bytes_of_digits word) few_bytes bytes is in
    let both = tested (nat_le 1 (length found.0) && nat_le (length found.0) PIECE_SIZE) found.0 bytes found.2 in
    let parts = and_parts (nat_le 1 (length found.0)) (nat_le (length found.0) PIECE_SIZE) both.0 in
    subst (λ (b : List ℕ). (1 ≤ length b) × (length b ≤ PIECE_SIZE)) both.1 (leb-true 1 (length found.0) parts.0, leb-true (length found.0) PIECE_SIZE parts.1)

-- ---- requests of users

open_ranged : (s : ClusterSizes) (args : List (List ℕ)) → Ranged (open_by s args)
open_ranged s args e is =
    let two = bound (two_of args) (open_from s) e is in
    let client = bound (client_at s two.0.0) _ e two.2 in
    let name = bound (name_at two.0.1) _ e client.2 in
    said (Open client.0 name.0) (some_name two.0.1 name.0 name.1) e name.2

-- a client, a place and bytes
record IsWritten (w : ℕ × ℕ × List ℕ) : Type 0 where
  some : 1 ≤ length w.2
  few : length w.2 ≤ PIECE_SIZE

written_ranged : (s : ClusterSizes) (args : List (List ℕ)) (w : ℕ × ℕ × List ℕ) → written_by s args ≡ Some w → IsWritten w
written_ranged s args w is =
    let three = bound (three_of args) (written_from s) w is in
    let client = bound (client_at s three.0.0) _ w three.2 in
    let place = bound (place_at three.0.1) _ w client.2 in
    let bytes = bound (bytes_at three.0.2) _ w place.2 in
    let range = some_bytes three.0.2 bytes.0 bytes.1 in
    let same : (client.0, place.0, bytes.0) ≡ w = cc bytes.2 in
    subst IsWritten same (record { some = range.0; few = range.1 })

write_ranged : (s : ClusterSizes) (args : List (List ℕ)) (kind : ℕ → ℕ → List ℕ → EventValue) → ((client at : ℕ) (bytes : List ℕ) → 1 ≤ length bytes → length bytes ≤ PIECE_SIZE → IsEventInRange (kind client at bytes))
    → Ranged (option_map (λ (w : ℕ × ℕ × List ℕ). kind w.0 w.1 w.2) (written_by s args))
write_ranged s args kind all = by_written (written_by s args) refl
  where
    by_written : (o : Option (ℕ × ℕ × List ℕ)) → written_by s args ≡ o → Ranged (option_map (λ (w : ℕ × ℕ × List ℕ). kind w.0 w.1 w.2) o)
    by_written None is = says_none
    by_written (Some w) is =
        let range = written_ranged s args w is in
        said (kind w.0 w.1 w.2) (all w.0 w.1 w.2 range.some range.few)

fill_ranged : (s : ClusterSizes) (args : List (List ℕ)) → Ranged (fill_by s args)
fill_ranged s args e is =
    let four = bound (four_of args) (fill_from s) e is in
    let client = bound (client_at s four.0.0) _ e four.2 in
    let place = bound (place_at four.0.1) _ e client.2 in
    let count = bound (count_at four.0.2) _ e place.2 in
    let byte = bound (byte_at four.0.3) _ e count.2 in
    said (Fill client.0 place.0 count.0 byte.0) (number_range 1 PIECE_SIZE four.0.2 count.0 count.1) e byte.2

read_ranged : (s : ClusterSizes) (args : List (List ℕ)) → Ranged (read_by s args)
read_ranged s args e is =
    let three = bound (three_of args) (read_from s) e is in
    let client = bound (client_at s three.0.0) _ e three.2 in
    let place = bound (place_at three.0.1) _ e client.2 in
    let count = bound (count_at three.0.2) _ e place.2 in
    said (Read client.0 place.0 count.0) ((number_range 0 MAX_FILE three.0.1 place.0 place.1).1, (number_range 1 PIECE_SIZE three.0.2 count.0 count.1).1) e count.2

stray_ranged : (s : ClusterSizes) (args : List (List ℕ)) → Ranged (stray_by s args)
stray_ranged s args e is =
    let four = bound (four_of args) (stray_from s) e is in
    let client = bound (client_at s four.0.0) _ e four.2 in
    let mirror = bound (decimal_at four.0.1) _ e client.2 in
    let place = bound (place_at four.0.2) _ e mirror.2 in
    let bytes = bound (bytes_at four.0.3) _ e place.2 in
    said (Stray client.0 mirror.0 place.0 bytes.0) ((number_range 0 MAX_FILE four.0.2 place.0 place.1).1, (some_bytes four.0.3 bytes.0 bytes.1).1) e bytes.2

-- ---- the others

between_ranged : (s : ClusterSizes) (args : List (List ℕ)) → Ranged (between_by s args)
between_ranged s args e is =
    let three = bound (three_of args) (between_from s) e is in
    let from = bound (node_at s three.0.0) _ e three.2 in
    let to = bound (node_at s three.0.1) _ e from.2 in
    let place = bound (decimal_at three.0.2) _ e to.2 in
    said (DeliverBetween from.0 to.0 place.0) tt e place.2

deliver_ranged : (s : ClusterSizes) (args : List (List ℕ)) → Ranged (deliver_by s args)
deliver_ranged s [] = between_ranged s []
deliver_ranged s (k ∷ []) = mapped (decimal_at k) DeliverPacket (λ n. tt)
deliver_ranged s (k ∷ l ∷ rest) = between_ranged s (k ∷ l ∷ rest)

flow_ranged : (args : List (List ℕ)) → Ranged (flow_by args)
flow_ranged [] = said Flow tt
flow_ranged (word ∷ args) = says_none

pieces_ranged : (s : ClusterSizes) (args : List (List ℕ)) → Ranged (pieces_by s args)
pieces_ranged s args e is =
    let two = bound (two_of args) (pieces_from s) e is in
    let server = bound (server_at s two.0.0) _ e two.2 in
    let pieces = bound (pieces_at two.0.1) _ e server.2 in
    said (Restart server.0 pieces.0) tt e pieces.2

restart_ranged : (s : ClusterSizes) (args : List (List ℕ)) → Ranged (restart_by s args)
restart_ranged s [] = pieces_ranged s []
restart_ranged s (d ∷ []) = mapped (server_at s d) (λ server. Restart server []) (λ n. tt)
restart_ranged s (d ∷ k ∷ rest) = pieces_ranged s (d ∷ k ∷ rest)

-- ---- a line

-- what each row says is in range
abbrev AreRanged : List Row → Type 0
AreRanged rows = AllByRecursion (λ (row : Row). Ranged row.1) rows

others_ranged : (s : ClusterSizes) (word : List ℕ) (args : List (List ℕ)) → Ranged (others_by s word args)
others_ranged s word args =
    let rows : List Row =
    (codes "rogue", option_map Rogue (client_by s args)) ∷ (codes "stray", stray_by s args) ∷ (codes "reboot", option_map Reboot (client_by s args)) ∷ (codes "restart", restart_by s args)
    ∷ (codes "recall", option_map Recall (file_by args)) ∷ (codes "resilver", option_map Resilver (file_by args)) ∷ (codes "audit", option_map Audit (file_by args)) ∷ [] in
    let all : AreRanged rows = (
      mapped (client_by s args) Rogue (λ n. tt),
      (
        stray_ranged s args,
        (
          mapped (client_by s args) Reboot (λ n. tt),
          (
            restart_ranged s args,
            (
              mapped (file_by args) Recall (λ n. tt),
              (
                mapped (file_by args) Resilver (λ n. tt),
                (
                  mapped (file_by args) Audit (λ n. tt),
                  tt,
                ),
              ),
            ),
          ),
        ),
      ),
    ) in
    row_ranged word rows None all says_none

requests_ranged : (s : ClusterSizes) (word : List ℕ) (args : List (List ℕ)) → Ranged (requests_by s word args)
requests_ranged s word args =
    let rows : List Row =
    (codes "open", open_by s args) ∷ (codes "write", option_map (λ w. Write w.0 w.1 w.2) (written_by s args)) ∷ (codes "through", option_map (λ w. Through w.0 w.1 w.2) (written_by s args)) ∷ (codes "fill", fill_by s args)
    ∷ (codes "commit", option_map Commit (client_by s args)) ∷ (codes "read", read_by s args) ∷ (codes "return", option_map Return (client_by s args)) ∷ [] in
    let all : AreRanged rows = (
      open_ranged s args,
      (
        write_ranged s args Write (λ client at bytes some few. (some, few)),
        (
          write_ranged s args Through (λ client at bytes some few. (some, few)),
          (
            fill_ranged s args,
            (
              mapped (client_by s args) Commit (λ n. tt),
              (
                read_ranged s args,
                (
                  mapped (client_by s args) Return (λ n. tt),
                  tt,
                ),
              ),
            ),
          ),
        ),
      ),
    ) in
    row_ranged word rows (others_by s word args) all (others_ranged s word args)

moves_ranged : (s : ClusterSizes) (word : List ℕ) (args : List (List ℕ)) → Ranged (moves_by s word args)
moves_ranged s word args =
    let rows : List Row =
    (codes "deliver", deliver_by s args) ∷ (codes "flow", flow_by args) ∷ (codes "hold", option_map (λ p. Hold p.0 p.1) (pair_by s args)) ∷ (codes "pass", option_map (λ p. Pass p.0 p.1) (pair_by s args))
    ∷ (codes "timeout", option_map (λ p. Timeout p.0 p.1) (pair_by s args)) ∷ (codes "tick", tick_by args) ∷ [] in
    let all : AreRanged rows = (
      deliver_ranged s args,
      (
        flow_ranged args,
        (
          mapped (pair_by s args) (λ p. Hold p.0 p.1) (λ p. tt),
          (
            mapped (pair_by s args) (λ p. Pass p.0 p.1) (λ p. tt),
            (
              mapped (pair_by s args) (λ p. Timeout p.0 p.1) (λ p. tt),
              (
                mapped (one_of args >>= number_within 1 1000) Tick (λ n. tt),
                tt,
              ),
            ),
          ),
        ),
      ),
    ) in
    row_ranged word rows (requests_by s word args) all (requests_ranged s word args)

words_ranged : (s : ClusterSizes) (words : List (List ℕ)) → Ranged (event_by s words)
words_ranged s [] = says_none
words_ranged s (word ∷ args) = moves_ranged s word args

-- ---- the lines of one data server

and_then : {A B : Type 0} (o : Option A) (f : A → Option B) (b : B) → option_and_then f o ≡ Some b → (a : A) × (o ≡ Some a) × (f a ≡ Some b)
and_then None f b is = absurd cc
and_then (Some a) f b is = (a, refl, is)

record_ranged : (o : Option (List ℕ)) → Ranged (option_and_then (λ few. Some (Deliver few)) o)
record_ranged None = says_none
record_ranged (Some few) = said (Deliver few) tt

deliver_line : (text : List ℕ) → Ranged (bare.deliver_at text)
deliver_line text e is =
    let digits = and_then (bare.after_word (codes "deliver ") text) _ e is in
    let bytes = and_then (bytes_of_digits digits.0) _ e digits.2 in
    record_ranged (bare.short_record bytes.0) e bytes.2

restart_line : (text : List ℕ) → Ranged (bare.restart_at text)
restart_line text =
    cond_both (bytes_eq text (codes "restart d1")) (Some (Restart 1 [])) (option_map (Restart 1) (option_and_then pieces_at (bare.after_word (codes "restart d1 ") text))) Ranged (λ is. said (Restart 1 []) tt)
    (λ other. mapped (option_and_then pieces_at (bare.after_word (codes "restart d1 ") text)) (Restart 1) (λ pieces. tt))

first_ranged : (a b : Option EventValue) → Ranged a → Ranged b → Ranged (bare.first_of a b)
first_ranged None b first second = second
first_ranged (Some e) b first second = first

bare_ranged : (text : List ℕ) → Ranged (bare.event_at text)
bare_ranged text = first_ranged (bare.deliver_at text) (bare.restart_at text) (deliver_line text) (restart_line text)

-- ---- a line of a script

-- an event that it says is in range
abbrev pub InRange : Option ScriptLine → Type 0
InRange o = (e : EventValue) → o ≡ Some (Happens e) → IsEventInRange e

happens_so : (o : Option EventValue) → Ranged o → InRange (option_map Happens o)
happens_so None all e is = absurd cc
happens_so (Some x) all e is =
    let same : x ≡ e = cc is in
    all e (ap (λ (y : EventValue). Some y) same)

chosen_so : (o : Option Setup) → InRange (option_map SetsUp o)
chosen_so None e is = absurd cc
chosen_so (Some chosen) e is = absurd cc

words_so : (setup : Option Setup) (text : List ℕ) → InRange (words_in setup text)
words_so None text = chosen_so (setup_in text)
words_so (Some Bare) text = happens_so (bare.event_at text) (bare_ranged text)
words_so (Some (Cluster sizes)) text = happens_so (event_at sizes text) (words_ranged sizes (words_of text))

pub line_so : (setup : Option Setup) (line : List ℕ) → InRange (line_in setup line)
line_so setup [] = λ e is. absurd cc
line_so setup (c ∷ rest) = cond_both (c == 35) (Some SaysNothing) (words_in setup (c ∷ rest)) InRange (λ mark. λ e is. absurd cc) (λ other. words_so setup (c ∷ rest))

-- ---- a script

abbrev pub AreInRange : List EventValue → Type 0
AreInRange events = AllByRecursion IsEventInRange events

by_said : (number : ℕ) (setup : Option Setup) (o : Option ScriptLine) (rest : Option Setup → Script) → InRange o → ((s : Option Setup) → AreInRange (rest s).events) → AreInRange (by_line number setup o rest).events
by_said number setup None rest so all = tt
by_said number setup (Some SaysNothing) rest so all = all setup
by_said number setup (Some (SetsUp chosen)) rest so all = all (Some chosen)
by_said number setup (Some (Happens event)) rest so all = (so event refl, all setup)

pub script_ranged : (lines : List (List ℕ)) (number : ℕ) (setup : Option Setup) → AreInRange (script_of number setup lines).events
script_ranged [] number setup = tt
script_ranged (line ∷ lines) number setup = by_said number setup (line_in setup line) (λ chosen. script_of (number + 1) chosen lines) (line_so setup line) (λ s. script_ranged lines (number + 1) s)
