-- The events of a cluster's script have the ranges that its world asks for.
use Rattle.std.proofs.Common.{◌≡◌, ℕ, ◌≤◌, Bool, true, false, ◌&&◌, nat_le, List, [], ◌∷◌, length, Option, Some, None, refl, sym, subst, if◌then◌else◌}
use Rattle.std.specs.Prelude.{⊤, codes, IfSome}
use Rattle.std.specs.List.{list_all}
use Rattle.std.specs.Str.{bytes_eq}
use Rattle.std.specs.Option.{option_map}
use Rattle.std.proofs.lemmas.Bool.{leb-true, and_parts}
use Rattle.cluster_model.specs.declared.limits.TheConstants.{PIECE_SIZE}
use Rattle.cluster_model.specs.Event.{EventValue, DeliverPacket, DeliverBetween, Hold, Pass, Timeout, Tick, Open, Write, Through, Fill, Commit, Read, Return, Rogue, Stray, Reboot, Recall, Resilver, Audit, Restart}
use Rattle.ff_script.specs.Digits.{bytes_of_digits}
use Rattle.ff_script.specs.Pieces.{◌>>=◌, decimal_at, pieces_at}
use Rattle.cluster_script.specs.declared.event.ClusterEvent.{ClusterEvent}
use Rattle.cluster_script.specs.declared.sizes.ClusterSizes.{ClusterSizes}
use Rattle.cluster_script.specs.ScriptWords.{words_of, one_of, two_of, three_of, four_of, within, number_within, place_at, count_at, few_bytes, bytes_at, byte_at, is_of_name, name_at, server_at, client_at, node_at}
use Rattle.cluster_script.specs.ClusterLines.{between_from, between_by, deliver_by, flow_by, pair_by, tick_by, open_from, open_by, written_from, written_by, fill_from, fill_by, read_from, read_by, client_by, stray_from, stray_by, pieces_from, pieces_by, restart_by, file_by, Row, by_row, others_by, requests_by, moves_by, event_by, event_at, cluster_event}
use Rattle.cluster_world.specs.WorldSteps.{IsOfScript}

-- ---- of what is there

abbrev pub AllOf : {X : Type 0} → (X → Type 0) → Option X → Type 0
AllOf P None = ⊤
AllOf P (Some x) = P x

bind_all : {A B : Type 0} (P : B → Type 0) (o : Option A) (f : A → Option B) → ((a : A) → AllOf P (f a)) → AllOf P (o >>= f)
bind_all P None f each = tt
bind_all P (Some a) f each = each a

bind_given : {A B : Type 0} (Q : A → Type 0) (P : B → Type 0) (o : Option A) (f : A → Option B) → AllOf Q o → ((a : A) → Q a → AllOf P (f a)) → AllOf P (o >>= f)
bind_given Q P None f given each = tt
bind_given Q P (Some a) f given each = each a given

map_all : {A B : Type 0} (P : B → Type 0) (f : A → B) (o : Option A) → ((a : A) → P (f a)) → AllOf P (option_map f o)
map_all P f None each = tt
map_all P f (Some a) each = each a

map_given : {A B : Type 0} (Q : A → Type 0) (P : B → Type 0) (f : A → B) (o : Option A) → AllOf Q o → ((a : A) → Q a → P (f a)) → AllOf P (option_map f o)
map_given Q P f None given each = tt
map_given Q P f (Some a) given each = each a given

if_all : {X : Type 0} (P : X → Type 0) (test : Bool) (x : X) → (test ≡ true → P x) → AllOf P (if test then Some x else None)
if_all P true x so = so refl
if_all P false x so = tt

-- ---- names, counts and bytes

abbrev pub IsFew : ℕ → Type 0
IsFew n = (1 ≤ n) × (n ≤ PIECE_SIZE)

pub within_all : (low high n : ℕ) → AllOf (λ k. (low ≤ k) × (k ≤ high)) (within low high n)
within_all low high n = if_all (λ k. (low ≤ k) × (k ≤ high)) (nat_le low n && nat_le n high) n (λ so. (leb-true low n (and_parts _ _ so).0, leb-true n high (and_parts _ _ so).1))

pub number_all : (low high : ℕ) (word : List ℕ) → AllOf (λ k. (low ≤ k) × (k ≤ high)) (number_within low high word)
number_all low high word = bind_all (λ k. (low ≤ k) × (k ≤ high)) (decimal_at word) (within low high) (λ n. within_all low high n)

few_count : (word : List ℕ) → AllOf IsFew (count_at word)
few_count word = number_all 1 PIECE_SIZE word

few_name : (word : List ℕ) → AllOf (λ name. length name ≤ 255) (name_at word)
few_name word = if_all (λ name. length name ≤ 255) ((nat_le 1 (length word) && nat_le (length word) 255) && list_all is_of_name word) word (λ so. leb-true (length word) 255 (and_parts _ _ (and_parts _ _ so).0).1)

few_read : (word : List ℕ) → AllOf (λ bytes. IsFew (length bytes)) (bytes_at word)
few_read word = bind_all (λ bytes. IsFew (length bytes)) (bytes_of_digits word) few_bytes (λ bytes.
    if_all (λ b. IsFew (length b)) (nat_le 1 (length bytes) && nat_le (length bytes) PIECE_SIZE) bytes
    (λ so. (leb-true 1 (length bytes) (and_parts _ _ so).0, leb-true (length bytes) PIECE_SIZE (and_parts _ _ so).1)))

-- ---- each event

between_all : (s : ClusterSizes) (args : List (List ℕ)) → AllOf IsOfScript (between_by s args)
between_all s args = bind_all IsOfScript (three_of args) (between_from s) (λ t.
    bind_all IsOfScript (node_at s t.0) (λ from. node_at s t.1 >>= (λ to. decimal_at t.2 >>= (λ place. Some (DeliverBetween from to place)))) (λ from.
    bind_all IsOfScript (node_at s t.1) (λ to. decimal_at t.2 >>= (λ place. Some (DeliverBetween from to place))) (λ to.
    bind_all IsOfScript (decimal_at t.2) (λ place. Some (DeliverBetween from to place)) (λ place. tt))))

deliver_all : (s : ClusterSizes) (args : List (List ℕ)) → AllOf IsOfScript (deliver_by s args)
deliver_all s [] = between_all s []
deliver_all s (k ∷ []) = map_all IsOfScript DeliverPacket (decimal_at k) (λ number. tt)
deliver_all s (k ∷ l ∷ args) = between_all s (k ∷ l ∷ args)

flow_all : (args : List (List ℕ)) → AllOf IsOfScript (flow_by args)
flow_all [] = tt
flow_all (word ∷ args) = tt

open_all : (s : ClusterSizes) (args : List (List ℕ)) → AllOf IsOfScript (open_by s args)
open_all s args = bind_all IsOfScript (two_of args) (open_from s) (λ t.
    bind_all IsOfScript (client_at s t.0) (λ client. name_at t.1 >>= (λ name. Some (Open client name))) (λ client.
    bind_given (λ name. length name ≤ 255) IsOfScript (name_at t.1) (λ name. Some (Open client name)) (few_name t.1) (λ name few. few)))

written_all : (s : ClusterSizes) (args : List (List ℕ)) → AllOf (λ w. IsFew (length w.2)) (written_by s args)
written_all s args = bind_all (λ w. IsFew (length w.2)) (three_of args) (written_from s) (λ t.
    bind_all (λ w. IsFew (length w.2)) (client_at s t.0) (λ client. place_at t.1 >>= (λ place. bytes_at t.2 >>= (λ bytes. Some (client, place, bytes)))) (λ client.
    bind_all (λ w. IsFew (length w.2)) (place_at t.1) (λ place. bytes_at t.2 >>= (λ bytes. Some (client, place, bytes))) (λ place.
    bind_given (λ bytes. IsFew (length bytes)) (λ w. IsFew (length w.2)) (bytes_at t.2) (λ bytes. Some (client, place, bytes)) (few_read t.2) (λ bytes few. few))))

fill_all : (s : ClusterSizes) (args : List (List ℕ)) → AllOf IsOfScript (fill_by s args)
fill_all s args = bind_all IsOfScript (four_of args) (fill_from s) (λ t.
    bind_all IsOfScript (client_at s t.0) (λ client. place_at t.1 >>= (λ place. count_at t.2 >>= (λ count. byte_at t.3 >>= (λ byte. Some (Fill client place count byte))))) (λ client.
    bind_all IsOfScript (place_at t.1) (λ place. count_at t.2 >>= (λ count. byte_at t.3 >>= (λ byte. Some (Fill client place count byte)))) (λ place.
    bind_given IsFew IsOfScript (count_at t.2) (λ count. byte_at t.3 >>= (λ byte. Some (Fill client place count byte))) (few_count t.2) (λ count few.
    bind_all IsOfScript (byte_at t.3) (λ byte. Some (Fill client place count byte)) (λ byte. few)))))

read_all : (s : ClusterSizes) (args : List (List ℕ)) → AllOf IsOfScript (read_by s args)
read_all s args = bind_all IsOfScript (three_of args) (read_from s) (λ t.
    bind_all IsOfScript (client_at s t.0) (λ client. place_at t.1 >>= (λ place. count_at t.2 >>= (λ count. Some (Read client place count)))) (λ client.
    bind_all IsOfScript (place_at t.1) (λ place. count_at t.2 >>= (λ count. Some (Read client place count))) (λ place.
    bind_all IsOfScript (count_at t.2) (λ count. Some (Read client place count)) (λ count. tt))))

stray_all : (s : ClusterSizes) (args : List (List ℕ)) → AllOf IsOfScript (stray_by s args)
stray_all s args = bind_all IsOfScript (four_of args) (stray_from s) (λ t.
    bind_all IsOfScript (client_at s t.0) (λ client. decimal_at t.1 >>= (λ mirror. place_at t.2 >>= (λ place. bytes_at t.3 >>= (λ bytes. Some (Stray client mirror place bytes))))) (λ client.
    bind_all IsOfScript (decimal_at t.1) (λ mirror. place_at t.2 >>= (λ place. bytes_at t.3 >>= (λ bytes. Some (Stray client mirror place bytes)))) (λ mirror.
    bind_all IsOfScript (place_at t.2) (λ place. bytes_at t.3 >>= (λ bytes. Some (Stray client mirror place bytes))) (λ place.
    bind_given (λ bytes. IsFew (length bytes)) IsOfScript (bytes_at t.3) (λ bytes. Some (Stray client mirror place bytes)) (few_read t.3) (λ bytes few. few.1)))))

pieces_all : (s : ClusterSizes) (args : List (List ℕ)) → AllOf IsOfScript (pieces_by s args)
pieces_all s args = bind_all IsOfScript (two_of args) (pieces_from s) (λ t.
    bind_all IsOfScript (server_at s t.0) (λ server. pieces_at t.1 >>= (λ pieces. Some (Restart server pieces))) (λ server.
    bind_all IsOfScript (pieces_at t.1) (λ pieces. Some (Restart server pieces)) (λ pieces. tt)))

restart_all : (s : ClusterSizes) (args : List (List ℕ)) → AllOf IsOfScript (restart_by s args)
restart_all s [] = pieces_all s []
restart_all s (d ∷ []) = map_all IsOfScript (λ server. Restart server []) (server_at s d) (λ server. tt)
restart_all s (d ∷ e ∷ args) = pieces_all s (d ∷ e ∷ args)

-- ---- by the first word

abbrev pub AllRows : List Row → Type 0
AllRows [] = ⊤
AllRows (row ∷ rows) = AllOf IsOfScript row.1 × AllRows rows

if_either : {X : Type 0} (P : X → Type 0) (test : Bool) (o other : Option X) → AllOf P o → AllOf P other → AllOf P (if test then o else other)
if_either P true o other first second = first
if_either P false o other first second = second

rows_all : (word : List ℕ) (rows : List Row) (other : Option EventValue) → AllRows rows → AllOf IsOfScript other → AllOf IsOfScript (by_row word rows other)
rows_all word [] other all behind = behind
rows_all word (row ∷ rows) other all behind = if_either IsOfScript (bytes_eq word row.0) row.1 (by_row word rows other) all.0 (rows_all word rows other all.1 behind)

abbrev other_rows : ClusterSizes → List (List ℕ) → List Row
other_rows s args =
    (codes "rogue", option_map Rogue (client_by s args))
    ∷ (codes "stray", stray_by s args)
    ∷ (codes "reboot", option_map Reboot (client_by s args))
    ∷ (codes "restart", restart_by s args)
    ∷ (codes "recall", option_map Recall (file_by args))
    ∷ (codes "resilver", option_map Resilver (file_by args))
    ∷ (codes "audit", option_map Audit (file_by args))
    ∷ []

others_all : (s : ClusterSizes) (word : List ℕ) (args : List (List ℕ)) → AllOf IsOfScript (others_by s word args)
others_all s word args = rows_all word (other_rows s args) None (
  map_all IsOfScript Rogue (client_by s args) (λ client. tt),
  (
    stray_all s args,
    (
      map_all IsOfScript Reboot (client_by s args) (λ client. tt),
      (
        restart_all s args,
        (
          map_all IsOfScript Recall (file_by args) (λ file. tt),
          (
            map_all IsOfScript Resilver (file_by args) (λ file. tt),
            (map_all IsOfScript Audit (file_by args) (λ file. tt), tt),
          ),
        ),
      ),
    ),
  ),
) tt

abbrev request_rows : ClusterSizes → List (List ℕ) → List Row
request_rows s args =
    (codes "open", open_by s args)
    ∷ (codes "write", option_map (λ w. Write w.0 w.1 w.2) (written_by s args))
    ∷ (codes "through", option_map (λ w. Through w.0 w.1 w.2) (written_by s args))
    ∷ (codes "fill", fill_by s args)
    ∷ (codes "commit", option_map Commit (client_by s args))
    ∷ (codes "read", read_by s args)
    ∷ (codes "return", option_map Return (client_by s args))
    ∷ []

requests_all : (s : ClusterSizes) (word : List ℕ) (args : List (List ℕ)) → AllOf IsOfScript (requests_by s word args)
requests_all s word args = rows_all word (request_rows s args) (others_by s word args) (
  open_all s args,
  (
    map_given (λ w. IsFew (length w.2)) IsOfScript (λ w. Write w.0 w.1 w.2) (written_by s args) (written_all s args) (λ w few. few),
    (
      map_given (λ w. IsFew (length w.2)) IsOfScript (λ w. Through w.0 w.1 w.2) (written_by s args) (written_all s args) (λ w few. few),
      (
        fill_all s args,
        (
          map_all IsOfScript Commit (client_by s args) (λ client. tt),
          (
            read_all s args,
            (map_all IsOfScript Return (client_by s args) (λ client. tt), tt),
          ),
        ),
      ),
    ),
  ),
) (others_all s word args)

abbrev move_rows : ClusterSizes → List (List ℕ) → List Row
move_rows s args =
    (codes "deliver", deliver_by s args)
    ∷ (codes "flow", flow_by args)
    ∷ (codes "hold", option_map (λ p. Hold p.0 p.1) (pair_by s args))
    ∷ (codes "pass", option_map (λ p. Pass p.0 p.1) (pair_by s args))
    ∷ (codes "timeout", option_map (λ p. Timeout p.0 p.1) (pair_by s args))
    ∷ (codes "tick", tick_by args)
    ∷ []

moves_all : (s : ClusterSizes) (word : List ℕ) (args : List (List ℕ)) → AllOf IsOfScript (moves_by s word args)
moves_all s word args = rows_all word (move_rows s args) (requests_by s word args) (
  deliver_all s args,
  (
    flow_all args,
    (
      map_all IsOfScript (λ p. Hold p.0 p.1) (pair_by s args) (λ p. tt),
      (
        map_all IsOfScript (λ p. Pass p.0 p.1) (pair_by s args) (λ p. tt),
        (
          map_all IsOfScript (λ p. Timeout p.0 p.1) (pair_by s args) (λ p. tt),
          (map_all IsOfScript Tick (one_of args >>= number_within 1 1000) (λ seconds. tt), tt),
        ),
      ),
    ),
  ),
) (requests_all s word args)

event_all : (s : ClusterSizes) (words : List (List ℕ)) → AllOf IsOfScript (event_by s words)
event_all s [] = tt
event_all s (word ∷ args) = moves_all s word args

of_read : (o : Option ClusterEvent) → AllOf IsOfScript (option_map cluster_event o) → IfSome o (λ event. IsOfScript (cluster_event event))
of_read None all = tt
of_read (Some event) all = all

-- any event that is read
pub is_of_script : (s : ClusterSizes) (line : List ℕ) (o : Option ClusterEvent) → option_map cluster_event o ≡ event_at s line → IfSome o (λ event. IsOfScript (cluster_event event))
is_of_script s line o is = of_read o (subst (AllOf IsOfScript) (sym is) (event_all s (words_of line)))
