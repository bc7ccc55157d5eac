-- A flow, delivery by delivery: how many deliveries it is let is no matter, since each that happens makes an entry.
use Rattle.std.proofs.Common.{◌≡◌, ℕ, zero, suc, ◌+◌, ◌-◌, ◌<◌, ◌≤◌, ◌==◌, Bool, true, false, nat_lt, List, [], ◌∷◌, ◌++◌, length, Option, Some, None, refl, sym, ap, subst, ◌∙◌, arith, cond, if◌then◌else◌}
use Rattle.std.specs.Option.{option_map}
use Rattle.std.specs.List.{position, position_or_len, slice_get}
use Rattle.std.proofs.lemmas.Bool.{ltb-true, leb-true, ne_eqb, and_parts, cond-false}
use Rattle.cluster_model.specs.Event.{DeliverPacket}
use Rattle.world_journal.specs.Journal.{max_entries, is_within}
use Rattle.packet_table.specs.declared.note.PacketNote.{PacketNote}
use Rattle.packet_table.specs.Packets.{PacketsValue, packet_numbered, waits, next_waiting}
use Rattle.world_rule.specs.ClusterWorlds.{ClusterState, packets, packet_comes, delivering, within_limits, cluster_step}
use Rattle.world_rule.specs.ClusterRuns.{ClusterRun, entries_added, with_step, flow_by, flow_for, flow_then}
use Rattle.ff_replay.proofs.WorldGrows.{comes_more}

-- ---- the first that waits is there

picked : (test : Bool) (k place : ℕ) → cond test (Some k) None ≡ Some place → (test ≡ true) × (k ≡ place)
picked true k place is = (refl, cc)
picked false k place is = absurd (cc)

at_place : {X : Type 0} (xs : List X) (i : ℕ) → i < length xs → (x : X) × (slice_get xs i ≡ Some x)
at_place [] i within = absurd (omega (arith, within))
at_place (x ∷ xs) zero within = (x, refl)
at_place (x ∷ xs) (suc i) within = at_place xs i (omega (arith, within))

numbered : (p : PacketsValue) (number place : ℕ) → number ≡ place + 1 → packet_numbered p number ≡ slice_get p.notes place
numbered p number place is =
    let there : (number == 0) ≡ false = ne_eqb number 0 (λ none. absurd (omega (arith, is, none))) in
    let before : number - 1 ≡ place = omega (arith, is) in
    cond-false (number == 0) None (slice_get p.notes (number - 1)) there ∙ ap (slice_get p.notes) before

at_waiting : (p : PacketsValue) (number : ℕ) (o : Option ℕ) → position (waits p.held) p.notes ≡ o → option_map (λ place. place + 1) o ≡ Some number → (note : PacketNote) × (packet_numbered p number ≡ Some note)
at_waiting p number None at is = absurd (cc)
at_waiting p number (Some place) at is =
    let found = picked (nat_lt (position_or_len (waits p.held) p.notes) (length p.notes)) (position_or_len (waits p.held) p.notes) place at in
    let within : place < length p.notes = subst (λ k. k < length p.notes) found.1 (ltb-true (position_or_len (waits p.held) p.notes) (length p.notes) found.0) in
    let there = at_place p.notes place within in
    let which : place + 1 ≡ number = cc (is) in
    (there.0, numbered p number place (sym which) ∙ there.1)

waiting : (p : PacketsValue) (number : ℕ) → next_waiting p ≡ Some number → (note : PacketNote) × (packet_numbered p number ≡ Some note)
waiting p number is = at_waiting p number (position (waits p.held) p.notes) refl is

-- so that its delivery makes an entry
pub delivered_more : (w : ClusterState) (number : ℕ) → next_waiting (packets w) ≡ Some number → length w.journal + 1 ≤ length (delivering number w).journal
delivered_more w number is =
    let there = waiting (packets w) number is in
    subst (λ o. length w.journal + 1 ≤ length (packet_comes number o w).journal) (sym there.1) (comes_more number there.0 w)

-- ---- within the limits

by_test : (w next : ClusterState) (test : Bool) → (if test then Some w else None) ≡ Some next → (next ≡ w) × (test ≡ true)
by_test w next true is = (cc, refl)
by_test w next false is = absurd (cc)

-- an event that happened leaves what it makes of the world, within the limits
pub let_in : (w next : ClusterState) → within_limits w ≡ Some next → (next ≡ w) × (is_within w.journal ≡ true)
let_in w next is = by_test w next (is_within w.journal) is

pub few_within : (w : ClusterState) → is_within w.journal ≡ true → length w.journal ≤ max_entries
few_within w within = leb-true (length w.journal) max_entries (and_parts _ _ within).0

-- ---- how many deliveries a flow is let

same_step : (more other : ClusterState → ClusterRun) (w : ClusterState) (o : Option ClusterState) → ((next : ClusterState) → o ≡ Some next → more next ≡ other next) → with_step w o more ≡ with_step w o other
same_step more other w None same = refl
same_step more other w (Some next) same = ap (λ (r : ClusterRun). record { entries = entries_added w next ++ r.entries; over = r.over }) (same next refl)

same_by : (more other rest : ClusterState → ClusterRun) (w : ClusterState) (o : Option ℕ) → next_waiting (packets w) ≡ o
    → ((next : ClusterState) → length next.journal ≤ max_entries → length w.journal + 1 ≤ length next.journal → more next ≡ other next)
    → flow_by more rest w o ≡ flow_by other rest w o
same_by more other rest w None at same = refl
same_by more other rest w (Some number) at same = same_step more other w (cluster_step w (DeliverPacket number)) (λ next is.
    let happened = let_in (delivering number w) next is in
    let few : length next.journal ≤ max_entries = subst (λ (n : ClusterState). length n.journal ≤ max_entries) (sym happened.0) (few_within (delivering number w) happened.1) in
    let grown : length w.journal + 1 ≤ length next.journal = subst (λ (n : ClusterState). length w.journal + 1 ≤ length n.journal) (sym happened.0) (delivered_more w number at) in
    same next few grown)

same_flow : (n m : ℕ) (rest : ClusterState → ClusterRun) (w : ClusterState) → length w.journal ≤ max_entries → max_entries < n + length w.journal → max_entries < m + length w.journal → flow_for n rest w ≡ flow_for m rest w
same_flow zero m rest w few enough too = absurd (omega (arith, few, enough))
same_flow (suc n) zero rest w few enough too = absurd (omega (arith, few, too))
same_flow (suc n) (suc m) rest w few enough too =
    same_by (flow_for n rest) (flow_for m rest) rest w (next_waiting (packets w)) refl
    (λ next within grown. same_flow n m rest next within (omega (arith, enough, grown)) (omega (arith, too, grown)))

flows_for : (limit : ℕ) (rest : ClusterState → ClusterRun) (w : ClusterState) → limit ≡ max_entries → flow_for (suc limit) rest w ≡ flow_by (flow_for (suc limit) rest) rest w (next_waiting (packets w))
flows_for limit rest w is =
    same_by (flow_for limit rest) (flow_for (suc limit) rest) rest w (next_waiting (packets w)) refl
    (λ next within grown. same_flow limit (suc limit) rest next within (omega (arith, is, grown)) (omega (arith, is, grown)))

-- a flow is its first delivery, and then a flow
pub flows_on : (rest : ClusterState → ClusterRun) (w : ClusterState) → flow_then rest w ≡ flow_by (flow_then rest) rest w (next_waiting (packets w))
flows_on rest w =
    let all : suc max_entries ≡ max_entries + 1 = omega arith in
    subst (λ k. flow_for k rest w ≡ flow_by (flow_for k rest) rest w (next_waiting (packets w))) all (flows_for max_entries rest w refl)
