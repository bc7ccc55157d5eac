-- The parts of a tick, drafted one behind the other.
use Rattle.std.proofs.Common.{◌≡◌, ℕ, suc, ◌+◌, ◌-◌, ◌*◌, ◌<◌, ◌≤◌, List, [], ◌∷◌, ◌++◌, length, length-append, append_assoc, refl, sym, ap, subst, ◌∙◌, arith, Result, Ok, Err, OnOk}
use Rattle.cluster_model.specs.declared.ids.NodeId.{NodeId}
use Rattle.cluster_model.specs.declared.ids.NodeId.TheVariants.{Mds, Client}
use Rattle.mds_rule.specs.Events.{takes_tick}
use Rattle.mirror_client.specs.ClientRule.{client_ticked}
use Rattle.cluster_model.specs.declared.entry.Entry.{Entry}
use Rattle.cluster_model.specs.declared.entry.Entry.TheVariants.{Tick}
use Rattle.std.specs.List.{range_with_len}
use Rattle.cluster_model.specs.declared.outbox.Outbox.{Outbox}
use Rattle.world_journal.specs.declared.fault.WorldFault.{WorldFault}
use Rattle.world_journal.specs.declared.fault.WorldFault.TheVariants.{Limit, NoMemory}
use Rattle.world_journal.specs.declared.journal.TheConstants.{MAX_ENTRIES}
use Rattle.world_journal.specs.SentPackets.{packets_of}
use Rattle.world_rule.specs.Machines.{MachinesValue, Act, HasActed, mds_acts, client_acts}
use Rattle.cluster_world.specs.Drafts.{DraftValue, PassesLimit, with_entry, with_act}
use Rattle.world_rule.specs.ClusterWorlds.{ClusterState, entering, acting, client_ticks, clients_tick, mds_ticks, ticking}
use Rattle.cluster_world.specs.WorldSteps.{StageValue, StageBecomes, drafted, drafted_with, Drafts, all_tick}
use Rattle.cluster_world.proofs.Comings.{past, fresh}
use Rattle.cluster_world.proofs.Lengths.{length_part, past_limit}

-- a part only adds to the journal
grows_by : (node : NodeId) (a : Act) (w : ClusterState) → length w.journal ≤ length (acting node a w).journal
grows_by node a w = omega (arith, length-append w.journal (a.entries ++ packets_of node w.sent a.sends))

pub clients_grow : (ns : List ℕ) (w : ClusterState) → length w.journal ≤ length (clients_tick ns w).journal
clients_grow [] w = omega arith
clients_grow (n ∷ ns) w = grown (client_ticks n w) (grows_by (Client n) (client_acts n (client_ticked w.now) w.machines) w) (clients_grow ns (client_ticks n w))
  where
    grown : (v : ClusterState) → length w.journal ≤ length v.journal → length v.journal ≤ length (clients_tick ns v).journal → length w.journal ≤ length (clients_tick ns v).journal
    grown v first rest = omega (arith, first, rest)

pub mds_grows : (w : ClusterState) → length w.journal ≤ length (mds_ticks w).journal
mds_grows w = grows_by Mds (mds_acts (takes_tick w.now) w.machines) w

-- a tick adds one entry and more
tick_long : (w : ClusterState) (seconds : ℕ) → length w.journal + 1 ≤ length (ticking seconds w).journal
tick_long w seconds = by_parts (record (entering (Tick seconds ∷ []) w) { now = w.now + seconds }) (length-append w.journal (Tick seconds ∷ []))
  where
    by_parts : (v : ClusterState) → length v.journal ≡ length w.journal + 1 → length w.journal + 1 ≤ length (mds_ticks (clients_tick (range_with_len 1 (length w.machines.clients)) v)).journal
    by_parts v one = omega (arith, one, clients_grow (range_with_len 1 (length w.machines.clients)) v, mds_grows (clients_tick (range_with_len 1 (length w.machines.clients)) v))

-- the entry itself does not fit
pub tick_past : (old : StageValue) (seconds : ℕ) (d : DraftValue) (fault : WorldFault) (r : Result (Unit {0}) WorldFault)
    → r ≡ Err fault → d ≡ fresh old.world → PassesLimit (Err fault) d (Tick seconds ∷ []) [] → StageBecomes old (ticking seconds old.world) r old
tick_past old seconds d fault r is new limit =
    let none : length d.entries ≡ 0 = ap (λ (d : DraftValue). length d.entries) new in
    past old old (ticking seconds old.world) d (Tick seconds ∷ []) [] fault r is limit (ap (λ (d : DraftValue). d.begun) new) refl
    (omega (arith, none, tick_long old.world seconds))

-- ---- one part behind the other

-- a machine's part of a tick, which is its own rule's
pub drafts_part : (node : NodeId) (rule : ℕ → MachinesValue → Act) (now : ℕ) (m m' : MachinesValue) (d d' : DraftValue) (before after : Outbox) (r : Result (Unit {0}) WorldFault)
    → HasActed (rule now m) before m' after → before.entries.items ≡ [] → before.sends.items ≡ []
    → OnOk r (d' ≡ with_act node after.entries.items after.sends.items d) → PassesLimit r d after.entries.items after.sends.items
    → Drafts (λ w. acting node (rule w.now w.machines) w) now m d r m' d'
drafts_part node rule now m m' d d' before after r did no_entries no_sends = by_result r
  where
    entries : after.entries.items ≡ (rule now m).entries
    entries = did.entries ∙ ap (λ (es : List Entry). es ++ (rule now m).entries) no_entries

    sends : after.sends.items ≡ (rule now m).sends
    sends = did.sends ∙ ap (λ (ss : List (NodeId × List ℕ)). ss ++ (rule now m).sends) no_sends

    by_result : (r : Result (Unit {0}) WorldFault) → OnOk r (d' ≡ with_act node after.entries.items after.sends.items d) → PassesLimit r d after.entries.items after.sends.items
        → Drafts (λ w. acting node (rule w.now w.machines) w) now m d r m' d'
    by_result (Ok done) is limit = (
      (
          λ w. (λ i. drafted_with w (did.machines i) now ((is ∙ (λ j. with_act node (entries j) (sends j) d)) i))
          ∙ (λ i. record w { machines = (rule now m).machines; now = now; sent = d.sent + length (rule now m).sends; journal = sym (append_assoc w.journal d.entries ((rule now m).entries ++ packets_of node d.sent (rule now m).sends)) i })
          ),
      ap (λ (d : DraftValue). d.begun) is,
    )
    by_result (Err (Limit count)) is limit = (
      (
          λ w begun. omega (arith, limit.1, begun, ap length entries, ap length sends, length-append (w.journal ++ d.entries) ((rule now m).entries ++ packets_of node d.sent (rule now m).sends), length-append w.journal d.entries, length_part node d.sent (rule now m).entries (rule now m).sends)
          ),
      limit.0,
    )
    by_result (Err NoMemory) is limit = tt

-- a part behind a part
pub drafts_then : (f g : ClusterState → ClusterState) (now : ℕ) (m m1 m2 : MachinesValue) (d d1 d2 : DraftValue) (r : Result (Unit {0}) WorldFault)
    → Drafts f now m d (Ok tt) m1 d1 → Drafts g now m1 d1 r m2 d2 → Drafts (λ w. g (f w)) now m d r m2 d2
drafts_then f g now m m1 m2 d d1 d2 (Ok done) first rest = ((λ w. rest.0 w ∙ ap g (first.0 w)), rest.1 ∙ first.1)
drafts_then f g now m m1 m2 d d1 d2 (Err (Limit count)) first rest = (
  (λ w begun. subst (λ (v : ClusterState). MAX_ENTRIES < length (g v).journal) (first.0 w) (rest.0 w (begun ∙ sym first.1))),
  rest.1 ∙ first.1,
)
drafts_then f g now m m1 m2 d d1 d2 (Err NoMemory) first rest = tt

-- a part that does not fit, and what would be behind it
pub drafts_past : (f g : ClusterState → ClusterState) (now : ℕ) (m m1 : MachinesValue) (d d1 : DraftValue) (fault : WorldFault) (r : Result (Unit {0}) WorldFault)
    → r ≡ Err fault → ((w : ClusterState) → length w.journal ≤ length (g w).journal) → Drafts f now m d (Err fault) m1 d1 → Drafts (λ w. g (f w)) now m d r m1 d1
drafts_past f g now m m1 d d1 fault r is grows first = subst (λ o. Drafts (λ w. g (f w)) now m d o m1 d1) (sym is) (by_fault fault first)
  where
    by_fault : (fault : WorldFault) → Drafts f now m d (Err fault) m1 d1 → Drafts (λ w. g (f w)) now m d (Err fault) m1 d1
    by_fault (Limit count) p = ((λ w begun. further w (p.0 w begun) (grows (f (drafted_with w m now d)))), p.1)
      where
        further : (w : ClusterState) → MAX_ENTRIES < length (f (drafted_with w m now d)).journal → length (f (drafted_with w m now d)).journal ≤ length (g (f (drafted_with w m now d))).journal → MAX_ENTRIES < length (g (f (drafted_with w m now d))).journal
        further w many more = omega (arith, many, more)
    by_fault NoMemory p = tt

-- a tick, which begins with its entry
module _ (w : ClusterState) (seconds later : ℕ) (is_later : later ≡ w.now + seconds) (d0 d1 : DraftValue) (new : d0 ≡ fresh w) (was : d1 ≡ with_entry (Tick seconds) d0) where
  first : d1 ≡ with_entry (Tick seconds) (fresh w)
  first = was ∙ ap (with_entry (Tick seconds)) new

  begins : drafted_with w w.machines later d1 ≡ record (entering (Tick seconds ∷ []) w) { now = w.now + seconds }
  begins = λ i. drafted_with w w.machines (is_later i) (first i)

  goes_on : all_tick (length w.machines.clients) (drafted_with w w.machines later d1) ≡ ticking seconds w
  goes_on = ap (all_tick (length w.machines.clients)) begins

  begun_there : d1.begun ≡ length w.journal
  begun_there = ap (λ (d : DraftValue). d.begun) first

  -- the machines' parts do not fit behind the journal
  pub ticks_past : (old s : StageValue) (m2 : MachinesValue) (d2 : DraftValue) (fault : WorldFault) (r : Result (Unit {0}) WorldFault) → old.world ≡ w → s.world.journal ≡ w.journal → r ≡ Err fault
      → Drafts (all_tick (length w.machines.clients)) later w.machines d1 (Err fault) m2 d2 → StageBecomes old (ticking seconds w) r s
  ticks_past old s m2 d2 fault r own same is drafts = subst (λ o. StageBecomes old (ticking seconds w) o s) (sym is) (by_fault fault drafts)
    where
      by_fault : (fault : WorldFault) → Drafts (all_tick (length w.machines.clients)) later w.machines d1 (Err fault) m2 d2 → StageBecomes old (ticking seconds w) (Err fault) s
      by_fault (Limit count) p = (
        past_limit (ticking seconds w).journal (subst (λ (v : ClusterState). MAX_ENTRIES < length v.journal) goes_on (p.0 w (sym begun_there))),
        p.1 ∙ begun_there ∙ ap (λ (v : ClusterState). length v.journal) (sym own),
        same ∙ ap (λ (v : ClusterState). v.journal) (sym own),
      )
      by_fault NoMemory p = same ∙ ap (λ (v : ClusterState). v.journal) (sym own)

  module _ (m2 : MachinesValue) (d2 : DraftValue) (drafts : Drafts (all_tick (length w.machines.clients)) later w.machines d1 (Ok tt) m2 d2) where
    -- they do
    pub ticked : drafted (record w { machines = m2 }) later d2 ≡ ticking seconds w
    ticked = drafts.0 w ∙ goes_on

    -- an entry stands for the time that passed
    pub early_still : w.now ≤ 4294967296 * length w.journal → seconds < 4294967296 → later ≤ 4294967296 * (length w.journal + length d2.entries)
    early_still early few =
        let more : length w.journal + 1 ≤ length (ticking seconds w).journal = tick_long w seconds in
        let all : length (w.journal ++ d2.entries) ≡ length (ticking seconds w).journal = ap (λ (v : ClusterState). length v.journal) ticked in
        omega (arith, is_later, early, few, more, all, length-append w.journal d2.entries)

-- ---- clients by their numbers

-- where a number is left, its client comes first
first_left : (place count : ℕ) → place < count → count - place ≡ suc (count - (place + 1))
first_left place count less = omega (arith, less)

ticks_left : (w : ClusterState) (place count : ℕ) → place < count
    → clients_tick (range_with_len (place + 1) (count - place)) w ≡ clients_tick (range_with_len (place + 1 + 1) (count - (place + 1))) (client_ticks (place + 1) w)
ticks_left w place count less = ap (λ n. clients_tick (range_with_len (place + 1) n) w) (first_left place count less)

-- what the ticks from a number on leave is what all leave
abbrev pub LeavesAll : ℕ → ℕ → ℕ → MachinesValue → DraftValue → MachinesValue → DraftValue → Type 0
LeavesAll count place now m d m' d' = (w : ClusterState) → clients_tick (range_with_len (place + 1) (count - place)) (drafted_with w m' now d') ≡ clients_tick (range_with_len 1 count) (drafted_with w m now d)

-- where one of them was drafted, those from the next number on
pub leaves_next : (count place now : ℕ) (m m1 m2 : MachinesValue) (d d1 d2 : DraftValue) → place < count → LeavesAll count place now m d m1 d1 → Drafts (client_ticks (place + 1)) now m1 d1 (Ok tt) m2 d2 → LeavesAll count (place + 1) now m d m2 d2
leaves_next count place now m m1 m2 d d1 d2 less left drafts w =
    ap (clients_tick (range_with_len (place + 1 + 1) (count - (place + 1)))) (drafts.0 w)
    ∙ sym (ticks_left (drafted_with w m1 now d1) place count less)
    ∙ left w

-- where one of them does not fit, all do not
pub leaves_past : (count place now : ℕ) (m m1 m2 : MachinesValue) (d d1 d2 : DraftValue) (fault : WorldFault) (r : Result (Unit {0}) WorldFault) → r ≡ Err fault → place < count → d1.begun ≡ d.begun
    → LeavesAll count place now m d m1 d1 → Drafts (client_ticks (place + 1)) now m1 d1 (Err fault) m2 d2 → Drafts (clients_tick (range_with_len 1 count)) now m d r m2 d2
leaves_past count place now m m1 m2 d d1 d2 fault r is less begun left drafts = subst (λ o. Drafts (clients_tick (range_with_len 1 count)) now m d o m2 d2) (sym is) (by_fault fault drafts)
  where
    whole : (w : ClusterState) → clients_tick (range_with_len (place + 1 + 1) (count - (place + 1))) (client_ticks (place + 1) (drafted_with w m1 now d1)) ≡ clients_tick (range_with_len 1 count) (drafted_with w m now d)
    whole w = sym (ticks_left (drafted_with w m1 now d1) place count less) ∙ left w

    further : (v : ClusterState) (ns : List ℕ) → MAX_ENTRIES < length v.journal → MAX_ENTRIES < length (clients_tick ns v).journal
    further v ns many = omega (arith, many, clients_grow ns v)

    by_fault : (fault : WorldFault) → Drafts (client_ticks (place + 1)) now m1 d1 (Err fault) m2 d2 → Drafts (clients_tick (range_with_len 1 count)) now m d (Err fault) m2 d2
    by_fault (Limit n) p = (
      (
          λ w at. subst (λ (v : ClusterState). MAX_ENTRIES < length v.journal) (whole w)
          (further (client_ticks (place + 1) (drafted_with w m1 now d1)) (range_with_len (place + 1 + 1) (count - (place + 1))) (p.0 w (at ∙ sym begun)))
          ),
      p.1 ∙ begun,
    )
    by_fault NoMemory p = tt
