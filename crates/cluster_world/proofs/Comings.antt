-- What it comes to that a world is to become another one.
use Rattle.std.proofs.Common.{◌≡◌, ℕ, ◌+◌, ◌≤◌, Bool, true, List, [], ◌∷◌, ◌++◌, length, length-append, refl, sym, ap, subst, ◌∙◌, arith, Result, Ok, Err}
use Rattle.cluster_model.specs.declared.ids.NodeId.{NodeId}
use Rattle.cluster_model.specs.declared.ids.NodeId.TheVariants.{Client}
use Rattle.cluster_model.specs.declared.entry.Entry.{Entry}
use Rattle.cluster_model.specs.declared.outbox.Outbox.{Outbox}
use Rattle.world_journal.specs.declared.fault.WorldFault.{WorldFault}
use Rattle.world_journal.specs.declared.fault.WorldFault.TheVariants.{Limit, NoMemory}
use Rattle.world_journal.specs.Journal.{is_within}
use Rattle.world_journal.specs.SentPackets.{packets_of}
use Rattle.packet_table.specs.Packets.{PacketsValue}
use Rattle.world_rule.specs.Machines.{MachinesValue, Act, HasActed, nth, client_acts, starts_anew}
use Rattle.cluster_world.specs.Drafts.{DraftValue, PassesLimit}
use Rattle.world_rule.specs.ClusterWorlds.{ClusterState, entering, acting, packets, rebooting, verifier_after, may_start, with_verifier}
use Rattle.world_rule.specs.Sent.{noting_all, packets_in}
use Rattle.cluster_world.specs.WorldSteps.{StageValue, IsNoted, StageBecomes, acted, drafted}
use Rattle.cluster_world.proofs.Lengths.{length_part, past_limit}
use Rattle.cluster_world.proofs.Noted.{noted_behind, held_in, with_other_held}

-- a world that is not spent, by what the code has
abbrev pub stage_of : MachinesValue → List ℕ → ℕ → PacketsValue → ℕ → List Entry → StageValue
stage_of machines verifiers now packets sent journal = record {
  world = record { machines = machines; verifiers = verifiers; now = now; held = packets.held; sent = sent; journal = journal };
  packets = packets;
}

-- from a world with the same journal, to the same world
pub comes : (old old' : StageValue) (new new' : ClusterState) (r : Result (Unit {0}) WorldFault) (s : StageValue) → old.world.journal ≡ old'.world.journal → new ≡ new' → StageBecomes old new r s → StageBecomes old' new' r s
comes old old' new new' (Ok done) s same is c = (ap (λ (w : ClusterState). is_within w.journal) (sym is) ∙ c.0, c.1 ∙ is, c.2)
comes old old' new new' (Err (Limit count)) s same is c = (ap (λ (w : ClusterState). is_within w.journal) (sym is) ∙ c.0, c.1 ∙ ap length same, c.2 ∙ same)
comes old old' new new' (Err NoMemory) s same is c = c ∙ same

-- a machine's part, of which the machines are behind already
part_is : (w : ClusterState) (node : NodeId) (a : Act) (m : MachinesValue) (before after : Outbox) → HasActed a before m after → before.entries.items ≡ [] → before.sends.items ≡ []
    → acted node after.entries.items after.sends.items (record w { machines = m }) ≡ acting node a w
part_is w node a m before after did no_entries no_sends = λ i. record w {
  machines = did.machines i;
  sent = w.sent + length (sends i);
  journal = w.journal ++ (entries i ++ packets_of node w.sent (sends i));
}
  where
    entries : after.entries.items ≡ a.entries
    entries = did.entries ∙ ap (λ (es : List Entry). es ++ a.entries) no_entries

    sends : after.sends.items ≡ a.sends
    sends = did.sends ∙ ap (λ (ss : List (NodeId × List ℕ)). ss ++ a.sends) no_sends

-- what it comes to that a machine's part is the whole event
pub acts : (w : ClusterState) (p q : PacketsValue) (node : NodeId) (a : Act) (m : MachinesValue) (before after : Outbox) (r : Result (Unit {0}) WorldFault) (s : StageValue)
    → HasActed a before m after → before.entries.items ≡ [] → before.sends.items ≡ []
    → StageBecomes (record { world = record w { machines = m }; packets = q }) (acted node after.entries.items after.sends.items (record w { machines = m })) r s → StageBecomes (record { world = w; packets = p }) (acting node a w) r s
acts w p q node a m before after r s did no_entries no_sends came =
    comes (record { world = record w { machines = m }; packets = q }) (record { world = w; packets = p }) _ _ r s refl (part_is w node a m before after did no_entries no_sends) came

-- the entries of a draft stand in the journal
pub entered : (old : StageValue) (d : DraftValue) (moment sent : ℕ) (entries journal : List Entry) (packets : PacketsValue)
    → IsNoted old → old.packets.held ≡ old.world.held → packets ≡ noting_all old.packets (length old.world.journal) entries → entries ≡ d.entries → sent ≡ d.sent
    → is_within (old.world.journal ++ entries) ≡ true → journal ≡ old.world.journal ++ entries
    → StageBecomes old (drafted old.world moment d) (Ok tt) (record { world = record old.world { now = moment; held = packets.held; sent = sent; journal = journal }; packets = packets })
entered old d moment sent entries journal packets noted own were are many within stand = (
  ap (λ (es : List Entry). is_within (old.world.journal ++ es)) (sym are) ∙ within,
  (λ i. record old.world { now = moment; held = held i; sent = many i; journal = stands i }),
  all ∙ (λ i. packets_in (sym stand i) (sym held i)),
)
  where
    all : packets ≡ packets_in (old.world.journal ++ entries) old.world.held
    all = were ∙ ap (λ p. noting_all p (length old.world.journal) entries) noted ∙ noted_behind old.world.journal entries old.world.held

    held : packets.held ≡ old.world.held
    held = ap (λ (p : PacketsValue). p.held) all ∙ held_in (old.world.journal ++ entries) old.world.held

    stands : journal ≡ old.world.journal ++ d.entries
    stands = stand ∙ ap (λ (es : List Entry). old.world.journal ++ es) are

-- an entry or a part does not fit behind the journal
pub past : (old s : StageValue) (new : ClusterState) (d : DraftValue) (entries : List Entry) (sends : List (NodeId × List ℕ)) (fault : WorldFault) (r : Result (Unit {0}) WorldFault)
    → r ≡ Err fault → PassesLimit (Err fault) d entries sends → d.begun ≡ length old.world.journal → s.world.journal ≡ old.world.journal
    → length old.world.journal + length d.entries + length entries + length sends ≤ length new.journal → StageBecomes old new r s
past old s new d entries sends fault r is limit begun same long = subst (λ o. StageBecomes old new o s) (sym is) (by_fault fault limit)
  where
    by_fault : (fault : WorldFault) → PassesLimit (Err fault) d entries sends → StageBecomes old new (Err fault) s
    by_fault (Limit count) p = (past_limit new.journal (omega (arith, p.1, begun, long)), p.0 ∙ begun, same)
    by_fault NoMemory p = same

-- a draft before its first entry
abbrev pub fresh : ClusterState → DraftValue
fresh w = record { entries = []; sent = w.sent; begun = length w.journal }

-- the same of an event that is one part, and of one that is an entry
pub part_past : (old : StageValue) (node : NodeId) (entries : List Entry) (sends : List (NodeId × List ℕ)) (d : DraftValue) (fault : WorldFault) (r : Result (Unit {0}) WorldFault)
    → r ≡ Err fault → d ≡ fresh old.world → PassesLimit (Err fault) d entries sends → StageBecomes old (acted node entries sends old.world) r old
part_past old node entries sends d fault r is new limit =
    let none : length d.entries ≡ 0 = ap (λ (d : DraftValue). length d.entries) new in
    past old old (acted node entries sends old.world) d entries sends fault r is limit (ap (λ (d : DraftValue). d.begun) new) refl
    (omega (arith, none, length-append old.world.journal (entries ++ packets_of node old.world.sent sends), length_part node old.world.sent entries sends))

pub entry_past : (old : StageValue) (entry : Entry) (d : DraftValue) (fault : WorldFault) (r : Result (Unit {0}) WorldFault)
    → r ≡ Err fault → d ≡ fresh old.world → PassesLimit (Err fault) d (entry ∷ []) [] → StageBecomes old (entering (entry ∷ []) old.world) r old
entry_past old entry d fault r is new limit =
    let none : length d.entries ≡ 0 = ap (λ (d : DraftValue). length d.entries) new in
    past old old (entering (entry ∷ []) old.world) d (entry ∷ []) [] fault r is limit (ap (λ (d : DraftValue). d.begun) new) refl
    (omega (arith, none, length-append old.world.journal (entry ∷ [])))

-- the pairs between which packets are held change, and then an entry says so
module _ (old : StageValue) (own : old.packets.held ≡ old.world.held) (noted : IsNoted old) (change : PacketsValue → PacketsValue) (stays : (p : PacketsValue) → (change p).notes ≡ p.notes) (after : PacketsValue) (is : after ≡ change old.packets) where
  -- the packets are still those of the journal
  pub noted_after : after ≡ packets_in old.world.journal after.held
  noted_after =
      (λ i. record { notes = (ap (λ (p : PacketsValue). p.notes) is ∙ stays old.packets ∙ ap (λ (p : PacketsValue). p.notes) noted) i; held = after.held })
      ∙ sym (with_other_held old.world.journal old.world.held after.held)

  -- and what the entry comes to
  pub held_after : (entry : Entry) (r : Result (Unit {0}) WorldFault) (s : StageValue)
      → StageBecomes (record { world = record old.world { held = after.held }; packets = after }) (entering (entry ∷ []) (record old.world { held = after.held })) r s
      → StageBecomes old (record (entering (entry ∷ []) old.world) { held = (change (packets old.world)).held }) r s
  held_after entry r s came =
      comes (record { world = record old.world { held = after.held }; packets = after }) old _ _ r s refl (λ i. record (entering (entry ∷ []) old.world) { held = (held i) }) came
    where
      held : after.held ≡ (change (packets old.world)).held
      held = ap (λ (p : PacketsValue). p.held) (is ∙ ap change noted)

-- a client that starts anew, with its next verifier
pub started : (w : ClusterState) (p q : PacketsValue) (n verifier : ℕ) (starts : Bool) (verifiers : List ℕ) (m : MachinesValue) (before after : Outbox) (r : Result (Unit {0}) WorldFault) (s : StageValue)
    → starts ≡ may_start (nth w.machines.clients n) → verifier ≡ verifier_after (nth w.verifiers n) → verifiers ≡ with_verifier n verifier starts w.verifiers
    → HasActed (client_acts n (starts_anew n verifier) w.machines) before m after → before.entries.items ≡ [] → before.sends.items ≡ []
    → StageBecomes (record { world = record w { machines = m; verifiers = verifiers }; packets = q }) (acted (Client n) after.entries.items after.sends.items (record w { machines = m; verifiers = verifiers })) r s
    → StageBecomes (record { world = w; packets = p }) (rebooting n w) r s
started w p q n verifier starts verifiers m before after r s does next kept did no_entries no_sends came =
    comes (record { world = record w { machines = m; verifiers = verifiers }; packets = q }) (record { world = w; packets = p }) _ _ r s refl
    (
    part_is (record w { verifiers = verifiers }) (Client n) (client_acts n (starts_anew n verifier) w.machines) m before after did no_entries no_sends
    ∙ (λ i. record (acting (Client n) (client_acts n (starts_anew n verifier) w.machines) w) { verifiers = kept i })
    ∙ (λ i. record (acting (Client n) (client_acts n (starts_anew n (next i)) w.machines) w) { verifiers = with_verifier n (next i) (does i) w.verifiers })
    )
    came
