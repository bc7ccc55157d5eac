-- What an event leaves of a world.
use Rattle.std.proofs.Common.{◌≡◌, ℕ, suc, ◌+◌, ◌≤◌, Bool, true, false, if◌then◌else◌, List, [], ◌∷◌, ◌++◌, length, Some, None, refl, sym, ap, subst, ◌∙◌, arith, Result, Ok, Err}
use Rattle.std.proofs.lemmas.List.{length-append}
use Rattle.cluster_model.specs.declared.ids.NodeId.{NodeId}
use Rattle.cluster_model.specs.declared.ids.NodeId.TheVariants.{Server}
use Rattle.cluster_model.specs.declared.entry.Entry.{Entry}
use Rattle.cluster_model.specs.Event.{EventValue, Deliver}
use Rattle.cluster_model.specs.Server.{ServerState}
use Rattle.ds_files.specs.Receive.{outcome_of}
use Rattle.world_journal.specs.declared.fault.WorldFault.{WorldFault}
use Rattle.world_journal.specs.declared.fault.WorldFault.TheVariants.{Limit, NoMemory}
use Rattle.world_journal.specs.Journal.{is_within}
use Rattle.world_journal.specs.SentPackets.{packets_of}
use Rattle.ff_world.specs.World.{WorldState, WorldValue, WorldStep, KeepsJournal, Happens, sends_of, deliver_entries, effect_of, world_after, step_by_effect, world_step, Occurs, Enters}

-- each record is one packet
length-packets : (from : NodeId) (sent : ℕ) (sends : List (NodeId × List ℕ)) → length (packets_of from sent sends) ≡ length sends
length-packets from sent [] = refl
length-packets from sent (first ∷ rest) = ap suc (length-packets from (sent + 1) rest)

-- a delivery adds at least as many entries as packets
pub few_packets : (sent : ℕ) (bytes : List ℕ) (entries : List Entry) (sends : List (NodeId × List ℕ)) → 1 + length sends ≤ length (deliver_entries sent bytes entries sends)
few_packets sent bytes entries sends = omega (arith, length-append entries (packets_of (Server 1) (sent + 1) sends), length-packets (Server 1) (sent + 1) sends)

-- what a delivery adds
pub delivered : (w : WorldState) (bytes : List ℕ) (entries added : List Entry) (sends : List (NodeId × List ℕ)) → entries ≡ (outcome_of w.server bytes).entries → sends ≡ sends_of (outcome_of w.server bytes)
    → added ≡ deliver_entries w.sent bytes entries sends → (added ≡ (effect_of w (Deliver bytes)).entries) × (w.sent + 1 + length sends ≡ (effect_of w (Deliver bytes)).sent)
delivered w bytes entries added sends e d a = (rw (a, e, d) refl, rw d refl)

no_step : (test : Bool) (step : WorldStep) → test ≡ false → (if test then Some step else None) ≡ None
no_step true step is = absurd (cc)
no_step false step is = refl

one_step : (test : Bool) (step : WorldStep) → test ≡ true → (if test then Some step else None) ≡ Some step
one_step true step is = refl
one_step false step is = absurd (cc)

-- an event whose entries would pass a limit
pub kept_out : (w : WorldState) (event : EventValue) (added : List Entry) → added ≡ (effect_of w event).entries → is_within (w.journal ++ added) ≡ false → world_step w event ≡ None
kept_out w event added are over = no_step _ (step_by_effect w (effect_of w event)) (ap (λ es. is_within (w.journal ++ es)) (sym are) ∙ over)

-- an event that happened
pub occurs : (old : WorldState) (event : EventValue) (new : WorldValue) → new.spent ≡ None → is_within new.world.journal ≡ true → new.world ≡ world_after old (effect_of old event) → Occurs old event new
occurs old event new fresh within now = record {
  step = step_by_effect old (effect_of old event);
  is = one_step _ _ (ap (λ (w : WorldState). is_within w.journal) (sym now) ∙ within);
  world = λ i. record { world = now i; spent = fresh i };
  entries = ap (λ (w : WorldState). w.journal) now;
}

-- the world where an event has changed its server
abbrev pub with_server : WorldValue → ServerState → WorldValue
with_server old server = record { world = record { server = server; sent = old.world.sent; journal = old.world.journal }; spent = old.spent }

-- What adding the entries of an event came to.
pub entered : (old mid new : WorldValue) (event : EventValue) (sent : ℕ) (entries : List Entry) (r : Result (Unit {0}) WorldFault) → mid ≡ with_server old (effect_of old.world event).server
    → sent ≡ (effect_of old.world event).sent → entries ≡ (effect_of old.world event).entries → Enters mid sent entries r new → Happens old.world event r new.world × (new.spent ≡ old.spent)
entered old mid new event sent entries r is many are enters = by_result r (subst (λ (m : WorldValue). Enters m sent entries r new) is enters)
  where
    moved : WorldValue
    moved = with_server old (effect_of old.world event).server

    kept : new ≡ moved → KeepsJournal old.world new.world × (new.spent ≡ old.spent)
    kept same = (record { journal = ap (λ (v : WorldValue). v.world.journal) same }, ap (λ (v : WorldValue). v.spent) same)

    by_result : (r : Result (Unit {0}) WorldFault) → Enters moved sent entries r new → Happens old.world event r new.world × (new.spent ≡ old.spent)
    by_result (Ok x) e = (
      (
        ap (λ (v : WorldValue). is_within v.world.journal) e.1 ∙ e.0,
        ap (λ (v : WorldValue). v.world) e.1 ∙ (λ i. world_after old.world (record { server = (effect_of old.world event).server; sent = many i; entries = are i })),
      ),
      ap (λ (v : WorldValue). v.spent) e.1,
    )
    by_result (Err (Limit count)) e = ((kept_out old.world event entries are e.0, e.1, (kept e.2).0), (kept e.2).1)
    by_result (Err NoMemory) e = kept e
