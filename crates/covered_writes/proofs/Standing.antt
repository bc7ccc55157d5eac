-- What the packets of a run show of its data servers and its journal: the invariant, and what a longer run leaves of it.
use Rattle.std.proofs.Common.{false, ◌≡◌, ℕ, ◌<◌, ◌≤◌, Bool, true, List, [], ◌∷◌, ◌++◌, length, Option, Some, arith, inl, inr}
use Rattle.std.specs.List.{AllByRecursion}
use Rattle.std.proofs.lemmas.Option.{slice_get_within}
use Rattle.cluster_model.specs.declared.ids.NodeId.{NodeId}
use Rattle.cluster_model.specs.declared.ds_call.Shown.{Shown}
use Rattle.cluster_model.specs.declared.entry.Entry.{Entry}
use Rattle.cluster_model.specs.declared.entry.Entry.TheVariants as entry
use Rattle.cluster_model.specs.Content.{Pending}
use Rattle.cluster_model.specs.Server.{ServerState}
use Rattle.cluster_model.specs.DsCalls.{Write, Commit, DsReplyValue, Written, Committed}
use Rattle.cluster_laws.specs.Machine.{PacketValue, Call, Reply, numbered_at}
use Rattle.cluster_laws.specs.Holders.{IsPacketAt, IsIn}
use Rattle.sound_journals.specs.Marks.{marks_of}
use Rattle.covered_writes.specs.CoveredWrites.{HasItsCall, AreAnswered, IsWriteCalled, AreWritesCalled}
use Rattle.cluster_laws.proofs.Lists.{all_append, all_more, push_old}
use Rattle.covered_writes.proofs.Places.{pushed_at}
use Rattle.covered_writes.proofs.MarkSteps.{IsNotRestartOf, covered_more, here_more, mirror_at}

-- a WRITE of some bytes whose answer stands at this place
pub record IsWritten (packets : List PacketValue) (at n verifier uid fileid : ℕ) (w : Pending) : Type 0 where
  pub place : ℕ
  pub to : NodeId
  pub xid : ℕ
  pub gid : ℕ
  pub synced : Bool
  pub shown : Option Shown
  pub call : IsPacketAt packets place (Call to n xid uid gid (Write fileid w.at synced w.bytes))
  pub reply : IsPacketAt packets at (Reply place n to xid (Written shown verifier))
  pub some : 0 < length w.bytes

-- a COMMIT at this place that was answered
pub record IsCommitted (packets : List PacketValue) (place n verifier fileid : ℕ) : Type 0 where
  pub at : ℕ
  pub to : NodeId
  pub xid : ℕ
  pub uid : ℕ
  pub gid : ℕ
  pub shown : Option Shown
  pub call : IsPacketAt packets place (Call to n xid uid gid (Commit fileid))
  pub reply : IsPacketAt packets at (Reply place n to xid (Committed shown verifier))

-- the server was in this boot; where it is still, the write is among what was applied since its last restart
pub record IsHere (servers : List ServerState) (journal : List Entry) (n verifier uid fileid : ℕ) (w : Pending) : Type 0 where
  pub server : ServerState
  pub there : numbered_at servers n ≡ Some server
  pub up : verifier ≤ server.clock.boot
  pub here : verifier ≡ server.clock.boot → IsIn w (marks_of journal uid (mirror_at n fileid)).here

pub record Covers (servers : List ServerState) (packets : List PacketValue) (journal : List Entry) : Type 0 where
  pub numbers : (n : ℕ) (s : ServerState) → numbered_at servers n ≡ Some s → s.number ≡ n
  pub answered : AreAnswered packets
  pub written : (at n verifier uid fileid : ℕ) (w : Pending) → IsWritten packets at n verifier uid fileid w → IsHere servers journal n verifier uid fileid w
  pub committed : (at place n verifier uid fileid : ℕ) (w : Pending) → IsWritten packets at n verifier uid fileid w → IsCommitted packets place n verifier fileid → at < place
      → IsIn w (marks_of journal uid (mirror_at n fileid)).covered
  pub applied : AreWritesCalled packets journal

-- ---- packets

-- more packets
pub still_called : (packets more : List PacketValue) (e : Entry) → IsWriteCalled packets e → IsWriteCalled (packets ++ more) e
still_called packets more (entry.Applied mirror cred at bytes) h = record { place = h.place; from = h.from; xid = h.xid; gid = h.gid; synced = h.synced; there = push_old packets more h.place _ h.there }
still_called packets more _ h = tt

pub all_still_called : (packets more : List PacketValue) (journal : List Entry) → AreWritesCalled packets journal → AreWritesCalled (packets ++ more) journal
all_still_called packets more journal h = all_more (IsWriteCalled packets) (IsWriteCalled (packets ++ more)) journal (still_called packets more) h

-- the same reply at a later place, among more packets
pub answered_on : (packets more : List PacketValue) (at later place n : ℕ) (to : NodeId) (xid : ℕ) (reply : DsReplyValue) → at ≤ later → HasItsCall packets at place n to xid reply → HasItsCall (packets ++ more) later place n to xid reply
answered_on packets more at later place n to xid reply up h =
    let below = h.below in
    record { below = omega (arith, below, up); uid = h.uid; gid = h.gid; call = h.call; there = push_old packets more place _ h.there; kind = h.kind }

module _ (packets : List PacketValue) (p : PacketValue) (answered : AreAnswered packets) where
  -- the call of a reply that stood before stood before
  pub place_old : (at place n : ℕ) (to : NodeId) (xid : ℕ) (reply : DsReplyValue) → IsPacketAt packets at (Reply place n to xid reply) → (x : PacketValue) → IsPacketAt (packets ++ p ∷ []) place x → IsPacketAt packets place x
  place_old at place n to xid reply old x there =
      let below = (answered at place n to xid reply old).below in
      let within = slice_get_within packets at (Reply place n to xid reply) old in
      elim (pushed_at packets p place x there) [ inl is ↦ is | inr new ↦ let last = new.0 in absurd (omega (arith, below, within, last)) ]

  pub written_old : (at old n verifier uid fileid : ℕ) (w : Pending) (h : IsWritten (packets ++ p ∷ []) at n verifier uid fileid w) → IsPacketAt packets old (Reply h.place n h.to h.xid (Written h.shown verifier)) → IsWritten packets old n verifier uid fileid w
  written_old at old n verifier uid fileid w h reply = record {
    place = h.place;
    to = h.to;
    xid = h.xid;
    gid = h.gid;
    synced = h.synced;
    shown = h.shown;
    call = place_old old h.place n h.to h.xid (Written h.shown verifier) reply _ h.call;
    reply = reply;
    some = h.some;
  }

  pub committed_old : (old place n verifier fileid : ℕ) (h : IsCommitted (packets ++ p ∷ []) place n verifier fileid) → IsPacketAt packets old (Reply place n h.to h.xid (Committed h.shown verifier)) → IsCommitted packets place n verifier fileid
  committed_old old place n verifier fileid h reply = record {
    at = old;
    to = h.to;
    xid = h.xid;
    uid = h.uid;
    gid = h.gid;
    shown = h.shown;
    call = place_old old place n h.to h.xid (Committed h.shown verifier) reply _ h.call;
    reply = reply;
  }

  -- a WRITE's answer that stands below a packet from before stood before
  pub below_old : (at top n verifier uid fileid : ℕ) (w : Pending) → IsWritten (packets ++ p ∷ []) at n verifier uid fileid w → at < top → top ≤ length packets → IsWritten packets at n verifier uid fileid w
  below_old at top n verifier uid fileid w h less up =
      elim (pushed_at packets p at _ h.reply) [ inl old ↦ written_old at at n verifier uid fileid w h old | inr new ↦ let last = new.0 in absurd (omega (arith, less, up, last)) ]

-- ---- a journal that grows

pub here_on : (servers : List ServerState) (journal entries : List Entry) (n verifier uid fileid : ℕ) (w : Pending) → AllByRecursion (IsNotRestartOf n) entries → IsHere servers journal n verifier uid fileid w → IsHere servers (journal ++ entries) n verifier uid fileid w
here_on servers journal entries n verifier uid fileid w runs h = record { server = h.server; there = h.there; up = h.up; here = λ same. here_more journal entries uid (mirror_at n fileid) runs w (h.here same) }

-- ---- entries of files, and nothing else

-- an entry that is of no write at a mirror, and of no restart
abbrev pub is_of_file : Entry → Bool
is_of_file (entry.Applied mirror cred at bytes) = false
is_of_file (entry.Restarted server pieces) = false
is_of_file _ = true

abbrev pub AreOfFiles : List Entry → Type 0
AreOfFiles entries = AllByRecursion (λ (e : Entry). is_of_file e ≡ true) entries

file_called : (packets : List PacketValue) (e : Entry) → is_of_file e ≡ true → IsWriteCalled packets e
file_called packets (entry.Applied mirror cred at bytes) is = absurd cc
file_called packets _ is = tt

file_runs : (n : ℕ) (e : Entry) → is_of_file e ≡ true → IsNotRestartOf n e
file_runs n (entry.Restarted server pieces) is = absurd cc
file_runs n _ is = tt

pub covers_files : (servers : List ServerState) (packets : List PacketValue) (journal entries : List Entry) → AreOfFiles entries → Covers servers packets journal → Covers servers packets (journal ++ entries)
covers_files servers packets journal entries of_files c = record {
  numbers = c.numbers;
  answered = c.answered;
  written = λ at n verifier uid fileid w h.
      here_on servers journal entries n verifier uid fileid w (all_more (λ (e : Entry). is_of_file e ≡ true) (IsNotRestartOf n) entries (file_runs n) of_files) (c.written at n verifier uid fileid w h);
  committed = λ at place n verifier uid fileid w h k less. covered_more journal entries uid (mirror_at n fileid) w (c.committed at place n verifier uid fileid w h k less);
  applied = all_append (IsWriteCalled packets) journal entries c.applied (all_more (λ (e : Entry). is_of_file e ≡ true) (IsWriteCalled packets) entries (file_called packets) of_files);
}

-- ---- a packet goes out: a call, or one that was sent before

module _ (servers : List ServerState) (packets : List PacketValue) (journal : List Entry) (c : Covers servers packets journal) (p : PacketValue)
    (origin : (place n : ℕ) (to : NodeId) (xid : ℕ) (reply : DsReplyValue) → p ≡ Reply place n to xid reply → (at : ℕ) × IsPacketAt packets at (Reply place n to xid reply)) where
  -- each reply stood before, and no later
  stood : (at place n : ℕ) (to : NodeId) (xid : ℕ) (reply : DsReplyValue) → IsPacketAt (packets ++ p ∷ []) at (Reply place n to xid reply) → (old : ℕ) × IsPacketAt packets old (Reply place n to xid reply) × (old ≤ at)
  stood at place n to xid reply there =
      elim (pushed_at packets p at (Reply place n to xid reply) there) [
        | inl old ↦ (at, old, omega arith)
        | inr new ↦
            let from = origin place n to xid reply new.1 in
            let within = slice_get_within packets from.0 (Reply place n to xid reply) from.1 in
            let last = new.0 in
            (from.0, from.1, omega (arith, within, last))
      ]

  pub covers_sent : Covers servers (packets ++ p ∷ []) journal
  covers_sent = record {
    numbers = c.numbers;
    answered = λ at place n to xid reply there.
        let old = stood at place n to xid reply there in
        answered_on packets (p ∷ []) old.0 at place n to xid reply old.2 (c.answered old.0 place n to xid reply old.1);
    written = λ at n verifier uid fileid w h.
        let old = stood at h.place n h.to h.xid (Written h.shown verifier) h.reply in
        c.written old.0 n verifier uid fileid w (written_old packets p c.answered at old.0 n verifier uid fileid w h old.1);
    committed = λ at place n verifier uid fileid w h k less.
        let old = stood k.at place n k.to k.xid (Committed k.shown verifier) k.reply in
        let below = (c.answered old.0 place n k.to k.xid (Committed k.shown verifier) old.1).below in
        let within = slice_get_within packets old.0 (Reply place n k.to k.xid (Committed k.shown verifier)) old.1 in
        c.committed at place n verifier uid fileid w (below_old packets p c.answered at place n verifier uid fileid w h less (omega (arith, below, within)))
        (committed_old packets p c.answered old.0 place n verifier fileid k old.1) less;
    applied = all_still_called packets (p ∷ []) journal c.applied;
  }
