-- A call arrives at a data server, or the server starts again: what the packets show stays so.
use Rattle.std.proofs.Common.{◌≡◌, ◌≢◌, ℕ, ◌-◌, ◌<◌, ◌≤◌, List, [], ◌∷◌, ◌++◌, length, set, Some, sym, ap, subst, ◌∙◌, arith, inl, inr}
use Rattle.std.specs.Prelude.{slice_get}
use Rattle.std.specs.List.{AllByRecursion}
use Rattle.std.proofs.lemmas.Bool.{cases_eq}
use Rattle.std.proofs.lemmas.Option.{slice_get_within}
use Rattle.cluster_model.specs.declared.ids.NodeId.{NodeId}
use Rattle.cluster_model.specs.declared.entry.Entry.{Entry}
use Rattle.cluster_model.specs.declared.entry.Entry.TheVariants as entry
use Rattle.cluster_model.specs.declared.piece.Piece.{Piece}
use Rattle.cluster_model.specs.Content.{Pending}
use Rattle.cluster_model.specs.Server.{ServerState}
use Rattle.cluster_model.specs.ServerLaws.{IsTimed}
use Rattle.cluster_model.specs.DsCalls.{DsCallValue, Write, Commit, DsReplyValue, Written, Committed, DsStep, ds_step}
use Rattle.cluster_laws.specs.Machine.{PacketValue, Call, Reply, numbered_at, caller_by}
use Rattle.cluster_laws.specs.Holders.{IsPacketAt, IsIn}
use Rattle.sound_journals.specs.Marks.{UserMarks, marks_of, marks_by}
use Rattle.covered_writes.specs.CoveredWrites.{HasItsCall, AreAnswered, IsWriteCalled}
use Rattle.cluster_laws.proofs.Lists.{all_append, all_more, push_old, put_same, put_other, same_numbered}
use Rattle.covered_writes.proofs.Places.{pushed_at}
use Rattle.covered_writes.proofs.MarkSteps.{IsNotRestartOf, marks_more, covered_more, here_more, mirror_at}
use Rattle.covered_writes.proofs.ServerSteps.{same_boot, IsOfStep, no_restart, plan_of_call, HasWritten, has_written, HasCommitted, has_committed}
use Rattle.covered_writes.proofs.Standing.{IsWritten, IsCommitted, IsHere, Covers, all_still_called, answered_on, written_old, committed_old, below_old}

-- ---- packets that are the same

same_call : (from : NodeId) (n xid uid gid : ℕ) (call : DsCallValue) (other : NodeId) (k zid user group : ℕ) (its : DsCallValue) → Some (Call from n xid uid gid call) ≡ Some (Call other k zid user group its) → (uid ≡ user) × (call ≡ its)
same_call from n xid uid gid call other k zid user group its e = (cc, cc)

pub record IsSameReply (place n : ℕ) (reply : DsReplyValue) (other k : ℕ) (its : DsReplyValue) : Type 0 where
  pub place_is : place ≡ other
  pub server_is : n ≡ k
  pub reply_is : reply ≡ its

same_reply : (place n : ℕ) (to : NodeId) (xid : ℕ) (reply : DsReplyValue) (other k : ℕ) (node : NodeId) (zid : ℕ) (its : DsReplyValue) → Reply place n to xid reply ≡ Reply other k node zid its → IsSameReply place n reply other k its
same_reply place n to xid reply other k node zid its e = record { place_is = cc; server_is = cc; reply_is = cc }

-- the call of a packet, if it is a reply
abbrev HasCallAt : List PacketValue → ℕ → PacketValue → Type 0
HasCallAt packets at (Call from server xid uid gid call) = Unit {0}
HasCallAt packets at (Reply place server to xid reply) = HasItsCall packets at place server to xid reply

-- ---- a server in another state, in its number's place

module _ (servers : List ServerState) (packets : List PacketValue) (journal : List Entry) (c : Covers servers packets journal) (n : ℕ) (s : ServerState) (there : numbered_at servers n ≡ Some s) (new : ServerState) (number : new.number ≡ s.number) where
  numbers_now : (k : ℕ) (t : ServerState) → numbered_at (set servers (n - 1) new) k ≡ Some t → t.number ≡ k
  numbers_now k t is =
      elim (cases_eq k n) [
        | inl same ↦
            let t_is : new ≡ t = same_numbered (set servers (n - 1) new) n new t (put_same servers n s new there) (sym (ap (numbered_at (set servers (n - 1) new)) same) ∙ is) in
            ap (λ (x : ServerState). x.number) (sym t_is) ∙ number ∙ c.numbers n s there ∙ sym same
        | inr other ↦ c.numbers k t (sym (put_other servers n k s new there other) ∙ is)
      ]

  -- of another server
  here_other : (entries : List Entry) (k verifier uid fileid : ℕ) (w : Pending) → k ≢ n → AllByRecursion (IsNotRestartOf k) entries → IsHere servers journal k verifier uid fileid w → IsHere (set servers (n - 1) new) (journal ++ entries) k verifier uid fileid w
  here_other entries k verifier uid fileid w other runs h = record {
    server = h.server;
    there = put_other servers n k s new there other ∙ h.there;
    up = h.up;
    here = λ same. here_more journal entries uid (mirror_at k fileid) runs w (h.here same);
  }

  -- what is known of the server itself
  its_state : (verifier uid fileid : ℕ) (w : Pending) (h : IsHere servers journal n verifier uid fileid w) → h.server ≡ s
  its_state verifier uid fileid w h = same_numbered servers n h.server s h.there there

  its_boot : (verifier uid fileid : ℕ) (w : Pending) → IsHere servers journal n verifier uid fileid w → verifier ≤ s.clock.boot
  its_boot verifier uid fileid w h = subst (λ (x : ServerState). verifier ≤ x.clock.boot) (its_state verifier uid fileid w h) h.up

  its_here : (verifier uid fileid : ℕ) (w : Pending) → IsHere servers journal n verifier uid fileid w → verifier ≡ s.clock.boot → IsIn w (marks_of journal uid (mirror_at n fileid)).here
  its_here verifier uid fileid w h = subst (λ (x : ServerState). verifier ≡ x.clock.boot → IsIn w (marks_of journal uid (mirror_at n fileid)).here) (its_state verifier uid fileid w h) h.here

  -- ---- the same boot, and entries that are no restart

  module _ (boot : new.clock.boot ≡ s.clock.boot) (entries : List Entry) (runs : (k : ℕ) → AllByRecursion (IsNotRestartOf k) entries) where
    here_mine : (verifier uid fileid : ℕ) (w : Pending) → IsHere servers journal n verifier uid fileid w → IsHere (set servers (n - 1) new) (journal ++ entries) n verifier uid fileid w
    here_mine verifier uid fileid w h =
        let up = its_boot verifier uid fileid w h in
        record {
          server = new;
          there = put_same servers n s new there;
          up = omega (arith, up, boot);
          here = λ same. here_more journal entries uid (mirror_at n fileid) (runs n) w (its_here verifier uid fileid w h (same ∙ boot));
        }

    here_still : (k verifier uid fileid : ℕ) (w : Pending) → IsHere servers journal k verifier uid fileid w → IsHere (set servers (n - 1) new) (journal ++ entries) k verifier uid fileid w
    here_still k verifier uid fileid w h =
        elim (cases_eq k n) [
          | inl same ↦
              subst (λ (j : ℕ). IsHere (set servers (n - 1) new) (journal ++ entries) j verifier uid fileid w) (sym same) (here_mine verifier uid fileid w (subst (λ (j : ℕ). IsHere servers journal j verifier uid fileid w) same h))
          | inr other ↦ here_other entries k verifier uid fileid w other (runs k) h
        ]

  -- ---- a later boot

  module _ (later : s.clock.boot < new.clock.boot) (pieces : List Piece) where
    gone_mine : (verifier uid fileid : ℕ) (w : Pending) → IsHere servers journal n verifier uid fileid w → IsHere (set servers (n - 1) new) (journal ++ entry.Restarted n pieces ∷ []) n verifier uid fileid w
    gone_mine verifier uid fileid w h =
        let up = its_boot verifier uid fileid w h in
        record {
          server = new;
          there = put_same servers n s new there;
          up = omega (arith, up, later);
          here = λ same. absurd (omega (arith, up, later, same));
        }

    gone_still : (k verifier uid fileid : ℕ) (w : Pending) → IsHere servers journal k verifier uid fileid w → IsHere (set servers (n - 1) new) (journal ++ entry.Restarted n pieces ∷ []) k verifier uid fileid w
    gone_still k verifier uid fileid w h =
        elim (cases_eq k n) [
          | inl same ↦
              subst (λ (j : ℕ). IsHere (set servers (n - 1) new) (journal ++ entry.Restarted n pieces ∷ []) j verifier uid fileid w) (sym same)
              (gone_mine verifier uid fileid w (subst (λ (j : ℕ). IsHere servers journal j verifier uid fileid w) same h))
          | inr other ↦ here_other (entry.Restarted n pieces ∷ []) k verifier uid fileid w other (λ e. other (sym e), tt) h
        ]

    pub covers_restarted : Covers (set servers (n - 1) new) packets (journal ++ entry.Restarted n pieces ∷ [])
    covers_restarted = record {
      numbers = numbers_now;
      answered = c.answered;
      written = λ at k verifier uid fileid w h. gone_still k verifier uid fileid w (c.written at k verifier uid fileid w h);
      committed = λ at place k verifier uid fileid w h o less. covered_more journal (entry.Restarted n pieces ∷ []) uid (mirror_at k fileid) w (c.committed at place k verifier uid fileid w h o less);
      applied = all_append (IsWriteCalled packets) journal (entry.Restarted n pieces ∷ []) c.applied (tt, tt);
    }

-- ---- a call arrives

module _ (servers : List ServerState) (packets : List PacketValue) (journal : List Entry) (c : Covers servers packets journal) (n : ℕ) (s : ServerState) (there : numbered_at servers n ≡ Some s)
    (place : ℕ) (from : NodeId) (xid uid gid : ℕ) (call : DsCallValue) (sent : IsPacketAt packets place (Call from n xid uid gid call)) where
  abbrev step : DsStep
  step = ds_step s (caller_by uid gid) call

  abbrev answer : PacketValue
  answer = Reply place n from xid step.reply

  abbrev after : List PacketValue
  after = packets ++ answer ∷ []

  abbrev now : List ServerState
  now = set servers (n - 1) step.server

  same : IsTimed s step.server
  same = same_boot s (caller_by uid gid) call

  of_step : AllByRecursion (IsOfStep s.number uid call) step.entries
  of_step = (plan_of_call s (caller_by uid gid) call).entries

  runs : (k : ℕ) → AllByRecursion (IsNotRestartOf k) step.entries
  runs k = all_more (IsOfStep s.number uid call) (IsNotRestartOf k) step.entries (no_restart k s.number uid call) of_step

  number : s.number ≡ n
  number = c.numbers n s there

  sent_still : IsPacketAt after place (Call from n xid uid gid call)
  sent_still = push_old packets (answer ∷ []) place (Call from n xid uid gid call) sent

  -- the call is the one that stands where an answer says
  its_call : (other : ℕ) → place ≡ other → (node : NodeId) (k zid user group : ℕ) (its : DsCallValue) → IsPacketAt after other (Call node k zid user group its) → (uid ≡ user) × (call ≡ its)
  its_call other place_is node k zid user group its is = same_call from n xid uid gid call node k zid user group its (sym sent_still ∙ ap (slice_get after) place_is ∙ is)

  -- ---- the answer

  answered_now : HasItsCall after (length packets) place n from xid step.reply
  answered_now = record { below = slice_get_within packets place (Call from n xid uid gid call) sent; uid = uid; gid = gid; call = call; there = sent_still; kind = (plan_of_call s (caller_by uid gid) call).kind }

  each_answered : AreAnswered after
  each_answered at other k to zid reply is =
      elim (pushed_at packets answer at (Reply other k to zid reply) is) [
        | inl old ↦ answered_on packets (answer ∷ []) at at other k to zid reply (omega arith) (c.answered at other k to zid reply old)
        | inr new ↦ subst (λ (i : ℕ). HasItsCall after i other k to zid reply) (sym new.0) (subst (λ (x : PacketValue). HasCallAt after (length packets) x) new.1 answered_now)
      ]

  -- ---- a WRITE that it answers

  written_here : (at verifier user fileid : ℕ) (w : Pending) (h : IsWritten after at n verifier user fileid w) → IsSameReply place n step.reply h.place n (Written h.shown verifier) → IsHere now (journal ++ step.entries) n verifier user fileid w
  written_here at verifier user fileid w h is =
      let of_call = its_call h.place is.place_is h.to n h.xid user h.gid (Write fileid w.at h.synced w.bytes) h.call in
      let did : HasWritten s (caller_by uid gid) fileid w.at w.bytes verifier step.entries = has_written s (caller_by uid gid) call fileid w.at h.synced w.bytes of_call.1 h.shown verifier is.reply_is in
      let boot = did.boot in
      let stays = same.boot in
      let by_user : IsIn w (marks_by user (mirror_at s.number fileid) (marks_of journal user (mirror_at n fileid)) step.entries).here =
      subst (λ (u : ℕ). IsIn w (marks_by u (mirror_at s.number fileid) (marks_of journal user (mirror_at n fileid)) step.entries).here) of_call.0 (did.here h.some (marks_of journal user (mirror_at n fileid))) in
      record {
        server = step.server;
        there = put_same servers n s step.server there;
        up = omega (arith, boot, stays);
        here = λ e. marks_more journal step.entries user (mirror_at n fileid) (λ (k : UserMarks). IsIn w k.here)
            (subst (λ (i : ℕ). IsIn w (marks_by user (mirror_at i fileid) (marks_of journal user (mirror_at n fileid)) step.entries).here) number by_user);
      }

  written_new : (at k verifier user fileid : ℕ) (w : Pending) (h : IsWritten after at k verifier user fileid w) → n ≡ k → answer ≡ Reply h.place k h.to h.xid (Written h.shown verifier) → IsHere now (journal ++ step.entries) k verifier user fileid w
  written_new at k verifier user fileid w h server is =
      subst (λ (j : ℕ). (g : IsWritten after at j verifier user fileid w) → answer ≡ Reply g.place j g.to g.xid (Written g.shown verifier) → IsHere now (journal ++ step.entries) j verifier user fileid w) server
      (λ g e. written_here at verifier user fileid w g (same_reply place n from xid step.reply g.place n g.to g.xid (Written g.shown verifier) e)) h is

  each_written : (at k verifier user fileid : ℕ) (w : Pending) → IsWritten after at k verifier user fileid w → IsHere now (journal ++ step.entries) k verifier user fileid w
  each_written at k verifier user fileid w h =
      elim (pushed_at packets answer at (Reply h.place k h.to h.xid (Written h.shown verifier)) h.reply) [
        | inl old ↦ here_still servers packets journal c n s there step.server same.number same.boot step.entries runs k verifier user fileid w (c.written at k verifier user fileid w (written_old packets answer c.answered at at k verifier user fileid w h old))
        | inr new ↦ written_new at k verifier user fileid w h (same_reply place n from xid step.reply h.place k h.to h.xid (Written h.shown verifier) new.1).server_is new.1
      ]

  -- ---- a COMMIT that it answers

  committed_here : (at other verifier user fileid : ℕ) (w : Pending) → IsWritten after at n verifier user fileid w → (k : IsCommitted after other n verifier fileid) → at < other → IsSameReply place n step.reply other n (Committed k.shown verifier)
      → IsIn w (marks_of (journal ++ step.entries) user (mirror_at n fileid)).covered
  committed_here at other verifier user fileid w h k less is =
      let of_call = its_call other is.place_is k.to n k.xid k.uid k.gid (Commit fileid) k.call in
      let did : HasCommitted s (caller_by uid gid) fileid verifier step.entries = has_committed s (caller_by uid gid) call fileid of_call.1 k.shown verifier is.reply_is in
      let within = slice_get_within packets place (Call from n xid uid gid call) sent in
      let place_is = is.place_is in
      let old = c.written at n verifier user fileid w (below_old packets answer c.answered at other n verifier user fileid w h less (omega (arith, within, place_is))) in
      let here = its_here servers packets journal c n s there step.server same.number verifier user fileid w old did.boot in
      marks_more journal step.entries user (mirror_at n fileid) (λ (x : UserMarks). IsIn w x.covered)
      (subst (λ (i : ℕ). IsIn w (marks_by user (mirror_at i fileid) (marks_of journal user (mirror_at n fileid)) step.entries).covered) number (did.covers user (marks_of journal user (mirror_at n fileid)) w here))

  committed_new : (at other k verifier user fileid : ℕ) (w : Pending) → IsWritten after at k verifier user fileid w → (o : IsCommitted after other k verifier fileid) → at < other → n ≡ k → answer ≡ Reply other k o.to o.xid (Committed o.shown verifier)
      → IsIn w (marks_of (journal ++ step.entries) user (mirror_at k fileid)).covered
  committed_new at other k verifier user fileid w h o less server is =
      subst (λ (j : ℕ). IsWritten after at j verifier user fileid w → (g : IsCommitted after other j verifier fileid) → answer ≡ Reply other j g.to g.xid (Committed g.shown verifier) → IsIn w (marks_of (journal ++ step.entries) user (mirror_at j fileid)).covered) server
      (λ f g e. committed_here at other verifier user fileid w f g less (same_reply place n from xid step.reply other n g.to g.xid (Committed g.shown verifier) e)) h o is

  committed_still : (at other k verifier user fileid : ℕ) (w : Pending) → IsWritten after at k verifier user fileid w → (o : IsCommitted after other k verifier fileid) → at < other → IsPacketAt packets o.at (Reply other k o.to o.xid (Committed o.shown verifier))
      → IsIn w (marks_of (journal ++ step.entries) user (mirror_at k fileid)).covered
  committed_still at other k verifier user fileid w h o less old =
      let below = (c.answered o.at other k o.to o.xid (Committed o.shown verifier) old).below in
      let within = slice_get_within packets o.at (Reply other k o.to o.xid (Committed o.shown verifier)) old in
      covered_more journal step.entries user (mirror_at k fileid) w
      (c.committed at other k verifier user fileid w (below_old packets answer c.answered at other k verifier user fileid w h less (omega (arith, below, within))) (committed_old packets answer c.answered o.at other k verifier fileid o old) less)

  each_committed : (at other k verifier user fileid : ℕ) (w : Pending) → IsWritten after at k verifier user fileid w → IsCommitted after other k verifier fileid → at < other → IsIn w (marks_of (journal ++ step.entries) user (mirror_at k fileid)).covered
  each_committed at other k verifier user fileid w h o less =
      elim (pushed_at packets answer o.at (Reply other k o.to o.xid (Committed o.shown verifier)) o.reply) [
        | inl old ↦ committed_still at other k verifier user fileid w h o less old
        | inr new ↦ committed_new at other k verifier user fileid w h o less (same_reply place n from xid step.reply other k o.to o.xid (Committed o.shown verifier) new.1).server_is new.1
      ]

  -- ---- the writes that were applied

  step_called : (e : Entry) → IsOfStep s.number uid call e → IsWriteCalled after e
  step_called (entry.Applied mirror cred at bytes) h =
      let server : n ≡ mirror.server = sym (h.server ∙ number) in
      record {
        place = place;
        from = from;
        xid = xid;
        gid = gid;
        synced = h.synced;
        there = sent_still ∙ (λ i. Some (Call from (server i) xid (sym h.user i) gid (h.call_is i)));
      }
  step_called (entry.Restarted server pieces) h = absurd h
  step_called _ h = tt

  pub covers_served : Covers now after (journal ++ step.entries)
  covers_served = record {
    numbers = numbers_now servers packets journal c n s there step.server same.number;
    answered = each_answered;
    written = each_written;
    committed = each_committed;
    applied = all_append (IsWriteCalled after) journal step.entries (all_still_called packets (answer ∷ []) journal c.applied) (all_more (IsOfStep s.number uid call) (IsWriteCalled after) step.entries step_called of_step);
  }
