-- The network goes on, and what was true of files and packets stays so.
use Rattle.std.proofs.Common.{◌≡◌, ◌≢◌, ℕ, ◌<◌, ◌≤◌, List, ◌++◌, Option, Some, None, sym, subst, ◌∙◌, arith, inl, inr}
use Rattle.std.specs.Prelude.{slice_get}
use Rattle.std.specs.List.{AllByRecursion}
use Rattle.cluster_model.specs.declared.ids.NodeId.{NodeId}
use Rattle.cluster_model.specs.declared.ids.NodeId.TheVariants.{Mds, Server, Client}
use Rattle.cluster_model.specs.declared.ids.MirrorId.{MirrorId}
use Rattle.cluster_model.specs.declared.ids.Mirror.{Mirror}
use Rattle.cluster_model.specs.declared.entry.Entry.{Entry}
use Rattle.cluster_model.specs.declared.ds_call.Shown.{Shown}
use Rattle.cluster_model.specs.declared.fence_mirror.FenceMirror.{FenceMirror}
use Rattle.cluster_model.specs.declared.layout_state.LayoutState.{LayoutState}
use Rattle.cluster_model.specs.DsCalls.{DsCallValue, Create, SetAttr, Write, Commit, Read, DsReplyValue, Created, Set, Written, Committed, Bytes, NotSync, Failed}
use Rattle.cluster_model.specs.GuardLaws.{target}
use Rattle.copy_rule.specs.Copies.{target_call}
use Rattle.copy_rule.specs.declared.copy_target.CopyTarget.{CopyTarget}
use Rattle.file_rule.specs.MdsFiles.{Activity, Idle, Makes, Fences, Settles, Copies, MdsFile}
use Rattle.file_rule.specs.declared.creation.Creation.{Creation}
use Rattle.cluster_laws.specs.Machine.{PacketValue, Call, Reply, file_id}
use Rattle.cluster_laws.specs.FenceLaw.{live_after}
use Rattle.cluster_laws.proofs.Facts.{AllFollow, OwnedFrom, bears_on, owned_on, given_on, asked_on}
use Rattle.cluster_laws.proofs.Invariant.{Net, AreThisCall, at_server, IsCallOf, IsGiven, IsReplyTo, IsUsed, IsPacket, FenceNote, fence_in, If, KeepsOwner, IsFencedTo, IsMirrorOf, IsCreationOf, IsTargetOf, IsInFence, IsBusyWith, IsFile, IsNamedSource}
use Rattle.cluster_laws.proofs.Lists.{all_append, all_more}
use Rattle.cluster_laws.proofs.Journals.{live_same}

-- the network later on
pub record Later (old new : Net) : Type 0 where
  pub servers : AllFollow old.servers new.servers
  pub sent : (place : ℕ) (p : PacketValue) → slice_get old.packets place ≡ Some p → slice_get new.packets place ≡ Some p
  pub calls : (xid server : ℕ) (call : DsCallValue) → xid ≤ old.last_xid → AreThisCall old.packets xid server call → AreThisCall new.packets xid server call
  pub used : old.last_xid ≤ new.last_xid
  pub names : old.next_name ≤ new.next_name
  pub home : (k : ℕ) → k < old.next_name → new.drawn.home k ≡ old.drawn.home k
  pub low : (k : ℕ) → k < old.next_name → new.drawn.low k ≡ old.drawn.low k
  pub tops : (n : ℕ) → old.drawn.top n ≤ new.drawn.top n

module _ (old new : Net) (l : Later old new) where
  -- ---- packets

  used_on : (from : NodeId) (xid : ℕ) → IsUsed old.last_xid from xid → IsUsed new.last_xid from xid
  used_on Mds xid h = let up = l.used in omega (arith, up, h)
  used_on (Server n) xid h = tt
  used_on (Client n) xid h = tt

  drawn_on : (k : ℕ) → k < old.next_name → k < new.next_name
  drawn_on k h = let up = l.names in omega (arith, up, h)

  call_on : (n : ℕ) (call : DsCallValue) → IsCallOf old.drawn old.servers old.next_name n call → IsCallOf new.drawn new.servers new.next_name n call
  call_on n (Create name owner) h = (drawn_on name h.0, h.1 ∙ sym (l.low name h.0))
  call_on n (SetAttr fileid uid guard) h =
      let up = h.up in
      let rises = l.tops (old.drawn.home h.name) in
      record {
        asked = asked_on old.servers new.servers l.servers n fileid uid guard h.asked;
        name = h.name;
        drawn = drawn_on h.name h.drawn;
        bears = bears_on old.servers new.servers l.servers (at_server n fileid) h.name h.bears;
        up = subst (λ (g : ℕ). uid ≤ new.drawn.top g) (sym (l.home h.name h.drawn)) (omega (arith, up, rises));
      }
  call_on n (Write fileid at synced bytes) h = tt
  call_on n (Commit fileid) h = tt
  call_on n (Read fileid at count) h = tt

  is_given_on : (n : ℕ) (shown : Option Shown) → IsGiven old.servers n shown → IsGiven new.servers n shown
  is_given_on n None h = tt
  is_given_on n (Some shown) h = given_on old.servers new.servers l.servers n shown.seen h

  reply_on : (n : ℕ) (call : DsCallValue) (reply : DsReplyValue) → IsReplyTo old.servers n call reply → IsReplyTo new.servers n call reply
  reply_on n call (Created fileid shown) h = record { name = h.name; owner = h.owner; asked = h.asked; bears = bears_on old.servers new.servers l.servers (at_server n fileid) h.name h.bears; given = given_on old.servers new.servers l.servers n shown.seen h.given }
  reply_on n call (Set shown) h = (record { fileid = h.0.fileid; uid = h.0.uid; guard = h.0.guard; asked = h.0.asked; owned = owned_on old.servers new.servers l.servers (at_server n h.0.fileid) h.0.uid h.0.owned }, is_given_on n shown h.1)
  reply_on n call (Written shown verifier) h = is_given_on n shown h
  reply_on n call (Committed shown verifier) h = is_given_on n shown h
  reply_on n call (Bytes shown eof bytes) h = is_given_on n shown h
  reply_on n call (NotSync shown) h = (owned_on old.servers new.servers l.servers (at_server n (target call)) shown.owner.0 h.0, given_on old.servers new.servers l.servers n shown.seen h.1)
  reply_on n call (Failed status shown) h = is_given_on n shown h

  pub packet_on : (p : PacketValue) → IsPacket old p → IsPacket new p
  packet_on (Call from server xid uid gid call) h = (used_on from xid h.0, call_on server call h.1)
  packet_on (Reply place server to xid reply) h =
      let a = h.answer in
      record {
        answer = record { call = a.call; sent = record { place = a.sent.place; uid = a.sent.uid; gid = a.sent.gid; there = l.sent a.sent.place _ a.sent.there }; shows = reply_on server a.call reply a.shows };
        at = h.at;
      }

  -- ---- a file

  keeps_on : (n : ℕ) (id : MirrorId) (x : Option FenceNote) → If x (λ y. y.file ≡ n → OwnedFrom old.servers id y.new) → If x (λ y. y.file ≡ n → OwnedFrom new.servers id y.new)
  keeps_on n id None h = tt
  keeps_on n id (Some x) h = λ e. owned_on old.servers new.servers l.servers id x.new (h e)

  pub all_keep_on : (n : ℕ) (id : MirrorId) (journal : List Entry) → AllByRecursion (KeepsOwner old.servers n id) journal → AllByRecursion (KeepsOwner new.servers n id) journal
  all_keep_on n id journal h = all_more (KeepsOwner old.servers n id) (KeepsOwner new.servers n id) journal (λ e. keeps_on n id (fence_in e)) h

  pub creation_on : (n owner : ℕ) (c : Creation) → IsCreationOf old n owner c → IsCreationOf new n owner c
  creation_on n owner c h = record {
    drawn = drawn_on c.name h.drawn;
    home = l.home c.name h.drawn ∙ h.home;
    low = l.low c.name h.drawn ∙ h.low;
    out = λ xid is.
        let o = h.out xid is in
        let used = o.0 in
        let up = l.used in
        (omega (arith, used, up), l.calls xid c.server (Create c.name owner) o.0 o.1);
    made = λ m is.
        let k = h.made m is in
        (k.0, bears_on old.servers new.servers l.servers m.id c.name k.1, given_on old.servers new.servers l.servers m.id.server m.seen k.2);
  }

  pub target_on : (n copier at : ℕ) (piece : List ℕ) (t : CopyTarget) → IsTargetOf old n copier at piece t → IsTargetOf new n copier at piece t
  target_on n copier at piece t h = record {
    drawn = drawn_on t.name h.drawn;
    home = l.home t.name h.drawn ∙ h.home;
    low = l.low t.name h.drawn ∙ h.low;
    out = λ xid is.
        let o = h.out xid is in
        let used = o.0 in
        let up = l.used in
        (omega (arith, used, up), l.calls xid t.server (target_call copier at piece t.name t.made) o.0 o.1);
    made = λ m is.
        let k = h.made m is in
        (k.0, bears_on old.servers new.servers l.servers m.id t.name k.1, given_on old.servers new.servers l.servers m.id.server m.seen k.2);
  }

  pub in_fence_on : (n fresh : ℕ) (m : FenceMirror) → IsInFence old n fresh m → IsInFence new n fresh m
  in_fence_on n fresh m h = record {
    name = h.name;
    drawn = drawn_on h.name h.drawn;
    bears = bears_on old.servers new.servers l.servers m.id h.name h.bears;
    home = l.home h.name h.drawn ∙ h.home;
    seen = given_on old.servers new.servers l.servers m.id.server m.seen h.seen;
    out = λ xid is.
        let o = h.out xid is in
        let used = o.used in
        let up = l.used in
        record { used = omega (arith, used, up); guard = o.guard; calls = l.calls xid m.id.server (SetAttr m.id.fileid fresh o.guard) o.used o.calls };
    done = λ is. owned_on old.servers new.servers l.servers m.id fresh (h.done is);
  }

  source_on : (id : MirrorId) → IsNamedSource old.servers id → IsNamedSource new.servers id
  source_on id (inl none) = inl none
  source_on id (inr named) = inr (named.0, bears_on old.servers new.servers l.servers id named.0 named.1)

  -- entries that are of no fence of this file
  module _ (n : ℕ) (journal entries : List Entry) (none : AllByRecursion (λ e. If (fence_in e) (λ x. x.file ≢ n)) entries) where
    no_owner : (id : MirrorId) (x : Option FenceNote) → If x (λ y. y.file ≢ n) → If x (λ y. y.file ≡ n → OwnedFrom new.servers id y.new)
    no_owner id None h = tt
    no_owner id (Some x) h = λ e. absurd (h e)

    no_fence : (uid : ℕ) (x : Option FenceNote) → If x (λ y. y.file ≢ n) → If x (λ y. y.file ≡ n → y.new ≤ uid)
    no_fence uid None h = tt
    no_fence uid (Some x) h = λ e. absurd (h e)

    pub mirror_on : (m : Mirror) → IsMirrorOf old n journal m → IsMirrorOf new n (journal ++ entries) m
    mirror_on m h = record {
      name = h.name;
      drawn = drawn_on h.name h.drawn;
      bears = bears_on old.servers new.servers l.servers m.id h.name h.bears;
      home = l.home h.name h.drawn ∙ h.home;
      seen = given_on old.servers new.servers l.servers m.id.server m.seen h.seen;
      owned = all_append (KeepsOwner new.servers n m.id) journal entries (all_keep_on n m.id journal h.owned)
          (all_more (λ e. If (fence_in e) (λ x. x.file ≢ n)) (KeepsOwner new.servers n m.id) entries (λ e. no_owner m.id (fence_in e)) none);
    }

    pub fences_on : (uid : ℕ) → AllByRecursion (IsFencedTo n uid) journal → AllByRecursion (IsFencedTo n uid) (journal ++ entries)
    fences_on uid h = all_append (IsFencedTo n uid) journal entries h (all_more (λ e. If (fence_in e) (λ x. x.file ≢ n)) (IsFencedTo n uid) entries (λ e. no_fence uid (fence_in e)) none)

    -- a file that takes no step: nothing was drawn for it
    module _ (top : new.drawn.top n ≡ old.drawn.top n) where
      busy_on : (s : LayoutState) (activity : Activity) → IsBusyWith old journal n s activity → IsBusyWith new (journal ++ entries) n s activity
      busy_on s Idle h = h
      busy_on s (Makes all) h = record { phase = h.phase; owner = h.owner; least = top ∙ h.least; items = all_more (IsCreationOf old n all.owner) (IsCreationOf new n all.owner) all.items (creation_on n all.owner) h.items; apart = h.apart; fences = fences_on 0 h.fences }
      busy_on s (Fences fence) h = record { next = h.next; end = h.end; phase = h.phase; fresh = h.fresh; top = top ∙ h.top; later = h.later; mirrors = all_more (IsInFence old n fence.cred) (IsInFence new n fence.cred) fence.mirrors (in_fence_on n fence.cred) h.mirrors; ids = h.ids }
      busy_on s (Settles stage) h = h
      busy_on s (Copies c) h = record { copier = h.copier; copies = h.copies; phase = h.phase; targets = all_more (IsTargetOf old n c.copier c.at c.piece) (IsTargetOf new n c.copier c.at c.piece) c.targets (target_on n c.copier c.at c.piece) h.targets; later = h.later; top = subst (λ (t : ℕ). c.copier ≤ t) (sym top) h.top; fences = fences_on c.copier h.fences; sources = h.sources; plan = h.plan; source = source_on c.source h.source; short = h.short }

      pub file_on : (f : MdsFile) → AllByRecursion (λ e. (x : Option (List MirrorId)) → live_after (file_id n) x e ≡ x) entries → IsFile old journal n f → IsFile new (journal ++ entries) n f
      file_on f same h = record {
        live = live_same (file_id n) journal entries same ∙ h.live;
        apart = h.apart;
        mirrors = all_more (IsMirrorOf old n journal) (IsMirrorOf new n (journal ++ entries)) f.layout.live mirror_on h.mirrors;
        cred = h.cred;
        top = subst (λ (t : ℕ). f.layout.cred.0 ≤ t) (sym top) h.top;
        busy = busy_on f.layout f.activity h.busy;
      }
