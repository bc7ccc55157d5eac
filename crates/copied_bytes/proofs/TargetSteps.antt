-- Targets behind a step of a file, and what comes in at each swap.
use Rattle.std.proofs.Common.{◌≡◌, ◌≢◌, ℕ, ◌+◌, ◌<◌, ◌≤◌, ◌⊎◌, Bool, true, false, List, [], ◌∷◌, ◌++◌, length, Some, refl, sym, ap, subst, ◌∙◌, arith, inl, inr}
use Rattle.machine_walk.proofs.WriterCases.{not_drawn}
use Rattle.std.proofs.lemmas.Bool.{cases_lt}
use Rattle.cluster_model.specs.declared.ids.NodeId.TheVariants.{Mds}
use Rattle.cluster_model.specs.declared.ids.MirrorId.{MirrorId}
use Rattle.cluster_model.specs.declared.entry.Entry.{Entry}
use Rattle.cluster_model.specs.declared.layout_state.LayoutState.{LayoutState}
use Rattle.cluster_model.specs.Journal.{Copy, content_of}
use Rattle.cluster_model.specs.Phases.{ids_of}
use Rattle.copy_rule.specs.Copies.{CopyState}
use Rattle.copy_rule.specs.declared.copy_target.CopyTarget.{CopyTarget}
use Rattle.file_rule.specs.MdsFiles.{Activity, Idle, Makes, Fences, Settles, Copies, MdsFile, FileStep}
use Rattle.file_rule.specs.FilePhases.{FileInput, phase}
use Rattle.cluster_laws.specs.Machine.{PacketValue, Call, Reply, Machine, numbered_at, file_id, fresh_of}
use Rattle.cluster_laws.proofs.Facts.{Bears}
use Rattle.cluster_laws.proofs.PeriodStates.{IsMine}
use Rattle.cluster_model.specs.DsCalls.{DsCallValue, Create, SetAttr, Write, Commit, Read, DsReplyValue, Created}
use Rattle.cluster_model.specs.declared.ds_call.Shown.{Shown}
use Rattle.cluster_laws.specs.Holders.{the_write}
use Rattle.cluster_laws.specs.Periods.{was_granted}
use Rattle.cluster_laws.proofs.Lists.{all_more, all_at, put_same}
use Rattle.cluster_laws.proofs.Invariant.{at_server, IsThisCall, IsPacket, IsTargetOf, live_of, IsFile, net_of}
use Rattle.cluster_laws.proofs.KnownNow.{known_now}
use Rattle.cluster_laws.proofs.RunFacts.{owner_told}
use Rattle.machine_walk.proofs.Stories.{Story, IsOnward, AreEach, IsMoment}
use Rattle.machine_walk.proofs.MoveCases.{HasReply, after_step, IsStepBy}
use Rattle.machine_walk.proofs.Placed.{files_set}
use Rattle.machine_walk.proofs.Writers.{HasUids}
use Rattle.machine_walk.proofs.Noted.{noter}
use Rattle.machine_walk.proofs.WriterFacts.{IsWriteCall, IsKnownPacket, KnowsWriters}
use Rattle.machine_walk.proofs.WriterSteps.{drew_new}
use Rattle.copied_bytes.proofs.CallsKept.{IsOutSo}
use Rattle.copied_bytes.proofs.Parts.{IsPart, IsPut}
use Rattle.copied_bytes.proofs.Sources.{owner_of, CopiesSo, IsBusySo}
use Rattle.copied_bytes.proofs.SourceCarry.{KnowsSources}
use Rattle.copied_bytes.proofs.TargetTurns.{IsSiteOf, IsMadeThen}
use Rattle.copied_bytes.proofs.TargetFacts.{IsPieceFor, IsPiecePacket, CopiesTargets, KeepsTargets, KnowsTargets, targets_on, write_later}
use Rattle.cluster_laws.proofs.PeriodStates.{IsMine}
use Rattle.copied_bytes.proofs.TargetCases.{own_all}
use Rattle.copied_bytes.proofs.TargetTurns.{all_both}
use Rattle.machine_walk.proofs.StepKinds.{StepKind}
use Rattle.machine_walk.proofs.WriterCases.{on}
use Rattle.machine_walk.proofs.MoveCases.{Drew, DrewNone, DrewOne, IsHeard}
use Rattle.machine_walk.proofs.Stories.{begun_copy}
use Rattle.machine_walk.proofs.Writers.{mine_on}
use Rattle.copied_bytes.proofs.Wholes.{IsWhole}
use Rattle.cluster_laws.proofs.Facts.{Bears}
use Rattle.file_rule.specs.FilePhases.{AsksLayout, OwnWrite, Recall, Returns, Revokes, OwnEnds, Resilver, Answers, TimesOut, Ticks, Sees}
use Rattle.copied_bytes.proofs.TargetCases.{both_wrong}
use Rattle.cluster_laws.proofs.Invariant.{IsReplyTo, IsCreated}
use Rattle.copied_bytes.proofs.SourceCarry.{owned_at}
use Rattle.copied_bytes.proofs.SourceSteps.{drew_whose, content_now, its_kind}
use Rattle.copied_bytes.proofs.TargetKinds.{Mades, AreSites, targets_kind, is_copies, copy_draws}
use Rattle.copied_bytes.proofs.WholeSwaps.{IsSwapWhole, CopiesAt, whole_kind}
use Rattle.copied_bytes.proofs.SourceCarry.{file_nows, file_owned, has_source}
use Rattle.copied_bytes.proofs.Sources.{IsShutNow}
use Rattle.copied_bytes.proofs.WholeSwaps.{IsNobodys}

drew_or : (t : Story) (m : Machine) (journal : List Entry) (n : ℕ) (s : FileStep) (then : Story) → Drew t m journal n s then → ((s.uids ≡ 0) × (s.names ≡ 0) × (then ≡ t)) ⊎ (s.uids ≡ 1)
drew_or t m journal n s then (DrewNone uids names) = inl (uids, names, refl)
drew_or t m journal n s then (DrewOne uids) = inr uids

not_copies : (t : Story) (uid names : ℕ) (packets : List PacketValue) (last : ℕ) (journal : List Entry) (n : ℕ) (a : Activity) → is_copies a ≡ false → KeepsTargets t uid names packets last journal n a
not_copies t uid names packets last journal n Idle e = tt
not_copies t uid names packets last journal n (Makes all) e = tt
not_copies t uid names packets last journal n (Fences fence) e = tt
not_copies t uid names packets last journal n (Settles stage) e = tt
not_copies t uid names packets last journal n (Copies c) e = absurd cc

module _ (t : Story) (m : Machine) (journal : List Entry) (at : IsMoment t m journal) (w : KnowsWriters t m journal) (p : KnowsSources t m journal) (q : KnowsTargets t m journal) (n : ℕ) (f : MdsFile) (input : FileInput) (then : Story) (by : IsStepBy t m journal n f input then) where
  abbrev y : FileStep
  y = phase (file_id n) f input (fresh_of m)

  abbrev uids : ℕ
  uids = m.next_uid + y.uids

  abbrev names : ℕ
  names = m.next_name + y.names

  abbrev later : List Entry
  later = journal ++ y.entries

  onward : IsOnward t m.next_uid m.next_name then
  onward = on t m journal at w n f input then by

  pub content_is : (id : MirrorId) → content_of later id ≡ content_of journal id
  content_is id = content_now t m journal at w p n f input then by id

  pub owner_is : (id : MirrorId) → owner_of later id ≡ owner_of journal id
  owner_is id = ap (λ (c : Copy). c.owner) (content_is id)

  put_then : (bytes : List ℕ) (id : MirrorId) (upto : ℕ) → IsPut bytes upto (content_of journal id).content → IsPut bytes upto (content_of later id).content
  put_then bytes id upto put = subst (λ (c : Copy). IsPut bytes upto c.content) (sym (content_is id)) put

  part_later : (id : MirrorId) (bytes : List ℕ) → t.copied (owner_of journal id) ≡ Some bytes → IsPart bytes (content_of later id).content
  part_later id bytes copy = subst (λ (c : Copy). IsPart bytes c.content) (sym (content_is id)) (q.parts id bytes (q.bound id) copy)

  parts_then : (id : MirrorId) (bytes : List ℕ) → then.copied (owner_of later id) ≡ Some bytes → IsPart bytes (content_of later id).content
  parts_then id bytes copy = part_later id bytes (sym (onward.copied (owner_of journal id) (q.bound id)) ∙ (sym (ap then.copied (owner_is id)) ∙ copy))

  piece_then : (user : ℕ) (call : DsCallValue) → IsWriteCall t m.next_uid journal user call → IsPieceFor t m.next_uid user call → IsPieceFor then uids user call
  piece_then user (Create name owner) known piece = λ bytes less. tt
  piece_then user (SetAttr fileid owner guard) known piece = λ bytes less. tt
  piece_then user (Write fileid pos synced data_) known piece = λ bytes less copy.
      elim (cases_lt user m.next_uid) [
        | inl old ↦ piece bytes old (sym (onward.copied user old) ∙ copy)
        | inr le ↦ absurd (past fileid pos synced data_ known le)
      ]
    where
      past : (a b : ℕ) (c : Bool) (d : List ℕ) → IsWriteCall t m.next_uid journal user (Write a b c d) → m.next_uid ≤ user → ⊥
      past a b c d (inl noted) le = both_wrong (was_granted journal user) (noter (λ u. was_granted journal u ≡ true) (the_write b d) user journal w.wrote noted) (not_drawn m.next_uid user journal at.periods.below le)
      past a b c d (inr k) le = let less = k.by.drawn in omega (arith, less, le)
  piece_then user (Commit fileid) known piece = λ bytes less. tt
  piece_then user (Read fileid pos count) known piece = λ bytes less. tt

  packet_then : (z : PacketValue) → IsKnownPacket t m.next_uid journal z → IsPiecePacket t m.next_uid z → IsPiecePacket then uids z
  packet_then (Call from i xid user gid call) known piece = piece_then user call known piece
  packet_then (Reply place i to xid reply) known piece = tt

  old_mine : (k u : ℕ) → u < m.next_uid → IsMine then.whose uids k u → IsMine t.whose m.next_uid k u
  old_mine k u less h = record { mine = sym (onward.whose u less) ∙ h.mine; drawn = less }

  site_then : (k by_ name : ℕ) → IsSiteOf t m.next_name k by_ name → IsSiteOf then names k by_ name
  site_then k by_ name h = let less = h.drawn in record { drawn = omega (arith, less); home = onward.home name h.drawn ∙ h.home; low = onward.low name h.drawn ∙ h.low }

  -- ---- a file whose uids are as they were

  goes_on_by : (k : ℕ) (a : Activity) (s : LayoutState) → HasUids t m.next_uid k s a → ((u : ℕ) → IsMine then.whose uids k u → IsMine t.whose m.next_uid k u) → KeepsTargets t m.next_uid m.next_name m.packets (m.last_xid Mds) journal k a
      → KeepsTargets then uids names m.packets (m.last_xid Mds) later k a
  goes_on_by k Idle s has only h = tt
  goes_on_by k (Makes all) s has only h = tt
  goes_on_by k (Fences fence) s has only h = tt
  goes_on_by k (Settles stage) s has only h = tt
  goes_on_by k (Copies c) s has only h = record {
    bytes = h.bytes;
    copy = onward.copied c.copier has.copier.mine.drawn ∙ h.copy;
    kept = targets_on t m.next_uid m.next_name then uids names k m.packets m.packets (m.last_xid Mds) (m.last_xid Mds) journal later h.bytes c only (λ name site. site_then k c.copier name site) (λ id upto owner put. put_then h.bytes id upto put) (λ xid server call o. o)
        (λ xid id owner put o. write_later m.packets (m.last_xid Mds) xid id.server (Write id.fileid c.at true c.piece) journal later h.bytes (c.at + length c.piece) id (put_then h.bytes id (c.at + length c.piece)) o)
        (own_all journal later c (λ z v made owner. owner_is v.id ∙ owner)) h.kept;
  }

  other_file : (k : ℕ) (g : MdsFile) → k ≢ n → numbered_at m.files k ≡ Some g → KeepsTargets then uids names m.packets (m.last_xid Mds) later k g.activity
  other_file k g other found = goes_on_by k g.activity g.layout (w.files k g found) only (q.files k g found)
    where
      only : (u : ℕ) → IsMine then.whose uids k u → IsMine t.whose m.next_uid k u
      only u mine =
          elim (cases_lt u m.next_uid) [
            | inl less ↦ old_mine k u less mine
            | inr le ↦ absurd (other (sym mine.mine ∙ drew_whose t m journal n y then by.drew u le mine.drawn))
          ]

  -- ---- what a CREATE leaves

  same_name : (a b c d : ℕ) → Create a b ≡ Create c d → a ≡ c
  same_name a b c d e = cc

  made_at : (number : ℕ) (bytes : List ℕ) (reply : DsReplyValue) (by_ : ℕ) → t.copied by_ ≡ Some bytes → HasReply m.packets number reply → (z : CopyTarget) (fileid : ℕ) (shown : Shown) → IsSiteOf t m.next_name n by_ z.name
      → IsOutSo m.packets (m.last_xid Mds) number z.server (Create z.name by_) (λ r. Unit {0}) → ((u : ℕ) → IsMine t.whose m.next_uid n u → u ≤ by_) → reply ≡ Created fileid shown
      → (owner_of later (at_server z.server fileid) ≡ by_) × IsPart bytes (content_of later (at_server z.server fileid)).content
  made_at number bytes reply by_ copy heard z fileid shown site asks newest is =
      let answer = (all_at (IsPacket (net_of m t.drawn)) m.packets heard.place (Reply heard.call heard.server Mds number reply) at.holds.packets heard.there).answer in
      let created : IsCreated m.servers heard.server answer.call fileid shown = subst (IsReplyTo m.servers heard.server answer.call) is answer.shows in
      let this = all_at (IsThisCall number z.server (Create z.name by_)) m.packets answer.sent.place _ asks.calls answer.sent.there refl in
      let name : created.name ≡ z.name = same_name created.name created.owner z.name by_ (sym created.asked ∙ this.1) in
      let bears : Bears m.servers (at_server z.server fileid) z.name = subst (λ (k : ℕ). Bears m.servers (at_server k fileid) z.name) this.0 (subst (λ (k : ℕ). Bears m.servers (at_server heard.server fileid) k) name created.bears) in
      let id : MirrorId = at_server z.server fileid in
      let owned = owned_at t m journal at.holds p.owners id z.name n bears site.drawn site.home in
      let least = owner_told m journal t.drawn at.holds id (t.drawn.low z.name) ((known_now m journal t.drawn at.holds).lowest id z.name bears site.drawn) in
      let most = newest (owner_of journal id) owned.mine in
      let low = site.low in
      let owner : owner_of journal id ≡ by_ = omega (arith, least, most, low) in
      (owner_is id ∙ owner, part_later id bytes (ap t.copied owner ∙ copy))

  pub made_by : (i : FileInput) → i ≡ input → (bytes : List ℕ) (by_ : ℕ) → t.copied by_ ≡ Some bytes → IsMadeThen t m.next_uid m.next_name m.packets (m.last_xid Mds) later n bytes i by_
  made_by (Answers number reply) is bytes by_ copy = λ z fileid shown site asks newest e. made_at number bytes reply by_ copy (subst (IsHeard m.packets) (sym is) by.heard) z fileid shown site asks newest e
  made_by (AsksLayout client) is bytes by_ copy = tt
  made_by (OwnWrite pos data_) is bytes by_ copy = tt
  made_by Recall is bytes by_ copy = tt
  made_by (Returns client claimed places) is bytes by_ copy = tt
  made_by (Revokes cause) is bytes by_ copy = tt
  made_by (OwnEnds causes pos data_) is bytes by_ copy = tt
  made_by Resilver is bytes by_ copy = tt
  made_by (TimesOut number) is bytes by_ copy = tt
  made_by Ticks is bytes by_ copy = tt
  made_by (Sees id seen) is bytes by_ copy = tt

  -- ---- this file

  there_then : numbered_at (after_step m n y).files n ≡ Some y.file
  there_then = put_same m.files n f y.file by.there

  sites_by : (a : Activity) → y.file.activity ≡ a → AreSites n m.next_name (length m.servers) input then m.next_uid uids names m.packets (m.last_xid Mds) journal later by.heard a
  sites_by Idle is = tt
  sites_by (Makes all) is = tt
  sites_by (Fences fence) is = tt
  sites_by (Settles stage) is = tt
  sites_by (Copies c) is =
      let h = subst (λ (a : Activity). IsFile (net_of (after_step m n y) then.drawn) later n (record { layout = y.file.layout; activity = a })) is (by.holds.files n y.file there_then) in
      all_more (IsTargetOf (net_of (after_step m n y) then.drawn) n c.copier c.at c.piece) (λ (z : CopyTarget). IsSiteOf then names n c.copier z.name) c.targets (λ z k. record { drawn = k.drawn; home = k.home; low = k.low }) h.busy.targets

  new_copied : y.uids ≡ 1 → then.copied m.next_uid ≡ begun_copy journal n y.file.activity
  new_copied one = (drew_new t m journal n y then by.drew one).copied

  counted : y.uids ≡ 1 → uids ≡ m.next_uid + 1
  counted one = omega (arith, one)

  -- where nothing was drawn
  module _ (none : y.uids ≡ 0) (no_names : y.names ≡ 0) (same : then ≡ t) where
    only_own : (u : ℕ) → IsMine then.whose uids n u → IsMine t.whose m.next_uid n u
    only_own u mine = let less = mine.drawn in old_mine n u (omega (arith, less, none)) mine

    lifted : (i : FileInput) (bytes : List ℕ) (by_ : ℕ) → IsMadeThen t m.next_uid m.next_name m.packets (m.last_xid Mds) later n bytes i by_ → IsMadeThen then uids names m.packets (m.last_xid Mds) later n bytes i by_
    lifted (Answers number reply) bytes by_ h = λ z fileid shown site asks newest e.
        let drawn = site.drawn in
        let less : z.name < m.next_name = omega (arith, drawn, no_names) in
        h z fileid shown (record { drawn = less; home = sym (onward.home z.name less) ∙ site.home; low = sym (onward.low z.name less) ∙ site.low }) asks (λ u mine. newest u (mine_on t m.next_uid m.next_name then uids onward (omega arith) n u mine)) e
    lifted (AsksLayout client) bytes by_ h = tt
    lifted (OwnWrite pos data_) bytes by_ h = tt
    lifted Recall bytes by_ h = tt
    lifted (Returns client claimed places) bytes by_ h = tt
    lifted (Revokes cause) bytes by_ h = tt
    lifted (OwnEnds causes pos data_) bytes by_ h = tt
    lifted Resilver bytes by_ h = tt
    lifted (TimesOut number) bytes by_ h = tt
    lifted Ticks bytes by_ h = tt
    lifted (Sees id seen) bytes by_ h = tt

    mades : (a : Activity) → Mades n m.next_name (length m.servers) input then m.next_uid uids names m.packets (m.last_xid Mds) journal later by.heard a
    mades Idle = tt
    mades (Makes all) = tt
    mades (Fences fence) = tt
    mades (Settles stage) = tt
    mades (Copies c) = λ bytes by_ copy. lifted input bytes by_ (made_by input refl bytes by_ (subst (λ (z : Story). z.copied by_ ≡ Some bytes) same copy))

    own_quiet : KeepsTargets then uids names m.packets (m.last_xid Mds) later n y.file.activity
    own_quiet =
        targets_kind n m.next_name (length m.servers) input then m.next_uid uids names m.packets (m.last_xid Mds) journal later by.heard (its_kind t m journal at w p n f input then by) (mades f.activity)
        (goes_on_by n f.activity f.layout (w.files n f by.there) only_own (q.files n f by.there)) (λ one. new_copied one) counted (sites_by y.file.activity refl)

  drawn_by : y.uids ≡ 1 → {a : Activity} → f.activity ≡ a → Mades n m.next_name (length m.servers) input then m.next_uid uids names m.packets (m.last_xid Mds) journal later by.heard a → KeepsTargets then uids names m.packets (m.last_xid Mds) later n a → KeepsTargets then uids names m.packets (m.last_xid Mds) later n y.file.activity
  drawn_by one {a} is made kept =
      targets_kind n m.next_name (length m.servers) input then m.next_uid uids names m.packets (m.last_xid Mds) journal later by.heard (subst (λ (b : Activity). StepKind n (fresh_of m) input f.layout b y) is (its_kind t m journal at w p n f input then by)) made kept (λ k. new_copied k) counted (sites_by y.file.activity refl)

  own_drawn : y.uids ≡ 1 → (a : Activity) → f.activity ≡ a → KeepsTargets then uids names m.packets (m.last_xid Mds) later n y.file.activity
  own_drawn one Idle is = drawn_by one is tt tt
  own_drawn one (Makes all) is = drawn_by one is tt tt
  own_drawn one (Fences fence) is = drawn_by one is tt tt
  own_drawn one (Settles stage) is = drawn_by one is tt tt
  own_drawn one (Copies c) is = not_copies then uids names m.packets (m.last_xid Mds) later n y.file.activity (copy_draws n (fresh_of m) input (its_kind t m journal at w p n f input then by) (ap is_copies is) one)

  own_file : ((y.uids ≡ 0) × (y.names ≡ 0) × (then ≡ t)) ⊎ (y.uids ≡ 1) → KeepsTargets then uids names m.packets (m.last_xid Mds) later n y.file.activity
  own_file (inl h) = own_quiet h.0 h.1 h.2
  own_file (inr one) = own_drawn one f.activity refl

  pub stepped_targets : KnowsTargets then (after_step m n y) later
  stepped_targets = record {
    bound = λ id. (let same = owner_is id in let less = q.bound id in omega (arith, same, less));
    parts = λ id bytes less copy. parts_then id bytes copy;
    pieces = all_both (IsKnownPacket t m.next_uid journal) (IsPiecePacket t m.next_uid) (IsPiecePacket then uids) m.packets packet_then w.packets q.pieces;
    files = files_set (λ k g. KeepsTargets then uids names m.packets (m.last_xid Mds) later k g.activity) m.files n f y.file by.there (own_file (drew_or t m journal n y then by.drew)) other_file;
  }

  -- ---- swaps

  copies_later : (c : CopyState) (ids : List MirrorId) → CopiesSo t m.packets (m.last_xid Mds) journal c ids → CopiesSo t m.packets (m.last_xid Mds) later c ids
  copies_later c [] h = h
  copies_later c (id ∷ ids) h = record { from = h.from; bytes = h.bytes; copy = h.copy; whole = subst (λ (k : Copy). IsWhole h.bytes k.content) (sym (content_is id)) h.whole; slice = h.slice; over = h.over; reads = h.reads; replaced = h.replaced }

  targets_later : (c : CopyState) → CopiesTargets t m.next_uid m.next_name m.packets (m.last_xid Mds) journal n c → CopiesTargets t m.next_uid m.next_name m.packets (m.last_xid Mds) later n c
  targets_later c h = record {
    bytes = h.bytes;
    copy = h.copy;
    kept = targets_on t m.next_uid m.next_name t m.next_uid m.next_name n m.packets m.packets (m.last_xid Mds) (m.last_xid Mds) journal later h.bytes c (λ u mine. mine) (λ name site. site) (λ id upto owner put. put_then h.bytes id upto put) (λ xid server call o. o)
        (λ xid id owner put o. write_later m.packets (m.last_xid Mds) xid id.server (Write id.fileid c.at true c.piece) journal later h.bytes (c.at + length c.piece) id (put_then h.bytes id (c.at + length c.piece)) o)
        (own_all journal later c (λ z v made owner. owner_is v.id ∙ owner)) h.kept;
  }

  pub copies_at : (a : Activity) → f.activity ≡ a → CopiesAt n (fresh_of m) input t m.next_uid m.next_name m.packets (m.last_xid Mds) later by.heard (λ bytes by_ copy. made_by input refl bytes by_ copy) (λ id. (let same = owner_is id in let less = q.bound id in omega (arith, same, less))) journal f.layout a
  copies_at Idle is = tt
  copies_at (Makes all) is = tt
  copies_at (Fences fence) is = tt
  copies_at (Settles stage) is = tt
  copies_at (Copies c) is =
      let h = subst (λ (a : Activity). IsFile (net_of m t.drawn) journal n (record { layout = f.layout; activity = a })) is (at.holds.files n f by.there) in (
        copies_later c (ids_of f.layout.live) (subst (λ (a : Activity). IsBusySo t m.next_uid m.packets (m.last_xid Mds) journal n f.layout a) is (p.files n f by.there).busy),
        h.live ∙ ap (λ z. live_of z (ids_of f.layout.live)) h.busy.phase,
        targets_later c (subst (λ (a : Activity). KeepsTargets t m.next_uid m.next_name m.packets (m.last_xid Mds) journal n a) is (q.files n f by.there)),
        all_more (IsShutNow t journal) (IsNobodys journal) (ids_of f.layout.live) (λ id z. z.unused) (file_nows t m journal n f (at.holds.files n f by.there) (file_owned t m journal at.holds p.owners n f by.there) (p.files n f by.there).shut (ap has_source is)),
        w.copiers,
      )

  pub stepped_whole : AreEach (IsSwapWhole t m.next_uid) journal y.entries
  stepped_whole = whole_kind n (fresh_of m) input t m.next_uid m.next_name m.packets (m.last_xid Mds) later by.heard (λ bytes by_ copy. made_by input refl bytes by_ copy) (λ id. (let same = owner_is id in let less = q.bound id in omega (arith, same, less))) (its_kind t m journal at w p n f input then by) journal (λ id. sym (content_is id)) (copies_at f.activity refl)
