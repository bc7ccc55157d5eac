-- The targets of a copy are made and written to, and any of them may fail; so may the source.
use Rattle.std.proofs.Common.{◌≡◌, ℕ, ◌+◌, Bool, true, false, ltb, cond, not, List, [], ◌∷◌, ◌++◌, map, Option, Some, None, refl, sym, ap, subst, ◌∙◌}
use Rattle.std.specs.Prelude.{slice_get}
use Rattle.std.proofs.lemmas.Bool.{cond_both}
use Rattle.std.proofs.lemmas.Option.{same_Some}
use Rattle.cluster_model.specs.declared.ids.NodeId.TheVariants.{Mds}
use Rattle.cluster_model.specs.declared.tick.Tick.{Tick}
use Rattle.cluster_model.specs.declared.ids.MirrorId.{MirrorId}
use Rattle.cluster_model.specs.declared.ids.Mirror.{Mirror}
use Rattle.cluster_model.specs.declared.phase.LeftCause.{LeftCause}
use Rattle.cluster_model.specs.declared.phase.LeftCause.TheVariants.{Error, Timeouts}
use Rattle.cluster_model.specs.declared.entry.Entry.{Entry}
use Rattle.cluster_model.specs.declared.entry.Entry.TheVariants as entry
use Rattle.cluster_model.specs.declared.ds_call.Shown.{Shown}
use Rattle.cluster_model.specs.declared.call_stage.CallStage.{CallStage}
use Rattle.cluster_model.specs.declared.call_stage.CallStage.TheVariants.{Waits, Out, KeptOut, KeptBack, Done, GivenUp}
use Rattle.cluster_model.specs.declared.layout_state.LayoutState.{LayoutState}
use Rattle.cluster_model.specs.declared.layout_state.LayoutPhase.TheVariants.{Settling, Copying}
use Rattle.cluster_model.specs.DsCalls.{DsCallValue, Create, DsReplyValue, Created, Set, Written, Committed, Bytes, NotSync, Failed}
use Rattle.cluster_model.specs.Fences.{is_out, odd_status}
use Rattle.cluster_model.specs.Phases.{ids_of, but_for, is_last_live, is_source, phase_without, after_loss}
use Rattle.copy_rule.specs.Copies.{CopyState, at_stage, having_made, seen_then, having_written, TargetStep, goes_on_with, target_fails, create_answered, write_answered, target_answered, target_late, to_write, with_target, with_read, with_piece, has_outcome, goes_on, CopyAfter, step_told, stranger, source_fails, is_long, copy_then, read_answered, read_late, target_of, stepped, step_at, step_from, by_read, on_reply, on_timeout, target_call}
use Rattle.copy_rule.specs.declared.copy_target.CopyTarget.{CopyTarget}
use Rattle.copy_rule.specs.declared.copy_target.CopyStep.{CopyStep}
use Rattle.copy_rule.specs.declared.copy_target.CopyStep.TheVariants.{Stranger, Waiting, SourceFailed, TargetFailed, Done as AllHold}
use Rattle.file_rule.specs.MdsFiles.{Settles, Copies, FileStep, stays, source_left, with_entries, target_left, copy_stepped}
use Rattle.file_rule.specs.declared.fresh.Fresh.{Fresh}
use Rattle.cluster_laws.specs.Machine.{file_id}
use Rattle.cluster_laws.proofs.Facts.{Bears, HasGiven}
use Rattle.cluster_laws.proofs.Lists.{all_append, all_more, all_at, found_at}
use Rattle.cluster_laws.proofs.Invariant.{Net, at_server, IsThisCall, IsGiven, IsReplyTo, IsAnswer, IsFencedTo, IsTargetOf, IsNotSource, site_of, live_of, IsFile}
use Rattle.cluster_laws.proofs.Plans.{plan_more, none_left, sites_written}
use Rattle.cluster_laws.proofs.Lives.{itself, all_map}
use Rattle.cluster_laws.proofs.FenceSteps.{nothing_new, behind_left}
use Rattle.cluster_laws.proofs.CopySteps.{loses, StepOk, Plain, Draws}
use Rattle.cluster_laws.proofs.Recopied.{recopied, put_target, goes_on_ok, to_write_ok, same_replaced, short_by}
use Rattle.cluster_laws.proofs.Known.{Known, fresh_from}
use Rattle.cluster_laws.proofs.FenceDone.{exact_on}
use Rattle.cluster_laws.proofs.Draws.{drawn_net}
use Rattle.cluster_laws.proofs.Swaps.{copied_on_ok}

-- ---- a mirror leaves that is not the source

stays_source : (a b : MirrorId) (live : List Mirror) → is_source a live ≡ false → is_source b live ≡ false → is_source b (but_for a live) ≡ false
stays_source a b [] ha hb = refl
stays_source a b (m ∷ live) ha hb = ap (λ (t : Bool). is_source b (cond (not t) (m ∷ but_for a live) (but_for a live))) ha ∙ hb

still_not : (id : MirrorId) (live : List Mirror) (replaced : Option MirrorId) → is_source id live ≡ false → IsNotSource live replaced → IsNotSource (but_for id live) replaced
still_not id live None h k = tt
still_not id live (Some x) h k = stays_source id x live h k

-- ---- one target

-- what a step of it may tell
abbrev pub Fits : CopyTarget → CopyStep → Type 0
Fits t Stranger = ⊥
Fits t Waiting = Unit {0}
Fits t (SourceFailed cause) = ⊥
Fits t (TargetFailed server replaced cause) = replaced ≡ t.replaced
Fits t AllHold = ⊥

pub record IsStepOf (net : Net) (n copier at : ℕ) (piece : List ℕ) (t : CopyTarget) (x : TargetStep) : Type 0 where
  pub target : IsTargetOf net n copier at piece x.target
  pub same : x.target.replaced ≡ t.replaced
  pub on : x.target.server ≡ t.server
  pub fits : Fits t x.step

module _ (net : Net) (n copier at : ℕ) (piece : List ℕ) (t : CopyTarget) (h : IsTargetOf net n copier at piece t) where
  abbrev Ok : TargetStep → Type 0
  Ok x = IsStepOf net n copier at piece t x

  failed_ok : (cause : LeftCause) → Ok (target_fails t cause)
  failed_ok cause = record { target = record { drawn = h.drawn; home = h.home; low = h.low; out = λ xid is. absurd cc; made = λ m is. absurd cc }; same = refl; on = refl; fits = refl }

  -- its call is at another stage
  staged_ok : (stage : CallStage) → ((xid : ℕ) → is_out xid stage ≡ true → is_out xid t.stage ≡ true) → Ok (goes_on_with (at_stage t stage))
  staged_ok stage outs = record { target = record { drawn = h.drawn; home = h.home; low = h.low; out = λ xid is. h.out xid (outs xid is); made = h.made }; same = refl; on = refl; fits = tt }

  same_ok : Ok (goes_on_with t)
  same_ok = record { target = h; same = refl; on = refl; fits = tt }

  was_made : (fileid : ℕ) (seen : Tick) → Bears net.servers (at_server t.server fileid) t.name → HasGiven net.servers t.server seen → Ok (goes_on_with (having_made t fileid seen))
  was_made fileid seen bears given = record {
    target = record {
      drawn = h.drawn;
      home = h.home;
      low = h.low;
      out = λ xid is. absurd cc;
      made = λ m is.
          let made_is : record { id = record { server = t.server; fileid = fileid }; seen = seen } ≡ m = same_Some _ m is in
          subst (λ (x : Mirror). (x.id.server ≡ t.server) × Bears net.servers x.id t.name × HasGiven net.servers x.id.server x.seen) made_is (refl, bears, given);
    };
    same = refl;
    on = refl;
    fits = tt;
  }

  -- the ctime that an answer to a WRITE shows was given
  made_then : (made : Option Mirror) (shown : Option Shown) → ((m : Mirror) → made ≡ Some m → (m.id.server ≡ t.server) × Bears net.servers m.id t.name × HasGiven net.servers m.id.server m.seen) → IsGiven net.servers t.server shown
      → (m : Mirror) → seen_then made shown ≡ Some m → (m.id.server ≡ t.server) × Bears net.servers m.id t.name × HasGiven net.servers m.id.server m.seen
  made_then None shown old given m is = absurd cc
  made_then (Some x) None old given m is = old m is
  made_then (Some x) (Some shown) old given m is =
      let was = old x refl in
      subst (λ (y : Mirror). (y.id.server ≡ t.server) × Bears net.servers y.id t.name × HasGiven net.servers y.id.server y.seen) (same_Some _ m is) (was.0, was.1, subst (λ (k : ℕ). HasGiven net.servers k shown.seen) (sym was.0) given)

  was_written : (shown : Option Shown) → IsGiven net.servers t.server shown → Ok (goes_on_with (having_written t shown))
  was_written shown given = record {
    target = record { drawn = h.drawn; home = h.home; low = h.low; out = λ xid is. absurd cc; made = made_then t.made shown h.made given };
    same = refl;
    on = refl;
    fits = tt;
  }

  create_ok : (call : DsCallValue) (reply : DsReplyValue) → call ≡ Create t.name copier → IsReplyTo net.servers t.server call reply → Ok (create_answered t reply)
  create_ok call (Created fileid shown) is k =
      was_made fileid shown.seen (subst (λ (name : ℕ). Bears net.servers (at_server t.server fileid) name) (same_name k.name k.owner (sym k.asked ∙ is)) k.bears) k.given
    where
      same_name : (a b : ℕ) → Create a b ≡ Create t.name copier → a ≡ t.name
      same_name a b e = cc
  create_ok call (Set shown) is k = failed_ok (Error odd_status)
  create_ok call (Written shown verifier) is k = failed_ok (Error odd_status)
  create_ok call (Committed shown verifier) is k = failed_ok (Error odd_status)
  create_ok call (Bytes shown eof bytes) is k = failed_ok (Error odd_status)
  create_ok call (NotSync shown) is k = failed_ok (Error odd_status)
  create_ok call (Failed status shown) is k = failed_ok (Error status)

  write_ok : (call : DsCallValue) (reply : DsReplyValue) → IsReplyTo net.servers t.server call reply → Ok (write_answered t reply)
  write_ok call (Created fileid shown) k = failed_ok (Error odd_status)
  write_ok call (Set shown) k = failed_ok (Error odd_status)
  write_ok call (Written shown verifier) k = was_written shown k
  write_ok call (Committed shown verifier) k = failed_ok (Error odd_status)
  write_ok call (Bytes shown eof bytes) k = failed_ok (Error odd_status)
  write_ok call (NotSync shown) k = failed_ok (Error odd_status)
  write_ok call (Failed status shown) k = failed_ok (Error status)

  pub answered_ok : (xid server : ℕ) (reply : DsReplyValue) → is_out xid t.stage ≡ true → IsAnswer net.packets net.servers server Mds xid reply → Ok (target_answered t reply t.made)
  answered_ok xid server reply out a =
      let this = all_at (IsThisCall xid t.server (target_call copier at piece t.name t.made)) net.packets a.sent.place _ (h.out xid out).1 a.sent.there refl in
      by_made t.made a.call this.1 (subst (λ (k : ℕ). IsReplyTo net.servers k a.call reply) this.0 a.shows)
    where
      by_made : (made : Option Mirror) (call : DsCallValue) → call ≡ target_call copier at piece t.name made → IsReplyTo net.servers t.server call reply → Ok (target_answered t reply made)
      by_made None call is k = create_ok call reply is k
      by_made (Some m) call is k = write_ok call reply k

  pub late_ok : Ok (target_late t t.stage)
  late_ok = by_stage t.stage refl
    where
      by_stage : (stage : CallStage) → t.stage ≡ stage → Ok (target_late t stage)
      by_stage Waits is = same_ok
      by_stage (Out xid timeouts) is =
          cond_both (ltb (timeouts + 1) 3) (goes_on_with (at_stage t (Out xid (timeouts + 1)))) (target_fails t Timeouts) Ok
          (λ e. staged_ok (Out xid (timeouts + 1)) (λ x o. ap (is_out x) is ∙ o)) (λ e. failed_ok Timeouts)
      by_stage (KeptOut xid) is = same_ok
      by_stage KeptBack is = same_ok
      by_stage Done is = same_ok
      by_stage GivenUp is = same_ok

-- ---- a step behind the entry of a mirror that leaves

after_left : (net : Net) (journal : List Entry) (n next_uid : ℕ) (id : MirrorId) (cause : LeftCause) (x : FileStep) → StepOk net (journal ++ entry.Left (file_id n) id cause ∷ []) n next_uid x → StepOk net journal n next_uid (with_entries (entry.Left (file_id n) id cause ∷ []) x)
after_left net journal n next_uid id cause x (Plain uids names row) = Plain uids names (behind_left net journal n next_uid x.file id cause x.entries row)
after_left net journal n next_uid id cause x (Draws uids row) = Draws uids (behind_left (drawn_net net n next_uid x.names) journal n (next_uid + 1) x.file id cause x.entries row)

known_left : (net : Net) (n next_uid files : ℕ) (journal : List Entry) (id : MirrorId) (cause : LeftCause) → Known net next_uid files journal → Known net next_uid files (journal ++ entry.Left (file_id n) id cause ∷ [])
known_left net n next_uid files journal id cause k = record {
  same = k.same;
  tops = k.tops;
  entries = all_append _ journal (entry.Left (file_id n) id cause ∷ []) k.entries (record { fence = tt; freed = tt }, tt);
  exact = exact_on net journal (entry.Left (file_id n) id cause ∷ []) (λ m c. refl, tt) k.exact;
  lowest = k.lowest;
}

-- ---- the copy

module _ (net : Net) (n next_uid files servers : ℕ) (journal : List Entry) (known : Known net next_uid files journal) (s : LayoutState) where
  abbrev Right : FileStep → Type 0
  Right x = StepOk net journal n next_uid x

  abbrev fresh : Fresh
  fresh = fresh_from net next_uid servers

  module _ (d : CopyState) (h : IsFile net journal n (record { layout = s; activity = Copies d })) where
    live_copying : live_of s.phase (ids_of s.live) ≡ Some (ids_of s.live)
    live_copying = ap (λ p. live_of p (ids_of s.live)) h.busy.phase

    same_copy : Right (stays s (Copies d))
    same_copy = Plain refl refl (nothing_new net journal n next_uid _ h)

    -- the mirror that a target was to replace leaves
    thrown : (replaced : Option MirrorId) (cause : LeftCause) → IsNotSource s.live replaced → Right (target_left (file_id n) s d fresh cause replaced)
    thrown None cause not_source = copied_on_ok net n next_uid files servers journal known s d h
    thrown (Some id) cause not_source =
        let e : Entry = entry.Left (file_id n) id cause in
        let phase : phase_without s.phase (is_source id s.live) ≡ Copying h.busy.copier h.busy.copies = ap (λ p. phase_without p (is_source id s.live)) h.busy.phase ∙ ap (λ b. phase_without (Copying h.busy.copier h.busy.copies) b) not_source in
        let row = loses net n next_uid journal s (Copies d) (Copies d) id cause h live_copying (ap (λ p. live_of p (ids_of (but_for id s.live))) phase)
        (record {
          copier = h.busy.copier;
          copies = h.busy.copies;
          phase = phase;
          targets = h.busy.targets;
          later = h.busy.later;
          top = h.busy.top;
          fences = all_append (IsFencedTo n d.copier) journal (e ∷ []) h.busy.fences (tt, tt);
          sources = all_more (λ t. IsNotSource s.live t.replaced) (λ t. IsNotSource (but_for id s.live) t.replaced) d.targets (λ t k. still_not id s.live t.replaced not_source k) h.busy.sources;
          plan = plan_more s.live (but_for id s.live) (none_left id s.live) (map site_of d.targets) h.busy.plan;
          source = h.busy.source;
          short = h.busy.short;
        }) in
        after_left net journal n next_uid id cause _ (copied_on_ok net n next_uid files servers (journal ++ e ∷ []) (known_left net n next_uid files journal id cause known) (after_loss s id) d row.file)

    -- the source fails: it leaves, where it is not the last mirror
    source_gone : (live : List Mirror) → s.live ≡ live → (cause : LeftCause) → Right (source_left (file_id n) s live cause (Copies d))
    source_gone [] is cause = same_copy
    source_gone (m ∷ live) is cause =
        let first : is_source m.id s.live ≡ true = ap (is_source m.id) is ∙ itself m.id in
        let phase : phase_without s.phase (is_source m.id s.live) ≡ Settling h.busy.copies = ap (λ p. phase_without p (is_source m.id s.live)) h.busy.phase ∙ ap (λ b. phase_without (Copying h.busy.copier h.busy.copies) b) first in
        cond_both (is_last_live s.live) (stays s (Copies d)) (record { file = record { layout = after_loss s m.id; activity = Settles Waits }; entries = entry.Left (file_id n) m.id cause ∷ []; uids = 0; names = 0 }) Right
        (λ w. same_copy)
        (λ w. Plain refl refl (loses net n next_uid journal s (Copies d) (Settles Waits) m.id cause h live_copying (ap (λ p. live_of p (ids_of (but_for m.id s.live))) phase) (record { copies = h.busy.copies; phase = phase })))

    -- a step that lost no target
    waited : Right (copy_stepped (file_id n) s (goes_on d) fresh (cond (has_outcome d) AllHold Waiting))
    waited =
        cond_both (has_outcome d) AllHold Waiting (λ (step : CopyStep). Right (copy_stepped (file_id n) s (goes_on d) fresh step))
        (λ e. copied_on_ok net n next_uid files servers journal known s (goes_on d) (goes_on_ok net n journal s d h))
        (λ e. Plain refl refl (nothing_new net journal n next_uid _ (goes_on_ok net n journal s d h)))

  module _ (c : CopyState) (h : IsFile net journal n (record { layout = s; activity = Copies c })) where
    abbrev RightAfter : CopyAfter → Type 0
    RightAfter x = Right (copy_stepped (file_id n) s x.copy fresh x.step)

    no_call : RightAfter (stranger c)
    no_call = same_copy c h

    -- ---- a target

    stepped_ok : (place : ℕ) (t : CopyTarget) → slice_get c.targets place ≡ Some t → (x : TargetStep) → IsStepOf net n c.copier c.at c.piece t x → RightAfter (stepped c place x)
    stepped_ok place t there x ok = by_step x.step ok.fits
      where
        by_step : (step : CopyStep) → Fits t step → Right (copy_stepped (file_id n) s (goes_on (with_target c place x.target)) fresh (step_told (with_target c place x.target) step))
        by_step Stranger fits = absurd fits
        by_step Waiting fits = waited (with_target c place x.target) (put_target net n journal s c h place t x.target there ok.on ok.same ok.target)
        by_step (SourceFailed cause) fits = absurd fits
        by_step (TargetFailed server replaced cause) fits =
            let file = put_target net n journal s c h place t x.target there ok.on ok.same ok.target in
            thrown (goes_on (with_target c place x.target)) (goes_on_ok net n journal s (with_target c place x.target) file) replaced cause (subst (IsNotSource s.live) (sym fits) (all_at (λ y. IsNotSource s.live y.replaced) c.targets place t h.busy.sources there))
        by_step AllHold fits = absurd fits

    -- the target whose call has this number, or the READ
    by_xid : (xid : ℕ) (step : CopyTarget → TargetStep) → ((t : CopyTarget) → IsTargetOf net n c.copier c.at c.piece t → is_out xid t.stage ≡ true → IsStepOf net n c.copier c.at c.piece t (step t))
        → (reads : CopyAfter) → RightAfter reads → RightAfter (step_from c step (by_read c xid reads) (target_of c xid))
    by_xid xid step ok reads read_ok = by_found (target_of c xid) refl
      where
        by_found : (found : Option ℕ) → target_of c xid ≡ found → RightAfter (step_from c step (by_read c xid reads) found)
        by_found None is = cond_both (is_out xid c.read) reads (stranger c) RightAfter (λ e. read_ok) (λ e. no_call)
        by_found (Some place) is =
            let t = found_at (λ (x : CopyTarget). is_out xid x.stage) c.targets place is in
            subst (λ (got : Option CopyTarget). RightAfter (step_at c step place got)) (sym t.1)
            (stepped_ok place t.0 t.1 (step t.0) (ok t.0 (all_at (IsTargetOf net n c.copier c.at c.piece) c.targets place t.0 h.busy.targets t.1) t.2))

    -- ---- the source

    kept_read : (read : CallStage) → IsFile net journal n (record { layout = s; activity = Copies (with_read c read) })
    kept_read read = recopied net n journal s c h c.at c.piece c.ended read c.targets h.busy.targets h.busy.sources refl h.busy.short

    failed_read : (kept : CallStage) (cause : LeftCause) → RightAfter (source_fails c kept cause)
    failed_read kept cause = source_gone (with_read c kept) (kept_read kept) s.live refl cause

    read_ok : (reply : DsReplyValue) → RightAfter (read_answered c reply)
    read_ok (Created fileid shown) = failed_read KeptBack (Error odd_status)
    read_ok (Set shown) = failed_read KeptBack (Error odd_status)
    read_ok (Written shown verifier) = failed_read KeptBack (Error odd_status)
    read_ok (Committed shown verifier) = failed_read KeptBack (Error odd_status)
    read_ok (Bytes shown eof bytes) =
        cond_both (is_long c bytes) (source_fails c KeptBack (Error odd_status)) (copy_then (with_piece c eof bytes) Waiting) RightAfter (λ e. failed_read KeptBack (Error odd_status)) (λ e.
        waited (with_piece c eof bytes)
        (recopied net n journal s c h c.at bytes eof Done (map (to_write bytes) c.targets)
        (all_map (IsTargetOf net n c.copier c.at c.piece) (IsTargetOf net n c.copier c.at bytes) (to_write bytes) c.targets (to_write_ok net n c.copier c.at c.piece c.at bytes) h.busy.targets)
        (all_map (λ t. IsNotSource s.live t.replaced) (λ t. IsNotSource s.live t.replaced) (to_write bytes) c.targets (λ t k. same_replaced bytes (IsNotSource s.live) t k) h.busy.sources) (sites_written bytes c.targets) (short_by c bytes e)))
    read_ok (NotSync shown) = failed_read KeptBack (Error odd_status)
    read_ok (Failed status shown) = failed_read KeptBack (Error status)

    read_late_ok : (stage : CallStage) → RightAfter (read_late c stage)
    read_late_ok Waits = no_call
    read_late_ok (Out xid timeouts) =
        cond_both (ltb (timeouts + 1) 3) (record { copy = with_read c (Out xid (timeouts + 1)); step = Waiting }) (source_fails c (KeptOut xid) Timeouts) RightAfter
        (λ e. Plain refl refl (nothing_new net journal n next_uid _ (kept_read (Out xid (timeouts + 1))))) (λ e. failed_read (KeptOut xid) Timeouts)
    read_late_ok (KeptOut xid) = no_call
    read_late_ok KeptBack = no_call
    read_late_ok Done = no_call
    read_late_ok GivenUp = no_call

    -- ---- answers and timeouts

    pub copy_answer : (xid server : ℕ) (reply : DsReplyValue) → IsAnswer net.packets net.servers server Mds xid reply → RightAfter (on_reply c xid reply)
    copy_answer xid server reply a =
        by_xid xid (λ t. target_answered t reply t.made) (λ t ok out. answered_ok net n c.copier c.at c.piece t ok xid server reply out a) (read_answered c reply) (read_ok reply)

    pub copy_timeout : (xid : ℕ) → RightAfter (on_timeout c xid)
    copy_timeout xid = by_xid xid (λ t. target_late t t.stage) (λ t ok out. late_ok net n c.copier c.at c.piece t ok) (read_late c c.read) (read_late_ok c.read)
