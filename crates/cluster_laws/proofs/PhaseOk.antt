-- Every step of the table of phases keeps what holds of its file.
use Rattle.std.proofs.Common.{◌≡◌, ℕ, true, List, [], ◌∷◌, Option, Some, None, refl, sym, ap, subst}
use Rattle.std.proofs.lemmas.Bool.{cond_both, and_parts, eqb-true}
use Rattle.cluster_model.specs.declared.ids.NodeId.TheVariants.{Mds}
use Rattle.cluster_model.specs.declared.ids.Mirror.{Mirror}
use Rattle.cluster_model.specs.declared.ds_call.Shown.{Shown}
use Rattle.cluster_model.specs.declared.call_stage.CallStage.{CallStage}
use Rattle.cluster_model.specs.declared.entry.Entry.{Entry}
use Rattle.cluster_model.specs.declared.layout_state.LayoutState.{LayoutState}
use Rattle.cluster_model.specs.declared.layout_state.CopyKind.{CopyKind}
use Rattle.cluster_model.specs.Server.{ServerState}
use Rattle.cluster_model.specs.DsCalls.{DsCallValue, DsReplyValue, Created, Set, Written, Committed, Bytes, NotSync, Failed}
use Rattle.cluster_model.specs.Fences.{is_out, on_reply, on_timeout, outstanding_at}
use Rattle.file_rule.specs.MdsFiles.{Activity, Idle, Makes, Fences, Settles, Copies, MdsFile, FileStep, nothing, seen_by, shown_by_set, mirror_at, creation_of, creation_answered, creation_timed_out, shown_by_commit, seen_at_source, settling_answered, settling_timed_out}
use Rattle.file_rule.specs.declared.fresh.Fresh.{Fresh}
use Rattle.file_rule.specs.FilePhases.{FileInput, AsksLayout, OwnWrite, Recall, Returns, Revokes, OwnEnds, Resilver, Answers, TimesOut, Ticks, Sees, kind_of, settles_by, answered_in, timed_out_in, phase, first_is_on, is_outstanding}
use Rattle.cluster_laws.specs.Machine.{file_id}
use Rattle.cluster_laws.proofs.Facts.{HasGiven}
use Rattle.cluster_laws.proofs.Invariant.{Net, IsGiven, IsReplyTo, IsAnswer, IsFile}
use Rattle.cluster_laws.proofs.FenceSteps.{nothing_new}
use Rattle.cluster_laws.proofs.FenceAnswers.{reply_ok, timeout_ok}
use Rattle.cluster_laws.proofs.Seen.{seen_ok}
use Rattle.cluster_laws.proofs.MakingSteps.{making_answer, making_timeout}
use Rattle.cluster_laws.proofs.CopySteps.{settling_late, StepOk, Plain}
use Rattle.cluster_laws.proofs.Copyings.{settling_answer}
use Rattle.cluster_laws.proofs.Targets.{copy_answer, copy_timeout}
use Rattle.cluster_laws.proofs.Known.{Known, fresh_from}
use Rattle.cluster_laws.proofs.PlainSteps.{plain_making, plain_fence, plain_settling, ticks_ok}
use Rattle.cluster_laws.proofs.FreeHeld.{same_file, client_asks, own_begins, recall_ok, return_ok, revoke_ok, own_end_ok, resilver_ok}

-- what the input brings to a file: an answer of the server to which its call is outstanding, a ctime that was shown
pub record IsBrought (net : Net) (f : MdsFile) (xid : ℕ) (reply : DsReplyValue) : Type 0 where
  pub server : ℕ
  pub outstanding : is_outstanding f server xid ≡ true
  pub answer : IsAnswer net.packets net.servers server Mds xid reply

abbrev pub IsInput : Net → MdsFile → FileInput → Type 0
IsInput net f (Answers xid reply) = IsBrought net f xid reply
IsInput net f (Sees id seen) = HasGiven net.servers id.server seen
IsInput net f _ = Unit {0}

-- an answer to the COMMIT of the source shows a ctime of its server
commit_shows : (servers : List ServerState) (n : ℕ) (call : DsCallValue) (reply : DsReplyValue) → IsReplyTo servers n call reply → IsGiven servers n (shown_by_commit reply)
commit_shows servers n call (Created fileid shown) k = tt
commit_shows servers n call (Set shown) k = tt
commit_shows servers n call (Written shown verifier) k = tt
commit_shows servers n call (Committed shown verifier) k = k
commit_shows servers n call (Bytes shown eof bytes) k = tt
commit_shows servers n call (NotSync shown) k = tt
commit_shows servers n call (Failed status shown) k = k

seen_first : (net : Net) (n : ℕ) (journal : List Entry) (s : LayoutState) (stage : CallStage) (server : ℕ) (live : List Mirror) → first_is_on live server ≡ true → (shown : Option Shown) → IsGiven net.servers server shown
    → IsFile net journal n (record { layout = s; activity = Settles stage }) → IsFile net journal n (record { layout = seen_at_source s live shown; activity = Settles stage })
seen_first net n journal s stage server [] on shown given h = h
seen_first net n journal s stage server (m ∷ live) on None given h = h
seen_first net n journal s stage server (m ∷ live) on (Some shown) given h = seen_ok net journal n s m.id shown.seen (subst (λ (k : ℕ). HasGiven net.servers k shown.seen) (sym (eqb-true m.id.server server on)) given) (Settles stage) h

module _ (net : Net) (n next_uid files servers : ℕ) (journal : List Entry) (known : Known net next_uid files journal) (s : LayoutState) where
  abbrev Ok : FileStep → Type 0
  Ok x = StepOk net journal n next_uid x

  abbrev Has : Activity → Type 0
  Has activity = IsFile net journal n (record { layout = s; activity = activity })

  abbrev with_it : Activity → MdsFile
  with_it activity = record { layout = s; activity = activity }

  abbrev fresh : Fresh
  fresh = fresh_from net next_uid servers

  as_before : (activity : Activity) → Has activity → Ok (nothing (with_it activity))
  as_before activity h = same_file net n next_uid files servers journal known (with_it activity) h

  -- ---- an answer to a call, and a timeout of it

  answers_ok : (xid server : ℕ) (reply : DsReplyValue) → IsAnswer net.packets net.servers server Mds xid reply → (activity : Activity) → is_outstanding (with_it activity) server xid ≡ true → Has activity → Ok (answered_in (file_id n) (with_it activity) xid reply fresh activity)
  answers_ok xid server reply a Idle out h = as_before Idle h
  answers_ok xid server reply a (Makes all) out h =
      let plain = plain_making n s all (λ c. creation_answered all c reply) (creation_of all xid) in
      Plain plain.0 plain.1 (making_answer net n next_uid files journal known.entries s all h xid server reply a)
  answers_ok xid server reply a (Fences fence) out h =
      let plain = plain_fence n (seen_by s (mirror_at fence (outstanding_at fence xid)) (shown_by_set reply)) (on_reply fence xid reply).fence (on_reply fence xid reply).step in
      Plain plain.0 plain.1 (reply_ok net n next_uid (known.tops n) journal s fence h known.exact xid server reply a)
  answers_ok xid server reply a (Settles stage) out h =
      let seen : LayoutState = seen_at_source s s.live (shown_by_commit reply) in
      let file = seen_first net n journal s stage server s.live (and_parts _ _ out).1 (shown_by_commit reply) (commit_shows net.servers server a.call reply a.shows) h in
      let row : CopyKind → FileStep = λ copies. settling_answered (file_id n) seen copies fresh reply in
      cond_both (is_out xid stage) (settles_by (with_it (Settles stage)) row (kind_of s.phase)) (nothing (with_it (Settles stage))) Ok
      (λ e. subst (λ (kind : Option CopyKind). Ok (settles_by (with_it (Settles stage)) row kind)) (sym (ap kind_of h.busy.phase))
      (settling_answer net n next_uid files journal known.same known.tops known.entries seen stage file servers h.busy.copies reply))
      (λ e. as_before (Settles stage) h)
  answers_ok xid server reply a (Copies c) out h = copy_answer net n next_uid files servers journal known s c h xid server reply a

  timeouts_ok : (xid : ℕ) (activity : Activity) → Has activity → Ok (timed_out_in (file_id n) (with_it activity) xid fresh activity)
  timeouts_ok xid Idle h = as_before Idle h
  timeouts_ok xid (Makes all) h =
      let plain = plain_making n s all (creation_timed_out all) (creation_of all xid) in
      Plain plain.0 plain.1 (making_timeout net n next_uid files journal known.entries s all h xid)
  timeouts_ok xid (Fences fence) h =
      let plain = plain_fence n s (on_timeout fence xid).fence (on_timeout fence xid).step in
      Plain plain.0 plain.1 (timeout_ok net n next_uid (known.tops n) journal s fence h known.exact xid)
  timeouts_ok xid (Settles stage) h =
      let plain = plain_settling n s stage in
      cond_both (is_out xid stage) (settling_timed_out (file_id n) s stage) (nothing (with_it (Settles stage))) Ok
      (λ e. Plain plain.0 plain.1 (settling_late net n next_uid journal s stage h)) (λ e. as_before (Settles stage) h)
  timeouts_ok xid (Copies c) h = copy_timeout net n next_uid files servers journal known s c h xid

pub phase_ok : (net : Net) (n next_uid files servers : ℕ) (journal : List Entry) → Known net next_uid files journal → (f : MdsFile) → IsFile net journal n f
    → (input : FileInput) → IsInput net f input → StepOk net journal n next_uid (phase (file_id n) f input (fresh_from net next_uid servers))
phase_ok net n next_uid files servers journal known f h (AsksLayout client) brought = client_asks net n next_uid files servers journal known f h client
phase_ok net n next_uid files servers journal known f h (OwnWrite at bytes) brought = own_begins net n next_uid files servers journal known f h at bytes
phase_ok net n next_uid files servers journal known f h Recall brought = recall_ok net n next_uid files servers journal known f h
phase_ok net n next_uid files servers journal known f h (Returns client claimed places) brought = return_ok net n next_uid files servers journal known f h client claimed places
phase_ok net n next_uid files servers journal known f h (Revokes cause) brought = revoke_ok net n next_uid files servers journal known f h cause
phase_ok net n next_uid files servers journal known f h (OwnEnds causes at bytes) brought = own_end_ok net n next_uid files servers journal known f h causes at bytes
phase_ok net n next_uid files servers journal known f h Resilver brought = resilver_ok net n next_uid files servers journal known f h f.layout.phase refl
phase_ok net n next_uid files servers journal known f h (Answers xid reply) brought = answers_ok net n next_uid files servers journal known f.layout xid brought.server reply brought.answer f.activity brought.outstanding h
phase_ok net n next_uid files servers journal known f h (TimesOut xid) brought = timeouts_ok net n next_uid files servers journal known f.layout xid f.activity h
phase_ok net n next_uid files servers journal known f h Ticks brought = ticks_ok net n next_uid files journal known f.layout f.activity h
phase_ok net n next_uid files servers journal known f h (Sees id seen) brought = Plain refl refl (nothing_new net journal n next_uid _ (seen_ok net journal n f.layout id seen brought f.activity h))
