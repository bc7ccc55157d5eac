-- That the targets of a copy can still come in behind each step of it.
use Rattle.std.proofs.Common.{◌≡◌, ℕ, zero, suc, ◌+◌, Bool, true, false, cond, List, [], ◌∷◌, Option, Some, None, refl, sym, ap, subst, ◌∙◌, get_or}
use Rattle.std.specs.Prelude.{slice_get, ◌&&◌, nat_lt, not}
use Rattle.std.specs.List.{position}
use Rattle.std.proofs.lemmas.Bool.{cond_both}
use Rattle.std.proofs.lemmas.Option.{same_Some}
use Rattle.std.proofs.lemmas.List.Quantifiers.{position-Some}
use Rattle.cluster_model.specs.declared.ids.Mirror.{Mirror}
use Rattle.cluster_model.specs.declared.phase.LeftCause.{LeftCause}
use Rattle.cluster_model.specs.declared.phase.LeftCause.TheVariants.{Error, Timeouts}
use Rattle.cluster_model.specs.declared.limits.TheConstants.{MAX_TIMEOUTS, PIECE_SIZE}
use Rattle.cluster_model.specs.declared.call_stage.CallStage.{CallStage}
use Rattle.cluster_model.specs.declared.call_stage.CallStage.TheVariants.{Waits, Out, KeptOut, KeptBack, Done, GivenUp}
use Rattle.cluster_model.specs.DsCalls.{DsReplyValue, Created, Set, Written, Committed, Bytes, NotSync, Failed, Read}
use Rattle.cluster_model.specs.Fences.{waits, is_out, is_over, odd_status}
use Rattle.copy_rule.specs.declared.copy_target.CopyTarget.{CopyTarget}
use Rattle.copy_rule.specs.declared.copy_target.CopyStep.{CopyStep}
use Rattle.copy_rule.specs.declared.copy_target.CopyStep.TheVariants.{Stranger, Waiting, SourceFailed, TargetFailed, Done as AllHold}
use Rattle.copy_rule.specs.Copies.{CopyState, CopyCall, CopyAfter, TargetStep, with_target, with_read, with_piece, with_next, goes_on, have_answered, may_read_on, has_outcome, step_told, copy_then, stranger, source_fails, is_long, read_answered, read_late, target_of, stepped, step_at, step_from, by_read, on_reply, on_timeout, target_answered, target_late, at_stage, target_call_at, call_from, waiting_at, next_call}
use Rattle.std.specs.Prelude.{Result, Ok, Err, IfOk}
use Rattle.ff_xdr.specs.declared.error.NoMemory.{NoMemory}
use Rattle.cluster_model.specs.declared.ids.Cred.{Cred}
use Rattle.cluster_model.specs.declared.targets.SwappedIn.{SwappedIn}
use Rattle.cluster_model.specs.declared.layout_state.LayoutState.{LayoutState}
use Rattle.cluster_model.specs.declared.layout_state.CopyKind.{CopyKind}
use Rattle.cluster_model.specs.Phases.{can_swap_all}
use Rattle.copy_rule.specs.Copies.{swaps_of, outcome}
use Rattle.resilver.specs.declared.call.SentCall.{SentCall}
use Rattle.resilver.specs.Calls.{TakesAnswer}
use Rattle.resilver.specs.Sends.{SendsBeforeLent, call_as}
use Rattle.mds_activity.specs.Activities.{IsCopying}
use Rattle.mds_activity.specs.Targets.{CanAllComeIn, LosesTarget}
use Rattle.mds_activity.proofs.Swaps.{all_swap}
use Rattle.mds_activity.proofs.TargetFits.{StepsWell, answered_well, late_well, all_write, sent_goes, set_fit}

-- what holds of a copy, and of a step of it
pub record CopyFitsIn (live : List Mirror) (owner : ℕ) (c : CopyState) : Type 0 where
  pub owned : c.copier ≡ owner
  pub fit : CanAllComeIn live c.targets

pub record CopyWell (live : List Mirror) (owner : ℕ) (a : CopyAfter) : Type 0 where
  pub copy : CopyFitsIn live owner a.copy
  pub loses : LosesTarget live a.copy.targets a.step

found_at : (test : CopyTarget → Bool) (targets : List CopyTarget) (place : ℕ) (t : CopyTarget) → position test targets ≡ Some place → slice_get targets place ≡ Some t → test t ≡ true
found_at test targets place t found there = at targets place there (position-Some test targets place t found).1
  where
    at : (targets : List CopyTarget) (place : ℕ) → slice_get targets place ≡ Some t → test (get_or targets place t) ≡ true → test t ≡ true
    at [] place there k = absurd cc
    at (x ∷ targets) zero there k = ap test (sym (same_Some x t there)) ∙ k
    at (x ∷ targets) (suc place) there k = at targets place there k

module _ (live : List Mirror) (owner : ℕ) where
  abbrev Fits : CopyState → Type 0
  Fits c = CopyFitsIn live owner c

  goes_on_targets : (c : CopyState) → (goes_on c).targets ≡ c.targets
  goes_on_targets c = by_test (is_over c.read && not c.ended && have_answered c)
    where
      by_test : (b : Bool) → (cond {A = CopyState} b (with_next c) c).targets ≡ c.targets
      by_test true = refl
      by_test false = refl

  goes_on_fits : (c : CopyState) → Fits c → Fits (goes_on c)
  goes_on_fits c h = by_test (is_over c.read && not c.ended && have_answered c)
    where
      by_test : (b : Bool) → Fits (cond {A = CopyState} b (with_next c) c)
      by_test true = record { owned = h.owned; fit = h.fit }
      by_test false = h

  told : (c : CopyState) (targets : List CopyTarget) (step : CopyStep) → LosesTarget live targets step → LosesTarget live targets (step_told c step)
  told c targets Stranger h = tt
  told c targets Waiting h = cond_both (has_outcome c) AllHold Waiting (LosesTarget live targets) (λ yes. tt) (λ other. tt)
  told c targets (SourceFailed cause) h = tt
  told c targets (TargetFailed server replaced cause) h = h
  told c targets AllHold h = tt

  then_well : (c : CopyState) (step : CopyStep) → Fits c → LosesTarget live c.targets step → CopyWell live owner (copy_then c step)
  then_well c step h loses = record {
    copy = goes_on_fits c h;
    loses = subst (λ (l : List CopyTarget). LosesTarget live l (step_told c step)) (sym (goes_on_targets c)) (told c c.targets step loses);
  }

  strange_well : (c : CopyState) → Fits c → CopyWell live owner (stranger c)
  strange_well c h = record { copy = h; loses = tt }

  source_well : (c : CopyState) (kept : CallStage) (cause : LeftCause) → Fits c → CopyWell live owner (source_fails c kept cause)
  source_well c kept cause h = record { copy = record { owned = h.owned; fit = h.fit }; loses = tt }

  read_well : (c : CopyState) (reply : DsReplyValue) → Fits c → CopyWell live owner (read_answered c reply)
  read_well c (Created fileid shown) h = source_well c KeptBack (Error odd_status) h
  read_well c (Set shown) h = source_well c KeptBack (Error odd_status) h
  read_well c (Written shown verifier) h = source_well c KeptBack (Error odd_status) h
  read_well c (Committed shown verifier) h = source_well c KeptBack (Error odd_status) h
  read_well c (Bytes shown eof bytes) h =
      cond_both (is_long c bytes) (source_fails c KeptBack (Error odd_status)) (copy_then (with_piece c eof bytes) Waiting) (CopyWell live owner) (λ yes. source_well c KeptBack (Error odd_status) h)
      (λ other. then_well (with_piece c eof bytes) Waiting (record { owned = h.owned; fit = all_write live bytes c.targets h.fit }) tt)
  read_well c (NotSync shown) h = source_well c KeptBack (Error odd_status) h
  read_well c (Failed status shown) h = source_well c KeptBack (Error status) h

  read_late_well : (c : CopyState) (stage : CallStage) → Fits c → CopyWell live owner (read_late c stage)
  read_late_well c Waits h = strange_well c h
  read_late_well c (Out xid timeouts) h =
      cond_both (nat_lt (timeouts + 1) MAX_TIMEOUTS) (record { copy = with_read c (Out xid (timeouts + 1)); step = Waiting }) (source_fails c (KeptOut xid) Timeouts) (CopyWell live owner)
      (λ yes. record { copy = record { owned = h.owned; fit = h.fit }; loses = tt }) (λ other. source_well c (KeptOut xid) Timeouts h)
  read_late_well c (KeptOut xid) h = record { copy = h; loses = tt }
  read_late_well c KeptBack h = strange_well c h
  read_late_well c Done h = strange_well c h
  read_late_well c GivenUp h = strange_well c h

  by_read_well : (c : CopyState) (xid : ℕ) (reads : CopyAfter) → Fits c → CopyWell live owner reads → CopyWell live owner (by_read c xid reads)
  by_read_well c xid reads h well = cond_both (is_out xid c.read) reads (stranger c) (CopyWell live owner) (λ yes. well) (λ other. strange_well c h)

  stepped_well : (c : CopyState) (place : ℕ) (x : TargetStep) → Fits c → StepsWell live c.targets place x → CopyWell live owner (stepped c place x)
  stepped_well c place x h s = then_well (with_target c place x.target) x.step (record { owned = h.owned; fit = s.fit }) s.loses

  from_well : (c : CopyState) (xid : ℕ) (step : CopyTarget → TargetStep) (reads : CopyAfter) → ((place : ℕ) (t : CopyTarget) → slice_get c.targets place ≡ Some t → is_out xid t.stage ≡ true → StepsWell live c.targets place (step t))
      → Fits c → CopyWell live owner reads → CopyWell live owner (step_from c step reads (target_of c xid))
  from_well c xid step reads steps h well = by_place (target_of c xid) refl
    where
      by_target : (place : ℕ) (o : Option CopyTarget) → target_of c xid ≡ Some place → slice_get c.targets place ≡ o → CopyWell live owner (step_at c step place o)
      by_target place None found there = strange_well c h
      by_target place (Some t) found there = stepped_well c place (step t) h (steps place t there (found_at (λ u. is_out xid u.stage) c.targets place t found there))

      by_place : (o : Option ℕ) → target_of c xid ≡ o → CopyWell live owner (step_from c step reads o)
      by_place None found = well
      by_place (Some place) found = by_target place (slice_get c.targets place) found refl

  pub reply_well : (c : CopyState) (xid : ℕ) (reply : DsReplyValue) → Fits c → CopyWell live owner (on_reply c xid reply)
  reply_well c xid reply h =
      from_well c xid (λ t. target_answered t reply t.made) (by_read c xid (read_answered c reply)) (λ place t there out. answered_well live c.targets place t there h.fit xid reply out) h (by_read_well c xid (read_answered c reply) h (read_well c reply h))

  pub late_copy_well : (c : CopyState) (xid : ℕ) → Fits c → CopyWell live owner (on_timeout c xid)
  late_copy_well c xid h =
      from_well c xid (λ t. target_late t t.stage) (by_read c xid (read_late c c.read)) (λ place t there out. late_well live c.targets place t there h.fit) h (by_read_well c xid (read_late c c.read) h (read_late_well c c.read h))

module _ (live : List Mirror) where
  none-some : {A : Type 0} (x : A) → ◌≡◌ {A = Option A} None (Some x) → ⊥
  none-some x e = absurd cc

  -- a call that goes out
  pub sent_fit : (c : CopyState) (xid : ℕ) (call : CopyCall) → next_call c xid ≡ Some call → CanAllComeIn live c.targets → CanAllComeIn live call.copy.targets
  sent_fit c xid call is h = by_place (waiting_at c) refl is
    where
      by_target : (place : ℕ) (o : Option CopyTarget) → waiting_at c ≡ Some place → slice_get c.targets place ≡ o → target_call_at c xid place o ≡ Some call → CanAllComeIn live call.copy.targets
      by_target place None found there is = absurd (none-some call is)
      by_target place (Some t) found there is =
          subst (λ (k : CopyCall). CanAllComeIn live k.copy.targets) (same_Some _ call is) (set_fit live c.targets place t (at_stage t (Out xid 0)) there (sent_goes t xid (found_at (λ u. waits u.stage) c.targets place t found there)) h)

      by_test : (b : Bool) → cond {A = Option CopyCall} b (Some (record { copy = with_read c (Out xid 0); server = c.source.server; uid = 0; call = Read c.source.fileid c.at PIECE_SIZE })) None ≡ Some call → CanAllComeIn live call.copy.targets
      by_test true is = subst (λ (k : CopyCall). CanAllComeIn live k.copy.targets) (same_Some _ call is) h
      by_test false is = absurd (none-some call is)

      by_place : (o : Option ℕ) → waiting_at c ≡ o → call_from c xid o ≡ Some call → CanAllComeIn live call.copy.targets
      by_place None found is = by_test (waits c.read && may_read_on c) is
      by_place (Some place) found is = by_target place (slice_get c.targets place) found refl is

-- what holds of a file's copy behind a step of it
fits_of : (s : LayoutState) (copier : Cred) (copies : CopyKind) (c : CopyState) → IsCopying s copier copies c → CopyFitsIn s.live copier.0 c
fits_of s copier copies c is = record { owned = is.owner; fit = is.all_fit }

copying_of : (s : LayoutState) (copier : Cred) (copies : CopyKind) (old new : CopyState) → IsCopying s copier copies old → CopyFitsIn s.live copier.0 new → IsCopying s copier copies new
copying_of s copier copies old new is fits = record { copying = is.copying; owner = fits.owned; all_fit = fits.fit }

pub replied_copy : (s : LayoutState) (copier : Cred) (copies : CopyKind) (old : CopyState) (xid : ℕ) (reply : DsReplyValue) (result : Result CopyStep NoMemory) (new : CopyState) → IsCopying s copier copies old → TakesAnswer old xid reply result new → IsCopying s copier copies new
replied_copy s copier copies old xid reply (Ok step) new is takes = copying_of s copier copies old new is (subst (CopyWell s.live copier.0) (sym takes) (reply_well s.live copier.0 old xid reply (fits_of s copier copies old is))).copy
replied_copy s copier copies old xid reply (Err e) new is takes = subst (λ (k : CopyState). IsCopying s copier copies k) (sym takes) is

pub replied_loses : (s : LayoutState) (copier : Cred) (copies : CopyKind) (old : CopyState) (xid : ℕ) (reply : DsReplyValue) (result : Result CopyStep NoMemory) (new : CopyState) → IsCopying s copier copies old → TakesAnswer old xid reply result new → IfOk result (λ step. LosesTarget s.live new.targets step)
replied_loses s copier copies old xid reply (Ok step) new is takes = (subst (CopyWell s.live copier.0) (sym takes) (reply_well s.live copier.0 old xid reply (fits_of s copier copies old is))).loses
replied_loses s copier copies old xid reply (Err e) new is takes = tt

pub late_copy : (s : LayoutState) (copier : Cred) (copies : CopyKind) (old : CopyState) (xid : ℕ) (step : CopyStep) (new : CopyState) → IsCopying s copier copies old → ◌≡◌ {A = CopyAfter} (record { copy = new; step = step }) (on_timeout old xid) → IsCopying s copier copies new
late_copy s copier copies old xid step new is takes = copying_of s copier copies old new is (subst (CopyWell s.live copier.0) (sym takes) (late_copy_well s.live copier.0 old xid (fits_of s copier copies old is))).copy

pub late_loses : (s : LayoutState) (copier : Cred) (copies : CopyKind) (old : CopyState) (xid : ℕ) (step : CopyStep) (new : CopyState) → IsCopying s copier copies old → ◌≡◌ {A = CopyAfter} (record { copy = new; step = step }) (on_timeout old xid) → LosesTarget s.live new.targets step
late_loses s copier copies old xid step new is takes = (subst (CopyWell s.live copier.0) (sym takes) (late_copy_well s.live copier.0 old xid (fits_of s copier copies old is))).loses

pub sent_copy_fit : (live : List Mirror) (old : CopyState) (xid : ℕ) (sent : Option SentCall) (new : CopyState) → SendsBeforeLent old xid sent new → CanAllComeIn live old.targets → CanAllComeIn live new.targets
sent_copy_fit live old xid None new sends h = subst (λ (k : CopyState). CanAllComeIn live k.targets) (sym sends.1) h
sent_copy_fit live old xid (Some s) new sends h = sent_fit live old xid (record { copy = new; server = s.server; uid = s.uid; call = call_as new s.call }) sends h

-- what comes of the outcome
pub outcome_swaps : (s : LayoutState) (copier : Cred) (copies : CopyKind) (c : CopyState) (targets : List SwappedIn) → IsCopying s copier copies c → outcome c ≡ Some targets → can_swap_all targets s.live ≡ true
outcome_swaps s copier copies c targets is told = by_test (has_outcome c) told
  where
    by_test : (b : Bool) → cond {A = Option (List SwappedIn)} b (Some (swaps_of c)) None ≡ Some targets → can_swap_all targets s.live ≡ true
    by_test true e = ap (λ l. can_swap_all l s.live) (sym (same_Some _ targets e)) ∙ all_swap c.targets s.live is.all_fit
    by_test false e = absurd (none-some s.live targets e)
