-- The mirrors that leave by a return or by an own write leave the live list that is told; and while a file is held nothing changes its live
-- mirrors.
use Rattle.std.proofs.Common.{◌≡◌, ℕ, ◌≤◌, Bool, true, false, cond, List, [], ◌∷◌, length, Option, Some, None, refl, sym, ap, subst, ◌∙◌, inl, inr, arith}
use Rattle.std.specs.Prelude.{◌==◌, ◌&&◌, ◌||◌, not, map, filter, is_some}
use Rattle.std.specs.List.{find}
use Rattle.std.specs.Option.{option_map}
use Rattle.std.proofs.lemmas.Bool.{cond_both, and_parts, eqb-true, or_from}
use Rattle.ff_xdr.specs.Form.{Value}
use Rattle.ff_layout.specs.IoError.{ff_ioerr4}
use Rattle.layout_report.specs.Reports.{is_reported, report_of}
use Rattle.cluster_model.specs.declared.ids.NodeId.TheVariants.{Mds, Client}
use Rattle.cluster_model.specs.declared.ids.FileId.{FileId}
use Rattle.cluster_model.specs.declared.ids.Cred.{Cred}
use Rattle.cluster_model.specs.declared.ids.Mirror.{Mirror}
use Rattle.cluster_model.specs.declared.ids.MirrorId.{MirrorId}
use Rattle.cluster_model.specs.declared.phase.LeftCause.{LeftCause}
use Rattle.cluster_model.specs.declared.entry.Entry.TheVariants as entry
use Rattle.cluster_model.specs.declared.layout_state.LayoutState.{LayoutState}
use Rattle.cluster_model.specs.declared.layout_state.LayoutPhase.{LayoutPhase}
use Rattle.cluster_model.specs.declared.layout_state.LayoutPhase.TheVariants.{Held}
use Rattle.cluster_model.specs.DsCalls.{DsReplyValue}
use Rattle.cluster_model.specs.Journal.{is_mirror}
use Rattle.cluster_model.specs.Phases.{ids_of, is_clean, unreported, left_entries, reported_cause, left_with, returned, revoked}
use Rattle.cluster_model.specs.Members.{IsOneOf}
use Rattle.file_rule.specs.declared.fresh.Fresh.{Fresh}
use Rattle.file_rule.specs.MdsFiles.{Activity, Idle, Makes, Fences, Settles, Copies, MdsFile, FileStep, nothing, a_uid, goes_fencing}
use Rattle.file_rule.specs.FilePhases.{FileInput, AsksLayout, OwnWrite, Recall, Returns, Revokes, OwnEnds, Resilver, Answers, TimesOut, Ticks, Sees, asked_in, held_in, by_client, by_mds, recalled_row, returned_row, revoked_row, own_row, resilvered_in, kind_of, answered_in, timed_out_in, phase}
use Rattle.layout_state.specs.Grants.{is_held}
use Rattle.mds_rule.specs.Answers.{is_failure_of, failures_by_place}
use Rattle.cluster_laws.specs.FenceLaw.{live_by}
use Rattle.cluster_laws.proofs.Lives.{own_file, ids_seen, itself}
use Rattle.mds_laws.proofs.PeriodUids.{is_making}
use Rattle.mds_replies.proofs.MirrorsTold.{Fits, is_fencing}

-- ---- lists

same_filter : (p q : MirrorId → Bool) (ks : List MirrorId) → ((k : MirrorId) → IsOneOf k ks → p k ≡ q k) → filter p ks ≡ filter q ks
same_filter p q [] same = refl
same_filter p q (k ∷ ks) same =
    ap (λ (b : Bool). cond b (k ∷ filter p ks) (filter p ks)) (same k (inl refl)) ∙ ap (λ (l : List MirrorId). cond (q k) (k ∷ l) l) (same_filter p q ks (λ x inside. same x (inr inside)))

keeps_all : (ks : List MirrorId) → ks ≡ filter (λ k. true) ks
keeps_all [] = refl
keeps_all (k ∷ ks) = ap (λ (l : List MirrorId). k ∷ l) (keeps_all ks)

fuse : (p q r : MirrorId → Bool) → ((k : MirrorId) → r k ≡ (q k && p k)) → (ks : List MirrorId) → filter p (filter q ks) ≡ filter r ks
fuse p q r same [] = refl
fuse p q r same (k ∷ ks) = by_test (q k) refl (fuse p q r same ks)
  where
    by_test : (b : Bool) → q k ≡ b → filter p (filter q ks) ≡ filter r ks → filter p (cond b (k ∷ filter q ks) (filter q ks)) ≡ cond (r k) (k ∷ filter r ks) (filter r ks)
    by_test true at rest =
        ap (λ (l : List MirrorId). cond (p k) (k ∷ l) l) rest ∙ ap (λ (b : Bool). cond b (k ∷ filter r ks) (filter r ks)) (sym (same k ∙ ap (λ (b : Bool). b && p k) at))
    by_test false at rest = rest ∙ ap (λ (b : Bool). cond b (k ∷ filter r ks) (filter r ks)) (sym (same k ∙ ap (λ (b : Bool). b && p k) at))

not_or : (a b : Bool) → not (a || b) ≡ (not a && not b)
not_or true b = refl
not_or false b = refl

and_off : (a : Bool) → (a && false) ≡ false
and_off true = refl
and_off false = refl

both_on : (a b : Bool) → a ≡ true → b ≡ true → (a && b) ≡ true
both_on true b is also = also
both_on false b is also = absurd cc

or_first : (a b : Bool) → a ≡ true → (a || b) ≡ true
or_first true b is = refl
or_first false b is = absurd cc

or_second : (a b : Bool) → b ≡ true → (a || b) ≡ true
or_second true b is = refl
or_second false b is = is

same_mirror : (a b : MirrorId) → is_mirror a b ≡ true → a ≡ b
same_mirror a b is =
    let parts = and_parts (a.server == b.server) (a.fileid == b.fileid) is in
    ap (λ (n : ℕ). record { server = n; fileid = a.fileid }) (eqb-true a.server b.server parts.0) ∙ ap (λ (n : ℕ). record { server = b.server; fileid = n }) (eqb-true a.fileid b.fileid parts.1)

-- ---- which mirrors leave is by their ids

module _ (g : MirrorId → Bool) where
  abbrev pub Agree : List (Option LeftCause) → List Mirror → Type 0
  Agree causes [] = Unit {0}
  Agree [] (m ∷ live) = ⊥
  Agree (c ∷ causes) (m ∷ live) = (is_some c ≡ g m.id) × Agree causes live

  abbrev gone : List Mirror → MirrorId → Bool
  gone [] k = false
  gone (m ∷ live) k = (g m.id && is_mirror k m.id) || gone live k

  left_removes : (file : FileId) (causes : List (Option LeftCause)) (live : List Mirror) → Agree causes live → (ks : List MirrorId) → live_by file (Some ks) (left_entries file causes live) ≡ Some (filter (λ (k : MirrorId). not (gone live k)) ks)
  left_removes file causes [] a ks = ap (λ (l : List MirrorId). Some l) (keeps_all ks)
  left_removes file [] (m ∷ live) a ks = absurd a
  left_removes file (None ∷ causes) (m ∷ live) a ks =
      left_removes file causes live a.1 ks
      ∙ ap (λ (l : List MirrorId). Some l) (same_filter (λ (k : MirrorId). not (gone live k)) (λ (k : MirrorId). not (gone (m ∷ live) k)) ks (λ k inside. ap (λ (b : Bool). not ((b && is_mirror k m.id) || gone live k)) a.0))
  left_removes file (Some c ∷ causes) (m ∷ live) a ks =
      ap (λ (b : Bool). live_by file (cond b (Some (filter (λ (k : MirrorId). not (is_mirror k m.id)) ks)) (Some ks)) (left_entries file causes live)) (own_file file)
      ∙ left_removes file causes live a.1 (filter (λ (k : MirrorId). not (is_mirror k m.id)) ks)
      ∙ ap (λ (l : List MirrorId). Some l)
      (fuse (λ (k : MirrorId). not (gone live k)) (λ (k : MirrorId). not (is_mirror k m.id)) (λ (k : MirrorId). not (gone (m ∷ live) k))
      (λ k. ap (λ (b : Bool). not ((b && is_mirror k m.id) || gone live k)) (sym a.0) ∙ not_or (is_mirror k m.id) (gone live k)) ks)

  ids_left : (causes : List (Option LeftCause)) (live : List Mirror) → Agree causes live → ids_of (unreported (map is_some causes) live) ≡ filter (λ (k : MirrorId). not (g k)) (ids_of live)
  ids_left causes [] a = refl
  ids_left [] (m ∷ live) a = absurd a
  ids_left (c ∷ causes) (m ∷ live) a =
      ap (λ (b : Bool). ids_of (cond b (unreported (map is_some causes) live) (m ∷ unreported (map is_some causes) live))) a.0 ∙ by_test (g m.id) (ids_left causes live a.1)
    where
      by_test : (b : Bool) → ids_of (unreported (map is_some causes) live) ≡ filter (λ (k : MirrorId). not (g k)) (ids_of live)
          → ids_of (cond b (unreported (map is_some causes) live) (m ∷ unreported (map is_some causes) live)) ≡ cond (not b) (m.id ∷ filter (λ (k : MirrorId). not (g k)) (ids_of live)) (filter (λ (k : MirrorId). not (g k)) (ids_of live))
      by_test true rest = rest
      by_test false rest = ap (λ (l : List MirrorId). m.id ∷ l) rest

  gone_off : (live : List Mirror) (k : MirrorId) → g k ≡ false → gone live k ≡ false
  gone_off [] k off = refl
  gone_off (m ∷ live) k off = or_from (g m.id && is_mirror k m.id) (gone live k) (by_test (is_mirror k m.id) refl) (gone_off live k off)
    where
      by_test : (b : Bool) → is_mirror k m.id ≡ b → (g m.id && is_mirror k m.id) ≡ false
      by_test true at = ap (λ (b : Bool). b && is_mirror k m.id) (ap g (sym (same_mirror k m.id at)) ∙ off)
      by_test false at = ap (λ (b : Bool). g m.id && b) at ∙ and_off (g m.id)

  gone_on : (live : List Mirror) (k : MirrorId) → IsOneOf k (ids_of live) → g k ≡ true → gone live k ≡ true
  gone_on [] k inside on = absurd inside
  gone_on (m ∷ live) k (inl is) on = or_first (g m.id && is_mirror k m.id) (gone live k) (both_on (g m.id) (is_mirror k m.id) (ap g (sym is) ∙ on) (ap (λ (x : MirrorId). is_mirror k x) (sym is) ∙ itself k))
  gone_on (m ∷ live) k (inr inside) on = or_second (g m.id && is_mirror k m.id) (gone live k) (gone_on live k inside on)

  gone_is : (live : List Mirror) (k : MirrorId) → IsOneOf k (ids_of live) → gone live k ≡ g k
  gone_is live k inside = by_test (g k) refl
    where
      by_test : (b : Bool) → g k ≡ b → gone live k ≡ g k
      by_test true at = gone_on live k inside at ∙ sym at
      by_test false at = gone_off live k at ∙ sym at

  pub leave_live : (file : FileId) (causes : List (Option LeftCause)) (live : List Mirror) → Agree causes live → live_by file (Some (ids_of live)) (left_entries file causes live) ≡ Some (ids_of (unreported (map is_some causes) live))
  leave_live file causes live a =
      left_removes file causes live a (ids_of live)
      ∙ ap (λ (l : List MirrorId). Some l) (same_filter (λ (k : MirrorId). not (gone live k)) (λ (k : MirrorId). not (g k)) (ids_of live) (λ k inside. ap not (gone_is live k inside)) ∙ sym (ids_left causes live a))

-- ---- those of an own write that failed, and those that are reported

five_are : (a b c d e : Mirror) (live : List Mirror) → length (a ∷ b ∷ c ∷ d ∷ e ∷ live) ≤ 4 → ⊥
five_are a b c d e live few = omega (arith, few)

failed_agree : (failures : List (MirrorId × LeftCause)) (live : List Mirror) → length live ≤ 4 → Agree (λ (k : MirrorId). is_some (option_map (λ (failure : MirrorId × LeftCause). failure.1) (find (is_failure_of k) failures))) (failures_by_place failures live) live
failed_agree failures [] few = tt
failed_agree failures (a ∷ []) few = (refl, tt)
failed_agree failures (a ∷ b ∷ []) few = (refl, (refl, tt))
failed_agree failures (a ∷ b ∷ c ∷ []) few = (refl, (refl, (refl, tt)))
failed_agree failures (a ∷ b ∷ c ∷ d ∷ []) few = (refl, (refl, (refl, (refl, tt))))
failed_agree failures (a ∷ b ∷ c ∷ d ∷ e ∷ live) few = absurd (five_are a b c d e live few)

pub failures_leave : (file : FileId) (failures : List (MirrorId × LeftCause)) (live : List Mirror) → length live ≤ 4
    → live_by file (Some (ids_of live)) (left_entries file (failures_by_place failures live) live) ≡ Some (ids_of (unreported (map is_some (failures_by_place failures live)) live))
failures_leave file failures live few =
    leave_live (λ (k : MirrorId). is_some (option_map (λ (failure : MirrorId × LeftCause). failure.1) (find (is_failure_of k) failures))) file (failures_by_place failures live) live (failed_agree failures live few)

some_cause : (b : Bool) → is_some (reported_cause b) ≡ b
some_cause true = refl
some_cause false = refl

places_again : (places : List Bool) → map is_some (map reported_cause places) ≡ places
places_again [] = refl
places_again (b ∷ places) = ap (λ (c : Bool). c ∷ map is_some (map reported_cause places)) (some_cause b) ∙ ap (λ (l : List Bool). b ∷ l) (places_again places)

reported_agree : (errors : List (Value ff_ioerr4)) (live : List Mirror) → length live ≤ 4 → Agree (λ (k : MirrorId). is_reported errors k.server) (map reported_cause (report_of errors live)) live
reported_agree errors [] few = tt
reported_agree errors (a ∷ []) few = (some_cause (is_reported errors a.id.server), tt)
reported_agree errors (a ∷ b ∷ []) few = (some_cause (is_reported errors a.id.server), (some_cause (is_reported errors b.id.server), tt))
reported_agree errors (a ∷ b ∷ c ∷ []) few = (some_cause (is_reported errors a.id.server), (some_cause (is_reported errors b.id.server), (some_cause (is_reported errors c.id.server), tt)))
reported_agree errors (a ∷ b ∷ c ∷ d ∷ []) few =
    (some_cause (is_reported errors a.id.server), (some_cause (is_reported errors b.id.server), (some_cause (is_reported errors c.id.server), (some_cause (is_reported errors d.id.server), tt))))
reported_agree errors (a ∷ b ∷ c ∷ d ∷ e ∷ live) few = absurd (five_are a b c d e live few)

pub reports_leave : (file : FileId) (errors : List (Value ff_ioerr4)) (live : List Mirror) → length live ≤ 4
    → live_by file (Some (ids_of live)) (left_entries file (map reported_cause (report_of errors live)) live) ≡ Some (ids_of (unreported (report_of errors live) live))
reports_leave file errors live few =
    leave_live (λ (k : MirrorId). is_reported errors k.server) file (map reported_cause (report_of errors live)) live (reported_agree errors live few)
    ∙ ap (λ (places : List Bool). Some (ids_of (unreported places live))) (places_again (report_of errors live))

-- ---- while a file is held

no_more : {A : Type 0} → false ≡ true → A
no_more is = absurd cc

module _ (file : FileId) (fresh : Fresh) (f : MdsFile) (n : ℕ) (is_recalled : Bool) (at : f.layout.phase ≡ Held (Client n) is_recalled) where
  abbrev Stay : FileStep → Type 0
  Stay x = is_held x.file.layout.phase ≡ true → ids_of x.file.layout.live ≡ ids_of f.layout.live

  by_phase : (row : LayoutPhase → FileStep) → Stay (row (Held (Client n) is_recalled)) → Stay (row f.layout.phase)
  by_phase row is = subst (λ (p : LayoutPhase). Stay (row p)) (sym at) is

  left_off : (s : LayoutState) (next : Cred) (live : List Mirror) → is_held (left_with s next live).phase ≡ true → false ≡ true
  left_off s next [] is = is
  left_off s next (m ∷ live) is = is

  returned_stay : (client : ℕ) (claimed : Cred) (places : List Bool) → Stay (returned_row file f client claimed places fresh n)
  returned_stay client claimed places =
      cond_both (n == client && (f.layout.cred.0 == claimed.0)) (goes_fencing (returned file f.layout places (a_uid fresh.uid)) fresh.uid) (nothing f) Stay
      (λ is held. no_more (left_off f.layout (a_uid fresh.uid) (unreported places f.layout.live) held)) (λ off held. refl)

  revoked_stay : (cause : Rattle.cluster_model.specs.declared.phase.EndCause.EndCause) → Stay (revoked_row file f cause fresh)
  revoked_stay cause = cond_both (is_clean cause) (nothing f) (goes_fencing (revoked file f.layout cause (a_uid fresh.uid)) fresh.uid) Stay (λ is held. refl) (λ off held. no_more held)

  answered_stay : (xid : ℕ) (reply : DsReplyValue) (a : Activity) → Fits f.layout.phase a → Stay (answered_in file f xid reply fresh a)
  answered_stay xid reply Idle fits = λ held. refl
  answered_stay xid reply (Makes all) fits = no_more (sym (ap is_making at) ∙ fits)
  answered_stay xid reply (Fences x) fits = no_more (sym (ap is_fencing at) ∙ fits)
  answered_stay xid reply (Settles stage) fits = no_more (sym (ap (λ (p : LayoutPhase). is_some (kind_of p)) at) ∙ fits)
  answered_stay xid reply (Copies c) fits = no_more (sym (ap (λ (p : LayoutPhase). is_some (kind_of p)) at) ∙ fits)

  late_stay : (xid : ℕ) (a : Activity) → Fits f.layout.phase a → Stay (timed_out_in file f xid fresh a)
  late_stay xid Idle fits = λ held. refl
  late_stay xid (Makes all) fits = no_more (sym (ap is_making at) ∙ fits)
  late_stay xid (Fences x) fits = no_more (sym (ap is_fencing at) ∙ fits)
  late_stay xid (Settles stage) fits = no_more (sym (ap (λ (p : LayoutPhase). is_some (kind_of p)) at) ∙ fits)
  late_stay xid (Copies c) fits = no_more (sym (ap (λ (p : LayoutPhase). is_some (kind_of p)) at) ∙ fits)

  pub ids_stay : (input : FileInput) → Fits f.layout.phase f.activity → Stay (phase file f input fresh)
  ids_stay (AsksLayout client) fits = by_phase (asked_in file f (Client client) [] fresh) (λ held. refl)
  ids_stay (OwnWrite place bytes) fits = by_phase (asked_in file f Mds (entry.Sent file f.layout.cred place bytes ∷ []) fresh) (λ held. refl)
  ids_stay Recall fits = by_phase (held_in f (by_client f (recalled_row f))) (λ held. refl)
  ids_stay (Returns client claimed places) fits = by_phase (held_in f (by_client f (returned_row file f client claimed places fresh))) (returned_stay client claimed places)
  ids_stay (Revokes cause) fits = by_phase (held_in f (by_client f (λ client. revoked_row file f cause fresh))) (revoked_stay cause)
  ids_stay (OwnEnds causes place bytes) fits = by_phase (held_in f (by_mds f (own_row file f causes (entry.Told file f.layout.cred place bytes) fresh))) (λ held. refl)
  ids_stay Resilver fits = by_phase (resilvered_in f fresh) (λ held. refl)
  ids_stay (Answers xid reply) fits = answered_stay xid reply f.activity fits
  ids_stay (TimesOut xid) fits = late_stay xid f.activity fits
  ids_stay Ticks fits = λ held. refl
  ids_stay (Sees id seen) fits = λ held. ids_seen id seen f.layout.live
