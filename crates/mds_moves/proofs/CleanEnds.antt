-- A period's clean end is one that may be: what was taken is covered at the mirrors that stay.
use Rattle.std.proofs.Common.{◌≡◌, ℕ, Bool, true, false, cond, List, [], ◌∷◌, ◌++◌, Option, Some, None, refl, sym, ap, subst, ◌∙◌}
use Rattle.std.specs.Prelude.{◌==◌, map, is_some}
use Rattle.std.specs.List.{AllByRecursion}
use Rattle.std.proofs.lemmas.Bool.{and_from, eq-eqb}
use Rattle.std.proofs.lemmas.List.{append_assoc, append-nil}
use Rattle.cluster_model.specs.declared.ids.NodeId.TheVariants.{Mds, Client}
use Rattle.cluster_model.specs.declared.ids.FileId.{FileId}
use Rattle.cluster_model.specs.declared.ids.Cred.{Cred}
use Rattle.cluster_model.specs.declared.ids.MirrorId.{MirrorId}
use Rattle.cluster_model.specs.declared.ids.Mirror.{Mirror}
use Rattle.cluster_model.specs.declared.phase.EndCause.TheVariants.{Returned, Own}
use Rattle.cluster_model.specs.declared.phase.LeftCause.{LeftCause}
use Rattle.cluster_model.specs.declared.entry.Entry.{Entry}
use Rattle.cluster_model.specs.declared.entry.Entry.TheVariants as entry
use Rattle.cluster_model.specs.declared.layout_state.LayoutPhase.{LayoutPhase}
use Rattle.cluster_model.specs.declared.layout_state.LayoutPhase.TheVariants.{Held}
use Rattle.cluster_model.specs.Content.{Pending}
use Rattle.cluster_model.specs.Phases.{ids_of, unreported, left_entries, reported_cause, returned, end_entries}
use Rattle.file_rule.specs.declared.fresh.Fresh.{Fresh}
use Rattle.file_rule.specs.MdsFiles.{MdsFile, nothing, a_uid, goes_fencing}
use Rattle.file_rule.specs.FilePhases.{Returns, OwnEnds, held_in, by_client, by_mds, returned_row, own_row, phase}
use Rattle.cluster_laws.specs.Machine.{PacketValue}
use Rattle.cluster_laws.specs.FenceLaw.{live_in, live_by}
use Rattle.cluster_laws.specs.Agreement.{a_write, sent_of, rogue_of, strayed_in}
use Rattle.cluster_laws.specs.Holders.{IsCovered, AreCovered, the_write, MayEnd}
use Rattle.cluster_laws.specs.Telling.{telling}
use Rattle.cluster_laws.proofs.Journals.{live_append}
use Rattle.cluster_laws.proofs.Lives.{all_left}
use Rattle.cluster_laws.proofs.Lists.{all_more}
use Rattle.cluster_laws.proofs.Invariant.{live_of}
use Rattle.mds_moves.specs.MdsBinds.{EndsByReturn, EndsByOwn, EndsInOrder}
use Rattle.mds_moves.proofs.OwnKept.{sent_join, told_join}
use Rattle.mds_moves.proofs.WriterMirrors.{PacketsKept, covered_still}
use Rattle.mds_moves.proofs.FileStands.{FileStands}

-- ---- the entries of mirrors that leave say nothing of users

left_told : (file : FileId) (causes : List (Option LeftCause)) (live : List Mirror) → telling (left_entries file causes live) ≡ left_entries file causes live
left_told file causes [] = refl
left_told file [] (m ∷ live) = refl
left_told file (None ∷ causes) (m ∷ live) = left_told file causes live
left_told file (Some cause ∷ causes) (m ∷ live) = ap (λ (l : List Entry). entry.Left file m.id cause ∷ l) (left_told file causes live)

left_sent : (uid : ℕ) (file : FileId) (causes : List (Option LeftCause)) (live : List Mirror) → sent_of uid (left_entries file causes live) ≡ []
left_sent uid file causes [] = refl
left_sent uid file [] (m ∷ live) = refl
left_sent uid file (None ∷ causes) (m ∷ live) = left_sent uid file causes live
left_sent uid file (Some cause ∷ causes) (m ∷ live) = left_sent uid file causes live

left_rogue : (uid : ℕ) (file : FileId) (causes : List (Option LeftCause)) (live : List Mirror) → rogue_of uid (left_entries file causes live) ≡ []
left_rogue uid file causes [] = refl
left_rogue uid file [] (m ∷ live) = refl
left_rogue uid file (None ∷ causes) (m ∷ live) = left_rogue uid file causes live
left_rogue uid file (Some cause ∷ causes) (m ∷ live) = left_rogue uid file causes live

rogue_join : (uid : ℕ) (a b : List Entry) → rogue_of uid (a ++ b) ≡ rogue_of uid a ++ rogue_of uid b
rogue_join uid [] b = refl
rogue_join uid (e ∷ a) b = ap (λ (l : List Pending). strayed_in uid e ++ l) (rogue_join uid a b) ∙ sym (append_assoc (strayed_in uid e) (rogue_of uid a) (rogue_of uid b))

-- behind entries that say nothing of them
same_sent : (uid : ℕ) (a b : List Entry) → sent_of uid b ≡ [] → sent_of uid (a ++ b) ≡ sent_of uid a
same_sent uid a b none = sent_join uid a b ∙ (ap (λ (l : List Pending). sent_of uid a ++ l) none ∙ append-nil (sent_of uid a))

same_rogue : (uid : ℕ) (a b : List Entry) → rogue_of uid b ≡ [] → rogue_of uid (a ++ b) ≡ rogue_of uid a
same_rogue uid a b none = rogue_join uid a b ∙ (ap (λ (l : List Pending). rogue_of uid a ++ l) none ∙ append-nil (rogue_of uid a))

-- the places that are reported
named : (places : List Bool) → map is_some (map reported_cause places) ≡ places
named [] = refl
named (true ∷ places) = ap (λ (l : List Bool). true ∷ l) (named places)
named (false ∷ places) = ap (λ (l : List Bool). false ∷ l) (named places)

may_by : (packets : List PacketValue) (journal : List Entry) (uid : ℕ) (m : Mirror) (kept live : List Mirror) → live ≡ m ∷ kept → rogue_of uid journal ≡ [] → AreCovered packets journal uid (ids_of live)
    → MayEnd packets journal uid live
may_by packets journal uid m kept live is follows covered = subst (MayEnd packets journal uid) (sym is) (record { follows = follows; covered = subst (λ (l : List Mirror). AreCovered packets journal uid (ids_of l)) is covered })

-- with no mirror left, or by a proof where there is one
may_end : (packets : List PacketValue) (journal : List Entry) (uid : ℕ) (live : List Mirror) → ((m : Mirror) (kept : List Mirror) → live ≡ m ∷ kept → MayEnd packets journal uid live) → MayEnd packets journal uid live
may_end packets journal uid live each = by_list live refl each
  where
    by_list : (l : List Mirror) → live ≡ l → ((m : Mirror) (kept : List Mirror) → live ≡ m ∷ kept → MayEnd packets journal uid live) → MayEnd packets journal uid live
    by_list [] is by = subst (MayEnd packets journal uid) (sym is) tt
    by_list (m ∷ kept) is by = by m kept is

module _ (old new : List PacketValue) (keeps : PacketsKept old new) (journal es : List Entry) (file : FileId) (f : MdsFile) (fresh : Fresh) where
  abbrev so_far : List Entry
  so_far = journal ++ telling es

  abbrev uid : ℕ
  uid = f.layout.cred.0

  ids_still : (all : List Pending) (ids : List MirrorId) → AllByRecursion (λ (id : MirrorId). AllByRecursion (IsCovered old uid id) all) ids → AllByRecursion (λ (id : MirrorId). AllByRecursion (IsCovered new uid id) all) ids
  ids_still all ids h =
      all_more (λ (id : MirrorId). AllByRecursion (IsCovered old uid id) all) (λ (id : MirrorId). AllByRecursion (IsCovered new uid id) all) ids
      (λ id each. all_more (IsCovered old uid id) (IsCovered new uid id) all (λ w c. covered_still old new keeps uid id w.at w.bytes c) each) h

  -- ---- a return

  module _ (stands : FileStands so_far file.0 f) (client : ℕ) (claimed : Cred) (places : List Bool) where
    abbrev lefts : List Entry
    lefts = left_entries file (map reported_cause places) f.layout.live

    return_entries : (is_recalled : Bool) → f.layout.phase ≡ Held (Client client) is_recalled → f.layout.cred.0 ≡ claimed.0 → (m : Mirror) (kept : List Mirror) → unreported places f.layout.live ≡ m ∷ kept
        → (phase file f (Returns client claimed places) fresh).entries ≡ lefts ++ entry.Ended file f.layout.cred Returned ∷ []
    return_entries is_recalled held claims m kept is =
        ap (λ (p : LayoutPhase). (held_in f (by_client f (returned_row file f client claimed places fresh)) p).entries) held
        ∙ (ap (λ (b : Bool). (cond b (goes_fencing (returned file f.layout places (a_uid fresh.uid)) fresh.uid) (nothing f)).entries)
        (and_from (client == client) (f.layout.cred.0 == claimed.0) (eq-eqb client client refl) (eq-eqb f.layout.cred.0 claimed.0 claims))
        ∙ ap (λ (l : List Mirror). end_entries file f.layout.cred lefts Returned l) is)

    live_then : (is_recalled : Bool) → f.layout.phase ≡ Held (Client client) is_recalled → live_in (journal ++ telling (es ++ lefts)) file ≡ Some (ids_of (unreported places f.layout.live))
    live_then is_recalled held =
        let was : live_in so_far file ≡ Some (ids_of f.layout.live) = stands.live ∙ ap (λ (p : LayoutPhase). live_of p (ids_of f.layout.live)) held in
        ap (λ (j : List Entry). live_in j file) (told_join journal es lefts ∙ ap (λ (l : List Entry). so_far ++ l) (left_told file (map reported_cause places) f.layout.live))
        ∙ (live_append file None so_far lefts
        ∙ (ap (λ (l : Option (List MirrorId)). live_by file l lefts) was
        ∙ (all_left file (map reported_cause places) [] f.layout.live apart ∙ ap (λ (l : List Bool). Some (ids_of (unreported l f.layout.live))) (named places))))
      where
        apart : Rattle.cluster_model.specs.Mirrors.are_on_different_servers f.layout.live ≡ true
        apart = stands.apart

    pub return_may : EndsInOrder old journal (es ++ (phase file f (Returns client claimed places) fresh).entries) → (is_recalled : Bool) → f.layout.phase ≡ Held (Client client) is_recalled → f.layout.cred.0 ≡ claimed.0
        → MayEnd new so_far uid (unreported places f.layout.live)
    return_may ends is_recalled held claims =
        may_end new so_far uid (unreported places f.layout.live)
        (λ m kept is.
        (let split : es ++ (phase file f (Returns client claimed places) fresh).entries ≡ (es ++ lefts) ++ entry.Ended file f.layout.cred Returned ∷ [] =
        ap (λ (l : List Entry). es ++ l) (return_entries is_recalled held claims m kept is) ∙ sym (append_assoc es lefts (entry.Ended file f.layout.cred Returned ∷ [])) in
        let end : EndsByReturn old (journal ++ telling (es ++ lefts)) file uid = ends (es ++ lefts) [] file f.layout.cred Returned split in
        let joined : journal ++ telling (es ++ lefts) ≡ so_far ++ lefts = told_join journal es lefts ∙ ap (λ (l : List Entry). so_far ++ l) (left_told file (map reported_cause places) f.layout.live) in
        let sent : sent_of uid (journal ++ telling (es ++ lefts)) ≡ sent_of uid so_far = ap (sent_of uid) joined ∙ same_sent uid so_far lefts (left_sent uid file (map reported_cause places) f.layout.live) in
        let rogue : rogue_of uid (journal ++ telling (es ++ lefts)) ≡ rogue_of uid so_far = ap (rogue_of uid) joined ∙ same_rogue uid so_far lefts (left_rogue uid file (map reported_cause places) f.layout.live) in
        let covered : AllByRecursion (λ (id : MirrorId). AllByRecursion (IsCovered old uid id) (sent_of uid so_far)) (ids_of (unreported places f.layout.live)) =
        subst (λ (all : List Pending). AllByRecursion (λ (id : MirrorId). AllByRecursion (IsCovered old uid id) all) (ids_of (unreported places f.layout.live))) sent
        (end.covered (ids_of (unreported places f.layout.live)) (live_then is_recalled held)) in
        may_by new so_far uid m kept (unreported places f.layout.live) is (sym rogue ∙ end.follows) (ids_still (sent_of uid so_far) (ids_of (unreported places f.layout.live)) covered)))

  -- ---- an own write's end

  module _ (causes : List (Option LeftCause)) (at : ℕ) (bytes : List ℕ) where
    abbrev told : Entry
    told = entry.Told file f.layout.cred at bytes

    abbrev gone : List Entry
    gone = left_entries file causes f.layout.live

    own_entries : (is_recalled : Bool) → f.layout.phase ≡ Held Mds is_recalled → (m : Mirror) (kept : List Mirror) → unreported (map is_some causes) f.layout.live ≡ m ∷ kept
        → (phase file f (OwnEnds causes at bytes) fresh).entries ≡ (gone ++ told ∷ []) ++ entry.Ended file f.layout.cred Own ∷ []
    own_entries is_recalled held m kept is =
        ap (λ (p : LayoutPhase). (held_in f (by_mds f (own_row file f causes told fresh)) p).entries) held ∙ ap (λ (l : List Mirror). end_entries file f.layout.cred (gone ++ told ∷ []) Own l) is

    pub own_may : EndsInOrder old journal (es ++ (phase file f (OwnEnds causes at bytes) fresh).entries) → AllByRecursion (λ (id : MirrorId). IsCovered new uid id (the_write at bytes)) (ids_of (unreported (map is_some causes) f.layout.live))
        → (is_recalled : Bool) → f.layout.phase ≡ Held Mds is_recalled → MayEnd new so_far uid (unreported (map is_some causes) f.layout.live)
    own_may ends covers is_recalled held =
        may_end new so_far uid (unreported (map is_some causes) f.layout.live)
        (λ m kept is.
        (let before : List Entry = es ++ gone in
        let all : List Entry = es ++ (gone ++ told ∷ []) in
        let split : es ++ (phase file f (OwnEnds causes at bytes) fresh).entries ≡ (es ++ (gone ++ told ∷ [])) ++ entry.Ended file f.layout.cred Own ∷ [] =
        ap (λ (l : List Entry). es ++ l) (own_entries is_recalled held m kept is) ∙ sym (append_assoc es (gone ++ told ∷ []) (entry.Ended file f.layout.cred Own ∷ [])) in
        let end : EndsByOwn (journal ++ telling (es ++ (gone ++ told ∷ []))) (es ++ (gone ++ told ∷ [])) file f.layout.cred = ends (es ++ (gone ++ told ∷ [])) [] file f.layout.cred Own split in
        let joined : journal ++ telling (es ++ (gone ++ told ∷ [])) ≡ so_far ++ (gone ++ told ∷ []) =
        told_join journal es (gone ++ told ∷ []) ∙ ap (λ (l : List Entry). so_far ++ l) (all_told told refl) in
        let sent : sent_of uid (journal ++ telling (es ++ (gone ++ told ∷ []))) ≡ sent_of uid so_far =
        ap (sent_of uid) joined ∙ same_sent uid so_far (gone ++ told ∷ []) (same_sent uid gone (told ∷ []) refl ∙ left_sent uid file causes f.layout.live) in
        let rogue : rogue_of uid (journal ++ telling (es ++ (gone ++ told ∷ []))) ≡ rogue_of uid so_far =
        ap (rogue_of uid) joined ∙ same_rogue uid so_far (gone ++ told ∷ []) (same_rogue uid gone (told ∷ []) refl ∙ left_rogue uid file causes f.layout.live) in
        let one : sent_of uid so_far ≡ a_write at bytes = sym sent ∙ end.one (es ++ gone) at bytes (sym (append_assoc es gone (told ∷ []))) in
        let covered : AllByRecursion (λ (id : MirrorId). AllByRecursion (IsCovered new uid id) (a_write at bytes)) (ids_of (unreported (map is_some causes) f.layout.live)) =
        all_more (λ (id : MirrorId). IsCovered new uid id (the_write at bytes)) (λ (id : MirrorId). AllByRecursion (IsCovered new uid id) (a_write at bytes)) (ids_of (unreported (map is_some causes) f.layout.live)) (λ id c. (c, tt)) covers in
        may_by new so_far uid m kept (unreported (map is_some causes) f.layout.live) is (sym rogue ∙ end.follows)
        (subst (λ (w : List Pending). AllByRecursion (λ (id : MirrorId). AllByRecursion (IsCovered new uid id) w) (ids_of (unreported (map is_some causes) f.layout.live))) (sym one) covered)))
      where
        all_told : (e : Entry) → telling (e ∷ []) ≡ e ∷ [] → telling (gone ++ e ∷ []) ≡ gone ++ e ∷ []
        all_told e is = Rattle.machine_moves.proofs.Going.telling_append gone (e ∷ []) ∙ (ap (λ (l : List Entry). l ++ telling (e ∷ [])) (left_told file causes f.layout.live) ∙ ap (λ (l : List Entry). gone ++ l) is)
