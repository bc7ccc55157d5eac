-- A period was granted to its client's node, and its live mirrors are those that were live then.
use Rattle.std.proofs.Common.{◌≡◌, ℕ, Bool, true, false, cond, List, [], ◌∷◌, ◌++◌, Option, Some, None, refl, sym, ap, subst, ◌∙◌, inl, inr, ◌⊎◌}
use Rattle.std.specs.Prelude.{not, filter, map, slice_get, is_some}
use Rattle.std.specs.List.{AllByRecursion}
use Rattle.std.proofs.lemmas.Bool.{cond_both, ne_eqb}
use Rattle.std.proofs.lemmas.List.{append_assoc}
use Rattle.std.proofs.lemmas.Option.{none-some}
use Rattle.cluster_model.specs.declared.ids.NodeId.{NodeId}
use Rattle.cluster_model.specs.declared.ids.NodeId.TheVariants.{Mds, Server, Client}
use Rattle.cluster_model.specs.declared.ids.FileId.{FileId}
use Rattle.cluster_model.specs.declared.ids.Cred.{Cred}
use Rattle.cluster_model.specs.declared.ids.Mirror.{Mirror}
use Rattle.cluster_model.specs.declared.ids.MirrorId.{MirrorId}
use Rattle.cluster_model.specs.declared.entry.Entry.{Entry}
use Rattle.cluster_model.specs.declared.entry.Entry.TheVariants as entry
use Rattle.cluster_model.specs.declared.layout_state.LayoutState.{LayoutState}
use Rattle.cluster_model.specs.declared.layout_state.LayoutPhase.{LayoutPhase}
use Rattle.cluster_model.specs.declared.layout_state.LayoutPhase.TheVariants.{Making, Free, Held, Fencing, Settling, Copying}
use Rattle.cluster_model.specs.DsCalls.{DsReplyValue}
use Rattle.cluster_model.specs.Fences.{waits, FenceCall, next_call}
use Rattle.cluster_model.specs.Journal.{is_mirror}
use Rattle.cluster_model.specs.Phases.{ids_of, holder_of, unreported, left_with}
use Rattle.copy_rule.specs.Copies.{CopyCall}
use Rattle.copy_rule.specs.Copies as copy
use Rattle.file_rule.specs.declared.fresh.Fresh.{Fresh}
use Rattle.file_rule.specs.declared.creation.Creation.{Creation}
use Rattle.file_rule.specs.MdsFiles.{Creations, Activity, Idle, Makes, Fences, Settles, Copies, MdsFile, FileStep, a_uid}
use Rattle.file_rule.specs.FilePhases.{FileInput, AsksLayout, OwnWrite, Recall, Returns, Revokes, OwnEnds, Resilver, Answers, TimesOut, Ticks, Sees, asked_in, held_in, by_client, by_mds, recalled_row, returned_row, revoked_row, own_row, resilvered_in, kind_of, CallOut, creation_waiting, create_out_at, create_out, fence_out, settle_out, copy_out, call_out_of, call_out, answered_in, timed_out_in, phase}
use Rattle.layout_state.specs.Grants.{is_held}
use Rattle.cluster_laws.specs.FenceLaw.{live_in, live_by, live_after, changed_live, first_free, swapped_in}
use Rattle.cluster_laws.proofs.Invariant.{live_of}
use Rattle.cluster_laws.proofs.Journals.{live_append}
use Rattle.cluster_laws.proofs.FewMirrors.{FileHasFew}
use Rattle.cluster_laws.proofs.FewSteps.{phase_few, OutFew, out_few}
use Rattle.mds_laws.proofs.Keeping.{is_note}
use Rattle.mds_replies.specs.PeriodEntries.{IsBegun}
use Rattle.mds_laws.proofs.FileGrants.{out_layout}
use Rattle.mds_laws.proofs.PeriodUids.{is_making, Agrees}
use Rattle.mds_replies.proofs.HeldFiles.{After, GoesOn, IsOver, held_after}
use Rattle.mds_replies.proofs.MirrorsTold.{IsOf, told, is_fencing, Fits, IsGrant, Tells, LeaveSo, phase_tells}
use Rattle.mds_replies.proofs.MirrorsLeave.{ids_stay}

no_more : {A : Type 0} → false ≡ true → A
no_more is = absurd cc

-- ---- what is under way, behind a call that goes out

fits_agree : (p : LayoutPhase) (a : Activity) → Fits p a → Agrees a p
fits_agree p Idle fits = tt
fits_agree p (Makes all) fits = fits
fits_agree p (Fences x) fits = tt
fits_agree p (Settles stage) fits = tt
fits_agree p (Copies c) fits = fits

module _ (f : MdsFile) where
  abbrev OutFits : Option CallOut → Type 0
  OutFits None = Unit {0}
  OutFits (Some c) = Fits c.file.layout.phase c.file.activity

  create_at_fits : (all : Creations) (xid place : ℕ) (o : Option Creation) → is_making f.layout.phase ≡ true → OutFits (create_out_at f all xid place o)
  create_at_fits all xid place None its = tt
  create_at_fits all xid place (Some c) its = its

  create_fits : (all : Creations) (xid : ℕ) (o : Option ℕ) → is_making f.layout.phase ≡ true → OutFits (create_out f all xid o)
  create_fits all xid None its = tt
  create_fits all xid (Some place) its = create_at_fits all xid place (slice_get all.items place) its

  fence_fits : (o : Option FenceCall) → is_fencing f.layout.phase ≡ true → OutFits (fence_out f o)
  fence_fits None its = tt
  fence_fits (Some c) its = its

  settle_fits : (xid : ℕ) (live : List Mirror) → is_some (kind_of f.layout.phase) ≡ true → OutFits (settle_out f xid live)
  settle_fits xid [] its = tt
  settle_fits xid (m ∷ live) its = its

  copy_fits : (o : Option CopyCall) → is_some (kind_of f.layout.phase) ≡ true → OutFits (copy_out f o)
  copy_fits None its = tt
  copy_fits (Some c) its = its

  out_of_fits : (xid : ℕ) (a : Activity) → Fits f.layout.phase a → OutFits (call_out_of f xid a)
  out_of_fits xid Idle its = tt
  out_of_fits xid (Makes all) its = create_fits all xid (creation_waiting all) its
  out_of_fits xid (Fences x) its = fence_fits (next_call x xid) its
  out_of_fits xid (Settles stage) its = cond_both (waits stage) (settle_out f xid f.layout.live) None OutFits (λ is. settle_fits xid f.layout.live its) (λ off. tt)
  out_of_fits xid (Copies c) its = copy_fits (copy.next_call c xid) its

  pub out_fits : (xid : ℕ) (c : CallOut) → Fits f.layout.phase f.activity → call_out f xid ≡ Some c → Fits c.file.layout.phase c.file.activity
  out_fits xid c its is = subst OutFits is (out_of_fits xid f.activity its)

-- ---- a file that the metadata server holds is not a client's behind an input

abbrev is_of_client : LayoutPhase → Bool
is_of_client (Held (Client n) is_recalled) = true
is_of_client p = false

module _ (file : FileId) (fresh : Fresh) (f : MdsFile) (off : is_of_client f.layout.phase ≡ false) where
  abbrev NotClient : FileStep → Type 0
  NotClient x = is_of_client x.file.layout.phase ≡ false

  client_off : (row : ℕ → FileStep) (holder : NodeId) (is_recalled : Bool) → f.layout.phase ≡ Held holder is_recalled → NotClient (by_client f row holder)
  client_off row Mds is_recalled at = off
  client_off row (Server n) is_recalled at = off
  client_off row (Client n) is_recalled at = no_more (sym off ∙ ap is_of_client at)

  left_off : (s : LayoutState) (next : Cred) (live : List Mirror) → is_of_client (left_with s next live).phase ≡ false
  left_off s next [] = refl
  left_off s next (m ∷ live) = refl

  own_off : (row : FileStep) (holder : NodeId) (is_recalled : Bool) → f.layout.phase ≡ Held holder is_recalled → NotClient row → NotClient (by_mds f row holder)
  own_off row Mds is_recalled at its = its
  own_off row (Server n) is_recalled at its = off
  own_off row (Client n) is_recalled at its = off

  module _ (holder : NodeId) (is_recalled : Bool) (at : f.layout.phase ≡ Held holder is_recalled) where
    by_phase : (row : LayoutPhase → FileStep) → NotClient (row (Held holder is_recalled)) → NotClient (row f.layout.phase)
    by_phase row is = subst (λ (p : LayoutPhase). NotClient (row p)) (sym at) is

    answered_off : (xid : ℕ) (reply : DsReplyValue) (a : Activity) → Fits f.layout.phase a → NotClient (answered_in file f xid reply fresh a)
    answered_off xid reply Idle fits = off
    answered_off xid reply (Makes all) fits = no_more (sym (ap is_making at) ∙ fits)
    answered_off xid reply (Fences x) fits = no_more (sym (ap is_fencing at) ∙ fits)
    answered_off xid reply (Settles stage) fits = no_more (sym (ap (λ (p : LayoutPhase). is_some (kind_of p)) at) ∙ fits)
    answered_off xid reply (Copies c) fits = no_more (sym (ap (λ (p : LayoutPhase). is_some (kind_of p)) at) ∙ fits)

    late_off : (xid : ℕ) (a : Activity) → Fits f.layout.phase a → NotClient (timed_out_in file f xid fresh a)
    late_off xid Idle fits = off
    late_off xid (Makes all) fits = no_more (sym (ap is_making at) ∙ fits)
    late_off xid (Fences x) fits = no_more (sym (ap is_fencing at) ∙ fits)
    late_off xid (Settles stage) fits = no_more (sym (ap (λ (p : LayoutPhase). is_some (kind_of p)) at) ∙ fits)
    late_off xid (Copies c) fits = no_more (sym (ap (λ (p : LayoutPhase). is_some (kind_of p)) at) ∙ fits)

    pub not_client : (input : FileInput) → Fits f.layout.phase f.activity → NotClient (phase file f input fresh)
    not_client (AsksLayout client) fits = by_phase (asked_in file f (Client client) [] fresh) off
    not_client (OwnWrite place bytes) fits = by_phase (asked_in file f Mds (entry.Sent file f.layout.cred place bytes ∷ []) fresh) off
    not_client Recall fits = by_phase (held_in f (by_client f (recalled_row f))) (client_off (recalled_row f) holder is_recalled at)
    not_client (Returns client claimed places) fits = by_phase (held_in f (by_client f (returned_row file f client claimed places fresh))) (client_off (returned_row file f client claimed places fresh) holder is_recalled at)
    not_client (Revokes cause) fits = by_phase (held_in f (by_client f (λ client. revoked_row file f cause fresh))) (client_off (λ client. revoked_row file f cause fresh) holder is_recalled at)
    not_client (OwnEnds causes place bytes) fits =
        by_phase (held_in f (by_mds f (own_row file f causes (entry.Told file f.layout.cred place bytes) fresh)))
        (own_off (own_row file f causes (entry.Told file f.layout.cred place bytes) fresh) holder is_recalled at (left_off f.layout (a_uid fresh.uid) (unreported (map is_some causes) f.layout.live)))
    not_client Resilver fits = by_phase (resilvered_in f fresh) off
    not_client (Answers xid reply) fits = answered_off xid reply f.activity fits
    not_client (TimesOut xid) fits = late_off xid f.activity fits
    not_client Ticks fits = off
    not_client (Sees id seen) fits = off

-- ---- entries of other files

other_one : (file g : FileId) (e : Entry) → IsOf file e → (file.0 ≡ g.0 → ⊥) → (was : Option (List MirrorId)) → live_after g was e ≡ was
other_one file g (entry.Free other live) is apart was = ap (λ (b : Bool). cond b (first_free live was) was) (ne_eqb other.0 g.0 (λ same. apart (ap (λ (x : FileId). x.0) (sym is) ∙ same)))
other_one file g (entry.Left other mirror cause) is apart was =
    ap (λ (b : Bool). cond b (changed_live (filter (λ m. not (is_mirror m mirror))) was) was) (ne_eqb other.0 g.0 (λ same. apart (ap (λ (x : FileId). x.0) (sym is) ∙ same)))
other_one file g (entry.Swapped other old new) is apart was = ap (λ (b : Bool). cond b (changed_live (swapped_in old new) was) was) (ne_eqb other.0 g.0 (λ same. apart (ap (λ (x : FileId). x.0) (sym is) ∙ same)))
other_one file g e is apart was = refl

pub other_live : (file g : FileId) (entries : List Entry) → AllByRecursion (IsOf file) entries → (file.0 ≡ g.0 → ⊥) → (was : Option (List MirrorId)) → live_by g was entries ≡ was
other_live file g [] all apart was = refl
other_live file g (e ∷ entries) all apart was = ap (λ (w : Option (List MirrorId)). live_by g w entries) (other_one file g e all.0 apart was) ∙ other_live file g entries all.1 apart was

pub note_live : (g : FileId) (e : Entry) → is_note e ≡ true → (was : Option (List MirrorId)) → live_after g was e ≡ was
note_live g (entry.Free other live) is was = absurd cc
note_live g (entry.Left other mirror cause) is was = absurd cc
note_live g (entry.Swapped other old new) is was = absurd cc
note_live g e is was = refl

-- ---- one file

pub record SoAt (es : List Entry) (file : FileId) (f : MdsFile) : Type 0 where
  pub told_so : live_in es file ≡ told f.layout
  pub fits : Fits f.layout.phase f.activity
  pub few : FileHasFew f
  pub begun : (node : ℕ) (is_recalled : Bool) → f.layout.phase ≡ Held (Client node) is_recalled → IsBegun es file f.layout.cred.0 node (ids_of f.layout.live)

begun_more : (es more : List Entry) (file : FileId) (uid node : ℕ) (live : List MirrorId) → IsBegun es file uid node live → IsBegun (es ++ more) file uid node live
begun_more es more file uid node live b = record {
  before = b.before;
  behind = b.behind ++ more;
  split = ap (λ (l : List Entry). l ++ more) b.split ∙ append_assoc b.before (entry.Granted file (record { 0 = uid }) (Client node) ∷ b.behind) more;
  live_then = b.live_then;
}

-- where the entries that come say nothing of it
pub so_more : (es more : List Entry) (g : FileId) (f : MdsFile) → ((was : Option (List MirrorId)) → live_by g was more ≡ was) → SoAt es g f → SoAt (es ++ more) g f
so_more es more g f still i = record {
  told_so = live_append g None es more ∙ still (live_in es g) ∙ i.told_so;
  fits = i.fits;
  few = i.few;
  begun = λ node is_recalled at. begun_more es more g f.layout.cred.0 node (ids_of f.layout.live) (i.begun node is_recalled at);
}

abbrev holder_in : LayoutPhase → NodeId → NodeId
holder_in (Held holder is_recalled) other = holder
holder_in p other = other

abbrev node_of : NodeId → ℕ → ℕ
node_of (Client n) other = n
node_of node other = other

pub so_behind : (file : FileId) (fresh : Fresh) (es : List Entry) (f : MdsFile) (input : FileInput) → LeaveSo file f input → SoAt es file f → SoAt (es ++ (phase file f input fresh).entries) file (phase file f input fresh).file
so_behind file fresh es f input leave i = record {
  told_so = live_append file None es (phase file f input fresh).entries ∙ ap (λ (w : Option (List MirrorId)). live_by file w (phase file f input fresh).entries) i.told_so ∙ t.live;
  fits = t.fits;
  few = (phase_few file fresh f input i.few).file;
  begun = λ node is_recalled at. by_old node is_recalled at f.layout.phase refl;
}
  where
    t : Tells file f.layout (phase file f input fresh)
    t = phase_tells file fresh f input i.fits leave

    by_after : (node n : ℕ) (x y : Bool) → (phase file f input fresh).file.layout.phase ≡ Held (Client node) x → f.layout.phase ≡ Held (Client n) y → After file n f.layout.cred (phase file f input fresh)
        → IsBegun (es ++ (phase file f input fresh).entries) file (phase file f input fresh).file.layout.cred.0 node (ids_of (phase file f input fresh).file.layout.live)
    by_after node n x y at was (GoesOn h) =
        let same : n ≡ node = ap (λ (p : LayoutPhase). node_of (holder_in p (Client n)) n) (sym h.phase ∙ at) in
        let ids : ids_of (phase file f input fresh).file.layout.live ≡ ids_of f.layout.live = ids_stay file fresh f n y was input i.fits (ap is_held at) in
        subst (λ (k : ℕ). IsBegun (es ++ (phase file f input fresh).entries) file (phase file f input fresh).file.layout.cred.0 k (ids_of (phase file f input fresh).file.layout.live)) same
        (subst (λ (c : Cred). IsBegun (es ++ (phase file f input fresh).entries) file c.0 n (ids_of (phase file f input fresh).file.layout.live)) (sym h.its)
        (subst (λ (l : List MirrorId). IsBegun (es ++ (phase file f input fresh).entries) file f.layout.cred.0 n l) (sym ids)
        (begun_more es (phase file f input fresh).entries file f.layout.cred.0 n (ids_of f.layout.live) (i.begun n y was))))
    by_after node n x y at was (IsOver e none) = absurd (none-some (Client node) (sym none ∙ ap holder_of at))

    by_grant : (node : ℕ) (x : Bool) → (phase file f input fresh).file.layout.phase ≡ Held (Client node) x → IsGrant file f.layout (phase file f input fresh)
        → IsBegun (es ++ (phase file f input fresh).entries) file (phase file f input fresh).file.layout.cred.0 node (ids_of (phase file f input fresh).file.layout.live)
    by_grant node x at g =
        let hers : g.holder ≡ Client node = ap (λ (p : LayoutPhase). holder_in p g.holder) (sym g.held ∙ at) in
        record {
          before = es;
          behind = g.rest;
          split = ap (λ (l : List Entry). es ++ l)
              (g.entries ∙ ap (λ (h : NodeId). entry.Granted file f.layout.cred h ∷ g.rest) hers ∙ ap (λ (c : Cred). entry.Granted file c (Client node) ∷ g.rest) (sym g.cred));
          live_then = i.told_so ∙ ap (λ (p : LayoutPhase). live_of p (ids_of f.layout.live)) g.free ∙ ap (λ (l : List Mirror). Some (ids_of l)) (sym g.live);
        }

    by_held : (node : ℕ) (x : Bool) → (phase file f input fresh).file.layout.phase ≡ Held (Client node) x → is_held f.layout.phase ≡ false → (is_held f.layout.phase ≡ true) ⊎ IsGrant file f.layout (phase file f input fresh)
        → IsBegun (es ++ (phase file f input fresh).entries) file (phase file f input fresh).file.layout.cred.0 node (ids_of (phase file f input fresh).file.layout.live)
    by_held node x at off (inl its) = no_more (sym off ∙ its)
    by_held node x at off (inr g) = by_grant node x at g

    not_hers : (node : ℕ) (x : Bool) → (phase file f input fresh).file.layout.phase ≡ Held (Client node) x → (holder : NodeId) (y : Bool) → f.layout.phase ≡ Held holder y → is_of_client f.layout.phase ≡ false
        → IsBegun (es ++ (phase file f input fresh).entries) file (phase file f input fresh).file.layout.cred.0 node (ids_of (phase file f input fresh).file.layout.live)
    not_hers node x at holder y was off = no_more (sym (not_client file fresh f off holder y was input i.fits) ∙ ap is_of_client at)

    by_old : (node : ℕ) (x : Bool) → (phase file f input fresh).file.layout.phase ≡ Held (Client node) x → (q : LayoutPhase) → f.layout.phase ≡ q
        → IsBegun (es ++ (phase file f input fresh).entries) file (phase file f input fresh).file.layout.cred.0 node (ids_of (phase file f input fresh).file.layout.live)
    by_old node x at Making was = by_held node x at (ap is_held was) (t.held (ap is_held at))
    by_old node x at Free was = by_held node x at (ap is_held was) (t.held (ap is_held at))
    by_old node x at (Held (Client n) y) was = by_after node n x y at was (held_after file fresh n f.layout.cred f input (fits_agree f.layout.phase f.activity i.fits) (record { is_recalled = y; phase = was; its = refl }))
    by_old node x at (Held Mds y) was = not_hers node x at Mds y was (ap is_of_client was)
    by_old node x at (Held (Server n) y) was = not_hers node x at (Server n) y was (ap is_of_client was)
    by_old node x at (Fencing next end) was = by_held node x at (ap is_held was) (t.held (ap is_held at))
    by_old node x at (Settling copies) was = by_held node x at (ap is_held was) (t.held (ap is_held at))
    by_old node x at (Copying copier copies) was = by_held node x at (ap is_held was) (t.held (ap is_held at))

-- a call that goes out of it
pub so_out : (es : List Entry) (file : FileId) (f : MdsFile) (xid : ℕ) (c : CallOut) → call_out f xid ≡ Some c → SoAt es file f → SoAt es file c.file
so_out es file f xid c is i = record {
  told_so = i.told_so ∙ ap (λ (l : LayoutState). told l) (sym (out_layout f xid c is));
  fits = out_fits f xid c i.fits is;
  few = subst (OutFew f i.few) is (out_few f i.few xid f.activity i.few.room);
  begun = subst (λ (l : LayoutState). (node : ℕ) (is_recalled : Bool) → l.phase ≡ Held (Client node) is_recalled → IsBegun es file l.cred.0 node (ids_of l.live)) (sym (out_layout f xid c is)) i.begun;
}
