-- Writes that are told.
use Rattle.std.proofs.Common.{◌≡◌, ℕ, true, List, [], ◌∷◌, ◌++◌, Option, Some, None, refl, sym, ap, subst, ◌∙◌, inl, inr, ◌⊎◌}
use Rattle.std.specs.Prelude.{slice_get, option_map, not}
use Rattle.std.specs.List.{filter}
use Rattle.std.proofs.lemmas.Option.{none-some, same_Some, slice_get-map}
use Rattle.cluster_model.specs.declared.ids.Mirror.{Mirror}
use Rattle.cluster_model.specs.declared.ids.MirrorId.{MirrorId}
use Rattle.cluster_model.specs.declared.ids.NodeId.TheVariants.{Mds}
use Rattle.cluster_model.specs.declared.entry.Entry.TheVariants.{Told}
use Rattle.mirror_writer.specs.declared.call.TakenWrite.{TakenWrite}
use Rattle.mirror_writer.specs.Writers.{WriterMirror, WriterValue, covered_flag}
use Rattle.mirror_writer.specs.Outstanding.{is_covered_everywhere}
use Rattle.client_file_calls.specs.declared.open.OpenFile.{OpenFile}
use Rattle.client_file_calls.specs.declared.grant.LayoutGrant.{LayoutGrant}
use Rattle.client_mds_calls.specs.FittingCalls.{reports_server}
use Rattle.client_mds_calls.specs.MdsCalls.{OnSlot}
use Rattle.client_mds_calls.specs.MdsCalls as slot
use Rattle.client_state.specs.declared.layout.Layout.{Layout}
use Rattle.client_state.specs.ClientStates.{ClientValue}
use Rattle.client_state.specs.ClientQueue.{with_layout}
use Rattle.client_state.specs.ClientSends.{CallsMds}
use Rattle.client_answers.specs.ClientMirrors.{told_entry, told_entries, tells, tells_covered}
use Rattle.client_laws.specs.ClientHistory.{HistoryItem, Hears, Enters, Sends, Recorded, entered, Each}
use Rattle.client_laws.specs.ClientRunLaws.{WasCovered, CoveredAtEach, CoveredByReturn, MayBeTold}
use Rattle.client_laws.proofs.Orders.{in_more}
use Rattle.client_laws.proofs.Later.{AreIdle, covered_later, granted_later, stands_later, under_uid_later}
use Rattle.client_laws.proofs.LayoutMoves.{untold_stands}
use Rattle.client_laws.proofs.Places.{all_at, every_filter}
use Rattle.client_laws.proofs.Goes.{IsRight, RunGoes, run_unmoved, KeepsLayout, with_layout_stands}
use Rattle.client_laws.proofs.Stands.{Every, TakenCovered, Stands, LayoutStands, IfThere, reported_of}

abbrev pub by_return_later : (h more : List HistoryItem) (grant : LayoutGrant) (at : ℕ) (d : List ℕ) → CoveredByReturn h grant at d → CoveredByReturn (h ++ more) grant at d
by_return_later h more grant at d c =
    let items : List HistoryItem = Sends (CallsMds c.xid c.name (OnSlot c.session c.sequence (slot.LayoutReturn c.file grant.stateid c.failed))) ∷ Hears (Recorded Mds c.bytes c.now) ∷ [] in
    record {
      xid = c.xid;
      name = c.name;
      session = c.session;
      sequence = c.sequence;
      file = c.file;
      failed = c.failed;
      bytes = c.bytes;
      now = c.now;
      says = c.says;
      order = in_more items h more c.order;
      covered = λ place m there not_so. covered_later h more m.id grant.uid.0 at d items (c.covered place m there not_so);
    }

tell_later : (h more : List HistoryItem) (uid at : ℕ) (d : List ℕ) → MayBeTold h uid at d → MayBeTold (h ++ more) uid at d
tell_later h more uid at d t = record { grant = t.grant; granted = granted_later h more t.grant t.granted; its_uid = t.its_uid; taken = under_uid_later h more uid at d t.taken; covered = by_way t.covered }
  where
    by_way : CoveredAtEach h t.grant at d ⊎ CoveredByReturn h t.grant at d → CoveredAtEach (h ++ more) t.grant at d ⊎ CoveredByReturn (h ++ more) t.grant at d
    by_way (inl each) = inl (λ place m there. covered_later h more m.id t.grant.uid.0 at d [] (each place m there))
    by_way (inr c) = inr (by_return_later h more t.grant at d c)

-- a taken write may be told
abbrev pub MayTellWrite : List HistoryItem → WriterValue → ℕ → Type 0
MayTellWrite past w n = (t : TakenWrite) → slice_get w.taken n ≡ Some t → MayBeTold past w.cred t.at t.bytes

writes_later : (h more : List HistoryItem) (w : WriterValue) (ns : List ℕ) → Every (MayTellWrite h w) ns → Every (MayTellWrite (h ++ more) w) ns
writes_later h more w [] all = tt
writes_later h more w (n ∷ ns) all = (λ t there. tell_later h more w.cred t.at t.bytes (all.0 t there), writes_later h more w ns all.1)

pub told_go : (file : OpenFile) (w : WriterValue) (ns : List ℕ) (past : List HistoryItem) → Every (MayTellWrite past w) ns → Each IsRight past (entered (told_entries file w ns))
told_go file w [] past all = tt
told_go file w (n ∷ ns) past all = by_write (slice_get w.taken n) refl (told_go file w ns past all.1) (λ item. told_go file w ns (past ++ item ∷ []) (writes_later past (item ∷ []) w ns all.1))
  where
    by_write : (o : Option TakenWrite) → slice_get w.taken n ≡ o → Each IsRight past (entered (told_entries file w ns)) → ((item : HistoryItem) → Each IsRight (past ++ item ∷ []) (entered (told_entries file w ns)))
        → Each IsRight past (entered (told_entry file w.cred o ++ told_entries file w ns))
    by_write None there rest further = rest
    by_write (Some t) there rest further = ((tt, all.0 t there, tt, tt, tt, tt), further (Enters (Told file.file (record { 0 = w.cred }) t.at t.bytes)))

told_idle : (file : OpenFile) (w : WriterValue) (ns : List ℕ) → AreIdle (entered (told_entries file w ns))
told_idle file w [] = tt
told_idle file w (n ∷ ns) = by_write (slice_get w.taken n) (told_idle file w ns)
  where
    by_write : (o : Option TakenWrite) → AreIdle (entered (told_entries file w ns)) → AreIdle (entered (told_entry file w.cred o ++ told_entries file w ns))
    by_write None rest = rest
    by_write (Some t) rest = (tt, rest)

pub tells_go : (past : List HistoryItem) (file : OpenFile) (w : WriterValue) (ns : List ℕ) (c : ClientValue) → Every (MayTellWrite past w) ns → Stands past c → RunGoes past (tells file w ns c)
tells_go past file w ns c all s = record { entries = told_go file w ns past all; stands = stands_later past (entered (told_entries file w ns)) c (told_idle file w ns) s }

-- ---- those that are covered at each mirror

-- what is covered everywhere is so at each mirror of the grant
pub covered_each : (past : List HistoryItem) (name : List ℕ) (l : Layout) (s : LayoutStands past name (reports_server (reported_of l)) l) (n : ℕ) → is_covered_everywhere l.writer n ≡ true → (t : TakenWrite) → slice_get l.writer.taken n ≡ Some t → CoveredAtEach past s.grant t.at t.bytes
covered_each past name l s n everywhere t there =
    λ place m found. by_mirror place m (slice_get l.writer.mirrors place) refl (sym (slice_get-map (λ (x : WriterMirror). x.id) l.writer.mirrors place) ∙ ap (λ k. slice_get k place) s.ids ∙ slice_get-map (λ (x : Mirror). x.id) l.mirrors place ∙ ap (λ k. option_map (λ (x : Mirror). x.id) (slice_get k place)) s.mirrors ∙ ap (option_map (λ (x : Mirror). x.id)) found)
  where
    by_mirror : (place : ℕ) (m : Mirror) (o : Option WriterMirror) → slice_get l.writer.mirrors place ≡ o → option_map (λ (x : WriterMirror). x.id) o ≡ Some m.id → WasCovered past m.id s.grant.uid.0 t.at t.bytes []
    by_mirror place m None found is = absurd (none-some m.id is)
    by_mirror place m (Some x) found is =
        let its : TakenCovered past l.writer.cred l.writer.taken x.id n = (s.writer place x found).covered n (all_at (λ (k : WriterMirror). covered_flag (slice_get k.covered n)) l.writer.mirrors everywhere place x found) in
        let one : its.write ≡ t = same_Some its.write t (sym its.there ∙ there) in
        subst (λ (k : ℕ). WasCovered past m.id k t.at t.bytes []) s.uid
        (subst (λ (i : MirrorId). WasCovered past i l.writer.cred t.at t.bytes []) (same_Some x.id m.id is) (subst (λ (k : TakenWrite). WasCovered past x.id l.writer.cred k.at k.bytes []) one its.covered))

covered_tells : (past : List HistoryItem) (name : List ℕ) (l : Layout) → LayoutStands past name (reports_server (reported_of l)) l → (n : ℕ) → is_covered_everywhere l.writer n ≡ true → MayTellWrite past l.writer n
covered_tells past name l s n everywhere t there = record {
  grant = s.grant;
  granted = s.granted;
  its_uid = sym s.uid;
  taken = s.entered n t there;
  covered = inl (covered_each past name l s n everywhere t there);
}

every_any : (ns : List ℕ) → Every (λ n. Unit {0}) ns
every_any [] = tt
every_any (n ∷ ns) = (tt, every_any ns)

every_covered : (past : List HistoryItem) (name : List ℕ) (l : Layout) → LayoutStands past name (reports_server (reported_of l)) l → (ns : List ℕ) → Every (λ n. Unit {0} × (is_covered_everywhere l.writer n ≡ true)) ns → Every (MayTellWrite past l.writer) ns
every_covered past name l s [] all = tt
every_covered past name l s (n ∷ ns) all = (covered_tells past name l s n all.0.1, every_covered past name l s ns all.1)

pub tells_covered_go : (past : List HistoryItem) (file : OpenFile) (c : ClientValue) (layout : Option Layout) → c.layout ≡ layout → Stands past c → RunGoes past (tells_covered file layout c)
tells_covered_go past file c None at s = run_unmoved past c s
tells_covered_go past file c (Some l) at s =
    let old : LayoutStands past c.name (reports_server (reported_of l)) l = subst (λ (o : Option Layout). IfThere o (λ l. LayoutStands past c.name (reports_server (reported_of l)) l)) at s.layout_stands in
    tells_go past file l.writer (filter (is_covered_everywhere l.writer) l.untold) (with_layout c new)
    (every_covered past c.name l old (filter (is_covered_everywhere l.writer) l.untold) (every_filter (λ n. Unit {0}) (is_covered_everywhere l.writer) l.untold (every_any l.untold)))
    (with_layout_stands past c (Some new) s (subst (λ (o : Option Layout). KeepsLayout o (Some new)) (sym at) (λ stage. record { stateid = refl; mirrors = refl; cred = refl; taken = refl; stage = stage }))
    (untold_stands past c.name (reports_server (reported_of l)) l old (filter (λ n. not (is_covered_everywhere l.writer n)) l.untold)))
  where
    new : Layout
    new = record l { untold = filter (λ n. not (is_covered_everywhere l.writer n)) l.untold }
