-- Rows of the table of phases that are no answers: a file stays what it has to be.
use Rattle.std.proofs.Common.{◌≡◌, ◌≢◌, ℕ, ◌<◌, ◌≤◌, Bool, true, false, cond, not, List, [], ◌∷◌, ◌++◌, map, filter, Option, Some, None, refl, sym, ap, subst, ◌∙◌, arith}
use Rattle.std.specs.List.{AllByRecursion}
use Rattle.std.proofs.lemmas.Bool.{ne_eqb}
use Rattle.cluster_model.specs.declared.ids.NodeId.{NodeId}
use Rattle.cluster_model.specs.declared.ids.FileId.{FileId}
use Rattle.cluster_model.specs.declared.ids.Cred.{Cred}
use Rattle.cluster_model.specs.declared.ids.MirrorId.{MirrorId}
use Rattle.cluster_model.specs.declared.ids.Mirror.{Mirror}
use Rattle.cluster_model.specs.declared.phase.EndCause.{EndCause}
use Rattle.cluster_model.specs.declared.phase.EndCause.TheVariants.{AllReported}
use Rattle.cluster_model.specs.declared.phase.LeftCause.{LeftCause}
use Rattle.cluster_model.specs.declared.entry.Entry.{Entry}
use Rattle.cluster_model.specs.declared.entry.Entry.TheVariants as entry
use Rattle.cluster_model.specs.declared.layout_state.LayoutState.{LayoutState}
use Rattle.cluster_model.specs.declared.layout_state.LayoutPhase.{LayoutPhase}
use Rattle.cluster_model.specs.declared.layout_state.LayoutPhase.TheVariants.{Making, Free, Held, Fencing, Settling, Copying}
use Rattle.cluster_model.specs.declared.layout_state.FenceEnd.{FenceEnd}
use Rattle.cluster_model.specs.declared.layout_state.FenceEnd.TheVariants.{Clean, Dirty}
use Rattle.cluster_model.specs.Journal.{is_mirror}
use Rattle.cluster_model.specs.Mirrors.{are_on_different_servers}
use Rattle.cluster_model.specs.Fences.{fence_of, to_fence}
use Rattle.cluster_model.specs.Phases.{ids_of, unreported, left_entries, with_phase, fencing, left_with, end_entries}
use Rattle.file_rule.specs.MdsFiles.{Activity, Idle, Makes, Fences, Settles, Copies, MdsFile, a_uid}
use Rattle.cluster_laws.specs.Machine.{file_id}
use Rattle.cluster_laws.specs.FenceLaw.{live_in, live_by, live_after, is_file, changed_live, first_free, swapped_in}
use Rattle.cluster_laws.proofs.Lists.{all_append, all_more}
use Rattle.cluster_laws.proofs.Invariant.{Net, fence_in, If, IsMirrorOf, IsInFence, kept_ids, IsBusyWith, is_idle, live_of, IsFile, AreRight}
use Rattle.cluster_laws.proofs.Journals.{live_append, live_same, right_more}
use Rattle.cluster_laws.proofs.Onward.{Later, mirror_on}
use Rattle.cluster_laws.proofs.Moved.{IsNote}
use Rattle.cluster_laws.proofs.Lives.{apart_unreported, all_unreported, all_map}

-- a step of a file is right: its entries, and the file then
pub record RowOk (net : Net) (journal : List Entry) (n next_uid : ℕ) (g : MdsFile) (entries : List Entry) : Type 0 where
  pub notes : AllByRecursion (IsNote n next_uid) entries
  pub right : AreRight journal entries
  pub file : IsFile net (journal ++ entries) n g

-- ---- entries of one file

module _ (n next_uid : ℕ) where
  another : (k : ℕ) → k ≢ n → is_file (file_id n) (file_id k) ≡ false
  another k other = ne_eqb n k (λ e. other (sym e))

  pub granted_note : (file : FileId) (cred : Cred) (holder : NodeId) → IsNote n next_uid (entry.Granted file cred holder)
  granted_note file cred holder = record { copies = λ m c. refl; others = λ k o x. refl; fence = tt; freed = tt }

  pub sent_note : (file : FileId) (cred : Cred) (at : ℕ) (bytes : List ℕ) → IsNote n next_uid (entry.Sent file cred at bytes)
  sent_note file cred at bytes = record { copies = λ m c. refl; others = λ k o x. refl; fence = tt; freed = tt }

  pub told_note : (file : FileId) (cred : Cred) (at : ℕ) (bytes : List ℕ) → IsNote n next_uid (entry.Told file cred at bytes)
  told_note file cred at bytes = record { copies = λ m c. refl; others = λ k o x. refl; fence = tt; freed = tt }

  pub ended_note : (file : FileId) (cred : Cred) (cause : EndCause) → IsNote n next_uid (entry.Ended file cred cause)
  ended_note file cred cause = record { copies = λ m c. refl; others = λ k o x. refl; fence = tt; freed = tt }

  pub left_note : (id : MirrorId) (cause : LeftCause) → IsNote n next_uid (entry.Left (file_id n) id cause)
  left_note id cause = record { copies = λ m c. refl; others = λ k o x. ap (λ (b : Bool). cond b (changed_live (filter (λ m. not (is_mirror m id))) x) x) (another k o); fence = tt; freed = tt }

  pub swapped_note : (old : Option MirrorId) (new : MirrorId) → IsNote n next_uid (entry.Swapped (file_id n) old new)
  swapped_note old new = record { copies = λ m c. refl; others = λ k o x. ap (λ (b : Bool). cond b (changed_live (swapped_in old new) x) x) (another k o); fence = tt; freed = tt }

  pub free_note : (live : List MirrorId) → IsNote n next_uid (entry.Free (file_id n) live)
  free_note live = record { copies = λ m c. refl; others = λ k o x. ap (λ (b : Bool). cond b (first_free live x) x) (another k o); fence = tt; freed = refl }

  pub fenced_note : (old new : Cred) (live : List MirrorId) → 0 < old.0 → old.0 < new.0 → new.0 < next_uid → IsNote n next_uid (entry.Fenced (file_id n) old new live)
  fenced_note old new live first later drawn = record { copies = λ m c. refl; others = λ k o x. refl; fence = record { file = refl; first = first; later = later; drawn = drawn }; freed = tt }

  -- those of mirrors that leave
  pub left_notes : (causes : List (Option LeftCause)) (live : List Mirror) → AllByRecursion (IsNote n next_uid) (left_entries (file_id n) causes live)
  left_notes causes [] = tt
  left_notes [] (m ∷ live) = tt
  left_notes (None ∷ causes) (m ∷ live) = left_notes causes live
  left_notes (Some cause ∷ causes) (m ∷ live) = (left_note m.id cause, left_notes causes live)

  pub left_no_fences : (causes : List (Option LeftCause)) (live : List Mirror) → AllByRecursion (λ e. If (fence_in e) (λ x. x.file ≢ n)) (left_entries (file_id n) causes live)
  left_no_fences causes [] = tt
  left_no_fences [] (m ∷ live) = tt
  left_no_fences (None ∷ causes) (m ∷ live) = left_no_fences causes live
  left_no_fences (Some cause ∷ causes) (m ∷ live) = (tt, left_no_fences causes live)

  pub left_right : (before : List Entry) (causes : List (Option LeftCause)) (live : List Mirror) → AreRight before (left_entries (file_id n) causes live)
  left_right before causes [] = tt
  left_right before [] (m ∷ live) = tt
  left_right before (None ∷ causes) (m ∷ live) = left_right before causes live
  left_right before (Some cause ∷ causes) (m ∷ live) = (tt, left_right (before ++ entry.Left (file_id n) m.id cause ∷ []) causes live)

-- ---- rows

fence_ids : (live : List Mirror) → ids_of live ≡ kept_ids (map to_fence live)
fence_ids [] = refl
fence_ids (m ∷ live) = ap (λ ids. m.id ∷ ids) (fence_ids live)

-- a fence over these mirrors begins
module _ (net new : Net) (l : Later net new) (n : ℕ) (journal : List Entry) where
  in_fence : (uid : ℕ) (entries : List Entry) (m : Mirror) → IsMirrorOf new n (journal ++ entries) m → IsInFence new n uid (to_fence m)
  in_fence uid entries m h = record { name = h.name; drawn = h.drawn; bears = h.bears; home = h.home; seen = h.seen; out = λ xid is. absurd cc; done = λ is. absurd cc }

  pub fence_begins : (s : LayoutState) (uid : ℕ) (kept : List Mirror) (end : FenceEnd) (entries : List Entry) → AllByRecursion (λ e. If (fence_in e) (λ x. x.file ≢ n)) entries → new.drawn.top n ≡ uid → 0 < s.cred.0 → s.cred.0 < uid
      → live_in (journal ++ entries) (file_id n) ≡ Some (ids_of kept) → are_on_different_servers kept ≡ true → AllByRecursion (IsMirrorOf net n journal) kept
      → IsFile new (journal ++ entries) n (record { layout = fencing s kept end (a_uid uid); activity = Fences (fence_of kept uid) })
  fence_begins s uid kept end entries none top some less live apart mirrors =
      let now = all_more (IsMirrorOf net n journal) (IsMirrorOf new n (journal ++ entries)) kept (mirror_on net new l n journal entries none) mirrors in
      record {
        live = live;
        apart = apart;
        mirrors = now;
        cred = some;
        top = omega (arith, top, less);
        busy = record {
          next = a_uid uid;
          end = end;
          phase = refl;
          fresh = refl;
          top = top;
          later = less;
          mirrors = all_map (IsMirrorOf new n (journal ++ entries)) (IsInFence new n uid) to_fence kept (in_fence uid entries) now;
          ids = fence_ids kept;
        };
      }

module _ (net new : Net) (l : Later net new) (n next_uid : ℕ) (journal : List Entry) (f : MdsFile) (old : IsFile net journal n f) where
  cred_up : f.layout.cred.0 ≤ new.drawn.top n
  cred_up = let top = old.top in let rises = l.tops n in omega (arith, top, rises)

  -- another phase with the same mirrors
  pub rephased : (p : LayoutPhase) (activity : Activity) (entries : List Entry) → AllByRecursion (λ e. If (fence_in e) (λ x. x.file ≢ n)) entries → AllByRecursion (λ e. (x : Option (List MirrorId)) → live_after (file_id n) x e ≡ x) entries
      → live_of f.layout.phase (ids_of f.layout.live) ≡ live_of p (ids_of f.layout.live) → IsBusyWith new (journal ++ entries) n (with_phase f.layout p) activity
      → IsFile new (journal ++ entries) n (record { layout = with_phase f.layout p; activity = activity })
  rephased p activity entries none same live busy = record {
    live = live_same (file_id n) journal entries same ∙ old.live ∙ live;
    apart = old.apart;
    mirrors = all_more (IsMirrorOf net n journal) (IsMirrorOf new n (journal ++ entries)) f.layout.live (mirror_on net new l n journal entries none) old.mirrors;
    cred = old.cred;
    top = cred_up;
    busy = busy;
  }

  -- nothing is under way, before and then
  idle_still : (p : LayoutPhase) (entries : List Entry) (activity : Activity) → IsBusyWith net journal n f.layout activity → is_idle f.layout.phase ≡ true → is_idle p ≡ true → IsBusyWith new (journal ++ entries) n (with_phase f.layout p) activity
  idle_still p entries Idle busy was is = is
  idle_still p entries (Makes all) busy was is = let wrong : true ≡ false = sym was ∙ ap is_idle busy.phase in absurd cc
  idle_still p entries (Fences fence) busy was is = let wrong : true ≡ false = sym was ∙ ap is_idle busy.phase in absurd cc
  idle_still p entries (Settles stage) busy was is = let wrong : true ≡ false = sym was ∙ ap is_idle busy.phase in absurd cc
  idle_still p entries (Copies all) busy was is = let wrong : true ≡ false = sym was ∙ ap is_idle busy.phase in absurd cc

  idle_live : (p : LayoutPhase) (ids : List MirrorId) → is_idle p ≡ true → live_of p ids ≡ Some ids
  idle_live Making ids h = absurd cc
  idle_live Free ids h = refl
  idle_live (Held holder is_recalled) ids h = refl
  idle_live (Fencing next end) ids h = refl
  idle_live (Settling copies) ids h = refl
  idle_live (Copying copier copies) ids h = refl

  pub idles : (p : LayoutPhase) (entries : List Entry) → AllByRecursion (λ e. If (fence_in e) (λ x. x.file ≢ n)) entries → AllByRecursion (λ e. (x : Option (List MirrorId)) → live_after (file_id n) x e ≡ x) entries
      → is_idle f.layout.phase ≡ true → is_idle p ≡ true → IsFile new (journal ++ entries) n (record { layout = with_phase f.layout p; activity = f.activity })
  idles p entries none same was is =
      rephased p f.activity entries none same (idle_live f.layout.phase (ids_of f.layout.live) was ∙ sym (idle_live p (ids_of f.layout.live) is)) (idle_still p entries f.activity old.busy was is)

  -- ---- a fence begins

  pub fences : (uid : ℕ) (kept : List Mirror) (end : FenceEnd) (entries : List Entry) → AllByRecursion (λ e. If (fence_in e) (λ x. x.file ≢ n)) entries → new.drawn.top n ≡ uid → f.layout.cred.0 < uid
      → live_in (journal ++ entries) (file_id n) ≡ Some (ids_of kept) → are_on_different_servers kept ≡ true → AllByRecursion (IsMirrorOf net n journal) kept
      → IsFile new (journal ++ entries) n (record { layout = fencing f.layout kept end (a_uid uid); activity = Fences (fence_of kept uid) })
  fences uid kept end entries none top less live apart mirrors = fence_begins net new l n journal f.layout uid kept end entries none top old.cred less live apart mirrors

  -- the period ends: these entries of mirrors that leave, and those that are kept
  pub ends : (uid : ℕ) (left : List Entry) (places : List Bool) (cause : EndCause) → AllByRecursion (IsNote n next_uid) left → AllByRecursion (λ e. If (fence_in e) (λ x. x.file ≢ n)) left
      → AreRight journal left → live_by (file_id n) (Some (ids_of f.layout.live)) left ≡ Some (ids_of (unreported places f.layout.live)) → live_in journal (file_id n) ≡ Some (ids_of f.layout.live)
      → new.drawn.top n ≡ uid → f.layout.cred.0 < uid → (kept : List Mirror) → unreported places f.layout.live ≡ kept
      → RowOk new journal n next_uid (record { layout = left_with f.layout (a_uid uid) kept; activity = Fences (fence_of (left_with f.layout (a_uid uid) kept).live uid) }) (end_entries (file_id n) f.layout.cred left cause kept)
  ends uid left places cause notes none right by now top less [] is =
      let e : Entry = entry.Ended (file_id n) f.layout.cred AllReported in
      record {
        notes = (ended_note n next_uid (file_id n) f.layout.cred AllReported, tt);
        right = (tt, tt);
        file = fences uid f.layout.live Dirty (e ∷ []) (tt, tt) top less (live_same (file_id n) journal (e ∷ []) (λ x. refl, tt) ∙ now) old.apart old.mirrors;
      }
  ends uid left places cause notes none right by now top less (m ∷ kept) is =
      let e : Entry = entry.Ended (file_id n) f.layout.cred cause in
      let live : live_in (journal ++ (left ++ e ∷ [])) (file_id n) ≡ Some (ids_of (m ∷ kept)) =
      live_append (file_id n) None journal (left ++ e ∷ []) ∙ ap (λ x. live_by (file_id n) x (left ++ e ∷ [])) now ∙ live_append (file_id n) (Some (ids_of f.layout.live)) left (e ∷ []) ∙ by ∙ ap (λ ms. Some (ids_of ms)) is in
      record {
        notes = all_append (IsNote n next_uid) left (e ∷ []) notes (ended_note n next_uid (file_id n) f.layout.cred cause, tt);
        right = right_more journal left (e ∷ []) right (tt, tt);
        file = fences uid (m ∷ kept) Clean (left ++ e ∷ []) (all_append (λ x. If (fence_in x) (λ y. y.file ≢ n)) left (e ∷ []) none (tt, tt)) top less live
            (subst (λ ms. are_on_different_servers ms ≡ true) is (apart_unreported places f.layout.live old.apart))
            (subst (λ ms. AllByRecursion (IsMirrorOf net n journal) ms) is (all_unreported (IsMirrorOf net n journal) places f.layout.live old.mirrors));
      }
