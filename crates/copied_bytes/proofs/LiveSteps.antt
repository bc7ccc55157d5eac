-- Live mirrors that belong to copies, behind a step of a file and where nothing is said of mirrors.
use Rattle.std.proofs.Common.{◌≡◌, ◌≢◌, ℕ, ◌+◌, ◌-◌, ◌<◌, true, List, [], ◌∷◌, ◌++◌, length, set, Option, Some, None, refl, sym, ap, subst, ◌∙◌, inl, inr}
use Rattle.std.specs.Prelude.{slice_get, suc, zero}
use Rattle.std.specs.List.{AllByRecursion}
use Rattle.std.proofs.lemmas.Bool.{cases_eq}
use Rattle.cluster_model.specs.declared.ids.MirrorId.{MirrorId}
use Rattle.cluster_model.specs.declared.entry.Entry.{Entry}
use Rattle.cluster_model.specs.Journal.{Copy, copy_after, content_of}
use Rattle.cluster_model.specs.Phases.{ids_of}
use Rattle.file_rule.specs.MdsFiles.{MdsFile, FileStep}
use Rattle.file_rule.specs.FilePhases.{FileInput, new_mds_file, phase}
use Rattle.cluster_laws.specs.Machine.{Machine, numbered_at, file_id, fresh_of}
use Rattle.cluster_laws.specs.FenceLaw.{live_after, live_in}
use Rattle.cluster_laws.proofs.Lists.{all_more, place_of, at_number, put_same, put_other}
use Rattle.cluster_laws.proofs.Journals.{live_same, content_same}
use Rattle.machine_walk.proofs.Stories.{Story, drawn_story, IsOnward, onward_drawn, AreEach, IsMoment}
use Rattle.machine_walk.proofs.MoveCases.{after_step, created_machine, IsStepBy}
use Rattle.machine_walk.proofs.WriterFacts.{KnowsWriters}
use Rattle.machine_walk.proofs.WriterCases.{on}
use Rattle.copied_bytes.proofs.Wholes.{IsWhole}
use Rattle.copied_bytes.proofs.Sources.{owner_of, IsShut, shut_in}
use Rattle.copied_bytes.proofs.SourceCarry.{KnowsSources}
use Rattle.copied_bytes.proofs.SourceSteps.{content_now, its_kind}
use Rattle.copied_bytes.proofs.TargetFacts.{KnowsTargets}
use Rattle.copied_bytes.proofs.WholeSwaps.{IsSwapWhole}
use Rattle.copied_bytes.proofs.LiveCopies.{IsWholeCopy, KnowsLive, is_made, made_of, live_made, live_kind}

got_before : {A : Type 0} (all : List A) (y : A) (i : ℕ) (x : A) → slice_get all i ≡ Some x → slice_get (all ++ y ∷ []) i ≡ Some x
got_before [] y i x e = absurd cc
got_before (z ∷ all) y zero x e = e
got_before (z ∷ all) y (suc i) x e = got_before all y i x e

pushed_before : {A : Type 0} (all : List A) (y : A) (n : ℕ) (x : A) → numbered_at all n ≡ Some x → numbered_at (all ++ y ∷ []) n ≡ Some x
pushed_before all y n x e = let k = place_of all n x e in at_number (all ++ y ∷ []) n x k.0 (got_before all y (n - 1) x k.1)

-- a mirror of which nothing is said
pub still_whole : (t : Story) (uid name : ℕ) (then : Story) (c next : Copy) → IsOnward t uid name then → c.owner < uid → next ≡ c → IsWholeCopy t c → IsWholeCopy then next
still_whole t uid name then c next on less same h = λ bytes copy. subst (λ (k : Copy). IsWhole bytes k.content) (sym same) (h bytes (sym (on.copied c.owner less) ∙ (sym (ap (λ (k : Copy). then.copied k.owner) same) ∙ copy)))

module _ (t : Story) (m : Machine) (journal : List Entry) (at : IsMoment t m journal) (w : KnowsWriters t m journal) (p : KnowsSources t m journal) (q : KnowsTargets t m journal) (r : KnowsLive t m journal) (n : ℕ) (f : MdsFile) (input : FileInput) (then : Story) (by : IsStepBy t m journal n f input then) where
  abbrev y : FileStep
  y = phase (file_id n) f input (fresh_of m)

  abbrev later : List Entry
  later = journal ++ y.entries

  abbrev after : Machine
  after = after_step m n y

  onward : IsOnward t m.next_uid m.next_name then
  onward = on t m journal at w n f input then by

  carried : (id : MirrorId) → IsWholeCopy t (content_of journal id) → IsWholeCopy then (content_of later id)
  carried id h = still_whole t m.next_uid m.next_name then (content_of journal id) (content_of later id) onward (q.bound id) (content_now t m journal at w p n f input then by id) h

  other_live : (k : ℕ) → k ≢ n → live_in later (file_id k) ≡ live_in journal (file_id k)
  other_live k other = live_same (file_id k) journal y.entries (all_more (λ e. (j : ℕ) → j ≢ n → (x : Option (List MirrorId)) → live_after (file_id j) x e ≡ x) (λ e. (x : Option (List MirrorId)) → live_after (file_id k) x e ≡ x) y.entries (λ e h. h k other) by.others)

  old_live : is_made f.layout.phase ≡ true → AllByRecursion (λ id. IsWholeCopy t (content_of journal id)) (ids_of f.layout.live)
  old_live e = r.copies n (ids_of f.layout.live) ((at.holds.files n f by.there).live ∙ live_made f.layout.phase (ids_of f.layout.live) e)

  there_then : numbered_at after.files n ≡ Some y.file
  there_then = put_same m.files n f y.file by.there

  plain_copy : (id : MirrorId) → then.copied (owner_of later id) ≡ None → IsWholeCopy then (content_of later id)
  plain_copy id none = λ bytes copy. absurd (wrong bytes (sym none ∙ copy))
    where
      wrong : (bytes : List ℕ) → None ≡ Some bytes → ⊥
      wrong bytes e = cc

  pub stepped_live : KnowsSources then after later → AreEach (IsSwapWhole t m.next_uid) journal y.entries → KnowsLive then after later
  stepped_live sources each = record {
    copies = λ k ids is.
        elim (cases_eq k n) [
          | inl same ↦ own_copies ids (sym (ap (λ (j : ℕ). live_in later (file_id j)) same) ∙ is)
          | inr other ↦ all_more (λ id. IsWholeCopy t (content_of journal id)) (λ id. IsWholeCopy then (content_of later id)) ids carried (r.copies k ids (sym (other_live k other) ∙ is))
        ];
    absent = λ k none.
        elim (cases_eq k n) [
          | inl same ↦ absurd (wrong (sym there_then ∙ (sym (ap (numbered_at after.files) same) ∙ none)))
          | inr other ↦ other_live k other ∙ r.absent k (sym (put_other m.files n k f y.file by.there other) ∙ none)
        ];
  }
    where
      wrong : Some y.file ≡ None → ⊥
      wrong e = cc

      own_copies : (ids : List MirrorId) → live_in later (file_id n) ≡ Some ids → AllByRecursion (λ id. IsWholeCopy then (content_of later id)) ids
      own_copies ids is =
          let parts = made_of y.file.layout.phase (ids_of y.file.layout.live) ids (sym (by.holds.files n y.file there_then).live ∙ is) in
          subst (AllByRecursion (λ id. IsWholeCopy then (content_of later id))) parts.1
          (elim (live_kind n (fresh_of m) input t m.next_uid journal (its_kind t m journal at w p n f input then by) old_live journal (λ id. refl) each parts.0) [
            | inl h ↦ all_more (λ id. IsWholeCopy t (content_of journal id)) (λ id. IsWholeCopy then (content_of later id)) (ids_of y.file.layout.live) carried h
            | inr shut ↦ all_more (IsShut then (m.next_uid + y.uids) later n) (λ id. IsWholeCopy then (content_of later id)) (ids_of y.file.layout.live) (λ id h. plain_copy id h.plain)
                (shut_in then (m.next_uid + y.uids) later n y.file.layout.phase (ids_of y.file.layout.live) shut (sources.files n y.file there_then).shut)
          ])

-- ---- where no file takes a step

module _ (t : Story) (m : Machine) (journal : List Entry) (r : KnowsLive t m journal) where
  -- entries that say nothing of live lists, and leave each such mirror whole
  pub live_behind : (then : Machine) (entries : List Entry) → then.files ≡ m.files → AllByRecursion (λ e. (f : ℕ) (x : Option (List MirrorId)) → live_after (file_id f) x e ≡ x) entries
      → ((n : ℕ) (ids : List MirrorId) → live_in journal (file_id n) ≡ Some ids → AllByRecursion (λ id. IsWholeCopy t (content_of (journal ++ entries) id)) ids) → KnowsLive t then (journal ++ entries)
  live_behind then entries files lives copies =
      let same : (k : ℕ) → live_in (journal ++ entries) (file_id k) ≡ live_in journal (file_id k) =
      λ k. live_same (file_id k) journal entries (all_more (λ e. (f : ℕ) (x : Option (List MirrorId)) → live_after (file_id f) x e ≡ x) (λ e. (x : Option (List MirrorId)) → live_after (file_id k) x e ≡ x) entries (λ e h. h k) lives) in
      record { copies = λ n ids is. copies n ids (sym (same n) ∙ is); absent = λ n none. same n ∙ r.absent n (sym (ap (λ (fs : List MdsFile). numbered_at fs n) files) ∙ none) }

  -- entries that say nothing of mirrors either
  pub noted_live : (e : Entry) → ((id : MirrorId) (c : Copy) → copy_after id c e ≡ c) → ((f : ℕ) (x : Option (List MirrorId)) → live_after (file_id f) x e ≡ x) → KnowsLive t m (journal ++ e ∷ [])
  noted_live e copies lives =
      live_behind m (e ∷ []) refl (lives, tt)
      (λ n ids is. all_more (λ id. IsWholeCopy t (content_of journal id)) (λ id. IsWholeCopy t (content_of (journal ++ e ∷ []) id)) ids (λ id h. subst (IsWholeCopy t) (sym (content_same id journal (e ∷ []) (copies id, tt))) h) (r.copies n ids is))

  -- ---- a new file

  pub longer : (files : List MdsFile) (g : MdsFile) (n : ℕ) → numbered_at (files ++ g ∷ []) n ≡ None → numbered_at files n ≡ None
  longer files g n none = by_found (numbered_at files n) refl
    where
      wrong : (f : MdsFile) → Some f ≡ None → ⊥
      wrong f e = cc

      by_found : (x : Option MdsFile) → numbered_at files n ≡ x → x ≡ None
      by_found None is = refl
      by_found (Some f) is = absurd (wrong f (sym (pushed_before files g n f is) ∙ none))

  pub created_live : (servers : List ℕ) → ((id : MirrorId) → owner_of journal id < m.next_uid) → KnowsLive (drawn_story t m.next_name (length m.files + 1) m.next_uid None) (created_machine m servers) journal
  created_live servers bound =
      let then : Story = drawn_story t m.next_name (length m.files + 1) m.next_uid None in
      record {
        copies = λ n ids is. all_more (λ id. IsWholeCopy t (content_of journal id)) (λ id. IsWholeCopy then (content_of journal id)) ids
            (λ id h. still_whole t m.next_uid m.next_name then (content_of journal id) (content_of journal id) (onward_drawn t m.next_uid m.next_name (length m.files + 1) None) (bound id) refl h) (r.copies n ids is);
        absent = λ n none. r.absent n (longer m.files (new_mds_file (fresh_of m) servers) n none);
      }

-- a call of a file changes no numbers
pub called_none : (m : Machine) (n : ℕ) (f g : MdsFile) → numbered_at m.files n ≡ Some f → (k : ℕ) → numbered_at (set m.files (n - 1) g) k ≡ None → numbered_at m.files k ≡ None
called_none m n f g there k none =
    elim (cases_eq k n) [
      | inl same ↦ absurd (wrong (sym (put_same m.files n f g there) ∙ (sym (ap (numbered_at (set m.files (n - 1) g)) same) ∙ none)))
      | inr other ↦ sym (put_other m.files n k f g there other) ∙ none
    ]
  where
    wrong : Some g ≡ None → ⊥
    wrong e = cc
