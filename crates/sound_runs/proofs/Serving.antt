-- Entries of data servers: no owner falls, and no file's phase is changed by them.
use Rattle.std.proofs.Common.{◌≡◌, ℕ, zero, suc, ◌+◌, ◌≤◌, Bool, true, false, cond, List, [], ◌∷◌, ◌++◌, length, Option, Some, None, refl, sym, ap, subst, ◌∙◌, arith}
use Rattle.std.specs.Prelude.{slice_get}
use Rattle.std.specs.List.{AllByRecursion}
use Rattle.cluster_model.specs.declared.ids.FileId.{FileId}
use Rattle.cluster_model.specs.declared.ids.MirrorId.{MirrorId}
use Rattle.cluster_model.specs.declared.entry.Entry.{Entry}
use Rattle.cluster_model.specs.declared.entry.Entry.TheVariants as entry
use Rattle.cluster_model.specs.File.{StoredFile, FileOp, Writes, Commits, Sets, Restarts as Restarted}
use Rattle.cluster_model.specs.Journal.{Copy, no_copy, content_of}
use Rattle.cluster_model.specs.Server.{ServerState, Effect, NoEffect, OnFile, NewFile, mirror_of, applied_entries, committed_entries, owner_entries, op_entries, entries_of}
use Rattle.cluster_model.specs.GuardLaws.{IsTold, Follows}
use Rattle.sound_journals.specs.Views.{FileView, view_after, view_by, view_of}
use Rattle.sound_journals.specs.Sound.{IsToldEntry, AreToldEntries}
use Rattle.cluster_laws.proofs.Lives.{itself}
use Rattle.cluster_laws.proofs.Journals.{copy_append}
use Rattle.sound_runs.proofs.ViewFolds.{view_push, users_by, copy_is}
use Rattle.sound_runs.proofs.TurnSays.{IsPlain}
use Rattle.sound_runs.proofs.StaySo.{StaysFor, stays_same, stays_then, applied_stays, committed_stays, restarted_stays, owner_stays}

-- an entry of a data server, behind a journal
abbrev pub IsServing : List Entry → Entry → Type 0
IsServing journal (entry.Applied mirror cred at bytes) = Unit {0}
IsServing journal (entry.Committed mirror) = Unit {0}
IsServing journal (entry.Owner mirror cred) = (content_of journal mirror).owner ≤ cred.0
IsServing journal (entry.Restarted server pieces) = Unit {0}
IsServing journal _ = ⊥

abbrev pub AreServing : List Entry → List Entry → Type 0
AreServing journal [] = Unit {0}
AreServing journal (e ∷ entries) = IsServing journal e × AreServing (journal ++ e ∷ []) entries

-- ---- what they leave

pub serving_stays : (f : FileId) (journal : List Entry) (e : Entry) → IsServing journal e → StaysFor (view_of journal f) (view_after f (view_of journal f) e)
serving_stays f journal (entry.Applied mirror cred at bytes) h = applied_stays f (view_of journal f) mirror cred at bytes
serving_stays f journal (entry.Committed mirror) h = committed_stays f (view_of journal f) mirror
serving_stays f journal (entry.Owner mirror cred) h = owner_stays f (view_of journal f) mirror cred (subst (λ (c : Copy). c.owner ≤ cred.0) (sym (copy_is f mirror journal)) h)
serving_stays f journal (entry.Restarted server pieces) h = restarted_stays f (view_of journal f) server pieces
serving_stays f journal _ h = absurd h

pub all_stay : (f : FileId) (journal : List Entry) (es : List Entry) → AreServing journal es → StaysFor (view_of journal f) (view_by f (view_of journal f) es)
all_stay f journal [] h = stays_same (view_of journal f)
all_stay f journal (e ∷ es) h =
    stays_then (view_of journal f) (view_after f (view_of journal f) e) (view_by f (view_after f (view_of journal f) e) es) (serving_stays f journal e h.0)
    (subst (λ (v : FileView). StaysFor v (view_by f v es)) (view_push f journal e) (all_stay f (journal ++ e ∷ []) es h.1))

serving_plain : (journal : List Entry) (e : Entry) (c : ℕ) → IsServing journal e → IsPlain c e
serving_plain journal (entry.Applied mirror cred at bytes) c h = record { sent = λ u. refl; strayed = λ u. refl; grants = λ u. refl; held = λ m. refl; causes = λ u other. refl }
serving_plain journal (entry.Committed mirror) c h = record { sent = λ u. refl; strayed = λ u. refl; grants = λ u. refl; held = λ m. refl; causes = λ u other. refl }
serving_plain journal (entry.Owner mirror cred) c h = record { sent = λ u. refl; strayed = λ u. refl; grants = λ u. refl; held = λ m. refl; causes = λ u other. refl }
serving_plain journal (entry.Restarted server pieces) c h = record { sent = λ u. refl; strayed = λ u. refl; grants = λ u. refl; held = λ m. refl; causes = λ u other. refl }
serving_plain journal _ c h = absurd h

pub all_plain : (journal es : List Entry) (c : ℕ) → AreServing journal es → AllByRecursion (IsPlain c) es
all_plain journal [] c h = tt
all_plain journal (e ∷ es) c h = (serving_plain journal e c h.0, all_plain (journal ++ e ∷ []) es c h.1)

pub serving_users : (f : FileId) (users : List ℕ) (journal : List Entry) (e : Entry) → IsServing journal e → users_by f users (e ∷ []) ≡ users
serving_users f users journal (entry.Applied mirror cred at bytes) h = refl
serving_users f users journal (entry.Committed mirror) h = refl
serving_users f users journal (entry.Owner mirror cred) h = refl
serving_users f users journal (entry.Restarted server pieces) h = refl
serving_users f users journal _ h = absurd h

pub all_users : (f : FileId) (users : List ℕ) (journal es : List Entry) → AreServing journal es → users_by f users es ≡ users
all_users f users journal [] h = refl
all_users f users journal (e ∷ es) h = ap (λ (us : List ℕ). users_by f us es) (serving_users f users journal e h.0) ∙ all_users f users (journal ++ e ∷ []) es h.1

serving_told : (f : FileId) (v : FileView) (journal : List Entry) (e : Entry) (rest : List Entry) → IsServing journal e → IsToldEntry v e rest
serving_told f v journal (entry.Applied mirror cred at bytes) rest h = tt
serving_told f v journal (entry.Committed mirror) rest h = tt
serving_told f v journal (entry.Owner mirror cred) rest h = tt
serving_told f v journal (entry.Restarted server pieces) rest h = tt
serving_told f v journal _ rest h = absurd h

pub all_told : (f : FileId) (v : FileView) (journal es : List Entry) → AreServing journal es → AreToldEntries f v es
all_told f v journal [] h = tt
all_told f v journal (e ∷ es) h = (serving_told f v journal e es h.0, all_told f (view_after f v e) (journal ++ e ∷ []) es h.1)

-- ---- a call

pub past_end : {A : Type 0} (xs : List A) (i : ℕ) → slice_get xs i ≡ None → length xs ≤ i
past_end [] i e = omega arith
past_end (x ∷ xs) zero e = absurd cc
past_end (x ∷ xs) (suc i) e = let rest = past_end xs i e in omega (arith, rest)

module _ (s new : ServerState) (journal : List Entry) (follows : Follows s new) (told : IsTold s journal) where
  owner_up : (index owner : ℕ) → IsTold new (journal ++ entry.Owner (mirror_of s index) (record { 0 = owner }) ∷ []) → (content_of journal (mirror_of s index)).owner ≤ owner
  owner_up index owner now = by_file (slice_get s.files index) refl
    where
      then : (content_of (journal ++ entry.Owner (mirror_of s index) (record { 0 = owner }) ∷ []) (mirror_of s index)).owner ≡ owner
      then =
          ap (λ (c : Copy). c.owner) (copy_append (mirror_of s index) no_copy journal (entry.Owner (mirror_of s index) (record { 0 = owner }) ∷ []))
          ∙ ap (λ b. (cond b (record { content = (content_of journal (mirror_of s index)).content; owner = owner }) (content_of journal (mirror_of s index))).owner) (itself (mirror_of s index))

      by_file : (o : Option StoredFile) → slice_get s.files index ≡ o → (content_of journal (mirror_of s index)).owner ≤ owner
      by_file None is = let none : (content_of journal (mirror_of s index)).owner ≡ 0 = ap (λ (c : Copy). c.owner) (told.none index (past_end s.files index is)) in omega (arith, none)
      by_file (Some file) is =
          let later = follows.owners index file is in
          let old : file.owner ≡ (content_of journal (mirror_of s index)).owner = ap (λ (c : Copy). c.owner) (told.each index file is) in
          let young : later.0.owner ≡ (content_of (journal ++ entry.Owner (mirror_of s index) (record { 0 = owner }) ∷ []) (mirror_of new index)).owner = ap (λ (c : Copy). c.owner) (now.each index later.0 later.1) in
          let same : (content_of (journal ++ entry.Owner (mirror_of s index) (record { 0 = owner }) ∷ []) (mirror_of new index)).owner ≡ (content_of (journal ++ entry.Owner (mirror_of s index) (record { 0 = owner }) ∷ []) (mirror_of s index)).owner =
          ap (λ (k : ℕ). (content_of (journal ++ entry.Owner (mirror_of s index) (record { 0 = owner }) ∷ []) (record { server = k; fileid = index + 2 })).owner) follows.number in
          let up = later.2 in
          omega (arith, up, old, young, same, then)

  applied_serving : (id : MirrorId) (uid at : ℕ) (bytes : List ℕ) (synced : Bool) → AreServing journal (applied_entries id uid at bytes ++ committed_entries id synced)
  applied_serving id uid at [] false = tt
  applied_serving id uid at [] true = (tt, tt)
  applied_serving id uid at (b ∷ bytes) false = (tt, tt)
  applied_serving id uid at (b ∷ bytes) true = (tt, (tt, tt))

  owner_serving : (index : ℕ) (owner : Option ℕ) → IsTold new (journal ++ owner_entries (mirror_of s index) owner) → AreServing journal (owner_entries (mirror_of s index) owner)
  owner_serving index None now = tt
  owner_serving index (Some owner) now = (owner_up index owner now, tt)

  op_serving : (index uid : ℕ) (op : FileOp) → IsTold new (journal ++ op_entries (mirror_of s index) uid op) → AreServing journal (op_entries (mirror_of s index) uid op)
  op_serving index uid (Writes at synced bytes) now = applied_serving (mirror_of s index) uid at bytes synced
  op_serving index uid Commits now = (tt, tt)
  op_serving index uid (Sets changes) now = owner_serving index changes.owner now
  op_serving index uid (Restarted pieces) now = tt

  pub effect_serving : (uid : ℕ) (effect : Effect) → IsTold new (journal ++ entries_of s uid effect) → AreServing journal (entries_of s uid effect)
  effect_serving uid NoEffect now = tt
  effect_serving uid (OnFile index op) now = op_serving index uid op now
  effect_serving uid (NewFile name owner group mode) now = (owner_up (length s.files) owner now, tt)
