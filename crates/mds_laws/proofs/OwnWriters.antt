-- What stays of the writer of an own write, and how a new one is.
use Rattle.std.proofs.Common.{◌≡◌, ◌≤◌, ℕ, zero, suc, ◌+◌, List, [], ◌∷◌, length, Some, refl, sym, ap, ◌∙◌, inl, inr}
use Rattle.std.specs.Prelude.{map, slice_get, slice_set}
use Rattle.std.proofs.lemmas.Option.{same_Some}
use Rattle.cluster_model.specs.declared.limits.TheConstants.{MAX_FILE, PIECE_SIZE}
use Rattle.cluster_model.specs.DsCalls.{DsCallValue, Create, SetAttr, Write, Commit, Read}
use Rattle.cluster_model.specs.Members.{IsOneOf}
use Rattle.file_rule.specs.MdsFiles.{MdsFile}
use Rattle.mds_io.specs.OwnWrites.{own_write}
use Rattle.mirror_writer.specs.Writers.{WriterMirror, WriterValue}

abbrev pub fileids_of : WriterValue → List ℕ
fileids_of w = map (λ (m : WriterMirror). m.id.fileid) w.mirrors

-- its uid, what it has taken and its mirrors
pub record StaysWriter (w v : WriterValue) : Type 0 where
  pub cred : v.cred ≡ w.cred
  pub taken : v.taken ≡ w.taken
  pub fileids : fileids_of v ≡ fileids_of w

-- It writes to the file's live mirrors, by the uid of its layout, and its write is within the limits.
pub record IsNewWriter (file : MdsFile) (w : WriterValue) : Type 0 where
  pub at : ℕ
  pub bytes : List ℕ
  pub is : w ≡ own_write file.layout.live file.layout.cred.0 at bytes
  pub few : length bytes ≤ PIECE_SIZE
  pub within : at + length bytes ≤ MAX_FILE

-- a call of it goes to one of its mirrors, and a WRITE has a write that it has taken
abbrev pub IsCallOf : WriterValue → DsCallValue → Type 0
IsCallOf w (Create name owner) = ⊥
IsCallOf w (SetAttr fileid owner guard) = ⊥
IsCallOf w (Write fileid at synced bytes) = IsOneOf fileid (fileids_of w) × IsOneOf (record { at = at; bytes = bytes }) w.taken
IsCallOf w (Commit fileid) = IsOneOf fileid (fileids_of w)
IsCallOf w (Read fileid at count) = ⊥

pub stays_itself : (w : WriterValue) → StaysWriter w w
stays_itself w = record { cred = refl; taken = refl; fileids = refl }

-- a mirror is put back as another
pub put_same : (mirrors : List WriterMirror) (place : ℕ) (m n : WriterMirror) → slice_get mirrors place ≡ Some m → n.id.fileid ≡ m.id.fileid
    → map (λ (x : WriterMirror). x.id.fileid) (slice_set mirrors place n) ≡ map (λ (x : WriterMirror). x.id.fileid) mirrors
put_same [] place m n there is = absurd cc
put_same (y ∷ ys) zero m n there is = ap (λ (k : ℕ). k ∷ map (λ (x : WriterMirror). x.id.fileid) ys) (is ∙ ap (λ (x : WriterMirror). x.id.fileid) (sym (same_Some y m there)))
put_same (y ∷ ys) (suc place) m n there is = ap (λ (l : List ℕ). y.id.fileid ∷ l) (put_same ys place m n there is)

pub fileid_in : (mirrors : List WriterMirror) (place : ℕ) (m : WriterMirror) → slice_get mirrors place ≡ Some m → IsOneOf m.id.fileid (map (λ (x : WriterMirror). x.id.fileid) mirrors)
fileid_in [] place m there = absurd cc
fileid_in (y ∷ ys) zero m there = inl (ap (λ (x : WriterMirror). x.id.fileid) (sym (same_Some y m there)))
fileid_in (y ∷ ys) (suc place) m there = inr (fileid_in ys place m there)
