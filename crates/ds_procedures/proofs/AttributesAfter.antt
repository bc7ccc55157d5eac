-- The attributes of a file after a write.
use Rattle.std.proofs.Common.{◌≡◌, ℕ, zero, suc, ◌+◌, ◌<◌, Bool, true, false, eqb, List, [], ◌∷◌, length, max, refl, sym, ap, ◌∙◌, arith}
use Rattle.std.proofs.lemmas.Bool.{false≢true, eq-eqb}
use Rattle.std.proofs.lemmas.List.{nil_from_length}
use Rattle.nfs3_wire.specs.declared.attributes.Fattr3.{Fattr3}
use Rattle.cluster_model.specs.declared.tick.Tick.{Tick}
use Rattle.cluster_model.specs.File.{StoredFile, shown, written}
use Rattle.ds_procedures.specs.Objects.{file_attributes, time_of}
use Rattle.cluster_model.proofs.Placing.{length-overlay}
use Rattle.cluster_model.proofs.Files.{shown-written}

-- a write of no bytes leaves them
pub attributes_none : (fileid : ℕ) (f : StoredFile) (tick : Tick) (at : ℕ) (synced : Bool) (bs : List ℕ) → length bs ≡ 0 → file_attributes fileid (written f tick at synced bs) ≡ file_attributes fileid f
attributes_none fileid f tick at synced bs e = rw (nil_from_length bs e) (none_by_case fileid f tick at synced)
  where
    none_by_case : (fileid : ℕ) (f : StoredFile) (tick : Tick) (at : ℕ) (synced : Bool) → file_attributes fileid (written f tick at synced []) ≡ file_attributes fileid f
    none_by_case fileid f tick at false = refl
    none_by_case fileid f tick at true = refl

sized : Fattr3 → ℕ → Tick → Fattr3
sized a size tick = record { kind = a.kind; mode = a.mode; nlink = a.nlink; uid = a.uid; gid = a.gid; size = size; used = size; rdev = a.rdev; fsid = a.fsid; fileid = a.fileid; atime = a.atime; mtime = time_of tick; ctime = time_of tick }

-- a write of bytes sets the size, mtime and ctime
by_size : (fileid : ℕ) (f : StoredFile) (tick : Tick) (at : ℕ) (synced : Bool) (b : ℕ) (bs : List ℕ) → file_attributes fileid (written f tick at synced (b ∷ bs)) ≡ sized (file_attributes fileid f) (length (shown (written f tick at synced (b ∷ bs)))) tick
unfolding sized
by_size fileid f tick at false b bs = refl
by_size fileid f tick at true b bs = refl

size_after : (f : StoredFile) (tick : Tick) (at : ℕ) (synced : Bool) (b : ℕ) (bs : List ℕ) → length (shown (written f tick at synced (b ∷ bs))) ≡ max (length (shown f)) (at + length (b ∷ bs))
size_after f tick at synced b bs = ap length (shown-written f tick at synced (b ∷ bs)) ∙ length-overlay (shown f) at b bs

pub attributes_some : (fileid : ℕ) (f : StoredFile) (tick : Tick) (at : ℕ) (synced : Bool) (bs : List ℕ) → 0 < length bs
    → file_attributes fileid (written f tick at synced bs) ≡ record (file_attributes fileid f) { size = max (length (shown f)) (at + length bs); used = max (length (shown f)) (at + length bs); mtime = time_of tick; ctime = time_of tick }
unfolding sized
attributes_some fileid f tick at synced [] lt = absurd (omega arith)
attributes_some fileid f tick at synced (b ∷ bs) lt = by_size fileid f tick at synced b bs ∙ ap (λ (size : ℕ). sized (file_attributes fileid f) size tick) (size_after f tick at synced b bs)

pub some_bytes : (n : ℕ) → eqb n 0 ≡ false → 0 < n
some_bytes zero e = absurd (false≢true (sym e ∙ eq-eqb 0 0 refl))
some_bytes (suc n) e = omega arith
