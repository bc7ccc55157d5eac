-- Lemmas on the state of a file.
use Rattle.std.proofs.Common.{◌≡◌, ℕ, Bool, true, false, List, [], ◌∷◌, length, refl, arith}
use Rattle.cluster_model.specs.declared.tick.Tick.{Tick}
use Rattle.cluster_model.specs.Content.{overlay}
use Rattle.cluster_model.specs.File.{StoredFile, shown, written, times_after}
use Rattle.cluster_model.specs.Laws.{IsCommitted, IsWritten}
use Rattle.cluster_model.proofs.Placing.{overlay_all_push, is_written}

-- a reader sees a write at once, be it stable or not
pub shown-written : (f : StoredFile) (tick : Tick) (at : ℕ) (synced : Bool) (bs : List ℕ) → shown (written f tick at synced bs) ≡ overlay (shown f) at bs
shown-written f tick at false [] = refl
shown-written f tick at false (b ∷ bs) = overlay_all_push f.content.stable f.content.pending (record { at = at; bytes = b ∷ bs })
shown-written f tick at true [] = refl
shown-written f tick at true (b ∷ bs) = overlay_all_push f.content.stable f.content.pending (record { at = at; bytes = b ∷ bs })

-- the times after a write
pub times-written : (f : StoredFile) (tick : Tick) (at : ℕ) (synced : Bool) (bs : List ℕ) → (written f tick at synced bs).times ≡ times_after f.times tick bs
times-written f tick at false bs = refl
times-written f tick at true bs = refl

pub committed_law : (f : StoredFile) → IsCommitted f
committed_law f = record { shown_stays = refl; stable = refl; pending = refl }

pub written_law : (f : StoredFile) (tick : Tick) (at : ℕ) (synced : Bool) (bs : List ℕ) → IsWritten (shown f) at bs (shown (written f tick at synced bs))
written_law f tick at synced bs = rw (shown-written f tick at synced bs) (is_written (shown f) at bs)

-- a write of no bytes is the same at every place
pub written_none : (f : StoredFile) (tick : Tick) (at to : ℕ) (synced : Bool) (bs : List ℕ) → length bs ≡ 0 → written f tick at synced bs ≡ written f tick to synced bs
written_none f tick at to synced [] e = by_case synced
  where
    by_case : (synced : Bool) → written f tick at synced [] ≡ written f tick to synced []
    by_case true = refl
    by_case false = refl
written_none f tick at to synced (b ∷ bs) e = absurd (omega arith)
