-- A restart is the rule's.
use Rattle.std.proofs.Common.{◌≡◌, ℕ, suc, ◌+◌, ◌≤◌, List, [], ◌∷◌, length, Option, Some, refl, sym, ap, ◌∙◌, arith}
use Rattle.std.specs.Prelude.{slice_get}
use Rattle.std.proofs.lemmas.List.Sums.{sum_by-cons}
use Rattle.cluster_model.specs.declared.piece.Piece.{Piece}
use Rattle.cluster_model.specs.Ticks.{rebooted}
use Rattle.cluster_model.specs.Content.{Content, survived, pieces_of}
use Rattle.cluster_model.specs.File.{StoredFile, shown}
use Rattle.data_file.specs.Kept.{crashed}
use Rattle.data_file.proofs.KeptMore.{kept_le}
use Rattle.ds_procedures.specs.declared.server_base.ServerBase.{ServerBase}
use Rattle.ds_procedures.specs.ServerBases.{IsServer}
use Rattle.cluster_model.specs.Server.{total_size}
use Rattle.cluster_model.specs.Server.{files_restarted}
use Rattle.ds_files.specs.Kept.{disk_of, AreBounded, AreKept, all_crashed}
use Rattle.ds_files.proofs.Keeping.{length-all_crashed}

-- what was kept is what the rule keeps, from any fileid on
all_from : (n : ℕ) (files : List StoredFile) (kept : List (Option Content)) (pieces : List Piece) → length kept ≡ length files
    → ((i : ℕ) (f : StoredFile) (k : Option Content) → slice_get files i ≡ Some f → slice_get kept i ≡ Some k → disk_of f k ≡ (survived f.content (pieces_of (i + n) pieces)).stable)
    → all_crashed files kept ≡ files_restarted n files pieces
all_from n [] [] pieces size h = refl
all_from n [] (k ∷ kept) pieces size h = absurd (omega arith)
all_from n (f ∷ files) [] pieces size h = absurd (omega arith)
all_from n (f ∷ files) (k ∷ kept) pieces size h =
    let number : 0 + n ≡ n = omega arith in
    let first : disk_of f k ≡ (survived f.content (pieces_of n pieces)).stable = h 0 f k refl refl ∙ ap (λ m. (survived f.content (pieces_of m pieces)).stable) number in
    let others = all_from (n + 1) files kept pieces (omega arith) (λ i g m there found. let next : suc i + n ≡ i + (n + 1) = omega arith in h (suc i) g m there found ∙ ap (λ m'. (survived g.content (pieces_of m' pieces)).stable) next) in
    rw (first, others) refl

pub all_restarted : (files : List StoredFile) (kept : List (Option Content)) (pieces : List Piece) → AreBounded files kept → AreKept files pieces kept → all_crashed files kept ≡ files_restarted 2 files pieces
all_restarted files kept pieces bounded are = all_from 2 files kept pieces bounded.size are

-- no file shows more
fewer : (files : List StoredFile) (kept : List (Option Content)) → ((i : ℕ) (f : StoredFile) (k : Option Content) → slice_get files i ≡ Some f → slice_get kept i ≡ Some k → length (disk_of f k) ≤ length (shown f))
    → total_size (all_crashed files kept) ≤ total_size files
fewer [] kept h = omega arith
fewer (f ∷ files) [] h = omega arith
fewer (f ∷ files) (k ∷ kept) h =
    let first : length (disk_of f k) ≤ length (shown f) = h 0 f k refl refl in
    let others = fewer files kept (λ i g m there found. h (suc i) g m there found) in
    let old : total_size (f ∷ files) ≡ length (shown f) + total_size files = sum_by-cons (λ (g : StoredFile). length (shown g)) f files in
    let new : total_size (all_crashed (f ∷ files) (k ∷ kept)) ≡ length (disk_of f k) + total_size (all_crashed files kept) = sum_by-cons (λ (g : StoredFile). length (shown g)) (crashed f (disk_of f k)) (all_crashed files kept) in
    omega (arith, first, others, old, new)

pub fewer_bytes : (files : List StoredFile) (kept : List (Option Content)) → AreBounded files kept → total_size (all_crashed files kept) ≤ total_size files
fewer_bytes files kept bounded = fewer files kept (λ i f k there found. kept_le f k (bounded.each i f k there found))

-- what holds of every server holds after a restart
pub keeps : (h : ServerBase) (files : List StoredFile) (kept : List (Option Content)) (total : ℕ) → IsServer h files → AreBounded files kept → total ≡ total_size (all_crashed files kept)
    → IsServer (record h { clock = rebooted h.clock; total = total }) (all_crashed files kept)
keeps h files kept total k bounded is =
    let old = k.total in
    let most = k.bounded in
    let less = fewer_bytes files kept bounded in
    record { total = is; bounded = omega (arith, old, most, less, is); ticks = omega arith; named = k.named ∙ sym (length-all_crashed files kept bounded.size) }
