-- What a restart of a server keeps.
use Rattle.std.proofs.Common.{◌≡◌, ℕ, zero, suc, ◌+◌, Bool, true, false, eqb, cond, List, [], ◌∷◌, length, Some, None, refl, sym, ap, subst, ◌∙◌, arith, inl}
use Rattle.std.specs.Prelude.{slice_get}
use Rattle.std.proofs.lemmas.Bool.{eq-eqb}
use Rattle.std.proofs.lemmas.Option.{same_Some}
use Rattle.cluster_model.specs.declared.piece.Piece.{Piece}
use Rattle.cluster_model.specs.declared.entry.Entry.TheVariants.{Restarted}
use Rattle.cluster_model.specs.Ticks.{rebooted}
use Rattle.cluster_model.specs.Content.{pieces_of}
use Rattle.cluster_model.specs.File.{StoredFile, Restarts, restarted}
use Rattle.cluster_model.specs.Laws.{IsClocked, KeepsTimes}
use Rattle.cluster_model.specs.Server.{ServerState, max_boot, files_restarted, server_restarted, restart_of}
use Rattle.cluster_model.specs.ServerLaws.{AreClocked, TellsOld, IsRestarted}
use Rattle.cluster_model.proofs.Moments.{keeps_times}

-- each file after a restart
pub at_index : (n : ℕ) (files : List StoredFile) (pieces : List Piece) (i : ℕ) (f : StoredFile) → slice_get files i ≡ Some f → slice_get (files_restarted n files pieces) i ≡ Some (restarted f (pieces_of (i + n) pieces))
at_index n [] pieces i f e = absurd (cc)
at_index n (g ∷ files) pieces zero f e =
    let number : 0 + n ≡ n = omega arith in
    rw (same_Some g f e, number) refl
at_index n (g ∷ files) pieces (suc i) f e =
    let next : i + (n + 1) ≡ suc i + n = omega arith in
    at_index (n + 1) files pieces i f e ∙ ap (λ m. Some (restarted f (pieces_of m pieces))) next

-- each is of a file before
pub from_index : (n : ℕ) (files : List StoredFile) (pieces : List Piece) (i : ℕ) (g : StoredFile) → slice_get (files_restarted n files pieces) i ≡ Some g → (f : StoredFile) × (slice_get files i ≡ Some f)
from_index n [] pieces i g e = absurd (cc)
from_index n (f ∷ files) pieces zero g e = (f, refl)
from_index n (f ∷ files) pieces (suc i) g e = from_index (n + 1) files pieces i g e

pub same_count : (n : ℕ) (files : List StoredFile) (pieces : List Piece) → length (files_restarted n files pieces) ≡ length files
same_count n [] pieces = refl
same_count n (f ∷ files) pieces = ap suc (same_count (n + 1) files pieces)

clocked : (s : ServerState) (pieces : List Piece) → AreClocked s → AreClocked (server_restarted s pieces)
clocked s pieces k i g there =
    let old = from_index 2 s.files pieces i g there in
    let after : KeepsTimes old.0 s.clock (Restarts (pieces_of (i + 2) pieces)) = keeps_times old.0 s.clock (Restarts (pieces_of (i + 2) pieces)) (k i old.0 old.1) in
    let same : restarted old.0 (pieces_of (i + 2) pieces) ≡ g = same_Some _ g (sym (at_index 2 s.files pieces i old.0 old.1) ∙ there) in
    subst (λ (x : StoredFile). IsClocked x (rebooted s.clock)) same after.clocked

tells : (s : ServerState) (pieces : List Piece) → TellsOld s (server_restarted s pieces) (Restarted s.number pieces ∷ [])
tells s pieces i f there = (restarted f (pieces_of (i + 2) pieces), at_index 2 s.files pieces i f there, rw (eq-eqb s.number s.number refl) refl)

pub restarted_law : (s : ServerState) (pieces : List Piece) → IsRestarted s pieces (server_restarted s pieces)
restarted_law s pieces = record {
  number = refl;
  later = inl (omega arith);
  clocked = clocked s pieces;
  tells = tells s pieces;
  same_count = same_count 2 s.files pieces;
}

pub some_is : (b : Bool) (x y : ServerState) → cond b None (Some x) ≡ Some y → x ≡ y
some_is true x y e = absurd (cc)
some_is false x y e = same_Some x y e

pub restarts : (s : ServerState) (pieces : List Piece) (new : ServerState) → restart_of s pieces ≡ Some new → IsRestarted s pieces new
restarts s pieces new e =
    subst (λ (x : ServerState). IsRestarted s pieces x) (some_is (eqb s.clock.boot max_boot) (server_restarted s pieces) new e) (restarted_law s pieces)
