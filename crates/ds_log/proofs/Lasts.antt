-- What lasts of a server goes on lasting, body by body.
use Rattle.std.proofs.Common.{◌≡◌, ℕ, ◌+◌, ◌-◌, Bool, true, false, ltb, leb, cond, List, [], ◌∷◌, ◌++◌, length, map, set, zero, suc, Option, Some, None, Ok, refl, ap, subst}
use Rattle.std.specs.Prelude.{⊤, ◌==◌, if◌then◌else◌, slice_get}
use Rattle.std.proofs.lemmas.Option.{same_Some}
use Rattle.std.proofs.lemmas.Bool.{cond_both}
use Rattle.cluster_model.specs.declared.tick.Times.{Times}
use Rattle.cluster_model.specs.File.{StoredFile, new_file, restarted}
use Rattle.cluster_model.specs.Server.{ServerState, files_restarted, restart_of, max_boot}
use Rattle.ds_log.specs.Bodies.{Logged, Boots, Creates, SetsAttributes, HoldsBytes, HoldsFile, HoldsRoot, body_in}
use Rattle.ds_log.specs.Durable.{start_of, durable, unbooted, created, with_lasting_file, attributed, holding, at_fileid, on_stored, with_stored, applied, applied_as, applied_bytes, played, played_on}

-- a file behind a restart that kept no piece
abbrev rest : StoredFile → StoredFile
rest f = restarted f []

-- ---- what lasts of what lasts

files_again : (files : List StoredFile) → map rest (map rest files) ≡ map rest files
files_again [] = refl
files_again (f ∷ files) = ap (λ (gs : List StoredFile). rest f ∷ gs) (files_again files)

pub durable_again : (s : ServerState) → durable (durable s) ≡ durable s
durable_again s = λ i. record { number = s.number; clock = start_of s.clock.boot; root = s.root; names = s.names; files = files_again s.files i }

files_start : (fileid : ℕ) (files : List StoredFile) → files_restarted fileid (map rest files) [] ≡ files_restarted fileid files []
files_start fileid [] = refl
files_start fileid (f ∷ files) = ap (λ (gs : List StoredFile). rest f ∷ gs) (files_start (fileid + 1) files)

abbrev started_with : ServerState → List StoredFile → ServerState
started_with s files = record { number = s.number; clock = start_of (s.clock.boot + 1); root = s.root; names = s.names; files = files }

-- a server starts as what lasts of it
pub durable_starts : (s : ServerState) → restart_of (durable s) [] ≡ restart_of s []
durable_starts s = ap (λ (files : List StoredFile). if s.clock.boot == max_boot then None else Some (started_with s files)) (files_start 2 s.files)

-- ---- files that a restart leaves as they are

abbrev Still : List StoredFile → Type 0
Still [] = ⊤
Still (f ∷ files) = (rest f ≡ f) × Still files

still_of : (files : List StoredFile) → map rest files ≡ files → Still files
still_of [] e = tt
still_of (f ∷ files) e = (cc (e), still_of files (cc (e)))

still_map : (files : List StoredFile) → Still files → map rest files ≡ files
still_map [] k = refl
still_map (f ∷ files) k = λ i. k.0 i ∷ still_map files k.1 i

still_push : (files : List StoredFile) (g : StoredFile) → rest g ≡ g → Still files → Still (files ++ g ∷ [])
still_push [] g e k = (e, tt)
still_push (f ∷ files) g e k = (k.0, still_push files g e k.1)

still_set : (files : List StoredFile) (index : ℕ) (g : StoredFile) → rest g ≡ g → Still files → Still (set files index g)
still_set [] index g e k = tt
still_set (f ∷ files) zero g e k = (e, k.1)
still_set (f ∷ files) (suc index) g e k = (k.0, still_set files index g e k.1)

still_at : (files : List StoredFile) (index : ℕ) (f : StoredFile) → slice_get files index ≡ Some f → Still files → rest f ≡ f
still_at [] index f e k = absurd (cc)
still_at (g ∷ files) zero f e k = subst (λ (x : StoredFile). rest x ≡ x) (same_Some g f e) k.0
still_at (g ∷ files) (suc index) f e k = still_at files index f e k.1

-- ---- one body

abbrev Lasts : ServerState → Type 0
Lasts s = durable s ≡ s

lasting : (s : ServerState) → Lasts s → Still s.files
lasting s k = still_of s.files (ap (λ (x : ServerState). x.files) k)

lasts_with : (s : ServerState) → start_of s.clock.boot ≡ s.clock → Still s.files → Lasts s
lasts_with s clock k = λ i. record { number = s.number; clock = clock i; root = s.root; names = s.names; files = still_map s.files k i }

clock_of : (s : ServerState) → Lasts s → start_of s.clock.boot ≡ s.clock
clock_of s k = ap (λ (x : ServerState). x.clock) k

unless : (b : Bool) (made new : ServerState) → Lasts made → cond b (Some made) None ≡ Some new → Lasts new
unless true made new k e = subst (λ (x : ServerState). Lasts x) (same_Some made new e) k
unless false made new k e = absurd (cc)

attributed_rests : (f : StoredFile) (owner group mode : ℕ) (times : Times) → rest f ≡ f → rest (attributed f owner group mode times) ≡ attributed f owner group mode times
attributed_rests f owner group mode times e =
    let content = ap (λ (x : StoredFile). x.content) e in
    λ i. record { content = content i; owner = owner; group = group; mode = mode; times = times; stable_times = times }

module _ (s new : ServerState) (fileid : ℕ) (fits : StoredFile → Bool) (change : StoredFile → StoredFile) (keeps : (f : StoredFile) → rest f ≡ f → rest (change f) ≡ change f) (k : Lasts s) where
  on_lasts : (o : Option StoredFile) → slice_get s.files (fileid - 2) ≡ o → on_stored s (fileid - 2) o fits change ≡ Some new → Lasts new
  on_lasts None there e = absurd (cc (e))
  on_lasts (Some f) there e =
      let files = still_set s.files (fileid - 2) (change f) (keeps f (still_at s.files (fileid - 2) f there (lasting s k))) (lasting s k) in
      unless (fits f) (with_stored s (fileid - 2) (change f)) new (lasts_with (with_stored s (fileid - 2) (change f)) (clock_of s k) files) e

  at_lasts : at_fileid s fileid fits change ≡ Some new → Lasts new
  at_lasts =
      cond_both (ltb fileid 2) None (on_stored s (fileid - 2) (slice_get s.files (fileid - 2)) fits change) (λ (o : Option ServerState). o ≡ Some new → Lasts new)
      (λ low e. absurd (cc (e)))
      (λ high e. on_lasts (slice_get s.files (fileid - 2)) refl e)

-- A body makes a server that lasts of one that lasts.
pub applied_lasts : (s new : ServerState) (body : Logged) → Lasts s → applied s body ≡ Some new → Lasts new
applied_lasts s new (Boots boot) k e = unless (ltb s.clock.boot boot) (record s { clock = start_of boot }) new (lasts_with (record s { clock = start_of boot }) refl (lasting s k)) e
applied_lasts s new (Creates name fileid owner group mode tick) k e =
    let made = created s name owner group mode tick in
    unless _ made new (lasts_with made (clock_of s k) (still_push s.files (new_file owner group mode tick) refl (lasting s k))) e
applied_lasts s new (SetsAttributes fileid owner group mode times) k e =
    at_lasts s new fileid _ (λ (f : StoredFile). attributed f owner group mode times) (λ f still. attributed_rests f owner group mode times still) k e
applied_lasts s new (HoldsBytes fileid mtime ctime ranges) k e =
    at_lasts s new fileid _ (λ (f : StoredFile). holding f mtime ctime ranges) (λ f still. refl) k e
applied_lasts s new (HoldsFile name fileid owner group mode times) k e =
    let made = with_lasting_file s name owner group mode times in
    unless _ made new (lasts_with made (clock_of s k) (still_push s.files _ refl (lasting s k))) e
applied_lasts s new (HoldsRoot times) k e = unless (leb times.ctime.boot s.clock.boot) (record s { root = times }) new (lasts_with (record s { root = times }) (clock_of s k) (lasting s k)) e

body_lasts : (s new : ServerState) (o : Option Logged) → Lasts s → applied_as s o ≡ Some new → Lasts new
body_lasts s new None k e = absurd (cc (e))
body_lasts s new (Some body) k e = applied_lasts s new body k e

-- ---- a log

pub unbooted_lasts : (number : ℕ) → Lasts (unbooted number)
unbooted_lasts number = refl

pub played_lasts : (s mid : ServerState) (place : ℕ) (bodies : List (List ℕ)) → Lasts s → played s place bodies ≡ Ok mid → Lasts mid
played_lasts s mid place [] k e = subst (λ (x : ServerState). Lasts x) (cc (e)) k
played_lasts s mid place (body ∷ bodies) k e = by_first (λ next. played_lasts next mid (place + 5 + length body) bodies) (applied_bytes s body) refl e
  where
    by_first : ((next : ServerState) → Lasts next → played next (place + 5 + length body) bodies ≡ Ok mid → Lasts mid)
        → (o : Option ServerState) → applied_bytes s body ≡ o → played_on place bodies o (λ next. played next (place + 5 + length body) bodies) ≡ Ok mid → Lasts mid
    by_first rests None is f = absurd (cc (f))
    by_first rests (Some next) is f = rests next (body_lasts s next (body_in body) k is) f
