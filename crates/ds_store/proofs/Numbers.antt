-- A server keeps its number.
use Rattle.std.proofs.Common.{◌≡◌, ℕ, ◌+◌, ◌-◌, Bool, true, false, ltb, leb, cond, List, [], ◌∷◌, length, Option, Some, None, Ok, refl, sym, ap, subst, ◌∙◌}
use Rattle.std.specs.Prelude.{slice_get}
use Rattle.std.proofs.lemmas.Bool.{cond_both}
use Rattle.std.proofs.lemmas.Option.{same_Some}
use Rattle.cluster_model.specs.File.{StoredFile}
use Rattle.cluster_model.specs.Server.{ServerState, Effect, NoEffect, OnFile, NewFile, on_file, server_after}
use Rattle.ds_log.specs.Bodies.{Logged, Boots, Creates, SetsAttributes, HoldsBytes, HoldsFile, HoldsRoot, body_in}
use Rattle.ds_log.specs.Durable.{start_of, created, with_lasting_file, with_stored, attributed, holding, on_stored, at_fileid, applied, applied_as, applied_bytes, played, played_on}

pub number_after : (s : ServerState) (what : Effect) → s.number ≡ (server_after s what).number
number_after s NoEffect = refl
number_after s (NewFile name owner group mode) = refl
number_after s (OnFile index op) = by_file (slice_get s.files index)
  where
    by_file : (o : Option StoredFile) → s.number ≡ (on_file s index op o).number
    by_file None = refl
    by_file (Some f) = refl

-- ---- a log says a server with its own number

unless : (b : Bool) (s made new : ServerState) → made.number ≡ s.number → cond b (Some made) None ≡ Some new → new.number ≡ s.number
unless true s made new same e = subst (λ (x : ServerState). x.number ≡ s.number) (same_Some made new e) same
unless false s made new same e = absurd (cc)

module _ (s new : ServerState) (fileid : ℕ) (fits : StoredFile → Bool) (change : StoredFile → StoredFile) where
  at_file : (o : Option StoredFile) → on_stored s (fileid - 2) o fits change ≡ Some new → new.number ≡ s.number
  at_file None e = absurd (cc (e))
  at_file (Some f) e = unless (fits f) s (with_stored s (fileid - 2) (change f)) new refl e

  at_number : at_fileid s fileid fits change ≡ Some new → new.number ≡ s.number
  at_number =
      cond_both (ltb fileid 2) None (on_stored s (fileid - 2) (slice_get s.files (fileid - 2)) fits change) (λ (o : Option ServerState). o ≡ Some new → new.number ≡ s.number)
      (λ low e. absurd (cc (e)))
      (λ high e. at_file (slice_get s.files (fileid - 2)) e)

applied_number : (s new : ServerState) (body : Logged) → applied s body ≡ Some new → new.number ≡ s.number
applied_number s new (Boots boot) e = unless (ltb s.clock.boot boot) s (record s { clock = start_of boot }) new refl e
applied_number s new (Creates name fileid owner group mode tick) e = unless _ s (created s name owner group mode tick) new refl e
applied_number s new (SetsAttributes fileid owner group mode times) e = at_number s new fileid _ (λ (f : StoredFile). attributed f owner group mode times) e
applied_number s new (HoldsBytes fileid mtime ctime ranges) e = at_number s new fileid _ (λ (f : StoredFile). holding f mtime ctime ranges) e
applied_number s new (HoldsFile name fileid owner group mode times) e = unless _ s (with_lasting_file s name owner group mode times) new refl e
applied_number s new (HoldsRoot times) e = unless (leb times.ctime.boot s.clock.boot) s (record s { root = times }) new refl e

body_number : (s new : ServerState) (o : Option Logged) → applied_as s o ≡ Some new → new.number ≡ s.number
body_number s new None e = absurd (cc (e))
body_number s new (Some body) e = applied_number s new body e

pub played_number : (s said : ServerState) (place : ℕ) (bodies : List (List ℕ)) → played s place bodies ≡ Ok said → said.number ≡ s.number
played_number s said place [] e = let same : s ≡ said = cc (e) in ap (λ (x : ServerState). x.number) (sym same)
played_number s said place (body ∷ bodies) e = by_first (λ next. played_number next said (place + 5 + length body) bodies) (applied_bytes s body) refl e
  where
    by_first : ((next : ServerState) → played next (place + 5 + length body) bodies ≡ Ok said → said.number ≡ next.number)
        → (o : Option ServerState) → applied_bytes s body ≡ o → played_on place bodies o (λ next. played next (place + 5 + length body) bodies) ≡ Ok said → said.number ≡ s.number
    by_first rests None is f = absurd (cc (f))
    by_first rests (Some next) is f = rests next f ∙ body_number s next (body_in body) is
