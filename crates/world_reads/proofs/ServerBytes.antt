-- What a data server gives for a READ is what the file shows, which the journal tells.
use Rattle.std.proofs.Common.{◌≡◌, ◌<◌, ◌≤◌, ℕ, ◌+◌, ◌-◌, min, Bool, true, false, cond, List, take, drop, Option, Some, None, refl, sym, ap, subst, ◌∙◌, arith}
use Rattle.std.specs.Prelude.{nat_lt, ◌==◌, slice_get}
use Rattle.std.proofs.lemmas.Bool.{ltb-false, ltb-true}
use Rattle.cluster_model.specs.declared.limits.TheConstants.{PIECE_SIZE, MAX_READ}
use Rattle.cluster_model.specs.declared.ids.MirrorId.{MirrorId}
use Rattle.cluster_model.specs.declared.ds_call.Shown.{Shown}
use Rattle.cluster_model.specs.declared.entry.Entry.{Entry}
use Rattle.cluster_model.specs.Content.{shown_of}
use Rattle.cluster_model.specs.Journal.{Copy, content_of}
use Rattle.cluster_model.specs.File.{StoredFile}
use Rattle.cluster_model.specs.Server.{ServerState, Nothing, Root, File, named, file_at, mirror_of, Caller, Refusal, Acces, Inval, NotSync as OutOfSync, Fbig, NoSpc, Jukebox, NoEffect, read_refusal, bytes_read}
use Rattle.cluster_model.specs.ServerLaws.{copy_of}
use Rattle.cluster_model.specs.GuardLaws.{IsTold}
use Rattle.cluster_model.specs.DsCalls.{DsReplyValue, Bytes, shown_by, refusal_reply, unless, bytes_reply, read_at}
use Rattle.mds_rule.specs.FileOps.{read_length}
use Rattle.ff_laws.specs.ReadLaw.{cut_of}

-- ---- the answer

-- these bytes
abbrev GivesBytes : List ℕ → DsReplyValue → Type 0
GivesBytes bytes (Bytes shown eof given) = given ≡ bytes
GivesBytes bytes reply = ⊥

refused_none : (bytes : List ℕ) (r : Refusal) (s : Shown) → GivesBytes bytes (refusal_reply r s) → ⊥
refused_none bytes OutOfSync s gives = gives
refused_none bytes Acces s gives = gives
refused_none bytes Inval s gives = gives
refused_none bytes Fbig s gives = gives
refused_none bytes NoSpc s gives = gives
refused_none bytes Jukebox s gives = gives

file_gives : (f : StoredFile) (at count : ℕ) (bytes : List ℕ) (r : Option Refusal) → GivesBytes bytes (unless f r (bytes_reply f at (bytes_read f at count)) NoEffect).reply → bytes_read f at count ≡ bytes
file_gives f at count bytes None gives = gives
file_gives f at count bytes (Some refusal) gives = absurd (refused_none bytes refusal (shown_by f) gives)

-- the file that gave them
pub record GivenBy (s : ServerState) (fileid at count : ℕ) (bytes : List ℕ) : Type 0 where
  pub index : ℕ
  pub place : fileid ≡ index + 2
  pub file : StoredFile
  pub there : slice_get s.files index ≡ Some file
  pub gives : bytes_read file at count ≡ bytes

place_is : (fileid : ℕ) → nat_lt fileid 2 ≡ false → fileid ≡ (fileid - 2) + 2
place_is fileid big = let le : 2 ≤ fileid = ltb-false fileid 2 big in omega (arith, le)

given_by : (s : ServerState) (caller : Caller) (fileid at count : ℕ) (bytes : List ℕ) → GivesBytes bytes (read_at s caller at count (named s.files fileid)).reply → GivenBy s fileid at count bytes
given_by s caller fileid at count bytes gives = by_root (fileid == 1) (nat_lt fileid 2) refl gives
  where
    by_file : nat_lt fileid 2 ≡ false → (o : Option StoredFile) → slice_get s.files (fileid - 2) ≡ o → GivesBytes bytes (read_at s caller at count (file_at (fileid - 2) o)).reply → GivenBy s fileid at count bytes
    by_file big None there none = absurd none
    by_file big (Some f) there its = record { index = fileid - 2; place = place_is fileid big; file = f; there = there; gives = file_gives f at count bytes (read_refusal f caller) its }

    by_low : (low : Bool) → nat_lt fileid 2 ≡ low → GivesBytes bytes (read_at s caller at count (cond low Nothing (file_at (fileid - 2) (slice_get s.files (fileid - 2))))).reply → GivenBy s fileid at count bytes
    by_low true is none = absurd none
    by_low false is its = by_file is (slice_get s.files (fileid - 2)) refl its

    by_root : (root low : Bool) → nat_lt fileid 2 ≡ low → GivesBytes bytes (read_at s caller at count (cond root Root (cond low Nothing (file_at (fileid - 2) (slice_get s.files (fileid - 2)))))).reply → GivenBy s fileid at count bytes
    by_root true low is none = absurd none
    by_root false low is its = by_low low is its

-- ---- the file as it is told

cut_is : (count : ℕ) → min (read_length count) MAX_READ ≡ min count PIECE_SIZE
cut_is count = by_test (nat_lt PIECE_SIZE count) refl
  where
    by_test : (b : Bool) → nat_lt PIECE_SIZE count ≡ b → min (cond b PIECE_SIZE count) MAX_READ ≡ min count PIECE_SIZE
    by_test true is = let less : 65536 < count = ltb-true PIECE_SIZE count is in omega (arith, less)
    by_test false is = let le : count ≤ 65536 = ltb-false PIECE_SIZE count is in omega (arith, le)

pub mirror_is : (m : MirrorId) (k f : ℕ) → m.server ≡ k → m.fileid ≡ f → m ≡ record { server = k; fileid = f }
mirror_is m k f first second = subst (λ (x : ℕ). m ≡ record { server = x; fileid = f }) first (subst (λ (y : ℕ). m ≡ record { server = m.server; fileid = y }) second refl)

pub shows_so : (s : ServerState) (journal : List Entry) → IsTold s journal → (caller : Caller) (m : MirrorId) (at count : ℕ) (bytes : List ℕ) (shown : Option Shown) (eof : Bool) → s.number ≡ m.server
    → (read_at s caller at (read_length count) (named s.files m.fileid)).reply ≡ Bytes shown eof bytes → cut_of at count (shown_of (content_of journal m).content) ≡ bytes
shows_so s journal told caller m at count bytes shown eof number reply =
    let g : GivenBy s m.fileid at (read_length count) bytes = given_by s caller m.fileid at (read_length count) bytes (subst (GivesBytes bytes) (sym reply) refl) in
    let same : m ≡ mirror_of s g.index = mirror_is m s.number (g.index + 2) (sym number) g.place in
    let tells : content_of journal m ≡ copy_of g.file = ap (λ (x : MirrorId). content_of journal x) same ∙ sym (told.each g.index g.file g.there) in
    ap (λ (c : Copy). take (min count PIECE_SIZE) (drop at (shown_of c.content))) tells
    ∙ (ap (λ (n : ℕ). take n (drop at (shown_of g.file.content))) (sym (cut_is count)) ∙ g.gives)
