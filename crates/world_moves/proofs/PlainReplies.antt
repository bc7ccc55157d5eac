-- The answers of a data server are such as the metadata server takes as they are.
use Rattle.std.proofs.Common.{◌≡◌, ◌<◌, ◌≤◌, ℕ, ◌+◌, min, Bool, true, false, cond, List, [], ◌∷◌, length, take, drop, Option, Some, None, refl, sym, ap, arith, length-take, length-drop}
use Rattle.std.proofs.lemmas.Bool.{le-leb}
use Rattle.cluster_model.specs.declared.ds_call.Shown.{Shown}
use Rattle.cluster_model.specs.File.{StoredFile, Writes, Commits, shown}
use Rattle.cluster_model.specs.Server.{ServerState, Named, Nothing, Root, File, named, Caller, Refusal, Acces, Inval, NotSync as OutOfSync, Fbig, NoSpc, Jukebox, Effect, OnFile, NoEffect, write_refusal, commit_refusal, read_refusal, bytes_read, ends_at, max_read}
use Rattle.cluster_model.specs.DsCalls.{DsCallValue, Create, SetAttr, Write, Commit, Read, DsReplyValue, Written, Committed, shown_by, refusal_reply, unless, shown_after, write_at, commit_at, read_at, bytes_reply, ds_step}
use Rattle.ds_calls.specs.GivenReplies.{odd_answer}
use Rattle.mds_rule.specs.Answers.{gives_nothing, copy_read}
use Rattle.mds_moves.specs.MdsMoves.{ShowsCtime, IsPlain}

abbrev is_plain_read : DsReplyValue → Type 0
is_plain_read given = copy_read given ≡ given

-- ---- WRITE and COMMIT

same_shown : (shown seen : Shown) → Some shown ≡ Some seen → Some shown.seen ≡ Some seen.seen
same_shown shown seen is = cc

refused_shows : (r : Refusal) (s : Shown) → ShowsCtime (refusal_reply r s)
refused_shows OutOfSync s = λ shown is. same_shown s shown is
refused_shows Acces s = λ shown is. same_shown s shown is
refused_shows Inval s = λ shown is. same_shown s shown is
refused_shows Fbig s = λ shown is. same_shown s shown is
refused_shows NoSpc s = λ shown is. same_shown s shown is
refused_shows Jukebox s = λ shown is. same_shown s shown is

unless_shows : (f : StoredFile) (r : Option Refusal) (reply : DsReplyValue) (does : Effect) → ShowsCtime reply → ShowsCtime (unless f r reply does).reply
unless_shows f None reply does shows = shows
unless_shows f (Some refusal) reply does shows = refused_shows refusal (shown_by f)

write_shows : (s : ServerState) (caller : Caller) (at : ℕ) (synced : Bool) (bytes : List ℕ) (n : Named) → ShowsCtime (write_at s caller at synced bytes n).reply
write_shows s caller at synced bytes Nothing = λ shown is. absurd cc
write_shows s caller at synced bytes Root = refused_shows Inval _
write_shows s caller at synced bytes (File index f) =
    unless_shows f (write_refusal s index f caller true at bytes) (Written (shown_after s f (Writes at synced bytes)) s.clock.boot) (OnFile index (Writes at synced bytes)) (λ shown is. same_shown _ shown is)

commit_shows : (s : ServerState) (caller : Caller) (n : Named) → ShowsCtime (commit_at s caller n).reply
commit_shows s caller Nothing = λ shown is. absurd cc
commit_shows s caller Root = refused_shows Inval _
commit_shows s caller (File index f) = unless_shows f (commit_refusal f caller) (Committed (shown_after s f Commits) s.clock.boot) (OnFile index Commits) (λ shown is. same_shown _ shown is)

-- ---- READ

-- where some were asked for, none are read at the end alone
none_at_end : (f : StoredFile) (at count : ℕ) (bytes : List ℕ) → 0 < count → bytes ≡ bytes_read f at count → gives_nothing (ends_at f at bytes) bytes ≡ false
none_at_end f at count [] some is =
    let none : length (take (min count max_read) (drop at (shown f))) ≡ 0 = ap length (sym is) in
    let taken : length (take (min count max_read) (drop at (shown f))) ≡ min (min count max_read) (length (drop at (shown f))) = length-take (min count max_read) (drop at (shown f)) in
    let le : length (shown f) ≤ at + 0 = omega (arith, none, taken, length-drop at (shown f), some) in
    ap (λ (b : Bool). gives_nothing b []) (le-leb (length (shown f)) (at + 0) le)
none_at_end f at count (b ∷ bytes) some is = by_end (ends_at f at (b ∷ bytes))
  where
    by_end : (e : Bool) → gives_nothing e (b ∷ bytes) ≡ false
    by_end true = refl
    by_end false = refl

bytes_plain : (f : StoredFile) (at count : ℕ) → 0 < count → is_plain_read (bytes_reply f at (bytes_read f at count))
bytes_plain f at count some =
    ap (λ (b : Bool). cond b odd_answer (bytes_reply f at (bytes_read f at count))) (none_at_end f at count (bytes_read f at count) some refl)

refused_plain : (r : Refusal) (s : Shown) → is_plain_read (refusal_reply r s)
refused_plain OutOfSync s = refl
refused_plain Acces s = refl
refused_plain Inval s = refl
refused_plain Fbig s = refl
refused_plain NoSpc s = refl
refused_plain Jukebox s = refl

read_unless : (f : StoredFile) (r : Option Refusal) (reply : DsReplyValue) → is_plain_read reply → is_plain_read (unless f r reply NoEffect).reply
read_unless f None reply plain = plain
read_unless f (Some refusal) reply plain = refused_plain refusal (shown_by f)

read_plain : (s : ServerState) (caller : Caller) (at count : ℕ) (n : Named) → 0 < count → is_plain_read (read_at s caller at count n).reply
read_plain s caller at count Nothing some = refl
read_plain s caller at count Root some = refl
read_plain s caller at count (File index f) some = read_unless f (read_refusal f caller) (bytes_reply f at (bytes_read f at count)) (bytes_plain f at count some)

pub plain_answer : (s : ServerState) (caller : Caller) (call : DsCallValue) → IsPlain call (ds_step s caller call).reply
plain_answer s caller (Create name owner) = tt
plain_answer s caller (SetAttr fileid owner guard) = tt
plain_answer s caller (Write fileid at synced bytes) = write_shows s caller at synced bytes (named s.files fileid)
plain_answer s caller (Commit fileid) = commit_shows s caller (named s.files fileid)
plain_answer s caller (Read fileid at count) = λ some. read_plain s caller at count (named s.files fileid) some
