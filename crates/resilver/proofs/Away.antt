-- What one more note leaves as it was for the target on a server.
use Rattle.std.proofs.Common.{◌≡◌, ℕ, ◌+◌, Bool, true, false, cond, List, [], ◌∷◌, ◌++◌, Option, Some, None, refl, ap, ◌∙◌, append-nil}
use Rattle.std.specs.Prelude.{◌==◌, ◌&&◌, ◌||◌, not}
use Rattle.cluster_model.specs.declared.limits.TheConstants.{MAX_TIMEOUTS}
use Rattle.cluster_model.specs.declared.tick.Tick.{Tick}
use Rattle.cluster_model.specs.declared.ids.MirrorId.{MirrorId}
use Rattle.cluster_model.specs.Content.{Pending}
use Rattle.cluster_model.specs.DsCalls.{DsCallValue, Create, SetAttr, Write, Commit, Read, DsReplyValue, Created, Set, Written, Committed, Bytes, NotSync, Failed}
use Rattle.resilver.specs.CopyLaws.{CopyNote, WasSent, WasAnswered, WasLate, HasTicked, CopyCallOut, call_out, is_read, piece_in, pieces_read, write_of_call, write_in, writes_taken, creates, is_creation, was_created, fails_call, lost_by_answer, lost_by_timeout, was_lost, tick_of, is_create, is_write_to, seen_in, later_of, last_seen}

-- no call of this server's target is answered, or times out: none, one of another server, or a READ
pub data IsAway (server : ℕ) (o : Option CopyCallOut) : Type 0 where
  NoCall : o ≡ None → IsAway server o
  OfOther : (k : CopyCallOut) → o ≡ Some k → (k.server == server) ≡ false → IsAway server o
  OfRead : (k : CopyCallOut) → o ≡ Some k → is_read k.call ≡ true → IsAway server o

pub record LeavesBe (copier server : ℕ) (notes new : List CopyNote) : Type 0 where
  pub pieces : pieces_read new ≡ pieces_read notes
  pub writes : (id : MirrorId) → id.server ≡ server → writes_taken id new ≡ writes_taken id notes
  pub created : (id : MirrorId) (name : ℕ) → id.server ≡ server → was_created id name copier new ≡ was_created id name copier notes
  pub lost : was_lost server new ≡ was_lost server notes
  pub seen : (id : MirrorId) → id.server ≡ server → last_seen id new ≡ last_seen id notes

pub and_false : (b : Bool) → (b && false) ≡ false
and_false true = refl
and_false false = refl

write_none : (id : MirrorId) (reply : DsReplyValue) → write_in id reply None ≡ []
write_none id (Created fileid shown) = refl
write_none id (Set shown) = refl
write_none id (Written shown verifier) = refl
write_none id (Committed shown verifier) = refl
write_none id (Bytes shown eof bytes) = refl
write_none id (NotSync shown) = refl
write_none id (Failed status shown) = refl

-- of an answer to no WRITE of this server's
write_answer : (id : MirrorId) (reply : DsReplyValue) (k : CopyCallOut) → write_of_call id k.server k.call ≡ [] → write_in id reply (Some k) ≡ []
write_answer id (Written shown verifier) k none = none
write_answer id (Created fileid shown) k none = refl
write_answer id (Set shown) k none = refl
write_answer id (Committed shown verifier) k none = refl
write_answer id (Bytes shown eof bytes) k none = refl
write_answer id (NotSync shown) k none = refl
write_answer id (Failed status shown) k none = refl

write_other : (id : MirrorId) (server : ℕ) (call : DsCallValue) → (server == id.server) ≡ false → write_of_call id server call ≡ []
write_other id server (Write fileid at synced bytes) other = ap (λ (b : Bool). cond {A = List Pending} (b && ((fileid == id.fileid) && synced)) (record { at = at; bytes = bytes } ∷ []) []) other
write_other id server (Create name owner) other = refl
write_other id server (SetAttr fileid owner guard) other = refl
write_other id server (Commit fileid) other = refl
write_other id server (Read fileid at count) other = refl

write_read : (id : MirrorId) (server : ℕ) (call : DsCallValue) → is_read call ≡ true → write_of_call id server call ≡ []
write_read id server (Read fileid at count) is = refl
write_read id server (Write fileid at synced bytes) is = absurd cc
write_read id server (Create name owner) is = absurd cc
write_read id server (SetAttr fileid owner guard) is = absurd cc
write_read id server (Commit fileid) is = absurd cc

pub write_away : (id : MirrorId) (server : ℕ) (reply : DsReplyValue) (o : Option CopyCallOut) → id.server ≡ server → IsAway server o → write_in id reply o ≡ []
write_away id server reply o same (NoCall is) = ap (write_in id reply) is ∙ write_none id reply
write_away id server reply o same (OfOther k is other) = ap (write_in id reply) is ∙ write_answer id reply k (write_other id k.server k.call (ap (λ n. k.server == n) same ∙ other))
write_away id server reply o same (OfRead k is reads) = ap (write_in id reply) is ∙ write_answer id reply k (write_read id k.server k.call reads)

creation_none : (id : MirrorId) (name copier : ℕ) (reply : DsReplyValue) → is_creation id name copier reply None ≡ false
creation_none id name copier (Created fileid shown) = refl
creation_none id name copier (Set shown) = refl
creation_none id name copier (Written shown verifier) = refl
creation_none id name copier (Committed shown verifier) = refl
creation_none id name copier (Bytes shown eof bytes) = refl
creation_none id name copier (NotSync shown) = refl
creation_none id name copier (Failed status shown) = refl

creation_answer : (id : MirrorId) (name copier : ℕ) (reply : DsReplyValue) (k : CopyCallOut) → ((fileid : ℕ) → ((k.server == id.server) && ((fileid == id.fileid) && creates name copier k.call)) ≡ false)
    → is_creation id name copier reply (Some k) ≡ false
creation_answer id name copier (Created fileid shown) k none = none fileid
creation_answer id name copier (Set shown) k none = refl
creation_answer id name copier (Written shown verifier) k none = refl
creation_answer id name copier (Committed shown verifier) k none = refl
creation_answer id name copier (Bytes shown eof bytes) k none = refl
creation_answer id name copier (NotSync shown) k none = refl
creation_answer id name copier (Failed status shown) k none = refl

pub creates_none : (name copier : ℕ) (call : DsCallValue) → is_read call ≡ true → creates name copier call ≡ false
creates_none name copier (Read fileid at count) is = refl
creates_none name copier (Write fileid at synced bytes) is = absurd cc
creates_none name copier (Create own owner) is = absurd cc
creates_none name copier (SetAttr fileid owner guard) is = absurd cc
creates_none name copier (Commit fileid) is = absurd cc

creation_away : (id : MirrorId) (server name copier : ℕ) (reply : DsReplyValue) (o : Option CopyCallOut) → id.server ≡ server → IsAway server o → is_creation id name copier reply o ≡ false
creation_away id server name copier reply o same (NoCall is) = ap (is_creation id name copier reply) is ∙ creation_none id name copier reply
creation_away id server name copier reply o same (OfOther k is other) =
    ap (is_creation id name copier reply) is
    ∙ creation_answer id name copier reply k (λ fileid. ap (λ b. b && ((fileid == id.fileid) && creates name copier k.call)) (ap (λ n. k.server == n) same ∙ other))
creation_away id server name copier reply o same (OfRead k is reads) =
    ap (is_creation id name copier reply) is
    ∙ creation_answer id name copier reply k (λ fileid.
    ap (λ b. (k.server == id.server) && ((fileid == id.fileid) && b)) (creates_none name copier k.call reads)
    ∙ ap (λ b. (k.server == id.server) && b) (and_false (fileid == id.fileid)) ∙ and_false (k.server == id.server))

fails_none : (call : DsCallValue) (reply : DsReplyValue) → is_read call ≡ true → fails_call call reply ≡ false
fails_none (Read fileid at count) reply is = refl
fails_none (Write fileid at synced bytes) reply is = absurd cc
fails_none (Create own owner) reply is = absurd cc
fails_none (SetAttr fileid owner guard) reply is = absurd cc
fails_none (Commit fileid) reply is = absurd cc

pub answer_away : (server : ℕ) (reply : DsReplyValue) (o : Option CopyCallOut) → IsAway server o → lost_by_answer server reply o ≡ false
answer_away server reply o (NoCall is) = ap (lost_by_answer server reply) is
answer_away server reply o (OfOther k is other) = ap (lost_by_answer server reply) is ∙ ap (λ b. b && fails_call k.call reply) other
answer_away server reply o (OfRead k is reads) = ap (lost_by_answer server reply) is ∙ ap (λ b. (k.server == server) && b) (fails_none k.call reply reads) ∙ and_false (k.server == server)

timeout_away : (server : ℕ) (o : Option CopyCallOut) → IsAway server o → lost_by_timeout server o ≡ false
timeout_away server o (NoCall is) = ap (lost_by_timeout server) is
timeout_away server o (OfOther k is other) = ap (lost_by_timeout server) is ∙ ap (λ b. b && (not (is_read k.call) && (k.timeouts + 1 == MAX_TIMEOUTS))) other
timeout_away server o (OfRead k is reads) =
    ap (lost_by_timeout server) is ∙ ap (λ b. (k.server == server) && (not b && (k.timeouts + 1 == MAX_TIMEOUTS))) reads ∙ and_false (k.server == server)

read_creates : (call : DsCallValue) → is_read call ≡ true → is_create call ≡ false
read_creates (Read fileid at count) is = refl
read_creates (Write fileid at synced bytes) is = absurd cc
read_creates (Create own owner) is = absurd cc
read_creates (SetAttr fileid owner guard) is = absurd cc
read_creates (Commit fileid) is = absurd cc

read_writes : (file : ℕ) (call : DsCallValue) → is_read call ≡ true → is_write_to file call ≡ false
read_writes file (Read fileid at count) is = refl
read_writes file (Write fileid at synced bytes) is = absurd cc
read_writes file (Create own owner) is = absurd cc
read_writes file (SetAttr fileid owner guard) is = absurd cc
read_writes file (Commit fileid) is = absurd cc

-- an answer to no CREATE and no WRITE of this file shows nothing of it
seen_answer : (id : MirrorId) (reply : DsReplyValue) (k : CopyCallOut) → ((fileid : ℕ) → ((k.server == id.server) && ((fileid == id.fileid) && is_create k.call)) ≡ false) → ((k.server == id.server) && is_write_to id.fileid k.call) ≡ false
    → seen_in id reply (Some k) ≡ None
seen_answer id (Created fileid shown) k makes writes = ap (λ (b : Bool). cond {A = Option Tick} b (Some shown.seen) None) (makes fileid)
seen_answer id (Written shown verifier) k makes writes = ap (λ (b : Bool). cond {A = Option Tick} b (tick_of shown) None) writes
seen_answer id (Set shown) k makes writes = refl
seen_answer id (Committed shown verifier) k makes writes = refl
seen_answer id (Bytes shown eof bytes) k makes writes = refl
seen_answer id (NotSync shown) k makes writes = refl
seen_answer id (Failed status shown) k makes writes = refl

seen_none : (id : MirrorId) (reply : DsReplyValue) → seen_in id reply None ≡ None
seen_none id (Created fileid shown) = refl
seen_none id (Set shown) = refl
seen_none id (Written shown verifier) = refl
seen_none id (Committed shown verifier) = refl
seen_none id (Bytes shown eof bytes) = refl
seen_none id (NotSync shown) = refl
seen_none id (Failed status shown) = refl

seen_away : (id : MirrorId) (server : ℕ) (reply : DsReplyValue) (o : Option CopyCallOut) → id.server ≡ server → IsAway server o → seen_in id reply o ≡ None
seen_away id server reply o same (NoCall is) = ap (seen_in id reply) is ∙ seen_none id reply
seen_away id server reply o same (OfOther k is other) =
    let not_here : (k.server == id.server) ≡ false = ap (λ n. k.server == n) same ∙ other in
    ap (seen_in id reply) is ∙ seen_answer id reply k (λ fileid. ap (λ b. b && ((fileid == id.fileid) && is_create k.call)) not_here) (ap (λ b. b && is_write_to id.fileid k.call) not_here)
seen_away id server reply o same (OfRead k is reads) =
    ap (seen_in id reply) is
    ∙ seen_answer id reply k
    (λ fileid. ap (λ b. (k.server == id.server) && ((fileid == id.fileid) && b)) (read_creates k.call reads) ∙ ap (λ b. (k.server == id.server) && b) (and_false (fileid == id.fileid)) ∙ and_false (k.server == id.server))
    (ap (λ b. (k.server == id.server) && b) (read_writes id.fileid k.call reads) ∙ and_false (k.server == id.server))

module _ (copier server : ℕ) (notes : List CopyNote) where
  pub be_sent : (to x : ℕ) (call : DsCallValue) → LeavesBe copier server notes (WasSent to x call ∷ notes)
  be_sent to x call = record { pieces = refl; writes = λ id same. refl; created = λ id name same. refl; lost = refl; seen = λ id same. refl }

  pub be_ticked : LeavesBe copier server notes (HasTicked ∷ notes)
  be_ticked = record { pieces = refl; writes = λ id same. refl; created = λ id name same. refl; lost = refl; seen = λ id same. refl }

  pub be_answered : (x : ℕ) (reply : DsReplyValue) → IsAway server (call_out notes x) → piece_in reply (call_out notes x) ≡ [] → LeavesBe copier server notes (WasAnswered x reply ∷ notes)
  be_answered x reply away none = record {
    pieces = ap (λ l. pieces_read notes ++ l) none ∙ append-nil (pieces_read notes);
    writes = λ id same. ap (λ l. writes_taken id notes ++ l) (write_away id server reply (call_out notes x) same away) ∙ append-nil (writes_taken id notes);
    created = λ id name same. ap (λ b. b || was_created id name copier notes) (creation_away id server name copier reply (call_out notes x) same away);
    lost = ap (λ b. b || was_lost server notes) (answer_away server reply (call_out notes x) away);
    seen = λ id same. ap (λ (o : Option Tick). later_of o (last_seen id notes)) (seen_away id server reply (call_out notes x) same away);
  }

  pub be_late : (x : ℕ) → lost_by_timeout server (call_out notes x) ≡ false → LeavesBe copier server notes (WasLate x ∷ notes)
  be_late x none = record { pieces = refl; writes = λ id same. refl; created = λ id name same. refl; lost = ap (λ b. b || was_lost server notes) none; seen = λ id same. refl }

  pub be_late_away : (x : ℕ) → IsAway server (call_out notes x) → LeavesBe copier server notes (WasLate x ∷ notes)
  be_late_away x away = be_late x (timeout_away server (call_out notes x) away)
