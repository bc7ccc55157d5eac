-- What the rule of a data server replies is an answer to the call.
use Rattle.std.proofs.Common.{◌≡◌, ℕ, ◌+◌, ◌^◌, ◌<◌, ◌≤◌, Bool, true, false, List, [], ◌∷◌, length, Option, Some, None, refl, sym, ap, ◌∙◌, arith}
use Rattle.std.specs.Prelude.{not, ◌==◌, if◌then◌else◌, nat_lt, slice_get, slice_set}
use Rattle.cluster_model.specs.Ticks.{next_tick}
use Rattle.std.proofs.lemmas.List.{length-take}
use Rattle.std.proofs.lemmas.Option.{slice_get_within}
use Rattle.cluster_model.specs.declared.tick.Tick.{Tick}
use Rattle.cluster_model.specs.File.{StoredFile, taken}
use Rattle.cluster_model.specs.Server.{ServerState, Named, Nothing, Root, File, named, index_of, Caller, Refusal, Acces, Inval, NotSync as OutOfSync, Fbig, NoSpc, Jukebox, tick_refusal, may_read, may_write, max_ticks, max_file, max_total, total_size, read_refusal, room_refusal, write_refusal, commit_refusal, set_refusal, bytes_read, Effect}
use Rattle.cluster_model.specs.DsCalls.{DsCallValue, Create, SetAttr, Write, Commit, Read, DsReplyValue, DsPlan, shown_by, refusal_reply, unless, write_at, commit_at, set_at, read_at, created_before, created_by, made_unless, mirror_name, ds_plan}
use Rattle.ds_calls.specs.DsCallLaws.{IsAnswerTo}

abbrev asks_again : Option Refusal → Bool
asks_again (Some OutOfSync) = true
asks_again refusal = false

either : (t : Bool) (a b : Option Refusal) → asks_again a ≡ false → asks_again b ≡ false → asks_again (if t then a else b) ≡ false
either true a b p q = p
either false a b p q = q

room_again : (s : ServerState) (index : ℕ) (f : StoredFile) (at : ℕ) (bytes : List ℕ) → asks_again (room_refusal s index f at bytes) ≡ false
room_again s index f at [] = refl
room_again s index f at (b ∷ bytes) =
    let ticks = either (s.clock.count == max_ticks) (Some Jukebox) None refl refl in
    let rooms = either (nat_lt max_total (total_size (slice_set s.files index (taken f (next_tick s.clock) at (b ∷ bytes))))) (Some NoSpc) (tick_refusal s.clock) refl ticks in
    either (nat_lt max_file (at + length (b ∷ bytes))) (Some Fbig) _ refl rooms

write_again : (s : ServerState) (index : ℕ) (f : StoredFile) (caller : Caller) (at : ℕ) (bytes : List ℕ) → asks_again (write_refusal s index f caller true at bytes) ≡ false
write_again s index f caller at bytes = either (not (may_write f caller)) (Some Acces) (room_refusal s index f at bytes) refl (room_again s index f at bytes)

unless_answers : (call : DsCallValue) (f : StoredFile) (refusal : Option Refusal) (reply : DsReplyValue) (does : Effect)
    → ((r : Refusal) → refusal ≡ Some r → IsAnswerTo call (refusal_reply r (shown_by f))) → IsAnswerTo call reply → IsAnswerTo call (unless f refusal reply does).reply
unless_answers call f None reply does refuses done = done
unless_answers call f (Some r) reply does refuses done = refuses r refl

-- a call whose refusals are all but NOT_SYNC
plain_refusal : (call : DsCallValue) (refusal : Option Refusal) → asks_again refusal ≡ false → (f : StoredFile)
    → IsAnswerTo call (refusal_reply Acces (shown_by f)) → IsAnswerTo call (refusal_reply Inval (shown_by f)) → IsAnswerTo call (refusal_reply Fbig (shown_by f)) → IsAnswerTo call (refusal_reply NoSpc (shown_by f)) → IsAnswerTo call (refusal_reply Jukebox (shown_by f))
    → (r : Refusal) → refusal ≡ Some r → IsAnswerTo call (refusal_reply r (shown_by f))
plain_refusal call refusal never f a i b n j Acces is = a
plain_refusal call refusal never f a i b n j Inval is = i
plain_refusal call refusal never f a i b n j OutOfSync is = absurd (not_both (sym never ∙ ap asks_again is))
  where
    not_both : false ≡ true → ⊥
    not_both e = absurd cc
plain_refusal call refusal never f a i b n j Fbig is = b
plain_refusal call refusal never f a i b n j NoSpc is = n
plain_refusal call refusal never f a i b n j Jukebox is = j

write_answers : (s : ServerState) (caller : Caller) (fileid at : ℕ) (synced : Bool) (bytes : List ℕ) (object : Named)
    → IsAnswerTo (Write fileid at synced bytes) (write_at s caller at synced bytes object).reply
write_answers s caller fileid at synced bytes Nothing = refl
write_answers s caller fileid at synced bytes Root = refl
write_answers s caller fileid at synced bytes (File index f) =
    unless_answers (Write fileid at synced bytes) f (write_refusal s index f caller true at bytes) _ _
    (plain_refusal (Write fileid at synced bytes) (write_refusal s index f caller true at bytes) (write_again s index f caller at bytes) f refl refl refl refl refl) tt

commit_answers : (s : ServerState) (caller : Caller) (fileid : ℕ) (object : Named) → IsAnswerTo (Commit fileid) (commit_at s caller object).reply
commit_answers s caller fileid Nothing = refl
commit_answers s caller fileid Root = refl
commit_answers s caller fileid (File index f) =
    unless_answers (Commit fileid) f (commit_refusal f caller) _ _ (plain_refusal (Commit fileid) (commit_refusal f caller) (either (may_write f caller) None (Some Acces) refl refl) f refl refl refl refl refl) tt

few_bytes : (f : StoredFile) (at count : ℕ) → length (bytes_read f at count) ≤ count
few_bytes f at count = grind (arith, length-take)

read_answers : (s : ServerState) (caller : Caller) (fileid at count : ℕ) (object : Named) → IsAnswerTo (Read fileid at count) (read_at s caller at count object).reply
read_answers s caller fileid at count Nothing = refl
read_answers s caller fileid at count Root = refl
read_answers s caller fileid at count (File index f) =
    unless_answers (Read fileid at count) f (read_refusal f caller) _ _ (plain_refusal (Read fileid at count) (read_refusal f caller) (either (may_read f caller) None (Some Acces) refl refl) f refl refl refl refl refl) (few_bytes f at count)

set_answers : (s : ServerState) (caller : Caller) (fileid owner : ℕ) (guard : Tick) (object : Named) → IsAnswerTo (SetAttr fileid owner guard) (set_at s caller owner guard object).reply
set_answers s caller fileid owner guard Nothing = (refl, λ e. omega (arith, e))
set_answers s caller fileid owner guard Root = (refl, λ e. omega (arith, e))
set_answers s caller fileid owner guard (File index f) = unless_answers (SetAttr fileid owner guard) f (set_refusal s f caller true (Some guard)) _ _ each tt
  where
    each : (r : Refusal) → set_refusal s f caller true (Some guard) ≡ Some r → IsAnswerTo (SetAttr fileid owner guard) (refusal_reply r (shown_by f))
    each Acces is = (refl, λ e. omega (arith, e))
    each Inval is = (refl, λ e. omega (arith, e))
    each OutOfSync is = tt
    each Fbig is = (refl, λ e. omega (arith, e))
    each NoSpc is = (refl, λ e. omega (arith, e))
    each Jukebox is = (refl, λ e. omega (arith, e))

plan_either : (call : DsCallValue) (t : Bool) (a b : DsPlan) → IsAnswerTo call a.reply → IsAnswerTo call b.reply → IsAnswerTo call (if t then a else b).reply
plan_either call true a b p q = p
plan_either call false a b p q = q

before_answers : (s : ServerState) (name owner index : ℕ) (found : Option StoredFile) → slice_get s.files index ≡ found → length s.files + 2 < 2 ^ 64
    → IsAnswerTo (Create name owner) (created_before index found).reply
before_answers s name owner index None is room = refl
before_answers s name owner index (Some f) is room = omega (arith, slice_get_within s.files index f is, room)

made_answers : (s : ServerState) (name owner : ℕ) (refusal : Option Refusal) → length s.files + 2 < 2 ^ 64 → IsAnswerTo (Create name owner) (made_unless s (mirror_name name) owner refusal).reply
made_answers s name owner None room = room
made_answers s name owner (Some Acces) room = refl
made_answers s name owner (Some Inval) room = refl
made_answers s name owner (Some OutOfSync) room = refl
made_answers s name owner (Some Fbig) room = refl
made_answers s name owner (Some NoSpc) room = refl
made_answers s name owner (Some Jukebox) room = refl

created_answers : (s : ServerState) (name owner : ℕ) (found : Option ℕ) → length s.files + 2 < 2 ^ 64 → IsAnswerTo (Create name owner) (created_by s (mirror_name name) owner found).reply
created_answers s name owner (Some index) room = before_answers s name owner index (slice_get s.files index) refl room
created_answers s name owner None room = made_answers s name owner (tick_refusal s.clock) room

pub rule_answers : (s : ServerState) (caller : Caller) (call : DsCallValue) → length s.files + 2 < 2 ^ 64 → IsAnswerTo call (ds_plan s caller call).reply
rule_answers s caller (Create name owner) room = plan_either (Create name owner) (not (caller.uid == 0)) _ _ refl (created_answers s name owner (index_of s.names (mirror_name name)) room)
rule_answers s caller (SetAttr fileid owner guard) room = set_answers s caller fileid owner guard (named s.files fileid)
rule_answers s caller (Write fileid at synced bytes) room = write_answers s caller fileid at synced bytes (named s.files fileid)
rule_answers s caller (Commit fileid) room = commit_answers s caller fileid (named s.files fileid)
rule_answers s caller (Read fileid at count) room = read_answers s caller fileid at count (named s.files fileid)
