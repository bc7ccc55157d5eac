-- A data server does not refuse a WRITE or a COMMIT of a file's owner as one whose layout is no more (RFC 1813, sections 2.6, 3.3.7 and 3.3.21).
use Rattle.std.proofs.Common.{◌≡◌, ◌≢◌, ◌<◌, ◌≤◌, ℕ, zero, suc, ◌+◌, ◌-◌, Bool, true, false, eqb, ltb, cond, List, [], ◌∷◌, length, Option, Some, None, refl, sym, ap, subst, ◌∙◌, inl, inr, arith}
use Rattle.std.specs.Prelude.{slice_get, slice_set, ◌==◌, ◌&&◌, ◌||◌, not, nat_lt}
use Rattle.std.proofs.lemmas.Bool.{cond_both, ne_eqb, eq-eqb, le-ltb}
use Rattle.cluster_model.specs.declared.limits.TheConstants.{FILE_MODE}
use Rattle.cluster_model.specs.declared.ids.MirrorId.{MirrorId}
use Rattle.cluster_model.specs.declared.ds_call.Shown.{Shown}
use Rattle.cluster_model.specs.declared.entry.Entry.{Entry}
use Rattle.cluster_model.specs.File.{StoredFile, Writes, Commits, taken}
use Rattle.cluster_model.specs.Journal.{Copy, no_copy, content_of}
use Rattle.cluster_model.specs.Ticks.{next_tick}
use Rattle.cluster_model.specs.Server.{ServerState, Nothing, Root, named, file_at, mirror_of, Caller, may_write, allows, Refusal, Acces, Inval, NotSync as OutOfSync, Fbig, NoSpc, Jukebox, max_file, max_total, max_ticks, total_size, tick_refusal, room_refusal, write_refusal, commit_refusal, Effect, OnFile}
use Rattle.cluster_model.specs.GuardLaws.{IsTold}
use Rattle.cluster_laws.proofs.Lists.{all_at}
use Rattle.cluster_model.specs.DsCalls.{DsCallValue, Create, SetAttr, Write, Commit, Read, DsReplyValue, Written, Committed, Failed, shown_by, refusal_reply, unless, write_at, commit_at, shown_after, ds_plan}
use Rattle.same_server.specs.SameServer.{caller_of_user}
use Rattle.proper_servers.specs.ProperServers.{IsProperFile, IsProper}
use Rattle.client_sessions.specs.LayoutEnds.{IsFenceStatus, IsCallTo}

-- ---- replies that tell of no lost layout

abbrev TellsNoLoss : DsReplyValue → Type 0
TellsNoLoss (Failed status shown) = IsFenceStatus status → ⊥
TellsNoLoss reply = Unit {0}

other_status : (status : ℕ) → status ≢ 13 → status ≢ 70 → IsFenceStatus status → ⊥
other_status status acces stale (inl is) = acces is
other_status status acces stale (inr is) = stale is

-- the refusals but the one of access
abbrev IsNotAcces : Refusal → Type 0
IsNotAcces Acces = ⊥
IsNotAcces refusal = Unit {0}

other_reply : (r : Refusal) (shown : Shown) → IsNotAcces r → TellsNoLoss (refusal_reply r shown)
other_reply OutOfSync shown other = tt
other_reply Acces shown other = absurd other
other_reply Inval shown other = other_status 22 (λ e. absurd (omega (arith, e))) (λ e. absurd (omega (arith, e)))
other_reply Fbig shown other = other_status 27 (λ e. absurd (omega (arith, e))) (λ e. absurd (omega (arith, e)))
other_reply NoSpc shown other = other_status 28 (λ e. absurd (omega (arith, e))) (λ e. absurd (omega (arith, e)))
other_reply Jukebox shown other = other_status 10008 (λ e. absurd (omega (arith, e))) (λ e. absurd (omega (arith, e)))

abbrev AreOther : Option Refusal → Type 0
AreOther None = Unit {0}
AreOther (Some r) = IsNotAcces r

unless_loses : (f : StoredFile) (r : Option Refusal) (reply : DsReplyValue) (does : Effect) → AreOther r → TellsNoLoss reply → TellsNoLoss (unless f r reply does).reply
unless_loses f None reply does other tells = tells
unless_loses f (Some r) reply does other tells = other_reply r (shown_by f) other

-- ---- what its owner is refused for

room_other : (s : ServerState) (index : ℕ) (f : StoredFile) (at : ℕ) (bytes : List ℕ) → AreOther (room_refusal s index f at bytes)
room_other s index f at [] = tt
room_other s index f at (b ∷ bytes) =
    let full : Option Refusal = cond (nat_lt max_total (total_size (slice_set s.files index (taken f (next_tick s.clock) at (b ∷ bytes))))) (Some NoSpc) (tick_refusal s.clock) in
    cond_both (nat_lt max_file (at + length (b ∷ bytes))) (Some Fbig) full AreOther (λ e. tt)
    (λ e.
    cond_both (nat_lt max_total (total_size (slice_set s.files index (taken f (next_tick s.clock) at (b ∷ bytes))))) (Some NoSpc) (tick_refusal s.clock) AreOther (λ e. tt)
    (λ e. cond_both (eqb s.clock.count max_ticks) (Some Jukebox) None AreOther (λ e. tt) (λ e. tt)))

by_owner : (root : Bool) → (root || (true && true)) ≡ true
by_owner true = refl
by_owner false = refl

mode_allows : (mode : ℕ) → mode ≡ FILE_MODE → allows mode 128 ≡ true
mode_allows mode is = ap (λ (n : ℕ). allows n 128) is

owner_may : (f : StoredFile) (uid : ℕ) → f.mode ≡ FILE_MODE → f.owner ≡ uid → may_write f (caller_of_user uid) ≡ true
owner_may f uid mode owner =
    ap (λ (b : Bool). (uid == 0) || (b && allows f.mode 128)) (eq-eqb uid f.owner (sym owner)) ∙ ap (λ (b : Bool). (uid == 0) || (true && b)) (mode_allows f.mode mode) ∙ by_owner (uid == 0)

write_other : (s : ServerState) (index : ℕ) (f : StoredFile) (caller : Caller) (at : ℕ) (bytes : List ℕ) → may_write f caller ≡ true → AreOther (write_refusal s index f caller true at bytes)
write_other s index f caller at bytes may = subst (λ (b : Bool). AreOther (cond (not b) (Some Acces) (room_refusal s index f at bytes))) (sym may) (room_other s index f at bytes)

commit_other : (f : StoredFile) (caller : Caller) → may_write f caller ≡ true → AreOther (commit_refusal f caller)
commit_other f caller may = subst (λ (b : Bool). AreOther (cond b None (Some Acces))) (sym may) tt

-- ---- the file that a number names

named_is : (files : List StoredFile) (fileid : ℕ) → 2 ≤ fileid → named files fileid ≡ file_at (fileid - 2) (slice_get files (fileid - 2))
named_is files fileid above =
    ap (λ (b : Bool). cond b Root (cond (ltb fileid 2) Nothing (file_at (fileid - 2) (slice_get files (fileid - 2))))) (ne_eqb fileid 1 (λ e. absurd (omega (arith, e, above))))
    ∙ ap (λ (b : Bool). cond b Nothing (file_at (fileid - 2) (slice_get files (fileid - 2)))) (le-ltb fileid 2 above)

none_at : {A : Type 0} (xs : List A) (i : ℕ) → slice_get xs i ≡ None → length xs ≤ i
none_at [] i is = omega arith
none_at (x ∷ xs) zero is = absurd cc
none_at (x ∷ xs) (suc i) is = let rest : length xs ≤ i = none_at xs i is in omega (arith, rest)

id_is : (id : MirrorId) (server fileid : ℕ) → id.server ≡ server → id.fileid ≡ fileid → ◌≡◌ {A = MirrorId} (record { server = server; fileid = fileid }) id
id_is id server fileid first second = subst (λ (x : ℕ). ◌≡◌ {A = MirrorId} (record { server = x; fileid = fileid }) id) first (subst (λ (y : ℕ). ◌≡◌ {A = MirrorId} (record { server = id.server; fileid = y }) id) second refl)

-- a mirror that belongs to this uid
module _ (s : ServerState) (journal : List Entry) (told : IsTold s journal) (proper : IsProper s) (uid : ℕ) (some : 0 < uid) (id : MirrorId) (number : s.number ≡ id.server) (above : 2 ≤ id.fileid) (owner : (content_of journal id).owner ≡ uid) where
  its_place : mirror_of s (id.fileid - 2) ≡ id
  its_place = id_is id s.number (id.fileid - 2 + 2) (sym number) (omega (arith, above))

  -- it is there
  not_none : slice_get s.files (id.fileid - 2) ≡ None → ⊥
  not_none is =
      let blank : content_of journal id ≡ no_copy = ap (λ (x : MirrorId). content_of journal x) (sym its_place) ∙ told.none (id.fileid - 2) (none_at s.files (id.fileid - 2) is) in
      let zero_uid : 0 ≡ uid = sym (ap (λ (c : Copy). c.owner) blank) ∙ owner in
      absurd (omega (arith, zero_uid, some))

  may : (f : StoredFile) → slice_get s.files (id.fileid - 2) ≡ Some f → may_write f (caller_of_user uid) ≡ true
  may f there =
      owner_may f uid (all_at IsProperFile s.files (id.fileid - 2) f proper.files there).mode
      (ap (λ (c : Copy). c.owner) (told.each (id.fileid - 2) f there ∙ ap (λ (x : MirrorId). content_of journal x) its_place) ∙ owner)

  write_loses : (at : ℕ) (synced : Bool) (bytes : List ℕ) → TellsNoLoss (write_at s (caller_of_user uid) at synced bytes (named s.files id.fileid)).reply
  write_loses at synced bytes = subst (λ n. TellsNoLoss (write_at s (caller_of_user uid) at synced bytes n).reply) (sym (named_is s.files id.fileid above)) (by_file (slice_get s.files (id.fileid - 2)) refl)
    where
      by_file : (o : Option StoredFile) → slice_get s.files (id.fileid - 2) ≡ o → TellsNoLoss (write_at s (caller_of_user uid) at synced bytes (file_at (id.fileid - 2) o)).reply
      by_file None there = absurd (not_none there)
      by_file (Some f) there =
          unless_loses f (write_refusal s (id.fileid - 2) f (caller_of_user uid) true at bytes) (Written (shown_after s f (Writes at synced bytes)) s.clock.boot) (OnFile (id.fileid - 2) (Writes at synced bytes))
          (write_other s (id.fileid - 2) f (caller_of_user uid) at bytes (may f there)) tt

  commit_loses : TellsNoLoss (commit_at s (caller_of_user uid) (named s.files id.fileid)).reply
  commit_loses = subst (λ n. TellsNoLoss (commit_at s (caller_of_user uid) n).reply) (sym (named_is s.files id.fileid above)) (by_file (slice_get s.files (id.fileid - 2)) refl)
    where
      by_file : (o : Option StoredFile) → slice_get s.files (id.fileid - 2) ≡ o → TellsNoLoss (commit_at s (caller_of_user uid) (file_at (id.fileid - 2) o)).reply
      by_file None there = absurd (not_none there)
      by_file (Some f) there =
          unless_loses f (commit_refusal f (caller_of_user uid)) (Committed (shown_after s f Commits) s.clock.boot) (OnFile (id.fileid - 2) Commits) (commit_other f (caller_of_user uid) (may f there)) tt

  tells_no_loss : (call : DsCallValue) → IsCallTo id call → TellsNoLoss (ds_plan s (caller_of_user uid) call).reply
  tells_no_loss (Write fileid at synced bytes) to = subst (λ (n : ℕ). TellsNoLoss (write_at s (caller_of_user uid) at synced bytes (named s.files n)).reply) (sym to) (write_loses at synced bytes)
  tells_no_loss (Commit fileid) to = subst (λ (n : ℕ). TellsNoLoss (commit_at s (caller_of_user uid) (named s.files n)).reply) (sym to) commit_loses
  tells_no_loss (Create name of_uid) to = absurd to
  tells_no_loss (SetAttr fileid of_uid guard) to = absurd to
  tells_no_loss (Read fileid at count) to = absurd to

  -- so it refuses no call of that uid so
  pub not_refused : (call : DsCallValue) → IsCallTo id call → (status : ℕ) (shown : Option Shown) → IsFenceStatus status → (ds_plan s (caller_of_user uid) call).reply ≡ Failed status shown → ⊥
  not_refused call to status shown fence is = (subst TellsNoLoss is (tells_no_loss call to)) fence
