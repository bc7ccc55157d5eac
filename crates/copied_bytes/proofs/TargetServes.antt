-- What a call at a data server leaves of a file that a copy alone writes to.
use Rattle.std.proofs.Common.{◌≡◌, ℕ, ◌+◌, Bool, true, false, cond, List, [], ◌∷◌, ◌++◌, length, Some, None, refl, sym, ap, subst, ◌∙◌, arith}
use Rattle.std.specs.List.{AllByRecursion}
use Rattle.cluster_model.specs.declared.tick.Tick.{Tick}
use Rattle.cluster_model.specs.declared.ids.MirrorId.{MirrorId}
use Rattle.cluster_model.specs.declared.entry.Entry.{Entry}
use Rattle.cluster_model.specs.declared.entry.Entry.TheVariants as entry
use Rattle.cluster_model.specs.Content.{no_content, joined, settled}
use Rattle.cluster_model.specs.Journal.{Copy, no_copy, is_mirror, copy_after, copy_by, content_of}
use Rattle.cluster_model.specs.Server.{ServerState, Caller, mirror_of, applied_entries, committed_entries, entries_of}
use Rattle.cluster_model.specs.DsCalls.{DsCallValue, Create, SetAttr, Write, Commit, Read, DsReplyValue, Created, Set, Written, Committed, Bytes, NotSync, Failed, DsPlan}
use Rattle.cluster_laws.proofs.Lives.{itself}
use Rattle.cluster_laws.proofs.KnownNow.{id_by}
use Rattle.machine_walk.proofs.Stories.{Story, AreEach}
use Rattle.machine_walk.proofs.Writers.{is_applied}
use Rattle.machine_walk.proofs.WriterFacts.{IsWrittenSo}
use Rattle.copied_bytes.proofs.ServerPlans.{PlanKind, Refused, WroteTo, CommittedAt, SetTo, ReadFrom, WasThere, NewMade}
use Rattle.copied_bytes.proofs.Wholes.{whole_by, is_that}
use Rattle.copied_bytes.proofs.Slices.{IsSlice}
use Rattle.copied_bytes.proofs.Parts.{IsPart, IsPut, Became, SameBytes, GotPiece, content_is, part_became, put_more}
use Rattle.copied_bytes.proofs.Sources.{owner_of}
use Rattle.copied_bytes.proofs.SourceServes.{cond_owner, written_owner, committed_owner, committed_off}

-- what a WRITE's reply says
abbrev pub IsWriteReply : List Entry → List ℕ → ℕ → MirrorId → DsReplyValue → Type 0
IsWriteReply journal bytes upto id (Written shown verifier) = IsPut bytes upto (content_of journal id).content
IsWriteReply journal bytes upto id _ = Unit {0}

-- a WRITE by a copy of these bytes is of a piece of them, and stable at once
abbrev pub IsPieceCall : Story → List ℕ → ℕ → DsCallValue → Type 0
IsPieceCall t bytes user (Create name owner) = Unit {0}
IsPieceCall t bytes user (SetAttr fileid owner guard) = Unit {0}
IsPieceCall t bytes user (Write fileid at synced piece) = t.copied user ≡ Some bytes → (synced ≡ true) × IsSlice bytes at piece
IsPieceCall t bytes user (Commit fileid) = Unit {0}
IsPieceCall t bytes user (Read fileid at count) = Unit {0}

pub same_bytes : (id : MirrorId) (entries : List Entry) (c : Copy) → AllByRecursion (λ e. is_applied e ≡ false) entries → c.content.pending ≡ [] → (copy_by id c entries).content ≡ c.content
same_bytes id entries c off none = (whole_by id c.content.stable entries c off (record { is = content_is c.content none })).is ∙ sym (content_is c.content none)

module _ (t : Story) (uid : ℕ) (journal : List Entry) (s : ServerState) (caller : Caller) (id : MirrorId) (bytes : List ℕ) where
  abbrev Then : List Entry → Copy
  Then entries = copy_by id (content_of journal id) entries

  abbrev Comes : List Entry → Type 0
  Comes entries = Became bytes (content_of journal id).content (Then entries).content

  stays_same : (entries : List Entry) → AllByRecursion (λ e. is_applied e ≡ false) entries → IsPart bytes (content_of journal id).content → Comes entries
  stays_same entries off h = SameBytes (same_bytes id entries (content_of journal id) off h.none)

  -- a write there, which is stable at once
  put_here : (m : MirrorId) (user at : ℕ) (b : ℕ) (piece : List ℕ) → is_mirror m id ≡ true → (Then (applied_entries m user at (b ∷ piece) ++ committed_entries m true)).content ≡ settled (joined (content_of journal id).content at (b ∷ piece))
  put_here m user at b piece e =
      ap (λ (x : Bool). (cond x (record { content = settled (cond x (record { content = joined (content_of journal id).content at (b ∷ piece); owner = owner_of journal id }) (content_of journal id)).content; owner = (cond x (record { content = joined (content_of journal id).content at (b ∷ piece); owner = owner_of journal id }) (content_of journal id)).owner }) (cond x (record { content = joined (content_of journal id).content at (b ∷ piece); owner = owner_of journal id }) (content_of journal id))).content) e

  passes : (m : MirrorId) (user at : ℕ) (synced : Bool) (b : ℕ) (piece : List ℕ) → is_mirror m id ≡ false → IsPart bytes (content_of journal id).content → Comes (applied_entries m user at (b ∷ piece) ++ committed_entries m synced)
  passes m user at synced b piece e h =
      let one : Entry = entry.Applied m (record { 0 = user }) at (b ∷ piece) in
      let same : copy_after id (content_of journal id) one ≡ content_of journal id = ap (λ (x : Bool). cond x (record { content = joined (content_of journal id).content at (b ∷ piece); owner = owner_of journal id }) (content_of journal id)) e in
      SameBytes (ap (λ (c : Copy). (copy_by id c (committed_entries m synced)).content) same ∙ same_bytes id (committed_entries m synced) (content_of journal id) (committed_off t uid journal s caller id m synced) h.none)

  comes_write : (m : MirrorId) (at : ℕ) (synced : Bool) (piece : List ℕ) → (t.copied caller.uid ≡ Some bytes → (synced ≡ true) × IsSlice bytes at piece) → t.copied (owner_of journal id) ≡ Some bytes
      → AreEach (IsWrittenSo t uid) journal (applied_entries m caller.uid at piece ++ committed_entries m synced) → IsPart bytes (content_of journal id).content → Comes (applied_entries m caller.uid at piece ++ committed_entries m synced)
  comes_write m at synced [] write owner each h = stays_same (committed_entries m synced) (committed_off t uid journal s caller id m synced) h
  comes_write m at synced (b ∷ piece) write owner each h = by_test (is_mirror m id) refl
    where
      its_user : is_mirror m id ≡ true → caller.uid ≡ owner_of journal id
      its_user e = each.0.owner ∙ ap (λ (k : MirrorId). owner_of journal k) (is_that m id e)

      got : is_mirror m id ≡ true → (y : Bool) → synced ≡ y → (y ≡ true) × IsSlice bytes at (b ∷ piece) → Comes (applied_entries m caller.uid at (b ∷ piece) ++ committed_entries m synced)
      got e false is k = absurd (wrong k.0)
        where
          wrong : false ≡ true → ⊥
          wrong x = cc
      got e true is k = GotPiece at (b ∷ piece) k.1 (ap (λ (y : Bool). (Then (applied_entries m caller.uid at (b ∷ piece) ++ committed_entries m y)).content) is ∙ put_here m caller.uid at b piece e)

      by_test : (x : Bool) → is_mirror m id ≡ x → Comes (applied_entries m caller.uid at (b ∷ piece) ++ committed_entries m synced)
      by_test true e = got e synced refl (write (ap t.copied (its_user e) ∙ owner))
      by_test false e = passes m caller.uid at synced b piece e h

  pub comes : {call : DsCallValue} {plan : DsPlan} → PlanKind s caller call plan → IsPieceCall t bytes caller.uid call → t.copied (owner_of journal id) ≡ Some bytes → AreEach (IsWrittenSo t uid) journal (entries_of s caller.uid plan.effect) → IsPart bytes (content_of journal id).content
      → Comes (entries_of s caller.uid plan.effect)
  comes (Refused call reply k) write owner each h = SameBytes refl
  comes (WroteTo fileid at synced piece index f shown_ verifier place there) write owner each h = comes_write (mirror_of s index) at synced piece write owner each h
  comes (CommittedAt fileid index f shown_ verifier place there) write owner each h = stays_same (entry.Committed (mirror_of s index) ∷ []) (refl, tt) h
  comes (SetTo fileid user guard index f shown_ place there) write owner each h = stays_same (entry.Owner (mirror_of s index) (record { 0 = user }) ∷ []) (refl, tt) h
  comes (ReadFrom fileid at count index f place there) write owner each h = SameBytes refl
  comes (WasThere name user fileid shown_) write owner each h = SameBytes refl
  comes (NewMade name user shown_) write owner each h = stays_same (entry.Owner (mirror_of s (length s.files)) (record { 0 = user }) ∷ []) (refl, tt) h

  -- the reply to the copy's WRITE
  written_put : (m : MirrorId) (at : ℕ) (piece : List ℕ) → m ≡ id → IsSlice bytes at piece → IsPut bytes at (content_of journal id).content → IsPut bytes (at + length piece) (Then (applied_entries m caller.uid at piece ++ committed_entries m true)).content
  written_put m at [] is slice h =
      let zero : at ≡ at + length {A = ℕ} [] = omega arith in
      subst (λ (k : ℕ). IsPut bytes k (Then (committed_entries m true)).content) zero (subst (IsPut bytes at) (sym (same_bytes id (committed_entries m true) (content_of journal id) (refl, tt) h.part.none)) h)
  written_put m at (b ∷ piece) is slice h =
      let e : is_mirror m id ≡ true = ap (λ (k : MirrorId). is_mirror k id) is ∙ itself id in
      subst (IsPut bytes (at + length (b ∷ piece))) (sym (put_here m caller.uid at b piece e)) (put_more bytes at (content_of journal id).content (b ∷ piece) slice h)

  pub write_reply : {call : DsCallValue} {plan : DsPlan} → PlanKind s caller call plan → id.server ≡ s.number → (at : ℕ) (piece : List ℕ) → call ≡ Write id.fileid at true piece → IsSlice bytes at piece → IsPut bytes at (content_of journal id).content
      → (after : List Entry) → content_of after id ≡ Then (entries_of s caller.uid plan.effect) → IsWriteReply after bytes (at + length piece) id plan.reply
  write_reply (Refused call (Failed status shown_) k) on at piece is slice h after same = tt
  write_reply (Refused call (NotSync shown_) k) on at piece is slice h after same = tt
  write_reply (Refused call (Created fileid shown_) k) on at piece is slice h after same = absurd k
  write_reply (Refused call (Set shown_) k) on at piece is slice h after same = absurd k
  write_reply (Refused call (Written shown_ verifier) k) on at piece is slice h after same = absurd k
  write_reply (Refused call (Committed shown_ verifier) k) on at piece is slice h after same = absurd k
  write_reply (Refused call (Bytes shown_ eof more) k) on at piece is slice h after same = absurd k
  write_reply (WroteTo fileid pos synced data_ index f shown_ verifier place there) on at piece is slice h after same =
      let same_id : fileid ≡ id.fileid = cc in
      let same_at : pos ≡ at = cc in
      let same_sync : synced ≡ true = cc in
      let same_data : data_ ≡ piece = cc in
      let m : mirror_of s index ≡ id = sym (id_by id s.number (index + 2) on (sym same_id ∙ place)) in
      subst (λ (c : Copy). IsPut bytes (at + length piece) c.content) (sym same) (rw (same_at, same_sync, same_data) (written_put (mirror_of s index) at piece m slice h))
  write_reply (CommittedAt fileid index f shown_ verifier place there) on at piece is slice h after same = tt
  write_reply (SetTo fileid user guard index f shown_ place there) on at piece is slice h after same = tt
  write_reply (ReadFrom fileid pos count index f place there) on at piece is slice h after same = tt
  write_reply (WasThere name user fileid shown_) on at piece is slice h after same = tt
  write_reply (NewMade name user shown_) on at piece is slice h after same = tt

  -- whoever owns it then
  pub part_then : {call : DsCallValue} {plan : DsPlan} → PlanKind s caller call plan → IsPieceCall t bytes caller.uid call → ((fileid user : ℕ) (guard : Tick) → call ≡ SetAttr fileid user guard → t.copied user ≡ None) → content_of journal (mirror_of s (length s.files)) ≡ no_copy
      → AreEach (IsWrittenSo t uid) journal (entries_of s caller.uid plan.effect) → (t.copied (owner_of journal id) ≡ Some bytes → IsPart bytes (content_of journal id).content)
      → t.copied (Then (entries_of s caller.uid plan.effect)).owner ≡ Some bytes → IsPart bytes (Then (entries_of s caller.uid plan.effect)).content
  part_then (Refused call reply k) write set none each h owner = h owner
  part_then (WroteTo fileid at synced piece index f shown_ verifier place there) write set none each h owner =
      let was : t.copied (owner_of journal id) ≡ Some bytes = sym (ap t.copied (written_owner t uid journal s caller id (mirror_of s index) caller.uid at synced piece (content_of journal id))) ∙ owner in
      part_became bytes (content_of journal id).content _ (comes_write (mirror_of s index) at synced piece write was each (h was)) (h was)
  part_then (CommittedAt fileid index f shown_ verifier place there) write set none each h owner =
      let was : t.copied (owner_of journal id) ≡ Some bytes = sym (ap t.copied (committed_owner t uid journal s caller id (mirror_of s index) true (content_of journal id))) ∙ owner in
      part_became bytes (content_of journal id).content _ (stays_same (entry.Committed (mirror_of s index) ∷ []) (refl, tt) (h was)) (h was)
  part_then (SetTo fileid user guard index f shown_ place there) write set none each h owner = by_test (is_mirror (mirror_of s index) id) refl owner
    where
      by_test : (x : Bool) → is_mirror (mirror_of s index) id ≡ x → t.copied (cond x (record { content = (content_of journal id).content; owner = user }) (content_of journal id)).owner ≡ Some bytes
          → IsPart bytes (cond (is_mirror (mirror_of s index) id) (record { content = (content_of journal id).content; owner = user }) (content_of journal id)).content
      by_test true e k = let wrong : None ≡ Some bytes = sym (set fileid user guard refl) ∙ k in absurd cc
      by_test false e k = subst (λ (x : Bool). IsPart bytes (cond x (record { content = (content_of journal id).content; owner = user }) (content_of journal id)).content) (sym e) (h k)
  part_then (ReadFrom fileid at count index f place there) write set none each h owner = h owner
  part_then (WasThere name user fileid shown_) write set none each h owner = h owner
  part_then (NewMade name user shown_) write set none each h owner = by_test (is_mirror (mirror_of s (length s.files)) id) refl owner
    where
      empty : is_mirror (mirror_of s (length s.files)) id ≡ true → (content_of journal id).content ≡ no_content
      empty e = ap (λ (k : MirrorId). (content_of journal k).content) (sym (is_that (mirror_of s (length s.files)) id e)) ∙ ap (λ (c : Copy). c.content) none

      by_test : (x : Bool) → is_mirror (mirror_of s (length s.files)) id ≡ x → t.copied (cond x (record { content = (content_of journal id).content; owner = user }) (content_of journal id)).owner ≡ Some bytes
          → IsPart bytes (cond (is_mirror (mirror_of s (length s.files)) id) (record { content = (content_of journal id).content; owner = user }) (content_of journal id)).content
      by_test true e k = subst (λ (x : Bool). IsPart bytes (cond x (record { content = (content_of journal id).content; owner = user }) (content_of journal id)).content) (sym e) (subst (IsPart bytes) (sym (empty e)) (record { none = refl; most = omega arith }))
      by_test false e k = subst (λ (x : Bool). IsPart bytes (cond x (record { content = (content_of journal id).content; owner = user }) (content_of journal id)).content) (sym e) (h k)

  -- whom it belongs to then
  pub owner_so : (P : ℕ → Type 0) {call : DsCallValue} {plan : DsPlan} → PlanKind s caller call plan → ((fileid user : ℕ) (guard : Tick) → call ≡ SetAttr fileid user guard → P user) → ((name user : ℕ) → call ≡ Create name user → P user) → P (owner_of journal id)
      → P (Then (entries_of s caller.uid plan.effect)).owner
  owner_so P (Refused call reply k) set made h = h
  owner_so P (WroteTo fileid at synced piece index f shown_ verifier place there) set made h = subst P (sym (written_owner t uid journal s caller id (mirror_of s index) caller.uid at synced piece (content_of journal id))) h
  owner_so P (CommittedAt fileid index f shown_ verifier place there) set made h = subst P (sym (committed_owner t uid journal s caller id (mirror_of s index) true (content_of journal id))) h
  owner_so P (SetTo fileid user guard index f shown_ place there) set made h = cond_owner t uid journal s caller id P (is_mirror (mirror_of s index) id) (record { content = (content_of journal id).content; owner = user }) (content_of journal id) (λ e. set fileid user guard refl) h
  owner_so P (ReadFrom fileid at count index f place there) set made h = h
  owner_so P (WasThere name user fileid shown_) set made h = h
  owner_so P (NewMade name user shown_) set made h = cond_owner t uid journal s caller id P (is_mirror (mirror_of s (length s.files)) id) (record { content = (content_of journal id).content; owner = user }) (content_of journal id) (λ e. made name user refl) h
