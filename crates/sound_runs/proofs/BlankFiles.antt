-- Until a file is free for the first time, nothing is written at its mirrors (RFC 1813, section 3.3.7).
use Rattle.std.proofs.Common.{◌≡◌, ℕ, ◌+◌, ◌-◌, ◌<◌, ◌≤◌, ◌⊎◌, Bool, true, false, eqb, List, [], ◌∷◌, ◌++◌, set, Option, Some, None, is_some, refl, sym, ap, subst, ◌∙◌, inl, inr, arith}
use Rattle.std.specs.Prelude.{slice_get}
use Rattle.std.specs.List.{AllByRecursion}
use Rattle.std.proofs.lemmas.Bool.{cond_both, cases_eq}
use Rattle.cluster_model.specs.declared.ids.MirrorId.{MirrorId}
use Rattle.cluster_model.specs.declared.ids.Mirror.{Mirror}
use Rattle.cluster_model.specs.declared.piece.Piece.{Piece}
use Rattle.cluster_model.specs.declared.entry.Entry.{Entry}
use Rattle.cluster_model.specs.declared.entry.Entry.TheVariants as entry
use Rattle.cluster_model.specs.Content.{Content, Pending, no_content, overlay_all, joined, settled, survived, kept_of, pieces_of}
use Rattle.cluster_model.specs.File.{StoredFile, FileOp, Writes, Commits, Sets, Restarts as Restarted}
use Rattle.cluster_model.specs.Journal.{Copy, no_copy, is_mirror, copy_after, copy_by, content_of}
use Rattle.cluster_model.specs.Phases.{ids_of}
use Rattle.cluster_model.specs.Server.{ServerState, Effect, NoEffect, OnFile, NewFile, mirror_of, applied_entries, committed_entries, owner_entries, op_entries, entries_of}
use Rattle.cluster_model.specs.DsCalls.{mirror_name}
use Rattle.cluster_model.specs.GuardLaws.{IsTold, Follows}
use Rattle.file_rule.specs.MdsFiles.{MdsFile}
use Rattle.cluster_laws.specs.Machine.{PacketValue, Machine, numbered_at, with_server, file_id}
use Rattle.cluster_laws.specs.FenceLaw.{live_in}
use Rattle.cluster_laws.specs.Agreement.{Has}
use Rattle.cluster_laws.specs.Periods.{was_granted}
use Rattle.cluster_laws.specs.Holders.{the_write}
use Rattle.machine_walk.specs.Owners.{IsUsersWrite}
use Rattle.cluster_laws.proofs.Lists.{put_same, put_other, same_numbered}
use Rattle.cluster_laws.proofs.Journals.{copy_append}
use Rattle.cluster_laws.proofs.Invariant.{IsMirrorOf, net_of}
use Rattle.cluster_laws.proofs.KnownNow.{id_by, stands}
use Rattle.machine_walk.proofs.Stories.{Story, onward_same, IsOnward, IsMoment, AreEach}
use Rattle.sound_runs.proofs.ViewFolds.{users_of}
use Rattle.sound_runs.proofs.StaySo.{same_mirror}
use Rattle.sound_runs.proofs.OnceGranted.{IsUser, not_both}
use Rattle.sound_runs.proofs.Serving.{past_end}
use Rattle.machine_walk.proofs.Writers.{is_applied, IsCopier}
use Rattle.machine_walk.proofs.WriterFacts.{IsAppliedSo, IsWrittenSo}
use Rattle.sound_runs.proofs.Owners.{had_name, some_file}
use Rattle.sound_runs.proofs.AllCases.{AllSo}
use Rattle.sound_runs.proofs.FirstFrees.{not_none, some_on, none_before, making_of}

-- ---- no bytes

kept_none : (pieces : List Piece) → kept_of [] pieces ≡ []
kept_none [] = refl
kept_none (p ∷ pieces) = kept_none pieces

survived_none : (pieces : List Piece) → survived no_content pieces ≡ no_content
survived_none pieces = ap (λ (ws : List Pending). record { stable = overlay_all [] ws; pending = [] }) (kept_none pieces)

abbrev pub IsBlankCopy : Copy → Type 0
IsBlankCopy c = c.content ≡ no_content

blank_one : (m : MirrorId) (c : Copy) (e : Entry) → is_applied e ≡ false → IsBlankCopy c → IsBlankCopy (copy_after m c e)
blank_one m c (entry.Applied mirror cred at bytes) h b = absurd cc
blank_one m c (entry.Committed mirror) h b = cond_both (is_mirror mirror m) (record { content = settled c.content; owner = c.owner }) c IsBlankCopy (λ t. ap settled b) (λ t. b)
blank_one m c (entry.Owner mirror cred) h b = cond_both (is_mirror mirror m) (record { content = c.content; owner = cred.0 }) c IsBlankCopy (λ t. b) (λ t. b)
blank_one m c (entry.Restarted server pieces) h b =
    cond_both (eqb server m.server) (record { content = survived c.content (pieces_of m.fileid pieces); owner = c.owner }) c IsBlankCopy (λ t. ap (λ (k : Content). survived k (pieces_of m.fileid pieces)) b ∙ survived_none (pieces_of m.fileid pieces)) (λ t. b)
blank_one m c _ h b = b

blank_by : (m : MirrorId) (c : Copy) (es : List Entry) → AllByRecursion (λ e. is_applied e ≡ false) es → IsBlankCopy c → IsBlankCopy (copy_by m c es)
blank_by m c [] h b = b
blank_by m c (e ∷ es) h b = blank_by m (copy_after m c e) es h.1 (blank_one m c e h.0 b)

pub blank_on : (m : MirrorId) (journal es : List Entry) → AllByRecursion (λ e. is_applied e ≡ false) es → IsBlankCopy (content_of journal m) → IsBlankCopy (content_of (journal ++ es) m)
blank_on m journal es h b = ap (λ (c : Copy). c.content) (copy_append m no_copy journal es) ∙ blank_by m (content_of journal m) es h b

pub empty_has : (c : Copy) → IsBlankCopy c → Has [] c.content
empty_has c b = subst (Has []) (sym b) (record { shown = refl; stable = refl; pending = tt })

-- ---- what is known

-- nothing was written at a server's files of a name that was drawn for a file without a live list
abbrev pub AreBlank : Story → List Entry → ℕ → ServerState → Type 0
AreBlank t journal next_name s = (index k : ℕ) → slice_get s.names index ≡ Some (mirror_name k) → k < next_name → live_in journal (file_id (t.drawn.home k)) ≡ None → IsBlankCopy (content_of journal (mirror_of s index))

pub record KnowsBlank (t : Story) (m : Machine) (journal : List Entry) : Type 0 where
  -- a file of which there is a copy was free
  pub copies : (u : ℕ) → IsCopier t m.next_uid u → is_some (live_in journal (file_id (t.whose u))) ≡ true
  pub servers : (n : ℕ) (s : ServerState) → numbered_at m.servers n ≡ Some s → AreBlank t journal m.next_name s

-- a mirror without bytes, which belongs to nobody or to a uid of this file
pub record IsBlankAt (t : Story) (journal : List Entry) (id : MirrorId) (n : ℕ) : Type 0 where
  pub blank : IsBlankCopy (content_of journal id)
  pub owner : ((content_of journal id).owner ≡ 0) ⊎ (t.whose (content_of journal id).owner ≡ n)

module _ (t : Story) (m : Machine) (journal : List Entry) (at : IsMoment t m journal) (p : AllSo t m journal) (q : KnowsBlank t m journal) where
  -- ---- a file without a live list was granted to nobody

  no_users : (n : ℕ) → live_in journal (file_id n) ≡ None → users_of journal (file_id n) ≡ []
  no_users n none = by_file (numbered_at m.files n) refl
    where
      by_file : (o : Option MdsFile) → numbered_at m.files n ≡ o → users_of journal (file_id n) ≡ []
      by_file None is = (p.so.past n is).users
      by_file (Some g) is = (p.so.files n g is).made (making_of g.layout.phase (ids_of g.layout.live) (sym (at.holds.files n g is).live ∙ none))

  module _ (id : MirrorId) (n : ℕ) (none : live_in journal (file_id n) ≡ None) (b : IsBlankAt t journal id n) where
    -- no write is applied at its mirror
    never_zero : (user : ℕ) (w : Pending) → user ≡ 0 → IsUsersWrite journal user w ⊎ IsCopier t m.next_uid user → ⊥
    never_zero user w zero (inl g) = not_both (was_granted journal 0) (ap (was_granted journal) (sym zero) ∙ g.granted) p.writers.nobody
    never_zero user w zero (inr c) = wrong c.bytes (sym p.writers.none ∙ (ap t.copied (sym zero) ∙ c.copy))
      where
        wrong : (bytes : List ℕ) → None ≡ Some bytes → ⊥
        wrong bytes e = cc

    never_its : (user : ℕ) (w : Pending) → t.whose user ≡ n → IsUsersWrite journal user w ⊎ IsCopier t m.next_uid user → ⊥
    never_its user w its (inl g) =
        let some = some_file (λ k. []) journal user g.granted in
        let file : some.0 ≡ file_id n = ap (λ (k : ℕ). file_id k) (sym (p.owners.granted some.0 user some.1).0 ∙ its) in
        subst (IsUser user) (ap (users_of journal) file ∙ no_users n none) some.1
    never_its user w its (inr c) = not_none (live_in journal (file_id n)) (subst (λ (k : ℕ). is_some (live_in journal (file_id k)) ≡ true) its (q.copies user c)) none

    never : (mirror : MirrorId) (user : ℕ) (w : Pending) → IsAppliedSo t m.next_uid journal mirror user w → is_mirror mirror id ≡ true → ⊥
    never mirror user w a is = by_owner b.owner
      where
        owner : user ≡ (content_of journal id).owner
        owner = a.owner ∙ ap (λ (k : MirrorId). (content_of journal k).owner) (same_mirror mirror id is)

        by_owner : ((content_of journal id).owner ≡ 0) ⊎ (t.whose (content_of journal id).owner ≡ n) → ⊥
        by_owner (inl zero) = never_zero user w (owner ∙ zero) a.whose
        by_owner (inr its) = never_its user w (ap t.whose owner ∙ its) a.whose

    -- ---- the entries of a call

    abbrev Each : List Entry → Type 0
    Each es = AreEach (IsWrittenSo t m.next_uid) journal es

    abbrev Blank : List Entry → Type 0
    Blank es = IsBlankCopy (copy_by id (content_of journal id) es)

    committed_quiet : (mirror : MirrorId) (synced : Bool) → AllByRecursion (λ e. is_applied e ≡ false) (committed_entries mirror synced)
    committed_quiet mirror false = tt
    committed_quiet mirror true = (refl, tt)

    owner_quiet : (mirror : MirrorId) (owner : Option ℕ) → AllByRecursion (λ e. is_applied e ≡ false) (owner_entries mirror owner)
    owner_quiet mirror None = tt
    owner_quiet mirror (Some uid) = (refl, tt)

    written_blank : (mirror : MirrorId) (uid pos : ℕ) (bytes : List ℕ) (synced : Bool) → Each (applied_entries mirror uid pos bytes ++ committed_entries mirror synced) → Blank (applied_entries mirror uid pos bytes ++ committed_entries mirror synced)
    written_blank mirror uid pos [] synced each = blank_by id (content_of journal id) (committed_entries mirror synced) (committed_quiet mirror synced) b.blank
    written_blank mirror uid pos (x ∷ bytes) synced each =
        blank_by id (copy_after id (content_of journal id) (entry.Applied mirror (record { 0 = uid }) pos (x ∷ bytes))) (committed_entries mirror synced) (committed_quiet mirror synced)
        (cond_both (is_mirror mirror id) (record { content = joined (content_of journal id).content pos (x ∷ bytes); owner = (content_of journal id).owner }) (content_of journal id) IsBlankCopy (λ is. absurd (never mirror uid (the_write pos (x ∷ bytes)) each.0 is)) (λ is. b.blank))

    op_blank : (mirror : MirrorId) (uid : ℕ) (op : FileOp) → Each (op_entries mirror uid op) → Blank (op_entries mirror uid op)
    op_blank mirror uid (Writes pos synced bytes) each = written_blank mirror uid pos bytes synced each
    op_blank mirror uid Commits each = blank_by id (content_of journal id) (entry.Committed mirror ∷ []) (refl, tt) b.blank
    op_blank mirror uid (Sets changes) each = blank_by id (content_of journal id) (owner_entries mirror changes.owner) (owner_quiet mirror changes.owner) b.blank
    op_blank mirror uid (Restarted pieces) each = b.blank

    effect_blank : (s : ServerState) (uid : ℕ) (effect : Effect) → Each (entries_of s uid effect) → Blank (entries_of s uid effect)
    effect_blank s uid NoEffect each = b.blank
    effect_blank s uid (OnFile index op) each = op_blank (mirror_of s index) uid op each
    effect_blank s uid (NewFile name owner group mode) each = blank_by id (content_of journal id) (entry.Owner (mirror_of s _) (record { 0 = owner }) ∷ []) (refl, tt) b.blank

    pub call_blank : (s : ServerState) (uid : ℕ) (effect : Effect) → Each (entries_of s uid effect) → IsBlankCopy (content_of (journal ++ entries_of s uid effect) id)
    call_blank s uid effect each = ap (λ (c : Copy). c.content) (copy_append id no_copy journal (entries_of s uid effect)) ∙ effect_blank s uid effect each

  -- ---- a server that is another one

  module _ (n : ℕ) (s new : ServerState) (there : numbered_at m.servers n ≡ Some s) (follows : Follows s new) where
    same_id : (index : ℕ) → mirror_of new index ≡ mirror_of s index
    same_id index = ap (λ (number : ℕ). record { server = number; fileid = index + 2 }) follows.number

    nobodys : (index k : ℕ) → content_of journal (mirror_of s index) ≡ no_copy → IsBlankAt t journal (mirror_of s index) k
    nobodys index k none = record { blank = ap (λ (c : Copy). c.content) none; owner = inl (ap (λ (c : Copy). c.owner) none) }

    owner_so : (index k : ℕ) → slice_get s.names index ≡ Some (mirror_name k) → k < m.next_name → ((content_of journal (mirror_of s index)).owner ≡ 0) ⊎ (t.whose (content_of journal (mirror_of s index)).owner ≡ t.drawn.home k)
    owner_so index k named less = by_file (slice_get s.files index) refl
      where
        told : IsTold s journal
        told = (at.holds.servers n s there).told

        by_file : (o : Option StoredFile) → slice_get s.files index ≡ o → ((content_of journal (mirror_of s index)).owner ≡ 0) ⊎ (t.whose (content_of journal (mirror_of s index)).owner ≡ t.drawn.home k)
        by_file None is = inl (ap (λ (c : Copy). c.owner) (told.none index (past_end s.files index is)))
        by_file (Some file) is = inr (ap t.whose (sym (ap (λ (c : Copy). c.owner) (told.each index file is))) ∙ p.owners.servers n s there index file k is named less)

    base_at : (index k : ℕ) → slice_get new.names index ≡ Some (mirror_name k) → k < m.next_name → live_in journal (file_id (t.drawn.home k)) ≡ None → IsBlankAt t journal (mirror_of s index) (t.drawn.home k)
    base_at index k named less none = by_name (slice_get s.names index) refl
      where
        by_name : (o : Option (List ℕ)) → slice_get s.names index ≡ o → IsBlankAt t journal (mirror_of s index) (t.drawn.home k)
        by_name None is =
            let server = at.holds.servers n s there in
            let end = past_end s.names index is in
            let many = server.in_order.names in
            nobodys index (t.drawn.home k) (server.told.none index (omega (arith, end, many)))
        by_name (Some name) is =
            let was : slice_get s.names index ≡ Some (mirror_name k) = is ∙ (sym (follows.names index name is) ∙ named) in
            record { blank = q.servers n s there index k was less none; owner = owner_so index k was less }

    pub server_blank : (es : List Entry) → ((id : MirrorId) (k : ℕ) → live_in journal (file_id k) ≡ None → IsBlankAt t journal id k → IsBlankCopy (content_of (journal ++ es) id)) → AreBlank t (journal ++ es) m.next_name new
    server_blank es keeps index k named less none =
        let before : live_in journal (file_id (t.drawn.home k)) ≡ None = none_before (file_id (t.drawn.home k)) journal es none in
        subst (λ (id : MirrorId). IsBlankCopy (content_of (journal ++ es) id)) (sym (same_id index)) (keeps (mirror_of s index) (t.drawn.home k) before (base_at index k named less before))

  -- ---- servers that stay

  pub servers_blank : (then : Story) (names : ℕ) → names ≤ 18446744073709551616 → IsOnward t m.next_uid m.next_name then → (es : List Entry) → AllByRecursion (λ e. is_applied e ≡ false) es → (n : ℕ) (s : ServerState) → numbered_at m.servers n ≡ Some s → AreBlank then (journal ++ es) names s
  servers_blank then names few on es quiet n s there index k named less none =
      let old : k < m.next_name = had_name t m journal at.holds p.owners n s there index k named (omega (arith, less, few)) in
      let before : live_in journal (file_id (t.drawn.home k)) ≡ None = ap (λ (g : ℕ). live_in journal (file_id g)) (sym (on.home k old)) ∙ none_before (file_id (then.drawn.home k)) journal es none in
      blank_on (mirror_of s index) journal es quiet (q.servers n s there index k named old before)

  -- the mirrors of a file without a live list
  pub mirrors_blank : (then : Story) (names : ℕ) → names ≤ 18446744073709551616 → IsOnward t m.next_uid m.next_name then → (next : Machine) → next.servers ≡ m.servers → next.next_name ≡ names → (all : List Entry) (n : ℕ) (live : List Mirror) → AllByRecursion (IsMirrorOf (net_of next then.drawn) n all) live
      → live_in journal (file_id n) ≡ None → AllByRecursion (λ k. Has [] (content_of journal k).content) (ids_of live)
  mirrors_blank then names few on next same up all n [] h none = tt
  mirrors_blank then names few on next same up all n (y ∷ live) h none = (one, mirrors_blank then names few on next same up all n live h.1 none)
    where
      k : IsMirrorOf (net_of next then.drawn) n all y
      k = h.0

      s : ServerState
      s = k.bears.server

      there : numbered_at m.servers y.id.server ≡ Some s
      there = ap (λ (ss : List ServerState). numbered_at ss y.id.server) (sym same) ∙ k.bears.there

      less : k.name < names
      less = let drawn = k.drawn in omega (arith, drawn, up)

      old : k.name < m.next_name
      old = let less = less in had_name t m journal at.holds p.owners y.id.server s there k.bears.index k.name k.bears.named (omega (arith, less, few))

      home : t.drawn.home k.name ≡ n
      home = sym (on.home k.name old) ∙ k.home

      it : y.id ≡ mirror_of s k.bears.index
      it = id_by y.id s.number (k.bears.index + 2) (sym (at.holds.servers y.id.server s there).number) k.bears.place

      one : Has [] (content_of journal y.id).content
      one = empty_has (content_of journal y.id) (subst (λ (id : MirrorId). IsBlankCopy (content_of journal id)) (sym it) (q.servers y.id.server s there k.bears.index k.name k.bears.named old (ap (λ (g : ℕ). live_in journal (file_id g)) home ∙ none)))

  -- a server is another one, and entries are of no write where nothing was written
  module _ (es : List Entry) (keeps : (id : MirrorId) (k : ℕ) → live_in journal (file_id k) ≡ None → IsBlankAt t journal id k → IsBlankCopy (content_of (journal ++ es) id)) where
    pub set_blank : (n : ℕ) (s new : ServerState) → numbered_at m.servers n ≡ Some s → Follows s new → (k : ℕ) (x : ServerState) → numbered_at (set m.servers (n - 1) new) k ≡ Some x → AreBlank t (journal ++ es) m.next_name x
    set_blank n s new there follows k x is =
        elim (cases_eq k n) [
          | inl it ↦ subst (AreBlank t (journal ++ es) m.next_name) (same_numbered (set m.servers (n - 1) new) n new x (put_same m.servers n s new there) (sym (ap (numbered_at (set m.servers (n - 1) new)) it) ∙ is)) (server_blank n s new there follows es keeps)
          | inr other ↦
              let was : numbered_at m.servers k ≡ Some x = sym (put_other m.servers n k s new there other) ∙ is in
              server_blank k x x was (stands x (at.holds.servers k x was).in_order) es keeps
        ]

    pub moved_blank : (n : ℕ) (s new : ServerState) (packets : List PacketValue) → numbered_at m.servers n ≡ Some s → Follows s new → KnowsBlank t (with_server m n new packets) (journal ++ es)
    moved_blank n s new packets there follows = record { copies = λ u c. some_on (file_id (t.whose u)) journal es (q.copies u c); servers = set_blank n s new there follows }

  -- entries of no write, and nothing else
  pub noted_blank : (es : List Entry) → AllByRecursion (λ e. is_applied e ≡ false) es → KnowsBlank t m (journal ++ es)
  noted_blank es quiet = record {
    copies = λ u c. some_on (file_id (t.whose u)) journal es (q.copies u c);
    servers = servers_blank t m.next_name at.holds.few_names (onward_same t m.next_uid m.next_name) es quiet;
  }
