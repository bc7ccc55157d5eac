-- Each data file belongs to a uid that was drawn for the file that its name was drawn for.
use Rattle.std.proofs.Common.{◌≡◌, ℕ, ◌+◌, ◌-◌, ◌<◌, ◌≤◌, Bool, true, false, ◌||◌, cond, List, [], ◌∷◌, set, Option, Some, refl, sym, ap, subst, ◌∙◌, inl, inr, arith, eq-eqb}
use Rattle.std.specs.Prelude.{slice_get}
use Rattle.std.specs.List.{AllByRecursion}
use Rattle.std.proofs.lemmas.Bool.{cond_both, eqb-true, cases_eq, cases_lt}
use Rattle.std.proofs.lemmas.Option.{same_Some}
use Rattle.cluster_model.specs.declared.tick.Tick.{Tick}
use Rattle.cluster_model.specs.declared.ids.FileId.{FileId}
use Rattle.cluster_model.specs.declared.entry.Entry.{Entry}
use Rattle.cluster_model.specs.declared.entry.Entry.TheVariants as entry
use Rattle.cluster_model.specs.File.{StoredFile}
use Rattle.cluster_model.specs.Server.{ServerState}
use Rattle.cluster_model.specs.DsCalls.{DsCallValue, Create, SetAttr, Write, Commit, Read, mirror_name}
use Rattle.cluster_model.specs.GuardLaws.{Follows, Came, Stayed, WasGiven, WasMade}
use Rattle.cluster_model.specs.declared.layout_state.LayoutState.{LayoutState}
use Rattle.file_rule.specs.MdsFiles.{Activity, Idle, Makes, Fences, Settles, Copies}
use Rattle.cluster_laws.specs.Machine.{PacketValue, Call, Reply, Machine, numbered_at}
use Rattle.cluster_laws.specs.FenceLaw.{is_file}
use Rattle.cluster_laws.specs.Periods.{grants, was_granted}
use Rattle.cluster_laws.proofs.Facts.{AllFollow, Bears, bears_on}
use Rattle.cluster_laws.proofs.Names.{name_is}
use Rattle.cluster_laws.proofs.Lists.{all_more, put_same, put_other, same_numbered}
use Rattle.cluster_laws.proofs.Invariant.{at_server, IsCallOf, Holds}
use Rattle.cluster_laws.proofs.Draws.{new_home, new_low}
use Rattle.cluster_laws.proofs.KnownNow.{stands}
use Rattle.cluster_laws.proofs.PeriodStates.{IsMine}
use Rattle.machine_walk.proofs.Stories.{Story, drawn_story, IsOnward, onward_drawn}
use Rattle.machine_walk.proofs.Writers.{HasUids}
use Rattle.sound_runs.proofs.ViewFolds.{users_after, users_by, users_of}
use Rattle.sound_runs.proofs.OnceGranted.{IsUser}

-- ---- what is known

pub record HasOwnName (t : Story) (servers : List ServerState) (next_uid next_name server fileid owner : ℕ) : Type 0 where
  pub name : ℕ
  pub drawn : name < next_name
  pub bears : Bears servers (at_server server fileid) name
  pub whose : t.whose owner ≡ t.drawn.home name
  pub less : owner < next_uid

abbrev pub IsOwnCall : Story → List ServerState → ℕ → ℕ → ℕ → DsCallValue → Type 0
IsOwnCall t servers next_uid next_name server (Create name owner) = Unit {0}
IsOwnCall t servers next_uid next_name server (SetAttr fileid owner guard) = HasOwnName t servers next_uid next_name server fileid owner
IsOwnCall t servers next_uid next_name server (Write fileid at synced bytes) = Unit {0}
IsOwnCall t servers next_uid next_name server (Commit fileid) = Unit {0}
IsOwnCall t servers next_uid next_name server (Read fileid at count) = Unit {0}

abbrev pub IsOwnPacket : Story → List ServerState → ℕ → ℕ → PacketValue → Type 0
IsOwnPacket t servers next_uid next_name (Call from server xid uid gid call) = IsOwnCall t servers next_uid next_name server call
IsOwnPacket t servers next_uid next_name (Reply place server to xid reply) = Unit {0}

abbrev pub AreOwn : Story → ℕ → ServerState → Type 0
AreOwn t next_name s = (index : ℕ) (file : StoredFile) (k : ℕ) → slice_get s.files index ≡ Some file → slice_get s.names index ≡ Some (mirror_name k) → k < next_name → t.whose file.owner ≡ t.drawn.home k

pub record KnowsOwners (t : Story) (m : Machine) (journal : List Entry) : Type 0 where
  pub names : (k : ℕ) → k < m.next_name → t.whose (t.drawn.low k) ≡ t.drawn.home k
  pub packets : AllByRecursion (IsOwnPacket t m.servers m.next_uid m.next_name) m.packets
  pub servers : (n : ℕ) (s : ServerState) → numbered_at m.servers n ≡ Some s → AreOwn t m.next_name s
  pub granted : (f : FileId) (u : ℕ) → IsUser u (users_of journal f) → (t.whose u ≡ f.0) × (u < m.next_uid)

-- ---- the uid of a file is its own

pub cred_mine : (t : Story) (uid n : ℕ) (s : LayoutState) (a : Activity) → HasUids t uid n s a → IsMine t.whose uid n s.cred.0
cred_mine t uid n s Idle h = h.mine
cred_mine t uid n s (Makes all) h = h.mine
cred_mine t uid n s (Fences fence) h = h.old
cred_mine t uid n s (Settles stage) h = h.mine
cred_mine t uid n s (Copies c) h = h.plain.mine

-- ---- later on

module _ (t : Story) (servers : List ServerState) (uid name : ℕ) (then : Story) (next : List ServerState) (more names : ℕ) (on : IsOnward t uid name then) (follow : AllFollow servers next) (up : uid ≤ more) (ups : name ≤ names) where
  own_call_on : (server : ℕ) (call : DsCallValue) → IsOwnCall t servers uid name server call → IsOwnCall then next more names server call
  own_call_on server (Create a owner) h = tt
  own_call_on server (SetAttr fileid owner guard) h =
      let drawn = h.drawn in
      let less = h.less in
      record {
        name = h.name;
        drawn = omega (arith, drawn, ups);
        bears = bears_on servers next follow (at_server server fileid) h.name h.bears;
        whose = on.whose owner h.less ∙ (h.whose ∙ sym (on.home h.name h.drawn));
        less = omega (arith, less, up);
      }
  own_call_on server (Write fileid at synced bytes) h = tt
  own_call_on server (Commit fileid) h = tt
  own_call_on server (Read fileid at count) h = tt

  own_packet_on : (p : PacketValue) → IsOwnPacket t servers uid name p → IsOwnPacket then next more names p
  own_packet_on (Call from server xid user gid call) h = own_call_on server call h
  own_packet_on (Reply place server to xid reply) h = tt

  pub own_packets_on : (packets : List PacketValue) → AllByRecursion (IsOwnPacket t servers uid name) packets → AllByRecursion (IsOwnPacket then next more names) packets
  own_packets_on packets h = all_more (IsOwnPacket t servers uid name) (IsOwnPacket then next more names) packets own_packet_on h

module _ (t : Story) (m : Machine) (journal : List Entry) (h : Holds m journal t.drawn) (p : KnowsOwners t m journal) where
  -- a name that a server has was drawn
  pub had_name : (n : ℕ) (s : ServerState) → numbered_at m.servers n ≡ Some s → (index k : ℕ) → slice_get s.names index ≡ Some (mirror_name k) → k < 18446744073709551616 → k < m.next_name
  had_name n s there index k is few =
      let had = (h.servers n s there).names index (mirror_name k) is in
      let less = had.2 in
      let all = h.few_names in
      let same : k ≡ had.0 = name_is k had.0 few (omega (arith, less, all)) had.1 in
      omega (arith, same, less)

  -- servers that stay, behind what is drawn
  pub servers_on : (then : Story) (names : ℕ) → names ≤ 18446744073709551616 → IsOnward t m.next_uid m.next_name then → (n : ℕ) (s : ServerState) → numbered_at m.servers n ≡ Some s → AreOwn then names s
  servers_on then names few on n s there index file k is named less =
      let old : k < m.next_name = had_name n s there index k named (omega (arith, less, few)) in
      let bound = (h.servers n s there).owners index file k is named old in
      let top = h.tops (t.drawn.home k) in
      let up = bound.1 in
      on.whose file.owner (omega (arith, up, top)) ∙ (p.servers n s there index file k is named old ∙ sym (on.home k old))

  -- names that are drawn with a uid
  pub names_drawn : (n : ℕ) (bytes : Option (List ℕ)) (k : ℕ) → (drawn_story t m.next_name n m.next_uid bytes).whose ((drawn_story t m.next_name n m.next_uid bytes).drawn.low k) ≡ (drawn_story t m.next_name n m.next_uid bytes).drawn.home k
  names_drawn n bytes k =
      let then : Story = drawn_story t m.next_name n m.next_uid bytes in
      let on : IsOnward t m.next_uid m.next_name then = onward_drawn t m.next_uid m.next_name n bytes in
      elim (cases_lt k m.next_name) [
        | inl less ↦
            let low = h.lows k less in
            let top = h.tops (t.drawn.home k) in
            ap then.whose (on.low k less) ∙ (on.whose (t.drawn.low k) (omega (arith, low, top)) ∙ (p.names k less ∙ sym (on.home k less)))
        | inr more ↦
            ap then.whose (new_low t.drawn m.next_name n m.next_uid k more) ∙ (ap (λ (b : Bool). cond b n (t.whose m.next_uid)) (eq-eqb m.next_uid m.next_uid refl) ∙ sym (new_home t.drawn m.next_name n m.next_uid k more))
      ]

  -- ---- a call at a server

  module _ (n : ℕ) (s new : ServerState) (there : numbered_at m.servers n ≡ Some s) (call : DsCallValue) (own : IsOwnCall t m.servers m.next_uid m.next_name n call) (is_call : IsCallOf t.drawn m.servers m.next_name n call)
      (came : (index : ℕ) (file : StoredFile) → slice_get new.files index ≡ Some file → Came s call new index file) where
    same_name : (a b : ℕ) → a < m.next_name → b < m.next_name → Some (mirror_name a) ≡ Some (mirror_name b) → a ≡ b
    same_name a b la lb e = let few = h.few_names in name_is a b (omega (arith, la, few)) (omega (arith, lb, few)) (same_Some (mirror_name a) (mirror_name b) e)

    given : (index : ℕ) (file : StoredFile) (k : ℕ) (guard : Tick) → slice_get s.names index ≡ Some (mirror_name k) → k < m.next_name → call ≡ SetAttr (index + 2) file.owner guard → t.whose file.owner ≡ t.drawn.home k
    given index file k guard named less is =
        let o : HasOwnName t m.servers m.next_uid m.next_name n (index + 2) file.owner = subst (IsOwnCall t m.servers m.next_uid m.next_name n) is own in
        let server : o.bears.server ≡ s = same_numbered m.servers n o.bears.server s o.bears.there there in
        let place = o.bears.place in
        let at : o.bears.index ≡ index = omega (arith, place) in
        let named_so : slice_get s.names index ≡ Some (mirror_name o.name) = sym (ap (λ (x : ServerState). slice_get x.names o.bears.index) server ∙ ap (slice_get s.names) at) ∙ o.bears.named in
        o.whose ∙ ap t.drawn.home (same_name o.name k o.drawn less (sym named_so ∙ named))

    made : (index : ℕ) (file : StoredFile) (k name : ℕ) → slice_get new.names index ≡ Some (mirror_name k) → k < m.next_name → call ≡ Create name file.owner → slice_get new.names index ≡ Some (mirror_name name) → t.whose file.owner ≡ t.drawn.home k
    made index file k name named less is here =
        let c : (name < m.next_name) × (file.owner ≡ t.drawn.low name) = subst (IsCallOf t.drawn m.servers m.next_name n) is is_call in
        ap t.whose c.1 ∙ (p.names name c.0 ∙ ap t.drawn.home (same_name name k c.0 less (sym here ∙ named)))

    pub own_served : AreOwn t m.next_name new
    own_served index file k is named less = by_came (came index file is)
      where
        by_came : Came s call new index file → t.whose file.owner ≡ t.drawn.home k
        by_came (Stayed before was owner names) = ap t.whose owner ∙ p.servers n s there index before k was (sym names ∙ named) less
        by_came (WasGiven before guard was asked names) = given index file k guard (sym names ∙ named) less asked
        by_came (WasMade name asked here none) = made index file k name named less asked here

  pub servers_set : (n : ℕ) (s new : ServerState) → numbered_at m.servers n ≡ Some s → AreOwn t m.next_name new → (k : ℕ) (x : ServerState) → numbered_at (set m.servers (n - 1) new) k ≡ Some x → AreOwn t m.next_name x
  servers_set n s new there own k x is =
      elim (cases_eq k n) [
        | inl it ↦ subst (AreOwn t m.next_name) (same_numbered (set m.servers (n - 1) new) n new x (put_same m.servers n s new there) (sym (ap (numbered_at (set m.servers (n - 1) new)) it) ∙ is)) own
        | inr other ↦ p.servers k x (sym (put_other m.servers n k s new there other) ∙ is)
      ]

  pub follow_set : (n : ℕ) (s new : ServerState) → numbered_at m.servers n ≡ Some s → Follows s new → AllFollow m.servers (set m.servers (n - 1) new)
  follow_set n s new there follows k x is =
      elim (cases_eq k n) [
        | inl it ↦ (new, ap (numbered_at (set m.servers (n - 1) new)) it ∙ put_same m.servers n s new there, subst (λ (y : ServerState). Follows y new) (same_numbered m.servers n s x there (sym (ap (numbered_at m.servers) it) ∙ is)) follows)
        | inr other ↦ (x, put_other m.servers n k s new there other ∙ is, stands x (h.servers k x is).in_order)
      ]

-- ---- a user that was granted is one of some file

pub some_file : (users : FileId → List ℕ) (journal : List Entry) (u : ℕ) → was_granted journal u ≡ true → (f : FileId) × IsUser u (users_by f (users f) journal)
some_file users [] u h = absurd cc
some_file users (e ∷ journal) u h = by_test (grants u e) refl h (λ k. some_file (λ f. users_after f (users f) e) journal u k)
  where
    stays : (f : FileId) (us : List ℕ) (entries : List Entry) → IsUser u us → IsUser u (users_by f us entries)
    stays f us [] i = i
    stays f us (x ∷ entries) i = stays f (users_after f us x) entries (one x)
      where
        one : (y : Entry) → IsUser u (users_after f us y)
        one (entry.Granted file cred holder) = cond_both (is_file file f) (cred.0 ∷ us) us (IsUser u) (λ t. inr i) (λ t. i)
        one _ = i

    here : (x : Entry) → grants u x ≡ true → (f : FileId) × IsUser u (users_by f (users_after f (users f) x) journal)
    here (entry.Granted file cred holder) t =
        (file, stays file (users_after file (users file) (entry.Granted file cred holder)) journal (subst (λ b. IsUser u (cond b (cred.0 ∷ users file) (users file))) (sym (eq-eqb file.0 file.0 refl)) (inl (eqb-true cred.0 u t))))
    here _ t = absurd cc

    by_test : (b : Bool) → grants u e ≡ b → (b || was_granted journal u) ≡ true → (was_granted journal u ≡ true → (f : FileId) × IsUser u (users_by f (users_after f (users f) e) journal)) → (f : FileId) × IsUser u (users_by f (users f) (e ∷ journal))
    by_test true is t rest = here e is
    by_test false is t rest = rest t
