-- Sources behind a call or a restart of a data server, and where only packets and notes come.
use Rattle.std.proofs.Common.{◌≡◌, ◌≢◌, ℕ, ◌+◌, ◌<◌, ◌≤◌, Bool, true, false, eqb, cond, List, [], ◌∷◌, ◌++◌, length, Some, None, refl, sym, ap, subst, ◌∙◌, arith, inl, inr}
use Rattle.std.specs.Prelude.{slice_get}
use Rattle.std.specs.List.{AllByRecursion}
use Rattle.std.proofs.lemmas.Option.{same_Some, slice_get_within}
use Rattle.std.proofs.lemmas.Bool.{cases_eq}
use Rattle.cluster_model.specs.declared.piece.Piece.{Piece}
use Rattle.cluster_model.specs.declared.ids.NodeId.{NodeId}
use Rattle.cluster_model.specs.declared.ids.NodeId.TheVariants.{Mds}
use Rattle.cluster_model.specs.declared.ids.MirrorId.{MirrorId}
use Rattle.cluster_model.specs.declared.entry.Entry.{Entry}
use Rattle.cluster_model.specs.declared.entry.Entry.TheVariants as entry
use Rattle.cluster_model.specs.declared.limits.TheConstants.{PIECE_SIZE}
use Rattle.cluster_model.specs.Content.{survived, pieces_of}
use Rattle.cluster_model.specs.File.{StoredFile}
use Rattle.cluster_model.specs.declared.tick.Tick.{Tick}
use Rattle.cluster_model.specs.Journal.{Copy, no_copy, content_of, copy_after, copy_by}
use Rattle.cluster_model.specs.Server.{ServerState, Caller, mirror_of, restart_of}
use Rattle.cluster_model.specs.DsCalls.{DsCallValue, Create, SetAttr, Write, Commit, Read, DsReplyValue, Created, Set, Written, Committed, Bytes, NotSync, Failed, mirror_name, ds_plan, ds_step}
use Rattle.cluster_model.specs.GuardLaws.{IsInOrder, Came, Stayed, WasGiven, WasMade, CallLaws, RestartLaws}
use Rattle.cluster_model.specs.Phases.{ids_of}
use Rattle.file_rule.specs.MdsFiles.{MdsFile}
use Rattle.cluster_laws.specs.Machine.{PacketValue, Call, Reply, Machine, numbered_at, with_server, served, caller_by}
use Rattle.cluster_laws.proofs.Facts.{AllFollow, OwnedFrom, bears_on, owned_on}
use Rattle.cluster_laws.proofs.Lists.{all_append, all_more, all_at, put_same, put_other, same_numbered}
use Rattle.cluster_laws.proofs.Journals.{copy_append}
use Rattle.cluster_laws.proofs.Names.{name_is}
use Rattle.cluster_laws.proofs.Invariant.{at_server, IsCallOf, IsPacket, net_of, Holds}
use Rattle.cluster_laws.proofs.Served.{later as served_later}
use Rattle.cluster_laws.proofs.Changed.{goes_on}
use Rattle.cluster_laws.proofs.RunFacts.{owner_told}
use Rattle.cluster_laws.proofs.PeriodFacts.{granted_in}
use Rattle.cluster_laws.proofs.PeriodStates.{IsMine}
use Rattle.machine_walk.proofs.Stories.{Story, AreEach, IsMoment}
use Rattle.copied_bytes.proofs.ServerPlans.{PlanKind, plan_kind}
use Rattle.machine_walk.proofs.WriterFacts.{KnowsWriters, IsWrittenSo, ungranted}
use Rattle.machine_walk.proofs.WriterServes.{IsOfServerOnly, server_only}
use Rattle.machine_walk.proofs.WriterCases.{not_drawn}
use Rattle.copied_bytes.proofs.Wholes.{IsWhole, whole_after}
use Rattle.copied_bytes.proofs.CallsKept.{IsOutSo, out_more, out_answered}
use Rattle.copied_bytes.proofs.Sources.{owner_of, IsCommitReply, IsReadReply, KeepsFile, IsShutNow, GoesOnAt, GoesOnWith}
use Rattle.copied_bytes.proofs.SourceServes.{whole_kept, commit_reply, read_reply, plain_then}
use Rattle.copied_bytes.proofs.SourceCarry.{IsSetCall, IsSetPacket, AreOwnersMine, KnowsSources, IsOwnedAt, file_owned, file_nows, keeps_on}

-- what a COMMIT's reply says, later on
commit_more : (journal later : List Entry) (id : MirrorId) → ((bytes : List ℕ) → IsWhole bytes (content_of journal id).content → IsWhole bytes (content_of later id).content) → (r : DsReplyValue) → IsCommitReply journal id r → IsCommitReply later id r
commit_more journal later id whole (Created fileid shown) h = tt
commit_more journal later id whole (Set shown) h = tt
commit_more journal later id whole (Written shown verifier) h = tt
commit_more journal later id whole (Committed shown verifier) h = (h.0, whole h.0 h.1)
commit_more journal later id whole (Bytes shown eof bytes) h = tt
commit_more journal later id whole (NotSync shown) h = tt
commit_more journal later id whole (Failed status shown) h = tt

pub out_later : (packets : List PacketValue) (last xid server : ℕ) (call : DsCallValue) (journal later : List Entry) (id : MirrorId) → ((bytes : List ℕ) → IsWhole bytes (content_of journal id).content → IsWhole bytes (content_of later id).content)
    → IsOutSo packets last xid server call (IsCommitReply journal id) → IsOutSo packets last xid server call (IsCommitReply later id)
out_later packets last xid server call journal later id whole h = out_more (IsCommitReply journal id) (IsCommitReply later id) (commit_more journal later id whole) xid packets last server call h

-- SETATTRs are of files that are still there
set_call_on : (t : Story) (uid names : ℕ) (old new : List ServerState) → AllFollow old new → (n : ℕ) (call : DsCallValue) → IsSetCall t uid names old n call → IsSetCall t uid names new n call
set_call_on t uid names old new f n (Create name owner) h = tt
set_call_on t uid names old new f n (SetAttr fileid owner guard) h = record { name = h.name; drawn = h.drawn; bears = bears_on old new f (at_server n fileid) h.name h.bears; plain = h.plain }
set_call_on t uid names old new f n (Write fileid at synced bytes) h = tt
set_call_on t uid names old new f n (Commit fileid) h = tt
set_call_on t uid names old new f n (Read fileid at count) h = tt

set_packet_on : (t : Story) (uid names : ℕ) (old new : List ServerState) → AllFollow old new → (p : PacketValue) → IsSetPacket t uid names old p → IsSetPacket t uid names new p
set_packet_on t uid names old new f (Call from n xid user gid call) h = set_call_on t uid names old new f n call h
set_packet_on t uid names old new f (Reply place n to xid reply) h = tt

module _ (t : Story) (m : Machine) (journal : List Entry) (at : IsMoment t m journal) (w : KnowsWriters t m journal) (p : KnowsSources t m journal) where
  -- a journal that grants nothing more
  pub grants_nothing : (entries : List Entry) → AllByRecursion (λ e. granted_in e ≡ None) entries → (n : ℕ) → GoesOnWith t m.next_uid t m.next_uid n journal (journal ++ entries)
  grants_nothing entries none n = record {
    mine = λ u mine. inl mine;
    unused = λ u mine k. ungranted u journal entries none k;
    fresh = λ u le. ungranted u journal entries none (not_drawn m.next_uid u journal at.periods.below le);
  }

  -- a mirror of which nothing is said
  pub same_at : (later : List Entry) (id : MirrorId) → content_of later id ≡ content_of journal id → GoesOnAt t t journal later id
  same_at later id same = record {
    rises = let owner : owner_of later id ≡ owner_of journal id = ap (λ (c : Copy). c.owner) same in omega (arith, owner);
    plain = λ h. ap (λ (c : Copy). t.copied c.owner) same ∙ h;
    whole = λ bytes shut h. subst (λ (c : Copy). IsWhole bytes c.content) (sym same) h;
  }

  -- ---- a call at a data server

  module _ (calls : (s : ServerState) (caller : Caller) (call : DsCallValue) → IsInOrder s → CallLaws s caller call (ds_step s caller call).server (ds_step s caller call).reply (ds_step s caller call).entries)
      (place : ℕ) (from : NodeId) (n xid uid gid : ℕ) (call : DsCallValue) (s : ServerState) (sent : slice_get m.packets place ≡ Some (Call from n xid uid gid call)) (there : numbered_at m.servers n ≡ Some s)
      (each : AreEach (IsWrittenSo t m.next_uid) journal (ds_step s (caller_by uid gid) call).entries) where
    abbrev caller : Caller
    caller = caller_by uid gid

    abbrev new : ServerState
    new = (ds_step s caller call).server

    abbrev entries : List Entry
    entries = (ds_step s caller call).entries

    abbrev after : Machine
    after = (served m place from n xid (ds_step s caller call)).machine

    module _ (h : Holds after (journal ++ entries) t.drawn) where
      number : s.number ≡ n
      number = (at.holds.servers n s there).number

      all_follow : AllFollow m.servers after.servers
      all_follow = (served_later calls m journal t.drawn at.holds n s there from xid uid gid call (record { place = place; uid = uid; gid = gid; there = sent })).servers

      kind : PlanKind s caller call (ds_plan s caller call)
      kind = plan_kind s caller call

      set_call : IsSetCall t m.next_uid m.next_name m.servers n call
      set_call = all_at (IsSetPacket t m.next_uid m.next_name m.servers) m.packets place (Call from n xid uid gid call) p.packets sent

      joined : (id : MirrorId) → content_of (journal ++ entries) id ≡ copy_by id (content_of journal id) entries
      joined id = copy_append id no_copy journal entries

      -- no mirror with a file stands where the next one is to be made
      not_new : (id : MirrorId) (owner : ℕ) → OwnedFrom m.servers id owner → id ≢ mirror_of s (length s.files)
      not_new id owner o e =
          let on : id.server ≡ n = ap (λ (k : MirrorId). k.server) e ∙ number in
          let same : o.server ≡ s = same_numbered m.servers n o.server s (sym (ap (numbered_at m.servers) on) ∙ o.there) there in
          let within = slice_get_within s.files o.index o.file (sym (ap (λ (x : ServerState). slice_get x.files o.index) same) ∙ o.is) in
          let fileid : id.fileid ≡ length s.files + 2 = ap (λ (k : MirrorId). k.fileid) e in
          let its = o.place in
          omega (arith, within, fileid, its)

      plain_set : (fileid owner : ℕ) (guard : Tick) → call ≡ SetAttr fileid owner guard → t.copied owner ≡ None
      plain_set fileid owner guard is = (subst (IsSetCall t m.next_uid m.next_name m.servers n) is set_call).plain.no_copy

      pub its_at : (k : ℕ) (id : MirrorId) → IsOwnedAt t m journal k id → GoesOnAt t t journal (journal ++ entries) id
      its_at k id o = record {
        rises = owner_told after (journal ++ entries) t.drawn h id (owner_of journal id) (owned_on m.servers after.servers all_follow id (owner_of journal id) o.owned);
        plain = λ none. ap (λ (c : Copy). t.copied c.owner) (joined id) ∙ plain_then t m.next_uid journal s caller id kind plain_set (not_new id (owner_of journal id) o.owned) none;
        whole = λ bytes shut whole. subst (λ (c : Copy). IsWhole bytes c.content) (sym (joined id)) (whole_kept t m.next_uid journal s caller id bytes kind shut each whole);
      }

      commits : (number_ : ℕ) (id : MirrorId) → GoesOnAt t t journal (journal ++ entries) id → IsShutNow t journal id → IsOutSo m.packets (m.last_xid Mds) number_ id.server (Commit id.fileid) (IsCommitReply journal id)
          → IsOutSo after.packets (m.last_xid Mds) number_ id.server (Commit id.fileid) (IsCommitReply (journal ++ entries) id)
      commits number_ id on shut o =
          out_answered m.packets (m.last_xid Mds) number_ id.server (Commit id.fileid) (IsCommitReply journal id) (IsCommitReply (journal ++ entries) id) place n from xid uid gid call (ds_step s caller call).reply sent o
          (commit_more journal (journal ++ entries) id (λ bytes k. on.whole bytes shut k))
          (λ mds same is. commit_reply t m.next_uid journal s caller id kind (sym same ∙ sym number) is (journal ++ entries) (joined id))

      reads : (number_ : ℕ) (id : MirrorId) (bytes : List ℕ) (pos : ℕ) → pos ≤ length bytes → IsWhole bytes (content_of journal id).content → IsOutSo m.packets (m.last_xid Mds) number_ id.server (Read id.fileid pos PIECE_SIZE) (IsReadReply bytes pos)
          → IsOutSo after.packets (m.last_xid Mds) number_ id.server (Read id.fileid pos PIECE_SIZE) (IsReadReply bytes pos)
      reads number_ id bytes pos up whole o =
          out_answered m.packets (m.last_xid Mds) number_ id.server (Read id.fileid pos PIECE_SIZE) (IsReadReply bytes pos) (IsReadReply bytes pos) place n from xid uid gid call (ds_step s caller call).reply sent o (λ r k. k)
          (λ mds same is. read_reply t m.next_uid journal s caller id (at.holds.servers n s there).told bytes pos up whole kind (sym same ∙ sym number) is)

      pub none_granted_here : AllByRecursion (λ e. granted_in e ≡ None) entries
      none_granted_here = all_more IsOfServerOnly (λ e. granted_in e ≡ None) entries (λ e k. k.grant) (server_only s caller.uid (ds_plan s caller call).effect)

      files_then : (k : ℕ) (f : MdsFile) → numbered_at m.files k ≡ Some f → KeepsFile t m.next_uid after.packets (m.last_xid Mds) (journal ++ entries) k f.layout f.activity
      files_then k f is =
          let owned = file_owned t m journal at.holds p.owners k f is in
          let old = p.files k f is in
          keeps_on t m.next_uid t m.next_uid k journal (journal ++ entries) (grants_nothing entries none_granted_here k) m.packets after.packets (m.last_xid Mds) (m.last_xid Mds) commits reads (λ u bytes less copy. copy) f.layout f.activity (w.files k f is) (λ e u mine. mine)
          (all_more (IsOwnedAt t m journal k) (GoesOnAt t t journal (journal ++ entries)) (ids_of f.layout.live) (its_at k) owned)
          (file_nows t m journal k f (at.holds.files k f is) owned old.shut) old

      -- the owners of its files
      small : (k : ℕ) → k < m.next_name → k < 18446744073709551616
      small k less = let few = at.holds.few_names in omega (arith, less, few)

      named_low : (name owner : ℕ) → call ≡ Create name owner → (name < m.next_name) × (owner ≡ t.drawn.low name)
      named_low name owner is = subst (IsCallOf t.drawn m.servers m.next_name n) is (all_at (IsPacket (net_of m t.drawn)) m.packets place (Call from n xid uid gid call) at.holds.packets sent).1

      owner_by : (index : ℕ) (file : StoredFile) (k : ℕ) → slice_get new.names index ≡ Some (mirror_name k) → k < m.next_name → Came s call new index file → IsMine t.whose m.next_uid (t.drawn.home k) file.owner
      owner_by index file k named less (Stayed before was owner same) = subst (λ (u : ℕ). IsMine t.whose m.next_uid (t.drawn.home k) u) (sym owner) (p.owners n s index before k there was (sym same ∙ named) less)
      owner_by index file k named less (WasGiven before guard was asked same) =
          let set = subst (IsSetCall t m.next_uid m.next_name m.servers n) asked set_call in
          let on : set.bears.server ≡ s = same_numbered m.servers n set.bears.server s set.bears.there there in
          let at_index : index ≡ set.bears.index = (let its = set.bears.place in omega (arith, its)) in
          let bears : slice_get s.names index ≡ Some (mirror_name set.name) = ap (slice_get s.names) at_index ∙ ap (λ (x : ServerState). slice_get x.names set.bears.index) (sym on) ∙ set.bears.named in
          let name : set.name ≡ k = name_is set.name k (small set.name set.drawn) (small k less) (same_Some (mirror_name set.name) (mirror_name k) (sym bears ∙ sym same ∙ named)) in
          subst (λ (j : ℕ). IsMine t.whose m.next_uid (t.drawn.home j) file.owner) name set.plain.mine
      owner_by index file k named less (WasMade j asked made fresh) =
          let low = named_low j file.owner asked in
          let name : j ≡ k = name_is j k (small j low.0) (small k less) (same_Some (mirror_name j) (mirror_name k) (sym made ∙ named)) in
          subst (λ (i : ℕ). IsMine t.whose m.next_uid (t.drawn.home i) file.owner) name (subst (λ (u : ℕ). IsMine t.whose m.next_uid (t.drawn.home j) u) (sym low.1) (p.lows j low.0))

      owners_then : AreOwnersMine t m.next_uid m.next_name after.servers
      owners_then i x index file k is found named less =
          elim (cases_eq i n) [
            | inl same ↦
                let x_is : new ≡ x = same_numbered after.servers n new x (put_same m.servers n s new there) (sym (ap (numbered_at after.servers) same) ∙ is) in
                owner_by index file k (ap (λ (y : ServerState). slice_get y.names index) x_is ∙ named) less
                ((calls s caller call (at.holds.servers n s there).in_order).came index file (ap (λ (y : ServerState). slice_get y.files index) x_is ∙ found))
            | inr other ↦ p.owners i x index file k (sym (put_other m.servers n i s new there other) ∙ is) found named less
          ]

      pub served_sources : KnowsSources t after (journal ++ entries)
      served_sources = record {
        lows = p.lows;
        owners = owners_then;
        known = p.known;
        packets = all_append (IsSetPacket t m.next_uid m.next_name after.servers) m.packets (Reply place n from xid (ds_step s caller call).reply ∷ [])
            (all_more (IsSetPacket t m.next_uid m.next_name m.servers) (IsSetPacket t m.next_uid m.next_name after.servers) m.packets (set_packet_on t m.next_uid m.next_name m.servers after.servers all_follow) p.packets) (tt, tt);
        files = files_then;
      }

  -- ---- a restart

  module _ (restarts : (s : ServerState) (pieces : List Piece) (next : ServerState) → restart_of s pieces ≡ Some next → IsInOrder s → RestartLaws s pieces next) (n : ℕ) (pieces : List Piece) (s next : ServerState) (is_here : numbered_at m.servers n ≡ Some s) (is : restart_of s pieces ≡ Some next) where
    abbrev e : Entry
    e = entry.Restarted n pieces

    abbrev again : Machine
    again = with_server m n next m.packets

    laws : RestartLaws s pieces next
    laws = restarts s pieces next is (at.holds.servers n s is_here).in_order

    follow : AllFollow m.servers again.servers
    follow = (goes_on m journal t.drawn at.holds n s is_here next laws.follows m.packets (λ place x found. found) (λ x server c all. all)).servers

    after_it : (id : MirrorId) → content_of (journal ++ e ∷ []) id ≡ copy_after id (content_of journal id) e
    after_it id = copy_append id no_copy journal (e ∷ [])

    owner_same : (id : MirrorId) → owner_of (journal ++ e ∷ []) id ≡ owner_of journal id
    owner_same id = ap (λ (c : Copy). c.owner) (after_it id) ∙ by_test (eqb n id.server)
      where
        by_test : (b : Bool) → (cond b (record { content = survived (content_of journal id).content (pieces_of id.fileid pieces); owner = owner_of journal id }) (content_of journal id)).owner ≡ owner_of journal id
        by_test true = refl
        by_test false = refl

    restarted_at : (id : MirrorId) → GoesOnAt t t journal (journal ++ e ∷ []) id
    restarted_at id = record {
      rises = let same = owner_same id in omega (arith, same);
      plain = λ none. ap t.copied (owner_same id) ∙ none;
      whole = λ bytes shut h. subst (λ (c : Copy). IsWhole bytes c.content) (sym (after_it id)) (whole_after id bytes (content_of journal id) e refl h);
    }

    restarted_owners : AreOwnersMine t m.next_uid m.next_name again.servers
    restarted_owners i x index file k there found named less =
        elim (cases_eq i n) [
          | inl same ↦
              let x_is : next ≡ x = same_numbered again.servers n next x (put_same m.servers n s next is_here) (sym (ap (numbered_at again.servers) same) ∙ there) in
              let before = laws.owners index file (ap (λ (y : ServerState). slice_get y.files index) x_is ∙ found) in
              subst (λ (u : ℕ). IsMine t.whose m.next_uid (t.drawn.home k) u) (sym before.2) (p.owners n s index before.0 k is_here before.1 (sym (ap (λ (names : List (List ℕ)). slice_get names index) laws.names) ∙ (ap (λ (y : ServerState). slice_get y.names index) x_is ∙ named)) less)
          | inr other ↦ p.owners i x index file k (sym (put_other m.servers n i s next is_here other) ∙ there) found named less
        ]

    pub restarted_sources : KnowsSources t again (journal ++ e ∷ [])
    restarted_sources = record {
      lows = p.lows;
      owners = restarted_owners;
      known = p.known;
      packets = all_more (IsSetPacket t m.next_uid m.next_name m.servers) (IsSetPacket t m.next_uid m.next_name again.servers) m.packets (set_packet_on t m.next_uid m.next_name m.servers again.servers follow) p.packets;
      files = λ k f found.
          let owned = file_owned t m journal at.holds p.owners k f found in
          let old = p.files k f found in
          keeps_on t m.next_uid t m.next_uid k journal (journal ++ e ∷ []) (grants_nothing (e ∷ []) (refl, tt) k) m.packets m.packets (m.last_xid Mds) (m.last_xid Mds)
          (λ xid id on shut o. out_later m.packets (m.last_xid Mds) xid id.server (Commit id.fileid) journal (journal ++ e ∷ []) id (λ bytes h. on.whole bytes shut h) o) (λ xid id bytes pos up whole o. o) (λ u bytes less copy. copy) f.layout f.activity (w.files k f found) (λ making u mine. mine)
          (all_more (IsOwnedAt t m journal k) (GoesOnAt t t journal (journal ++ e ∷ [])) (ids_of f.layout.live) (λ id o. restarted_at id) owned) (file_nows t m journal k f (at.holds.files k f found) owned old.shut) old;
    }
