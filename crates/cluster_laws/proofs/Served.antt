-- A call arrives at a data server.
use Rattle.std.proofs.Common.{◌≡◌, ℕ, ◌+◌, ◌<◌, ◌≤◌, Bool, true, false, eqb, List, [], ◌∷◌, ◌++◌, length, Option, Some, None, refl, sym, ap, subst, ◌∙◌, arith, ◌⊎◌, inl, inr, append_assoc, append-nil}
use Rattle.std.specs.Prelude.{slice_get, ◌||◌}
use Rattle.std.specs.List.{AllByRecursion, list_any}
use Rattle.std.proofs.lemmas.Bool.{cases_Bool, and_parts, eqb-true}
use Rattle.std.proofs.lemmas.Option.{same_Some, slice_get_within}
use Rattle.cluster_model.specs.declared.tick.Tick.{Tick}
use Rattle.cluster_model.specs.declared.ids.NodeId.{NodeId}
use Rattle.cluster_model.specs.declared.ids.FileId.{FileId}
use Rattle.cluster_model.specs.declared.ids.Cred.{Cred}
use Rattle.cluster_model.specs.declared.ids.MirrorId.{MirrorId}
use Rattle.cluster_model.specs.declared.ids.Mirror.{Mirror}
use Rattle.cluster_model.specs.declared.entry.Entry.{Entry}
use Rattle.cluster_model.specs.declared.entry.Entry.TheVariants as entry
use Rattle.cluster_model.specs.declared.ds_call.Shown.{Shown}
use Rattle.cluster_model.specs.Ticks.{IsUpTo}
use Rattle.cluster_model.specs.File.{StoredFile}
use Rattle.cluster_model.specs.Journal.{is_mirror}
use Rattle.cluster_model.specs.Server.{ServerState, Caller, mirror_of, max_ticks}
use Rattle.cluster_model.specs.DsCalls.{DsCallValue, Create, SetAttr, Write, Commit, Read, DsReplyValue, Created, Set, Written, Committed, Bytes, NotSync, Failed, mirror_name, DsStep, ds_step}
use Rattle.cluster_model.specs.GuardLaws.{IsInOrder, WasAsked, MayCome, Follows, Came, Stayed, WasGiven, WasMade, target, IsSeen, Shows, IsOwners, IsByOwner, IsOfServer, CallLaws}
use Rattle.cluster_model.specs.declared.layout_state.LayoutPhase.TheVariants as phase
use Rattle.cluster_model.specs.Phases.{ids_of}
use Rattle.file_rule.specs.MdsFiles.{MdsFile}
use Rattle.cluster_laws.specs.Machine.{PacketValue, Call, Reply, Machine, numbered_at, with_server, caller_by, file_id}
use Rattle.cluster_laws.specs.FenceLaw.{live_in, live_after, is_among}
use Rattle.cluster_laws.proofs.Facts.{OwnedFrom, HasGiven}
use Rattle.cluster_laws.proofs.Names.{name_is}
use Rattle.cluster_laws.proofs.Lists.{all_append, all_more, all_at, all_split, all_by_split, push_old, put_same, same_numbered, there_is, at_place}
use Rattle.cluster_laws.proofs.Invariant.{Drawn, Net, at_server, IsAskedFor, IsCallOf, IsGiven, IsReplyTo, HasCall, IsPacket, FenceNote, fence_in, If, IsFenceNote, IsEntry, KeepsOwner, IsMirrorOf, IsServer, IsNotShutOut, IsRight, AreRight, live_of, net_of, Holds}
use Rattle.cluster_laws.proofs.Journals.{live_same}
use Rattle.cluster_laws.proofs.Onward.{Later, packet_on}
use Rattle.cluster_laws.proofs.Changed.{of_data, goes_on, changed_holds}
use Rattle.cluster_laws.proofs.FewTicks.{ShownIsFew, ShowsFewTicks, step_few, reply_few}

-- ---- the laws of one server, as the base crate has them

module _ (calls : (s : ServerState) (caller : Caller) (call : DsCallValue) → IsInOrder s → CallLaws s caller call (ds_step s caller call).server (ds_step s caller call).reply (ds_step s caller call).entries) where
  -- ---- entries behind a journal

  -- a mirror that is written to by its owner is live in no file behind a fence of that owner
  module _ (m : Machine) (journal : List Entry) (d : Drawn) (h : Holds m journal d) (n : ℕ) (s : ServerState) (there : numbered_at m.servers n ≡ Some s) where
    number : s.number ≡ n
    number = (h.servers n s there).number

    same_file : (id : MirrorId) (index : ℕ) (file : StoredFile) (uid : ℕ) → slice_get s.files index ≡ Some file → is_mirror id (mirror_of s index) ≡ true → OwnedFrom m.servers id uid → uid ≤ file.owner
    same_file id index file uid is same o =
        let parts = and_parts (eqb id.server s.number) (eqb id.fileid (index + 2)) same in
        let on : id.server ≡ n = eqb-true _ _ parts.0 ∙ number in
        let at : id.fileid ≡ index + 2 = eqb-true _ _ parts.1 in
        let server : o.server ≡ s = same_numbered m.servers n o.server s (sym (ap (numbered_at m.servers) on) ∙ o.there) there in
        let place : o.index ≡ index = same_index o.index index (sym o.place ∙ at) in
        let file_is : o.file ≡ file = same_Some o.file file (sym o.is ∙ ap (λ (t : ServerState). slice_get t.files o.index) server ∙ ap (slice_get s.files) place ∙ is) in
        subst (λ (f : StoredFile). uid ≤ f.owner) file_is o.up
      where
        same_index : (a b : ℕ) → a + 2 ≡ b + 2 → a ≡ b
        same_index a b e = omega (arith, e)

    -- no live mirror of the fence's file is this one
    none_of : (k : ℕ) (x : FenceNote) (index : ℕ) (file : StoredFile) (uid : ℕ) → slice_get s.files index ≡ Some file → (uid ≡ 0) ⊎ (uid ≡ file.owner) → 0 < x.old → x.old < x.new → x.old ≡ uid
        → (live : List Mirror) → AllByRecursion (λ y. OwnedFrom m.servers y.id x.new) live → list_any (λ id. is_mirror id (mirror_of s index)) (ids_of live) ≡ false
    none_of k x index file uid is owner first later same [] all = refl
    none_of k x index file uid is owner first later same (y ∷ live) all =
        let rest = none_of k x index file uid is owner first later same live all.1 in
        elim (cases_Bool (is_mirror y.id (mirror_of s index))) [
          | inl it ↦
              let up = same_file y.id index file x.new is it all.0 in
              elim owner [
                | inl zero ↦ absurd (omega (arith, zero, same, first))
                | inr own ↦ absurd (omega (arith, own, same, up, later))
              ]
          | inr other ↦ ap (λ (b : Bool). b || list_any (λ id. is_mirror id (mirror_of s index)) (ids_of live)) other ∙ rest
        ]

    -- where the fence's file is: its live list, and whom its mirrors belong to
    keepers : (k : ℕ) (f : MdsFile) (x : FenceNote) (before : List Entry) (e : Entry) (rest : List Entry) → journal ≡ before ++ e ∷ rest → fence_in e ≡ Some x → x.file ≡ k
        → (live : List Mirror) → AllByRecursion (IsMirrorOf (net_of m d) k journal) live → AllByRecursion (λ y. OwnedFrom m.servers y.id x.new) live
    keepers k f x before e rest split is file live all =
        all_more (IsMirrorOf (net_of m d) k journal) (λ y. OwnedFrom m.servers y.id x.new) live
        (λ y h. let keeps = all_split (KeepsOwner m.servers k y.id) before e rest (subst (λ (j : List Entry). AllByRecursion (KeepsOwner m.servers k y.id) j) split h.owned) in
        subst (λ (o : Option FenceNote). If o (λ z. z.file ≡ k → OwnedFrom m.servers y.id z.new)) is keeps file) all

    among_none : (mirror : MirrorId) (p : _) (ids : List MirrorId) (live : Option (List MirrorId)) → live ≡ live_of p ids → list_any (λ id. is_mirror id mirror) ids ≡ false → is_among mirror live ≡ false
    among_none mirror p ids live is none = ap (is_among mirror) is ∙ by_phase p
      where
        by_phase : (q : _) → is_among mirror (live_of q ids) ≡ false
        by_phase phase.Making = refl
        by_phase phase.Free = none
        by_phase (phase.Held holder is_recalled) = none
        by_phase (phase.Fencing next end) = none
        by_phase (phase.Settling copies) = none
        by_phase (phase.Copying copier copies) = none

    -- the entries behind the journal so far, none of which is of a fence
    module _ (caller : Caller) (front : List Entry) (kinds : AllByRecursion (IsOfServer s.number) front) where
      live_front : (f : FileId) → live_in (journal ++ front) f ≡ live_in journal f
      live_front f = live_same f journal front (all_more (IsOfServer s.number) (λ e. (x : Option (List MirrorId)) → live_after f x e ≡ x) front (λ e o. (of_data s.number e o).live f) kinds)

      shut_out : (mirror : MirrorId) (cred : Cred) → IsOwners s caller mirror cred → (before : List Entry) (e : Entry) (rest : List Entry) → journal ≡ before ++ e ∷ rest → (x : FenceNote) → fence_in e ≡ Some x → x.old ≡ cred.0
          → is_among mirror (live_in (journal ++ front) (file_id x.file)) ≡ false
      shut_out mirror cred o before e rest split x is same =
          let entry_ok = all_split (IsEntry (length m.files) m.next_uid) before e rest (subst (λ (j : List Entry). AllByRecursion (IsEntry (length m.files) m.next_uid) j) split h.entries) in
          let note : IsFenceNote (length m.files) m.next_uid x = subst (λ (y : Option FenceNote). If y (IsFenceNote (length m.files) m.next_uid)) is entry_ok.fence in
          let f = there_is m.files x.file note.some note.there in
          let file = h.files x.file f.0 f.1 in
          let all = keepers x.file f.0 x before e rest split is refl f.0.layout.live file.mirrors in
          let none = none_of x.file x o.index o.file caller.uid o.there o.owner note.first note.later (same ∙ o.uid) f.0.layout.live all in
          among_none mirror f.0.layout.phase (ids_of f.0.layout.live) (live_in (journal ++ front) (file_id x.file)) (live_front (file_id x.file) ∙ file.live)
          (ap (λ (y : MirrorId). list_any (λ id. is_mirror id y) (ids_of f.0.layout.live)) o.is ∙ none)

      not_shut_by : (mirror : MirrorId) (cred : Cred) → IsOwners s caller mirror cred → (before : List Entry) (e : Entry) (rest : List Entry) → journal ≡ before ++ e ∷ rest → (x : Option FenceNote) → fence_in e ≡ x
          → If x (λ y. y.old ≡ cred.0 → is_among mirror (live_in (journal ++ front) (file_id y.file)) ≡ false)
      not_shut_by mirror cred o before e rest split None is = tt
      not_shut_by mirror cred o before e rest split (Some x) is = λ same. shut_out mirror cred o before e rest split x is same

      applied_right : (mirror : MirrorId) (cred : Cred) → IsOwners s caller mirror cred → AllByRecursion (IsNotShutOut (journal ++ front) mirror cred) (journal ++ front)
      applied_right mirror cred o =
          all_append (IsNotShutOut (journal ++ front) mirror cred) journal front
          (all_by_split (IsNotShutOut (journal ++ front) mirror cred) [] journal (λ before e rest split. not_shut_by mirror cred o before e rest split (fence_in e) refl))
          (all_more (IsOfServer s.number) (IsNotShutOut (journal ++ front) mirror cred) front
          (λ e of_e. subst (λ (y : Option FenceNote). If y (λ z. z.old ≡ cred.0 → is_among mirror (live_in (journal ++ front) (file_id z.file)) ≡ false)) (sym (of_data s.number e of_e).fence) tt) kinds)

      right_one : (e : Entry) → IsOfServer s.number e → IsByOwner s caller e → IsRight (journal ++ front) e
      right_one (entry.Applied mirror cred at bytes) of_server own = applied_right mirror cred own
      right_one (entry.Committed mirror) of_server own = tt
      right_one (entry.Owner mirror cred) of_server own = tt
      right_one (entry.Restarted server pieces) of_server own = tt
      right_one _ of_server own = absurd of_server

    pub rights : (caller : Caller) (front entries : List Entry) → AllByRecursion (IsOfServer s.number) front → AllByRecursion (IsOfServer s.number) entries → AllByRecursion (IsByOwner s caller) entries → AreRight (journal ++ front) entries
    rights caller front [] kinds more own = tt
    rights caller front (e ∷ entries) kinds more own = (
      right_one caller front kinds e more.0 own.0,
      subst (λ (j : List Entry). AreRight j entries) (sym (append_assoc journal front (e ∷ [])))
          (rights caller (front ++ e ∷ []) entries (all_append (IsOfServer s.number) front (e ∷ []) kinds (more.0, tt)) more.1 own.1),
    )

    -- ---- the machine then

    module _ (from : NodeId) (xid uid gid : ℕ) (call : DsCallValue) (sent : HasCall m.packets from n xid call) where
      abbrev net : Net
      net = net_of m d

      abbrev pub step : DsStep
      step = ds_step s (caller_by uid gid) call

      laws : CallLaws s (caller_by uid gid) call step.server step.reply step.entries
      laws = calls s (caller_by uid gid) call (h.servers n s there).in_order

      abbrev pub answer : PacketValue
      answer = Reply sent.place n from xid step.reply

      abbrev pub after : Machine
      after = with_server m n step.server (m.packets ++ answer ∷ [])

      -- the call is such as is ever made
      is_call : IsCallOf d m.servers m.next_name n call
      is_call = (all_at (IsPacket net) m.packets sent.place (Call from n xid sent.uid sent.gid call) h.packets sent.there).1

      may_come : (c : DsCallValue) → IsCallOf d m.servers m.next_name n c → MayCome s c
      may_come (Create name owner) k = tt
      may_come (SetAttr fileid owner guard) k = subst (λ (t : ServerState). WasAsked t fileid owner guard) (same_numbered m.servers n k.asked.server s k.asked.there there) k.asked.asked
      may_come (Write fileid at synced bytes) k = tt
      may_come (Commit fileid) k = tt
      may_come (Read fileid at count) k = tt

      pub follows : Follows s step.server
      follows = laws.follows (may_come call is_call)

      here : numbered_at after.servers n ≡ Some step.server
      here = put_same m.servers n s step.server there

      pub later : Later net (net_of after d)
      later = goes_on m journal d h n s there step.server follows (m.packets ++ answer ∷ []) (λ place p is. push_old m.packets (answer ∷ []) place p is) (λ x server c all. all_append _ m.packets (answer ∷ []) all (tt, tt))

      -- ---- the packets

      at_index : (fileid index : ℕ) → fileid ≡ index + 2 → (f : StoredFile) → slice_get step.server.files index ≡ Some f → (owner : ℕ) → owner ≤ f.owner → OwnedFrom after.servers (at_server n fileid) owner
      at_index fileid index place f is owner up = record { server = step.server; there = here; index = index; place = place; file = f; is = is; up = up }

      given_now : (tick : Tick) → IsUpTo tick step.server.clock → tick.count ≤ max_ticks → HasGiven after.servers n tick
      given_now tick seen few = record { server = step.server; there = here; seen = seen; few = few }

      given_if : (shown : Option Shown) → IsSeen step.server shown → ShownIsFew shown → IsGiven after.servers n shown
      given_if None k few = tt
      given_if (Some shown) k few = given_now shown.seen k few

      replied : (reply : DsReplyValue) → Shows step.server call reply → ShowsFewTicks reply → IsReplyTo after.servers n call reply
      replied (Created fileid shown) k few = record { name = k.name; owner = k.owner; asked = k.asked; bears = record { server = step.server; there = here; index = k.at.index; place = k.at.place; named = k.named }; given = given_now shown.seen k.at.seen few }
      replied (Set shown) k few = (record { fileid = k.0.fileid; uid = k.0.uid; guard = k.0.guard; asked = k.0.asked; owned = let same = k.0.owner in at_index k.0.fileid k.0.index k.0.place k.0.file k.0.there k.0.uid (omega (arith, same)) }, given_if shown k.1 few)
      replied (Written shown verifier) k few = given_if shown k few
      replied (Committed shown verifier) k few = given_if shown k few
      replied (Bytes shown eof bytes) k few = given_if shown k few
      replied (NotSync shown) k few = (let same = k.owner in at_index (target call) k.index k.place k.file k.there shown.owner.0 (omega (arith, same)), given_now shown.seen k.seen few)
      replied (Failed status shown) k few = given_if shown k few

      answered : IsPacket (net_of after d) answer
      answered = record { answer = record { call = call; sent = record { place = sent.place; uid = sent.uid; gid = sent.gid; there = push_old m.packets (answer ∷ []) sent.place _ sent.there }; shows = replied step.reply laws.shows (reply_few s (h.servers n s there).ticks (caller_by uid gid) call) }; at = refl }

      -- ---- the servers

      small : (k : ℕ) → k < m.next_name → k < 18446744073709551616
      small k less = let few = h.few_names in omega (arith, less, few)

      old_server : IsServer net journal n s
      old_server = h.servers n s there

      named_by : (index : ℕ) (name : List ℕ) (file : StoredFile) → slice_get step.server.names index ≡ Some name → Came s call step.server index file → (k : ℕ) × (name ≡ mirror_name k) × (k < m.next_name)
      named_by index name file is (Stayed before was owner same) = old_server.names index name (sym same ∙ is)
      named_by index name file is (WasGiven before guard was asked same) = old_server.names index name (sym same ∙ is)
      named_by index name file is (WasMade k asked named fresh) =
          let ok : IsCallOf d m.servers m.next_name n (Create k file.owner) = subst (λ (c : DsCallValue). IsCallOf d m.servers m.next_name n c) asked is_call in
          (k, same_Some name (mirror_name k) (sym is ∙ named), ok.0)

      names_now : (index : ℕ) (name : List ℕ) → slice_get step.server.names index ≡ Some name → (k : ℕ) × (name ≡ mirror_name k) × (k < m.next_name)
      names_now index name is =
          let within = slice_get_within step.server.names index name is in
          let size = follows.in_order.names in
          let file = at_place step.server.files index (omega (arith, within, size)) in
          named_by index name file.0 is (laws.came index file.0 file.1)

      owned_by : (index : ℕ) (file : StoredFile) (k : ℕ) → slice_get step.server.files index ≡ Some file → slice_get step.server.names index ≡ Some (mirror_name k) → k < m.next_name → Came s call step.server index file
          → (d.low k ≤ file.owner) × (file.owner ≤ d.top (d.home k))
      owned_by index file k is named less (Stayed before was owner same) =
          let old = old_server.owners index before k was (sym same ∙ named) less in
          let low = old.0 in
          let high = old.1 in
          (omega (arith, owner, low), omega (arith, owner, high))
      owned_by index file k is named less (WasGiven before guard was asked same) =
          let old = old_server.owners index before k was (sym same ∙ named) less in
          let rises = follows.owners index before was in
          let later_is : rises.0 ≡ file = same_Some rises.0 file (sym rises.1 ∙ is) in
          let up : before.owner ≤ file.owner = subst (λ (f : StoredFile). before.owner ≤ f.owner) later_is rises.2 in
          let low = old.0 in
          let ok : IsAskedFor d m.servers m.next_name n (index + 2) file.owner guard = subst (λ (c : DsCallValue). IsCallOf d m.servers m.next_name n c) asked is_call in
          let on : ok.bears.server ≡ s = same_numbered m.servers n ok.bears.server s ok.bears.there there in
          let place : ok.bears.index ≡ index = same_place ok.bears.index index ok.bears.place in
          let bears : slice_get s.names index ≡ Some (mirror_name ok.name) = sym (ap (λ (t : ServerState). slice_get t.names ok.bears.index) on ∙ ap (slice_get s.names) place) ∙ ok.bears.named in
          let name : ok.name ≡ k = name_is ok.name k (small ok.name ok.drawn) (small k less) (same_Some (mirror_name ok.name) (mirror_name k) (sym bears ∙ sym same ∙ named)) in
          (omega (arith, low, up), subst (λ (j : ℕ). file.owner ≤ d.top (d.home j)) name ok.up)
        where
          same_place : (a b : ℕ) → b + 2 ≡ a + 2 → a ≡ b
          same_place a b e = omega (arith, e)
      owned_by index file k is named less (WasMade j asked made fresh) =
          let ok : IsCallOf d m.servers m.next_name n (Create j file.owner) = subst (λ (c : DsCallValue). IsCallOf d m.servers m.next_name n c) asked is_call in
          let name : j ≡ k = name_is j k (small j ok.0) (small k less) (same_Some (mirror_name j) (mirror_name k) (sym made ∙ named)) in
          let owner : file.owner ≡ d.low k = ok.1 ∙ ap d.low name in
          let low = h.lows k less in
          (omega (arith, owner), omega (arith, owner, low))

      this_server : IsServer (net_of after d) (journal ++ step.entries) n step.server
      this_server = record {
        number = follows.number ∙ number;
        in_order = follows.in_order;
        names = names_now;
        owners = λ index file k is named less. owned_by index file k is named less (laws.came index file is);
        told = laws.told journal old_server.told;
        ticks = step_few s (caller_by uid gid) call old_server.ticks;
      }

      pub served_holds : Holds after (journal ++ step.entries) d
      served_holds =
          changed_holds m journal d h n s there step.server follows (m.packets ++ answer ∷ []) (λ place p is. push_old m.packets (answer ∷ []) place p is) (λ x server c all. all_append _ m.packets (answer ∷ []) all (tt, tt))
          step.entries laws.of_server (subst (λ (j : List Entry). AreRight j step.entries) (append-nil journal) (rights (caller_by uid gid) [] step.entries tt laws.of_server laws.owners)) this_server
          (all_append (IsPacket (net_of after d)) m.packets (answer ∷ []) (all_more (IsPacket net) (IsPacket (net_of after d)) m.packets (packet_on net (net_of after d) later) h.packets) (answered, tt))
