-- A packet goes out that belongs to no file, or an entry comes that says nothing of copies, of live lists and of fences.
use Rattle.std.proofs.Common.{◌≡◌, ◌≢◌, ℕ, ◌≤◌, true, ◌&&◌, List, [], ◌∷◌, ◌++◌, length, Option, Some, None, refl, sym, subst, arith, append-nil}
use Rattle.std.specs.Prelude.{slice_get}
use Rattle.std.specs.List.{AllByRecursion}
use Rattle.std.proofs.lemmas.Bool.{cond_both, and_parts, ltb-true}
use Rattle.cluster_model.specs.declared.ids.NodeId.{NodeId}
use Rattle.cluster_model.specs.declared.ids.NodeId.TheVariants.{Mds, Server, Client}
use Rattle.cluster_model.specs.declared.ids.FileId.{FileId}
use Rattle.cluster_model.specs.declared.ids.MirrorId.{MirrorId}
use Rattle.cluster_model.specs.declared.entry.Entry.{Entry}
use Rattle.cluster_model.specs.Journal.{Copy, copy_after}
use Rattle.cluster_model.specs.DsCalls.{DsCallValue, Create, SetAttr, Write, Commit, Read}
use Rattle.cluster_laws.specs.Machine.{PacketValue, Call, Machine, no_move, file_id, with_number, puts_out, sent_again, may_use, may_number, used, noted}
use Rattle.cluster_laws.specs.FenceLaw.{live_after}
use Rattle.cluster_laws.proofs.Lists.{all_append, all_more, all_at, push_old}
use Rattle.cluster_laws.proofs.Invariant.{Drawn, Net, IsThisCall, IsCallOf, IsPacket, FenceNote, fence_in, freed_in, If, IsFenceNote, IsEntry, IsRight, AreRight, net_of, Holds}
use Rattle.cluster_laws.proofs.Journals.{right_more}
use Rattle.cluster_laws.proofs.Onward.{Later, packet_on, file_on}
use Rattle.cluster_laws.proofs.Moved.{server_stays}
use Rattle.cluster_laws.proofs.Draws.{later_same}
use Rattle.cluster_laws.proofs.CallsOut.{later_sent}
use Rattle.cluster_laws.proofs.KnownNow.{all_stand}
use Rattle.cluster_laws.proofs.Stepped.{HoldsAfter, no_step}

module _ (m : Machine) (journal : List Entry) (d : Drawn) (h : Holds m journal d) where
  abbrev net : Net
  net = net_of m d

  -- ---- packets

  module _ (packets : List PacketValue) (last_xid : NodeId → ℕ) where
    abbrev pub then : Machine
    then = record { servers = m.servers; files = m.files; next_uid = m.next_uid; next_name = m.next_name; last_xid = last_xid; packets = packets; holdings = m.holdings }

    pub sent_holds : Later net (net_of then d) → AllByRecursion (IsPacket (net_of then d)) packets → Holds then (journal ++ []) d
    sent_holds l all = record {
      servers = server_stays m journal d h m.files m.next_uid m.next_name last_xid packets m.holdings d h.few_names l [] tt;
      packets = all;
      files = λ k f is. file_on net (net_of then d) l k journal [] tt refl f tt (h.files k f is);
      tops = h.tops;
      lows = h.lows;
      few_names = h.few_names;
      entries = subst (λ (j : List Entry). AllByRecursion (IsEntry (length m.files) m.next_uid) j) (sym (append-nil journal)) h.entries;
      right = subst (λ (j : List Entry). AreRight [] j) (sym (append-nil journal)) h.right;
    }

  -- one more packet, which is not the metadata server's first under its number
  module _ (last_xid : NodeId → ℕ) (same : last_xid Mds ≡ m.last_xid Mds) (p : PacketValue) (calls : (xid server : ℕ) (call : DsCallValue) → AllByRecursion (IsThisCall xid server call) m.packets → IsThisCall xid server call p) where
    pub later_with : Later net (net_of (then (m.packets ++ p ∷ []) last_xid) d)
    later_with = record {
      servers = all_stand m journal d h;
      sent = λ place x is. push_old m.packets (p ∷ []) place x is;
      calls = λ xid server call used all. all_append (IsThisCall xid server call) m.packets (p ∷ []) all (calls xid server call all, tt);
      used = omega (arith, same);
      names = omega arith;
      home = λ k less. refl;
      low = λ k less. refl;
      tops = λ g. omega arith;
    }

    pub with_packet : IsPacket (net_of (then (m.packets ++ p ∷ []) last_xid) d) p → Holds (then (m.packets ++ p ∷ []) last_xid) (journal ++ []) d
    with_packet is =
        sent_holds (m.packets ++ p ∷ []) last_xid later_with
        (all_append (IsPacket (net_of (then (m.packets ++ p ∷ []) last_xid) d)) m.packets (p ∷ [])
        (all_more (IsPacket net) (IsPacket (net_of (then (m.packets ++ p ∷ []) last_xid) d)) m.packets (packet_on net (net_of (then (m.packets ++ p ∷ []) last_xid) d) later_with) h.packets) (is, tt))

  -- a packet is sent again
  pub again_ok : (place : ℕ) (p : Option PacketValue) → slice_get m.packets place ≡ p → HoldsAfter m journal d h (sent_again m p)
  again_ok place None there = no_step m journal d h
  again_ok place (Some p) there =
      let calls : (xid server : ℕ) (call : DsCallValue) → AllByRecursion (IsThisCall xid server call) m.packets → IsThisCall xid server call p =
      λ xid server call all. all_at (IsThisCall xid server call) m.packets place p all there in
      (d, with_packet m.last_xid refl p calls (packet_on net (net_of (then (m.packets ++ p ∷ []) m.last_xid) d) (later_with m.last_xid refl p calls) p (all_at (IsPacket net) m.packets place p h.packets there)))

  -- a node writes, commits or reads
  pub free_call : (n : ℕ) (call : DsCallValue) → may_use call ≡ true → IsCallOf d m.servers m.next_name n call
  free_call n (Create name owner) may = absurd cc
  free_call n (SetAttr fileid owner guard) may = absurd cc
  free_call n (Write fileid at synced bytes) may = tt
  free_call n (Commit fileid) may = tt
  free_call n (Read fileid at count) may = tt

  sent_by : (node : NodeId) (n xid uid gid : ℕ) (call : DsCallValue) → IsCallOf d m.servers m.next_name n call → may_number m node xid ≡ true → HoldsAfter m journal d h (record { machine = puts_out m node xid (Call node n xid uid gid call); entries = [] })
  sent_by Mds n xid uid gid call is new =
      let later = later_sent net n xid uid gid call (all_stand m journal d h) (ltb-true (m.last_xid Mds) xid new) in
      let last : Net = net_of (then (m.packets ++ Call Mds n xid uid gid call ∷ []) (with_number m.last_xid Mds xid)) d in (
        d,
        sent_holds (m.packets ++ Call Mds n xid uid gid call ∷ []) (with_number m.last_xid Mds xid) later
            (all_append (IsPacket last) m.packets (Call Mds n xid uid gid call ∷ []) (all_more (IsPacket net) (IsPacket last) m.packets (packet_on net last later) h.packets) ((omega arith, is), tt)),
      )
  sent_by (Server k) n xid uid gid call is new = (d, with_packet (with_number m.last_xid (Server k) xid) refl (Call (Server k) n xid uid gid call) (λ x server c all. tt) (tt, is))
  sent_by (Client k) n xid uid gid call is new = (d, with_packet (with_number m.last_xid (Client k) xid) refl (Call (Client k) n xid uid gid call) (λ x server c all. tt) (tt, is))

  pub uses_ok : (node : NodeId) (n xid uid gid : ℕ) (call : DsCallValue) → HoldsAfter m journal d h (used m node n xid uid gid call)
  uses_ok node n xid uid gid call =
      cond_both (may_use call && may_number m node xid) (record { machine = puts_out m node xid (Call node n xid uid gid call); entries = [] }) (no_move m) (HoldsAfter m journal d h)
      (λ e. let parts = and_parts (may_use call) (may_number m node xid) e in sent_by node n xid uid gid call (free_call n call parts.0) parts.1)
      (λ e. no_step m journal d h)

  -- ---- an entry

  pub record IsQuiet (e : Entry) : Type 0 where
    pub copies : (id : MirrorId) (c : Copy) → copy_after id c e ≡ c
    pub live : (f : FileId) (x : Option (List MirrorId)) → live_after f x e ≡ x
    pub fence : fence_in e ≡ None
    pub freed : freed_in e ≡ None
    pub right : IsRight journal e

  pub noted_holds : (e : Entry) → IsQuiet e → Holds m (journal ++ e ∷ []) d
  noted_holds e q =
      let later = later_same net (all_stand m journal d h) in
      record {
        servers = server_stays m journal d h m.files m.next_uid m.next_name m.last_xid m.packets m.holdings d h.few_names later (e ∷ []) (q.copies, tt);
        packets = h.packets;
        files = λ k f is. file_on net net later k journal (e ∷ []) (subst (λ (x : Option FenceNote). If x (λ y. y.file ≢ k)) (sym q.fence) tt, tt) refl f (q.live (file_id k), tt) (h.files k f is);
        tops = h.tops;
        lows = h.lows;
        few_names = h.few_names;
        entries = all_append (IsEntry (length m.files) m.next_uid) journal (e ∷ []) h.entries (
          record {
            fence = subst (λ (x : Option FenceNote). If x (IsFenceNote (length m.files) m.next_uid)) (sym q.fence) tt;
            freed = subst (λ (x : Option ℕ). If x (λ k. k ≤ length m.files)) (sym q.freed) tt;
          },
          tt,
        );
        right = right_more [] journal (e ∷ []) h.right (q.right, tt);
      }

  pub noted_ok : (e : Entry) → IsQuiet e → HoldsAfter m journal d h (noted m e)
  noted_ok e quiet = (d, noted_holds e quiet)
