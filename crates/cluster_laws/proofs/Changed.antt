-- One data server is another, and everything else is as it was.
use Rattle.std.proofs.Common.{◌≡◌, ◌≢◌, ℕ, ◌≤◌, Bool, false, eqb, List, [], ◌++◌, length, Option, Some, None, refl, sym, ap, subst, ◌∙◌, arith, inl, inr}
use Rattle.std.specs.Prelude.{slice_get, ◌&&◌}
use Rattle.std.specs.List.{AllByRecursion}
use Rattle.std.proofs.lemmas.Bool.{cases_eq, ne_eqb}
use Rattle.cluster_model.specs.declared.ids.FileId.{FileId}
use Rattle.cluster_model.specs.declared.ids.MirrorId.{MirrorId}
use Rattle.cluster_model.specs.declared.entry.Entry.{Entry}
use Rattle.cluster_model.specs.declared.entry.Entry.TheVariants as entry
use Rattle.cluster_model.specs.Journal.{Copy, is_mirror, copy_after, content_of}
use Rattle.cluster_model.specs.Server.{ServerState, mirror_of}
use Rattle.cluster_model.specs.DsCalls.{DsCallValue}
use Rattle.cluster_model.specs.GuardLaws.{IsInOrder, Follows, IsOfServer}
use Rattle.cluster_laws.specs.Machine.{PacketValue, Machine, numbered_at, with_server, file_id}
use Rattle.cluster_laws.specs.FenceLaw.{live_after}
use Rattle.cluster_laws.proofs.Facts.{AllFollow}
use Rattle.cluster_laws.proofs.Lists.{all_append, all_more, put_same, put_other, same_numbered}
use Rattle.cluster_laws.proofs.Invariant.{Drawn, AreThisCall, IsPacket, FenceNote, fence_in, freed_in, If, IsFenceNote, IsEntry, IsServer, AreRight, net_of, Holds}
use Rattle.cluster_laws.proofs.Journals.{content_same, right_more}
use Rattle.cluster_laws.proofs.Onward.{Later, file_on}

-- ---- entries of a data server

-- an entry of data says nothing of files of the metadata server
pub record IsOfData (e : Entry) : Type 0 where
  pub fence : fence_in e ≡ None
  pub freed : freed_in e ≡ None
  pub live : (f : FileId) (x : Option (List MirrorId)) → live_after f x e ≡ x

pub of_data : (n : ℕ) (e : Entry) → IsOfServer n e → IsOfData e
of_data n (entry.Applied mirror cred at bytes) h = record { fence = refl; freed = refl; live = λ f x. refl }
of_data n (entry.Committed mirror) h = record { fence = refl; freed = refl; live = λ f x. refl }
of_data n (entry.Owner mirror cred) h = record { fence = refl; freed = refl; live = λ f x. refl }
of_data n (entry.Restarted server pieces) h = record { fence = refl; freed = refl; live = λ f x. refl }
of_data n _ h = absurd h

not_mirror : (a b : MirrorId) (n : ℕ) → a.server ≡ n → b.server ≢ n → is_mirror a b ≡ false
not_mirror a b n same other = ap (λ (t : Bool). t && eqb a.fileid b.fileid) (ne_eqb a.server b.server (λ e. other (sym e ∙ same)))

-- and nothing of mirrors at other servers
pub foreign : (n : ℕ) (m : MirrorId) → m.server ≢ n → (e : Entry) → IsOfServer n e → (c : Copy) → copy_after m c e ≡ c
foreign n m other (entry.Applied mirror cred at bytes) h c = rw (not_mirror mirror m n h other) refl
foreign n m other (entry.Committed mirror) h c = rw (not_mirror mirror m n h other) refl
foreign n m other (entry.Owner mirror cred) h c = rw (not_mirror mirror m n h other) refl
foreign n m other (entry.Restarted server pieces) h c = rw (ne_eqb server m.server (λ e. other (sym e ∙ h))) refl
foreign n m other _ h c = absurd h

-- ---- one server is another

module _ (m : Machine) (journal : List Entry) (d : Drawn) (h : Holds m journal d) (n : ℕ) (s : ServerState) (there : numbered_at m.servers n ≡ Some s) (new : ServerState) (follows : Follows s new) (packets : List PacketValue) where
  abbrev pub changed : Machine
  changed = with_server m n new packets

  pub now_there : numbered_at changed.servers n ≡ Some new
  now_there = put_same m.servers n s new there

  follows_itself : (t : ServerState) → IsInOrder t → Follows t t
  follows_itself t o = record {
    number = refl;
    clock = inr (refl, omega arith);
    in_order = o;
    names = λ i name is. is;
    owners = λ i f is. (f, is, omega arith);
    asked = λ fileid owner guard a. a;
  }

  all_follow : AllFollow m.servers changed.servers
  all_follow k t is =
      elim (cases_eq k n) [
        | inl same ↦
            let t_is : s ≡ t = same_numbered m.servers n s t there (sym (ap (numbered_at m.servers) same) ∙ is) in
            (new, ap (numbered_at changed.servers) same ∙ now_there, subst (λ (x : ServerState). Follows x new) t_is follows)
        | inr other ↦ (t, put_other m.servers n k s new there other ∙ is, follows_itself t (h.servers k t is).in_order)
      ]

  -- the packets that were sent are still there, and no call of the metadata server is new
  module _ (sent : (place : ℕ) (p : PacketValue) → slice_get m.packets place ≡ Some p → slice_get packets place ≡ Some p)
      (calls : (xid server : ℕ) (call : DsCallValue) → AreThisCall m.packets xid server call → AreThisCall packets xid server call) where
    pub goes_on : Later (net_of m d) (net_of changed d)
    goes_on = record {
      servers = all_follow;
      sent = sent;
      calls = λ x server c used all. calls x server c all;
      used = omega arith;
      names = omega arith;
      home = λ k less. refl;
      low = λ k less. refl;
      tops = λ k. omega arith;
    }

    -- what the server's entries are, and what stands of it then
    module _ (entries : List Entry) (of_server : AllByRecursion (IsOfServer s.number) entries) (right : AreRight journal entries) (this : IsServer (net_of changed d) (journal ++ entries) n new)
        (packets_ok : AllByRecursion (IsPacket (net_of changed d)) packets) where
      number : s.number ≡ n
      number = (h.servers n s there).number

      other_server : (k : ℕ) (t : ServerState) → k ≢ n → numbered_at m.servers k ≡ Some t → IsServer (net_of changed d) (journal ++ entries) k t
      other_server k t other is =
          let o = h.servers k t is in
          let away : (index : ℕ) → content_of (journal ++ entries) (mirror_of t index) ≡ content_of journal (mirror_of t index) =
          λ index. content_same (mirror_of t index) journal entries (all_more (IsOfServer s.number) (λ e. (c : Copy) → copy_after (mirror_of t index) c e ≡ c) entries (foreign s.number (mirror_of t index) (λ e. other (sym o.number ∙ e ∙ number))) of_server) in
          record {
            number = o.number;
            in_order = o.in_order;
            names = o.names;
            owners = o.owners;
            told = record { each = λ index file there. o.told.each index file there ∙ sym (away index); none = λ index past. away index ∙ o.told.none index past };
            ticks = o.ticks;
          }

      servers_now : (k : ℕ) (t : ServerState) → numbered_at changed.servers k ≡ Some t → IsServer (net_of changed d) (journal ++ entries) k t
      servers_now k t is =
          elim (cases_eq k n) [
            | inl same ↦
                let t_is : new ≡ t = same_numbered changed.servers n new t now_there (sym (ap (numbered_at changed.servers) same) ∙ is) in
                rw (← t_is, same) this
            | inr other ↦ other_server k t other (sym (put_other m.servers n k s new there other) ∙ is)
          ]

      no_fences : (k : ℕ) → AllByRecursion (λ e. If (fence_in e) (λ x. x.file ≢ k)) entries
      no_fences k = all_more (IsOfServer s.number) (λ e. If (fence_in e) (λ x. x.file ≢ k)) entries (λ e o. subst (λ (y : Option FenceNote). If y (λ x. x.file ≢ k)) (sym (of_data s.number e o).fence) tt) of_server

      entry_ok : (e : Entry) → IsOfServer s.number e → IsEntry (length m.files) m.next_uid e
      entry_ok e o = record {
        fence = subst (λ (y : Option FenceNote). If y (IsFenceNote (length m.files) m.next_uid)) (sym (of_data s.number e o).fence) tt;
        freed = subst (λ (y : Option ℕ). If y (λ k. k ≤ length m.files)) (sym (of_data s.number e o).freed) tt;
      }

      pub changed_holds : Holds changed (journal ++ entries) d
      changed_holds = record {
        servers = servers_now;
        packets = packets_ok;
        files = λ k f is. file_on (net_of m d) (net_of changed d) goes_on k journal entries (no_fences k) refl f
            (all_more (IsOfServer s.number) (λ e. (x : Option (List MirrorId)) → live_after (file_id k) x e ≡ x) entries (λ e o. (of_data s.number e o).live (file_id k)) of_server) (h.files k f is);
        tops = h.tops;
        lows = h.lows;
        few_names = h.few_names;
        entries = all_append (IsEntry (length m.files) m.next_uid) journal entries h.entries (all_more (IsOfServer s.number) (IsEntry (length m.files) m.next_uid) entries entry_ok of_server);
        right = right_more [] journal entries h.right right;
      }
