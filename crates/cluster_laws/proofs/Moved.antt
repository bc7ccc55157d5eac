-- One file of the metadata server takes a step, or a packet goes out.
use Rattle.std.proofs.Common.{◌≡◌, ◌≢◌, ℕ, ◌-◌, ◌<◌, ◌≤◌, List, [], ◌++◌, length, set, Option, Some, None, sym, ap, subst, ◌∙◌, arith, inl, inr}
use Rattle.std.specs.List.{AllByRecursion}
use Rattle.std.proofs.lemmas.Bool.{cases_eq}
use Rattle.std.proofs.lemmas.List.{length-set}
use Rattle.cluster_model.specs.declared.ids.NodeId.{NodeId}
use Rattle.cluster_model.specs.declared.ids.MirrorId.{MirrorId}
use Rattle.cluster_model.specs.declared.entry.Entry.{Entry}
use Rattle.cluster_model.specs.Journal.{Copy, copy_after, content_of}
use Rattle.cluster_model.specs.Server.{ServerState, mirror_of}
use Rattle.cluster_model.specs.DsCalls.{mirror_name}
use Rattle.file_rule.specs.MdsFiles.{MdsFile}
use Rattle.cluster_laws.specs.Machine.{PacketValue, Machine, Holding, numbered_at, file_id}
use Rattle.cluster_laws.specs.FenceLaw.{live_after}
use Rattle.cluster_laws.proofs.Lists.{all_append, all_more, put_same, put_other, same_numbered, within_number}
use Rattle.cluster_laws.proofs.Invariant.{Drawn, IsPacket, FenceNote, fence_in, freed_in, If, IsFenceNote, IsEntry, IsFile, IsServer, AreRight, net_of, Holds}
use Rattle.cluster_laws.proofs.Journals.{content_same, right_more}
use Rattle.cluster_laws.proofs.Onward.{Later, file_on}
use Rattle.cluster_laws.proofs.Names.{name_is}

-- ---- entries of the metadata server

-- an entry of this file alone, which changes no copy; if it is of a fence, it tells of an earlier uid and a later one
pub record IsFenceOf (n next_uid : ℕ) (x : FenceNote) : Type 0 where
  pub file : x.file ≡ n
  pub first : 0 < x.old
  pub later : x.old < x.new
  pub drawn : x.new < next_uid

pub record IsNote (n next_uid : ℕ) (e : Entry) : Type 0 where
  pub copies : (m : MirrorId) (c : Copy) → copy_after m c e ≡ c
  pub others : (k : ℕ) → k ≢ n → (x : Option (List MirrorId)) → live_after (file_id k) x e ≡ x
  pub fence : If (fence_in e) (IsFenceOf n next_uid)
  pub freed : If (freed_in e) (λ k. k ≡ n)

not_of : (n next_uid k : ℕ) → k ≢ n → (x : Option FenceNote) → If x (IsFenceOf n next_uid) → If x (λ y. y.file ≢ k)
not_of n next_uid k other None h = tt
not_of n next_uid k other (Some x) h = λ e. other (sym e ∙ h.file)

fence_note : (n next_uid files : ℕ) → 0 < n → n ≤ files → (x : Option FenceNote) → If x (IsFenceOf n next_uid) → If x (IsFenceNote files next_uid)
fence_note n next_uid files some there None h = tt
fence_note n next_uid files some there (Some x) h =
    let file = h.file in
    record { some = omega (arith, file, some); there = omega (arith, file, there); first = h.first; later = h.later; drawn = h.drawn }

freed_note : (n files : ℕ) → n ≤ files → (x : Option ℕ) → If x (λ k. k ≡ n) → If x (λ k. k ≤ files)
freed_note n files there None h = tt
freed_note n files there (Some k) h = omega (arith, h, there)

-- later on more uids are drawn, and there are more files
fence_more : (files more next_uid next : ℕ) → files ≤ more → next_uid ≤ next → (x : Option FenceNote) → If x (IsFenceNote files next_uid) → If x (IsFenceNote more next)
fence_more files more next_uid next le up None h = tt
fence_more files more next_uid next le up (Some x) h =
    let there = h.there in
    let drawn = h.drawn in
    record { some = h.some; there = omega (arith, there, le); first = h.first; later = h.later; drawn = omega (arith, drawn, up) }

freed_more : (files more : ℕ) → files ≤ more → (x : Option ℕ) → If x (λ k. k ≤ files) → If x (λ k. k ≤ more)
freed_more files more le None h = tt
freed_more files more le (Some k) h = omega (arith, h, le)

pub entries_more : (files more next_uid next : ℕ) → files ≤ more → next_uid ≤ next → (journal : List Entry) → AllByRecursion (IsEntry files next_uid) journal → AllByRecursion (IsEntry more next) journal
entries_more files more next_uid next le up journal h =
    all_more (IsEntry files next_uid) (IsEntry more next) journal (λ e k. record { fence = fence_more files more next_uid next le up (fence_in e) k.fence; freed = freed_more files more le (freed_in e) k.freed }) h

-- ---- data servers stay

module _ (m : Machine) (journal : List Entry) (d : Drawn) (h : Holds m journal d) (files : List MdsFile) (next_uid next_name : ℕ) (last_xid : NodeId → ℕ) (packets : List PacketValue) (holdings : List Holding) (e : Drawn) (few_names : next_name ≤ 18446744073709551616) where
  abbrev pub moved_to : Machine
  moved_to = record { servers = m.servers; files = files; next_uid = next_uid; next_name = next_name; last_xid = last_xid; packets = packets; holdings = holdings }

  module _ (l : Later (net_of m d) (net_of moved_to e)) (entries : List Entry) (copies : AllByRecursion (λ x. (id : MirrorId) (c : Copy) → copy_after id c x ≡ c) entries) where
    pub server_stays : (k : ℕ) (s : ServerState) → numbered_at m.servers k ≡ Some s → IsServer (net_of moved_to e) (journal ++ entries) k s
    server_stays k s there =
        let o = h.servers k s there in
        let same : (index : ℕ) → content_of (journal ++ entries) (mirror_of s index) ≡ content_of journal (mirror_of s index) =
        λ index. content_same (mirror_of s index) journal entries (all_more (λ x. (id : MirrorId) (c : Copy) → copy_after id c x ≡ c) (λ x. (c : Copy) → copy_after (mirror_of s index) c x ≡ c) entries (λ x f. f (mirror_of s index)) copies) in
        record {
          number = o.number;
          in_order = o.in_order;
          names = λ index name is.
              let k = o.names index name is in
              let less = k.2 in
              let up = l.names in
              (k.0, k.1, omega (arith, less, up));
          owners = λ index file j is named less.
              let k = o.names index (mirror_name j) named in
              let small = k.2 in
              let up = l.names in
              let same_name : j ≡ k.0 = name_is j k.0 (omega (arith, less, few_names)) (omega (arith, small, few_names, up)) k.1 in
              let old = o.owners index file j is named (omega (arith, same_name, small)) in
              let low = l.low j (omega (arith, same_name, small)) in
              let home = l.home j (omega (arith, same_name, small)) in
              let rises = l.tops (d.home j) in
              let least = old.0 in
              let most = old.1 in
              (omega (arith, least, low), subst (λ (g : ℕ). file.owner ≤ e.top g) (sym home) (omega (arith, most, rises)));
          told = record { each = λ index file there. o.told.each index file there ∙ sym (same index); none = λ index past. same index ∙ o.told.none index past };
          ticks = o.ticks;
        }

    -- ---- a file in its number's place

    module _ (n : ℕ) (f g : MdsFile) (there : numbered_at m.files n ≡ Some f) (files_are : files ≡ set m.files (n - 1) g) (notes : AllByRecursion (IsNote n next_uid) entries) (right : AreRight journal entries)
        (new : IsFile (net_of moved_to e) (journal ++ entries) n g) (packets_ok : AllByRecursion (IsPacket (net_of moved_to e)) packets)
        (tops : (k : ℕ) → k ≢ n → e.top k ≡ d.top k) (tops_less : (k : ℕ) → e.top k < next_uid) (lows : (k : ℕ) → k < next_name → e.low k ≤ e.top (e.home k)) (uids : m.next_uid ≤ next_uid) where
      others_stay : (k : ℕ) (x : MdsFile) → k ≢ n → numbered_at m.files k ≡ Some x → IsFile (net_of moved_to e) (journal ++ entries) k x
      others_stay k x other is =
          file_on (net_of m d) (net_of moved_to e) l k journal entries (all_more (IsNote n next_uid) (λ y. If (fence_in y) (λ z. z.file ≢ k)) entries (λ y note. not_of n next_uid k other (fence_in y) note.fence) notes) (tops k other) x
          (all_more (IsNote n next_uid) (λ y. (z : Option (List MirrorId)) → live_after (file_id k) z y ≡ z) entries (λ y note. note.others k other) notes) (h.files k x is)

      files_now : (k : ℕ) (x : MdsFile) → numbered_at (set m.files (n - 1) g) k ≡ Some x → IsFile (net_of moved_to e) (journal ++ entries) k x
      files_now k x is =
          elim (cases_eq k n) [
            | inl same ↦
                let x_is : g ≡ x = same_numbered (set m.files (n - 1) g) n g x (put_same m.files n f g there) (sym (ap (numbered_at (set m.files (n - 1) g)) same) ∙ is) in
                rw (← x_is, same) new
            | inr other ↦ others_stay k x other (sym (put_other m.files n k f g there other) ∙ is)
          ]

      count : length files ≡ length m.files
      count = ap length files_are ∙ length-set m.files (n - 1) g

      pub moved_holds : Holds moved_to (journal ++ entries) e
      moved_holds =
          let within = within_number m.files n f there in
          record {
            servers = server_stays;
            packets = packets_ok;
            files = λ k x is. files_now k x (ap (λ (all : List MdsFile). numbered_at all k) (sym files_are) ∙ is);
            tops = tops_less;
            lows = lows;
            few_names = few_names;
            entries = all_append (IsEntry (length files) next_uid) journal entries (entries_more (length m.files) (length files) m.next_uid next_uid (omega (arith, count)) uids journal h.entries)
                (all_more (IsNote n next_uid) (IsEntry (length files) next_uid) entries (λ y note. record {
                  fence = fence_note n next_uid (length files) within.0 (omega (arith, count, within.1)) (fence_in y) note.fence;
                  freed = freed_note n (length files) (omega (arith, count, within.1)) (freed_in y) note.freed;
                }) notes);
            right = right_more [] journal entries h.right right;
          }
