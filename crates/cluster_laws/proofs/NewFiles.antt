-- A client creates a file: a uid and a name are drawn for it, and its mirrors are to be made.
use Rattle.std.proofs.Common.{◌≡◌, ℕ, zero, suc, ◌+◌, ◌-◌, ◌<◌, ◌≤◌, Bool, true, false, not, ◌&&◌, ◌==◌, ltb, cond, List, [], ◌∷◌, ◌++◌, length, Option, Some, None, refl, sym, ap, subst, ◌∙◌, arith, ◌⊎◌, inl, inr, append-nil}
use Rattle.std.specs.Prelude.{slice_get}
use Rattle.std.specs.List.{AllByRecursion, list_any}
use Rattle.std.proofs.lemmas.Bool.{cond_both, and_parts, ne_eqb}
use Rattle.std.proofs.lemmas.Option.{same_Some}
use Rattle.cluster_model.specs.declared.ids.MirrorId.{MirrorId}
use Rattle.cluster_model.specs.declared.ids.Mirror.{Mirror}
use Rattle.cluster_model.specs.declared.entry.Entry.{Entry}
use Rattle.cluster_model.specs.declared.entry.Entry.TheVariants as entry
use Rattle.cluster_model.specs.declared.call_stage.CallStage.TheVariants.{Waits}
use Rattle.file_rule.specs.MdsFiles.{MdsFile}
use Rattle.file_rule.specs.FilePhases.{creations_at, new_mds_file, are_spent}
use Rattle.cluster_laws.specs.Machine.{Machine, no_move, numbered_at, file_id, fresh_of, are_servers, may_create, can_draw, created}
use Rattle.cluster_laws.specs.FenceLaw.{live_by, live_after, is_file, changed_live, first_free, swapped_in}
use Rattle.cluster_laws.proofs.Lists.{all_more, place_of, at_number, within_number}
use Rattle.cluster_laws.proofs.Invariant.{Drawn, Net, IsPacket, FenceNote, fence_in, If, IsFenceNote, IsEntry, IsFencedTo, IsCreationOf, IsFile, AreRight, servers_of, are_apart, net_of, Holds}
use Rattle.cluster_laws.proofs.Onward.{Later, packet_on, file_on}
use Rattle.cluster_laws.proofs.Moved.{server_stays, entries_more}
use Rattle.cluster_laws.proofs.Draws.{draws, later_drawn, top_here, top_other, top_less, new_home, new_low, lows_drawn}
use Rattle.cluster_laws.proofs.KnownNow.{all_stand}
use Rattle.cluster_laws.proofs.Stepped.{HoldsAfter, no_step, few_by}

-- ---- one more at the end of a list

push_cases : {A : Type 0} (xs : List A) (y : A) (i : ℕ) (x : A) → slice_get (xs ++ y ∷ []) i ≡ Some x → (slice_get xs i ≡ Some x) ⊎ ((i ≡ length xs) × (y ≡ x))
push_cases [] y zero x e = inr (refl, same_Some y x e)
push_cases [] y (suc i) x e = absurd cc
push_cases (z ∷ xs) y zero x e = inl e
push_cases (z ∷ xs) y (suc i) x e =
    elim (push_cases xs y i x e) [
      | inl old ↦ inl old
      | inr last ↦ inr (ap suc last.0, last.1)
    ]

-- one that has a number is the last, or had it before
pub pushed : {A : Type 0} (xs : List A) (y : A) (k : ℕ) (x : A) → numbered_at (xs ++ y ∷ []) k ≡ Some x → (numbered_at xs k ≡ Some x) ⊎ ((k ≡ length xs + 1) × (y ≡ x))
pushed xs y k x is =
    let p = place_of (xs ++ y ∷ []) k x is in
    elim (push_cases xs y (k - 1) x p.1) [
      | inl old ↦ inl (at_number xs k x p.0 old)
      | inr last ↦ let at = last.0 in let ne = p.0 in inr (omega (arith, at, ne), last.1)
    ]

pub pushed_length : {A : Type 0} (xs : List A) (y : A) → length (xs ++ y ∷ []) ≡ length xs + 1
pushed_length [] y = refl
pushed_length (x ∷ xs) y = let rest = pushed_length xs y in omega (arith, rest)

-- ---- the servers that a client names

servers_same : (name : ℕ) (servers : List ℕ) → servers_of (creations_at name servers) ≡ servers
servers_same name [] = refl
servers_same name (n ∷ servers) = ap (λ (more : List ℕ). n ∷ more) (servers_same name servers)

apart_servers : (count : ℕ) (servers : List ℕ) → are_servers count servers ≡ true → are_apart servers ≡ true
apart_servers count [] e = refl
apart_servers count (n ∷ servers) e =
    let other : Bool = not (list_any (λ k. k == n) servers) in
    let parts = and_parts (ltb 0 n && ltb n (count + 1) && other) (are_servers count servers) e in
    let apart = and_parts (ltb 0 n && ltb n (count + 1)) other parts.0 in
    ap (λ (b : Bool). b && are_apart servers) apart.1 ∙ apart_servers count servers parts.1

-- ---- a file past the end is in no entry

module _ (files next_uid n : ℕ) (past : files < n) where
  other_file : (k : ℕ) → k ≤ files → is_file (file_id k) (file_id n) ≡ false
  other_file k le = ne_eqb k n (λ e. absurd (omega (arith, e, le, past)))

  not_begun : (e : Entry) → IsEntry files next_uid e → live_after (file_id n) None e ≡ None
  not_begun (entry.Free file mirrors) h = ap (λ (b : Bool). cond b (first_free mirrors None) None) (other_file file.0 h.freed)
  not_begun (entry.Left file mirror cause) h = cond_both (is_file file (file_id n)) (changed_live (λ live. live) None) None (λ (x : Option (List MirrorId)). x ≡ None) (λ e. refl) (λ e. refl)
  not_begun (entry.Swapped file old new) h = cond_both (is_file file (file_id n)) (changed_live (swapped_in old new) None) None (λ (x : Option (List MirrorId)). x ≡ None) (λ e. refl) (λ e. refl)
  not_begun _ h = refl

  none_begun : (journal : List Entry) → AllByRecursion (IsEntry files next_uid) journal → live_by (file_id n) None journal ≡ None
  none_begun [] h = refl
  none_begun (e ∷ journal) h = ap (λ (x : Option (List MirrorId)). live_by (file_id n) x journal) (not_begun e h.0) ∙ none_begun journal h.1

  not_fenced : (x : Option FenceNote) → If x (IsFenceNote files next_uid) → If x (λ y. y.file ≡ n → y.new ≤ 0)
  not_fenced None h = tt
  not_fenced (Some x) h = λ e. let there = h.there in absurd (omega (arith, e, there, past))

  none_fenced : (journal : List Entry) → AllByRecursion (IsEntry files next_uid) journal → AllByRecursion (IsFencedTo n 0) journal
  none_fenced journal h = all_more (IsEntry files next_uid) (IsFencedTo n 0) journal (λ e k. not_fenced (fence_in e) k.fence) h

-- ---- the machine then

module _ (m : Machine) (journal : List Entry) (d : Drawn) (h : Holds m journal d) (servers : List ℕ) where
  abbrev n : ℕ
  n = length m.files + 1

  abbrev pub new_file : MdsFile
  new_file = new_mds_file (fresh_of m) servers

  abbrev pub then : Machine
  then = record { servers = m.servers; files = m.files ++ new_file ∷ []; next_uid = m.next_uid + 1; next_name = m.next_name + 1; last_xid = m.last_xid; packets = m.packets; holdings = m.holdings }

  abbrev net : Net
  net = net_of m d

  abbrev pub drawn : Drawn
  drawn = draws d m.next_name n m.next_uid

  abbrev after : Net
  after = net_of then drawn

  later : Later net after
  later = later_drawn net n m.next_uid 1 (all_stand m journal d h) h.tops

  past : length m.files < n
  past = omega arith

  creation : (k : ℕ) → IsCreationOf after n m.next_uid (record { server = k; name = m.next_name; stage = Waits; made = None })
  creation k = record {
    drawn = omega arith;
    home = new_home d m.next_name n m.next_uid m.next_name (omega arith);
    low = new_low d m.next_name n m.next_uid m.next_name (omega arith);
    out = λ xid is. absurd (not_out is);
    made = λ x is. absurd (not_made x is);
  }
    where
      not_out : false ≡ true → ⊥
      not_out e = cc

      not_made : (x : Mirror) → None ≡ Some x → ⊥
      not_made x e = cc

  creations : (all : List ℕ) → AllByRecursion (IsCreationOf after n m.next_uid) (creations_at m.next_name all)
  creations [] = tt
  creations (k ∷ all) = (creation k, creations all)

  its_file : are_servers (length m.servers) servers ≡ true → IsFile after journal n new_file
  its_file apart = record {
    live = none_begun (length m.files) m.next_uid n past journal h.entries;
    apart = refl;
    mirrors = tt;
    cred = let some = h.tops 0 in omega (arith, some);
    top = let top = top_here d m.next_name n m.next_uid in omega (arith, top);
    busy = record {
      phase = refl;
      owner = refl;
      least = top_here d m.next_name n m.next_uid;
      items = creations servers;
      apart = ap are_apart (servers_same m.next_name servers) ∙ apart_servers (length m.servers) servers apart;
      fences = none_fenced (length m.files) m.next_uid n past journal h.entries;
    };
  }

  old_file : (k : ℕ) (x : MdsFile) → numbered_at m.files k ≡ Some x → IsFile after (journal ++ []) k x
  old_file k x is =
      let within = within_number m.files k x is in
      let up = within.1 in
      file_on net after later k journal [] tt (top_other d m.next_name n m.next_uid k (λ e. absurd (omega (arith, e, up)))) x tt (h.files k x is)

  files_now : are_servers (length m.servers) servers ≡ true → (k : ℕ) (x : MdsFile) → numbered_at then.files k ≡ Some x → IsFile after (journal ++ []) k x
  files_now apart k x is =
      elim (pushed m.files new_file k x is) [
        | inl old ↦ old_file k x old
        | inr last ↦ subst (λ (j : ℕ). IsFile after (journal ++ []) j x) (sym last.0) (subst (λ (g : MdsFile). IsFile after (journal ++ []) n g) last.1 (subst (λ (j : List Entry). IsFile after j n new_file) (sym (append-nil journal)) (its_file apart)))
      ]

  pub created_holds : are_servers (length m.servers) servers ≡ true → m.next_name + 1 ≤ 18446744073709551616 → Holds then (journal ++ []) drawn
  created_holds apart few =
      let count = pushed_length m.files new_file in
      record {
        servers = server_stays m journal d h then.files (m.next_uid + 1) (m.next_name + 1) m.last_xid m.packets m.holdings drawn few later [] tt;
        packets = all_more (IsPacket net) (IsPacket after) m.packets (packet_on net after later) h.packets;
        files = files_now apart;
        tops = λ k. top_less d m.next_name n m.next_uid k (h.tops k);
        lows = λ k less. lows_drawn d m.next_name n m.next_uid h.tops h.lows k;
        few_names = few;
        entries = subst (λ (j : List Entry). AllByRecursion (IsEntry (length then.files) (m.next_uid + 1)) j) (sym (append-nil journal)) (entries_more (length m.files) (length then.files) m.next_uid (m.next_uid + 1) (omega (arith, count)) (omega arith) journal h.entries);
        right = subst (λ (j : List Entry). AreRight [] j) (sym (append-nil journal)) h.right;
      }

  pub creates_ok : HoldsAfter m journal d h (created m servers)
  creates_ok =
      cond_both (may_create m servers) (record { machine = then; entries = [] }) (no_move m) (HoldsAfter m journal d h)
      (λ e.
      let draw = and_parts (ltb 0 (length servers) && ltb (length servers) 5 && are_servers (length m.servers) servers && not (are_spent (fresh_of m))) (can_draw m 1 1) e in
      let left = and_parts (ltb 0 (length servers) && ltb (length servers) 5 && are_servers (length m.servers) servers) (not (are_spent (fresh_of m))) draw.0 in
      let apart = and_parts (ltb 0 (length servers) && ltb (length servers) 5) (are_servers (length m.servers) servers) left.0 in
      (drawn, created_holds apart.1 (few_by m journal d h 1 1 draw.1)))
      (λ e. no_step m journal d h)
