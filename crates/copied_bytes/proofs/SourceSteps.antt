-- Sources behind a step of a file.
use Rattle.std.proofs.Common.{◌≡◌, ◌≢◌, ℕ, ◌+◌, ◌-◌, ◌<◌, ◌≤◌, ◌⊎◌, Bool, true, false, cond, List, [], ◌∷◌, ◌++◌, length, set, Option, Some, None, refl, sym, ap, subst, ◌∙◌, arith, inl, inr}
use Rattle.std.specs.List.{AllByRecursion}
use Rattle.std.proofs.lemmas.Bool.{cases_lt, eq-eqb}
use Rattle.std.proofs.lemmas.List.{length-set}
use Rattle.cluster_model.specs.declared.ids.Cred.{Cred}
use Rattle.cluster_model.specs.declared.ids.NodeId.{NodeId}
use Rattle.cluster_model.specs.declared.ids.NodeId.TheVariants.{Mds}
use Rattle.cluster_model.specs.declared.ids.MirrorId.{MirrorId}
use Rattle.cluster_model.specs.declared.ids.Mirror.{Mirror}
use Rattle.cluster_model.specs.declared.entry.Entry.{Entry}
use Rattle.cluster_model.specs.declared.entry.Entry.TheVariants as entry
use Rattle.cluster_model.specs.Content.{shown_of}
use Rattle.cluster_model.specs.Journal.{Copy, content_of, copy_after}
use Rattle.cluster_model.specs.DsCalls.{DsCallValue, Create, SetAttr, Write, Commit, Read, mirror_name}
use Rattle.cluster_model.specs.Phases.{ids_of}
use Rattle.file_rule.specs.MdsFiles.{Activity, Idle, Makes, Fences, Settles, Copies, MdsFile, FileStep}
use Rattle.file_rule.specs.FilePhases.{FileInput, phase}
use Rattle.cluster_laws.specs.Machine.{PacketValue, Call, Reply, Machine, numbered_at, file_id, fresh_of}
use Rattle.cluster_laws.specs.Agreement.{shown_at}
use Rattle.cluster_laws.proofs.Lists.{all_more, put_same, within_number}
use Rattle.cluster_laws.proofs.Journals.{content_same}
use Rattle.cluster_laws.proofs.Names.{name_is}
use Rattle.cluster_laws.proofs.Invariant.{If, live_of, IsFile, net_of}
use Rattle.cluster_laws.proofs.Draws.{new_home, new_low}
use Rattle.cluster_laws.proofs.PeriodFacts.{granted_in, none_granted, granted_append}
use Rattle.cluster_laws.proofs.PeriodStates.{IsMine, IsUnused, IsActive}
use Rattle.machine_walk.proofs.Stories.{Story, IsOnward, IsMoment}
use Rattle.machine_walk.proofs.MoveCases.{Drew, DrewNone, DrewOne, after_step, IsStepBy}
use Rattle.machine_walk.proofs.Placed.{files_set}
use Rattle.machine_walk.proofs.StepKinds.{IsTakenWith, NoWrite, OneWrite, StepKind}
use Rattle.machine_walk.proofs.Writers.{IsPlainUid, mine_on, plain_on, has_calls, IsSilent, IsGrantOf, busy_silent, grant_or, HasUids}
use Rattle.machine_walk.proofs.WriterFacts.{KnowsWriters, ungranted}
use Rattle.machine_walk.proofs.WriterSteps.{drew_new}
use Rattle.machine_walk.proofs.WriterCases.{not_drawn, on, kind, granted_then}
use Rattle.copied_bytes.proofs.Wholes.{IsWhole}
use Rattle.copied_bytes.proofs.Sources.{owner_of, IsUnusedFrom, IsShut, shut_in, shut_by, IsBusySo, KeepsFile, GoesOnAt, GoesOnWith, all_shut_on}
use Rattle.copied_bytes.proofs.SourceCarry.{IsSetCall, IsSetPacket, AreOwnersMine, KnowsSources, IsOwnedAt, file_owned, has_source, is_making, file_nows, busy_on, keeps_on}
use Rattle.copied_bytes.proofs.SourceKinds.{is_grant, cred_kind, making_draws, IsShutOf, Given, shut_kind, first_bytes_of, IsSome, HasFirst, NotSources, busy_kind}
use Rattle.copied_bytes.proofs.SourceServed.{out_later}

-- ---- what is drawn

pub drew_whose : (t : Story) (m : Machine) (journal : List Entry) (n : ℕ) (x : FileStep) (then : Story) → Drew t m journal n x then → (u : ℕ) → m.next_uid ≤ u → u < m.next_uid + x.uids → then.whose u ≡ n
drew_whose t m journal n x then (DrewNone uids names) u le less = absurd (omega (arith, uids, le, less))
drew_whose t m journal n x then (DrewOne uids) u le less = ap (λ (b : Bool). cond b n (t.whose u)) (eq-eqb u m.next_uid (omega (arith, uids, le, less)))

drew_names : (t : Story) (m : Machine) (journal : List Entry) (n : ℕ) (x : FileStep) (then : Story) → Drew t m journal n x then → (k : ℕ) → m.next_name ≤ k → k < m.next_name + x.names → (then.drawn.home k ≡ n) × (then.drawn.low k ≡ m.next_uid) × (x.uids ≡ 1)
drew_names t m journal n x then (DrewNone uids names) k le less = absurd (omega (arith, names, le, less))
drew_names t m journal n x then (DrewOne uids) k le less = (new_home t.drawn m.next_name n m.next_uid k le, new_low t.drawn m.next_name n m.next_uid k le, uids)

silent_no_grant : (entries : List Entry) → AllByRecursion IsSilent entries → is_grant entries ≡ false
silent_no_grant [] h = refl
silent_no_grant (e ∷ entries) h = by_entry e h.0
  where
    by_entry : (x : Entry) → IsSilent x → is_grant (x ∷ entries) ≡ false
    by_entry (entry.Granted file cred holder) k = let wrong : Some cred.0 ≡ None = k.grant in absurd cc
    by_entry _ k = refl

some_ids : (live : List Mirror) → 0 < length live → IsSome (ids_of live)
some_ids [] h = absurd (omega (arith, h))
some_ids (m ∷ live) h = tt

first_shown : (journal : List Entry) (ids : List MirrorId) → shown_at journal (Some ids) ≡ first_bytes_of journal ids
first_shown journal [] = refl
first_shown journal (id ∷ ids) = refl

module _ (t : Story) (m : Machine) (journal : List Entry) (at : IsMoment t m journal) (w : KnowsWriters t m journal) (p : KnowsSources t m journal) (n : ℕ) (f : MdsFile) (input : FileInput) (then : Story) (by : IsStepBy t m journal n f input then) where
  abbrev pub x : FileStep
  x = phase (file_id n) f input (fresh_of m)

  abbrev pub more : ℕ
  more = m.next_uid + x.uids

  abbrev after : Machine
  after = after_step m n x

  abbrev pub now : List Entry
  now = journal ++ x.entries

  onward : IsOnward t m.next_uid m.next_name then
  onward = on t m journal at w n f input then by

  pub its_kind : StepKind n (fresh_of m) input f.layout f.activity x
  its_kind = kind t m journal at w n f input then by

  more_up : m.next_uid ≤ more
  more_up = omega arith

  pub content_now : (id : MirrorId) → content_of now id ≡ content_of journal id
  content_now id = content_same id journal x.entries (all_more (λ e. (i : MirrorId) (c : Copy) → copy_after i c e ≡ c) (λ e. (c : Copy) → copy_after id c e ≡ c) x.entries (λ e k. k id) by.copies)

  owner_now : (id : MirrorId) → owner_of now id ≡ owner_of journal id
  owner_now id = ap (λ (c : Copy). c.owner) (content_now id)

  -- ---- uids and names

  old_mine : (k u : ℕ) → u < m.next_uid → IsMine then.whose more k u → IsMine t.whose m.next_uid k u
  old_mine k u less h = record { mine = sym (onward.whose u less) ∙ h.mine; drawn = less }

  mine_then : (k u : ℕ) → IsMine t.whose m.next_uid k u → IsMine then.whose more k u
  mine_then k u h = mine_on t m.next_uid m.next_name then more onward more_up k u h

  lows_then : (k : ℕ) → k < m.next_name + x.names → IsMine then.whose more (then.drawn.home k) (then.drawn.low k)
  lows_then k less =
      elim (cases_lt k m.next_name) [
        | inl old ↦ subst (λ (j : ℕ). IsMine then.whose more j (then.drawn.low k)) (sym (onward.home k old)) (subst (λ (u : ℕ). IsMine then.whose more (t.drawn.home k) u) (sym (onward.low k old)) (mine_then (t.drawn.home k) (t.drawn.low k) (p.lows k old)))
        | inr le ↦
            let new = drew_names t m journal n x then by.drew k le less in
            let one = new.2 in
            subst (λ (j : ℕ). IsMine then.whose more j (then.drawn.low k)) (sym new.0) (subst (λ (u : ℕ). IsMine then.whose more n u) (sym new.1)
            (record { mine = drew_whose t m journal n x then by.drew m.next_uid (omega arith) (omega (arith, one)); drawn = omega (arith, one) }))
      ]

  owners_then : AreOwnersMine then more (m.next_name + x.names) m.servers
  owners_then i s index file k there found named less =
      let its = (at.holds.servers i s there).names index (mirror_name k) named in
      let few = by.holds.few_names in
      let small = its.2 in
      let same : k ≡ its.0 = name_is k its.0 (omega (arith, less, few)) (omega (arith, small, few)) its.1 in
      let old : k < m.next_name = omega (arith, same, small) in
      subst (λ (j : ℕ). IsMine then.whose more j file.owner) (sym (onward.home k old)) (mine_then (t.drawn.home k) file.owner (p.owners i s index file k there found named old))

  known_then : (u : ℕ) → u < more → then.whose u ≤ length (set m.files (n - 1) x.file)
  known_then u less =
      let count = length-set m.files (n - 1) x.file in
      elim (cases_lt u m.next_uid) [
        | inl old ↦ let same = onward.whose u old in let was = p.known u old in omega (arith, same, was, count)
        | inr le ↦ let same = drew_whose t m journal n x then by.drew u le less in let within = within_number m.files n f by.there in omega (arith, same, within.1, count)
      ]

  set_then : (i : ℕ) (call : DsCallValue) → IsSetCall t m.next_uid m.next_name m.servers i call → IsSetCall then more (m.next_name + x.names) m.servers i call
  set_then i (Create name owner) h = tt
  set_then i (SetAttr fileid owner guard) h =
      let less = h.drawn in
      record { name = h.name; drawn = omega (arith, less); bears = h.bears; plain = subst (λ (j : ℕ). IsPlainUid then more j owner) (sym (onward.home h.name h.drawn)) (plain_on t m.next_uid m.next_name then more onward more_up (t.drawn.home h.name) owner h.plain) }
  set_then i (Write fileid pos synced bytes) h = tt
  set_then i (Commit fileid) h = tt
  set_then i (Read fileid pos count) h = tt

  packet_then : (q : PacketValue) → IsSetPacket t m.next_uid m.next_name m.servers q → IsSetPacket then more (m.next_name + x.names) m.servers q
  packet_then (Call from i xid user gid call) h = set_then i call h
  packet_then (Reply place i to xid reply) h = tt

  -- ---- journals

  fresh_then : (u : ℕ) → m.next_uid ≤ u → IsUnused now u
  fresh_then u le = granted_then t m journal at w n f input then by u (not_drawn m.next_uid u journal at.periods.below le) (λ v q e. let less = q.0.mine.drawn in absurd (omega (arith, e, less, le)))

  mine_or : (k u : ℕ) → IsMine then.whose more k u → IsMine t.whose m.next_uid k u ⊎ (m.next_uid ≤ u)
  mine_or k u h =
      elim (cases_lt u m.next_uid) [
        | inl less ↦ inl (old_mine k u less h)
        | inr le ↦ inr le
      ]

  at_then : (k : ℕ) (id : MirrorId) → IsOwnedAt t m journal k id → GoesOnAt t then journal now id
  at_then k id o = record {
    rises = let same = owner_now id in omega (arith, same);
    plain = λ none. ap then.copied (owner_now id) ∙ onward.copied (owner_of journal id) o.mine.drawn ∙ none;
    whole = λ bytes shut h. subst (λ (c : Copy). IsWhole bytes c.content) (sym (content_now id)) h;
  }

  copied_then : (u : ℕ) (bytes : List ℕ) → u < m.next_uid → t.copied u ≡ Some bytes → then.copied u ≡ Some bytes
  copied_then u bytes less copy = onward.copied u less ∙ copy

  -- ---- another file

  pub on_other : (k : ℕ) → k ≢ n → GoesOnWith t m.next_uid then more k journal now
  on_other k other = record { mine = mine_or k; unused = λ u mine was. granted_then t m journal at w n f input then by u was (λ v q e. other (sym mine.mine ∙ ap t.whose (sym e) ∙ q.0.mine.mine)); fresh = fresh_then }

  other_file : (k : ℕ) (g : MdsFile) → k ≢ n → numbered_at m.files k ≡ Some g → KeepsFile then more m.packets (m.last_xid Mds) now k g.layout g.activity
  other_file k g other found =
      let owned = file_owned t m journal at.holds p.owners k g found in
      let old = p.files k g found in
      keeps_on t m.next_uid then more k journal now
      (record {
        mine = mine_or k;
        unused = λ u mine was. granted_then t m journal at w n f input then by u was (λ v q e. other (sym mine.mine ∙ ap t.whose (sym e) ∙ q.0.mine.mine));
        fresh = fresh_then;
      })
      m.packets m.packets (m.last_xid Mds) (m.last_xid Mds) (λ xid id on_ shut o. out_later m.packets (m.last_xid Mds) xid id.server (Commit id.fileid) journal now id (λ bytes h. on_.whole bytes shut h) o) (λ xid id bytes pos up_ whole o. o) copied_then g.layout g.activity (w.files k g found)
      (λ making u mine. by_uid u mine)
      (all_more (IsOwnedAt t m journal k) (GoesOnAt t then journal now) (ids_of g.layout.live) (at_then k) owned) (file_nows t m journal k g (at.holds.files k g found) owned old.shut) old
    where
      by_uid : (u : ℕ) → IsMine then.whose more k u → IsMine t.whose m.next_uid k u
      by_uid u mine =
          elim (cases_lt u m.next_uid) [
            | inl less ↦ old_mine k u less mine
            | inr le ↦ absurd (other (sym mine.mine ∙ drew_whose t m journal n x then by.drew u le mine.drawn))
          ]

  -- ---- this file

  old : KeepsFile t m.next_uid m.packets (m.last_xid Mds) journal n f.layout f.activity
  old = p.files n f by.there

  owned : AllByRecursion (IsOwnedAt t m journal n) (ids_of f.layout.live)
  owned = file_owned t m journal at.holds p.owners n f by.there

  its_ats : AllByRecursion (GoesOnAt t then journal now) (ids_of f.layout.live)
  its_ats = all_more (IsOwnedAt t m journal n) (GoesOnAt t then journal now) (ids_of f.layout.live) (at_then n) owned

  granted_cred : IsGrantOf t m.next_uid n f.layout x.entries ⊎ AllByRecursion IsSilent x.entries → AllByRecursion (λ e. If (granted_in e) (λ v. v ≡ f.layout.cred.0)) x.entries
  granted_cred (inl g) = subst (AllByRecursion (λ e. If (granted_in e) (λ v. v ≡ f.layout.cred.0))) (sym g.is) (by_taken g.cred g.holder g.writes g.own g.taken)
    where
      by_taken : (cred : Cred) (holder : NodeId) (writes : List Entry) → cred ≡ f.layout.cred → IsTakenWith n cred writes → AllByRecursion (λ e. If (granted_in e) (λ v. v ≡ f.layout.cred.0)) (entry.Granted (file_id n) cred holder ∷ writes)
      by_taken cred holder _ own NoWrite = (ap (λ (c : Cred). c.0) own, tt)
      by_taken cred holder _ own (OneWrite pos bytes) = (ap (λ (c : Cred). c.0) own, (tt, tt))
  granted_cred (inr silent) = all_more IsSilent (λ e. If (granted_in e) (λ v. v ≡ f.layout.cred.0)) x.entries (λ e k. subst (λ (o : Option ℕ). If o (λ v. v ≡ f.layout.cred.0)) (sym k.grant) tt) silent

  its_grant : IsGrantOf t m.next_uid n f.layout x.entries ⊎ AllByRecursion IsSilent x.entries
  its_grant = grant_or n (fresh_of m) input t m.next_uid its_kind (w.files n f by.there)

  not_cred : (u : ℕ) (o : Option ℕ) → f.layout.cred.0 < u → If o (λ v. v ≡ f.layout.cred.0) → If o (λ v. v ≢ u)
  not_cred u None less k = tt
  not_cred u (Some v) less k = λ e. absurd (omega (arith, less, k, e))

  above_then : IsUnusedFrom then more now n (x.file.layout.cred.0 + 1)
  above_then = record {
    none = λ u mine le.
        let rises = cred_kind n (fresh_of m) input t m.next_uid its_kind (w.files n f by.there) in
        elim (cases_lt u m.next_uid) [
          | inl less ↦
              granted_append u journal x.entries (old.above.none u (old_mine n u less mine) (omega (arith, le, rises)))
              (none_granted u x.entries (all_more (λ e. If (granted_in e) (λ v. v ≡ f.layout.cred.0)) (λ e. If (granted_in e) (λ v. v ≢ u)) x.entries (λ e k. not_cred u (granted_in e) (omega (arith, le, rises)) k) (granted_cred its_grant)))
          | inr new ↦ fresh_then u new
        ];
  }

  -- where nothing is granted
  silent_unused : AllByRecursion IsSilent x.entries → (u : ℕ) → IsUnused journal u → IsUnused now u
  silent_unused silent u k = ungranted u journal x.entries (all_more IsSilent (λ e. granted_in e ≡ None) x.entries (λ e q. q.grant) silent) k

  pub no_grant : is_grant x.entries ≡ false → AllByRecursion IsSilent x.entries
  no_grant off = by_grant its_grant
    where
      by_grant : IsGrantOf t m.next_uid n f.layout x.entries ⊎ AllByRecursion IsSilent x.entries → AllByRecursion IsSilent x.entries
      by_grant (inl g) = let wrong : true ≡ false = sym (ap is_grant g.is) ∙ off in absurd cc
      by_grant (inr silent) = silent

  pub on_own : AllByRecursion IsSilent x.entries → GoesOnWith t m.next_uid then more n journal now
  on_own silent = record { mine = mine_or n; unused = λ u mine k. silent_unused silent u k; fresh = fresh_then }

  abbrev Sh : MirrorId → Type 0
  Sh id = IsShut then more now n id

  file_there : numbered_at after.files n ≡ Some x.file
  file_there = put_same m.files n f x.file by.there

  owned_then : AllByRecursion (IsOwnedAt then after now n) (ids_of x.file.layout.live)
  owned_then = file_owned then after now by.holds owners_then n x.file file_there

  shut_of : (u : ℕ) → IsPlainUid t m.next_uid n u → ((v : ℕ) → IsMine t.whose m.next_uid n v → u ≤ v → IsUnused now v) → IsShutOf n (fresh_of m) input Sh now u
  shut_of u plain unused = λ id is. record {
    plain = ap then.copied is ∙ onward.copied u plain.mine.drawn ∙ plain.no_copy;
    unused = record {
      none = λ v mine le.
          elim (cases_lt v m.next_uid) [
            | inl less ↦ unused v (old_mine n v less mine) (omega (arith, is, le))
            | inr new ↦ fresh_then v new
          ];
    };
  }

  given_by : (a : Activity) → f.activity ≡ a → Given n (fresh_of m) input Sh now a x
  given_by Idle is = tt
  given_by (Makes all) is =
      let silent = busy_silent n (fresh_of m) input its_kind (ap has_calls is) in
      let only = subst (IsBusySo t m.next_uid m.packets (m.last_xid Mds) journal n f.layout) is old.busy in
      let plain : IsPlainUid t m.next_uid n f.layout.cred.0 = subst (HasUids t m.next_uid n f.layout) is (w.files n f by.there) in
      let period = subst (IsActive at.fenced m.next_uid journal n f.layout) is (at.periods.files n f by.there).active in
      let none = making_draws n (fresh_of m) input its_kind (ap is_making is) in
      let of = shut_of f.layout.cred.0 plain (λ v mine le. silent_unused silent v (subst (IsUnused journal) (sym (only v mine)) period.unused)) in
      all_more (IsOwnedAt then after now n) Sh (ids_of x.file.layout.live) (λ id o. of id (let less = o.mine.drawn in only (owner_of now id) (old_mine n (owner_of now id) (omega (arith, less, none)) o.mine))) owned_then
  given_by (Fences fence) is =
      let silent = busy_silent n (fresh_of m) input its_kind (ap has_calls is) in
      let uids = subst (HasUids t m.next_uid n f.layout) is (w.files n f by.there) in
      let period = subst (IsActive at.fenced m.next_uid journal n f.layout) is (at.periods.files n f by.there).active in
      shut_of fence.cred uids.new (λ v mine le. silent_unused silent v (by_uid fence.cred uids.later period.unused v mine le))
    where
      by_uid : (fresh : ℕ) → f.layout.cred.0 < fresh → IsUnused journal fresh → (v : ℕ) → IsMine t.whose m.next_uid n v → fresh ≤ v → IsUnused journal v
      by_uid fresh later unused v mine le = old.above.none v mine (omega (arith, later, le))
  given_by (Settles stage) is = tt
  given_by (Copies c) is = tt

  busy_carried : (a : Activity) → f.activity ≡ a → AllByRecursion IsSilent x.entries → IsBusySo t m.next_uid m.packets (m.last_xid Mds) journal n f.layout a → IsBusySo then more m.packets (m.last_xid Mds) now n f.layout a
  busy_carried a is silent h =
      busy_on t m.next_uid then more n journal now (on_own silent) m.packets m.packets (m.last_xid Mds) (m.last_xid Mds) (λ xid id on_ shut o. out_later m.packets (m.last_xid Mds) xid id.server (Commit id.fileid) journal now id (λ bytes k. on_.whole bytes shut k) o) (λ xid id bytes pos up_ whole o. o) copied_then
      f.layout a (subst (HasUids t m.next_uid n f.layout) is (w.files n f by.there))
      (λ making u mine. let none = making_draws n (fresh_of m) input its_kind (ap is_making is ∙ making) in let less = mine.drawn in old_mine n u (omega (arith, less, none)) mine)
      its_ats (λ e. file_nows t m journal n f (at.holds.files n f by.there) owned old.shut (ap has_source is ∙ e)) h

  pub busy_now : (a : Activity) → f.activity ≡ a → IsBusySo t m.next_uid m.packets (m.last_xid Mds) journal n f.layout a → IsBusySo then more m.packets (m.last_xid Mds) now n f.layout a
  busy_now Idle is h = tt
  busy_now (Makes all) is h = busy_carried (Makes all) is (busy_silent n (fresh_of m) input its_kind (ap has_calls is)) h
  busy_now (Fences fence) is h = tt
  busy_now (Settles stage) is h = busy_carried (Settles stage) is (busy_silent n (fresh_of m) input its_kind (ap has_calls is)) h
  busy_now (Copies c) is h = busy_carried (Copies c) is (busy_silent n (fresh_of m) input its_kind (ap has_calls is)) h

  first_now : (ids : List MirrorId) → first_bytes_of journal ids ≡ first_bytes_of now ids
  first_now [] = refl
  first_now (id ∷ ids) = ap (λ (c : Copy). shown_of c.content) (sym (content_now id))

  first_by : (a : Activity) → f.activity ≡ a → HasFirst n m.next_name (length m.servers) input then m.next_uid more m.packets (m.last_xid Mds) journal now by.heard f.layout a
  first_by Idle is = tt
  first_by (Makes all) is = tt
  first_by (Fences fence) is = tt
  first_by (Settles stage) is =
      let period = subst (IsActive at.fenced m.next_uid journal n f.layout) is (at.periods.files n f by.there).active in
      let h = subst (λ (a : Activity). IsFile (net_of m t.drawn) journal n (record { layout = f.layout; activity = a })) is (at.holds.files n f by.there) in
      (some_ids f.layout.live period.fenced.some, ap (shown_at journal) (h.live ∙ ap (λ q. live_of q (ids_of f.layout.live)) h.busy.phase) ∙ first_shown journal (ids_of f.layout.live) ∙ first_now (ids_of f.layout.live))
  first_by (Copies c) is = tt

  not_sources : (a : Activity) → x.file.activity ≡ a → NotSources n m.next_name (length m.servers) input then m.next_uid more m.packets (m.last_xid Mds) journal now by.heard x.file.layout.live a
  not_sources Idle is = tt
  not_sources (Makes all) is = tt
  not_sources (Fences fence) is = tt
  not_sources (Settles stage) is = tt
  not_sources (Copies c) is =
      let h = subst (λ (a : Activity). IsFile (net_of after then.drawn) now n (record { layout = x.file.layout; activity = a })) is (by.holds.files n x.file file_there) in
      h.busy.sources

  its_file : KeepsFile then more m.packets (m.last_xid Mds) now n x.file.layout x.file.activity
  its_file = record {
    above = above_then;
    shut = shut_by then more now n x.file.layout.phase (ids_of x.file.layout.live)
        (shut_kind n (fresh_of m) input Sh now its_kind
        (λ off e. all_shut_on t m.next_uid then more n journal now (on_own (no_grant off)) (ids_of f.layout.live) its_ats (shut_in t m.next_uid journal n f.layout.phase (ids_of f.layout.live) e old.shut))
        (given_by f.activity refl) journal (λ id. sym (owner_now id)) by.right);
    busy = busy_kind n m.next_name (length m.servers) input then m.next_uid more m.packets (m.last_xid Mds) journal now by.heard its_kind (busy_now f.activity refl old.busy) (first_by f.activity refl)
        (λ one. (drew_new t m journal n x then by.drew one).copied) (not_sources x.file.activity refl);
  }

  pub stepped_sources : KnowsSources then after now
  stepped_sources = record {
    lows = lows_then;
    owners = owners_then;
    known = known_then;
    packets = all_more (IsSetPacket t m.next_uid m.next_name m.servers) (IsSetPacket then more (m.next_name + x.names) m.servers) m.packets packet_then p.packets;
    files = files_set (λ k g. KeepsFile then more m.packets (m.last_xid Mds) now k g.layout g.activity) m.files n f x.file by.there its_file other_file;
  }
