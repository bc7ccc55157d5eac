-- Owners stay behind a fence, and the journal tells the truth.
use Rattle.std.proofs.Common.{◌≡◌, ℕ, ◌+◌, ◌≤◌, List, [], ◌∷◌, length, Option, Some, refl, sym, ap, subst, ◌∙◌, arith}
use Rattle.std.specs.List.{AllByRecursion}
use Rattle.cluster_model.specs.declared.ids.MirrorId.{MirrorId}
use Rattle.cluster_model.specs.declared.ids.Mirror.{Mirror}
use Rattle.cluster_model.specs.declared.entry.Entry.{Entry}
use Rattle.cluster_model.specs.declared.entry.Entry.TheVariants as entry
use Rattle.cluster_model.specs.declared.layout_state.LayoutPhase.{LayoutPhase}
use Rattle.cluster_model.specs.declared.layout_state.LayoutPhase.TheVariants.{Making, Free, Held, Fencing, Settling, Copying}
use Rattle.cluster_model.specs.Journal.{Copy, content_of}
use Rattle.cluster_model.specs.Server.{ServerState, mirror_of}
use Rattle.cluster_model.specs.GuardLaws.{IsTold}
use Rattle.cluster_model.specs.Phases.{ids_of}
use Rattle.cluster_laws.specs.Machine.{Machine, numbered_at}
use Rattle.cluster_laws.specs.Periods.{OwnedFromAll, DoOwnersStay}
use Rattle.cluster_laws.proofs.Facts.{OwnedFrom}
use Rattle.cluster_laws.proofs.Lists.{all_more, all_split, there_is}
use Rattle.cluster_laws.proofs.Invariant.{Drawn, KeepsOwner, IsMirrorOf, IsEntry, live_of, net_of, Holds}
use Rattle.cluster_laws.proofs.KnownNow.{id_by}

ids_all : (P : MirrorId → Type 0) (live : List Mirror) → AllByRecursion (λ m. P m.id) live → AllByRecursion P (ids_of live)
ids_all P [] h = tt
ids_all P (m ∷ live) h = (h.0, ids_all P live h.1)

module _ (m : Machine) (journal : List Entry) (d : Drawn) (h : Holds m journal d) where
  -- the journal says so of whom a mirror belongs to
  pub owner_told : (id : MirrorId) (uid : ℕ) → OwnedFrom m.servers id uid → uid ≤ (content_of journal id).owner
  owner_told id uid o =
      let s : ServerState = o.server in
      let on = h.servers id.server s o.there in
      let is : id ≡ mirror_of s o.index = id_by id s.number (o.index + 2) (sym on.number) o.place in
      let told : (content_of journal id).owner ≡ o.file.owner = ap (λ (i : MirrorId). (content_of journal i).owner) is ∙ sym (ap (λ (c : Copy). c.owner) (on.told.each o.index o.file o.is)) in
      let up = o.up in
      omega (arith, told, up)

  by_phase : (p : LayoutPhase) (uid : ℕ) (live : List MirrorId) → AllByRecursion (λ k. uid ≤ (content_of journal k).owner) live → OwnedFromAll journal uid (live_of p live)
  by_phase Making uid live k = tt
  by_phase Free uid live k = k
  by_phase (Held holder is_recalled) uid live k = k
  by_phase (Fencing next end) uid live k = k
  by_phase (Settling copies) uid live k = k
  by_phase (Copying copier copies) uid live k = k

  pub owners_stay : DoOwnersStay journal
  owners_stay before behind f old new live is =
      let fence : Entry = entry.Fenced f old new live in
      let note = (all_split (IsEntry (length m.files) m.next_uid) before fence behind (subst (λ (j : List Entry). AllByRecursion (IsEntry (length m.files) m.next_uid) j) is h.entries)).fence in
      let g = there_is m.files f.0 note.some note.there in
      let file = h.files f.0 g.0 g.1 in
      let owned = all_more (IsMirrorOf (net_of m d) f.0 journal) (λ y. f.0 ≡ f.0 → OwnedFrom m.servers y.id new.0) g.0.layout.live
      (λ y k. all_split (KeepsOwner m.servers f.0 y.id) before fence behind (subst (λ (j : List Entry). AllByRecursion (KeepsOwner m.servers f.0 y.id) j) is k.owned)) file.mirrors in
      let told = all_more (λ y. f.0 ≡ f.0 → OwnedFrom m.servers y.id new.0) (λ (y : Mirror). new.0 ≤ (content_of journal y.id).owner) g.0.layout.live (λ y k. owner_told y.id new.0 (k refl)) owned in
      subst (λ (x : Option (List MirrorId)). OwnedFromAll journal new.0 x) (sym file.live) (by_phase g.0.layout.phase new.0 (ids_of g.0.layout.live) (ids_all (λ k. new.0 ≤ (content_of journal k).owner) g.0.layout.live told))

  pub tells : (n : ℕ) (s : ServerState) → numbered_at m.servers n ≡ Some s → (s.number ≡ n) × IsTold s journal
  tells n s there = ((h.servers n s there).number, (h.servers n s there).told)
