-- What a step of a file may use, from what holds.
use Rattle.std.proofs.Common.{◌≡◌, ℕ, ◌+◌, ◌<◌, ◌≤◌, List, length, Some, refl, sym, ap, subst, ◌∙◌, arith, inr}
use Rattle.std.specs.Prelude.{slice_get}
use Rattle.std.proofs.lemmas.Option.{slice_get_within}
use Rattle.cluster_model.specs.declared.ids.MirrorId.{MirrorId}
use Rattle.cluster_model.specs.declared.entry.Entry.{Entry}
use Rattle.cluster_model.specs.Journal.{Copy, content_of}
use Rattle.cluster_model.specs.Server.{ServerState, mirror_of}
use Rattle.cluster_model.specs.DsCalls.{mirror_name}
use Rattle.cluster_model.specs.GuardLaws.{IsInOrder, Follows}
use Rattle.cluster_laws.specs.Machine.{Machine}
use Rattle.cluster_laws.proofs.Facts.{AllFollow, Bears, OwnedFrom}
use Rattle.cluster_laws.proofs.Lists.{same_numbered, at_place}
use Rattle.cluster_laws.proofs.Invariant.{Drawn, net_of, Holds}
use Rattle.cluster_laws.proofs.FenceDone.{exact_by}
use Rattle.cluster_laws.proofs.Known.{Known}

-- a server that stays as it is
pub stands : (t : ServerState) → IsInOrder t → Follows t t
stands t o = record {
  number = refl;
  clock = inr (refl, omega arith);
  in_order = o;
  names = λ i name is. is;
  owners = λ i f is. (f, is, omega arith);
  asked = λ fileid owner guard a. a;
}

pub id_by : (id : MirrorId) (server fileid : ℕ) → id.server ≡ server → id.fileid ≡ fileid → id ≡ record { server = server; fileid = fileid }
id_by id server fileid p q = subst (λ (x : ℕ). id ≡ record { server = x; fileid = fileid }) p (subst (λ (y : ℕ). id ≡ record { server = id.server; fileid = y }) q refl)

same_index : (a b c : ℕ) → c ≡ a + 2 → c ≡ b + 2 → a ≡ b
same_index a b c e f = omega (arith, e, f)

exactly : (owner top uid : ℕ) → owner ≤ top → top ≤ uid → uid ≤ owner → owner ≡ uid
exactly owner top uid a b c = omega (arith, a, b, c)

module _ (m : Machine) (journal : List Entry) (d : Drawn) (h : Holds m journal d) where
  pub all_stand : AllFollow m.servers m.servers
  all_stand k t is = (t, is, stands t (h.servers k t is).in_order)

  module _ (id : MirrorId) (name uid : ℕ) (bears : Bears m.servers id name) (less : name < m.next_name) (owned : OwnedFrom m.servers id uid) where
    -- the file that both speak of
    the_file : slice_get bears.server.files bears.index ≡ Some owned.file
    the_file =
        let server : owned.server ≡ bears.server = same_numbered m.servers id.server owned.server bears.server owned.there bears.there in
        let place : owned.index ≡ bears.index = same_index owned.index bears.index id.fileid owned.place bears.place in
        sym (ap (λ (t : ServerState). slice_get t.files owned.index) server ∙ ap (slice_get bears.server.files) place) ∙ owned.is

    most : owned.file.owner ≤ d.top (d.home name)
    most = ((h.servers id.server bears.server bears.there).owners bears.index owned.file name the_file bears.named less).1

  exact_now : (id : MirrorId) (name uid : ℕ) → Bears m.servers id name → name < m.next_name → OwnedFrom m.servers id uid → d.top (d.home name) ≤ uid → (content_of journal id).owner ≡ uid
  exact_now id name uid bears less owned least =
      let s : ServerState = bears.server in
      let o = h.servers id.server s bears.there in
      let is : id ≡ mirror_of s bears.index = id_by id s.number (bears.index + 2) (sym o.number) bears.place in
      ap (λ (i : MirrorId). (content_of journal i).owner) is ∙ sym (ap (λ (c : Copy). c.owner) (o.told.each bears.index owned.file (the_file id name uid bears less owned)))
      ∙ exactly owned.file.owner (d.top (d.home name)) uid (most id name uid bears less owned) least owned.up

  lowest_now : (id : MirrorId) (name : ℕ) → Bears m.servers id name → name < m.next_name → OwnedFrom m.servers id (d.low name)
  lowest_now id name bears less =
      let s : ServerState = bears.server in
      let o = h.servers id.server s bears.there in
      let within = slice_get_within s.names bears.index (mirror_name name) bears.named in
      let size = o.in_order.names in
      let file = at_place s.files bears.index (omega (arith, within, size)) in
      let bound = o.owners bears.index file.0 name file.1 bears.named less in
      record { server = s; there = bears.there; index = bears.index; place = bears.place; file = file.0; is = file.1; up = bound.0 }

  pub known_now : Known (net_of m d) m.next_uid (length m.files) journal
  known_now = record { same = all_stand; tops = h.tops; entries = h.entries; exact = exact_by (net_of m d) journal exact_now; lowest = lowest_now }
