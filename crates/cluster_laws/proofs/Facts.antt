-- What stays true of data servers for ever: names, ticks that were given, owners that do not fall, guards that are shut out.
use Rattle.std.proofs.Common.{◌≡◌, ℕ, ◌+◌, ◌≤◌, List, Some, arith, inl, inr}
use Rattle.std.specs.Prelude.{slice_get}
use Rattle.cluster_model.specs.declared.tick.Tick.{Tick}
use Rattle.cluster_model.specs.declared.ids.MirrorId.{MirrorId}
use Rattle.cluster_model.specs.Ticks.{IsUpTo}
use Rattle.cluster_model.specs.File.{StoredFile}
use Rattle.cluster_model.specs.Server.{ServerState, max_ticks}
use Rattle.cluster_model.specs.DsCalls.{mirror_name}
use Rattle.cluster_model.specs.GuardLaws.{WasAsked, Follows}
use Rattle.cluster_laws.specs.Machine.{numbered_at}

pub up_to_up_to : (a b c : Tick) → IsUpTo a b → IsUpTo b c → IsUpTo a c
up_to_up_to a b c (inl h) (inl k) = inl (omega (arith, h, k))
up_to_up_to a b c (inl h) (inr k) = inl (omega (arith, h, k.0))
up_to_up_to a b c (inr h) (inl k) = inl (omega (arith, h.0, k))
up_to_up_to a b c (inr h) (inr k) = inr (omega (arith, h.0, k.0), omega (arith, h.1, k.1))

-- each server later on
abbrev pub AllFollow : List ServerState → List ServerState → Type 0
AllFollow old new = (n : ℕ) (s : ServerState) → numbered_at old n ≡ Some s → (t : ServerState) × (numbered_at new n ≡ Some t) × Follows s t

-- a server's file has the name of this number
pub record Bears (servers : List ServerState) (id : MirrorId) (name : ℕ) : Type 0 where
  pub server : ServerState
  pub there : numbered_at servers id.server ≡ Some server
  pub index : ℕ
  pub place : id.fileid ≡ index + 2
  pub named : slice_get server.names index ≡ Some (mirror_name name)

-- a mirror belongs to this uid or a later one
pub record OwnedFrom (servers : List ServerState) (id : MirrorId) (uid : ℕ) : Type 0 where
  pub server : ServerState
  pub there : numbered_at servers id.server ≡ Some server
  pub index : ℕ
  pub place : id.fileid ≡ index + 2
  pub file : StoredFile
  pub is : slice_get server.files index ≡ Some file
  pub up : uid ≤ file.owner

-- a server has given a tick, which is one of those that a boot has
pub record HasGiven (servers : List ServerState) (n : ℕ) (tick : Tick) : Type 0 where
  pub server : ServerState
  pub there : numbered_at servers n ≡ Some server
  pub seen : IsUpTo tick server.clock
  pub few : tick.count ≤ max_ticks

-- a file of a server was asked to be given away
pub record AskedAt (servers : List ServerState) (n fileid uid : ℕ) (guard : Tick) : Type 0 where
  pub server : ServerState
  pub there : numbered_at servers n ≡ Some server
  pub asked : WasAsked server fileid uid guard

-- ---- for ever

pub bears_on : (old new : List ServerState) → AllFollow old new → (id : MirrorId) (name : ℕ) → Bears old id name → Bears new id name
bears_on old new f id name b =
    let t = f id.server b.server b.there in
    record { server = t.0; there = t.1; index = b.index; place = b.place; named = t.2.names b.index (mirror_name name) b.named }

pub owned_on : (old new : List ServerState) → AllFollow old new → (id : MirrorId) (uid : ℕ) → OwnedFrom old id uid → OwnedFrom new id uid
owned_on old new f id uid o =
    let t = f id.server o.server o.there in
    let later = t.2.owners o.index o.file o.is in
    let up = o.up in
    let rises = later.2 in
    record { server = t.0; there = t.1; index = o.index; place = o.place; file = later.0; is = later.1; up = omega (arith, up, rises) }

pub given_on : (old new : List ServerState) → AllFollow old new → (n : ℕ) (tick : Tick) → HasGiven old n tick → HasGiven new n tick
given_on old new f n tick g =
    let t = f n g.server g.there in
    record { server = t.0; there = t.1; seen = up_to_up_to tick g.server.clock t.0.clock g.seen t.2.clock; few = g.few }

pub asked_on : (old new : List ServerState) → AllFollow old new → (n fileid uid : ℕ) (guard : Tick) → AskedAt old n fileid uid guard → AskedAt new n fileid uid guard
asked_on old new f n fileid uid guard a =
    let t = f n a.server a.there in
    record { server = t.0; there = t.1; asked = t.2.asked fileid uid guard a.asked }

-- an earlier uid
pub owned_less : (servers : List ServerState) (id : MirrorId) (uid less : ℕ) → less ≤ uid → OwnedFrom servers id uid → OwnedFrom servers id less
owned_less servers id uid less le o =
    let up = o.up in
    record { server = o.server; there = o.there; index = o.index; place = o.place; file = o.file; is = o.is; up = omega (arith, le, up) }
