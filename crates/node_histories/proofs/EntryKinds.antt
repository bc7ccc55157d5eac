-- What nodes and the world enter is no packet; what an audit enters is the world's.
use Rattle.std.proofs.Common.{◌≡◌, true, List, [], ◌∷◌, Option, Some, None, refl}
use Rattle.std.specs.Prelude.{map}
use Rattle.std.specs.List.{AllByRecursion}
use Rattle.cluster_model.specs.declared.ids.FileId.{FileId}
use Rattle.cluster_model.specs.declared.ids.Mirror.{Mirror}
use Rattle.cluster_model.specs.declared.entry.Entry.{Entry}
use Rattle.cluster_model.specs.declared.entry.Entry.TheVariants as entry
use Rattle.mds_rule.specs.MdsStates.{ServedFile}
use Rattle.world_rule.specs.Machines.{MachinesValue, audit_of, audits_of}
use Rattle.node_histories.specs.NodeHistories.{is_client_entry, is_mds_entry, is_server_entry, is_world_entry}
use Rattle.node_histories.proofs.MdsKinds.{IsMdsEntry, of_mds}
use Rattle.node_histories.proofs.ServerEntries.{AreServerEntries}
use Rattle.node_histories.proofs.Numbering.{IsNoPacket}

client_none : (e : Entry) → is_client_entry e ≡ true → IsNoPacket e
client_none (entry.Packet number from to bytes) is = absurd cc
client_none e is = tt

pub clients_none : (entries : List Entry) → AllByRecursion (λ e. is_client_entry e ≡ true) entries → AllByRecursion IsNoPacket entries
clients_none [] all = tt
clients_none (e ∷ entries) all = (client_none e all.0, clients_none entries all.1)

mds_none : (e : Entry) → IsMdsEntry e → IsNoPacket e
mds_none (entry.Packet number from to bytes) is = absurd is
mds_none e is = tt

pub all_mds_none : (entries : List Entry) → AllByRecursion IsMdsEntry entries → AllByRecursion IsNoPacket entries
all_mds_none [] all = tt
all_mds_none (e ∷ entries) all = (mds_none e all.0, all_mds_none entries all.1)

pub all_mds : (entries : List Entry) → AllByRecursion IsMdsEntry entries → AllByRecursion (λ e. is_mds_entry e ≡ true) entries
all_mds [] all = tt
all_mds (e ∷ entries) all = (of_mds e all.0, all_mds entries all.1)

server_none : (e : Entry) → is_server_entry e ≡ true → IsNoPacket e
server_none (entry.Packet number from to bytes) is = absurd cc
server_none e is = tt

pub servers_none : (entries : List Entry) → AreServerEntries entries → AllByRecursion IsNoPacket entries
servers_none [] all = tt
servers_none (e ∷ entries) all = (server_none e all.0, servers_none entries all.1)

world_none : (e : Entry) → is_world_entry e ≡ true → IsNoPacket e
world_none (entry.Packet number from to bytes) is = absurd cc
world_none e is = tt

pub worlds_none : (entries : List Entry) → AllByRecursion (λ e. is_world_entry e ≡ true) entries → AllByRecursion IsNoPacket entries
worlds_none [] all = tt
worlds_none (e ∷ entries) all = (world_none e all.0, worlds_none entries all.1)

abbrev pub AreWorldEntries : List Entry → Type 0
AreWorldEntries entries = AllByRecursion (λ e. is_world_entry e ≡ true) entries

audited : (m : MachinesValue) (file : FileId) (mirrors : List Mirror) → AreWorldEntries (map (λ (mirror : Mirror). audit_of m file mirror.id) mirrors)
audited m file [] = tt
audited m file (mirror ∷ mirrors) = (refl, audited m file mirrors)

pub audits_are : (m : MachinesValue) (file : FileId) (o : Option ServedFile) → AreWorldEntries (audits_of m file o)
audits_are m file None = tt
audits_are m file (Some s) = audited m file s.file.layout.live
