-- What a metadata server enters, as a type.
use Rattle.std.proofs.Common.{◌≡◌, true, refl}
use Rattle.cluster_model.specs.declared.entry.Entry.{Entry}
use Rattle.cluster_model.specs.declared.entry.Entry.TheVariants as entry
use Rattle.node_histories.specs.NodeHistories.{is_mds_entry}

abbrev pub IsMdsEntry : Entry → Type 0
IsMdsEntry (entry.TimedOut node xid) = Unit {0}
IsMdsEntry (entry.Granted file cred holder) = Unit {0}
IsMdsEntry (entry.Sent file cred at bytes) = Unit {0}
IsMdsEntry (entry.Told file cred at bytes) = Unit {0}
IsMdsEntry (entry.Ended file cred cause) = Unit {0}
IsMdsEntry (entry.Left file mirror cause) = Unit {0}
IsMdsEntry (entry.Swapped file old new) = Unit {0}
IsMdsEntry (entry.Fenced file old new live) = Unit {0}
IsMdsEntry (entry.Free file live) = Unit {0}
IsMdsEntry (entry.ReadAnswer file status bytes) = Unit {0}
IsMdsEntry (entry.Failed mirror xid) = Unit {0}
IsMdsEntry (entry.Later file phase) = Unit {0}
IsMdsEntry e = ⊥

pub of_mds : (e : Entry) → IsMdsEntry e → is_mds_entry e ≡ true
of_mds (entry.TimedOut node xid) its = refl
of_mds (entry.Granted file cred holder) its = refl
of_mds (entry.Sent file cred at bytes) its = refl
of_mds (entry.Told file cred at bytes) its = refl
of_mds (entry.Ended file cred cause) its = refl
of_mds (entry.Left file mirror cause) its = refl
of_mds (entry.Swapped file old new) its = refl
of_mds (entry.Fenced file old new live) its = refl
of_mds (entry.Free file live) its = refl
of_mds (entry.ReadAnswer file status bytes) its = refl
of_mds (entry.Failed mirror xid) its = refl
of_mds (entry.Later file phase) its = refl
of_mds e its = absurd its
