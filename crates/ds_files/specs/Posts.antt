-- What a step of a data server does to what is put out.
use Rattle.std.specs.Prelude.{◌≡◌, List, [], ◌++◌}
use Rattle.cluster_model.specs.declared.entry.Entry.{Entry}
use Rattle.cluster_model.specs.declared.ids.NodeId.{NodeId}
use Rattle.cluster_model.specs.declared.outbox.Outbox.{Outbox}
use Rattle.cluster_model.specs.Server.{ServerState}
use Rattle.ds_files.specs.declared.logging.Logging.{Logging}
use Rattle.ds_files.specs.declared.logging.Logging.TheVariants.{On, Off}
use Rattle.ds_files.specs.Receive.{Outcome}
use Rattle.ds_files.specs.Records.{sent_to}

-- the entries of a step that are made of it
abbrev pub entries_made : Logging → List Entry → List Entry
entries_made On entries = entries
entries_made Off entries = []

-- an outcome with those alone
abbrev pub outcome_made : Logging → Outcome → Outcome
outcome_made journal o = record { server = o.server; entries = entries_made journal o.entries; reply = o.reply }

-- the server and what was put out are as the outcome says: its entries, and its reply to the node
pub record Acts (outcome : Outcome) (node : NodeId) (server : ServerState) (old new : Outbox) : Type 0 where
  pub state : server ≡ outcome.server
  pub entries : new.entries.items ≡ old.entries.items ++ outcome.entries
  pub sends : new.sends.items ≡ old.sends.items ++ sent_to node outcome.reply

-- nothing was put out
pub record IsAsBefore (old new : Outbox) : Type 0 where
  pub entries : new.entries.items ≡ old.entries.items
  pub sends : new.sends.items ≡ old.sends.items
