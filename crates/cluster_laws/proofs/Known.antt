-- What a step of a file may use of the rest of the machine.
use Rattle.std.proofs.Common.{ℕ, ◌<◌, List}
use Rattle.std.specs.List.{AllByRecursion}
use Rattle.cluster_model.specs.declared.ids.MirrorId.{MirrorId}
use Rattle.cluster_model.specs.declared.entry.Entry.{Entry}
use Rattle.file_rule.specs.declared.fresh.Fresh.{Fresh}
use Rattle.cluster_laws.proofs.Facts.{AllFollow, Bears, OwnedFrom}
use Rattle.cluster_laws.proofs.Invariant.{Net, IsEntry}
use Rattle.cluster_laws.proofs.FenceDone.{IsExact}

pub record Known (net : Net) (next_uid files : ℕ) (journal : List Entry) : Type 0 where
  pub same : AllFollow net.servers net.servers
  pub tops : (g : ℕ) → net.drawn.top g < next_uid
  pub entries : AllByRecursion (IsEntry files next_uid) journal
  pub exact : IsExact net journal
  -- a data file belongs to the uid that its name was drawn with, or a later one
  pub lowest : (id : MirrorId) (name : ℕ) → Bears net.servers id name → name < net.next_name → OwnedFrom net.servers id (net.drawn.low name)

-- what is drawn next
abbrev pub fresh_from : Net → ℕ → ℕ → Fresh
fresh_from net next_uid servers = record { uid = next_uid; name = net.next_name; servers = servers }
