-- What a crash leaves of a data server's disks, while it serves.
use Rattle.std.proofs.Common.{Option, inl, inr}
use Rattle.cluster_model.specs.Server.{ServerState}
use Rattle.store_disk.specs.Disks.{DiskLife}
use Rattle.ds_store.specs.Kept.{KeptState, SaysEither, SaysServer}
use Rattle.ds_store.proofs.Waiting.{settled_now}
use Rattle.ds_store.proofs.BothDisks.{both_new, now_weaker}
use Rattle.ds_node.specs.DsNodes.{KeepsSettled, server_leaves}

-- while records wait, a crash leaves the settled server
pub stood : (settled broken : ServerState) (k : KeptState) (disk spare : Option DiskLife) → KeepsSettled settled k disk spare → server_leaves settled broken disk spare
stood settled broken k disk spare (began, began_spare, waits) =
    now_weaker (SaysServer settled) (SaysEither settled broken) (λ left left_spare says. inl says) disk spare
    (both_new (SaysServer settled) began began_spare disk spare (settled_now settled k.server k.log began began_spare disk spare waits))

-- it does not count which of two servers is named first
pub turned : (one other : ServerState) (disk spare : Option DiskLife) → server_leaves one other disk spare → server_leaves other one disk spare
turned one other disk spare leaves = now_weaker (SaysEither one other) (SaysEither other one) either disk spare leaves
  where
    either : (left left_spare : _) → SaysEither one other left left_spare → SaysEither other one left left_spare
    either left left_spare (inl says) = inr says
    either left left_spare (inr says) = inl says
