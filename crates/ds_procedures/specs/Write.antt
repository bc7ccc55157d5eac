-- WRITE: bytes put into a file (RFC 1813, section 3.3.7).
use Rattle.std.specs.Prelude.{ℕ, ◌+◌, Bool, true, false, List, length, Option, Some, None, ◌==◌}
use Rattle.nfs3_wire.specs.declared.stable_how.StableHow.{StableHow}
use Rattle.nfs3_wire.specs.declared.stable_how.StableHow.TheVariants.{Unstable, DataSync, FileSync}
use Rattle.nfs3_wire.specs.declared.status.Stat3.TheVariants as stat
use Rattle.nfs3_wire.specs.Replies.{WriteDone, WriteRefused}
use Rattle.cluster_model.specs.File.{StoredFile, FileOp, Writes, file_after}
use Rattle.cluster_model.specs.Server.{ServerState, Caller, Refusal, OnFile, write_refusal}
use Rattle.ds_procedures.specs.Objects.{Object, Missing, Root, File, attributes_of, file_attributes, wcc_between, wcc_same, stat_of}
use Rattle.ds_procedures.specs.Plans.{Plan, reply_alone}

abbrev pub is_synced : StableHow → Bool
is_synced Unstable = false
is_synced DataSync = true
is_synced FileSync = true

abbrev pub stability_of : Bool → StableHow
stability_of false = Unstable
stability_of true = FileSync

abbrev pub write_done : ServerState → ℕ → StoredFile → FileOp → ℕ → Bool → Plan
write_done s index f op count synced = record {
  reply = WriteDone (wcc_between (file_attributes (index + 2) f) (file_attributes (index + 2) (file_after f s.clock op))) count (stability_of synced) s.clock.boot;
  effect = OnFile index op;
}

abbrev pub write_unless : ServerState → ℕ → StoredFile → ℕ → StableHow → List ℕ → Option Refusal → Plan
write_unless s index f offset stability bytes (Some refusal) = reply_alone (WriteRefused (stat_of refusal) (wcc_same (attributes_of s (File index f))))
write_unless s index f offset stability bytes None = write_done s index f (Writes offset (is_synced stability) bytes) (length bytes) (is_synced stability)

-- the count that is named is that of the bytes
abbrev pub write_plan : ServerState → Object → ℕ → ℕ → StableHow → List ℕ → Caller → Plan
write_plan s (Missing status) offset count stability bytes caller = reply_alone (WriteRefused status (wcc_same None))
write_plan s Root offset count stability bytes caller = reply_alone (WriteRefused stat.Inval (wcc_same (attributes_of s Root)))
write_plan s (File index f) offset count stability bytes caller = write_unless s index f offset stability bytes (write_refusal s index f caller (count == length bytes) offset bytes)
