-- COMMIT: all of a file made stable, whatever range is named (RFC 1813, section 3.3.21). It takes no tick.
use Rattle.std.specs.Prelude.{ℕ, ◌+◌, Option, Some, None}
use Rattle.nfs3_wire.specs.declared.status.Stat3.TheVariants as stat
use Rattle.nfs3_wire.specs.Replies.{CommitDone, CommitRefused}
use Rattle.cluster_model.specs.File.{StoredFile, Commits, file_after}
use Rattle.cluster_model.specs.Server.{ServerState, Caller, Refusal, OnFile, commit_refusal}
use Rattle.ds_procedures.specs.Objects.{Object, Missing, Root, File, attributes_of, file_attributes, wcc_between, wcc_same, stat_of}
use Rattle.ds_procedures.specs.Plans.{Plan, reply_alone}

abbrev pub commit_unless : ServerState → ℕ → StoredFile → Option Refusal → Plan
commit_unless s index f (Some refusal) = reply_alone (CommitRefused (stat_of refusal) (wcc_same (attributes_of s (File index f))))
commit_unless s index f None = record {
  reply = CommitDone (wcc_between (file_attributes (index + 2) f) (file_attributes (index + 2) (file_after f s.clock Commits))) s.clock.boot;
  effect = OnFile index Commits;
}

abbrev pub commit_plan : ServerState → Object → Caller → Plan
commit_plan s (Missing status) caller = reply_alone (CommitRefused status (wcc_same None))
commit_plan s Root caller = reply_alone (CommitRefused stat.Inval (wcc_same (attributes_of s Root)))
commit_plan s (File index f) caller = commit_unless s index f (commit_refusal f caller)
