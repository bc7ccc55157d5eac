-- A write of the metadata server itself, to all live mirrors of a file (RFC 8881, section 18.32; RFC 1813, sections 3.3.7 and 3.3.21): a
-- writer of one write that wants to commit. Here no status says that a layout is no more: each is an error.
use Rattle.std.specs.Prelude.{ℕ, Bool, List, Option, Some, None, if◌then◌else◌}
use Rattle.cluster_model.specs.declared.ids.Mirror.{Mirror}
use Rattle.cluster_model.specs.declared.phase.LeftCause.TheVariants.{Error}
use Rattle.cluster_model.specs.DsCalls.{DsReplyValue, Created, Set, Written, Committed, Bytes, NotSync, Failed}
use Rattle.cluster_model.specs.Fences.{odd_status}
use Rattle.mirror_writer.specs.declared.step.WriterStep.{WriterStep}
use Rattle.mirror_writer.specs.declared.step.WriterStep.TheVariants as step
use Rattle.mirror_writer.specs.Writers.{WriterValue, WriterAfter, new_writer, with_write, commit_wanted, open_committed, after_reply, reported_places}

abbrev pub own_write : List Mirror → ℕ → ℕ → List ℕ → WriterValue
own_write live cred at bytes = commit_wanted (with_write (new_writer live cred) at bytes)

-- a mirror that failed by an error failed by this status
abbrev pub step_by : ℕ → WriterStep → WriterStep
step_by status (step.Failed id cause) = step.Failed id (Error status)
step_by status step.Stranger = step.Stranger
step_by status step.Waiting = step.Waiting
step_by status (step.Fenced id s) = step.Fenced id s
step_by status step.Committed = step.Committed

abbrev pub told_by : ℕ → WriterAfter → WriterAfter
told_by status a = record { writer = a.writer; step = step_by status a.step }

-- the writer is handed an error that says nothing of layouts, and the caller is told the status
abbrev pub after_own_reply : WriterValue → ℕ → DsReplyValue → WriterAfter
after_own_reply w xid (Failed status shown) = told_by status (after_reply w xid (Failed odd_status shown))
after_own_reply w xid (Created fileid shown) = after_reply w xid (Created fileid shown)
after_own_reply w xid (Set shown) = after_reply w xid (Set shown)
after_own_reply w xid (Written shown verifier) = after_reply w xid (Written shown verifier)
after_own_reply w xid (Committed shown verifier) = after_reply w xid (Committed shown verifier)
after_own_reply w xid (Bytes shown eof bytes) = after_reply w xid (Bytes shown eof bytes)
after_own_reply w xid (NotSync shown) = after_reply w xid (NotSync shown)

-- the mirrors that failed, once each is committed or has failed
abbrev pub ended : WriterValue → Option (List Bool)
ended w = if open_committed w.mirrors then Some (reported_places w) else None
