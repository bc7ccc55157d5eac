-- What a writer tells of what is outstanding, of a write at every mirror, and of its mirrors together.
use Rattle.std.specs.Prelude.{ℕ, Bool, ◌==◌, Option, Some, None, slice_get}
use Rattle.std.specs.List.{list_all, find}
use Rattle.cluster_model.specs.declared.ids.MirrorId.{MirrorId}
use Rattle.cluster_model.specs.declared.ds_call.DsCall.{DsCall}
use Rattle.cluster_model.specs.DsCalls.{DsCallValue, Commit, plain_ds_call}
use Rattle.mirror_writer.specs.declared.call.WriterCall.{WriterCall}
use Rattle.mirror_writer.specs.declared.call.WriterCall.TheVariants.{NoCall, OutWrite, OutCommit}
use Rattle.mirror_writer.specs.Writers.{WriterValue, WriterMirror, covered_flag, write_of_taken}

-- ---- the call that is outstanding at a data server

-- its number, and the call
pub record OutCall : Type 0 where
  pub xid : ℕ
  pub call : DsCallValue

abbrev pub out_as : ℕ → Option DsCallValue → Option OutCall
out_as xid None = None
out_as xid (Some call) = Some (record { xid = xid; call = call })

abbrev pub out_call : WriterValue → MirrorId → WriterCall → Option OutCall
out_call w id NoCall = None
out_call w id (OutWrite xid n timeouts) = out_as xid (write_of_taken id (slice_get w.taken n))
out_call w id (OutCommit xid timeouts) = Some (record { xid = xid; call = Commit id.fileid })

abbrev pub out_at_mirror : WriterValue → Option WriterMirror → Option OutCall
out_at_mirror w None = None
out_at_mirror w (Some m) = out_call w m.id m.call

abbrev pub out_at : WriterValue → ℕ → Option OutCall
out_at w server = out_at_mirror w (find (λ (m : WriterMirror). m.id.server == server) w.mirrors)

-- the same as it is lent
abbrev pub out_shown : Option (ℕ × DsCall) → Option OutCall
out_shown None = None
out_shown (Some (xid, call)) = Some (record { xid = xid; call = plain_ds_call call })

-- ---- its mirrors together

-- each mirror of the layout has covered the write
abbrev pub is_covered_everywhere : WriterValue → ℕ → Bool
is_covered_everywhere w n = list_all (λ (m : WriterMirror). covered_flag (slice_get m.covered n)) w.mirrors

-- every mirror has failed
abbrev pub has_no_mirror : WriterValue → Bool
has_no_mirror w = list_all (λ (m : WriterMirror). m.has_failed) w.mirrors
