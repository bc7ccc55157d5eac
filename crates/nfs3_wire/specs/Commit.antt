-- COMMIT: what was written to a file is made stable (RFC 1813, section 3.3.21).
use Rattle.ff_xdr.specs.Form.{Form, Number32, Number64, Pair, Arm, Value}
use Rattle.nfs3_wire.specs.declared.commit.CommitArgs.{CommitArgs}
use Rattle.nfs3_wire.specs.declared.commit.CommitOk.{CommitOk}
use Rattle.nfs3_wire.specs.Objects.{nfs_fh3}
use Rattle.nfs3_wire.specs.Status.{refusal}
use Rattle.nfs3_wire.specs.Wcc.{wcc_data, wcc_data_value}

-- COMMIT3args: file, offset, count
abbrev pub commit_args : Form
commit_args = Pair nfs_fh3 (Pair Number64 Number32)

abbrev pub commit_args_value : CommitArgs → Value commit_args
commit_args_value a = (a.file.now, (a.offset, a.count))

-- COMMIT3resok: attributes before and after, the eight bytes of a writeverf3 as one number
abbrev pub commit_ok : Form
commit_ok = Pair wcc_data Number64

abbrev pub commit_ok_value : CommitOk → Value commit_ok
commit_ok_value r = (wcc_data_value r.wcc, r.verifier)

-- COMMIT3resfail: attributes before and after
abbrev pub commit_result : Form
commit_result = Arm 0 commit_ok (Pair refusal wcc_data)
