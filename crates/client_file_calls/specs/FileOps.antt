-- The operations of a client's calls on files and layouts, behind a SEQUENCE (RFC 8881, section 18). What has no other value is zero,
-- false, absent or empty.
use Rattle.std.specs.Prelude.{ℕ, ◌^◌, ◌-◌, false, List, [], ◌∷◌, map}
use Rattle.std.proofs.Common.{inl}
use Rattle.client_file_calls.specs.declared.layout_return.TheConstants.{WRITE}
use Rattle.client_file_calls.specs.declared.open.TheConstants.{SHARE_BOTH}
use Rattle.client_file_calls.specs.declared.layouts.TheConstants.{FLEX_FILES, MAX_COUNT, READS_AND_WRITES}
use Rattle.ff_xdr.specs.Form.{Value, spelling}
use Rattle.ff_xdr.specs.Arms.{arm}
use Rattle.nfs4_types.specs.declared.stateid.Stateid.{Stateid}
use Rattle.nfs4_types.specs.Handles.{file_handle_of}
use Rattle.nfs4_types.specs.Ids.{device_id_of}
use Rattle.nfs4_types.specs.Stateids.{stateid4_value}
use Rattle.nfs4_file_ops.specs.LayoutReturn.{layoutreturn4}
use Rattle.nfs4_file_ops.specs.OpenHow.{createhow4, openflag4}
use Rattle.nfs4_compound.specs.Args.{argop4}
use Rattle.ff_layout.specs.IoError.{ff_ioerr4}
use Rattle.ff_layout.specs.ReturnBody.{ff_layoutreturn4}
use Rattle.cluster_model.specs.declared.ids.FileId.{FileId}
use Rattle.client_file_calls.specs.declared.open.OpenFile.{OpenFile}
use Rattle.client_file_calls.specs.declared.layout_return.FailedMirror.{FailedMirror}

-- the whole of a file, from offset 0 on (RFC 8881, section 18.43.3)
abbrev pub whole_length : ℕ
whole_length = 2 ^ 64 - 1

-- LAYOUT4_FLEX_FILES (RFC 8435, section 4), and LAYOUTIOMODE4_RW (RFC 8881, section 3.3.20)
abbrev pub flex_files : ℕ
flex_files = FLEX_FILES

abbrev pub reads_and_writes : ℕ
reads_and_writes = READS_AND_WRITES

-- ---- operations by themselves

-- (section 18.19): the handle of a file
abbrev pub put_fh_op : FileId → Value argop4
put_fh_op file = arm 22 argop4 (file_handle_of file.0)

-- (section 18.16): for reading and writing, UNCHECKED with no attributes, by its name
abbrev pub open_op : List ℕ → List ℕ → Value argop4
open_op owner name = arm 18 argop4 (0, (SHARE_BOTH, (0, (0, (owner, (arm 1 openflag4 (arm 0 createhow4 ([], [])), inl name))))))

-- (section 18.43): all of the file, in at most 4,096 bytes
abbrev pub layout_get_op : Stateid → Value argop4
layout_get_op stateid = arm 50 argop4 (false, (flex_files, (reads_and_writes, (0, (whole_length, (0, (stateid4_value stateid, MAX_COUNT)))))))

-- (section 18.40): the address of a data server, in at most 4,096 bytes
abbrev pub device_info_op : ℕ → Value argop4
device_info_op server = arm 47 argop4 ((device_id_of server).0, (flex_files, (MAX_COUNT, [])))

-- (section 18.32): FILE_SYNC 2
abbrev pub write_op : Stateid → ℕ → List ℕ → Value argop4
write_op stateid at bytes = arm 38 argop4 (stateid4_value stateid, (at, (2, bytes)))

-- (section 18.22)
abbrev pub read_op : Stateid → ℕ → ℕ → Value argop4
read_op stateid at count = arm 25 argop4 (stateid4_value stateid, (at, count))

-- What is reported of a mirror that failed (RFC 8435, section 9.1.1): for the whole file, under the layout's stateid, its device, the
-- status, and the operation WRITE.
abbrev pub io_error_of : Stateid → FailedMirror → Value ff_ioerr4
io_error_of stateid m = (0, (whole_length, (stateid4_value stateid, ((device_id_of m.server).0, (m.status, WRITE)) ∷ [])))

-- the report's body (RFC 8435, section 9.3); there are no statistics
abbrev pub return_body : Stateid → List FailedMirror → List ℕ
return_body stateid failed = spelling ff_layoutreturn4 (map (io_error_of stateid) failed, [])

-- (section 18.44): LAYOUTRETURN4_FILE 1, all of the file, with a report's body
abbrev pub layout_return_of : Stateid → List ℕ → Value argop4
layout_return_of stateid body = arm 51 argop4 (false, (flex_files, (reads_and_writes, arm 1 layoutreturn4 (0, (whole_length, (stateid4_value stateid, body))))))

abbrev pub layout_return_op : Stateid → List FailedMirror → Value argop4
layout_return_op stateid failed = layout_return_of stateid (return_body stateid failed)

-- ---- the operations of each call

-- in the root; then the file's handle (sections 18.8 and 18.21)
abbrev pub open_ops : List ℕ → List ℕ → List (Value argop4)
open_ops owner name = arm 24 argop4 tt ∷ open_op owner name ∷ arm 10 argop4 tt ∷ []

abbrev pub layout_get_ops : OpenFile → List (Value argop4)
layout_get_ops file = put_fh_op file.file ∷ layout_get_op file.stateid ∷ []

abbrev pub device_info_ops : List ℕ → List (Value argop4)
device_info_ops servers = map device_info_op servers

abbrev pub write_ops : OpenFile → ℕ → List ℕ → List (Value argop4)
write_ops file at bytes = put_fh_op file.file ∷ write_op file.stateid at bytes ∷ []

abbrev pub read_ops : OpenFile → ℕ → ℕ → List (Value argop4)
read_ops file at count = put_fh_op file.file ∷ read_op file.stateid at count ∷ []

abbrev pub layout_return_ops : FileId → Stateid → List FailedMirror → List (Value argop4)
layout_return_ops file stateid failed = put_fh_op file ∷ layout_return_op stateid failed ∷ []
