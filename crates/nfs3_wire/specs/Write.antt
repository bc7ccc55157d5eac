-- WRITE: bytes are written to a file (RFC 1813, section 3.3.7).
use Rattle.ff_xdr.specs.Form.{Form, Number32, Number64, Pair, Arm, Value}
use Rattle.nfs3_wire.specs.declared.write.WriteArgs.{WriteArgs}
use Rattle.nfs3_wire.specs.declared.write.WriteOk.{WriteOk}
use Rattle.nfs3_wire.specs.Objects.{nfs_fh3, io_data}
use Rattle.nfs3_wire.specs.Status.{refusal}
use Rattle.nfs3_wire.specs.Stability.{stable_how, stable_how_number}
use Rattle.nfs3_wire.specs.Wcc.{wcc_data, wcc_data_value}

-- WRITE3args: file, offset, count, stable, data
abbrev pub write_args : Form
write_args = Pair nfs_fh3 (Pair Number64 (Pair Number32 (Pair stable_how io_data)))

abbrev pub write_args_value : WriteArgs → Value write_args
write_args_value a = (a.file.now, (a.offset, (a.count, (stable_how_number a.stable, a.bytes.now))))

-- WRITE3resok: attributes before and after, count, committed, the eight bytes of a writeverf3 as one number
abbrev pub write_ok : Form
write_ok = Pair wcc_data (Pair Number32 (Pair stable_how Number64))

abbrev pub write_ok_value : WriteOk → Value write_ok
write_ok_value r = (wcc_data_value r.wcc, (r.count, (stable_how_number r.committed, r.verifier)))

-- WRITE3resfail: attributes before and after
abbrev pub write_result : Form
write_result = Arm 0 write_ok (Pair refusal wcc_data)
