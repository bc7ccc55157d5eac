-- COMMIT: written data are made stable (RFC 8881, section 18.3).
use Rattle.ff_xdr.specs.Form.{Form, Number32, Number64, Pair, Value}
use Rattle.nfs4_file_ops.specs.declared.commit.Commit4Args.{Commit4Args}

-- COMMIT4args: offset, count
abbrev pub commit4_args : Form
commit4_args = Pair Number64 Number32

abbrev pub commit4_args_value : Commit4Args → Value commit4_args
commit4_args_value a = (a.offset, a.count)
