-- READDIR: the entries of a directory (RFC 8881, section 18.23).
use Rattle.ff_xdr.specs.Form.{Form, Number32, Number64, Fixed, Pair, Value}
use Rattle.nfs4_types.specs.Bitmaps.{bitmap4, bitmap4_value}
use Rattle.nfs4_unserved_ops.specs.declared.read_dir.ReadDirArgs.{ReadDirArgs}

-- READDIR4args: cookie, cookieverf, dircount, maxcount, attr_request
abbrev pub readdir4_args : Form
readdir4_args = Pair Number64 (Pair (Fixed 8) (Pair Number32 (Pair Number32 bitmap4)))

abbrev pub readdir4_args_value : ReadDirArgs → Value readdir4_args
readdir4_args_value a = (a.cookie, (a.verifier, (a.dircount, (a.maxcount, bitmap4_value a.attributes))))
