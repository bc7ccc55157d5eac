-- CREATE: a file is created (RFC 1813, section 3.3.8).
use Rattle.std.specs.Option.{option_map}
use Rattle.ff_xdr.specs.Form.{Form, Number64, Optional, Pair, Arm, NoArm, Value}
use Rattle.ff_xdr.specs.Arms.{arm, by_arm}
use Rattle.nfs3_wire.specs.declared.create.CreateHow.{CreateHow}
use Rattle.nfs3_wire.specs.declared.create.CreateHow.TheVariants.{Unchecked, Guarded, Exclusive}
use Rattle.nfs3_wire.specs.declared.create.CreateArgs.{CreateArgs}
use Rattle.nfs3_wire.specs.declared.create.CreateOk.{CreateOk}
use Rattle.nfs3_wire.specs.Objects.{nfs_fh3, filename3}
use Rattle.nfs3_wire.specs.Status.{refusal}
use Rattle.nfs3_wire.specs.Sattr.{sattr3, sattr3_value, sattr3_of}
use Rattle.nfs3_wire.specs.Wcc.{post_op_attr, post_op_value, wcc_data, wcc_data_value}

-- createhow3: UNCHECKED and GUARDED with attributes, EXCLUSIVE with the eight bytes of a createverf3 as one number
abbrev pub createhow3 : Form
createhow3 = Arm 0 sattr3 (Arm 1 sattr3 (Arm 2 Number64 NoArm))

abbrev pub create_how_value : CreateHow → Value createhow3
create_how_value (Unchecked attributes) = arm 0 createhow3 (sattr3_value attributes)
create_how_value (Guarded attributes) = arm 1 createhow3 (sattr3_value attributes)
create_how_value (Exclusive verifier) = arm 2 createhow3 verifier

abbrev pub create_how_of : Value createhow3 → CreateHow
create_how_of = by_arm createhow3 (λ a. Unchecked (sattr3_of a), (λ a. Guarded (sattr3_of a), (λ verifier. Exclusive verifier, tt)))

-- CREATE3args: the directory, the name, how
abbrev pub create_args : Form
create_args = Pair nfs_fh3 (Pair filename3 createhow3)

abbrev pub create_args_value : CreateArgs → Value create_args
create_args_value a = (a.directory.now, (a.name.now, create_how_value a.how))

-- CREATE3resok: the object's handle (post_op_fh3) and its attributes, each where it is known, the directory's attributes before
-- and after
abbrev pub create_ok : Form
create_ok = Pair (Optional nfs_fh3) (Pair post_op_attr wcc_data)

abbrev pub create_ok_value : CreateOk → Value create_ok
create_ok_value r = (option_map (λ file. file.now) r.file, (post_op_value r.attributes, wcc_data_value r.wcc))

-- CREATE3resfail: the directory's attributes before and after
abbrev pub create_result : Form
create_result = Arm 0 create_ok (Pair refusal wcc_data)
