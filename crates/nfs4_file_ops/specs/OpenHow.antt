-- Whether an OPEN creates its file (RFC 8881, section 18.16).
use Rattle.ff_xdr.specs.Form.{Form, Arm, NoArm, Void, Value}
use Rattle.ff_xdr.specs.Arms.{arm}
use Rattle.nfs4_file_ops.specs.declared.open_how.CreateHow4.{CreateHow4}
use Rattle.nfs4_file_ops.specs.declared.open_how.CreateHow4.TheVariants.{Unchecked, Guarded}
use Rattle.nfs4_file_ops.specs.declared.open_how.OpenHow.{OpenHow}
use Rattle.nfs4_file_ops.specs.declared.open_how.OpenHow.TheVariants.{NoCreate, Create}
use Rattle.nfs4_file_ops.specs.Fattr4.{fattr4, fattr4_value}

-- createhow4: UNCHECKED4 0 and GUARDED4 1 with attributes
abbrev pub createhow4 : Form
createhow4 = Arm 0 fattr4 (Arm 1 fattr4 NoArm)

abbrev pub createhow4_value : CreateHow4 → Value createhow4
createhow4_value (Unchecked a) = arm 0 createhow4 (fattr4_value a)
createhow4_value (Guarded a) = arm 1 createhow4 (fattr4_value a)

-- openflag4: OPEN4_NOCREATE 0 with nothing, OPEN4_CREATE 1 with how
abbrev pub openflag4 : Form
openflag4 = Arm 0 Void (Arm 1 createhow4 NoArm)

abbrev pub openflag4_value : OpenHow → Value openflag4
openflag4_value NoCreate = arm 0 openflag4 tt
openflag4_value (Create how) = arm 1 openflag4 (createhow4_value how)
