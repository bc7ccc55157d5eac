-- How calls name objects (RFC 1813, section 2.5). A definition says its limit as a number again, so that an edit of the code's
-- constant is refused.
use Rattle.nfs3_wire.specs.declared.objects.TheConstants.{MAX_DATA, MAX_HANDLE, MAX_NAME}
use Rattle.ff_xdr.specs.Form.{Form, Opaque}

-- a handle, of at most 64 bytes
abbrev pub nfs_fh3 : Form
nfs_fh3 = Opaque MAX_HANDLE

-- a name, which has no maximum but that of a length's word
abbrev pub filename3 : Form
filename3 = Opaque MAX_NAME

-- the data of a READ or a WRITE (sections 3.3.6 and 3.3.7); the maximum is the project's own
abbrev pub io_data : Form
io_data = Opaque MAX_DATA
