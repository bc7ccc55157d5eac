-- Which mirrors of a file the errors of a LAYOUTRETURN report (RFC 8435, section 9.1): those on whose device an error was met,
-- whatever it was.
use Rattle.std.specs.Prelude.{ℕ, Bool, false, List, [], ◌∷◌, bytes_eq, Option, Some, None, slice_get}
use Rattle.std.specs.List.{list_any}
use Rattle.ff_xdr.specs.Form.{Value}
use Rattle.nfs4_types.specs.Ids.{device_id_of}
use Rattle.ff_layout.specs.DeviceError.{device_error4}
use Rattle.ff_layout.specs.IoError.{ff_ioerr4}
use Rattle.cluster_model.specs.declared.ids.Mirror.{Mirror}

-- an error of this device
abbrev pub is_of_device : List ℕ → Value device_error4 → Bool
is_of_device device (failed, (status, opnum)) = bytes_eq failed device

-- the errors that were met at a part of the file name the device
abbrev pub names_device : List ℕ → Value ff_ioerr4 → Bool
names_device device (offset, (length, (stateid, errors))) = list_any (is_of_device device) errors

-- a data server's device is named
abbrev pub is_reported : List (Value ff_ioerr4) → ℕ → Bool
is_reported errors server = list_any (names_device (device_id_of server).0) errors

abbrev pub reported_mirror : List (Value ff_ioerr4) → Option Mirror → Bool
reported_mirror errors None = false
reported_mirror errors (Some m) = is_reported errors m.id.server

abbrev pub reported_at : List (Value ff_ioerr4) → List Mirror → ℕ → Bool
reported_at errors live place = reported_mirror errors (slice_get live place)

-- for each place in the live list; false past its end
abbrev pub report_of : List (Value ff_ioerr4) → List Mirror → List Bool
report_of errors live = reported_at errors live 0 ∷ reported_at errors live 1 ∷ reported_at errors live 2 ∷ reported_at errors live 3 ∷ []
