-- The bodies of layouts and of devices, and the results that bear them (RFC 8435, sections 4.1 and 5.1; RFC 8881, sections 18.40
-- and 18.43).
use Rattle.std.specs.Prelude.{ℕ, ◌-◌, ◌^◌, false, List, [], ◌∷◌, codes, decimal, length, map, replicate}
use Rattle.std.proofs.Common.{inl}
use Rattle.ff_xdr.specs.Form.{Value, spelling}
use Rattle.nfs4_types.specs.declared.stateid.Stateid.{Stateid}
use Rattle.nfs4_types.specs.Handles.{file_handle_of}
use Rattle.nfs4_types.specs.Ids.{device_id_of}
use Rattle.nfs4_types.specs.Stateids.{stateid4_value}
use Rattle.nfs4_file_ops.specs.GetDeviceInfo.{getdeviceinfo4_ok, getdeviceinfo4_res}
use Rattle.nfs4_file_ops.specs.Layout4.{layout4}
use Rattle.nfs4_file_ops.specs.LayoutGet.{layoutget4_res}
use Rattle.ff_layout.specs.DataServer.{ff_data_server4}
use Rattle.ff_layout.specs.Mirror.{ff_mirror4}
use Rattle.ff_layout.specs.Layout.{ff_layout4}
use Rattle.device_addr.specs.Device.{ff_device_addr4}
use Rattle.device_addr.specs.Universal.{AddressValue, address_text}
use Rattle.cluster_model.specs.declared.ids.Mirror.{Mirror}
use Rattle.mds_refusals.specs.declared.layout_get.TheConstants.{FLEX_FILES, IOMODE_RW}

-- ---- layouts (RFC 8435, section 5.1)

-- A mirror is on one data server, of efficiency 1; the stateid says nothing to NFSv3, the handle is the file's number there, and the
-- user and the group are the uid.
abbrev pub server_under : ℕ → Mirror → Value ff_data_server4
server_under uid m = ((device_id_of m.id.server).0, (1, ((0, replicate 12 0), (file_handle_of m.id.fileid ∷ [], (decimal uid, decimal uid)))))

abbrev pub mirror_under : ℕ → Mirror → Value ff_mirror4
mirror_under uid m = server_under uid m ∷ []

-- the body: the stripe unit is 65,536, the flags are 1 for no LAYOUTCOMMIT, and the hint is 0, as no statistics are to be reported
abbrev pub layout_under : ℕ → List Mirror → Value ff_layout4
layout_under uid mirrors = (65536, (map (mirror_under uid) mirrors, (1, 0)))

abbrev pub layout_body : ℕ → List Mirror → List ℕ
layout_body uid mirrors = spelling ff_layout4 (layout_under uid mirrors)

-- the layout of a whole file, for reading and writing (RFC 8881, section 3.3.17)
abbrev pub whole_layout : List ℕ → Value layout4
whole_layout body = (0, (2 ^ 64 - 1, (IOMODE_RW, (FLEX_FILES, body))))

-- how long it is
abbrev pub layout_length : ℕ → List Mirror → ℕ
layout_length uid mirrors = length (spelling layout4 (whole_layout (layout_body uid mirrors)))

-- a LAYOUTGET to which layouts were granted; a CLOSE does not return them (RFC 8881, section 18.43)
abbrev pub layout_result : Stateid → List (Value layout4) → Value layoutget4_res
layout_result stateid layouts = inl (false, (stateid4_value stateid, layouts))

-- ---- devices (RFC 8435, section 4.1)

-- one address over TCP (RFC 5665), and NFSv3 with reads and writes of at most 65,536 bytes, loosely coupled
abbrev pub device_at_address : AddressValue → Value ff_device_addr4
device_at_address address = ((codes "tcp", address_text address) ∷ [], (3, (0, (65536, (65536, false)))) ∷ [])

abbrev pub device_body : AddressValue → List ℕ
device_body address = spelling ff_device_addr4 (device_at_address address)

-- what a GETDEVICEINFO that is OK says; no notification is given (RFC 8881, section 18.40)
abbrev pub device_info : List ℕ → Value getdeviceinfo4_ok
device_info body = (FLEX_FILES, (body, []))

-- how long these fields are
abbrev pub device_info_length : AddressValue → ℕ
device_info_length address = length (spelling getdeviceinfo4_ok (device_info (device_body address)))

abbrev pub device_info_result : List ℕ → Value getdeviceinfo4_res
device_info_result body = inl (device_info body)
