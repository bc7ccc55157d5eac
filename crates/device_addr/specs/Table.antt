-- A table from devices to addresses: pairs in the order in which they came.
use Rattle.std.specs.Prelude.{◌≡◌, ◌≢◌, ◌<◌, ◌≤◌, List, [], ◌∷◌, ◌++◌, length, Option, None, Some, Result, Ok, Err, bytes_eq, if◌then◌else◌}
use Rattle.device_addr.specs.declared.table.TheConstants.{MAX_DEVICES}
use Rattle.nfs4_types.specs.declared.ids.DeviceId.{DeviceId}
use Rattle.device_addr.specs.declared.net_addr.NetAddr.{NetAddr}
use Rattle.device_addr.specs.declared.table.AddFault.{AddFault}
use Rattle.device_addr.specs.declared.table.AddFault.TheVariants.{Known, Full, NoMemory}

-- the address of the first pair with this id
abbrev pub device_at : List (DeviceId × NetAddr) → DeviceId → Option NetAddr
device_at [] id = None
device_at (pair ∷ rest) id = if bytes_eq id.0 pair.0.0 then Some pair.1 else device_at rest id

-- no pair has the id of one behind it
abbrev pub AreIdsDistinct : List (DeviceId × NetAddr) → Type 0
AreIdsDistinct [] = Unit {0}
AreIdsDistinct (pair ∷ rest) = (device_at rest pair.0 ≡ None) × AreIdsDistinct rest

-- each id stands once, and there are at most 16 pairs
pub record IsDeviceTable (table : List (DeviceId × NetAddr)) : Type 0 where
  pub distinct : AreIdsDistinct table
  pub few : length table ≤ MAX_DEVICES

-- the device is not there, and there is room for it
abbrev pub TakesDevice : List (DeviceId × NetAddr) → DeviceId → Type 0
TakesDevice table id = (device_at table id ≡ None) × (length table < MAX_DEVICES)

-- What adding a device came to: it is the last now, and was not there; or it was there; or it was not and 16 were; or memory was
-- wanted. A fault leaves the table as it was.
abbrev pub Adds : List (DeviceId × NetAddr) → DeviceId → NetAddr → Result (Unit {0}) AddFault → List (DeviceId × NetAddr) → Type 0
Adds old id address (Ok done) new = (device_at old id ≡ None) × (length old < MAX_DEVICES) × (new ≡ old ++ (id, address) ∷ [])
Adds old id address (Err Known) new = (device_at old id ≢ None) × (new ≡ old)
Adds old id address (Err Full) new = (device_at old id ≡ None) × (length old ≡ MAX_DEVICES) × (new ≡ old)
Adds old id address (Err NoMemory) new = new ≡ old
