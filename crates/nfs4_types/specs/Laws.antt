-- Different arguments give different identifiers.
use Rattle.std.specs.Prelude.{◌≡◌, ℕ, ◌<◌, ◌^◌, Some}
use Rattle.nfs4_types.specs.Stateids.{layout_stateid_of, open_stateid_of, read_stateid_of}
use Rattle.nfs4_types.specs.Ids.{device_id_of}
use Rattle.nfs4_types.specs.Handles.{file_handle_of, file_number_of}

-- which state a layout's stateid names, whatever its seqid
abbrev pub AreLayoutsDifferent : Type 0
AreLayoutsDifferent = (file uid seqid file2 uid2 seqid2 : ℕ) → file < 2 ^ 32 → uid < 2 ^ 32 → file2 < 2 ^ 32 → uid2 < 2 ^ 32
    → (layout_stateid_of file uid seqid).other ≡ (layout_stateid_of file2 uid2 seqid2).other → (file ≡ file2) × (uid ≡ uid2)

abbrev pub AreOpensDifferent : Type 0
AreOpensDifferent = (file n file2 n2 : ℕ) → file < 2 ^ 32 → n < 2 ^ 32 → file2 < 2 ^ 32 → n2 < 2 ^ 32
    → (open_stateid_of file n).other ≡ (open_stateid_of file2 n2).other → (file ≡ file2) × (n ≡ n2)

-- opens are numbered from 1, so none names the state of a layout
abbrev pub IsOpenNoLayout : Type 0
IsOpenNoLayout = (file n file2 uid seqid : ℕ) → file < 2 ^ 32 → 0 < n → n < 2 ^ 32 → file2 < 2 ^ 32 → uid < 2 ^ 32
    → ¬ ((open_stateid_of file n).other ≡ (layout_stateid_of file2 uid seqid).other)

-- the same of layouts for reading, none of which names the state of another layout or, since no uid is 0, of an open
abbrev pub AreReadLayoutsDifferent : Type 0
AreReadLayoutsDifferent = (file uid seqid file2 uid2 seqid2 : ℕ) → file < 2 ^ 32 → uid < 2 ^ 32 → file2 < 2 ^ 32 → uid2 < 2 ^ 32
    → (read_stateid_of file uid seqid).other ≡ (read_stateid_of file2 uid2 seqid2).other → (file ≡ file2) × (uid ≡ uid2)

abbrev pub IsReadNoWriteLayout : Type 0
IsReadNoWriteLayout = (file uid seqid file2 uid2 seqid2 : ℕ) → file < 2 ^ 32 → uid < 2 ^ 32 → file2 < 2 ^ 32 → uid2 < 2 ^ 32
    → ¬ ((read_stateid_of file uid seqid).other ≡ (layout_stateid_of file2 uid2 seqid2).other)

abbrev pub IsReadNoOpen : Type 0
IsReadNoOpen = (file uid seqid file2 n : ℕ) → file < 2 ^ 32 → 0 < uid → uid < 2 ^ 32 → file2 < 2 ^ 32 → n < 2 ^ 32
    → ¬ ((read_stateid_of file uid seqid).other ≡ (open_stateid_of file2 n).other)

abbrev pub AreDevicesDifferent : Type 0
AreDevicesDifferent = (server server2 : ℕ) → server < 2 ^ 32 → server2 < 2 ^ 32 → device_id_of server ≡ device_id_of server2 → server ≡ server2

-- the number of a file's handle is the file's, so different files have different handles
abbrev pub IsNumberAgain : Type 0
IsNumberAgain = (file : ℕ) → file < 2 ^ 64 → file_number_of (file_handle_of file) ≡ Some file
