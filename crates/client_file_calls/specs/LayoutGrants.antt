-- What the body of a layout grants (RFC 8881, section 18.43; RFC 8435, section 5.1).
use Rattle.std.specs.Prelude.{ℕ, ◌^◌, Bool, ◌&&◌, ◌==◌, nat_le, nat_lt, List, [], ◌∷◌, drop, bytes_eq, decimal, Option, Some, None, Result, Ok, Err, if◌then◌else◌}
use Rattle.std.specs.Str.Parse.{digits_value}
use Rattle.std.specs.Int.{w64, from_be_bytes}
use Rattle.ff_xdr.specs.declared.error.XdrError.{XdrError}
use Rattle.ff_xdr.specs.Form.{Value}
use Rattle.nfs4_types.specs.declared.stateid.Stateid.{Stateid}
use Rattle.nfs4_types.specs.Handles.{file_number_of}
use Rattle.nfs4_types.specs.Ids.{device_id_of}
use Rattle.ff_layout.specs.DataServer.{ff_data_server4}
use Rattle.ff_layout.specs.Mirror.{ff_mirror4}
use Rattle.ff_layout.specs.Layout.{ff_layout4}
use Rattle.cluster_model.specs.declared.ids.Mirror.{Mirror}
use Rattle.cluster_model.specs.Mirrors.{are_mirrors}
use Rattle.client_file_calls.specs.declared.grant.LayoutGrant.{LayoutGrant}
use Rattle.client_file_calls.specs.declared.grant.GrantedMirror.{GrantedMirror}

-- the number that a text is in decimal, where it is one below 2^32 (RFC 8435, section 2.2)
abbrev pub user_number_in : List ℕ → Option ℕ
user_number_in text = if bytes_eq text (decimal (digits_value 10 text)) && nat_lt (digits_value 10 text) (2 ^ 32) then Some (digits_value 10 text) else None

-- the data server of a device, from 1 to 16
abbrev pub server_number : ℕ → Bool → Option ℕ
server_number n is = if is && nat_le 1 n && nat_le n 16 then Some n else None

abbrev pub server_in : List ℕ → Option ℕ
server_in device = let n = from_be_bytes w64 (drop 8 device) in server_number n (bytes_eq device (device_id_of n).0)

-- a mirror, and the user under whom it is written
abbrev pub granted_mirror_at : Option ℕ → Option ℕ → Option ℕ → Option GrantedMirror
granted_mirror_at (Some server) (Some fileid) (Some uid) = Some (record { mirror = record { id = record { server = server; fileid = fileid }; seen = record { boot = 0; count = 0 } }; uid = uid })
granted_mirror_at server fileid uid = None

-- one handle, of eight bytes
abbrev pub one_handle : List (List ℕ) → Option ℕ
one_handle (handle ∷ []) = file_number_of handle
one_handle handles = None

-- the user and the group are one number
abbrev pub data_server_of : Value ff_data_server4 → Option GrantedMirror
data_server_of (device, (efficiency, (stateid, (handles, (user, group))))) = if bytes_eq user group then granted_mirror_at (server_in device) (one_handle handles) (user_number_in user) else None

-- one data server
abbrev pub granted_mirror_of : Value ff_mirror4 → Option GrantedMirror
granted_mirror_of (server ∷ []) = data_server_of server
granted_mirror_of servers = None

-- the mirror, where it is written under this user
abbrev pub under_one : ℕ → Option GrantedMirror → Option Mirror
under_one uid None = None
under_one uid (Some m) = if m.uid == uid then Some m.mirror else None

-- mirrors of one user, in order
abbrev pub joined_mirror : Option Mirror → Option (List Mirror) → Option (List Mirror)
joined_mirror (Some m) (Some mirrors) = Some (m ∷ mirrors)
joined_mirror m mirrors = None

abbrev pub mirrors_under : ℕ → List (Value ff_mirror4) → Option (List Mirror)
mirrors_under uid [] = Some []
mirrors_under uid (m ∷ rest) = joined_mirror (under_one uid (granted_mirror_of m)) (mirrors_under uid rest)

-- one to four mirrors, no two on one server
abbrev pub granted_to : Stateid → ℕ → Option (List Mirror) → Option LayoutGrant
granted_to stateid uid None = None
granted_to stateid uid (Some mirrors) = if are_mirrors mirrors then Some (record { stateid = stateid; uid = record { 0 = uid }; mirrors = mirrors }) else None

-- the user of the first is that of all
abbrev pub grant_by : Stateid → List (Value ff_mirror4) → Option GrantedMirror → Option LayoutGrant
grant_by stateid mirrors None = None
grant_by stateid mirrors (Some first) = granted_to stateid first.uid (mirrors_under first.uid mirrors)

abbrev pub layout_grant_of : Stateid → Result (Value ff_layout4) XdrError → Option LayoutGrant
layout_grant_of stateid (Ok (stripe, (first ∷ rest, hints))) = grant_by stateid (first ∷ rest) (granted_mirror_of first)
layout_grant_of stateid (Ok (stripe, ([], hints))) = None
layout_grant_of stateid (Err e) = None
