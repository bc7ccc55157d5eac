-- What a GETDEVICEINFO says of where a data server is (RFC 8881, section 18.40; RFC 8435, section 4.1; RFC 5665, section 5.2.3.3).
use Rattle.std.specs.Prelude.{ℕ, ◌+◌, ◌*◌, ◌==◌, Bool, true, ◌&&◌, List, [], ◌∷◌, bytes_eq, codes, Option, Some, None, Result, Ok, Err, if◌then◌else◌, nat_lt}
use Rattle.std.specs.Str.Parse.{digits_value}
use Rattle.client_file_calls.specs.declared.layouts.TheConstants.{FLEX_FILES}
use Rattle.ff_xdr.specs.declared.error.XdrError.{XdrError}
use Rattle.ff_xdr.specs.Form.{Value}
use Rattle.ff_xdr.specs.Reading.{reading, whole}
use Rattle.nfs4_types.specs.Texts.{netaddr4}
use Rattle.nfs4_compound.specs.Results.{resop4}
use Rattle.device_addr.specs.declared.net_addr.NetAddr.{NetAddr}
use Rattle.device_addr.specs.Device.{ff_device_addr4}
use Rattle.device_addr.specs.Universal.{address_text}
use Rattle.client_compounds.specs.MdsResults.{in_arm, done_as}

-- ---- the address that a text is

-- the parts of a text between its dots
abbrev pub onto_part : ℕ → List (List ℕ) → List (List ℕ)
onto_part b [] = (b ∷ []) ∷ []
onto_part b (part ∷ parts) = (b ∷ part) ∷ parts

abbrev pub dot_parts : List ℕ → List (List ℕ)
dot_parts [] = [] ∷ []
dot_parts (b ∷ bs) = if b == 46 then [] ∷ dot_parts bs else onto_part b (dot_parts bs)

-- the address that six numbers are
abbrev pub address_of_parts : List (List ℕ) → Option NetAddr
address_of_parts (a ∷ b ∷ c ∷ d ∷ high ∷ low ∷ []) = Some (record {
  host = digits_value 10 a ∷ digits_value 10 b ∷ digits_value 10 c ∷ digits_value 10 d ∷ [];
  port = digits_value 10 high * 256 + digits_value 10 low;
})
address_of_parts parts = None

-- this is the one text of an address
abbrev pub is_text_of : List ℕ → NetAddr → Bool
is_text_of text a = bytes_eq (address_text (record { host = a.host; port = a.port })) text

abbrev pub are_bytes : List ℕ → Bool
are_bytes [] = true
are_bytes (n ∷ rest) = nat_lt n 256 && are_bytes rest

abbrev pub spelled_address : List ℕ → Option NetAddr → Option NetAddr
spelled_address text None = None
spelled_address text (Some a) = if are_bytes a.host && nat_lt a.port 65536 && is_text_of text a then Some a else None

abbrev pub universal_address : List ℕ → Option NetAddr
universal_address text = spelled_address text (address_of_parts (dot_parts text))

-- ---- the address of a device

-- the first over TCP that is one
abbrev pub address_on_tcp : Value netaddr4 → Option NetAddr
address_on_tcp (netid, text) = if bytes_eq netid (codes "tcp") then universal_address text else None

abbrev pub or_else : Option NetAddr → Option NetAddr → Option NetAddr
or_else (Some a) rest = Some a
or_else None rest = rest

abbrev pub first_address : List (Value netaddr4) → Option NetAddr
first_address [] = None
first_address (a ∷ rest) = or_else (address_on_tcp a) (first_address rest)

abbrev pub device_address : Result (Value ff_device_addr4) XdrError → Option NetAddr
device_address (Ok (addresses, versions)) = first_address addresses
device_address (Err e) = None

-- the body is in its form, of flexible files
abbrev pub device_info_ok : Value resop4 → Option NetAddr
device_info_ok = in_arm 47 resop4 (done_as (λ (kind, (body, notification)). if kind == FLEX_FILES then device_address (whole body (reading ff_device_addr4 body 0)) else None)) None
