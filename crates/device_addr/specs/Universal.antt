-- Universal addresses over TCP and IPv4 (RFC 5665, section 5.2.3.3).
use Rattle.std.specs.Prelude.{◌≡◌, ℕ, ◌/◌, ◌%◌, ◌<◌, List, [], ◌∷◌, ◌++◌, length, codes, decimal}
use Rattle.std.specs.List.{All}
use Rattle.device_addr.specs.declared.net_addr.NetAddr.{NetAddr}

-- four numbers of a host's address, the highest first, and a port
pub record AddressValue : Type 0 where
  pub host : List ℕ
  pub port : ℕ

-- numbers in decimal, with a dot between two
abbrev pub dotted : List ℕ → List ℕ
dotted [] = []
dotted (n ∷ []) = decimal n
dotted (n ∷ m ∷ rest) = decimal n ++ (codes "." ++ dotted (m ∷ rest))

-- The one text of an address: the host's four numbers, and the port's two bytes, the higher first.
abbrev pub address_text : AddressValue → List ℕ
address_text a = dotted (a.host ++ ((a.port / 256) ∷ (a.port % 256) ∷ []))

-- four bytes and a port
pub record IsAddress (a : AddressValue) : Type 0 where
  pub four : length a.host ≡ 4
  pub bytes : All (λ n. n < 256) a.host
  pub number : a.port < 65536

-- the value of an address of the code
abbrev pub address_value : NetAddr → AddressValue
address_value a = record { host = a.host; port = a.port }

-- a text is a number of one byte in decimal, then a dot, then the rest
abbrev pub IsNumberBefore : List ℕ → ℕ → List ℕ → Type 0
IsNumberBefore text n rest = text ≡ decimal n ++ (codes "." ++ rest)
