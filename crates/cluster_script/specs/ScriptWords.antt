-- The words of a line: numbers, machines of the cluster, names, places and bytes.
use Rattle.std.specs.Prelude.{ℕ, Bool, ◌==◌, ◌&&◌, ◌||◌, List, [], ◌∷◌, length, nat_le, Option, Some, None, option_map, codes, if◌then◌else◌}
use Rattle.std.specs.List.{list_all}
use Rattle.std.specs.Str.{bytes_eq}
use Rattle.cluster_model.specs.declared.ids.NodeId.{NodeId}
use Rattle.cluster_model.specs.declared.ids.NodeId.TheVariants.{Mds, Server, Client}
use Rattle.cluster_model.specs.declared.limits.TheConstants.{MAX_FILE, PIECE_SIZE}
use Rattle.ff_script.specs.Digits.{bytes_of_digits, one_byte}
use Rattle.ff_script.specs.Pieces.{◌>>=◌, decimal_at, parts}
use Rattle.cluster_script.specs.declared.sizes.ClusterSizes.{ClusterSizes}

-- one space (32) stands between two words
abbrev pub words_of : List ℕ → List (List ℕ)
words_of line = parts 32 line

-- the words behind the first one: with none there is no space behind it
abbrev pub args_in : Option (List ℕ) → List (List ℕ)
args_in None = []
args_in (Some text) = words_of text

-- ---- how many there are

abbrev pub one_of : List (List ℕ) → Option (List ℕ)
one_of (a ∷ []) = Some a
one_of words = None

abbrev pub two_of : List (List ℕ) → Option (List ℕ × List ℕ)
two_of (a ∷ b ∷ []) = Some (a, b)
two_of words = None

abbrev pub three_of : List (List ℕ) → Option (List ℕ × List ℕ × List ℕ)
three_of (a ∷ b ∷ c ∷ []) = Some (a, b, c)
three_of words = None

abbrev pub four_of : List (List ℕ) → Option (List ℕ × List ℕ × List ℕ × List ℕ)
four_of (a ∷ b ∷ c ∷ d ∷ []) = Some (a, b, c, d)
four_of words = None

-- ---- numbers

abbrev pub within : ℕ → ℕ → ℕ → Option ℕ
within low high n = if nat_le low n && nat_le n high then Some n else None

abbrev pub number_within : ℕ → ℕ → List ℕ → Option ℕ
number_within low high word = decimal_at word >>= within low high

-- a place in a file, and how many bytes a request has
abbrev pub place_at : List ℕ → Option ℕ
place_at word = number_within 0 MAX_FILE word

abbrev pub count_at : List ℕ → Option ℕ
count_at word = number_within 1 PIECE_SIZE word

-- ---- bytes

-- as many as a request has
abbrev pub few_bytes : List ℕ → Option (List ℕ)
few_bytes bytes = if nat_le 1 (length bytes) && nat_le (length bytes) PIECE_SIZE then Some bytes else None

abbrev pub bytes_at : List ℕ → Option (List ℕ)
bytes_at word = bytes_of_digits word >>= few_bytes

abbrev pub byte_at : List ℕ → Option ℕ
byte_at word = bytes_of_digits word >>= one_byte

-- ---- names: 1 to 255 of letters, digits, `.` (46), `_` (95) and `-` (45)

abbrev pub is_between : ℕ → ℕ → ℕ → Bool
is_between low high c = nat_le low c && nat_le c high

abbrev pub is_of_name : ℕ → Bool
is_of_name c = is_between 97 122 c || (is_between 65 90 c || (is_between 48 57 c || ((c == 46) || ((c == 95) || (c == 45)))))

abbrev pub name_at : List ℕ → Option (List ℕ)
name_at word = if (nat_le 1 (length word) && nat_le (length word) 255) && list_all is_of_name word then Some word else None

-- ---- machines: `m` (109), `d` (100) and `c` (99) with a number from 1

abbrev pub server_at : ClusterSizes → List ℕ → Option ℕ
server_at sizes (c ∷ digits) = if c == 100 then number_within 1 sizes.servers digits else None
server_at sizes [] = None

abbrev pub client_at : ClusterSizes → List ℕ → Option ℕ
client_at sizes (c ∷ digits) = if c == 99 then number_within 1 sizes.clients digits else None
client_at sizes [] = None

abbrev pub first_of : {X : Type 0} → Option X → Option X → Option X
first_of (Some x) other = Some x
first_of None other = other

abbrev pub node_at : ClusterSizes → List ℕ → Option NodeId
node_at sizes word = if bytes_eq word (codes "m") then Some Mds else first_of (option_map Server (server_at sizes word)) (option_map Client (client_at sizes word))
