-- The configuration of a node: one line, a JSON object.
use Rattle.std.specs.Prelude.{◌≡◌, ℕ, ◌≤◌, ◌==◌, List, [], ◌∷◌, length, map, Some, Result, Ok, Err, codes, count_by}
use Rattle.std.specs.List.{All}
use Rattle.std.specs.Str.{IsUtf8}
use Rattle.serde_json.specs.Data.{Data, string, array, object, number, unsigned, Items, no_items, item, Members, no_members, member}
use Rattle.serde_json.specs.Read.{read}
use Rattle.serde_json.specs.View.{view, items_view}
use Rattle.serde_json.specs.declared.value.Value.{Value}
use Rattle.std.specs.declared.alloc.Global.{Global}
use Rattle.std.specs.Prelude.{Vec}
use Rattle.node_config.specs.declared.config.TheConstants.{MAX_SERVERS}
use Rattle.node_config.specs.declared.config.Config.{Config}
use Rattle.node_config.specs.Configs.{ConfigValue, IsInRange, config_value}
use Rattle.ff_node.specs.declared.config.TheConstants.{MAX_LINE}
use Rattle.ff_node.specs.declared.config.ConfigFault.{ConfigFault}
use Rattle.ff_node.specs.declared.config.ConfigFault.TheVariants.{Bad, NoMemory}
use Rattle.ff_node.specs.declared.config.Fields.{Fields}
use Rattle.device_addr.specs.declared.net_addr.NetAddr.{NetAddr}
use Rattle.device_addr.specs.Universal.{AddressValue, IsAddress, address_text, address_value}

-- the longest line of a configuration, in bytes
abbrev pub max_line : ℕ
max_line = MAX_LINE

abbrev pub address_items : List AddressValue → Items
address_items [] = no_items
address_items (a ∷ rest) = item (string (address_text a)) (address_items rest)

-- the values of the five members
pub record FieldValues : Type 0 where
  pub mds : Data
  pub mirrors : Data
  pub own : Data
  pub servers : Data
  pub turns : Data

-- these five members before others (serde_json has members in the order of their names)
abbrev pub before : FieldValues → Members → Members
before f rest =
    member (codes "mds") f.mds
    (member (codes "mirrors") f.mirrors
    (member (codes "own") f.own
    (member (codes "servers") f.servers
    (member (codes "turns") f.turns rest))))

-- exactly these five members
abbrev pub five_members : FieldValues → Data
five_members f = object (before f no_members)

abbrev pub config_fields : ConfigValue → FieldValues
config_fields c = record {
  mds = string (address_text c.mds);
  mirrors = number (unsigned c.mirrors);
  own = number (unsigned c.own);
  servers = array (address_items c.servers);
  turns = number (unsigned c.turns);
}

-- the JSON value of a configuration
abbrev pub config_data : ConfigValue → Data
config_data c = five_members (config_fields c)

-- how many colons (58) there are
abbrev pub colons : List ℕ → ℕ
colons line = count_by (λ c. c == 58) line

-- A line configures a node so. It is UTF-8, as every JSON text is (RFC 8259, section 8.1). serde_json keeps the last of two
-- members of one name, so the doubled member is found by the colons: a value of the five members has no colon in its texts, and
-- a colon stands behind each name, so five colons are five members.
pub record Configures (line : List ℕ) (c : ConfigValue) : Type 0 where
  pub short : length line ≤ max_line
  pub text : IsUtf8 line
  pub value : read line ≡ Some (config_data c)
  pub five : colons line ≡ 5
  pub in_range : IsInRange c

abbrev pub field_values : Fields → FieldValues
field_values f = record { mds = view f.mds; mirrors = view f.mirrors; own = view f.own; servers = view f.servers; turns = view f.turns }

-- What reading a line for its configuration came to. Want of memory says nothing of the line.
abbrev pub ReadsConfig : List ℕ → Result Config ConfigFault → Type 0
ReadsConfig line (Ok c) = Configures line (config_value c)
ReadsConfig line (Err Bad) = (c : ConfigValue) → Configures line c → ⊥
ReadsConfig line (Err NoMemory) = Unit {0}

-- the same of its JSON value
abbrev pub ReadsValue : List ℕ → Result Value ConfigFault → Type 0
ReadsValue line (Ok v) = IsUtf8 line × (read line ≡ Some (view v))
ReadsValue line (Err Bad) = (d : Data) → IsUtf8 line → read line ≡ Some d → ⊥
ReadsValue line (Err NoMemory) = Unit {0}

-- a list of 1 to 16 addresses
pub record ListsServers (d : Data) (servers : List AddressValue) : Type 0 where
  pub items : d ≡ array (address_items servers)
  pub addresses : All IsAddress servers
  pub some : 1 ≤ length servers
  pub few : length servers ≤ MAX_SERVERS

-- the same of some items: each is an address
abbrev pub ReadsItems : List Value → Result (Vec NetAddr Global) ConfigFault → Type 0
ReadsItems items (Ok v) = All IsAddress (map address_value v.items) × (items_view items ≡ address_items (map address_value v.items))
ReadsItems items (Err Bad) = (addresses : List AddressValue) → All IsAddress addresses → items_view items ≡ address_items addresses → ⊥
ReadsItems items (Err NoMemory) = Unit {0}

-- the same of the list of the data servers
abbrev pub ReadsServers : Data → Result (Vec NetAddr Global) ConfigFault → Type 0
ReadsServers d (Ok v) = ListsServers d (map address_value v.items)
ReadsServers d (Err Bad) = (servers : List AddressValue) → ListsServers d servers → ⊥
ReadsServers d (Err NoMemory) = Unit {0}
