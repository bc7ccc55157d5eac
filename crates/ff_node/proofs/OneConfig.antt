-- A line configures one node.
use Rattle.std.proofs.Common.{◌≡◌, ℕ, suc, List, [], ◌∷◌, length, Some, refl, sym, ap, ◌∙◌}
use Rattle.serde_json.specs.Data.{Data}
use Rattle.serde_json.specs.Events.{items_len}
use Rattle.device_addr.specs.Universal.{AddressValue}
use Rattle.node_config.specs.Configs.{ConfigValue}
use Rattle.ff_node.specs.Config.{Configures, address_items, config_data}

items_length : (servers : List AddressValue) → items_len (address_items servers) ≡ length servers
items_length [] = refl
items_length (a ∷ rest) = ap suc (items_length rest)

same_data : {x y : Data} → Some x ≡ Some y → x ≡ y
same_data e = cc

same_own : (c d : ConfigValue) → config_data c ≡ config_data d → c.own ≡ d.own
same_own c d e = cc

same_items : (c d : ConfigValue) → config_data c ≡ config_data d → address_items c.servers ≡ address_items d.servers
same_items c d e = cc

-- two configurations of one line have one number and as many servers
pub one_config : (line : List ℕ) (c d : ConfigValue) → Configures line c → Configures line d → (c.own ≡ d.own) × (length c.servers ≡ length d.servers)
one_config line c d is other =
    let same : config_data c ≡ config_data d = same_data (sym is.value ∙ other.value) in
    (same_own c d same, sym (items_length c.servers) ∙ ap items_len (same_items c d same) ∙ items_length d.servers)
