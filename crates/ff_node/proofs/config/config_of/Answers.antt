use Rattle.std.proofs.Common.{◌≡◌, length, map, sym, ap, ◌∙◌, arith}
use Rattle.std.proofs.lemmas.List.{length-map}
use Rattle.serde_json.specs.Data.{number, unsigned, array}
use Rattle.device_addr.specs.Universal.{address_value}
use Rattle.ff_node.specs.Config.{address_items}
use Rattle.ff_node.proofs.ConfigLemmas.{as_many}
use Rattle.ff_node.proofs.config.config_of.Goals as goal

pub returns-then-mirrors-len : goal.returns-then-mirrors-len
returns-then-mirrors-len c = λ v range is.
    let servers = map address_value c.args.servers.items in
    let mirrors : number (unsigned c.in_ok-mirrors.mirrors) ≡ number (unsigned v.mirrors) = sym c.in_ok-mirrors.ensures.2 ∙ ap (λ f. f.mirrors) is in
    let count : c.in_ok-mirrors.mirrors ≡ v.mirrors = cc mirrors in
    let listed : array (address_items servers) ≡ array (address_items v.servers) = sym c.requires.items ∙ ap (λ f. f.servers) is in
    let items : address_items servers ≡ address_items v.servers = cc listed in
    let many = as_many servers v.servers items in
    let size : length servers ≡ length c.args.servers.items = simp length-map in
    let over = c.if-mirrors-len.true in
    let within = range.mirrors_within in
    absurd (omega (arith, count, many, size, over, within, c.len.ensures))
