use Rattle.std.proofs.Common.{◌≡◌, length, map, refl, sym, ◌∙◌, arith, false}
use Rattle.std.proofs.lemmas.List.{length-map}
use Rattle.device_addr.specs.Universal.{address_value}
use Rattle.node_config.specs.Configs.{config_value}
use Rattle.ff_run.specs.Node.{is_of_server, task_command}
use Rattle.ff_run.proofs.ServeLemmas.{no_server}
use Rattle.ff_run.proofs.serving.config_in.Goals as goal

pub returns-then-config-len : goal.returns-then-config-len
returns-then-config-len c =
    let servers = map address_value c.in-Ok.config.servers.items in
    let size : length servers ≡ length c.in-Ok.config.servers.items = simp length-map in
    record { configures = c.in-Ok.ensures; own = λ serves. omega (arith, c.len.ensures, size, c.if-config-len.true) }

pub returns-then-is_of_server : goal.returns-then-is_of_server
returns-then-is_of_server c =
    let servers = map address_value c.in-Ok.config.servers.items in
    let size : length servers ≡ length c.in-Ok.config.servers.items = simp length-map in
    let many : c.len.result ≡ length servers = omega (arith, c.len.ensures, size) in
    (refl, no_server (task_command c.args.task) c.args.line.now (config_value c.in-Ok.config) c.len.result (sym c.is_of_server.ensures ∙ c.if-is_of_server.true) c.in-Ok.ensures (omega (arith, c.if-config-len.false)) many)

pub returns : goal.returns
returns c =
    let not : is_of_server (task_command c.args.task) ≡ false = sym c.is_of_server.ensures ∙ c.if-is_of_server.false in
    record { configures = c.in-Ok.ensures; own = λ serves. absurd (cc (serves, not)) }
