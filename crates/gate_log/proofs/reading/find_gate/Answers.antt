use Rattle.std.proofs.Common.{◌+◌, ◌-◌, Ok, Option, subst}
use Rattle.store_disk.specs.Disks.{DiskLife}
use Rattle.gate_log.specs.declared.reading.Head.{Head}
use Rattle.gate_log.specs.Heads.{FindsHead, ReadsBody}
use Rattle.gate_log.proofs.HeadLemmas.{finds_body}
use Rattle.gate_log.proofs.reading.find_gate.Goals as goal

pub returns-in-Opens-clause-found : goal.returns-in-Opens-clause-found
returns-in-Opens-clause-found g c =
    finds_body (g.D.Disk.told c.args.disk.now) c.args.size c.args.at c.in-Opens.length c.read_body.result c.read_body.new.body.items
    (subst (λ (h : Head). FindsHead (g.D.Disk.told c.args.disk.now) c.args.at (c.args.size - c.args.at) (Ok h)) c.in-Opens.is c.in_ok-read_head.ensures.told)
    (subst (λ (o : Option DiskLife). ReadsBody o (c.args.at + 5) c.in-Opens.length c.read_body.result c.read_body.new.body.items) c.in_ok-read_head.ensures.same c.read_body.ensures.told)
