use Rattle.ds_procedures.specs.CodePlans.{plain_effect}
use Rattle.ds_files.specs.Receive.{received}
use Rattle.ds_files.proofs.Deciding.{acts, turns_away}
use Rattle.ds_files.proofs.server.DataServer.take_record.Goals as goal

pub returns-clause-ok : goal.returns-clause-ok
returns-clause-ok c =
    let d = c.in_ok-decision.decision in
    acts c.args.self.now c.carry_out.new.self (received c.args.message.now) c.args.logging d.reply d.entries.items (plain_effect d.effect) c.args.from c.args.out.now c.post.new.out c.in_ok-decision.ensures c.in_default.ensures.ok c.in_ok-post.ensures.sends c.in_ok-post.ensures.entries

pub returns-clause-turned_away : goal.returns-clause-turned_away
returns-clause-turned_away c =
    let d = c.in_ok-decision.decision in
    turns_away c.args.self.now c.carry_out.new.self (received c.args.message.now) c.args.logging d.reply d.entries.items (plain_effect d.effect) c.args.from c.args.out.now c.post.new.out c.in_ok-decision.ensures c.in_default.ensures.ok c.in_ok-post.ensures.entries
