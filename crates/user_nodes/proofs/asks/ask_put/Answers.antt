use Rattle.client_state.specs.declared.request.UserRequest.TheVariants.{Open}
use Rattle.line_runs.specs.Lines.{all_left}
use Rattle.user_nodes.proofs.AskLemmas.{asked_if_ok}
use Rattle.user_nodes.proofs.ReadLemmas.{put_asked}
use Rattle.user_nodes.proofs.asks.ask_put.Goals as goal

pub returns-in-Ok-ask_end-clause-asks : goal.returns-in-Ok-ask_end-clause-asks
returns-in-Ok-ask_end-clause-asks g c =
    put_asked c.args.name.now (all_left c.args.buffer.now (g.S.Source.left c.args.source.now)) (all_left c.ask_writes.new.buffer (g.S.Source.left c.ask_writes.new.source))
    c.args.client.now.client c.open.new.self.client c.ask_writes.new.client.client c.ask_end.new.client.client
    c.args.out.now.sends.items c.open.new.out.sends.items c.ask_writes.new.out.sends.items c.ask_end.new.out.sends.items tt tt
    (asked_if_ok (Open c.args.name.now) c.args.client.now c.open.new.self c.args.out.now c.open.new.out c.open.result c.if-is_err.ensures.negation c.open.ensures)
    c.in_ok-ask_writes.ensures.asks c.in-Ok-ask_end.ensures
