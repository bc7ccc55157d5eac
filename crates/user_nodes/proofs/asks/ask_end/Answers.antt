use Rattle.std.proofs.Common.{◌∷◌, []}
use Rattle.client_state.specs.declared.request.UserRequest.TheVariants.{Commit, Return}
use Rattle.user_nodes.proofs.AskLemmas.{asked_one, asked_then}
use Rattle.user_nodes.proofs.asks.ask_end.Goals as goal

pub returns : goal.returns
returns c =
    asked_then (Commit ∷ []) Return c.args.client.now.client c.args.out.now.sends.items c.commit.new.self c.return_all.new.self c.commit.new.out c.return_all.new.out c.return_all.result
    (asked_one Commit c.args.client.now c.commit.new.self c.args.out.now c.commit.new.out c.in_ok-commit.field-0 c.in_ok-commit.ensures) c.return_all.ensures
