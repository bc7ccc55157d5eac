use Rattle.std.proofs.Common.{◌∷◌, []}
use Rattle.cluster_model.specs.declared.limits.TheConstants.{PIECE_SIZE}
use Rattle.client_state.specs.declared.request.UserRequest.TheVariants.{Open, Read}
use Rattle.user_nodes.proofs.AskLemmas.{asked_one, asked_then}
use Rattle.user_nodes.proofs.asks.ask_get.Goals as goal

pub returns : goal.returns
returns c =
    asked_then (Open c.args.name.now ∷ []) (Read 0 PIECE_SIZE) c.args.client.now.client c.args.out.now.sends.items c.open.new.self c.read.new.self c.open.new.out c.read.new.out c.read.result
    (asked_one (Open c.args.name.now) c.args.client.now c.open.new.self c.args.out.now c.open.new.out c.in_ok-open.field-0 c.in_ok-open.ensures) c.read.ensures
