use Rattle.record_server.proofs.FairLemmas.{is_fair}
use Rattle.record_server.proofs.laws.fair_law.Goals as goal

pub returns : goal.returns
returns c events old new round happened = is_fair events old new round happened
