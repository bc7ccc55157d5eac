use Rattle.std.proofs.Common.{refl}
use Rattle.ff_xdr.specs.Form.{long, word}
use Rattle.mirror_client.proofs.worked.worked_client_ways.Goals as goal

pub returns-clause-own_recall : goal.returns-clause-own_recall
unfolding long word
returns-clause-own_recall c = refl

pub returns-clause-own_layout : goal.returns-clause-own_layout
unfolding long word
returns-clause-own_layout c = refl

pub returns-clause-other_recall : goal.returns-clause-other_recall
unfolding long word
returns-clause-other_recall c = refl

pub returns-clause-other_layout : goal.returns-clause-other_layout
unfolding long word
returns-clause-other_layout c = refl

pub returns-clause-again : goal.returns-clause-again
unfolding long word
returns-clause-again c = refl

pub returns-clause-out_of_order : goal.returns-clause-out_of_order
unfolding long word
returns-clause-out_of_order c = refl

pub returns-clause-through : goal.returns-clause-through
unfolding long word
returns-clause-through c = refl

pub returns-clause-giving_back : goal.returns-clause-giving_back
unfolding long word
returns-clause-giving_back c = refl

pub returns-clause-deferring : goal.returns-clause-deferring
unfolding long word
returns-clause-deferring c = refl

pub returns-clause-refusing : goal.returns-clause-refusing
unfolding long word
returns-clause-refusing c = refl

pub returns-clause-unknown : goal.returns-clause-unknown
unfolding long word
returns-clause-unknown c = refl

pub returns-clause-written_again : goal.returns-clause-written_again
unfolding long word
returns-clause-written_again c = refl

pub returns-clause-numberless : goal.returns-clause-numberless
unfolding long word
returns-clause-numberless c = refl

pub returns-clause-leaving : goal.returns-clause-leaving
unfolding long word
returns-clause-leaving c = refl
