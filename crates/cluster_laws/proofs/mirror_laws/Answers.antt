use Rattle.std.proofs.Common.{refl, inl, inr, arith}
use Rattle.cluster_laws.proofs.Keepings.{keeps_always, keeps_all}
use Rattle.cluster_laws.proofs.Turned.{made_by_turns, held_agree, takes_clean, takes_dirty}
use Rattle.cluster_laws.proofs.mirror_laws.Goals as goal

pub returns-clause-keeps : goal.returns-clause-keeps
returns-clause-keeps c = keeps_always

pub returns-clause-whole : goal.returns-clause-whole
returns-clause-whole c = keeps_all

pub returns-clause-by_turns : goal.returns-clause-by_turns
returns-clause-by_turns c = made_by_turns

pub returns-clause-agree : goal.returns-clause-agree
returns-clause-agree c = held_agree

pub returns-clause-clean_step : goal.returns-clause-clean_step
returns-clause-clean_step c = takes_clean

pub returns-clause-dirty_step : goal.returns-clause-dirty_step
returns-clause-dirty_step c = takes_dirty

pub returns-clause-one_held : goal.returns-clause-one_held
returns-clause-one_held c = record {
  first = record { shown = refl; stable = refl; pending = tt };
  period = record { apart = (tt, tt); sent_some = (omega arith, tt); rogue_some = tt; turns_of = (inl (inl refl), (tt, tt)) };
  covered = (inl refl, tt);
}

pub returns-clause-one_settled : goal.returns-clause-one_settled
returns-clause-one_settled c = record {
  first = record { shown = refl; stable = refl; pending = tt };
  period = record {
    apart = (tt, tt);
    sent_some = (omega arith, tt);
    rogue_some = (omega arith, tt);
    turns_of = (inl (inl refl), (inr (inl refl), (tt, (tt, tt))));
  };
  told = tt;
  settled = refl;
}
