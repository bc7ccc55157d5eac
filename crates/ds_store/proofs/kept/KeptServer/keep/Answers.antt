use Rattle.std.proofs.Common.{ℕ, List, Option, refl, sym, ap, subst}
use Rattle.std.proofs.lemmas.Result.{err_from_is_err_and}
use Rattle.ds_procedures.specs.CodePlans.{plain_effect}
use Rattle.twin_log.specs.KeptLogs.{KeptLogState}
use Rattle.ds_store.specs.Kept.{IsRecordOf, KeptState, WaitsSince}
use Rattle.ds_store.proofs.Keeping.{becomes, body_made, booted_on, number, steady_on, takes_none}
use Rattle.ds_store.proofs.Waiting.{takes_not}
use Rattle.ds_store.proofs.Bounding.{limit_on}
use Rattle.ds_store.proofs.kept.KeptServer.keep.Goals as goal

pub invariant_of-self-in-Some : goal.invariant_of-self-in-Some
invariant_of-self-in-Some g c = (
  steady_on c.self.inside.server c.args.self.now.server c.carry_out.new.self (plain_effect c.args.effect.now) (ap (λ (k : KeptState). k.server) c.self.view_is) c.self.invariant.0 c.requires.can c.in_ok-carry_out.ensures.ok,
  booted_on c.self.inside.server c.args.self.now.server c.carry_out.new.self (plain_effect c.args.effect.now) (ap (λ (k : KeptState). k.server) c.self.view_is) c.self.invariant.1 c.requires.can c.in_ok-carry_out.ensures.ok,
  c.self.invariant.2,
  limit_on c.self.inside.server c.args.self.now.server c.carry_out.new.self (plain_effect c.args.effect.now) c.self.inside.limit (ap (λ (k : KeptState). k.server) c.self.view_is) c.self.invariant.0 c.requires.can c.in_ok-carry_out.ensures.ok c.self.invariant.3,
)

pub invariant_of-self-in-None : goal.invariant_of-self-in-None
invariant_of-self-in-None g c = (
  steady_on c.self.inside.server c.args.self.now.server c.carry_out.new.self (plain_effect c.args.effect.now) (ap (λ (k : KeptState). k.server) c.self.view_is) c.self.invariant.0 c.requires.can c.in_ok-carry_out.ensures.ok,
  booted_on c.self.inside.server c.args.self.now.server c.carry_out.new.self (plain_effect c.args.effect.now) (ap (λ (k : KeptState). k.server) c.self.view_is) c.self.invariant.1 c.requires.can c.in_ok-carry_out.ensures.ok,
  c.self.invariant.2,
  limit_on c.self.inside.server c.args.self.now.server c.carry_out.new.self (plain_effect c.args.effect.now) c.self.inside.limit (ap (λ (k : KeptState). k.server) c.self.view_is) c.self.invariant.0 c.requires.can c.in_ok-carry_out.ensures.ok c.self.invariant.3,
)

pub returns-in_err-message-clause-waits : goal.returns-in_err-message-clause-waits
returns-in_err-message-clause-waits g c = λ settled began began_spare w.
    let p = err_from_is_err_and c.from_residual.result c.from_residual.ensures.1 in
    takes_not settled c.args.self.now began began_spare (g.D.Disk.told c.args.disk.now) (g.D.Disk.told c.args.spare.now) c.from_residual.result p.0 _ p.1 w

pub returns-in_err-carry_out-clause-waits : goal.returns-in_err-carry_out-clause-waits
returns-in_err-carry_out-clause-waits g c = λ settled began began_spare w.
    let p = err_from_is_err_and c.from_residual-in_err-carry_out.result c.from_residual-in_err-carry_out.ensures.1 in
    takes_not settled c.args.self.now began began_spare (g.D.Disk.told c.args.disk.now) (g.D.Disk.told c.args.spare.now) c.from_residual-in_err-carry_out.result p.0 _ p.1 w

pub returns-in-Some-clause-becomes : goal.returns-in-Some-clause-becomes
returns-in-Some-clause-becomes g c =
    becomes _ c.args.self.now c.self.view_is (plain_effect c.args.effect.now) c.carry_out.new.self c.in_ok-carry_out.ensures.ok c.stage.new.self c.stage.ensures.server (g.D.Disk.told c.args.disk.now) (g.D.Disk.told c.args.spare.now)
    (g.D.Disk.told c.stage.new.disk) (g.D.Disk.told c.stage.new.spare) c.stage.result c.stage.ensures.spent

pub returns-in-Some-clause-waits : goal.returns-in-Some-clause-waits
returns-in-Some-clause-waits g c = λ settled began began_spare w.
    let what = plain_effect c.args.effect.now in
    let is_record = subst (λ (o : Option (List ℕ)). IsRecordOf c.self.inside.server what o) c.in-Some.is c.in_ok-message.ensures in
    let here = subst (λ (l : KeptLogState). WaitsSince settled c.args.self.now.server l began began_spare (g.D.Disk.told c.args.disk.now) (g.D.Disk.told c.args.spare.now)) (sym (ap (λ (k : KeptState). k.log) c.self.view_is)) w in
    c.stage.ensures.waits c.args.self.now.server settled began began_spare here (number _ c.args.self.now c.self.view_is what c.carry_out.new.self c.in_ok-carry_out.ensures.ok)
    (body_made _ c.args.self.now c.self.view_is what c.carry_out.new.self c.in_ok-carry_out.ensures.ok c.in-Some.message is_record)

pub returns-in-None-clause-waits : goal.returns-in-None-clause-waits
returns-in-None-clause-waits g c = λ settled began began_spare w.
    let what = plain_effect c.args.effect.now in
    takes_none _ c.args.self.now c.self.view_is what c.carry_out.new.self c.in_ok-carry_out.ensures.ok _ refl (ap (λ (k : KeptState). k.log) c.self.view_is) (g.D.Disk.told c.args.disk.now) (g.D.Disk.told c.args.spare.now) _
    (subst (λ (o : Option (List ℕ)). IsRecordOf c.self.inside.server what o) c.in-None.is c.in_ok-message.ensures) settled began began_spare w
