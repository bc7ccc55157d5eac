use Rattle.world_moves.proofs.ServerActs.{ServerLaws}
use Rattle.world_moves.proofs.Starts.{begins}
use Rattle.world_moves.proofs.Events.{goes_on}
use Rattle.world_moves.proofs.OfRuns.{fences, periods, owners, truth}
use Rattle.world_moves.proofs.laws.world_moves.Goals as goal

pub returns-clause-starts : goal.returns-clause-starts
returns-clause-starts c = begins c.mds_moves.ensures.begins c.proper_servers.ensures.starts

pub returns-clause-goes_on : goal.returns-clause-goes_on
returns-clause-goes_on c = λ boots event w i.
    let laws : ServerLaws = record {
      does = c.user_records.ensures.users;
      record_of = c.client_sends.ensures.records;
      same = c.proper_servers.ensures.same;
      steps = c.proper_servers.ensures.steps;
      users = c.proper_servers.ensures.users;
    } in
    goes_on c.mds_moves.ensures.goes_on c.mds_forms.ensures laws c.client_sends.ensures.sends c.client_sends.ensures.entries c.proper_servers.ensures.restarts boots event w i

pub returns-clause-fences : goal.returns-clause-fences
returns-clause-fences c = λ boots w i. fences c.telling_entries.ensures.same c.telling_entries.ensures.runs boots w i c.fence_law.ensures

pub returns-clause-periods : goal.returns-clause-periods
returns-clause-periods c = λ boots w i. periods c.telling_entries.ensures.same c.telling_entries.ensures.runs boots w i c.run_laws.ensures.each_period_is_fenced

pub returns-clause-owners : goal.returns-clause-owners
returns-clause-owners c = λ boots w i. owners c.telling_entries.ensures.same c.telling_entries.ensures.runs boots w i c.run_laws.ensures.owners_stay

pub returns-clause-truth : goal.returns-clause-truth
returns-clause-truth c = λ boots w i. truth c.telling_entries.ensures.same c.telling_entries.ensures.runs boots w i c.run_laws.ensures.tells_the_truth
