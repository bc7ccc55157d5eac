use Rattle.bound_worlds.proofs.Notes.{BoundLaws}
use Rattle.bound_worlds.proofs.BoundActs.{MdsLaws}
use Rattle.bound_worlds.proofs.BoundPackets.{RecordLaws}
use Rattle.bound_worlds.proofs.BoundEvents.{UserLaws}
use Rattle.bound_worlds.proofs.BoundSteps.{bound_on}
use Rattle.bound_worlds.proofs.OwnEnds.{begin_otherwise}
use Rattle.bound_worlds.proofs.OfBoundRuns.{begins, agree, own}
use Rattle.bound_worlds.proofs.laws.bound_worlds.Goals as goal

pub returns-clause-starts : goal.returns-clause-starts
returns-clause-starts c = begins c.mds_moves.ensures.begins c.mds_binds.ensures.begins c.proper_servers.ensures.starts

pub returns-clause-goes_on : goal.returns-clause-goes_on
returns-clause-goes_on c = λ boots event w i may.
    let laws : BoundLaws = record { held = c.held_mirrors.ensures.holdings; apart = c.every_ds_call.ensures.told_apart; stay = c.mds_binds.ensures.stays } in
    let by_mds : MdsLaws = record { events = c.mds_binds.ensures.goes_on; forms = c.mds_forms.ensures; tells = c.telling_entries.ensures.runs } in
    let records : RecordLaws = record { same = c.proper_servers.ensures.same; steps = c.proper_servers.ensures.steps; readers = c.user_records.ensures.readers } in
    let users : UserLaws = record { sends = c.client_sends.ensures.sends; entries = c.client_sends.ensures.entries; records = c.client_sends.ensures.records; restarted = c.proper_servers.ensures.restarts } in
    bound_on laws by_mds records users boots event w i may

pub returns-clause-otherwise : goal.returns-clause-otherwise
returns-clause-otherwise c = begin_otherwise c.own_periods_law.ensures.periods

pub returns-clause-agrees : goal.returns-clause-agrees
returns-clause-agrees c = agree c.telling_entries.ensures.same c.agreement_law.ensures.agrees

pub returns-clause-owners : goal.returns-clause-owners
returns-clause-owners c = own c.held_mirrors.ensures.owners
