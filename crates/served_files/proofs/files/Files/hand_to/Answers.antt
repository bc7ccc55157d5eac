use Rattle.std.proofs.Common.{ap}
use Rattle.mds_rule.specs.LayoutOps.{with_holder}
use Rattle.mds_rule.specs.MdsStates.{ServedFile}
use Rattle.served_files.proofs.FileLists.{is_at, stands, stay_kept, changed}
use Rattle.served_files.proofs.files.Files.hand_to.Goals as goal

pub invariant_of-self : goal.invariant_of-self
invariant_of-self c =
    stay_kept c.self.inside.names c.self.inside.touched.due.keys c.mark.new.touched.due.keys c.self.inside.touched.restless.keys c.mark.new.touched.restless.keys c.self.inside.files.items c.mark.ensures.stay_due
    c.mark.ensures.stay_restless c.self.invariant

pub invariant_of-self-2 : goal.invariant_of-self-2
invariant_of-self-2 c =
    let now = c.args.self.now in
    let files = c.self.inside.files.items in
    let file = c.args.file in
    let place = c.in-Some.place in
    let x = c.index_mut.result.now in
    let y = c.hand_to.new.self in
    let at = is_at now files file place x c.self.view_is c.in-Some.ensures.exact c.in-Some.ensures.within.0 c.in-Some.ensures.within.1 c.index_mut.ensures.value in
    stands now files file place x at y c.self.inside.names c.self.inside.touched.due.keys c.mark.new.touched.due.keys c.self.inside.touched.restless.keys c.mark.new.touched.restless.keys (ap (λ (s : ServedFile). s.name) c.hand_to.ensures)
    c.mark.ensures.stay_due c.in_ok-mark.ensures.due c.mark.ensures.stay_restless c.in_ok-mark.ensures.restless c.self.invariant

pub returns : goal.returns
returns c =
    let now = c.args.self.now in
    let files = c.self.inside.files.items in
    let file = c.args.file in
    let place = c.in-Some.place in
    let x = c.index_mut.result.now in
    let y = c.hand_to.new.self in
    let at = is_at now files file place x c.self.view_is c.in-Some.ensures.exact c.in-Some.ensures.within.0 c.in-Some.ensures.within.1 c.index_mut.ensures.value in
    changed now files file place x at y (with_holder c.args.client c.args.again) c.hand_to.ensures
