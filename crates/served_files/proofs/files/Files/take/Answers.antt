use Rattle.std.proofs.Common.{◌≡◌, ◌<◌, true, List, length, set, Ok, sym, ap, subst, ◌∙◌}
use Rattle.cluster_model.proofs.Elements.{slice_get-set_same}
use Rattle.mds_file.specs.Inputs.{plain_input, is_idle}
use Rattle.mds_rule.specs.MdsStates.{ServedFile}
use Rattle.served_files.specs.Quiet.{IsFileStill}
use Rattle.served_files.proofs.FileLists.{is_at, stands, stay_kept, takes, read_back}
use Rattle.served_files.proofs.QuietLemmas.{all_settled}
use Rattle.served_files.proofs.files.Files.take.Goals as goal

pub invariant_of-self : goal.invariant_of-self
invariant_of-self c =
    stay_kept c.self.inside.names c.self.inside.touched.due.keys c.mark.new.touched.due.keys c.self.inside.touched.restless.keys c.mark.new.touched.restless.keys c.self.inside.files.items c.mark.ensures.stay_due
    c.mark.ensures.stay_restless c.self.invariant

pub invariant_of-self-in_err-has_ended : goal.invariant_of-self-in_err-has_ended
invariant_of-self-in_err-has_ended c =
    let now = c.args.self.now in
    let files = c.self.inside.files.items in
    let file = c.args.file in
    let place = c.in-Some.place in
    let x = c.index_mut.result.now in
    let y = c.take.new.self in
    let at = is_at now files file place x c.self.view_is c.in-Some.ensures.exact c.in-Some.ensures.within.0 c.in-Some.ensures.within.1 c.index_mut.ensures.value in
    stands now files file place x at y c.self.inside.names c.self.inside.touched.due.keys c.mark.new.touched.due.keys c.self.inside.touched.restless.keys c.mark.new.touched.restless.keys c.in_err-has_ended.ensures.takes
    c.mark.ensures.stay_due c.in_ok-mark.ensures.due c.mark.ensures.stay_restless c.in_ok-mark.ensures.restless c.self.invariant

pub invariant_of-self-then-is_idle : goal.invariant_of-self-then-is_idle
invariant_of-self-then-is_idle c =
    let now = c.args.self.now in
    let files = c.self.inside.files.items in
    let file = c.args.file in
    let place = c.in-Some.place in
    let x = c.index_mut.result.now in
    let y = c.take.new.self in
    let at = is_at now files file place x c.self.view_is c.in-Some.ensures.exact c.in-Some.ensures.within.0 c.in-Some.ensures.within.1 c.index_mut.ensures.value in
    let named = ap (λ (s : ServedFile). s.name) c.in_ok-has_ended.ensures.takes.0 in
    let kept = stands now files file place x at y c.self.inside.names c.self.inside.touched.due.keys c.mark.new.touched.due.keys c.self.inside.touched.restless.keys c.mark.new.touched.restless.keys named c.mark.ensures.stay_due
    c.in_ok-mark.ensures.due c.mark.ensures.stay_restless c.in_ok-mark.ensures.restless c.self.invariant in
    let within : place < length files = subst (λ (l : List ServedFile). place < length l) (sym c.self.view_is) c.in-Some.ensures.within.0 in
    let same : c.index.result.now ≡ y = read_back files place x y c.index.result.now at.there within c.index.ensures in
    let idle : is_idle y.file.activity ≡ true = sym (c.is_idle.ensures ∙ ap (λ (s : ServedFile). is_idle s.file.activity) (c.behind-self.view_is ∙ same)) ∙ c.if-is_idle.true in (
      kept.0,
      kept.1,
      kept.2,
      all_settled IsFileStill c.mark.new.touched.restless.keys c.remove.new.self.keys (set files place y) place y (slice_get-set_same files place x y at.there) (c.in_ok-has_ended.ensures.still idle) c.remove.ensures.updates.2 kept.3,
    )

pub invariant_of-self-else-is_idle : goal.invariant_of-self-else-is_idle
invariant_of-self-else-is_idle c =
    let now = c.args.self.now in
    let files = c.self.inside.files.items in
    let file = c.args.file in
    let place = c.in-Some.place in
    let x = c.index_mut.result.now in
    let y = c.take.new.self in
    let at = is_at now files file place x c.self.view_is c.in-Some.ensures.exact c.in-Some.ensures.within.0 c.in-Some.ensures.within.1 c.index_mut.ensures.value in
    stands now files file place x at y c.self.inside.names c.self.inside.touched.due.keys c.mark.new.touched.due.keys c.self.inside.touched.restless.keys c.mark.new.touched.restless.keys
    (ap (λ (s : ServedFile). s.name) c.in_ok-has_ended.ensures.takes.0) c.mark.ensures.stay_due c.in_ok-mark.ensures.due c.mark.ensures.stay_restless c.in_ok-mark.ensures.restless c.self.invariant

pub returns-then-is_idle : goal.returns-then-is_idle
returns-then-is_idle c =
    let now = c.args.self.now in
    let files = c.self.inside.files.items in
    let file = c.args.file in
    let place = c.in-Some.place in
    let x = c.index_mut.result.now in
    let y = c.take.new.self in
    let at = is_at now files file place x c.self.view_is c.in-Some.ensures.exact c.in-Some.ensures.within.0 c.in-Some.ensures.within.1 c.index_mut.ensures.value in
    takes now files file place x at y (plain_input c.args.input) c.args.fresh.now c.args.entries.now.items (Ok c.in_ok-has_ended.has_ended) c.take.new.fresh c.take.new.entries.items c.in_ok-has_ended.ensures.takes

pub returns-else-is_idle : goal.returns-else-is_idle
returns-else-is_idle c =
    let now = c.args.self.now in
    let files = c.self.inside.files.items in
    let file = c.args.file in
    let place = c.in-Some.place in
    let x = c.index_mut.result.now in
    let y = c.take.new.self in
    let at = is_at now files file place x c.self.view_is c.in-Some.ensures.exact c.in-Some.ensures.within.0 c.in-Some.ensures.within.1 c.index_mut.ensures.value in
    takes now files file place x at y (plain_input c.args.input) c.args.fresh.now c.args.entries.now.items (Ok c.in_ok-has_ended.has_ended) c.take.new.fresh c.take.new.entries.items c.in_ok-has_ended.ensures.takes
