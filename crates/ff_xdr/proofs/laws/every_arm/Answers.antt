use Rattle.ff_xdr.proofs.Arms.{arm_again, arm_spelled}
use Rattle.ff_xdr.proofs.ArmRefusals.{arm_short_at_end, arm_refused_there, no_arm_there, no_arm_whole}
use Rattle.ff_xdr.proofs.FirstFault.{first_arm_fault}
use Rattle.ff_xdr.proofs.WholeArms.{whole_arm_again, whole_arm_spelled, whole_arm_short, whole_arm_stops, whole_arm_rest, whole_arm_none, whole_arm_cut, whole_arm_least}
use Rattle.ff_xdr.proofs.laws.every_arm.Goals as goal

pub returns : goal.returns
returns c = λ form sound union.
    let again = arm_again form sound union in
    let spelled = arm_spelled form sound union in
    let stops = whole_arm_stops form sound union (arm_refused_there form sound union) in
    record {
      again = again;
      spelled = spelled;
      short = arm_short_at_end form sound union;
      stops = arm_refused_there form sound union;
      none = no_arm_there form sound union;
      cut = no_arm_whole form sound union;
      least = λ filled. first_arm_fault form sound filled union;
      whole_again = whole_arm_again form again;
      whole_spelled = whole_arm_spelled form spelled;
      whole_short = whole_arm_short form (arm_short_at_end form sound union);
      whole_stops = stops;
      whole_rest = whole_arm_rest form;
      whole_none = whole_arm_none form again stops;
      whole_cut = whole_arm_cut form again;
      whole_least = λ filled. whole_arm_least form spelled (first_arm_fault form sound filled union);
    }
