use Rattle.std.proofs.Common.{◌≡◌, List, ℕ, true, ◌∷◌, length, subst, arith}
use Rattle.ff_xdr.specs.Calls.{Puts}
use Rattle.client_compounds.specs.MdsArguments.{compound_args, sequence_op}
use Rattle.client_file_calls.specs.FileOps.{device_info_ops}
use Rattle.client_file_calls.proofs.Sliced.{three_of, four_of}
use Rattle.client_file_calls.proofs.device_info.put_device_info.Goals as goal

pub returns-in-len3 : goal.returns-in-len3
returns-in-len3 c =
    let size : length c.args.servers.now ≡ 3 = omega arith in
    subst (λ (xs : List ℕ). Puts c.args.out.now c.put_three.result c.put_three.new.out (compound_args (sequence_op c.args.start.session c.args.start.sequence true ∷ device_info_ops xs)))
    (three_of c.args.servers.now size) c.put_three.ensures

pub returns-in-len4 : goal.returns-in-len4
returns-in-len4 c =
    let size : length c.args.servers.now ≡ 4 = omega arith in
    subst (λ (xs : List ℕ). Puts c.args.out.now c.put_four.result c.put_four.new.out (compound_args (sequence_op c.args.start.session c.args.start.sequence true ∷ device_info_ops xs)))
    (four_of c.args.servers.now size) c.put_four.ensures
