use Rattle.std.proofs.Common.{subst}
use Rattle.ff_xdr.specs.Items.{contents}
use Rattle.nfs4_compound.specs.Results.{resop4, op_res_value}
use Rattle.client_compounds.specs.MdsLists.{AreFew}
use Rattle.client_file_calls.proofs.ManyLemmas.{none_of_more}
use Rattle.client_file_calls.proofs.device_info.device_info_results.Goals as goal

pub returns-in-More : goal.returns-in-More
returns-in-More c =
    let list = contents resop4 op_res_value c.args.results.place in
    none_of_more c.args.count list (subst (λ r. AreFew op_res_value list r) c.in-More.is c.few_of.ensures)
