use Rattle.rpc_record.specs.Calls.{rpc_call}
use Rattle.record_show.proofs.ShowLemmas.{grows_good, grows_bad}
use Rattle.record_show.proofs.shower.put_args.Goals as goal

pub returns-in-Ok : goal.returns-in-Ok
returns-in-Ok c = grows_good c.args.header (rpc_call c.args.call.now) _ c.args.out.now c.put_judged.new.out c.put_judged.result c.in-Ok.ensures c.put_judged.ensures

pub returns-in-Err : goal.returns-in-Err
returns-in-Err c = grows_bad c.args.header (rpc_call c.args.call.now) c.in-Err.error c.args.out.now c.put_judged-in-Err.new.out c.put_judged-in-Err.result c.in-Err.ensures c.put_judged-in-Err.ensures
