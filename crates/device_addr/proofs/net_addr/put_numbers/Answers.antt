use Rattle.std.proofs.Common.{◌≡◌, ◌<◌, length}
use Rattle.device_addr.proofs.TextLemmas.{grows_address}
use Rattle.device_addr.proofs.net_addr.put_numbers.Goals as goal

pub returns : goal.returns
returns c =
    let four : length c.args.address.now.host ≡ 4 = search in
    let small : c.args.address.now.port < 65536 = search in
    grows_address c.args.out.now c.put_number.new.out c.put_more.new.out c.args.address.now.host c.to_be_bytes.result c.args.address.now.port c.put_more.result
    four small c.to_be_bytes.ensures c.in_ok-put_number.ensures c.put_more.ensures
