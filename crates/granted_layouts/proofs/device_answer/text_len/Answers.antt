use Rattle.std.proofs.Common.{◌≡◌, ◌<◌, length, arith}
use Rattle.granted_layouts.proofs.DeviceSizes.{text_size}
use Rattle.granted_layouts.proofs.device_answer.text_len.Goals as goal

pub returns-clause-length : goal.returns-clause-length
returns-clause-length c =
    let four : length c.args.address.now.host ≡ 4 = search in
    let small : c.args.address.now.port < 65536 = search in
    let size = text_size c.args.address.now.host c.to_be_bytes.result c.args.address.now.port four small c.to_be_bytes.ensures in
    omega (arith, size, c.decimal_len.ensures.length, c.decimal_len-2.ensures.length, c.decimal_len-3.ensures.length, c.decimal_len-4.ensures.length, c.decimal_len-5.ensures.length, c.decimal_len-6.ensures.length)
