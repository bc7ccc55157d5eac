use Rattle.std.proofs.Common.{◌≡◌, length, refl, ap, ◌∙◌, arith}
use Rattle.std.proofs.lemmas.List.{length-append}
use Rattle.twin_log.specs.Twins.{generation_body}
use Rattle.twin_log.proofs.Files.{length_generation}
use Rattle.twin_log.proofs.generation.generation_record.Goals as goal

pub framed-requires-clause-short : goal.framed-requires-clause-short
framed-requires-clause-short c =
    let front : length c.raw.new.self ≡ 5 = ap length c.in_ok-raw.ensures ∙ rw (c.new-out.ensures) refl in
    let all = ap length c.in_ok-put.ensures ∙ length-append c.raw.new.self (generation_body c.args.number) in
    omega (arith, front, all, length_generation c.args.number)
