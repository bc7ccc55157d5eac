use Rattle.std.proofs.Common.{◌≡◌, ◌<◌, ◌^◌, [], ◌∷◌, ◌++◌, List, ℕ, length, drop, ap, sym, subst, ◌∙◌, arith}
use Rattle.std.proofs.lemmas.List.{length-drop}
use Rattle.gate_log.specs.Bodies.{HasGatedBody, with_gates}
use Rattle.gate_log.proofs.BodyLemmas.{framed_bytes, has_body, length-with_gates, slice_back}
use Rattle.gate_log.proofs.gated.Gated.framed.Goals as goal

pub invariant_of-result : goal.invariant_of-result
invariant_of-result c =
    let written = c.put_head.new.bytes in
    let now : c.as_mut_slice.result.now ≡ c.args.out ++ 0 ∷ [] = c.as_mut_slice.ensures.value ∙ c.in_ok-push.ensures.items ∙ ap (λ (xs : List ℕ). xs ++ 0 ∷ []) c.into_bytes-bytes.ensures in
    let all : length c.into_bytes-bytes.result.items ≡ length c.args.out = ap length c.into_bytes-bytes.ensures in
    let count : c.len.result ≡ length c.args.out = omega (arith, c.len.ensures, all) in
    let is : written ≡ with_gates (drop 5 c.args.out) = framed_bytes c.args.out written c.as_mut_slice.result.now c.len.result c.requires.room count now c.put_head.ensures in
    let few : length (drop 5 c.args.out) < 2 ^ 32 = omega (arith, c.requires.short, length-drop 5 c.args.out) in
    let size : length written ≡ c.push.new.self.len = omega (arith, ap length is, length-with_gates (drop 5 c.args.out), length-drop 5 c.args.out, c.requires.room, count, c.in_ok-push.ensures.len) in
    subst HasGatedBody (sym (slice_back written c.push.new.self.items c.push.new.self.len size)) (has_body written (drop 5 c.args.out) is few)
