use Rattle.std.proofs.Common.{◌≡◌, ◌≤◌, ℕ, List, length, refl, ap, ◌∙◌, arith}
use Rattle.std.proofs.lemmas.Str.{is_utf8-from_IsUtf8}
use Rattle.ff_xdr.proofs.CutShort.{length-long}
use Rattle.granted_layouts.proofs.LayoutSizes.{device_bytes}
use Rattle.granted_layouts.proofs.granted_layout.put_granted_mirror.Goals as goal

pub put-requires : goal.put-requires
put-requires c κs =
    let device : length c.device_of.result.0 ≡ 16 = ap (λ d. length d.0) c.device_of.ensures ∙ device_bytes c.args.mirror.id.server in
    let handle : length c.file_handle-handle.result ≡ 8 = ap length c.file_handle-handle.ensures ∙ length-long c.args.mirror.id.fileid in
    let user : length c.format-user.result.now ≤ 4294967295 = omega (arith, c.format-user.ensures.short) in
    rw c.made.ensures ((refl, tt), (omega arith, (device, (omega arith, ((omega arith, refl), ((omega arith, (omega (arith, handle), tt)), ((user, is_utf8-from_IsUtf8 c.format-user.result.now c.format-user.utf8), (user, is_utf8-from_IsUtf8 c.format-user.result.now c.format-user.utf8))))))))
