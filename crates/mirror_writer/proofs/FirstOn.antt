-- The call that is out at the first mirror on a data server.
use Rattle.std.proofs.Common.{◌≡◌, ℕ, List, Option, Some, None, refl, ap, ◌∙◌}
use Rattle.std.specs.Prelude.{◌==◌, option_map}
use Rattle.std.specs.List.{find}
use Rattle.cluster_model.specs.declared.ids.MirrorId.{MirrorId}
use Rattle.mirror_writer.specs.declared.call.WriterCall.{WriterCall}
use Rattle.mirror_writer.specs.Writers.{WriterValue}
use Rattle.mirror_writer.specs.Rooms.{RoomyMirror, mirrors_shown}
use Rattle.mirror_writer.specs.Outstanding.{OutCall, out_call, out_at_mirror}
use Rattle.mirror_writer.proofs.WriterSteps.{find_shown}

-- by the name and the call of that mirror
abbrev pub out_named : WriterValue → Option (MirrorId × WriterCall) → Option OutCall
out_named w None = None
out_named w (Some (id, call)) = out_call w id call

named_out : (w : WriterValue) (first : Option RoomyMirror) → out_named w (option_map (λ r. (r.mirror.id, r.mirror.call)) first) ≡ out_at_mirror w (option_map (λ r. r.mirror) first)
named_out w None = refl
named_out w (Some r) = refl

pub out_first : (w : WriterValue) (server : ℕ) (rs : List RoomyMirror)
    → out_named w (option_map (λ r. (r.mirror.id, r.mirror.call)) (find (λ r. r.mirror.id.server == server) rs)) ≡ out_at_mirror w (find (λ m. m.id.server == server) (mirrors_shown rs))
out_first w server rs = named_out w (find (λ r. r.mirror.id.server == server) rs) ∙ ap (out_at_mirror w) (find_shown (λ m. m.id.server == server) rs)
