-- Ranges of a file without where their bytes lie, and as they are spelled.
use Rattle.std.specs.Prelude.{ℕ, List, map}
use Rattle.std.specs.List.{flat_map}
use Rattle.ff_xdr.specs.Form.{spelling}
use Rattle.cluster_model.specs.Content.{Pending}
use Rattle.ds_log.specs.Bodies.{range_form, range_value}
use Rattle.ds_changes.specs.declared.held.HeldRange.{HeldRange}

abbrev pub plain_held : HeldRange → Pending
plain_held r = record { at = r.at; bytes = r.part }

-- ranges one behind the other
abbrev pub ranges_text : List Pending → List ℕ
ranges_text rs = flat_map (λ v. spelling range_form v) (map range_value rs)
