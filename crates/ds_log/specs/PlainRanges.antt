-- Ranges of the code without where their bytes lie.
use Rattle.cluster_model.specs.Content.{Pending}
use Rattle.ds_log.specs.declared.range.Range.{Range}

abbrev pub plain_range : Range → Pending
plain_range r = record { at = r.at; bytes = r.bytes.now }
