-- Bodies of the code without where their bytes lie.
use Rattle.std.specs.Prelude.{List, map}
use Rattle.ff_xdr.specs.declared.place.ItemsPlace.{ItemsPlace}
use Rattle.ff_xdr.specs.Items.{contents}
use Rattle.cluster_model.specs.Content.{Pending}
use Rattle.ds_log.specs.declared.range.Range.{Range}
use Rattle.ds_log.specs.declared.body.LogBody.{LogBody}
use Rattle.ds_log.specs.declared.body.LogBody.TheVariants as log
use Rattle.ds_log.specs.PlainRanges.{plain_range}
use Rattle.ds_log.specs.Bodies.{Logged, Boots, Creates, SetsAttributes, HoldsBytes, HoldsFile, HoldsRoot, range_form, range_value, range_from}

abbrev pub plain_ranges : ItemsPlace Range → List Pending
plain_ranges place = map range_from (contents range_form (λ r. range_value (plain_range r)) place)

abbrev pub plain_body : LogBody → Logged
plain_body (log.Boot boot) = Boots boot
plain_body (log.Create name fileid owner group mode tick) = Creates name.now fileid owner group mode tick
plain_body (log.SetAttr fileid owner group mode times) = SetsAttributes fileid owner group mode times
plain_body (log.Bytes fileid mtime ctime ranges) = HoldsBytes fileid mtime ctime (plain_ranges ranges.items.place)
plain_body (log.File name fileid owner group mode times) = HoldsFile name.now fileid owner group mode times
plain_body (log.Root times) = HoldsRoot times
