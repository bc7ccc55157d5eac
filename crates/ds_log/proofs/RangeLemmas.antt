-- Ranges are their plain values again.
use Rattle.std.proofs.Common.{◌≡◌, List, [], ◌∷◌, refl, ap, map, ◌∙◌}
use Rattle.ff_xdr.specs.declared.place.ItemsPlace.{ItemsPlace}
use Rattle.ff_xdr.specs.Items.{contents}
use Rattle.ff_xdr.specs.Form.{Value}
use Rattle.cluster_model.specs.Content.{Pending}
use Rattle.ds_log.specs.declared.range.Range.{Range}
use Rattle.ds_log.specs.PlainRanges.{plain_range}
use Rattle.ds_log.specs.PlainBodies.{plain_ranges}
use Rattle.ds_log.specs.Bodies.{range_form, range_value, range_from}

pub ranges_again : (vs : List (Value range_form)) → map range_value (map range_from vs) ≡ vs
ranges_again [] = refl
ranges_again (v ∷ vs) = ap (λ (ws : List (Value range_form)). v ∷ ws) (ranges_again vs)

-- ranges that were handed in are their own plain values
plain_of_values : (rs : List Range) → map range_from (map (λ r. range_value (plain_range r)) rs) ≡ map plain_range rs
plain_of_values [] = refl
plain_of_values (r ∷ rs) = ap (λ (ws : List Pending). plain_range r ∷ ws) (plain_of_values rs)

pub ranges_made : (place : ItemsPlace Range) (rs : List Range) → contents range_form (λ (r : Range). range_value (plain_range r)) place ≡ map (λ r. range_value (plain_range r)) rs → plain_ranges place ≡ map plain_range rs
ranges_made place rs made = ap (λ (vs : List (Value range_form)). map range_from vs) made ∙ plain_of_values rs
