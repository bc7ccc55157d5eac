use Rattle.mds_forms.proofs.FormedSends.{stays_in_form}
use Rattle.mds_forms.proofs.laws.mds_forms.Goals as goal

pub returns : goal.returns
returns c = stays_in_form
