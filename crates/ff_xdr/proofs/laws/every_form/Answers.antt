use Rattle.ff_xdr.proofs.Again.{again}
use Rattle.ff_xdr.proofs.SpelledSo.{spelled}
use Rattle.ff_xdr.proofs.Refusals.{short_at_end, refused_there, none_there, none_whole, whole_short_at_end, whole_refused_there, no_whole_there}
use Rattle.ff_xdr.proofs.WholeForms.{rest_just_where, no_whole}
use Rattle.ff_xdr.proofs.FirstFault.{first_fault, first_whole_fault}
use Rattle.ff_xdr.proofs.laws.every_form.Goals as goal

pub returns : goal.returns
returns c = λ form sound. record {
  again = again form sound;
  spelled = spelled form sound;
  short = short_at_end form sound;
  stops = refused_there form sound;
  none = none_there form sound;
  cut = none_whole form sound;
  least = first_fault form sound;
  whole_short = whole_short_at_end form sound;
  whole_stops = whole_refused_there form sound;
  whole_rest = rest_just_where form;
  whole_none = no_whole_there form sound;
  whole_cut = no_whole form sound;
  whole_least = first_whole_fault form sound;
}
