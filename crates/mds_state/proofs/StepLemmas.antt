-- One step, and then another.
use Rattle.std.proofs.Common.{◌≡◌, List, [], ◌++◌, map, refl, sym, ap, subst, ◌∙◌}
use Rattle.std.proofs.lemmas.List.{append_assoc, append-nil, map-append}
use Rattle.cluster_model.specs.declared.entry.Entry.{Entry}
use Rattle.cluster_model.specs.declared.outbox.Outbox.{Outbox}
use Rattle.mds_rule.specs.MdsStates.{MdsSend, MdsValue, MdsStep, sends_none, and_then}
use Rattle.mds_rule.specs.Spelled.{spelled_send}
use Rattle.compound_run.specs.CompoundRuns.{HasMadeStep}

pub stepped_then : (s : MdsStep) (next : MdsValue → MdsStep) (old mid new : Outbox) (m n : MdsValue) → HasMadeStep s old m mid → HasMadeStep (next m) mid n new → HasMadeStep (and_then s next) old n new
stepped_then s next old mid new m n first second = record {
  mds = second.mds ∙ ap (λ x. (next x).mds) first.mds;
  entries =
      second.entries
      ∙ ap (λ l. l ++ (next m).entries) first.entries
      ∙ append_assoc old.entries.items s.entries (next m).entries
      ∙ ap (λ x. old.entries.items ++ (s.entries ++ (next x).entries)) first.mds;
  sends =
      second.sends
      ∙ ap (λ l. l ++ map spelled_send (next m).sends) first.sends
      ∙ append_assoc old.sends.items (map spelled_send s.sends) (map spelled_send (next m).sends)
      ∙ ap (λ l. old.sends.items ++ l) (sym (map-append spelled_send s.sends (next m).sends))
      ∙ ap (λ x. old.sends.items ++ map spelled_send (s.sends ++ (next x).sends)) first.mds;
}

-- nothing was done
pub stepped_none : (m : MdsValue) (out : Outbox) → HasMadeStep (sends_none m) out m out
stepped_none m out = record { mds = refl; entries = sym (append-nil out.entries.items); sends = sym (append-nil out.sends.items) }
