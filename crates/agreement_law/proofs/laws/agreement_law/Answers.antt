use Rattle.cluster_laws.specs.Machine.{new_machine, journal_of}
use Rattle.cluster_laws.specs.FenceLaw.{new_servers}
use Rattle.agreement_law.proofs.Copies.{copies_sound}
use Rattle.agreement_law.proofs.laws.agreement_law.Goals as goal

pub returns : goal.returns
returns c = record {
  agrees = λ boots moves bound f.
      let copies = copies_sound (journal_of (new_machine (new_servers 1 boots)) moves) (c.copied_bytes.ensures.applied boots moves bound) (c.copied_bytes.ensures.late boots moves bound) (c.copied_bytes.ensures.swapped boots moves bound) (c.copied_bytes.ensures.freed boots moves bound) in
      let sound = c.sound_runs.ensures.sound boots moves bound copies f in
      c.sound_journals.ensures.agree f (journal_of (new_machine (new_servers 1 boots)) moves) sound.0 sound.1;
}
