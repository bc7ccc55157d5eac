use Rattle.std.proofs.Common.{◌-◌, length, take, drop, sym, ap, subst, ◌∙◌}
use Rattle.mds_file.specs.Inputs.{is_idle}
use Rattle.mds_rule.specs.MdsStates.{ServedFile}
use Rattle.served_files.specs.Quiet.{IsFileStill}
use Rattle.served_files.proofs.StillLemmas.{heard_still}
use Rattle.served_files.proofs.file.ServedFile.take.Goals as goal

pub returns-clause-still : goal.returns-clause-still
returns-clause-still c =
    let s : ServedFile = record {
      name = c.self.inside.name;
      file = c.take.new.self;
      sizes = c.self.inside.sizes.items;
      periods = c.self.inside.periods;
      holder = c.self.inside.holder;
      seqid = c.self.inside.seqid;
      write = c.self.inside.write;
      reads = c.self.inside.reads;
    } in
    λ idle. subst IsFileStill (sym c.hear.ensures.file) (heard_still s (take (length c.deref.result.now - c.len-before.result) (drop c.len-before.result c.deref.result.now)) (sym (ap (λ (s : ServedFile). is_idle s.file.activity) c.hear.ensures.file) ∙ idle))
