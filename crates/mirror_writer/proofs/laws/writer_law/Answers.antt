use Rattle.mirror_writer.proofs.CoverLaw.{covers, commits}
use Rattle.mirror_writer.proofs.PlainLaws.{disjoint, stays, committed, sends_taken}
use Rattle.mirror_writer.proofs.laws.writer_law.Goals as goal

pub returns : goal.returns
returns c = record {
  disjoint = disjoint;
  covers = covers;
  stays = stays;
  commits = commits;
  committed = committed;
  sends = sends_taken;
}
