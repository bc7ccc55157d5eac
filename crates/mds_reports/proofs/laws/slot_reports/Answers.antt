use Rattle.mds_reports.proofs.ReportRuns.{reports_agree}
use Rattle.mds_reports.proofs.laws.slot_reports.Goals as goal

pub returns : goal.returns
returns c = record { agree = reports_agree c.effect_law.ensures.numbered }
