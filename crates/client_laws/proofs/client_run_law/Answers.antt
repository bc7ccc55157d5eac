use Rattle.client_laws.proofs.Runs.{alone, tells, returns as gives_back, silent, once, recalled}
use Rattle.client_laws.proofs.RecalledGo.{recalled_goes}
use Rattle.client_laws.proofs.client_run_law.Goals as goal

-- src/lib.rt:8:1
pub returns : goal.returns
returns c = record { alone = alone; told = tells; returns = gives_back; silent = silent; once = once; recalled = recalled; goes = recalled_goes }
