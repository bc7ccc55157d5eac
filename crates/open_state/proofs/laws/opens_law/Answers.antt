use Rattle.std.proofs.Common.{◌∷◌, arith}
use Rattle.open_state.specs.OpensLaws.{WasOpened}
use Rattle.open_state.proofs.Runs.{good}
use Rattle.open_state.proofs.laws.opens_law.Goals as goal

pub returns : goal.returns
returns c = record {
  stands = λ s notes client file run. (good s notes run).stands client file;
  few = λ s notes client run. (good s notes run).few client;
  apart = λ s notes client other file another number run one two. (good s notes run).apart client other file another number one two;
  once = λ s notes client o run given. (good s (WasOpened client o ∷ notes) run).head.once given;
  proper = λ s notes client o run. let h = (good s (WasOpened client o ∷ notes) run).head in (h.first, omega (arith, h.last), h.low, omega (arith, h.high));
}
