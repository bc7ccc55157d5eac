-- What `show` says of records, and the lines of a source.
use Rattle.std.proofs.Common.{◌≡◌, ℕ, ◌+◌, List, [], ◌∷◌, codes, Result, Ok, Err, refl, sym, ap, subst, ◌∙◌}
use Rattle.std.proofs.lemmas.List.{append-nil}
use Rattle.ff_xdr.specs.declared.error.NoMemory.{NoMemory}
use Rattle.ff_xdr.specs.declared.error.XdrError.{XdrError}
use Rattle.ff_xdr.specs.Form.{Value}
use Rattle.ff_xdr.specs.Calls.{Grows}
use Rattle.ff_xdr.specs.Reading.{arm_reading, whole}
use Rattle.nfs3_wire.specs.Calls.{calls}
use Rattle.rpc_record.specs.Calls.{RpcCall}
use Rattle.line_runs.specs.declared.end.LineStep.{LineStep}
use Rattle.line_runs.specs.declared.end.LineStep.TheVariants as step
use Rattle.line_runs.specs.Tasks.{BeginsLine, IsOutside, ahead_of, on_line}
use Rattle.record_show.specs.Show.{bad_text, args_of, args_text, line_shown, show_from, show_task, by_shown, ShowsLine}

read_so : (c : RpcCall) (v : Value calls) → whole c.args (arm_reading calls c.procedure c.args 0) ≡ Ok v → args_of c ≡ Ok v
unfolding args_of
read_so c v is = is

-- arguments in their form
pub grows_good : (header : ℕ) (c : RpcCall) (v : Value calls) (old new : List ℕ) (r : Result (Unit {0}) NoMemory) → whole c.args (arm_reading calls c.procedure c.args 0) ≡ Ok v → Grows old r new (codes "good") → Grows old r new (args_text header (args_of c))
grows_good header c v old new r is grows = subst (λ (x : Result (Value calls) XdrError). Grows old r new (args_text header x)) (sym (read_so c v is)) grows

refused_so : (c : RpcCall) (e : XdrError) → whole c.args (arm_reading calls c.procedure c.args 0) ≡ Err e → args_of c ≡ Err e
unfolding args_of
refused_so c e is = is

-- arguments that are refused
pub grows_bad : (header : ℕ) (c : RpcCall) (e : XdrError) (old new : List ℕ) (r : Result (Unit {0}) NoMemory) → whole c.args (arm_reading calls c.procedure c.args 0) ≡ Err e → Grows old r new (bad_text (header + e.place) e.why) → Grows old r new (args_text header (args_of c))
grows_bad header c e old new r is grows = subst (λ (x : Result (Value calls) XdrError). Grows old r new (args_text header x)) (sym (refused_so c e is)) grows

-- what a line did is what a step of a task does
pub shows_line : (number : ℕ) (line text text' : List ℕ) (r : Result LineStep NoMemory) → ShowsLine text (line_shown line) r text' → BeginsLine number (on_line line (ahead_of number show_task)) text r show_task text'
shows_line number line text text' (Ok step.Done) shows = record {
  more = shows.0;
  now = shows.2;
  same = λ lines. ap (λ o. by_shown number o (show_from (number + 1) lines)) shows.1;
  after = λ lines. refl;
}
shows_line number line text text' (Ok step.More) shows = absurd shows
shows_line number line text text' (Ok step.Outside) shows = record {
  more = [];
  now = shows.1 ∙ sym (append-nil text);
  why = λ lines. subst (λ o. IsOutside number (by_shown number o (show_from (number + 1) lines))) (sym shows.0) (refl, refl, refl);
  adds = λ lines. ap (λ o. (by_shown number o (show_from (number + 1) lines)).text) shows.0;
  closing = λ lines. ap (λ o. (by_shown number o (show_from (number + 1) lines)).closing) shows.0;
  after = λ lines. refl;
}
shows_line number line text text' (Ok (step.Limited count)) shows = absurd shows
shows_line number line text text' (Err e) shows = record {
  part = [];
  now = shows ∙ sym (append-nil text);
  begins = λ lines. record { rest = (show_from number (line ∷ lines)).text; whole = refl };
}
