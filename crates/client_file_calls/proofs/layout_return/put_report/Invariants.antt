use Rattle.std.proofs.Common.{◌≡◌, ◌++◌, length, take}
use Rattle.std.specs.List.{flat_map}
use Rattle.ff_xdr.specs.Form.{word}
use Rattle.client_file_calls.proofs.Reports.{error_text}
use Rattle.client_file_calls.proofs.layout_return.put_report.Given as goal

abbrev pub invariant-loop-mirror : goal.invariant-loop-mirror
invariant-loop-mirror l = l.out ≡ l.fn.out ++ (word (length l.failed) ++ flat_map (error_text l.stateid) (take l.mirror-index l.failed))
