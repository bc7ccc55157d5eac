use Rattle.std.proofs.Common.{rules}
use Rattle.std.proofs.lemmas.Fn.{filter_same}
use Rattle.mds_rule.specs.ServedFiles.{is_live_size}
use Rattle.file_notes.proofs.sizes.keep_live.Goals as goal

pub returns : goal.returns
returns c = filter_same _ (is_live_size c.args.live) _ (λ x b f' k. search rules) _ _ c.retain.ensures.filtered
