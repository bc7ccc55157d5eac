use Rattle.std.proofs.Common.{rules, filter, ap, ◌∙◌}
use Rattle.std.proofs.lemmas.Fn.{filter_same}
use Rattle.open_state.specs.Opens.{is_other}
use Rattle.open_state.proofs.client_opens.ClientOpens.remove.Goals as goal

pub returns : goal.returns
returns c =
    filter_same _ (is_other c.args.file) _ (λ x b f' k. search rules) _ _ c.retain.ensures.filtered ∙ ap (filter (is_other c.args.file)) c.self.view_is
