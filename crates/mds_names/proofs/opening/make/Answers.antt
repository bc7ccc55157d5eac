use Rattle.std.proofs.Common.{ap, ◌∙◌, ◌++◌, ◌∷◌, [], ℕ, ◌+◌, List, length}
use Rattle.file_rule.specs.MdsFiles.{MdsFile}
use Rattle.file_rule.specs.FilePhases.{new_mds_file}
use Rattle.mds_rule.specs.MdsStates.{ServedFile}
use Rattle.mds_rule.specs.FileOps.{servers_of, new_served}
use Rattle.mds_state.specs.contracts.state.State as state
use Rattle.mds_names.proofs.opening.make.Goals as goal

pub returns : goal.returns
returns c =
    let s = c.state.inside in
    let m = state.the_view s in
    let servers = c.as_slice.ensures.value ∙ c.of_file-servers.ensures.exact ∙ ap (λ (n : ℕ). servers_of (length m.servers) m.mirrors (n + 1)) c.len-number.ensures.exact in
    rw (← c.state.view_is)
    (ap (λ (files : List ServedFile). record m { files = files; fresh = record { uid = s.fresh.uid + 1; name = s.fresh.name + 1; servers = s.fresh.servers } })
    (c.in_ok-add.ensures ∙ ap (λ (f : MdsFile). s.files ++ new_served c.args.name.now f ∷ []) (c.new-file.ensures s.fresh.servers ∙ ap (λ (xs : List ℕ). new_mds_file s.fresh xs) servers)))
