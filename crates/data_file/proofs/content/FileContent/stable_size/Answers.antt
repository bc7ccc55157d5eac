use Rattle.std.proofs.Common.{sym, ◌∙◌}
use Rattle.file_pages.specs.Pages.{byte_at}
use Rattle.file_pages.proofs.PageBytes.{length_first_bytes}
use Rattle.data_file.proofs.content.FileContent.stable_size.Goals as goal

pub returns-clause-exact : goal.returns-clause-exact
returns-clause-exact c =
    let f = c.self.inside in
    rw (← c.self.view_is) (c.length.ensures.exact ∙ sym (length_first_bytes (byte_at f.stable.kept) f.stable.size))
