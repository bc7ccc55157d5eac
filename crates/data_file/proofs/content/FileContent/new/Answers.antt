use Rattle.std.proofs.Common.{refl}
use Rattle.data_file.proofs.Paging.{empty_bytes}
use Rattle.data_file.proofs.content.FileContent.new.Goals as goal

pub returns : goal.returns
returns c = rw (c.new-3.ensures.items, empty_bytes c.new.result c.new.ensures) refl
