use Rattle.std.proofs.Common.{[], ◌∙◌, sym}
use Rattle.rpc_record.proofs.FrameCalls.{front_start}
use Rattle.rpc_record.proofs.frames.Frames.new.Goals as goal

pub returns : goal.returns
returns c = rw c.new.ensures.items (c.at_header.ensures.front [] ∙ sym front_start)
