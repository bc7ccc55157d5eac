use Rattle.std.proofs.Common.{refl}
use Rattle.nfs3_wire.specs.Replies.{nfs3_results}
use Rattle.nfs3_wire.proofs.RepliesOfValues.{reply_known, replys_value}
use Rattle.nfs3_wire.proofs.laws.every_reply.Goals as goal

pub returns-clause-exact : goal.returns-clause-exact
returns-clause-exact c = c.every_arm.ensures nfs3_results refl refl

pub returns-clause-known : goal.returns-clause-known
returns-clause-known c = reply_known

pub returns-clause-a_reply : goal.returns-clause-a_reply
returns-clause-a_reply c = replys_value
