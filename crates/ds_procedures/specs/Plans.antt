-- What a call comes to: its answer, and what is done.
use Rattle.std.specs.Prelude.{ℕ, List}
use Rattle.nfs3_wire.specs.Replies.{Nfs3Reply}
use Rattle.cluster_model.specs.declared.entry.Entry.{Entry}
use Rattle.cluster_model.specs.Server.{ServerState, Effect, NoEffect, server_after, entries_of}

pub record Plan : Type 0 where
  pub reply : Nfs3Reply
  pub effect : Effect

-- an answer alone
abbrev pub reply_alone : Nfs3Reply → Plan
reply_alone reply = record { reply = reply; effect = NoEffect }

-- one step: the server after it, the answer, and the entries of the journal
pub record Step : Type 0 where
  pub server : ServerState
  pub reply : Nfs3Reply
  pub entries : List Entry

-- the step of a plan, for a user
abbrev pub carried_out : ServerState → ℕ → Plan → Step
carried_out s uid p = record { server = server_after s p.effect; reply = p.reply; entries = entries_of s uid p.effect }
