use Rattle.ds_calls.proofs.reply.results_of.Goals as goal

pub returns-in-Write : goal.returns-in-Write
returns-in-Write c = rw (c.in-Write.is) c.read_write.ensures

pub returns-in-Read : goal.returns-in-Read
returns-in-Read c = rw (c.in-Read.is) c.read_read.ensures
