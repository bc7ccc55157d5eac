use Rattle.mds_io.proofs.own_write.MdsWrite.waiting_mirror.Goals as goal

pub returns : goal.returns
returns c xid = rw (← c.self.view_is) (c.waiting_mirror.ensures xid)
