use Rattle.mds_compounds.proofs.operate.operate.Goals as goal

pub returns-in-Close-clause-op : goal.returns-in-Close-clause-op
returns-in-Close-clause-op c = rw c.in-Close.is (c.close.ensures.op c.args.out.now)

pub returns-in-GetAttr-clause-op : goal.returns-in-GetAttr-clause-op
returns-in-GetAttr-clause-op c = rw c.in-GetAttr.is (c.get_attr.ensures.op c.args.out.now)

pub returns-in-Lookup-clause-op : goal.returns-in-Lookup-clause-op
returns-in-Lookup-clause-op c = rw c.in-Lookup.is (c.lookup.ensures.op c.args.out.now)

pub returns-in-Open-clause-op : goal.returns-in-Open-clause-op
returns-in-Open-clause-op c = rw c.in-Open.is (c.open.ensures.op c.args.out.now)

pub returns-in-Read-clause-op : goal.returns-in-Read-clause-op
returns-in-Read-clause-op c = rw c.in-Read.is (c.read.ensures.op c.args.out.now)

pub returns-in-BindConn-clause-op : goal.returns-in-BindConn-clause-op
returns-in-BindConn-clause-op c = rw c.in-BindConn.is (c.bind_conn_to_session.ensures.op c.args.out.now)

pub returns-in-DestroySession-clause-op : goal.returns-in-DestroySession-clause-op
returns-in-DestroySession-clause-op c = rw c.in-DestroySession.is (c.destroy_session.ensures.op c.args.out.now)

pub returns-in-LayoutCommit-clause-op : goal.returns-in-LayoutCommit-clause-op
returns-in-LayoutCommit-clause-op c = rw c.in-LayoutCommit.is (c.layout_commit.ensures.op c.args.out.now)
