use Rattle.client_mds_calls.proofs.record.put_on_slot.Goals as goal

pub returns-in-ReclaimComplete : goal.returns-in-ReclaimComplete
returns-in-ReclaimComplete c = rw (c.in-ReclaimComplete.is) c.put_reclaim_complete.ensures

pub returns-in-Open : goal.returns-in-Open
returns-in-Open c = rw (c.in-Open.is) c.put_open.ensures

pub returns-in-LayoutGet : goal.returns-in-LayoutGet
returns-in-LayoutGet c = rw (c.in-LayoutGet.is) c.put_layout_get.ensures

pub returns-in-DeviceInfo : goal.returns-in-DeviceInfo
returns-in-DeviceInfo c = rw (c.in-DeviceInfo.is) c.put_device_info.ensures

pub returns-in-Write : goal.returns-in-Write
returns-in-Write c = rw (c.in-Write.is) c.put_write.ensures

pub returns-in-Read : goal.returns-in-Read
returns-in-Read c = rw (c.in-Read.is) c.put_read.ensures

pub returns-in-LayoutReturn : goal.returns-in-LayoutReturn
returns-in-LayoutReturn c = rw (c.in-LayoutReturn.is) c.put_layout_return.ensures

pub returns-in-Renew : goal.returns-in-Renew
returns-in-Renew c = rw (c.in-Renew.is) c.put_renew.ensures
