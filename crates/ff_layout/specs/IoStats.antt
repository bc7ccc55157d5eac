-- What a client read and wrote at a data server (RFC 8435, sections 9.2.2 and 9.2.3).
use Rattle.ff_xdr.specs.Form.{Form, Boolean, Number64, Pair, Value}
use Rattle.nfs4_types.specs.Handles.{nfs_fh4}
use Rattle.nfs4_types.specs.Ids.{deviceid4}
use Rattle.nfs4_types.specs.Stateids.{stateid4, stateid4_value}
use Rattle.nfs4_types.specs.Times.{nfstime4, nfstime4_value}
use Rattle.nfs4_types.specs.Texts.{netaddr4}
use Rattle.ff_layout.specs.Latency.{ff_io_latency4, ff_io_latency4_value}
use Rattle.ff_layout.specs.declared.io_stats.IoStats.{IoStats}

-- io_info4 (RFC 7862, section 15.7): count, bytes
abbrev pub io_info4 : Form
io_info4 = Pair Number64 Number64

-- ff_layoutupdate4: addr, fhandle, read, write, duration, local
abbrev pub ff_layoutupdate4 : Form
ff_layoutupdate4 = Pair netaddr4 (Pair nfs_fh4 (Pair ff_io_latency4 (Pair ff_io_latency4 (Pair nfstime4 Boolean))))

abbrev pub ff_layoutupdate4_value : IoStats → Value ff_layoutupdate4
ff_layoutupdate4_value s =
    ((s.netid.now, s.address.now), (s.handle.bytes.now, (ff_io_latency4_value s.read_latency, (ff_io_latency4_value s.write_latency, (nfstime4_value s.duration, s.local)))))

-- ff_iostats4: offset, length, stateid, read, write, deviceid, layoutupdate
abbrev pub ff_iostats4 : Form
ff_iostats4 = Pair Number64 (Pair Number64 (Pair stateid4 (Pair io_info4 (Pair io_info4 (Pair deviceid4 ff_layoutupdate4)))))

abbrev pub ff_iostats4_value : IoStats → Value ff_iostats4
ff_iostats4_value s =
    (s.offset, (s.length, (stateid4_value s.stateid, ((s.read_count, s.read_bytes), ((s.write_count, s.write_bytes), (s.device.0, ff_layoutupdate4_value s))))))
