-- The attributes of a session's channel (RFC 8881, section 18.36).
use Rattle.ff_xdr.specs.Form.{Form, Number32, Pair, Array, Value}
use Rattle.nfs4_types.specs.declared.channel.ChannelAttrs.{ChannelAttrs}
use Rattle.nfs4_types.specs.AtMostOne.{listed_one}

-- channel_attrs4: headerpadsize, maxrequestsize, maxresponsesize, maxresponsesize_cached, maxoperations, maxrequests, and
-- rdma_ird, a list of at most one
abbrev pub channel_attrs4 : Form
channel_attrs4 = Pair Number32 (Pair Number32 (Pair Number32 (Pair Number32 (Pair Number32 (Pair Number32 (Array 1 Number32))))))

abbrev pub channel_attrs4_value : ChannelAttrs → Value channel_attrs4
channel_attrs4_value c =
    (c.headerpadsize, (c.maxrequestsize, (c.maxresponsesize, (c.maxresponsesize_cached, (c.maxoperations, (c.maxrequests, listed_one c.rdma_ird))))))
