-- How long calls took (RFC 8435, section 9.2.1).
use Rattle.std.specs.Prelude.{ℕ, List, pos}
use Rattle.std.specs.List.{slice_index}
use Rattle.std.proofs.Common.{get_or}
use Rattle.ff_xdr.specs.Form.{Form, Number64, Pair, Value}
use Rattle.nfs4_types.specs.Times.{nfstime4, nfstime4_value}
use Rattle.nfs4_types.specs.declared.time.Time4.{Time4}
use Rattle.ff_layout.specs.declared.latency.Latency.{Latency}

-- ff_io_latency4: ops_requested, bytes_requested, ops_completed, bytes_completed, bytes_not_delivered, total_busy_time,
-- aggregate_completion_time
abbrev pub ff_io_latency4 : Form
ff_io_latency4 = Pair Number64 (Pair Number64 (Pair Number64 (Pair Number64 (Pair Number64 (Pair nfstime4 nfstime4)))))

-- the time at a place of the list, of which there is none behind its end
abbrev pub time_at : List Time4 → ℕ → Time4
time_at times i = get_or times i (record { seconds = pos 0; nanos = 0 })

abbrev pub ff_io_latency4_value : Latency → Value ff_io_latency4
ff_io_latency4_value l =
    (slice_index l.counts 0, (slice_index l.counts 1, (slice_index l.counts 2, (slice_index l.counts 3, (slice_index l.counts 4, (nfstime4_value (time_at l.times 0), nfstime4_value (time_at l.times 1)))))))
