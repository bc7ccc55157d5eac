use Rattle.rpc_record.proofs.FrameRecords.{record_is_read, marked}
use Rattle.rpc_record.proofs.FrameReadings.{spelled}
use Rattle.rpc_record.proofs.FrameRefusals.{long, many, stands, one}
use Rattle.rpc_record.proofs.frame_law.every_stream.Goals as goal

pub returns-clause-record : goal.returns-clause-record
returns-clause-record c = record_is_read

pub returns-clause-spelled : goal.returns-clause-spelled
returns-clause-spelled c = spelled

pub returns-clause-marked : goal.returns-clause-marked
returns-clause-marked c = marked

pub returns-clause-long : goal.returns-clause-long
returns-clause-long c = long

pub returns-clause-many : goal.returns-clause-many
returns-clause-many c = many

pub returns-clause-stands : goal.returns-clause-stands
returns-clause-stands c = stands

pub returns-clause-one : goal.returns-clause-one
returns-clause-one c = one
