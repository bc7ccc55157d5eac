use Rattle.ff_laws.proofs.Records.{request_reads, bytes_are_left, operation_is_left, put_fh_is_missed, server_reads, commit_is_none, handle_is_short}
use Rattle.ff_laws.proofs.laws.worked_records.Goals as goal

pub returns-clause-client : goal.returns-clause-client
returns-clause-client c = request_reads

pub returns-clause-server : goal.returns-clause-server
returns-clause-server c = server_reads.0

pub returns-clause-no_bytes_behind : goal.returns-clause-no_bytes_behind
returns-clause-no_bytes_behind c = bytes_are_left

pub returns-clause-no_operation_behind : goal.returns-clause-no_operation_behind
returns-clause-no_operation_behind c = operation_is_left

pub returns-clause-of_a_handle : goal.returns-clause-of_a_handle
returns-clause-of_a_handle c = put_fh_is_missed

pub returns-clause-no_commit : goal.returns-clause-no_commit
returns-clause-no_commit c = commit_is_none

pub returns-clause-of_eight_bytes : goal.returns-clause-of_eight_bytes
returns-clause-of_eight_bytes c = handle_is_short
