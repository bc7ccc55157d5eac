use Rattle.std.proofs.Common.{false, [], refl, arith, inl, inr}
use Rattle.std.specs.Fmt.{digits}
use Rattle.cluster_model.specs.declared.ids.NodeId.TheVariants.{Mds, Client}
use Rattle.cluster_model.specs.declared.phase.EndCause.TheVariants.{Returned}
use Rattle.cluster_laws.proofs.bound_runs.Goals as goal

pub returns-clause-two_periods : goal.returns-clause-two_periods
returns-clause-two_periods c = (tt, (tt, (tt, (tt, (tt, (record { place = 0; held = _; there = refl; its_uid = refl; so = record { some = omega arith; apart = tt; follows = refl; not_clean = tt } }, (inl (inl refl), (tt, (tt, (tt, (record { place = 0; held = _; there = refl; its_uid = refl; so = inr (record { some = omega arith; sent = inl refl; covered = (record { writer = Client 1; write_xid = 1; write_gid = 65536; synced = false; write_place = 2; write = refl; verifier = 1; write_shown = _; written_place = 3; written = refl; committer = Client 1; commit_xid = 2; commit_uid = 65536; commit_gid = 65536; commit_place = 4; behind = omega arith; commit = refl; commit_shown = _; committed_place = 5; committed = refl }, tt) }) }, (λ is_recalled phase user. record { follows = refl; covered = ((record { writer = Client 1; write_xid = 1; write_gid = 65536; synced = false; write_place = 2; write = refl; verifier = 1; write_shown = _; written_place = 3; written = refl; committer = Client 1; commit_xid = 2; commit_uid = 65536; commit_gid = 65536; commit_place = 4; behind = omega arith; commit = refl; commit_shown = _; committed_place = 5; committed = refl }, tt), tt) }, (tt, (tt, (tt, (tt, (tt, (tt, (tt, (record { place = 1; held = _; there = refl; its_uid = refl; so = record { some = omega arith; apart = tt; follows = refl; not_clean = tt } }, (inl (inl refl), (tt, (tt, (tt, (record { place = 1; held = _; there = refl; its_uid = refl; so = inr (record { some = omega arith; sent = inl refl; covered = (record { writer = Client 1; write_xid = 3; write_gid = 65537; synced = false; write_place = 10; write = refl; verifier = 1; write_shown = _; written_place = 11; written = refl; committer = Client 1; commit_xid = 4; commit_uid = 65537; commit_gid = 65537; commit_place = 12; behind = omega arith; commit = refl; commit_shown = _; committed_place = 13; committed = refl }, tt) }) }, (λ is_recalled phase user. record { follows = refl; covered = ((record { writer = Client 1; write_xid = 3; write_gid = 65537; synced = false; write_place = 10; write = refl; verifier = 1; write_shown = _; written_place = 11; written = refl; committer = Client 1; commit_xid = 4; commit_uid = 65537; commit_gid = 65537; commit_place = 12; behind = omega arith; commit = refl; commit_shown = _; committed_place = 13; committed = refl }, tt), tt) }, (tt, (tt, (tt, (tt, (tt, (tt, (tt, (tt, (tt, tt)))))))))))))))))))))))))))))))))))

pub returns-clause-reported : goal.returns-clause-reported
returns-clause-reported c = (tt, (tt, (tt, (tt, (tt, (tt, (tt, (tt, (record { place = 0; held = _; there = refl; its_uid = refl; so = record { some = omega arith; apart = tt; follows = refl; not_clean = tt } }, (inl (inl refl), (inl (inl refl), (tt, (tt, (tt, (λ is_recalled phase user. record { follows = refl; covered = ((record { writer = Client 1; write_xid = 1; write_gid = 65536; synced = false; write_place = 4; write = refl; verifier = 1; write_shown = _; written_place = 6; written = refl; committer = Client 1; commit_xid = 3; commit_uid = 65536; commit_gid = 65536; commit_place = 7; behind = omega arith; commit = refl; commit_shown = _; committed_place = 8; committed = refl }, tt), tt) }, (tt, (record { place = 0; held = _; there = refl; its_uid = refl; so = inl (record { cause = Returned; more = []; causes = refl; clean = refl }) }, (tt, (tt, (tt, (tt, (tt, (tt, (tt, (tt, tt)))))))))))))))))))))))))

pub returns-clause-own_write : goal.returns-clause-own_write
returns-clause-own_write c = (tt, (tt, (tt, (tt, (omega arith, (inl (inl refl), (tt, (tt, (tt, (tt, (λ is_recalled phase. record { follows = refl; covered = ((record { writer = Mds; write_xid = 2; write_gid = 65536; synced = false; write_place = 2; write = refl; verifier = 1; write_shown = _; written_place = 3; written = refl; committer = Mds; commit_xid = 3; commit_uid = 65536; commit_gid = 65536; commit_place = 4; behind = omega arith; commit = refl; commit_shown = _; committed_place = 5; committed = refl }, tt), tt) }, (tt, (tt, (tt, tt))))))))))))))

pub returns-clause-resilver : goal.returns-clause-resilver
unfolding digits
returns-clause-resilver c = (tt, (tt, (tt, (tt, (tt, (tt, (tt, (omega arith, (inl (inl refl), (tt, (tt, (tt, (tt, (λ is_recalled phase. record { follows = refl; covered = ((record { writer = Mds; write_xid = 3; write_gid = 65536; synced = false; write_place = 4; write = refl; verifier = 1; write_shown = _; written_place = 5; written = refl; committer = Mds; commit_xid = 4; commit_uid = 65536; commit_gid = 65536; commit_place = 6; behind = omega arith; commit = refl; commit_shown = _; committed_place = 7; committed = refl }, tt), tt) }, (tt, (tt, (tt, (tt, (tt, (tt, (tt, (tt, (tt, (tt, (tt, (tt, (tt, (tt, (tt, (tt, (tt, (tt, (tt, (tt, (tt, (tt, tt))))))))))))))))))))))))))))))))))))

pub returns-clause-strays : goal.returns-clause-strays
returns-clause-strays c = (tt, (tt, (tt, (tt, (tt, (record { place = 0; held = _; there = refl; its_uid = refl; so = record { some = omega arith; apart = tt; follows = refl; not_clean = tt } }, (inl (inl refl), (tt, (record { place = 0; held = _; there = refl; its_uid = refl; so = tt }, (inr (inl refl), (tt, (tt, (tt, (tt, (tt, (tt, (tt, (tt, (tt, tt)))))))))))))))))))

pub returns-clause-copied : goal.returns-clause-copied
unfolding digits
returns-clause-copied c = (tt, (tt, (tt, (tt, (tt, (tt, (tt, (tt, (record { place = 0; held = _; there = refl; its_uid = refl; so = record { some = omega arith; apart = tt; follows = refl; not_clean = tt } }, (inl (inl refl), (tt, (tt, (tt, (tt, (tt, (tt, (tt, (tt, (tt, (tt, (tt, (tt, (tt, (tt, (tt, (tt, (tt, (tt, (tt, (tt, (tt, (tt, (tt, (tt, (tt, (tt, (tt, (tt, (tt, tt)))))))))))))))))))))))))))))))))))))))
