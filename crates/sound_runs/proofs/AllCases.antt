-- All that holds behind a bound run: of files and users, of writers, and of owners.
use Rattle.std.proofs.Common.{◌≡◌, ℕ, zero, suc, ◌+◌, ◌-◌, ◌<◌, ◌⊎◌, Bool, true, false, List, [], ◌∷◌, ◌++◌, length, set, Option, Some, None, refl, sym, ap, subst, ◌∙◌, inl, inr, arith, append-nil}
use Rattle.std.specs.Prelude.{slice_get}
use Rattle.std.specs.List.{AllByRecursion}
use Rattle.std.proofs.lemmas.Option.{same_Some}
use Rattle.cluster_model.specs.declared.ids.FileId.{FileId}
use Rattle.cluster_model.specs.declared.ids.MirrorId.{MirrorId}
use Rattle.cluster_model.specs.declared.piece.Piece.{Piece}
use Rattle.cluster_model.specs.declared.entry.Entry.{Entry}
use Rattle.cluster_model.specs.declared.entry.Entry.TheVariants as entry
use Rattle.cluster_model.specs.declared.layout_state.LayoutState.{LayoutState}
use Rattle.cluster_model.specs.Content.{Pending}
use Rattle.cluster_model.specs.File.{StoredFile, FileOp, Writes, Commits, Sets, Restarts as Restarted}
use Rattle.cluster_model.specs.Journal.{content_of}
use Rattle.cluster_model.specs.Server.{ServerState, Caller, Effect, NoEffect, OnFile, NewFile, mirror_of, applied_entries, committed_entries, owner_entries, op_entries, entries_of, restart_of, new_server}
use Rattle.cluster_model.specs.DsCalls.{DsCallValue, Create, SetAttr, Write, Commit, Read, ds_plan, ds_step}
use Rattle.cluster_model.specs.GuardLaws.{IsInOrder, Follows, CallLaws, RestartLaws}
use Rattle.file_rule.specs.MdsFiles.{MdsFile, a_uid}
use Rattle.file_rule.specs.FilePhases.{call_out, phase}
use Rattle.cluster_laws.specs.Machine.{PacketValue, Call, Machine, Move, new_machine, numbered_at, with_server, with_packets, puts_out, caller_by, file_id, fresh_of, may_use, machine_after, journal_of}
use Rattle.cluster_laws.specs.FenceLaw.{live_in, is_among, new_servers}
use Rattle.cluster_laws.specs.Periods.{was_granted}
use Rattle.cluster_laws.specs.Holders.{IsCovered, IsIn}
use Rattle.sound_journals.specs.Marks.{marks_of}
use Rattle.cluster_laws.proofs.Lists.{all_append, all_at, all_more, place_of}
use Rattle.cluster_laws.proofs.Invariant.{net_of}
use Rattle.cluster_laws.proofs.KnownNow.{all_stand}
use Rattle.machine_walk.proofs.Stories.{Story, drawn_story, onward_same, onward_drawn, IsOnward, IsMoment, AreEach}
use Rattle.machine_walk.proofs.MoveCases.{after_call, Cases}
use Rattle.machine_walk.proofs.Placed.{its_call}
use Rattle.cluster_laws.proofs.CallsOut.{mds_call}
use Rattle.machine_walk.proofs.StepKinds.{IsTakenWith, NoWrite, OneWrite}
use Rattle.machine_walk.proofs.StepsByKind.{phase_kind}
use Rattle.machine_walk.proofs.Writers.{is_applied, IsSilent, IsGrantOf, grant_or}
use Rattle.machine_walk.proofs.WriterFacts.{KnowsWriters}
use Rattle.machine_walk.proofs.WriterCases.{writer_cases}
use Rattle.machine_walk.proofs.WriterRuns.{first_story}
use Rattle.sound_runs.proofs.CallLayouts.{layout_kept}
use Rattle.sound_runs.proofs.ViewFolds.{users_of, users_append, live_is}
use Rattle.sound_runs.proofs.OnceGranted.{IsUser}
use Rattle.sound_runs.proofs.Serving.{AreServing, all_users}
use Rattle.sound_runs.proofs.SoFar.{IsNotedSo, IsSoFar}
use Rattle.sound_runs.proofs.SoundSteps.{steps, same_files, calls_out, creates, served_so, call_is, call_laws, call_follows, call_serving, serves, takes, strays, tells}
use Rattle.sound_runs.proofs.Owners.{IsOwnCall, IsOwnPacket, AreOwn, KnowsOwners, own_packets_on, servers_on, names_drawn, own_served, servers_set, follow_set}
use Rattle.sound_runs.proofs.OwnerSteps.{own_goes, owners_step, owners_same, own_live}

-- a live mirror that belongs to a user that was granted belongs to one of its file
abbrev pub FindsUser : List Entry → Type 0
FindsUser before = (f : FileId) (id : MirrorId) → is_among id (live_in before f) ≡ true → was_granted before (content_of before id).owner ≡ true → IsUser (content_of before id).owner (users_of before f)

abbrev pub FindsAt : List Entry → Entry → Type 0
FindsAt before (entry.Applied mirror cred at bytes) = FindsUser before
FindsAt before _ = Unit {0}

pub record IsAllNoted (before : List Entry) (e : Entry) : Type 0 where
  pub noted : IsNotedSo before e
  pub finds : FindsAt before e

pub record AllSo (t : Story) (m : Machine) (journal : List Entry) : Type 0 where
  pub so : IsSoFar t m journal
  pub writers : KnowsWriters t m journal
  pub owners : KnowsOwners t m journal

abbrev pub AllNoted : Story → ℕ → List Entry → Entry → Type 0
AllNoted t uid before e = IsAllNoted before e

both_each : (before es : List Entry) → AreEach IsNotedSo before es → AreEach FindsAt before es → AreEach IsAllNoted before es
both_each before [] a b = tt
both_each before (e ∷ es) a b = (record { noted = a.0; finds = b.0 }, both_each (before ++ e ∷ []) es a.1 b.1)

quiet_one : (before : List Entry) (e : Entry) → is_applied e ≡ false → FindsAt before e
quiet_one before (entry.Applied mirror cred at bytes) h = absurd cc
quiet_one before _ h = tt

quiet_each : (before es : List Entry) → AllByRecursion (λ e. is_applied e ≡ false) es → AreEach FindsAt before es
quiet_each before [] h = tt
quiet_each before (e ∷ es) h = (quiet_one before e h.0, quiet_each (before ++ e ∷ []) es h.1)

pub step_quiet : (t : Story) (uid n : ℕ) (s : LayoutState) (es : List Entry) → IsGrantOf t uid n s es ⊎ AllByRecursion IsSilent es → AllByRecursion (λ e. is_applied e ≡ false) es
step_quiet t uid n s es (inl g) = subst (AllByRecursion (λ e. is_applied e ≡ false)) (sym g.is) (refl, writes g.writes g.taken)
  where
    writes : (ws : List Entry) → IsTakenWith n g.cred ws → AllByRecursion (λ e. is_applied e ≡ false) ws
    writes ws NoWrite = tt
    writes ws (OneWrite at bytes) = (refl, tt)
step_quiet t uid n s es (inr silent) = all_more IsSilent (λ e. is_applied e ≡ false) es (λ e k. k.applied) silent

-- ---- the entries of a call

applied_finds : (journal : List Entry) (finds : FindsUser journal) (id : MirrorId) (uid at : ℕ) (bytes : List ℕ) (synced : Bool) → AreEach FindsAt journal (applied_entries id uid at bytes ++ committed_entries id synced)
applied_finds journal finds id uid at [] false = tt
applied_finds journal finds id uid at [] true = (tt, tt)
applied_finds journal finds id uid at (b ∷ bytes) false = (finds, tt)
applied_finds journal finds id uid at (b ∷ bytes) true = (finds, (tt, tt))

owner_finds : (journal : List Entry) (id : MirrorId) (owner : Option ℕ) → AreEach FindsAt journal (owner_entries id owner)
owner_finds journal id None = tt
owner_finds journal id (Some uid) = (tt, tt)

op_finds : (journal : List Entry) (finds : FindsUser journal) (id : MirrorId) (uid : ℕ) (op : FileOp) → AreEach FindsAt journal (op_entries id uid op)
op_finds journal finds id uid (Writes at synced bytes) = applied_finds journal finds id uid at bytes synced
op_finds journal finds id uid Commits = (tt, tt)
op_finds journal finds id uid (Sets changes) = owner_finds journal id changes.owner
op_finds journal finds id uid (Restarted pieces) = tt

effect_finds : (journal : List Entry) (finds : FindsUser journal) (s : ServerState) (uid : ℕ) (effect : Effect) → AreEach FindsAt journal (entries_of s uid effect)
effect_finds journal finds s uid NoEffect = tt
effect_finds journal finds s uid (OnFile index op) = op_finds journal finds (mirror_of s index) uid op
effect_finds journal finds s uid (NewFile name owner group mode) = (tt, tt)

used_own : (t : Story) (m : Machine) (server : ℕ) (call : DsCallValue) → may_use call ≡ true → IsOwnCall t m.servers m.next_uid m.next_name server call
used_own t m server (Create name owner) e = tt
used_own t m server (SetAttr fileid owner guard) e = absurd cc
used_own t m server (Write fileid at synced bytes) e = tt
used_own t m server (Commit fileid) e = tt
used_own t m server (Read fileid at count) e = tt

module _ (coverage : (boots : List ℕ) (moves : List Move) (uid : ℕ) (id : MirrorId) (w : Pending) → 0 < length w.bytes → IsCovered (machine_after (new_machine (new_servers 1 boots)) moves).packets uid id w → IsIn w (marks_of (journal_of (new_machine (new_servers 1 boots)) moves) uid id).covered)
    (calls : (s : ServerState) (caller : Caller) (call : DsCallValue) → IsInOrder s → CallLaws s caller call (ds_step s caller call).server (ds_step s caller call).reply (ds_step s caller call).entries)
    (restarts : (s : ServerState) (pieces : List Piece) (new : ServerState) → restart_of s pieces ≡ Some new → IsInOrder s → RestartLaws s pieces new) where
  module _ (t : Story) (m : Machine) (journal : List Entry) (at : IsMoment t m journal) (p : AllSo t m journal) where
    same_users : (es : List Entry) → AreServing journal es → (f : FileId) → users_of (journal ++ es) f ≡ users_of journal f
    same_users es h f = users_append f [] journal es ∙ all_users f (users_of journal f) journal es h

    finds_user : FindsUser journal
    finds_user f id among granted = by_file (numbered_at m.files f.0) refl
      where
        by_file : (o : Option MdsFile) → numbered_at m.files f.0 ≡ o → IsUser (content_of journal id).owner (users_of journal f)
        by_file None is = absurd (nothing (sym (ap (is_among id) (sym (live_is f journal) ∙ (p.so.past f.0 is).live)) ∙ among))
          where
            nothing : false ≡ true → ⊥
            nothing e = cc
        by_file (Some g) is = own_live t m journal at p.writers p.owners f g is id among granted

    -- the same owners, with other packets
    packed : (next : Machine) → next.next_uid ≡ m.next_uid → next.next_name ≡ m.next_name → next.servers ≡ m.servers → AllByRecursion (IsOwnPacket t m.servers m.next_uid m.next_name) next.packets → KnowsOwners t next journal
    packed next uids names servers packets =
        subst (KnowsOwners t next) (append-nil journal) (owners_same t m journal at p.writers p.owners next uids names [] (λ f. ap (λ (j : List Entry). users_of j f) (append-nil journal))
        (subst (λ (ss : List ServerState). AllByRecursion (IsOwnPacket t ss m.next_uid m.next_name) next.packets) (sym servers) packets) (λ n s is. p.owners.servers n s (ap (λ ss. numbered_at ss n) (sym servers) ∙ is)))

    noted_owners : (e : Entry) → ((f : FileId) → users_of (journal ++ e ∷ []) f ≡ users_of journal f) → KnowsOwners t m (journal ++ e ∷ [])
    noted_owners e same = owners_same t m journal at p.writers p.owners m refl refl (e ∷ []) same p.owners.packets p.owners.servers

    -- a server is another one
    server_owners : (n : ℕ) (s new : ServerState) (packets : List PacketValue) (es : List Entry) → numbered_at m.servers n ≡ Some s → AreOwn t m.next_name new → Follows s new → AreServing journal es
        → AllByRecursion (IsOwnPacket t (set m.servers (n - 1) new) m.next_uid m.next_name) packets → KnowsOwners t (with_server m n new packets) (journal ++ es)
    server_owners n s new packets es there own follows serving all =
        owners_same t m journal at p.writers p.owners (with_server m n new packets) refl refl es (same_users es serving) all (servers_set t m journal at.holds p.owners n s new there own)

    old_packets : (n : ℕ) (s new : ServerState) → numbered_at m.servers n ≡ Some s → Follows s new → AllByRecursion (IsOwnPacket t (set m.servers (n - 1) new) m.next_uid m.next_name) m.packets
    old_packets n s new there follows =
        own_packets_on t m.servers m.next_uid m.next_name t (set m.servers (n - 1) new) m.next_uid m.next_name (onward_same t m.next_uid m.next_name) (follow_set t m journal at.holds p.owners n s new there follows) (omega arith) (omega arith) m.packets p.owners.packets

  pub all_cases : Cases AllSo AllNoted
  all_cases = record {
    later = λ t uid name then more before e on up q. q;
    steps = λ t m journal at p n f input then k.
        let one = steps coverage calls t m journal at p.so n f input then k in
        let kind = phase_kind n (fresh_of m) (net_of m t.drawn) journal f (at.holds.files n f k.there) input in (
          record { so = one.0; writers = ((writer_cases calls).steps t m journal at p.writers n f input then k).0; owners = owners_step t m journal at p.writers p.owners n f input then k },
          both_each journal (phase (file_id n) f input (fresh_of m)).entries one.1 (quiet_each journal (phase (file_id n) f input (fresh_of m)).entries (step_quiet t m.next_uid n f.layout (phase (file_id n) f input (fresh_of m)).entries (grant_or n (fresh_of m) input t m.next_uid kind (p.writers.files n f k.there)))),
        );
    calls = λ t m journal at p n xid f c there out less holds. record {
      so = calls_out coverage calls t m journal at p.so n xid f c there (layout_kept f xid c out);
      writers = (writer_cases calls).calls t m journal at p.writers n xid f c there out less holds;
      owners = packed t m journal at p (after_call m n xid c) refl refl refl (all_append (IsOwnPacket t m.servers m.next_uid m.next_name) m.packets (mds_call xid c ∷ []) p.owners.packets
          (its_call (λ x. IsOwnCall t m.servers m.next_uid m.next_name x.server x.call) (call_out f xid) c (own_goes t m journal n xid f.layout f.activity (p.writers.files n f there) (at.holds.files n f there)) out, tt));
    };
    serves = λ t m journal at p place from n xid uid gid call s sent there holds.
        let one = serves coverage calls t m journal at p.so place from n xid uid gid call s sent there in
        let follows = call_follows coverage calls t m journal at p.so place from n xid uid gid call s sent there in
        let laws = call_laws coverage calls t m journal at p.so place from n xid uid gid call s sent there in
        let is_call = call_is coverage calls t m journal at p.so place from n xid uid gid call sent in (
          record {
            so = one.0;
            writers = ((writer_cases calls).serves t m journal at p.writers place from n xid uid gid call s sent there holds).0;
            owners = server_owners t m journal at p n s (ds_step s (caller_by uid gid) call).server _ (ds_step s (caller_by uid gid) call).entries there
                (own_served t m journal at.holds p.owners n s (ds_step s (caller_by uid gid) call).server there call (all_at (IsOwnPacket t m.servers m.next_uid m.next_name) m.packets place (Call from n xid uid gid call) p.owners.packets sent) is_call laws.came) follows
                (call_serving coverage calls t m journal at p.so place from n xid uid gid call s sent there) (all_append (IsOwnPacket t (set m.servers (n - 1) (ds_step s (caller_by uid gid) call).server) m.next_uid m.next_name) m.packets _ (old_packets t m journal at p n s (ds_step s (caller_by uid gid) call).server there follows) (tt, tt));
          },
          both_each journal (ds_step s (caller_by uid gid) call).entries one.1 (effect_finds journal (finds_user t m journal at p) s uid (ds_plan s (caller_by uid gid) call).effect),
        );
    restarts = λ t m journal at p n pieces s next there is holds.
        let one = served_so coverage calls t m journal at p.so (with_server m n next m.packets) refl refl (entry.Restarted n pieces ∷ []) (tt, tt) in
        let laws = restarts s pieces next is (at.holds.servers n s there).in_order in (
          record {
            so = one.0;
            writers = ((writer_cases calls).restarts t m journal at p.writers n pieces s next there is holds).0;
            owners = server_owners t m journal at p n s next m.packets (entry.Restarted n pieces ∷ []) there
                (λ index file k file_is named less. let old = laws.owners index file file_is in ap t.whose old.2 ∙ p.owners.servers n s there index old.0 k old.1 (ap (λ ns. slice_get ns index) (sym laws.names) ∙ named) less) laws.follows (tt, tt) (old_packets t m journal at p n s next there laws.follows);
          },
          both_each journal (entry.Restarted n pieces ∷ []) one.1 (tt, tt),
        );
    again = λ t m journal at p place x there. record {
      so = same_files coverage calls t m journal at p.so t _ refl refl;
      writers = (writer_cases calls).again t m journal at p.writers place x there;
      owners = packed t m journal at p (with_packets m (m.packets ++ x ∷ [])) refl refl refl (all_append (IsOwnPacket t m.servers m.next_uid m.next_name) m.packets (x ∷ []) p.owners.packets (all_at (IsOwnPacket t m.servers m.next_uid m.next_name) m.packets place x p.owners.packets there, tt));
    };
    uses = λ t m journal at p node n xid uid gid call may number bound. record {
      so = same_files coverage calls t m journal at p.so t _ refl refl;
      writers = (writer_cases calls).uses t m journal at p.writers node n xid uid gid call may number bound;
      owners = packed t m journal at p (puts_out m node xid (Call node n xid uid gid call)) refl refl refl (all_append (IsOwnPacket t m.servers m.next_uid m.next_name) m.packets (Call node n xid uid gid call ∷ []) p.owners.packets (used_own t m n call may, tt));
    };
    takes = λ t m journal at p file uid pos bytes h.
        let one = takes coverage calls t m journal at p.so file uid pos bytes h in (
          record { so = one.0; writers = ((writer_cases calls).takes t m journal at p.writers file uid pos bytes h).0; owners = noted_owners t m journal at p (entry.Sent file (a_uid uid) pos bytes) (λ f. users_append f [] journal (entry.Sent file (a_uid uid) pos bytes ∷ [])) },
          both_each journal (entry.Sent file (a_uid uid) pos bytes ∷ []) one.1 (tt, tt),
        );
    strays = λ t m journal at p file uid pos bytes h.
        let one = strays coverage calls t m journal at p.so file uid pos bytes h in (
          record { so = one.0; writers = ((writer_cases calls).strays t m journal at p.writers file uid pos bytes h).0; owners = noted_owners t m journal at p (entry.Rogue file (a_uid uid) pos bytes) (λ f. users_append f [] journal (entry.Rogue file (a_uid uid) pos bytes ∷ [])) },
          both_each journal (entry.Rogue file (a_uid uid) pos bytes ∷ []) one.1 (tt, tt),
        );
    tells = λ t m journal at p file uid pos bytes h.
        let one = tells coverage calls t m journal at p.so file uid pos bytes h in (
          record { so = one.0; writers = ((writer_cases calls).tells t m journal at p.writers file uid pos bytes h).0; owners = noted_owners t m journal at p (entry.Told file (a_uid uid) pos bytes) (λ f. users_append f [] journal (entry.Told file (a_uid uid) pos bytes ∷ [])) },
          both_each journal (entry.Told file (a_uid uid) pos bytes ∷ []) one.1 (tt, tt),
        );
    creates = λ t m journal at p servers may holds.
        let then : Story = drawn_story t m.next_name (length m.files + 1) m.next_uid None in
        let on : IsOnward t m.next_uid m.next_name then = onward_drawn t m.next_uid m.next_name (length m.files + 1) None in
        record {
          so = creates coverage calls t m journal at p.so then servers;
          writers = (writer_cases calls).creates t m journal at p.writers servers may holds;
          owners = record {
            names = λ k less. names_drawn t m journal at.holds p.owners (length m.files + 1) None k;
            packets = own_packets_on t m.servers m.next_uid m.next_name then m.servers (m.next_uid + 1) (m.next_name + 1) on (all_stand m journal t.drawn at.holds) (omega arith) (omega arith) m.packets p.owners.packets;
            servers = servers_on t m journal at.holds p.owners then (m.next_name + 1) holds.few_names on;
            granted = λ f u i. let old = p.owners.granted f u i in let less = old.1 in (on.whose u old.1 ∙ old.0, omega (arith, less));
          };
        };
  }

-- the server at a place
new_at : (k : ℕ) (boots : List ℕ) (i : ℕ) (s : ServerState) → slice_get (new_servers k boots) i ≡ Some s → (boot : ℕ) × (s ≡ new_server (k + i) boot)
new_at k [] i s e = absurd cc
new_at k (boot ∷ boots) zero s e = let same : k ≡ k + 0 = omega arith in (boot, sym (same_Some (new_server k boot) s e) ∙ ap (λ (n : ℕ). new_server n boot) same)
new_at k (boot ∷ boots) (suc i) s e =
    let rest = new_at (k + 1) boots i s e in
    let same : k + 1 + i ≡ k + suc i = omega arith in
    (rest.0, rest.1 ∙ ap (λ (n : ℕ). new_server n rest.0) same)

pub first_owners : (boots : List ℕ) → KnowsOwners first_story (new_machine (new_servers 1 boots)) []
first_owners boots = record {
  names = λ k less. refl;
  packets = tt;
  servers = λ n s is index file k file_is named less.
      let new = new_at 1 boots (n - 1) s (place_of (new_servers 1 boots) n s is).1 in
      absurd (no_file index file (sym (ap (λ (x : ServerState). slice_get x.files index) new.1) ∙ file_is));
  granted = λ f u i. absurd i;
}
  where
    no_file : (index : ℕ) (file : StoredFile) → slice_get [] index ≡ Some file → ⊥
    no_file index file e = cc
