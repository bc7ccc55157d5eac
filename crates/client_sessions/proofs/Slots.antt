-- Who a client says that it is, and how it stands on its slot: what is kept in every event.
use Rattle.std.proofs.Common.{◌≡◌, ◌≢◌, ℕ, Bool, true, false, List, [], ◌∷◌, ◌++◌, length, Option, Some, None, refl, sym, ap, subst, ◌∙◌, inl, inr, ◌⊎◌}
use Rattle.std.specs.Prelude.{◌==◌}
use Rattle.std.specs.List.{AllByRecursion}
use Rattle.std.proofs.lemmas.Bool.{eq-eqb}
use Rattle.std.proofs.lemmas.List.{append-nil}
use Rattle.std.proofs.lemmas.Option.{none-some, same_Some}
use Rattle.rpc_record.specs.Replies.{RpcReply}
use Rattle.nfs4_types.specs.declared.ids.DeviceId.{DeviceId}
use Rattle.device_addr.specs.declared.net_addr.NetAddr.{NetAddr}
use Rattle.cluster_model.specs.declared.ids.NodeId.TheVariants.{Mds, Server, Client as AClient}
use Rattle.cluster_model.specs.declared.ids.Mirror.{Mirror}
use Rattle.cluster_model.specs.declared.entry.Entry.TheVariants.{Sent, Rogue, Told, TimedOut, Answer}
use Rattle.cluster_model.specs.DsCalls as ds
use Rattle.mirror_writer.specs.Writers.{WriterSends, commit_wanted, with_write}
use Rattle.client_file_calls.specs.declared.open.OpenFile.{OpenFile}
use Rattle.client_mds_calls.specs.declared.ask.MdsAsk.{MdsAsk}
use Rattle.client_mds_calls.specs.declared.ask.MdsAsk.TheVariants as ask
use Rattle.client_mds_calls.specs.MdsCalls.{MdsCallValue, takes_slot}
use Rattle.client_mds_calls.specs.MdsCompounds.{mds_call_bytes}
use Rattle.client_mds_calls.specs.MdsReplies.{MdsAnswerValue, Client, Session, Complete, Opened, Granted, Devices, Written, Bytes, Returned, Renewed, Refused}
use Rattle.client_state.specs.declared.stage.LayoutStage.{LayoutStage}
use Rattle.client_state.specs.declared.stage.LayoutStage.TheVariants.{Writing, Ending, Deferred, Returning}
use Rattle.client_state.specs.declared.layout.Layout.{Layout}
use Rattle.client_state.specs.declared.asked.Asked.{Asked}
use Rattle.client_state.specs.declared.tie.OwnSession.{OwnSession}
use Rattle.client_state.specs.declared.tie.Tie.{Tie}
use Rattle.client_state.specs.declared.tie.Tie.TheVariants.{NoClient, HasClient, HasSession}
use Rattle.client_state.specs.ClientStates.{ClientValue, client_name, fresh_client}
use Rattle.client_state.specs.ClientQueue.{with_layout, with_writer, ends_layout, ending, unknown_in, unknown_servers}
use Rattle.client_state.specs.ClientSends.{CallsServer, CallsMds, RepeatsToServer, RepeatsToMds, RepliesToMds}
use Rattle.client_calls.specs.ClientCalls.{xid_after, returning, layout_asked, call_by_ask, asked_by}
use Rattle.client_answers.specs.ClientMirrors.{with_failed, has_writer}
use Rattle.client_answers.specs.ClientAnswers.{moved_tie, fresh_session, completed_tie, new_layout, with_addresses, learns_devices, deferred}
use Rattle.mirror_client.specs.ClientRule.{layout_at_tick}
use Rattle.client_laws.specs.ClientHistory.{ClientInput, Requested, Recorded, TimeoutOf, LeftProtocol, HistoryItem, Hears, Enters, Sends, entered}
use Rattle.client_laws.proofs.Stands.{IfThere}
use Rattle.client_records.proofs.Cases.{Adds, IsAnswered, said, heard_mds, heard_late, IsTieBehind, free, IsServed, IsIdle, IsRefused, IsLayoutBehind, IsCounted, IsDue, ComesTo, comes_layout, Cases}
use Rattle.client_records.proofs.Told.{any_tells, any_covers}
use Rattle.client_records.proofs.EachRun.{Base}
use Rattle.client_sessions.specs.HeardReplies.{IsNoCompound}
use Rattle.client_sessions.specs.ClientSessions.{SaysWho, KeepsSlot}
use Rattle.client_sessions.proofs.AnswerKinds.{IsAnswerTo, answer_to, refused_apart}
use Rattle.client_sessions.proofs.CallsMade.{IsBy, IsOnSession, KindStands, IsMade, is_made, due_stands}
use Rattle.client_sessions.proofs.SlotStands.{AskedOut, IsFileOf, file_of, asked_later, asked_now, TieStands, tie_later, stands_on, client_stands, session_stands, tie_stands, uncached_stands}

-- ---- what is kept

-- a compound is out, or the next stands
abbrev pub AskStands : List HistoryItem → List ℕ → Tie → Option OpenFile → Option Asked → Type 0
AskStands past name tie file None = TieStands past tie
AskStands past name tie file (Some a) = AskedOut past name tie file a.xid a.ask

-- what goes out anew takes a slot
abbrev pub AgainStands : Option OpenFile → Option Layout → List (DeviceId × NetAddr) → MdsAsk → Type 0
AgainStands file layout devices kind = KindStands file layout devices kind × (takes_slot kind ≡ true)

pub record SlotsOf (number verifier : ℕ) (past : List HistoryItem) (name : List ℕ) (own : ℕ) (tie : Tie) (file : Option OpenFile) (layout : Option Layout) (devices : List (DeviceId × NetAddr)) (asked : Option Asked) (again : Option MdsAsk) : Type 0 where
  pub name_is : name ≡ client_name number
  pub own_is : own ≡ verifier
  pub stands : AskStands past name tie file asked
  pub asked_kind : IfThere asked (λ a. KindStands file layout devices a.ask)
  pub again_kind : IfThere again (AgainStands file layout devices)
  pub alone : IfThere asked (λ a. again ≡ None)

abbrev pub Slots : ℕ → ℕ → List HistoryItem → ClientValue → Type 0
Slots number verifier past c = SlotsOf number verifier past c.name c.verifier c.tie c.file c.layout c.devices c.asked c.again

-- another layout that says the same of what is asked
abbrev pub KeepsMirrors : Option Layout → Option Layout → Type 0
KeepsMirrors old None = Unit {0}
KeepsMirrors None (Some new) = ⊥
KeepsMirrors (Some l) (Some new) = new.mirrors ≡ l.mirrors

pub counted_so : (devices : List (DeviceId × NetAddr)) (count : ℕ) (old new : Option Layout) → KeepsMirrors old new → IsCounted devices count old → IsCounted devices count new
counted_so devices count old None keeps is = tt
counted_so devices count None (Some new) keeps is = absurd keeps
counted_so devices count (Some l) (Some new) keeps is = is ∙ sym (ap (λ (ms : List Mirror). length (unknown_in devices ms)) keeps)

pub kind_so : (file : Option OpenFile) (devices : List (DeviceId × NetAddr)) (old new : Option Layout) → KeepsMirrors old new → (kind : MdsAsk) → KindStands file old devices kind → KindStands file new devices kind
kind_so file devices old new keeps ask.LayoutGet is = none_so old new keeps is
  where
    none_so : (old new : Option Layout) → KeepsMirrors old new → old ≡ None → new ≡ None
    none_so old None keeps is = refl
    none_so None (Some new) keeps is = absurd keeps
    none_so (Some l) (Some new) keeps is = absurd (none-some l (sym is))
kind_so file devices old new keeps ask.Open is = is
kind_so file devices old new keeps (ask.DeviceInfo count) is = counted_so devices count old new keeps is
kind_so file devices old new keeps ask.ExchangeId is = tt
kind_so file devices old new keeps ask.CreateSession is = tt
kind_so file devices old new keeps ask.ReclaimComplete is = tt
kind_so file devices old new keeps ask.Write is = tt
kind_so file devices old new keeps (ask.Read at count) is = tt
kind_so file devices old new keeps ask.LayoutReturn is = tt
kind_so file devices old new keeps ask.Renew is = tt

module _ (number verifier : ℕ) where
  module _ (past : List HistoryItem) (c : ClientValue) (i : Slots number verifier past c) where
    -- a longer history, and another layout
    pub slots_later : (more : List HistoryItem) (layout : Option Layout) → AllByRecursion IsNoCompound more → KeepsMirrors c.layout layout → SlotsOf number verifier (past ++ more) c.name c.verifier c.tie c.file layout c.devices c.asked c.again
    slots_later more layout none keeps = record {
      name_is = i.name_is;
      own_is = i.own_is;
      stands = of_ask c.asked i.stands;
      asked_kind = of_asked c.asked i.asked_kind;
      again_kind = of_again c.again i.again_kind;
      alone = i.alone;
    }
      where
        of_ask : (o : Option Asked) → AskStands past c.name c.tie c.file o → AskStands (past ++ more) c.name c.tie c.file o
        of_ask None stands = tie_later past more c.tie none stands
        of_ask (Some a) out = asked_later past more c.name c.tie c.file a.xid a.ask none out

        of_asked : (o : Option Asked) → IfThere o (λ a. KindStands c.file c.layout c.devices a.ask) → IfThere o (λ a. KindStands c.file layout c.devices a.ask)
        of_asked None kind = tt
        of_asked (Some a) kind = kind_so c.file c.devices c.layout layout keeps a.ask kind

        of_again : (o : Option MdsAsk) → IfThere o (AgainStands c.file c.layout c.devices) → IfThere o (AgainStands c.file layout c.devices)
        of_again None kind = tt
        of_again (Some k) kind = (kind_so c.file c.devices c.layout layout keeps k kind.0, kind.1)

    pub same_layout : KeepsMirrors c.layout c.layout
    same_layout = by_layout c.layout
      where
        by_layout : (layout : Option Layout) → KeepsMirrors layout layout
        by_layout None = tt
        by_layout (Some l) = refl

    pub later : (item : HistoryItem) → IsNoCompound item → SlotsOf number verifier (past ++ item ∷ []) c.name c.verifier c.tie c.file c.layout c.devices c.asked c.again
    later item none = slots_later (item ∷ []) c.layout (none, tt) same_layout

    pub there_layout : (l new : Layout) → c.layout ≡ Some l → new.mirrors ≡ l.mirrors → KeepsMirrors c.layout (Some new)
    there_layout l new at same = subst (λ (o : Option Layout). KeepsMirrors o (Some new)) (sym at) same

    -- the same history
    pub with_layout_of : (layout : Option Layout) → KeepsMirrors c.layout layout → SlotsOf number verifier past c.name c.verifier c.tie c.file layout c.devices c.asked c.again
    with_layout_of layout keeps = subst (λ h. SlotsOf number verifier h c.name c.verifier c.tie c.file layout c.devices c.asked c.again) (append-nil past) (slots_later [] layout tt keeps)

    pub out_of : (a : Asked) → c.asked ≡ Some a → AskedOut past c.name c.tie c.file a.xid a.ask
    out_of a at = subst (AskStands past c.name c.tie c.file) at i.stands

    pub no_again : (a : Asked) → c.asked ≡ Some a → c.again ≡ None
    no_again a at = subst (λ (o : Option Asked). IfThere o (λ a. c.again ≡ None)) at i.alone

    pub kind_of : (a : Asked) → c.asked ≡ Some a → KindStands c.file c.layout c.devices a.ask
    kind_of a at = subst (λ (o : Option Asked). IfThere o (λ a. KindStands c.file c.layout c.devices a.ask)) at i.asked_kind

    -- the record that is out is the same
    pub same_out : (a b : Asked) → c.asked ≡ Some a → b.xid ≡ a.xid → b.ask ≡ a.ask → SlotsOf number verifier past c.name c.verifier c.tie c.file c.layout c.devices (Some b) c.again
    same_out a b at xid kind = record {
      name_is = i.name_is;
      own_is = i.own_is;
      stands = subst (λ (n : ℕ). AskedOut past c.name c.tie c.file n b.ask) (sym xid) (subst (AskedOut past c.name c.tie c.file a.xid) (sym kind) (out_of a at));
      asked_kind = subst (KindStands c.file c.layout c.devices) (sym kind) (kind_of a at);
      again_kind = i.again_kind;
      alone = no_again a at;
    }

    -- something is due
    pub made : (kind : MdsAsk) (call : MdsCallValue) → IsDue c kind → call_by_ask c kind ≡ Some call → IsMade c kind call × KindStands c.file c.layout c.devices kind
    made kind call due is =
        let stands = due_stands c kind due (λ k at. subst (λ (o : Option MdsAsk). IfThere o (AgainStands c.file c.layout c.devices)) at i.again_kind) in
        (is_made c call kind is stands.0 stands.1, stands.0)

  -- ---- an answer

  module _ (h : List HistoryItem) (c : ClientValue) (a : Asked) (bytes : List ℕ) (now : ℕ) (reply : RpcReply) (s : IsAnswered Base (λ (input : ClientInput). Unit {0}) h c a bytes now reply) (i : Slots number verifier h c) where
    -- nothing is out then, and nothing goes out anew
    pub freed : (tie : Tie) (file : Option OpenFile) (layout : Option Layout) (devices : List (DeviceId × NetAddr)) → TieStands (heard_mds h bytes now) tie → SlotsOf number verifier (heard_mds h bytes now) c.name c.verifier tie file layout devices None c.again
    freed tie file layout devices stands = record {
      name_is = i.name_is;
      own_is = i.own_is;
      stands = stands;
      asked_kind = tt;
      again_kind = subst (λ (o : Option MdsAsk). IfThere o (AgainStands file layout devices)) (sym (no_again h c i a s.out)) tt;
      alone = tt;
    }

    behind : (tie : Tie) → IsTieBehind now (said a reply).slot c.tie tie → ((said a reply).answer ≡ Refused 10052 → ⊥) → takes_slot a.ask ≡ true → TieStands (heard_mds h bytes now) tie
    behind tie is kept takes = tie_stands h c.name c.tie c.file a.xid a.ask (out_of h c i a s.out) bytes now reply s.reply_is s.number tie is kept (inl takes)

    -- of an answer that is no refusal
    pub by_answer : (tie : Tie) → IsTieBehind now (said a reply).slot c.tie tie → (says : MdsAnswerValue) → (said a reply).answer ≡ says → (IsAnswerTo a.ask says → takes_slot a.ask ≡ true) → (says ≡ Refused 10052 → ⊥) → TieStands (heard_mds h bytes now) tie
    by_answer tie is says at takes kept = behind tie is (λ lost. kept (sym at ∙ lost)) (takes (subst (IsAnswerTo a.ask) at (answer_to a.ask reply)))

    pub complete_stands : (tie : Tie) → TieStands (heard_mds h bytes now) tie → TieStands (heard_mds h bytes now) (completed_tie tie)
    complete_stands NoClient stands = stands
    complete_stands (HasClient clientid sequence) stands = stands
    complete_stands (HasSession s) stands = stands

    pub learned : (tie : Tie) → TieStands (heard_mds h bytes now) tie → (addresses : List NetAddr) (layout : Option Layout) → c.layout ≡ layout → Slots number verifier (heard_mds h bytes now) (learns_devices layout addresses (free tie c))
    learned tie stands addresses None at = freed tie c.file c.layout c.devices stands
    learned tie stands addresses (Some l) at = freed tie c.file c.layout (with_addresses c.devices (unknown_servers (free tie c) l) addresses) stands

    pub served_stands : (tie : Tie) → IsTieBehind now (said a reply).slot c.tie tie → (says : MdsAnswerValue) → (said a reply).answer ≡ says → IsServed says → TieStands (heard_mds h bytes now) tie
    served_stands tie is Written at served = by_answer tie is Written at (λ takes. takes) (λ e. absurd cc)
    served_stands tie is (Bytes eof data_of) at served = by_answer tie is (Bytes eof data_of) at (λ takes. takes) (λ e. absurd cc)
    served_stands tie is (Client clientid sequence) at served = absurd served
    served_stands tie is (Session session) at served = absurd served
    served_stands tie is Complete at served = absurd served
    served_stands tie is (Opened file) at served = absurd served
    served_stands tie is (Granted grant) at served = absurd served
    served_stands tie is (Devices addresses) at served = absurd served
    served_stands tie is Returned at served = absurd served
    served_stands tie is Renewed at served = absurd served
    served_stands tie is (Refused status) at served = absurd served

    pub idle_stands : (tie : Tie) → IsTieBehind now (said a reply).slot c.tie tie → (says : MdsAnswerValue) → (said a reply).answer ≡ says → IsIdle says → TieStands (heard_mds h bytes now) tie
    idle_stands tie is Returned at idle = by_answer tie is Returned at (λ takes. takes) (λ e. absurd cc)
    idle_stands tie is Renewed at idle = by_answer tie is Renewed at (λ takes. takes) (λ e. absurd cc)
    idle_stands tie is Written at idle = absurd idle
    idle_stands tie is (Bytes eof data_of) at idle = absurd idle
    idle_stands tie is (Client clientid sequence) at idle = absurd idle
    idle_stands tie is (Session session) at idle = absurd idle
    idle_stands tie is Complete at idle = absurd idle
    idle_stands tie is (Opened file) at idle = absurd idle
    idle_stands tie is (Granted grant) at idle = absurd idle
    idle_stands tie is (Devices addresses) at idle = absurd idle
    idle_stands tie is (Refused status) at idle = absurd idle

    pub refused_stands : (tie : Tie) → IsTieBehind now (said a reply).slot c.tie tie → (status : ℕ) → IsRefused (said a reply) tie status → TieStands (heard_mds h bytes now) tie
    refused_stands tie is status refused = tie_stands h c.name c.tie c.file a.xid a.ask (out_of h c i a s.out) bytes now reply s.reply_is s.number tie is (λ lost. refused_apart status 10052 refused.1 (sym refused.0 ∙ lost)) (inr (status, refused.0, refused.2))
