-- What is decided of a record, and what carrying it out leaves.
use Rattle.std.proofs.Common.{◌≡◌, ℕ, List, ◌++◌, Option, Some, refl, sym, ap, ◌∙◌, subst, append-nil}
use Rattle.rpc_record.specs.Rpc.{Credential}
use Rattle.nfs3_wire.specs.Calls.{Nfs3Call}
use Rattle.cluster_model.specs.declared.entry.Entry.{Entry}
use Rattle.cluster_model.specs.declared.ids.NodeId.{NodeId}
use Rattle.cluster_model.specs.declared.outbox.Outbox.{Outbox}
use Rattle.cluster_model.specs.File.{StoredFile}
use Rattle.cluster_model.specs.Server.{ServerState, Effect, server_after, entries_of}
use Rattle.ds_procedures.specs.declared.server_base.ServerBase.{ServerBase}
use Rattle.ds_procedures.specs.Answer.{Answer}
use Rattle.ds_procedures.specs.CodePlans.{IsReady}
use Rattle.ds_procedures.specs.Objects.{caller_of}
use Rattle.ds_procedures.specs.Plans.{Plan, carried_out}
use Rattle.ds_procedures.specs.Steps.{plan_of, step_of}
use Rattle.ds_procedures.specs.ServerBases.{IsServer, server_of}
use Rattle.ds_files.specs.declared.logging.Logging.{Logging}
use Rattle.ds_files.specs.Decisions.{call_effect, effect_by, effect_of, superblock_of, IsWellMade, CanDo, Decides, DecidesCall}
use Rattle.ds_files.specs.Laws.{IsRefusedReply, IsTurnedAway}
use Rattle.ds_files.specs.Posts.{Acts, entries_made, outcome_made}
use Rattle.ds_files.specs.Receive.{Received, Silent, Refused, Asked, received, success_bytes, outcome_by, outcome_of}
use Rattle.ds_files.specs.Records.{sent_to}
use Rattle.ds_files.proofs.Asked.{well_made}
use Rattle.ds_files.proofs.Harmless.{no_effect, no_entries, refused_stays}
use Rattle.ds_files.proofs.Journals.{none_made}

-- the server after the effect of a record is the one of its outcome
pub after_effect : (s : ServerState) (what : Received) → server_after s (effect_by s what) ≡ (outcome_by s what).server
after_effect s Silent = refl
after_effect s (Refused reply) = refl
after_effect s (Asked xid call cred) = refl

pub after_record : (s : ServerState) (bytes : List ℕ) → server_after s (effect_of s bytes) ≡ (outcome_of s bytes).server
after_record s bytes = after_effect s (received bytes)

-- ---- what can be carried out

-- the numbers of a server are those that the code keeps
superblock_is : (h : ServerBase) (files : List StoredFile) → IsServer h files → h ≡ superblock_of (server_of h files)
superblock_is h files k = ap (λ (total : ℕ). let other : ServerBase = record h { total = total } in other) k.total

pub ready_of : (h : ServerBase) (files : List StoredFile) (s : ServerState) (effect : Effect) → IsServer h files → server_of h files ≡ s → CanDo s effect → IsReady h files effect
ready_of h files s what k is can =
    let here : CanDo (server_of h files) what = subst (λ (t : ServerState). CanDo t what) (sym is) can in
    subst (λ (g : ServerBase). IsReady g files what) (sym (superblock_is h files k)) here.ready

-- ---- a plan is a decision

module _ (h : ServerBase) (files : List StoredFile) (s : ServerState) (call : Nfs3Call) (cred : Credential) (p : Plan) (k : IsServer h files) (server : server_of h files ≡ s) (is : p ≡ plan_of (server_of h files) call (caller_of cred)) (ready : IsReady h files p.effect) where
  plan_is : p ≡ plan_of s call (caller_of cred)
  plan_is = is ∙ ap (λ (t : ServerState). plan_of t call (caller_of cred)) server

  effect_is : p.effect ≡ call_effect s call cred
  effect_is = ap (λ (q : Plan). q.effect) plan_is

  can_do : CanDo s p.effect
  can_do =
      let made : IsWellMade p.effect = subst IsWellMade (sym effect_is) (well_made s call cred) in
      let here : IsReady (superblock_of (server_of h files)) files p.effect = subst (λ (g : ServerBase). IsReady g files p.effect) (superblock_is h files k) ready in
      let there : CanDo (server_of h files) p.effect = record { ready = here; made = made } in
      subst (λ (t : ServerState). CanDo t p.effect) server there

  entries_are : (entries : List Entry) → entries ≡ entries_of (server_of h files) cred.uid p.effect → entries ≡ (step_of s call cred).entries
  entries_are entries made = made ∙ ap (λ (t : ServerState). entries_of t cred.uid p.effect) server ∙ ap (λ (e : Effect). entries_of s cred.uid e) effect_is

  pub decides_call : (answer : Answer) (entries : List Entry) → answer ≡ record { reply = p.reply; entries = entries } → entries ≡ entries_of (server_of h files) cred.uid p.effect → DecidesCall s call cred answer p.effect
  decides_call answer entries answered made = record {
    answer_is = answered ∙ ap (λ (es : List Entry). let a : Answer = record { reply = p.reply; entries = es } in a) (entries_are entries made) ∙ ap (λ (q : Plan). let a : Answer = record { reply = q.reply; entries = (step_of s call cred).entries } in a) plan_is;
    effect_is = effect_is;
    can = can_do;
  }

  pub decides_asked : (xid : ℕ) (logging : Logging) (reply : Option (List ℕ)) (entries : List Entry) → reply ≡ Some (success_bytes xid (carried_out s cred.uid p)) → entries ≡ entries_made logging (entries_of (server_of h files) cred.uid p.effect)
      → Decides s (Asked xid call cred) logging reply entries p.effect
  decides_asked xid logging reply entries replied made = record {
    reply_is = replied ∙ ap (λ (q : Plan). Some (success_bytes xid (carried_out s cred.uid q))) plan_is;
    entries_are = made ∙ ap (entries_made logging) (entries_are _ refl);
    effect_is = effect_is;
    can = can_do;
  }

-- ---- what is carried out of a decision

module _ (s new : ServerState) (what : Received) (logging : Logging) (reply : Option (List ℕ)) (entries : List Entry) (effect : Effect) (node : NodeId) (before after : Outbox) (d : Decides s what logging reply entries effect) where
  pub acts : new ≡ server_after s effect → after.sends.items ≡ before.sends.items ++ sent_to node reply → after.entries.items ≡ before.entries.items ++ entries → Acts (outcome_made logging (outcome_by s what)) node new before after
  acts state sends entered = record {
    state = state ∙ ap (server_after s) d.effect_is ∙ after_effect s what;
    entries = entered ∙ ap (λ (es : List Entry). before.entries.items ++ es) d.entries_are;
    sends = sends ∙ ap (λ (r : Option (List ℕ)). before.sends.items ++ sent_to node r) d.reply_is;
  }

  -- one that is turned away changes nothing, and has no entry
  pub turns_away : new ≡ server_after s effect → after.entries.items ≡ before.entries.items ++ entries → IsTurnedAway s what → (new ≡ s) × (after.entries.items ≡ before.entries.items)
  turns_away state entered away = (
    state ∙ ap (server_after s) (d.effect_is ∙ no_effect s what away),
    entered
        ∙ ap (λ (es : List Entry). before.entries.items ++ es) (d.entries_are ∙ ap (entries_made logging) (no_entries s what away) ∙ none_made logging)
        ∙ append-nil before.entries.items,
  )

-- so does a call that is refused
pub call_refused : (s new : ServerState) (call : Nfs3Call) (cred : Credential) (answer : Answer) (effect : Effect) → DecidesCall s call cred answer effect → new ≡ server_after s effect → IsRefusedReply answer.reply → new ≡ s
call_refused s new call cred answer what d state refused =
    state ∙ ap (server_after s) d.effect_is ∙ refused_stays s call cred (subst IsRefusedReply (ap (λ (a : Answer). a.reply) d.answer_is) refused)
