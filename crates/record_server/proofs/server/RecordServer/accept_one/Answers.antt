use Rattle.std.proofs.Common.{◌≡◌, ◌∙◌, ap, subst}
use Rattle.record_server.specs.Network.{ComesNext}
use Rattle.record_server.specs.Server.{ServingState}
use Rattle.record_server.proofs.RoundLemmas.{accepts, drops}
use Rattle.record_server.proofs.server.RecordServer.accept_one.Goals as goal

pub returns-in-Ok-admit : goal.returns-in-Ok-admit
returns-in-Ok-admit g c =
    let s = c.self.inside in
    let old : ServingState = c.args.self.now in
    let coming = g.N.Conn.Stream.coming c.in-Ok.conn in
    let mid : ServingState = record { peers = s.peers.items; given = s.given; time = s.time; place = s.place; handed = s.handed; waiting = g.N.Network.waiting c.accept.new.self; made = g.N.Network.made c.accept.new.self; reported = g.N.Network.reported c.accept.new.self; moment = g.N.Network.moment c.accept.new.self; faults = g.N.Network.faults c.accept.new.self } in
    let met : g.N.Network.faults c.accept.new.self ≡ old.faults = c.in-Ok.ensures.faults ∙ ap (λ (x : ServingState). x.faults) c.self.view_is in
    let made : g.N.Network.made c.accept.new.self ≡ old.made = c.in-Ok.ensures.made ∙ ap (λ (x : ServingState). x.made) c.self.view_is in
    let reported : g.N.Network.reported c.accept.new.self ≡ old.reported = c.in-Ok.ensures.reported ∙ ap (λ (x : ServingState). x.reported) c.self.view_is in
    let moment : g.N.Network.moment c.accept.new.self ≡ old.moment = c.in-Ok.ensures.moment ∙ ap (λ (x : ServingState). x.moment) c.self.view_is in
    let same : mid ≡ record old { waiting = mid.waiting } = λ i. record (c.self.view_is i) { waiting = mid.waiting; made = made i; reported = reported i; moment = moment i; faults = met i } in
    let comes : ComesNext old.waiting coming mid.waiting = subst (λ (x : ServingState). ComesNext x.waiting coming mid.waiting) c.self.view_is c.in-Ok.ensures.told in
    accepts old mid c.admit.new.self coming (g.N.Conn.Stream.gone c.in-Ok.conn) (g.N.Conn.Stream.faults c.in-Ok.conn) c.in-Ok-admit.field-0 same c.requires c.if-not-may_accept.ensures comes c.in-Ok-admit.ensures

pub returns-in-Err : goal.returns-in-Err
returns-in-Err g c =
    let s = c.self.inside in
    let old : ServingState = c.args.self.now in
    let coming = g.N.Conn.Stream.coming c.in-Ok.conn in
    let mid : ServingState = record { peers = s.peers.items; given = s.given; time = s.time; place = s.place; handed = s.handed; waiting = g.N.Network.waiting c.accept.new.self; made = g.N.Network.made c.accept.new.self; reported = g.N.Network.reported c.accept.new.self; moment = g.N.Network.moment c.accept.new.self; faults = g.N.Network.faults c.accept.new.self } in
    let met : g.N.Network.faults c.accept.new.self ≡ old.faults = c.in-Ok.ensures.faults ∙ ap (λ (x : ServingState). x.faults) c.self.view_is in
    let made : g.N.Network.made c.accept.new.self ≡ old.made = c.in-Ok.ensures.made ∙ ap (λ (x : ServingState). x.made) c.self.view_is in
    let reported : g.N.Network.reported c.accept.new.self ≡ old.reported = c.in-Ok.ensures.reported ∙ ap (λ (x : ServingState). x.reported) c.self.view_is in
    let moment : g.N.Network.moment c.accept.new.self ≡ old.moment = c.in-Ok.ensures.moment ∙ ap (λ (x : ServingState). x.moment) c.self.view_is in
    let same : mid ≡ record old { waiting = mid.waiting } = λ i. record (c.self.view_is i) { waiting = mid.waiting; made = made i; reported = reported i; moment = moment i; faults = met i } in
    let comes : ComesNext old.waiting coming mid.waiting = subst (λ (x : ServingState). ComesNext x.waiting coming mid.waiting) c.self.view_is c.in-Ok.ensures.told in
    drops old mid c.admit.new.self coming (g.N.Conn.Stream.gone c.in-Ok.conn) (g.N.Conn.Stream.faults c.in-Ok.conn) c.in-Err.field-0 same comes c.in-Err.ensures
