use Rattle.std.proofs.Common.{subst}
use Rattle.ds_files.specs.declared.logging.Logging.TheVariants.{On}
use Rattle.ds_files.specs.Receive.{outcome_of}
use Rattle.ds_store.specs.Kept.{Posts}
use Rattle.ds_store.specs.Stores.{StoreState}
use Rattle.ds_store.proofs.store.Store.on_record.Goals as goal

pub returns-clause-posts : goal.returns-clause-posts
returns-clause-posts g c =
    subst (λ (s : StoreState). Posts On (outcome_of s.kept.server c.args.message.now) c.args.from c.take_record.result c.args.out.now c.take_record.new.out) c.self.view_is c.take_record.ensures.posts
