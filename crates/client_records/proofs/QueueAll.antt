-- Where each request of a queue is so, each request of a queue that is one longer or shorter is so.
use Rattle.std.proofs.Common.{◌≡◌, List, [], ◌∷◌, ◌++◌, drop, sym, subst, inl, inr, ◌⊎◌}
use Rattle.std.specs.List.{AllByRecursion}
use Rattle.client_state.specs.declared.request.UserRequest.{UserRequest}
use Rattle.client_state.specs.declared.request.UserRequest.TheVariants.{Open, Write, Through, Commit, Read, Return}
use Rattle.client_state.specs.ClientQueue.{without_commit}
use Rattle.client_records.proofs.Cases.{Shortens}

module _ (R : UserRequest → Type 0) where
  pub commit_all : (queue : List UserRequest) → AllByRecursion R queue → AllByRecursion R (without_commit queue)
  commit_all [] all = tt
  commit_all (Commit ∷ rest) all = all.1
  commit_all (Open name ∷ rest) all = all
  commit_all (Write at bytes ∷ rest) all = all
  commit_all (Through at bytes ∷ rest) all = all
  commit_all (Read at count ∷ rest) all = all
  commit_all (Return ∷ rest) all = all

  pub dropped_all : (queue : List UserRequest) → AllByRecursion R queue → AllByRecursion R (drop 1 queue)
  dropped_all [] all = tt
  dropped_all (request ∷ rest) all = all.1

  pub shorter_all : (new old : List UserRequest) → Shortens new old → AllByRecursion R old → AllByRecursion R new
  shorter_all new old (inl same) all = subst (λ (queue : List UserRequest). AllByRecursion R queue) (sym same) all
  shorter_all new old (inr same) all = subst (λ (queue : List UserRequest). AllByRecursion R queue) (sym same) (dropped_all old all)

  pub more_all : (queue : List UserRequest) (request : UserRequest) → AllByRecursion R queue → R request → AllByRecursion R (queue ++ request ∷ [])
  more_all [] request all is = (is, tt)
  more_all (r ∷ queue) request all is = (all.0, more_all queue request all.1 is)
