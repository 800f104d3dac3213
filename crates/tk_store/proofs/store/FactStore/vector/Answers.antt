use Rattle.std.proofs.Common.{subst}
use Rattle.tk_store.specs.StoreFields.{StoreFields}
use Rattle.tk_store.specs.Front.{IsFront}
use Rattle.tk_store.proofs.store.FactStore.vector.Goals as goal

pub returns : goal.returns
returns c = subst (λ (P : StoreFields). IsFront P.slots c.self.inside.front) c.self.view_is
    c.self.invariant.front_is
