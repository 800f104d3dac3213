use Rattle.std.proofs.Common.{ap, sym, subst, ◌∙◌}
use Rattle.std.proofs.lemmas.Result.{IfOk-weaker}
use Rattle.tk_store.specs.Front.{IsFront}
use Rattle.tk_store.specs.StoreFields.{StoreFields}
use Rattle.tk_vector.specs.VersionVector.{Vector}
use Rattle.tk_region.specs.RegionFields.{RegionFields}
use Rattle.tk_region.proofs.region.Region.vector.Goals as goal

pub returns : goal.returns
returns c =
    let front = subst (λ (P : StoreFields). IsFront P.slots c.vector.result.now)
    (c.store.ensures ∙ ap (λ (r : RegionFields). r.facts) c.self.view_is) c.vector.ensures in
    IfOk-weaker c.copy.result _ _
    (λ copy is. subst (λ (v : Vector). IsFront c.args.self.now.facts.slots v) (sym is) front)
    c.copy.ensures
