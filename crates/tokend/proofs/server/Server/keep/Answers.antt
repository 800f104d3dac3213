use Rattle.std.proofs.Common.{◌≡◌, true, None, Some, inl, inr, refl, sym, ap, subst, rules}
use Rattle.std.proofs.lemmas.Bool.{cases_Bool}
use Rattle.tk_region.specs.Repeating.{minted_refresh}
use Rattle.tokend.specs.Repeating.{IsKept, is_granted}
use Rattle.tokend.specs.Repeats.{RepeatsFields, granted_at}
use Rattle.tokend.proofs.RepeatLaws.{granted_done}
use Rattle.tokend.proofs.server.Server.keep.Goals as goal

pub returns : goal.returns
returns c =
    let old = c.args.self.now in
    let it = granted_at c.in-Some.refresh old.now c.args.dot c.args.words.now in
    let granted : is_granted c.args.served ≡ true = search rules in
    let minted : minted_refresh old.edge.region c.args.dot ≡ true = search rules in
    elim (cases_Bool c.keep.result) [
      | inl held ↦ (
        Some it,
        subst (λ o. IsKept old.edge.region o c.args.served old.now c.args.dot c.args.words.now
            (Some it)) (sym c.in-Some.is) (refl, granted_done c.args.served granted, minted),
        ap (λ (r : RepeatsFields). record old { repeats = r }) (c.keep.ensures.kept held),
      )
      | inr lost ↦ (
        None,
        tt,
        ap (λ (r : RepeatsFields). record old { repeats = r }) (c.keep.ensures.short lost),
      )
    ]
