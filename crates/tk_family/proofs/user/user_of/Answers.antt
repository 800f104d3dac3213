use Rattle.std.proofs.Common.{◌≡◌, Option, Some, None, IfSome, IfNone, refl, sym, ap, ◌∙◌}
use Rattle.tk_family.specs.Children.{others_in}
use Rattle.tk_family.specs.Families.{use_of, IsUsed}
use Rattle.tk_family.specs.Rows.{table, links_of, firsts_of}
use Rattle.tk_family.specs.Uses.{uses_by}
use Rattle.tk_family.proofs.ChildLaws.{first_listed, none_listed}
use Rattle.tk_family.proofs.UserLaws.{unnamed_unused, listed_uses, unlisted_unused}
use Rattle.tk_family.proofs.user.user_of.Goals as goal

-- what holds of each value that an option has holds if the option is Some
on_some : {X : Type 0} (o : Option X) (P : X → Type 0) → ((x : X) → o ≡ Some x → P x) → IfSome o P
on_some None P h = tt
on_some (Some x) P h = h x refl

-- what follows from an option that is None holds if the option is None
on_none : {X : Type 0} (o : Option X) (P : Type 0) → (o ≡ None → P) → IfNone o P
on_none None P h = h refl
on_none (Some x) P h = tt

pub returns-in_default-clause-none : goal.returns-in_default-clause-none
returns-in_default-clause-none c = unnamed_unused (links_of (table c.args.rows.now))
    (firsts_of (table c.args.rows.now)) (others_in c.args.others.now) c.args.token.now c.requires
    (sym c.first_at.ensures ∙ c.in_default.is)

pub returns-clause-some : goal.returns-clause-some
returns-clause-some c =
    on_some c.first_user.result (λ d. use_of (links_of (table c.args.rows.now) d)
    ≡ Some c.args.token.now) (λ d is. listed_uses (links_of (table c.args.rows.now))
    (firsts_of (table c.args.rows.now)) (others_in c.args.others.now) c.args.token.now d c.requires
    (first_listed c.args.others.now c.args.token.now d (sym c.first_user.ensures ∙ is)))

pub returns-clause-none : goal.returns-clause-none
returns-clause-none c =
    on_none c.first_user.result (¬ IsUsed (links_of (table c.args.rows.now)) c.args.token.now)
    (λ is. unlisted_unused (links_of (table c.args.rows.now)) (firsts_of (table c.args.rows.now))
    (others_in c.args.others.now) c.args.token.now c.in-Some.first c.requires
    (sym c.first_at.ensures ∙ c.in-Some.is)
    (ap (λ o. uses_by o c.args.token.now) (sym c.link_at.ensures) ∙ sym c.uses.ensures
    ∙ c.if-uses.false)
    (none_listed c.args.others.now c.args.token.now (c.requires.ranged c.args.token.now)
    (sym c.first_user.ensures ∙ is)))
