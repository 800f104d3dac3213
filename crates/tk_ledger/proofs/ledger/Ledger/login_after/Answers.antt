use Rattle.std.proofs.Common.{List, sym, ap, subst, ◌∙◌}
use Rattle.std.specs.BTreeSet.{keys_between}
use Rattle.std.specs.List.{filter_map}
use Rattle.std.specs.declared.ops.Bound.{Bound}
use Rattle.std.specs.declared.ops.Bound.TheVariants.{Included}
use Rattle.tk_store.specs.FactSet.{FactSet}
use Rattle.tk_store.specs.StoreFields.{held_facts}
use Rattle.tk_ledger.specs.Changes.{digest_prefix}
use Rattle.tk_ledger.specs.SubjectTables.{login_cmp, login_start, logins_above, IsLogins}
use Rattle.tk_ledger.specs.SubjectWalk.{seen, login_by, logins_of}
use Rattle.tk_ledger.specs.declared.subject_keys.LoginKey.{LoginKey}
use Rattle.tk_ledger.proofs.DotWalkLaws.{placed, walk_first, walk_on}
use Rattle.tk_ledger.proofs.LoginKeyLaws.{logins_forward}
use Rattle.tk_ledger.proofs.SubjectWalkLaws.{walk_logins}
use Rattle.tk_ledger.proofs.ledger.Ledger.login_after.Goals as goal

pub range-key-items-requires : goal.range-key-items-requires
range-key-items-requires c = logins_forward c.digest_prefix-prefix.result c.args.after
    c.logins_from-first.result c.last_login-last.result c.logins_from-first.ensures.value
    c.last_login-last.ensures c.logins_from-first.ensures.ranged

pub loop-key-init : goal.loop-key-init
loop-key-init c =
    ap (λ (ks : List LoginKey). filter_map
    (seen (login_by (held_facts c.args.self.now) c.args.now c.args.subject.now))
    (placed (λ k. k.code) ks))
    (c.into_iter-key-iterator.ensures.into_iter_gives ∙ c.range-key-items.ensures.between tt
    ∙ ap (λ (b : Bound LoginKey).
    keys_between login_cmp b (Included c.last_login-last.result) c.self.inside.index.logins)
    c.logins_from-first.ensures.value
    ∙ ap (λ (k : LoginKey).
    keys_between login_cmp (login_start c.digest_prefix-prefix.result c.args.after) (Included k)
    c.self.inside.index.logins) c.last_login-last.ensures
    ∙ ap (λ s. logins_above c.self.inside.index.logins s c.args.after)
    (c.digest_prefix-prefix.ensures ∙ ap digest_prefix c.subject_digest.ensures))
    ∙ walk_logins (held_facts c.args.self.now) c.self.inside.index.logins
    (subst (λ (F : FactSet). IsLogins F c.self.inside.index.logins) (ap held_facts c.self.view_is)
    c.self.invariant.logins_are)
    c.range-key-items.ensures.ordered c.args.now c.args.subject.now c.args.after

pub loop-key-preserved : goal.loop-key-preserved
loop-key-preserved c =
    walk_on (logins_of (held_facts c.args.self.now) c.args.now c.args.subject.now)
    (login_by (held_facts c.args.self.now) c.args.now c.args.subject.now) c.args.after
    (c.in-Some.key.now.code, c.in-Some.key.now) (placed (λ k. k.code) c.next.new.self)
    (sym c.login_by.ensures ∙ c.in_default.is)
    (ap (λ (ks : List LoginKey). filter_map
    (seen (login_by (held_facts c.args.self.now) c.args.now c.args.subject.now))
    (placed (λ k. k.code) ks)) (sym c.in-Some.ensures.steps)
    ∙ c.loop-key.invariant)

pub returns-in-Some-login_by : goal.returns-in-Some-login_by
returns-in-Some-login_by c =
    walk_first (logins_of (held_facts c.args.self.now) c.args.now c.args.subject.now)
    (login_by (held_facts c.args.self.now) c.args.now c.args.subject.now) c.args.after
    (c.in-Some.key.now.code, c.in-Some.key.now) (placed (λ k. k.code) c.next.new.self)
    c.in-Some-login_by.view (sym c.login_by.ensures ∙ c.in-Some-login_by.is)
    (ap (λ (ks : List LoginKey). filter_map
    (seen (login_by (held_facts c.args.self.now) c.args.now c.args.subject.now))
    (placed (λ k. k.code) ks)) (sym c.in-Some.ensures.steps)
    ∙ c.loop-key.invariant)
