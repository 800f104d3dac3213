-- Commands, made option by option. Key results:
--   choice_more   one more option
--   if_ok         a property of what was made
--   added         a subcommand is added to a command
use Rattle.std.proofs.Common.{◌≡◌, ℕ, ◌+◌, ◌<◌, ◌∷◌, [], List, get_or, length, map, take}
use Rattle.std.proofs.Common.{append_assoc, ap, false, subst, sym, Result, Ok, Err, ◌∙◌}
use Rattle.std.proofs.lemmas.Grind.{take_at_read}
use Rattle.std.proofs.lemmas.List.{map-append}
use Rattle.std.specs.Prelude.{IfOk, IsOkAnd}
use Rattle.clap.specs.Simple.{on_top}
use Rattle.clap.specs.Words.{AddsSubcommand, App, Rule, app_of, with_rule, with_subcommand}
use Rattle.tokend.specs.Rules.{with_rules}
use Rattle.clap.specs.declared.builder.command.Command.{Command}
use Rattle.clap.specs.declared.builder.command.Command.TheViews.{out-Command}

-- the rule of one more option, behind those of the options before
pub choice_more : {C : Type 0} (f : C → Rule) (start mid new : App) (xs : List C) (i : ℕ) (d : C)
    (made : Rule)
    → i < length xs
    → mid ≡ with_rules start (map f (take i xs)) → new ≡ with_rule mid made
    → made ≡ f (get_or xs i d) → new ≡ with_rules start (map f (take (i + 1) xs))
choice_more f start mid new xs i d made lt is-mid is-new is =
    is-new ∙ ap (λ r. with_rule mid r) is ∙ ap (λ a. with_rule a (f (get_or xs i d))) is-mid
    ∙ ap (λ rs. on_top (λ s. record s { rules = rs }) start)
    (append_assoc start.top.rules (map f (take i xs)) (f (get_or xs i d) ∷ []))
    ∙ ap (with_rules start)
    (sym (map-append f (take i xs) (get_or xs i d ∷ []))
    ∙ ap (map f) (sym (take_at_read xs i d lt).1))

-- a property of what was made follows from another property of it
pub if_ok : {T E : Type 0} {P Q : T → Type 0} (r : Result T E) → ((x : T) → P x → Q x) → IfOk r P
    → IfOk r Q
if_ok (Ok x) f h = f x h
if_ok (Err e) f h = tt

-- a subcommand without global arguments is added, if it was made
abbrev pub Adds : {E : Type 0} → Command → Result Command E → Command → Type 0
Adds old made new = IsOkAnd made
    (λ s. (out-Command s).has_globals ≡ false
    → app_of new ≡ with_subcommand (app_of old) (app_of s).top)

-- a command that got a subcommand is the old one with it
pub made_added : {E : Type 0} (old sub : Command) (made r : Result Command E) → made ≡ Ok sub
    → IfOk r (λ c. AddsSubcommand old sub c)
    → IfOk r (Adds old made)
made_added old sub made (Ok c) is adds = subst (λ m. Adds old m c) (sym is) adds.shape
made_added old sub made (Err e) is adds = tt

-- a subcommand that was made, and that is known, is added
pub added : {E : Type 0} (old new : Command) (made : Result Command E) (base sub : App)
    → Adds old made new → IfOk made (λ s. app_of s ≡ sub)
    → IfOk made (λ s. (out-Command s).has_globals ≡ false) → app_of old ≡ base
    → app_of new ≡ with_subcommand base sub.top
added old new (Ok s) base sub adds is local same =
    adds local ∙ ap (λ a. with_subcommand (app_of old) a.top) is
    ∙ ap (λ a. with_subcommand a sub.top) same
added old new (Err e) base sub adds is local same = absurd adds
