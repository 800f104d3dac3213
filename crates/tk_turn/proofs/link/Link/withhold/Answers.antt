use Rattle.std.proofs.Common.{rules, refl, ◌≡◌, ◌∙◌, [], true, ap, drop, take}
use Rattle.std.proofs.lemmas.List.{take-take}
use Rattle.tk_turn.specs.Links.{ends_without}
use Rattle.tk_turn.proofs.Views.{ends_if_held, none_left, same_link}
use Rattle.tk_turn.proofs.link.Link.withhold.Goals as goal

pub returns-then-self-len : goal.returns-then-self-len
returns-then-self-len c =
    let s = c.self.inside in
    let xs = s.output.items in
    let cut : c.truncate.new.self.items ≡ take s.ready xs = c.truncate.ensures.items in
    let held : drop s.ready c.truncate.new.self.items ≡ [] =
    ap (drop s.ready) cut ∙ none_left xs s.ready (search rules) in
    let ready : drop s.sent (take s.ready c.truncate.new.self.items)
    ≡ drop s.sent (take s.ready xs) =
    ap (λ ys. drop s.sent (take s.ready ys)) cut
    ∙ ap (drop s.sent) (take-take s.ready s.ready xs (search rules)) in
    let last : true ≡ ends_without (drop s.ready xs) s.is_last =
    ends_if_held xs s.ready s.is_last (search rules) in
    rw (← c.self.view_is) (same_link _ _ refl held ready refl last refl)
