use Rattle.std.proofs.Common.{rules, refl, ◌≡◌, ◌∙◌, ◌++◌, ℕ, [], ap, length, drop, take}
use Rattle.tk_turn.proofs.Views.{all_ready, none_held, same_link}
use Rattle.tk_turn.proofs.link.Link.release.Goals as goal

pub returns : goal.returns
returns c =
    let s = c.self.inside in
    let e : c.len-self-inside.result ≡ length s.output.items = search rules in
    let held : drop c.len-self-inside.result s.output.items ≡ [] =
    ap (λ (n : ℕ). drop n s.output.items) e ∙ none_held s.output.items in
    let ready : drop s.sent (take c.len-self-inside.result s.output.items)
    ≡ drop s.sent (take s.ready s.output.items) ++ drop s.ready s.output.items =
    ap (λ (n : ℕ). drop s.sent (take n s.output.items)) e
    ∙ all_ready s.output.items s.sent s.ready c.self.invariant.1 (search rules) in
    rw (← c.self.view_is) (same_link _ _ refl held ready refl refl refl)
