use Rattle.std.proofs.Common.{◌≡◌, ℕ, List, ◌+◌, ◌++◌, ◌∷◌, [], length, sym, ap, ap₂, subst, ◌∙◌}
use Rattle.std.proofs.Common.{arith}
use Rattle.std.specs.Prelude.{All}
use Rattle.tk_params.specs.Places.{IsPlace, pairs_at}
use Rattle.tk_params.proofs.PlaceLaws.{all_stay, all_added, one_more}
use Rattle.tk_params.proofs.params.Params.add.Goals as goal

pub invariant_of-self : goal.invariant_of-self
invariant_of-self c =
    subst (λ text. All (IsPlace text) c.self.inside.places.items)
    (sym c.in_err-extend_from_slice.ensures.items) c.self.invariant

pub invariant_of-self-in_err-extend_from_slice-2 : goal.invariant_of-self-in_err-extend_from_slice-2
invariant_of-self-in_err-extend_from_slice-2 c =
    subst (λ text. All (IsPlace text) c.self.inside.places.items)
    (sym (c.in_err-extend_from_slice-2.ensures.items ∙ c.in_ok-extend_from_slice.ensures.items))
    (all_stay c.self.inside.text.items c.as_bytes.result.now c.self.inside.places.items
    c.self.invariant)

pub invariant_of-self-in_err-push : goal.invariant_of-self-in_err-push
invariant_of-self-in_err-push c =
    let text = c.self.inside.text.items in
    let places = c.self.inside.places.items in
    let name = c.as_bytes.result.now in
    let value = c.as_bytes-2.result.now in
    let is : c.extend_from_slice-2.new.self.items ≡ (text ++ name) ++ value =
    c.in_ok-extend_from_slice-2.ensures.items
    ∙ ap (λ t. t ++ value) c.in_ok-extend_from_slice.ensures.items in
    subst (λ t. All (IsPlace t) c.push.new.self.items) (sym is)
    (subst (λ ps. All (IsPlace ((text ++ name) ++ value)) ps) (sym c.in_err-push.ensures.items)
    (all_stay (text ++ name) value places (all_stay text name places c.self.invariant)))

pub invariant_of-self-2 : goal.invariant_of-self-2
invariant_of-self-2 c =
    let text = c.self.inside.text.items in
    let places = c.self.inside.places.items in
    let name = c.as_bytes.result.now in
    let value = c.as_bytes-2.result.now in
    let is : c.extend_from_slice-2.new.self.items ≡ (text ++ name) ++ value =
    c.in_ok-extend_from_slice-2.ensures.items
    ∙ ap (λ t. t ++ value) c.in_ok-extend_from_slice.ensures.items in
    let start : c.len-start.result ≡ length text = omega arith in
    let middle : c.len-middle.result ≡ length text + length name =
    omega (arith, c.in_ok-extend_from_slice.ensures.len) in
    let end : c.len-end.result ≡ length text + length name + length value =
    omega (arith, c.in_ok-extend_from_slice.ensures.len, c.in_ok-extend_from_slice-2.ensures.len) in
    subst (λ t. All (IsPlace t) c.push.new.self.items) (sym is)
    (subst (λ ps. All (IsPlace ((text ++ name) ++ value)) ps) (sym c.in_ok-push.ensures.items)
    (all_added text name value places _ start middle end c.as_bytes-2.ensures.utf8
    c.self.invariant))

pub returns : goal.returns
returns c =
    let text = c.self.inside.text.items in
    let places = c.self.inside.places.items in
    let name = c.as_bytes.result.now in
    let value = c.as_bytes-2.result.now in
    let is : c.extend_from_slice-2.new.self.items ≡ (text ++ name) ++ value =
    c.in_ok-extend_from_slice-2.ensures.items
    ∙ ap (λ t. t ++ value) c.in_ok-extend_from_slice.ensures.items in
    let start : c.len-start.result ≡ length text = omega arith in
    let middle : c.len-middle.result ≡ length text + length name =
    omega (arith, c.in_ok-extend_from_slice.ensures.len) in
    let end : c.len-end.result ≡ length text + length name + length value =
    omega (arith, c.in_ok-extend_from_slice.ensures.len, c.in_ok-extend_from_slice-2.ensures.len) in
    ap₂ (λ t ps. pairs_at t ps) is c.in_ok-push.ensures.items
    ∙ one_more text name value places _ start middle end c.self.invariant
    ∙ ap₂ (λ pairs pair. pairs ++ pair ∷ []) c.self.view_is
    (ap₂ (λ (x y : List ℕ). (x, y)) c.as_bytes.ensures.value c.as_bytes-2.ensures.value)
