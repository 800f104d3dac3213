use Rattle.std.proofs.Common.{◌≡◌, ℕ, ◌+◌, [], ◌∷◌, ◌++◌, sym, ap, ◌∙◌, append_assoc, add-one}
use Rattle.std.proofs.lemmas.List.{append-nil}
use Rattle.tk_handle.specs.declared.dot.Dot.{Dot}
use Rattle.tk_store.specs.Slots.{Skipped}
use Rattle.tk_bundle.specs.BundleFields.{Items}
use Rattle.tk_bundle.specs.Pieces.{marks_from}
use Rattle.tk_bundle.specs.PieceLaws.{behind, marks_more}
use Rattle.tk_bundle.proofs.pieces.push_marks.Goals as goal

pub loop-offset-init : goal.loop-offset-init
unfolding marks_from
loop-offset-init c = sym (append-nil c.args.items.now.items)

-- one mark more behind the marks of n dots
pushed : (old before after : Items) (d e : Dot) (n : ℕ) → before ≡ old ++ marks_from d n
    → after ≡ before ++ (e, Skipped) ∷ [] → e ≡ behind d n → after ≡ old ++ marks_from d (n + 1)
pushed old before after d e n so_far one is =
    one ∙ ap (λ (l : Items). l ++ (e, Skipped) ∷ []) so_far
    ∙ append_assoc old (marks_from d n) ((e, Skipped) ∷ [])
    ∙ ap (λ (x : Dot). old ++ (marks_from d n ++ (x, Skipped) ∷ [])) is
    ∙ ap (λ (l : Items). old ++ l) (sym (marks_more d n))
    ∙ ap (λ (m : ℕ). old ++ marks_from d m) (sym (add-one n))

pub loop-offset-preserved : goal.loop-offset-preserved
loop-offset-preserved c =
    pushed c.args.items.now.items c.loop-offset.items.items c.push.new.self.items c.args.first
    c.dot_behind.result c.loop-offset.offset c.loop-offset.invariant
    (c.in_ok-push.ensures.items ∙ ap (λ x. c.loop-offset.items.items ++ x ∷ []) c.mark.ensures)
    c.dot_behind.ensures
