use Rattle.std.proofs.Common.{List, ℕ, [], append-nil, subst, sym, ◌∙◌}
use Rattle.tokend.specs.Repeating.{GivesAgain}
use Rattle.tokend.proofs.Deciding.{none_of}
use Rattle.tokend.proofs.ServerDeciding.{again_decides, again_some, again_within, short_decides}
use Rattle.tokend.proofs.server.ServerService.decide.Goals as goal

pub returns-in-Again-clause-within : goal.returns-in-Again-clause-within
returns-in-Again-clause-within c =
    let given = subst (λ (r : List ℕ).
    GivesAgain c.args.self.now c.in-Again.taken r c.reply_again.result c.args.replies.now.items
    c.reply_again.new.replies.items c.reply_again.new.self) c.deref.ensures.value
    c.reply_again.ensures in
    again_within c.args.self.now c.args.input.now c.args.is_over c.reply_again.result
    c.in-Again.reply.items c.args.replies.now.items c.reply_again.new.replies.items c.in-Again.taken
    c.reply_again.new.self
    c.in-Again.ensures given

pub returns-in-Again-clause-some : goal.returns-in-Again-clause-some
returns-in-Again-clause-some c =
    let given = subst (λ (r : List ℕ).
    GivesAgain c.args.self.now c.in-Again.taken r c.reply_again.result c.args.replies.now.items
    c.reply_again.new.replies.items c.reply_again.new.self) c.deref.ensures.value
    c.reply_again.ensures in
    again_some c.args.self.now c.args.input.now c.args.is_over c.reply_again.result
    c.in-Again.reply.items c.args.replies.now.items c.reply_again.new.replies.items c.in-Again.taken
    c.reply_again.new.self
    c.in-Again.ensures given

pub returns-in-Again-clause-decided : goal.returns-in-Again-clause-decided
returns-in-Again-clause-decided c =
    let given = subst (λ (r : List ℕ).
    GivesAgain c.args.self.now c.in-Again.taken r c.reply_again.result c.args.replies.now.items
    c.reply_again.new.replies.items c.reply_again.new.self) c.deref.ensures.value
    c.reply_again.ensures in
    let h = again_decides c.args.self.now c.args.input.now c.args.is_over c.reply_again.result
    c.in-Again.reply.items c.args.replies.now.items c.reply_again.new.replies.items c.in-Again.taken
    c.reply_again.new.self
    (none_of _ (sym c.is_some.ensures ∙ c.if-is_some.false)) c.in-Again.ensures given in
    (h.0, [], h.1, h.2, sym (append-nil c.args.records.now.items))

pub returns-in-Short-clause-decided : goal.returns-in-Short-clause-decided
returns-in-Short-clause-decided c = (
  [],
  [],
  short_decides c.args.self.now c.args.input.now c.args.is_over c.fall_short.result
      c.fall_short.new.self (none_of _ (sym c.is_some.ensures ∙ c.if-is_some.false))
      c.fall_short.ensures,
  sym (append-nil c.args.replies.now.items),
  sym (append-nil c.args.records.now.items),
)
