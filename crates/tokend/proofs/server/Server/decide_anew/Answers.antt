use Rattle.std.proofs.Common.{◌≡◌, ◌+◌, [], None, ap, length, refl, subst, sym, ◌∙◌, rules}
use Rattle.tk_turn.specs.Outcomes.{goes_on}
use Rattle.tokend.specs.Decisions.{Asking, IsReplied, asking_of, ended_if, outcome_by, reach_by}
use Rattle.tokend.specs.Draw.{six, past_six}
use Rattle.tokend.specs.declared.server.Server.{Server}
use Rattle.tokend.proofs.Deciding.{as_served, front_stays, front_within, may_grant}
use Rattle.tokend.proofs.ServerDeciding.{fault_ends}
use Rattle.tokend.proofs.Deciding.{outcome_some, outcome_within}
use Rattle.tokend.proofs.ServerDeciding.{served_ends}
use Rattle.tokend.proofs.server.Server.decide_anew.Goals as goal

pub reply_over-requires : goal.reply_over-requires
reply_over-requires c =
    let h = c.in-Ok-Some.ensures.decides in
    let at : c.len-mark.result ≡ length c.args.replies.now.items = search rules in
    front_within c.args.replies.now.items h.0 _ c.len-mark.result h.2 at

pub returns-in-Ok-Some-clause-within : goal.returns-in-Ok-Some-clause-within
returns-in-Ok-Some-clause-within c =
    let h = c.in-Ok-Some.ensures.decides in
    let asking : Asking = record {
      words = c.draw-words.result;
      log_taken = c.args.self.now.log_taken;
      reach =
          reach_by c.args.self.now.edge.terms c.args.self.now.has_inner c.args.self.now.is_inner;
      now = c.args.self.now.now;
      bytes = c.args.input.now;
      over = c.args.is_over;
    } in
    let edge = c.args.self.now.edge in
    let k = as_served asking edge c.serve_front.new.self.edge c.in-Ok-Some.field-0
    c.in-Ok-Some.served c.in-Ok-Some.taken h.0 h.1 c.in-Ok-Some.field-0-is h.4 in
    outcome_within asking edge c.serve_front.new.self.keeps c.in-Ok-Some.served c.in-Ok-Some.taken
    c.outcome_of-outcome.result k.0 c.outcome_of-outcome.ensures

pub returns-in-Ok-Some-clause-some : goal.returns-in-Ok-Some-clause-some
returns-in-Ok-Some-clause-some c =
    let h = c.in-Ok-Some.ensures.decides in
    let asking : Asking = record {
      words = c.draw-words.result;
      log_taken = c.args.self.now.log_taken;
      reach =
          reach_by c.args.self.now.edge.terms c.args.self.now.has_inner c.args.self.now.is_inner;
      now = c.args.self.now.now;
      bytes = c.args.input.now;
      over = c.args.is_over;
    } in
    let edge = c.args.self.now.edge in
    let k = as_served asking edge c.serve_front.new.self.edge c.in-Ok-Some.field-0
    c.in-Ok-Some.served c.in-Ok-Some.taken h.0 h.1 c.in-Ok-Some.field-0-is h.4 in
    outcome_some asking edge c.serve_front.new.self.keeps c.in-Ok-Some.served c.in-Ok-Some.taken
    c.outcome_of-outcome.result k.0 c.outcome_of-outcome.ensures

pub returns-in-Ok-Some-clause-decided : goal.returns-in-Ok-Some-clause-decided
returns-in-Ok-Some-clause-decided c =
    let h = c.in-Ok-Some.ensures.decides in
    let k = as_served _ _ _ c.in-Ok-Some.field-0 c.in-Ok-Some.served c.in-Ok-Some.taken h.0 h.1
    c.in-Ok-Some.field-0-is h.4 in
    let kept = c.keep.ensures in
    let m = c.move_on.ensures in
    let at : c.len-mark.result ≡ length c.args.replies.now.items = search rules in
    let said = c.reply_over.ensures c.args.replies.now.items h.0 h.2 at in
    let keeps : c.serve_front.new.self.keeps ≡ c.args.self.now.keeps =
    ap (λ (s : Server). s.keeps) c.in-Ok-Some.ensures.others in
    let is = c.outcome_of-outcome.ensures
    ∙ ap (λ b. outcome_by b c.in-Ok-Some.served c.in-Ok-Some.taken) keeps in
    let stays : c.goes_on-stays.result ≡ goes_on c.outcome_of-outcome.result =
    c.goes_on-stays.ensures in
    let six_words = c.draw-words.ensures.value ∙ ap six c.copy-next.ensures in
    let may = may_grant (asking_of c.args.self.now c.args.input.now c.args.is_over)
    c.args.self.now.edge c.serve_front.new.self.edge.region c.args.refresh c.in-Ok-Some.served
    c.serve_front.new.self.now c.next_dot-dot.result c.draw-words.result kept.0
    c.requires.came kept.1 (ap (λ (s : Server). s.now) c.in-Ok-Some.ensures.others)
    (search rules) six_words in (
      said.0,
      h.1,
      served_ends c.args.self.now c.serve_front.new.self c.keep.new.self c.move_on.new.self
          c.args.input.now c.args.is_over c.draw-words.new.generator m.0 c.draw-words.result h.0 h.1
          kept.0
          c.requires.told six_words (c.draw-words.ensures.after ∙ ap past_six c.copy-next.ensures)
          c.in-Ok-Some.ensures.others kept.2
          c.in-Ok-Some.served c.in-Ok-Some.taken c.outcome_of-outcome.result said.0 k may m.2 is
          (subst (λ b. IsReplied b h.0 said.0) stays said.1)
          (sym (ap (λ (s : Server). s.left) c.in-Ok-Some.ensures.others)
          ∙ sym (ap (λ (s : Server). s.left) kept.2) ∙ m.1 ∙ ap (λ b. m.0 + ended_if b) stays),
      said.2,
      h.3,
    )

pub returns-in-Err-clause-decided : goal.returns-in-Err-clause-decided
returns-in-Err-clause-decided c =
    let h = c.in-Err.ensures.decides in
    let at : c.len-mark.result ≡ length c.args.replies.now.items = search rules in
    let m = c.move_on-in-Err.ensures in (
      [],
      h.1,
      fault_ends c.args.self.now c.serve_front.new.self c.serve_front.new.self
          c.move_on-in-Err.new.self c.args.input.now c.args.is_over c.draw-words.new.generator m.0
          c.draw-words.result h.0 h.1 None
          c.requires.told
          (c.draw-words.ensures.value ∙ ap six c.copy-next.ensures)
          (c.draw-words.ensures.after ∙ ap past_six c.copy-next.ensures)
          c.in-Err.ensures.others refl c.in-Err.fault refl h.4 m.2
          (sym (ap (λ (s : Server). s.left) c.in-Err.ensures.others) ∙ m.1),
      c.truncate.ensures.items
          ∙ front_stays c.args.replies.now.items h.0 _ c.len-mark.result h.2 at,
      h.3,
    )
