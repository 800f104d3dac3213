use Rattle.std.proofs.Common.{◌≡◌, ℕ, List, refl, sym, subst, rules, ◌∙◌}
use Rattle.std.specs.Io.KnownBytes.{Appends}
use Rattle.tk_put.specs.Put.{AppendsFront}
use Rattle.tk_turn.specs.Links.{released, withheld}
use Rattle.tk_turn.proofs.Holding.{each_is_own, none_held_after, others_stay}
use Rattle.tk_turn.proofs.turn.take_turn.Goals as goal

pub returns-in-Ok-clause-turn : goal.returns-in-Ok-clause-turn
returns-in-Ok-clause-turn g c =
    let logged = c.decide_each.ensures.decided.0 in
    let are : c.deref.result.now ≡ logged = search rules in
    record {
      mid = record { service = c.decide_each.new.service; links = c.decide_each.new.links.items };
      logged = logged;
      decided = c.decide_each.ensures.decided.2;
      end = record {
        appended = subst (λ (x : List ℕ). Appends (g.L.Log.written c.args.log.now)
            (g.L.Log.written c.commit.new.log) x) are c.in-Ok.ensures.bytes;
        kept = λ some. c.in-Ok.ensures.kept (λ none. some (sym are ∙ none));
        service = refl;
        links = c.release_each.ensures;
      };
      unused = λ none. c.commit.ensures.still (are ∙ none);
    }

pub returns-in-Err-clause-turn : goal.returns-in-Err-clause-turn
returns-in-Err-clause-turn g c =
    let logged = c.decide_each.ensures.decided.0 in
    let are : c.deref.result.now ≡ logged = search rules in
    record {
      mid = record { service = c.decide_each.new.service; links = c.decide_each.new.links.items };
      logged = logged;
      decided = c.decide_each.ensures.decided.2;
      end = record {
        some = λ none. c.in-Err.ensures.some (are ∙ none);
        appended = subst (λ (x : List ℕ). AppendsFront (g.L.Log.written c.args.log.now)
            (g.L.Log.written c.commit.new.log) x) are c.in-Err.ensures.bytes;
        service = c.seal.ensures;
        links = c.withhold_each.ensures;
      };
      unused = λ none. c.commit.ensures.still (are ∙ none);
    }

pub returns-in-Ok-clause-own : goal.returns-in-Ok-clause-own
returns-in-Ok-clause-own g c = λ distinct.
    each_is_own _ _ _ _ _ _ _ released _ distinct c.decide_each.ensures.decided.2
    c.release_each.ensures

pub returns-in-Ok-clause-others : goal.returns-in-Ok-clause-others
returns-in-Ok-clause-others g c =
    others_stay _ _ _ _ _ _ _ released _ c.decide_each.ensures.decided.2 c.release_each.ensures

pub returns-in-Ok-clause-held : goal.returns-in-Ok-clause-held
returns-in-Ok-clause-held g c =
    none_held_after _ _ _ _ _ _ _ released _ (λ x. refl) c.decide_each.ensures.decided.2
    c.release_each.ensures

pub returns-in-Err-clause-own : goal.returns-in-Err-clause-own
returns-in-Err-clause-own g c = λ distinct.
    each_is_own _ _ _ _ _ _ _ withheld _ distinct c.decide_each.ensures.decided.2
    c.withhold_each.ensures

pub returns-in-Err-clause-others : goal.returns-in-Err-clause-others
returns-in-Err-clause-others g c =
    others_stay _ _ _ _ _ _ _ withheld _ c.decide_each.ensures.decided.2 c.withhold_each.ensures

pub returns-in-Err-clause-held : goal.returns-in-Err-clause-held
returns-in-Err-clause-held g c =
    none_held_after _ _ _ _ _ _ _ withheld _ (λ x. refl) c.decide_each.ensures.decided.2
    c.withhold_each.ensures
