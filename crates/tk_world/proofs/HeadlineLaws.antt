-- What a run of a world promises of the state that it stands for. Key result:
--   runs_for   a run of a world is a run of that state
use Rattle.std.proofs.Common.{List, [], ◌∷◌, refl, subst, sym}
use Rattle.tk_store.specs.FactSet.{FactSet, Facts}
use Rattle.tk_world.specs.Acts.{ActsBy}
use Rattle.tk_world.specs.Carrying.{Way}
use Rattle.tk_world.specs.Headline.{RunStands}
use Rattle.tk_world.specs.State.{State}
use Rattle.tk_world.specs.World.{RunBy}
use Rattle.tk_world.specs.WorldFields.{WorldFields}
use Rattle.tk_world.specs.WorldStands.{WorldStands}
use Rattle.tk_world.specs.declared.event.Event.{Event}
use Rattle.tk_world.specs.declared.event.Outcome.{Outcome}
use Rattle.tk_world.proofs.RunLaws.{run_joins, run_alike}
use Rattle.tk_world.proofs.StepStands.{StepFor}
use Rattle.tk_world.proofs.EventStands.{step_for}

-- the run of the state for which a world stands
record RunFor (way : Way) (s : State) (es : List Event) (os : List Outcome)
    (new : WorldFields) : Type 0 where
  shown : List Facts
  made : FactSet
  after : State
  run : RunBy way s es os shown after
  stands : WorldStands new made after

-- a run of a world is a run of the state that it stands for
run_for : (way : Way) (w : WorldFields) (es : List Event) (os : List Outcome) (new : WorldFields)
    → ActsBy way w es os new → (U : FactSet) (s : State) → WorldStands w U s
    → RunFor way s es os new
run_for way w [] [] new acts U s S = record {
  shown = [];
  made = U;
  after = s;
  run = refl;
  stands = subst (λ (x : WorldFields). WorldStands x U s) (sym acts) S;
}
run_for way w (e ∷ es) (o ∷ os) new acts U s S =
    let one : StepFor way s e o acts.0 = step_for way w e o acts.0 acts.1 U s S in
    let rest : RunFor way one.after es os new =
    run_for way acts.0 es os new acts.2 one.made one.after one.stands in
    record {
      shown = one.seen ∷ rest.shown;
      made = rest.made;
      after = rest.after;
      run = (one.after, one.step, rest.run);
      stands = rest.stands;
    }
run_for way w es os new acts U s S = absurd acts

-- a run of a world is a run of the state for which it stands
pub runs_for : (way : Way) (w : WorldFields) (es : List Event) (os : List Outcome)
    (new : WorldFields)
    → ActsBy way w es os new → (U : FactSet) (s : State) → WorldStands w U s
    → RunStands way s es os new
runs_for way w es os new acts U s S =
    let x = run_for way w es os new acts U s S in
    record {
      shown = x.shown;
      made = x.made;
      after = x.after;
      run = x.run;
      stands = x.stands;
      joins = run_joins way s es os x.shown x.after x.run;
      alike = run_alike way s es os x.shown x.after x.run;
    }
