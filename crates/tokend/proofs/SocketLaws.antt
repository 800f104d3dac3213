-- What a connection through sockets does to an edge, as the carrying of a request. Key results:
--   served_bytes         what came over a connection, and then ended, was served
--   front_connection     what came over a connection was served as one
--   connection_answers   a connection that was answered has made the answer to some request
use Rattle.std.specs.Prelude.{⊤}
use Rattle.std.proofs.Common.{◌≡◌, ◌≢◌, Bool, true, false, List, ℕ, [], Option, None, Some, Result}
use Rattle.std.proofs.Common.{Ok, Err, sym, subst, ◌∙◌, refl, append-nil}
use Rattle.tk_edge.specs.Answers.{answer_at}
use Rattle.tk_edge.specs.Arrivals.{Answers}
use Rattle.tk_edge.specs.EdgeFields.{EdgeFields}
use Rattle.tk_edge.specs.FrontServed.{IsFrontServed, IsServedBy}
use Rattle.tk_edge.specs.Served.{Asked, IsServed, Step}
use Rattle.tk_edge.proofs.AnswerLaws.{answers_alone}
use Rattle.tk_edge.specs.Heard.{Arrives}
use Rattle.tk_edge.specs.Told.{AnswerFields, Change}
use Rattle.tk_edge.specs.declared.edge.Served.{Served}
use Rattle.tk_edge.specs.declared.edge.Served.TheVariants.{Done}
use Rattle.tk_edge.specs.declared.front.Taken.{Taken}
use Rattle.tk_edge.specs.declared.hear.Arrival.{Arrival}
use Rattle.tk_edge.specs.declared.hear.Arrival.TheVariants.{Silence}
use Rattle.tk_edge.specs.Paths.{plain}
use Rattle.tk_edge.specs.declared.reach.PathSet.TheVariants.{Admin}
use Rattle.tk_edge.specs.declared.tell.Fault.{Fault}
use Rattle.tk_message.specs.declared.status_code.StatusCode.{StatusCode}
use Rattle.tk_world.specs.AskedFields.{AskedFields}
use Rattle.tk_world.specs.Carrying.{Makes}
use Rattle.tokend.specs.Connection.{end_of, unlogged, IsConnection}
use Rattle.tokend.proofs.Connecting.{served_less}

-- the connection with the bytes of its whole stream
abbrev known_as : Asked → List ℕ → Asked
known_as asked bytes = record {
  reach = asked.reach;
  terms = asked.terms;
  log_taken = asked.log_taken;
  known = Some bytes;
  now = asked.now;
  words = asked.words;
}

-- bytes that are served without a log are served as by any carrier
pub served_bytes : (asked : Asked) (bytes : List ℕ) (region : Step) (still : Type 0)
    (writer : Change) (sealed : Bool) (end : Result Served Fault)
    → IsServedBy asked bytes true region unlogged still writer sealed end
    → IsServed (known_as asked bytes) region unlogged ⊤ writer sealed end
served_bytes asked bytes region still writer sealed end h =
    served_less still ⊤ (known_as asked bytes) region unlogged writer sealed end (λ _. tt)
    (subst (λ l. IsServed (known_as asked l) region unlogged still writer sealed end)
    (append-nil bytes) (h [] (λ _. refl)))

-- the connection as its edge sees it
abbrev asked_at : ℕ → List ℕ → EdgeFields → Asked
asked_at now words old = record {
  reach = plain Admin;
  terms = old.terms;
  log_taken = false;
  known = None;
  now = now;
  words = words;
}

module _ (now : ℕ) (words bytes : List ℕ) (old new : EdgeFields) (still : Type 0) (writer : Change)
    (result : Result (Option (Served × Taken)) Fault)
    (h : old.sealed ≡ false
    → IsFrontServed (asked_at now words old) bytes true
    (record { before = old.region; after = new.region }) unlogged still writer new.sealed result)
    (shut : old.sealed ≡ true → new ≡ old) (terms : new.terms ≡ old.terms) where
  -- the front of the bytes was served with this result
  abbrev Fronts : Result (Option (Served × Taken)) Fault → Type 0
  Fronts r = IsFrontServed (asked_at now words old) bytes true
      (record { before = old.region; after = new.region }) unlogged still writer new.sealed r

  -- yes is not no
  clash : true ≡ false → ⊥
  clash e = absurd (cc)

  -- bytes that an unsealed edge serves to this end are a connection with this end
  connection : (end : Result Served Fault)
      → (old.sealed ≡ false
      → IsServedBy (asked_at now words old) bytes true
      (record { before = old.region; after = new.region }) unlogged still writer new.sealed end)
      → IsConnection now words bytes old new end
  connection end by = record {
    served = λ unsealed. (
      writer,
      served_bytes (asked_at now words old) bytes
          (record { before = old.region; after = new.region }) still writer new.sealed end
          (by unsealed),
    );
    shut = shut;
    terms = terms;
  }

  -- bytes whose front an unsealed edge serves are a connection with the end of the result
  of : (r : Result (Option (Served × Taken)) Fault) → (old.sealed ≡ false → Fronts r)
      → IsConnection now words bytes old new (end_of r)
  of (Ok (Some end)) f = connection (Ok end.0) (λ unsealed. (f unsealed).1)
  of (Ok None) f = record {
    served = λ unsealed. absurd (clash (f unsealed).0.unended);
    shut = shut;
    terms = terms;
  }
  of (Err fault) f = connection (Err fault) f

  -- what is decided of a front end's bytes is what a connection comes to
  pub front_connection : IsConnection now words bytes old new (end_of result)
  front_connection = of result h

module _ (asked : AskedFields) (old new : EdgeFields) (unsealed : old.sealed ≡ false) where
  -- the answer to some request that isn't empty, of which this holds, was made
  abbrev pub IsMade : (AnswerFields → Type 0) → Type 0
  IsMade P = (heard : Arrival) × (heard ≢ Silence)
      × P (answer_at old.terms old.region asked.now asked.words heard) × Makes old asked heard new

  -- what arrives at an edge that exchanges no facts is heard, and its answer was made
  made : (P : AnswerFields → Type 0) (known : Option (List ℕ)) (came : Arrival)
      → Arrives (plain Admin) known came → came ≢ Silence → (answer : AnswerFields)
      → Answers old.terms old.region asked.now asked.words came (Ok answer) new.region → P answer
      → new.sealed ≡ false → new.terms ≡ old.terms → IsMade P
  made P known came may spoke answer answers holds sealed ahead =
      let by = answers_alone old.terms old.region asked.now asked.words came
      (Ok answer) new.region may.0 answers in (
        came,
        spoke,
        subst P by.0 holds,
        record { gains = by.1; next = by.2; sealed = sealed ∙ sym unsealed; terms = ahead },
      )

  -- a connection that ends with a status has made the reply of it
  pub connection_answers : (bytes : List ℕ) (status : StatusCode)
      → IsConnection asked.now asked.words bytes old new (Ok (Done status))
      → IsMade (λ answer. status ≡ answer.status)
  connection_answers bytes status h =
      let a = (h.served unsealed).1 in
      made (λ answer. status ≡ answer.status) (Some bytes) a.0 a.1 a.2 a.3.0 a.3.1 a.3.2.0 a.3.2.3
      h.terms
