-- Each table follows the set when that gets one more fact. Key results:
--   own_on         a test of the body at a dot
--   clients_on, consents_on, withdrawals_on
--                  the tables of clients, consents and withdrawals
use Rattle.std.proofs.Common.{◌≡◌, inl, inr, ℕ, Bool, true, false, ◌&&◌, ◌||◌, not, List, is_some}
use Rattle.std.proofs.Common.{refl, sym, ap, subst, ◌∙◌}
use Rattle.std.proofs.Math.Bool.{and-true as and_yes, and-false as and_no}
use Rattle.std.proofs.Math.Bool.{or-true as or_yes, or-false as or_no}
use Rattle.std.proofs.lemmas.Bool.{or_cases, and_parts}
use Rattle.std.specs.Option.{option_and_then}
use Rattle.std.specs.BTreeMap.{BTreeMap}
use Rattle.std.specs.BTreeSet.{BTreeSet, contains}
use Rattle.std.specs.FinMap as map
use Rattle.tk_handle.specs.declared.dot.Dot.{Dot}
use Rattle.tk_handle.specs.declared.token_id.TokenId.{TokenId}
use Rattle.tk_handle.specs.Dot.{IsDot, dot_cmp}
use Rattle.tk_fact.specs.declared.body.Body.{Body}
use Rattle.tk_fact.specs.declared.body.Body.TheVariants.{ClientAdded, ClientRetired, ConsentGiven}
use Rattle.tk_fact.specs.declared.body.Body.TheVariants.{ConsentWithdrawn, TokenRevoked}
use Rattle.tk_store.specs.FactSet.{FactSet}
use Rattle.tk_store.proofs.OneMoreLaws.{OneMore, cases_dots, apart_at, any_fact-more}
use Rattle.tk_ledger.specs.Bodies.{is_same_dot}
use Rattle.tk_ledger.specs.Clients.{added_in, client_at, retires_in, retires, is_retired, given_in}
use Rattle.tk_ledger.specs.Clients.{consent_at, withdraws_in, withdraws, is_withdrawn}
use Rattle.tk_ledger.specs.Tokens.{revoked_by}
use Rattle.tk_ledger.specs.Changes.{change_in, adds, retires_of, gives_to, withdraws_of, revokes_of}
use Rattle.tk_ledger.specs.Index.{row_at, row_added, row_retired, is_at, IsClients, is_from}
use Rattle.tk_ledger.specs.Index.{is_listed, IsConsents, IsWithdrawals}
use Rattle.tk_ledger.specs.declared.client_rows.ClientRow.{ClientRow}
use Rattle.tk_ledger.specs.declared.consent_keys.ConsentKey.{ConsentKey}
use Rattle.tk_store.proofs.OneMoreLaws.{at_itself}
use Rattle.tk_ledger.proofs.SameLaws.{same_dot-true}

-- ---- a change and its body have the same effect

-- a body adds a client exactly if its change does
adds-change : (b : Body) → is_some (added_in b) ≡ adds (change_in b)
adds-change (ClientAdded f) = refl
adds-change body = refl

-- a body retires a client exactly if its change does
pub retires-change : (q : Dot) (b : Body) → retires_in q b ≡ retires_of q (change_in b)
retires-change q (ClientRetired f) = refl
retires-change q body = refl

-- a body gives a client a consent of a subject exactly if its change does
gives-change : (client : Dot) (subject : List ℕ) (b : Body)
    → is_from client subject (given_in b) ≡ gives_to client subject (change_in b)
gives-change client subject (ConsentGiven f) = refl
gives-change client subject body = refl

-- a body withdraws a consent exactly if its change does
pub withdraws-change : (q : Dot) (b : Body) → withdraws_in q b ≡ withdraws_of q (change_in b)
withdraws-change q (ConsentWithdrawn f) = refl
withdraws-change q body = refl

-- a body revokes a token exactly if its change does
pub revokes-change : (k : TokenId) (digest : List ℕ) (client : Dot) (b : Body)
    → revoked_by k digest client b ≡ revokes_of k digest client (change_in b)
revokes-change k digest client (TokenRevoked f) = refl
revokes-change k digest client body = refl

-- ---- the effect of a fact on its own dot

-- at the dot of a new fact, where no fact was, the new fact alone decides
here_or : (a x : Bool) → x ≡ false → a ≡ ((a && true) || x)
here_or true x h = refl
here_or false x h = sym h

-- at other dots than that of a new fact, what was before decides
there_or : (a x : Bool) → x ≡ ((a && false) || x)
there_or true x = refl
there_or false x = refl

-- a test of the body at a dot, which fails without a body: at the dot of the new fact the test
-- passes if the new fact does, at other dots as before
pub own_on : (d q : Dot) (a x at_f at_g : Bool)
    → (q ≡ d → at_f ≡ false) → (q ≡ d → at_g ≡ a) → (¬ (q ≡ d) → at_g ≡ at_f) → x ≡ at_f
    → ((a && is_at d q) || x) ≡ at_g
own_on d q a x at_f at_g free here there i = elim (cases_dots q d) [
  | inl same ↦
      ap (λ t. (a && t) || x) (ap (is_at d) same ∙ at_itself d)
      ∙ sym (here_or a x (i ∙ free same))
      ∙ sym (here same)
  | inr ne ↦
      ap (λ t. (a && t) || x) (apart_at d q (λ e. ne (sym e)))
      ∙ sym (there_or a x)
      ∙ i ∙ sym (there ne)
]

-- ---- clients

-- a client at a dot is added by the new fact, or was before
pub added_on : (F G : FactSet) (d : Dot) (b : Body) (q : Dot) (x : Bool) → OneMore F G d b
    → x ≡ is_some (client_at F q)
    → ((adds (change_in b) && is_at d q) || x) ≡ is_some (client_at G q)
added_on F G d b q x m i =
    own_on d q (adds (change_in b)) x (is_some (client_at F q)) (is_some (client_at G q))
    (λ same. ap (λ e. is_some (option_and_then added_in e)) (ap (map.get F) same ∙ m.free))
    (λ same. ap (λ e. is_some (option_and_then added_in e)) (ap (map.get G) same ∙ m.here)
    ∙ adds-change b)
    (λ ne. ap (λ e. is_some (option_and_then added_in e)) (m.there q ne))
    i

-- the table of clients follows the set with one more fact
pub clients_on : (F G : FactSet) (d : Dot) (b : Body) (t u : BTreeMap Dot ClientRow)
    → OneMore F G d b → IsClients F t
    → ((q : Dot)
    → row_added (row_at u q) ≡ ((adds (change_in b) && is_at d q) || row_added (row_at t q)))
    → ((q : Dot)
    → row_retired (row_at u q) ≡ (retires_of q (change_in b) || row_retired (row_at t q)))
    → IsClients G u
clients_on F G d b t u m i a r = record {
  added = λ q. a q ∙ added_on F G d b q (row_added (row_at t q)) m (i.added q);
  retired = λ q. r q ∙ ap (λ x. retires_of q (change_in b) || x) (i.retired q)
      ∙ ap (λ x. x || is_retired F q) (sym (retires-change q b))
      ∙ sym (any_fact-more (retires q) F G d b m);
}

-- ---- consents

-- a consent at a dot is given by the new fact, or was before
pub given_on : (F G : FactSet) (d : Dot) (b : Body) (client : Dot) (subject : List ℕ) (q : Dot)
    (x : Bool)
    → OneMore F G d b → x ≡ is_from client subject (consent_at F q)
    → ((gives_to client subject (change_in b) && is_at d q) || x)
    ≡ is_from client subject (consent_at G q)
given_on F G d b client subject q x m i =
    own_on d q (gives_to client subject (change_in b)) x (is_from client subject (consent_at F q))
    (is_from client subject (consent_at G q))
    (λ same. ap (λ e. is_from client subject (option_and_then given_in e))
    (ap (map.get F) same ∙ m.free))
    (λ same. ap (λ e. is_from client subject (option_and_then given_in e))
    (ap (map.get G) same ∙ m.here)
    ∙ gives-change client subject b)
    (λ ne. ap (λ e. is_from client subject (option_and_then given_in e)) (m.there q ne))
    i

-- a consent is withdrawn if the new fact withdraws it, or a fact before did
pub withdrawn_on : (F G : FactSet) (d : Dot) (b : Body) (q : Dot) → OneMore F G d b
    → (withdraws_of q (change_in b) || is_withdrawn F q) ≡ is_withdrawn G q
withdrawn_on F G d b q m = ap (λ x. x || is_withdrawn F q) (sym (withdraws-change q b))
    ∙ sym (any_fact-more (withdraws q) F G d b m)

-- each dot that is listed is in range
abbrev pub Ranged : BTreeSet ConsentKey → Type 0
Ranged t =
    (client : Dot) (subject : List ℕ) (d : Dot) → is_listed t client subject d ≡ true
    → IsDot d × IsDot client

-- a consent is live if it was given, now or before, and is not withdrawn, now or before
live_on : (a f w v x given gone : Bool) → x ≡ (f && not w) → (a || f) ≡ given → (v || w) ≡ gone
    → (((a && not w) || x) && not v) ≡ (given && not gone)
live_on a f w v x given gone i g n =
    ap (λ z. ((a && not w) || z) && not v) i ∙ spread a f w v ∙ ap (λ z. z && not (v || w)) g
    ∙ ap (λ z. given && not z) n
  where
    spread : (a f w v : Bool)
        → (((a && not w) || (f && not w)) && not v) ≡ ((a || f) && not (v || w))
    spread a f true v = simp (and_no, or_yes)
    spread a f false v = simp (and_yes, or_no)

-- the table of consents follows the set with one more fact
pub consents_on : (F G : FactSet) (d : Dot) (b : Body) (t u : BTreeSet ConsentKey) → OneMore F G d b
    → IsConsents F t → Ranged u
    → ((client : Dot) (subject : List ℕ) (q : Dot)
    → is_listed u client subject q
    ≡ ((((gives_to client subject (change_in b) && is_at d q) && not (is_withdrawn F q))
    || is_listed t client subject q)
    && not (withdraws_of q (change_in b))))
    → IsConsents G u
consents_on F G d b t u m i ranged l = record {
  listed = λ client subject q. l client subject q
      ∙ live_on (gives_to client subject (change_in b) && is_at d q)
      (is_from client subject (consent_at F q)) (is_withdrawn F q) (withdraws_of q (change_in b))
      (is_listed t client subject q) (is_from client subject (consent_at G q)) (is_withdrawn G q)
      (i.listed client subject q)
      (given_on F G d b client subject q (is_from client subject (consent_at F q)) m refl)
      (withdrawn_on F G d b q m);
  ranged = ranged;
}

-- dots that are newly listed are in range if their dot is
pub ranged_on : (t u : BTreeSet ConsentKey) (d : Dot) (n : Dot → List ℕ → Bool) → IsDot d
    → ((client : Dot) (subject : List ℕ) → n client subject ≡ true → IsDot client) → Ranged t
    → ((client : Dot) (subject : List ℕ) (q : Dot)
    → is_listed u client subject q
    ≡ ((n client subject && is_same_dot d q) || is_listed t client subject q))
    → Ranged u
ranged_on t u d n here to before l client subject q h = elim (or_cases
    (n client subject && is_same_dot d q) (is_listed t client subject q)
    (sym (l client subject q) ∙ h)) [
      | inl new ↦ let p = and_parts (n client subject) (is_same_dot d q) new in
          (subst (λ (x : Dot). IsDot x) (same_dot-true d q p.1) here, to client subject p.0)
      | inr old ↦ before client subject q old
    ]

-- the table of withdrawals follows the set with one more fact
pub withdrawals_on : (F G : FactSet) (d : Dot) (b : Body) (t u : BTreeSet Dot) → OneMore F G d b
    → IsWithdrawals F t
    → ((q : Dot) → contains dot_cmp u q ≡ (withdraws_of q (change_in b) || contains dot_cmp t q))
    → IsWithdrawals G u
withdrawals_on F G d b t u m i w q =
    w q ∙ ap (λ x. withdraws_of q (change_in b) || x) (i q) ∙ withdrawn_on F G d b q m
