-- Requests of one connection, one after the other.
use Rattle.std.proofs.Common.{
  ◌≡◌,
  ℕ,
  ◌+◌,
  ◌-◌,
  ◌≤◌,
  Bool,
  true,
  List,
  [],
  ◌∷◌,
  ◌++◌,
  drop,
  length,
  arith,
  refl,
  sym,
  append_assoc,
  ap,
  subst,
  ◌∙◌,
}
use Rattle.std.proofs.lemmas.List.{drop-drop, length-drop}
use Rattle.tk_turn.specs.declared.service.Outcome.{Outcome}
use Rattle.tk_turn.specs.Outcomes.{Decides, taken_of, goes_on, max_requests}
use Rattle.tk_turn.specs.Requests.{AreDecided, AreRequests, Request, Requests}

-- the first `count` requests were decided, up to a place; the later ones go on from them
pub record Deciding {S : Type 0} (decides : Decides S) (old : S) (input : List ℕ) (over : Bool)
    (replies records : List ℕ) (now : S) (at count : ℕ) (replied_now logged_now : List ℕ)
    : Type 0 where
  -- requests that were decided, and those behind them, are decided one after the other
  pub joins : (next : Request) (others : List Request) (last : Outcome) (replied logged : List ℕ)
      (new : S) (rest : List ℕ)
      → AreDecided decides now (drop at input) over (next ∷ others) last replied logged new rest
      → (all : Requests)
      × AreDecided decides old input over all.all all.last all.replied all.logged new rest
      × (all.last ≡ last) × (length all.all ≡ count + length (next ∷ others))
      × (replied_now ++ replied ≡ replies ++ all.replied)
      × (logged_now ++ logged ≡ records ++ all.logged)

-- what one decision made of the replies and the records
abbrev pub Made : {S : Type 0} → Decides S → S → List ℕ → Bool → Outcome → S → List ℕ → List ℕ
    → List ℕ → List ℕ → Type 0
Made decides now bytes over outcome mid replied_now logged_now replied_then logged_then =
    (replied : List ℕ) × (logged : List ℕ) × decides now bytes over outcome replied logged mid
    × (replied_then ≡ replied_now ++ replied) × (logged_then ≡ logged_now ++ logged)

-- before the first request
pub none_yet : {S : Type 0} (decides : Decides S) (old : S) (input : List ℕ) (over : Bool)
    (replies records : List ℕ)
    → Deciding decides old input over replies records old 0 0 replies records
none_yet decides old input over replies records = record {
  joins = λ next others last replied logged new rest after. (
    record { all = next ∷ others; last = last; replied = replied; logged = logged },
    after,
    refl,
    omega arith,
    refl,
    refl,
  );
}

-- one more request, behind which another may follow
pub one_more : {S : Type 0} (decides : Decides S) (old : S) (input : List ℕ) (over : Bool)
    (replies records : List ℕ) (now mid : S) (at count : ℕ)
    (replied_now logged_now replied_then logged_then : List ℕ) (outcome : Outcome)
    → Made decides now (drop at input) over outcome mid replied_now logged_now replied_then
    logged_then → goes_on outcome ≡ true
    → Deciding decides old input over replies records now at count replied_now logged_now
    → Deciding decides old input over replies records mid (at + taken_of outcome) (count + 1)
    replied_then logged_then
one_more decides old input over replies records now mid at count replied_now logged_now
    replied_then logged_then outcome made goes so_far = record {
      joins = λ next others last replied logged new rest after.
          let one : Request =
          record { outcome = outcome; reply = made.0; logged = made.1 } in
          let moved : drop (at + taken_of outcome) input ≡ drop (taken_of outcome) (drop at input) =
          sym (drop-drop (taken_of outcome) at input) in
          let later = subst (λ (x : List ℕ). AreDecided decides mid x over (next ∷ others) last
          replied logged new rest) moved after in
          let whole = so_far.joins one (next ∷ others) last (made.0 ++ replied) (made.1 ++ logged)
          new rest (mid, made.2, goes, replied, logged, refl, refl, later) in (
            whole.0,
            whole.1,
            whole.2,
            omega (arith, whole.3),
            ap (λ x. x ++ replied) made.3 ∙ append_assoc replied_now made.0 replied ∙ whole.4,
            ap (λ x. x ++ logged) made.4 ∙ append_assoc logged_now made.1 logged ∙ whole.5,
          );
    }

-- the last decision: none may follow, or they are as many as a turn may decide
pub all_decided : {S : Type 0} (decides : Decides S) (old : S) (input : List ℕ) (over : Bool)
    (replies records : List ℕ) (now mid : S) (at count : ℕ)
    (replied_now logged_now replied_then logged_then : List ℕ) (outcome : Outcome)
    → Made decides now (drop at input) over outcome mid replied_now logged_now replied_then
    logged_then → count + 1 ≤ max_requests
    → (goes_on outcome ≡ true → count + 1 ≡ max_requests)
    → Deciding decides old input over replies records now at count replied_now logged_now
    → (requests : Requests)
    × AreRequests decides old input over requests mid (drop (at + taken_of outcome) input)
    × (replied_then ≡ replies ++ requests.replied) × (logged_then ≡ records ++ requests.logged)
    × (outcome ≡ requests.last)
all_decided decides old input over replies records now mid at count replied_now logged_now
    replied_then logged_then outcome made most ends so_far =
    let one : Request = record { outcome = outcome; reply = made.0; logged = made.1 } in
    let moved : drop (at + taken_of outcome) input ≡ drop (taken_of outcome) (drop at input) =
    sym (drop-drop (taken_of outcome) at input) in
    let whole = so_far.joins one [] outcome made.0 made.1 mid (drop (at + taken_of outcome) input)
    (made.2, refl, refl, refl, moved) in
    let many : length whole.0.all ≡ count + 1 = omega (arith, whole.3) in
    let requests : AreRequests decides old input over whole.0 mid
    (drop (at + taken_of outcome) input) = record {
      decided = whole.1;
      most = omega (arith, many, most);
      ends = λ goes. many ∙ ends (ap goes_on (sym whole.2) ∙ goes);
    } in
    (whole.0, requests, made.3 ∙ whole.4, made.4 ∙ whole.5, sym whole.2)

-- a place goes on by what was taken behind it
pub within_more : (input : List ℕ) (at taken : ℕ) → at ≤ length input
    → taken ≤ length (drop at input) → at + taken ≤ length input
within_more input at taken start short =
    let long : length (drop at input) ≡ length input - at = length-drop at input in
    let less : taken ≤ length input - at = rw long at short in
    omega arith
