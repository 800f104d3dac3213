-- What the store of a ledger knows once a dot is skipped. Key results:
--   skipped_held, free_skipped   the facts that are held then
--   skipped_passes, was_indexed  what is needed to bring the tables up to date
--   skips_more                   a loop that skips the dots of a list
--   never_refused, all_may_go    what may be skipped may go, and is never refused
use Rattle.std.proofs.Common.{◌≡◌, ◌⊎◌, inl, inr, ℕ, ◌+◌, ◌-◌, ◌<◌, ◌≤◌, Bool, true, false, ◌||◌}
use Rattle.std.proofs.Common.{cond, List, get_or, take, length, Option, Some, None, is_some}
use Rattle.std.proofs.Common.{option_map, Result, Ok, Err, refl, sym, ap, subst, ◌∙◌, arith}
use Rattle.std.proofs.lemmas.Bool.{true≢false, cases_Bool}
use Rattle.std.proofs.lemmas.List.Folds.{list_any_more}
use Rattle.std.specs.FinMap as map
use Rattle.tk_handle.specs.declared.dot.Dot.{Dot}
use Rattle.tk_handle.specs.Dot.{dot_cmp, dot_cmp_total}
use Rattle.tk_family.specs.Dots.{dot_eq, has}
use Rattle.tk_family.proofs.DotLaws.{dot_eq-true, dot_eq-same}
use Rattle.tk_fact.specs.Keeping.{kept_for, is_passing}
use Rattle.tk_fact.specs.declared.body.Body.{Body}
use Rattle.tk_fact.specs.declared.body.Body.TheVariants.{ClientAdded, ClientRetired, ConsentGiven}
use Rattle.tk_fact.specs.declared.body.Body.TheVariants.{ConsentWithdrawn, CodeIssued, CodeRedeemed}
use Rattle.tk_fact.specs.declared.body.Body.TheVariants.{RefreshRotated, TokenRevoked, ReuseSeen}
use Rattle.tk_fact.specs.declared.body.Body.TheVariants.{SubjectOut, AccessRefreshed, SecretSet}
use Rattle.tk_handle.specs.declared.token_id.TokenId.{TokenId}
use Rattle.tk_store.specs.Skipping.{Skips, MayGo, Lasts}
use Rattle.tk_store.specs.Slots.{Slot, Held, Skipped, held_slot}
use Rattle.tk_store.specs.StoreFields.{StoreFields, held_facts, with_skipped}
use Rattle.tk_store.specs.declared.store.Added.{Added}
use Rattle.tk_store.specs.declared.store.Added.TheVariants as added
use Rattle.tk_store.specs.declared.store.AddError.{AddError}
use Rattle.tk_store.specs.declared.store.AddError.TheVariants.{Conflict, Memory}
use Rattle.tk_store.proofs.PutLaws.{by_dot, get_here, none_is_not_some, some_injective}
use Rattle.tk_store.proofs.SlotLaws.{get_held, held_skip, remove_free}
use Rattle.tk_ledger.specs.Changes.{change_in}
use Rattle.tk_ledger.specs.Index.{IsIndexed}
use Rattle.tk_ledger.specs.Losses.{passes, WasIndexed}
use Rattle.tk_ledger.specs.Retention.{MaySkip, SkipsAll, AllMayGo}
use Rattle.tk_ledger.specs.declared.change.Change.{Change}
use Rattle.tk_ledger.specs.declared.index.Index.{Index}
use Rattle.tk_handle.proofs.TestLaws.{neither}

-- ---- one dot

-- the change of a fact that may go is one that the tables can lose
passing_change : (b : Body) → is_passing b ≡ true → passes (change_in b) ≡ true
passing_change (ClientAdded f) h = h
passing_change (ClientRetired f) h = h
passing_change (ConsentGiven f) h = h
passing_change (ConsentWithdrawn f) h = h
passing_change (CodeIssued f) h = refl
passing_change (CodeRedeemed f) h = refl
passing_change (RefreshRotated f) h = refl
passing_change (TokenRevoked f) h = refl
passing_change (ReuseSeen f) h = refl
passing_change (SubjectOut f) h = h
passing_change (AccessRefreshed f) h = refl
passing_change (SecretSet f) h = h

-- the store after a skip that succeeds is that with the dot skipped
skipped_is : (P Q : StoreFields) (d : Dot) (a : Added) → Skips P d (Ok a) Q → Q ≡ with_skipped P d
skipped_is P Q d added.New s = s.1
skipped_is P Q d added.Held s = s.1

-- after a skip the facts held are those before, but for the skipped one
pub skipped_held : (P Q : StoreFields) (d : Dot) (a : Added) → Skips P d (Ok a) Q
    → held_facts Q ≡ map.remove (held_facts P) d
skipped_held P Q d a s = ap held_facts (skipped_is P Q d a s) ∙ held_skip P.slots d

-- a fact in a slot that may go passes
may_pass : (o : Option Slot) (b : Body) → MayGo o → held_slot o ≡ Some b → is_passing b ≡ true
may_pass None b may h = absurd may
may_pass (Some (Held c)) b may h = sym (ap is_passing (some_injective c b h)) ∙ may
may_pass (Some Skipped) b may h = absurd (none_is_not_some b h)

-- a fact that was skipped passes
pub skipped_passes : (P Q : StoreFields) (d : Dot) (a : Added) (b : Body) (y : Change)
    → Skips P d (Ok a) Q → map.get (held_facts P) d ≡ Some b → y ≡ change_in b → passes y ≡ true
skipped_passes P Q d added.New b y s at is =
    absurd (none_is_not_some b (sym (ap held_slot s.0) ∙ sym (get_held P.slots d) ∙ at))
skipped_passes P Q d added.Held b y s at is =
    ap passes is
    ∙ passing_change b (may_pass (map.get P.slots d) b s.0 (sym (get_held P.slots d) ∙ at))

-- the tables before a skip are those of the facts after it, and the skipped one
pub was_indexed : (P Q : StoreFields) (d : Dot) (a : Added) (b : Body) (y : Change) (x : Index)
    → Skips P d (Ok a) Q → map.get (held_facts P) d ≡ Some b → y ≡ change_in b
    → IsIndexed (held_facts P) x → WasIndexed (held_facts Q) d y x
was_indexed P Q d a b y x s at is indexed = record {
  before = held_facts P;
  makes = ap (option_map change_in) at ∙ ap (λ (z : Change). Some z) (sym is);
  rest = skipped_held P Q d a s;
  indexed = indexed;
}

-- a skip that fails changes nothing
pub skips_unchanged : (P Q : StoreFields) (d : Dot) (e : AddError) → Skips P d (Err e) Q → Q ≡ P
skips_unchanged P Q d Conflict s = s.1
skips_unchanged P Q d Memory s = s.1

-- a skip at a dot without a fact leaves the facts held
pub free_skipped : (P Q : StoreFields) (d : Dot) (r : Result Added AddError)
    → map.get (held_facts P) d ≡ None → Skips P d r Q → held_facts Q ≡ held_facts P
free_skipped P Q d (Ok a) free s = skipped_held P Q d a s ∙ remove_free (held_facts P) d free
free_skipped P Q d (Err e) free s = ap held_facts (skips_unchanged P Q d e s)

-- ---- the dots of a list

-- a map without a key has no more entries than before
remove_most : {X : Type 0} (F : map.FinMap dot_cmp X) (d : Dot)
    → map.len (map.remove F d) ≤ map.len F
remove_most F d =
    let less = map.len-remove dot_cmp_total F d in
    elim (is_some (map.get F d)) as
    (λ t. map.len (map.remove F d) ≡ cond t (map.len F - 1) (map.len F)
    → map.len (map.remove F d) ≤ map.len F) [
      | true ↦ λ is. omega (arith, is)
      | false ↦ λ is. omega (arith, is)
    ] less

-- a skip that succeeds skips its dot alone
one_skipped : (P Q : StoreFields) (d : Dot) (a : Added) → Skips P d (Ok a) Q
    → SkipsAll P (λ q. dot_eq q d) Q
one_skipped P Q d a s = record {
  here = λ q same. ap (λ (R : StoreFields). map.get R.slots q) (skipped_is P Q d a s)
      ∙ ap (map.get (map.insert P.slots d Skipped)) (dot_eq-true q d same)
      ∙ get_here P.slots d Skipped;
  there = λ q apart. ap (λ (R : StoreFields). map.get R.slots q) (skipped_is P Q d a s)
      ∙ by_dot (λ o. o ≡ map.get P.slots q) P.slots d Skipped q
      (λ same. absurd
      (true≢false (sym (ap (λ (e : Dot). dot_eq q e) (sym same) ∙ dot_eq-same q) ∙ apart))) refl;
  horizon = ap (λ (R : StoreFields). R.horizon) (skipped_is P Q d a s);
  fewer = subst (λ n. n ≤ map.len (held_facts P))
      (ap (λ (F : map.FinMap dot_cmp Body). map.len F) (sym (skipped_held P Q d a s)))
      (remove_most (held_facts P) d);
}

-- one of two tests holds if either does
either : (a b : Bool) → (a || b) ≡ true → (a ≡ true) ⊎ (b ≡ true)
either true b h = inl refl
either false b h = inr h

-- some dots were skipped, and then others
skips_then : (P Q R : StoreFields) (f g : Dot → Bool) → SkipsAll P f Q → SkipsAll Q g R
    → SkipsAll P (λ q. f q || g q) R
skips_then P Q R f g one two = record {
  here = λ q at. by_test q at (cases_Bool (g q));
  there =
      λ q apart. (let both = neither (f q) (g q) apart in two.there q both.1 ∙ one.there q both.0);
  horizon = two.horizon ∙ one.horizon;
  fewer = (let x = one.fewer in let y = two.fewer in omega (arith, x, y));
}
  where
    by_test : (q : Dot) → (f q || g q) ≡ true → (g q ≡ true) ⊎ (g q ≡ false)
        → map.get R.slots q ≡ Some Skipped
    by_test q at (inl now) = two.here q now
    by_test q at (inr apart) = two.there q apart
        ∙ one.here q
        (elim (either (f q) (g q) at) [
          | inl is ↦ is
          | inr is ↦ absurd (true≢false (sym is ∙ apart))
        ])

-- tests that pass the same dots skip the same dots
skips_as : (P Q : StoreFields) (f g : Dot → Bool) → ((q : Dot) → g q ≡ f q) → SkipsAll P f Q
    → SkipsAll P g Q
skips_as P Q f g same s = record {
  here = λ q at. s.here q (sym (same q) ∙ at);
  there = λ q apart. s.there q (sym (same q) ∙ apart);
  horizon = s.horizon;
  fewer = s.fewer;
}

-- one more dot of a list was skipped
pub skips_more : (P Q R : StoreFields) (ds : List Dot) (i : ℕ) (e d : Dot) (a : Added)
    → i < length ds → d ≡ get_or ds i e → SkipsAll P (has (take i ds)) Q → Skips Q d (Ok a) R
    → SkipsAll P (has (take (i + 1) ds)) R
skips_more P Q R ds i e d a lt is done s =
    skips_as P R (λ q. has (take i ds) q || dot_eq q d) (has (take (i + 1) ds))
    (λ q. list_any_more (dot_eq q) ds i e lt
    ∙ ap (λ (p : Dot). has (take i ds) q || dot_eq q p) (sym is))
    (skips_then P Q R (has (take i ds)) (λ q. dot_eq q d) done (one_skipped Q R d a s))

-- a slot that may go does not last
refused : (o : Option Slot) → MayGo o → Lasts o → ⊥
refused None may lasts = may
refused (Some (Held b)) may lasts = true≢false (sym may ∙ lasts)
refused (Some Skipped) may lasts = lasts

-- a dot that may go is not refused
pub never_refused : (P Q : StoreFields) (d : Dot) (e : AddError) → MayGo (map.get P.slots d)
    → Skips P d (Err e) Q → ⊥
never_refused P Q d Conflict may s = refused (map.get P.slots d) may s.0
never_refused P Q d Memory may s = subst MayGo s.0 may

-- ---- a prune

-- a fact that is kept for a token passes
pub passing_kept : (d : Dot) (b : Body) (k : TokenId) → kept_for d b ≡ Some k → is_passing b ≡ true
passing_kept d (ClientAdded f) k h = absurd (none_is_not_some k h)
passing_kept d (ClientRetired f) k h = absurd (none_is_not_some k h)
passing_kept d (ConsentGiven f) k h = absurd (none_is_not_some k h)
passing_kept d (ConsentWithdrawn f) k h = absurd (none_is_not_some k h)
passing_kept d (CodeIssued f) k h = refl
passing_kept d (CodeRedeemed f) k h = refl
passing_kept d (RefreshRotated f) k h = refl
passing_kept d (TokenRevoked f) k h = refl
passing_kept d (ReuseSeen f) k h = refl
passing_kept d (SubjectOut f) k h = absurd (none_is_not_some k h)
passing_kept d (AccessRefreshed f) k h = refl
passing_kept d (SecretSet f) k h = absurd (none_is_not_some k h)

-- a slot that holds a fact that passes may go
pub may_go : (o : Option Slot) (b : Body) → held_slot o ≡ Some b → is_passing b ≡ true → MayGo o
may_go None b h passing = absurd (none_is_not_some b h)
may_go (Some (Held c)) b h passing = ap is_passing (some_injective c b h) ∙ passing
may_go (Some Skipped) b h passing = tt

-- what may be skipped may go
pub all_may_go : (P : StoreFields) (horizon : ℕ) (at : Dot → Bool)
    → ((d : Dot) → at d ≡ true → MaySkip (map.get (held_facts P)) horizon d) → AllMayGo P at
all_may_go P horizon at over d h =
    let s = over d h in
    may_go (map.get P.slots d) s.fact (sym (get_held P.slots d) ∙ s.here)
    (passing_kept d s.fact s.token s.kept)
