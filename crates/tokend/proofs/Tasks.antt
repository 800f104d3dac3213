-- The task that the arguments request, by what clap reports of them. Key results:
--   is_service      a service is the task
--   is_facts        the values of `facts` are the task
--   is_no_check, is_no_service   the values are no task's
use Rattle.std.proofs.Common.{◌≡◌, ℕ, Bool, true, false, List, Option, Some, None, option_map}
use Rattle.std.proofs.Common.{Result, Ok, Err, sym, ap, subst, ◌∙◌, codes, get_or}
use Rattle.std.proofs.Common.{arith}
use Rattle.std.specs.Prelude.{IfNone, IfOk, IfSome}
use Rattle.clap.specs.Words.{Row, Text}
use Rattle.tk_handle.specs.Ranges.{max_region}
use Rattle.tk_region.specs.SettingsFields.{max_code, max_access, max_refresh}
use Rattle.tk_region.specs.SettingsFields.{max_family, max_cap}
use Rattle.tokend.specs.CommandLine.{HasCheck, HasFlag, HasNumber, HasNumbers}
use Rattle.tokend.specs.CommandLine.{HasService}
use Rattle.tokend.specs.Task.{IsFactsTask, IsNoCheck, IsNoService, IsNoTask}
use Rattle.tokend.specs.Task.{IsTask}
use Rattle.tokend.specs.declared.options.Numbers.{Numbers}
use Rattle.tokend.specs.declared.options.Service.{Service}
use Rattle.tokend.specs.declared.options.Task.{Task}
use Rattle.tokend.specs.declared.options.Task.TheVariants.{Script, Loopback, Serve, Facts, Check}

-- two names for the rows of a subcommand are equal
pub one_rows : (found : Option (Text × List Row)) (rows others : List Row) (name : Text)
    → option_map (λ p. p.1) found ≡ Some rows
    → found ≡ Some (name, others) → rows ≡ others
one_rows found rows others name at is =
    let both : Some rows ≡ Some others = sym at ∙ ap (option_map (λ p. p.1)) is in
    cc

-- two names of a subcommand are equal
pub other_name : (found : Option (Text × List Row)) (rows : List Row) (name other : Text)
    → option_map (λ p. p.0) found ≡ Some name
    → found ≡ Some (other, rows) → name ≡ other
other_name found rows name other at is =
    let both : Some name ≡ Some other = sym at ∙ ap (option_map (λ p. p.0)) is in
    cc

-- a script without its numbers is no task
pub no_script : (found : Option (Text × List Row)) (rows : List Row) → option_map (λ p. p.0) found
    ≡ Some (codes "script")
    → option_map (λ p. p.1) found ≡ Some rows → ((n : Numbers) → ¬ (HasNumbers rows n))
    → IsNoTask found
no_script found rows named at none (Script numbers) h =
    none numbers (subst (λ r. HasNumbers r numbers) (sym (one_rows found rows h.0 _ at h.1)) h.2)
no_script found rows named at none (Loopback numbers) h =
    not_loopback (other_name found h.0 _ _ named h.1)
  where
    not_loopback : codes "script" ≡ codes "loopback" → ⊥
    not_loopback e = absurd (cc)
no_script found rows named at none (Facts sources) h =
    not_facts (other_name found h.0 _ _ named h.1)
  where
    not_facts : codes "script" ≡ codes "facts" → ⊥
    not_facts e = absurd (cc)
no_script found rows named at none (Check check) h = not_facts (other_name found h.0 _ _ named h.1)
  where
    not_facts : codes "script" ≡ codes "facts" → ⊥
    not_facts e = absurd (cc)
no_script found rows named at none (Serve service) h =
    not_serve (other_name found h.0 _ _ named h.1)
  where
    not_serve : codes "script" ≡ codes "serve" → ⊥
    not_serve e = absurd (cc)

-- a script by sockets without its numbers is no task
pub no_loopback : (found : Option (Text × List Row)) (rows : List Row) → option_map (λ p. p.0) found
    ≡ Some (codes "loopback")
    → option_map (λ p. p.1) found ≡ Some rows → ((n : Numbers) → ¬ (HasNumbers rows n))
    → IsNoTask found
no_loopback found rows named at none (Script numbers) h =
    not_script (other_name found h.0 _ _ named h.1)
  where
    not_script : codes "loopback" ≡ codes "script" → ⊥
    not_script e = absurd (cc)
no_loopback found rows named at none (Loopback numbers) h =
    none numbers (subst (λ r. HasNumbers r numbers) (sym (one_rows found rows h.0 _ at h.1)) h.2)
no_loopback found rows named at none (Facts sources) h =
    not_facts (other_name found h.0 _ _ named h.1)
  where
    not_facts : codes "loopback" ≡ codes "facts" → ⊥
    not_facts e = absurd (cc)
no_loopback found rows named at none (Check check) h =
    not_facts (other_name found h.0 _ _ named h.1)
  where
    not_facts : codes "loopback" ≡ codes "facts" → ⊥
    not_facts e = absurd (cc)
no_loopback found rows named at none (Serve service) h =
    not_serve (other_name found h.0 _ _ named h.1)
  where
    not_serve : codes "loopback" ≡ codes "serve" → ⊥
    not_serve e = absurd (cc)

-- the name `serve` isn't the name `facts`
serve_no_facts : codes "serve" ≡ codes "facts" → ⊥
serve_no_facts e = first_letter (ap (λ (t : Text). get_or t 0 0) e)
  where
    first_letter : ◌≡◌ {A = ℕ} 115 102 → ⊥
    first_letter e = omega (arith, e)

-- a service without its values is no task
no_service : (found : Option (Text × List Row)) (rows : List Row) → option_map (λ p. p.0) found
    ≡ Some (codes "serve")
    → option_map (λ p. p.1) found ≡ Some rows → IsNoService rows → IsNoTask found
no_service found rows named at none (Script numbers) h =
    not_script (other_name found h.0 _ _ named h.1)
  where
    not_script : codes "serve" ≡ codes "script" → ⊥
    not_script e = absurd (cc)
no_service found rows named at none (Loopback numbers) h =
    not_loopback (other_name found h.0 _ _ named h.1)
  where
    not_loopback : codes "serve" ≡ codes "loopback" → ⊥
    not_loopback e = absurd (cc)
no_service found rows named at none (Facts sources) h =
    serve_no_facts (other_name found h.0 _ _ named h.1)
no_service found rows named at none (Check check) h =
    serve_no_facts (other_name found h.0 _ _ named h.1)
no_service found rows named at none (Serve service) h =
    none service (subst (λ r. HasService r service) (sym (one_rows found rows h.0 _ at h.1)) h.2)

-- the subcommand with this name and these rows
found_is : (found : Option (Text × List Row)) (name : Text) (rows : List Row)
    → option_map (λ p. p.0) found ≡ Some name
    → option_map (λ p. p.1) found ≡ Some rows → found ≡ Some (name, rows)
found_is None name rows named at = absurd (cc)
found_is (Some (n, r)) name rows named at = cc

-- a service is the task
pub is_service : {E : Type 0} (found : Option (Text × List Row)) (rows : List Row)
    (r : Result (Option Task) E)
    → option_map (λ p. p.0) found ≡ Some (codes "serve") → option_map (λ p. p.1) found ≡ Some rows
    → IfOk r (λ read. IfSome read (λ t. (s : Service) × (t ≡ Serve s) × HasService rows s))
    → IfOk r (λ read. IfSome read (IsTask found))
is_service found rows (Ok (Some task)) named at h =
    subst (λ t. IsTask found t) (sym h.1) (rows, found_is found _ rows named at, h.2)
is_service found rows (Ok None) named at h = tt
is_service found rows (Err e) named at h = tt

-- without a service there is no task
pub is_no_service : {E : Type 0} (found : Option (Text × List Row)) (rows : List Row)
    (r : Result (Option Task) E)
    → option_map (λ p. p.0) found ≡ Some (codes "serve") → option_map (λ p. p.1) found ≡ Some rows
    → IfOk r (λ read. IfNone read (IsNoService rows))
    → IfOk r (λ read. IfNone read (IsNoTask found))
is_no_service found rows (Ok (Some task)) named at h = tt
is_no_service found rows (Ok None) named at h = no_service found rows named at h
is_no_service found rows (Err e) named at h = tt

-- the values of `facts` are the task
pub is_facts : {E : Type 0} (found : Option (Text × List Row)) (rows : List Row)
    (r : Result (Option Task) E)
    → option_map (λ p. p.0) found ≡ Some (codes "facts") → option_map (λ p. p.1) found ≡ Some rows
    → IfOk r (λ read. IfSome read (IsFactsTask rows)) → IfOk r (λ read. IfSome read (IsTask found))
is_facts found rows (Ok (Some (Facts sources))) named at h =
    (rows, found_is found _ rows named at, h)
is_facts found rows (Ok (Some (Check check))) named at h = (rows, found_is found _ rows named at, h)
is_facts found rows (Ok (Some (Script numbers))) named at h = absurd h
is_facts found rows (Ok (Some (Loopback numbers))) named at h = absurd h
is_facts found rows (Ok (Some (Serve service))) named at h = absurd h
is_facts found rows (Ok None) named at h = tt
is_facts found rows (Err e) named at h = tt

-- a flag isn't both
both_flags : (rows : List Row) → HasFlag rows (codes "check") true
    → HasFlag rows (codes "check") false → ⊥
both_flags rows given absent = other (given ∙ sym absent)
  where
    other : true ≡ false → ⊥
    other e = absurd (cc)

-- a check without its number is no task
no_check : (found : Option (Text × List Row)) (rows : List Row) → option_map (λ p. p.0) found
    ≡ Some (codes "facts")
    → option_map (λ p. p.1) found ≡ Some rows → IsNoCheck rows → IsNoTask found
no_check found rows named at none (Script numbers) h =
    not_script (other_name found h.0 _ _ named h.1)
  where
    not_script : codes "facts" ≡ codes "script" → ⊥
    not_script e = absurd (cc)
no_check found rows named at none (Loopback numbers) h =
    not_loopback (other_name found h.0 _ _ named h.1)
  where
    not_loopback : codes "facts" ≡ codes "loopback" → ⊥
    not_loopback e = absurd (cc)
no_check found rows named at none (Serve service) h =
    serve_no_facts (sym (other_name found h.0 _ _ named h.1))
no_check found rows named at none (Facts sources) h =
    both_flags rows none.0
    (subst (λ r. HasFlag r (codes "check") false) (sym (one_rows found rows h.0 _ at h.1)) h.2.0)
no_check found rows named at none (Check check) h =
    none.1 check (subst (λ r. HasCheck r check) (sym (one_rows found rows h.0 _ at h.1)) h.2)

-- without the number of a check there is no task
pub is_no_check : {E : Type 0} (found : Option (Text × List Row)) (rows : List Row)
    (r : Result (Option Task) E)
    → option_map (λ p. p.0) found ≡ Some (codes "facts") → option_map (λ p. p.1) found ≡ Some rows
    → IfOk r (λ read. IfNone read (IsNoCheck rows)) → IfOk r (λ read. IfNone read (IsNoTask found))
is_no_check found rows (Ok (Some task)) named at h = tt
is_no_check found rows (Ok None) named at h = no_check found rows named at h
is_no_check found rows (Err e) named at h = tt

-- a check without its number
pub without_number : (rows : List Row) (flag : Bool) → HasFlag rows (codes "check") flag → flag
    ≡ true
    → ((n : ℕ) → ¬ (HasNumber rows (codes "region") 1 max_region n)) → IsNoCheck rows
without_number rows flag given is none = (sym is ∙ given, λ check h. none check.region h.region)

-- if one of the numbers is missing, the rows have no settings
module _ {T : Type 0} (rows : List Row) (r : Option T) where
  unless : ((n : Numbers) → ¬ (HasNumbers rows n))
      → IfNone r ((n : Numbers) → ¬ (HasNumbers rows n))
  unless none = of r none
    where
      of : (r : Option T) → ((n : Numbers) → ¬ (HasNumbers rows n))
          → IfNone r ((n : Numbers) → ¬ (HasNumbers rows n))
      of None none = none
      of (Some x) none = tt

  -- without the life of a code there are no numbers
  pub without_code : ((n : ℕ) → ¬ (HasNumber rows (codes "code") 1 max_code n))
      → IfNone r ((n : Numbers) → ¬ (HasNumbers rows n))
  without_code none = unless (λ n h. none n.code h.code)

  -- without the life of an access token there are no numbers
  pub without_access : ((n : ℕ) → ¬ (HasNumber rows (codes "access") 1 max_access n))
      → IfNone r ((n : Numbers) → ¬ (HasNumbers rows n))
  without_access none = unless (λ n h. none n.access h.access)

  -- without the life of a refresh token there are no numbers
  pub without_refresh : ((n : ℕ) → ¬ (HasNumber rows (codes "refresh") 1 max_refresh n))
      → IfNone r ((n : Numbers) → ¬ (HasNumbers rows n))
  without_refresh none = unless (λ n h. none n.refresh h.refresh)

  -- without the life of a family there are no numbers
  pub without_family : ((n : ℕ) → ¬ (HasNumber rows (codes "family") 1 max_family n))
      → IfNone r ((n : Numbers) → ¬ (HasNumbers rows n))
  without_family none = unless (λ n h. none n.family h.family)

  -- without a cap there are no numbers
  pub without_cap : ((n : ℕ) → ¬ (HasNumber rows (codes "cap") 1 max_cap n))
      → IfNone r ((n : Numbers) → ¬ (HasNumbers rows n))
  without_cap none = unless (λ n h. none n.cap h.cap)

-- if the rows have no settings, they have no service
pub without_settings : (rows : List Row) → ((n : Numbers) → ¬ (HasNumbers rows n))
    → IsNoService rows
without_settings rows none service h = none service.numbers h.numbers

-- without the number of a region there is no service
pub without_region : (rows : List Row)
    → ((n : ℕ) → ¬ (HasNumber rows (codes "region") 1 max_region n)) → IsNoService rows
without_region rows none service h = none service.region h.region
