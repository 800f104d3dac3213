-- The rows of a service's options, read one after the other: those without which there is no
-- service.
use Rattle.std.proofs.Common.{◌≡◌, ℕ, Bool, true, false, List, Option, Some, None, option_map, inl}
use Rattle.std.proofs.Common.{inr, refl, sym, ap, ◌∙◌, codes}
use Rattle.std.specs.Prelude.{◌||◌, IsSome, String, is_some, string_bytes}
use Rattle.std.specs.Prelude.{IfNone, IfSome}
use Rattle.clap.specs.Words.{Row, first_of}
use Rattle.tokend.specs.Notices.{issuer_named}
use Rattle.tokend.specs.CommandLine.{IsNoNotices, HasFlag, HasNumber, IsNoAddress, IsNoFiles}
use Rattle.tokend.specs.CommandLine.{IsNoPushes, is_given, refusal_named}
use Rattle.tokend.specs.Choices.{IsNoChoice}
use Rattle.tokend.specs.Ranges.{accepted_named, range_named}
use Rattle.tokend.specs.Rules.{max_connections, max_part, min_part}
use Rattle.tokend.specs.Task.{IsNoService, wants_log}

-- arguments without an address are those of no service
pub without_address : (rows : List Row) → IsNoAddress rows → IsNoService rows
without_address rows none service h = none service.at.outer h.at.outer

-- arguments without a number of connections are those of no service
pub without_connections : (rows : List Row)
    → ((n : ℕ) → ¬ (HasNumber rows (codes "connections") 1 max_connections n))
    → IsNoService rows
without_connections rows none service h = none service.connections h.connections

-- arguments without files are those of no service
pub without_files : (rows : List Row) → IsNoFiles rows → IsNoService rows
without_files rows none service h = none service.files h.files

-- arguments without a seed name no files
pub without_seed : (rows : List Row) → first_of (codes "seed") rows ≡ None → IsNoFiles rows
without_seed rows none files h =
    let both : None ≡ Some (string_bytes files.seed) = sym none ∙ h.seed in
    absurd (cc)

-- arguments without rules for pushes are those of no service
pub without_pushes : (rows : List Row) → IsNoPushes rows → IsNoService rows
without_pushes rows none service h = none service.pushes h.pushes

-- arguments that don't say what happens to a bundle that is ahead have no rules for pushes
pub without_refusal : (rows : List Row) → None ≡ refusal_named (first_of (codes "ahead") rows)
    → IsNoPushes rows
without_refusal rows none pushes h =
    let both : None ≡ Some pushes.refuses_ahead = none ∙ h.ahead in
    absurd (cc)

-- arguments without a range have no rules for pushes
pub without_range : (rows : List Row)
    → None ≡ range_named (first_of (codes "region") rows) (first_of (codes "range") rows)
    → IsNoPushes rows
without_range rows none pushes h =
    let both : None ≡ Some pushes.range = none ∙ h.range in
    absurd (cc)

-- arguments without the numbers that are accepted have no rules for pushes
pub without_accepted : (rows : List Row) → None ≡ accepted_named (first_of (codes "accept") rows)
    → IsNoPushes rows
without_accepted rows none pushes h =
    let both : None ≡ Some pushes.accepted.items = none ∙ h.accepted in
    absurd (cc)

-- arguments without notices are those of no service
pub without_notices : (rows : List Row) → IsNoNotices rows → IsNoService rows
without_notices rows none service h = none service.notices h.notices

-- arguments without an issuer have no notices
pub without_issuer : (rows : List Row) → None ≡ issuer_named (first_of (codes "issuer") rows)
    → IsNoNotices rows
without_issuer rows none notices h =
    let both : None ≡ Some notices.issuer = none ∙ h.issuer in
    absurd (cc)

-- arguments without choices are those of no service
pub without_choices : (rows : List Row) → IsNoChoice rows → IsNoService rows
without_choices rows (inl none) service h =
    let both : None ≡ Some service.choices.unseen = sym none ∙ h.choices.unseen in
    absurd (cc)
without_choices rows (inr (inl none)) service h =
    let both : None ≡ Some service.choices.consent = sym none ∙ h.choices.consent in
    absurd (cc)
without_choices rows (inr (inr (inl none))) service h =
    let both : None ≡ Some service.choices.redirects = sym none ∙ h.choices.redirects in
    absurd (cc)
without_choices rows (inr (inr (inr (inl none)))) service h =
    let both : None ≡ Some service.choices.refresh_seen = sym none ∙ h.choices.refresh_seen in
    absurd (cc)
without_choices rows (inr (inr (inr (inr none)))) service h =
    let both : None ≡ Some service.choices.challenge = sym none ∙ h.choices.challenge in
    absurd (cc)

-- bundles taken in are to be logged without a log
pub without_log : (rows : List Row) (flag : Bool) (log : Option (List ℕ))
    → HasFlag rows (codes "log-taken") flag → flag ≡ true
    → first_of (codes "log") rows ≡ log → log ≡ None → IsNoFiles rows
without_log rows flag log given is text none files h =
    no_log files.log (h.logged (h.log_taken ∙ sym given ∙ is)) (sym (text ∙ none) ∙ h.log)
  where
    no_log : {A : Type 0} (l : Option (String A)) → IsSome l → None ≡ option_map string_bytes l → ⊥
    no_log None some e = cc
    no_log (Some file) some e = cc

-- parts are wanted without a log
pub unlogged_parts : {A : Type 0} (rows : List Row) (part : Option ℕ) (log : Option (String A))
    → IfSome part (HasNumber rows (codes "log-part") min_part max_part)
    → is_some part ≡ true → first_of (codes "log") rows ≡ option_map string_bytes log
    → is_some log ≡ false → IsNoFiles rows
unlogged_parts rows None log has given text none files h = absurd (cc)
unlogged_parts rows (Some n) (Some file) has given text none files h = absurd (cc)
unlogged_parts rows (Some n) None has given text none files h =
    no_part files.log_part h.unparted h.parted
  where
    no_log : {A : Type 0} (l : Option (String A)) → IsSome l → None ≡ option_map string_bytes l → ⊥
    no_log None some e = cc
    no_log (Some file) some e = cc

    no_part : (part : Option ℕ)
        → IfNone part ((n : ℕ) → ¬ (HasNumber rows (codes "log-part") min_part max_part n))
        → (IsSome part → IsSome files.log) → ⊥
    no_part None unparted parted = unparted n has
    no_part (Some size) unparted parted = no_log files.log (parted refl) (sym text ∙ h.log)

-- bundles taken in are to be logged, and there is no log
pub unlogged_taken : {A : Type 0} (rows : List Row) (flag : Bool) (log : Option (String A))
    → HasFlag rows (codes "log-taken") flag → flag ≡ true
    → first_of (codes "log") rows ≡ option_map string_bytes log → is_some log ≡ false
    → IsNoFiles rows
unlogged_taken rows flag None given is text none = without_log rows flag None given is text refl
unlogged_taken rows flag (Some file) given is text none = absurd (cc)

-- a log is wanted for parts, if not for bundles taken in
pub wants_parts : (rows : List Row) (part : Bool)
    → false ≡ is_given (first_of (codes "log-taken") rows)
    → part ≡ is_some (first_of (codes "log-part") rows) → part ≡ wants_log rows
wants_parts rows part given is =
    is ∙ ap (λ b. b || is_some (first_of (codes "log-part") rows)) given

-- the subcommand wants a log, and its log is the one found
