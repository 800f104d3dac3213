-- The options of a task, by what clap reports of the arguments. Key results:
--   no_subcommand   a name of no subcommand is no task's
--   no_address, two_addresses, no_port   the addresses of a service are refused
--   found_by        clap finds the subcommand of the arguments
--   fails_by        clap names its fault in the arguments
--   refused_by      the reason why clap refused the arguments
--   asked_by        the matches' task is that of the arguments
use Rattle.std.proofs.Common.{◌≡◌, ℕ, Bool, true, false, List, [], Option, Some, None, option_map}
use Rattle.std.proofs.Common.{Result, Ok, Err, inl, inr, refl, sym, ap, subst, ◌∙◌, codes}
use Rattle.std.specs.Prelude.{◌&&◌, find, if◌then◌else◌, is_some, not, option_and_then, slice_get}
use Rattle.std.specs.Prelude.{string_bytes}
use Rattle.std.specs.Borrow.{Bor}
use Rattle.std.specs.Str.{bytes_eq}
use Rattle.std.specs.Prelude.{◌⊎◌, IfErr, IfNone, IfOk, IfSome}
use Rattle.clap.specs.Words.{App, HasMatchesOf, Row, Text, FailsBy, fault_of, first_of, first_value}
use Rattle.clap.specs.Words.{is_simple_and_free, kind_of, one_of, rows_of, subcommand_of}
use Rattle.clap.specs.Words.{subcommand_rows_of}
use Rattle.clap.specs.Walk.{row_text}
use Rattle.clap.specs.Values.{read_as}
use Rattle.clap.proofs.WalkLemmas.{first_value-rows}
use Rattle.clap.specs.declared.parser.matches.Found.{Found}
use Rattle.clap.specs.declared.parser.matches.ArgMatches.{ArgMatches}
use Rattle.clap.specs.declared.error.Error.{Error}
use Rattle.clap.specs.declared.error.kind.ErrorKind.TheVariants as kind
use Rattle.tokend.specs.CommandLine.{HasAddress, HasFlag, HasNumber}
use Rattle.tokend.specs.CommandLine.{IsNoAddress, is_given, tokend_app}
use Rattle.tokend.specs.Rules.{max_port}
use Rattle.tokend.specs.Task.{Asks, IsNoTask, IsRefusalOf}
use Rattle.tokend.specs.Task.{IsTask, has_misnamed, is_unplaced, is_unplaced_in, lacks_log}
use Rattle.tokend.specs.Task.{misnames_word, missing_kind, wants_log}
use Rattle.tokend.specs.declared.address.Address.{Address}
use Rattle.tokend.specs.declared.address.Address.TheVariants.{Port, Socket}
use Rattle.tokend.specs.declared.options.Task.{Task}
use Rattle.tokend.specs.declared.options.Task.TheVariants.{Script, Loopback, Serve, Facts, Check}
use Rattle.tokend.proofs.Tasks.{one_rows, other_name}

-- a text that isn't this one
pub differs : (name text : Text) → bytes_eq text text ≡ true → bytes_eq name text ≡ false → name
    ≡ text → ⊥
differs name text same unlike is =
    let both : true ≡ false = sym same ∙ sym (ap (λ n. bytes_eq n text) is) ∙ unlike in
    absurd (cc)

-- a name of no subcommand is no task's
pub no_subcommand : (found : Option (Text × List Row)) (name : Text) → option_map (λ p. p.0) found
    ≡ Some name → (name ≡ codes "script" → ⊥)
    → (name ≡ codes "loopback" → ⊥) → (name ≡ codes "serve" → ⊥) → (name ≡ codes "facts" → ⊥)
    → IsNoTask found
no_subcommand found name named script loopback serve facts (Script numbers) h =
    script (other_name found h.0 _ _ named h.1)
no_subcommand found name named script loopback serve facts (Loopback numbers) h =
    loopback (other_name found h.0 _ _ named h.1)
no_subcommand found name named script loopback serve facts (Serve service) h =
    serve (other_name found h.0 _ _ named h.1)
no_subcommand found name named script loopback serve facts (Facts sources) h =
    facts (other_name found h.0 _ _ named h.1)
no_subcommand found name named script loopback serve facts (Check check) h =
    facts (other_name found h.0 _ _ named h.1)

-- no text was found under the id, so that no number is read
one_absent : (id : Text) (rows : List Row) → first_of id rows ≡ None → one_of id rows ≡ None
one_absent id rows none = of (find (λ r. bytes_eq r.id id) rows) none
  where
    of : (row : Option Row) → option_and_then (λ r. slice_get r.values 0) row ≡ None
        → option_and_then row_text row ≡ None
    of None h = refl
    of (Some r) h = ap (option_map (read_as r.reading)) h

-- neither a port nor a socket is given
pub no_address : (rows : List Row) → first_of (codes "socket") rows ≡ None
    → first_of (codes "port") rows ≡ None → IsNoAddress rows
no_address rows socket port (Port n) h =
    let both : None ≡ Some h.0.0.0 = sym (one_absent (codes "port") rows port) ∙ h.0.0.1 in
    absurd (cc)
no_address rows socket port (Socket path) h =
    let both : None ≡ Some (string_bytes path) = sym socket ∙ h.0 in
    absurd (cc)

-- a port and a socket are given
pub two_addresses : (rows : List Row) (text : Text) → first_of (codes "socket") rows ≡ Some text
    → is_some (first_of (codes "port") rows) ≡ true → IsNoAddress rows
two_addresses rows text socket port (Port n) h =
    let both : Some text ≡ None = sym socket ∙ h.1 in
    absurd (cc)
two_addresses rows text socket port (Socket path) h =
    let both : true ≡ false = sym port ∙ ap is_some h.1 in
    absurd (cc)

-- no port is given, nor a socket
pub no_port : (rows : List Row) → first_of (codes "socket") rows ≡ None
    → ((n : ℕ) → ¬ (HasNumber rows (codes "port") 0 max_port n)) → IsNoAddress rows
no_port rows socket none (Port n) h = none n h.0
no_port rows socket none (Socket path) h =
    let both : None ≡ Some (string_bytes path) = sym socket ∙ h.0 in
    absurd (cc)

-- whether a text was found under the id, by the rows
pub text_found : (f : Found) (id : Text) (text : Option (Bor Text)) → option_map (λ s. s.now) text
    ≡ first_value f id → is_some text ≡ is_some (first_of id (rows_of f))
text_found f id text at = same text ∙ ap is_some (at ∙ first_value-rows f id)
  where
    same : (t : Option (Bor Text)) → is_some t ≡ is_some (option_map (λ s. s.now) t)
    same None = refl
    same (Some s) = refl

-- not exactly one is given, by whether a port is
pub unplaced_then : (f : Found) (socket port : Option (Bor Text)) → option_map (λ s. s.now) socket
    ≡ first_value f (codes "socket") → option_map (λ s. s.now) port ≡ first_value f (codes "port")
    → is_some port ≡ true → is_some socket ≡ is_unplaced_in (rows_of f)
unplaced_then f socket port s p given =
    text_found f (codes "socket") socket s
    ∙ ap (λ b. if b then is_some (first_of (codes "socket") (rows_of f)) else not
    (is_some (first_of (codes "socket") (rows_of f))))
    (sym given ∙ text_found f (codes "port") port p)

-- without a port the arguments have no address exactly if they have no socket
pub unplaced_else : (f : Found) (socket port : Option (Bor Text)) → option_map (λ s. s.now) socket
    ≡ first_value f (codes "socket") → option_map (λ s. s.now) port ≡ first_value f (codes "port")
    → is_some port ≡ false → not (is_some socket) ≡ is_unplaced_in (rows_of f)
unplaced_else f socket port s p given =
    ap not (text_found f (codes "socket") socket s)
    ∙ ap (λ b. if b then is_some (first_of (codes "socket") (rows_of f)) else not
    (is_some (first_of (codes "socket") (rows_of f))))
    (sym given ∙ text_found f (codes "port") port p)

-- a socket is read, unless there is a port beside it
module _ (f : Found) (address : Address) (port : Option (Bor Text)) (result : Option Address)
    (found : option_map (λ s. s.now) port ≡ first_value f (codes "port")) where
  none_found : (o : Option Text) → is_some o ≡ false → o ≡ None
  none_found None h = refl
  none_found (Some text) h = absurd (cc)

  -- an address that is read from a socket's path is that of the arguments
  pub socket_read : (has_port : Bool) → has_port ≡ is_some port
      → (first_of (codes "port") (rows_of f) ≡ None → HasAddress (rows_of f) address) → result
      ≡ (if has_port then None else Some address)
      → IfSome result (HasAddress (rows_of f))
  socket_read true has alone is = subst (λ r. IfSome r (HasAddress (rows_of f))) (sym is) tt
  socket_read false has alone is =
      subst (λ r. IfSome r (HasAddress (rows_of f))) (sym is)
      (alone (none_found (first_of (codes "port") (rows_of f))
      (sym (text_found f (codes "port") port found) ∙ sym has)))

  -- if a socket's path is no address, the arguments have none
  pub socket_unread : (has_port : Bool) (text : Text) → has_port ≡ is_some port
      → first_of (codes "socket") (rows_of f) ≡ Some text → result
      ≡ (if has_port then None else Some address)
      → IfNone result (IsNoAddress (rows_of f))
  socket_unread true text has socket is =
      subst (λ r. IfNone r (IsNoAddress (rows_of f))) (sym is)
      (two_addresses (rows_of f) text socket
      (sym (text_found f (codes "port") port found) ∙ sym has))
  socket_unread false text has socket is =
      subst (λ r. IfNone r (IsNoAddress (rows_of f))) (sym is) tt

-- arguments that want a log lack it exactly if they name none
pub lacks_given : (found : Option (Text × List Row)) (rows : List Row) (none : Bool)
    → option_map (λ p. p.1) found ≡ Some rows
    → true ≡ wants_log rows → none ≡ not (is_some (first_of (codes "log") rows)) → none
    ≡ lacks_log found
lacks_given None rows none at given is = absurd (cc)
lacks_given (Some (name, others)) rows none at given is =
    is ∙ ap (λ b. b && not (is_some (first_of (codes "log") rows))) given
    ∙ ap (λ r. wants_log r && not (is_some (first_of (codes "log") r)))
    (one_rows (Some (name, others)) rows others name at refl)

-- whether a text was found, by the rows
pub text_missing : (f : Found) (id : Text) (text : Option (Bor Text)) → option_map (λ s. s.now) text
    ≡ first_value f id → not (is_some text) ≡ not (is_some (first_of id (rows_of f)))
text_missing f id text at = same text ∙ ap (λ o. not (is_some o)) (at ∙ first_value-rows f id)
  where
    same : (t : Option (Bor Text)) → not (is_some t) ≡ not (is_some (option_map (λ s. s.now) t))
    same None = refl
    same (Some s) = refl

-- what is read of an option's text, by the rows
pub by_text : {A : Type 0} (g : Option Text → A) (f : Found) (id : Text) (text : Option Text) → text
    ≡ first_value f id → g text ≡ g (first_of id (rows_of f))
by_text g f id text at = ap g (at ∙ first_value-rows f id)

-- the subcommand has an option with none of its words, and its rows are the ones found
pub misnamed_given : (found : Option (Text × List Row)) (rows : List Row) (result : Bool)
    → option_map (λ p. p.1) found ≡ Some rows
    → result ≡ has_misnamed rows → result ≡ misnames_word found
misnamed_given None rows result at is = absurd (cc)
misnamed_given (Some (name, others)) rows result at is =
    is ∙ ap has_misnamed (one_rows (Some (name, others)) rows others name at refl)

-- the subcommand has not exactly one socket for clients, and its rows are the ones found
pub unplaced_given : (found : Option (Text × List Row)) (rows : List Row) (result : Bool)
    → option_map (λ p. p.1) found ≡ Some rows
    → result ≡ is_unplaced_in rows → result ≡ is_unplaced found
unplaced_given None rows result at is = absurd (cc)
unplaced_given (Some (name, others)) rows result at is =
    is ∙ ap is_unplaced_in (one_rows (Some (name, others)) rows others name at refl)

-- the flag of an option's text
pub flag_given : (f : Found) (id text : Text) (flag : Bool) → Some text ≡ first_value f id → flag
    ≡ bytes_eq text (codes "true") → HasFlag (rows_of f) id flag
flag_given f id text flag at is = is ∙ ap is_given (at ∙ first_value-rows f id)

-- a flag that was not sent is not set
pub flag_absent : (f : Found) (id : Text) → None ≡ first_value f id → HasFlag (rows_of f) id false
flag_absent f id at = ap is_given (at ∙ first_value-rows f id)

-- clap finds the subcommand of the program's arguments
pub found_by : (app : App) (words : List Text) (m : ArgMatches) → app ≡ tokend_app
    → HasMatchesOf app words m
    → subcommand_rows_of m ≡ subcommand_of tokend_app words
found_by app words m is h = (subst (λ a. HasMatchesOf a words m) is h refl).1

-- clap names its fault in the program's arguments, if there is one
pub fails_by : {T : Type 0} (app : App) (words : List Text) (r : Result T Error) → app ≡ tokend_app
    → (is_simple_and_free app ≡ true → FailsBy (fault_of app words) r)
    → FailsBy (fault_of tokend_app words) r
fails_by app words r is h =
    subst (λ a. (is_simple_and_free a ≡ true → FailsBy (fault_of a words) r)) is h refl

-- the reason why clap refused the arguments
pub refused_by : {T : Type 0} (words : List Text) (r : Result T Error) (e : Error) → r ≡ Err e
    → FailsBy (fault_of tokend_app words) r
    → (kind_of e ≡ kind.OutOfMemory) ⊎ IsRefusalOf words (kind_of e)
refused_by {T} words r e is fails =
    elim (subst (λ (q : Result T Error). FailsBy (fault_of tokend_app words) q) is fails) [
      | inl memory ↦ inl memory
      | inr among ↦ inr (inl among)
    ]

-- if clap finds no fault, the matches' task is that of the arguments
pub asked_by : (words : List Text) (m : ArgMatches) (r : Result Task Error)
    → fault_of tokend_app words ≡ []
    → subcommand_rows_of m ≡ subcommand_of tokend_app words → IfOk r (IsTask (subcommand_rows_of m))
    → IfOk r (Asks words)
asked_by words m (Ok task) none same h = (none, subst (λ found. IsTask found task) same h)
asked_by words m (Err e) none same h = tt

-- if the matches have no task, the arguments have no task
pub unasked_by : (words : List Text) (m : ArgMatches) (r : Result Task Error)
    → fault_of tokend_app words ≡ []
    → subcommand_rows_of m ≡ subcommand_of tokend_app words
    → IfErr r
    (λ e. (kind_of e ≡ kind.OutOfMemory)
    ⊎ ((kind_of e ≡ missing_kind (subcommand_rows_of m)) × IsNoTask (subcommand_rows_of m)))
    → IfErr r (λ e. (kind_of e ≡ kind.OutOfMemory) ⊎ IsRefusalOf words (kind_of e))
unasked_by words m (Ok task) none same h = tt
unasked_by words m (Err e) none same (inl memory) = inl memory
unasked_by words m (Err e) none same (inr missing) =
    inr (inr (missing.0 ∙ ap missing_kind same, none, subst IsNoTask same missing.1))
