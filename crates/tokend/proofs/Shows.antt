-- What the program does if clap refuses the arguments, by the kind of clap's error.
use Rattle.std.proofs.Common.{◌≡◌, ℕ, true, false, List, Option, Result, Ok, Err, subst, sym, refl}
use Rattle.std.proofs.Common.{◌∙◌, inl, inr}
use Rattle.std.specs.Prelude.{◌⊎◌, ◌≢◌, Bool, IfErr, OnOk}
use Rattle.std.specs.Io.KnownBytes.{Keeps}
use Rattle.clap.specs.Words.{Text, IsAmong, fault_of, kind_of, subcommand_of}
use Rattle.clap.specs.declared.error.Error.{Error}
use Rattle.clap.specs.declared.error.kind.ErrorKind.{ErrorKind}
use Rattle.clap.specs.declared.error.kind.ErrorKind.TheVariants.{DisplayHelp, DisplayVersion}
use Rattle.clap.specs.declared.error.kind.ErrorKind.TheVariants.{InvalidValue}
use Rattle.clap.specs.declared.error.kind.ErrorKind.TheVariants.{MissingRequiredArgument}
use Rattle.clap.specs.declared.error.kind.ErrorKind.TheVariants.{MissingSubcommand, OutOfMemory}
use Rattle.tokend.specs.CommandLine.{tokend_app}
use Rattle.tokend.specs.ProgramRun.{IsDone, IsFaultFor, Leaves}
use Rattle.tokend.specs.Task.{AsksToShow, IsNoShow, IsRefusalOf, kind_missing, lacks_option}
use Rattle.tokend.specs.Task.{misnames_word, missing_kind}
use Rattle.tk_edge.specs.Told.{Change}
use Rattle.tokend.specs.Telling.{Writer}
use Rattle.tokend.specs.declared.fault.Fault.{Fault}
use Rattle.tokend.specs.declared.fault.Fault.TheVariants.{Memory, Output, Arguments}

-- why clap refused the arguments
abbrev Ends : List Text → ErrorKind → Type 0
Ends words kind = (kind ≡ OutOfMemory) ⊎ IsRefusalOf words kind

-- clap has a text to show
abbrev Shows : ErrorKind → Type 0
Shows kind = (kind ≡ DisplayHelp) ⊎ (kind ≡ DisplayVersion)

-- the program's fault: the text could not be shown, or there was no text to show
abbrev Refuses : Error → Option (List ℕ) → Option (List ℕ) → Fault → Type 0
Refuses error old new fault = ((fault ≡ Output) × Shows (kind_of error))
    ⊎ (((fault ≡ Memory)
    ⊎ ((fault ≡ Arguments error) × (kind_of error ≢ OutOfMemory) × IsNoShow (kind_of error)))
    × Keeps old new)

-- the kind of arguments that name no task is neither help nor the version
abbrev IsMissing : ErrorKind → Type 0
IsMissing k = (k ≡ MissingRequiredArgument) ⊎ ((k ≡ InvalidValue) ⊎ (k ≡ MissingSubcommand))

-- arguments that name no task have one of three kinds of fault
missing_else : (lacks misnames : Bool) (k : ErrorKind) → kind_missing lacks misnames ≡ k
    → IsMissing k
missing_else true misnames k e = inl (sym e)
missing_else false true k e = inr (inl (sym e))
missing_else false false k e = inr (inr (sym e))

-- a kind that isn't one of the three isn't that of arguments that name no task
no_missing : (words : List Text) (k : ErrorKind) → (IsMissing k → ⊥)
    → missing_kind (subcommand_of tokend_app words) ≡ k → ⊥
no_missing words k not_missing e = not_missing
    (missing_else (lacks_option (subcommand_of tokend_app words))
    (misnames_word (subcommand_of tokend_app words)) k e)

-- the kind of a refusal is among the faults, unless memory ran out or no task is named
among : (words : List Text) (kind k : ErrorKind) → Ends words kind → kind ≡ k
    → (k ≡ OutOfMemory → ⊥) → (IsMissing k → ⊥) → IsAmong k (fault_of tokend_app words)
among words kind k (inl memory) e not_memory not_missing = absurd (not_memory (sym e ∙ memory))
among words kind k (inr (inl found)) e not_memory not_missing =
    subst (λ q. IsAmong q (fault_of tokend_app words)) e found
among words kind k (inr (inr missing)) e not_memory not_missing =
    absurd (no_missing words k not_missing (sym missing.0 ∙ e))

-- if clap's refusal is of the kind of help or the version, the arguments request one of them
asks_to_show : (words : List Text) (kind : ErrorKind) → Ends words kind → Shows kind
    → AsksToShow words
asks_to_show words kind ends (inl help) =
    inl (among words kind DisplayHelp ends help not_memory not_missing)
  where
    not_memory : DisplayHelp ≡ OutOfMemory → ⊥
    not_memory e = absurd (cc)

    not_missing : IsMissing DisplayHelp → ⊥
    not_missing (inl e) = absurd (cc)
    not_missing (inr (inl e)) = absurd (cc)
    not_missing (inr (inr e)) = absurd (cc)
asks_to_show words kind ends (inr version) =
    inr (among words kind DisplayVersion ends version not_memory not_missing)
  where
    not_memory : DisplayVersion ≡ OutOfMemory → ⊥
    not_memory e = absurd (cc)

    not_missing : IsMissing DisplayVersion → ⊥
    not_missing (inl e) = absurd (cc)
    not_missing (inr (inl e)) = absurd (cc)
    not_missing (inr (inr e)) = absurd (cc)

-- help or version that is shown is all that the program does
pub shown_done : {L T : Type 0} (kept : List ℕ → Option (List ℕ)) (holds : L → Option (List ℕ))
    (opens : Option ℕ → List ℕ → L → Type 0) (words : List Text) (kind : ErrorKind)
    (r : Result T Fault)
    (input : Option (List ℕ)) (output : Change) (writer : Writer) → Ends words kind
    → OnOk r (Shows kind)
    → OnOk r
    (IsDone kept holds opens words input output (record { before = writer; after = writer }))
shown_done kept holds opens words kind (Ok x) input output writer ends shows =
    inr (inr (inr (asks_to_show words kind ends shows), refl))
shown_done kept holds opens words kind (Err fault) input output writer ends shows = tt

-- arguments that are refused are a fault of the program, for these arguments
pub refused_fault : {T : Type 0} (words : List Text) (error : Error) (r : Result T Fault)
    (input old new : Option (List ℕ))
    → Ends words (kind_of error)
    → IfErr r (Refuses error old new) → IfErr r (IsFaultFor words input)
refused_fault words error (Ok x) input old new ends h = tt
refused_fault words error (Err fault) input old new ends (inl h) =
    subst (IsFaultFor words input) (sym h.0) tt
refused_fault words error (Err fault) input old new ends (inr h) = of ends h.0
  where
    of : Ends words (kind_of error)
        → (fault ≡ Memory)
        ⊎ ((fault ≡ Arguments error) × (kind_of error ≢ OutOfMemory) × IsNoShow (kind_of error))
        → IsFaultFor words input fault
    of ends (inl memory) = subst (IsFaultFor words input) (sym memory) tt
    of (inl memory) (inr told) = absurd (told.1 memory)
    of (inr refusal) (inr told) = subst (IsFaultFor words input) (sym told.0) (refusal, told.2)

-- arguments that are refused leave what the program leaves, for these arguments
pub refused_left : {T : Type 0} (kept : List ℕ → Option (List ℕ)) (words : List Text)
    (error : Error) (r : Result T Fault) (input old new : Option (List ℕ))
    → Ends words (kind_of error)
    → IfErr r (Refuses error old new) → IfErr r (λ fault. Leaves kept words input fault old new)
refused_left kept words error (Ok x) input old new ends h = tt
refused_left kept words error (Err fault) input old new ends (inl h) =
    subst (λ f. Leaves kept words input f old new) (sym h.0)
    (inr (inr (asks_to_show words (kind_of error) ends h.1)))
refused_left kept words error (Err fault) input old new ends (inr h) = of h.0
  where
    of : (fault ≡ Memory)
        ⊎ ((fault ≡ Arguments error) × (kind_of error ≢ OutOfMemory) × IsNoShow (kind_of error))
        → Leaves kept words input fault old new
    of (inl memory) = subst (λ f. Leaves kept words input f old new) (sym memory) h.1
    of (inr told) = subst (λ f. Leaves kept words input f old new) (sym told.0) h.1
