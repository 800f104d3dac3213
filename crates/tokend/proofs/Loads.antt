-- Loading a log, bundle by bundle. Key results:
--   front_none     no bundle is taken in yet
--   front_more     one more bundle is taken in
--   unread_front   the outcome for a front that can't be read
--   take_one       the outcome of taking one bundle in
--   parts_taken    the bytes of a bundle, and the rest of the log
--   front_kept     the region is unchanged since
--   load_fault     the fault that ends loading
use Rattle.std.proofs.Common.{◌≡◌, ◌-◌, ◌<◌, ◌≤◌, ℕ, List, [], ◌∷◌, ◌++◌, length, take, drop}
use Rattle.std.proofs.Common.{Option, Some, None, Result, Ok, Err, inl, inr, refl, sym, ap, subst}
use Rattle.std.proofs.Common.{arith, ◌∙◌}
use Rattle.std.specs.Prelude.{◌⊎◌, zero, suc, IfSome}
use Rattle.std.proofs.lemmas.List.{append-nil, append_assoc, take-append-drop}
use Rattle.std.proofs.lemmas.Grind.{flat_map-append}
use Rattle.tk_bundle.specs.BundleFields.{BundleFields}
use Rattle.tk_bundle.specs.Bundle.{bundle, bundle_bytes}
use Rattle.tk_bundle.specs.Front.{IsCut, IsFrontOf, walk}
use Rattle.tk_bundle.specs.declared.error.FrontError.{FrontError}
use Rattle.tk_bundle.specs.declared.error.FrontError.TheVariants as front
use Rattle.tk_message.specs.Place.{next_in}
use Rattle.tk_region.specs.RegionFields.{RegionFields, place_in}
use Rattle.tk_region.specs.Taking.{TakesIn}
use Rattle.tk_region.specs.declared.take.TakeError.{TakeError}
use Rattle.tk_region.specs.declared.take.TakeError.TheVariants as refusal
use Rattle.tokend.specs.Loading.{AreBundles, BeginsWith, IsNoBundle, IsRefused, Loads, TakesAs}
use Rattle.tokend.specs.Loading.{TakesEach, TakesFront, TakesOne, front_end, log_bytes, take_fault}
use Rattle.tokend.specs.declared.load.LoadFault.{LoadFault}
use Rattle.tokend.specs.declared.load.LoadFault.TheVariants.{Malformed, Refused, Memory, CannotRead}

-- no bundle of a log is taken in before the first
pub front_none : (region : RegionFields) (log : List ℕ) → TakesFront region log log region
front_none region log = record { bundles = []; fit = tt; parts = refl; each = refl }

-- bundles that fit, with one more that fits behind them, all fit
bundles_more : (bundles : List BundleFields) (b : BundleFields) → AreBundles bundles → bundle.Fits b
    → AreBundles (bundles ++ b ∷ [])
bundles_more [] b all fits = (fits, tt)
bundles_more (a ∷ more) b all fits = (all.0, bundles_more more b all.1 fits)

-- one more bundle is taken in behind bundles that were taken in
each_more : (old mid new : RegionFields) (bundles : List BundleFields) (b : BundleFields)
    → TakesEach old bundles mid → ((n : ℕ) × TakesAs mid b (Ok n) new)
    → TakesEach old (bundles ++ b ∷ []) new
each_more old mid new [] b same takes =
    (new, subst (λ (r : RegionFields). (n : ℕ) × TakesAs r b (Ok n) new) same takes, refl)
each_more old mid new (a ∷ more) b h takes = (h.0, h.1, each_more h.0 mid new more b h.2 takes)

-- one more bundle of a log is taken in behind those before it
pub front_more : (old mid new : RegionFields) (log rest more : List ℕ) (b : BundleFields)
    → TakesFront old log rest mid → bundle.Fits b
    → rest ≡ bundle_bytes b ++ more → ((n : ℕ) × TakesAs mid b (Ok n) new)
    → TakesFront old log more new
front_more old mid new log rest more b front fits parts takes = record {
  bundles = front.bundles ++ b ∷ [];
  fit = bundles_more front.bundles b front.fit fits;
  parts = front.parts ∙ ap (λ l. log_bytes front.bundles ++ l) parts
      ∙ sym (append_assoc (log_bytes front.bundles) (bundle_bytes b) more)
      ∙ ap (λ l. l ++ more) (sym (flat_map-append bundle_bytes front.bundles (b ∷ [])
      ∙ ap (λ l. log_bytes front.bundles ++ l) (append-nil (bundle_bytes b))));
  each = each_more old mid new front.bundles b front.each takes;
}

-- the bundles taken in, if the region is unchanged since
pub front_kept : (old mid new : RegionFields) (log rest : List ℕ) → TakesFront old log rest mid
    → new ≡ mid → TakesFront old log rest new
front_kept old mid new log rest front same =
    subst (λ (r : RegionFields). TakesFront old log rest r) (sym same) front

-- a front that is malformed is no bundle
malformed_front : (rest : List ℕ) (result : Result (BundleFields × ℕ) FrontError)
    → result ≡ Err front.Malformed
    → ((e : FrontError) → walk rest ≡ Err e → result ≡ Err e)
    → ((b : BundleFields) (more : List ℕ) → bundle.Fits b → rest ≡ bundle_bytes b ++ more
    → IsFrontOf result b) → IsNoBundle rest
malformed_front rest result is walked only = (
  λ cut. other (ap error_of (sym is ∙ walked front.Cut cut)),
  λ b begins. absurd (subst (λ r. IsFrontOf r b) is (only b begins.1.0 begins.0 begins.1.1)),
)
  where
    error_of : Result (BundleFields × ℕ) FrontError → FrontError
    error_of (Ok x) = front.Cut
    error_of (Err e) = e

    other : front.Malformed ≡ front.Cut → ⊥
    other e = absurd (cc)

-- the bytes of a bundle aren't empty
some_bytes : (rest : List ℕ) (n : ℕ) (b : BundleFields) → take n rest ≡ bundle_bytes b → 0 < n
some_bytes rest zero b e = absurd (no_bytes e)
  where
    no_bytes : take 0 rest ≡ bundle_bytes b → ⊥
    no_bytes e = absurd (cc)
some_bytes rest (suc n) b e = omega (arith)

-- the outcome of taking in a bundle of a log
abbrev pub loaded : ℕ → ℕ → Result ℕ TakeError → Result (Option ℕ) LoadFault
loaded offset n (Ok m) = Ok (Some n)
loaded offset n (Err error) = Err (take_fault offset error)

-- the bytes of the first bundle, and the rest
pub parts_taken : (rest : List ℕ) (n : ℕ) (more : List ℕ) (b : BundleFields)
    → take n rest ≡ bundle_bytes b → more ≡ drop n rest
    → rest ≡ bundle_bytes b ++ more
parts_taken rest n more b spells is =
    sym (take-append-drop n rest) ∙ ap (λ l. l ++ drop n rest) spells
    ∙ ap (λ l. bundle_bytes b ++ l) (sym is)

-- a region with equal number, settings and facts is equal
same_region : (old new : RegionFields) → new.number ≡ old.number → new.settings ≡ old.settings
    → new.facts ≡ old.facts → new ≡ old
same_region old new number settings facts =
    λ i. record { number = number i; settings = settings i; facts = facts i }

-- a bundle that is taken in is one step of a load
pub take_one : (offset : ℕ) (old new : RegionFields) (rest : List ℕ) (x : BundleFields × ℕ)
    (result : Result ℕ TakeError)
    → new.number ≡ old.number → new.settings ≡ old.settings → x.1 ≤ length rest → bundle.Fits x.0
    → take x.1 rest ≡ bundle_bytes x.0
    → TakesIn old.facts (next_in (place_in old)) (Some x.0) result new.facts
    → TakesOne offset old rest (loaded offset x.1 result) new
take_one offset old new rest x result number settings within fits spells takes = of result takes
  where
    same : new.facts ≡ old.facts → new ≡ old
    same e = same_region old new number settings e

    begins : BeginsWith rest x.0
    begins = (fits, (drop x.1 rest, parts_taken rest x.1 (drop x.1 rest) x.0 spells refl))

    of : (result : Result ℕ TakeError)
        → TakesIn old.facts (next_in (place_in old)) (Some x.0) result new.facts
        → TakesOne offset old rest (loaded offset x.1 result) new
    of (Ok m) t = (
      some_bytes rest x.1 x.0 spells,
      (
        x.0,
        fits,
        within,
        spells,
        (m, record { number = number; settings = settings; takes = t }),
      ),
    )
    of (Err refusal.Memory) (inl e) = inl (same e)
    of (Err refusal.Memory) (inr t) = inr (
      x.0,
      drop x.1 rest,
      fits,
      parts_taken rest x.1 (drop x.1 rest) x.0 spells refl,
      record { number = number; settings = settings; takes = t },
    )
    of (Err refusal.Malformed) t = absurd t
    of (Err refusal.OwnNumber) t = ((x.0, begins, inl t.0), refl, same t.1)
    of (Err refusal.Conflict) t = ((x.0, begins, inr t.1), refl, same t.2)

-- reading a front ends with this error
abbrev pub fails : FrontError → Result (BundleFields × ℕ) FrontError
fails e = Err e

-- the outcome for a front that can't be read
pub unread_front : (offset : ℕ) (region : RegionFields) (rest : List ℕ) (e : FrontError)
    → ((f : FrontError) → walk rest ≡ Err f → fails e ≡ fails f)
    → ((b : BundleFields) (more : List ℕ) → bundle.Fits b → rest ≡ bundle_bytes b ++ more
    → IsFrontOf (fails e) b)
    → (fails e ≡ fails front.Cut → IsCut rest)
    → TakesOne offset region rest (front_end offset e) region
unread_front offset region rest front.Cut walked only cut = (cut refl, refl)
unread_front offset region rest front.Malformed walked only cut =
    (malformed_front rest (Err front.Malformed) refl walked only, refl, refl)
unread_front offset region rest front.Memory walked only cut = inl refl

-- a fault that ends the loading of the rest ends that of the log
pub load_fault : (old mid new : RegionFields) (log rest : List ℕ) (fault : LoadFault)
    → TakesFront old log rest mid
    → TakesOne (length log - length rest) mid rest (Err fault) new → Loads old log (Err fault) new
load_fault old mid new log rest (Malformed at) front h =
    (rest, front_kept old mid new log rest front h.2, h.0, h.1)
load_fault old mid new log rest (Refused at) front h = (
  rest,
  front_kept old mid new log rest front h.2,
  subst (λ (r : RegionFields). IsRefused r rest) (sym h.2) h.0,
  h.1,
)
load_fault old mid new log rest Memory front h = (rest, mid, front, h)
load_fault old mid new log rest CannotRead front h = absurd h

-- a log that can't be read, or for which there is no memory, brings no facts
pub unread_log : (region : RegionFields) (known : Option (List ℕ)) (fault : LoadFault)
    → ((fault ≡ CannotRead) ⊎ (fault ≡ Memory))
    → (log : List ℕ) × IfSome known (λ bytes. log ≡ bytes) × Loads region log (Err fault) region
unread_log region known fault why = (log_in known, same known, brings fault why)
  where
    log_in : Option (List ℕ) → List ℕ
    log_in None = []
    log_in (Some bytes) = bytes

    same : (known : Option (List ℕ)) → IfSome known (λ bytes. log_in known ≡ bytes)
    same None = tt
    same (Some bytes) = refl

    brings : (fault : LoadFault) → ((fault ≡ CannotRead) ⊎ (fault ≡ Memory))
        → Loads region (log_in known) (Err fault) region
    brings CannotRead why = refl
    brings Memory why = (log_in known, region, front_none region (log_in known), inl refl)
    brings (Malformed at) (inl e) = absurd (cc)
    brings (Malformed at) (inr e) = absurd (cc)
    brings (Refused at) (inl e) = absurd (cc)
    brings (Refused at) (inr e) = absurd (cc)
