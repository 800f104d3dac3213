-- What a reply or a record adds to a log that gets the bundles taken in, and to the store of its
-- region: a bundle that fits, or nothing.
use Rattle.std.proofs.Common.{◌≡◌, ℕ, Bool, true, false, nat_lt, List, [], ◌∷◌, filter, take}
use Rattle.std.proofs.Common.{Option, None, Some, option_map, Result, Ok, Err, inl, inr, refl, sym}
use Rattle.std.proofs.Common.{ap, subst, ◌∙◌, cond}
use Rattle.std.specs.Prelude.{IfSome}
use Rattle.std.specs.FinMap as map
use Rattle.std.specs.Io.KnownBytes.{Appends}
use Rattle.tk_format.specs.Exact.{whole_again}
use Rattle.tk_format.specs.Format.{whole}
use Rattle.tk_handle.specs.declared.dot.Dot.{Dot}
use Rattle.tk_fact.specs.declared.body.Body.{Body}
use Rattle.tk_store.specs.SlotJoining.{AllBelow, AllFit}
use Rattle.tk_store.specs.SlotOrder.{SlotAgrees, SlotsBelow}
use Rattle.tk_store.specs.Slots.{Held, Skipped, is_skipped_slot, joined_slot, with_slots}
use Rattle.tk_store.specs.StoreFields.{StoreFields, with_fact}
use Rattle.tk_bundle.specs.BundleFields.{BundleFields, Items, of_facts}
use Rattle.tk_bundle.specs.Bundle.{bundle, bundle_bytes}
use Rattle.tk_bundle.specs.BundleLaws.{bundle_exact}
use Rattle.tk_bundle.specs.News.{changes, changes_slots, counts, is_later, news_of}
use Rattle.tk_bundle.specs.News.{record_of as news_record}
use Rattle.tk_message.specs.Place.{next_in}
use Rattle.tk_message.specs.ReplyFields.{ReplyFields}
use Rattle.tk_message.specs.RequestFields.{RequestFields}
use Rattle.tk_region.specs.RegionFields.{RegionFields, Gains, place_in}
use Rattle.tk_region.specs.Decision.{decision_of}
use Rattle.tk_region.specs.Step.{IsNextFact, early_in, prepared_by, prepared_of, record_of}
use Rattle.tk_region.specs.Taking.{TakesIn, items_taken, raised}
use Rattle.tk_region.specs.declared.take.TakeError.{TakeError}
use Rattle.tk_region.specs.declared.take.TakeError.TheVariants.{Malformed, OwnNumber, Conflict}
use Rattle.tk_region.specs.declared.take.TakeError.TheVariants as Take
use Rattle.tk_region.proofs.CapLaws.{next_unknown}
use Rattle.tk_region.proofs.FitsLaws.{fits_differ}
use Rattle.tk_edge.specs.Answers.{IsRecorded, answer_at, answered_by, fact_by, metrics_by}
use Rattle.tk_edge.specs.Answers.{notice_by}
use Rattle.tk_edge.specs.Arrivals.{Answers}
use Rattle.tk_edge.specs.Ahead.{refused, lifted}
use Rattle.tk_edge.specs.Exchanges.{Pushes, PushesBy, TakesBundle}
use Rattle.tk_edge.specs.Pushes.{IsNews, bundle_to_log, kept_of, logged_of}
use Rattle.tk_edge.specs.Terms.{TermsFields}
use Rattle.tk_edge.specs.Told.{AnswerFields, record_in}
use Rattle.tk_edge.specs.declared.edge.Served.{Served}
use Rattle.tk_edge.specs.declared.ahead.PushError.{PushError}
use Rattle.tk_edge.specs.declared.ahead.PushError.TheVariants as push
use Rattle.tk_edge.specs.declared.exchange.Exchange.TheVariants.{Vector, Pull, Push}
use Rattle.tk_edge.specs.declared.hear.Arrival.{Arrival}
use Rattle.tk_edge.specs.declared.hear.Arrival.TheVariants.{Silence, Refused, Request, Exchange}
use Rattle.tk_edge.specs.declared.hear.Arrival.TheVariants.{Notice}
use Rattle.tk_edge.specs.Notices.{health_of, metadata_of}
use Rattle.tk_edge.specs.declared.notice.Notice.{Notice as AnyNotice}
use Rattle.tk_edge.specs.declared.notice.Notice.TheVariants.{Discovery, Health, Metrics}
use Rattle.tk_edge.specs.declared.tell.Fault.{Fault}
use Rattle.tokend.specs.Decisions.{gains}
use Rattle.tokend.specs.KeptLog.{IsCalm}
use Rattle.tokend.proofs.KeptSlots.{IsFrom, below_first, below_some, fit_lower, fits_lower}
use Rattle.tokend.proofs.KeptSlots.{from_items, first_unchanged, items_below, items_from}
use Rattle.tokend.proofs.KeptSlots.{items_lower, unchanged}
use Rattle.tk_handle.proofs.TestLaws.{neither}
use Rattle.tokend.proofs.LogBundles.{horizon_from, taken_slots}
use Rattle.tokend.proofs.LogGains.{IsSame, Brings, Grows, sealed_clash}
use Rattle.tokend.proofs.LogGains.{one, all_items, no_earlier, short_push}
use Rattle.tokend.proofs.LogGains.{same_late}

-- what is logged of a prepared reply is the record of its fact, before the horizon too
logged_is : (r : RegionFields) (now : ℕ) (words : List ℕ) (request : RequestFields)
    → (prepared_of r now words request).logged
    ≡ option_map record_of (prepared_of r now words request).fact
logged_is r now words request = by_time (nat_lt now r.facts.horizon)
  where
    by_time : (t : Bool)
        → (cond t (early_in (place_in r))
        (prepared_by r.settings.cap (place_in r)
        (decision_of r.facts (place_in r) now words request))).logged
        ≡ option_map record_of
        (cond t (early_in (place_in r))
        (prepared_by r.settings.cap (place_in r)
        (decision_of r.facts (place_in r) now words request))).fact
    by_time true = refl
    by_time false = refl

module _ (end : Result Served Fault) (before after : Option (List ℕ)) (old new : RegionFields) where
  abbrev F : StoreFields
  F = old.facts

  abbrev G : StoreFields
  G = new.facts

  same_store : G ≡ F → IsSame F G
  same_store e =
      record {
        slots = λ d. ap (λ (P : StoreFields). map.get P.slots d) e;
        horizon =
            ap (λ (P : StoreFields). P.horizon) e;
      }

  pub still : Appends before after [] → new ≡ old → Grows end before after F G
  still same e = inl (same, same_store (ap (λ (r : RegionFields). r.facts) e))

  gains_none : Appends before after [] → Gains old None new → Grows end before after F G
  gains_none same gains = inl (same, same_store gains.facts)

  -- the record of the fact that was made, at a dot that was unknown
  made : (f : Dot × Body) → map.get F.slots f.0 ≡ None → G ≡ with_fact F f.0 f.1
      → bundle.Fits (of_facts (f ∷ [])) → Brings end F G (of_facts (f ∷ []))
  made f free is fits = record {
    fits = fits;
    from = λ U all d. subst (λ S. IsFrom (map.get U d) (map.get F.slots d) (map.get S d))
        (sym slots_is) (items_from U F.slots (one f) all d);
    late = λ u low. same_late G.horizon F.horizon u (ap (λ (P : StoreFields). P.horizon) is);
    loads = λ calm L below. (
      (fit_lower (map.get L f.0) (map.get F.slots f.0) (Held f.1) (below f.0) fit.0 no_mark, tt),
      subst (SlotsBelow (with_slots L (one f))) (sym slots_is)
          (items_lower all_items L F.slots (one f) (tt, tt) below fit),
    );
    known = λ calm. subst (λ S. AllBelow S (one f)) (sym slots_is)
        (items_below F.slots (one f) (tt, tt) fit);
  }
    where
      slots_is : G.slots ≡ with_slots F.slots (one f)
      slots_is = ap (λ (P : StoreFields). P.slots) is
          ∙ sym (ap (λ o. map.insert F.slots f.0 (joined_slot o (Held f.1))) free)

      fit : AllFit F.slots (one f)
      fit = (subst (λ o. SlotAgrees o (Some (Held f.1))) (sym free) tt, tt)

      no_mark : is_skipped_slot (map.get F.slots f.0) ≡ true → Held f.1 ≡ Skipped
      no_mark e = absurd (sealed_clash (sym (ap is_skipped_slot free) ∙ e))

  recorded : (o : Option (Dot × Body)) → Appends before after (record_in (option_map record_of o))
      → Gains old o new → IfSome o (IsNextFact old) → IfSome o IsRecorded
      → Grows end before after F G
  recorded None same gains next fits = gains_none same gains
  recorded (Some f) more gains next fits =
      inr (of_facts (f ∷ []), more, made f (next_unknown old f next) gains.facts fits)

  logged_as : (answer told : AnswerFields) → answer ≡ told
      → Appends before after (record_in answer.logged)
      → Appends before after (record_in told.logged)
  logged_as answer told is more =
      subst (λ (a : AnswerFields). Appends before after (record_in a.logged)) is more

  reply_unlogged : (o : Option ReplyFields) → (answered_by o).logged ≡ None
  reply_unlogged None = refl
  reply_unlogged (Some reply) = refl

  metrics_unlogged : (o : Option (List ℕ)) → (metrics_by o).logged ≡ None
  metrics_unlogged None = refl
  metrics_unlogged (Some text) = refl

  notice_unlogged : (terms : TermsFields) (now : ℕ) (notice : AnyNotice)
      → (notice_by terms old now notice).logged ≡ None
  notice_unlogged terms now Discovery =
      reply_unlogged (metadata_of terms.issuer old.settings.choices.challenge)
  notice_unlogged terms now Health = reply_unlogged (health_of terms.health old.facts.horizon now)
  notice_unlogged terms now Metrics = metrics_unlogged terms.metrics

  pub answered : (terms : TermsFields) (now : ℕ) (words : List ℕ) (came : Arrival)
      (answer : AnswerFields)
      → bundle_to_log true came ≡ None → Answers terms old now words came (Ok answer) new
      → Appends before after (record_in answer.logged)
      → IfSome (fact_by old now words came) IsRecorded → Grows end before after F G
  answered terms now words (Exchange Vector) answer none h more fits =
      still (logged_as answer _ h.0.3 more) h.1
  answered terms now words (Exchange (Pull pages sent)) answer none h more fits =
      still (logged_as answer _ h.0 more) h.1
  answered terms now words (Exchange (Push sent)) answer none h more fits = absurd (cc)
  answered terms now words Silence answer none h more fits =
      gains_none (logged_as answer _ h.0 more) h.1
  answered terms now words (Refused why) answer none h more fits =
      gains_none (logged_as answer _ h.0 more) h.1
  answered terms now words (Request request) answer none h more fits =
      recorded (prepared_of old now words request).fact
      (subst (λ o. Appends before after (record_in o)) (logged_is old now words request)
      (logged_as answer (answer_at terms old now words (Request request)) h.0 more)) h.1 h.2 fits
  answered terms now words (Notice notice) answer none h more fits =
      gains_none
      (subst (λ o. Appends before after (record_in o)) (notice_unlogged terms now notice)
      (logged_as answer (notice_by terms old now notice) h.0 more)) h.1

  -- a bundle that was read is taken in, refused, or cut off
  module _ (b : BundleFields) (fits : bundle.Fits b) (readable : bundle.Fits (news_of F.slots b))
    where
      -- the store with these of the bundle's items
      abbrev IsWith : Items → Type 0
      IsWith items = G ≡ items_taken (raised F b.horizon) items

      whole_brings : IsWith b.items → AllFit F.slots b.items → Brings end F G (news_of F.slots b)
      whole_brings is fit = record {
        fits = readable;
        from = λ U all d. subst (λ S. IsFrom (map.get U d) (map.get F.slots d) (map.get S d))
            (sym slots_is) (from_items F.slots F.slots U b.items (λ d at. at) all d);
        late = λ u low. horizon_from F G b.horizon b.items u is low;
        loads = λ calm L below. (
          fits_lower L F.slots b.items below fit,
          subst (SlotsBelow (with_slots L (filter (counts F.slots) b.items))) (sym slots_is)
              (items_lower (counts F.slots) L F.slots b.items (fits_differ b fits) below fit),
        );
        known = λ calm. subst (λ S. AllBelow S (filter (counts F.slots) b.items)) (sym slots_is)
            (below_some (with_slots F.slots b.items) (counts F.slots) b.items
            (items_below F.slots b.items (fits_differ b fits) fit));
      }
        where
          slots_is : G.slots ≡ with_slots F.slots b.items
          slots_is = taken_slots F G b.horizon b.items is

      part_brings : (k : ℕ) → (IsCalm end → ⊥) → IsWith (take k b.items)
          → Brings end F G (news_of F.slots b)
      part_brings k short is = record {
        fits = readable;
        from = λ U all d. subst (λ S. IsFrom (map.get U d) (map.get F.slots d) (map.get S d))
            (sym (taken_slots F G b.horizon (take k b.items) is))
            (from_items F.slots F.slots U (take k b.items) (λ d at. at)
            (below_first U (counts F.slots) k b.items all) d);
        late = λ u low. horizon_from F G b.horizon (take k b.items) u is low;
        loads = λ calm. absurd (short calm);
        known = λ calm. absurd (short calm);
      }

      none_brings : (IsCalm end → ⊥) → G ≡ F → Brings end F G (news_of F.slots b)
      none_brings short same = record {
        fits = readable;
        from = λ U all d. inl (ap (λ (P : StoreFields). map.get P.slots d) same);
        late = λ u low. same_late G.horizon F.horizon u (ap (λ (P : StoreFields). P.horizon) same);
        loads = λ calm. absurd (short calm);
        known = λ calm. absurd (short calm);
      }

      -- a bundle that changes nothing
      nothing_brought : IsWith b.items → changes F b ≡ false → IsSame F G
      nothing_brought is none = record {
        slots = λ d. ap (λ S. map.get S d) (taken_slots F G b.horizon b.items is)
            ∙ unchanged F.slots b.items each.1 d;
        horizon = late b.horizon is each.0;
      }
        where
          each : (is_later F.horizon b.horizon ≡ false) × (changes_slots F.slots b.items ≡ false)
          each = neither (is_later F.horizon b.horizon) (changes_slots F.slots b.items) none

          late : (h : Option ℕ) → G ≡ items_taken (raised F h) b.items → is_later F.horizon h
              ≡ false
              → G.horizon ≡ F.horizon
          late None is e = ap (λ (P : StoreFields). P.horizon) is
          late (Some m) is e = ap (λ (P : StoreFields). P.horizon) is ∙ no_earlier F.horizon m e

      -- the record, by whether the bundle changes the store
      by_record : (t : Bool) → changes F b ≡ t
          → Appends before after (logged_of (cond t (Some (bundle_bytes (news_of F.slots b))) None))
          → (changes F b ≡ false → IsSame F G) → Brings end F G (news_of F.slots b)
          → Grows end before after F G
      by_record true e more same brings = inr (news_of F.slots b, more, brings)
      by_record false e more same brings = inl (more, same e)

      part_same : (k : ℕ) → IsWith (take k b.items) → changes F b ≡ false → IsSame F G
      part_same k is none = record {
        slots = λ d. ap (λ S. map.get S d) (taken_slots F G b.horizon (take k b.items) is)
            ∙ unchanged F.slots (take k b.items) (first_unchanged F.slots k b.items each.1) d;
        horizon = late b.horizon is each.0;
      }
        where
          each : (is_later F.horizon b.horizon ≡ false) × (changes_slots F.slots b.items ≡ false)
          each = neither (is_later F.horizon b.horizon) (changes_slots F.slots b.items) none

          late : (h : Option ℕ) → G ≡ items_taken (raised F h) (take k b.items)
              → is_later F.horizon h ≡ false → G.horizon ≡ F.horizon
          late None is e = ap (λ (P : StoreFields). P.horizon) is
          late (Some m) is e = ap (λ (P : StoreFields). P.horizon) is ∙ no_earlier F.horizon m e

      taken_in : (taken : Result ℕ TakeError) → (lifted taken ≡ short_push → IsCalm end → ⊥)
          → Appends before after (logged_of (kept_of (lifted taken) (news_record F b)))
          → TakesIn F (next_in (place_in old)) (Some b) taken G → Grows end before after F G
      taken_in (Ok n) short more k =
          by_record (changes F b) refl more (nothing_brought k.2.0) (whole_brings k.2.0 k.1)
      taken_in (Err Take.Memory) short more (inl same) =
          by_record (changes F b) refl more (λ _. same_store same) (none_brings (short refl) same)
      taken_in (Err Take.Memory) short more (inr k) = by_part (changes F b) refl more
        where
          by_part : (t : Bool) → changes F b ≡ t
              → Appends before after
              (logged_of (cond t (Some (bundle_bytes (news_of F.slots b))) None))
              → Grows end before after F G
          by_part true e more = inr (news_of F.slots b, more, part_brings k.2.0 (short refl) k.2.1)
          by_part false e more = inl (more, part_same k.2.0 k.2.1 e)
      taken_in (Err OwnNumber) short same k = inl (same, same_store k.1)
      taken_in (Err Conflict) short same k = inl (same, same_store k.2)
      taken_in (Err Malformed) short same k = absurd k

  pub pushed : (terms : TermsFields) (now : ℕ) (bytes : List ℕ) (taken : Result ℕ PushError)
      (logged : Option (List ℕ))
      → (taken ≡ short_push → IsCalm end → ⊥) → Pushes terms now old bytes taken new
      → IsNews old bytes taken logged new → Appends before after (logged_of logged)
      → Grows end before after F G
  pushed terms now bytes taken logged short takes (inl none) more =
      still (subst (λ o. Appends before after (logged_of o)) none.0 more) none.1
  pushed terms now bytes taken logged short takes (inr read) more =
      by (refused terms now (whole bundle bytes)) taken short takes
      (subst (λ o. Appends before after (logged_of o)) read.1.news more)
    where
      b : BundleFields
      b = read.0

      whole_is : whole bundle bytes ≡ Some b
      whole_is = ap (whole bundle) read.1.spelled ∙ whole_again bundle bundle_exact b read.1.fits

      sent : (t : Result ℕ TakeError) → (lifted t ≡ short_push → IsCalm end → ⊥)
          → TakesBundle old bytes t new
          → Appends before after (logged_of (kept_of (lifted t) (news_record F b)))
          → Grows end before after F G
      sent t short takes more =
          taken_in b read.1.fits read.1.readable t short more
          (subst (λ o. TakesIn F (next_in (place_in old)) o t G) whole_is takes.takes)

      by : (r : Option PushError) (t : Result ℕ PushError) → (t ≡ short_push → IsCalm end → ⊥)
          → PushesBy r old bytes t new
          → Appends before after (logged_of (kept_of t (news_record F b)))
          → Grows end before after F G
      by (Some why) (Err push.HorizonAhead) short same more = still more same.1
      by (Some why) (Err push.OutOfRange) short same more = still more same.1
      by (Some why) (Err (push.Take Malformed)) short same more = still more same.1
      by (Some why) (Err (push.Take OwnNumber)) short same more = still more same.1
      by (Some why) (Err (push.Take Conflict)) short same more = still more same.1
      by (Some why) (Err (push.Take Take.Memory)) short same more =
          taken_in b read.1.fits read.1.readable (Err Take.Memory) short more
          (inl (ap (λ (r : RegionFields). r.facts) same))
      by (Some why) (Ok n) short same more = absurd same
      by None (Ok n) short takes more = sent (Ok n) short takes more
      by None (Err (push.Take error)) short takes more = sent (Err error) short takes more
      by None (Err push.HorizonAhead) short takes more = absurd takes
      by None (Err push.OutOfRange) short takes more = absurd takes
