-- The one fact that redeems a code whose family isn't dead. Key results:
--   once         a code of a family that isn't dead is used once
--   redeemed     the user of such a code is the fact that redeems it
--   unredeemed   no fact redeems a code that no link uses
use Rattle.std.proofs.Common.{◌≡◌, inl, inr, false, Option, Some, None, IsSome, refl}
use Rattle.std.proofs.Common.{sym, ap, subst, ◌∙◌}
use Rattle.std.proofs.lemmas.Bool.{true≢false}
use Rattle.std.specs.FinMap as map
use Rattle.std.specs.Option.{option_map}
use Rattle.tk_handle.specs.declared.dot.Dot.{Dot}
use Rattle.tk_family.specs.declared.link.Link.TheVariants.{Code}
use Rattle.tk_family.specs.Families.{Links, IsUsed, use_of}
use Rattle.tk_family.specs.ForestFacts.{ForestFacts, links_at}
use Rattle.tk_fact.specs.declared.body.Body.{Body}
use Rattle.tk_fact.specs.declared.code_issued.CodeIssued as issued
use Rattle.tk_store.specs.FactSet.{FactSet}
use Rattle.tk_store.proofs.EntryLaws.{AllIn-entries}
use Rattle.tk_store.proofs.OneMoreLaws.{cases_dots}
use Rattle.tk_ledger.specs.Index.{IsTied}
use Rattle.tk_ledger.specs.Logins.{code_token, redemption_of}
use Rattle.tk_ledger.specs.Tokens.{link_of, links_in, issued_at, uses, is_dead}
use Rattle.tk_ledger.proofs.ConsentLaws.{found_in, none_passes}
use Rattle.tk_ledger.proofs.EndingLaws.{under_itself}
use Rattle.tk_ledger.proofs.SameLaws.{names_token-true, names_token-of}
use Rattle.tk_ledger.proofs.TokenLaws.{use_at, use_from, is_dead-complete}
use Rattle.tk_ledger.proofs.WakeLaws.{links_path}

-- a code of a family that isn't dead is used once
pub once : (F : FactSet) (d : Dot) (f : issued.CodeIssued) → issued_at (map.get F) d ≡ Some f
    → is_dead F d ≡ false → (p q : Dot) → use_of (links_in (map.get F) p) ≡ Some (code_token d)
    → use_of (links_in (map.get F) q) ≡ Some (code_token d) → p ≡ q
once F d f issues alive p q one two = elim (cases_dots p q) [
  | inl same ↦ same
  | inr apart ↦
      let under = under_itself F d f issues in
      absurd (true≢false (sym (is_dead-complete F d (record {
        member = d;
        under = under;
        bad = record {
          link = Code;
          here = under.leads.1;
          why = inr (record { one = p; two = q; apart = apart; by_one = one; by_two = two });
        };
      })) ∙ alive))
]

module _ (F : FactSet) (x : ForestFacts) (t : IsTied F x) (d : Dot) where
  -- the fact that uses a code whose family isn't dead is the code's redemption
  redeemed_once : (f : issued.CodeIssued) → issued_at (map.get F) d ≡ Some f
      → is_dead F d ≡ false → (p : Dot) → use_of (links_at x p) ≡ Some (code_token d)
      → option_map (λ body. (p, body)) (map.get F p) ≡ redemption_of F d
  redeemed_once f issues alive p by = by_find (redemption_of F d) refl
    where
      own : use_of (links_in (map.get F) p) ≡ Some (code_token d)
      own = ap (λ (l : Links). use_of (l p)) (sym (links_path F x t.links)) ∙ by

      here : (b : Body) × (map.get F p ≡ Some b) × (use_of (link_of b) ≡ Some (code_token d))
      here = use_from (map.get F p) (code_token d) own

      by_find : (o : Option (Dot × Body)) → redemption_of F d ≡ o
          → option_map (λ body. (p, body)) (map.get F p) ≡ redemption_of F d
      by_find None is = absurd
          (none_passes (uses (code_token d)) (map.entries F) is p here.0
          (sym (map.get-entries F p) ∙ here.1)
          (names_token-of (use_of (link_of here.0)) (code_token d) here.2))
      by_find (Some e) is =
          let found = found_in (uses (code_token d)) F (map.entries F) e (AllIn-entries F) is in
          let same : p ≡ e.0 = once F d f issues alive p e.0 own
          (use_at F e.0 e.1 (code_token d) found.0
          (names_token-true (use_of (link_of e.1)) (code_token d) found.1)) in
          ap (λ (q : Dot). option_map (λ body. (q, body)) (map.get F q)) same
          ∙ ap (option_map (λ body. (e.0, body))) found.0 ∙ sym is

  -- the user of a code that is not dead is the fact that redeems it
  pub redeemed : IsSome (issued_at (map.get F) d) → is_dead F d ≡ false → (p : Dot)
      → use_of (links_at x p) ≡ Some (code_token d)
      → option_map (λ body. (p, body)) (map.get F p) ≡ redemption_of F d
  redeemed some alive p by = by_code (issued_at (map.get F) d) refl some
    where
      by_code : (o : Option issued.CodeIssued) → issued_at (map.get F) d ≡ o → IsSome o
          → option_map (λ body. (p, body)) (map.get F p) ≡ redemption_of F d
      by_code None at h = absurd (true≢false (sym h))
      by_code (Some f) at h = redeemed_once f at alive p by

  -- no fact redeems a code that no link uses
  pub unredeemed : ¬ IsUsed (links_at x) (code_token d) → redemption_of F d ≡ None
  unredeemed none = by_find (redemption_of F d) refl
    where
      by_find : (o : Option (Dot × Body)) → redemption_of F d ≡ o → redemption_of F d ≡ None
      by_find None is = is
      by_find (Some e) is =
          let found = found_in (uses (code_token d)) F (map.entries F) e (AllIn-entries F) is in
          absurd (none (subst (λ (l : Links). IsUsed l (code_token d))
          (sym (links_path F x t.links)) (record {
            user = e.0;
            by = use_at F e.0 e.1 (code_token d) found.0
                (names_token-true (use_of (link_of e.1)) (code_token d) found.1);
          })))
