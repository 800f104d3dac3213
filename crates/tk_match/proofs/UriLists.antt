-- Lists of texts that are all URIs, or not; the readers of a list cite them.
--   bad_text     a list with a text that may not be kept
--   all_read     a list of absolute URLs
use Rattle.std.proofs.Common.{◌≡◌, ℕ, ◌<◌, true, false, List, length, get_or, map, All, Bor, Ok}
use Rattle.std.proofs.Common.{Err, ◌∙◌, refl}
use mathlib.Core.Bool.{false≢true}
use Rattle.std.specs.Prelude.{is_ok, None}
use Rattle.std.specs.List.{list_all}
use Rattle.std.proofs.lemmas.List.Folds.{list_all-map, list_all_at}
use Rattle.std.proofs.lemmas.List.Sums.{AllPass-from_list_all}
use Rattle.url.specs.Parser.{parse_url}
use Rattle.tk_match.specs.Redirects.{is_uri, is_absolute, ReadsAsUrl}

-- a list with a text that may not be kept does not pass `is_uri` throughout
pub bad_text : (texts : List (Bor (List ℕ))) (i : ℕ) (d : Bor (List ℕ)) → i < length texts
    → is_uri (get_or texts i d).now ≡ false → list_all is_uri (map (λ x. x.now) texts) ≡ false
bad_text texts i d lt h =
    list_all-map is_uri (λ x. x.now) texts ∙ list_all_at (λ x. is_uri x.now) texts i d lt h

-- a text that passes `is_absolute` is read as a URL
reads : (text : List ℕ) → is_absolute text ≡ true → ReadsAsUrl text
reads text h = elim (parse_url None text) as (λ r. is_ok r ≡ true → (url : _) × (r ≡ Ok url)) [
  | Ok url ↦ λ _. (url, refl)
  | Err e ↦ λ no. absurd (false≢true no)
] h

-- each text of a list that passes `is_absolute` throughout is read as a URL
pub all_read : (uris : List (List ℕ)) → list_all is_absolute uris ≡ true → All ReadsAsUrl uris
all_read uris h k d lt = reads _ (AllPass-from_list_all is_absolute uris h k d lt)
