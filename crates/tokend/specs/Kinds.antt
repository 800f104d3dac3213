-- The kinds of redirection URIs, by the words of `--redirects` (own).
--   words_of       the words between commas
--   kinds_named    the kinds that a client's redirection URIs may be of
--   are_misnamed   `--redirects` has another word
use Rattle.std.specs.Prelude.{
  Bool,
  false,
  ◌||◌,
  ◌==◌,
  List,
  Option,
  Some,
  None,
  codes,
  not,
  if◌then◌else◌,
}
use Rattle.std.specs.List.{list_all, list_any, slice_split}
use Rattle.std.specs.Str.{bytes_eq}
use Rattle.clap.specs.Words.{Text}
use Rattle.tk_match.specs.declared.redirect_kinds.RedirectKinds.{RedirectKinds}

-- the words between commas
abbrev pub words_of : Text → List Text
words_of text = slice_split (λ b. b == 0x2c) text

-- the word is that of a kind
abbrev pub is_kind : Text → Bool
is_kind word = bytes_eq word (codes "https") || bytes_eq word (codes "loopback")
    || bytes_eq word (codes "app")

-- the word is one of those between commas
abbrev pub lists : Text → Text → Bool
lists text word = list_any (bytes_eq word) (words_of text)

-- the kinds of redirection URIs: those that are listed, if each word is that of a kind; without the
-- option, every absolute URL may be registered
abbrev pub kinds_named : Option Text → Option (Option RedirectKinds)
kinds_named None = Some None
kinds_named (Some text) =
    if list_all is_kind (words_of text) then Some (Some (record {
      https = lists text (codes "https");
      loopback = lists text (codes "loopback");
      app = lists text (codes "app");
    }))
    else None

-- `--redirects` was given, and one of its words is not that of a kind
abbrev pub are_misnamed : Option Text → Bool
are_misnamed None = false
are_misnamed (Some text) = not (list_all is_kind (words_of text))
