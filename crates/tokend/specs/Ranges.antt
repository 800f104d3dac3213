-- The region numbers of this site and of all sites, by `--range` and `--accept` (own).
--   range_in            the range whose text is FIRST-LAST
--   range_named         the numbers of this site, by the values of `--region` and `--range`
--   is_range_misnamed   `--range` is no range that has the number of `--region`
--   accepted_named      the numbers of all sites, by the value of `--accept`
--   is_accept_misnamed  `--accept` is no list of ranges
--   above               the numbers of this site above its own
--   terms_of            the terms of a service
use Rattle.std.specs.Prelude.{
  ◌==◌,
  ◌+◌,
  ◌&&◌,
  ℕ,
  Bool,
  false,
  List,
  [],
  Option,
  Some,
  None,
  if◌then◌else◌,
  is_some,
  nat_le,
  nat_lt,
  not,
}
use Rattle.std.specs.List.{after_first, before_first, filter_map, list_all}
use Rattle.clap.specs.Words.{Text}
use Rattle.tk_format.specs.Decimals.{decimal_in}
use Rattle.tk_handle.specs.Ranges.{max_region}
use Rattle.tk_edge.specs.Terms.{TermsFields, is_within}
use Rattle.tk_edge.specs.declared.terms.RegionRange.{RegionRange}
use Rattle.tokend.specs.Kinds.{words_of}
use Rattle.tokend.specs.declared.options.Service.{Service}

-- the range of two numbers, if they are region numbers and don't fall
abbrev pub range_at : ℕ → ℕ → Option RegionRange
range_at first last =
    if nat_le 1 first && nat_le first last && nat_le last max_region
    then Some (record { first = first; last = last }) else None

-- the range of two numbers, if both are present
abbrev pub range_of : Option ℕ → Option ℕ → Option RegionRange
range_of None last = None
range_of (Some first) None = None
range_of (Some first) (Some last) = range_at first last

-- the range whose text is FIRST-LAST, the decimals of its numbers with a dash between
abbrev pub range_in : Text → Option RegionRange
range_in text =
    range_of (decimal_in (before_first (λ b. b == 45) text))
    (decimal_in (after_first (λ b. b == 45) text))

-- the text is that of a range
abbrev pub is_range : Text → Bool
is_range text = is_some (range_in text)

-- the range, if it has the number
abbrev pub own_range : Option ℕ → Option RegionRange → Option (Option RegionRange)
own_range None range = None
own_range (Some own) None = None
own_range (Some own) (Some range) = if is_within own range then Some (Some range) else None

-- the numbers of this site, if they have the number of `--region`; without `--range` none is named
abbrev pub range_named : Option Text → Option Text → Option (Option RegionRange)
range_named own None = Some None
range_named None (Some text) = None
range_named (Some own) (Some text) = own_range (decimal_in own) (range_in text)

-- `--range` was given, and is no range that has the number of `--region`
abbrev pub is_range_misnamed : Option Text → Option Text → Bool
is_range_misnamed own range = not (is_some (range_named own range))

-- the ranges among the words
abbrev pub ranges_in : List Text → List RegionRange
ranges_in words = filter_map range_in words

-- the numbers of all sites: those of the ranges, if each word between commas is one; without the
-- option there is no range, and all numbers are accepted
abbrev pub accepted_named : Option Text → Option (List RegionRange)
accepted_named None = Some []
accepted_named (Some text) =
    if list_all is_range (words_of text) then Some (ranges_in (words_of text)) else None

-- `--accept` was given, and one of its words isn't a range
abbrev pub is_accept_misnamed : Option Text → Bool
is_accept_misnamed None = false
is_accept_misnamed (Some text) = not (list_all is_range (words_of text))

-- the numbers of the range above a number, if there are a range and such numbers
abbrev pub above : ℕ → Option RegionRange → Option RegionRange
above own None = None
above own (Some range) =
    if nat_lt own range.last then Some (record { first = own + 1; last = range.last }) else None

-- the text of the metrics before it is made for the first time, if the service shows metrics
abbrev pub first_text : Bool → Option (List ℕ)
first_text shows = if shows then Some [] else None

-- the terms of the service: facts under the numbers of its site above its own aren't accepted
abbrev pub terms_of : Service → TermsFields
terms_of service =
    record {
      refuses_ahead = service.pushes.refuses_ahead;
      accepted = service.pushes.accepted.items;
      barred = above service.region service.pushes.range;
      issuer = service.notices.issuer;
      health = service.notices.health;
      metrics = first_text service.notices.metrics;
    }
