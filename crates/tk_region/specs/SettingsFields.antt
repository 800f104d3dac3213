-- What contracts see of settings: four lives, in seconds, the serial cap, and choices (own).
--   SettingsFields   the lives, the cap and the choices
--   lives_of         the four lives
--   with_cap         the settings of four lives and a cap
--   IsSettings       each number is in its range
--   max_code, max_access, max_refresh, max_family, max_cap
--                    the greatest number of each range
use Rattle.std.specs.Prelude.{ℕ, ◌-◌, ◌<◌, ◌≤◌, refl}
use Rattle.std.specs.Coded.{Coded, code_by, coded×, coded_ℕ}
use Rattle.tk_handle.specs.Ranges.{max_serial}
use Rattle.tk_message.specs.Choices.{coded_choices, profile_choices}
use Rattle.tk_message.specs.declared.choices.Choices.{Choices}
use Rattle.tk_message.specs.declared.place.Lives.{Lives}

-- the lives of a code, an access token, a refresh token and a family, the cap, and what the region
-- does if the profile leaves a choice
pub record SettingsFields : Type 0 where
  pub code : ℕ
  pub access : ℕ
  pub refresh : ℕ
  pub family : ℕ
  pub cap : ℕ
  pub choices : Choices

-- the four lives
abbrev pub lives_of : SettingsFields → Lives
lives_of s = record { code = s.code; access = s.access; refresh = s.refresh; family = s.family }

-- the settings of these lives and this cap, with the choices of the profile
abbrev pub with_cap : Lives → ℕ → SettingsFields
with_cap lives cap = record {
  code = lives.code;
  access = lives.access;
  refresh = lives.refresh;
  family = lives.family;
  cap = cap;
  choices = profile_choices;
}

-- the number is at least 1 and at most the greatest
abbrev pub IsUpTo : ℕ → ℕ → Type 0
IsUpTo greatest n = (0 < n) × (n ≤ greatest)

-- the greatest life of a code: ten minutes (RFC 6749, 4.1.2 recommends that)
abbrev pub max_code : ℕ
max_code = 600

-- the greatest life of an access token: a day (own)
abbrev pub max_access : ℕ
max_access = 86400

-- the greatest life of a refresh token: a year (own)
abbrev pub max_refresh : ℕ
max_refresh = 31536000

-- the greatest life of a family: ten years (own)
abbrev pub max_family : ℕ
max_family = 315360000

-- the greatest cap, above which one serial is left
abbrev pub max_cap : ℕ
max_cap = max_serial - 1

-- each number is in its range
pub record IsSettings (s : SettingsFields) : Type 0 where
  pub code : IsUpTo max_code s.code
  pub access : IsUpTo max_access s.access
  pub refresh : IsUpTo max_refresh s.refresh
  pub family : IsUpTo max_family s.family
  pub cap : IsUpTo max_cap s.cap

-- the code of settings, from the codes of their numbers and choices
abbrev pub coded_settings : Coded SettingsFields
coded_settings =
    code_by (ℕ × (ℕ × (ℕ × (ℕ × (ℕ × Choices)))))
    (coded× coded_ℕ
    (coded× coded_ℕ (coded× coded_ℕ (coded× coded_ℕ (coded× coded_ℕ coded_choices)))))
    (λ s. (s.code, (s.access, (s.refresh, (s.family, (s.cap, s.choices))))))
    (λ p. record {
      code = p.0;
      access = p.1.0;
      refresh = p.1.1.0;
      family = p.1.1.1.0;
      cap = p.1.1.1.1.0;
      choices = p.1.1.1.1.1;
    }) (λ _. refl)
