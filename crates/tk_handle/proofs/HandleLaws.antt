-- The text of a handle is read as the handle, and no other text is read.
--   handle_back              a handle's text is read as the handle
--   text_found, text_none    a text that is read is the handle's; a text that is not read is no
--                            handle's
use Rattle.std.proofs.Common.{◌≡◌, ◌≢◌, ℕ, suc, ◌<◌, ◌^◌, lit<, List, [], ◌∷◌, ◌++◌, length, get_or}
use Rattle.std.proofs.Common.{Option, Some, None, Result, Ok, refl, sym, ap, ◌∙◌, arith, IfSome}
use Rattle.std.proofs.Common.{IfNone}
use Rattle.std.specs.Prelude.{if◌then◌else◌, ◌==◌}
use Rattle.std.specs.List.{AllByRecursion, flat_map}
use Rattle.std.specs.Int.{w16, w64, to_be_bytes}
use Rattle.std.specs.Result.{result_ok}
use Rattle.std.proofs.lemmas.List.{append-nil}
use Rattle.std.proofs.lemmas.Option.{none-some}
use Rattle.base64.specs.declared.decode.DecodeError.{DecodeError}
use Rattle.base64.specs.GeneralPurpose.{encode_of, decode_of}
use Rattle.base64.specs.Engines.{url_safe_no_pad}
use Rattle.base64.proofs.EngineFacts.{decode_of-encode_of, decode_of_strict}
use Rattle.base64.proofs.RoundTrip.{length-encode_symbols}
use Rattle.tk_format.specs.Format.{◌>>=◌, number, number_spelling, whole}
use Rattle.tk_format.specs.Exact.{IsBytes, whole_takes, whole_again}
use Rattle.tk_format.specs.Spellings.{IsBytes-nil, IsBytes-cons, IsBytes-append, number_bytes}
use Rattle.tk_handle.specs.declared.kind.Kind.{Kind}
use Rattle.tk_handle.specs.declared.kind.Kind.TheVariants.{Code, Access, Refresh}
use Rattle.tk_handle.specs.declared.handle.Handle.{Handle}
use Rattle.tk_handle.specs.Kind.{kind_number}
use Rattle.tk_handle.specs.Handle.{handle, handle_bytes, handle_text, handle_in}
use Rattle.tk_handle.proofs.FormatLaws.{handle_exact}

-- ---- the 36 bytes

-- a list of three elements, element by element
three : (xs : List ℕ) → length xs ≡ 3 → xs ≡ get_or xs 0 0 ∷ get_or xs 1 0 ∷ get_or xs 2 0 ∷ []
three [] e = absurd (omega arith)
three (a ∷ []) e = absurd (omega arith)
three (a ∷ b ∷ []) e = absurd (omega arith)
three (a ∷ b ∷ c ∷ []) e = refl
three (a ∷ b ∷ c ∷ d ∷ xs) e = absurd (omega arith)

-- the bytes of a handle, as the code puts them together
pub spelled : (h : Handle) (k : ℕ) (r s a b d : List ℕ) → length h.words ≡ 3
    → k ≡ kind_number h.id.kind → r ≡ to_be_bytes w16 h.id.dot.region
    → s ≡ to_be_bytes w64 h.id.dot.serial
    → a ≡ to_be_bytes w64 (get_or h.words 0 0) → b ≡ to_be_bytes w64 (get_or h.words 1 0)
    → d ≡ to_be_bytes w64 (get_or h.words 2 0)
    → 1 ∷ k ∷ r ++ (s ++ (a ++ (b ++ d))) ≡ handle_bytes h
unfolding number_spelling
spelled h k r s a b d len ek er es ea eb ed =
    let same : flat_map (number w64).spell h.words
    ≡ flat_map (number w64).spell
    (get_or h.words 0 0 ∷ get_or h.words 1 0 ∷ get_or h.words 2 0 ∷ []) =
    ap (flat_map (number w64).spell) (three h.words len) in
    rw (ek, er, es, ea, eb, ed, same) refl

-- a handle has 36 bytes
length-handle_bytes : (h : Handle) → length h.words ≡ 3 → length (handle_bytes h) ≡ 36
length-handle_bytes h len =
    ap length (sym (spelled h _ _ _ _ _ _ len refl refl refl refl refl refl))

-- the words of a handle are spelled in bytes
words_bytes : (xs : List ℕ) → IsBytes (flat_map (number w64).spell xs)
words_bytes [] = IsBytes-nil
words_bytes (x ∷ xs) = IsBytes-append (number_spelling w64 x) (flat_map (number w64).spell xs)
    (number_bytes w64 x) (words_bytes xs)

-- a kind's number is a byte
kind_byte : (k : Kind) → kind_number k < 256
kind_byte Code = lit< tt
kind_byte Access = lit< tt
kind_byte Refresh = lit< tt

-- a handle is spelled in bytes
IsBytes-handle_bytes : (h : Handle) → IsBytes (handle_bytes h)
IsBytes-handle_bytes h =
    let region = number_spelling w16 h.id.dot.region in
    let serial = number_spelling w64 h.id.dot.serial in
    let words = flat_map (number w64).spell h.words in
    IsBytes-cons 1 (kind_number h.id.kind ∷ ((region ++ serial) ++ words)) (lit< tt)
    (IsBytes-cons (kind_number h.id.kind) ((region ++ serial) ++ words) (kind_byte h.id.kind)
    (IsBytes-append (region ++ serial) words
    (IsBytes-append region serial (number_bytes w16 h.id.dot.region)
    (number_bytes w64 h.id.dot.serial)) (words_bytes h.words)))

-- words below 2 ^ 64 have a spelling in eight bytes each
pub words_fit : (xs : List ℕ) → ((i : ℕ) → get_or xs i 0 < 2 ^ 64)
    → AllByRecursion (number w64).Fits xs
words_fit [] below = tt
words_fit (x ∷ xs) below = (below 0, words_fit xs (λ i. below (suc i)))

-- ---- the text of 48 characters

-- the text of a handle has 48 characters
length-handle_text : (h : Handle) → handle.Fits h → length (handle_text h) ≡ 48
length-handle_text h fits = ap length (append-nil _) ∙ length-encode_symbols _ (handle_bytes h)
    ∙ rw (length-handle_bytes h fits.1.1.0) refl

-- the text of a handle is read as the handle
pub handle_back : (h : Handle) → handle.Fits h → handle_in (handle_text h) ≡ Some h
handle_back h fits =
    let long = length-handle_text h fits in
    let decoded =
    decode_of-encode_of url_safe_no_pad (handle_bytes h) refl (IsBytes-handle_bytes h) in
    ap (λ (n : ℕ).
    if n == 48 then result_ok (decode_of url_safe_no_pad (handle_text h))
    >>= whole handle else None) long
    ∙ ap (λ (r : Result (List ℕ) DecodeError). result_ok r >>= whole handle) decoded
    ∙ whole_again handle handle_exact h fits

-- bytes that are read as a handle are the bytes of that handle
pub bytes_found : (bytes : List ℕ) (h : Handle) → IsBytes bytes → whole handle bytes ≡ Some h
    → handle.Fits h × (bytes ≡ handle_bytes h)
bytes_found bytes h fits e = whole_takes handle handle_exact bytes h fits e

-- a text whose decoded bytes are read as a handle is the text of that handle
pub text_found : (text bytes : List ℕ) (r : Option Handle) → IsBytes text
    → decode_of url_safe_no_pad text ≡ Ok bytes
    → IfSome r (λ h. handle.Fits h × (bytes ≡ handle_bytes h))
    → IfSome r (λ h. handle.Fits h × (text ≡ handle_text h))
text_found text bytes None fits decoded found = tt
text_found text bytes (Some h) fits decoded found =
    let encoded : text ≡ encode_of url_safe_no_pad bytes =
    decode_of_strict url_safe_no_pad text bytes (refl, refl) fits decoded in
    (found.0, encoded ∙ ap (encode_of url_safe_no_pad) found.1)

-- a text that is read as no handle is the text of no handle
pub text_none : (text : List ℕ) (r : Option Handle) → r ≡ handle_in text
    → IfNone r ((h : Handle) → handle.Fits h → text ≢ handle_text h)
text_none text (Some h) e = tt
text_none text None e = λ h fits same. none-some h (e ∙ ap handle_in same ∙ handle_back h fits)
