-- The 36 bytes of a handle, and its text (own).
--   handle         the format of a handle
--   handle_bytes   the bytes of a handle
--   handle_text    the text of a handle: base64url without padding (RFC 4648, section 5)
--   handle_in      the handle whose text a text is
use Rattle.std.specs.Prelude.{List, [], ◌∷◌, ℕ, length, Option, None, if◌then◌else◌, ◌==◌}
use Rattle.std.specs.Int.{w64}
use Rattle.std.specs.Result.{result_ok}
use Rattle.base64.specs.GeneralPurpose.{encode_of, decode_of}
use Rattle.base64.specs.Engines.{url_safe_no_pad}
use Rattle.tk_format.specs.Format.{◌>>=◌, Format, number, ◌⊗◌, shaped, repeated, after, whole}
use Rattle.tk_handle.specs.declared.handle.Handle.{Handle}
use Rattle.tk_handle.specs.Kind.{kind}
use Rattle.tk_handle.specs.DotBytes.{dot_field}

-- the version of a handle; clients hold handles of this version, so the number never changes
abbrev pub version : ℕ
version = 1

-- the format of a handle: the version, the kind, the region's number, the serial, and three words
-- of eight bytes
abbrev pub handle : Format Handle
handle = after (version ∷ []) (shaped
    (λ p. record { id = record { dot = p.1.0; kind = p.0 }; words = p.1.1 })
    (λ h. (h.id.kind, (h.id.dot, h.words)))
    (kind ⊗ (dot_field ⊗ repeated 3 (number w64))))

-- the 36 bytes of a handle
abbrev pub handle_bytes : Handle → List ℕ
handle_bytes h = handle.spell h

-- the text of a handle, 48 characters
abbrev pub handle_text : Handle → List ℕ
handle_text h = encode_of url_safe_no_pad (handle_bytes h)

-- the handle whose text a text is
abbrev pub handle_in : List ℕ → Option Handle
handle_in text =
    if length text == 48 then result_ok (decode_of url_safe_no_pad text) >>= whole handle
    else None
