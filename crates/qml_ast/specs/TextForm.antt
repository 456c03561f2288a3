-- The text of a value, as bytes.
use Rattle.std.specs.Prelude.{ℕ, ◌/◌, ◌%◌, ◌^◌, ◌==◌, List, [], ◌∷◌, ◌++◌, if◌then◌else◌, Option, None, Some, codes, false}
use Rattle.std.specs.Fmt.{digit_glyph, signed_decimal}
use Rattle.qml_ast.specs.declared.value.LineRef.{LineRef}
use Rattle.qml_ast.specs.declared.value.Value.{Value}
use Rattle.qml_ast.specs.declared.value.Value.TheVariants.{Int, Bool as Flag, Str, Color, Obj, Line}

-- two hexadecimal digits in lower case, the higher one first
abbrev pub byte_text : ℕ → List ℕ
byte_text byte = digit_glyph false (byte / 16) ∷ digit_glyph false (byte % 16) ∷ []

-- '#' with red, green and blue, and before these with alpha where the colour is not opaque
abbrev pub color_text : ℕ → List ℕ
color_text argb =
    let alpha = argb / 2 ^ 24 % 256 in
    let rgb = byte_text (argb / 2 ^ 16 % 256) ++ (byte_text (argb / 2 ^ 8 % 256) ++ byte_text (argb % 256)) in
    codes "#" ++ (if alpha == 255 then rgb else byte_text alpha ++ rgb)

-- the text of an object
abbrev pub object_text : ℕ → List ℕ
object_text serial = if serial == 0 then codes "null" else codes "object"

-- the text of a line
abbrev pub line_text : Option LineRef → List ℕ
line_text None = codes "undefined"
line_text (Some line) = codes "line"

-- the text of a value
abbrev pub text_of : Value → List ℕ
text_of (Int n) = signed_decimal n
text_of (Flag b) = if b then codes "true" else codes "false"
text_of (Str text) = text
text_of (Color argb) = color_text argb
text_of (Obj serial) = object_text serial
text_of (Line line) = line_text line
