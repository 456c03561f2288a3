-- Where the bytes of a text stand.
use Rattle.std.specs.Prelude.{ℕ, ◌+◌, List, take, count_by, not}
use Rattle.std.specs.List.{suffix_len}
use Rattle.qml_lex.specs.Bytes.{is_line_end}
use Rattle.qml_ast.specs.declared.span.Span.{Span}

-- one more than the lines that end in these bytes
unfoldable pub line_after : List ℕ → ℕ
line_after before = 1 + count_by is_line_end before

-- one more than the bytes after the last line that ends in these bytes
unfoldable pub column_after : List ℕ → ℕ
column_after before = 1 + suffix_len (λ byte. not (is_line_end byte)) before

-- the place of the byte at this offset, or of the text's end
abbrev pub place_of : List ℕ → ℕ → Span
place_of bytes offset = record { line = line_after (take offset bytes); col = column_after (take offset bytes) }
