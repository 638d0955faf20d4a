-- What a row says is text.
use Rattle.std.specs.Prelude.{⊤}
use Rattle.std.specs.Str.{IsUtf8}
use Rattle.pg_base.specs.Lists.{Each}
use Rattle.ddl_reader.specs.declared.script.Literal.{Literal}
use Rattle.ddl_reader.specs.declared.script.Literal.TheVariants as literal
use Rattle.ddl_reader.specs.declared.script.RowText.{RowText}

abbrev pub IsTextLiteral : Literal → Type 0
IsTextLiteral (literal.Number text) = ⊤
IsTextLiteral (literal.Str text) = IsUtf8 text
IsTextLiteral literal.True = ⊤
IsTextLiteral literal.False = ⊤
IsTextLiteral literal.Null = ⊤
IsTextLiteral literal.Default = ⊤

-- each string of the row is UTF-8
abbrev pub HasTexts : RowText → Type 0
HasTexts row = Each IsTextLiteral row.cells
