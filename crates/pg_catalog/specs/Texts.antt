-- What a part names and says is text.
use Rattle.std.specs.Prelude.{IfSome, ⊤}
use Rattle.std.specs.Str.{IsUtf8}
use Rattle.pg_base.specs.Lists.{Each}
use Rattle.pg_base.specs.Catalog.{AreTexts}
use Rattle.pg_catalog.specs.declared.part.Part.{Part}
use Rattle.pg_catalog.specs.declared.part.Part.TheVariants as part
use Rattle.pg_catalog.specs.declared.part.EnumPart.{EnumPart}
use Rattle.pg_catalog.specs.declared.part.ColumnPart.{ColumnPart}
use Rattle.pg_catalog.specs.declared.part.TablePart.{TablePart}
use Rattle.pg_catalog.specs.declared.part.Literal.{Literal}
use Rattle.pg_catalog.specs.declared.part.Literal.TheVariants as literal
use Rattle.pg_catalog.specs.Constraints.{key_name, link_name}

abbrev pub IsTextLiteral : Literal → Type 0
IsTextLiteral literal.Null = ⊤
IsTextLiteral (literal.Int n) = ⊤
IsTextLiteral literal.LongInt = ⊤
IsTextLiteral (literal.Bool b) = ⊤
IsTextLiteral (literal.Text t) = IsUtf8 t

pub record IsTextColumn (column : ColumnPart) : Type 0 where
  pub name : IsUtf8 column.name
  pub default : IfSome column.default IsTextLiteral

pub record IsTextEnum (e : EnumPart) : Type 0 where
  pub name : IsUtf8 e.name
  pub cases : Each IsUtf8 e.cases

pub record IsTextTable (t : TablePart) : Type 0 where
  pub name : IsUtf8 t.name
  pub columns : Each IsTextColumn t.columns

-- the texts of the part that come to stand in the catalog
abbrev pub HasTexts : Part → Type 0
HasTexts (part.Enum e) = IsTextEnum e
HasTexts (part.Table t) = IsTextTable t
HasTexts (part.Key k) = IsUtf8 (key_name k)
HasTexts (part.Link l) = IsUtf8 (link_name l)
HasTexts (part.Comment m) = AreTexts m.tags
