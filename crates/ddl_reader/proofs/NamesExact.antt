-- The readers of names and of literals are exact for the grammar.
use Rattle.std.proofs.Common.{List, [], ◌∷◌, refl, inr, Some, None}
use Rattle.pg_base.specs.declared.pos.Pos.{Pos}
use Rattle.parse_rules.specs.Exact.{Follow, Anything, Spelling}
use Rattle.ddl_reader.specs.declared.lexeme.Lexeme.{Lexeme}
use Rattle.ddl_reader.specs.declared.lexeme.LexemeKind.TheVariants as kind
use Rattle.ddl_reader.specs.declared.lexeme.Expected.TheVariants as want
use Rattle.ddl_reader.specs.declared.word.Word.TheVariants as word
use Rattle.ddl_reader.specs.declared.script.Literal.TheVariants as literal_is
use Rattle.ddl_reader.specs.Lexemes.{is, is_a, is_the, is_sign}
use Rattle.ddl_reader.specs.Trees.{named, is_public, literal_of}
use Rattle.ddl_reader.specs.Reading.{qualified, name, identifier, identifiers, columns, some_columns, optional_columns, negative, literal, default_value, value}
use Rattle.ddl_reader.specs.Grammar.{comma, opening, dot, IsQualified, IsName, IsIdentifier, IsIdentifiers, IsColumns, IsSomeColumns, IsOptionalColumns, IsNegative, IsLiteral, IsDefaultValue, IsValue}
use Rattle.ddl_reader.proofs.Production.{Production, Not, some_of, some_word, some_sign, some_name, nothing, token, made, then_token, chosen, either_of, optionally, listed, token_begins}
use Rattle.ddl_reader.proofs.ItemLengths.{qualified-shortens, some_columns-shortens, default_value-shortens, literal-shortens}

pub qualified_exact : (F : Follow Lexeme) (place : Pos) → Production F (IsQualified place) (qualified place)
unfolding qualified
qualified_exact F place = token F (is_the 46) (some_sign 46) refl _ _ (λ t. token F (is want.Identifier) some_name refl _ _ (λ inner. nothing F (record { text = inner.text; pos = place })))

pub name_exact : Production (Not dot) IsName name
unfolding name
name_exact = token (Not dot) (is want.Identifier) some_name refl _ _ (λ first. chosen (Not dot) (is_public first.text) _ _ _ _
    (λ e. optionally (Not dot) dot (named first) _ _ (qualified_exact (Not dot) first.pos) (qualified-shortens first.pos) (λ k f. f))
    (λ e. nothing (Not dot) (named first)))

pub name_way : (F E : Follow Lexeme) → ((k : List Lexeme) → F k → E (some_name ∷ k)) → Spelling F E IsName
name_way F E fits = record { text = some_name ∷ []; made = named some_name; spelled = λ k f. (k, some_name, (refl, refl), inr (refl, (refl, refl))); fits = fits }

pub identifier_exact : (F : Follow Lexeme) → Production F IsIdentifier identifier
unfolding identifier
identifier_exact F = token F (is want.Identifier) some_name refl _ _ (λ l. nothing F l.text)

pub identifiers_exact : Production (Not comma) IsIdentifiers identifiers
identifiers_exact = listed Anything (Not comma) comma (some_sign 44) refl _ _ (identifier_exact Anything) (λ k f. tt) (λ k f. f)

pub columns_exact : (F : Follow Lexeme) → Production F IsColumns columns
unfolding columns
columns_exact F = token F (is_the 40) (some_sign 40) refl _ _ (λ t. then_token (Not comma) F _ _ (is_the 41) (some_sign 41) refl (λ k. refl) _ _ identifiers_exact (λ found u. nothing F found))

pub some_columns_exact : (F : Follow Lexeme) → Production F IsSomeColumns some_columns
unfolding some_columns
some_columns_exact F = made F _ _ (λ found. Some found) (columns_exact F)

pub optional_columns_exact : Production (Not opening) IsOptionalColumns optional_columns
optional_columns_exact = optionally (Not opening) opening None _ _ (some_columns_exact (Not opening)) some_columns-shortens (λ k f. f)

-- ---- literals

pub negative_exact : (F : Follow Lexeme) → Production F IsNegative negative
unfolding negative
negative_exact F = token F (is want.Number) (some_of kind.Number []) refl _ _ (λ digits. nothing F (literal_is.Number (45 ∷ digits.text)))

pub literal_exact : (F : Follow Lexeme) → Production F IsLiteral literal
unfolding literal
literal_exact F = token F (is want.LiteralStart) (some_of kind.Number []) refl _ _ (λ first. chosen F (is_sign first.kind 45) _ _ _ _ (λ e. negative_exact F) (λ e. nothing F (literal_of first)))

pub default_value_exact : (F : Follow Lexeme) → Production F IsDefaultValue default_value
unfolding default_value
default_value_exact F = token F (is_a word.Default) (some_word word.Default) refl _ _ (λ t. nothing F literal_is.Default)

pub value_exact : (F : Follow Lexeme) → Production F IsValue value
unfolding value
value_exact F = either_of F (is_a word.Default) _ _ _ _ (default_value_exact F) default_value-shortens (token_begins (is_a word.Default) _) (literal_exact F) literal-shortens
