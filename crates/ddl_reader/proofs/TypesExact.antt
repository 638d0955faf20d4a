-- The readers of types are exact for the grammar.
use Rattle.std.proofs.Common.{◌≡◌, ℕ, Bool, true, false, ◌&&◌, ◌||◌, List, [], ◌∷◌, refl, ap}
use Rattle.std.specs.Str.{bytes_eq}
use Rattle.std.specs.List.{list_any}
use Rattle.std.proofs.lemmas.Bool.{false≢true}
use Rattle.std.proofs.lemmas.Slice.Eq.{bytes_eq-Decides}
use Rattle.pg_base.specs.declared.enum_def.EnumDef.{EnumDef}
use Rattle.parse_rules.specs.Exact.{Follow, Anything}
use Rattle.ddl_reader.specs.declared.lexeme.Lexeme.{Lexeme}
use Rattle.ddl_reader.specs.declared.lexeme.LexemeKind.{LexemeKind}
use Rattle.ddl_reader.specs.declared.lexeme.LexemeKind.TheVariants as kind
use Rattle.ddl_reader.specs.declared.word.Word.TheVariants as word
use Rattle.ddl_reader.specs.Lexemes.{is_a, is_the, is_built_in}
use Rattle.ddl_reader.specs.Trees.{is_length, length_type, text_type, built_in_type, stands_in, enum_type, is_enum, is_known_type, is_schema_of, is_public, has_some}
use Rattle.ddl_reader.specs.Reading.{length_number, type_length, optional_length, varchar, varying, character, plain_enum, qualified_enum, type_after, known_type, column_type}
use Rattle.ddl_reader.specs.Grammar.{opening, dot, IsLengthNumber, IsTypeLength, IsOptionalLength, IsVarchar, IsVarying, IsCharacter, IsPlainEnum, IsQualifiedEnum, IsTypeAfter, IsKnownType, IsColumnType}
use Rattle.ddl_reader.proofs.Production.{Production, Not, some_of, some_word, some_sign, nothing, token, token_begins, then_token, chosen, either_of, optionally, weaker}
use Rattle.ddl_reader.proofs.ItemLengths.{type_length-shortens, varying-shortens, varchar-shortens, qualified_enum-shortens, character-shortens, known_type-shortens}
use Rattle.ddl_reader.proofs.Lengths.{either-shortens}

-- what may follow a type: no length, no VARYING and no enum after a schema
abbrev pub TypeEnd : Follow Lexeme
TypeEnd k = Not opening k × Not (is_a word.Varying) k × Not dot k

length_number_exact : (F : Follow Lexeme) → Production F IsLengthNumber length_number
unfolding length_number
length_number_exact F = token F is_length (some_of kind.Number (49 ∷ [])) refl _ _ (λ n. nothing F (length_type n.text))

type_length_exact : (F : Follow Lexeme) → Production F IsTypeLength type_length
unfolding type_length
type_length_exact F = token F (is_the 40) (some_sign 40) refl _ _ (λ t. then_token Anything F _ _ (is_the 41) (some_sign 41) refl (λ k. tt) _ _ (length_number_exact Anything) (λ found u. nothing F found))

optional_length_exact : Production (Not opening) IsOptionalLength optional_length
optional_length_exact = optionally (Not opening) opening text_type _ _ (type_length_exact (Not opening)) type_length-shortens (λ k f. f)

varchar_exact : Production (Not opening) IsVarchar varchar
unfolding varchar
varchar_exact = token (Not opening) (is_a word.Varchar) (some_word word.Varchar) refl _ _ (λ t. optional_length_exact)

varying_exact : Production TypeEnd IsVarying varying
unfolding varying
varying_exact = weaker (Not opening) TypeEnd _ _ (λ k f. f.0) (token (Not opening) (is_a word.Varying) (some_word word.Varying) refl _ _ (λ t. optional_length_exact))

character_exact : (enums : List EnumDef) → Production TypeEnd (IsCharacter enums) (character enums)
unfolding character
character_exact enums = token TypeEnd (is_a word.Character) (some_word word.Character) refl _ _ (λ first. chosen TypeEnd (stands_in enums first.text) _ _ _ _
    (λ e. optionally TypeEnd (is_a word.Varying) (enum_type enums first.text) _ _ varying_exact varying-shortens (λ k f. f.1))
    (λ e. varying_exact))

-- some enum's name
enum_name : (enums : List EnumDef) → has_some enums ≡ true → (l : Lexeme) × (is_enum enums l ≡ true)
enum_name [] h = absurd (false≢true h)
enum_name (e ∷ enums) h = (some_of kind.Name e.name, ap (λ (b : Bool). b || list_any (λ (d : EnumDef). bytes_eq e.name d.name) enums) ((bytes_eq-Decides e.name e.name).1 refl))

has_of : (b c : Bool) → (b && c) ≡ true → c ≡ true
has_of true c h = h
has_of false c h = absurd (false≢true h)

plain_enum_exact : (F : Follow Lexeme) (enums : List EnumDef) → has_some enums ≡ true → Production F (IsPlainEnum enums) (plain_enum enums)
unfolding plain_enum
plain_enum_exact F enums h = let x = enum_name enums h in token F (is_enum enums) x.0 x.1 _ _ (λ t. nothing F (enum_type enums t.text))

qualified_enum_exact : (F : Follow Lexeme) (enums : List EnumDef) → has_some enums ≡ true → Production F (IsQualifiedEnum enums) (qualified_enum enums)
unfolding qualified_enum
qualified_enum_exact F enums h = token F (is_the 46) (some_sign 46) refl _ _ (λ t. plain_enum_exact F enums h)

type_after_exact : (enums : List EnumDef) (k : LexemeKind) (text : List ℕ) → Production (Not dot) (IsTypeAfter enums k text) (type_after enums k text)
type_after_exact enums k text = chosen (Not dot) (is_built_in k) _ _ _ _ (λ e. nothing (Not dot) (built_in_type k)) (λ e. chosen (Not dot) (is_schema_of enums text) _ _ _ _
    (λ s. let some = has_of (is_public text) (has_some enums) s in chosen (Not dot) (stands_in enums text) _ _ _ _
    (λ h. optionally (Not dot) dot (enum_type enums text) _ _ (qualified_enum_exact (Not dot) enums some) (qualified_enum-shortens enums) (λ k f. f))
    (λ h. qualified_enum_exact (Not dot) enums some))
    (λ s. nothing (Not dot) (enum_type enums text)))

known_type_exact : (enums : List EnumDef) → Production (Not dot) (IsKnownType enums) (known_type enums)
unfolding known_type
known_type_exact enums = token (Not dot) (is_known_type enums) (some_word word.IntegerType) refl _ _ (λ first. type_after_exact enums first.kind first.text)

pub column_type_exact : (enums : List EnumDef) → Production TypeEnd (IsColumnType enums) (column_type enums)
unfolding column_type
column_type_exact enums = either_of TypeEnd (is_a word.Character) _ _ _ _ (character_exact enums) (character-shortens enums) (token_begins (is_a word.Character) _)
    (either_of TypeEnd (is_a word.Varchar) _ _ _ _ (weaker (Not opening) TypeEnd _ _ (λ k f. f.0) varchar_exact) varchar-shortens (token_begins (is_a word.Varchar) _)
    (weaker (Not dot) TypeEnd _ _ (λ k f. f.2) (known_type_exact enums)) (known_type-shortens enums))
    (either-shortens (is_a word.Varchar) _ _ varchar-shortens (known_type-shortens enums))
