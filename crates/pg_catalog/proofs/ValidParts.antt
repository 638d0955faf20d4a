-- What stands newly in a catalog is valid.
use Rattle.std.proofs.Common.{◌≡◌, ℕ, ℤ, pos, neg_ℤ, ◌-◌, ◌^◌, ◌<◌, ◌≤◌, Bool, true, false, cond, ◌&&◌, List, [], length, Option, None, Some, IfSome, IsSomeAnd, IsTrue, refl, sym, subst, arith}
use Rattle.std.specs.Prelude.{int_le, nat_le, FitsSigned}
use Rattle.std.specs.Int.{w32, w64}
use Rattle.std.specs.List.{slice_get}
use Rattle.std.specs.Option.{option_map, option_and_then}
use Rattle.std.specs.Str.{IsUtf8, chars, bytes_eq}
use Rattle.std.proofs.lemmas.Bool.Decides.{nat_tests}
use Rattle.std.proofs.lemmas.Int.{ints}
use Rattle.std.proofs.lemmas.List.Quantifiers.{position-Some}
use Rattle.pg_base.specs.Limits.{most_text_bytes}
use Rattle.pg_base.specs.Kind.{IsKind, CanCount}
use Rattle.pg_base.specs.Cell.{FitsKind, HoldsText, IsCellText, HoldsCase}
use Rattle.pg_base.specs.Catalog.{IsValidColumn, IsObjectName, AreTexts}
use Rattle.pg_base.specs.Tags.{no_tags}
use Rattle.pg_base.specs.declared.cell.Cell.{Cell}
use Rattle.pg_base.specs.declared.cell.Cell.TheVariants as cell
use Rattle.pg_base.specs.declared.kind.Kind.{Kind}
use Rattle.pg_base.specs.declared.kind.Kind.TheVariants as kind
use Rattle.pg_base.specs.declared.enum_def.EnumDef.{EnumDef}
use Rattle.pg_catalog.specs.declared.part.ColumnPart.{ColumnPart}
use Rattle.pg_catalog.specs.declared.part.Literal.{Literal}
use Rattle.pg_catalog.specs.declared.part.Literal.TheVariants as literal
use Rattle.pg_catalog.specs.Names.{is_long, place_of}
use Rattle.pg_catalog.specs.Columns.{is_text, is_between, text_cell, case_cell, cell_of, is_kind, can_count, fits_identity, has_default_of_kind, is_sound, default_of, column_of}
use Rattle.pg_catalog.specs.Texts.{IsTextLiteral, IsTextColumn}
use Rattle.pg_catalog.proofs.Passed.{and_true}

pub no_texts : AreTexts no_tags
no_texts = record { name = tt; field_name = tt; foreign_field_name = tt; deprecated = tt; description = tt }

pub short_name : (name : List ℕ) → IsUtf8 name → is_long name ≡ false → IsObjectName name
short_name name h e = (h, grind (arith, nat_tests))

-- the test of a text
text_fits : (most : ℕ) (t : List ℕ) → IsUtf8 t → is_text most t ≡ true → IsCellText t × (length (chars t) ≤ most)
text_fits most t h e = let both = and_true (nat_le (length t) most_text_bytes) (nat_le (length (chars t)) most) e in
    let bytes = both.0 in let characters = both.1 in ((h, grind (arith, nat_tests)), grind (arith, nat_tests))

text_by : (most : ℕ) (t : List ℕ) → IsUtf8 t → (b : Bool) → is_text most t ≡ b → IfSome (cond b (Some (cell.Text t)) None) (λ c. HoldsText (λ t. IsCellText t × (length (chars t) ≤ most)) c)
text_by most t h true e = text_fits most t h e
text_by most t h false e = tt

text_holds : (most : ℕ) (l : Literal) → IsTextLiteral l → IfSome (text_cell most l) (λ c. HoldsText (λ t. IsCellText t × (length (chars t) ≤ most)) c)
text_holds most literal.Null h = tt
text_holds most (literal.Int n) h = tt
text_holds most literal.LongInt h = tt
text_holds most (literal.Bool b) h = tt
text_holds most (literal.Text t) h = text_by most t h (is_text most t) refl

weaker : (most : ℕ) (o : Option Cell) → IfSome o (λ c. HoldsText (λ t. IsCellText t × (length (chars t) ≤ most)) c) → IfSome o (HoldsText IsCellText)
weaker most None h = tt
weaker most (Some cell.Null) h = h
weaker most (Some (cell.Int n)) h = h
weaker most (Some (cell.Bool b)) h = h
weaker most (Some (cell.Text t)) h = h.0
weaker most (Some (cell.EnumCase place)) h = h

between_32 : (n : ℤ) → is_between (neg_ℤ (pos (2 ^ 31))) (pos (2 ^ 31 - 1)) n ≡ true → FitsSigned w32 n
between_32 n e = let both = and_true (int_le (neg_ℤ (pos (2 ^ 31))) n) (int_le n (pos (2 ^ 31 - 1))) e in
    let low = both.0 in let high = both.1 in grind (arith, ints)

between_64 : (n : ℤ) → is_between (neg_ℤ (pos (2 ^ 63))) (pos (2 ^ 63 - 1)) n ≡ true → FitsSigned w64 n
between_64 n e = let both = and_true (int_le (neg_ℤ (pos (2 ^ 63))) n) (int_le n (pos (2 ^ 63 - 1))) e in
    let low = both.0 in let high = both.1 in grind (arith, ints)

int_by : (enums : List EnumDef) (k : Kind) (n : ℤ) (b : Bool) → (b ≡ true → FitsKind enums k (cell.Int n)) → IfSome (cond b (Some (cell.Int n)) None) (FitsKind enums k)
int_by enums k n true h = h refl
int_by enums k n false h = tt

int_holds : (enums : List EnumDef) (l : Literal) → IfSome (cell_of enums kind.Int l) (FitsKind enums kind.Int)
int_holds enums literal.Null = tt
int_holds enums (literal.Int n) = int_by enums kind.Int n (is_between (neg_ℤ (pos (2 ^ 31))) (pos (2 ^ 31 - 1)) n) (between_32 n)
int_holds enums literal.LongInt = tt
int_holds enums (literal.Bool b) = tt
int_holds enums (literal.Text t) = tt

bigint_holds : (enums : List EnumDef) (l : Literal) → IfSome (cell_of enums kind.BigInt l) (FitsKind enums kind.BigInt)
bigint_holds enums literal.Null = tt
bigint_holds enums (literal.Int n) = int_by enums kind.BigInt n (is_between (neg_ℤ (pos (2 ^ 63))) (pos (2 ^ 63 - 1)) n) (between_64 n)
bigint_holds enums literal.LongInt = tt
bigint_holds enums (literal.Bool b) = tt
bigint_holds enums (literal.Text t) = tt

bool_holds : (enums : List EnumDef) (l : Literal) → IfSome (cell_of enums kind.Bool l) (FitsKind enums kind.Bool)
bool_holds enums literal.Null = tt
bool_holds enums (literal.Int n) = tt
bool_holds enums literal.LongInt = tt
bool_holds enums (literal.Bool b) = tt
bool_holds enums (literal.Text t) = tt

case_by : (e : EnumDef) (t : List ℕ) (o : Option ℕ) → place_of e.cases t ≡ o → IfSome (option_map (λ place. cell.EnumCase place) o) (HoldsCase (λ case. case < length e.cases))
case_by e t None is = tt
case_by e t (Some place) is = (position-Some (bytes_eq t) e.cases place [] is).0

case_holds : (e : EnumDef) (l : Literal) → IfSome (case_cell e l) (HoldsCase (λ case. case < length e.cases))
case_holds e literal.Null = tt
case_holds e (literal.Int n) = tt
case_holds e literal.LongInt = tt
case_holds e (literal.Bool b) = tt
case_holds e (literal.Text t) = case_by e t (place_of e.cases t) refl

enum_by : (enums : List EnumDef) (place : ℕ) (l : Literal) (o : Option EnumDef) → slice_get enums place ≡ o → IfSome (option_and_then (λ e. case_cell e l) o) (FitsKind enums (kind.Enum place))
enum_by enums place l None is = tt
enum_by enums place l (Some e) is = inside (case_cell e l) (case_holds e l)
  where
    inside : (o : Option Cell) → IfSome o (HoldsCase (λ case. case < length e.cases)) → IfSome o (FitsKind enums (kind.Enum place))
    inside None h = tt
    inside (Some c) h = subst (λ (f : Option EnumDef). IsSomeAnd f (λ e. HoldsCase (λ case. case < length e.cases) c)) (sym is) h

cell_fits : (enums : List EnumDef) (k : Kind) (l : Literal) → IsTextLiteral l → IfSome (cell_of enums k l) (FitsKind enums k)
cell_fits enums kind.Text l h = weaker most_text_bytes (text_cell most_text_bytes l) (text_holds most_text_bytes l h)
cell_fits enums (kind.Varchar n) l h = text_holds n l h
cell_fits enums kind.Int l h = int_holds enums l
cell_fits enums kind.BigInt l h = bigint_holds enums l
cell_fits enums kind.Bool l h = bool_holds enums l
cell_fits enums (kind.Enum place) l h = enum_by enums place l (slice_get enums place) refl

default_fits : (enums : List EnumDef) (k : Kind) (o : Option Literal) → IfSome o IsTextLiteral → IfSome (default_of enums k o) (FitsKind enums k)
default_fits enums k None h = tt
default_fits enums k (Some l) h = cell_fits enums k l h

kind_stands : (enums : List EnumDef) (k : Kind) → is_kind enums k ≡ true → IsKind enums k
kind_stands enums kind.Text e = tt
kind_stands enums (kind.Varchar n) e = let both = and_true (nat_le 1 n) (nat_le n most_text_bytes) e in
    let low = both.0 in let high = both.1 in (grind (arith, nat_tests), grind (arith, nat_tests))
kind_stands enums kind.Int e = tt
kind_stands enums kind.BigInt e = tt
kind_stands enums kind.Bool e = tt
kind_stands enums (kind.Enum place) e = grind (arith, nat_tests)

counts : (k : Kind) → can_count k ≡ true → CanCount k
counts kind.Text e = absurd (cc)
counts (kind.Varchar n) e = absurd (cc)
counts kind.Int e = refl
counts kind.BigInt e = refl
counts kind.Bool e = absurd (cc)
counts (kind.Enum place) e = absurd (cc)

identity_counts : (k : Kind) (identity : Bool) → fits_identity k identity ≡ true → IsTrue identity → CanCount k
identity_counts k true e h = counts k e
identity_counts k false e h = absurd (let bad : false ≡ true = h in cc)

pub column_valid : (enums : List EnumDef) (column : ColumnPart) → IsTextColumn column → is_sound enums column ≡ true → is_long column.name ≡ false → IsValidColumn enums (column_of enums column)
column_valid enums column text sound short =
    let a = and_true (is_kind enums column.kind && fits_identity column.kind column.identity) (has_default_of_kind enums column.kind column.default) sound in
    let b = and_true (is_kind enums column.kind) (fits_identity column.kind column.identity) a.0 in
    record {
      named = short_name column.name text.name short;
      tags = no_texts;
      kind = kind_stands enums column.kind b.0;
      default = default_fits enums column.kind column.default text.default;
      identity = identity_counts column.kind column.identity b.1;
    }
