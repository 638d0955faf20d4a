-- The cells of a row without a fault fit their columns.
use Rattle.std.proofs.Common.{◌≡◌, ℕ, ℤ, pos, neg_ℤ, ◌-◌, ◌^◌, ◌<◌, Bool, true, false, cond, not, ◌&&◌, List, [], length, Option, None, Some, IsSomeAnd, refl, sym, subst, arith}
use Rattle.std.specs.Prelude.{int_le, int_lt, nat_lt, ◌+ℤ◌, ◌≤ℤ◌, IfSome, is_some, unwrap_or, position, slice_get, if◌then◌else◌}
use Rattle.std.specs.Option.{option_map, option_and_then}
use Rattle.std.specs.Str.{IsUtf8, chars, bytes_eq}
use Rattle.std.specs.Str.Parse.{signed_digits_value, without_leading_sign}
use Rattle.std.proofs.lemmas.Bool.Decides.{nat_tests}
use Rattle.std.proofs.lemmas.Int.{ints}
use Rattle.std.proofs.lemmas.List.Quantifiers.{position-Some}
use Rattle.pg_base.specs.Limits.{most_text_bytes}
use Rattle.pg_base.specs.Kind.{CanCount}
use Rattle.pg_base.specs.Cell.{FitsKind, HoldsCase}
use Rattle.pg_base.specs.Catalog.{IsValidColumn}
use Rattle.pg_base.specs.declared.cell.Cell.{Cell}
use Rattle.pg_base.specs.declared.cell.Cell.TheVariants as cell
use Rattle.pg_base.specs.declared.kind.Kind.{Kind}
use Rattle.pg_base.specs.declared.kind.Kind.TheVariants as kind
use Rattle.pg_base.specs.declared.enum_def.EnumDef.{EnumDef}
use Rattle.pg_base.specs.declared.table_def.ColumnDef.{ColumnDef}
use Rattle.rel_model.specs.Tables.{FitsColumn, greatest, IsCounter}
use Rattle.rel_model.specs.Picked.{is_null}
use Rattle.ddl_reader.specs.declared.script.Literal.{Literal}
use Rattle.ddl_reader.specs.declared.script.Literal.TheVariants as literal
use Rattle.rows_reader.specs.Cells.{is_numeral, is_between, int_number, bigint_number, is_of_kind, is_bad, lacks_case, has_no_case, passes_length, is_too_long, cell_of_number, cell_of_string, cell_of, raised}
use Rattle.rows_reader.specs.Faults.{lacks_value}
use Rattle.rows_reader.specs.Texts.{IsTextLiteral}
use Rattle.rows_reader.proofs.Written.{both_true, both_are, between_32, between_64, fits_64}
use Rattle.rows_reader.proofs.NoFault.{not_false, either_false}

-- ---- numbers

wider : (n : ℤ) → is_between (neg_ℤ (pos (2 ^ 31))) (pos (2 ^ 31 - 1)) n ≡ true → is_between (neg_ℤ (pos (2 ^ 63))) (pos (2 ^ 63 - 1)) n ≡ true
wider n e = fits_64 n (let f = between_32 n e in grind (arith, ints))

-- a number that lies between the narrower bounds is the number between the wider ones
module _ (text : List ℕ) where
  abbrev value : ℤ
  value = signed_digits_value 10 text

  abbrev digits : Bool
  digits = is_numeral (without_leading_sign text)

  some_is : (a : Bool) (n : ℤ) → is_some (if a then Some n else None) ≡ true → a ≡ true
  some_is true n e = refl
  some_is false n e = absurd (cc)

  cell_by : (a : Bool) (n : ℤ) → a ≡ true → unwrap_or (option_map (λ k. cell.Int k) (if a then Some n else None)) cell.Null ≡ cell.Int n
  cell_by true n e = refl
  cell_by false n e = absurd (cc)

  int_fits : (enums : List EnumDef) → is_some (int_number text) ≡ true → FitsKind enums kind.Int (cell_of_number text)
  int_fits enums e =
      let t = both_true digits (is_between (neg_ℤ (pos (2 ^ 31))) (pos (2 ^ 31 - 1)) value) (some_is (digits && is_between (neg_ℤ (pos (2 ^ 31))) (pos (2 ^ 31 - 1)) value) value e) in
      subst (FitsKind enums kind.Int) (sym (cell_by (digits && is_between (neg_ℤ (pos (2 ^ 63))) (pos (2 ^ 63 - 1)) value) value
      (both_are digits (is_between (neg_ℤ (pos (2 ^ 63))) (pos (2 ^ 63 - 1)) value) t.0 (wider value t.1)))) (between_32 value t.1)

  bigint_fits : (enums : List EnumDef) → is_some (bigint_number text) ≡ true → FitsKind enums kind.BigInt (cell_of_number text)
  bigint_fits enums e =
      let a = some_is (digits && is_between (neg_ℤ (pos (2 ^ 63))) (pos (2 ^ 63 - 1)) value) value e in
      let t = both_true digits (is_between (neg_ℤ (pos (2 ^ 63))) (pos (2 ^ 63 - 1)) value) a in
      subst (FitsKind enums kind.BigInt) (sym (cell_by (digits && is_between (neg_ℤ (pos (2 ^ 63))) (pos (2 ^ 63 - 1)) value) value a)) (between_64 value t.1)

number_fits : (enums : List EnumDef) (k : Kind) (text : List ℕ) → is_of_kind k (literal.Number text) ≡ true → FitsKind enums k (cell_of_number text)
number_fits enums kind.Text text e = absurd (cc)
number_fits enums (kind.Varchar n) text e = absurd (cc)
number_fits enums kind.Int text e = int_fits text enums e
number_fits enums kind.BigInt text e = bigint_fits text enums e
number_fits enums kind.Bool text e = absurd (cc)
number_fits enums (kind.Enum place) text e = absurd (cc)

-- ---- strings

label_by : (enums : List EnumDef) (place : ℕ) (label : List ℕ) (o : Option EnumDef) → slice_get enums place ≡ o
    → not (is_some (option_and_then (λ e. position (bytes_eq label) e.cases) o)) ≡ false
    → IsSomeAnd o (λ e. HoldsCase (λ case. case < length e.cases) (unwrap_or (option_map (λ at. cell.EnumCase at) (option_and_then (λ e. position (bytes_eq label) e.cases) o)) cell.Null))
label_by enums place label None is e = absurd (cc)
label_by enums place label (Some d) is e = inside (position (bytes_eq label) d.cases) refl e
  where
    inside : (o : Option ℕ) → position (bytes_eq label) d.cases ≡ o → not (is_some o) ≡ false → HoldsCase (λ case. case < length d.cases) (unwrap_or (option_map (λ at. cell.EnumCase at) o) cell.Null)
    inside None p e = absurd (cc)
    inside (Some at) p e = (position-Some (bytes_eq label) d.cases at [] p).0

string_fits : (enums : List EnumDef) (k : Kind) (text : List ℕ) → IsUtf8 text → is_of_kind k (literal.Str text) ≡ true → lacks_case enums k text ≡ false → passes_length k text ≡ false → FitsKind enums k (cell_of_string enums k text)
string_fits enums kind.Text text u e f g = (u, grind (arith, nat_tests))
string_fits enums (kind.Varchar n) text u e f g =
    let both = either_false (nat_lt most_text_bytes (length text)) (nat_lt n (length (chars text))) g in
    let bytes = both.0 in let characters = both.1 in ((u, grind (arith, nat_tests)), grind (arith, nat_tests))
string_fits enums kind.Int text u e f g = absurd (cc)
string_fits enums kind.BigInt text u e f g = absurd (cc)
string_fits enums kind.Bool text u e f g = absurd (cc)
string_fits enums (kind.Enum place) text u e f g = label_by enums place text (slice_get enums place) refl f

truth_fits : (enums : List EnumDef) (k : Kind) (b c : Bool) → is_of_kind k (cond c literal.True literal.False) ≡ true → FitsKind enums k (cell.Bool b)
truth_fits enums kind.Text b true e = absurd (cc)
truth_fits enums kind.Text b false e = absurd (cc)
truth_fits enums (kind.Varchar n) b true e = absurd (cc)
truth_fits enums (kind.Varchar n) b false e = absurd (cc)
truth_fits enums kind.Int b true e = absurd (cc)
truth_fits enums kind.Int b false e = absurd (cc)
truth_fits enums kind.BigInt b true e = absurd (cc)
truth_fits enums kind.BigInt b false e = absurd (cc)
truth_fits enums kind.Bool b c e = tt
truth_fits enums (kind.Enum place) b true e = absurd (cc)
truth_fits enums (kind.Enum place) b false e = absurd (cc)

-- ---- columns

no_null : (enums : List EnumDef) (k : Kind) → FitsKind enums k cell.Null → ⊥
no_null enums kind.Text h = h
no_null enums (kind.Varchar n) h = h
no_null enums kind.Int h = h
no_null enums kind.BigInt h = h
no_null enums kind.Bool h = h
no_null enums (kind.Enum place) h = by (slice_get enums place) h
  where
    by : (o : Option EnumDef) → IsSomeAnd o (λ e. HoldsCase (λ case. case < length e.cases) cell.Null) → ⊥
    by None h = h
    by (Some e) h = h

fits_column : (enums : List EnumDef) (c : ColumnDef) (value : Cell) → FitsKind enums c.kind value → FitsColumn enums c value
fits_column enums c cell.Null h = absurd (no_null enums c.kind h)
fits_column enums c (cell.Int n) h = h
fits_column enums c (cell.Bool b) h = h
fits_column enums c (cell.Text t) h = h
fits_column enums c (cell.EnumCase place) h = h

null_fits : (enums : List EnumDef) (c : ColumnDef) → lacks_value c cell.Null ≡ false → FitsColumn enums c cell.Null
unfolding is_null
null_fits enums c e = by c.not_null e
  where
    by : (b : Bool) → (b && true) ≡ false → b ≡ false
    by true e = absurd (cc)
    by false e = refl

next_fits : (enums : List EnumDef) (k : Kind) (n : ℤ) → CanCount k → pos 0 ≤ℤ n → int_le (pos (greatest k)) n ≡ false → FitsKind enums k (cell.Int (n +ℤ pos 1))
next_fits enums kind.Text n h low e = absurd (cc)
next_fits enums (kind.Varchar m) n h low e = absurd (cc)
next_fits enums kind.Int n h low e = grind (arith, ints)
next_fits enums kind.BigInt n h low e = grind (arith, ints)
next_fits enums kind.Bool n h low e = absurd (cc)
next_fits enums (kind.Enum place) n h low e = absurd (cc)

default_by : (enums : List EnumDef) (c : ColumnDef) (n : ℤ) (b : Bool) (o : Option Cell) → (b ≡ true → CanCount c.kind) → (b ≡ true → pos 0 ≤ℤ n) → IfSome o (FitsKind enums c.kind)
    → (b && int_le (pos (greatest c.kind)) n) ≡ false → lacks_value c (if b then cell.Int (n +ℤ pos 1) else unwrap_or o cell.Null) ≡ false
    → FitsColumn enums c (if b then cell.Int (n +ℤ pos 1) else unwrap_or o cell.Null)
default_by enums c n true o counts low h e f = next_fits enums c.kind n (counts refl) (low refl) e
default_by enums c n false (Some d) counts low h e f = fits_column enums c d h
default_by enums c n false None counts low h e f = null_fits enums c f

pub column_fits : (enums : List EnumDef) (c : ColumnDef) (n : ℤ) (value : Literal) → IsValidColumn enums c → IsCounter c n → IsTextLiteral value
    → is_bad c n value ≡ false → has_no_case enums c value ≡ false → is_too_long c value ≡ false → lacks_value c (cell_of enums c n value) ≡ false
    → FitsColumn enums c (cell_of enums c n value)
unfolding is_bad has_no_case is_too_long cell_of
column_fits enums c n (literal.Number text) valid counter u bad lacks long null = fits_column enums c (cell_of_number text) (number_fits enums c.kind text (not_false (is_of_kind c.kind (literal.Number text)) bad))
column_fits enums c n (literal.Str text) valid counter u bad lacks long null = fits_column enums c (cell_of_string enums c.kind text) (string_fits enums c.kind text u (not_false (is_of_kind c.kind (literal.Str text)) bad) lacks long)
column_fits enums c n literal.True valid counter u bad lacks long null = truth_fits enums c.kind true true (not_false (is_of_kind c.kind literal.True) bad)
column_fits enums c n literal.False valid counter u bad lacks long null = truth_fits enums c.kind false false (not_false (is_of_kind c.kind literal.False) bad)
column_fits enums c n literal.Null valid counter u bad lacks long null = null_fits enums c null
column_fits enums c n literal.Default valid counter u bad lacks long null = default_by enums c n c.identity c.default valid.identity (λ t. (counter t).0) valid.default bad null

-- ---- counters

within : (enums : List EnumDef) (k : Kind) (n : ℤ) → CanCount k → FitsKind enums k (cell.Int n) → n ≤ℤ pos (greatest k)
within enums kind.Text n h f = absurd (cc)
within enums (kind.Varchar m) n h f = absurd (cc)
within enums kind.Int n h f = grind (arith, ints)
within enums kind.BigInt n h f = grind (arith, ints)
within enums kind.Bool n h f = absurd (cc)
within enums (kind.Enum place) n h f = absurd (cc)

moved : (enums : List EnumDef) (k : Kind) (counter n : ℤ) (b : Bool) → CanCount k → FitsKind enums k (cell.Int n) → (pos 0 ≤ℤ counter) × (counter ≤ℤ pos (greatest k)) → int_lt counter n ≡ b
    → (pos 0 ≤ℤ (if b then n else counter)) × ((if b then n else counter) ≤ℤ pos (greatest k))
moved enums k counter n true h f w e = let low = w.0 in (grind (arith, ints), within enums k n h f)
moved enums k counter n false h f w e = w

raised_by : (enums : List EnumDef) (c : ColumnDef) (counter : ℤ) (value : Cell) (b : Bool) → (b ≡ true → CanCount c.kind) → FitsColumn enums c value
    → (b ≡ true → (pos 0 ≤ℤ counter) × (counter ≤ℤ pos (greatest c.kind))) → b ≡ true → (pos 0 ≤ℤ raised b counter value) × (raised b counter value ≤ℤ pos (greatest c.kind))
raised_by enums c counter (cell.Int n) true counts f w t = moved enums c.kind counter n (int_lt counter n) (counts refl) f (w refl) refl
raised_by enums c counter cell.Null true counts f w t = w refl
raised_by enums c counter (cell.Bool b) true counts f w t = w refl
raised_by enums c counter (cell.Text s) true counts f w t = w refl
raised_by enums c counter (cell.EnumCase place) true counts f w t = w refl
raised_by enums c counter value false counts f w t = absurd (cc)

pub counter_fits : (enums : List EnumDef) (c : ColumnDef) (counter : ℤ) (value : Cell) → IsValidColumn enums c → IsCounter c counter → FitsColumn enums c value → IsCounter c (raised c.identity counter value)
counter_fits enums c counter value valid w f = raised_by enums c counter value c.identity valid.identity f w
