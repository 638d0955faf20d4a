-- A text gives one script at most, or one fault, and never both.
use Rattle.std.proofs.Common.{◌≡◌, inl, inr, ℕ, List, [], ◌∷◌, Option, None, Some, Result, Ok, Err, refl, sym, ap, ap₂, subst, ◌∙◌}
use Rattle.std.specs.List.{slice_get}
use Rattle.pg_base.specs.Lists.{EachPair}
use Rattle.pg_base.specs.Catalog.{CatalogParts}
use Rattle.pg_base.specs.declared.table_def.TableDef.{TableDef}
use Rattle.pg_catalog.specs.Names.{place_of, table_names}
use Rattle.ddl_reader.specs.declared.fault.ScriptFault.{ScriptFault}
use Rattle.ddl_reader.specs.declared.reading.Progress.{Progress}
use Rattle.ddl_reader.specs.declared.script.Script.{Script}
use Rattle.ddl_reader.specs.declared.script.RowText.{RowText}
use Rattle.ddl_reader.specs.declared.statement.Row.{Row}
use Rattle.ddl_reader.specs.declared.statement.InsertStatement.{InsertStatement}
use Rattle.ddl_reader.specs.Script.{row_text, IsResolved, first_fault, read, IsScript, IsNamesFault, IsScriptFault}

some_same : {A : Type 0} (o : Option A) (x y : A) → o ≡ Some x → o ≡ Some y → x ≡ y
some_same o x y e f = let both : Some x ≡ Some y = sym e ∙ f in cc

pairs_same : {A B : Type 0} (R : A → B → Type 0) → ((x : A) (y z : B) → R x y → R x z → y ≡ z) → (xs : List A) (ys zs : List B) → EachPair R xs ys → EachPair R xs zs → ys ≡ zs
pairs_same R one [] [] [] h k = refl
pairs_same R one [] [] (z ∷ zs) h k = absurd k
pairs_same R one [] (y ∷ ys) zs h k = absurd h
pairs_same R one (x ∷ xs) [] zs h k = absurd h
pairs_same R one (x ∷ xs) (y ∷ ys) [] h k = absurd k
pairs_same R one (x ∷ xs) (y ∷ ys) (z ∷ zs) h k = ap₂ (λ a b. a ∷ b) (one x y z h.0 k.0) (pairs_same R one xs ys zs h.1 k.1)

row_same : (c : CatalogParts) (inserts : List InsertStatement) (row : Row) (a b : RowText) → IsResolved c inserts row a → IsResolved c inserts row b → a ≡ b
row_same c inserts row a b h k =
    let insert : h.insert ≡ k.insert = some_same (slice_get inserts row.insert) h.insert k.insert h.written k.written in
    let named : place_of (table_names c) k.insert.table.text ≡ Some h.place = ap (λ (i : InsertStatement). place_of (table_names c) i.table.text) (sym insert) ∙ h.named in
    let place : h.place ≡ k.place = some_same (place_of (table_names c) k.insert.table.text) h.place k.place named k.named in
    let stands : slice_get c.tables k.place ≡ Some h.table = ap (λ (n : ℕ). slice_get c.tables n) (sym place) ∙ h.stands in
    let table : h.table ≡ k.table = some_same (slice_get c.tables k.place) h.table k.table stands k.stands in
    h.is ∙ ap (λ (n : ℕ). row_text n h.table h.insert row) place ∙ ap (λ (t : TableDef). row_text k.place t h.insert row) table ∙ ap (λ (i : InsertStatement). row_text k.place k.table i row) insert ∙ sym k.is

abbrev ok : Progress → Result Progress ScriptFault
ok p = Ok p

abbrev err : ScriptFault → Result Progress ScriptFault
err f = Err f

read_same : (bytes : List ℕ) (p q : Progress) → read bytes ≡ Ok p → read bytes ≡ Ok q → p ≡ q
read_same bytes p q e f = let both : ok p ≡ ok q = sym e ∙ f in cc

module _ (bytes : List ℕ) (s t : Script) (h : IsScript bytes s) (k : IsScript bytes t) where
  progress_same : h.progress ≡ k.progress
  progress_same = read_same bytes h.progress k.progress h.reads k.reads

  catalog_same : s.catalog ≡ t.catalog
  catalog_same = h.catalog ∙ ap (λ (p : Progress). p.catalog) progress_same ∙ sym k.catalog

  rows_same : s.rows ≡ t.rows
  rows_same =
      let p = k.progress in
      let here : EachPair (IsResolved p.catalog p.inserts) p.rows s.rows = subst (λ (q : Progress). EachPair (IsResolved q.catalog q.inserts) q.rows s.rows) progress_same h.rows in
      pairs_same (IsResolved p.catalog p.inserts) (row_same p.catalog p.inserts) p.rows s.rows t.rows here k.rows

  pub one_script : s ≡ t
  one_script = λ i. record { catalog = catalog_same i; rows = rows_same i }

-- ---- faults

err_same : (bytes : List ℕ) (f g : ScriptFault) → read bytes ≡ Err f → read bytes ≡ Err g → f ≡ g
err_same bytes f g e k = let both : err f ≡ err g = sym e ∙ k in cc

not_both : (bytes : List ℕ) (p : Progress) (f : ScriptFault) → read bytes ≡ Ok p → read bytes ≡ Err f → ⊥
not_both bytes p f e k = let both : ok p ≡ err f = sym e ∙ k in cc

names_same : (bytes : List ℕ) (f g : ScriptFault) → IsNamesFault bytes f → IsNamesFault bytes g → f ≡ g
names_same bytes f g h k =
    let p = read_same bytes h.progress k.progress h.reads k.reads in
    some_same (first_fault k.progress.catalog k.progress.inserts) f g (ap (λ (q : Progress). first_fault q.catalog q.inserts) (sym p) ∙ h.names) k.names

pub one_fault : (bytes : List ℕ) (f g : ScriptFault) → IsScriptFault bytes f → IsScriptFault bytes g → f ≡ g
one_fault bytes f g (inl e) (inl k) = err_same bytes f g e k
one_fault bytes f g (inl e) (inr k) = absurd (not_both bytes k.progress f k.reads e)
one_fault bytes f g (inr h) (inl k) = absurd (not_both bytes h.progress g h.reads k)
one_fault bytes f g (inr h) (inr k) = names_same bytes f g h k

pub no_fault : (bytes : List ℕ) (s : Script) (f : ScriptFault) → IsScript bytes s → IsScriptFault bytes f → ⊥
no_fault bytes s f h (inl e) = not_both bytes h.progress f h.reads e
no_fault bytes s f h (inr k) =
    let p = read_same bytes h.progress k.progress h.reads k.reads in
    let clear : first_fault k.progress.catalog k.progress.inserts ≡ None = ap (λ (q : Progress). first_fault q.catalog q.inserts) (sym p) ∙ h.names in
    let both : Some f ≡ None = sym k.names ∙ clear in
    cc
