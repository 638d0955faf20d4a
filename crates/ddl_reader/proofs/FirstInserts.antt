-- INSERTs that share their first ones.
use Rattle.std.proofs.Common.{◌≡◌, ℕ, zero, suc, ◌<◌, not, true, List, [], ◌∷◌, ◌++◌, length, find, Option, None, Some, refl, sym, ap, ap₂, subst, ◌∙◌, arith, length-append}
use Rattle.std.specs.List.{slice_get}
use Rattle.std.specs.Option.{option_map, option_or}
use Rattle.std.specs.Str.{bytes_eq}
use Rattle.std.specs.Cmp.{first_so, second_so}
use Rattle.std.specs.Cmp.Lexicographic.{pointwise}
use Rattle.std.proofs.lemmas.Slice.Eq.{bytes_eq-Decides}
use Rattle.pg_base.specs.Lists.{Each}
use Rattle.pg_base.specs.Catalog.{CatalogParts}
use Rattle.pg_base.specs.declared.pos.Pos.{Pos}
use Rattle.pg_base.specs.declared.table_def.TableDef.{TableDef}
use Rattle.pg_catalog.specs.Names.{stands, table_of, column_names, first_double}
use Rattle.pg_catalog.proofs.EachFacts.{Each-pushed, Each-map}
use Rattle.ddl_reader.specs.declared.fault.ScriptFault.{ScriptFault}
use Rattle.ddl_reader.specs.declared.inserts.InsertPlace.{InsertPlace}
use Rattle.ddl_reader.specs.declared.statement.InsertStatement.{InsertStatement}
use Rattle.ddl_reader.specs.Script.{columns_of, insert_fault, double_column, unknown_in, unknown_name, names_fault, first_fault}
use Rattle.ddl_reader.specs.Inserts.{moved, like, insert_of, inserts_in, AreFirsts, IsLike}
use Rattle.ddl_reader.proofs.ResolvedRows.{both_none, map_none, no_fault_at}

-- ---- names that are the same

pub names_same : (xs ys : List (List ℕ)) → pointwise bytes_eq xs ys ≡ true → xs ≡ ys
names_same [] [] h = refl
names_same [] (y ∷ ys) h = absurd (cc)
names_same (x ∷ xs) [] h = absurd (cc)
names_same (x ∷ xs) (y ∷ ys) h = ap₂ (λ a l. a ∷ l) ((bytes_eq-Decides x y).0 (first_so _ _ h)) (names_same xs ys (second_so (bytes_eq x y) _ h))

-- ---- a list with one item more

get_kept : {A : Type 0} (xs : List A) (x : A) (i : ℕ) → i < length xs → slice_get (xs ++ x ∷ []) i ≡ slice_get xs i
get_kept [] x i lt = absurd (omega (arith, lt))
get_kept (y ∷ xs) x zero lt = refl
get_kept (y ∷ xs) x (suc i) lt = get_kept xs x i (omega (arith, lt))

get_last : {A : Type 0} (xs : List A) (x : A) → slice_get (xs ++ x ∷ []) (length xs) ≡ Some x
get_last [] x = refl
get_last (y ∷ xs) x = get_last xs x

get_within : {A : Type 0} (xs : List A) (i : ℕ) (x : A) → slice_get xs i ≡ Some x → i < length xs
get_within [] i x e = absurd (cc)
get_within (y ∷ xs) zero x e = omega arith
get_within (y ∷ xs) (suc i) x e = let lt = get_within xs i x e in omega (arith, lt)

-- ---- the first fault

or_none : {A : Type 0} (o : Option A) → option_or o None ≡ o
or_none None = refl
or_none (Some x) = refl

or_assoc : {A : Type 0} (a b o : Option A) → option_or (option_or a b) o ≡ option_or a (option_or b o)
or_assoc None b o = refl
or_assoc (Some x) b o = refl

or_clear : {A : Type 0} (a b : Option A) → (a ≡ None → b ≡ None) → option_or a b ≡ a
or_clear None b f = f refl
or_clear (Some x) b f = refl

faults_more : (c : CatalogParts) (inserts : List InsertStatement) (i : InsertStatement) → first_fault c (inserts ++ i ∷ []) ≡ option_or (first_fault c inserts) (names_fault c i)
faults_more c [] i = or_none (names_fault c i)
faults_more c (j ∷ inserts) i = ap (λ (o : Option ScriptFault). option_or (names_fault c j) o) (faults_more c inserts i) ∙ sym (or_assoc (names_fault c j) (first_fault c inserts) (names_fault c i))

-- an INSERT elsewhere that names the same has a fault where this one has
module _ (c : CatalogParts) (i : InsertStatement) (pos : Pos) where
  double_moved : double_column i ≡ None → double_column (moved i pos) ≡ None
  double_moved e = ap (λ (o : Option (List ℕ)). option_map (insert_fault 2 (moved i pos)) o) (map_none (insert_fault 2 i) (first_double (columns_of i)) e)

  unknown_moved : (o : Option TableDef) → unknown_in i o ≡ None → unknown_in (moved i pos) o ≡ None
  unknown_moved None e = absurd (cc)
  unknown_moved (Some t) e = ap (λ (o : Option (List ℕ)). option_map (insert_fault 4 (moved i pos)) o) (map_none (insert_fault 4 i) (find (λ name. not (stands (column_names t) name)) (columns_of i)) e)

  clear_moved : names_fault c i ≡ None → names_fault c (moved i pos) ≡ None
  clear_moved e =
      let both = both_none (double_column i) (unknown_name c i) e in
      ap₂ (λ (a b : Option ScriptFault). option_or a b) (double_moved both.0) (unknown_moved (table_of c i.table.text) both.1)

-- ---- one INSERT more

inserts_more : (firsts : List InsertStatement) (places : List InsertPlace) (place : InsertPlace) → inserts_in firsts (places ++ place ∷ []) ≡ inserts_in firsts places ++ insert_of firsts place ∷ []
inserts_more firsts [] place = refl
inserts_more firsts (p ∷ places) place = ap (λ (l : List InsertStatement). insert_of firsts p ∷ l) (inserts_more firsts places place)

inserts_kept : (firsts : List InsertStatement) (i : InsertStatement) (places : List InsertPlace) → Each (λ (place : InsertPlace). place.first < length firsts) places → inserts_in (firsts ++ i ∷ []) places ≡ inserts_in firsts places
inserts_kept firsts i [] h = refl
inserts_kept firsts i (p ∷ places) h = ap₂ (λ (j : InsertStatement) (l : List InsertStatement). j ∷ l) (ap (λ (o : Option InsertStatement). like o p.pos) (get_kept firsts i p.first h.0)) (inserts_kept firsts i places h.1)

-- what is kept of the INSERT where the first one that names the same stands at the place
abbrev pub place_at : ℕ → InsertStatement → InsertPlace
place_at first i = record { first = first; pos = i.table.pos }

module _ (firsts : List InsertStatement) (places : List InsertPlace) (h : AreFirsts firsts places) (insert : InsertStatement) (at : ℕ) where
  -- the fault of all, once this INSERT stands at the end
  faults_with : (c : CatalogParts) (new : List InsertStatement) → new ≡ inserts_in firsts places ++ insert ∷ [] → first_fault c new ≡ option_or (first_fault c firsts) (names_fault c insert)
  faults_with c new is = ap (first_fault c) is ∙ faults_more c (inserts_in firsts places) insert ∙ ap (λ (o : Option ScriptFault). option_or o (names_fault c insert)) (h.faults c)

  -- it names what the first one at the place names
  module _ (l : IsLike firsts insert at) where
    pub like_inserts : inserts_in firsts (places ++ place_at at insert ∷ []) ≡ inserts_in firsts places ++ insert ∷ []
    like_inserts = inserts_more firsts places (place_at at insert) ∙ ap (λ (i : InsertStatement). inserts_in firsts places ++ i ∷ []) (ap (λ (o : Option InsertStatement). like o insert.table.pos) l.found ∙ l.same)

    like_clear : (c : CatalogParts) → first_fault c firsts ≡ None → names_fault c insert ≡ None
    like_clear c e = subst (λ (i : InsertStatement). names_fault c i ≡ None) l.same (clear_moved c l.first insert.table.pos (no_fault_at c firsts at l.first e l.found))

    pub like_kept : AreFirsts firsts (places ++ place_at at insert ∷ [])
    like_kept = record {
      within = Each-pushed (λ (p : InsertPlace). p.first < length firsts) places (place_at at insert) h.within (get_within firsts at l.first l.found);
      faults = λ c. faults_with c (inserts_in firsts (places ++ place_at at insert ∷ [])) like_inserts ∙ or_clear (first_fault c firsts) (names_fault c insert) (like_clear c);
    }

  -- it is a first one
  module _ (last : at ≡ length firsts) where
    pub first_inserts : inserts_in (firsts ++ insert ∷ []) (places ++ place_at at insert ∷ []) ≡ inserts_in firsts places ++ insert ∷ []
    first_inserts =
        let found : slice_get (firsts ++ insert ∷ []) at ≡ Some insert = ap (λ (n : ℕ). slice_get (firsts ++ insert ∷ []) n) last ∙ get_last firsts insert in
        inserts_more (firsts ++ insert ∷ []) places (place_at at insert)
        ∙ ap₂ (λ (l : List InsertStatement) (i : InsertStatement). l ++ i ∷ []) (inserts_kept firsts insert places h.within) (ap (λ (o : Option InsertStatement). like o insert.table.pos) found)

    pub first_kept : AreFirsts (firsts ++ insert ∷ []) (places ++ place_at at insert ∷ [])
    first_kept =
        let more = length-append firsts (insert ∷ []) in
        let all = length (firsts ++ insert ∷ []) in
        record {
          within = Each-pushed (λ (p : InsertPlace). p.first < all) places (place_at at insert) (Each-map (λ (p : InsertPlace). p.first < length firsts) (λ (p : InsertPlace). p.first < all) (λ p lt. omega (arith, lt, more)) places h.within) (omega (arith, last, more));
          faults = λ c. faults_with c (inserts_in (firsts ++ insert ∷ []) (places ++ place_at at insert ∷ [])) first_inserts ∙ sym (faults_more c firsts insert);
        }

    -- the same of lists that are known to be those
    module _ (new : List InsertStatement) (new_places : List InsertPlace) (pushed : new ≡ firsts ++ insert ∷ []) (placed : new_places ≡ places ++ place_at at insert ∷ []) where
      pub pushed_kept : AreFirsts new new_places
      pushed_kept =
          subst (λ (l : List InsertStatement). AreFirsts l new_places) (sym pushed)
          (subst (λ (l : List InsertPlace). AreFirsts (firsts ++ insert ∷ []) l) (sym placed) first_kept)

      pub pushed_inserts : inserts_in new new_places ≡ inserts_in firsts places ++ insert ∷ []
      pushed_inserts = ap₂ (λ (l : List InsertStatement) (m : List InsertPlace). inserts_in l m) pushed placed ∙ first_inserts
