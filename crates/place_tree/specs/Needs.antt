-- The statements that a request needs: one for each distinct root row field, and one for each distinct list of which a
-- part is asked for.
use Rattle.std.specs.Prelude.{ℕ, ◌+◌, Bool, true, false, ◌==◌, ◌&&◌, ◌||◌, if◌then◌else◌, List, [], ◌∷◌, ◌++◌, length, Option, Some, None, slice_get, unwrap_or, filter}
use Rattle.std.specs.List.{list_any}
use Rattle.std.specs.Cmp.Lexicographic.{pointwise}
use Rattle.pg_base.specs.declared.vars.Vars.{Vars}
use Rattle.pg_base.specs.Base.{BaseParts}
use Rattle.pg_base.specs.declared.does.Does.{Does}
use Rattle.pg_base.specs.declared.does.Does.TheVariants as does
use Rattle.pg_base.specs.Schema.{SchemaParts}
use Rattle.place_tree.specs.Same.{same_arg}
use Rattle.place_tree.specs.declared.place.PlaceArg.{PlaceArg}
use Rattle.place_tree.specs.declared.place.Place.{Place}
use Rattle.place_tree.specs.declared.place.Tree.{Tree}
use Rattle.place_tree.specs.Fold.{same_place}
use Rattle.place_tree.specs.Fields.{does_of, is_list, is_row_field}
use Rattle.place_tree.specs.Arguments.{is_windowed}

-- whether it is the field of the rows that refer to a row
abbrev pub is_backward : Option Does → Bool
is_backward (Some (does.Backward table link)) = true
is_backward _ = false

-- whether it is one of the fields that change a table
abbrev pub is_mutation : Option Does → Bool
is_mutation (Some (does.Create table)) = true
is_mutation (Some (does.Update table key)) = true
is_mutation (Some (does.Delete table key)) = true
is_mutation _ = false

-- a row field with its arguments as they are written
pub record RowField : Type 0 where
  pub ty : ℕ
  pub field : ℕ
  pub args : List PlaceArg

-- the mutation field under which a place stands, if one, and the row fields from the root down to it
pub record Signature : Type 0 where
  pub root : Option ℕ
  pub path : List RowField

abbrev pub at_root : Signature
at_root = record { root = None; path = [] }

-- the signature of a place at i, from that of the place above
abbrev pub signature_below : SchemaParts → ℕ → Place → Signature → Signature
signature_below schema i p above = record {
  root = if is_mutation (does_of schema p) then Some i else above.root;
  path =
      if is_row_field (does_of schema p) then above.path ++ record { ty = p.ty; field = p.field; args = p.args } ∷ []
      else above.path;
}

abbrev pub signature_above : List Signature → Option ℕ → Signature
signature_above done None = at_root
signature_above done (Some i) = unwrap_or (slice_get done i) at_root

-- the signatures of all places, each from those before it
abbrev pub signatures_from : SchemaParts → List Signature → List Place → List Signature
signatures_from schema done [] = done
signatures_from schema done (p ∷ places) =
    signatures_from schema (done ++ signature_below schema (length done) p (signature_above done p.parent) ∷ []) places

abbrev pub signatures : SchemaParts → List Place → List Signature
signatures schema places = signatures_from schema [] places

abbrev pub same_written : PlaceArg → PlaceArg → Bool
same_written a b = (a.arg == b.arg) && same_arg a.value b.value

abbrev pub same_row_field : RowField → RowField → Bool
same_row_field f g = (f.ty == g.ty) && ((f.field == g.field) && pointwise same_written f.args g.args)

abbrev pub same_signature : Signature → Signature → Bool
same_signature s t = same_place s.root t.root && pointwise same_row_field s.path t.path

-- a row field at the root, or a backward list of which a part is asked for
abbrev pub needs_own : BaseParts → Vars → Place → Signature → Bool
needs_own base vars p s =
    is_row_field (does_of base.schema p)
    && ((length s.path == 1) || (is_backward (does_of base.schema p) && (is_list base p && is_windowed vars p)))

abbrev pub needing : BaseParts → Vars → List Place → List Signature → List Signature
needing base vars [] ss = []
needing base vars (p ∷ places) [] = []
needing base vars (p ∷ places) (s ∷ ss) =
    if needs_own base vars p s then s ∷ needing base vars places ss else needing base vars places ss

-- how many differ
abbrev pub distinct : {A : Type 0} → (A → A → Bool) → List A → ℕ
distinct same [] = 0
distinct same (x ∷ xs) = if list_any (same x) xs then distinct same xs else distinct same xs + 1

abbrev pub signatures_needed : BaseParts → Vars → Tree → List Signature
signatures_needed base vars tree = needing base vars tree.places (signatures base.schema tree.places)

abbrev pub needed_statements : BaseParts → Vars → Tree → ℕ
needed_statements base vars tree = distinct same_signature (signatures_needed base vars tree)

-- those of one mutation field
abbrev pub under : ℕ → List Signature → List Signature
under place ss = filter (λ s. same_place s.root (Some place)) ss

abbrev pub needed_under : BaseParts → Vars → Tree → ℕ → ℕ
needed_under base vars tree place = distinct same_signature (under place (signatures_needed base vars tree))
