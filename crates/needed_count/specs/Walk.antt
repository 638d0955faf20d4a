-- One walk over the places of a tree: each distinct path of row fields gets a number, each place the mutation field
-- under which it stands and the number of its path, and those of the places that need a statement of their own are
-- kept once each.
use Rattle.std.specs.Prelude.{ℕ, Bool, ◌&&◌, ◌||◌, if◌then◌else◌, is_none, List, [], ◌∷◌, ◌++◌, length, Option, Some, None, slice_get, unwrap_or}
use Rattle.std.specs.List.{list_any, position_or_len}
use Rattle.pg_base.specs.declared.vars.Vars.{Vars}
use Rattle.pg_base.specs.Base.{BaseParts}
use Rattle.pg_base.specs.Schema.{SchemaParts}
use Rattle.place_tree.specs.declared.place.Place.{Place}
use Rattle.place_tree.specs.Fields.{does_of, is_list, is_row_field}
use Rattle.place_tree.specs.Fold.{same_place}
use Rattle.place_tree.specs.Arguments.{is_windowed}
use Rattle.place_tree.specs.Needs.{is_backward, is_mutation}
use Rattle.needed_count.specs.declared.marks.Mark.{Mark}
use Rattle.needed_count.specs.declared.words.Word.{Word}
use Rattle.needed_count.specs.PathWords.{path_words, row_of, same_key}

-- the number of a path, by its words: the place of the first that is the same, or else the next one
abbrev pub number_in : List (List Word) → List Word → ℕ
number_in paths key = position_or_len (same_key key) paths

abbrev pub with_path : List (List Word) → List Word → List (List Word)
with_path paths key = if list_any (same_key key) paths then paths else paths ++ key ∷ []

abbrev pub same_mark : Mark → Mark → Bool
same_mark a b = same_place a.root b.root && same_place a.path b.path

abbrev pub with_mark : List Mark → Mark → List Mark
with_mark own mark = if list_any (same_mark mark) own then own else own ++ mark ∷ []

-- the paths so far, in the order of their numbers, the marks of the places so far, and the distinct marks of those that
-- need a statement of their own
pub record Walked : Type 0 where
  pub paths : List (List Word)
  pub marks : List Mark
  pub own : List Mark

abbrev pub not_walked : Walked
not_walked = record { paths = []; marks = []; own = [] }

-- outside of all mutation fields and row fields
abbrev pub no_mark : Mark
no_mark = record { root = None; path = None }

abbrev pub mark_above : List Mark → Option ℕ → Mark
mark_above marks None = no_mark
mark_above marks (Some i) = unwrap_or (slice_get marks i) no_mark

abbrev pub root_at : SchemaParts → ℕ → Place → Option ℕ → Option ℕ
root_at schema i p above = if is_mutation (does_of schema p) then Some i else above

-- the number of a place's path, from that of the place above
abbrev pub path_at : SchemaParts → List (List Word) → Place → Option ℕ → Option ℕ
path_at schema paths p above =
    if is_row_field (does_of schema p) then Some (number_in paths (path_words above (row_of p))) else above

abbrev pub paths_at : SchemaParts → List (List Word) → Place → Option ℕ → List (List Word)
paths_at schema paths p above =
    if is_row_field (does_of schema p) then with_path paths (path_words above (row_of p)) else paths

-- a row field with none above it, or a backward list of which a part is asked for
abbrev pub needs_own : BaseParts → Vars → Place → Option ℕ → Bool
needs_own base vars p above =
    is_row_field (does_of base.schema p)
    && (is_none above || (is_backward (does_of base.schema p) && (is_list base p && is_windowed vars p)))

abbrev pub own_with : Bool → List Mark → Mark → List Mark
own_with needs own mark = if needs then with_mark own mark else own

abbrev pub mark_at : SchemaParts → Walked → Place → Mark → Mark
mark_at schema w p above =
    record { root = root_at schema (length w.marks) p above.root; path = path_at schema w.paths p above.path }

-- one place more, below one with this mark
abbrev pub walked_below : BaseParts → Vars → Walked → Place → Mark → Walked
walked_below base vars w p above = record {
  paths = paths_at base.schema w.paths p above.path;
  marks = w.marks ++ mark_at base.schema w p above ∷ [];
  own = own_with (needs_own base vars p above.path) w.own (mark_at base.schema w p above);
}

abbrev pub walked_with : BaseParts → Vars → Walked → Place → Walked
walked_with base vars w p = walked_below base vars w p (mark_above w.marks p.parent)

abbrev pub walked_over : BaseParts → Vars → Walked → List Place → Walked
walked_over base vars w [] = w
walked_over base vars w (p ∷ places) = walked_over base vars (walked_with base vars w p) places
