-- Types as documents write them.
use Rattle.std.proofs.Common.{◌≡◌, ℕ, Bool, Some, refl, ap, sym, ◌∙◌}
use Rattle.gql_reader.specs.declared.tree.Type.{«Type» as TypeWritten, Named, List', more_of-Type, end_of-Type}
use Rattle.gql_reader.specs.declared.tree.Type.TheVariants as made
use Rattle.gql_reader.specs.declared.tree.Type.TheBlock.{hidden-the_row-Type-0}
use Rattle.gql_types.specs.Types.{innermost, is_not_null, item_of, innermost_name, ty_as}

pub name_inside : (n : ℕ) (t : TypeWritten) → n ≡ innermost (ty_as n t)
name_inside n (Named name b) = refl
name_inside n (List' _ (more_of-Type item end_of-Type) b) = name_inside n item

-- ---- a list, as the code makes it

not_null_made : (n : ℕ) (item : TypeWritten) (b : Bool) → b ≡ is_not_null (ty_as n (made.List item b))
unfolding hidden-the_row-Type-0 denote.Hole.Carrier.hidden
not_null_made n item b = refl

item_made : (n : ℕ) (item : TypeWritten) (b : Bool) → Some (ty_as n item) ≡ item_of (ty_as n (made.List item b))
unfolding hidden-the_row-Type-0 denote.Hole.Carrier.hidden
item_made n item b = refl

inside_made : (item : TypeWritten) (b : Bool) → innermost_name item ≡ innermost_name (made.List item b)
unfolding hidden-the_row-Type-0 denote.Hole.Carrier.hidden
inside_made item b = refl

pub not_null_list : (n : ℕ) (t item : TypeWritten) (b : Bool) → t ≡ made.List item b → b ≡ is_not_null (ty_as n t)
not_null_list n t item b is = not_null_made n item b ∙ sym (ap (λ u. is_not_null (ty_as n u)) is)

pub item_list : (n : ℕ) (t item : TypeWritten) (b : Bool) → t ≡ made.List item b → Some (ty_as n item) ≡ item_of (ty_as n t)
item_list n t item b is = item_made n item b ∙ sym (ap (λ u. item_of (ty_as n u)) is)

pub inside_list : (t item : TypeWritten) (b : Bool) → t ≡ made.List item b → innermost_name item ≡ innermost_name t
inside_list t item b is = inside_made item b ∙ sym (ap innermost_name is)
