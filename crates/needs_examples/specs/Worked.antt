-- Trees over the small base, and the statements that they need.
use Rattle.std.specs.Prelude.{◌≡◌, ℕ, List, [], ◌∷◌, Option, Some, None, codes, pos}
use Rattle.pg_base.specs.declared.pos.Pos.{Pos}
use Rattle.pg_base.specs.declared.value.Value.{Value, Null, Int}
use Rattle.pg_base.specs.declared.vars.Vars.{Vars}
use Rattle.gql_input.specs.declared.argument.ArgValue.{ArgValue, Variable, Int as Written}
use Rattle.place_tree.specs.declared.place.Place.{Place}
use Rattle.place_tree.specs.declared.place.PlaceArg.{PlaceArg}
use Rattle.place_tree.specs.declared.place.Tree.{Tree}
use Rattle.place_tree.specs.Arguments.{first, offset}
use Rattle.place_tree.specs.Needs.{needed_statements, needed_under}
use Rattle.needs_examples.specs.Blog.{blog}

-- ---- parts of trees

abbrev at_start : Pos
at_start = record { line = 1; column = 1 }

abbrev place : Option ℕ → ℕ → ℕ → List PlaceArg → Place
place parent ty field args = record { parent = parent; key = []; ty = ty; field = field; args = args; pos = at_start }

abbrev tree : List Place → Tree
tree places = record { places = places; asked = [] }

abbrev given : ℕ → ArgValue → List PlaceArg
given at v = record { arg = at; value = v } ∷ []

abbrev two : ArgValue
two = Written (pos 2)

abbrev the_variable : ArgValue
the_variable = Variable (codes "n")

abbrev no_vars : Vars
no_vars = record { entries = [] }

abbrev n_is : Value → Vars
n_is v = record { entries = record { name = codes "n"; value = v } ∷ [] }

-- fields of Query

abbrev users : List PlaceArg → Place
users args = place None 0 0 args

abbrev posts : Place
posts = place None 0 1 []

abbrev user_by_key : Place
user_by_key = place None 0 2 []

-- fields below the place above: of a connection its rows and their number; of a user a column, the posts, a page of
-- them and the profile; of a post the author

abbrev nodes : ℕ → Place
nodes above = place (Some above) 4 0 []

abbrev total : ℕ → Place
total above = place (Some above) 4 1 []

abbrev name : ℕ → Place
name above = place (Some above) 1 0 []

abbrev posts_of : ℕ → Place
posts_of above = place (Some above) 1 1 []

abbrev page_of : ℕ → ArgValue → Place
page_of above v = place (Some above) 1 1 (given first v)

abbrev profile : ℕ → Place
profile above = place (Some above) 1 2 []

abbrev author : ℕ → Place
author above = place (Some above) 2 1 []

-- fields of Mutation, and of what it answers

abbrev user_made : Place
user_made = place None 5 0 []

abbrev the_user : ℕ → Place
the_user above = place (Some above) 6 0 []

-- ---- what they need

abbrev Needs : List Place → ℕ → Type 0
Needs places n = needed_statements blog no_vars (tree places) ≡ n

abbrev NeedsWith : Vars → List Place → ℕ → Type 0
NeedsWith vars places n = needed_statements blog vars (tree places) ≡ n

-- users, their names and posts: those by a windowed list of posts below
abbrev pages : ArgValue → List Place
pages v = users [] ∷ nodes 0 ∷ page_of 1 v ∷ total 2 ∷ []

pub record AreNeeded : Type 0 where
  -- nothing needs nothing
  pub none : Needs [] 0
  -- a root field needs one, whatever is asked of it
  pub rows : Needs (users [] ∷ nodes 0 ∷ name 1 ∷ []) 1
  pub number : Needs (users [] ∷ total 0 ∷ []) 1
  pub one_row : Needs (user_by_key ∷ name 0 ∷ []) 1
  -- two response keys of one field with the same arguments need one, with others two
  pub twice : Needs (users [] ∷ total 0 ∷ users [] ∷ nodes 2 ∷ []) 1
  pub twice_two : Needs (users (given first two) ∷ users (given first two) ∷ []) 1
  pub other_arguments : Needs (users [] ∷ users (given first two) ∷ []) 2
  pub other_place : Needs (users (given offset two) ∷ users (given first two) ∷ []) 2
  -- they are compared as they are written
  pub as_written : NeedsWith (n_is (Int (pos 2))) (users (given first two) ∷ users (given first the_variable) ∷ []) 2
  pub other_fields : Needs (users [] ∷ posts ∷ user_by_key ∷ []) 3
  -- what hangs on a row needs none of its own
  pub whole_list : Needs (users [] ∷ nodes 0 ∷ posts_of 1 ∷ nodes 2 ∷ []) 1
  pub single : Needs (users [] ∷ nodes 0 ∷ profile 1 ∷ []) 1
  pub forward : Needs (posts ∷ nodes 0 ∷ author 1 ∷ name 2 ∷ []) 1
  -- but a list of which a part is asked for
  pub page : Needs (pages two) 2
  pub page_by_variable : NeedsWith (n_is (Int (pos 2))) (pages the_variable) 2
  -- a variable that is absent or null asks for no part
  pub absent : Needs (pages the_variable) 1
  pub null : NeedsWith (n_is Null) (pages the_variable) 1
  -- a page below one field, under two response keys, needs one; below two fields two
  pub page_twice : Needs (users [] ∷ nodes 0 ∷ page_of 1 two ∷ users [] ∷ nodes 3 ∷ page_of 4 two ∷ []) 2
  pub two_pages : Needs (users [] ∷ nodes 0 ∷ page_of 1 two ∷ users (given first two) ∷ nodes 3 ∷ page_of 4 two ∷ []) 4
  pub page_of_page : Needs (users [] ∷ nodes 0 ∷ page_of 1 two ∷ nodes 2 ∷ author 3 ∷ page_of 4 two ∷ []) 3
  -- below a mutation field each row field needs its own, and those of two mutation fields are never one
  pub below_change : Needs (user_made ∷ the_user 0 ∷ posts_of 1 ∷ []) 1
  pub two_changes : Needs (user_made ∷ the_user 0 ∷ posts_of 1 ∷ user_made ∷ the_user 3 ∷ posts_of 4 ∷ []) 2
  pub of_second : needed_under blog no_vars
      (tree (user_made ∷ the_user 0 ∷ posts_of 1 ∷ user_made ∷ the_user 3 ∷ posts_of 4 ∷ [])) 3 ≡ 1
  pub change_alone : Needs (user_made ∷ []) 0
