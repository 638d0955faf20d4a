-- The names of a table's keys and links.
use Rattle.std.proofs.Common.{◌≡◌, ℕ, Bool, ◌||◌, List, [], ◌∷◌, map, refl, ap, ◌∙◌}
use Rattle.std.specs.List.{list_any}
use Rattle.std.specs.Str.{bytes_eq}
use Rattle.std.proofs.lemmas.List.Folds.{list_any-append}
use Rattle.pg_base.specs.Catalog.{constraint_names}
use Rattle.pg_base.specs.declared.table_def.TableDef.{TableDef}
use Rattle.pg_base.specs.declared.table_def.KeyDef.{KeyDef}
use Rattle.pg_base.specs.declared.table_def.LinkDef.{LinkDef}
use Rattle.pg_catalog.specs.Names.{stands}

pub list_any-map : {A B : Type 0} (p : B → Bool) (f : A → B) (xs : List A) → list_any p (map f xs) ≡ list_any (λ x. p (f x)) xs
list_any-map p f [] = refl
list_any-map p f (x ∷ xs) = ap (λ b. p (f x) || b) (list_any-map p f xs)

pub stands_in_constraints : (t : TableDef) (name : List ℕ) → stands (constraint_names t) name ≡ (list_any (λ k. bytes_eq name k.name) t.keys || list_any (λ l. bytes_eq name l.name) t.links)
stands_in_constraints t name =
    list_any-append (bytes_eq name) (map (λ k. k.name) t.keys) (map (λ l. l.name) t.links)
    ∙ ap (λ b. b || list_any (bytes_eq name) (map (λ l. l.name) t.links)) (list_any-map (bytes_eq name) (λ (k : KeyDef). k.name) t.keys)
    ∙ ap (λ b. list_any (λ k. bytes_eq name k.name) t.keys || b) (list_any-map (bytes_eq name) (λ (l : LinkDef). l.name) t.links)
