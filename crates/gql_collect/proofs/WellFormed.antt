-- The tree that is collected is well formed.
use Rattle.std.proofs.Common.{◌≡◌, ◌≤◌, ◌<◌, ℕ, zero, suc, ◌+◌, List, [], ◌∷◌, ◌++◌, length, append_assoc, append-nil, Option, Some, None, refl, sym, ap, ◌∙◌, subst, arith, ◌⊎◌, inl, inr, Bool, true, false}
use Rattle.std.specs.Prelude.{slice_get, codes, if◌then◌else◌}
use Rattle.std.specs.Str.{bytes_eq}
use Rattle.pg_base.specs.Lists.{Each}
use Rattle.gql_reader.specs.declared.tree.Selection.{Selection}
use Rattle.gql_reader.specs.declared.tree.Field.{Field}
use Rattle.pg_base.specs.declared.schema.FieldDef.{FieldDef}
use Rattle.pg_base.specs.Schema.{SchemaParts}
use Rattle.pg_base.specs.Schema.{field_at}
use Rattle.place_tree.specs.Fields.{typename}
use Rattle.place_tree.specs.declared.place.Place.{Place}
use Rattle.place_tree.specs.declared.place.Tree.{Tree}
use Rattle.place_tree.specs.Typed.{StandsUnder, IsTree}
use Rattle.gql_collect.specs.Collected.{Request, Met, collected}
use Rattle.gql_collect.specs.Growing.{merged, keys_of, fields_with, number_of, place_of, with_place, below_place, by_number, with_group, with_keys, with_asked, with_set, place_from, place_in, fields_at}
use Rattle.gql_collect.specs.Trees.{empty}
use Rattle.gql_collect.specs.CollectLaws.{HasField, IsWellFormed}

-- ---- items stay where they are

get_more : {A : Type 0} (xs ys : List A) (k : ℕ) (x : A) → slice_get xs k ≡ Some x → slice_get (xs ++ ys) k ≡ Some x
get_more [] ys k x e = absurd (let z : None ≡ Some x = e in cc)
get_more (a ∷ xs) ys zero x e = e
get_more (a ∷ xs) ys (suc k) x e = get_more xs ys k x e

get_below : {A : Type 0} (xs : List A) (k : ℕ) (x : A) → slice_get xs k ≡ Some x → k < length xs
get_below [] k x e = absurd (let z : None ≡ Some x = e in cc)
get_below (a ∷ xs) zero x e = omega arith
get_below (a ∷ xs) (suc k) x e = let h = get_below xs k x e in omega (arith, h)

get_last : {A : Type 0} (xs : List A) (y : A) → slice_get (xs ++ y ∷ []) (length xs) ≡ Some y
get_last [] y = refl
get_last (a ∷ xs) y = get_last xs y

-- an item of a list with one more is an item of the list, or the new one
get_split : {A : Type 0} (xs : List A) (y : A) (k : ℕ) (x : A) → slice_get (xs ++ y ∷ []) k ≡ Some x → (slice_get xs k ≡ Some x) ⊎ ((k ≡ length xs) × (y ≡ x))
get_split [] y zero x e = inr (refl, cc)
get_split [] y (suc k) x e = absurd (let z : None ≡ Some x = e in cc)
get_split (a ∷ xs) y zero x e = inl e
get_split (a ∷ xs) y (suc k) x e = elim (get_split xs y k x e) [ inl h ↦ inl h | inr h ↦ inr (omega (arith, h.0), h.1) ]

module _ (schema : SchemaParts) (root : ℕ) where
  -- where fields of a type may stand
  pub record Leads (places : List Place) (above : ℕ) (ty : ℕ) : Type 0 where
    pub place : Place
    pub field : FieldDef
    pub is_place : slice_get places above ≡ Some place
    pub is_field : field_at schema place.ty place.field ≡ Some field
    pub is_type : ty ≡ field.ty.name

  abbrev MayStand : List Place → Option ℕ → ℕ → Type 0
  MayStand places None ty = ty ≡ root
  MayStand places (Some above) ty = Leads places above ty

  abbrev AllStand : List Place → Type 0
  AllStand places = (i : ℕ) (p : Place) → slice_get places i ≡ Some p → StandsUnder schema root places i p p.parent

  may_more : (places more : List Place) (parent : Option ℕ) (ty : ℕ) → MayStand places parent ty → MayStand (places ++ more) parent ty
  may_more places more None ty h = h
  may_more places more (Some above) ty h = record { place = h.place; field = h.field; is_place = get_more places more above h.place h.is_place; is_field = h.is_field; is_type = h.is_type }

  stands_more : (places more : List Place) (i : ℕ) (p : Place) (parent : Option ℕ) → StandsUnder schema root places i p parent → StandsUnder schema root (places ++ more) i p parent
  stands_more places more i p None h = h
  stands_more places more i p (Some above) h =
      record { earlier = h.earlier; place = h.place; field = h.field; is_place = get_more places more above h.place h.is_place; is_field = h.is_field; is_type = h.is_type }

  stands_new : (places more : List Place) (p : Place) (parent : Option ℕ) → MayStand places parent p.ty → StandsUnder schema root (places ++ more) (length places) p parent
  stands_new places more p None h = h
  stands_new places more p (Some above) h =
      record { earlier = get_below places above h.place h.is_place; place = h.place; field = h.field; is_place = get_more places more above h.place h.is_place; is_field = h.is_field; is_type = h.is_type }

  all_with : (places : List Place) (p : Place) → AllStand places → MayStand places p.parent p.ty → AllStand (places ++ p ∷ [])
  all_with places p all may i q e =
      elim (get_split places p i q e) as (λ _. StandsUnder schema root (places ++ p ∷ []) i q q.parent) [
        | inl h ↦ stands_more places (p ∷ []) i q q.parent (all i q h)
        | inr h ↦ subst (λ k. StandsUnder schema root (places ++ p ∷ []) k q q.parent) (sym h.0)
            (subst (λ (x : Place). StandsUnder schema root (places ++ p ∷ []) (length places) x x.parent) h.1 (stands_new places (p ∷ []) p p.parent may))
      ]

  -- ---- steps

  -- what a step makes of places that stand
  pub record Stands (before after : Tree) : Type 0 where
    pub more : List Place
    pub is : after.places ≡ before.places ++ more
    pub all : AllStand after.places

  stays : (tree : Tree) → AllStand tree.places → Stands tree tree
  stays tree all = record { more = []; is = sym (append-nil tree.places); all = all }

  both_stand : (a b c : Tree) → Stands a b → Stands b c → Stands a c
  both_stand a b c x y = record {
    more = x.more ++ y.more;
    is = y.is ∙ ap (λ (l : List Place). l ++ y.more) x.is ∙ append_assoc a.places x.more y.more;
    all = y.all;
  }

  may_after : (a b : Tree) (parent : Option ℕ) (ty : ℕ) → Stands a b → MayStand a.places parent ty → MayStand b.places parent ty
  may_after a b parent ty x may = subst (λ (l : List Place). MayStand l parent ty) (sym x.is) (may_more a.places x.more parent ty may)

  abbrev Step : (Option ℕ → ℕ → List Selection → Tree → Tree) → Type 0
  Step next = (parent : Option ℕ) (ty : ℕ) (selections : List Selection) (tree : Tree) → AllStand tree.places → MayStand tree.places parent ty → Stands tree (next parent ty selections tree)

  module _ (next : Option ℕ → ℕ → List Selection → Tree → Tree) (step : Step next) (parent : Option ℕ) (ty : ℕ) where
    below_stands : (key : List ℕ) (f : Field) (n : ℕ) (selections : List Selection) (tree : Tree) → AllStand tree.places → MayStand tree.places parent ty → (d : Option FieldDef) → field_at schema ty n ≡ d
        → Stands tree (below_place next d (length tree.places) selections (with_place (place_of schema parent ty key f n) tree))
    below_stands key f n selections tree all may None is =
        let p : Place = place_of schema parent ty key f n in
        record { more = p ∷ []; is = refl; all = all_with tree.places p all may }
    below_stands key f n selections tree all may (Some d) is =
        let p : Place = place_of schema parent ty key f n in
        let placed : Stands tree (with_place p tree) = record { more = p ∷ []; is = refl; all = all_with tree.places p all may } in
        both_stand tree (with_place p tree) _ placed
        (step (Some (length tree.places)) d.ty.name selections (with_place p tree) placed.all
        (record { place = p; field = d; is_place = get_last tree.places p; is_field = is; is_type = refl }))

    number_stands : (key : List ℕ) (f : Field) (selections : List Selection) (number : Option ℕ) (tree : Tree) → AllStand tree.places → MayStand tree.places parent ty → Stands tree (by_number next schema parent ty key f selections number tree)
    number_stands key f selections None tree all may = stays tree all
    number_stands key f selections (Some n) tree all may = below_stands key f n selections tree all may (field_at schema ty n) refl

    group_stands : (key : List ℕ) (fields : List Field) (tree : Tree) → AllStand tree.places → MayStand tree.places parent ty → Stands tree (with_group next schema parent ty key fields tree)
    group_stands key [] tree all may = stays tree all
    group_stands key (f ∷ fields) tree all may = number_stands key f (merged (f ∷ fields)) (number_of schema ty f.name) tree all may

    keys_stand : (fields : List Field) (keys : List (List ℕ)) (tree : Tree) → AllStand tree.places → MayStand tree.places parent ty → Stands tree (with_keys next schema parent ty fields keys tree)
    keys_stand fields [] tree all may = stays tree all
    keys_stand fields (key ∷ keys) tree all may =
        let group : Tree = with_group next schema parent ty key (fields_with key fields) tree in
        let here : Stands tree group = group_stands key (fields_with key fields) tree all may in
        both_stand tree group _ here (keys_stand fields keys group here.all (may_after tree group parent ty here may))

pub set_stands : (r : Request) (root n : ℕ) → Step r.schema root (with_set n r)
unfolding with_set
set_stands r root zero parent ty selections tree all may = stays r.schema root tree all
set_stands r root (suc n) parent ty selections tree all may =
    let met : Met = collected r ty selections tree.asked in
    let h = keys_stand r.schema root (with_set n r) (set_stands r root n) parent ty met.fields (keys_of met.fields) (with_asked met.asked tree) all may in
    record { more = h.more; is = h.is; all = h.all }

-- a tree that is grown from nothing
pub grown_is_tree : (r : Request) (root n : ℕ) (selections : List Selection) (asked : List (List ℕ)) → length (with_set n r None root selections (record { places = []; asked = asked })).places ≤ 2000
    → IsTree r.schema root (with_set n r None root selections (record { places = []; asked = asked })).places
grown_is_tree r root n selections asked few =
    let nothing : Tree = record { places = []; asked = asked } in
    record { under = (set_stands r root n None root selections nothing (λ i p e. absurd (let z : None ≡ Some p = e in cc)) refl).all; few = few }

-- ---- fields

place_found : (i : ℕ) (fields : List FieldDef) (name : List ℕ) (n : ℕ) → place_from i fields name ≡ Some n → (k : ℕ) × (n ≡ i + k) × ((f : FieldDef) × (slice_get fields k ≡ Some f))
place_found i [] name n e = absurd (let z : None ≡ Some n = e in cc)
place_found i (f ∷ fields) name n e = by (bytes_eq f.name name) e (place_found (i + 1) fields name n)
  where
    by : (b : Bool) → (if b then Some i else place_from (i + 1) fields name) ≡ Some n → (place_from (i + 1) fields name ≡ Some n → (k : ℕ) × (n ≡ i + 1 + k) × ((g : FieldDef) × (slice_get fields k ≡ Some g))) → (k : ℕ) × (n ≡ i + k) × ((g : FieldDef) × (slice_get (f ∷ fields) k ≡ Some g))
    by true h later = let same : i ≡ n = cc in (zero, (omega arith), (f, refl))
    by false h later = let m = later h in let at = m.1 in (suc m.0, (omega (arith, at)), m.2)

number_known : (schema : SchemaParts) (ty : ℕ) (name : List ℕ) (n : ℕ) → number_of schema ty name ≡ Some n → (n ≡ typename) ⊎ ((f : FieldDef) × (field_at schema ty n ≡ Some f))
number_known schema ty name n e = by (bytes_eq name (codes "__typename")) e
  where
    by : (b : Bool) → (if b then Some typename else place_in (fields_at schema ty) name) ≡ Some n → (n ≡ typename) ⊎ ((f : FieldDef) × (field_at schema ty n ≡ Some f))
    by true h = inl (let same : typename ≡ n = cc in sym same)
    by false h =
        let m = place_found 0 (fields_at schema ty) name n h in
        let at = m.1 in
        let same : m.0 ≡ n = omega (arith, at) in
        inr (m.2.0, ap (slice_get (fields_at schema ty)) (sym same) ∙ m.2.1)

Each-more : {A : Type 0} (P : A → Type 0) (xs : List A) (y : A) → Each P xs → P y → Each P (xs ++ y ∷ [])
Each-more P [] y h k = (k, tt)
Each-more P (x ∷ xs) y h k = (h.0, Each-more P xs y h.1 k)

module _ (schema : SchemaParts) where
  abbrev Known : Tree → Type 0
  Known tree = Each (HasField schema) tree.places

  module _ (next : Option ℕ → ℕ → List Selection → Tree → Tree) (step : (parent : Option ℕ) (ty : ℕ) (selections : List Selection) (tree : Tree) → Known tree → Known (next parent ty selections tree)) (parent : Option ℕ) (ty : ℕ) where
    below_known : (d : Option FieldDef) (i : ℕ) (selections : List Selection) (tree : Tree) → Known tree → Known (below_place next d i selections tree)
    below_known None i selections tree h = h
    below_known (Some d) i selections tree h = step (Some i) d.ty.name selections tree h

    by_known : (key : List ℕ) (f : Field) (selections : List Selection) (number : Option ℕ) (tree : Tree) → ((n : ℕ) → number ≡ Some n → (n ≡ typename) ⊎ ((f : FieldDef) × (field_at schema ty n ≡ Some f))) → Known tree → Known (by_number next schema parent ty key f selections number tree)
    by_known key f selections None tree ok h = h
    by_known key f selections (Some n) tree ok h =
        below_known (field_at schema ty n) (length tree.places) selections (with_place (place_of schema parent ty key f n) tree) (Each-more (HasField schema) tree.places (place_of schema parent ty key f n) h (ok n refl))

    group_known : (key : List ℕ) (fields : List Field) (tree : Tree) → Known tree → Known (with_group next schema parent ty key fields tree)
    group_known key [] tree h = h
    group_known key (f ∷ fields) tree h = by_known key f (merged (f ∷ fields)) (number_of schema ty f.name) tree (λ n e. number_known schema ty f.name n e) h

    keys_known : (fields : List Field) (keys : List (List ℕ)) (tree : Tree) → Known tree → Known (with_keys next schema parent ty fields keys tree)
    keys_known fields [] tree h = h
    keys_known fields (key ∷ keys) tree h = keys_known fields keys (with_group next schema parent ty key (fields_with key fields) tree) (group_known key (fields_with key fields) tree h)

set_known : (r : Request) (n : ℕ) (parent : Option ℕ) (ty : ℕ) (selections : List Selection) (tree : Tree) → Known r.schema tree → Known r.schema (with_set n r parent ty selections tree)
unfolding with_set
set_known r zero parent ty selections tree h = h
set_known r (suc n) parent ty selections tree h =
    let met : Met = collected r ty selections tree.asked in
    keys_known r.schema (with_set n r) (set_known r n) parent ty met.fields (keys_of met.fields) (with_asked met.asked tree) h

pub well_formed : (r : Request) (root n : ℕ) (selections : List Selection) → length (with_set n r None root selections empty).places ≤ 2000 → IsWellFormed r.schema root (with_set n r None root selections empty).places
well_formed r root n selections few = record { tree = grown_is_tree r root n selections [] few; fields = set_known r n None root selections empty tt }
