-- Places as they are appended.
use Rattle.std.proofs.Common.{◌≡◌, ◌≤◌, ◌<◌, ℕ, zero, suc, ◌+◌, ◌-◌, List, [], ◌∷◌, length, length-append, get_or, drop, Option, Some, None, Result, Err, sym, ap, ◌∙◌, subst, arith, lit<}
use Rattle.std.specs.Borrow.{Bor}
use Rattle.pg_base.proofs.ListSteps.{drop-item}
use Rattle.gql_reader.specs.declared.tree.Selection.{Selection}
use Rattle.gql_reader.specs.declared.tree.Field.{Field}
use Rattle.pg_base.specs.declared.schema.FieldDef.{FieldDef}
use Rattle.pg_base.specs.Schema.{SchemaParts}
use Rattle.pg_base.specs.Schema.{field_at}
use Rattle.place_tree.specs.declared.place.Place.{Place}
use Rattle.place_tree.specs.declared.place.Tree.{Tree}
use Rattle.gql_collect.specs.declared.fault.CollectFault.{CollectFault}
use Rattle.gql_collect.specs.declared.fault.CollectFault.TheVariants.{TooMany, Memory}
use Rattle.gql_collect.specs.Collected.{Request, Met, applies_to, enter_at, collect_within, collected}
use Rattle.gql_collect.specs.Growing.{merged, keys_of, fields_with, number_of, place_of, with_place, below_place, by_number, with_group, with_keys, with_asked, with_fields, with_set}
use Rattle.gql_collect.specs.Kept.{fields_of, grown, IsMet, Grows}
use Rattle.gql_reader.specs.declared.tree.OperationKind.{OperationKind}
use Rattle.gql_collect.specs.Trees.{levels, root_of}
use Rattle.gql_collect.proofs.Collects.{each-append}

-- ---- merged selection sets, one after the other

pub merged_goes : (r : Request) (ty left : ℕ) (group : List (Bor Field)) (i : ℕ) (b : Bor Field) (lt : i < length group) (is : b ≡ get_or group i b) (sels : List Selection) (met after total : Met)
    → sels ≡ b.now.selections
    → collect_within left r ty (merged (fields_of (drop i group))) met ≡ total
    → after ≡ collect_within left r ty sels met
    → collect_within left r ty (merged (fields_of (drop (i + 1) group))) after ≡ total
merged_goes r ty left group i b lt is sels met after total set so_far made =
    let rest : List Selection = merged (fields_of (drop (i + 1) group)) in
    ap (collect_within left r ty rest) (made ∙ ap (λ (l : List Selection). collect_within left r ty l met) set)
    ∙ sym (each-append r.vars (applies_to r.schema ty) (enter_at left r ty) b.now.selections rest met)
    ∙ ap (λ (l : List (Bor Field)). collect_within left r ty (merged (fields_of l)) met) (sym (drop-item group i b lt is))
    ∙ so_far

-- ---- no set takes a place away

module _ (next : Option ℕ → ℕ → List Selection → Tree → Tree) (grows : (parent : Option ℕ) (ty : ℕ) (selections : List Selection) (tree : Tree) → length tree.places ≤ length (next parent ty selections tree).places) (schema : SchemaParts) (parent : Option ℕ) (ty : ℕ) where
  below_grows : (d : Option FieldDef) (i : ℕ) (selections : List Selection) (tree : Tree) → length tree.places ≤ length (below_place next d i selections tree).places
  below_grows None i selections tree = omega arith
  below_grows (Some d) i selections tree = grows (Some i) d.ty.name selections tree

  number_grows : (key : List ℕ) (f : Field) (selections : List Selection) (number : Option ℕ) (tree : Tree) → length tree.places ≤ length (by_number next schema parent ty key f selections number tree).places
  number_grows key f selections None tree = omega arith
  number_grows key f selections (Some n) tree =
      let p : Place = place_of schema parent ty key f n in
      let h = below_grows (field_at schema ty n) (length tree.places) selections (with_place p tree) in
      omega (arith, h, length-append tree.places (p ∷ []))

  pub group_grows : (key : List ℕ) (fields : List Field) (tree : Tree) → length tree.places ≤ length (with_group next schema parent ty key fields tree).places
  group_grows key [] tree = omega arith
  group_grows key (f ∷ fields) tree = number_grows key f (merged (f ∷ fields)) (number_of schema ty f.name) tree

  pub keys_grow : (fields : List Field) (keys : List (List ℕ)) (tree : Tree) → length tree.places ≤ length (with_keys next schema parent ty fields keys tree).places
  keys_grow fields [] tree = omega arith
  keys_grow fields (key ∷ keys) tree =
      let a = group_grows key (fields_with key fields) tree in
      let b = keys_grow fields keys (with_group next schema parent ty key (fields_with key fields) tree) in
      omega (arith, a, b)

pub set_grows : (n : ℕ) (r : Request) (parent : Option ℕ) (ty : ℕ) (selections : List Selection) (tree : Tree) → length tree.places ≤ length (with_set n r parent ty selections tree).places
unfolding with_set
set_grows zero r parent ty selections tree = omega arith
set_grows (suc n) r parent ty selections tree =
    let met : Met = collected r ty selections tree.asked in
    keys_grow (with_set n r) (set_grows n r) r.schema parent ty met.fields (keys_of met.fields) (with_asked met.asked tree)

-- ---- a place that is one too many

pub group_full : (r : Request) (n : ℕ) (parent : Option ℕ) (ty : ℕ) (key : List ℕ) (group : List (Bor Field)) (b : Bor Field) (number : ℕ) (tree : Tree)
    → 0 < length group → b ≡ get_or group 0 b → number_of r.schema ty b.now.name ≡ Some number → 2000 ≤ length tree.places
    → 2000 < length (with_group (with_set n r) r.schema parent ty key (fields_of group) tree).places
group_full r n parent ty key [] b number tree lt is found full = absurd (omega arith)
group_full r n parent ty key (x ∷ xs) b number tree lt is found full =
    let next : Option ℕ → ℕ → List Selection → Tree → Tree = with_set n r in
    let sels : List Selection = merged (fields_of (x ∷ xs)) in
    let e : number_of r.schema ty x.now.name ≡ Some number = ap (λ (y : Bor Field). number_of r.schema ty y.now.name) (sym is) ∙ found in
    let p : Place = place_of r.schema parent ty key x.now number in
    let h = below_grows next (set_grows n r) r.schema parent ty (field_at r.schema ty number) (length tree.places) sels (with_place p tree) in
    subst (λ (o : Option ℕ). 2000 < length (by_number next r.schema parent ty key x.now sels o tree).places) (sym e) (omega (arith, h, length-append tree.places (p ∷ [])))

-- ---- levels

module _ (r : Request) (parent : Option ℕ) (ty : ℕ) (selections : List Selection) where
  pub no_levels : (tree : Tree) (n : ℕ) → n ≡ 0 → length tree.places ≤ 2000 → (tree ≡ with_set n r parent ty selections tree) × (length (with_set n r parent ty selections tree).places ≤ 2000)
  unfolding with_set
  no_levels tree n e few =
      let same : with_set n r parent ty selections tree ≡ tree = ap (λ k. with_set k r parent ty selections tree) e in
      (sym same, subst (λ (t : Tree). length t.places ≤ 2000) (sym same) few)

  set_some : (n : ℕ) (tree : Tree) → 0 < n → with_set n r parent ty selections tree ≡ with_fields (with_set (n - 1) r) r.schema parent ty (collected r ty selections tree.asked) tree
  unfolding with_set
  set_some zero tree lt = absurd (omega arith)
  set_some (suc n) tree lt =
      let e : suc n - 1 ≡ n = omega arith in
      ap (λ k. with_fields (with_set k r) r.schema parent ty (collected r ty selections tree.asked) tree) (sym e)

  pub below_due : {A : Type 0} (places : List Place) (asked : List (List ℕ)) (n : ℕ) → 0 < n → (items slice : List (Bor Field)) (names : List (List ℕ)) (res : Result A CollectFault) (made : Tree)
      → IsMet (fields_of items) names (collected r ty selections asked) → slice ≡ items
      → Grows res made (with_keys (with_set (n - 1) r) r.schema parent ty (fields_of slice) (keys_of (fields_of slice)) (grown places names))
      → Grows res made (with_set n r parent ty selections (grown places asked))
  below_due places asked n lt items slice names res made met same h =
      let next : Option ℕ → ℕ → List Selection → Tree → Tree = with_set (n - 1) r in
      let due : (l : List Field) (a : List (List ℕ)) → Tree = λ l a. with_keys next r.schema parent ty l (keys_of l) (grown places a) in
      let e : due (fields_of slice) names ≡ with_set n r parent ty selections (grown places asked) =
      ap (λ (l : List (Bor Field)). due (fields_of l) names) same
      ∙ ap (λ (l : List Field). due l names) met.fields
      ∙ ap (due (collected r ty selections asked).fields) met.asked
      ∙ sym (set_some n (grown places asked) lt) in
      subst (λ (t : Tree). Grows res made t) e h

-- ---- a key at which it fails

fails_more : (A B : Type 0) (fault : CollectFault) (made other due total : Tree) → length due.places ≤ length total.places → Grows {A = A} (Err fault) made due → Grows {A = B} (Err fault) other total
fails_more A B TooMany made other due total le h = omega (arith, le, h)
fails_more A B Memory made other due total le h = tt

module _ (r : Request) (n : ℕ) (parent : Option ℕ) (ty : ℕ) (fields : List Field) (keys : List (List ℕ)) (i : ℕ) (key : List ℕ) (lt : i < length keys) (is : key ≡ get_or keys i key) where
  next_key : (tree total : Tree) (group : List Field) → group ≡ fields_with key fields
      → with_keys (with_set n r) r.schema parent ty fields (drop i keys) tree ≡ total
      → with_keys (with_set n r) r.schema parent ty fields (drop (i + 1) keys) (with_group (with_set n r) r.schema parent ty key group tree) ≡ total
  next_key tree total group same so_far =
      ap (λ (l : List Field). with_keys (with_set n r) r.schema parent ty fields (drop (i + 1) keys) (with_group (with_set n r) r.schema parent ty key l tree)) same
      ∙ ap (λ (l : List (List ℕ)). with_keys (with_set n r) r.schema parent ty fields l tree) (sym (drop-item keys i key lt is))
      ∙ so_far

  pub key_fails : (A B : Type 0) (group : List Field) (tree total made other : Tree) (fault : CollectFault) → group ≡ fields_with key fields
      → with_keys (with_set n r) r.schema parent ty fields (drop i keys) tree ≡ total
      → Grows {A = A} (Err fault) made (with_group (with_set n r) r.schema parent ty key group tree)
      → Grows {A = B} (Err fault) other total
  key_fails A B group tree total made other fault of so_far h =
      let due : Tree = with_group (with_set n r) r.schema parent ty key group tree in
      fails_more A B fault made other due total
      (subst (λ (t : Tree). length due.places ≤ length t.places) (next_key tree total group of so_far) (keys_grow (with_set n r) (set_grows n r) r.schema parent ty fields (drop (i + 1) keys) due)) h

-- ---- the root

pub root_due : {A : Type 0} (r : Request) (kind : OperationKind) (ty : ℕ) (selections set : List Selection) (places : List Place) (asked : List (List ℕ)) (items slice : List (Bor Field)) (names : List (List ℕ)) (res : Result A CollectFault) (made : Tree)
    → ty ≡ root_of r.schema kind → set ≡ selections
    → IsMet (fields_of items) names (collected r ty set asked) → slice ≡ items
    → Grows res made (with_keys (with_set 2000 r) r.schema None ty (fields_of slice) (keys_of (fields_of slice)) (grown places names))
    → Grows res made (with_set levels r None (root_of r.schema kind) selections (grown places asked))
root_due r kind ty selections set places asked items slice names res made root same met all h =
    subst (λ (l : List Selection). Grows res made (with_set levels r None (root_of r.schema kind) l (grown places asked))) same
    (subst (λ t. Grows res made (with_set levels r None t set (grown places asked))) root
    (below_due r None ty set places asked levels (lit< tt) items slice names res made met all h))
