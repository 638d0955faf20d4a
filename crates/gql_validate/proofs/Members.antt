-- The tables that are made a node after the other hold what stands in each set.
use Rattle.std.proofs.Common.{◌≡◌, ◌≢◌, ◌⊎◌, inl, inr, ℕ, zero, suc, ◌+◌, ◌<◌, ◌≤◌, Bool, true, false, if◌then◌else◌, List, [], ◌∷◌, ◌++◌, Option, Some, None, length, get_or, refl, sym, ap, subst, ◌∙◌, append_assoc, arith}
use Rattle.std.specs.Prelude.{◌==◌, nat_lt, slice_get, slice_set, unwrap_or}
use Rattle.std.proofs.lemmas.Bool.Decides.{eqb_tells, leb_tells, Decides-ltb}
use Rattle.std.proofs.lemmas.List.{append-nil, length-set, get_or-set_same, get_or-set_other}
use Rattle.std.proofs.lemmas.Option.{unwrap_or-slice_get, slice_get_past, slice_get_within}
use Rattle.gql_nodes.specs.declared.node.At as code_at
use Rattle.gql_nodes.specs.Nodes.{Node, at_definition, at_variable, at_field, at_spread, at_inline, at_directive, at_argument, at_value, at_object_field, At}
use Rattle.gql_nodes.specs.Listed.{views}
use Rattle.gql_nodes.proofs.Listing.{views_length}
use Rattle.gql_nodes.proofs.Closures.{past}
use Rattle.gql_validate.specs.declared.tables.Tables.{Tables}
use Rattle.gql_validate.specs.FieldSelectionMerging.{these, fragment_node, field_in, set_in, fields_from, sets_from}
use Rattle.gql_validate.specs.Merged.{list_at, put_at, with_member, owned_field, put_owned, put_target, put_set, put_fields, put_sets, empty_lists, AreTables}

abbrev Tells : ℕ → ℕ → Type 0
Tells owner place = (((owner == place) ≡ true) × (owner ≡ place)) ⊎ (((owner == place) ≡ false) × (owner ≢ place))

nothing_more : (xs : List ℕ) → xs ≡ xs ++ []
nothing_more xs = sym (append-nil xs)

at_is : (lists : List (List ℕ)) (place : ℕ) → list_at lists place ≡ get_or lists place []
at_is lists place = unwrap_or-slice_get lists place []

-- ---- one member more

member_by : (lists : List (List ℕ)) (owner member place : ℕ) (o : Option (List ℕ)) → place < length lists → slice_get lists owner ≡ o → Tells owner place
    → list_at (put_at lists owner o member) place ≡ list_at lists place ++ (if owner == place then member ∷ [] else [])
member_by lists owner member place None lt e (inl t) =
    let le : length lists ≤ owner = past lists owner e in
    let same : owner ≡ place = t.1 in
    absurd (omega arith)
member_by lists owner member place None lt e (inr t) = nothing_more (list_at lists place) ∙ ap (λ b. list_at lists place ++ (if b then member ∷ [] else [])) (sym t.0)
member_by lists owner member place (Some l) lt e (inl t) =
    let put = l ++ member ∷ [] in
    let within : owner < length lists = slice_get_within lists owner l e in
    let held : list_at lists place ≡ l = ap (list_at lists) (sym t.1) ∙ ap (λ o. unwrap_or o []) e in
    ap (list_at (slice_set lists owner put)) (sym t.1) ∙ at_is (slice_set lists owner put) owner ∙ get_or-set_same lists owner put [] within
    ∙ ap (λ l. l ++ member ∷ []) (sym held)
    ∙ ap (λ b. list_at lists place ++ (if b then member ∷ [] else [])) (sym t.0)
member_by lists owner member place (Some l) lt e (inr t) =
    let put = l ++ member ∷ [] in
    let apart : place ≢ owner = λ same. t.1 (sym same) in
    at_is (slice_set lists owner put) place ∙ get_or-set_other lists owner place put [] apart ∙ sym (at_is lists place)
    ∙ nothing_more (list_at lists place) ∙ ap (λ b. list_at lists place ++ (if b then member ∷ [] else [])) (sym t.0)

one_member : (lists : List (List ℕ)) (owner member place : ℕ) → place < length lists → list_at (with_member lists owner member) place ≡ list_at lists place ++ (if owner == place then member ∷ [] else [])
one_member lists owner member place lt = member_by lists owner member place (slice_get lists owner) lt refl (eqb_tells owner place)

length_by : (lists : List (List ℕ)) (owner member : ℕ) (o : Option (List ℕ)) → length (put_at lists owner o member) ≡ length lists
length_by lists owner member None = refl
length_by lists owner member (Some l) = length-set lists owner (l ++ member ∷ [])

one_length : (lists : List (List ℕ)) (owner member : ℕ) → length (with_member lists owner member) ≡ length lists
one_length lists owner member = length_by lists owner member (slice_get lists owner)

-- ---- one node more

owned : (lists : List (List ℕ)) (member : ℕ) (x : Node) (place : ℕ) → place < length lists → list_at (put_owned lists (owned_field x) member) place ≡ list_at lists place ++ field_in place member x
owned lists member (at_definition repeated d) place lt = nothing_more (list_at lists place)
owned lists member (at_variable repeated v) place lt = nothing_more (list_at lists place)
owned lists member (at_field owner parent known f) place lt = one_member lists owner member place lt
owned lists member (at_spread owner parent s) place lt = nothing_more (list_at lists place)
owned lists member (at_inline owner parent i) place lt = nothing_more (list_at lists place)
owned lists member (at_directive repeated at defs d) place lt = nothing_more (list_at lists place)
owned lists member (at_argument repeated defs a) place lt = nothing_more (list_at lists place)
owned lists member (at_value ty kind pos) place lt = nothing_more (list_at lists place)
owned lists member (at_object_field repeated defs name pos) place lt = nothing_more (list_at lists place)

owned_length : (lists : List (List ℕ)) (member : ℕ) (x : Node) → length (put_owned lists (owned_field x) member) ≡ length lists
owned_length lists member (at_definition repeated d) = refl
owned_length lists member (at_variable repeated v) = refl
owned_length lists member (at_field owner parent known f) = one_length lists owner member
owned_length lists member (at_spread owner parent s) = refl
owned_length lists member (at_inline owner parent i) = refl
owned_length lists member (at_directive repeated at defs d) = refl
owned_length lists member (at_argument repeated defs a) = refl
owned_length lists member (at_value ty kind pos) = refl
owned_length lists member (at_object_field repeated defs name pos) = refl

no_either : (b : Bool) → [] ≡ (if b then these None else [])
no_either true = refl
no_either false = refl

target : (lists : List (List ℕ)) (owner : ℕ) (t : Option ℕ) (place : ℕ) → place < length lists → list_at (put_target lists owner t) place ≡ list_at lists place ++ (if owner == place then these t else [])
target lists owner None place lt = nothing_more (list_at lists place) ∙ ap (λ l. list_at lists place ++ l) (no_either (owner == place))
target lists owner (Some t) place lt = one_member lists owner t place lt

target_length : (lists : List (List ℕ)) (owner : ℕ) (t : Option ℕ) → length (put_target lists owner t) ≡ length lists
target_length lists owner None = refl
target_length lists owner (Some t) = one_length lists owner t

module _ (nodes : List At) where
  entered : (lists : List (List ℕ)) (member : ℕ) (x : Node) (place : ℕ) → place < length lists → list_at (put_set nodes lists member x) place ≡ list_at lists place ++ set_in nodes place member x
  entered lists member (at_definition repeated d) place lt = nothing_more (list_at lists place)
  entered lists member (at_variable repeated v) place lt = nothing_more (list_at lists place)
  entered lists member (at_field owner parent known f) place lt = nothing_more (list_at lists place)
  entered lists member (at_spread owner parent s) place lt = target lists owner (fragment_node nodes s.name) place lt
  entered lists member (at_inline owner parent i) place lt = one_member lists owner member place lt
  entered lists member (at_directive repeated at defs d) place lt = nothing_more (list_at lists place)
  entered lists member (at_argument repeated defs a) place lt = nothing_more (list_at lists place)
  entered lists member (at_value ty kind pos) place lt = nothing_more (list_at lists place)
  entered lists member (at_object_field repeated defs name pos) place lt = nothing_more (list_at lists place)

  entered_length : (lists : List (List ℕ)) (member : ℕ) (x : Node) → length (put_set nodes lists member x) ≡ length lists
  entered_length lists member (at_definition repeated d) = refl
  entered_length lists member (at_variable repeated v) = refl
  entered_length lists member (at_field owner parent known f) = refl
  entered_length lists member (at_spread owner parent s) = target_length lists owner (fragment_node nodes s.name)
  entered_length lists member (at_inline owner parent i) = one_length lists owner member
  entered_length lists member (at_directive repeated at defs d) = refl
  entered_length lists member (at_argument repeated defs a) = refl
  entered_length lists member (at_value ty kind pos) = refl
  entered_length lists member (at_object_field repeated defs name pos) = refl

  -- ---- all nodes

  all_fields : (lists : List (List ℕ)) (member : ℕ) (rest : List At) (place : ℕ) → place < length lists → list_at (put_fields lists member rest) place ≡ list_at lists place ++ fields_from member rest place
  all_fields lists member [] place lt = nothing_more (list_at lists place)
  all_fields lists member (x ∷ rest) place lt =
      all_fields (put_owned lists (owned_field x.node) member) (member + 1) rest place (subst (λ n. place < n) (sym (owned_length lists member x.node)) lt)
      ∙ ap (λ l. l ++ fields_from (member + 1) rest place) (owned lists member x.node place lt)
      ∙ append_assoc (list_at lists place) (field_in place member x.node) (fields_from (member + 1) rest place)

  fields_length : (lists : List (List ℕ)) (member : ℕ) (rest : List At) → length (put_fields lists member rest) ≡ length lists
  fields_length lists member [] = refl
  fields_length lists member (x ∷ rest) = fields_length (put_owned lists (owned_field x.node) member) (member + 1) rest ∙ owned_length lists member x.node

  all_sets : (lists : List (List ℕ)) (member : ℕ) (rest : List At) (place : ℕ) → place < length lists → list_at (put_sets nodes lists member rest) place ≡ list_at lists place ++ sets_from nodes member rest place
  all_sets lists member [] place lt = nothing_more (list_at lists place)
  all_sets lists member (x ∷ rest) place lt =
      all_sets (put_set nodes lists member x.node) (member + 1) rest place (subst (λ n. place < n) (sym (entered_length lists member x.node)) lt)
      ∙ ap (λ l. l ++ sets_from nodes (member + 1) rest place) (entered lists member x.node place lt)
      ∙ append_assoc (list_at lists place) (set_in nodes place member x.node) (sets_from nodes (member + 1) rest place)

  sets_length : (lists : List (List ℕ)) (member : ℕ) (rest : List At) → length (put_sets nodes lists member rest) ≡ length lists
  sets_length lists member [] = refl
  sets_length lists member (x ∷ rest) = sets_length (put_set nodes lists member x.node) (member + 1) rest ∙ entered_length lists member x.node

-- ---- from empty lists

empty_at : {A : Type 0} (xs : List A) (place : ℕ) → list_at (empty_lists xs) place ≡ []
empty_at [] place = refl
empty_at (x ∷ xs) zero = refl
empty_at (x ∷ xs) (suc place) = empty_at xs place

empty_length : {A : Type 0} (xs : List A) → length (empty_lists xs) ≡ length xs
empty_length [] = refl
empty_length (x ∷ xs) = ap suc (empty_length xs)

past_end : (lists : List (List ℕ)) (place : ℕ) → length lists ≤ place → list_at lists place ≡ []
past_end lists place le = ap (λ o. unwrap_or o []) (slice_get_past lists place le)

-- a table over n sets, whose lists start empty
table_by : (lists : List (List ℕ)) (n place : ℕ) (due : List ℕ) (b : Bool) → nat_lt place n ≡ b → length lists ≡ n → (place < n → list_at lists place ≡ due) → list_at lists place ≡ (if b then due else [])
table_by lists n place due true e len go = go ((Decides-ltb place n).0 e)
table_by lists n place due false e len go =
    let short : place < n → ⊥ = λ lt. (let yes : nat_lt place n ≡ true = (Decides-ltb place n).1 lt in absurd (let both : true ≡ false = sym yes ∙ e in cc)) in
    past_end lists place (beyond len short)
  where
    beyond : length lists ≡ n → (place < n → ⊥) → length lists ≤ place
    beyond len short = elim (leb_tells n place) [ inl a ↦ (let le : n ≤ place = a.1 in omega arith) | inr b ↦ absurd (short b.1) ]

pub tables : (nodes : List code_at.At) (t : Tables) → t.fields ≡ put_fields (empty_lists nodes) 0 (views nodes) → t.sets ≡ put_sets (views nodes) (empty_lists nodes) 0 (views nodes) → AreTables (views nodes) t
tables nodes t fields_is sets_is =
    let start = empty_lists nodes in
    let seen = views nodes in
    let len : length start ≡ length seen = empty_length nodes ∙ sym (views_length nodes) in
    record {
      fields = λ place. ap (λ l. list_at l place) fields_is ∙ table_by (put_fields start 0 seen) (length seen) place (fields_from 0 seen place) (nat_lt place (length seen)) refl (fields_length seen start 0 seen ∙ len)
          (λ lt. all_fields seen start 0 seen place (subst (λ n. place < n) (sym len) lt) ∙ ap (λ l. l ++ fields_from 0 seen place) (empty_at nodes place));
      sets = λ place. ap (λ l. list_at l place) sets_is ∙ table_by (put_sets seen start 0 seen) (length seen) place (sets_from seen 0 seen place) (nat_lt place (length seen)) refl (sets_length seen start 0 seen ∙ len)
          (λ lt. all_sets seen start 0 seen place (subst (λ n. place < n) (sym len) lt) ∙ ap (λ l. l ++ sets_from seen 0 seen place) (empty_at nodes place));
    }
