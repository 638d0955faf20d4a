-- Where definitions stand in the list of nodes.
use Rattle.std.proofs.Common.{◌≡◌, ℕ, zero, suc, ◌+◌, Bool, true, false, List, [], ◌∷◌, ◌++◌, length, length-append, Some, None, refl, sym, ap, ◌∙◌, subst, append_assoc, append-nil, arith}
use Rattle.std.specs.Prelude.{slice_get, if◌then◌else◌}
use Rattle.std.specs.Str.{bytes_eq}
use Rattle.pg_base.specs.Lists.{Each}
use Rattle.pg_base.specs.Schema.{SchemaParts}
use Rattle.gql_reader.specs.declared.tree.Definition.{Definition}
use Rattle.gql_reader.specs.declared.tree.Definition.TheVariants as definition
use Rattle.gql_reader.specs.declared.tree.Document.{Document}
use Rattle.gql_reader.specs.declared.tree.FragmentDefinition.{FragmentDefinition}
use Rattle.gql_nodes.specs.Names.{with_taken, operation_name, fragment_name, is_repeated}
use Rattle.gql_nodes.specs.Nodes.{at_definition, At, put, put_parts, put_definition, put_definitions, nodes}
use Rattle.gql_nodes.specs.Sorts.{on_definition}
use Rattle.gql_nodes.specs.Uses.{as_fragment, is_named, place_from}
use Rattle.gql_validate.specs.FieldSelectionMerging.{is_fragment, fragment_from, fragment_node}
use Rattle.gql_collect.specs.Collected.{fragment_in}
use Rattle.fitting_trees.proofs.Named.{some_is, no_some}
use Rattle.fitting_trees.proofs.Growth.{IsPart, parts_grow, IsFront}

module _ (schema : SchemaParts) where
  record Extends (list made : List At) : Type 0 where
    pub added : List At
    pub is : made ≡ list ++ added

  front_of : (all a b : List At) → Extends a b → IsFront all b → IsFront all a
  front_of all a b x p = record { rest = x.added ++ p.rest; is = p.is ∙ ap (λ l. l ++ p.rest) x.is ∙ append_assoc a x.added p.rest }

  definition_extends : (within : ℕ) (repeated : Bool) (d : Definition) (list : List At) → Extends list (put_definition schema within repeated d list)
  definition_extends within repeated d list =
      let next : List At = put within (at_definition repeated d) list in
      let g = parts_grow schema within (length list) d next in
      record { added = (record { within = within; node = at_definition repeated d } ∷ []) ++ g.added; is = g.is ∙ append_assoc list (record { within = within; node = at_definition repeated d } ∷ []) g.added }

  definitions_extend : (within : ℕ) (operations fragments : List (List ℕ)) (ds : List Definition) (list : List At) → Extends list (put_definitions schema within operations fragments ds list)
  definitions_extend within operations fragments [] list = record { added = []; is = sym (append-nil list) }
  definitions_extend within operations fragments (d ∷ ds) list =
      let next : List At = put_definition schema within (is_repeated operations fragments d) d list in
      let first = definition_extends within (is_repeated operations fragments d) d list in
      let later = definitions_extend (within + 1) (with_taken operations (operation_name d)) (with_taken fragments (fragment_name d)) ds next in
      record { added = first.added ++ later.added; is = later.is ∙ ap (λ l. l ++ later.added) first.is ∙ append_assoc list first.added later.added }

  -- the definition stands there, and what it holds after it
  pub record IsDefinedAt (all : List At) (j : ℕ) (d : Definition) : Type 0 where
    pub list : List At
    pub repeated : Bool
    pub front : IsFront all (put_parts schema j (length list) d (put j (at_definition repeated d) list))

  defined_from : (all : List At) (within : ℕ) (operations fragments : List (List ℕ)) (ds : List Definition) (list : List At) (k : ℕ) (d : Definition) → slice_get ds k ≡ Some d
      → IsFront all (put_definitions schema within operations fragments ds list) → IsDefinedAt all (within + k) d
  defined_from all within operations fragments [] list k d e p = absurd (no_some d e)
  defined_from all within operations fragments (x ∷ ds) list zero d e p =
      let next : List At = put_definition schema within (is_repeated operations fragments x) x list in
      let front = front_of all next _ (definitions_extend (within + 1) (with_taken operations (operation_name x)) (with_taken fragments (fragment_name x)) ds next) p in
      let here : within ≡ within + 0 = omega arith in
      subst (λ j. IsDefinedAt all j d) here (subst (IsDefinedAt all within) (some_is x d e) (record { list = list; repeated = is_repeated operations fragments x; front = front }))
  defined_from all within operations fragments (x ∷ ds) list (suc k) d e p =
      let next : List At = put_definition schema within (is_repeated operations fragments x) x list in
      let on : within + 1 + k ≡ within + suc k = omega arith in
      subst (λ j. IsDefinedAt all j d) on (defined_from all (within + 1) (with_taken operations (operation_name x)) (with_taken fragments (fragment_name x)) ds next k d e p)

  pub defined_at : (document : Document) (k : ℕ) (d : Definition) → slice_get document.definitions k ≡ Some d → IsDefinedAt (nodes schema document) k d
  defined_at document k d e =
      let at : 0 + k ≡ k = omega arith in
      subst (λ j. IsDefinedAt (nodes schema document) j d) at (defined_from (nodes schema document) 0 [] [] document.definitions [] k d e (record { rest = []; is = sym (append-nil (nodes schema document)) }))

  -- ---- fragments by their names

  -- the list has no fragment of the name
  abbrev HasNone : List ℕ → List At → Type 0
  HasNone name list = (rest : List At) → fragment_from 0 (list ++ rest) name ≡ fragment_from (length list) rest name

  pass : (x : At) (place : ℕ) (rest : List At) (name : List ℕ) → on_definition (λ repeated d. is_fragment name d) x.node ≡ false → fragment_from place (x ∷ rest) name ≡ fragment_from (place + 1) rest name
  pass x place rest name e = ap (λ b. if b then Some place else fragment_from (place + 1) rest name) e

  parts_passed : (xs : List At) (place : ℕ) (rest : List At) (name : List ℕ) → Each IsPart xs → fragment_from place (xs ++ rest) name ≡ fragment_from (place + length xs) rest name
  parts_passed [] place rest name h = let e : place ≡ place + 0 = omega arith in ap (λ n. fragment_from n rest name) e
  parts_passed (x ∷ xs) place rest name h =
      let e : place + 1 + length xs ≡ place + suc (length xs) = omega arith in
      pass x place (xs ++ rest) name (h.0 name) ∙ parts_passed xs (place + 1) rest name h.1 ∙ ap (λ n. fragment_from n rest name) e

  none_more : (name : List ℕ) (within : ℕ) (repeated : Bool) (d : Definition) (list : List At) → is_fragment name d ≡ false → HasNone name list → HasNone name (put_definition schema within repeated d list)
  none_more name within repeated d list other h rest =
      let x : At = record { within = within; node = at_definition repeated d } in
      let next : List At = put within (at_definition repeated d) list in
      let g = parts_grow schema within (length list) d next in
      let long : length next ≡ length list + 1 = length-append list (x ∷ []) in
      let longer : length (next ++ g.added) ≡ length next + length g.added = length-append next g.added in
      let count : length list + 1 + length g.added ≡ length (next ++ g.added) = omega (arith, long, longer) in
      ap (λ l. fragment_from 0 (l ++ rest) name) g.is
      ∙ ap (λ l. fragment_from 0 l name) (append_assoc next g.added rest ∙ append_assoc list (x ∷ []) (g.added ++ rest))
      ∙ h (x ∷ (g.added ++ rest))
      ∙ pass x (length list) (g.added ++ rest) name other
      ∙ parts_passed g.added (length list + 1) rest name g.parts
      ∙ ap (λ n. fragment_from n rest name) count
      ∙ ap (λ l. fragment_from (length l) rest name) (sym g.is)

  -- the fragment of a name: where it stands in the document, and in the list of nodes
  pub record IsFragmentAt (all : List At) (start : ℕ) (ds : List Definition) (name : List ℕ) (f : FragmentDefinition) : Type 0 where
    pub k : ℕ
    pub stands : slice_get ds k ≡ Some (definition.Fragment f)
    pub placed : place_from start ds name ≡ Some (start + k)
    pub list : List At
    pub repeated : Bool
    pub front : IsFront all (put_parts schema (start + k) (length list) (definition.Fragment f) (put (start + k) (at_definition repeated (definition.Fragment f)) list))
    pub node : fragment_node all name ≡ Some (length list)

  found_next : (all : List At) (start : ℕ) (x : Definition) (ds : List Definition) (name : List ℕ) (f : FragmentDefinition) → is_named name (as_fragment x) ≡ false → IsFragmentAt all (start + 1) ds name f → IsFragmentAt all start (x ∷ ds) name f
  found_next all start x ds name f other h =
      let on : start + 1 + h.k ≡ start + suc h.k = omega arith in
      record {
        k = suc h.k;
        stands = h.stands;
        placed = ap (λ b. if b then Some start else place_from (start + 1) ds name) other ∙ h.placed ∙ ap (λ n. Some n) on;
        list = h.list;
        repeated = h.repeated;
        front = subst (λ j. IsFront all (put_parts schema j (length h.list) (definition.Fragment f) (put j (at_definition h.repeated (definition.Fragment f)) h.list))) on h.front;
        node = h.node;
      }

  found_here : (all : List At) (start : ℕ) (repeated : Bool) (f : FragmentDefinition) (ds : List Definition) (name : List ℕ) (list : List At) → bytes_eq f.name name ≡ true → HasNone name list
      → IsFront all (put_definition schema start repeated (definition.Fragment f) list) → IsFragmentAt all start (definition.Fragment f ∷ ds) name f
  found_here all start repeated f ds name list same none p =
      let x : At = record { within = start; node = at_definition repeated (definition.Fragment f) } in
      let next : List At = put start (at_definition repeated (definition.Fragment f)) list in
      let g = parts_grow schema start (length list) (definition.Fragment f) next in
      let here : start ≡ start + 0 = omega arith in
      record {
        k = zero;
        stands = refl;
        placed = ap (λ b. if b then Some start else place_from (start + 1) ds name) same ∙ ap (λ n. Some n) here;
        list = list;
        repeated = repeated;
        front = subst (λ j. IsFront all (put_parts schema j (length list) (definition.Fragment f) (put j (at_definition repeated (definition.Fragment f)) list))) here p;
        node =
            ap (λ l. fragment_from 0 l name) (p.is ∙ ap (λ l. l ++ p.rest) g.is ∙ append_assoc next g.added p.rest ∙ append_assoc list (x ∷ []) (g.added ++ p.rest))
            ∙ none (x ∷ (g.added ++ p.rest))
            ∙ ap (λ b. if b then Some (length list) else fragment_from (length list + 1) (g.added ++ p.rest) name) same;
      }

  fragment_by : (all : List At) (start : ℕ) (ds : List Definition) (name : List ℕ) (f g : FragmentDefinition) (b : Bool) → bytes_eq g.name name ≡ b → (if b then Some g else fragment_in ds name) ≡ Some f
      → (bytes_eq g.name name ≡ true → g ≡ f → IsFragmentAt all start (definition.Fragment g ∷ ds) name f) → (bytes_eq g.name name ≡ false → fragment_in ds name ≡ Some f → IsFragmentAt all (start + 1) ds name f)
      → IsFragmentAt all start (definition.Fragment g ∷ ds) name f
  fragment_by all start ds name f g true same e now later = now same (some_is g f e)
  fragment_by all start ds name f g false other e now later = found_next all start (definition.Fragment g) ds name f other (later other e)

  found_from : (all : List At) (start : ℕ) (operations fragments : List (List ℕ)) (ds : List Definition) (name : List ℕ) (f : FragmentDefinition) (list : List At) → fragment_in ds name ≡ Some f → HasNone name list
      → IsFront all (put_definitions schema start operations fragments ds list) → IsFragmentAt all start ds name f
  found_from all start operations fragments [] name f list e none p = absurd (no_some f e)
  found_from all start operations fragments (definition.Fragment g ∷ ds) name f list e none p =
      let repeated = is_repeated operations fragments (definition.Fragment g) in
      let next : List At = put_definition schema start repeated (definition.Fragment g) list in
      let front = front_of all next _ (definitions_extend (start + 1) (with_taken operations None) (with_taken fragments (Some g.name)) ds next) p in
      let later : bytes_eq g.name name ≡ false → fragment_in ds name ≡ Some f → IsFragmentAt all (start + 1) ds name f =
      λ other found. found_from all (start + 1) (with_taken operations None) (with_taken fragments (Some g.name)) ds name f next found (none_more name start repeated (definition.Fragment g) list other none) p in
      fragment_by all start ds name f g (bytes_eq g.name name) refl e
      (λ same is. subst (IsFragmentAt all start (definition.Fragment g ∷ ds) name) is (found_here all start repeated g ds name list same none front)) later
  found_from all start operations fragments (definition.Operation o ∷ ds) name f list e none p =
      let next : List At = put_definition schema start (is_repeated operations fragments (definition.Operation o)) (definition.Operation o) list in
      found_next all start (definition.Operation o) ds name f refl
      (found_from all (start + 1) (with_taken operations o.name) (with_taken fragments None) ds name f next e (none_more name start (is_repeated operations fragments (definition.Operation o)) (definition.Operation o) list refl none) p)
  found_from all start operations fragments (definition.Foreign at ∷ ds) name f list e none p =
      let next : List At = put_definition schema start (is_repeated operations fragments (definition.Foreign at)) (definition.Foreign at) list in
      found_next all start (definition.Foreign at) ds name f refl
      (found_from all (start + 1) (with_taken operations None) (with_taken fragments None) ds name f next e (none_more name start (is_repeated operations fragments (definition.Foreign at)) (definition.Foreign at) list refl none) p)

  pub fragment_found : (document : Document) (name : List ℕ) (f : FragmentDefinition) → fragment_in document.definitions name ≡ Some f → IsFragmentAt (nodes schema document) 0 document.definitions name f
  fragment_found document name f e =
      found_from (nodes schema document) 0 [] [] document.definitions name f [] e (λ rest. refl) (record { rest = []; is = sym (append-nil (nodes schema document)) })
