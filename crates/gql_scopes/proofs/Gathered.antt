-- What is gathered from nodes, one node after the other.
use Rattle.std.proofs.Common.{◌≡◌, inl, inr, ℕ, zero, suc, ◌+◌, ◌<◌, ◌≤◌, Bool, true, false, ◌&&◌, ◌||◌, ◌==◌, cond, List, [], ◌∷◌, ◌++◌, Option, Some, None, length, get_or, take, drop, map, refl, sym, ap, subst, ◌∙◌, arith, append_assoc, add-one, true≢false}
use Rattle.std.specs.Prelude.{slice_get, unwrap_or, filter, filter_map, find, option_map, option_and_then, if◌then◌else◌}
use Rattle.std.specs.List.{list_any, cons_option}
use Rattle.std.specs.Str.{bytes_eq}
use Rattle.std.proofs.lemmas.Slice.Eq.{bytes_eq-Decides}
use Rattle.pg_base.proofs.ListSteps.{drop-item, take_item}
use Rattle.pg_base.specs.Lists.{Each}
use Rattle.gql_reader.specs.declared.tree.Definition.{Definition}
use Rattle.gql_reader.specs.declared.tree.Document.{Document}
use Rattle.gql_reader.specs.declared.tree.OperationDefinition.{OperationDefinition}
use Rattle.gql_reader.specs.declared.tree.VariableDefinition.{VariableDefinition}
use Rattle.gql_nodes.specs.declared.node.At as code_at
use Rattle.gql_nodes.specs.Listed.{at_view, views}
use Rattle.gql_nodes.specs.Names.{is_among, with_name, place_in, first_of, when_named}
use Rattle.gql_nodes.specs.Nodes.{At, Node}
use Rattle.gql_nodes.specs.Reached.{IsIn, starts, goes_on, ReachedBy, IsClosure}
use Rattle.gql_nodes.specs.Uses.{fragment_place, as_fragment, is_named, place_from, as_operation, spread_name, spread_names, used_name, used_names, nodes_within, targets}
use Rattle.gql_nodes.proofs.Closures.{before_or_at, some_same}
use Rattle.gql_scopes.specs.Conditions.{if_some}
use Rattle.gql_scopes.specs.Ranks.{HasNoCycle}
use Rattle.gql_scopes.specs.Tables.{row, is_marked, is_variable, declares, target_of, targets_in, variable_from, TellsVariables}

-- ---- booleans

or_assoc : (a b c : Bool) → ((a || b) || c) ≡ (a || (b || c))
or_assoc true b c = refl
or_assoc false b c = refl

or_false : (a : Bool) → (a || false) ≡ a
or_false true = refl
or_false false = refl

-- ---- names

any_append : {A : Type 0} (test : A → Bool) (xs : List A) (x : A) → list_any test (xs ++ x ∷ []) ≡ (list_any test xs || test x)
any_append test [] x = or_false (test x)
any_append test (y ∷ ys) x = ap (λ b. test y || b) (any_append test ys x) ∙ sym (or_assoc (test y) (list_any test ys) (test x))

bytes_same : (s t : List ℕ) → bytes_eq s t ≡ true → s ≡ t
bytes_same s t h = (bytes_eq-Decides s t).0 h

among_same : (names : List (List ℕ)) (m n : List ℕ) → n ≡ m → is_among n names ≡ is_among m names
among_same names m n e = ap (λ k. is_among k names) e

with_by : (b : Bool) (names : List (List ℕ)) (m n : List ℕ) → is_among m names ≡ b → (c : Bool) → bytes_eq n m ≡ c
    → is_among n (if b then names else names ++ m ∷ []) ≡ (is_among n names || c)
with_by false names m n e c k = any_append (bytes_eq n) names m ∙ ap (λ d. is_among n names || d) k
with_by true names m n e false k = sym (or_false (is_among n names))
with_by true names m n e true k = let is : is_among n names ≡ true = among_same names m n (bytes_same n m k) ∙ e in is ∙ sym (ap (λ d. d || true) is)

-- a name is among some and one more
pub among_with : (names : List (List ℕ)) (m n : List ℕ) → is_among n (with_name names m) ≡ (is_among n names || bytes_eq n m)
among_with names m n = with_by (is_among m names) names m n refl (bytes_eq n m) refl

-- ---- names of spreads

among_cons : (n : List ℕ) (o : Option (List ℕ)) (rest : List (List ℕ)) → is_among n (cons_option o rest) ≡ (if_some (bytes_eq n) o || is_among n rest)
among_cons n None rest = refl
among_cons n (Some m) rest = refl

module _ (nodes : List code_at.At) (i : ℕ) (x : code_at.At) (lt : i < length nodes) (is : x ≡ get_or nodes i x) where
  views_step : views (drop i nodes) ≡ at_view x ∷ views (drop (i + 1) nodes)
  views_step = ap views (drop-item nodes i x lt is)

  spreads_step : (n : List ℕ) → is_among n (spread_names (views (drop i nodes)))
      ≡ (if_some (bytes_eq n) (spread_name (at_view x).node) || is_among n (spread_names (views (drop (i + 1) nodes))))
  spreads_step n = ap (λ l. is_among n (spread_names l)) views_step ∙ among_cons n (spread_name (at_view x).node) (spread_names (views (drop (i + 1) nodes)))

  pub spread_skipped : (names : List (List ℕ)) (n : List ℕ) (due : Bool) → None ≡ spread_name (at_view x).node
      → (is_among n names || is_among n (spread_names (views (drop i nodes)))) ≡ due → (is_among n names || is_among n (spread_names (views (drop (i + 1) nodes)))) ≡ due
  spread_skipped names n due none before =
      sym (ap (λ b. is_among n names || b) (spreads_step n ∙ ap (λ o. if_some (bytes_eq n) o || is_among n (spread_names (views (drop (i + 1) nodes)))) (sym none))) ∙ before

  pub spread_put : (names new : List (List ℕ)) (m n : List ℕ) (due : Bool) → Some m ≡ spread_name (at_view x).node → new ≡ with_name names m
      → (is_among n names || is_among n (spread_names (views (drop i nodes)))) ≡ due → (is_among n new || is_among n (spread_names (views (drop (i + 1) nodes)))) ≡ due
  spread_put names new m n due some grown before =
      let rest = is_among n (spread_names (views (drop (i + 1) nodes))) in
      ap (λ l. is_among n l || rest) grown
      ∙ ap (λ b. b || rest) (among_with names m n)
      ∙ or_assoc (is_among n names) (bytes_eq n m) rest
      ∙ ap (λ o. is_among n names || (if_some (bytes_eq n) o || rest)) some
      ∙ sym (ap (λ b. is_among n names || b) (spreads_step n))
      ∙ before

  -- ---- names of variables, row by row

  within_cons : (b : Bool) (p : ℕ) (y : Node) (rest : List Node) → cond b (y ∷ rest) rest ≡ (if b then y ∷ rest else rest)
  within_cons true p y rest = refl
  within_cons false p y rest = refl

  used_by : (b : Bool) (l : List At) (p : ℕ) (n : List ℕ) → ((at_view x).within == p) ≡ b
      → is_among n (used_names (at_view x ∷ l) p) ≡ ((b && if_some (bytes_eq n) (used_name (at_view x).node)) || is_among n (used_names l p))
  used_by true l p n e =
      ap (λ c. is_among n (filter_map used_name (map (λ y. y.node) (cond c (at_view x ∷ filter (λ y. y.within == p) l) (filter (λ y. y.within == p) l))))) e
      ∙ among_cons n (used_name (at_view x).node) (used_names l p)
  used_by false l p n e =
      ap (λ c. is_among n (filter_map used_name (map (λ y. y.node) (cond c (at_view x ∷ filter (λ y. y.within == p) l) (filter (λ y. y.within == p) l))))) e

  used_step : (p : ℕ) (n : List ℕ) → is_among n (used_names (views (drop i nodes)) p)
      ≡ (((x.within == p) && if_some (bytes_eq n) (used_name (at_view x).node)) || is_among n (used_names (views (drop (i + 1) nodes)) p))
  used_step p n = ap (λ l. is_among n (used_names l p)) views_step ∙ used_by (x.within == p) (views (drop (i + 1) nodes)) p n refl

  and_false : (a : Bool) → (a && false) ≡ false
  and_false true = refl
  and_false false = refl

  pub used_skipped : (names : List (List ℕ)) (p : ℕ) (n : List ℕ) (due : Bool) → None ≡ used_name (at_view x).node
      → (is_among n names || is_among n (used_names (views (drop i nodes)) p)) ≡ due → (is_among n names || is_among n (used_names (views (drop (i + 1) nodes)) p)) ≡ due
  used_skipped names p n due none before =
      let rest = is_among n (used_names (views (drop (i + 1) nodes)) p) in
      sym (ap (λ b. is_among n names || b) (used_step p n ∙ ap (λ o. ((x.within == p) && if_some (bytes_eq n) o) || rest) (sym none) ∙ ap (λ b. b || rest) (and_false (x.within == p)))) ∙ before

  put_by : (b : Bool) (names : List (List ℕ)) (m n : List ℕ) → is_among n (if b then with_name names m else names) ≡ (is_among n names || (b && bytes_eq n m))
  put_by true names m n = among_with names m n
  put_by false names m n = sym (or_false (is_among n names))

  pub used_put : (names new : List (List ℕ)) (m : List ℕ) (p : ℕ) (n : List ℕ) (due : Bool) → Some m ≡ used_name (at_view x).node
      → new ≡ (if x.within == p then with_name names m else names)
      → (is_among n names || is_among n (used_names (views (drop i nodes)) p)) ≡ due → (is_among n new || is_among n (used_names (views (drop (i + 1) nodes)) p)) ≡ due
  used_put names new m p n due some grown before =
      let rest = is_among n (used_names (views (drop (i + 1) nodes)) p) in
      ap (λ l. is_among n l || rest) grown
      ∙ ap (λ b. b || rest) (put_by (x.within == p) names m n)
      ∙ or_assoc (is_among n names) ((x.within == p) && bytes_eq n m) rest
      ∙ ap (λ o. is_among n names || (((x.within == p) && if_some (bytes_eq n) o) || rest)) some
      ∙ sym (ap (λ b. is_among n names || b) (used_step p n))
      ∙ before

  -- ---- targets, row by row

  targets_cons : (places : List (List ℕ × ℕ)) (o : Option (List ℕ)) (rest : List (List ℕ))
      → filter_map (place_in places) (cons_option o rest) ≡ cons_option (option_and_then (place_in places) o) (filter_map (place_in places) rest)
  targets_cons places None rest = refl
  targets_cons places (Some m) rest = refl

  targets_by : (b : Bool) (places : List (List ℕ × ℕ)) (l : List At) (p : ℕ) → ((at_view x).within == p) ≡ b
      → targets_in places (at_view x ∷ l) p ≡ cons_option (if b then target_of places (at_view x) else None) (targets_in places l p)
  targets_by true places l p e =
      ap (λ c. filter_map (place_in places) (filter_map spread_name (map (λ y. y.node) (cond c (at_view x ∷ filter (λ y. y.within == p) l) (filter (λ y. y.within == p) l))))) e
      ∙ targets_cons places (spread_name (at_view x).node) (filter_map spread_name (nodes_within l p))
  targets_by false places l p e =
      ap (λ c. filter_map (place_in places) (filter_map spread_name (map (λ y. y.node) (cond c (at_view x ∷ filter (λ y. y.within == p) l) (filter (λ y. y.within == p) l))))) e

  targets_step : (places : List (List ℕ × ℕ)) (p : ℕ) → targets_in places (views (drop i nodes)) p
      ≡ cons_option (if x.within == p then target_of places (at_view x) else None) (targets_in places (views (drop (i + 1) nodes)) p)
  targets_step places p = ap (λ l. targets_in places l p) views_step ∙ targets_by (x.within == p) places (views (drop (i + 1) nodes)) p refl

  skip_cons : (b : Bool) (rest : List ℕ) → cons_option (if b then None else None) rest ≡ rest
  skip_cons true rest = refl
  skip_cons false rest = refl

  pub target_skipped : (places : List (List ℕ × ℕ)) (found : List ℕ) (p : ℕ) (due : List ℕ) → None ≡ target_of places (at_view x)
      → (found ++ targets_in places (views (drop i nodes)) p) ≡ due → (found ++ targets_in places (views (drop (i + 1) nodes)) p) ≡ due
  target_skipped places found p due none before =
      let rest = targets_in places (views (drop (i + 1) nodes)) p in
      sym (ap (λ l. found ++ l) (targets_step places p ∙ ap (λ o. cons_option (if x.within == p then o else None) rest) (sym none) ∙ skip_cons (x.within == p) rest)) ∙ before

  place_by : (b : Bool) (found rest : List ℕ) (t : ℕ) → (if b then found ++ t ∷ [] else found) ++ rest ≡ found ++ cons_option (if b then Some t else None) rest
  place_by true found rest t = append_assoc found (t ∷ []) rest
  place_by false found rest t = refl

  pub target_put : (places : List (List ℕ × ℕ)) (found new : List ℕ) (t p : ℕ) (due : List ℕ) → Some t ≡ target_of places (at_view x)
      → new ≡ (if x.within == p then found ++ t ∷ [] else found)
      → (found ++ targets_in places (views (drop i nodes)) p) ≡ due → (new ++ targets_in places (views (drop (i + 1) nodes)) p) ≡ due
  target_put places found new t p due some grown before =
      let rest = targets_in places (views (drop (i + 1) nodes)) p in
      ap (λ l. l ++ rest) grown
      ∙ place_by (x.within == p) found rest t
      ∙ ap (λ o. found ++ cons_option (if x.within == p then o else None) rest) some
      ∙ sym (ap (λ l. found ++ l) (targets_step places p))
      ∙ before

  -- ---- marks, place by place

  declares_step : (p : ℕ) → declares (views (drop i nodes)) p ≡ (((x.within == p) && is_variable (at_view x).node) || declares (views (drop (i + 1) nodes)) p)
  declares_step p = ap (λ l. declares l p) views_step

  pub mark_skipped : (old : Bool) (p : ℕ) (due : Bool) → is_variable (at_view x).node ≡ false
      → (old || declares (views (drop i nodes)) p) ≡ due → (old || declares (views (drop (i + 1) nodes)) p) ≡ due
  mark_skipped old p due none before =
      let rest = declares (views (drop (i + 1) nodes)) p in
      sym (ap (λ b. old || b) (declares_step p ∙ ap (λ b. ((x.within == p) && b) || rest) none ∙ ap (λ b. b || rest) (and_false (x.within == p)))) ∙ before

  mark_by : (b old rest : Bool) → ((if b then true else old) || rest) ≡ (old || ((b && true) || rest))
  mark_by true true rest = refl
  mark_by true false rest = refl
  mark_by false old rest = refl

  pub mark_put : (old new : Bool) (p : ℕ) (due : Bool) → is_variable (at_view x).node ≡ true → new ≡ (if x.within == p then true else old)
      → (old || declares (views (drop i nodes)) p) ≡ due → (new || declares (views (drop (i + 1) nodes)) p) ≡ due
  mark_put old new p due is grown before =
      let rest = declares (views (drop (i + 1) nodes)) p in
      ap (λ b. b || rest) grown
      ∙ mark_by (x.within == p) old rest
      ∙ ap (λ b. old || (((x.within == p) && b) || rest)) (sym is)
      ∙ sym (ap (λ b. old || b) (declares_step p))
      ∙ before

  -- ---- a node is within the rows

  pub node_within : (count : ℕ) → Each (λ y. y.within < count) (views nodes) → x.within < count
  node_within count each = within_at nodes i each lt is
    where
      within_at : (list : List code_at.At) (k : ℕ) → Each (λ y. y.within < count) (views list) → k < length list → x ≡ get_or list k x → x.within < count
      within_at [] k each lt e = absurd (omega arith)
      within_at (y ∷ list) zero each lt e = subst (λ z. z.within < count) (sym e) each.0
      within_at (y ∷ list) (suc k) each lt e = within_at list k each.1 (omega arith) e

-- ---- counts

weaker : (list : List code_at.At) (m n : ℕ) → m ≤ n → Each (λ y. y.within < m) (views list) → Each (λ y. y.within < n) (views list)
weaker [] m n le each = each
weaker (y ∷ list) m n le each = (let lt = each.0 in omega arith, weaker list m n le each.1)

one_more : (list : List code_at.At) (x : code_at.At) (n : ℕ) → Each (λ y. y.within < n) (views list) → x.within < n → Each (λ y. y.within < n) (views (list ++ x ∷ []))
one_more [] x n each lt = (lt, each)
one_more (y ∷ list) x n each lt = (each.0, one_more list x n each.1 lt)

pub counted : (nodes : List code_at.At) (i : ℕ) (x : code_at.At) (m n : ℕ) → i < length nodes → x ≡ get_or nodes i x → m ≤ n → x.within < n
    → Each (λ y. y.within < m) (views (take i nodes)) → Each (λ y. y.within < n) (views (take (i + 1) nodes))
counted nodes i x m n lt is le within each =
    subst (λ l. Each (λ y. y.within < n) (views l)) (sym (take_item nodes i x lt is)) (one_more (take i nodes) x n (weaker (take i nodes) m n le each) within)

-- ---- rows

pub row_empty : {A : Type 0} (rows : List (List A)) (p : ℕ) → ((q : ℕ) → row rows q ≡ []) → row (rows ++ [] ∷ []) p ≡ []
row_empty [] zero e = refl
row_empty [] (suc p) e = refl
row_empty (y ∷ rows) zero e = e 0
row_empty (y ∷ rows) (suc p) e = row_empty rows p (λ q. e (suc q))

-- what holds of each item, each beside its place
item_last : {A : Type 0} (d : A) (xs : List A) (x : A) (p : ℕ) → length xs ≡ p → unwrap_or (slice_get (xs ++ x ∷ []) p) d ≡ x
item_last d [] x zero e = refl
item_last d [] x (suc p) e = absurd (omega arith)
item_last d (y ∷ xs) x zero e = absurd (omega arith)
item_last d (y ∷ xs) x (suc p) e = item_last d xs x p (omega arith)

item_before : {A : Type 0} (d : A) (xs : List A) (x : A) (p : ℕ) → p < length xs → unwrap_or (slice_get (xs ++ x ∷ []) p) d ≡ unwrap_or (slice_get xs p) d
item_before d [] x p lt = absurd (omega arith)
item_before d (y ∷ xs) x zero lt = refl
item_before d (y ∷ xs) x (suc p) lt = item_before d xs x p (omega arith)

items_more : {A : Type 0} (d : A) (P : ℕ → A → Type 0) (xs new : List A) (x : A) (k : ℕ) → length xs ≡ k → new ≡ xs ++ x ∷ [] → P k x
    → ((p : ℕ) → p < k → P p (unwrap_or (slice_get xs p) d)) → (p : ℕ) → p < k + 1 → P p (unwrap_or (slice_get new p) d)
items_more d P xs new x k len grown here held p lt =
    elim (before_or_at p k lt) [
      | inl a ↦ subst (P p) (sym (ap (λ l. unwrap_or (slice_get l p) d) grown ∙ item_before d xs x p (omega arith))) (held p a)
      | inr e ↦ subst (λ q. P q (unwrap_or (slice_get new q) d)) (sym e) (subst (P k) (sym (ap (λ l. unwrap_or (slice_get l k) d) grown ∙ item_last d xs x k len)) here)
    ]

-- one closure more, where it is wanted
pub closures_more : (steps : ℕ → List ℕ) (wanted : List Bool) (rows new : List (List ℕ)) (found : List ℕ) (k : ℕ) → length rows ≡ k → new ≡ rows ++ found ∷ []
    → (is_marked wanted k ≡ true → IsClosure (k ∷ []) steps found)
    → ((p : ℕ) → p < k → is_marked wanted p ≡ true → IsClosure (p ∷ []) steps (row rows p)) → (p : ℕ) → p < k + 1 → is_marked wanted p ≡ true → IsClosure (p ∷ []) steps (row new p)
closures_more steps wanted rows new found k len grown here held =
    items_more [] (λ p r. is_marked wanted p ≡ true → IsClosure (p ∷ []) steps r) rows new found k len grown here held

pub mark_at : (marks : List Bool) (k : ℕ) → get_or marks k false ≡ is_marked marks k
mark_at [] k = refl
mark_at (y ∷ ys) zero = refl
mark_at (y ∷ ys) (suc k) = mark_at ys k

-- one mark more
pub marks_more : (due : ℕ → Bool) (marks new : List Bool) (mark : Bool) (k : ℕ) → length marks ≡ k → new ≡ marks ++ mark ∷ [] → mark ≡ due k
    → ((p : ℕ) → p < k → is_marked marks p ≡ due p) → (p : ℕ) → p < k + 1 → is_marked new p ≡ due p
marks_more due marks new mark k len grown here held = items_more false (λ p b. b ≡ due p) marks new mark k len grown here held

-- ---- what is reached by steps that are the same

reached_along : {N : Type 0} (first : List N) (f g : N → List N) → ((m : N) → f m ≡ g m) → (n : N) → ReachedBy first f n → ReachedBy first g n
reached_along first f g same n (starts s) = starts s
reached_along first f g same n (goes_on {m} r s) = goes_on (reached_along first f g same m r) (subst (λ l. IsIn l n) (same m) s)

pub closure_along : {N : Type 0} (first : List N) (f g : N → List N) (found : List N) → ((m : N) → f m ≡ g m) → IsClosure first f found → IsClosure first g found
closure_along first f g found same c = record {
  reached = λ n at. reached_along first f g same n (c.reached n at);
  complete = λ n r. c.complete n (reached_along first g f (λ m. sym (same m)) n r);
}

pub no_cycle_along : (f g : ℕ → List ℕ) → ((m : ℕ) → f m ≡ g m) → HasNoCycle f → HasNoCycle g
no_cycle_along f g same h = λ m n at r. h m n (subst (λ l. IsIn l n) (sym (same m)) at) (reached_along (n ∷ []) g f (λ k. sym (same k)) m r)

-- ---- by names

along_places : (f g : List ℕ → Option ℕ) → ((name : List ℕ) → f name ≡ g name) → (names : List (List ℕ)) → filter_map f names ≡ filter_map g names
along_places f g same [] = refl
along_places f g same (n ∷ names) = ap (λ o. cons_option o (filter_map f names)) (same n) ∙ ap (cons_option (g n)) (along_places f g same names)

pub targets_along : (document : Document) (places : List (List ℕ × ℕ)) (nodes : List At) (p : ℕ) → ((name : List ℕ) → place_in places name ≡ fragment_place document name)
    → targets_in places nodes p ≡ targets nodes document p
targets_along document places nodes p same = along_places (place_in places) (fragment_place document) same (filter_map spread_name (nodes_within nodes p))

swap_by : (a b : List ℕ) (s t : Bool) → bytes_eq a b ≡ s → bytes_eq b a ≡ t → s ≡ t
swap_by a b true true e k = refl
swap_by a b false false e k = refl
swap_by a b true false e k = let same : b ≡ a = sym (bytes_same a b e) in let hit : bytes_eq b a ≡ true = (bytes_eq-Decides b a).1 same in absurd (true≢false (sym hit ∙ k))
swap_by a b false true e k = let same : a ≡ b = sym (bytes_same b a k) in let hit : bytes_eq a b ≡ true = (bytes_eq-Decides a b).1 same in absurd (true≢false (sym hit ∙ e))

swapped : (a b : List ℕ) → bytes_eq a b ≡ bytes_eq b a
swapped a b = swap_by a b (bytes_eq a b) (bytes_eq b a) refl refl

first_by : (o : Option ℕ) (b : Bool) (n : ℕ) (rest : Option ℕ) → first_of (first_of o (if b then Some n else None)) rest ≡ first_of o (if b then Some n else rest)
first_by None true n rest = refl
first_by None false n rest = refl
first_by (Some x) b n rest = refl

pub first_none : (o : Option ℕ) → first_of o None ≡ o
first_none None = refl
first_none (Some x) = refl

-- a place more, after those so far
pub place_put : (old new : Option ℕ) (b c : Bool) (n : ℕ) (rest due : Option ℕ) → new ≡ first_of old (if c then Some n else None) → c ≡ b
    → first_of old (if b then Some n else rest) ≡ due → first_of new rest ≡ due
place_put old new b c n rest due grown same before =
    ap (λ o. first_of o rest) (grown ∙ ap (λ t. first_of old (if t then Some n else None)) same) ∙ first_by old b n rest ∙ before

pub named_swapped : (m n : List ℕ) → bytes_eq n m ≡ bytes_eq m n
named_swapped m n = swapped n m

-- ---- variables by name

past_first : (v : VariableDefinition) (vs : List VariableDefinition) (o : Option ℕ) → option_and_then (slice_get (v ∷ vs)) (option_map suc o) ≡ option_and_then (slice_get vs) o
past_first v vs None = refl
past_first v vs (Some k) = refl

shift_by : (b : Bool) (n : ℕ) (rest later : Option ℕ) → later ≡ option_map suc rest → (if b then Some (n + 1) else later) ≡ option_map suc (if b then Some n else rest)
shift_by true n rest later e = ap (λ k. Some k) (add-one n)
shift_by false n rest later e = e

shifted : (n : ℕ) (vs : List VariableDefinition) (name : List ℕ) → variable_from (n + 1) vs name ≡ option_map suc (variable_from n vs name)
shifted n [] name = refl
shifted n (v ∷ vs) name = shift_by (bytes_eq v.name name) n (variable_from (n + 1) vs name) (variable_from (n + 1 + 1) vs name) (shifted (n + 1) vs name)

found_by : (b : Bool) (v : VariableDefinition) (vs : List VariableDefinition) (later : Option ℕ) (rest : Option VariableDefinition)
    → option_and_then (slice_get (v ∷ vs)) later ≡ rest → option_and_then (slice_get (v ∷ vs)) (if b then Some 0 else later) ≡ cond b (Some v) rest
found_by true v vs later rest e = refl
found_by false v vs later rest e = e

pub variable_found : (vs : List VariableDefinition) (name : List ℕ) → option_and_then (slice_get vs) (variable_from 0 vs name) ≡ find (λ v. bytes_eq v.name name) vs
variable_found [] name = refl
variable_found (v ∷ vs) name =
    let one : 0 + 1 ≡ 1 = omega arith in
    found_by (bytes_eq v.name name) v vs (variable_from (0 + 1) vs name) (find (λ w. bytes_eq w.name name) vs)
    (ap (option_and_then (slice_get (v ∷ vs))) (shifted 0 vs name) ∙ past_first v vs (variable_from 0 vs name) ∙ variable_found vs name)

-- one row more
pub rows_more : (definitions : List Definition) (rows new : List (List (List ℕ × ℕ))) (places : List (List ℕ × ℕ)) (i : ℕ) (x : Definition)
    → slice_get definitions i ≡ Some x → length rows ≡ i → new ≡ rows ++ places ∷ [] → TellsVariables x places
    → ((p : ℕ) (d : Definition) → p < i → slice_get definitions p ≡ Some d → TellsVariables d (row rows p))
    → (p : ℕ) (d : Definition) → p < i + 1 → slice_get definitions p ≡ Some d → TellsVariables d (row new p)
rows_more definitions rows new places i x stands len grown here held p d lt at =
    items_more [] (λ q r. (e : Definition) → slice_get definitions q ≡ Some e → TellsVariables e r) rows new places i len grown
    (λ e is. subst (λ y. TellsVariables y places) (some_same x e (sym stands ∙ is)) here) (λ q before e is. held q e before is) p lt d at

-- the definition at the place of an operation
pub record Standing (definitions : List Definition) (place : ℕ) (o : OperationDefinition) : Type 0 where
  pub definition : Definition
  pub at : slice_get definitions place ≡ Some definition
  pub is : as_operation definition ≡ Some o
  pub within : place < length definitions

pub operation_stands : (definitions : List Definition) (place : ℕ) (o : OperationDefinition) → option_and_then as_operation (slice_get definitions place) ≡ Some o → Standing definitions place o
operation_stands [] place o e = absurd (cc)
operation_stands (d ∷ definitions) zero o e = record { definition = d; at = refl; is = e; within = omega arith }
operation_stands (d ∷ definitions) (suc place) o e =
    let s = operation_stands definitions place o e in
    let lt = s.within in record { definition = s.definition; at = s.at; is = s.is; within = omega arith }

-- ---- one definition, or one variable, more

pub fragment_turn : (definitions : List Definition) (i : ℕ) (d : Definition) (name : List ℕ) (old new due : Option ℕ) → i < length definitions → d ≡ get_or definitions i d
    → new ≡ first_of old (if is_named name (as_fragment d) then Some i else None)
    → first_of old (place_from i (drop i definitions) name) ≡ due → first_of new (place_from (i + 1) (drop (i + 1) definitions) name) ≡ due
fragment_turn definitions i d name old new due lt is grown before =
    place_put old new (is_named name (as_fragment d)) (is_named name (as_fragment d)) i (place_from (i + 1) (drop (i + 1) definitions) name) due grown refl
    (ap (λ l. first_of old (place_from i l name)) (sym (drop-item definitions i d lt is)) ∙ before)

pub variable_turn : (variables : List VariableDefinition) (i : ℕ) (v : VariableDefinition) (name : List ℕ) (old new due : Option ℕ) → i < length variables → v ≡ get_or variables i v
    → new ≡ first_of old (when_named name v.name i)
    → first_of old (variable_from i (drop i variables) name) ≡ due → first_of new (variable_from (i + 1) (drop (i + 1) variables) name) ≡ due
variable_turn variables i v name old new due lt is grown before =
    place_put old new (bytes_eq v.name name) (bytes_eq name v.name) i (variable_from (i + 1) (drop (i + 1) variables) name) due grown (swapped name v.name)
    (ap (λ l. first_of old (variable_from i l name)) (sym (drop-item variables i v lt is)) ∙ before)

-- the places of an operation's variables tell them
pub tells : (d : Definition) (variables : List VariableDefinition) (found : List (List ℕ × ℕ)) → ((o : OperationDefinition) → as_operation d ≡ Some o → o.variables ≡ variables)
    → ((name : List ℕ) → place_in found name ≡ variable_from 0 variables name) → TellsVariables d found
tells d variables found of same = λ o is name.
    ap (λ l. option_and_then (slice_get l) (place_in found name)) (of o is)
    ∙ ap (option_and_then (slice_get variables)) (same name)
    ∙ variable_found variables name
    ∙ sym (ap (λ l. find (λ v. bytes_eq v.name name) l) (of o is))

pub tells_nothing : (d : Definition) (found : List (List ℕ × ℕ)) → as_operation d ≡ None → TellsVariables d found
tells_nothing d found none = λ o is name. absurd (let both : None ≡ Some o = sym none ∙ is in cc)

pub same_operation : (d : Definition) (p o : OperationDefinition) → as_operation d ≡ Some p → as_operation d ≡ Some o → o.variables ≡ p.variables
same_operation d p o e k = let same : p ≡ o = some_same p o (sym e ∙ k) in sym (ap (λ (x : OperationDefinition). x.variables) same)

pub slice_at : {A : Type 0} (xs : List A) (i : ℕ) (x : A) → i < length xs → x ≡ get_or xs i x → slice_get xs i ≡ Some x
slice_at [] i x lt e = absurd (omega arith)
slice_at (y ∷ xs) zero x lt e = ap (λ z. Some z) (sym e)
slice_at (y ∷ xs) (suc i) x lt e = slice_at xs i x (omega arith) e
