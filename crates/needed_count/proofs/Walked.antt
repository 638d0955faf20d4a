-- The walk counts the signatures that are needed.
use Rattle.std.proofs.Common.{◌≡◌, ℕ, zero, suc, ◌+◌, ◌<◌, ◌≤◌, Bool, true, false, cond, ◌&&◌, ◌||◌, is_none, List, [], ◌∷◌, ◌++◌, length, length-append, map, drop, reverse, Option, Some, None, refl, sym, ap, ap₂, ◌∙◌, subst, arith, append_assoc, append-nil, eqb-true}
use Rattle.std.specs.Prelude.{slice_get, unwrap_or, ⊤, ◌==◌}
use Rattle.std.specs.Bool.{one_answer}
use Rattle.std.specs.List.{list_any}
use Rattle.std.proofs.lemmas.List.{length-map, map-append, reverse-append, reverse-reverse}
use Rattle.std.proofs.lemmas.Grind.{reverse_onto}
use Rattle.pg_base.proofs.ListSteps.{drop-past}
use Rattle.pg_base.specs.declared.vars.Vars.{Vars}
use Rattle.pg_base.specs.Base.{BaseParts}
use Rattle.pg_base.specs.Schema.{SchemaParts}
use Rattle.place_tree.specs.declared.place.Place.{Place}
use Rattle.place_tree.specs.declared.place.Tree.{Tree}
use Rattle.place_tree.specs.Arguments.{is_windowed}
use Rattle.place_tree.specs.Fields.{does_of, is_list, is_row_field}
use Rattle.place_tree.specs.Needs as needs
use Rattle.place_tree.specs.Needs.{RowField, Signature, at_root, distinct, is_backward, is_mutation, needing, same_signature, signature_above, signature_below, signatures_from}
use Rattle.needed_count.specs.declared.marks.Mark.{Mark}
use Rattle.needed_count.specs.declared.words.Word.{Word}
use Rattle.needed_count.specs.PathWords.{path_words, row_of}
use Rattle.needed_count.specs.Walk.{Walked, mark_above, mark_at, needs_own, no_mark, not_walked, number_in, own_with, paths_at, root_at, same_mark, walked_below, walked_over, walked_with, with_mark, with_path}
use Rattle.needed_count.proofs.Distinct.{AreOnce, none_once, once_more}
use Rattle.needed_count.proofs.Paths.{IsThere, kept, one_path, path_number, put}
use Rattle.needed_count.proofs.Same.{mark_Decides, marks_equivalent, signature_Decides}

-- ---- marks of signatures

abbrev mark_of : List (List Word) → Signature → Mark
mark_of paths s = record { root = s.root; path = path_number paths (reverse s.path) }

abbrev IsMarked : List (List Word) → Signature → Type 0
IsMarked paths s = IsThere paths (reverse s.path)

abbrev Each : {A : Type 0} → (A → Type 0) → List A → Type 0
Each P [] = ⊤
Each P (x ∷ xs) = P x × Each P xs

each_last : {A : Type 0} (P : A → Type 0) (xs : List A) (x : A) → Each P xs → P x → Each P (xs ++ x ∷ [])
each_last P [] x h k = (k, tt)
each_last P (y ∷ ys) x h k = (h.0, each_last P ys x h.1 k)

-- with one path more
marks_kept : (paths : List (List Word)) (key : List Word) (ss : List Signature) → Each (IsMarked paths) ss
    → (map (mark_of (with_path paths key)) ss ≡ map (mark_of paths) ss) × Each (IsMarked (with_path paths key)) ss
marks_kept paths key [] h = (refl, tt)
marks_kept paths key (s ∷ ss) h =
    let one = kept paths key (reverse s.path) h.0 in
    let rest = marks_kept paths key ss h.1 in
    let same : mark_of (with_path paths key) s ≡ mark_of paths s = λ i. record { root = s.root; path = one.0 i } in
    (ap₂ (λ m ms. m ∷ ms) same rest.0, (one.1, rest.1))

-- ---- the signatures that are counted

same_path : (paths : List (List Word)) (p q : List RowField) → IsThere paths (reverse p) → IsThere paths (reverse q)
    → path_number paths (reverse p) ≡ path_number paths (reverse q) → p ≡ q
same_path paths p q h k e = sym (reverse-reverse p) ∙ ap reverse (one_path paths (reverse p) (reverse q) h k e) ∙ reverse-reverse q

alike : (paths : List (List Word)) (s t : Signature) → IsMarked paths s → IsMarked paths t → same_mark (mark_of paths s) (mark_of paths t) ≡ same_signature s t
alike paths s t h k =
    let marks = mark_Decides (mark_of paths s) (mark_of paths t) in
    one_answer (same_mark (mark_of paths s) (mark_of paths t)) (same_signature s t) (
      λ e. let m = marks.0 e in
          let root = ap (λ n. n.root) m in
          let path = same_path paths s.path t.path h k (ap (λ n. n.path) m) in
          λ i. record { root = root i; path = path i },
      λ e. marks.1 (ap (mark_of paths) e),
    )
    (signature_Decides s t)

any_alike : (paths : List (List Word)) (s : Signature) (ss : List Signature) → IsMarked paths s → Each (IsMarked paths) ss
    → list_any (same_mark (mark_of paths s)) (map (mark_of paths) ss) ≡ list_any (same_signature s) ss
any_alike paths s [] h k = refl
any_alike paths s (t ∷ ss) h k = ap₂ (λ a b. a || b) (alike paths s t h k.0) (any_alike paths s ss h k.1)

as_many : (paths : List (List Word)) (ss : List Signature) → Each (IsMarked paths) ss → distinct same_mark (map (mark_of paths) ss) ≡ distinct same_signature ss
as_many paths [] h = refl
as_many paths (s ∷ ss) h = ap₂ (λ b n. cond b n (n + 1)) (any_alike paths s ss h.0 h.1) (as_many paths ss h.1)

-- ---- a walk

-- after the places of these signatures, of which those were needed
record AreWalked (w : Walked) (done needed : List Signature) : Type 0 where
  pub marks : w.marks ≡ map (mark_of w.paths) done
  pub marked : Each (IsMarked w.paths) done
  pub own : AreOnce same_mark w.own (map (mark_of w.paths) needed)
  pub owning : Each (IsMarked w.paths) needed

none_walked : AreWalked not_walked [] []
none_walked = record { marks = refl; marked = tt; own = none_once same_mark; owning = tt }

-- ---- the place above

marked_at : (paths : List (List Word)) (ss : List Signature) (i : ℕ) → Each (IsMarked paths) ss
    → (unwrap_or (slice_get (map (mark_of paths) ss) i) no_mark ≡ mark_of paths (unwrap_or (slice_get ss i) at_root)) × IsMarked paths (unwrap_or (slice_get ss i) at_root)
marked_at paths [] i h = (refl, tt)
marked_at paths (s ∷ ss) zero h = (refl, h.0)
marked_at paths (s ∷ ss) (suc i) h = marked_at paths ss i h.1

marked_above : (paths : List (List Word)) (ss : List Signature) (parent : Option ℕ) → Each (IsMarked paths) ss
    → (mark_above (map (mark_of paths) ss) parent ≡ mark_of paths (signature_above ss parent)) × IsMarked paths (signature_above ss parent)
marked_above paths ss None h = (refl, tt)
marked_above paths ss (Some i) h = marked_at paths ss i h

-- ---- a path by one row field more, where the place is a row field

path_below : (paths : List (List Word)) (path : List RowField) (f : RowField) (row : Bool) → IsThere paths (reverse path)
    → (path_number (cond row (with_path paths (path_words (path_number paths (reverse path)) f)) paths) (reverse (cond row (path ++ f ∷ []) path))
    ≡ cond row (Some (number_in paths (path_words (path_number paths (reverse path)) f))) (path_number paths (reverse path)))
    × IsThere (cond row (with_path paths (path_words (path_number paths (reverse path)) f)) paths) (reverse (cond row (path ++ f ∷ []) path))
path_below paths path f true h =
    let key = path_words (path_number paths (reverse path)) f in
    let new = put paths f (reverse path) h in
    let turned = sym (reverse-append path (f ∷ [])) in
    (ap (path_number (with_path paths key)) (sym turned) ∙ new.0, subst (λ l. IsThere (with_path paths key) l) turned new.1)
path_below paths path f false h = (refl, h)

marks_below : (paths : List (List Word)) (key : List Word) (row : Bool) (ss : List Signature) → Each (IsMarked paths) ss
    → (map (mark_of (cond row (with_path paths key) paths)) ss ≡ map (mark_of paths) ss) × Each (IsMarked (cond row (with_path paths key) paths)) ss
marks_below paths key true ss h = marks_kept paths key ss h
marks_below paths key false ss h = (refl, h)

-- ---- whether a statement is needed

far : (n : ℕ) → 1 < n → (n == 1) ≡ false
far n lt = by (n == 1) refl where
  by : (b : Bool) → (n == 1) ≡ b → (n == 1) ≡ false
  by true is = let e = eqb-true n 1 is in absurd (omega (arith, e, lt))
  by false is = is

numbered : (paths : List (List Word)) (above : List RowField) (f : RowField) → is_none (path_number paths (above ++ f ∷ [])) ≡ false
numbered paths [] f = refl
numbered paths (g ∷ above) f = refl

alone : (paths : List (List Word)) (path : List RowField) (f : RowField) → is_none (path_number paths (reverse path)) ≡ (length (path ++ f ∷ []) == 1)
alone paths [] f = refl
alone paths (g ∷ path) f =
    let long = length-append path (f ∷ []) in
    ap (λ l. is_none (path_number paths l)) (reverse_onto path g []) ∙ numbered paths (reverse path) g ∙ sym (far (length (g ∷ path ++ f ∷ [])) (omega (arith, long)))

needs_by : (paths : List (List Word)) (path : List RowField) (f : RowField) (row part : Bool)
    → (row && (is_none (path_number paths (reverse path)) || part)) ≡ (row && ((length (cond row (path ++ f ∷ []) path) == 1) || part))
needs_by paths path f true part = ap (λ b. b || part) (alone paths path f)
needs_by paths path f false part = refl

needs_same : (base : BaseParts) (vars : Vars) (paths : List (List Word)) (p : Place) (above : Signature) (i : ℕ)
    → needs_own base vars p (path_number paths (reverse above.path)) ≡ needs.needs_own base vars p (signature_below base.schema i p above)
needs_same base vars paths p above i =
    needs_by paths above.path (row_of p) (is_row_field (does_of base.schema p)) (is_backward (does_of base.schema p) && (is_list base p && is_windowed vars p))

-- ---- one place more

abbrev if_needed : Bool → Signature → List Signature
if_needed b s = cond b (s ∷ []) []

own_more : (paths : List (List Word)) (own : List Mark) (needed : List Signature) (b : Bool) (m : Mark) (s : Signature) → m ≡ mark_of paths s
    → AreOnce same_mark own (map (mark_of paths) needed) → AreOnce same_mark (own_with b own m) (map (mark_of paths) (needed ++ if_needed b s))
own_more paths own needed true m s e h =
    let longer : map (mark_of paths) needed ++ m ∷ [] ≡ map (mark_of paths) (needed ++ s ∷ []) =
    ap (λ n. map (mark_of paths) needed ++ n ∷ []) e ∙ sym (map-append (mark_of paths) needed (s ∷ [])) in
    subst (λ ms. AreOnce same_mark (with_mark own m) ms) longer (once_more same_mark marks_equivalent own (map (mark_of paths) needed) m h)
own_more paths own needed false m s e h = subst (λ ss. AreOnce same_mark own (map (mark_of paths) ss)) (sym (append-nil needed)) h

owning_more : (paths : List (List Word)) (needed : List Signature) (b : Bool) (s : Signature) → IsMarked paths s
    → Each (IsMarked paths) needed → Each (IsMarked paths) (needed ++ if_needed b s)
owning_more paths needed true s k h = each_last (IsMarked paths) needed s h k
owning_more paths needed false s k h = subst (λ ss. Each (IsMarked paths) ss) (sym (append-nil needed)) h

below : (base : BaseParts) (vars : Vars) (w : Walked) (done needed : List Signature) (p : Place) (above s : Signature)
    → AreWalked w done needed → IsMarked w.paths above → s ≡ signature_below base.schema (length done) p above
    → AreWalked (walked_below base vars w p (mark_of w.paths above)) (done ++ s ∷ []) (needed ++ if_needed (needs.needs_own base vars p s) s)
below base vars w done needed p above s h there is =
    let row = is_row_field (does_of base.schema p) in
    let number = path_number w.paths (reverse above.path) in
    let key = path_words number (row_of p) in
    let paths = paths_at base.schema w.paths p number in
    let mark = mark_at base.schema w p (mark_of w.paths above) in
    let path = path_below w.paths above.path (row_of p) row there in
    let marks = marks_below w.paths key row done h.marked in
    let owned = marks_below w.paths key row needed h.owning in
    let long : length w.marks ≡ length done = ap length h.marks ∙ length-map done (mark_of w.paths) in
    let same : mark ≡ mark_of paths (signature_below base.schema (length done) p above) =
    (λ i. record { root = root_at base.schema (long i) p above.root; path = sym path.0 i }) in
    let marked : mark ≡ mark_of paths s = same ∙ ap (mark_of paths) (sym is) in
    let found : IsMarked paths s = subst (λ t. IsMarked paths t) (sym is) path.1 in
    let needs_it : needs_own base vars p number ≡ needs.needs_own base vars p s =
    needs_same base vars w.paths p above (length done) ∙ ap (needs.needs_own base vars p) (sym is) in
    record {
      marks = ap₂ (λ ms m. ms ++ m ∷ []) (h.marks ∙ sym marks.0) marked ∙ sym (map-append (mark_of paths) done (s ∷ []));
      marked = each_last (IsMarked paths) done s marks.1 found;
      own = subst (λ b. AreOnce same_mark (own_with b w.own mark) (map (mark_of paths) (needed ++ if_needed (needs.needs_own base vars p s) s))) (sym needs_it)
          (own_more paths w.own needed (needs.needs_own base vars p s) mark s marked (subst (λ ms. AreOnce same_mark w.own ms) (sym owned.0) h.own));
      owning = owning_more paths needed (needs.needs_own base vars p s) s found owned.1;
    }

further : (base : BaseParts) (vars : Vars) (w : Walked) (done needed : List Signature) (p : Place) (s : Signature)
    → AreWalked w done needed → s ≡ signature_below base.schema (length done) p (signature_above done p.parent)
    → AreWalked (walked_with base vars w p) (done ++ s ∷ []) (needed ++ if_needed (needs.needs_own base vars p s) s)
further base vars w done needed p s h is =
    let up = marked_above w.paths done p.parent h.marked in
    let mark : mark_above w.marks p.parent ≡ mark_of w.paths (signature_above done p.parent) = ap (λ ms. mark_above ms p.parent) h.marks ∙ up.0 in
    subst (λ m. AreWalked (walked_below base vars w p m) (done ++ s ∷ []) (needed ++ if_needed (needs.needs_own base vars p s) s)) (sym mark)
    (below base vars w done needed p (signature_above done p.parent) s h up.1 is)

-- ---- all places

abbrev next_one : SchemaParts → List Signature → Place → Signature
next_one schema done p = signature_below schema (length done) p (signature_above done p.parent)

-- the signatures of places that come after those of these signatures
abbrev following : SchemaParts → List Signature → List Place → List Signature
following schema done [] = []
following schema done (p ∷ places) = next_one schema done p ∷ following schema (done ++ next_one schema done p ∷ []) places

all_following : (schema : SchemaParts) (done : List Signature) (places : List Place) → signatures_from schema done places ≡ done ++ following schema done places
all_following schema done [] = sym (append-nil done)
all_following schema done (p ∷ places) =
    let s = next_one schema done p in
    all_following schema (done ++ s ∷ []) places ∙ append_assoc done (s ∷ []) (following schema (done ++ s ∷ []) places)

need_first : (base : BaseParts) (vars : Vars) (p : Place) (s : Signature) (places : List Place) (ss : List Signature)
    → needing base vars (p ∷ places) (s ∷ ss) ≡ if_needed (needs.needs_own base vars p s) s ++ needing base vars places ss
need_first base vars p s places ss = by (needs.needs_own base vars p s)
  where
    by : (b : Bool) → cond b (s ∷ needing base vars places ss) (needing base vars places ss) ≡ if_needed b s ++ needing base vars places ss
    by true = refl
    by false = refl

counts : (base : BaseParts) (vars : Vars) (w : Walked) (done needed : List Signature) (places : List Place) → AreWalked w done needed
    → length (walked_over base vars w places).own ≡ distinct same_signature (needed ++ needing base vars places (following base.schema done places))
counts base vars w done needed [] h = h.own.count ∙ as_many w.paths needed h.owning ∙ ap (distinct same_signature) (sym (append-nil needed))
counts base vars w done needed (p ∷ places) h =
    let s = next_one base.schema done p in
    let mine = if_needed (needs.needs_own base vars p s) s in
    let rest = following base.schema (done ++ s ∷ []) places in
    counts base vars (walked_with base vars w p) (done ++ s ∷ []) (needed ++ mine) places (further base vars w done needed p s h refl)
    ∙ ap (distinct same_signature) (append_assoc needed mine (needing base vars places rest) ∙ ap (λ ss. needed ++ ss) (sym (need_first base vars p s places rest)))

pub all_counted : (base : BaseParts) (vars : Vars) (tree : Tree) (places : List Place) (w : Walked) (i n : ℕ) → places ≡ tree.places
    → n ≡ length w.own → length places ≤ i → walked_over base vars w (drop i places) ≡ walked_over base vars not_walked places
    → n ≡ needs.needed_statements base vars tree
all_counted base vars tree places w i n there is past all =
    is ∙ ap (λ x. length x.own) (sym (ap (walked_over base vars w) (drop-past places i past)) ∙ all)
    ∙ counts base vars not_walked [] [] places none_walked
    ∙ ap (λ ss. distinct same_signature (needing base vars places ss)) (sym (all_following base.schema [] places))
    ∙ ap (λ l. distinct same_signature (needing base vars l (needs.signatures base.schema l))) there
