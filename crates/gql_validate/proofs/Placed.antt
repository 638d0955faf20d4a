-- The node of a field that can't merge.
use Rattle.std.proofs.Common.{◌≡◌, ℕ, ◌<◌, ◌≤◌, true, List, [], ◌∷◌, Option, Some, None, length, refl, sym, subst, ◌∙◌, arith}
use Rattle.std.specs.Prelude.{slice_get, nat_lt, option_map}
use Rattle.std.proofs.lemmas.Bool.{and_parts}
use Rattle.pg_base.specs.declared.pos.Pos.{Pos}
use Rattle.gql_nodes.specs.Nodes.{At, pos_of}
use Rattle.gql_nodes.specs.Rules.{Holds, StandsFirst, IsFound}
use Rattle.gql_validate.specs.FieldSelectionMerging.{FieldOn, both, share_key, field_at, field_here, meet, CannotMerge, they_differ, below_them, Breaks}
use Rattle.gql_validate.specs.Merged.{IsLeastBreak}

pub record There (nodes : List At) (place : ℕ) : Type 0 where
  pub node : At
  pub stands : slice_get nodes place ≡ Some node

no_second : (o : Option FieldOn) → both share_key o None ≡ true → ⊥
no_second None e = absurd (cc)
no_second (Some f) e = absurd (cc)

there_by : (nodes : List At) (place : ℕ) (o : Option FieldOn) (r : Option At) → slice_get nodes place ≡ r → both share_key o (field_here r) ≡ true → There nodes place
there_by nodes place o None e h = absurd (no_second o h)
there_by nodes place o (Some x) e h = record { node = x; stands = e }

met_there : (nodes : List At) (f g : ℕ) → meet nodes f g ≡ true → There nodes g
met_there nodes f g e = there_by nodes g (field_at nodes f) (slice_get nodes g) refl (and_parts (nat_lt f g) (both share_key (field_at nodes f) (field_at nodes g)) e).1

cannot_there : (nodes : List At) (joined : List ℕ) (f g : ℕ) → CannotMerge nodes joined f g → There nodes g
cannot_there nodes joined f g (they_differ p d) = met_there nodes f g p.meet
cannot_there nodes joined f g (below_them h k p c) = met_there nodes f g p.meet

not_gone : (nodes : List At) (place : ℕ) → Breaks nodes place → slice_get nodes place ≡ None → ⊥
not_gone nodes place b e = let t = cannot_there nodes b.joined b.first place b.cannot in absurd (let both : Some t.node ≡ None = sym t.stands ∙ e in cc)

pub none_breaks : (nodes : List At) (least : Option ℕ) → IsLeastBreak nodes least → least ≡ None → Holds (λ i x. Breaks nodes i) nodes
none_breaks nodes least h e i x at b = let k : IsLeastBreak nodes None = subst (IsLeastBreak nodes) e h in k i b

before_least : (place i : ℕ) → place ≤ i → i < place → ⊥
before_least place i le lt = absurd (omega arith)

first_there : (nodes : List At) (least : Option ℕ) (place : ℕ) (x : At) (pos : Pos) → IsLeastBreak nodes least → least ≡ Some place → slice_get nodes place ≡ Some x → pos ≡ pos_of x.node → StandsFirst (λ i y. Breaks nodes i) nodes pos
first_there nodes least place x pos h e at is =
    let k : IsLeastBreak nodes (Some place) = subst (IsLeastBreak nodes) e h in
    record {
      place = place;
      node = x;
      first = record { stands = at; before = λ i y lt there b. before_least place i (k.1 i b) lt; broken = k.0 };
      stands = is;
    }

found_by : (nodes : List At) (least : Option ℕ) (place : ℕ) (o : Option At) → IsLeastBreak nodes least → least ≡ Some place → slice_get nodes place ≡ o → IsFound (λ i y. Breaks nodes i) nodes (option_map (λ x. pos_of x.node) o)
found_by nodes least place None h e gone = λ i x at b. let k : IsLeastBreak nodes (Some place) = subst (IsLeastBreak nodes) e h in not_gone nodes place k.0 gone
found_by nodes least place (Some x) h e at = first_there nodes least place x (pos_of x.node) h e at refl

pub position_found : (nodes : List At) (least : Option ℕ) (place : ℕ) (r : Option Pos) → IsLeastBreak nodes least → least ≡ Some place → r ≡ option_map (λ x. pos_of x.node) (slice_get nodes place) → IsFound (λ i y. Breaks nodes i) nodes r
position_found nodes least place r h e is = subst (IsFound (λ i y. Breaks nodes i) nodes) (sym is) (found_by nodes least place (slice_get nodes place) h e refl)

pub nil_of : {A : Type 0} (xs : List A) → length xs ≡ 0 → xs ≡ []
nil_of [] e = refl
nil_of (x ∷ xs) e = absurd (omega arith)
