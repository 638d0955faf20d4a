-- From what a walk over the places writes and takes to what execution gives.
use Rattle.std.proofs.Common.{◌≡◌, ℕ, ◌+◌, ◌≤◌, List, [], ◌++◌, drop, None, sym, ap, ◌∙◌, subst, arith}
use Rattle.pg_base.specs.Base.{BaseParts}
use Rattle.pg_base.specs.declared.vars.Vars.{Vars}
use Rattle.rel_model.specs.declared.tables.Tables.{Tables}
use Rattle.place_tree.specs.declared.event.Event.{Event}
use Rattle.place_tree.specs.declared.place.Place.{Place}
use Rattle.place_tree.specs.declared.place.Tree.{Tree}
use Rattle.place_tree.specs.declared.stand.Stand.TheVariants.{Root}
use Rattle.place_tree.specs.Events.{member_events}
use Rattle.place_tree.specs.Exec.{executed, resolved, cost}
use Rattle.place_tree.specs.Spent.{spent}
use Rattle.place_tree.specs.Written.{written}
use Rattle.place_tree.proofs.WrittenLemmas.{written_is}
use Rattle.list_execution.specs.Answered.{AreData}

module _ (base : BaseParts) (tables : Tables) (vars : Vars) (tree : Tree) where
  abbrev pub walk : List Place → List Event
  walk places = written (λ i p s. resolved base tables vars places p s) (drop 0 places) 0 None Root

  abbrev pub taken : List Place → ℕ
  taken places = spent (λ i p s. resolved base tables vars places p s) (λ i p a. cost base.schema places i p a) (drop 0 places) 0 None Root

  data_written : member_events (executed base tables vars tree) ≡ walk tree.places
  data_written = written_is (λ i p s. resolved base tables vars tree.places p s) tree.places None Root

  pub are_data : (places : List Place) (start events : List Event) (left : ℕ) → places ≡ tree.places → start ≡ [] → events ≡ start ++ walk places → left + taken places ≤ 200000
      → AreData base tables vars tree events
  are_data places start events left same none_yet e n =
      let all : left + taken tree.places ≤ 200000 = subst (λ (l : List Place). left + taken l ≤ 200000) same n in
      record {
        within = omega (arith, all);
        data_ = e ∙ ap (λ l. l ++ walk places) none_yet ∙ ap walk same ∙ sym data_written;
      }
