-- What a house keeps.
use Rattle.std.proofs.Common.{◌≡◌, inl, inr, ℕ, ◌-◌, ◌≤◌, List, [], ◌++◌, Option, length, drop, refl, sym, ap, subst, ◌∙◌, length-drop, append-nil, arith}
use Rattle.pg_base.specs.Base.{BaseParts}
use Rattle.rel_model.specs.declared.tables.Tables.{Tables}
use Rattle.place_tree.specs.declared.place.Tree.{Tree}
use Rattle.plan_cache.specs.Shelf.{Asked, Shelved, Shows, live, most_live}
use Rattle.kept_responses.specs.Counts.{Counts}
use Rattle.kept_responses.specs.Kept.{KeptParts}
use Rattle.kept_responses.specs.Served.{Serves, ServesOn}
use Rattle.kept_responses.specs.declared.response.KeptResponse.{KeptResponse}
use Rattle.request_core.specs.House.{HouseParts, house_parts, IsHouse}
use Rattle.request_core.specs.Replied.{ServesFor}

none_more : (n : ℕ) → (n - (n - most_live)) - most_live ≡ 0
none_more n = omega arith

-- what serves is the last of itself
live_live : {E : Type 0} (history : List E) → live (live history) ≡ live history
live_live history = ap (λ n. drop (n - most_live) (live history)) (length-drop (length history - most_live) history)
    ∙ ap (λ n. drop n (live history)) (none_more (length history))

-- a shelf that shows some history shows what it has
pub shows_itself : {E : Type 0} (shelf : Shelved E) (history : List E) → Shows shelf history → Shows shelf shelf.entries
shows_itself shelf history shows = shows ∙ sym (live_live history) ∙ ap live (sym shows)

-- faults never fall
pub faults_rise : (base : BaseParts) (held : Option Tables) (asked : Asked) (tree : Tree) (history entered : List KeptParts) (before now : Counts) (response : KeptResponse)
    → Serves base held asked tree history entered before now response → before.faults ≤ now.faults
faults_rise base held asked tree history entered before now response (inl found) = found.run.run.faults
faults_rise base held asked tree history entered before now response (inr (inl made)) = made.run.run.faults
faults_rise base held asked tree history entered before now response (inr (inr stopped)) = let same = stopped.none_failed in omega (arith, same)

-- a shelf with nothing shows what it has
pub shows_none : {E : Type 0} (shelf : Shelved E) → shelf.entries ≡ [] → Shows shelf shelf.entries
shows_none {E} shelf e = subst (λ (xs : List E). xs ≡ live xs) (sym e) refl

-- where nothing is entered the history stays
pub shows_still : {E : Type 0} (shelf : Shelved E) (history : List E) → Shows shelf history → Shows shelf (history ++ [])
shows_still {E} shelf history shows = subst (λ (h : List E). Shows shelf h) (sym (append-nil history)) shows

-- ---- a house whose shelf has served a request

module _ (house : HouseParts) (is : IsHouse house) (after : Shelved KeptParts) (held : Option Tables) (wanted : Asked) (tree : Tree)
    (before now : Counts) (response : KeptResponse) (same : after.base ≡ house.shelf.base)
    (served : (history : List KeptParts) → Shows house.shelf history → ServesOn house.shelf after held wanted tree history before now response) where
  pub still_house : IsHouse (house_parts house.base house.opened after house.limit)
  still_house =
      let on = served house.shelf.entries is.shows in
      record {
        faultless = is.faultless;
        holds = is.holds;
        shelf_base = same ∙ is.shelf_base;
        shows = shows_itself after (house.shelf.entries ++ on.entered) on.shows;
      }

  pub still_rises : before.faults ≤ now.faults
  still_rises =
      let on = served house.shelf.entries is.shows in
      faults_rise house.shelf.base held wanted tree house.shelf.entries on.entered before now response on.serves

  pub still_serves : (history : List KeptParts) → Shows house.shelf history
      → ServesFor house (house_parts house.base house.opened after house.limit) held wanted tree history before now response
  still_serves history shows =
      let on = served history shows in
      record {
        entered = on.entered;
        shows = on.shows;
        serves = subst (λ (b : BaseParts). Serves b held wanted tree history on.entered before now response) is.shelf_base on.serves;
      }

-- nothing was ever entered in a shelf with nothing
pub shows_nothing : {E : Type 0} (shelf : Shelved E) → shelf.entries ≡ [] → Shows shelf []
shows_nothing shelf e = e
