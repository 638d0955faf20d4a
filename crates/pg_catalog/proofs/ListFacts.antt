-- Lists as loops meet them.
use Rattle.std.proofs.Common.{◌≡◌, ℕ, ◌+◌, ◌<◌, List, [], ◌∷◌, ◌++◌, Option, None, Some, length, get_or, take, append-nil, sym, ap, ◌∙◌}
use Rattle.std.specs.List.{filter_map, cons_option}
use Rattle.std.proofs.lemmas.List.Elements.{filter_map-append}
use Rattle.pg_base.proofs.ListSteps.{take_item}

filter_map-more : {X Y : Type 0} (h : X → Option Y) (xs : List X) (i : ℕ) (x : X) → i < length xs → x ≡ get_or xs i x → filter_map h (take (i + 1) xs) ≡ filter_map h (take i xs) ++ cons_option (h x) []
filter_map-more h xs i x lt e = ap (filter_map h) (take_item xs i x lt e) ∙ filter_map-append h (take i xs) (x ∷ [])

-- an item that gives nothing, and one that gives something
pub filter_map-skips : {X Y : Type 0} (h : X → Option Y) (xs : List X) (i : ℕ) (x : X) → i < length xs → x ≡ get_or xs i x → (made : List Y) → made ≡ filter_map h (take i xs) → h x ≡ None → made ≡ filter_map h (take (i + 1) xs)
filter_map-skips h xs i x lt e made is none =
    is ∙ sym (append-nil (filter_map h (take i xs))) ∙ ap (λ o. filter_map h (take i xs) ++ cons_option o []) (sym none) ∙ sym (filter_map-more h xs i x lt e)

pub filter_map-takes : {X Y : Type 0} (h : X → Option Y) (xs : List X) (i : ℕ) (x : X) (y : Y) → i < length xs → x ≡ get_or xs i x → (made new : List Y) → made ≡ filter_map h (take i xs) → h x ≡ Some y → new ≡ made ++ y ∷ [] → new ≡ filter_map h (take (i + 1) xs)
filter_map-takes h xs i x y lt e made new is some pushed =
    pushed ∙ ap (λ l. l ++ y ∷ []) is ∙ ap (λ o. filter_map h (take i xs) ++ cons_option o []) (sym some) ∙ sym (filter_map-more h xs i x lt e)
