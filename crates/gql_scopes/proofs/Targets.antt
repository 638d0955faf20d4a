-- What a spread spreads is among the targets of its definition.
use Rattle.std.proofs.Common.{◌≡◌, inl, inr, ℕ, Bool, true, false, ◌==◌, cond, List, [], ◌∷◌, Option, Some, None, map, refl, sym, ap, subst, ◌∙◌}
use Rattle.std.specs.Prelude.{filter, filter_map, option_and_then}
use Rattle.std.specs.List.{cons_option}
use Rattle.gql_reader.specs.declared.tree.Document.{Document}
use Rattle.gql_nodes.specs.Nodes.{At}
use Rattle.gql_nodes.specs.Reached.{IsIn}
use Rattle.gql_nodes.specs.Uses.{fragment_place, spread_name, nodes_within, targets}
use Rattle.gql_scopes.proofs.Membership.{here_is}

in_option : (o : Option ℕ) (rest : List ℕ) (n : ℕ) → o ≡ Some n → IsIn (cons_option o rest) n
in_option None rest n e = absurd (cc)
in_option (Some m) rest n e = inl (cc)

in_rest : (o : Option ℕ) (rest : List ℕ) (n : ℕ) → IsIn rest n → IsIn (cons_option o rest) n
in_rest None rest n at = at
in_rest (Some m) rest n at = inr at

module _ (document : Document) where
  names_cons : (o : Option (List ℕ)) (rest : List (List ℕ))
      → filter_map (fragment_place document) (cons_option o rest) ≡ cons_option (option_and_then (fragment_place document) o) (filter_map (fragment_place document) rest)
  names_cons None rest = refl
  names_cons (Some m) rest = refl

  targets_by : (y : At) (l : List At) (p : ℕ) (b : Bool) → (y.within == p) ≡ b
      → targets (y ∷ l) document p ≡ cond b (cons_option (option_and_then (fragment_place document) (spread_name y.node)) (targets l document p)) (targets l document p)
  targets_by y l p true e =
      ap (λ c. filter_map (fragment_place document) (filter_map spread_name (map (λ z. z.node) (cond c (y ∷ filter (λ z. z.within == p) l) (filter (λ z. z.within == p) l))))) e
      ∙ names_cons (spread_name y.node) (filter_map spread_name (nodes_within l p))
  targets_by y l p false e =
      ap (λ c. filter_map (fragment_place document) (filter_map spread_name (map (λ z. z.node) (cond c (y ∷ filter (λ z. z.within == p) l) (filter (λ z. z.within == p) l))))) e

  later_by : (b : Bool) (o : Option ℕ) (rest : List ℕ) (n : ℕ) → IsIn rest n → IsIn (cond b (cons_option o rest) rest) n
  later_by true o rest n at = in_rest o rest n at
  later_by false o rest n at = at

  pub in_targets : (nodes : List At) (x : At) (n : ℕ) → IsIn nodes x → option_and_then (fragment_place document) (spread_name x.node) ≡ Some n → IsIn (targets nodes document x.within) n
  in_targets [] x n at is = absurd at
  in_targets (y ∷ l) x n (inl e) is =
      let stands : option_and_then (fragment_place document) (spread_name y.node) ≡ Some n = ap (λ (z : At). option_and_then (fragment_place document) (spread_name z.node)) e ∙ is in
      let within : (y.within == x.within) ≡ true = ap (λ (z : At). z.within == x.within) e ∙ here_is x.within in
      subst (λ k. IsIn k n) (sym (targets_by y l x.within true within)) (in_option (option_and_then (fragment_place document) (spread_name y.node)) (targets l document x.within) n stands)
  in_targets (y ∷ l) x n (inr at) is =
      subst (λ k. IsIn k n) (sym (targets_by y l x.within (y.within == x.within) refl))
      (later_by (y.within == x.within) (option_and_then (fragment_place document) (spread_name y.node)) (targets l document x.within) n (in_targets l x n at is))
