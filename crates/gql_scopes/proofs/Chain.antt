-- The rules, one after the other.
use Rattle.std.proofs.Common.{◌≡◌, inl, inr, ℕ, zero, suc, ◌+◌, ◌<◌, List, [], ◌∷◌, length, get_or, take, refl, sym, subst, ◌∙◌, arith}
use Rattle.pg_base.proofs.ListSteps.{take_item}
use Rattle.pg_base.specs.declared.pos.Pos.{Pos}
use Rattle.pg_base.specs.Schema.{SchemaParts}
use Rattle.gql_reader.specs.declared.tree.Document.{Document}
use Rattle.gql_nodes.specs.Nodes.{nodes}
use Rattle.gql_nodes.specs.Reached.{IsIn}
use Rattle.gql_nodes.specs.Rules.{Holds, StandsFirst}
use Rattle.gql_nodes.proofs.Closures.{in-cases}
use Rattle.gql_scopes.specs.declared.rule.ScopeRule.{ScopeRule}
use Rattle.gql_scopes.specs.Scopes.{Breaks, number, all_rules, HasValidScopes, FirstScopeFault}
use Rattle.gql_scopes.proofs.Found.{NumberedFrom, in_order, each_rule, earlier}

pub chain_end : (schema : SchemaParts) (document : Document) (rules : List ScopeRule) (i : ℕ) → rules ≡ all_rules → take i rules ≡ rules
    → ((which : ScopeRule) → IsIn (take i rules) which → Holds (Breaks schema document which) (nodes schema document)) → HasValidScopes schema document
chain_end schema document rules i all whole held = λ which. held which (subst (λ l. IsIn l which) (sym (whole ∙ all)) (each_rule which))

pub chain_goes_on : (schema : SchemaParts) (document : Document) (rules : List ScopeRule) (i : ℕ) (r : ScopeRule) → i < length rules → r ≡ get_or rules i r
    → ((which : ScopeRule) → IsIn (take i rules) which → Holds (Breaks schema document which) (nodes schema document))
    → Holds (Breaks schema document r) (nodes schema document)
    → (which : ScopeRule) → IsIn (take (i + 1) rules) which → Holds (Breaks schema document which) (nodes schema document)
chain_goes_on schema document rules i r lt is held here which at =
    elim (in-cases (take i rules) r which (subst (λ l. IsIn l which) (take_item rules i r lt is) at)) [
      | inl a ↦ held which a
      | inr e ↦ subst (λ w. Holds (Breaks schema document w) (nodes schema document)) e here
    ]

pub chain_stops : (schema : SchemaParts) (document : Document) (rules : List ScopeRule) (i : ℕ) (r : ScopeRule) (pos : Pos) → rules ≡ all_rules → i < length rules → r ≡ get_or rules i r
    → ((which : ScopeRule) → IsIn (take i rules) which → Holds (Breaks schema document which) (nodes schema document))
    → StandsFirst (Breaks schema document r) (nodes schema document) pos → FirstScopeFault schema document (record { rule = number r; pos = pos })
chain_stops schema document rules i r pos all lt is held first = record {
  rule = r;
  before = λ other less. held other (earlier 11 i rules r other (subst (λ l. NumberedFrom 11 l) (sym all) in_order) lt is (subst (λ l. IsIn l other) (sym all) (each_rule other)) less);
  pos = pos;
  first = first;
  made = refl;
}

-- an item within a list doesn't depend on what stands for those past its end
pub any_default : {A : Type 0} (xs : List A) (i : ℕ) (a b : A) → i < length xs → get_or xs i a ≡ get_or xs i b
any_default [] i a b lt = absurd (omega arith)
any_default (x ∷ xs) zero a b lt = refl
any_default (x ∷ xs) (suc i) a b lt = any_default xs i a b (omega arith)
