-- Rules over the nodes of a document, and the first fault. The rules are any type with a number for each. Which nodes
-- break a rule is a relation of a place in the list of nodes and the node that stands there.
use Rattle.std.specs.Prelude.{◌≡◌, ◌<◌, ℕ, List, Option, Some, None, slice_get}
use Rattle.pg_base.specs.declared.pos.Pos.{Pos}
use Rattle.gql_nodes.specs.Nodes.{At, pos_of}
use Rattle.gql_nodes.specs.declared.fault.RuleFault.{RuleFault}

-- no node before the place breaks the rule
abbrev pub HoldsBefore : ℕ → (ℕ → At → Type 0) → List At → Type 0
HoldsBefore place Breaks nodes = (i : ℕ) (x : At) → i < place → slice_get nodes i ≡ Some x → Breaks i x → ⊥

-- no node breaks the rule
abbrev pub Holds : (ℕ → At → Type 0) → List At → Type 0
Holds Breaks nodes = (i : ℕ) (x : At) → slice_get nodes i ≡ Some x → Breaks i x → ⊥

-- the first node that breaks the rule stands there
pub record IsFirst (Breaks : ℕ → At → Type 0) (nodes : List At) (place : ℕ) (x : At) : Type 0 where
  pub stands : slice_get nodes place ≡ Some x
  pub before : HoldsBefore place Breaks nodes
  pub broken : Breaks place x

-- where the first node stands that breaks the rule, if one does
pub record StandsFirst (Breaks : ℕ → At → Type 0) (nodes : List At) (pos : Pos) : Type 0 where
  pub place : ℕ
  pub node : At
  pub first : IsFirst Breaks nodes place node
  pub stands : pos ≡ pos_of node.node

abbrev pub IsFound : (ℕ → At → Type 0) → List At → Option Pos → Type 0
IsFound Breaks nodes None = Holds Breaks nodes
IsFound Breaks nodes (Some pos) = StandsFirst Breaks nodes pos

-- the least rule that is broken, at its first node
pub record IsLeastFault {R : Type 0} (number : R → ℕ) (Breaks : R → ℕ → At → Type 0) (nodes : List At)
    (fault : RuleFault) : Type 0 where
  pub rule : R
  pub before : (other : R) → number other < number rule → Holds (Breaks other) nodes
  pub pos : Pos
  pub first : StandsFirst (Breaks rule) nodes pos
  pub made : fault ≡ record { rule = number rule; pos = pos }

-- no rule is broken
abbrev pub AllHold : {R : Type 0} → (R → ℕ → At → Type 0) → List At → Type 0
AllHold {R} Breaks nodes = (rule : R) → Holds (Breaks rule) nodes
